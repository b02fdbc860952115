-- What contracts see of a table.
use Rattle.std.specs.Prelude.{ℕ, List}
use Rattle.parm_keys.specs.Words.{spelled}
use Rattle.parm_keys.specs.declared.table.KeyTable.{KeyTable}

-- the words of a table, row by row
abbrev pub words_of : {N : ℕ} → KeyTable N → List (List ℕ)
words_of table = spelled table.words.now
