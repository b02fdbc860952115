-- Lines of a command: the usage, a file that can't be opened or read, and a journal.
use Rattle.std.specs.Prelude.{ℕ, List, codes, decimal}
use Rattle.vd_base.specs.Name.{name_text}
use Rattle.vd_base.specs.declared.geometry.StoreId.{StoreId}
use Rattle.run_report.specs.Texts.{◌⧺◌}

abbrev pub usage_text : List ℕ
usage_text = codes "usage: vdbench -f file [-s or -v or -vr or -j or -jr or -jro] [-o dir], or vdbench -sim n\n"

abbrev pub cannot_open_text : List ℕ → List ℕ
cannot_open_text path = codes "cannot open " ⧺ path ⧺ codes "\n"

abbrev pub cannot_read_text : List ℕ → List ℕ
cannot_read_text path = codes "cannot read " ⧺ path ⧺ codes "\n"

-- a journal that was recovered
abbrev pub journal_text : List ℕ → ℕ → ℕ → List ℕ
journal_text name epoch records =
    codes "journal " ⧺ name_text name ⧺ codes " epoch " ⧺ decimal epoch ⧺ codes " records " ⧺ decimal records ⧺ codes "\n"

-- one that was created, or opened
abbrev pub opened_text : List ℕ → ℕ → List ℕ
opened_text name epoch = codes "opened " ⧺ name_text name ⧺ codes " epoch " ⧺ decimal epoch ⧺ codes "\n"

-- one in its last epoch, where a new one is needed
abbrev pub epoch_end_text : List ℕ → List ℕ
epoch_end_text name = codes "epoch end " ⧺ name_text name ⧺ codes "\n"

-- one without a valid gate
abbrev pub no_journal_text : List ℕ → List ℕ
no_journal_text name = codes "no journal " ⧺ name_text name ⧺ codes "\n"

-- a store's name and geometry
abbrev pub id_text : StoreId → List ℕ
id_text id = name_text id.name ⧺ codes " blocks " ⧺ decimal id.geometry.blocks ⧺ codes " of " ⧺ decimal id.geometry.block_size

-- another store's
abbrev pub mismatch_text : StoreId → StoreId → List ℕ
mismatch_text found wanted = codes "mismatch found " ⧺ id_text found ⧺ codes " wanted " ⧺ id_text wanted ⧺ codes "\n"

-- a damaged one: the sector, what is wrong there, and where in it
abbrev pub damaged_text : List ℕ → ℕ → List ℕ → ℕ → List ℕ
damaged_text name sector what at =
    codes "damaged " ⧺ name_text name ⧺ codes " sector " ⧺ decimal sector ⧺ codes " " ⧺ what ⧺ codes " " ⧺ decimal at ⧺ codes "\n"

-- one whose disk failed after so many records
abbrev pub journal_fault_text : List ℕ → ℕ → List ℕ
journal_fault_text name records = codes "journalfault " ⧺ name_text name ⧺ codes " record " ⧺ decimal records ⧺ codes "\n"
