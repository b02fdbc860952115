-- What is read are pieces of the file.
use Rattle.std.specs.Prelude.{ℕ, List, ◌+◌, ◌<◌, ◌≤◌, All, AllPairs, IsTrue, length, take, drop}
use Rattle.std.specs.List.{list_all}
use Rattle.parm_lex.specs.Bytes.{is_printable}
use Rattle.parm_lex.specs.declared.line.ParmLine.{ParmLine}
use Rattle.parm_lex.specs.declared.part.ParmPart.{ParmPart}
use Rattle.parm_lex.specs.declared.span.Span.{Span}

-- the bytes of a span
abbrev pub bytes_of : List ℕ → Span → List ℕ
bytes_of bytes span = take span.len (drop span.at bytes)

-- a span lies in the file, and its bytes are printable
pub record IsSpanOf (bytes : List ℕ) (span : Span) : Type 0 where
  pub within : span.at + span.len ≤ length bytes
  pub printable : IsTrue (list_all is_printable (bytes_of bytes span))

-- a part's word and items are spans of the file, and it has an item, and no more items than the file has bytes
pub record IsPartOf (bytes : List ℕ) (part : ParmPart) : Type 0 where
  pub word : IsSpanOf bytes part.word
  pub items : All (IsSpanOf bytes) part.items
  pub some : 0 < length part.items
  pub few : length part.items ≤ length bytes

-- a line has parts of the file, at least one
pub record IsLineOf (bytes : List ℕ) (line : ParmLine) : Type 0 where
  pub parts : All (IsPartOf bytes) line.parts
  pub some : 0 < length line.parts

-- the lines are pieces of the file, and of two the earlier one has the lower number
pub record AreLinesOf (bytes : List ℕ) (lines : List ParmLine) : Type 0 where
  pub pieces : All (IsLineOf bytes) lines
  pub rise : AllPairs (λ a b. a.line < b.line) lines
