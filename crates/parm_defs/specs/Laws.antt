-- What holds of all definitions that are read.
use Rattle.std.specs.Prelude.{◌≡◌, ◌⊎◌, ◌≤◌, ℕ, Bool, false, Contains, List, Ok, Some, length, map, slice_get}
use Rattle.parm_lex.specs.Spans.{AreLinesOf}
use Rattle.parm_lex.specs.declared.line.ParmLine.{ParmLine}
use Rattle.parm_records.specs.Ranges.{AreDefs, Defs}
use Rattle.parm_forms.specs.Forms.{value_of}
use Rattle.parm_forms.specs.Rows.{forms_of, row_number}
use Rattle.parm_forms.specs.declared.form.Form.{Form}
use Rattle.parm_forms.specs.declared.rows.Kind.{Kind}
use Rattle.parm_forms.specs.declared.value.Value.{Value}
use Rattle.parm_defs.specs.declared.given.Given.{Given}
use Rattle.parm_defs.specs.File.{Read, read_of}
use Rattle.parm_defs.specs.Parts.{Part, after_parts, is_among}
use Rattle.parm_defs.specs.Records.{shown}

-- they are in their ranges, few, and differ in their names
abbrev pub DefinitionsFit : Type 0
DefinitionsFit =
    (bytes : List ℕ) (lines : List ParmLine) (d : Defs) →
    AreLinesOf bytes lines → length bytes ≤ 1048576 → read_of bytes lines ≡ Ok (shown d) → AreDefs d

-- what is read is what records show
abbrev pub RecordsShowAll : Type 0
RecordsShowAll = (bytes : List ℕ) (lines : List ParmLine) (read : Read) → read_of bytes lines ≡ Ok read → (d : Defs) × (read ≡ shown d)

-- what records show tells them
abbrev pub ShownTells : Type 0
ShownTells = (a b : Defs) → shown a ≡ shown b → a ≡ b

-- the value that a part gives a row of its kind
pub record GivesRow (kind : Kind) (row : ℕ) (part : Part) (values : List Value) : Type 0 where
  pub form : Form
  pub value : Value
  pub has : slice_get (forms_of kind) row ≡ Some form
  pub spelled : value_of form part.items ≡ Ok value
  pub stands : slice_get values row ≡ Some value

-- A definition's value of a keyword is its own, where one of its parts has the word; else it is the one that it begins with, which is
-- that of the last default of its kind, or the table's.
abbrev pub OwnElseBegun : Type 0
OwnElseBegun =
    (kind : Kind) (is_default : Bool) (before after : Given) (parts : List Part) (word : List ℕ) (row : ℕ) →
    length before.values ≡ length (forms_of kind) → after_parts kind is_default before parts ≡ Ok after → row_number kind word ≡ Some row →
    ((part : Part) × Contains parts part × (part.word ≡ word) × GivesRow kind row part after.values)
    ⊎ ((is_among word (map (λ part. part.word) parts) ≡ false) × (slice_get after.values row ≡ slice_get before.values row))
