-- Keywords with their values, part by part up to the first fault.
use Rattle.std.specs.Prelude.{ℕ, List, [], ◌∷◌, ◌++◌, Bool, true, false, ◌&&◌, if◌then◌else◌, Option, Some, None, Result, Ok, Err, slice_get, slice_set}
use Rattle.std.specs.List.{list_any}
use Rattle.std.specs.Str.{bytes_eq}
use Rattle.parm_lex.specs.Spans.{bytes_of}
use Rattle.parm_lex.specs.declared.part.ParmPart.{ParmPart}
use Rattle.parm_forms.specs.Forms.{texts_at, value_of}
use Rattle.parm_forms.specs.Rows.{forms_of, row_number}
use Rattle.parm_forms.specs.declared.fault.ParmKind.{ParmKind}
use Rattle.parm_forms.specs.declared.fault.ParmKind.TheVariants.{BadChoice, RepeatedKeyword, UnknownKeyword}
use Rattle.parm_forms.specs.declared.form.Form.{Form}
use Rattle.parm_forms.specs.declared.form.Form.TheVariants as form
use Rattle.parm_forms.specs.declared.rows.Kind.{Kind}
use Rattle.parm_forms.specs.declared.value.Value.{Value}
use Rattle.parm_defs.specs.declared.fault.ParmFault.{ParmFault}
use Rattle.parm_defs.specs.declared.given.Given.{Given}
use Rattle.parm_defs.specs.Answers.{◌>>=◌, on_line}

-- a part: its line, its word and its items
pub record Part : Type 0 where
  pub line : ℕ
  pub word : List ℕ
  pub items : List (List ℕ)

-- the texts of a part of a file
abbrev pub part_of : List ℕ → ParmPart → Part
part_of bytes part = record { line = part.line; word = bytes_of bytes part.word; items = texts_at bytes part.items }

-- whether a word stands among others
abbrev pub is_among : List ℕ → List (List ℕ) → Bool
is_among word words = list_any (λ other. bytes_eq other word) words

-- only a count can't stand on a default
abbrev pub is_count : Form → Bool
is_count form.Count = true
is_count _ = false

abbrev pub with_value : ℕ → List ℕ → Given → Value → Given
with_value row word given value = record { values = slice_set given.values row value; words = given.words ++ word ∷ [] }

abbrev pub put_value : Form → Bool → ℕ → List ℕ → Given → Value → Result Given ParmKind
put_value form is_default row word given value =
    if is_default && is_count form then Err BadChoice else Ok (with_value row word given value)

abbrev pub put_items : Bool → ℕ → Given → Part → Option Form → Result Given ParmKind
put_items is_default row given part None = Err UnknownKeyword
put_items is_default row given part (Some form) =
    value_of form part.items >>= λ value. put_value form is_default row part.word given value

-- a keyword that stood before; then what is wrong with its items; then a count on a default
abbrev pub put_row : Kind → Bool → Given → Part → Option ℕ → Result Given ParmKind
put_row kind is_default given part None = Err UnknownKeyword
put_row kind is_default given part (Some row) =
    if is_among part.word given.words then Err RepeatedKeyword
    else put_items is_default row given part (slice_get (forms_of kind) row)

-- one part more
abbrev pub after_part : Kind → Bool → Given → Part → Result Given ParmFault
after_part kind is_default given part = on_line part.line (put_row kind is_default given part (row_number kind part.word))

-- the parts from left to right, up to the first fault
abbrev pub after_parts : Kind → Bool → Given → List Part → Result Given ParmFault
after_parts kind is_default given [] = Ok given
after_parts kind is_default given (part ∷ parts) = after_part kind is_default given part >>= λ next. after_parts kind is_default next parts
