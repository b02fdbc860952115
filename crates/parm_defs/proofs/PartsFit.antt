-- The values so far fit, part by part.
use Rattle.std.proofs.Common.{◌≡◌, ℕ, ◌≤◌, List, [], ◌∷◌, Bool, ◌&&◌, Option, Some, None, Ok, length, slice_get, slice_set, refl, subst, arith}
use Rattle.std.specs.List.{AllByRecursion}
use Rattle.parm_forms.specs.Fits.{ValuesFit, ValuesHaveTheirItems, item_count}
use Rattle.parm_forms.specs.Forms.{value_of}
use Rattle.parm_forms.specs.Rows.{forms_of, row_number}
use Rattle.parm_forms.specs.declared.fault.ParmKind.TheVariants.{BadChoice, RepeatedKeyword}
use Rattle.parm_forms.specs.declared.form.Form.{Form}
use Rattle.parm_forms.specs.declared.rows.Kind.{Kind}
use Rattle.parm_forms.specs.declared.value.Value.{Value}
use Rattle.parm_defs.specs.declared.given.Given.{Given}
use Rattle.parm_defs.specs.Parts.{Part, after_part, after_parts, is_among, is_count, put_items, put_row, put_value, with_value}
use Rattle.parm_defs.proofs.Loose.{AreLoose, fitting_is_loose, loose_set}
use Rattle.parm_defs.proofs.Steps.{bound, err_no_ok, ok_same, placed, unless}

-- what forms promise
pub record FormLaws : Type 0 where
  pub fit : ValuesFit
  pub items : ValuesHaveTheirItems

put_value_fits : (most : ℕ) (forms : List Form) (form : Form) (is_default : Bool) (row : ℕ) (word : List ℕ) (given next : Given) (value : Value) → AreLoose most forms (slice_set given.values row value) → put_value form is_default row word given value ≡ Ok next → AreLoose most forms next.values
put_value_fits most forms form is_default row word given next value fits h =
    let kept = unless (is_default && is_count form) BadChoice (Ok (with_value row word given value)) next h in
    let same : with_value row word given value ≡ next = ok_same kept.1 in
    subst (λ g. AreLoose most forms g.values) same fits

put_items_fits : FormLaws → (most : ℕ) (forms : List Form) (is_default : Bool) (row : ℕ) (given next : Given) (part : Part) (form : Option Form) → length part.items ≤ most → AreLoose most forms given.values → slice_get forms row ≡ form → put_items is_default row given part form ≡ Ok next → AreLoose most forms next.values
put_items_fits laws most forms is_default row given next part None few fits is h = absurd (err_no_ok h)
put_items_fits laws most forms is_default row given next part (Some form) few fits is h =
    let read = bound (value_of form part.items) (put_value form is_default row part.word given) next h in
    let count : item_count read.0 ≡ length part.items = laws.items form part.items read.0 read.1 in
    let short : item_count read.0 ≤ most = omega (arith, count, few) in
    put_value_fits most forms form is_default row part.word given next read.0 (loose_set most forms given.values row form read.0 fits is (fitting_is_loose most form read.0 (laws.fit form part.items read.0 read.1) short)) read.2

put_row_fits : FormLaws → (most : ℕ) (kind : Kind) (is_default : Bool) (given next : Given) (part : Part) (row : Option ℕ) → length part.items ≤ most → AreLoose most (forms_of kind) given.values → put_row kind is_default given part row ≡ Ok next → AreLoose most (forms_of kind) next.values
put_row_fits laws most kind is_default given next part None few fits h = absurd (err_no_ok h)
put_row_fits laws most kind is_default given next part (Some row) few fits h =
    let kept = unless (is_among part.word given.words) RepeatedKeyword (put_items is_default row given part (slice_get (forms_of kind) row)) next h in
    put_items_fits laws most (forms_of kind) is_default row given next part (slice_get (forms_of kind) row) few fits refl kept.1

pub part_fits : FormLaws → (most : ℕ) (kind : Kind) (is_default : Bool) (given next : Given) (part : Part) → length part.items ≤ most → AreLoose most (forms_of kind) given.values → after_part kind is_default given part ≡ Ok next → AreLoose most (forms_of kind) next.values
part_fits laws most kind is_default given next part few fits h =
    put_row_fits laws most kind is_default given next part (row_number kind part.word) few fits (placed part.line (put_row kind is_default given part (row_number kind part.word)) next h)

-- a part has few items
abbrev pub IsFew : ℕ → Part → Type 0
IsFew most part = length part.items ≤ most

pub parts_fit : FormLaws → (most : ℕ) (kind : Kind) (is_default : Bool) (given next : Given) (parts : List Part) → AllByRecursion (IsFew most) parts → AreLoose most (forms_of kind) given.values → after_parts kind is_default given parts ≡ Ok next → AreLoose most (forms_of kind) next.values
parts_fit laws most kind is_default given next [] few fits h = let same : given ≡ next = ok_same h in subst (λ g. AreLoose most (forms_of kind) g.values) same fits
parts_fit laws most kind is_default given next (part ∷ parts) few fits h =
    let one = bound (after_part kind is_default given part) (λ g. after_parts kind is_default g parts) next h in
    parts_fit laws most kind is_default one.0 next parts few.1 (part_fits laws most kind is_default given one.0 part few.0 fits one.1) one.2
