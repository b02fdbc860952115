-- A keyword's value is that of the part that gives it, or stays.
use Rattle.std.proofs.Common.{◌≡◌, ◌⊎◌, ℕ, zero, suc, ◌<◌, inl, inr, List, [], ◌∷◌, Bool, true, false, ◌&&◌, Contains, Option, Some, None, Ok, get_or, length, map, slice_get, slice_set, refl, subst, sym, ◌∙◌, ap, arith}
use Rattle.std.specs.Str.{bytes_eq}
use Rattle.std.proofs.lemmas.Bool.{false≢true}
use Rattle.std.proofs.lemmas.List.{length-set}
use Rattle.std.proofs.lemmas.List.Elements.{Contains-append_left, Contains-append_right, Contains-push}
use Rattle.std.proofs.lemmas.List.Quantifiers.{position-Some}
use Rattle.std.proofs.lemmas.Option.{slice_get_within}
use Rattle.std.proofs.lemmas.Slice.Eq.{bytes_eq-Decides}
use Rattle.parm_forms.specs.Forms.{value_of}
use Rattle.parm_forms.specs.Rows.{forms_of, row_number, words_of}
use Rattle.parm_forms.specs.declared.fault.ParmKind.TheVariants.{BadChoice, RepeatedKeyword}
use Rattle.parm_forms.specs.declared.form.Form.{Form}
use Rattle.parm_forms.specs.declared.rows.Kind.{Kind}
use Rattle.parm_forms.specs.declared.value.Value.{Value}
use Rattle.parm_defs.specs.declared.given.Given.{Given}
use Rattle.parm_defs.specs.Laws.{GivesRow, OwnElseBegun}
use Rattle.parm_defs.specs.Parts.{Part, after_part, after_parts, is_among, is_count, put_items, put_row, put_value, with_value}
use Rattle.parm_defs.proofs.LoopsFit.{set_cases}
use Rattle.parm_defs.proofs.Steps.{bound, err_no_ok, ok_same, placed, some_same, unless}

set_within : (values : List Value) (row : ℕ) (value : Value) → row < length values → slice_get (slice_set values row value) row ≡ Some value
set_within [] row value h = absurd (omega (arith, h))
set_within (old ∷ values) zero value h = refl
set_within (old ∷ values) (suc row) value h = set_within values row value (omega (arith, h))

-- a row has one word
one_word : (kind : Kind) (row : ℕ) (a b : List ℕ) → row_number kind a ≡ Some row → row_number kind b ≡ Some row → a ≡ b
one_word kind row a b h k =
    let first = (position-Some (λ w. bytes_eq w a) (words_of kind) row [] h).1 in
    let second = (position-Some (λ w. bytes_eq w b) (words_of kind) row [] k).1 in
    sym ((bytes_eq-Decides (get_or (words_of kind) row []) a).0 first) ∙ (bytes_eq-Decides (get_or (words_of kind) row []) b).0 second

-- what one part does: it gives its row a value, and no other
record Put (kind : Kind) (before after : Given) (part : Part) : Type 0 where
  row : ℕ
  form : Form
  value : Value
  named : row_number kind part.word ≡ Some row
  has : slice_get (forms_of kind) row ≡ Some form
  spelled : value_of form part.items ≡ Ok value
  values : after.values ≡ slice_set before.values row value

put_some : (kind : Kind) (is_default : Bool) (row : ℕ) (before after : Given) (part : Part) (form : Option Form) → row_number kind part.word ≡ Some row → slice_get (forms_of kind) row ≡ form → put_items is_default row before part form ≡ Ok after → Put kind before after part
put_some kind is_default row before after part None named has h = absurd (err_no_ok h)
put_some kind is_default row before after part (Some form) named has h =
    let read = bound (value_of form part.items) (put_value form is_default row part.word before) after h in
    let kept = unless (is_default && is_count form) BadChoice (Ok (with_value row part.word before read.0)) after read.2 in
    let same : with_value row part.word before read.0 ≡ after = ok_same kept.1 in
    record { row = row; form = form; value = read.0; named = named; has = has; spelled = read.1; values = sym (ap (λ g. g.values) same) }

put_row_some : (kind : Kind) (is_default : Bool) (before after : Given) (part : Part) (row : Option ℕ) → row_number kind part.word ≡ row → put_row kind is_default before part row ≡ Ok after → Put kind before after part
put_row_some kind is_default before after part None named h = absurd (err_no_ok h)
put_row_some kind is_default before after part (Some row) named h =
    let kept = unless (is_among part.word before.words) RepeatedKeyword (put_items is_default row before part (slice_get (forms_of kind) row)) after h in
    put_some kind is_default row before after part (slice_get (forms_of kind) row) named refl kept.1

put : (kind : Kind) (is_default : Bool) (before after : Given) (part : Part) → after_part kind is_default before part ≡ Ok after → Put kind before after part
put kind is_default before after part h = put_row_some kind is_default before after part (row_number kind part.word) refl (placed part.line (put_row kind is_default before part (row_number kind part.word)) after h)

abbrev Result_of : Kind → Given → Given → List Part → List ℕ → ℕ → Type 0
Result_of kind before after parts word row =
    ((part : Part) × Contains parts part × (part.word ≡ word) × GivesRow kind row part after.values)
    ⊎ ((is_among word (map (λ part. part.word) parts) ≡ false) × (slice_get after.values row ≡ slice_get before.values row))

given_here : (kind : Kind) (before next after : Given) (part : Part) (parts : List Part) (word : List ℕ) (row : ℕ) (same : Bool) → bytes_eq part.word word ≡ same → length before.values ≡ length (forms_of kind) → row_number kind word ≡ Some row → Put kind before next part → (is_among word (map (λ p. p.word) parts) ≡ false) → slice_get after.values row ≡ slice_get next.values row → Result_of kind before after (part ∷ parts) word row
given_here kind before next after part parts word row true same long named one others stays =
    let equal : part.word ≡ word = (bytes_eq-Decides part.word word).0 same in
    let rows : one.row ≡ row = some_same (sym one.named ∙ ap (row_number kind) equal ∙ named) in
    let within : one.row < length (forms_of kind) = slice_get_within (forms_of kind) one.row one.form one.has in
    let stands : slice_get next.values one.row ≡ Some one.value = ap (λ values. slice_get values one.row) one.values ∙ set_within before.values one.row one.value (omega (arith, within, long)) in
    inl (
      part,
      Contains-append_left (part ∷ []) parts part (Contains-push [] part),
      equal,
      record {
        form = one.form;
        value = one.value;
        has = subst (λ r. slice_get (forms_of kind) r ≡ Some one.form) rows one.has;
        spelled = one.spelled;
        stands = stays ∙ subst (λ r. slice_get next.values r ≡ Some one.value) rows stands;
      },
    )
given_here kind before next after part parts word row false same long named one others stays =
    let kept : slice_get next.values row ≡ slice_get before.values row = ap (λ values. slice_get values row) one.values ∙
    elim (set_cases before.values one.row one.value row) [
      | inl h ↦ h
      | inr h ↦ absurd (false≢true (sym same ∙ (bytes_eq-Decides part.word word).1 (one_word kind row part.word word (subst (λ r. row_number kind part.word ≡ Some r) h.0 one.named) named)))
    ] in
    inr (rw same others, stays ∙ kept)

pub own_else_begun : OwnElseBegun
own_else_begun kind is_default before after [] word row long h named = inr (refl, ap (λ g. slice_get g.values row) (sym (ok_same h)))
own_else_begun kind is_default before after (part ∷ parts) word row long h named =
    let read = bound (after_part kind is_default before part) (λ g. after_parts kind is_default g parts) after h in
    let one = put kind is_default before read.0 part read.1 in
    let kept : length read.0.values ≡ length (forms_of kind) = ap length one.values ∙ length-set before.values one.row one.value ∙ long in
    elim (own_else_begun kind is_default read.0 after parts word row kept read.2 named) [
      | inl own ↦ inl (own.0, Contains-append_right (part ∷ []) parts own.0 own.1, own.2, own.3)
      | inr begun ↦ given_here kind before read.0 after part parts word row (bytes_eq part.word word) refl long named one begun.0 begun.1
    ]
