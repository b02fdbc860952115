-- The definitions that one line makes fit their rows.
use Rattle.std.proofs.Common.{◌≡◌, ℕ, ◌≤◌, inl, inr, List, [], ◌∷◌, ◌++◌, Bool, true, false, cond, codes, Option, Some, None, length, map, slice_get, refl, subst, sym, arith, ◌∙◌}
use Rattle.std.specs.List.{AllByRecursion}
use Rattle.std.specs.Str.{bytes_eq}
use Rattle.std.proofs.lemmas.List.{length-map}
use Rattle.parm_forms.specs.Rows.{forms_of, row_number, rows_of, words_of}
use Rattle.parm_forms.specs.declared.form.Form.{Form}
use Rattle.parm_forms.specs.declared.form.Form.TheVariants.{Count, Number}
use Rattle.parm_forms.specs.declared.rows.Kind.{Kind}
use Rattle.parm_forms.specs.declared.rows.Kind.TheVariants.{Fsd, Fwd, General, Hd, Rd, Sd, Wd}
use Rattle.parm_forms.specs.declared.value.Value.{Value}
use Rattle.parm_forms.specs.declared.value.Value.TheVariants.{Numbers, Texts}
use Rattle.parm_defs.specs.declared.given.Given.{Given}
use Rattle.parm_defs.specs.Made.{changed_at, changed_in, filled, made, no_numbers, numbered, or_number, or_text, reads_of, value_at, with_number}
use Rattle.parm_defs.proofs.Loose.{AreLoose, IsLoose, loose_changed}
use Rattle.parm_defs.proofs.Steps.{none_no_some, some_same}

-- the form of a count
pub count_form : (kind : Kind) (row : ℕ) → row_number kind (codes "count") ≡ Some row → slice_get (forms_of kind) row ≡ Some Count
unfolding rows_of words_of
count_form General row h = absurd (none_no_some h)
count_form Hd row h = absurd (none_no_some h)
count_form Sd row h = let same : 0 ≡ row = some_same h in subst (λ r. slice_get (forms_of Sd) r ≡ Some Count) same refl
count_form Wd row h = absurd (none_no_some h)
count_form Rd row h = absurd (none_no_some h)
count_form Fsd row h = let same : 1 ≡ row = some_same h in subst (λ r. slice_get (forms_of Fsd) r ≡ Some Count) same refl
count_form Fwd row h = absurd (none_no_some h)

-- the form of a percentage of reads
reads_form : (kind : Kind) (row : ℕ) → row_number kind (codes "rdpct") ≡ Some row → slice_get (forms_of kind) row ≡ Some (Number 0 100)
unfolding rows_of words_of
reads_form General row h = absurd (none_no_some h)
reads_form Hd row h = absurd (none_no_some h)
reads_form Sd row h = absurd (none_no_some h)
reads_form Wd row h = let same : 1 ≡ row = some_same h in subst (λ r. slice_get (forms_of Wd) r ≡ Some (Number 0 100)) same refl
reads_form Rd row h = absurd (none_no_some h)
reads_form Fsd row h = absurd (none_no_some h)
reads_form Fwd row h = let same : 5 ≡ row = some_same h in subst (λ r. slice_get (forms_of Fwd) r ≡ Some (Number 0 100)) same refl

-- a change that keeps what the form of its row asks
abbrev Keeps : ℕ → Kind → List ℕ → (Value → Value) → Type 0
Keeps most kind word change = (row : ℕ) (form : Form) (value : Value) → row_number kind word ≡ Some row → slice_get (forms_of kind) row ≡ Some form → IsLoose most form value → IsLoose most form (change value)

changed_fits_in : (most : ℕ) (kind : Kind) (word : List ℕ) (change : Value → Value) (values : List Value) (row : Option ℕ) → row_number kind word ≡ row → Keeps most kind word change → AreLoose most (forms_of kind) values → AreLoose most (forms_of kind) (changed_in change values row)
changed_fits_in most kind word change values None is keeps fits = fits
changed_fits_in most kind word change values (Some row) is keeps fits = loose_changed most change (forms_of kind) values row (λ form value has loose. keeps row form value is has loose) fits

changed_fits : (most : ℕ) (kind : Kind) (word : List ℕ) (change : Value → Value) (values : List Value) → Keeps most kind word change → AreLoose most (forms_of kind) values → AreLoose most (forms_of kind) (changed_at kind word change values)
changed_fits most kind word change values keeps fits = changed_fits_in most kind word change values (row_number kind word) refl keeps fits

number_keeps : (most : ℕ) (number : List ℕ) (form : Form) (value : Value) → IsLoose most form value → IsLoose most form (with_number number value)
number_keeps most number form (Numbers numbers) h = h
number_keeps most number form (Texts texts) h = record { fits = tt; few = let same : length (map (λ text. text ++ number) texts) ≡ length texts = length-map texts (λ text. text ++ number) in omega (arith, same, h.few) }

text_keeps : (most : ℕ) (text : List ℕ) (form : Form) (value : Value) → 1 ≤ most → IsLoose most form value → IsLoose most form (or_text text value)
text_keeps most text form (Numbers numbers) one h = h
text_keeps most text form (Texts []) one h = record { fits = tt; few = one }
text_keeps most text form (Texts (first ∷ texts)) one h = h

no_count : (most : ℕ) (form : Form) (value : Value) → Some form ≡ Some Count → IsLoose most form value → IsLoose most form (no_numbers value)
no_count most form value is h = let same : form ≡ Count = some_same is in subst (λ f. IsLoose most f (Numbers [])) (sym same) (record { fits = inr refl; few = omega arith })

reads_keep : (most reads : ℕ) (form : Form) (value : Value) → 1 ≤ most → reads ≤ 100 → Some form ≡ Some (Number 0 100) → IsLoose most form value → IsLoose most form (or_number reads value)
reads_keep most reads form (Texts texts) one small is h = h
reads_keep most reads form (Numbers (first ∷ numbers)) one small is h = h
reads_keep most reads form (Numbers []) one small is h =
    let same : form ≡ Number 0 100 = some_same is in
    subst (λ f. IsLoose most f (Numbers (reads ∷ []))) (sym same) (record { fits = inl (record { at_least = omega arith; at_most = small }); few = one })

some_reads : (read : Bool) → cond read 100 0 ≤ 100
some_reads true = omega arith
some_reads false = omega arith

reads_are_few : (operation : Option Value) → reads_of operation ≤ 100
reads_are_few None = omega arith
reads_are_few (Some (Numbers numbers)) = omega arith
reads_are_few (Some (Texts [])) = omega arith
reads_are_few (Some (Texts (operation ∷ []))) = some_reads (bytes_eq operation (codes "read"))
reads_are_few (Some (Texts (operation ∷ more ∷ texts))) = omega arith

numbered_fits : (most : ℕ) (kind : Kind) (number : List ℕ) (values : List Value) → AreLoose most (forms_of kind) values → AreLoose most (forms_of kind) (numbered kind number values)
numbered_fits most kind number values fits =
    let lun = changed_fits most kind (codes "lun") (with_number number) values (λ row form value is has h. number_keeps most number form value h) fits in
    let anchor = changed_fits most kind (codes "anchor") (with_number number) _ (λ row form value is has h. number_keeps most number form value h) lun in
    let journal = changed_fits most kind (codes "journal") (with_number number) _ (λ row form value is has h. number_keeps most number form value h) anchor in
    changed_fits most kind (codes "count") no_numbers _ (λ row form value is has h. no_count most form value (sym has ∙ count_form kind row is) h) journal

filled_fits : (most : ℕ) (kind : Kind) (name : List ℕ) (values : List Value) → 1 ≤ most → AreLoose most (forms_of kind) values → AreLoose most (forms_of kind) (filled kind name values)
filled_fits most kind name values one fits =
    let reads = reads_of (value_at kind (codes "operation") values) in
    let system = changed_fits most kind (codes "system") (or_text name) values (λ row form value is has h. text_keeps most name form value one h) fits in
    let journal = changed_fits most kind (codes "journal") (or_text (name ++ codes ".jnl")) _ (λ row form value is has h. text_keeps most (name ++ codes ".jnl") form value one h) system in
    changed_fits most kind (codes "rdpct") (or_number reads) _ (λ row form value is has h. reads_keep most reads form value one (reads_are_few (value_at kind (codes "operation") values)) (sym has ∙ reads_form kind row is) h) journal

pub made_fits : (most : ℕ) (kind : Kind) (line : ℕ) (name : List ℕ) (given : Given) (number : List ℕ) → 1 ≤ most → AreLoose most (forms_of kind) given.values → AreLoose most (forms_of kind) (made kind line name given number).values
made_fits most kind line name given number one fits = filled_fits most kind (name ++ number) (numbered kind number given.values) one (numbered_fits most kind number given.values fits)

-- all that a function makes is so
pub all_made_so : {X Y : Type 0} (P : Y → Type 0) (f : X → Y) (xs : List X) → ((x : X) → P (f x)) → AllByRecursion P (map f xs)
all_made_so P f [] so = tt
all_made_so P f (x ∷ xs) so = (so x, all_made_so P f xs so)
