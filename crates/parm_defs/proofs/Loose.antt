-- Values whose numbers fit the forms of their rows.
use Rattle.std.proofs.Common.{◌≡◌, ℕ, zero, suc, ◌≤◌, inl, List, [], ◌∷◌, Some, slice_get, slice_set, slice_index_or, refl, subst, sym}
use Rattle.parm_forms.specs.Fits.{AreValues, Fits, FitsOrNothing, item_count}
use Rattle.parm_forms.specs.declared.form.Form.{Form}
use Rattle.parm_forms.specs.declared.value.Value.{Value}
use Rattle.parm_forms.specs.declared.value.Value.TheVariants.{Numbers, Texts}
use Rattle.parm_defs.proofs.Steps.{none_no_some, some_same}

abbrev pub NumbersFit : Form → Value → Type 0
NumbersFit form (Numbers numbers) = FitsOrNothing form (Numbers numbers)
NumbersFit form (Texts texts) = Unit {0}

-- its numbers fit, and it has at most so many items
pub record IsLoose (most : ℕ) (form : Form) (value : Value) : Type 0 where
  pub fits : NumbersFit form value
  pub few : item_count value ≤ most

abbrev pub AreLoose : ℕ → List Form → List Value → Type 0
AreLoose most [] [] = Unit {0}
AreLoose most [] (value ∷ values) = ⊥
AreLoose most (form ∷ forms) [] = ⊥
AreLoose most (form ∷ forms) (value ∷ values) = IsLoose most form value × AreLoose most forms values

numbers_fit : (form : Form) (value : Value) → FitsOrNothing form value → NumbersFit form value
numbers_fit form (Numbers numbers) h = h
numbers_fit form (Texts texts) h = tt

pub fitting_is_loose : (most : ℕ) (form : Form) (value : Value) → Fits form value → item_count value ≤ most → IsLoose most form value
fitting_is_loose most form value h few = record { fits = numbers_fit form value (inl h); few = few }

pub values_are_loose : (most : ℕ) (forms : List Form) (values : List Value) → AreValues most forms values → AreLoose most forms values
values_are_loose most [] [] h = tt
values_are_loose most [] (value ∷ values) h = absurd h
values_are_loose most (form ∷ forms) [] h = absurd h
values_are_loose most (form ∷ forms) (value ∷ values) h = (record { fits = numbers_fit form value h.0.fits; few = h.0.few }, values_are_loose most forms values h.1)

-- a row is given another value
pub loose_set : (most : ℕ) (forms : List Form) (values : List Value) (row : ℕ) (form : Form) (value : Value) → AreLoose most forms values → slice_get forms row ≡ Some form → IsLoose most form value → AreLoose most forms (slice_set values row value)
loose_set most [] [] row form value are is fits = are
loose_set most [] (old ∷ values) row form value are is fits = absurd are
loose_set most (first ∷ forms) [] row form value are is fits = absurd are
loose_set most (first ∷ forms) (old ∷ values) zero form value are is fits = let same : first ≡ form = some_same is in (subst (λ f. IsLoose most f value) (sym same) fits, are.1)
loose_set most (first ∷ forms) (old ∷ values) (suc row) form value are is fits = (are.0, loose_set most forms values row form value are.1 is fits)

-- the value of a row
pub loose_at : (most : ℕ) (forms : List Form) (values : List Value) (row : ℕ) (form : Form) (value : Value) → AreLoose most forms values → slice_get forms row ≡ Some form → slice_get values row ≡ Some value → IsLoose most form value
loose_at most [] values row form value are is has = absurd (none_no_some is)
loose_at most (first ∷ forms) [] row form value are is has = absurd are
loose_at most (first ∷ forms) (old ∷ values) zero form value are is has =
    let same : first ≡ form = some_same is in
    let held : old ≡ value = some_same has in
    subst (λ f. IsLoose most f value) same (subst (λ v. IsLoose most first v) held are.0)
loose_at most (first ∷ forms) (old ∷ values) (suc row) form value are is has = loose_at most forms values row form value are.1 is has

-- a row is changed, where the change keeps what its form asks
pub loose_changed : (most : ℕ) (change : Value → Value) (forms : List Form) (values : List Value) (row : ℕ) → ((form : Form) (value : Value) → slice_get forms row ≡ Some form → IsLoose most form value → IsLoose most form (change value)) → AreLoose most forms values → AreLoose most forms (slice_set values row (change (slice_index_or values row (Numbers []))))
loose_changed most change [] [] row keeps are = are
loose_changed most change [] (old ∷ values) row keeps are = absurd are
loose_changed most change (first ∷ forms) [] row keeps are = absurd are
loose_changed most change (first ∷ forms) (old ∷ values) zero keeps are = (keeps first old refl are.0, are.1)
loose_changed most change (first ∷ forms) (old ∷ values) (suc row) keeps are = (are.0, loose_changed most change forms values row keeps are.1)
