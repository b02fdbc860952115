-- A value has a number or a text for each item.
use Rattle.std.proofs.Common.{◌≡◌, ℕ, suc, List, [], ◌∷◌, ◌%◌, Ok, Err, Result, length, nat_eq, refl, sym, ap, ◌∙◌}
use Rattle.vd_base.specs.Name.{is_store_name}
use Rattle.parm_forms.specs.Fits.{item_count}
use Rattle.parm_forms.specs.Forms.{◌>>=◌, block_size, chosen, count, each, is_other_name, mapped, number, one, path, pattern, rate, seconds, seek_percent, size, size_pairs, sizes, some, value_of, word}
use Rattle.parm_forms.specs.declared.fault.ParmKind.{ParmKind}
use Rattle.parm_forms.specs.declared.form.Form.{Form}
use Rattle.parm_forms.specs.declared.form.Form.TheVariants as form
use Rattle.parm_forms.specs.declared.value.Value.{Value}
use Rattle.parm_forms.specs.declared.value.Value.TheVariants.{Numbers, Texts}
use Rattle.parm_forms.proofs.Fitting.{either_count, mapped_so, ok_same}

one_longer : {A : Type 0} (r : Result A ParmKind) (rest : Result (List A) ParmKind) (xs : List A) (n : ℕ) → ((ys : List A) → rest ≡ Ok ys → length ys ≡ n) → (r >>= λ x. rest >>= λ ys. Ok (x ∷ ys)) ≡ Ok xs → length xs ≡ suc n
one_longer (Ok x) (Ok ys) xs n so e = ap length (sym (ok_same e)) ∙ ap suc (so ys refl)
one_longer (Ok x) (Err kind) xs n so e = absurd (cc)
one_longer (Err kind) rest xs n so e = absurd (cc)

two_longer : (r q : Result ℕ ParmKind) (rest : Result (List ℕ) ParmKind) (xs : List ℕ) (n : ℕ) → ((ys : List ℕ) → rest ≡ Ok ys → length ys ≡ n) → (r >>= λ x. q >>= λ y. rest >>= λ ys. Ok (x ∷ y ∷ ys)) ≡ Ok xs → length xs ≡ suc (suc n)
two_longer (Ok x) (Ok y) (Ok ys) xs n so e = ap length (sym (ok_same e)) ∙ ap (λ k. suc (suc k)) (so ys refl)
two_longer (Ok x) (Ok y) (Err kind) xs n so e = absurd (cc)
two_longer (Ok x) (Err kind) rest xs n so e = absurd (cc)
two_longer (Err kind) q rest xs n so e = absurd (cc)

no_longer : {A : Type 0} (ys : List A) → ◌≡◌ {A = Result (List A) ParmKind} (Ok []) (Ok ys) → length ys ≡ 0
no_longer ys e = ap length (sym (ok_same e))

each_long : {A : Type 0} (read : List ℕ → Result A ParmKind) (items : List (List ℕ)) (xs : List A) → each read items ≡ Ok xs → length xs ≡ length items
each_long read [] xs e = no_longer xs e
each_long read (item ∷ items) xs e = one_longer (read item) (each read items) xs (length items) (each_long read items) e

one_long : {A : Type 0} (read : List ℕ → Result A ParmKind) (items : List (List ℕ)) (xs : List A) → one read items ≡ Ok xs → length xs ≡ length items
one_long read [] xs e = absurd (cc)
one_long read (item ∷ []) xs e = each_long read (item ∷ []) xs e
one_long read (item ∷ more ∷ items) xs e = absurd (cc)

some_long : {A : Type 0} (read : List ℕ → Result A ParmKind) (items : List (List ℕ)) (xs : List A) → some read items ≡ Ok xs → length xs ≡ length items
some_long read [] xs e = absurd (cc)
some_long read (item ∷ items) xs e = each_long read (item ∷ items) xs e

pairs_long : (items : List (List ℕ)) (xs : List ℕ) → size_pairs items ≡ Ok xs → length xs ≡ length items
pairs_long [] xs e = no_longer xs e
pairs_long (item ∷ []) xs e = absurd (cc)
pairs_long (item ∷ percent ∷ items) xs e =
    two_longer (size item) (number 0 100 percent) (size_pairs items) xs (length items) (pairs_long items) e

sizes_long : (items : List (List ℕ)) (xs : List ℕ) → sizes items ≡ Ok xs → length xs ≡ length items
sizes_long [] xs e = absurd (cc)
sizes_long (item ∷ []) xs e = each_long size (item ∷ []) xs e
sizes_long (item ∷ percent ∷ items) xs e =
    pairs_long (item ∷ percent ∷ items) xs (either_count (nat_eq (length items % 2) 0) _ _ xs e)

count_long : (items : List (List ℕ)) (xs : List ℕ) → count items ≡ Ok xs → length xs ≡ length items
count_long [] xs e = absurd (cc)
count_long (first ∷ []) xs e = absurd (cc)
count_long (first ∷ many ∷ []) xs e = two_longer (number 0 100000 first) (number 1 64 many) (Ok []) xs 0 no_longer e
count_long (first ∷ many ∷ more ∷ items) xs e = absurd (cc)

abbrev HasItems : List (List ℕ) → Value → Type 0
HasItems items value = item_count value ≡ length items

one_number : (read : List ℕ → Result ℕ ParmKind) (items : List (List ℕ)) (value : Value) → mapped Numbers (one read items) ≡ Ok value → HasItems items value
one_number read items value e = mapped_so Numbers (HasItems items) (one read items) value (one_long read items) e

some_numbers : (read : List ℕ → Result ℕ ParmKind) (items : List (List ℕ)) (value : Value) → mapped Numbers (some read items) ≡ Ok value → HasItems items value
some_numbers read items value e = mapped_so Numbers (HasItems items) (some read items) value (some_long read items) e

one_text : (read : List ℕ → Result (List ℕ) ParmKind) (items : List (List ℕ)) (value : Value) → mapped Texts (one read items) ≡ Ok value → HasItems items value
one_text read items value e = mapped_so Texts (HasItems items) (one read items) value (one_long read items) e

some_texts : (read : List ℕ → Result (List ℕ) ParmKind) (items : List (List ℕ)) (value : Value) → mapped Texts (some read items) ≡ Ok value → HasItems items value
some_texts read items value e = mapped_so Texts (HasItems items) (some read items) value (some_long read items) e

pub values_have_their_items : (form : Form) (items : List (List ℕ)) (value : Value) → value_of form items ≡ Ok value → item_count value ≡ length items
unfolding value_of
values_have_their_items (form.Number least greatest) items value e = one_number (number least greatest) items value e
values_have_their_items (form.Numbers least greatest) items value e = some_numbers (number least greatest) items value e
values_have_their_items form.Size items value e = one_number size items value e
values_have_their_items form.Sizes items value e = mapped_so Numbers (HasItems items) (sizes items) value (sizes_long items) e
values_have_their_items form.BlockSize items value e = one_number block_size items value e
values_have_their_items form.BlockSizes items value e = some_numbers block_size items value e
values_have_their_items form.Seconds items value e = one_number seconds items value e
values_have_their_items form.Rate items value e = one_number rate items value e
values_have_their_items form.SeekPercent items value e = one_number seek_percent items value e
values_have_their_items form.Path items value e = one_text path items value e
values_have_their_items form.Word items value e = one_text word items value e
values_have_their_items form.Words items value e = some_texts word items value e
values_have_their_items (form.Choice choice) items value e = one_text (chosen choice) items value e
values_have_their_items (form.Choices choice) items value e = some_texts (chosen choice) items value e
values_have_their_items form.StorePatterns items value e = some_texts (pattern is_store_name) items value e
values_have_their_items form.Patterns items value e = some_texts (pattern is_other_name) items value e
values_have_their_items form.Count items value e = mapped_so Numbers (HasItems items) (count items) value (count_long items) e
