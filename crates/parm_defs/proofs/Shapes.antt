-- The shapes of a definition's values: numbers or texts, and how many.
use Rattle.std.proofs.Common.{◌≡◌, ℕ, zero, suc, List, [], ◌∷◌, ◌++◌, codes, Option, Some, None, map, slice_get, slice_set, slice_index_or, refl, subst, sym, ap}
use Rattle.std.specs.Option.{option_to_list}
use Rattle.std.specs.Prelude.{IsTrue}
use Rattle.vd_base.specs.Name.{is_store_name}
use Rattle.parm_forms.specs.Fits.{AreSizes, Fits, IsBlockSize, IsCount, IsFrom, IsOneOf, OneNumber, OneText, SomeNumbers, SomeTexts}
use Rattle.parm_forms.specs.Forms.{is_other_name, is_pattern, words_of as words_of_choice}
use Rattle.parm_forms.specs.Rows.{defaults_of, forms_of, row_number, rows_of, words_of}
use Rattle.parm_forms.specs.declared.choice.Choice.TheVariants as choice
use Rattle.parm_forms.specs.declared.form.Form.{Form}
use Rattle.parm_forms.specs.declared.form.Form.TheVariants as form
use Rattle.parm_forms.specs.declared.rows.Kind.{Kind}
use Rattle.parm_forms.specs.declared.rows.Kind.TheVariants.{Fsd, Fwd, General, Hd, Rd, Sd, Wd}
use Rattle.parm_forms.specs.declared.value.Value.{Value}
use Rattle.parm_forms.specs.declared.value.Value.TheVariants.{Numbers, Texts}
use Rattle.parm_defs.specs.Made.{changed_at, changed_in, filled, no_numbers, numbered, or_number, or_text, reads_of, value_at, with_number}
use Rattle.parm_defs.proofs.Steps.{none_no_some, some_same}

pub data Shape : Type 0 where
  one_number : Shape
  maybe_number : Shape
  some_numbers : Shape
  one_text : Shape
  maybe_text : Shape
  some_texts : Shape

-- what a value of a shape holds
abbrev pub Content : Shape → Type 0
Content one_number = ℕ
Content maybe_number = Option ℕ
Content some_numbers = List ℕ
Content one_text = List ℕ
Content maybe_text = Option (List ℕ)
Content some_texts = List (List ℕ)

abbrev pub held : (shape : Shape) → Content shape → Value
held one_number n = Numbers (n ∷ [])
held maybe_number n = Numbers (option_to_list n)
held some_numbers ns = Numbers ns
held one_text t = Texts (t ∷ [])
held maybe_text t = Texts (option_to_list t)
held some_texts ts = Texts ts

abbrev pub IsShaped : Shape → Value → Type 0
IsShaped shape value = (x : Content shape) × (value ≡ held shape x)

abbrev pub AreShaped : List Shape → List Value → Type 0
AreShaped [] [] = Unit {0}
AreShaped [] (value ∷ values) = ⊥
AreShaped (shape ∷ shapes) [] = ⊥
AreShaped (shape ∷ shapes) (value ∷ values) = IsShaped shape value × AreShaped shapes values

abbrev pub Contents : List Shape → Type 0
Contents [] = Unit {0}
Contents (shape ∷ shapes) = Content shape × Contents shapes

abbrev pub all_held : (shapes : List Shape) → Contents shapes → List Value
all_held [] xs = []
all_held (shape ∷ shapes) xs = held shape xs.0 ∷ all_held shapes xs.1

abbrev cons : Value → List Value → List Value
cons value values = value ∷ values

pub contents : (shapes : List Shape) (values : List Value) → AreShaped shapes values → (xs : Contents shapes) × (values ≡ all_held shapes xs)
contents [] [] h = (tt, refl)
contents [] (value ∷ values) h = absurd h
contents (shape ∷ shapes) [] h = absurd h
contents (shape ∷ shapes) (value ∷ values) h =
    let rest = contents shapes values h.1 in
    let first = h.0 in
    ((first.0, rest.0), subst (λ v. value ∷ values ≡ cons v (all_held shapes rest.0)) first.1 (ap (cons value) rest.1))

-- the shape of what items spell in a form
abbrev pub full_shape : Form → Shape
full_shape (form.Number least greatest) = one_number
full_shape (form.Numbers least greatest) = some_numbers
full_shape form.Size = one_number
full_shape form.Sizes = some_numbers
full_shape form.BlockSize = one_number
full_shape form.BlockSizes = some_numbers
full_shape form.Seconds = one_number
full_shape form.Rate = one_number
full_shape form.SeekPercent = one_number
full_shape form.Path = one_text
full_shape form.Word = one_text
full_shape form.Words = some_texts
full_shape (form.Choice choice) = one_text
full_shape (form.Choices choice) = some_texts
full_shape form.StorePatterns = some_texts
full_shape form.Patterns = some_texts
full_shape form.Count = some_numbers

one_number_is : (P : ℕ → Type 0) (value : Value) → OneNumber P value → IsShaped one_number value
one_number_is P (Numbers []) h = absurd h
one_number_is P (Numbers (n ∷ [])) h = (n, refl)
one_number_is P (Numbers (n ∷ m ∷ ns)) h = absurd h
one_number_is P (Texts texts) h = absurd h

one_text_is : (P : List ℕ → Type 0) (value : Value) → OneText P value → IsShaped one_text value
one_text_is P (Texts []) h = absurd h
one_text_is P (Texts (t ∷ [])) h = (t, refl)
one_text_is P (Texts (t ∷ u ∷ ts)) h = absurd h
one_text_is P (Numbers ns) h = absurd h

some_numbers_are : (P : ℕ → Type 0) (value : Value) → SomeNumbers P value → IsShaped some_numbers value
some_numbers_are P (Numbers ns) h = (ns, refl)
some_numbers_are P (Texts ts) h = absurd h

some_texts_are : (P : List ℕ → Type 0) (value : Value) → SomeTexts P value → IsShaped some_texts value
some_texts_are P (Texts ts) h = (ts, refl)
some_texts_are P (Numbers ns) h = absurd h

sizes_are : (value : Value) → AreSizes value → IsShaped some_numbers value
sizes_are (Numbers ns) h = (ns, refl)
sizes_are (Texts ts) h = absurd h

count_is : (value : Value) → IsCount value → IsShaped some_numbers value
count_is (Numbers ns) h = (ns, refl)
count_is (Texts ts) h = absurd h

spelled : (f : Form) (value : Value) → Fits f value → IsShaped (full_shape f) value
spelled (form.Number least greatest) value h = one_number_is _ value h
spelled (form.Numbers least greatest) value h = some_numbers_are (IsFrom least greatest) value h
spelled form.Size value h = one_number_is _ value h
spelled form.Sizes value h = sizes_are value h
spelled form.BlockSize value h = one_number_is _ value h
spelled form.BlockSizes value h = some_numbers_are IsBlockSize value h
spelled form.Seconds value h = one_number_is _ value h
spelled form.Rate value h = one_number_is _ value h
spelled form.SeekPercent value h = one_number_is _ value h
spelled form.Path value h = one_text_is _ value h
spelled form.Word value h = one_text_is _ value h
spelled form.Words value h = some_texts_are (λ text. Unit {0}) value h
spelled (form.Choice choice) value h = one_text_is _ value h
spelled (form.Choices choice) value h = some_texts_are (IsOneOf (words_of_choice choice)) value h
spelled form.StorePatterns value h = some_texts_are (λ text. IsTrue (is_pattern is_store_name text)) value h
spelled form.Patterns value h = some_texts_are (λ text. IsTrue (is_pattern is_other_name text)) value h
spelled form.Count value h = count_is value h

maybe_of_number : (value : Value) → IsShaped one_number value → IsShaped maybe_number value
maybe_of_number value h = (Some h.0, h.1)

maybe_of_text : (value : Value) → IsShaped one_text value → IsShaped maybe_text value
maybe_of_text value h = (Some h.0, h.1)

-- the shapes of what is given for a kind, and of what a definition has, where what isn't given is filled in
abbrev pub given_shapes : Kind → List Shape
given_shapes General = one_text ∷ one_number ∷ one_number ∷ one_text ∷ some_texts ∷ []
given_shapes Hd = one_number ∷ one_text ∷ maybe_text ∷ one_text ∷ one_text ∷ []
given_shapes Sd = some_numbers ∷ some_texts ∷ maybe_text ∷ maybe_number ∷ maybe_text ∷ some_texts ∷ maybe_number ∷ one_number ∷ []
given_shapes Wd = some_texts ∷ one_number ∷ some_texts ∷ one_number ∷ maybe_number ∷ one_number ∷ []
given_shapes Rd =
    one_number ∷ one_text ∷ some_numbers ∷ some_numbers ∷ some_numbers ∷ some_texts ∷ one_number ∷ one_number ∷ one_number ∷ some_texts ∷ one_number ∷ some_texts ∷ []
given_shapes Fsd =
    maybe_text ∷ some_numbers ∷ maybe_number ∷ one_text ∷ maybe_number ∷ maybe_text ∷ maybe_number ∷ some_texts ∷ one_text ∷ some_numbers ∷ maybe_number ∷ []
given_shapes Fwd = one_text ∷ one_text ∷ some_texts ∷ some_texts ∷ one_text ∷ maybe_number ∷ maybe_number ∷ one_number ∷ one_number ∷ []

abbrev pub made_shapes : Kind → List Shape
made_shapes General = given_shapes General
made_shapes Hd = slice_set (given_shapes Hd) 2 one_text
made_shapes Sd = slice_set (given_shapes Sd) 2 one_text
made_shapes Wd = given_shapes Wd
made_shapes Rd = given_shapes Rd
made_shapes Fsd = slice_set (given_shapes Fsd) 5 one_text
made_shapes Fwd = slice_set (given_shapes Fwd) 5 one_number

-- what fits a row's form has the row's shape
abbrev pub Suit : List Form → List Shape → Type 0
Suit [] [] = Unit {0}
Suit [] (shape ∷ shapes) = ⊥
Suit (f ∷ forms) [] = ⊥
Suit (f ∷ forms) (shape ∷ shapes) = ((value : Value) → Fits f value → IsShaped shape value) × Suit forms shapes

abbrev number_row : (least greatest : ℕ) (value : Value) → Fits (form.Number least greatest) value → IsShaped maybe_number value
number_row least greatest value h = maybe_of_number value (spelled (form.Number least greatest) value h)

abbrev size_row : (value : Value) → Fits form.BlockSize value → IsShaped maybe_number value
size_row value h = maybe_of_number value (spelled form.BlockSize value h)

abbrev path_row : (value : Value) → Fits form.Path value → IsShaped maybe_text value
path_row value h = maybe_of_text value (spelled form.Path value h)

pub suit : (kind : Kind) → Suit (forms_of kind) (given_shapes kind)
unfolding rows_of
suit General = (spelled (form.Choice choice.YesNo), (spelled (form.Number 1 10000), (spelled (form.Number 1 65536), (spelled (form.Choice choice.YesNo), (spelled (form.Choices choice.Validate), tt)))))
suit Hd = (spelled (form.Number 1 16), (spelled form.Path, ((λ value h. maybe_of_text value (spelled form.Word value h)), (spelled form.Path, (spelled form.Path, tt)))))
suit Sd =
    (spelled form.Count, (spelled form.Patterns, (path_row, (size_row, (path_row, (spelled form.Words, ((λ value h. maybe_of_number value (spelled form.Size value h)), (spelled (form.Number 1 256), tt))))))))
suit Wd =
    (spelled form.Patterns, (spelled (form.Number 0 100), (spelled form.StorePatterns, (spelled form.SeekPercent, (number_row 1 100, (spelled form.BlockSize, tt))))))
suit Rd = (
  spelled form.Seconds,
  (
    spelled (form.Choice choice.Format),
    (
      spelled (form.Numbers 0 100),
      (
        spelled (form.Numbers 1 256),
        (
          spelled form.BlockSizes,
          (
            spelled form.Patterns,
            (
              spelled form.Rate,
              (
                spelled form.Seconds,
                (spelled form.Rate, (spelled form.Words, (spelled (form.Number 1 4294967295), (spelled form.Patterns, tt)))),
              ),
            ),
          ),
        ),
      ),
    ),
  ),
)
suit Fsd = (
  path_row,
  (
    spelled form.Count,
    (
      number_row 1 1048576,
      (
        spelled (form.Choice choice.Distribution),
        (
          number_row 1 1048576,
          (
            path_row,
            (
              size_row,
              (
                spelled form.Words,
                (
                  spelled (form.Choice choice.No),
                  (
                    spelled form.Sizes,
                    (number_row 1 1048576, tt),
                  ),
                ),
              ),
            ),
          ),
        ),
      ),
    ),
  ),
)
suit Fwd = (
  spelled (form.Choice choice.Access),
  (
    spelled (form.Choice choice.Access),
    (
      spelled form.StorePatterns,
      (
        spelled form.Patterns,
        (
          spelled (form.Choice choice.Operation),
          (
            number_row 0 100,
            (
              number_row 1 100,
              (spelled (form.Number 1 256), (spelled form.BlockSize, tt)),
            ),
          ),
        ),
      ),
    ),
  ),
)

pub defaults_shaped : (kind : Kind) → AreShaped (given_shapes kind) (defaults_of kind)
unfolding rows_of
defaults_shaped General = ((codes "no", refl), ((50, refl), ((4096, refl), ((codes "no", refl), ((codes "yes" ∷ [], refl), tt)))))
defaults_shaped Hd = ((1, refl), (([], refl), ((None, refl), (([], refl), (([], refl), tt)))))
defaults_shaped Sd = (([], refl), ((codes "*" ∷ [], refl), ((None, refl), ((None, refl), ((None, refl), (([], refl), ((None, refl), ((8, refl), tt))))))))
defaults_shaped Wd = ((codes "*" ∷ [], refl), ((100, refl), (([], refl), ((100, refl), ((None, refl), ((4096, refl), tt))))))
defaults_shaped Rd =
    ((30, refl), ((codes "no", refl), (([], refl), (([], refl), (([], refl), (([], refl), ((0, refl), ((1, refl), ((0, refl), (([], refl), ((4294967295, refl), (([], refl), tt))))))))))))
defaults_shaped Fsd =
    ((None, refl), (([], refl), ((None, refl), ((codes "bottom", refl), ((None, refl), ((None, refl), ((None, refl), (([], refl), ((codes "no", refl), (([], refl), ((None, refl), tt)))))))))))
defaults_shaped Fwd =
    ((codes "sequential", refl), ((codes "sequential", refl), (([], refl), ((codes "*" ∷ [], refl), ((codes "read", refl), ((None, refl), ((None, refl), ((1, refl), ((4096, refl), tt)))))))))

-- a row is given what fits its form
pub shaped_set : (forms : List Form) (shapes : List Shape) (values : List Value) (row : ℕ) (f : Form) (value : Value) → Suit forms shapes → AreShaped shapes values → slice_get forms row ≡ Some f → Fits f value → AreShaped shapes (slice_set values row value)
shaped_set [] shapes values row f value suits are is fits = absurd (none_no_some is)
shaped_set (first ∷ forms) [] values row f value suits are is fits = absurd suits
shaped_set (first ∷ forms) (shape ∷ shapes) [] row f value suits are is fits = absurd are
shaped_set (first ∷ forms) (shape ∷ shapes) (old ∷ values) zero f value suits are is fits =
    let same : first ≡ f = some_same is in (suits.0 value (subst (λ g. Fits g value) (sym same) fits), are.1)
shaped_set (first ∷ forms) (shape ∷ shapes) (old ∷ values) (suc row) f value suits are is fits = (are.0, shaped_set forms shapes values row f value suits.1 are.1 is fits)

-- a row is changed, where the change keeps its shape
abbrev Keeps : List Shape → ℕ → (Value → Value) → Type 0
Keeps shapes row change = (shape : Shape) (value : Value) → slice_get shapes row ≡ Some shape → IsShaped shape value → IsShaped shape (change value)

shaped_changed : (change : Value → Value) (shapes : List Shape) (values : List Value) (row : ℕ) → Keeps shapes row change → AreShaped shapes values → AreShaped shapes (slice_set values row (change (slice_index_or values row (Numbers []))))
shaped_changed change [] [] row keeps are = are
shaped_changed change [] (old ∷ values) row keeps are = absurd are
shaped_changed change (first ∷ shapes) [] row keeps are = absurd are
shaped_changed change (first ∷ shapes) (old ∷ values) zero keeps are = (keeps first old refl are.0, are.1)
shaped_changed change (first ∷ shapes) (old ∷ values) (suc row) keeps are = (are.0, shaped_changed change shapes values row keeps are.1)

changed_shaped_in : (kind : Kind) (shapes : List Shape) (word : List ℕ) (change : Value → Value) (values : List Value) (row : Option ℕ) → row_number kind word ≡ row → ((at : ℕ) → row_number kind word ≡ Some at → Keeps shapes at change) → AreShaped shapes values → AreShaped shapes (changed_in change values row)
changed_shaped_in kind shapes word change values None is keeps are = are
changed_shaped_in kind shapes word change values (Some row) is keeps are = shaped_changed change shapes values row (keeps row is) are

changed_shaped : (kind : Kind) (shapes : List Shape) (word : List ℕ) (change : Value → Value) (values : List Value) → ((at : ℕ) → row_number kind word ≡ Some at → Keeps shapes at change) → AreShaped shapes values → AreShaped shapes (changed_at kind word change values)
changed_shaped kind shapes word change values keeps are = changed_shaped_in kind shapes word change values (row_number kind word) refl keeps are

maybe_text_numbered : (number : List ℕ) (value : Value) (t : Option (List ℕ)) → value ≡ Texts (option_to_list t) → IsShaped maybe_text (with_number number value)
maybe_text_numbered number value None e = (None, ap (with_number number) e)
maybe_text_numbered number value (Some t) e = (Some (t ++ number), ap (with_number number) e)

number_keeps : (number : List ℕ) (shape : Shape) (value : Value) → IsShaped shape value → IsShaped shape (with_number number value)
number_keeps number one_number value h = (h.0, ap (with_number number) h.1)
number_keeps number maybe_number value h = (h.0, ap (with_number number) h.1)
number_keeps number some_numbers value h = (h.0, ap (with_number number) h.1)
number_keeps number one_text value h = (h.0 ++ number, ap (with_number number) h.1)
number_keeps number maybe_text value h = maybe_text_numbered number value h.0 h.1
number_keeps number some_texts value h = (map (λ t. t ++ number) h.0, ap (with_number number) h.1)

-- a text where there was maybe one
text_there : (t : List ℕ) (value : Value) (o : Option (List ℕ)) → value ≡ Texts (option_to_list o) → IsShaped one_text (or_text t value)
text_there t value None e = (t, ap (or_text t) e)
text_there t value (Some u) e = (u, ap (or_text t) e)

texts_or : (t : List ℕ) (value : Value) (ts : List (List ℕ)) → value ≡ Texts ts → IsShaped some_texts (or_text t value)
texts_or t value [] e = (t ∷ [], ap (or_text t) e)
texts_or t value (u ∷ us) e = (u ∷ us, ap (or_text t) e)

text_keeps : (t : List ℕ) (shape : Shape) (value : Value) → IsShaped shape value → IsShaped shape (or_text t value)
text_keeps t one_number value h = (h.0, ap (or_text t) h.1)
text_keeps t maybe_number value h = (h.0, ap (or_text t) h.1)
text_keeps t some_numbers value h = (h.0, ap (or_text t) h.1)
text_keeps t one_text value h = (h.0, ap (or_text t) h.1)
text_keeps t maybe_text value h = maybe_of_text (or_text t value) (text_there t value h.0 h.1)
text_keeps t some_texts value h = texts_or t value h.0 h.1

-- a number where there was maybe one
number_there : (n : ℕ) (value : Value) (o : Option ℕ) → value ≡ Numbers (option_to_list o) → IsShaped one_number (or_number n value)
number_there n value None e = (n, ap (or_number n) e)
number_there n value (Some m) e = (m, ap (or_number n) e)

numbers_or : (n : ℕ) (value : Value) (ns : List ℕ) → value ≡ Numbers ns → IsShaped some_numbers (or_number n value)
numbers_or n value [] e = (n ∷ [], ap (or_number n) e)
numbers_or n value (m ∷ ms) e = (m ∷ ms, ap (or_number n) e)

number_or_keeps : (n : ℕ) (shape : Shape) (value : Value) → IsShaped shape value → IsShaped shape (or_number n value)
number_or_keeps n one_number value h = (h.0, ap (or_number n) h.1)
number_or_keeps n maybe_number value h = maybe_of_number (or_number n value) (number_there n value h.0 h.1)
number_or_keeps n some_numbers value h = numbers_or n value h.0 h.1
number_or_keeps n one_text value h = (h.0, ap (or_number n) h.1)
number_or_keeps n maybe_text value h = (h.0, ap (or_number n) h.1)
number_or_keeps n some_texts value h = (h.0, ap (or_number n) h.1)

count_shape : (kind : Kind) (row : ℕ) → row_number kind (codes "count") ≡ Some row → slice_get (given_shapes kind) row ≡ Some some_numbers
unfolding words_of
count_shape General row h = absurd (none_no_some h)
count_shape Hd row h = absurd (none_no_some h)
count_shape Sd row h = let same : 0 ≡ row = some_same h in subst (λ r. slice_get (given_shapes Sd) r ≡ Some some_numbers) same refl
count_shape Wd row h = absurd (none_no_some h)
count_shape Rd row h = absurd (none_no_some h)
count_shape Fsd row h = let same : 1 ≡ row = some_same h in subst (λ r. slice_get (given_shapes Fsd) r ≡ Some some_numbers) same refl
count_shape Fwd row h = absurd (none_no_some h)

no_count : (shape : Shape) → Some shape ≡ Some some_numbers → IsShaped shape (Numbers [])
no_count shape is = let same : shape ≡ some_numbers = some_same is in subst (λ s. IsShaped s (Numbers [])) (sym same) ([], refl)

numbered_shaped : (kind : Kind) (number : List ℕ) (values : List Value) → AreShaped (given_shapes kind) values → AreShaped (given_shapes kind) (numbered kind number values)
numbered_shaped kind number values are =
    let lun = changed_shaped kind (given_shapes kind) (codes "lun") (with_number number) values (λ at is shape value has h. number_keeps number shape value h) are in
    let anchor = changed_shaped kind (given_shapes kind) (codes "anchor") (with_number number) _ (λ at is shape value has h. number_keeps number shape value h) lun in
    let journal = changed_shaped kind (given_shapes kind) (codes "journal") (with_number number) _ (λ at is shape value has h. number_keeps number shape value h) anchor in
    changed_shaped kind (given_shapes kind) (codes "count") no_numbers _ (λ at is shape value has h. no_count shape (subst (λ o. o ≡ Some some_numbers) has (count_shape kind at is))) journal

-- a row is filled
text_filled : (t : List ℕ) (shapes : List Shape) (values : List Value) (row : ℕ) → slice_get shapes row ≡ Some maybe_text → AreShaped shapes values → AreShaped (slice_set shapes row one_text) (slice_set values row (or_text t (slice_index_or values row (Numbers []))))
text_filled t [] values row is are = absurd (none_no_some is)
text_filled t (first ∷ shapes) [] row is are = absurd are
text_filled t (first ∷ shapes) (old ∷ values) zero is are =
    let same : first ≡ maybe_text = some_same is in
    let maybe = subst (λ s. IsShaped s old) same are.0 in
    (text_there t old maybe.0 maybe.1, are.1)
text_filled t (first ∷ shapes) (old ∷ values) (suc row) is are = (are.0, text_filled t shapes values row is are.1)

number_filled : (n : ℕ) (shapes : List Shape) (values : List Value) (row : ℕ) → slice_get shapes row ≡ Some maybe_number → AreShaped shapes values → AreShaped (slice_set shapes row one_number) (slice_set values row (or_number n (slice_index_or values row (Numbers []))))
number_filled n [] values row is are = absurd (none_no_some is)
number_filled n (first ∷ shapes) [] row is are = absurd are
number_filled n (first ∷ shapes) (old ∷ values) zero is are =
    let same : first ≡ maybe_number = some_same is in
    let maybe = subst (λ s. IsShaped s old) same are.0 in
    (number_there n old maybe.0 maybe.1, are.1)
number_filled n (first ∷ shapes) (old ∷ values) (suc row) is are = (are.0, number_filled n shapes values row is are.1)

filled_shaped : (kind : Kind) (name : List ℕ) (values : List Value) → AreShaped (given_shapes kind) values → AreShaped (made_shapes kind) (filled kind name values)
unfolding words_of
filled_shaped General name values are = are
filled_shaped Hd name values are = text_filled name (given_shapes Hd) values 2 refl are
filled_shaped Sd name values are = text_filled (name ++ codes ".jnl") (given_shapes Sd) values 2 refl are
filled_shaped Wd name values are = shaped_changed (or_number (reads_of (value_at Wd (codes "operation") values))) (given_shapes Wd) values 1 (λ shape value has h. number_or_keeps _ shape value h) are
filled_shaped Rd name values are = are
filled_shaped Fsd name values are = text_filled (name ++ codes ".jnl") (given_shapes Fsd) values 5 refl are
filled_shaped Fwd name values are = number_filled (reads_of (value_at Fwd (codes "operation") values)) (given_shapes Fwd) values 5 refl are

pub made_values_shaped : (kind : Kind) (name number : List ℕ) (values : List Value) → AreShaped (given_shapes kind) values → AreShaped (made_shapes kind) (filled kind name (numbered kind number values))
made_values_shaped kind name number values are = filled_shaped kind name (numbered kind number values) (numbered_shaped kind number values are)
