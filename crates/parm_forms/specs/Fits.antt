-- Which values a form has: what follows of a value that was read, whatever its items were.
use Rattle.std.specs.Prelude.{ℕ, List, [], ◌∷◌, ◌-◌, ◌%◌, ◌^◌, ◌≤◌, ◌≡◌, ◌⊎◌, All, Bool, true, false, IsTrue, Ok, Some, length, not, slice_get, slice_set}
use Rattle.vd_base.specs.Name.{is_store_name}
use Rattle.parm_forms.specs.Forms.{is_other_name, is_pattern, value_of, words_of}
use Rattle.parm_forms.specs.Rows.{defaults_of, forms_of}
use Rattle.parm_forms.specs.declared.form.Form.{Form}
use Rattle.parm_forms.specs.declared.form.Form.TheVariants as form
use Rattle.parm_forms.specs.declared.rows.Kind.{Kind}
use Rattle.parm_forms.specs.declared.value.Value.{Value}
use Rattle.parm_forms.specs.declared.value.Value.TheVariants.{Numbers, Texts}

-- a number from least to greatest
pub record IsFrom (least greatest n : ℕ) : Type 0 where
  pub at_least : least ≤ n
  pub at_most : n ≤ greatest

abbrev pub IsSize : ℕ → Type 0
IsSize n = IsFrom 1 (2 ^ 63 - 1) n

-- a multiple of 512 up to 1,048,576
pub record IsBlockSize (n : ℕ) : Type 0 where
  pub range : IsFrom 512 1048576 n
  pub whole : n % 512 ≡ 0

-- one of these words
abbrev pub IsOneOf : List (List ℕ) → List ℕ → Type 0
IsOneOf [] text = ⊥
IsOneOf (word ∷ words) text = (text ≡ word) ⊎ IsOneOf words text

-- one number, and that one is so
abbrev pub OneNumber : (ℕ → Type 0) → Value → Type 0
OneNumber P (Numbers (n ∷ [])) = P n
OneNumber P value = ⊥

-- numbers, at least one, and all are so
abbrev pub SomeNumbers : (ℕ → Type 0) → Value → Type 0
SomeNumbers P (Numbers (n ∷ numbers)) = All P (n ∷ numbers)
SomeNumbers P value = ⊥

-- one text, and that one is so
abbrev pub OneText : (List ℕ → Type 0) → Value → Type 0
OneText P (Texts (text ∷ [])) = P text
OneText P value = ⊥

-- texts, at least one, and all are so
abbrev pub SomeTexts : (List ℕ → Type 0) → Value → Type 0
SomeTexts P (Texts (text ∷ texts)) = All P (text ∷ texts)
SomeTexts P value = ⊥

-- sizes and percentages in turn
abbrev pub ArePairs : List ℕ → Type 0
ArePairs [] = Unit {0}
ArePairs (n ∷ []) = ⊥
ArePairs (n ∷ percent ∷ numbers) = IsSize n × (percent ≤ 100) × ArePairs numbers

-- one size, or sizes with percentages
abbrev pub AreSizes : Value → Type 0
AreSizes (Numbers (n ∷ [])) = IsSize n
AreSizes (Numbers (n ∷ percent ∷ numbers)) = ArePairs (n ∷ percent ∷ numbers)
AreSizes value = ⊥

-- the first number, and how many
abbrev pub IsCount : Value → Type 0
IsCount (Numbers (first ∷ many ∷ [])) = (first ≤ 100000) × IsFrom 1 64 many
IsCount value = ⊥

-- a value that items can spell in a form
abbrev pub Fits : Form → Value → Type 0
Fits (form.Number least greatest) = OneNumber (IsFrom least greatest)
Fits (form.Numbers least greatest) = SomeNumbers (IsFrom least greatest)
Fits form.Size = OneNumber IsSize
Fits form.Sizes = AreSizes
Fits form.BlockSize = OneNumber IsBlockSize
Fits form.BlockSizes = SomeNumbers IsBlockSize
Fits form.Seconds = OneNumber (IsFrom 1 8640000)
Fits form.Rate = OneNumber (IsFrom 0 10000000)
Fits form.SeekPercent = OneNumber (IsFrom 0 100)
Fits form.Path = OneText (λ text. IsFrom 1 1024 (length text))
Fits form.Word = OneText (λ text. Unit {0})
Fits form.Words = SomeTexts (λ text. Unit {0})
Fits (form.Choice choice) = OneText (IsOneOf (words_of choice))
Fits (form.Choices choice) = SomeTexts (IsOneOf (words_of choice))
Fits form.StorePatterns = SomeTexts (λ text. IsTrue (is_pattern is_store_name text))
Fits form.Patterns = SomeTexts (λ text. IsTrue (is_pattern is_other_name text))
Fits form.Count = IsCount

-- whether a form has numbers; else it has texts
abbrev pub has_numbers : Form → Bool
has_numbers (form.Number least greatest) = true
has_numbers (form.Numbers least greatest) = true
has_numbers form.Size = true
has_numbers form.Sizes = true
has_numbers form.BlockSize = true
has_numbers form.BlockSizes = true
has_numbers form.Seconds = true
has_numbers form.Rate = true
has_numbers form.SeekPercent = true
has_numbers form.Path = false
has_numbers form.Word = false
has_numbers form.Words = false
has_numbers (form.Choice choice) = false
has_numbers (form.Choices choice) = false
has_numbers form.StorePatterns = false
has_numbers form.Patterns = false
has_numbers form.Count = true

-- nothing: no number, no text, or one text without bytes
abbrev pub IsNothing : Form → Value → Type 0
IsNothing form (Numbers []) = IsTrue (has_numbers form)
IsNothing form (Texts []) = IsTrue (not (has_numbers form))
IsNothing form (Texts ([] ∷ [])) = IsTrue (not (has_numbers form))
IsNothing form value = ⊥

-- a value that fits, or nothing
abbrev pub FitsOrNothing : Form → Value → Type 0
FitsOrNothing form value = Fits form value ⊎ IsNothing form value

-- what is read fits its form
abbrev pub ValuesFit : Type 0
ValuesFit = (form : Form) (items : List (List ℕ)) (value : Value) → value_of form items ≡ Ok value → Fits form value

-- how many numbers or texts a value has
abbrev pub item_count : Value → ℕ
item_count (Numbers numbers) = length numbers
item_count (Texts texts) = length texts

-- what is read has a number or a text for each item
abbrev pub ValuesHaveTheirItems : Type 0
ValuesHaveTheirItems = (form : Form) (items : List (List ℕ)) (value : Value) → value_of form items ≡ Ok value → item_count value ≡ length items

-- what a definition may have of a keyword, where so many items may stand there at the most
pub record MayHave (most : ℕ) (form : Form) (value : Value) : Type 0 where
  pub fits : FitsOrNothing form value
  pub few : item_count value ≤ most

-- the values of a definition, row by row of its forms
abbrev pub AreValues : ℕ → List Form → List Value → Type 0
AreValues most [] [] = Unit {0}
AreValues most [] (value ∷ values) = ⊥
AreValues most (form ∷ forms) [] = ⊥
AreValues most (form ∷ forms) (value ∷ values) = MayHave most form value × AreValues most forms values

-- the defaults of a kind are so
abbrev pub DefaultsFit : Type 0
DefaultsFit = (kind : Kind) (most : ℕ) → 1 ≤ most → AreValues most (forms_of kind) (defaults_of kind)

-- they stay so where a row is given what items of its form spell
abbrev pub FittingValuesStay : Type 0
FittingValuesStay =
    (most : ℕ) (forms : List Form) (values : List Value) (row : ℕ) (form : Form) (items : List (List ℕ)) (value : Value) →
    AreValues most forms values → slice_get forms row ≡ Some form → length items ≤ most → value_of form items ≡ Ok value →
    AreValues most forms (slice_set values row value)
