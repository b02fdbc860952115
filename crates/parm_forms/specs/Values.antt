-- What a value holds.
use Rattle.std.specs.Prelude.{ℕ, List, [], ◌∷◌, Option, Some, None}
use Rattle.parm_forms.specs.declared.value.Value.{Value}
use Rattle.parm_forms.specs.declared.value.Value.TheVariants.{Numbers, Texts}

-- its numbers; of texts none
abbrev pub numbers_of : Value → List ℕ
numbers_of (Numbers numbers) = numbers
numbers_of (Texts texts) = []

-- its texts; of numbers none
abbrev pub texts_of : Value → List (List ℕ)
texts_of (Numbers numbers) = []
texts_of (Texts texts) = texts

-- the item of a list that has one
abbrev pub only : {A : Type 0} → List A → Option A
only [] = None
only (x ∷ []) = Some x
only (x ∷ y ∷ xs) = None
