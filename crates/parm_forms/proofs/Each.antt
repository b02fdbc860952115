-- Items one after another, up to the first fault.
use Rattle.std.proofs.Common.{◌≡◌, ℕ, ◌+◌, ◌<◌, List, [], ◌∷◌, ◌++◌, Ok, Err, Result, drop, get_or, length, map, refl, sym, ap, ◌∙◌, arith}
use Rattle.std.proofs.lemmas.List.{append_assoc, drop_more}
use Rattle.parm_forms.specs.Forms.{◌>>=◌, each, one}
use Rattle.parm_forms.specs.declared.fault.ParmKind.{ParmKind}

-- what was read before stands in front
abbrev pub behind : {A : Type 0} → List A → Result (List A) ParmKind → Result (List A) ParmKind
behind front (Ok xs) = Ok (front ++ xs)
behind front (Err kind) = Err kind

-- one more in front, or behind what was read before
pub one_more : {A : Type 0} (front : List A) (x : A) (rest : Result (List A) ParmKind) → behind front (rest >>= λ xs. Ok (x ∷ xs)) ≡ behind (front ++ x ∷ []) rest
one_more front x (Ok xs) = ap Ok (sym (append_assoc front (x ∷ []) xs))
one_more front x (Err kind) = refl

-- the values so far, and what the rest of the items spells, are what all of them spell
abbrev pub SoFar : {X A : Type 0} → (List ℕ → Result A ParmKind) → (X → List ℕ) → List X → ℕ → List A → Type 0
SoFar read text items i values = behind values (each read (map text (drop i items))) ≡ each read (map text items)

rest_of : {X A : Type 0} (read : List ℕ → Result A ParmKind) (text : X → List ℕ) (items : List X) (i : ℕ) (item : X) → i < length items → item ≡ get_or items i item → each read (map text (drop i items)) ≡ (read (text item) >>= λ x. each read (map text (drop (i + 1) items)) >>= λ xs. Ok (x ∷ xs))
rest_of read text items i item inside is =
    ap (λ xs. each read (map text xs)) (drop_more items i item inside ∙ ap (λ x. x ∷ drop (i + 1) items) (sym is))

pub each_kept : {X A : Type 0} (read : List ℕ → Result A ParmKind) (text : X → List ℕ) (items : List X) (i : ℕ) (item : X) (values : List A) (value : A) → SoFar read text items i values → i < length items → item ≡ get_or items i item → read (text item) ≡ Ok value → SoFar read text items (i + 1) (values ++ value ∷ [])
each_kept read text items i item values value so_far inside is reads =
    sym (one_more values value (each read (map text (drop (i + 1) items))))
    ∙ ap (λ r. behind values (r >>= λ x. each read (map text (drop (i + 1) items)) >>= λ xs. Ok (x ∷ xs))) (sym reads)
    ∙ ap (behind values) (sym (rest_of read text items i item inside is))
    ∙ so_far

pub each_fault : {X A : Type 0} (read : List ℕ → Result A ParmKind) (text : X → List ℕ) (items : List X) (i : ℕ) (item : X) (values : List A) (kind : ParmKind) → SoFar read text items i values → i < length items → item ≡ get_or items i item → read (text item) ≡ Err kind → each read (map text items) ≡ Err kind
each_fault read text items i item values kind so_far inside is reads =
    sym so_far
    ∙ ap (behind values) (rest_of read text items i item inside is)
    ∙ ap (λ r. behind values (r >>= λ x. each read (map text (drop (i + 1) items)) >>= λ xs. Ok (x ∷ xs))) reads

pub one_is_each : {X A : Type 0} (read : List ℕ → Result A ParmKind) (text : X → List ℕ) (items : List X) → length items ≡ 1 → one read (map text items) ≡ each read (map text items)
one_is_each read text [] e = cc
one_is_each read text (item ∷ []) e = refl
one_is_each read text (item ∷ more ∷ items) e = absurd (omega (arith, e))
