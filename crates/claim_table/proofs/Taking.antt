-- Slots that are taken out one by one.
use Rattle.std.proofs.Common.{◌≡◌, ℕ, zero, suc, ◌+◌, ◌<◌, ◌≤◌, Bool, true, false, List, [], ◌∷◌, ◌++◌, length, get_or, set, sym, refl, ◌∙◌, subst, arith, get_or-set_other}
use mathlib.Core.Logic.{dite}
use mathlib.Core.Option.{some}
use native.Mathlib.Decide.{ℕ_discrete}
use lib.ListN.{get_elem?}
use Rattle.atomic_table.proofs.Lists.{at_longer, at_last}
use Rattle.claim_table.specs.declared.slot.Slot.{Slot}
use Rattle.claim_table.specs.declared.slot.Slot.TheVariants as slot

set_false : (fs : List Bool) (k : ℕ) → get_or (set fs k false) k false ≡ false
set_false [] k = refl
set_false (x ∷ xs) zero = refl
set_false (x ∷ xs) (suc k) = set_false xs k

pub still_full : (fs : List Bool) (i n : ℕ) → ((k : ℕ) → i ≤ k → k < n → get_or fs k false ≡ true) → (k : ℕ) → i + 1 ≤ k → k < n → get_or (set fs i false) k false ≡ true
still_full fs i n h k low high = get_or-set_other fs i k false false (λ e. omega arith) ∙ h k (omega arith) high

pub more_gone : (fs : List Bool) (i : ℕ) → ((k : ℕ) → k < i → get_or fs k false ≡ false) → (k : ℕ) → k < i + 1 → get_or (set fs i false) k false ≡ false
more_gone fs i h k low = dite (ℕ_discrete k i) (λ e. subst (λ (x : ℕ). get_or (set fs i false) x false ≡ false) (sym e) (set_false fs i)) (λ ne. get_or-set_other fs i k false false ne ∙ h k (omega arith))

pub more_taken : {P B : Type 0} (xs : List (Slot P B)) (room : List P) (i : ℕ) (p : P) → length room ≡ i → get_elem? xs i ≡ some (slot.Pass p)
    → ((k : ℕ) → k < i → (q : P) × (get_elem? room k ≡ some q) × (get_elem? xs k ≡ some (slot.Pass q)))
    → (k : ℕ) → k < i + 1 → (q : P) × (get_elem? (room ++ p ∷ []) k ≡ some q) × (get_elem? xs k ≡ some (slot.Pass q))
more_taken {P} {B} xs room i p long here h k low = let Q : ℕ → Type 0 = λ x. (q : P) × (get_elem? (room ++ p ∷ []) x ≡ some q) × (get_elem? xs x ≡ some (slot.Pass q)) in
    dite (ℕ_discrete k i) (λ e. subst Q (sym e) (p, at_last room p i long, here)) (λ ne. let t = h k (omega arith) in (t.0, at_longer room (p ∷ []) k t.0 t.1, t.2))

pub none_left : (fs : List Bool) (n : ℕ) → ((k : ℕ) → k < n → get_or fs k false ≡ false) → (k : ℕ) → k < n + 1 → get_or (set fs n false) k false ≡ false
none_left fs n h k low = more_gone fs n h k low
