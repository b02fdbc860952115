-- Blocks that are stamped sector by sector.
use Rattle.std.proofs.Common.{◌≡◌, ℕ, ◌+◌, ◌<◌, ◌≢◌, List, length, get_or, set, sym, subst, ◌∙◌, arith, inl, inr}
use Rattle.std.proofs.lemmas.List.{get_or-set_same, get_or-set_other}
use Rattle.std.proofs.lemmas.Bool.{cases_lt}
use Rattle.vd_base.specs.Geometry.{address_of}
use Rattle.vd_base.specs.declared.geometry.StoreId.{StoreId}
use Rattle.sector_stamp.specs.Image.{IsImage}
use Rattle.sector_stamp.specs.Block.{sector_of, AreStamped}

-- One more sector is stamped.
pub stamped_more : (store : StoreId) (block key i : ℕ) (before after sector : List ℕ) → AreStamped store block key before i → sector_of after i ≡ sector → ((j : ℕ) → j < i → sector_of after j ≡ sector_of before j) → IsImage store.name (address_of store.geometry block i) key sector → AreStamped store block key after (i + 1)
stamped_more store block key i before after sector stamped here below image j le = elim (cases_lt j i) [
  | inl low ↦ subst (λ (s : List ℕ). IsImage store.name (address_of store.geometry block j) key s) (sym (below j low)) (stamped j low)
  | inr high ↦
      let e : i ≡ j = omega arith in
      subst (λ (n : ℕ). IsImage store.name (address_of store.geometry block n) key (sector_of after n)) e
      (subst (λ (s : List ℕ). IsImage store.name (address_of store.geometry block i) key s) (sym here) image)
]

-- One more number of a list is written.
pub written_more : (f : ℕ → ℕ) (xs : List ℕ) (n v : ℕ) → n < length xs → ((k : ℕ) → k < n → get_or xs k 0 ≡ f k) → v ≡ f n → (k : ℕ) → k < n + 1 → get_or (set xs n v) k 0 ≡ f k
written_more f xs n v room before here k le = elim (cases_lt k n) [
  | inl low ↦
      let other : k ≢ n = λ e. absurd (omega (arith, e)) in
      get_or-set_other xs n k v 0 other ∙ before k low
  | inr high ↦
      let e : n ≡ k = omega arith in
      subst (λ (i : ℕ). get_or (set xs n v) i 0 ≡ f i) e (get_or-set_same xs n v 0 room ∙ here)
]
