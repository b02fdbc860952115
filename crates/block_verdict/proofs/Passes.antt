-- A pass over the sectors of a block, as far as it has come.
use Rattle.std.proofs.Common.{◌≡◌, ℕ, ◌+◌, ◌<◌, ◌↔◌, ◌∙◌, List, subst, sym, arith, rules, inl, inr}
use Rattle.std.specs.Prelude.{Bool, true, false, IsTrue}
use Rattle.std.proofs.lemmas.Bool.{cases_lt}
use Rattle.vd_base.specs.declared.geometry.StoreId.{StoreId}
use Rattle.key_state.specs.declared.entry.Entry.{Entry}
use Rattle.block_verdict.specs.Fits.{FitsAt}

-- Each of the first count sectors fits.
abbrev pub FitBelow : StoreId → ℕ → Entry → List ℕ → ℕ → Type 0
FitBelow store block entry bytes count = (i : ℕ) → i < count → FitsAt store block entry bytes i

pub one_more : (P : ℕ → Type 0) (n : ℕ) → ((i : ℕ) → i < n → P i) → P n → (i : ℕ) → i < n + 1 → P i
one_more P n before here i le = elim (cases_lt i n) [
  | inl low ↦ before i low
  | inr high ↦
      let e : n ≡ i = omega arith in
      subst P e here
]

pub told_more : (P : ℕ → Type 0) (n : ℕ) (before here all : Bool) → (IsTrue before ↔ ((i : ℕ) → i < n → P i)) → (IsTrue here ↔ P n) → (IsTrue all ↔ (IsTrue before × IsTrue here)) → (IsTrue all ↔ ((i : ℕ) → i < n + 1 → P i))
told_more P n before here all so_far at both = (
  (λ yes. one_more P n (so_far.0 (both.0 yes).0) (at.0 (both.0 yes).1)),
  (λ each. both.1 (so_far.1 (λ i le. each i (omega arith)), at.1 (each n (omega arith)))),
)

pub not_told : (b : Bool) → b ≡ false → IsTrue b → ⊥
not_told b is_false is_true = let both : false ≡ true = sym is_false ∙ is_true in search rules
