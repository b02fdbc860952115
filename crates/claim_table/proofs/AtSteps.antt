-- The steps, at the indices that the code computes.
use Rattle.std.proofs.Common.{◌≡◌, ℕ, ◌+◌, ◌%◌, ◌^◌, ◌<◌, false, ◌≢◌, List, ◌∷◌, length, sym, ap, ◌∙◌, subst, bit_or, bit_xor}
use mathlib.Core.Option.{none}
use Rattle.atomic_table.specs.Table.{step, rest, Allows}
use Rattle.vd_arm.specs.Arm.{PassSeen}
use Rattle.key_state.specs.declared.entry.Entry.{Entry}
use Rattle.key_state.specs.declared.entry.Entry.TheVariants.{Bad}
use Rattle.key_state.specs.declared.seen.BookSeen.{BookSeen}
use Rattle.claim_table.specs.Codes.{code_of, IsCoded, HasKeys}
use Rattle.claim_table.specs.Lanes.{lane, word_of, shifted}
use Rattle.claim_table.specs.Sums.{Each}
use Rattle.claim_table.specs.Views.{blocks_of, LentAs, bad, claimed, released, with_hand}
use Rattle.claim_table.specs.Passes.{IsPassFor}
use Rattle.claim_table.specs.Plays.{Sat, fetches_pass, releases, puts_back, Claiming, claims}
use Rattle.claim_table.specs.declared.view.Item.{Item}
use Rattle.claim_table.specs.declared.view.View.{View}
use Rattle.claim_table.specs.declared.view.Made.{Made}
use Rattle.claim_table.specs.declared.slot.Slot.{Slot}
use Rattle.claim_table.specs.declared.slot.Slot.TheVariants as slot
use Rattle.claim_table.proofs.Steps.{K, claims_allowed}
use Rattle.claim_table.proofs.HeldSteps.{fetches_allowed, releases_allowed, puts_back_allowed}

module _ {P B : Type 0} (pass_seen : P → PassSeen) (book_seen : B → BookSeen) (made : Made) where
  pub claims_at : (n id : ℕ) (m : Sat P B) (b i x : ℕ) → i ≡ word_of b → x ≡ shifted b (2 ^ 15) → b < blocks_of made → Each (λ i. i.block < b) m.0.held → length m.0.held < 64 → m.0.spent ≡ false → m.0.hand ≡ 0
      → Allows (K pass_seen book_seen made) n id m i (λ y. bit_or y x) (claims pass_seen book_seen (step n i x 0 none) m)
  claims_at n id m b i x at-i is near above room live free-hand =
      subst (λ (j : ℕ). Allows (K pass_seen book_seen made) n id m j (λ y. bit_or y x) (claims pass_seen book_seen (step n j x 0 none) m)) (sym at-i)
      (claims_allowed pass_seen book_seen made n id m b x near above room live free-hand is)

  pub puts_back_at : (n id : ℕ) (m : Sat P B) (i : Item) (others : List Item) (b k x : ℕ) → m.0.held ≡ i ∷ others → i.block ≡ b → k ≡ word_of b → i.was ≡ Bad → m.0.hand ≡ 0 → i.own ≡ Bad → x ≡ shifted b (2 ^ 15)
      → Allows (K pass_seen book_seen made) n id m k (λ y. bit_xor y x) (puts_back (step n k x 0 none) m)
  puts_back_at n id m i others b k x top at-b at-k bad free-hand own-bad is =
      subst (λ (j : ℕ). Allows (K pass_seen book_seen made) n id m j (λ y. bit_xor y x) (puts_back (step n j x 0 none) m)) (sym (at-k ∙ ap word_of (sym at-b)))
      (puts_back_allowed pass_seen book_seen made n id m i others x top bad free-hand own-bad (is ∙ ap (λ (q : ℕ). shifted q (2 ^ 15)) (sym at-b)))

  pub releases_at : (n id : ℕ) (m : Sat P B) (i : Item) (others : List Item) (p : P) (rs : List (ℕ × Slot P B)) (b k x d : ℕ) → m.0.held ≡ i ∷ others → i.block ≡ b → k ≡ word_of b → m.0.hand ≡ b + 1 → m.1 ≡ (b, slot.Pass p) ∷ rs
      → IsPassFor m.0.made b i.own (pass_seen p) → HasKeys i.own → d ≡ bit_xor (code_of i.was + 2 ^ 15) (code_of i.own) → x ≡ shifted b d
      → Allows (K pass_seen book_seen made) n id m k (λ y. bit_xor y x) (releases (step n k x 0 none) m)
  releases_at n id m i others p rs b k x d top at-b at-k hand has ok keys is-d is-x =
      let Q : ℕ → Type 0 = λ c. k ≡ word_of c → m.0.hand ≡ c + 1 → m.1 ≡ (c, slot.Pass p) ∷ rs → IsPassFor m.0.made c i.own (pass_seen p) → x ≡ shifted c d → Allows (K pass_seen book_seen made) n id m k (λ y. bit_xor y x) (releases (step n k x 0 none) m) in
      subst Q at-b (λ k' hand' has' ok' x'. subst (λ (j : ℕ). Allows (K pass_seen book_seen made) n id m j (λ y. bit_xor y x) (releases (step n j x 0 none) m)) (sym k')
      (releases_allowed pass_seen book_seen made n id m i others p rs x top hand' has' ok' keys (x' ∙ ap (shifted i.block) is-d))) at-k hand has ok is-x

  pub fetches_at : (n id : ℕ) (m : Sat P B) (i : Item) (others : List Item) (b k : ℕ) → m.0.held ≡ i ∷ others → i.block ≡ b → k ≡ word_of b → i.was ≢ Bad → m.0.hand ≡ 0
      → Allows (K pass_seen book_seen made) n id m k (λ y. y) (fetches_pass (step n k 0 0 none) m)
  fetches_at n id m i others b k top at-b at-k good free-hand =
      subst (λ (j : ℕ). Allows (K pass_seen book_seen made) n id m j (λ y. y) (fetches_pass (step n j 0 0 none) m)) (sym (at-k ∙ ap word_of (sym at-b)))
      (fetches_allowed pass_seen book_seen made n id m i others top good free-hand)

module _ {P B : Type 0} (pass_seen : P → PassSeen) (book_seen : B → BookSeen) where
  pub ok_made : (made' made : Made) (b : ℕ) (e' e : Entry) (p : P) → made' ≡ made → e' ≡ e → IsPassFor made b e (pass_seen p) → IsPassFor made' b e' (pass_seen p)
  ok_made made' made b e' e p q r h = let F : Made × Entry → Type 0 = λ z. IsPassFor z.0 b z.1 (pass_seen p) in subst F (λ i. (sym q i, sym r i)) h

  -- a claim that found a block which is not busy and not bad
  pub record Got (b r : ℕ) (m m' : Sat P B) : Type 0 where
    pub entry : Entry
    pub valid : IsCoded entry
    pub code : lane r (b % 4) ≡ code_of entry
    pub good : entry ≢ Bad
    pub pass : P
    pub seat : m' ≡ (with_hand (claimed m.0 b r entry) (b + 1), (b, slot.Pass pass) ∷ m.1)
    pub ok : IsPassFor m.0.made b entry (pass_seen pass)
    pub lent : LentAs m.0 b entry

  pub got : (b r : ℕ) (m m' : Sat P B) → Claiming pass_seen book_seen b r (lane r (b % 4)) m m' → lane r (b % 4) < 2 ^ 15 → lane r (b % 4) ≢ 256 → Got b r m m'
  got b r m m' h low ne = let t = h.1 low in let good : t.0 ≢ Bad = λ q. ne (t.2 ∙ ap code_of q) in let u = t.4 good in
      record { entry = t.0; valid = t.1; code = t.2; good = good; pass = u.0; seat = u.1; ok = u.2; lent = t.5 }

abbrev carries : {P B : Type 0} → View → List (ℕ × Slot P B) → Sat P B
carries w l = (w, l)

abbrev with_head : {P B : Type 0} → ℕ → Slot P B → Sat P B → Sat P B
with_head b z m = (m.0, (b, z) ∷ rest m.1)

abbrev let_go : {P B : Type 0} → List Item → Sat P B → Sat P B
let_go others m = (with_hand (released m.0 others) 0, rest m.1)

-- a seat whose slot came out, was filled and went home with the block's release
pub freed : {P B : Type 0} (m₀ m₁ m₂ m₃ : Sat P B) (others : List Item) (k b c : ℕ) (y z : Slot P B)
    → m₁ ≡ (with_hand m₀.0 k, (c, y) ∷ m₀.1) → m₂ ≡ (m₁.0, (b, z) ∷ rest m₁.1) → m₃ ≡ (with_hand (released m₂.0 others) 0, rest m₂.1) → m₀.0.hand ≡ 0 → m₃ ≡ (released m₀.0 others, m₀.1)
freed {P} {B} m₀ m₁ m₂ m₃ others k b c y z e₁ e₂ e₃ free-hand =
    let F : Sat P B → Sat P B = with_head b z in let G : Sat P B → Sat P B = let_go others in
    e₃ ∙ (ap G e₂ ∙ (ap (λ (m : Sat P B). G (F m)) e₁ ∙ ap (λ (h : ℕ). carries (record (released m₀.0 others) { hand = h }) m₀.1) (sym free-hand)))
