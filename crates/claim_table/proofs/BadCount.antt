-- How many entries of a book are bad, before and after a loan.
use Rattle.std.proofs.Common.{◌≡◌, ℕ, suc, ◌+◌, ◌<◌, ◌≤◌, Bool, true, false, eqb, cond, ◌≢◌, List, [], ◌∷◌, length, get_or, eq-eqb, ne_eqb, sym, refl, ap, ◌∙◌, arith}
use mathlib.Core.Logic.{dite}
use native.Mathlib.Decide.{ℕ_discrete}
use Rattle.key_state.specs.declared.entry.Entry.{Entry}
use Rattle.key_state.specs.declared.entry.Entry.TheVariants.{Settled, Pending, Bad}
use Rattle.key_state.specs.declared.seen.BookSeen.{BookSeen}
use Rattle.claim_table.specs.Sums.{total, Each}
use Rattle.claim_table.specs.Views.{now_at, at, bad, has_spoilt, those}
use Rattle.claim_table.specs.Rule.{Agrees}
use Rattle.claim_table.specs.declared.view.Item.{Item}
use Rattle.claim_table.proofs.Basics.{at_yes, at_no}

-- the numbers h k, h (k + 1) and so on, one for each element
abbrev along : (ℕ → ℕ) → ℕ → List Entry → ℕ
along h k [] = 0
along h k (x ∷ xs) = h k + along h (suc k) xs

grown : (l l' : List Entry) (h : ℕ → ℕ) (k : ℕ) → length l' ≡ length l → ((j : ℕ) → j < length l → bad (get_or l' j Bad) ≡ bad (get_or l j Bad) + h (k + j)) → total bad l' ≡ total bad l + along h k l
grown [] [] h k e g = refl
grown [] (y ∷ ys) h k e g = absurd (omega arith)
grown (x ∷ xs) [] h k e g = absurd (omega arith)
grown (x ∷ xs) (y ∷ ys) h k e g = let first : bad y ≡ bad x + h k = g 0 (omega arith) ∙ ap (λ (n : ℕ). bad x + h n) (omega arith) in
    omega (arith, grown xs ys h (suc k) (omega arith) (λ j l. g (suc j) (omega arith) ∙ ap (λ (n : ℕ). bad (get_or xs j Bad) + h n) (omega arith)))

along-plus : (g h : ℕ → ℕ) (k : ℕ) (l : List Entry) → along (λ b. g b + h b) k l ≡ along g k l + along h k l
along-plus g h k [] = refl
along-plus g h k (x ∷ xs) = omega (arith, along-plus g h (suc k) xs)

along-zero : (k : ℕ) (l : List Entry) → along (λ _. 0) k l ≡ 0
along-zero k [] = refl
along-zero k (x ∷ xs) = omega (arith, along-zero (suc k) xs)

abbrev gain : (Item → ℕ) → ℕ → Item → ℕ
gain w b i = cond (eqb i.block b) (w i) 0

one_more : (w : Item → ℕ) (i : Item) (k r n : ℕ) → (i.block < suc k → r ≡ 0) × (suc k ≤ i.block → i.block < suc k + n → r ≡ w i)
    → (i.block < k → gain w k i + r ≡ 0) × (k ≤ i.block → i.block < k + suc n → gain w k i + r ≡ w i)
one_more w i k r n more = dite (ℕ_discrete i.block k)
    (λ (e : i.block ≡ k). let here : gain w k i ≡ w i = ap (λ t. cond t (w i) 0) (eq-eqb i.block k e) in let z : r ≡ 0 = more.0 (omega arith) in ((λ l. absurd (omega arith)), λ _ _. omega arith))
    (λ (ne : i.block ≢ k). let here : gain w k i ≡ 0 = ap (λ t. cond t (w i) 0) (ne_eqb i.block k ne) in ((λ l. let z : r ≡ 0 = more.0 (omega arith) in omega arith), λ low far. let z : r ≡ w i = more.1 (omega arith) (omega arith) in omega arith))

one_item : (w : Item → ℕ) (i : Item) (k : ℕ) (l : List Entry) → (i.block < k → along (λ b. gain w b i) k l ≡ 0) × (k ≤ i.block → i.block < k + length l → along (λ b. gain w b i) k l ≡ w i)
one_item w i k [] = ((λ _. refl), λ low far. absurd (omega arith))
one_item w i k (x ∷ xs) = one_more w i k (along (λ b. gain w b i) (suc k) xs) (length xs) (one_item w i (suc k) xs)

exchanged : (w : Item → ℕ) (held : List Item) (l : List Entry) → Each (λ i. i.block < length l) held → along (λ b. total (gain w b) held) 0 l ≡ total w held
exchanged w [] l h = along-zero 0 l
exchanged w (i ∷ held) l h = omega (arith, along-plus (λ b. gain w b i) (λ b. total (gain w b) held) 0 l, (one_item w i 0 l).1 (omega arith) (let n = h.0 in omega arith), exchanged w held l h.1)

abbrev pub spoils : BookSeen → Item → ℕ
spoils f i = cond (has_spoilt i.own (now_at f i.block)) 1 0

by_test : (b : Bool) (x : ℕ) (l : List ℕ) (n : ℕ) → n ≡ length l → cond b 1 0 + n ≡ length (cond b (x ∷ l) l)
by_test true x l n e = omega arith
by_test false x l n e = omega arith

counted : (f : BookSeen) (held : List Item) → total (spoils f) held ≡ length (those has_spoilt f held)
counted f [] = refl
counted f (i ∷ held) = by_test (has_spoilt i.own (now_at f i.block)) i.block (those has_spoilt f held) (total (spoils f) held) (counted f held)

-- the bad entries after a loan: those before, and the held blocks that were spoilt
pub bad_after : (g f : BookSeen) (held : List Item) → length f.now ≡ length g.now → Each (λ i. i.block < length g.now) held
    → ((b : ℕ) → b < length g.now → bad (now_at f b) ≡ bad (now_at g b) + total (gain (spoils f) b) held)
    → total bad f.now ≡ total bad g.now + length (those has_spoilt f held)
bad_after g f held same near each = omega (arith, grown g.now f.now (λ b. total (gain (spoils f) b) held) 0 same (λ j l. each j l ∙ ap (λ (n : ℕ). bad (now_at g j) + total (gain (spoils f) n) held) (omega arith)), exchanged (spoils f) held g.now near, counted f held)

none_gained : (w : Item → ℕ) (b : ℕ) (xs : List Item) → total (at b) xs ≡ 0 → total (gain w b) xs ≡ 0
none_gained w b [] z = refl
none_gained w b (i ∷ xs) z = dite (ℕ_discrete i.block b) (λ (e : i.block ≡ b). absurd (omega (arith, at_yes b i e)))
    (λ (ne : i.block ≢ b). let here : gain w b i ≡ 0 = ap (λ t. cond t (w i) 0) (ne_eqb i.block b ne) in omega (arith, none_gained w b xs (omega (arith, at_no b i ne))))

one_gained : (w : Item → ℕ) (P : Item → Type 0) (b : ℕ) (xs : List Item) → total (at b) xs ≡ 1 → Each P xs → (i : Item) × (i.block ≡ b) × P i × (total (gain w b) xs ≡ w i)
one_gained w P b [] z h = absurd (omega arith)
one_gained w P b (i ∷ xs) z h = dite (ℕ_discrete i.block b)
    (λ (e : i.block ≡ b). let here : gain w b i ≡ w i = ap (λ t. cond t (w i) 0) (eq-eqb i.block b e) in (i, e, h.0, omega (arith, none_gained w b xs (omega (arith, at_yes b i e)))))
    (λ (ne : i.block ≢ b). let here : gain w b i ≡ 0 = ap (λ t. cond t (w i) 0) (ne_eqb i.block b ne) in let t = one_gained w P b xs (omega (arith, at_no b i ne)) h.1 in (t.0, t.1, t.2, omega (arith, t.3)))

spoilt_step : (own now : Entry) → (own ≡ Bad → now ≡ Bad) → bad now ≡ bad own + cond (has_spoilt own now) 1 0
spoilt_step Bad now h = ap bad (h refl)
spoilt_step (Settled k) (Settled j) h = refl
spoilt_step (Settled k) (Pending j n) h = refl
spoilt_step (Settled k) Bad h = refl
spoilt_step (Pending k n) (Settled j) h = refl
spoilt_step (Pending k n) (Pending j l) h = refl
spoilt_step (Pending k n) Bad h = refl

-- one place of the book
pub bad_place : (g f : BookSeen) (words : List ℕ) (held : List Item) (b : ℕ) → Each (Agrees g words) held → total (at b) held ≤ 1 → (total (at b) held ≡ 0 → now_at f b ≡ now_at g b) → (now_at g b ≡ Bad → now_at f b ≡ Bad)
    → bad (now_at f b) ≡ bad (now_at g b) + total (gain (spoils f) b) held
bad_place g f words held b agrees once others stays = dite (ℕ_discrete (total (at b) held) 0)
    (λ (z : total (at b) held ≡ 0). omega (arith, ap bad (others z), none_gained (spoils f) b held z))
    (λ (nz : total (at b) held ≢ 0). let t = one_gained (spoils f) (Agrees g words) b held (omega arith) agrees in
    let own : now_at g b ≡ t.0.own = ap (now_at g) (sym t.1) ∙ t.2.owned in
    let there : now_at f t.0.block ≡ now_at f b = ap (now_at f) t.1 in
    let step : bad (now_at f b) ≡ bad t.0.own + cond (has_spoilt t.0.own (now_at f b)) 1 0 = spoilt_step t.0.own (now_at f b) (λ q. stays (own ∙ q)) in
    let same : spoils f t.0 ≡ cond (has_spoilt t.0.own (now_at f b)) 1 0 = ap (λ (e : Entry). cond (has_spoilt t.0.own e) 1 0) there in
    omega (arith, ap bad own, t.3))
