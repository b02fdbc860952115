-- Lists of items, views and tries.
use Rattle.std.proofs.Common.{◌≡◌, ℕ, zero, suc, ◌+◌, ◌-◌, ◌*◌, ◌/◌, ◌%◌, ◌^◌, ◌<◌, ◌≤◌, Bool, true, false, eqb, cond, ◌≢◌, ◌⊎◌, List, [], ◌∷◌, ◌++◌, map, length, get_or, set, eqb-true, eq-eqb, ne_eqb, sym, refl, ap, ◌∙◌, subst, inl, inr, ⊎_elim, arith, length-set, length-append, get_or-set_other, get_or-set_same, bit_or, bit_xor, bit_and, Option, Some, None}
use mathlib.Core.Logic.{dite}
use mathlib.Core.Option.{some, some-injective, some-ne-none}
use native.Mathlib.Decide.{ℕ_discrete, dec_le}
use lib.ListN.{get_elem?}
use Rattle.atomic_table.specs.Table.{rest}
use Rattle.key_state.specs.declared.entry.Entry.{Entry}
use Rattle.key_state.specs.declared.entry.Entry.TheVariants.{Settled, Pending, Bad}
use Rattle.key_state.specs.declared.seen.BookSeen.{BookSeen}
use Rattle.claim_table.specs.Codes.{code_of, IsCoded}
use Rattle.claim_table.specs.Lanes.{lane}
use Rattle.claim_table.specs.Sums.{total, Each}
use Rattle.claim_table.specs.Views.{try, answer_of, is_busy, is_bad as bad_answer, at, busy_with, other_with, refused, answered, refused_as, answered_as, found_bad, bad, IsFalling, brought}
use Rattle.claim_table.specs.Firsts.{flaw}
use Rattle.claim_table.specs.declared.view.Item.{Item}
use Rattle.claim_table.specs.declared.view.Answer.{Answer}
use Rattle.claim_table.specs.declared.view.Answer.TheVariants as answer
use Rattle.claim_table.specs.declared.view.View.{View}

pub at_yes : (b : ℕ) (i : Item) → i.block ≡ b → at b i ≡ 1
at_yes b i e = ap (λ t. cond t 1 0) (eq-eqb i.block b e)

pub at_no : (b : ℕ) (i : Item) → i.block ≢ b → at b i ≡ 0
at_no b i n = ap (λ t. cond t 1 0) (ne_eqb i.block b n)

pub each_map : {A : Type 0} (P Q : A → Type 0) (xs : List A) → ((x : A) → P x → Q x) → Each P xs → Each Q xs
each_map P Q [] f h = tt
each_map P Q (x ∷ xs) f h = (f x h.0, each_map P Q xs f h.1)

-- items of other blocks
pub each_apart : (P Q : Item → Type 0) (b : ℕ) (xs : List Item) → total (at b) xs ≡ 0 → ((i : Item) → i.block ≢ b → P i → Q i) → Each P xs → Each Q xs
each_apart P Q b [] z f h = tt
each_apart P Q b (i ∷ xs) z f h = dite (ℕ_discrete i.block b) (λ e. absurd (omega (arith, at_yes b i e)))
    (λ ne. (f i ne h.0, each_apart P Q b xs (omega (arith, at_no b i ne)) f h.1))

-- items whose blocks are there
pub each_in : (P Q : Item → Type 0) (xs : List Item) → ((i : Item) → 0 < total (at i.block) xs → P i → Q i) → Each P xs → Each Q xs
each_in P Q [] f h = tt
each_in P Q (i ∷ xs) f h = (f i (omega (arith, at_yes i.block i refl)) h.0, each_in P Q xs (λ k some-there. f k (omega arith)) h.1)

-- an item that is there
pub each_at : (P : Item → Type 0) (b : ℕ) (xs : List Item) → 0 < total (at b) xs → Each P xs → (i : Item) × (i.block ≡ b) × P i
each_at P b [] z h = absurd (omega arith)
each_at P b (i ∷ xs) z h = dite (ℕ_discrete i.block b) (λ e. (i, e, h.0)) (λ ne. each_at P b xs (omega (arith, at_no b i ne)) h.1)

-- a term of a sum that is not 0
pub some_term : (g : View → ℕ) (l : List View) → 0 < total g l → (j : ℕ) × (u : View) × (get_elem? l j ≡ some u) × (0 < g u)
some_term g [] h = absurd (omega arith)
some_term g (x ∷ xs) h = dite (dec_le 1 (g x)) (λ p. (0, x, refl, p)) (λ z. let t = some_term g xs (omega arith) in (suc t.0, t.1, t.2, t.3))

pub only_one : (g : View → ℕ) (l : List View) (id : ℕ) (v : View) → length l ≡ 1 → get_elem? l id ≡ some v → total g l ≡ g v
only_one g [] id v one e = absurd (omega arith)
only_one g (x ∷ []) zero v one e = omega (arith, ap g (some-injective x v e))
only_one g (x ∷ []) (suc id) v one e = absurd (some-ne-none v (sym e))
only_one g (x ∷ y ∷ xs) id v one e = absurd (omega arith)

pub refused_no : (word b k : ℕ) → answered k (try b word answer.Busy) ≡ 0
refused_no word b k = dite (ℕ_discrete b k) (λ e. ap (λ t. cond t 0 0) (eq-eqb b k e)) (λ ne. ap (λ t. cond t 0 0) (ne_eqb b k ne))

pub refused_else : (word k b : ℕ) → k ≢ b → refused k (try b word answer.Busy) ≡ 0
refused_else word k b ne = ap (λ t. cond t 1 0) (ne_eqb b k (λ e. ne (sym e)))

pub as_no : (word b k code : ℕ) → answered_as k code (try b word answer.Busy) ≡ 0
as_no word b k code = dite (ℕ_discrete b k) (λ e. ap (λ t. cond t 0 0) (eq-eqb b k e)) (λ ne. ap (λ t. cond t 0 0) (ne_eqb b k ne))

pub refused_as_else : (word k b code : ℕ) → k ≢ b → refused_as k code (try b word answer.Busy) ≡ 0
refused_as_else word k b code ne = ap (λ t. cond t (busy_with k code word answer.Busy) 0) (ne_eqb b k (λ e. ne (sym e)))

pub refused_as_other : (word b code : ℕ) → lane word (b % 4) ≢ code + 2 ^ 15 → refused_as b code (try b word answer.Busy) ≡ 0
refused_as_other word b code ne = ap (λ t. cond t (busy_with b code word answer.Busy) 0) (eq-eqb b b refl) ∙ ap (λ t. cond t 1 0) (ne_eqb (lane word (b % 4)) (code + 2 ^ 15) ne)

free_with : (k code word : ℕ) (e : Entry) → busy_with k code word (answer_of e) ≡ 0
free_with k code word (Settled x) = refl
free_with k code word (Pending x n) = refl
free_with k code word Bad = refl

pub free_as : (word k b code : ℕ) (e : Entry) → refused_as k code (try b word (answer_of e)) ≡ 0
free_as word k b code e = ap (λ (x : ℕ). cond (eqb b k) x 0) (free_with k code word e) ∙ dite (ℕ_discrete b k) (λ q. ap (λ t. cond t 0 0) (eq-eqb b k q)) (λ ne. ap (λ t. cond t 0 0) (ne_eqb b k ne))

says_with : (e : Entry) → other_with (code_of e) (answer_of e) ≡ 1
says_with (Settled k) = ap (λ t. cond t 1 0) (eq-eqb (code_of (Settled k)) (code_of (Settled k)) refl)
says_with (Pending k n) = ap (λ t. cond t 1 0) (eq-eqb (code_of (Pending k n)) (code_of (Pending k n)) refl)
says_with Bad = ap (λ t. cond t 1 0) (eq-eqb (code_of Bad) (code_of Bad) refl)

pub said_yes : (word b : ℕ) (e : Entry) → answered_as b (code_of e) (try b word (answer_of e)) ≡ 1
said_yes word b e = ap (λ t. cond t (other_with (code_of e) (answer_of e)) 0) (eq-eqb b b refl) ∙ says_with e

answer_free : (e : Entry) → is_busy (answer_of e) ≡ 0
answer_free (Settled k) = refl
answer_free (Pending k n) = refl
answer_free Bad = refl

pub answered_yes : (word b : ℕ) (e : Entry) → answered b (try b word (answer_of e)) ≡ 1
answered_yes word b e = ap (λ t. cond t (cond (eqb (is_busy (answer_of e)) 0) 1 0) 0) (eq-eqb b b refl) ∙ ap (λ (x : ℕ). cond (eqb x 0) 1 0) (answer_free e)

pub busy_no : (word k b : ℕ) (e : Entry) → refused k (try b word (answer_of e)) ≡ 0
busy_no word k b e = ap (λ (x : ℕ). cond (eqb b k) x 0) (answer_free e) ∙ dite (ℕ_discrete b k) (λ q. ap (λ t. cond t 0 0) (eq-eqb b k q)) (λ ne. ap (λ t. cond t 0 0) (ne_eqb b k ne))

pub alive : (b : Bool) → (b ≡ true → ⊥) → b ≡ false
alive true f = absurd (f refl)
alive false f = refl

pub code_small : (e : Entry) → IsCoded e → code_of e < 2 ^ 15
code_small (Settled k) h = omega (arith, h.1)
code_small (Pending k n) h = omega (arith, h.1)
code_small Bad h = omega arith

pub is_bad : (e : Entry) → IsCoded e → code_of e ≡ 256 → e ≡ Bad
is_bad (Settled k) h e = absurd (omega (arith, h.1))
is_bad (Pending k n) h e = absurd (omega (arith, h.1))
is_bad Bad h e = refl

pub bad_or : (e : Entry) → (e ≡ Bad) ⊎ (e ≢ Bad)
bad_or (Settled k) = inr (λ h. cc)
bad_or (Pending k n) = inr (λ h. cc)
bad_or Bad = inl refl

pub tail_of : (P : Item → Type 0) (i : Item) (held rest : List Item) → held ≡ i ∷ rest → Each P held → P i × Each P rest
tail_of P i held rest e h = let Q : List Item → Type 0 = Each P in subst Q e h

pub two_long : (l : List View) (i j : ℕ) (v w : View) → ¬ (j ≡ i) → get_elem? l i ≡ some v → get_elem? l j ≡ some w → 1 < length l
two_long [] i j v w ne e d = absurd (some-ne-none v (sym e))
two_long (x ∷ []) zero zero v w ne e d = absurd (ne refl)
two_long (x ∷ []) zero (suc j) v w ne e d = absurd (some-ne-none w (sym d))
two_long (x ∷ []) (suc i) j v w ne e d = absurd (some-ne-none v (sym e))
two_long (x ∷ y ∷ xs) i j v w ne e d = omega arith

pub there_long : (l : List View) (i : ℕ) (v : View) → get_elem? l i ≡ some v → 0 < length l
there_long [] i v e = absurd (some-ne-none v (sym e))
there_long (x ∷ xs) i v e = omega arith

pub same_tail : (i i' : Item) (rest rest' : List Item) → i ∷ rest ≡ i' ∷ rest' → rest' ≡ rest
same_tail i i' rest rest' e = cc

pub length-snoc : (l : List View) (x : View) → length (l ++ x ∷ []) ≡ length l + 1
length-snoc l x = length-append l (x ∷ [])

pub same_head : (i i' : Item) (rest rest' : List Item) → i ∷ rest ≡ i' ∷ rest' → i ≡ i'
same_head i i' rest rest' e = cc

pub some_same : {A : Type 0} (x y : A) → Rattle.std.proofs.Common.Some x ≡ Rattle.std.proofs.Common.Some y → y ≡ x
some_same x y e = cc

pub found_none : (word k b : ℕ) (a : Answer) → bad_answer a ≡ 0 → found_bad k (try b word a) ≡ 0
found_none word k b a e = ap (λ (x : ℕ). cond (eqb b k) x 0) e ∙ dite (ℕ_discrete b k) (λ q. ap (λ t. cond t 0 0) (eq-eqb b k q)) (λ ne. ap (λ t. cond t 0 0) (ne_eqb b k ne))

pub found_else : (word k b : ℕ) (a : Answer) → k ≢ b → found_bad k (try b word a) ≡ 0
found_else word k b a ne = ap (λ t. cond t (bad_answer a) 0) (ne_eqb b k (λ e. ne (sym e)))

pub good_answer : (e : Entry) → e ≢ Bad → bad_answer (answer_of e) ≡ 0
good_answer (Settled k) ne = refl
good_answer (Pending k n) ne = refl
good_answer Bad ne = absurd (ne refl)

-- a block above all that are held isn't held
pub above_none : (b : ℕ) (xs : List Item) → Each (λ i. i.block < b) xs → total (at b) xs ≡ 0
above_none b [] h = refl
above_none b (i ∷ xs) h = let below = h.0 in omega (arith, at_no b i (λ e. omega arith), above_none b xs h.1)

below_brought : (f : BookSeen) (b : ℕ) (xs : List Item) → Each (λ i. i.block < b) xs → Each (λ i. i.block < b) (map (brought f) xs)
below_brought f b [] h = tt
below_brought f b (i ∷ xs) h = (h.0, below_brought f b xs h.1)

pub falls_brought : (f : BookSeen) (xs : List Item) → IsFalling xs → IsFalling (map (brought f) xs)
falls_brought f [] h = tt
falls_brought f (i ∷ xs) h = (below_brought f i.block xs h.0, falls_brought f xs h.1)

pub falls_tail : (i : Item) (held others : List Item) → held ≡ i ∷ others → IsFalling held → IsFalling others
falls_tail i held others top h = let h' : IsFalling (i ∷ others) = subst IsFalling top h in h'.1

bad_one : (e : Entry) → bad e ≡ 0 → e ≢ Bad
bad_one (Settled k) h = λ q. cc
bad_one (Pending k n) h = λ q. cc
bad_one Bad h = absurd (omega arith)

pub bad_none : (e : Entry) → e ≢ Bad → bad e ≡ 0
bad_none (Settled k) ne = refl
bad_none (Pending k n) ne = refl
bad_none Bad ne = absurd (ne refl)

-- each held block is one of the store that wasn't found bad
pub each_good : (n : ℕ) (xs : List Item) → total (flaw n) xs ≡ 0 → Each (λ i. i.was ≢ Bad) xs
each_good n [] h = tt
each_good n (i ∷ xs) h = (bad_one i.was (omega arith), each_good n xs (omega arith))

pub top_good : (n : ℕ) (i : Item) (held others : List Item) → held ≡ i ∷ others → total (flaw n) held ≡ 0 → (i.was ≢ Bad) × (i.block < n) × (total (flaw n) others ≡ 0)
top_good n i held others top h = let h' : total (flaw n) (i ∷ others) ≡ 0 = sym (ap (total (flaw n)) top) ∙ h in (bad_one i.was (omega arith), omega arith, omega arith)

pub good_brought : (n : ℕ) (f : BookSeen) (xs : List Item) → total (flaw n) (map (brought f) xs) ≡ total (flaw n) xs
good_brought n f [] = refl
good_brought n f (i ∷ xs) = omega (arith, good_brought n f xs)
