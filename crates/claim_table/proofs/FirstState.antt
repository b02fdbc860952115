-- The table as it is made keeps the rule.
use Rattle.std.proofs.Common.{◌≡◌, ℕ, zero, suc, ◌+◌, ◌/◌, ◌%◌, ◌^◌, ◌<◌, ◌≤◌, true, ◌≢◌, List, [], ◌∷◌, ◌++◌, map, length, get_or, set, sym, refl, ap, ◌∙◌, subst, inl, arith, length-set, length-append, get_or-set_other, bit_or, Option, Some, None, slice_get, slice_index_or}
use Rattle.std.proofs.lemmas.List.{length-map}
use mathlib.Core.Logic.{dite}
use mathlib.Core.Bool.{false≢true}
use mathlib.Core.Option.{some, some-injective, some-ne-none}
use native.Mathlib.Decide.{ℕ_discrete}
use lib.ListN.{get_elem?}
use Rattle.atomic_table.specs.Table.{opening}
use Rattle.atomic_table.proofs.Lists.{at_map, at_longer, at_last}
use Rattle.vd_arm.specs.Arm.{PassSeen}
use Rattle.key_state.specs.Books.{follows_same, IsBook}
use Rattle.key_state.specs.declared.entry.Entry.{Entry}
use Rattle.key_state.specs.declared.entry.Entry.TheVariants.{Settled, Pending, Bad}
use Rattle.key_state.specs.declared.seen.BookSeen.{BookSeen}
use Rattle.claim_table.specs.Codes.{code_of, IsCoded, HasKeys}
use Rattle.claim_table.specs.Lanes.{lane, word_of, code_at, shifted}
use Rattle.claim_table.specs.Sums.{total, Each}
use Rattle.claim_table.specs.Views.{blocks_of, now_at, at, start}
use Rattle.claim_table.specs.Passes.{ToldFits, IsPassFor}
use Rattle.claim_table.specs.Rule.{FitsView, Parked, Kept}
use Rattle.claim_table.specs.declared.view.View.{View}
use Rattle.claim_table.specs.declared.view.Made.{Made}
use Rattle.claim_table.specs.declared.slot.Shelf.{Shelf}
use Rattle.claim_table.specs.declared.slot.Slot.{Slot}
use Rattle.claim_table.specs.declared.slot.Slot.TheVariants as slot
use Rattle.claim_table.proofs.LaneSteps.{lane_or, op_here, op_there, or_none}
use Rattle.claim_table.proofs.Basics.{code_small, some_same}
use Rattle.claim_table.proofs.SlotParts.{same_pass}
use Rattle.std.proofs.Math.Nat.{zero-div}
use Rattle.std.proofs.lemmas.Nat.{or_comm}
use Rattle.claim_table.specs.Passes.{ArePasses}
use Rattle.claim_table.specs.Openings.{HasEntries, made_with, CameFrom, AreSlots, passes_in}

only_first : (Q : View → Type 0) (w : View) (j : ℕ) (v : View) → get_elem? (w ∷ []) j ≡ some v → Q w → Q v
only_first Q w zero v e h = subst Q (some-injective w v e) h
only_first Q w (suc j) v e h = absurd (some-ne-none v (sym e))

no_loan : (f : BookSeen) → None ≡ Some f → ⊥
no_loan f e = cc

-- an element of a list that was mapped, by each way of reading a list
there : {A : Type 0} (xs : List A) (i : ℕ) → i < length xs → (x : A) × (get_elem? xs i ≡ some x)
there [] i h = absurd (omega arith)
there (x ∷ xs) zero h = (x, refl)
there (x ∷ xs) (suc i) h = there xs i (omega arith)

mapped : {A B : Type 0} (f : A → B) (xs : List A) (i : ℕ) (x : A) (d : B) → get_elem? xs i ≡ some x → (slice_get (map f xs) i ≡ Some (f x)) × (slice_index_or (map f xs) i d ≡ f x)
mapped f [] i x d at = absurd (some-ne-none x (sym at))
mapped f (z ∷ xs) zero x d at = let e = some-injective z x at in (ap (λ t. Some (f t)) e, ap f e)
mapped f (z ∷ xs) (suc i) x d at = mapped f xs i x d at

module _ {P B : Type 0} (pass_seen : P → PassSeen) (book_seen : B → BookSeen) (made : Made) where
  pub starts : (ws : List ℕ) (xs : List (Slot P B)) → HasEntries made.book (blocks_of made) ws → IsBook made.book
      → length xs ≡ blocks_of made + 1
      → ((b : ℕ) → b < blocks_of made → (p : P) × (get_elem? xs b ≡ some (slot.Pass p)) × IsPassFor made b (now_at made.book b) (pass_seen p) × ((pass_seen p).told ≡ slice_index_or made.told b None))
      → (x : B) × (shelf : Shelf B) × (get_elem? xs (blocks_of made) ≡ some (slot.Book shelf)) × (shelf.place.value ≡ Some x) × (book_seen x ≡ made.book)
      → length made.book.now ≡ blocks_of made → 0 < made.seats
      → Kept pass_seen book_seen made (opening ws xs (start made))
  starts ws xs words is long passes home sized some-seat =
      let v : View = start made in
      let coded : (b : ℕ) → b < blocks_of made → IsCoded (now_at made.book b) = λ b near. (is.valid b (omega arith), (words.codes b near).1) in
      let ends = is.ends_range in
      let clears = is.clears_range in
      record {
        book = made.book;
        claims = record {
          wide = words.wide;
          busy = λ b near. let t = words.codes b near in let s = code_small (now_at made.book b) (coded b near) in omega (arith, t.0);
          outside = λ b far. refl;
          entries = is.valid;
          free = λ b near _. ((words.codes b near).0, coded b near);
          each = λ j u e. only_first (FitsView made made.book ws) v j u e record { held = tt; falls = tt; few = omega arith; stands = tt; said = tt; live = λ _. (refl, omega arith); dead = λ q. absurd (false≢true q) };
          met = λ b h. absurd (omega arith);
          found = λ b code h. absurd (omega arith);
          alone = λ _ b. refl;
          whole = omega arith;
          sized = sized;
          stays = λ b near h. absurd (omega arith);
        };
        counts = record {
          ends = omega arith;
          clears = omega arith;
          spoilt = omega arith;
          bad_met = λ b h. absurd (omega arith);
          follows = follows_same made.book;
          after = tt;
          given = inl refl;
          idle = λ j u e q. only_first (λ z. (z.wrote ≡ []) × (z.cleared ≡ []) × (z.spoilt ≡ []) × (z.gave ≡ [])) v j u e (refl, refl, refl, refl);
          told_shut = λ j u e q. absurd (only_first (λ z. z.shut ≡ true → ⊥) v j u e (λ z. false≢true z) q);
        };
        slots = record {
          long = length-map xs some ∙ long;
          home = λ b near _. let t = passes b near in (t.0, at_map some xs b (slot.Pass t.0) t.1, t.2);
          parked = λ j u e. only_first (λ z. Each (Parked pass_seen book_seen made made.book (map some xs) z.hand) z.held) v j u e tt;
          untouched = λ b p near at-b _. let t = passes b near in
              let same : t.0 ≡ p = same_pass {B = B} t.0 p (some-injective (slot.Pass t.0) (slot.Pass p) (some-injective (some (slot.Pass t.0)) (some (slot.Pass p)) (sym (at_map some xs b (slot.Pass t.0) t.1) ∙ at-b))) in
              ap (λ (q : P). (pass_seen q).told) (sym same) ∙ t.3;
        };
        lock = record {
          bit = sym words.unlocked;
          one = omega (arith, words.unlocked);
          loan = λ j u f e q. absurd (only_first (λ z. z.loan ≡ Some f → ⊥) v j u e (no_loan f) q);
          awake = λ j u f e q. absurd (only_first (λ z. z.loan ≡ Some f → ⊥) v j u e (no_loan f) q);
          home = λ _. (home.0, home.1, at_map some xs (blocks_of made) (slot.Book home.1) home.2, home.3, home.4);
        };
      }

pub zeros : (ws : List ℕ) (i : ℕ) → total (λ n. n) ws ≡ 0 → get_or ws i 0 ≡ 0
zeros [] i e = refl
zeros (x ∷ xs) zero e = omega arith
zeros (x ∷ xs) (suc i) e = zeros xs i (omega arith)

pub no_codes : (ws : List ℕ) (b : ℕ) → total (λ n. n) ws ≡ 0 → code_at ws b ≡ 0
no_codes ws b none-set = ap (λ (k : ℕ). lane k (b % 4)) (zeros ws (word_of b) none-set) ∙ rw zero-div refl

module _ {P B : Type 0} (pass_seen : P → PassSeen) (book_seen : B → BookSeen) where
  -- a table over these passes and this book
  pub starts_with : (store : Rattle.vd_base.specs.declared.geometry.StoreId.StoreId) (seats : ℕ) (passes : List P) (book : B) (shelf : Shelf B) (ws : List ℕ) (xs : List (Slot P B)) (made : Made) → made ≡ made_with pass_seen book_seen store seats passes book
      → HasEntries (book_seen book) store.geometry.blocks ws → IsBook (book_seen book) → xs ≡ map slot.Pass passes ++ slot.Book shelf ∷ [] → shelf.place.value ≡ Some book
      → ArePasses store (map pass_seen passes) → length (book_seen book).now ≡ store.geometry.blocks → 1 ≤ seats
      → Kept pass_seen book_seen made (opening ws xs (start made))
  starts_with store seats passes book shelf ws xs made is words valid slots has are sized some-seat =
      let same : Made = made_with pass_seen book_seen store seats passes book in
      let F : Made → Type 0 = λ m. Kept pass_seen book_seen m (opening ws xs (start m)) in
      let n : ℕ = store.geometry.blocks in
      let all : List (Slot P B) = map slot.Pass passes in
      let many : length passes ≡ n = sym (length-map passes pass_seen) ∙ are.many in
      let long : length all ≡ n = length-map passes slot.Pass ∙ many in
      subst F (sym is) (starts pass_seen book_seen same ws xs words valid
      (ap length slots ∙ (length-append all (slot.Book shelf ∷ []) ∙ omega arith))
      (λ b near.
      let p = there passes b (omega arith) in
      let seen = mapped pass_seen passes b p.0 (pass_seen p.0) p.1 in
      let told = mapped (λ (q : P). (pass_seen q).told) passes b p.0 None p.1 in
      let of = are.each b (pass_seen p.0) seen.0 in
      let T : Option (List ℕ) → Type 0 = ToldFits store b (now_at (book_seen book) b) in (
        p.0,
        ap (λ (l : List (Slot P B)). get_elem? l b) slots ∙ at_longer all (slot.Book shelf ∷ []) b (slot.Pass p.0) (at_map slot.Pass passes b p.0 p.1),
        record { of = of.0; sized = of.1; fits = λ fitted. subst T told.1 (fitted b near) },
        sym told.1,
      ))
      (book, shelf, ap (λ (l : List (Slot P B)). get_elem? l n) slots ∙ at_last all (slot.Book shelf) n long, has, refl)
      sized some-seat)

code_less : (e : Entry) → HasKeys e → code_of e < 2 ^ 16
code_less (Settled k) h = omega arith
code_less (Pending k n) h = omega arith
code_less Bad h = omega arith

-- what is kept while the entries of the blocks below one are packed
pub record Packed (book : BookSeen) (n block : ℕ) (ws : List ℕ) : Type 0 where
  pub wide : length ws ≡ (n + 3) / 4 + 1
  pub unlocked : get_or ws 0 0 ≡ 0
  pub codes : (b : ℕ) → b < block → (code_at ws b ≡ code_of (now_at book b)) × HasKeys (now_at book b)
  pub left : (b : ℕ) → block ≤ b → code_at ws b ≡ 0

packed_word : (book : BookSeen) (n block : ℕ) (ws : List ℕ) → Packed book n block ws → block < n → HasKeys (now_at book block)
    → Packed book n (block + 1) (set ws (word_of block) (bit_or (get_or ws (word_of block) 0) (shifted block (code_of (now_at book block)))))
packed_word book n block ws p near keys =
    let code : ℕ = code_of (now_at book block) in
    let small : code < 2 ^ 16 = code_less (now_at book block) keys in
    let wide = p.wide in
    let inside : word_of block < length ws = omega arith in
    let W : List ℕ = set ws (word_of block) (bit_or (get_or ws (word_of block) 0) (shifted block code)) in
    let here : code_at W block ≡ code = op_here bit_or lane_or or_none ws block code inside small ∙ (ap (λ (k : ℕ). bit_or k code) (p.left block (omega arith)) ∙ (or_comm 0 code ∙ or_none code)) in
    let other : (c : ℕ) → c ≢ block → code_at W c ≡ code_at ws c = λ c. op_there bit_or lane_or or_none ws block code c inside small in
    record {
      wide = length-set ws (word_of block) (bit_or (get_or ws (word_of block) 0) (shifted block code)) ∙ p.wide;
      unlocked = get_or-set_other ws (word_of block) 0 (bit_or (get_or ws (word_of block) 0) (shifted block code)) 0 (λ e. omega arith) ∙ p.unlocked;
      codes = λ b low. dite (ℕ_discrete b block)
          (λ (e : b ≡ block). let Q : ℕ → Type 0 = λ z. (code_at W z ≡ code_of (now_at book z)) × HasKeys (now_at book z) in subst Q (sym e) (here, keys))
          (λ (ne : b ≢ block). let was = p.codes b (omega arith) in (other b ne ∙ was.0, was.1));
      left = λ b high. other b (λ e. omega arith) ∙ p.left b (omega arith);
    }

pub packed_more : (book : BookSeen) (n block : ℕ) (ws : List ℕ) (i w x : ℕ) (e : Entry) → Packed book n block ws → block < n → i ≡ word_of block → w ≡ get_or ws i 0 → x ≡ shifted block (code_of e) → e ≡ now_at book block → HasKeys e
    → Packed book n (block + 1) (set ws i (bit_or w x))
packed_more book n block ws i w x e p near at is of same keys =
    let Q : ℕ × ℕ × ℕ → Type 0 = λ z. Packed book n (block + 1) (set ws z.0 (bit_or z.1 z.2)) in
    let F : ℕ → ℕ = λ j. get_or ws j 0 in
    subst Q (λ q. (sym at q, sym (is ∙ ap F at) q, sym (of ∙ ap (λ (z : Entry). shifted block (code_of z)) same) q)) (packed_word book n block ws p near (subst HasKeys same keys))

-- the last elements of two equal lists
pub last_same : {A : Type 0} (xs ys : List A) (x y : A) → xs ++ x ∷ [] ≡ ys ++ y ∷ [] → (xs ≡ ys) × (x ≡ y)
last_same [] [] x y e = (refl, cc)
last_same [] (b ∷ []) x y e = absurd (omega (arith, ap length e))
last_same [] (b ∷ c ∷ ys) x y e = absurd (omega (arith, ap length e))
last_same (a ∷ []) [] x y e = absurd (omega (arith, ap length e))
last_same (a ∷ c ∷ xs) [] x y e = absurd (omega (arith, ap length e))
last_same (a ∷ xs) (b ∷ ys) x y e =
    let head : a ≡ b = cc in
    let rest : xs ++ x ∷ [] ≡ ys ++ y ∷ [] = cc in
    let t = last_same xs ys x y rest in
    ((λ i. head i ∷ t.0 i), t.1)

book_slots : {P B : Type 0} (x y : Shelf B) → ◌≡◌ {A = Slot P B} (slot.Book x) (slot.Book y) → x ≡ y
book_slots x y e = cc

pub passes_all : {P : Type 0} (B : Type 0) (passes : List P) → passes_in {B = B} (map slot.Pass passes) ≡ passes
passes_all B [] = refl
passes_all B (p ∷ passes) = ap (λ l. p ∷ l) (passes_all B passes)

pub passes_append : {P B : Type 0} (xs : List (Slot P B)) (s : Slot P B) → passes_in (xs ++ s ∷ []) ≡ passes_in xs ++ passes_in (s ∷ [])
passes_append [] (slot.Pass p) = refl
passes_append [] slot.Empty = refl
passes_append [] (slot.Book b) = refl
passes_append (slot.Pass p ∷ xs) s = ap (λ l. p ∷ l) (passes_append xs s)
passes_append (slot.Empty ∷ xs) s = passes_append xs s
passes_append (slot.Book b ∷ xs) s = passes_append xs s

pub passes_few : {P B : Type 0} (xs : List (Slot P B)) → length (passes_in xs) ≤ length xs
passes_few [] = omega arith
passes_few (slot.Pass p ∷ xs) = omega (arith, passes_few xs)
passes_few (slot.Empty ∷ xs) = omega (arith, passes_few xs)
passes_few (slot.Book b ∷ xs) = omega (arith, passes_few xs)

pub value_at : (ws : List ℕ) (i w : ℕ) → i < length ws → w ≡ get_or ws i w → w ≡ get_or ws i 0
value_at [] i w h is = absurd (omega arith)
value_at (x ∷ ws) zero w h is = is
value_at (x ∷ ws) (suc i) w h is = value_at ws i w (omega arith) is

-- what came back is what went in
pub came_back : {P B : Type 0} (slots : List (Slot P B)) (passes passes' : List P) (shelf : Shelf B) (book book' : B) → slots ≡ map slot.Pass passes ++ slot.Book shelf ∷ [] → shelf.place.value ≡ Some book → CameFrom slots passes' book'
    → (passes' ≡ passes) × (book' ≡ book)
came_back {P} {B} slots passes passes' shelf book book' is has came =
    let t = last_same (map slot.Pass passes') (map slot.Pass passes) (slot.Book came.0) (slot.Book shelf) (sym came.1 ∙ is) in
    let same : came.0 ≡ shelf = book_slots {P = P} came.0 shelf t.1 in
    (sym (passes_all B passes') ∙ (ap passes_in t.0 ∙ passes_all B passes), some_same book book' (sym has ∙ (ap (λ (z : Shelf B). z.place.value) (sym same) ∙ came.2)))

-- the passes and the book of slots of which the last was taken
pub came_from : {P B : Type 0} (slots front yielded : List (Slot P B)) (room : List P) (shelf : Shelf B) (book : B) → AreSlots slots → slots ≡ front ++ slot.Book shelf ∷ [] → yielded ≡ front → room ≡ passes_in yielded → shelf.place.value ≡ Some book → CameFrom slots room book
came_from {P} {B} slots front yielded room shelf book are is all has-passes has =
    let t = last_same front (map slot.Pass are.0) (slot.Book shelf) (slot.Book are.2.0) (sym is ∙ are.2.1) in
    let same : room ≡ are.0 = has-passes ∙ (ap passes_in (all ∙ t.0) ∙ passes_all B are.0) in
    (shelf, is ∙ ap (λ (xs : List (Slot P B)). xs ++ slot.Book shelf ∷ []) (t.0 ∙ ap (map slot.Pass) (sym same)), has)
