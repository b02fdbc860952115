-- Verified stores and books, put into hands one by one.
use Rattle.std.proofs.Common.{◌≡◌, ◌∙◌, refl, sym, ap, arith, ℕ, suc, ◌+◌, List, [], ◌∷◌, ◌++◌, length, length-append, map}
use Rattle.std.proofs.lemmas.List.{length-map}
use Rattle.vd_arm.specs.Arm.{PassSeen}
use Rattle.key_state.specs.declared.entry.Entry.{Entry}
use Rattle.key_state.specs.declared.seen.BookSeen.{BookSeen}
use Rattle.slave_worker.specs.Hands.{HandSeen, hand_seen}
use Rattle.slave_worker.specs.declared.hand.StoreHand.{StoreHand}
use Rattle.plan_hands.specs.Stores.{book_of}
use Rattle.plan_hands.proofs.Lists.{map_last, moved}
use Rattle.plan_verified.specs.Stores.{StoreSeen, passes_of, settled_of, store_seen}
use Rattle.plan_verified.specs.declared.verified.VerifiedStore.{VerifiedStore}
use Rattle.plan_resumed.specs.Seating.{emptied, seated_from, with_passes}

-- So many are there once more came behind them.
pub long_behind : {X Y : Type 0} (f : X → Y) (to mid : List X) (more : List Y) → map f mid ≡ map f to ++ more → length mid ≡ length to + length more
long_behind f to mid more is = sym (length-map mid f) ∙ ap length is ∙ length-append (map f to) more ∙ ap (λ (n : ℕ). n + length more) (length-map to f)

pub long_twice : {X Y Z : Type 0} (f : X → Y) (g : Y → Z) (xs : List X) → length (map g (map f xs)) ≡ length xs
long_twice f g xs = length-map (map f xs) g ∙ length-map xs f

pub long_same : {X Y : Type 0} (f : X → Y) (g : Y → Y) (xs ys : List X) → map f ys ≡ map g (map f xs) → length ys ≡ length xs
long_same f g xs ys is = sym (length-map ys f) ∙ ap length is ∙ length-map (map f xs) g ∙ length-map xs f

-- The entries of one store more.
pub settled_more : {V E : Type 0} (seen : V → StoreSeen) (items : E → List Entry) (to mid new : List E) (one : E) (stores rest : List V) (store : V) → map items mid ≡ map items to ++ map settled_of (map seen rest) → new ≡ mid ++ one ∷ [] → stores ≡ rest ++ store ∷ [] → items one ≡ settled_of (seen store)
    → map items new ≡ map items to ++ map settled_of (map seen stores)
settled_more seen items to mid new one stores rest store so_far is split its =
    moved items to mid new one (map settled_of (map seen rest)) so_far is
    ∙ ap (λ (l : List (List Entry)). map items to ++ l)
    (ap (λ (e : List Entry). map settled_of (map seen rest) ++ e ∷ []) its
    ∙ sym (map_last settled_of (map seen stores) (map seen rest) (seen store) (map_last seen stores rest store split)))

pub emptied_more : {V : Type 0} (seen : V → StoreSeen) (mid new : List V) (now : V) (stores rest : List V) (store : V) → map seen mid ≡ map emptied (map seen rest) → new ≡ mid ++ now ∷ [] → stores ≡ rest ++ store ∷ [] → seen now ≡ emptied (seen store)
    → map seen new ≡ map emptied (map seen stores)
emptied_more seen mid new now stores rest store so_far is split its =
    map_last seen new mid now is
    ∙ ap (λ (l : List StoreSeen). l ++ seen now ∷ []) so_far
    ∙ ap (λ (s : StoreSeen). map emptied (map seen rest) ++ s ∷ []) its
    ∙ sym (map_last emptied (map seen stores) (map seen rest) (seen store) (map_last seen stores rest store split))

seated_more : (n : ℕ) (left : List StoreSeen) (books : List BookSeen) (l : StoreSeen) (b : BookSeen) → length left ≡ length books → seated_from n (left ++ l ∷ []) (books ++ b ∷ []) ≡ seated_from n left books ++ (n + length books, passes_of l, b) ∷ []
seated_more n [] [] l b e = let same : n ≡ n + 0 = omega arith in ap (λ (k : ℕ). (k, passes_of l, b) ∷ []) same
seated_more n [] (y ∷ books) l b e = absurd (omega (arith, e))
seated_more n (x ∷ left) [] l b e = absurd (omega (arith, e))
seated_more n (x ∷ left) (y ∷ books) l b e =
    let same : n + 1 + length books ≡ n + suc (length books) = omega arith in
    ap (λ (t : List HandSeen). (n, passes_of x, y) ∷ t)
    (seated_more (n + 1) left books l b (omega (arith, e)) ∙ ap (λ (k : ℕ). seated_from (n + 1) left books ++ (k, passes_of l, b) ∷ []) same)

pub long_seated : (n : ℕ) (left : List StoreSeen) (books : List BookSeen) → length left ≡ length books → length (seated_from n left books) ≡ length books
long_seated n [] [] e = refl
long_seated n [] (y ∷ books) e = absurd (omega (arith, e))
long_seated n (x ∷ left) [] e = absurd (omega (arith, e))
long_seated n (x ∷ left) (y ∷ books) e = let rest = long_seated (n + 1) left books (omega (arith, e)) in omega (arith, rest)

-- Their books are those; and what they are seated with are their passes alone.
pub seated_books : (n : ℕ) (left : List StoreSeen) (books : List BookSeen) → length left ≡ length books → map book_of (seated_from n left books) ≡ books
seated_books n [] [] e = refl
seated_books n [] (y ∷ books) e = absurd (omega (arith, e))
seated_books n (x ∷ left) [] e = absurd (omega (arith, e))
seated_books n (x ∷ left) (y ∷ books) e = ap (λ (l : List BookSeen). y ∷ l) (seated_books (n + 1) left books (omega (arith, e)))

pub seated_emptied : (n : ℕ) (left : List StoreSeen) (books : List BookSeen) → seated_from n (map emptied left) books ≡ seated_from n left books
seated_emptied n [] books = refl
seated_emptied n (x ∷ left) [] = refl
seated_emptied n (x ∷ left) (y ∷ books) = ap (λ (l : List HandSeen). (n, passes_of x, y) ∷ l) (seated_emptied (n + 1) left books)

module _ {P B : Type 0} (pass_seen : P → PassSeen) (book_seen : B → BookSeen) where
  abbrev left_of : List (VerifiedStore P) → List StoreSeen
  left_of stores = map (store_seen pass_seen) stores

  -- So many hands are there once stores and books are in hands.
  pub long_hands : (hands mid : List (StoreHand P B)) (stores : List (VerifiedStore P)) (books : List B) → length stores ≡ length books → map (hand_seen pass_seen book_seen) mid ≡ map (hand_seen pass_seen book_seen) hands ++ with_passes (map (store_seen pass_seen) stores) (map book_seen books)
      → length mid ≡ length hands + length books
  long_hands hands mid stores books as_many is =
      long_behind (hand_seen pass_seen book_seen) hands mid (with_passes (left_of stores) (map book_seen books)) is
      ∙ ap (λ (n : ℕ). length hands + n)
      (long_seated 0 (left_of stores) (map book_seen books) (length-map stores (store_seen pass_seen) ∙ as_many ∙ sym (length-map books book_seen)) ∙ length-map books book_seen)

  -- One store and its book more.
  pub seats : (hands mid new : List (StoreHand P B)) (stores others : List (VerifiedStore P)) (store : VerifiedStore P) (books rest : List B) (book : B) (hand : StoreHand P B)
      → map (hand_seen pass_seen book_seen) mid ≡ map (hand_seen pass_seen book_seen) hands ++ with_passes (map (store_seen pass_seen) others) (map book_seen rest)
      → new ≡ mid ++ hand ∷ [] → stores ≡ others ++ store ∷ [] → books ≡ rest ++ book ∷ [] → length others ≡ length rest → hand.store ≡ length rest → hand.passes ≡ store.passes → hand.book ≡ book
      → map (hand_seen pass_seen book_seen) new ≡ map (hand_seen pass_seen book_seen) hands ++ with_passes (map (store_seen pass_seen) stores) (map book_seen books)
  seats hands mid new stores others store books rest book hand so_far is split book_split as_many place passes its =
      let many : length (left_of others) ≡ length (map book_seen rest) = length-map others (store_seen pass_seen) ∙ as_many ∙ sym (length-map rest book_seen) in
      let seated : hand_seen pass_seen book_seen hand ≡ (0 + length (map book_seen rest), passes_of (store_seen pass_seen store), book_seen book) =
      ap (λ (n : ℕ). (n, map pass_seen hand.passes.items, book_seen hand.book)) (place ∙ sym (length-map rest book_seen) ∙ (let zero_more : length (map book_seen rest) ≡ 0 + length (map book_seen rest) = omega arith in zero_more))
      ∙ ap (λ (l : _). (0 + length (map book_seen rest), map pass_seen l, book_seen hand.book)) (ap (λ (v : _). v.items) passes)
      ∙ ap (λ (b : B). (0 + length (map book_seen rest), passes_of (store_seen pass_seen store), book_seen b)) its in
      moved (hand_seen pass_seen book_seen) hands mid new hand (with_passes (left_of others) (map book_seen rest)) so_far is
      ∙ ap (λ (l : List HandSeen). map (hand_seen pass_seen book_seen) hands ++ l)
      (ap (λ (h : HandSeen). with_passes (left_of others) (map book_seen rest) ++ h ∷ []) seated
      ∙ sym (seated_more 0 (left_of others) (map book_seen rest) (store_seen pass_seen store) (book_seen book) many)
      ∙ ap (λ (l : List StoreSeen). with_passes l (map book_seen rest ++ book_seen book ∷ [])) (sym (map_last (store_seen pass_seen) stores others store split))
      ∙ ap (with_passes (left_of stores)) (sym (map_last book_seen books rest book book_split)))
