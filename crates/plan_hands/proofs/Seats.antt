-- Books in hands, one more at the end.
use Rattle.std.proofs.Common.{◌≡◌, ◌∙◌, sym, ap, arith, ℕ, ◌+◌, min, List, [], ◌∷◌, ◌++◌, length, length-append, map}
use Rattle.std.specs.List.{range_with_len, zip}
use Rattle.std.proofs.lemmas.List.{length-map, map-append}
use Rattle.std.proofs.lemmas.List.FromFn.{length-range_with_len}
use Rattle.std.proofs.lemmas.Slice.Zip.{length-zip}
use Rattle.vd_arm.specs.Arm.{PassSeen}
use Rattle.key_state.specs.declared.seen.BookSeen.{BookSeen}
use Rattle.slave_worker.specs.Hands.{HandSeen, hand_seen}
use Rattle.slave_worker.specs.declared.hand.StoreHand.{StoreHand}
use Rattle.plan_hands.specs.Stores.{with_books}
use Rattle.plan_hands.proofs.Lists.{map_last, moved, numbered_more}

books_more : (books : List BookSeen) (book : BookSeen) → with_books (books ++ book ∷ []) ≡ with_books books ++ (length books, [], book) ∷ []
books_more books book =
    let e : 0 + length books ≡ length books = omega arith in
    ap (map (λ (one : ℕ × BookSeen). (one.0, [], one.1))) (numbered_more 0 books book)
    ∙ map-append (λ (one : ℕ × BookSeen). (one.0, [], one.1)) (zip (range_with_len 0 (length books)) books) ((0 + length books, book) ∷ [])
    ∙ ap (λ (n : ℕ). with_books books ++ (n, [], book) ∷ []) e

books_long : (books : List BookSeen) → length (with_books books) ≡ length books
books_long books =
    let pairs : length (zip (range_with_len 0 (length books)) books) ≡ min (length (range_with_len 0 (length books))) (length books) = length-zip (range_with_len 0 (length books)) books in
    let numbers : length (range_with_len 0 (length books)) ≡ length books = length-range_with_len 0 (length books) in
    let same : length (with_books books) ≡ length (zip (range_with_len 0 (length books)) books) = length-map (zip (range_with_len 0 (length books)) books) (λ (one : ℕ × BookSeen). (one.0, [], one.1)) in
    omega (arith, pairs, numbers, same)

module _ {P B : Type 0} (pass_seen : P → PassSeen) (book_seen : B → BookSeen) where
  -- So many hands are there once the books are in hands.
  pub long_with : (hands mid : List (StoreHand P B)) (books : List B) → map (hand_seen pass_seen book_seen) mid ≡ map (hand_seen pass_seen book_seen) hands ++ with_books (map book_seen books) → length mid ≡ length hands + length books
  long_with hands mid books is =
      sym (length-map mid (hand_seen pass_seen book_seen)) ∙ ap length is
      ∙ length-append (map (hand_seen pass_seen book_seen) hands) (with_books (map book_seen books))
      ∙ ap (λ (n : ℕ). n + length (with_books (map book_seen books))) (length-map hands (hand_seen pass_seen book_seen))
      ∙ ap (λ (n : ℕ). length hands + n) (books_long (map book_seen books) ∙ length-map books book_seen)

  -- One book more in its hand.
  pub seats : (hands mid new : List (StoreHand P B)) (books rest : List B) (book : B) (hand : StoreHand P B) → map (hand_seen pass_seen book_seen) mid ≡ map (hand_seen pass_seen book_seen) hands ++ with_books (map book_seen rest) → new ≡ mid ++ hand ∷ [] → books ≡ rest ++ book ∷ []
      → hand.store ≡ length rest → hand.passes.items ≡ [] → hand.book ≡ book → map (hand_seen pass_seen book_seen) new ≡ map (hand_seen pass_seen book_seen) hands ++ with_books (map book_seen books)
  seats hands mid new books rest book hand so_far is split place none its =
      let seated : hand_seen pass_seen book_seen hand ≡ (length rest, [], book_seen book) =
      ap (λ (n : ℕ). (n, map pass_seen hand.passes.items, book_seen hand.book)) place
      ∙ ap (λ (l : List P). (length rest, map pass_seen l, book_seen hand.book)) none
      ∙ ap (λ (b : B). (length rest, [], book_seen b)) its in
      moved (hand_seen pass_seen book_seen) hands mid new hand (with_books (map book_seen rest)) so_far is
      ∙ ap (λ (l : List HandSeen). map (hand_seen pass_seen book_seen) hands ++ l)
      (ap (λ (h : HandSeen). with_books (map book_seen rest) ++ h ∷ []) (seated ∙ ap (λ (n : ℕ). (n, [], book_seen book)) (sym (length-map rest book_seen)))
      ∙ sym (books_more (map book_seen rest) (book_seen book))
      ∙ ap with_books (sym (map_last book_seen books rest book split)))
