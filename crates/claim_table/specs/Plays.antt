-- What each step tells, of the step, the seat before, the number found and the seat after.
use Rattle.std.specs.Prelude.{◌≡◌, ◌≢◌, ℕ, ◌+◌, ◌%◌, ◌^◌, ◌<◌, ◌≤◌, false, List, ◌∷◌, Some}
use Rattle.atomic_table.specs.Table.{Me, Step, rest}
use Rattle.vd_arm.specs.Arm.{PassSeen}
use Rattle.key_state.specs.declared.entry.Entry.{Entry}
use Rattle.key_state.specs.declared.entry.Entry.TheVariants.{Bad}
use Rattle.key_state.specs.declared.seen.BookSeen.{BookSeen}
use Rattle.claim_table.specs.Codes.{code_of, IsCoded}
use Rattle.claim_table.specs.Lanes.{lane, word_of, shifted}
use Rattle.claim_table.specs.Sums.{Each}
use Rattle.claim_table.specs.Views.{blocks_of, parts_in, now_at, holds, bad_at, LentAs, claimed, turned_away, released, with_hand, given}
use Rattle.claim_table.specs.Passes.{IsPassFor}
use Rattle.claim_table.specs.Books.{Lends}
use Rattle.claim_table.specs.declared.view.Item.{Item}
use Rattle.claim_table.specs.declared.view.View.{View}
use Rattle.claim_table.specs.declared.slot.Shelf.{Shelf}
use Rattle.claim_table.specs.declared.slot.Slot.{Slot}
use Rattle.claim_table.specs.declared.slot.Slot.TheVariants as slot

abbrev pub Sat : Type 0 → Type 0 → Type 0
Sat P B = Me (Slot P B) View

-- the view of a seat that just got the book
abbrev pub lending : View → BookSeen → View
lending view book = record view { loan = Some book; hand = blocks_of view.made + 1 }

-- A word has this entry of the block, which is busy or not.
abbrev pub ReadsAs : ℕ → ℕ → Entry → Type 0
ReadsAs word block entry = IsCoded entry × (lane word (block % 4) % 2 ^ 15 ≡ code_of entry)

module _ {P B : Type 0} where
  -- A load: the seat is as before, and sees each block's entry: of a block that it holds the one that it was claimed with, of one that it
  -- ever met as bad that, and where it has all parts and the book, of a block that it doesn't hold the book's.
  abbrev pub looked : Step (Slot P B) → Sat P B → ℕ → Sat P B → Type 0
  looked st m r m' =
      (m' ≡ m)
      × ((b : ℕ) → m.0.spent ≡ false → b < blocks_of m.0.made → st.word ≡ word_of b
      → ((e : Entry) × ReadsAs r b e) × Each (λ i. i.block ≡ b → ReadsAs r b i.was) m.0.held
      × (0 < bad_at b m.0 → ReadsAs r b Bad)
      × (m.0.parts ≡ parts_in m.0.made → holds b m.0 ≡ 0 → (f : BookSeen) → m.0.loan ≡ Some f → ReadsAs r b (now_at f b)))

  -- A load, at which the slot that is out goes home.
  abbrev pub parks : Step (Slot P B) → Sat P B → ℕ → Sat P B → Type 0
  parks st m r m' = m' ≡ (with_hand m.0 0, rest m.1)

  -- A load, at which the slot of the newest block comes out.
  abbrev pub fetches_pass : Step (Slot P B) → Sat P B → ℕ → Sat P B → Type 0
  fetches_pass st m r m' =
      (i : Item) (others : List Item) → m.0.held ≡ i ∷ others → st.word ≡ word_of i.block
      → (m' ≡ (with_hand m.0 (i.block + 1), (i.block, slot.Empty) ∷ m.1)) × (lane r (i.block % 4) ≡ code_of i.was + 2 ^ 15)

  -- A load, at which the book's place comes out.
  abbrev pub fetches_book : Step (Slot P B) → Sat P B → ℕ → Sat P B → Type 0
  fetches_book st m r m' = (shelf : Shelf B) × (m' ≡ (with_hand m.0 (blocks_of m.0.made + 1), (blocks_of m.0.made, slot.Book shelf) ∷ m.1))

  abbrev pub releases : Step (Slot P B) → Sat P B → ℕ → Sat P B → Type 0
  releases st m r m' = (i : Item) (others : List Item) → m.0.held ≡ i ∷ others → m' ≡ (with_hand (released m.0 others) 0, rest m.1)

  -- A bad block is put back, and no slot moves.
  abbrev pub puts_back : Step (Slot P B) → Sat P B → ℕ → Sat P B → Type 0
  puts_back st m r m' = (i : Item) (others : List Item) → m.0.held ≡ i ∷ others → m' ≡ (released m.0 others, m.1)

module _ {P B : Type 0} (pass_seen : P → PassSeen) (book_seen : B → BookSeen) where
  -- what a claim of block b tells where it found this word, and x in the block's lane
  abbrev pub Claiming : ℕ → ℕ → ℕ → Sat P B → Sat P B → Type 0
  Claiming b word x m m' =
      (2 ^ 15 ≤ x → (m' ≡ (turned_away m.0 b word, m.1)) × (m.0.parts < parts_in m.0.made) × ((e : Entry) × IsCoded e × (x ≡ code_of e + 2 ^ 15)))
      × (x < 2 ^ 15 → (e : Entry) × IsCoded e × (x ≡ code_of e)
      × (e ≡ Bad → m' ≡ (claimed m.0 b word e, m.1))
      × (e ≢ Bad → (pass : P) × (m' ≡ (with_hand (claimed m.0 b word e) (b + 1), (b, slot.Pass pass) ∷ m.1)) × IsPassFor m.0.made b e (pass_seen pass))
      × LentAs m.0 b e)

  abbrev pub claims : Step (Slot P B) → Sat P B → ℕ → Sat P B → Type 0
  claims st m r m' = (b : ℕ) → st.word ≡ word_of b → st.first ≡ shifted b (2 ^ 15) → Claiming b r (lane r (b % 4)) m m'

  abbrev pub takes_book : Step (Slot P B) → Sat P B → ℕ → Sat P B → Type 0
  takes_book st m r m' =
      (r ≡ 0 → (x : B) × (shelf : Shelf B) × (m' ≡ (lending m.0 (book_seen x), (blocks_of m.0.made, slot.Book shelf) ∷ m.1)) × (shelf.place.value ≡ Some x) × Lends m.0 (book_seen x))
      × (r ≢ 0 → m' ≡ m)

  abbrev pub gives_book : Step (Slot P B) → Sat P B → ℕ → Sat P B → Type 0
  gives_book st m r m' = (x : B) (shelf : Shelf B) → m.1 ≡ (blocks_of m.0.made, slot.Book shelf) ∷ rest m.1 → shelf.place.value ≡ Some x → m' ≡ (given m.0 (book_seen x), rest m.1)
