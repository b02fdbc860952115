-- The rule of the table: what the words, the book, the slots and the views of the seats have to do with each other.
use Rattle.std.specs.Prelude.{◌≡◌, ◌≢◌, ℕ, ◌+◌, ◌/◌, ◌%◌, ◌^◌, ◌<◌, ◌≤◌, Bool, true, false, List, [], ◌∷◌, length, map, slice_index, slice_index_or, Some, None}
use mathlib.Core.Option as maybe
use mathlib.Core.Option.{some}
use lib.ListN.{get_elem?}
use Rattle.atomic_table.specs.Table.{State}
use Rattle.vd_arm.specs.Arm.{PassSeen}
use Rattle.key_state.specs.Entries.{IsPending, AreEntries}
use Rattle.key_state.specs.Books.{Follows}
use Rattle.key_state.specs.declared.entry.Entry.TheVariants.{Bad}
use Rattle.key_state.specs.declared.seen.BookSeen.{BookSeen}
use Rattle.claim_table.specs.Codes.{code_of, IsCoded}
use Rattle.claim_table.specs.Lanes.{code_at}
use Rattle.claim_table.specs.Sums.{total, Each, Among}
use Rattle.claim_table.specs.Views.{blocks_of, parts_in, now_at, synced_at, holds, answered, answered_as, busy_at, other_at, busy_as, other_as, bad_at, parts, bad, has_loan, gave_by, IsFalling}
use Rattle.claim_table.specs.Passes.{IsPassFor}
use Rattle.claim_table.specs.declared.view.Item.{Item}
use Rattle.claim_table.specs.declared.view.Try.{Try}
use Rattle.claim_table.specs.declared.view.View.{View}
use Rattle.claim_table.specs.declared.view.Made.{Made}
use Rattle.claim_table.specs.declared.slot.Shelf.{Shelf}
use Rattle.claim_table.specs.declared.slot.Slot.{Slot}
use Rattle.claim_table.specs.declared.slot.Slot.TheVariants as slot
use Rattle.claim_table.specs.declared.slot.Key.{Key}

-- An item, the word of its block and the book: the word has the entry as claimed, and the book the item's own.
pub record Agrees (book : BookSeen) (words : List ℕ) (i : Item) : Type 0 where
  pub word : code_at words i.block ≡ code_of i.was + 2 ^ 15
  pub owned : now_at book i.block ≡ i.own
  pub coded : IsCoded i.was
  pub safe : i.safe ≡ true → IsPending i.own × (synced_at book i.block ≡ i.own)

-- what a view's fields have to do with each other and with the book
pub record Fits (made : Made) (book : BookSeen) (words : List ℕ) (has : List Item) (mine : List Try) (share : ℕ) (spent : Bool) (knows : Made) : Type 0 where
  pub held : Each (Agrees book words) has
  pub falls : IsFalling has
  pub few : length has ≤ 64
  pub stands : Each (λ i. 0 < total (answered i.block) mine) has
  pub said : Each (λ i. 0 < total (answered_as i.block (code_of i.was)) mine) has
  pub live : spent ≡ false → (knows ≡ made) × (0 < share)
  pub dead : spent ≡ true → (has ≡ []) × (mine ≡ []) × (share ≡ 0)

abbrev pub FitsView : Made → BookSeen → List ℕ → View → Type 0
FitsView made book words view = Fits made book words view.held view.mine view.parts view.spent view.made

-- The words of the blocks: a block is busy exactly where one view holds it, and else its word has the book's entry. That of a block that
-- was ever met as bad stays bad. Each word in which a block was found busy has the entry with which a claim of that block was answered.
pub record Claims (made : Made) (book : BookSeen) (words : List ℕ) (views : List View) : Type 0 where
  pub wide : length words ≡ (blocks_of made + 3) / 4 + 1
  pub busy : (b : ℕ) → b < blocks_of made → total (holds b) views ≡ code_at words b / 2 ^ 15
  pub outside : (b : ℕ) → blocks_of made ≤ b → total (holds b) views ≡ 0
  pub entries : AreEntries book.now
  pub free : (b : ℕ) → b < blocks_of made → code_at words b < 2 ^ 15 → (code_at words b ≡ code_of (now_at book b)) × IsCoded (now_at book b)
  pub each : (j : ℕ) (view : View) → get_elem? views j ≡ some view → FitsView made book words view
  pub met : (b : ℕ) → 0 < total (busy_at b) views → 0 < total (other_at b) views
  pub found : (b code : ℕ) → 0 < total (busy_as b code) views → 0 < total (other_as b code) views
  pub alone : length views ≡ 1 → (b : ℕ) → total (busy_at b) views ≡ 0
  pub whole : total parts views ≡ parts_in made
  pub sized : length book.now ≡ blocks_of made
  pub stays : (b : ℕ) → b < blocks_of made → 0 < total (bad_at b) views → code_at words b % 2 ^ 15 ≡ code_of Bad

-- The tallies: each write that was ended, each block that was cleared and each that was made bad stands in one view. The book is the one
-- that the table was made with, or stands in a view as one that was given back, and it follows each of these.
pub record Counts (made : Made) (book : BookSeen) (views : List View) : Type 0 where
  pub ends : book.ends ≡ (made.book.ends + total (λ view. length view.wrote) views) % 2 ^ 64
  pub clears : book.clears ≡ (made.book.clears + total (λ view. length view.cleared) views) % 2 ^ 64
  pub spoilt : total bad book.now ≡ total bad made.book.now + total (λ view. length view.spoilt) views
  pub bad_met : (b : ℕ) → 0 < total (bad_at b) views → now_at book b ≡ Bad
  pub follows : Follows made.book book
  pub after : Each (λ old. Follows old book) (gave_by views)
  pub given : Among book (made.book ∷ gave_by views)
  pub idle : (j : ℕ) (view : View) → get_elem? views j ≡ some view → view.spent ≡ true → (view.wrote ≡ []) × (view.cleared ≡ []) × (view.spoilt ≡ []) × (view.gave ≡ [])
  pub told_shut : (j : ℕ) (view : View) → get_elem? views j ≡ some view → view.shut ≡ true → book.shut ≡ true

module _ {P B : Type 0} (pass_seen : P → PassSeen) (book_seen : B → BookSeen) where
  -- what a table is made with
  abbrev pub made_of : Key P B → Made
  made_of key = record {
    store = key.store;
    seats = key.seats;
    book = book_seen key.book.value;
    told = map (λ pass. (pass_seen pass).told) key.passes.value.items;
  }

  -- A block's pass is at home, and fits the book's entry.
  abbrev pub PassHome : Made → BookSeen → List (maybe.Option (Slot P B)) → ℕ → Type 0
  PassHome made book homes b = (pass : P) × (get_elem? homes b ≡ some (some (slot.Pass pass))) × IsPassFor made b (now_at book b) (pass_seen pass)

  -- The slot of a block that is held is empty, but where the block was found bad.
  abbrev pub Parked : Made → BookSeen → List (maybe.Option (Slot P B)) → ℕ → Item → Type 0
  Parked made book homes hand i = (i.was ≡ Bad → PassHome made book homes i.block) × (i.was ≢ Bad → hand ≢ i.block + 1 → get_elem? homes i.block ≡ some (some slot.Empty))

  -- A pass at home whose block no view ever had or met as bad tells what it told as the table was made.
  pub record Slots (made : Made) (book : BookSeen) (words : List ℕ) (homes : List (maybe.Option (Slot P B))) (views : List View) : Type 0 where
    pub long : length homes ≡ blocks_of made + 1
    pub home : (b : ℕ) → b < blocks_of made → code_at words b < 2 ^ 15 → PassHome made book homes b
    pub parked : (j : ℕ) (view : View) → get_elem? views j ≡ some view → Each (Parked made book homes view.hand) view.held
    pub untouched : (b : ℕ) (pass : P) → b < blocks_of made → get_elem? homes b ≡ some (some (slot.Pass pass)) → total (other_at b) views ≡ 0 → (pass_seen pass).told ≡ slice_index_or made.told b None

  -- the book's place, with whatever stands there
  abbrev pub ShelfHome : Made → List (maybe.Option (Slot P B)) → Type 0
  ShelfHome made homes = (shelf : Shelf B) × (get_elem? homes (blocks_of made) ≡ some (some (slot.Book shelf)))

  -- The lock is set exactly where one view has the book, which is then as it was lent.
  pub record Lock (made : Made) (book : BookSeen) (words : List ℕ) (homes : List (maybe.Option (Slot P B))) (views : List View) : Type 0 where
    pub bit : total has_loan views ≡ slice_index words 0
    pub one : slice_index words 0 ≤ 1
    pub loan : (j : ℕ) (view : View) (f : BookSeen) → get_elem? views j ≡ some view → view.loan ≡ Some f → (f ≡ book) × (view.hand ≢ blocks_of made + 1 → ShelfHome made homes)
    pub awake : (j : ℕ) (view : View) (f : BookSeen) → get_elem? views j ≡ some view → view.loan ≡ Some f → view.spent ≡ false
    pub home : slice_index words 0 ≡ 0 → (x : B) × (shelf : Shelf B) × (get_elem? homes (blocks_of made) ≡ some (some (slot.Book shelf))) × (shelf.place.value ≡ Some x) × (book_seen x ≡ book)

  pub record Kept (made : Made) (s : State (Slot P B) View) : Type 0 where
    pub book : BookSeen
    pub claims : Claims made book s.words s.views
    pub counts : Counts made book s.views
    pub slots : Slots made book s.words s.homes s.views
    pub lock : Lock made book s.words s.homes s.views
