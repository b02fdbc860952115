-- What a table is made with.
use Rattle.std.specs.Prelude.{◌≡◌, ℕ, ◌+◌, ◌/◌, ◌<◌, List, [], ◌∷◌, ◌++◌, length, map, slice_index, Some}
use Rattle.vd_base.specs.declared.geometry.StoreId.{StoreId}
use Rattle.vd_arm.specs.Arm.{PassSeen}
use Rattle.key_state.specs.declared.seen.BookSeen.{BookSeen}
use Rattle.claim_table.specs.Codes.{code_of, HasKeys}
use Rattle.claim_table.specs.Lanes.{code_at}
use Rattle.claim_table.specs.Views.{now_at}
use Rattle.claim_table.specs.declared.view.Made.{Made}
use Rattle.claim_table.specs.declared.slot.Shelf.{Shelf}
use Rattle.claim_table.specs.declared.slot.Slot.{Slot}
use Rattle.claim_table.specs.declared.slot.Slot.TheVariants as slot

abbrev pub made_with : {P B : Type 0} → (P → PassSeen) → (B → BookSeen) → StoreId → ℕ → List P → B → Made
made_with pass_seen book_seen store seats passes book = record {
  store = store;
  seats = seats;
  book = book_seen book;
  told = map (λ pass. (pass_seen pass).told) passes;
}

-- The words have the book's entry of each of these blocks, and the lock isn't set.
pub record HasEntries (book : BookSeen) (blocks : ℕ) (words : List ℕ) : Type 0 where
  pub wide : length words ≡ (blocks + 3) / 4 + 1
  pub unlocked : slice_index words 0 ≡ 0
  pub codes : (b : ℕ) → b < blocks → (code_at words b ≡ code_of (now_at book b)) × HasKeys (now_at book b)

-- the slots of these passes and of this book
abbrev pub CameFrom : {P B : Type 0} → List (Slot P B) → List P → B → Type 0
CameFrom {P} {B} slots passes book = (shelf : Shelf B) × (slots ≡ map slot.Pass passes ++ slot.Book shelf ∷ []) × (shelf.place.value ≡ Some book)

abbrev pub AreSlots : {P B : Type 0} → List (Slot P B) → Type 0
AreSlots {P} {B} slots = (passes : List P) × (book : B) × CameFrom slots passes book

-- the passes that lie in slots
abbrev pub passes_in : {P B : Type 0} → List (Slot P B) → List P
passes_in [] = []
passes_in (slot.Pass pass ∷ slots) = pass ∷ passes_in slots
passes_in (_ ∷ slots) = passes_in slots
