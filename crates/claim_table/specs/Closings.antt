-- What a table gives back when it is closed.
use Rattle.std.specs.Prelude.{◌≡◌, ◌↔◌, ℕ, ◌+◌, ◌%◌, ◌^◌, ◌<◌, true, All, List, [], ◌∷◌, length, map, slice_get, slice_index_or, Some, None}
use mathlib.Core.Option.{some}
use lib.ListN.{get_elem?}
use Rattle.vd_base.specs.declared.geometry.StoreId.{StoreId}
use Rattle.vd_arm.specs.Arm.{PassSeen}
use Rattle.key_state.specs.Books.{Follows}
use Rattle.key_state.specs.declared.entry.Entry.TheVariants.{Bad}
use Rattle.key_state.specs.declared.seen.BookSeen.{BookSeen}
use Rattle.claim_table.specs.Sums.{total, Each, Among}
use Rattle.claim_table.specs.Views.{blocks_of, parts_in, now_at, bad, busy_at, other_at, busy_as, other_as, bad_at, gave_by, joined}
use Rattle.claim_table.specs.Passes.{ArePasses, IsPassFor}
use Rattle.claim_table.specs.Openings.{made_with}
use Rattle.claim_table.specs.Seats.{view_of, IsNew}
use Rattle.claim_table.specs.declared.view.View.{View}
use Rattle.claim_table.specs.declared.view.Made.{Made}
use Rattle.claim_table.specs.declared.table.ClaimSeat.{ClaimSeat}
use Rattle.claim_table.specs.declared.table.ClaimTable.{ClaimTable}
use Rattle.claim_table.specs.declared.slot.Slot.{Slot}
use Rattle.claim_table.specs.declared.slot.Slot.TheVariants as slot

abbrev pub HasPass : {P B : Type 0} → List (Slot P B) → ℕ → Type 0
HasPass {P} slots k = (pass : P) × (get_elem? slots k ≡ some (slot.Pass pass))

abbrev pub HasAll : View → Made → Type 0
HasAll view made = (view.parts ≡ parts_in made) × (0 < view.parts)

-- The passes of all blocks in order, and the book, as seats with these views get them back. The book is the one that was handed in, or
-- one that a seat gave back, and it follows each of these. Each word in which a block was found busy has the entry with which a claim of that block was answered. A block
-- that no seat ever had or met as bad has a pass that tells what it told as the table was made.
pub record Returned (made : Made) (views : List View) (passes : List PassSeen) (book : BookSeen) : Type 0 where
  pub many : length passes ≡ blocks_of made
  pub each : (block : ℕ) (pass : PassSeen) → slice_get passes block ≡ Some pass → IsPassFor made block (now_at book block) pass
  pub untouched : (block : ℕ) (pass : PassSeen) → slice_get passes block ≡ Some pass → total (other_at block) views ≡ 0 → pass.told ≡ slice_index_or made.told block None
  pub follows : Follows made.book book
  pub after : Each (λ old. Follows old book) (gave_by views)
  pub given : Among book (made.book ∷ gave_by views)
  pub ends : book.ends ≡ (made.book.ends + total (λ view. length view.wrote) views) % 2 ^ 64
  pub clears : book.clears ≡ (made.book.clears + total (λ view. length view.cleared) views) % 2 ^ 64
  pub spoilt : total bad book.now ≡ total bad made.book.now + total (λ view. length view.spoilt) views
  pub shut : Each (λ view. view.shut ≡ true → book.shut ≡ true) views
  pub met : (block : ℕ) → 0 < total (busy_at block) views → 0 < total (other_at block) views
  pub found : (block code : ℕ) → 0 < total (busy_as block code) views → 0 < total (other_as block code) views
  pub met_bad : (block : ℕ) → 0 < total (bad_at block) views → now_at book block ≡ Bad

-- a number of a view that adds up where seats are joined
abbrev pub AddsUp : (View → ℕ) → Type 0
AddsUp f = (view other : View) → f (joined view other) ≡ f view + f other

-- one view in which these are joined
pub record Gathered (views : List View) (all : View) : Type 0 where
  pub sums : (f : View → ℕ) → AddsUp f → f all ≡ total f views
  pub shut : Each (λ view. view.shut ≡ true → all.shut ≡ true) views
  pub gave : (book : BookSeen) → Among book all.gave ↔ Among book (gave_by views)

-- No seat made a claim, and no seat gave a book back.
abbrev pub MadeNoClaim : List View → Type 0
MadeNoClaim views = Each (λ view. view.mine ≡ []) views

abbrev pub GaveNoBook : List View → Type 0
GaveNoBook views = Each (λ view. view.gave ≡ []) views

-- Where no claim was made, the passes tell what they told as the table was made.
abbrev pub ToldKept : Type 0
ToldKept = (made : Made) (views : List View) (passes : List PassSeen) (book : BookSeen)
    → length made.told ≡ blocks_of made → MadeNoClaim views → Returned made views passes book → map (λ pass. pass.told) passes ≡ made.told

-- Where no claim was made, all that is seen of the passes is as they were handed in.
abbrev pub PassesKept : {P B : Type 0} → (P → PassSeen) → (B → BookSeen) → Type 0
PassesKept {P} {B} pass_seen book_seen = (store : StoreId) (seats : ℕ) (handed given : List P) (book : B) (made : Made) (views : List View) (back : BookSeen)
    → made ≡ made_with pass_seen book_seen store seats handed book → ArePasses store (map pass_seen handed) → MadeNoClaim views
    → Returned made views (map pass_seen given) back → map pass_seen given ≡ map pass_seen handed

-- Where no book was given back, the book is as it was handed in.
abbrev pub BookKept : Type 0
BookKept = (made : Made) (views : List View) (passes : List PassSeen) (book : BookSeen) → GaveNoBook views → Returned made views passes book → book ≡ made.book

-- Seats that are as they were made did neither.
abbrev pub NewDidNothing : {P B : Type 0} → (P → PassSeen) → (B → BookSeen) → Type 0
NewDidNothing {P} {B} pass_seen book_seen = (table : ClaimTable P B) (seats : List ClaimSeat)
    → All (IsNew pass_seen book_seen table) seats → MadeNoClaim (map view_of seats) × GaveNoBook (map view_of seats)
