-- What contracts see of a seat, and what the calls on blocks and on the book tell.
use Rattle.std.specs.Prelude.{◌≡◌, ◌≢◌, ℕ, ◌+◌, ◌%◌, ◌^◌, ◌<◌, false, List, [], ◌∷◌, Some, None}
use Rattle.std.specs.Vec.{vec_capacity}
use Rattle.atomic_table.specs.Seated.{TableId}
use Rattle.atomic_table.specs.declared.shared.Seat.{Seat}
use Rattle.vd_base.specs.declared.geometry.StoreId.{StoreId}
use Rattle.vd_arm.specs.Arm.{PassSeen}
use Rattle.key_state.specs.Entries.{IsEntry}
use Rattle.key_state.specs.declared.entry.Entry.{Entry}
use Rattle.key_state.specs.declared.entry.Entry.TheVariants.{Bad}
use Rattle.key_state.specs.declared.seen.BookSeen.{BookSeen}
use Rattle.claim_table.specs.Codes.{code_of, IsCoded}
use Rattle.claim_table.specs.Lanes.{lane}
use Rattle.claim_table.specs.Views.{fresh, parts_in, LentAs, claimed, turned_away, met_bad}
use Rattle.claim_table.specs.Passes.{IsPassFor}
use Rattle.claim_table.specs.Books.{MayGive}
use Rattle.claim_table.specs.Rule.{made_of}
use Rattle.claim_table.specs.Firsts.{first_of, flaws}
use Rattle.claim_table.specs.declared.view.Item.{Item}
use Rattle.claim_table.specs.declared.view.View.{View}
use Rattle.claim_table.specs.declared.view.Made.{Made}
use Rattle.claim_table.specs.declared.slot.Slot.{Slot}
use Rattle.claim_table.specs.declared.claim.Claim.{Claim}
use Rattle.claim_table.specs.declared.claim.Claim.TheVariants as claim
use Rattle.claim_table.specs.declared.table.ClaimSeat.{ClaimSeat}
use Rattle.claim_table.specs.declared.table.ClaimTable.{ClaimTable}

abbrev pub view_of : ClaimSeat → View
view_of seat = first_of seat.badge.views

-- The seat is one of the table's.
abbrev pub IsSeatOf : {P B : Type 0} → ClaimTable P B → ClaimSeat → Type 0
IsSeatOf table seat = (seat.badge.table_id ≡ table.table.shared.table_id) × ((view_of seat).spent ≡ false) × ((view_of seat).made.store ≡ table.table.shared.key.store)

-- It is one that has the parts of one seat, and nothing else.
abbrev pub IsNew : {P B : Type 0} → (P → PassSeen) → (B → BookSeen) → ClaimTable P B → ClaimSeat → Type 0
IsNew pass_seen book_seen table seat = IsSeatOf table seat × (view_of seat ≡ fresh (made_of pass_seen book_seen table.table.shared.key) (2 ^ 32))

-- It is one that holds no block and doesn't have the book.
abbrev pub IsIdle : {P B : Type 0} → ClaimTable P B → ClaimSeat → Type 0
IsIdle table seat = IsSeatOf table seat × ((view_of seat).held ≡ []) × ((view_of seat).loan ≡ None)

-- what a table was made with
abbrev pub made_in : {P B : Type 0} → (P → PassSeen) → (B → BookSeen) → ClaimTable P B → Made
made_in pass_seen book_seen table = made_of pass_seen book_seen table.table.shared.key

-- how many passes the list has room for that a table keeps for its passes
abbrev pub room_of : {P B : Type 0} → ClaimTable P B → ℕ
room_of table = vec_capacity table.room

-- A seat between two calls, as a step takes it: no slot is out with it.
abbrev pub AtRest : {P B : Type 0} → TableId → StoreId → Seat (Slot P B) View → Type 0
AtRest id store place =
    (place.table_id ≡ id)
    × (place.me.1 ≡ [])
    × (place.me.0.hand ≡ 0)
    × (place.me.0.spent ≡ false)
    × (flaws place.me.0 ≡ 0)
    × (place.me.0.made.store ≡ store)

-- The word has an entry of the block, and that it is busy.
abbrev pub IsBusyIn : ℕ → ℕ → Type 0
IsBusyIn word block = (entry : Entry) × IsCoded entry × (lane word (block % 4) ≡ code_of entry + 2 ^ 15)

-- The word has this entry of the block, and that it isn't busy.
abbrev pub IsFreeIn : ℕ → ℕ → Entry → Type 0
IsFreeIn word block entry = IsCoded entry × (lane word (block % 4) ≡ code_of entry)

-- What a claim answers, by the view before and after it, which notes the word that was found.
abbrev pub Answers : {P : Type 0} → (P → PassSeen) → View → ℕ → Claim P → View → Type 0
Answers pass_seen before block (claim.Claimed held) after =
    (word : ℕ)
    × IsFreeIn word block held.entry
    × (held.entry ≢ Bad)
    × (after ≡ claimed before block word held.entry)
    × (held.block.0 ≡ block)
    × IsEntry held.entry
    × IsPassFor before.made block held.entry (pass_seen held.pass)
    × LentAs before block held.entry
Answers pass_seen before block (claim.Busy word) after =
    IsBusyIn word block
    × (after ≡ turned_away before block word)
    × (before.parts < parts_in before.made)
Answers pass_seen before block claim.BadBlock after =
    (word : ℕ)
    × IsFreeIn word block Bad
    × (after ≡ met_bad before block word)
    × LentAs before block Bad

-- The block is the newest that the view holds, and this is its entry in the book as the seat knows it.
abbrev pub IsNewest : View → ℕ → Entry → Type 0
IsNewest view block entry = (i : Item) × (others : List Item) × (view.held ≡ i ∷ others) × (i.block ≡ block) × (i.own ≡ entry)

-- The seat has the book, and may give it back as this.
abbrev pub Brings : View → BookSeen → Type 0
Brings view book = (lent : BookSeen) × (view.loan ≡ Some lent) × MayGive view.held lent book
