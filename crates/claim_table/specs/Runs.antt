-- Runs of blocks that a seat claims and releases.
use Rattle.std.specs.Prelude.{⊤, ◌≡◌, ◌≢◌, ℕ, ◌+◌, ◌<◌, List, [], ◌∷◌, length}
use Rattle.vd_arm.specs.Arm.{PassSeen}
use Rattle.key_state.specs.Entries.{IsEntry}
use Rattle.key_state.specs.declared.entry.Entry.{Entry}
use Rattle.key_state.specs.declared.entry.Entry.TheVariants.{Bad}
use Rattle.claim_table.specs.Sums.{Each}
use Rattle.claim_table.specs.Views.{parts_in, LentAs, claimed, turned_away, met_bad, released}
use Rattle.claim_table.specs.Passes.{IsPassFor}
use Rattle.claim_table.specs.Seats.{IsBusyIn, IsFreeIn}
use Rattle.claim_table.specs.declared.view.Item.{Item}
use Rattle.claim_table.specs.declared.view.View.{View}
use Rattle.claim_table.specs.declared.view.Made.{Made}
use Rattle.claim_table.specs.declared.run.RunClaim.{RunClaim}
use Rattle.claim_table.specs.declared.run.RunClaim.TheVariants as run_claim

-- The view after is the one before with claims of blocks from the first on, each of which found a word in which the block had this entry
-- and wasn't busy.
abbrev pub HasClaimed : View → ℕ → List Entry → View → Type 0
HasClaimed before first [] after = after ≡ before
HasClaimed before first (entry ∷ entries) after = (word : ℕ) × IsFreeIn word first entry × HasClaimed (claimed before first word entry) (first + 1) entries after

-- The newest of the held items are blocks from the first on with these entries in the book, and the others are left.
abbrev pub AreNewest : ℕ → List Entry → List Item → List Item → Type 0
AreNewest first [] held others = held ≡ others
AreNewest first (entry ∷ entries) held others = (i : Item) × (i.block ≡ first) × (i.own ≡ entry) × AreNewest (first + 1) entries held (i ∷ others)

-- Each pass is its block's, and its bytes fit the block's entry where told.
abbrev pub ArePassesFor : {P : Type 0} → (P → PassSeen) → Made → ℕ → List Entry → List P → Type 0
ArePassesFor pass_seen made first [] [] = ⊤
ArePassesFor pass_seen made first [] (pass ∷ passes) = ⊥
ArePassesFor pass_seen made first (entry ∷ entries) [] = ⊥
ArePassesFor pass_seen made first (entry ∷ entries) (pass ∷ passes) = IsPassFor made first entry (pass_seen pass) × ArePassesFor pass_seen made (first + 1) entries passes

-- Where the seat has the book, it has these entries of the blocks from the first on.
abbrev pub AreLentAs : View → ℕ → List Entry → Type 0
AreLentAs view first [] = ⊤
AreLentAs view first (entry ∷ entries) = LentAs view first entry × AreLentAs view (first + 1) entries

-- an entry with which a block can be had
abbrev pub CanBeHad : Entry → Type 0
CanBeHad entry = IsEntry entry × (entry ≢ Bad)

-- What a claim of many blocks answers, by the view before and after it. One that is turned away had the blocks below, and released them.
abbrev pub RunAnswers : {P : Type 0} → (P → PassSeen) → View → ℕ → ℕ → RunClaim P → View → Type 0
RunAnswers pass_seen before first many (run_claim.Claimed run) after =
    (run.first.0 ≡ first)
    × (length run.entries.items ≡ many)
    × Each CanBeHad run.entries.items
    × HasClaimed before first run.entries.items after
    × ArePassesFor pass_seen before.made first run.entries.items run.passes.items
    × AreLentAs before first run.entries.items
RunAnswers pass_seen before first many (run_claim.Busy room block word) after =
    (had : List Entry)
    × (until : View)
    × HasClaimed before first had until
    × Each CanBeHad had
    × (length had < many)
    × (block.0 ≡ first + length had)
    × IsBusyIn word block.0
    × (after ≡ released (turned_away until block.0 word) before.held)
    × (before.parts < parts_in before.made)
    × AreLentAs before first had
    × (room.entries.items ≡ [])
RunAnswers pass_seen before first many (run_claim.BadBlock room block) after =
    (had : List Entry)
    × (until : View)
    × (word : ℕ)
    × HasClaimed before first had until
    × Each CanBeHad had
    × (length had < many)
    × (block.0 ≡ first + length had)
    × IsFreeIn word block.0 Bad
    × (after ≡ released (met_bad until block.0 word) before.held)
    × LentAs before block.0 Bad
    × AreLentAs before first had
    × (room.entries.items ≡ [])
