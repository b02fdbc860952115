-- What an operation on a run of blocks does to the book.
use Rattle.std.specs.Prelude.{◌≡◌, ℕ, ◌+◌, ◌%◌, ◌^◌, cond, List, [], ◌∷◌, length}
use Rattle.key_state.specs.Entries.{IsEntry}
use Rattle.key_state.specs.Books.{Follows, SyncedOrNow}
use Rattle.key_state.specs.declared.entry.Entry.{Entry}
use Rattle.key_state.specs.declared.seen.BookSeen.{BookSeen}
use Rattle.claim_table.specs.Sums.{Each}
use Rattle.claim_table.specs.Views.{now_at, has_ended}
use Rattle.block_ops.specs.Runs.{IsIn, HasRun}

-- how many blocks were pending and are settled at their new key, by their entries before and after
abbrev pub ended_among : List Entry → List Entry → ℕ
ended_among [] now = 0
ended_among (before ∷ was) [] = 0
ended_among (before ∷ was) (after ∷ now) = cond (has_ended before after) 1 0 + ended_among was now

-- The blocks from the first on, whose entries were these in the book before, have these others in the book after. Of no other block the
-- entry differs, each write that was ended is counted, and no block is cleared.
pub record Acted (first : ℕ) (was now : List Entry) (before after : BookSeen) : Type 0 where
  pub follows : Follows before after
  pub as_many : length now ≡ length was
  pub mine : HasRun after first now
  pub valid : Each IsEntry now
  pub others : (block : ℕ) → (IsIn first (length was) block → ⊥) → now_at after block ≡ now_at before block
  pub synced : SyncedOrNow before after
  pub ends : after.ends ≡ (before.ends + ended_among was now) % 2 ^ 64
  pub clears : after.clears ≡ before.clears
