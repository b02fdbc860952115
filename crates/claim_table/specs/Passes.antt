-- What a table's passes have to do with its book.
use Rattle.std.specs.Prelude.{◌≡◌, ℕ, ◌<◌, List, Option, Some, None, length, slice_get, slice_index_or}
use Rattle.vd_base.specs.declared.geometry.StoreId.{StoreId}
use Rattle.vd_arm.specs.Arm.{PassSeen}
use Rattle.key_state.specs.declared.entry.Entry.{Entry}
use Rattle.block_verdict.specs.Fits.{BytesFit}
use Rattle.claim_table.specs.Views.{blocks_of, now_at}
use Rattle.claim_table.specs.declared.view.Made.{Made}

-- These bytes were told, and fit the block's entry.
abbrev pub ToldFits : StoreId → ℕ → Entry → Option (List ℕ) → Type 0
ToldFits store block entry None = ⊥
ToldFits store block entry (Some bytes) = BytesFit store block entry bytes

-- Every pass told bytes that fitted its block's entry as the table was made.
abbrev pub Fitted : Made → Type 0
Fitted made = (block : ℕ) → block < blocks_of made → ToldFits made.store block (now_at made.book block) (slice_index_or made.told block None)

-- the passes of a store: one for each block, in block order, of the store's block size
pub record ArePasses (store : StoreId) (passes : List PassSeen) : Type 0 where
  pub many : length passes ≡ store.geometry.blocks
  pub each : (block : ℕ) (pass : PassSeen) → slice_get passes block ≡ Some pass → (pass.block ≡ block) × (pass.size ≡ store.geometry.block_size)

-- It is the pass of this block, and where the table was made over fitting bytes it tells bytes that fit this entry.
pub record IsPassFor (made : Made) (block : ℕ) (entry : Entry) (pass : PassSeen) : Type 0 where
  pub of : pass.block ≡ block
  pub sized : pass.size ≡ made.store.geometry.block_size
  pub fits : Fitted made → ToldFits made.store block entry pass.told
