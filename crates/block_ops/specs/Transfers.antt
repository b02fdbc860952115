-- What reading and writing a run of blocks leave.
use Rattle.std.specs.Prelude.{◌≡◌, ◌⊎◌, ℕ, ◌+◌, ◌<◌, List, length, Some, slice_get}
use Rattle.vd_base.specs.Geometry.{sectors_of, address_of}
use Rattle.vd_base.specs.declared.geometry.StoreId.{StoreId}
use Rattle.vd_arm.specs.Arm.{PassSeen}
use Rattle.key_state.specs.Entries.{entry_at}
use Rattle.key_state.specs.declared.entry.Entry.{Entry}
use Rattle.sector_stamp.specs.Image.{IsImage}
use Rattle.sector_stamp.specs.Block.{sector_of, IsStamped}
use Rattle.block_verdict.specs.Fits.{BytesFit}
use Rattle.block_verdict.specs.Verdicts.{IsVerdict, IsCorrupt, newest_of}
use Rattle.block_verdict.specs.declared.outcome.Verdict.{Verdict}
use Rattle.vd_arm.specs.Transfers.{AreBlocks, EachTold, part_of}

-- The passes are those of the store's blocks from the first on.
abbrev pub ArePassesOf : StoreId → ℕ → List PassSeen → Type 0
ArePassesOf store first passes = AreBlocks first store.geometry.block_size passes

-- The first verdicts are those of the blocks from the first on, whose bytes follow one another.
abbrev pub AreVerdicts : StoreId → ℕ → List Entry → List ℕ → List Verdict → Type 0
AreVerdicts store first entries bytes verdicts =
    (i : ℕ) (verdict : Verdict) → i < length entries → slice_get verdicts i ≡ Some verdict
    → IsVerdict store (first + i) (entry_at entries i) (part_of bytes store.geometry.block_size i) verdict

-- None of these is corrupt whose bytes fit the block's entry.
abbrev pub AreSound : StoreId → ℕ → List Entry → List ℕ → List Verdict → Type 0
AreSound store first entries bytes verdicts =
    (i : ℕ) (verdict : Verdict) → i < length entries → slice_get verdicts i ≡ Some verdict
    → BytesFit store (first + i) (entry_at entries i) (part_of bytes store.geometry.block_size i) → IsCorrupt verdict → ⊥

-- None of the first so many is corrupt.
abbrev pub NoneCorrupt : ℕ → List Verdict → Type 0
NoneCorrupt many verdicts = (i : ℕ) (verdict : Verdict) → i < many → slice_get verdicts i ≡ Some verdict → IsCorrupt verdict → ⊥

-- Each of these many blocks is stamped with the new key of its entry.
abbrev pub AreStamps : StoreId → ℕ → List Entry → ℕ → List ℕ → Type 0
AreStamps store first entries many bytes =
    (i : ℕ) → i < many → IsStamped store (first + i) (newest_of (entry_at entries i)) (part_of bytes store.geometry.block_size i)

-- After a good write each pass that told tells its block, stamped with the new key of its entry.
abbrev pub WroteStamps : StoreId → ℕ → List Entry → List PassSeen → List PassSeen → Type 0
WroteStamps store first entries = EachTold (λ i pass was now. IsStamped store (first + i) (newest_of (entry_at entries i)) now)

-- After a failed one each of its sectors is the one from before, or is so stamped.
abbrev pub MayHaveStamps : StoreId → ℕ → List Entry → List PassSeen → List PassSeen → Type 0
MayHaveStamps store first entries = EachTold (λ i pass was now.
    (j : ℕ) → j < sectors_of store.geometry
    → (sector_of now j ≡ sector_of was j) ⊎ IsImage store.name (address_of store.geometry (first + i) j) (newest_of (entry_at entries i)) (sector_of now j))
