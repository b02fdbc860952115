-- The verdict of a block's bytes, and the entry that it leaves.
use Rattle.std.specs.Prelude.{⊤, ◌≡◌, ◌≢◌, ◌↔◌, ℕ, ◌<◌, List}
use Rattle.vd_base.specs.Geometry.{sectors_of, address_of}
use Rattle.vd_base.specs.declared.geometry.StoreId.{StoreId}
use Rattle.key_state.specs.declared.entry.Entry.{Entry}
use Rattle.key_state.specs.declared.entry.Entry.TheVariants.{Settled, Pending, Bad}
use Rattle.key_state.specs.Entries.{Permits}
use Rattle.sector_stamp.specs.declared.part.Part.{Part}
use Rattle.sector_stamp.specs.Image.{IsFirstDifference}
use Rattle.sector_stamp.specs.Block.{sector_of, IsStamped}
use Rattle.block_verdict.specs.declared.outcome.Verdict.{Verdict}
use Rattle.block_verdict.specs.declared.outcome.Verdict.TheVariants.{Clean, Old, New, Mixed, Corrupt}
use Rattle.block_verdict.specs.Fits.{MatchesAt, FitsAt, BytesFit, AllMatch}

-- the key with whose image a corrupt sector is compared: the settled one, or the new one of a pending block
abbrev pub newest_of : Entry → ℕ
newest_of (Settled key) = key
newest_of (Pending old new) = new
newest_of Bad = 0

-- The sector is the first that doesn't fit, and the part is the first in which it differs from the newest key's image.
pub record IsFirstCorrupt (store : StoreId) (block : ℕ) (entry : Entry) (bytes : List ℕ) (sector : ℕ) (part : Part) : Type 0 where
  pub in_block : sector < sectors_of store.geometry
  pub before : (i : ℕ) → i < sector → FitsAt store block entry bytes i
  pub unfit : FitsAt store block entry bytes sector → ⊥
  pub differs : IsFirstDifference part store.name (address_of store.geometry block sector) (newest_of entry) (sector_of bytes sector)

-- what the bytes of a block are beside its entry
abbrev pub IsVerdict : StoreId → ℕ → Entry → List ℕ → Verdict → Type 0
IsVerdict store block (Settled key) bytes Clean = AllMatch store block key bytes
IsVerdict store block (Settled key) bytes (Corrupt sector part) = IsFirstCorrupt store block (Settled key) bytes sector part
IsVerdict store block (Settled key) bytes _ = ⊥
IsVerdict store block (Pending old new) bytes New = AllMatch store block new bytes
IsVerdict store block (Pending old new) bytes Old = AllMatch store block old bytes × (AllMatch store block new bytes → ⊥)
IsVerdict store block (Pending old new) bytes Mixed =
    BytesFit store block (Pending old new) bytes × (AllMatch store block old bytes → ⊥) × (AllMatch store block new bytes → ⊥)
IsVerdict store block (Pending old new) bytes (Corrupt sector part) = IsFirstCorrupt store block (Pending old new) bytes sector part
IsVerdict store block (Pending old new) bytes Clean = ⊥
IsVerdict store block Bad bytes _ = ⊥

-- the entry that a verdict leaves
abbrev pub settled_by : Entry → Verdict → Entry
settled_by entry (Corrupt sector part) = Bad
settled_by (Pending old new) Old = Settled old
settled_by (Pending old new) New = Settled new
settled_by entry _ = entry

-- the verdict of bytes that don't fit the entry
abbrev pub IsCorrupt : Verdict → Type 0
IsCorrupt (Corrupt sector part) = ⊤
IsCorrupt _ = ⊥

-- Bytes have one verdict.
abbrev pub HasOneVerdict : Type 0
HasOneVerdict =
    (store : StoreId) (block : ℕ) (entry : Entry) (bytes : List ℕ) (verdict other : Verdict)
    → IsVerdict store block entry bytes verdict → IsVerdict store block entry bytes other → verdict ≡ other

-- A verdict isn't corrupt exactly where the bytes fit.
abbrev pub SoundWhereFit : Type 0
SoundWhereFit =
    (store : StoreId) (block : ℕ) (entry : Entry) (bytes : List ℕ) (verdict : Verdict)
    → IsVerdict store block entry bytes verdict → ((IsCorrupt verdict → ⊥) ↔ BytesFit store block entry bytes)

-- The bytes fit the entry that their verdict leaves.
abbrev pub FitAfterSettling : Type 0
FitAfterSettling =
    (store : StoreId) (block : ℕ) (entry : Entry) (bytes : List ℕ) (verdict : Verdict)
    → IsVerdict store block entry bytes verdict → BytesFit store block (settled_by entry verdict) bytes

-- A sector fits an entry that isn't bad exactly where it matches a key that the entry permits.
abbrev pub FitsWherePermitted : Type 0
FitsWherePermitted =
    (store : StoreId) (block : ℕ) (entry : Entry) (bytes : List ℕ) (i : ℕ)
    → entry ≢ Bad → (FitsAt store block entry bytes i ↔ ((key : ℕ) × Permits entry key × MatchesAt store block key bytes i))

-- A block that is stamped with a key fits the entry that is settled at it.
abbrev pub StampedFits : Type 0
StampedFits = (store : StoreId) (block key : ℕ) (bytes : List ℕ) → IsStamped store block key bytes → BytesFit store block (Settled key) bytes
