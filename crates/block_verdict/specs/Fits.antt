-- Whether a block's bytes fit its entry.
use Rattle.std.specs.Prelude.{⊤, ◌⊎◌, ℕ, ◌<◌, List}
use Rattle.vd_base.specs.Geometry.{sectors_of, address_of}
use Rattle.vd_base.specs.declared.geometry.StoreId.{StoreId}
use Rattle.key_state.specs.declared.entry.Entry.{Entry}
use Rattle.key_state.specs.declared.entry.Entry.TheVariants.{Settled, Pending, Bad}
use Rattle.sector_stamp.specs.Image.{Matches}
use Rattle.sector_stamp.specs.Block.{sector_of}

-- Sector i of a block of a store matches a key.
abbrev pub MatchesAt : StoreId → ℕ → ℕ → List ℕ → ℕ → Type 0
MatchesAt store block key bytes i = Matches store.name (address_of store.geometry block i) key (sector_of bytes i)

-- It matches a key that the entry permits, or the entry is bad.
abbrev pub FitsAt : StoreId → ℕ → Entry → List ℕ → ℕ → Type 0
FitsAt store block (Settled key) bytes i = MatchesAt store block key bytes i
FitsAt store block (Pending old new) bytes i = MatchesAt store block old bytes i ⊎ MatchesAt store block new bytes i
FitsAt store block Bad bytes i = ⊤

-- So does each sector of the block.
abbrev pub BytesFit : StoreId → ℕ → Entry → List ℕ → Type 0
BytesFit store block entry bytes = (i : ℕ) → i < sectors_of store.geometry → FitsAt store block entry bytes i

-- Each sector matches one key.
abbrev pub AllMatch : StoreId → ℕ → ℕ → List ℕ → Type 0
AllMatch store block key bytes = BytesFit store block (Settled key) bytes
