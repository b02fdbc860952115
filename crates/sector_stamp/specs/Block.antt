-- The sectors of a block's bytes.
use Rattle.std.specs.Prelude.{ℕ, ◌+◌, ◌*◌, ◌<◌, List, slice_range}
use Rattle.vd_base.specs.Geometry.{sectors_of, address_of}
use Rattle.vd_base.specs.declared.geometry.StoreId.{StoreId}
use Rattle.sector_stamp.specs.Image.{IsImage}

-- the 512 bytes of sector i
abbrev pub sector_of : List ℕ → ℕ → List ℕ
sector_of bytes i = slice_range bytes (512 * i) (512 * i + 512)

-- Each of the first count sectors of a block of a store is its image with a key.
abbrev pub AreStamped : StoreId → ℕ → ℕ → List ℕ → ℕ → Type 0
AreStamped store block key bytes count =
    (i : ℕ) → i < count → IsImage store.name (address_of store.geometry block i) key (sector_of bytes i)

-- Each sector of a block of a store is its image with a key.
abbrev pub IsStamped : StoreId → ℕ → ℕ → List ℕ → Type 0
IsStamped store block key bytes =
    (i : ℕ) → i < sectors_of store.geometry → IsImage store.name (address_of store.geometry block i) key (sector_of bytes i)
