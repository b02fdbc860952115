-- The bytes of a gate. All numbers are big-endian.
use Rattle.std.specs.Prelude.{◌≡◌, ℕ, ◌+◌, ◌%◌, ◌^◌, ◌<◌, ◌≤◌, IsTrue, List, [], ◌∷◌, ◌++◌, codes, replicate, slice_range}
use Rattle.std.specs.Int.{w32, w64, to_be_bytes}
use Rattle.vd_base.specs.Geometry.{IsGeometry}
use Rattle.vd_base.specs.Name.{is_padded_name}
use Rattle.vd_base.specs.declared.geometry.StoreId.{StoreId}
use Rattle.journal_layout.specs.declared.gate.Gate.{Gate}

abbrev pub IsVersion : ℕ → Type 0
IsVersion version = (1 ≤ version) × (version ≤ 2)

-- how a gate begins: `VDJGATE1` or `VDJGATE2`
abbrev pub gate_magic : ℕ → List ℕ
gate_magic version = codes "VDJGATE" ++ (48 + version) ∷ []

-- Bytes 16 to 31 are the store's padded name, its blocks and their size, within the limits of a store.
pub record IsIdIn (sector : List ℕ) (id : StoreId) : Type 0 where
  pub name : slice_range sector 16 24 ≡ id.name
  pub blocks : slice_range sector 24 28 ≡ to_be_bytes w32 id.geometry.blocks
  pub block_size : slice_range sector 28 32 ≡ to_be_bytes w32 id.geometry.block_size
  pub is_name : IsTrue (is_padded_name id.name)
  pub is_geometry : IsGeometry id.geometry.blocks id.geometry.block_size

-- the version, the epoch and the log sectors that a journal may have
pub record IsWithinLimits (gate : Gate) : Type 0 where
  pub is_version : IsVersion gate.version
  pub epoch : gate.epoch < 2 ^ 63
  pub some_log : 0 < gate.log_sectors
  pub few_logs : gate.log_sectors ≤ 65536

-- The sector is this gate, byte for byte, and valid for its area.
pub record IsGate (area : ℕ) (sector : List ℕ) (gate : Gate) : Type 0 where
  pub magic : slice_range sector 0 8 ≡ gate_magic gate.version
  pub epoch : slice_range sector 8 16 ≡ to_be_bytes w64 gate.epoch
  pub id : IsIdIn sector gate.id
  pub log_sectors : slice_range sector 32 36 ≡ to_be_bytes w32 gate.log_sectors
  pub rest : slice_range sector 36 512 ≡ replicate 476 0
  pub within : IsWithinLimits gate
  pub its_area : gate.epoch % 2 ≡ area
