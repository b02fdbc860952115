-- The bytes of a log sector: a head of 32 bytes, and 30 places of 16 bytes for records. All numbers are big-endian.
use Rattle.std.specs.Prelude.{◌≡◌, ⊤, ℕ, ◌+◌, ◌-◌, ◌*◌, ◌≤◌, List, [], ◌∷◌, ◌++◌, codes, replicate, slice_range}
use Rattle.std.specs.Int.{w16, w32, w64, to_be_bytes}
use Rattle.key_state.specs.Entries.{first_of, many_of}
use Rattle.key_state.specs.declared.record.Record.{Record}
use Rattle.key_state.specs.declared.record.Record.TheVariants.{Begin, End, Bad, BeginRun, EndRun, Clear}
use Rattle.vd_base.specs.Key.{next}
use Rattle.journal_layout.specs.declared.head.Head.{Head}
use Rattle.journal_layout.specs.declared.head.Head.TheVariants.{Foreign, BadHeader, Count}

-- how a log sector begins: `VDJLOGS1` or `VDJLOGS2`
abbrev pub log_magic : ℕ → List ℕ
log_magic version = codes "VDJLOGS" ++ (48 + version) ∷ []

-- The head is of this version, epoch and place.
pub record HasHead (version epoch place : ℕ) (sector : List ℕ) : Type 0 where
  pub magic : slice_range sector 0 8 ≡ log_magic version
  pub its_epoch : slice_range sector 8 16 ≡ to_be_bytes w64 epoch
  pub its_place : slice_range sector 16 20 ≡ to_be_bytes w32 place

-- the same, with so many records
pub record HasCount (version epoch place : ℕ) (sector : List ℕ) (count : ℕ) : Type 0 where
  pub head : HasHead version epoch place sector
  pub counts : slice_range sector 20 22 ≡ to_be_bytes w16 count
  pub blank : slice_range sector 22 32 ≡ replicate 10 0
  pub some : 1 ≤ count
  pub most : count ≤ 30

abbrev pub IsForeign : ℕ → ℕ → ℕ → List ℕ → Type 0
IsForeign version epoch place sector = HasHead version epoch place sector → ⊥

abbrev pub IsBadHeader : ℕ → ℕ → ℕ → List ℕ → Type 0
IsBadHeader version epoch place sector = HasHead version epoch place sector × ((count : ℕ) → HasCount version epoch place sector count → ⊥)

-- what the head of a log sector says
abbrev pub HeadSays : ℕ → ℕ → ℕ → List ℕ → Head → Type 0
HeadSays version epoch place sector Foreign = IsForeign version epoch place sector
HeadSays version epoch place sector BadHeader = IsBadHeader version epoch place sector
HeadSays version epoch place sector (Count count) = HasCount version epoch place sector count

-- the kind, the keys and the number of blocks of a record, in four bytes
abbrev pub kind_bytes : Record → List ℕ
kind_bytes (Begin block old new) = 1 ∷ old ∷ new ∷ 0 ∷ []
kind_bytes (End block key) = 2 ∷ 0 ∷ key ∷ 0 ∷ []
kind_bytes (Bad block) = 3 ∷ 0 ∷ 0 ∷ 0 ∷ []
kind_bytes (BeginRun first many) = 4 ∷ 0 ∷ 0 ∷ many ∷ []
kind_bytes (EndRun first many) = 5 ∷ 0 ∷ 0 ∷ many ∷ []
kind_bytes (Clear first many) = 6 ∷ 0 ∷ 0 ∷ many ∷ []

-- the 16 bytes of a record: its kind, its first block, zeros
abbrev pub record_bytes : Record → List ℕ
record_bytes made = kind_bytes made ++ (to_be_bytes w32 (first_of made) ++ replicate 8 0)

-- The records that a version spells. Version 1 has no runs.
abbrev pub IsSpelled : ℕ → Record → Type 0
IsSpelled version (Begin block old new) = (old ≤ 126) × (new ≡ next old)
IsSpelled version (End block key) = (1 ≤ key) × (key ≤ 126)
IsSpelled version (Bad block) = ⊤
IsSpelled version (BeginRun first many) = (version ≡ 2) × (2 ≤ many) × (many ≤ 64)
IsSpelled version (EndRun first many) = (version ≡ 2) × (2 ≤ many) × (many ≤ 64)
IsSpelled version (Clear first many) = (version ≡ 2) × (1 ≤ many) × (many ≤ 64)

-- All blocks of the record are below so many.
abbrev pub IsBelow : ℕ → Record → Type 0
IsBelow blocks made = first_of made + many_of made ≤ blocks

-- Place `index` of a log sector has this record, of a version and a store of so many blocks.
pub record IsRecordOf (version blocks : ℕ) (sector : List ℕ) (index : ℕ) (made : Record) : Type 0 where
  pub kind : slice_range sector (32 + 16 * index) (32 + 16 * index + 4) ≡ kind_bytes made
  pub block : slice_range sector (36 + 16 * index) (36 + 16 * index + 4) ≡ to_be_bytes w32 (first_of made)
  pub zeros : slice_range sector (40 + 16 * index) (40 + 16 * index + 8) ≡ replicate 8 0
  pub is_spelled : IsSpelled version made
  pub is_below : IsBelow blocks made

-- The places past so many records are zeros.
abbrev pub IsZeroPast : List ℕ → ℕ → Type 0
IsZeroPast sector count = slice_range sector (32 + 16 * count) 512 ≡ replicate (512 - (32 + 16 * count)) 0
