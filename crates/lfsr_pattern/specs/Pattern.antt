-- What the bytes of a pattern are, one bit at a time.
use Rattle.std.specs.Prelude.{◌≡◌, ℕ, ◌+◌, ◌*◌, ◌/◌, ◌%◌, ◌^◌, ◌<◌, List, length, slice_index}
use Rattle.std.specs.Int.{bit_at}

-- bit i of bytes, where a byte's lowest bit is its first
abbrev pub bit : List ℕ → ℕ → ℕ
bit bytes i = bit_at (slice_index bytes (i / 8)) (i % 8)

-- the exclusive or of four bits
abbrev pub parity : ℕ → ℕ → ℕ → ℕ → ℕ
parity a b c d = (a + b + c + d) % 2

-- Bit i + 32 is made of the ones 32, 31, 30 and 10 before it.
abbrev pub IsLater : List ℕ → ℕ → Type 0
IsLater bytes i = bit bytes (i + 32) ≡ parity (bit bytes i) (bit bytes (i + 1)) (bit bytes (i + 2)) (bit bytes (i + 22))

-- So is each of the count bits from 32 on.
abbrev pub AreLater : List ℕ → ℕ → Type 0
AreLater bytes count = (i : ℕ) → i < count → IsLater bytes i

-- The first 32 bits are those of the seed, the lowest first, and each of the count bits after them is made of those before it.
pub record IsFront (seed : ℕ) (bytes : List ℕ) (count : ℕ) : Type 0 where
  pub first : (i : ℕ) → i < 32 → bit bytes i ≡ bit_at seed i
  pub later : AreLater bytes count

-- the 480 bytes, which are 3,840 bits, of the pattern of a seed
pub record IsPattern (seed : ℕ) (bytes : List ℕ) : Type 0 where
  pub size : length bytes ≡ 480
  pub front : IsFront seed bytes 3808

-- the seed of a sector's address and key
abbrev pub seed_of : ℕ → ℕ → ℕ
seed_of address key = ((address / 512) * 127 + key) % 4294967295 + 1

-- a list of bytes, as every slice of `u8` is
abbrev pub AreBytes : List ℕ → Type 0
AreBytes bytes = (i : ℕ) → slice_index bytes i < 2 ^ 8

-- Two lists of bytes that are the pattern of one seed are equal.
abbrev pub HasOnePattern : Type 0
HasOnePattern = (seed : ℕ) (xs ys : List ℕ) → AreBytes xs → AreBytes ys → IsPattern seed xs → IsPattern seed ys → xs ≡ ys
