-- Forms of a pattern's recurrence that the code goes by.
use Rattle.std.specs.Prelude.{◌≡◌, ◌↔◌, ℕ, ◌+◌, ◌*◌, ◌/◌, ◌%◌, ◌^◌, ◌<◌, List, length, bit_xor}
use Rattle.std.specs.Int.{bit_at}
use Rattle.lfsr_pattern.specs.Pattern.{bit, parity, IsFront, IsPattern}

-- the eight bits after these last 32, of which the lowest is the oldest
abbrev pub next_byte : ℕ → ℕ
next_byte state = bit_xor (bit_xor (bit_xor state (state / 2 ^ 1)) (state / 2 ^ 2)) (state / 2 ^ 22) % 2 ^ 8

-- the last 32 bits after eight more
abbrev pub next_state : ℕ → ℕ
next_state state = next_byte state * 2 ^ 24 + state / 2 ^ 8

-- A step of a byte makes eight bits by the recurrence.
abbrev pub StepsByRecurrence : Type 0
StepsByRecurrence =
    (state k : ℕ) → k < 8
    → bit_at (next_byte state) k ≡ parity (bit_at state k) (bit_at state (k + 1)) (bit_at state (k + 2)) (bit_at state (k + 22))

-- Bit i + 256 is made of the ones 256, 248, 240 and 80 before it: eight times as far as in the pattern.
abbrev pub IsFar : List ℕ → ℕ → Type 0
IsFar bytes i = bit bytes (i + 256) ≡ parity (bit bytes i) (bit bytes (i + 8)) (bit bytes (i + 16)) (bit bytes (i + 176))

-- So is each of the count bits from 256 on.
abbrev pub AreFar : List ℕ → ℕ → Type 0
AreFar bytes count = (i : ℕ) → i < count → IsFar bytes i

-- So are the eight bits of the byte that is 32 behind byte j.
abbrev pub IsFarByte : List ℕ → ℕ → Type 0
IsFarByte bytes j = (k : ℕ) → k < 8 → IsFar bytes (8 * j + k)

-- 480 bytes are a pattern exactly where the first 32 of them are, and each later byte is made of whole bytes far before it.
abbrev pub IsToldByBytes : Type 0
IsToldByBytes = (seed : ℕ) (bytes : List ℕ) → length bytes ≡ 480 → (IsPattern seed bytes ↔ (IsFront seed bytes 224 × AreFar bytes 3584))

-- In a word of 64 bits each bit from 32 on is made by the recurrence of the ones before it.
abbrev pub IsSound : ℕ → Type 0
IsSound word = (k : ℕ) → k < 32 → bit_at word (k + 32) ≡ parity (bit_at word k) (bit_at word (k + 1)) (bit_at word (k + 2)) (bit_at word (k + 22))
