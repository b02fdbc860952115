-- A word has four lanes of 16 bits. Word 0 is the lock, and block b has lane b % 4 of word b / 4 + 1.
use Rattle.std.specs.Prelude.{ℕ, ◌+◌, ◌*◌, ◌/◌, ◌%◌, ◌^◌, List, slice_index}

abbrev pub lane : ℕ → ℕ → ℕ
lane word place = word / 2 ^ (16 * place) % 2 ^ 16

abbrev pub word_of : ℕ → ℕ
word_of block = block / 4 + 1

-- what stands in the lane of a block
abbrev pub code_at : List ℕ → ℕ → ℕ
code_at words block = lane (slice_index words (word_of block)) (block % 4)

-- a number in the lane of a block
abbrev pub shifted : ℕ → ℕ → ℕ
shifted block x = x * 2 ^ (16 * (block % 4))
