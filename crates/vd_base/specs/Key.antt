-- The key of the next write.
use Rattle.std.specs.Prelude.{ℕ, ◌+◌, ◌%◌}

-- After 126 comes 1.
abbrev pub next : ℕ → ℕ
next key = key % 126 + 1
