-- What contracts see of a clock, and what its calls leave.
use Rattle.std.specs.Prelude.{◌≡◌, ℕ, ◌+◌, ◌-◌, ◌^◌, max, min, Bool, IsTrue}

-- the last answer, how often the clock was asked, the latest time that a rest was to last until, and whether every answer is the last one
pub record ClockSeen : Type 0 where
  pub last : ℕ
  pub looks : ℕ
  pub until : ℕ
  pub still : Bool

-- the clock was asked, and gave this answer; the count of looks is held at the greatest u64
pub record Looked (old new : ClockSeen) (answer : ℕ) : Type 0 where
  pub last : new.last ≡ answer
  pub looks : new.looks ≡ min (old.looks + 1) (2 ^ 64 - 1)
  pub until : new.until ≡ old.until
  pub still : new.still ≡ old.still
  pub same : IsTrue old.still → answer ≡ old.last

-- the clock as it is after a rest
abbrev pub rested : ℕ → ClockSeen → ClockSeen
rested time old = record { last = old.last; looks = old.looks; until = max old.until time; still = old.still }
