-- What reading takes from a source.
use Rattle.std.specs.Prelude.{ℕ, ◌<◌, ◌≤◌, List, length, Option}
use Rattle.std.specs.Io.KnownBytes.{Consumes, IsAtEnd}

-- these bytes are all that was left, up to a limit
pub record AllUpTo (limit : ℕ) (before now : Option (List ℕ)) (bytes : List ℕ) : Type 0 where
  pub taken : Consumes before now bytes
  pub within : length bytes ≤ limit
  pub whole : length bytes < limit → IsAtEnd now
