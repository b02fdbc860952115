-- One text after another, grouped to the right, as lines with many parts are written.
use Rattle.std.specs.Prelude.{ℕ, List, ◌++◌}

infixr 60 ◌⧺◌
abbrev pub ◌⧺◌ : List ℕ → List ℕ → List ℕ
a ⧺ b = a ++ b
