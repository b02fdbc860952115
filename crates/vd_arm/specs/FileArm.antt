-- What contracts see of a pass of a real file.
use Rattle.std.specs.Prelude.{◌≡◌, ℕ, List, Option, Some, None, length}
use Rattle.vd_arm.specs.Arm.{PassSeen}
use Rattle.vd_arm.specs.declared.file.FilePass.{FilePass}

-- It tells no bytes.
abbrev pub file_pass_seen : FilePass → PassSeen
file_pass_seen pass = record { block = pass.block.0; size = pass.size; told = None }

none_told : (bytes : List ℕ) → ◌≡◌ {A = Option (List ℕ)} None (Some bytes) → ⊥
none_told bytes is = cc

pub file_pass_tells : (pass : FilePass) (bytes : List ℕ) → (file_pass_seen pass).told ≡ Some bytes → length bytes ≡ (file_pass_seen pass).size
file_pass_tells pass bytes is = absurd (none_told bytes is)
