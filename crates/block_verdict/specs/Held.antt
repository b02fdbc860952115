-- What a sector says of the two keys of a pending block.
use Rattle.std.specs.Prelude.{◌↔◌, ◌⊎◌, ℕ, List, IsTrue}
use Rattle.sector_stamp.specs.Image.{Matches}
use Rattle.block_verdict.specs.declared.held.Held.{Held}

-- A sector matches the keys that are told, of which there is one at least.
pub record IsHeld (name : List ℕ) (address old new : ℕ) (sector : List ℕ) (held : Held) : Type 0 where
  pub as_old : IsTrue held.old ↔ Matches name address old sector
  pub as_new : IsTrue held.new ↔ Matches name address new sector
  pub either : Matches name address old sector ⊎ Matches name address new sector
