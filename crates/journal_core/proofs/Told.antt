-- What was told before.
use Rattle.std.proofs.Common.{◌≡◌, ℕ, List, Option, Some, None, sym, ◌∙◌}
use Rattle.journal_layout.specs.Recovery.{Sectors}
use Rattle.vd_disk.specs.Disk.{DiskSeen}
use Rattle.journal_core.specs.Changes.{Changed}

-- told before, where it is told now
pub told_before : (Q : ℕ → List ℕ → Type 0) (old new : DiskSeen) (told : Option Sectors) → old.told ≡ told → Changed Q old new → (t : Sectors) → new.told ≡ Some t → (s : Sectors) × (old.told ≡ Some s)
told_before Q old new None is changed t tells = let none = changed.untold is in absurd (none_some t (sym none ∙ tells))
  where
    none_some : (t : Sectors) → ◌≡◌ {A = Option Sectors} None (Some t) → ⊥
    none_some t e = cc
told_before Q old new (Some s) is changed t tells = (s, is)
