-- What is read of a map.
use Rattle.std.specs.Prelude.{◌≡◌, ⊤, ℕ, ◌+◌, ◌/◌, ◌%◌, ◌<◌, ◌≤◌, length, Vec, Result, Ok, Err}
use Rattle.std.specs.declared.alloc.Global.{Global}
use Rattle.key_state.specs.declared.entry.Entry.{Entry}
use Rattle.journal_layout.specs.Recovery.{Sectors, IsMap, IsMapFault, map_start, journal_end}
use Rattle.journal_layout.specs.declared.damage.Damage.TheVariants.{Missing, Map}
use Rattle.journal_layout.specs.declared.live.Live.{Live}
use Rattle.journal_recover.specs.declared.fault.RecoverFault.{RecoverFault}
use Rattle.journal_recover.specs.declared.fault.RecoverFault.TheVariants.{Damaged, Failed, NoMemory}

-- what is read of the live map, or refused there
abbrev pub ReadsMap : Sectors → Live → Result (Vec Entry Global) RecoverFault → Type 0
ReadsMap sectors live (Ok entries) = (journal_end live ≤ length sectors) × IsMap sectors live entries.items
ReadsMap sectors live (Err (Damaged sector Missing at)) = (length sectors < journal_end live) × (sector ≡ length sectors) × (at ≡ 0)
ReadsMap sectors live (Err (Damaged sector Map at)) =
    (journal_end live ≤ length sectors) × ((k : ℕ) × IsMapFault sectors live k × (sector ≡ map_start live + k / 256) × (at ≡ k % 256))
ReadsMap sectors live (Err Failed) = ⊤
ReadsMap sectors live (Err NoMemory) = ⊤
ReadsMap sectors live (Err other) = ⊥
