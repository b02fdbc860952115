-- What contracts see of a disk in memory.
use Rattle.std.specs.Prelude.{◌≡◌, ℕ, List, [], ◌∷◌, length, Some, None}
use Rattle.vd_outside.specs.Streams.{is_empty}
use Rattle.vd_disk.specs.Disk.{Sectors, DiskSeen, WhenTold, IsTale, settled}
use Rattle.vd_disk.specs.Calls.{Calls, is_sure}
use Rattle.vd_disk.specs.declared.calls.CallCounts.{CallCounts}
use Rattle.vd_disk.specs.Step.{tables_from}
use Rattle.vd_disk.specs.Tale.{tale_of}
use Rattle.vd_disk.specs.declared.memory.MemDisk.{MemDisk}

abbrev pub mem_disk_seen : MemDisk → DiskSeen
mem_disk_seen disk = record {
  sectors = length disk.content.items;
  told = Some disk.content.items;
  faults = disk.faults;
  sure = is_sure disk.plan;
  moments = tables_from disk.first.items disk.steps.items;
}

-- which of its calls fail
abbrev pub calls_of : MemDisk → Calls
calls_of disk = disk.plan

-- how many calls of each kind were made
abbrev pub counts_of : MemDisk → CallCounts
counts_of disk = disk.counts

-- a new disk: at rest with these sectors, no fault counted
abbrev pub at_rest : Sectors → List ℕ → DiskSeen
at_rest sectors failing = record {
  sectors = length sectors;
  told = Some sectors;
  faults = 0;
  sure = is_empty failing;
  moments = settled sectors ∷ [];
}

pub mem_disk_tale : (disk : MemDisk) → WhenTold (mem_disk_seen disk).told (IsTale (mem_disk_seen disk).sectors (mem_disk_seen disk).moments)
mem_disk_tale disk sectors is = tale_of disk.first.items disk.content.items disk.steps.items disk.replays sectors is

pub mem_disk_tells : (disk : MemDisk) → (mem_disk_seen disk).told ≡ None → ⊥
mem_disk_tells disk is = cc
