-- What a yard in memory tells.
use Rattle.std.specs.Prelude.{ℕ, Bool, true, List, Option, Some, None, is_some}
use Rattle.vd_disk.specs.Disk.{DiskSeen}
use Rattle.vd_disk.specs.MemDisk.{mem_disk_seen}
use Rattle.vd_disk.specs.declared.memory.MemDisk.{MemDisk}
use Rattle.vd_yard.specs.Out.{Kind, AtSource, AtDisk, AtPasses, AtArm}
use Rattle.vd_yard.specs.Yard.{YardSeen, Tells, Files}
use Rattle.vd_yard.specs.Kept.{Kept, kept_at, kept_of}
use Rattle.vd_yard.specs.PathMap.{map_of}
use Rattle.vd_yard.specs.Held.{bytes_in}
use Rattle.vd_yard.specs.ArmPlan.{arms_sure, listed}
use Rattle.vd_yard.specs.SourceFile.{file_bytes, file_failing, file_sure}
use Rattle.vd_yard.specs.Ledger.{ledger_out, ledger_counts}
use Rattle.vd_yard.specs.Refusals.{all_came}
use Rattle.vd_yard.specs.declared.data.Held.{Held}
use Rattle.vd_yard.specs.declared.source_file.SourceFile.{SourceFile}
use Rattle.vd_yard.specs.declared.arm_plan.ArmPlan.{ArmPlan}
use Rattle.vd_yard.specs.declared.memory.MemYard.{MemYard}

-- of a disk that is there all that is seen of it; an entry without one is that of a disk that was made and hasn't come back yet
abbrev pub disk_seen : Option (Option MemDisk) → Option DiskSeen
disk_seen None = None
disk_seen (Some None) = None
disk_seen (Some (Some disk)) = Some (mem_disk_seen disk)

-- the disks that are kept, path by path
abbrev pub disks_in : Kept (Option MemDisk) → Kept DiskSeen
disks_in disks = kept_of (λ path. disk_seen (kept_at disks path))

abbrev pub sure_at : Kept SourceFile → Kept ArmPlan → Kind → List ℕ → Bool
sure_at files plans AtSource path = file_sure (kept_at files path)
sure_at files plans AtDisk path = true
sure_at files plans AtPasses path = true
sure_at files plans AtArm path = arms_sure (kept_at plans path)

abbrev pub tells_in : Kept SourceFile → Kept ArmPlan → Tells
tells_in files plans = record {
  bytes = λ path. file_bytes (kept_at files path);
  sure = λ kind path. sure_at files plans kind path;
  keeps_disks = true;
  keeps_contents = true;
}

abbrev pub there_at : Kept SourceFile → Kept (Option MemDisk) → Kept Held → Kind → List ℕ → Bool
there_at files disks contents AtSource path = is_some (kept_at files path)
there_at files disks contents AtDisk path = is_some (disk_seen (kept_at disks path))
there_at files disks contents AtPasses path = is_some (kept_at contents path)
there_at files disks contents AtArm path = is_some (kept_at contents path)

abbrev pub files_in : Kept SourceFile → Kept (Option MemDisk) → Kept Held → Files
files_in files disks contents = record { at = λ kind path. there_at files disks contents kind path }

abbrev pub mem_yard_seen : MemYard → YardSeen
mem_yard_seen yard = record {
  faults = yard.faults;
  out = ledger_out yard.ledger;
  counts = ledger_counts yard.ledger;
  tells = tells_in (map_of yard.files) (map_of yard.arm_plans);
  willing = all_came yard.refusals;
  files = files_in (map_of yard.files) (map_of yard.disks) (map_of yard.contents);
  disks = disks_in (map_of yard.disks);
  contents = bytes_in (map_of yard.contents);
}

-- the refusals that were set
abbrev pub refusals_of : MemYard → List (List ℕ × Option ℕ)
refusals_of yard = yard.refusals

-- the reads that fail of each source of a path
abbrev pub failing_reads : MemYard → List ℕ → List ℕ
failing_reads yard path = file_failing (kept_at (map_of yard.files) path)

-- the listed calls of the arms of a path, and how many arms were opened there since they were listed
abbrev pub arm_calls : MemYard → List ℕ → List (ℕ × ℕ × ℕ)
arm_calls yard path = listed (kept_at (map_of yard.arm_plans) path)

abbrev pub arms_in : MemYard → Kept ℕ
arms_in yard = map_of yard.arms_opened
