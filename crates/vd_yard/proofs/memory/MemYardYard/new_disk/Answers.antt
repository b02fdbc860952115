use Rattle.std.proofs.Common.{rules, refl}
use Rattle.vd_yard.specs.Out.{AtDisk, AtPasses}
use Rattle.vd_yard.specs.PathMap.{map_of}
use Rattle.vd_yard.specs.Ledger.{ledger_out}
use Rattle.vd_yard.proofs.Came.{still_willing, never_refused}
use Rattle.vd_yard.proofs.Opened.{opened_other, opened_here, files_stay}
use Rattle.vd_yard.proofs.Seen.{disks_stay}
use Rattle.vd_yard.proofs.memory.MemYardYard.new_disk.Goals as goal

pub returns-then-is_next_refused-clause-opens : goal.returns-then-is_next_refused-clause-opens
returns-then-is_next_refused-clause-opens c = record {
  later = search rules;
  failed = search rules;
  kept = search rules;
  taken = search rules;
  not_taken = search rules;
  counts = search rules;
  tells = search rules;
  willing = still_willing _ _ _ c.is_next_refused.ensures.counted;
  files = λ kind path there. there;
  disks = search rules;
  contents = search rules;
}

pub returns-then-is_next_refused-clause-willing : goal.returns-then-is_next_refused-clause-willing
returns-then-is_next_refused-clause-willing c = λ willing failed. never_refused c.args.path.now c.args.self.now.refusals c.is_next_refused.result c.is_next_refused.ensures.answer c.if-is_next_refused.true willing

pub returns-in_default-clause-opens : goal.returns-in_default-clause-opens
returns-in_default-clause-opens c = record {
  later = search rules;
  failed = search rules;
  kept = search rules;
  taken = search rules;
  not_taken = search rules;
  counts = search rules;
  tells = search rules;
  willing = still_willing _ _ _ c.is_next_refused.ensures.counted;
  files = λ kind path there. there;
  disks = search rules;
  contents = search rules;
}

pub returns-in_default-make_disk_entry-clause-opens : goal.returns-in_default-make_disk_entry-clause-opens
returns-in_default-make_disk_entry-clause-opens c = record {
  later = search rules;
  failed = search rules;
  kept = search rules;
  taken = search rules;
  not_taken = search rules;
  counts = search rules;
  tells = search rules;
  willing = still_willing _ _ _ c.is_next_refused.ensures.counted;
  files = files_stay (map_of c.args.self.now.files) (map_of c.args.self.now.disks) (map_of c.make_disk_entry.new.disks) (map_of c.args.self.now.contents) (map_of c.args.self.now.contents) (disks_stay (map_of c.args.self.now.disks) (map_of c.make_disk_entry.new.disks) c.make_disk_entry.ensures.disks) (λ q there. there);
  disks = c.make_disk_entry.ensures.disks;
  contents = search rules;
}

pub invariant_of-self-2 : goal.invariant_of-self-2
invariant_of-self-2 c =
    let d = c.args.self.now in
    record {
      disks_there = opened_here AtDisk c.args.path.now (ledger_out d.ledger) (ledger_out c.open.new.self) (map_of c.make_disk_entry.new.disks) c.open.result c.open.ensures.out c.open.ensures.err c.in-Ok-make_disk_entry.ensures.there record { each = λ q some. c.make_disk_entry.ensures.stays q (d.disks_there.each q some) };
      contents_there = opened_other AtPasses AtDisk c.args.path.now (ledger_out d.ledger) (ledger_out c.open.new.self) (map_of d.contents) c.open.result c.open.ensures.out c.open.ensures.err refl d.contents_there;
    }

pub returns-in-Ok-open-clause-opens : goal.returns-in-Ok-open-clause-opens
returns-in-Ok-open-clause-opens c = record {
  later = search rules;
  failed = search rules;
  kept = search rules;
  taken = search rules;
  not_taken = search rules;
  counts = search rules;
  tells = search rules;
  willing = still_willing _ _ _ c.is_next_refused.ensures.counted;
  files = files_stay (map_of c.args.self.now.files) (map_of c.args.self.now.disks) (map_of c.make_disk_entry.new.disks) (map_of c.args.self.now.contents) (map_of c.args.self.now.contents) (disks_stay (map_of c.args.self.now.disks) (map_of c.make_disk_entry.new.disks) c.make_disk_entry.ensures.disks) (λ q there. there);
  disks = c.make_disk_entry.ensures.disks;
  contents = search rules;
}

pub returns-in-Err-clause-opens : goal.returns-in-Err-clause-opens
returns-in-Err-clause-opens c = record {
  later = search rules;
  failed = search rules;
  kept = search rules;
  taken = search rules;
  not_taken = search rules;
  counts = search rules;
  tells = search rules;
  willing = still_willing _ _ _ c.is_next_refused.ensures.counted;
  files = files_stay (map_of c.args.self.now.files) (map_of c.args.self.now.disks) (map_of c.make_disk_entry.new.disks) (map_of c.args.self.now.contents) (map_of c.args.self.now.contents) (disks_stay (map_of c.args.self.now.disks) (map_of c.make_disk_entry.new.disks) c.make_disk_entry.ensures.disks) (λ q there. there);
  disks = c.make_disk_entry.ensures.disks;
  contents = search rules;
}
