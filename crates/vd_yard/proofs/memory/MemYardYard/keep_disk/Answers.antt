use Rattle.std.proofs.Common.{subst, true, refl, sym, ap, ◌∙◌, List, ℕ}
use Rattle.vd_yard.specs.Out.{AtDisk, AtPasses}
use Rattle.vd_yard.specs.Kept.{kept_at}
use Rattle.vd_yard.specs.PathMap.{map_of}
use Rattle.vd_yard.specs.Ledger.{ledger_out}
use Rattle.vd_yard.specs.There.{there_back, there_kept, kept_stays}
use Rattle.vd_yard.proofs.Opened.{files_stay}
use Rattle.std.specs.Prelude.{Some}
use Rattle.vd_disk.specs.MemDisk.{mem_disk_seen}
use Rattle.vd_disk.specs.declared.memory.MemDisk.{MemDisk}
use Rattle.vd_yard.specs.Kept.{Kept, keep_at}
use Rattle.vd_yard.specs.MemYard.{disks_in}
use Rattle.vd_yard.proofs.Seen.{disk_stays, disks_kept}
use Rattle.vd_yard.proofs.memory.MemYardYard.keep_disk.Goals as goal

pub invariant_of-self : goal.invariant_of-self
invariant_of-self c =
    let d = c.args.self.now in
    record {
      disks_there = there_kept AtDisk c.as_bytes.result.now (Some c.args.disk) (ledger_out c.close_disk.new.self) (map_of d.disks) (map_of c.replace.new.self) c.replace.ensures (there_back AtDisk AtDisk c.args.path.now (ledger_out d.ledger) (ledger_out c.close_disk.new.self) (map_of d.disks) c.close_disk.ensures.out d.disks_there);
      contents_there = there_back AtPasses AtDisk c.args.path.now (ledger_out d.ledger) (ledger_out c.close_disk.new.self) (map_of d.contents) c.close_disk.ensures.out d.contents_there;
    }

pub returns-clause-back : goal.returns-clause-back
returns-clause-back c =
    let d = c.args.self.now in
    record {
      faults = refl;
      out = c.close_disk.ensures.out;
      tells = refl;
      willing = λ still. still;
      files = files_stay (map_of d.files) (map_of d.disks) (map_of c.replace.new.self) (map_of d.contents) (map_of d.contents) (disk_stays c.as_bytes.result.now c.args.disk (map_of d.disks) (map_of c.replace.new.self) c.replace.ensures) (λ q there. there);
    }

pub returns-clause-disks : goal.returns-clause-disks
returns-clause-disks c =
    let d = c.args.self.now in
    ap disks_in c.replace.ensures ∙ disks_kept (map_of d.disks) c.as_bytes.result.now c.args.disk
    ∙ ap (λ (q : List ℕ). keep_at true (disks_in (map_of d.disks)) q (mem_disk_seen c.args.disk)) c.as_bytes.ensures
