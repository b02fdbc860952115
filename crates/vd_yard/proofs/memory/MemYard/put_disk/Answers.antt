use Rattle.std.proofs.Common.{◌∙◌, ap, refl, is_some}
use Rattle.vd_yard.specs.Ledger.{ledger_out}
use Rattle.std.specs.Prelude.{Option, Some}
use Rattle.vd_disk.specs.declared.memory.MemDisk.{MemDisk}
use Rattle.vd_yard.specs.MemYard.{disk_seen, files_in, disks_in}
use Rattle.vd_yard.specs.Out.{AtDisk}
use Rattle.vd_yard.specs.PathMap.{map_of}
use Rattle.vd_yard.specs.Yard.{is_there_at}
use Rattle.vd_yard.proofs.Opened.{all_stay, put_here, put_or_not, on_ok, on_err}
use Rattle.vd_yard.proofs.Seen.{disk_stays, disks_kept}
use Rattle.vd_yard.proofs.memory.MemYard.put_disk.Goals as goal

pub invariant_of-self : goal.invariant_of-self
invariant_of-self c =
    let d = c.args.self.now in
    record {
      disks_there = put_or_not AtDisk (ledger_out d.ledger) c.args.path (Some c.args.disk) (map_of d.disks) (map_of c.put.new.self) c.put.result c.put.ensures.ok
          (on_err _ _ c.put.result c.put.ensures.err (λ same. ap (λ entries. map_of entries) same)) d.disks_there;
      contents_there = d.contents_there;
    }

pub returns-clause-puts : goal.returns-clause-puts
returns-clause-puts c =
    let d = c.args.self.now in
    let path = c.args.path in
    let disks = map_of d.disks in
    let now = map_of c.put.new.self in
    on_ok _ _ c.put.result c.put.ensures.ok (λ e. record {
      disks = ap disks_in e ∙ disks_kept disks path c.args.disk;
      there = is_there_at (files_in (map_of d.files) now (map_of d.contents)) AtDisk path ∙ ap (λ (o : Option (Option MemDisk)). is_some (disk_seen o)) (put_here path (Some c.args.disk) disks now e);
      faults = refl;
      out = refl;
      counts = refl;
      tells = refl;
      willing = refl;
      files = all_stay (map_of d.files) (map_of d.files) disks now (map_of d.contents) (map_of d.contents) (λ q there. there) (disk_stays path c.args.disk disks now e) (λ q there. there);
      contents = refl;
    })
