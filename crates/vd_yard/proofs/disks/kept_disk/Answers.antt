use Rattle.std.proofs.Common.{refl, ap, ◌∙◌}
use Rattle.std.specs.Prelude.{None, Option, Some}
use Rattle.vd_disk.specs.declared.memory.MemDisk.{MemDisk}
use Rattle.vd_yard.specs.PathMap.{map_of}
use Rattle.vd_yard.proofs.Seen.{seen_at}
use Rattle.vd_yard.proofs.disks.kept_disk.Goals as goal

pub returns-in-Some-None : goal.returns-in-Some-None
returns-in-Some-None c =
    seen_at (map_of c.args.disks.now) c.args.path.now c.args.path.now (Some None) refl (c.in-Some-None.ensures ∙ ap (λ (o : Option MemDisk). Some o) c.in-Some-None.field-0-is)

pub returns-in-None : goal.returns-in-None
returns-in-None c = seen_at (map_of c.args.disks.now) c.args.path.now c.args.path.now None refl c.in-None.ensures
