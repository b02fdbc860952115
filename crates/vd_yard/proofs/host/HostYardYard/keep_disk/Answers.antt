use Rattle.std.proofs.Common.{sym}
use Rattle.vd_disk.specs.Disk.{DiskSeen}
use Rattle.vd_yard.specs.Kept.{keep_at_untold, nothing_kept}
use Rattle.vd_yard.proofs.host.HostYardYard.keep_disk.Goals as goal

pub returns-clause-disks : goal.returns-clause-disks
returns-clause-disks c = sym (keep_at_untold {A = DiskSeen} nothing_kept c.args.path.now _)
