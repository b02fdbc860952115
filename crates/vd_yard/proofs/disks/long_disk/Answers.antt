use Rattle.std.proofs.Common.{arith, refl}
use Rattle.std.specs.Prelude.{Some}
use Rattle.std.proofs.lemmas.Result.{IfOk-weaker}
use Rattle.vd_disk.specs.MemDisk.{mem_disk_seen}
use Rattle.vd_yard.specs.PathMap.{map_of}
use Rattle.vd_yard.proofs.Hands.{longer_hands, made_hands, same_hands}
use Rattle.vd_yard.proofs.Seen.{seen_at}
use Rattle.vd_yard.proofs.disks.long_disk.Goals as goal

pub returns-in_default-clause-hands : goal.returns-in_default-clause-hands
returns-in_default-clause-hands c =
    IfOk-weaker _ _ _ (λ disk seen. made_hands _ c.args.sectors _ (mem_disk_seen disk) c.in_default.ensures seen) c.new-in_default.ensures.seen

pub returns-then-sectors-clause-hands : goal.returns-then-sectors-clause-hands
returns-then-sectors-clause-hands c =
    same_hands _ c.in-Some.kept.now _ (seen_at (map_of c.args.disks.now) c.args.path.now c.args.path.now (Some (Some c.in-Some.kept.now)) refl c.in-Some.ensures) c.in_ok-disk.ensures.seen

pub returns-clause-hands : goal.returns-clause-hands
returns-clause-hands c =
    longer_hands _ c.args.sectors (mem_disk_seen c.in-Some.kept.now) (mem_disk_seen c.in_ok-disk.disk) _
    (seen_at (map_of c.args.disks.now) c.args.path.now c.args.path.now (Some (Some c.in-Some.kept.now)) refl c.in-Some.ensures)
    c.in_ok-disk.ensures.seen
    (c.in_ok-lengthen.ensures.longer (omega arith))
    (omega arith)
