use Rattle.vd_yard.specs.Out.{AtDisk, AtPasses, AtArm}
use Rattle.vd_yard.specs.PathMap.{map_of}
use Rattle.vd_yard.specs.Ledger.{ledger_out}
use Rattle.vd_yard.specs.There.{there_back}
use Rattle.vd_yard.proofs.memory.MemYardYard.keep_arm.Goals as goal

pub invariant_of-self : goal.invariant_of-self
invariant_of-self c =
    let d = c.args.self.now in
    record {
      disks_there = there_back AtDisk AtArm c.args.store.now.path (ledger_out d.ledger) (ledger_out c.close_arm.new.self) (map_of d.disks) c.close_arm.ensures.out d.disks_there;
      contents_there = there_back AtPasses AtArm c.args.store.now.path (ledger_out d.ledger) (ledger_out c.close_arm.new.self) (map_of d.contents) c.close_arm.ensures.out d.contents_there;
    }
