use Rattle.vd_yard.specs.Out.{AtSource, AtDisk, AtPasses}
use Rattle.vd_yard.specs.PathMap.{map_of}
use Rattle.vd_yard.specs.Ledger.{ledger_out}
use Rattle.vd_yard.specs.There.{there_back}
use Rattle.vd_yard.proofs.memory.MemYardYard.keep_source.Goals as goal

pub invariant_of-self : goal.invariant_of-self
invariant_of-self c =
    let d = c.args.self.now in
    record {
      disks_there = there_back AtDisk AtSource c.args.path.now (ledger_out d.ledger) (ledger_out c.close_source.new.self) (map_of d.disks) c.close_source.ensures.out d.disks_there;
      contents_there = there_back AtPasses AtSource c.args.path.now (ledger_out d.ledger) (ledger_out c.close_source.new.self) (map_of d.contents) c.close_source.ensures.out d.contents_there;
    }
