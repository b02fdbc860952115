use Rattle.std.proofs.Common.{rules, ◌∙◌, arith}
use Rattle.journal_core.specs.Writes.{ClearsLog}
use Rattle.journal_core.proofs.Changes.{changed_same}
use Rattle.journal_core.proofs.Clearing.{cleared_then, cleared_more}
use Rattle.journal_core.proofs.device.clear_later.Goals as goal

pub loop-place-init : goal.loop-place-init
loop-place-init g c =
    let met = g.met.D.Disk in
    let disk = g.D.Disk.seen c.args.disk.now in
    record {
      changed = changed_same (ClearsLog c.args.live.now c.args.epoch disk.told) disk disk (met.is_tale c.args.disk.now) (search rules) (omega arith);
      faults = search rules;
      cleared = λ t told q early. absurd (omega (arith, early));
    }

pub returns-in_err-clear_one-clause-changed : goal.returns-in_err-clear_one-clause-changed
returns-in_err-clear_one-clause-changed g c =
    let met = g.met.D.Disk in
    cleared_then c.args.live.now c.args.epoch c.loop-place.place c.log_sector.result (g.D.Disk.seen c.args.disk.now) (g.D.Disk.seen c.loop-place.disk) (g.D.Disk.seen c.clear_one.new.disk)
    c.log_sector.ensures.value (omega (arith, c.loop-place-test.true)) c.requires.room (met.is_tale c.args.disk.now) (met.is_tale c.loop-place.disk) c.loop-place.invariant.changed c.clear_one.ensures.changed

pub loop-place-preserved : goal.loop-place-preserved
loop-place-preserved g c =
    let met = g.met.D.Disk in
    let start = g.D.Disk.seen c.args.disk.now in
    let old = g.D.Disk.seen c.loop-place.disk in
    let new = g.D.Disk.seen c.clear_one.new.disk in
    record {
      changed = cleared_then c.args.live.now c.args.epoch c.loop-place.place c.log_sector.result start old new c.log_sector.ensures.value (omega (arith, c.loop-place-test.true)) c.requires.room
          (met.is_tale c.args.disk.now) (met.is_tale c.loop-place.disk) c.loop-place.invariant.changed c.clear_one.ensures.changed;
      faults = c.in_ok-clear_one.ensures.cause.kept ∙ c.loop-place.invariant.faults;
      cleared = cleared_more c.args.live.now c.args.epoch c.loop-place.place c.log_sector.result start old new c.log_sector.ensures.value (omega (arith, c.loop-place-test.true)) c.requires.room
          (met.is_tale c.args.disk.now) (met.is_tale c.loop-place.disk) c.loop-place.invariant.changed c.clear_one.ensures.changed c.loop-place.invariant.cleared c.in_ok-clear_one.ensures.cleared;
    }
