use Rattle.std.proofs.Common.{rules, ◌≡◌, ◌∙◌, subst, arith}
use Rattle.journal_core.specs.Writes.{IsZeroIn, ReadsZero}
use Rattle.journal_core.proofs.Changes.{changed_same, changed_write, changed_sync, changed_then}
use Rattle.journal_core.proofs.Writes.{zero_none, zero_more, synced_after}
use Rattle.journal_core.proofs.device.zero_between.Goals as goal

pub loop-at-init : goal.loop-at-init
loop-at-init g c =
    let met = g.met.D.Disk in
    let disk = g.D.Disk.seen c.args.disk.now in
    record {
      changed = changed_same (IsZeroIn c.args.from c.args.to) disk disk (met.is_tale c.args.disk.now) (search rules) (omega arith);
      faults = search rules;
      zeros = λ t told. zero_none c.args.from t;
    }

pub returns-in_err-write-clause-changed : goal.returns-in_err-write-clause-changed
returns-in_err-write-clause-changed g c =
    let met = g.met.D.Disk in
    let Q = IsZeroIn c.args.from c.args.to in
    let start = g.D.Disk.seen c.args.disk.now in
    let old = g.D.Disk.seen c.loop-at.disk in
    let new = g.D.Disk.seen c.write.new.self in
    let low = c.loop-at.auto.at in
    let may : Q c.loop-at.at c.blank-zeros.result = (omega (arith, low, c.requires.order), omega (arith, c.loop-at-test.true), c.blank-zeros.ensures) in
    changed_then Q start old new c.loop-at.invariant.changed
    (changed_write Q old new (met.is_tale c.loop-at.disk) c.loop-at.at c.blank-zeros.result c.write.result may c.write.ensures.writes c.write.ensures.leaves c.write.ensures.cause.later)

pub loop-at-preserved : goal.loop-at-preserved
loop-at-preserved g c =
    let met = g.met.D.Disk in
    let Q = IsZeroIn c.args.from c.args.to in
    let start = g.D.Disk.seen c.args.disk.now in
    let old = g.D.Disk.seen c.loop-at.disk in
    let new = g.D.Disk.seen c.write.new.self in
    let low = c.loop-at.auto.at in
    let size : old.sectors ≡ start.sectors = c.loop-at.invariant.changed.sectors in
    let may : Q c.loop-at.at c.blank-zeros.result = (omega (arith, low, c.requires.order), omega (arith, c.loop-at-test.true), c.blank-zeros.ensures) in
    record {
      changed = changed_then Q start old new c.loop-at.invariant.changed
          (changed_write Q old new (met.is_tale c.loop-at.disk) c.loop-at.at c.blank-zeros.result c.write.result may c.write.ensures.writes c.write.ensures.leaves c.write.ensures.cause.later);
      faults = c.in_ok-write.ensures.cause.kept ∙ c.loop-at.invariant.faults;
      zeros = zero_more c.args.from c.loop-at.at c.blank-zeros.result old.told new.told old.sectors c.blank-zeros.ensures (omega (arith, c.loop-at-test.true, c.requires.room, size))
          (λ s told. (met.is_tale c.loop-at.disk s told).as_many) c.in_ok-write.ensures.writes.reads_as c.loop-at.invariant.zeros;
    }

pub returns-clause-changed : goal.returns-clause-changed
returns-clause-changed g c =
    let met = g.met.D.Disk in
    let Q = IsZeroIn c.args.from c.args.to in
    let start = g.D.Disk.seen c.args.disk.now in
    let old = g.D.Disk.seen c.loop-at.disk in
    let new = g.D.Disk.seen c.sync.new.self in
    changed_then Q start old new c.loop-at.invariant.changed
    (changed_sync Q old new (met.is_tale c.loop-at.disk) c.sync.result c.sync.ensures.syncs c.sync.ensures.leaves c.sync.ensures.cause.later)

pub returns-clause-synced : goal.returns-clause-synced
returns-clause-synced g c =
    let old = g.D.Disk.seen c.loop-at.disk in
    let new = g.D.Disk.seen c.sync.new.self in
    let all : c.loop-at.at ≡ c.args.to = omega (arith, c.loop-at-test.false, c.loop-at.auto.at-end, c.requires.order) in
    synced_after old new c.sync.result (ReadsZero c.args.from c.args.to) c.sync.ensures.syncs (λ t told. subst (λ n. ReadsZero c.args.from n t) all (c.loop-at.invariant.zeros t told))
