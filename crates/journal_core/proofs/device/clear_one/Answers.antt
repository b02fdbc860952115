use Rattle.std.proofs.Common.{rules, ◌≡◌, ◌+◌, true, nat_lt, slice_range, ap, arith}
use Rattle.std.specs.Int.{w64, from_be_bytes}
use Rattle.vd_disk.specs.Disk.{DiskSeen, WhenTold, sector_at}
use Rattle.journal_core.specs.Writes.{Clears, IsLater}
use Rattle.journal_core.proofs.Changes.{changed_same, changed_write, changed_then}
use Rattle.journal_core.proofs.Clearing.{is_above, is_not_above, read_later, read_not_later, cleared_there}
use Rattle.journal_core.proofs.device.clear_one.Goals as goal

pub returns-in_err-read-clause-changed : goal.returns-in_err-read-clause-changed
returns-in_err-read-clause-changed g c =
    let met = g.met.D.Disk in
    let old = g.D.Disk.seen c.args.disk.now in
    changed_same (Clears c.args.at (c.args.at + 1) c.args.epoch old.told) old (g.D.Disk.seen c.read.new.self) (met.is_tale c.args.disk.now) c.read.ensures.same c.read.ensures.cause.later

pub returns-then-not-is_later-clause-changed : goal.returns-then-not-is_later-clause-changed
returns-then-not-is_later-clause-changed g c =
    let met = g.met.D.Disk in
    let old = g.D.Disk.seen c.args.disk.now in
    changed_same (Clears c.args.at (c.args.at + 1) c.args.epoch old.told) old (g.D.Disk.seen c.read.new.self) (met.is_tale c.args.disk.now) c.read.ensures.same c.read.ensures.cause.later

pub returns-then-not-is_later-clause-cleared : goal.returns-then-not-is_later-clause-cleared
returns-then-not-is_later-clause-cleared g c =
    let old = g.D.Disk.seen c.args.disk.now in
    let new = g.D.Disk.seen c.read.new.self in
    read_not_later old new c.args.epoch c.args.at c.read.new.out c.in_ok-read.ensures.gives c.read.ensures.same
    (is_not_above c.args.epoch (from_be_bytes w64 (slice_range c.read.new.out 8 16)) (search rules))

pub returns-clause-changed : goal.returns-clause-changed
returns-clause-changed g c =
    let met = g.met.D.Disk in
    let old = g.D.Disk.seen c.args.disk.now in
    let mid = g.D.Disk.seen c.read.new.self in
    let new = g.D.Disk.seen c.write.new.self in
    let Q = Clears c.args.at (c.args.at + 1) c.args.epoch old.told in
    let above : nat_lt c.args.epoch (from_be_bytes w64 (slice_range c.read.new.out 8 16)) ≡ true = search rules in
    let later : WhenTold old.told (λ s. IsLater c.args.epoch (sector_at s c.args.at)) =
    read_later old mid c.args.epoch c.args.at c.read.new.out c.in_ok-read.ensures.gives (is_above c.args.epoch (from_be_bytes w64 (slice_range c.read.new.out 8 16)) above) in
    let may : Q c.args.at c.blank.result = ((omega arith, omega arith, c.blank.ensures), later) in
    changed_then Q old mid new
    (changed_same Q old mid (met.is_tale c.args.disk.now) c.read.ensures.same c.read.ensures.cause.later)
    (changed_write Q mid new (met.is_tale c.read.new.self) c.args.at c.blank.result c.write.result may c.write.ensures.writes c.write.ensures.leaves c.write.ensures.cause.later)

pub returns-clause-cleared : goal.returns-clause-cleared
returns-clause-cleared g c =
    let met = g.met.D.Disk in
    let mid = g.D.Disk.seen c.read.new.self in
    let new = g.D.Disk.seen c.write.new.self in
    let sizes = ap (λ (d : DiskSeen). d.sectors) c.read.ensures.same in
    cleared_there mid new c.args.epoch c.args.at c.blank.result c.write.result c.blank.ensures (omega (arith, sizes, c.requires.there)) (met.is_tale c.read.new.self) c.write.ensures.writes.reads_as
