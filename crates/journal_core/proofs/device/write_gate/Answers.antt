use Rattle.std.proofs.Common.{◌≡◌, ℕ, List, sym, ap, ◌∙◌, subst, arith}
use Rattle.journal_layout.specs.Gate.{IsGate}
use Rattle.journal_layout.specs.Recovery.{area_of, gate_of_live}
use Rattle.vd_disk.specs.Disk.{sector_at}
use Rattle.journal_core.specs.Keeps.{IsGateAt}
use Rattle.journal_core.specs.Writes.{ReadsGate}
use Rattle.journal_core.proofs.Changes.{changed_write, changed_sync, changed_then}
use Rattle.journal_core.proofs.Writes.{reads_there, synced_after}
use Rattle.journal_core.proofs.device.write_gate.Goals as goal

pub returns-in_err-write-clause-changed : goal.returns-in_err-write-clause-changed
returns-in_err-write-clause-changed g c =
    let met = g.met.D.Disk in
    changed_write (IsGateAt c.args.live.now) (g.D.Disk.seen c.args.disk.now) (g.D.Disk.seen c.write.new.self) (met.is_tale c.args.disk.now) c.area_of.result c.gate_sector.result c.write.result
    (c.area_of.ensures.value, c.gate_sector.ensures) c.write.ensures.writes c.write.ensures.leaves c.write.ensures.cause.later

pub returns-clause-changed : goal.returns-clause-changed
returns-clause-changed g c =
    let met = g.met.D.Disk in
    let Q = IsGateAt c.args.live.now in
    let start = g.D.Disk.seen c.args.disk.now in
    let old = g.D.Disk.seen c.write.new.self in
    let new = g.D.Disk.seen c.sync.new.self in
    changed_then Q start old new
    (changed_write Q start old (met.is_tale c.args.disk.now) c.area_of.result c.gate_sector.result c.write.result (c.area_of.ensures.value, c.gate_sector.ensures) c.write.ensures.writes c.write.ensures.leaves c.write.ensures.cause.later)
    (changed_sync Q old new (met.is_tale c.write.new.self) c.sync.result c.sync.ensures.syncs c.sync.ensures.leaves c.sync.ensures.cause.later)

pub returns-clause-synced : goal.returns-clause-synced
returns-clause-synced g c =
    let met = g.met.D.Disk in
    let live = c.args.live.now in
    let start = g.D.Disk.seen c.args.disk.now in
    let old = g.D.Disk.seen c.write.new.self in
    let new = g.D.Disk.seen c.sync.new.self in
    synced_after old new c.sync.result (ReadsGate live) c.sync.ensures.syncs
    (λ t told.
    let there : sector_at t c.area_of.result ≡ c.gate_sector.result =
    reads_there c.area_of.result c.gate_sector.result start.told old.told start.sectors t (omega (arith, c.area_of.ensures.range, c.requires.room))
    (λ s is. (met.is_tale c.args.disk.now s is).as_many) c.in_ok-write.ensures.writes.reads_as told in
    let at : sector_at t (area_of live) ≡ c.gate_sector.result = ap (λ n. sector_at t n) (sym c.area_of.ensures.value) ∙ there in
    subst (λ (x : List ℕ). IsGate (area_of live) x (gate_of_live live)) (sym at) c.gate_sector.ensures)
