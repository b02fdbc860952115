use Rattle.std.proofs.Common.{rules, inl, inr}
use Rattle.journal_core.specs.Writes.{InMap, HasMap}
use Rattle.journal_core.proofs.Changes.{changed_sync, changed_then}
use Rattle.journal_core.proofs.Writes.{synced_after}
use Rattle.journal_core.proofs.device.begin_epoch.Goals as goal

pub returns-in_err-sync-clause-begins : goal.returns-in_err-sync-clause-begins
returns-in_err-sync-clause-begins g c =
    let met = g.met.D.Disk in
    let Q = InMap c.args.live.now in
    let start = g.D.Disk.seen c.args.disk.now in
    let old = g.D.Disk.seen c.write_map.new.disk in
    let new = g.D.Disk.seen c.sync.new.self in
    inr (
      changed_then Q start old new c.write_map.ensures.changed
          (changed_sync Q old new (met.is_tale c.write_map.new.disk) c.sync.result c.sync.ensures.syncs c.sync.ensures.leaves c.sync.ensures.cause.later),
      search rules,
    )

pub returns-clause-begins : goal.returns-clause-begins
returns-clause-begins g c =
    let met = g.met.D.Disk in
    let live = c.args.live.now in
    let entries = c.args.entries.now in
    let Q = InMap live in
    let start = g.D.Disk.seen c.args.disk.now in
    let old = g.D.Disk.seen c.write_map.new.disk in
    let mid = g.D.Disk.seen c.sync.new.self in
    inl (
      mid,
      met.is_tale c.sync.new.self,
      changed_then Q start old mid c.write_map.ensures.changed
          (changed_sync Q old mid (met.is_tale c.write_map.new.disk) c.sync.result c.sync.ensures.syncs c.sync.ensures.leaves c.sync.ensures.cause.later),
      synced_after old mid _ (HasMap live entries) c.in_ok-sync.ensures.syncs c.in_ok-write_map.ensures.has_map,
      c.write_gate.ensures.changed,
      c.write_gate.ensures.synced,
    )
