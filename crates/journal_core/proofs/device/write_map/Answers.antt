use Rattle.std.proofs.Common.{rules, ◌≡◌, ap, ◌∙◌, subst, arith}
use Rattle.journal_layout.specs.Places.{Extent, map_sectors}
use Rattle.journal_layout.specs.Recovery.{blocks_of, IsSlot}
use Rattle.journal_core.specs.Parts.{slot_at}
use Rattle.journal_core.specs.Writes.{InMap, HasMapTo}
use Rattle.journal_core.proofs.Changes.{changed_same, changed_write, changed_then}
use Rattle.journal_core.proofs.Writes.{map_none, map_more}
use Rattle.journal_core.proofs.device.write_map.Goals as goal

pub loop-i-init : goal.loop-i-init
loop-i-init g c =
    let met = g.met.D.Disk in
    let disk = g.D.Disk.seen c.args.disk.now in
    record {
      changed = changed_same (InMap c.args.live.now) disk disk (met.is_tale c.args.disk.now) (search rules) (omega arith);
      faults = search rules;
      has_map = λ t told. map_none c.args.live.now c.args.entries.now t;
    }

pub returns-in_err-write-clause-changed : goal.returns-in_err-write-clause-changed
returns-in_err-write-clause-changed g c =
    let met = g.met.D.Disk in
    let live = c.args.live.now in
    let start = g.D.Disk.seen c.args.disk.now in
    let old = g.D.Disk.seen c.loop-i.disk in
    let new = g.D.Disk.seen c.write.new.self in
    let many : c.map_sectors-i-end.result ≡ map_sectors (blocks_of live) = c.map_sectors-i-end.ensures.value ∙ ap (λ (e : Extent). map_sectors e.blocks) c.places_of.ensures in
    let may : InMap live c.map_sector.result c.map_of.result = (omega (arith, c.map_sector.ensures.value), omega (arith, c.map_sector.ensures.value, many, c.loop-i-test.true)) in
    changed_then (InMap live) start old new c.loop-i.invariant.changed
    (changed_write (InMap live) old new (met.is_tale c.loop-i.disk) c.map_sector.result c.map_of.result c.write.result may c.write.ensures.writes c.write.ensures.leaves c.write.ensures.cause.later)

pub loop-i-preserved : goal.loop-i-preserved
loop-i-preserved g c =
    let met = g.met.D.Disk in
    let live = c.args.live.now in
    let entries = c.args.entries.now in
    let start = g.D.Disk.seen c.args.disk.now in
    let old = g.D.Disk.seen c.loop-i.disk in
    let new = g.D.Disk.seen c.write.new.self in
    let many : c.map_sectors-i-end.result ≡ map_sectors (blocks_of live) = c.map_sectors-i-end.ensures.value ∙ ap (λ (e : Extent). map_sectors e.blocks) c.places_of.ensures in
    let at = c.map_sector.ensures.value in
    let may : InMap live c.map_sector.result c.map_of.result = (omega (arith, at), omega (arith, at, many, c.loop-i-test.true)) in
    let size : old.sectors ≡ start.sectors = c.loop-i.invariant.changed.sectors in
    record {
      changed = changed_then (InMap live) start old new c.loop-i.invariant.changed
          (changed_write (InMap live) old new (met.is_tale c.loop-i.disk) c.map_sector.result c.map_of.result c.write.result may c.write.ensures.writes c.write.ensures.leaves c.write.ensures.cause.later);
      faults = c.in_ok-write.ensures.cause.kept ∙ c.loop-i.invariant.faults;
      has_map = map_more live entries c.loop-i.i c.map_sector.result c.map_of.result old.told new.told old.sectors at
          (omega (arith, c.map_sector.ensures.inside, c.requires.room, size))
          (λ s told. (met.is_tale c.loop-i.disk s told).as_many)
          (λ k is. subst (λ n. IsSlot c.map_of.result n k (slot_at entries k)) c.requires.one_each (c.map_of.ensures k is))
          c.in_ok-write.ensures.writes.reads_as c.loop-i.invariant.has_map;
    }

pub returns-clause-has_map : goal.returns-clause-has_map
returns-clause-has_map g c =
    let live = c.args.live.now in
    let many : c.map_sectors-i-end.result ≡ map_sectors (blocks_of live) = c.map_sectors-i-end.ensures.value ∙ ap (λ (e : Extent). map_sectors e.blocks) c.places_of.ensures in
    let all : c.loop-i.i ≡ map_sectors (blocks_of live) = omega (arith, many, c.loop-i-test.false, c.loop-i.auto.i-end) in
    λ t told. subst (λ n. HasMapTo live c.args.entries.now n t) all (c.loop-i.invariant.has_map t told)
