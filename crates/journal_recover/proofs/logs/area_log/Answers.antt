use Rattle.std.proofs.Common.{rules, ◌≡◌, ◌<◌, ◌≤◌, ◌+◌, [], Some, length, slice_index_or, sym, ap, ◌∙◌, arith, subst, ◌*◌}
use Rattle.std.proofs.lemmas.Option.{get_or_from_slice_get}
use Rattle.vd_disk.specs.Disk.{DiskSeen}
use Rattle.journal_layout.specs.Recovery.{log_of, log_start, journal_end, place_at}
use Rattle.journal_recover.specs.Sinks.{HandsMany}
use Rattle.journal_recover.proofs.Handed.{many_none, many_joined, many_of_sector}
use Rattle.journal_recover.proofs.LogRecords.{reads_none, full, stops, wrong, ends_there, log_place, length-log_of}
use Rattle.journal_recover.proofs.logs.area_log.Goals as goal

pub loop-place-init : goal.loop-place-init
loop-place-init g c = record {
  seen = search rules;
  one_each = c.requires.one_each;
  valid = c.requires.valid;
  counts = omega arith;
  handed = many_none (g.S.RecordSink.kept c.args.sink.now);
  so_far = λ x told. reads_none c.args.live.now c.args.entries.now (log_of x c.args.live.now) (g.S.RecordSink.kept c.args.sink.now);
}

pub returns-in-Ok-clause-reads : goal.returns-in-Ok-clause-reads
returns-in-Ok-clause-reads g c = λ x told.
    let live = c.args.live.now in
    let p = c.loop-place.place in
    let met = g.met.D.Disk in
    let size = (met.is_tale c.args.disk.now x told).as_many in
    let room : journal_end live ≤ length x = omega (arith, size, c.requires.room) in
    let then : (g.D.Disk.seen c.loop-place.disk).told ≡ Some x = ap (λ (d : DiskSeen). d.told) c.loop-place.invariant.seen ∙ told in
    let read : c.read.new.out ≡ slice_index_or x (log_start live + p) [] =
    sym (get_or_from_slice_get x c.log_sector-at.result c.read.new.out [] (c.in_ok-read.ensures.gives x then)) ∙ ap (λ n. slice_index_or x n []) c.log_sector-at.ensures.value in
    let at : c.read.new.out ≡ place_at (log_of x live) p = read ∙ sym (log_place x live p (omega arith)) in
    let inside : p < length (log_of x live) = omega (arith, length-log_of x live room) in
    let all = stops live c.args.entries.now (log_of x live) p c.read.new.out c.loop-place.entries _ _ _ at inside
    (c.loop-place.invariant.so_far x told) c.in-Ok.count c.read_sector.new.entries (search rules) c.in-Ok.ensures.reads in
    (all.0, all.1, omega (arith, all.2, c.loop-place.invariant.counts), all.3, all.4)

pub returns-in-Ok-clause-handed : goal.returns-in-Ok-clause-handed
returns-in-Ok-clause-handed g c =
    let p = c.loop-place.place in
    let n = c.in-Ok.count in
    let many : 30 * p + n ≡ c.loop-place.records + n = omega (arith, c.loop-place.invariant.counts) in
    subst (λ m. HandsMany m (g.S.RecordSink.kept c.args.sink.now) (g.S.RecordSink.kept c.read_sector.new.sink)) many (many_joined (30 * p) n (g.S.RecordSink.kept c.args.sink.now) (g.S.RecordSink.kept c.loop-place.sink) (g.S.RecordSink.kept c.read_sector.new.sink) c.loop-place.invariant.handed (many_of_sector c.args.live.now p c.read.new.out c.loop-place.entries c.read_sector.new.entries (g.S.RecordSink.kept c.loop-place.sink) (g.S.RecordSink.kept c.read_sector.new.sink) n c.in-Ok.ensures.reads))

pub returns-clause-handed : goal.returns-clause-handed
returns-clause-handed g c = subst (λ m. HandsMany m (g.S.RecordSink.kept c.args.sink.now) (g.S.RecordSink.kept c.loop-place.sink)) (sym c.loop-place.invariant.counts) c.loop-place.invariant.handed

pub returns-in-Err-clause-reads : goal.returns-in-Err-clause-reads
returns-in-Err-clause-reads g c = λ x told.
    let live = c.args.live.now in
    let p = c.loop-place.place in
    let met = g.met.D.Disk in
    let size = (met.is_tale c.args.disk.now x told).as_many in
    let room : journal_end live ≤ length x = omega (arith, size, c.requires.room) in
    let then : (g.D.Disk.seen c.loop-place.disk).told ≡ Some x = ap (λ (d : DiskSeen). d.told) c.loop-place.invariant.seen ∙ told in
    let read : c.read.new.out ≡ slice_index_or x (log_start live + p) [] =
    sym (get_or_from_slice_get x c.log_sector-at.result c.read.new.out [] (c.in_ok-read.ensures.gives x then)) ∙ ap (λ n. slice_index_or x n []) c.log_sector-at.ensures.value in
    let at : c.read.new.out ≡ place_at (log_of x live) p = read ∙ sym (log_place x live p (omega arith)) in
    let inside : p < length (log_of x live) = omega (arith, length-log_of x live room) in
    wrong live c.args.entries.now (log_of x live) p c.read.new.out c.loop-place.entries _ _ _ at inside
    (c.loop-place.invariant.so_far x told) c.in-Err.why c.read_sector.new.entries c.in-Err.ensures.reads

pub loop-place-preserved : goal.loop-place-preserved
loop-place-preserved g c = record {
  seen = search rules;
  one_each = search rules;
  valid = search rules;
  counts = omega (arith, c.loop-place.invariant.counts);
  handed =
      let n = c.in-Ok-eq30.field-0 in
      let whole : 30 * c.loop-place.place + n ≡ 30 * (c.loop-place.place + 1) = omega arith in
      subst (λ m. HandsMany m (g.S.RecordSink.kept c.args.sink.now) (g.S.RecordSink.kept c.read_sector.new.sink)) whole (many_joined (30 * c.loop-place.place) n (g.S.RecordSink.kept c.args.sink.now) (g.S.RecordSink.kept c.loop-place.sink) (g.S.RecordSink.kept c.read_sector.new.sink) c.loop-place.invariant.handed (many_of_sector c.args.live.now c.loop-place.place c.read.new.out c.loop-place.entries c.read_sector.new.entries (g.S.RecordSink.kept c.loop-place.sink) (g.S.RecordSink.kept c.read_sector.new.sink) n c.in-Ok-eq30.ensures.reads));
  so_far = λ x told.
      let live = c.args.live.now in
      let p = c.loop-place.place in
      let met = g.met.D.Disk in
      let size = (met.is_tale c.args.disk.now x told).as_many in
      let room : journal_end live ≤ length x = omega (arith, size, c.requires.room) in
      let then : (g.D.Disk.seen c.loop-place.disk).told ≡ Some x = ap (λ (d : DiskSeen). d.told) c.loop-place.invariant.seen ∙ told in
      let read : c.read.new.out ≡ slice_index_or x (log_start live + p) [] =
      sym (get_or_from_slice_get x c.log_sector-at.result c.read.new.out [] (c.in_ok-read.ensures.gives x then)) ∙ ap (λ n. slice_index_or x n []) c.log_sector-at.ensures.value in
      let at : c.read.new.out ≡ place_at (log_of x live) p = read ∙ sym (log_place x live p (omega arith)) in
      let inside : p < length (log_of x live) = omega (arith, length-log_of x live room) in
      full live c.args.entries.now (log_of x live) p c.read.new.out c.loop-place.entries _ _ _ at inside
      (c.loop-place.invariant.so_far x told) c.in-Ok-eq30.field-0 c.read_sector.new.entries (search rules) c.in-Ok-eq30.ensures.reads;
}

pub returns-clause-reads : goal.returns-clause-reads
returns-clause-reads g c = λ x told.
    let live = c.args.live.now in
    let met = g.met.D.Disk in
    let size = (met.is_tale c.args.disk.now x told).as_many in
    let room : journal_end live ≤ length x = omega (arith, size, c.requires.room) in
    let all = ends_there live c.args.entries.now (log_of x live) c.loop-place.place c.loop-place.entries _ _ (c.loop-place.invariant.so_far x told) (omega (arith, length-log_of x live room)) in
    (all.0, all.1, omega (arith, all.2, c.loop-place.invariant.counts), all.3, all.4)
