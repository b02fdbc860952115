use Rattle.std.proofs.Common.{inl, ◌≡◌, ◌+◌, sym, ◌∙◌, subst, arith, refl}
use Rattle.std.proofs.Math.Logic.{∥∥₁_map}
use Rattle.journal_layout.specs.Log.{IsBelow}
use Rattle.journal_layout.specs.Recovery.{blocks_of, journal_end}
use Rattle.vd_disk.specs.Disk.{told_written}
use Rattle.journal_core.specs.Book.{memory_of}
use Rattle.journal_core.specs.Keeps.{Keeps, with_record}
use Rattle.journal_core.proofs.Appends.{legal_below, put_in, keeps_put, ok_of}
use Rattle.journal_core.proofs.GoingOn.{goes_write, adds_write}
use Rattle.journal_core.proofs.Seeing.{appended_seen, cause_ok, open_room}
use Rattle.journal_core.proofs.LogSteps.{keeps_wrote, keeps_write_failed, keeps_advanced}
use Rattle.journal_core.proofs.book.JournalBook.fill.Goals as goal

pub invariant_of-self-clause-keeps : goal.invariant_of-self-clause-keeps
invariant_of-self-clause-keeps g c =
    let met = g.met.D.Disk in
    let b = memory_of c.args.self.now in
    let old = g.D.Disk.seen c.args.self.now.disk in
    let new = g.D.Disk.seen c.write.new.self in
    let below : IsBelow (blocks_of b.live) c.args.made.now = subst (λ n. IsBelow n c.args.made.now) c.args.self.now.one_each (legal_below b.entries c.args.made.now c.requires.legal c.requires.spelled) in
    let more = put_in b c.note.new.entries.items c.add_record.new.sector 30 c.note.new.ends c.note.new.clears b.stopped in
    ∥∥₁_map c.args.self.now.keeps
    (λ k.
    let put : Keeps old more (with_record k.0 c.args.made.now) = keeps_put old b k.1 c.requires.running c.args.made.now c.note.new.entries.items c.requires.legal c.note.ensures.steps c.note.new.ends c.note.new.clears c.note.ensures.ends c.note.ensures.clears
    c.add_record.new.sector 30 (omega (arith, c.requires.last)) (omega (arith, c.requires.last)) c.requires.room (λ past long hand. c.add_record.ensures past long below hand) in
    (with_record k.0 c.args.made.now, keeps_write_failed old new more put c.requires.running (omega arith) (met.is_tale c.args.self.now.disk) c.log_sector-filled.result c.log_sector-filled.ensures.value c.write.ensures.leaves c.write.ensures.cause.later c.write.result c.write.ensures.writes))

pub invariant_of-self-2-clause-keeps : goal.invariant_of-self-2-clause-keeps
invariant_of-self-2-clause-keeps g c =
    let met = g.met.D.Disk in
    let b = memory_of c.args.self.now in
    let old = g.D.Disk.seen c.args.self.now.disk in
    let new = g.D.Disk.seen c.write.new.self in
    let below : IsBelow (blocks_of b.live) c.args.made.now = subst (λ n. IsBelow n c.args.made.now) c.args.self.now.one_each (legal_below b.entries c.args.made.now c.requires.legal c.requires.spelled) in
    let more = put_in b c.note.new.entries.items c.add_record.new.sector 30 c.note.new.ends c.note.new.clears b.stopped in
    let shaped = c.args.self.now.shaped c.requires.running in
    let good = sym c.is_err.ensures.value ∙ c.if-is_err.false in
    let reads : new.told ≡ told_written c.log_sector-filled.result c.add_record.new.sector old.told = ok_of c.write.result (new.told ≡ told_written c.log_sector-filled.result c.add_record.new.sector old.told) good c.write.ensures.writes.reads_as in
    ∥∥₁_map c.args.self.now.keeps
    (λ k.
    let put : Keeps old more (with_record k.0 c.args.made.now) = keeps_put old b k.1 c.requires.running c.args.made.now c.note.new.entries.items c.requires.legal c.note.ensures.steps c.note.new.ends c.note.new.clears c.note.ensures.ends c.note.ensures.clears
    c.add_record.new.sector 30 (omega (arith, c.requires.last)) (omega (arith, c.requires.last)) c.requires.room (λ past long hand. c.add_record.ensures past long below hand) in
    let wrote = keeps_wrote old new more put c.requires.running (omega arith) (met.is_tale c.args.self.now.disk) c.log_sector-filled.result c.log_sector-filled.ensures.value c.write.ensures.leaves c.write.ensures.cause.later (omega (arith, shaped.fewer)) reads c.write.result c.write.ensures.writes in
    (with_record k.0 c.args.made.now, keeps_advanced new (record more { written = more.records }) c.blank-self.result wrote refl refl c.blank-self.ensures))

pub returns-clause-appended : goal.returns-clause-appended
returns-clause-appended g c =
    let b = memory_of c.args.self.now in
    let shaped = c.args.self.now.shaped c.requires.running in
    let now = record (put_in b c.note.new.entries.items c.blank-self.result 0 c.note.new.ends c.note.new.clears b.stopped) { written = b.records + 1; place = b.place + 1 } in
    appended_seen (g.D.Disk.seen c.args.self.now.began.value) (g.D.Disk.seen c.args.self.now.opened.value) (g.D.Disk.seen c.args.self.now.disk) (g.D.Disk.seen c.write.new.self) b now c.args.made.now c.requires.running
    (open_room b c.requires.running (omega (arith, shaped.counted, c.requires.room, c.requires.last))) refl (omega arith) c.write.ensures.cause.later c.note.ensures.steps (inl refl) c.note.ensures.ends c.note.ensures.clears

pub returns-clause-cause : goal.returns-clause-cause
returns-clause-cause g c =
    let b = memory_of c.args.self.now in
    let shaped = c.args.self.now.shaped c.requires.running in
    let old = g.D.Disk.seen c.args.self.now.disk in
    let new = g.D.Disk.seen c.write.new.self in
    let shaped = c.args.self.now.shaped c.requires.running in
    let good = sym c.is_err.ensures.value ∙ c.if-is_err.false in
    let now = record (put_in b c.note.new.entries.items c.blank-self.result 0 c.note.new.ends c.note.new.clears b.stopped) { written = b.records + 1; place = b.place + 1 } in
    cause_ok (g.D.Disk.seen c.args.self.now.began.value) (g.D.Disk.seen c.args.self.now.opened.value) old new b now c.args.made.now
    (open_room b c.requires.running (omega (arith, shaped.counted, c.requires.room, c.requires.last))) (ok_of c.write.result (new.faults ≡ old.faults) good c.write.ensures.cause.kept) c.requires.running

pub returns-clause-goes_on : goal.returns-clause-goes_on
returns-clause-goes_on g c =
    let met = g.met.D.Disk in
    goes_write (journal_end c.args.self.now.live) c.log_sector-filled.result c.add_record.new.sector (g.D.Disk.seen c.args.self.now.disk) (g.D.Disk.seen c.write.new.self) c.write.result c.log_sector-filled.ensures.inside (met.is_tale c.args.self.now.disk) c.write.ensures.writes c.write.ensures.leaves
    c.write.ensures.cause.later

pub returns-clause-few : goal.returns-clause-few
returns-clause-few g c = adds_write c.log_sector-filled.result c.add_record.new.sector (g.D.Disk.seen c.args.self.now.disk) (g.D.Disk.seen c.write.new.self) c.write.result c.write.ensures.writes

pub returns-then-is_err-clause-few : goal.returns-then-is_err-clause-few
returns-then-is_err-clause-few g c = adds_write c.log_sector-filled.result c.add_record.new.sector (g.D.Disk.seen c.args.self.now.disk) (g.D.Disk.seen c.write.new.self) c.write.result c.write.ensures.writes

pub returns-then-is_err-clause-story : goal.returns-then-is_err-clause-story
returns-then-is_err-clause-story g c = λ so_far had.
    let met = g.met.D.Disk in
    let b = memory_of c.args.self.now in
    let old = g.D.Disk.seen c.args.self.now.disk in
    let new = g.D.Disk.seen c.write.new.self in
    let below : IsBelow (blocks_of b.live) c.args.made.now = subst (λ n. IsBelow n c.args.made.now) c.args.self.now.one_each (legal_below b.entries c.args.made.now c.requires.legal c.requires.spelled) in
    let more = put_in b c.note.new.entries.items c.add_record.new.sector 30 c.note.new.ends c.note.new.clears b.stopped in
    ∥∥₁_map had
    (λ k.
    let put : Keeps old more (with_record so_far c.args.made.now) = keeps_put old b k c.requires.running c.args.made.now c.note.new.entries.items c.requires.legal c.note.ensures.steps c.note.new.ends c.note.new.clears c.note.ensures.ends c.note.ensures.clears
    c.add_record.new.sector 30 (omega (arith, c.requires.last)) (omega (arith, c.requires.last)) c.requires.room (λ past long hand. c.add_record.ensures past long below hand) in
    keeps_write_failed old new more put c.requires.running (omega arith) (met.is_tale c.args.self.now.disk) c.log_sector-filled.result c.log_sector-filled.ensures.value c.write.ensures.leaves c.write.ensures.cause.later c.write.result c.write.ensures.writes)

pub returns-clause-story : goal.returns-clause-story
returns-clause-story g c = λ so_far had.
    let met = g.met.D.Disk in
    let b = memory_of c.args.self.now in
    let old = g.D.Disk.seen c.args.self.now.disk in
    let new = g.D.Disk.seen c.write.new.self in
    let below : IsBelow (blocks_of b.live) c.args.made.now = subst (λ n. IsBelow n c.args.made.now) c.args.self.now.one_each (legal_below b.entries c.args.made.now c.requires.legal c.requires.spelled) in
    let more = put_in b c.note.new.entries.items c.add_record.new.sector 30 c.note.new.ends c.note.new.clears b.stopped in
    let shaped = c.args.self.now.shaped c.requires.running in
    let good = sym c.is_err.ensures.value ∙ c.if-is_err.false in
    let reads : new.told ≡ told_written c.log_sector-filled.result c.add_record.new.sector old.told = ok_of c.write.result (new.told ≡ told_written c.log_sector-filled.result c.add_record.new.sector old.told) good c.write.ensures.writes.reads_as in
    inl (
      refl,
      ∥∥₁_map had
          (λ k.
          let put : Keeps old more (with_record so_far c.args.made.now) = keeps_put old b k c.requires.running c.args.made.now c.note.new.entries.items c.requires.legal c.note.ensures.steps c.note.new.ends c.note.new.clears c.note.ensures.ends c.note.ensures.clears
          c.add_record.new.sector 30 (omega (arith, c.requires.last)) (omega (arith, c.requires.last)) c.requires.room (λ past long hand. c.add_record.ensures past long below hand) in
          let wrote = keeps_wrote old new more put c.requires.running (omega arith) (met.is_tale c.args.self.now.disk) c.log_sector-filled.result c.log_sector-filled.ensures.value c.write.ensures.leaves c.write.ensures.cause.later (omega (arith, shaped.fewer)) reads c.write.result c.write.ensures.writes in
          keeps_advanced new (record more { written = more.records }) c.blank-self.result wrote refl refl c.blank-self.ensures),
    )

pub returns-then-is_err-clause-goes_on : goal.returns-then-is_err-clause-goes_on
returns-then-is_err-clause-goes_on g c =
    let met = g.met.D.Disk in
    goes_write (journal_end c.args.self.now.live) c.log_sector-filled.result c.add_record.new.sector (g.D.Disk.seen c.args.self.now.disk) (g.D.Disk.seen c.write.new.self) c.write.result c.log_sector-filled.ensures.inside (met.is_tale c.args.self.now.disk) c.write.ensures.writes c.write.ensures.leaves
    c.write.ensures.cause.later
