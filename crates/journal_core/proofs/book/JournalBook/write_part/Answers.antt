use Rattle.std.proofs.Common.{◌≡◌, sym, ◌∙◌, arith}
use Rattle.std.proofs.Math.Logic.{∥∥₁_map}
use Rattle.vd_disk.specs.Disk.{told_written}
use Rattle.journal_layout.specs.Recovery.{journal_end}
use Rattle.journal_core.specs.Book.{memory_of}
use Rattle.journal_core.proofs.Appends.{ok_of}
use Rattle.journal_core.proofs.GoingOn.{goes_write, goes_still, adds_none, adds_write}
use Rattle.journal_core.proofs.LogSteps.{keeps_wrote, keeps_write_failed}
use Rattle.journal_core.proofs.book.JournalBook.write_part.Goals as goal

pub invariant_of-self-clause-keeps : goal.invariant_of-self-clause-keeps
invariant_of-self-clause-keeps g c =
    let met = g.met.D.Disk in
    let b = memory_of c.args.self.now in
    let old = g.D.Disk.seen c.args.self.now.disk in
    let new = g.D.Disk.seen c.write.new.self in
    let shaped = c.args.self.now.shaped c.requires.running in
    ∥∥₁_map c.args.self.now.keeps
    (λ k. (
      k.0,
      keeps_write_failed old new b k.1 c.requires.running (omega (arith, shaped.counted, shaped.full, shaped.fewer, c.if-self.false)) (met.is_tale c.args.self.now.disk) c.log_sector-at.result c.log_sector-at.ensures.value
          c.write.ensures.leaves c.write.ensures.cause.later c.write.result c.write.ensures.writes,
    ))

pub invariant_of-self-2-clause-keeps : goal.invariant_of-self-2-clause-keeps
invariant_of-self-2-clause-keeps g c =
    let met = g.met.D.Disk in
    let b = memory_of c.args.self.now in
    let old = g.D.Disk.seen c.args.self.now.disk in
    let new = g.D.Disk.seen c.write.new.self in
    let shaped = c.args.self.now.shaped c.requires.running in
    let good = sym c.is_err.ensures.value ∙ c.if-is_err.false in
    let reads : new.told ≡ told_written c.log_sector-at.result b.sector old.told = ok_of c.write.result (new.told ≡ told_written c.log_sector-at.result b.sector old.told) good c.write.ensures.writes.reads_as in
    ∥∥₁_map c.args.self.now.keeps
    (λ k. (
      k.0,
      keeps_wrote old new b k.1 c.requires.running (omega (arith, shaped.counted, shaped.full, shaped.fewer, c.if-self.false)) (met.is_tale c.args.self.now.disk) c.log_sector-at.result c.log_sector-at.ensures.value
          c.write.ensures.leaves c.write.ensures.cause.later (omega (arith, shaped.fewer, c.if-self.false)) reads c.write.result c.write.ensures.writes,
    ))

pub returns-clause-goes_on : goal.returns-clause-goes_on
returns-clause-goes_on g c =
    let met = g.met.D.Disk in
    goes_write (journal_end c.args.self.now.live) c.log_sector-at.result c.args.self.now.sector (g.D.Disk.seen c.args.self.now.disk) (g.D.Disk.seen c.write.new.self) c.write.result c.log_sector-at.ensures.inside (met.is_tale c.args.self.now.disk) c.write.ensures.writes c.write.ensures.leaves
    c.write.ensures.cause.later

pub returns-then-self-clause-ok : goal.returns-then-self-clause-ok
returns-then-self-clause-ok g c = let b = memory_of c.args.self.now in λ i. record b { written = c.if-self.true i }

pub returns-then-self-clause-goes_on : goal.returns-then-self-clause-goes_on
returns-then-self-clause-goes_on g c = let met = g.met.D.Disk in goes_still (journal_end c.args.self.now.live) (g.D.Disk.seen c.args.self.now.disk) (met.is_tale c.args.self.now.disk)

pub returns-then-self-clause-few : goal.returns-then-self-clause-few
returns-then-self-clause-few g c = adds_none 1 (g.D.Disk.seen c.args.self.now.disk)

pub returns-clause-few : goal.returns-clause-few
returns-clause-few g c = adds_write c.log_sector-at.result c.args.self.now.sector (g.D.Disk.seen c.args.self.now.disk) (g.D.Disk.seen c.write.new.self) c.write.result c.write.ensures.writes

pub returns-then-is_err-clause-few : goal.returns-then-is_err-clause-few
returns-then-is_err-clause-few g c = adds_write c.log_sector-at.result c.args.self.now.sector (g.D.Disk.seen c.args.self.now.disk) (g.D.Disk.seen c.write.new.self) c.write.result c.write.ensures.writes

pub returns-then-is_err-clause-story : goal.returns-then-is_err-clause-story
returns-then-is_err-clause-story g c = λ so_far had.
    let met = g.met.D.Disk in
    let b = memory_of c.args.self.now in
    let old = g.D.Disk.seen c.args.self.now.disk in
    let new = g.D.Disk.seen c.write.new.self in
    let shaped = c.args.self.now.shaped c.requires.running in
    ∥∥₁_map had
    (λ k. keeps_write_failed old new b k c.requires.running (omega (arith, shaped.counted, shaped.full, shaped.fewer, c.if-self.false)) (met.is_tale c.args.self.now.disk) c.log_sector-at.result c.log_sector-at.ensures.value
    c.write.ensures.leaves c.write.ensures.cause.later c.write.result c.write.ensures.writes)

pub returns-clause-story : goal.returns-clause-story
returns-clause-story g c = λ so_far had.
    let met = g.met.D.Disk in
    let b = memory_of c.args.self.now in
    let old = g.D.Disk.seen c.args.self.now.disk in
    let new = g.D.Disk.seen c.write.new.self in
    let shaped = c.args.self.now.shaped c.requires.running in
    let good = sym c.is_err.ensures.value ∙ c.if-is_err.false in
    let reads : new.told ≡ told_written c.log_sector-at.result b.sector old.told = ok_of c.write.result (new.told ≡ told_written c.log_sector-at.result b.sector old.told) good c.write.ensures.writes.reads_as in
    ∥∥₁_map had
    (λ k. keeps_wrote old new b k c.requires.running (omega (arith, shaped.counted, shaped.full, shaped.fewer, c.if-self.false)) (met.is_tale c.args.self.now.disk) c.log_sector-at.result c.log_sector-at.ensures.value
    c.write.ensures.leaves c.write.ensures.cause.later (omega (arith, shaped.fewer, c.if-self.false)) reads c.write.result c.write.ensures.writes)

pub returns-then-is_err-clause-goes_on : goal.returns-then-is_err-clause-goes_on
returns-then-is_err-clause-goes_on g c =
    let met = g.met.D.Disk in
    goes_write (journal_end c.args.self.now.live) c.log_sector-at.result c.args.self.now.sector (g.D.Disk.seen c.args.self.now.disk) (g.D.Disk.seen c.write.new.self) c.write.result c.log_sector-at.ensures.inside (met.is_tale c.args.self.now.disk) c.write.ensures.writes c.write.ensures.leaves
    c.write.ensures.cause.later
