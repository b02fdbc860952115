use Rattle.std.proofs.Common.{◌≡◌, false, Result, Ok, sym, ap, ◌∙◌, subst, refl}
use Rattle.vd_outside.specs.Causes.{Rose}
use Rattle.vd_disk.specs.Disk.{DiskSeen}
use Rattle.key_state.specs.declared.fault.BookFault.{BookFault}
use Rattle.key_state.specs.Books.{HasFlushCause}
use Rattle.journal_core.specs.Book.{memory_of, seen_of}
use Rattle.journal_core.specs.Calls.{all_synced, IsStopped}
use Rattle.journal_core.specs.Keeps.{Memory}
use Rattle.journal_core.proofs.Appends.{ok_of, ok_unit}
use Rattle.journal_core.proofs.Seeing.{failed_now}
use Rattle.journal_core.proofs.Kept.{err_of, is_closed, is_given_up}
use Rattle.journal_core.proofs.History.{closed_all, left_over}
use Rattle.journal_core.proofs.book.JournalBook.close.Goals as goal

pub returns-then-is_err-clause-given_up : goal.returns-then-is_err-clause-given_up
returns-then-is_err-clause-given_up g c =
    let b = memory_of c.args.self in
    let m = memory_of c.keep_all.new.self in
    let new = g.D.Disk.seen c.keep_all.new.self.disk in
    let bad = sym c.is_err.ensures.value ∙ c.if-is_err.true in
    let is : IsStopped b m = err_of c.keep_all.result (IsStopped b m) bad c.keep_all.ensures.stops in
    let rose : Rose (g.D.Disk.seen c.keep_all.new.self.began.value).faults new.faults = c.keep_all.new.self.cause (ap (λ (x : Memory). x.stopped) is) in
    let same = c.keep_all.ensures.same.0 in
    is_given_up (g.D.Disk.seen c.args.self.began.value) (g.D.Disk.seen c.args.self.disk) new b m c.keep_all.ensures.story is
    (subst (λ (d : DiskSeen). Rose d.faults new.faults) same rose) c.keep_all.ensures.goes_on

pub returns-then-is_err-clause-now : goal.returns-then-is_err-clause-now
returns-then-is_err-clause-now g c none =
    let bad = sym c.is_err.ensures.value ∙ c.if-is_err.true in
    failed_now (seen_of {D = g.row.D.Denot} {G = g.D.Disk} c.args.self) (seen_of {D = g.row.D.Denot} {G = g.D.Disk} c.keep_all.new.self) c.keep_all.result bad c.keep_all.ensures.cause none

pub returns-clause-closed : goal.returns-clause-closed
returns-clause-closed g c =
    let b = memory_of c.args.self in
    let m = memory_of c.keep_all.new.self in
    let old = g.D.Disk.seen c.args.self.disk in
    let new = g.D.Disk.seen c.keep_all.new.self.disk in
    let good = sym c.is_err.ensures.value ∙ c.if-is_err.false in
    let all = ok_of c.keep_all.result ((b.stopped ≡ false) × (m ≡ all_synced b)) good c.keep_all.ensures.all in
    let cause : HasFlushCause (seen_of {D = g.row.D.Denot} {G = g.D.Disk} c.args.self) (seen_of {D = g.row.D.Denot} {G = g.D.Disk} c.keep_all.new.self) (Ok (tt {0})) =
    subst (λ (r : Result (Unit {0}) BookFault). HasFlushCause (seen_of {D = g.row.D.Denot} {G = g.D.Disk} c.args.self) (seen_of {D = g.row.D.Denot} {G = g.D.Disk} c.keep_all.new.self) r) (ok_unit c.keep_all.result good) c.keep_all.ensures.cause in
    is_closed old new b m c.keep_all.new.self.keeps c.keep_all.ensures.story all.0 all.1 cause.0 c.keep_all.ensures.goes_on

pub returns-then-is_err-clause-over : goal.returns-then-is_err-clause-over
returns-then-is_err-clause-over g c = λ so_far had.
    let book = c.keep_all.new.self in
    let b = memory_of c.args.self in
    let m = memory_of book in
    let new = g.D.Disk.seen book.disk in
    let bad = sym c.is_err.ensures.value ∙ c.if-is_err.true in
    let is : IsStopped b m = err_of c.keep_all.result (IsStopped b m) bad c.keep_all.ensures.stops in
    let same = c.keep_all.ensures.same in
    left_over (g.D.Disk.seen c.args.self.began.value) (g.D.Disk.seen book.began.value) (g.D.Disk.seen c.args.self.opened.value) (g.D.Disk.seen book.opened.value) (g.D.Disk.seen c.args.self.disk) new b m same.0 same.1 so_far is refl
    (c.keep_all.ensures.story so_far had) book.opening book.grown

pub returns-clause-all : goal.returns-clause-all
returns-clause-all g c = λ so_far had.
    let book = c.keep_all.new.self in
    let b = memory_of c.args.self in
    let m = memory_of book in
    let new = g.D.Disk.seen book.disk in
    let good = sym c.is_err.ensures.value ∙ c.if-is_err.false in
    let all = ok_of c.keep_all.result ((b.stopped ≡ false) × (m ≡ all_synced b)) good c.keep_all.ensures.all in
    let same = c.keep_all.ensures.same in
    closed_all (g.D.Disk.seen c.args.self.began.value) (g.D.Disk.seen book.began.value) (g.D.Disk.seen c.args.self.opened.value) (g.D.Disk.seen book.opened.value) (g.D.Disk.seen c.args.self.disk) new b m same.0 same.1 so_far all.1 refl
    (c.keep_all.ensures.story so_far had) book.opening book.grown
