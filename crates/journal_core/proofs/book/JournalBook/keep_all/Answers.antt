use Rattle.std.proofs.Common.{◌≡◌, sym, ap, ◌∙◌, subst, arith}
use Rattle.journal_layout.specs.declared.live.Live.{Live}
use Rattle.journal_core.specs.Calls.{GoesOn}
use Rattle.journal_layout.specs.Recovery.{journal_end}
use Rattle.journal_core.specs.Book.{memory_of}
use Rattle.journal_core.specs.Keeps.{Memory}
use Rattle.journal_core.proofs.Opened.{ok_more}
use Rattle.journal_core.proofs.GoingOn.{goes_still, goes_then, adds_then}
use Rattle.journal_core.proofs.book.JournalBook.keep_all.Goals as goal

pub returns-clause-ok : goal.returns-clause-ok
returns-clause-ok g c =
    let mid = memory_of c.write_part.new.self in
    let new = memory_of c.sync_log.new.self in
    ok_more c.sync_log.result (new ≡ record mid { synced = mid.records; kept = mid.entries }) (new.kept ≡ new.entries)
    (λ is. ap (λ (m : Memory). m.kept) is ∙ sym (ap (λ (m : Memory). m.entries) is))
    c.sync_log.ensures.ok

pub returns-clause-goes_on : goal.returns-clause-goes_on
returns-clause-goes_on g c =
    let mid = g.D.Disk.seen c.write_part.new.self.disk in
    let new = g.D.Disk.seen c.sync_log.new.self.disk in
    let sync : GoesOn (journal_end c.args.self.now.live) mid new = subst (λ (l : Live). GoesOn (journal_end l) mid new) c.write_part.ensures.live c.sync_log.ensures.goes_on in
    goes_then (journal_end c.args.self.now.live) (g.D.Disk.seen c.args.self.now.disk) mid new c.write_part.ensures.goes_on sync

pub returns-then-self-clause-goes_on : goal.returns-then-self-clause-goes_on
returns-then-self-clause-goes_on g c = let met = g.met.D.Disk in goes_still (journal_end c.args.self.now.live) (g.D.Disk.seen c.args.self.now.disk) (met.is_tale c.args.self.now.disk)

pub returns-clause-few : goal.returns-clause-few
returns-clause-few g c =
    adds_then 1 1 2 (journal_end c.args.self.now.live) (g.D.Disk.seen c.args.self.now.disk) (g.D.Disk.seen c.write_part.new.self.disk) (g.D.Disk.seen c.sync_log.new.self.disk) (omega arith) c.write_part.ensures.goes_on c.write_part.ensures.few c.sync_log.ensures.few

pub returns-clause-story : goal.returns-clause-story
returns-clause-story g c = λ so_far had. c.sync_log.ensures.story so_far (c.write_part.ensures.story so_far had)
