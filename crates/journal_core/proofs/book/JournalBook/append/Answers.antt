use Rattle.journal_layout.specs.Recovery.{journal_end}
use Rattle.journal_core.proofs.GoingOn.{goes_as, goes_still}
use Rattle.journal_core.proofs.book.JournalBook.append.Goals as goal

pub returns-then-self-clause-goes_on : goal.returns-then-self-clause-goes_on
returns-then-self-clause-goes_on g c = let met = g.met.D.Disk in goes_still (journal_end c.args.self.now.live) (g.D.Disk.seen c.args.self.now.disk) (met.is_tale c.args.self.now.disk)

pub returns-then-self-eq-LAST_EPOCH-clause-goes_on : goal.returns-then-self-eq-LAST_EPOCH-clause-goes_on
returns-then-self-eq-LAST_EPOCH-clause-goes_on g c = let met = g.met.D.Disk in goes_still (journal_end c.args.self.now.live) (g.D.Disk.seen c.args.self.now.disk) (met.is_tale c.args.self.now.disk)

pub returns-then-self-2-clause-goes_on : goal.returns-then-self-2-clause-goes_on
returns-then-self-2-clause-goes_on g c = let met = g.met.D.Disk in goes_as (journal_end c.args.self.now.live) (g.D.Disk.seen c.args.self.now.disk) (g.D.Disk.seen c.put.new.self.disk) (met.is_tale c.args.self.now.disk) c.put.ensures.same.0
