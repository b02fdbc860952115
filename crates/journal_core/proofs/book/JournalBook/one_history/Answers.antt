use Rattle.std.proofs.Common.{refl}
use Rattle.journal_core.specs.Book.{memory_of}
use Rattle.journal_core.proofs.History.{keeps_over, keeps_all}
use Rattle.journal_core.proofs.book.JournalBook.one_history.Goals as goal

pub returns-clause-over : goal.returns-clause-over
returns-clause-over g c = λ so_far had.
    let book = c.args.self.now in
    keeps_over (g.D.Disk.seen book.began.value) (g.D.Disk.seen book.opened.value) (g.D.Disk.seen book.disk) (memory_of book) refl so_far had book.opening book.grown

pub returns-clause-all : goal.returns-clause-all
returns-clause-all g c = λ all so_far had.
    let book = c.args.self.now in
    keeps_all (g.D.Disk.seen book.began.value) (g.D.Disk.seen book.opened.value) (g.D.Disk.seen book.disk) (memory_of book) refl so_far had book.opening book.grown all
