use Rattle.claim_table.proofs.Untouched.{told_kept, passes_kept, book_kept, new_did_nothing}
use Rattle.claim_table.proofs.closing.untouched_all.Goals as goal

pub returns-clause-passes : goal.returns-clause-passes
returns-clause-passes g c = passes_kept g.P.Pass.seen g.B.Book.seen

pub returns-clause-told : goal.returns-clause-told
returns-clause-told g c = told_kept

pub returns-clause-book : goal.returns-clause-book
returns-clause-book g c = book_kept

pub returns-clause-new : goal.returns-clause-new
returns-clause-new g c = new_did_nothing g.P.Pass.seen g.B.Book.seen
