use Rattle.still_plan.proofs.Sayings.{says_or}
use Rattle.still_plan.proofs.lines.refuse.Goals as goal

pub returns-in-NoJournal : goal.returns-in-NoJournal
returns-in-NoJournal g c = rw c.in-NoJournal.is (says_or _ _ _ _ _ _ c.no_journal_line.ensures c.say_line.ensures)

pub returns-in-Mismatch : goal.returns-in-Mismatch
returns-in-Mismatch g c = rw c.in-Mismatch.is (says_or _ _ _ _ _ _ c.mismatch_line.ensures c.say_line-in-Mismatch.ensures)

pub returns-in-Failed : goal.returns-in-Failed
returns-in-Failed g c = rw c.in-Failed.is (says_or _ _ _ _ _ _ c.journal_fault_line.ensures c.say_line-in-Failed.ensures)
