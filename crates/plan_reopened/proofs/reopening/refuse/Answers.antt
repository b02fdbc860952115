use Rattle.plan_journals.proofs.Openings.{says_or}
use Rattle.plan_reopened.proofs.reopening.refuse.Goals as goal

pub returns-in-EpochEnd : goal.returns-in-EpochEnd
returns-in-EpochEnd g c = rw c.in-EpochEnd.is (says_or _ _ _ _ _ _ c.epoch_end_line.ensures c.say_line.ensures)

pub returns-in-Journal : goal.returns-in-Journal
returns-in-Journal g c = rw c.in-Journal.is (says_or _ _ _ _ _ _ c.journal_fault_line.ensures c.say_line-in-Journal.ensures)
