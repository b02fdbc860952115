use Rattle.plan_journals.proofs.Openings.{says_or}
use Rattle.plan_journals.proofs.opening.refuse.Goals as goal

pub returns-in-Yard : goal.returns-in-Yard
returns-in-Yard g c = rw c.in-Yard.is (says_or _ _ _ _ _ _ c.cannot_open_line.ensures c.say_line.ensures)

pub returns-in-Journal : goal.returns-in-Journal
returns-in-Journal g c = rw c.in-Journal.is (says_or _ _ _ _ _ _ c.journal_fault_line.ensures c.say_line-in-Journal.ensures)
