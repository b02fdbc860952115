use Rattle.plan_journals.proofs.Books.{all_follow_same, all_follow_then, closed_is_journaled, follow_from, opened_from, paths_apart}
use Rattle.plan_journals.proofs.Closings.{either_journal, out_in_any_order, out_in_turn, well_behind}
use Rattle.plan_journals.proofs.Handing.{handed_at_rest, handed_reads}
use Rattle.plan_journals.proofs.laws.journal_laws.Goals as goal

pub returns-clause-themselves : goal.returns-clause-themselves
returns-clause-themselves c = all_follow_same

pub returns-clause-on : goal.returns-clause-on
returns-clause-on c = all_follow_then

pub returns-clause-from : goal.returns-clause-from
returns-clause-from c = follow_from

pub returns-clause-opened : goal.returns-clause-opened
returns-clause-opened c = opened_from

pub returns-clause-apart : goal.returns-clause-apart
returns-clause-apart c = paths_apart

pub returns-clause-at_rest : goal.returns-clause-at_rest
returns-clause-at_rest c = handed_at_rest

pub returns-clause-handed_reads : goal.returns-clause-handed_reads
returns-clause-handed_reads c = handed_reads

pub returns-clause-out_in_turn : goal.returns-clause-out_in_turn
returns-clause-out_in_turn c = out_in_turn

pub returns-clause-out_in_any_order : goal.returns-clause-out_in_any_order
returns-clause-out_in_any_order c = out_in_any_order

pub returns-clause-well : goal.returns-clause-well
returns-clause-well c = well_behind

pub returns-clause-fault : goal.returns-clause-fault
returns-clause-fault c = either_journal

pub returns-clause-closed : goal.returns-clause-closed
returns-clause-closed c = closed_is_journaled
