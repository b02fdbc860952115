use Rattle.plan_journals.specs.Open.{held_of}
use Rattle.plan_journals.proofs.Closings.{one_lost, one_lost_before, one_shut}
use Rattle.plan_journals.proofs.closing.close_one.Goals as goal

pub returns-in-Well : goal.returns-in-Well
returns-in-Well g c = one_shut _ _ _ (held_of c.args.book) c.in-Well.ensures.0 _ c.in-Well.ensures.1 c.in-Well.ensures.2

pub returns-in-FailedBefore : goal.returns-in-FailedBefore
returns-in-FailedBefore g c = one_lost_before _ _ _ (held_of c.args.book) c.in-FailedBefore.ensures.0 _ c.in-FailedBefore.ensures.1 c.in-FailedBefore.ensures.2

pub returns-in-Failed : goal.returns-in-Failed
returns-in-Failed g c =
    one_lost _ _ _ _ (held_of c.args.book) c.in-Failed.ensures.0 c.in-Failed.records _ _ _ c.journal_fault_line.ensures c.say_line.ensures c.in-Failed.ensures.1 c.in-Failed.ensures.2
