use Rattle.plan_reopened.proofs.Following.{recovered_as_many, recovered_kept, recovered_ready, recovered_settled, standing_out}
use Rattle.plan_reopened.proofs.laws.reopen_laws.Goals as goal

pub returns-clause-ready : goal.returns-clause-ready
returns-clause-ready c = recovered_ready

pub returns-clause-settled : goal.returns-clause-settled
returns-clause-settled c = recovered_settled

pub returns-clause-kept : goal.returns-clause-kept
returns-clause-kept c = recovered_kept

pub returns-clause-standing : goal.returns-clause-standing
returns-clause-standing c = standing_out

pub returns-clause-as_many : goal.returns-clause-as_many
returns-clause-as_many c = recovered_as_many
