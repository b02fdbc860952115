use Rattle.plan_runs.proofs.Found.{findings_lines}
use Rattle.plan_runs.proofs.law.findings_have_lines.Goals as goal

pub returns : goal.returns
returns c = findings_lines
