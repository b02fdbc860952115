use Rattle.run_report.specs.Says.{says_front, says_none}
use Rattle.run_report.proofs.Printed.{on_err}
use Rattle.run_report.proofs.run_print.say_interval.Goals as goal

pub returns-in_err-line-clause-err : goal.returns-in_err-line-clause-err
returns-in_err-line-clause-err g c = on_err _ _ (says_front 0 (says_none _))
