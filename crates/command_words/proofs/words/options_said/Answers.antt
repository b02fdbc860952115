use Rattle.std.proofs.Common.{◌∙◌, ap}
use Rattle.command_words.specs.Said.{finished}
use Rattle.command_words.proofs.Orders.{in_any_order}
use Rattle.command_words.proofs.words.options_said.Goals as goal

pub returns : goal.returns
returns c = c.finished.ensures ∙ ap finished c.in_ok-said_by.ensures ∙ in_any_order _

pub returns-in_err-said_by : goal.returns-in_err-said_by
returns-in_err-said_by c = c.from_residual.ensures ∙ ap finished c.in_err-said_by.ensures ∙ in_any_order _
