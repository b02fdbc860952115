use Rattle.std.proofs.Common.{string_bytes}
use Rattle.command_words.proofs.Places.{is_placed}
use Rattle.command_words.proofs.words.command_of.Goals as goal

pub returns-in-None-clause-file : goal.returns-in-None-clause-file
returns-in-None-clause-file c = is_placed string_bytes c.args.words.now c.options_said.result c.options_said.ensures
