use Rattle.std.proofs.lemmas.List.{length-map}
use Rattle.std.specs.Prelude.{string_bytes}
use Rattle.vdbench_top.proofs.Naming.{nothing_asked}
use Rattle.vdbench_top.proofs.words.command_of.Goals as goal

pub returns-clause-asks : goal.returns-clause-asks
returns-clause-asks c none no_run no_steps =
    nothing_asked _ _ c.command_of.result (length-map c.args.words.now string_bytes) c.command_of.ensures.said c.command_of.ensures.file none no_run no_steps
