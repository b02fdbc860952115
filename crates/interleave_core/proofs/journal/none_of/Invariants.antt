use Rattle.std.specs.Prelude.{◌≡◌, [], take}
use Rattle.key_state.specs.Entries.{records_of}
use Rattle.interleave_core.proofs.journal.none_of.Given as goal

abbrev pub invariant-loop-made : goal.invariant-loop-made
invariant-loop-made l = records_of l.block.0 (take l.made-index l.records) ≡ []
