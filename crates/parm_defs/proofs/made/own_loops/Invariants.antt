use Rattle.std.proofs.Common.{◌≡◌, filter, take}
use Rattle.parm_defs.specs.Made.{loop_words}
use Rattle.parm_defs.specs.Parts.{is_among}
use Rattle.parm_defs.proofs.made.own_loops.Given as goal

abbrev pub invariant-loop-word : goal.invariant-loop-word
invariant-loop-word l = l.loops.items ≡ filter (λ word. is_among word loop_words) (take l.word-index l.words)
