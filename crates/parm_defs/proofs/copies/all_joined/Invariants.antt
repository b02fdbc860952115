use Rattle.std.proofs.Common.{◌≡◌, ◌++◌, map, take}
use Rattle.parm_defs.proofs.copies.all_joined.Given as goal

abbrev pub invariant-loop-text : goal.invariant-loop-text
invariant-loop-text l = l.copies.items ≡ map (λ text. text ++ l.more) (take l.text-index l.texts)
