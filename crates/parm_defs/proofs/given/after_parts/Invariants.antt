use Rattle.std.proofs.Common.{◌≡◌, drop, map}
use Rattle.parm_defs.specs.Parts.{after_parts, part_of}
use Rattle.parm_defs.proofs.given.after_parts.Given as goal

-- what is left gives what all parts give
abbrev pub invariant-loop-part : goal.invariant-loop-part
invariant-loop-part l =
    after_parts l.kind l.is_default l.given (map (part_of l.bytes) (drop l.part-index l.parts))
    ≡ after_parts l.kind l.is_default l.fn.given (map (part_of l.bytes) l.parts)
