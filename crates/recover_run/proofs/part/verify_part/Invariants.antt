use Rattle.std.proofs.Common.{◌≤◌, ◌+◌, ◌-◌, List, length, take, map, vec_len, vec_capacity}
use Rattle.recover_run.specs.declared.look.Look.{Look}
use Rattle.recover_run.specs.Part.{Called, Verifies}
use Rattle.recover_run.proofs.part.verify_part.Given as goal

abbrev pub invariant-loop-i : goal.invariant-loop-i
invariant-loop-i g l = record {
  done : (looks : List Look)
      × Verifies l.store l.first (take l.i l.entries) (take l.i (map g.A.Pass.Pass.seen l.passes)) looks l.fn.found.items l.found.items l.fn.settled.items l.settled.items l.many
      × Called looks (g.A.Arm.seen l.fn.arm) (g.A.Arm.seen l.arm);
  few : l.many ≤ l.i;
  found_room : vec_len l.found + (length l.entries - l.i) ≤ vec_capacity l.found;
  settled_room : vec_len l.settled + (length l.entries - l.i) ≤ vec_capacity l.settled;
}
