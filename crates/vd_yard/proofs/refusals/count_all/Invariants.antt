use Rattle.std.proofs.Common.{◌≡◌, take}
use Rattle.std.specs.List.{list_any}
use Rattle.vd_yard.specs.Refusals.{hits, after_call}
use Rattle.vd_yard.proofs.Fronts.{front_mapped}
use Rattle.vd_yard.proofs.refusals.count_all.Given as goal

abbrev pub invariant-loop-at : goal.invariant-loop-at
invariant-loop-at l = record {
  counted : l.refusals ≡ front_mapped (after_call l.path) l.at l.fn.refusals;
  answer : l.refused ≡ list_any (hits l.path) (take l.at l.fn.refusals);
}
