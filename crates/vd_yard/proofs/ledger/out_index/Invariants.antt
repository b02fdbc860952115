use Rattle.std.proofs.Common.{◌≡◌, take}
use Rattle.vd_yard.specs.Ledger.{outs, kind_of}
use Rattle.vd_yard.proofs.ledger.out_index.Given as goal

abbrev pub invariant-loop-at : goal.invariant-loop-at
invariant-loop-at l = outs (take l.at l.openings.items) (kind_of l.thing) l.path ≡ 0
