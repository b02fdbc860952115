use Rattle.std.proofs.Common.{◌≡◌, refl, ap, map, Err, Some, true, rules}
use Rattle.std.specs.Prelude.{slice_get}
use Rattle.vd_yard.specs.declared.fault.YardFault.{YardFault}
use Rattle.slave_worker.specs.Hands.{hand_seen, works_in}
use Rattle.plan_hands.specs.Openings.{opened}
use Rattle.plan_hands.proofs.Lists.{none_items, read_at}
use Rattle.plan_hands.proofs.Opens.{open_out}
use Rattle.plan_hands.proofs.opening.open_one.Goals as goal

pub returns-in-Ok-clause-opened : goal.returns-in-Ok-clause-opened
returns-in-Ok-clause-opened g c =
    let store = c.index-as_slice-hand.result in
    let place = c.args.hand.now.store in
    let works : works_in c.args.run.now place ≡ true = search rules in
    let empty : c.is_empty.result ≡ true = search rules in
    let is : slice_get c.args.plan.now.stores place ≡ Some store = read_at c.args.plan.now.stores c.as_slice.result.now place store c.as_slice.ensures c.requires c.index-as_slice-hand.is in
    opened works (ap (map g.Y.Arm.Pass.Pass.seen) (none_items c.args.hand.now.passes.items _ _ c.is_empty.ensures c.args.hand.now.passes.ok.0 empty)) (store, is, record { place = refl; book = refl; blocks = c.in-Ok.ensures.blocks; told = c.in-Ok.ensures.told })

pub returns-in-Ok-clause-out : goal.returns-in-Ok-clause-out
returns-in-Ok-clause-out g c = λ out was.
    let store = c.index-as_slice-hand.result in
    let place = c.args.hand.now.store in
    let empty : c.is_empty.result ≡ true = search rules in
    let is : slice_get c.args.plan.now.stores place ≡ Some store = read_at c.args.plan.now.stores c.as_slice.result.now place store c.as_slice.ensures c.requires c.index-as_slice-hand.is in
    let none = ap (map g.Y.Arm.Pass.Pass.seen) (none_items c.args.hand.now.passes.items _ _ c.is_empty.ensures c.args.hand.now.passes.ok.0 empty) in
    let seen = hand_seen g.Y.Arm.Pass.Pass.seen g.B.Book.seen in
    open_out c.args.plan.now c.args.run.now (seen c.args.hand.now) (seen (record c.args.hand.now { passes = c.in-Ok.passes })) store (g.Y.Yard.seen c.args.yard.now).out (g.Y.Yard.seen c.passes.new.self).out out none is c.in-Ok.ensures.blocks.as_many c.blocks-blocks.ensures.limits.some_blocks c.in-Ok.ensures.opens.taken was

pub returns-in-Err-Failed-clause-cause : goal.returns-in-Err-Failed-clause-cause
returns-in-Err-Failed-clause-cause g c = record {
  failed = λ store is. c.in-Err-Failed.ensures.opens.failed (ap (λ (e : YardFault). Err e) c.in-Err-Failed.field-0-is);
  quiet = λ not. absurd (not c.args.hand.now.store refl);
  willing = λ store w is. c.in-Err-Failed.ensures.willing w tt (ap (λ (e : YardFault). Err e) c.in-Err-Failed.field-0-is);
}

pub returns-in-Ok-clause-same : goal.returns-in-Ok-clause-same
returns-in-Ok-clause-same g c = record {
  place = refl;
  same_book = refl;
  open_passes = λ some.
      let empty : c.is_empty.result ≡ true = search rules in
      absurd (some (none_items c.args.hand.now.passes.items _ _ c.is_empty.ensures c.args.hand.now.passes.ok.0 empty));
}
