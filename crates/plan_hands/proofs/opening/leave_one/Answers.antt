use Rattle.std.proofs.Common.{◌≡◌, Some}
use Rattle.std.specs.Prelude.{slice_get}
use Rattle.slave_worker.specs.Hands.{hand_seen}
use Rattle.plan_hands.proofs.Leaving.{one_is_out, open_back}
use Rattle.plan_hands.proofs.Lists.{read_at, some_there}
use Rattle.plan_hands.proofs.opening.leave_one.Goals as goal

pub keep_passes-requires : goal.keep_passes-requires
keep_passes-requires g c =
    let seen = hand_seen g.Y.Arm.Pass.Pass.seen g.B.Book.seen c.args.hand in
    let store = c.index-as_slice-store.result in
    let is : slice_get c.args.plan.now.stores c.args.hand.store ≡ Some store = read_at c.args.plan.now.stores c.as_slice.result.now c.args.hand.store store c.as_slice.ensures c.requires.store c.index-as_slice-store.is in
    one_is_out c.args.plan.now seen store (g.Y.Yard.seen c.args.yard.now) (some_there g.Y.Arm.Pass.Pass.seen c.args.hand.passes.items _ _ c.is_empty.ensures c.args.hand.passes.ok.0 c.if-is_empty.false) is c.requires.out

pub returns-clause-back : goal.returns-clause-back
returns-clause-back g c =
    let seen = hand_seen g.Y.Arm.Pass.Pass.seen g.B.Book.seen c.args.hand in
    let store = c.index-as_slice-store.result in
    let is : slice_get c.args.plan.now.stores c.args.hand.store ≡ Some store = read_at c.args.plan.now.stores c.as_slice.result.now c.args.hand.store store c.as_slice.ensures c.requires.store c.index-as_slice-store.is in
    let kept = c.keep_passes.ensures in
    open_back c.args.plan.now seen store (g.Y.Yard.seen c.args.yard.now) (g.Y.Yard.seen c.keep_passes.new.self) (some_there g.Y.Arm.Pass.Pass.seen c.args.hand.passes.items _ _ c.is_empty.ensures c.args.hand.passes.ok.0 c.if-is_empty.false) is kept.back kept.counts kept.disks kept.contents
