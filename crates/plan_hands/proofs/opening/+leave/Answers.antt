use Rattle.std.proofs.Common.{◌<◌, length, map, Some}
use Rattle.std.proofs.lemmas.List.Elements.{All-pop}
use Rattle.slave_worker.specs.Hands.{hand_seen}
use Rattle.slave_worker.specs.declared.hand.StoreHand.{StoreHand}
use Rattle.plan_hands.proofs.Leaving.{all_back, last_is_out, rest_are_out}
use Rattle.plan_hands.proofs.Lists.{map_last}
use Rattle.plan_hands.proofs.opening.+leave.Goals as goal

pub leave-requires-clause-out : goal.leave-requires-clause-out
leave-requires-clause-out g t c κs within =
    let seen = hand_seen g.Y.Arm.Pass.Pass.seen g.B.Book.seen in
    let split = map_last seen c.args.hands.now.items c.pop.new.self.items c.in-Some.hand c.in-Some.ensures.items in
    rest_are_out c.args.plan.now (map seen c.args.hands.now.items) (map seen c.pop.new.self.items) (seen c.in-Some.hand) split (g.Y.Yard.seen c.args.yard.now).out c.requires.out

pub leave_one-book-requires-clause-store : goal.leave_one-book-requires-clause-store
leave_one-book-requires-clause-store g t c κs within =
    (All-pop (λ (hand : StoreHand _ _). hand.store < length c.args.plan.now.stores) c.args.hands.now.items c.pop.new.self.items (Some c.in-Some.hand) c.in-Some.ensures.items c.requires.stores).1

pub leave_one-book-requires-clause-out : goal.leave_one-book-requires-clause-out
leave_one-book-requires-clause-out g t c κs within =
    let seen = hand_seen g.Y.Arm.Pass.Pass.seen g.B.Book.seen in
    let split = map_last seen c.args.hands.now.items c.pop.new.self.items c.in-Some.hand c.in-Some.ensures.items in
    last_is_out c.args.plan.now (map seen c.args.hands.now.items) (map seen c.pop.new.self.items) (seen c.in-Some.hand) split (g.Y.Yard.seen c.args.yard.now) (g.Y.Yard.seen c.leave.new.yard) c.requires.out c.leave.ensures.back

pub returns-clause-back : goal.returns-clause-back
returns-clause-back g t c =
    let seen = hand_seen g.Y.Arm.Pass.Pass.seen g.B.Book.seen in
    let split = map_last seen c.args.hands.now.items c.pop.new.self.items c.in-Some.hand c.in-Some.ensures.items in
    all_back c.args.plan.now (map seen c.args.hands.now.items) (map seen c.pop.new.self.items) (seen c.in-Some.hand) split (g.Y.Yard.seen c.args.yard.now) (g.Y.Yard.seen c.leave.new.yard) (g.Y.Yard.seen c.leave_one-book.new.yard) c.leave.ensures.back c.leave_one-book.ensures.back
