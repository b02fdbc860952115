use Rattle.std.proofs.Common.{◌≡◌, arith, not}
use Rattle.std.specs.Vec.{vec_capacity}
use Rattle.slave_worker.specs.Hands.{HandSeen, hand_seen, works_in}
use Rattle.plan_hands.specs.Stores.{place_of}
use Rattle.plan_hands.proofs.Lists.{few_moved, long_last}
use Rattle.plan_hands.proofs.parting.+part.Goals as goal

pub push_reserved-requires : goal.push_reserved-requires
push_reserved-requires g t c =
    let mid = c.part.new.active in
    let seen = hand_seen g.P.Pass.seen g.B.Book.seen in
    let few = few_moved seen (λ (hand : HandSeen). works_in c.args.run.now (place_of hand)) c.args.active.now.items mid.items c.pop.new.self.items c.part.ensures.active in
    let one = long_last seen c.args.hands.now.items c.pop.new.self.items c.in-Some.hand c.in-Some.ensures.items in
    let same : vec_capacity mid ≡ vec_capacity c.args.active.now = c.part.ensures.rooms.1 in
    omega (arith, few, one, same, mid.ok.0, c.requires.room)

pub push_reserved-requires-else-has_worker : goal.push_reserved-requires-else-has_worker
push_reserved-requires-else-has_worker g t c =
    let mid = c.part.new.resting in
    let seen = hand_seen g.P.Pass.seen g.B.Book.seen in
    let few = few_moved seen (λ (hand : HandSeen). not (works_in c.args.run.now (place_of hand))) c.args.resting.now.items mid.items c.pop.new.self.items c.part.ensures.resting in
    let one = long_last seen c.args.hands.now.items c.pop.new.self.items c.in-Some.hand c.in-Some.ensures.items in
    let same : vec_capacity mid ≡ vec_capacity c.args.resting.now = c.part.ensures.rooms.2 in
    omega (arith, few, one, same, mid.ok.0, c.requires.resting_room)
