use Rattle.std.proofs.Common.{rules, ◌≡◌, ◌∙◌, ◌<◌, refl, sym, ap, subst, arith, ℕ, true, List, Some, length, slice_get}
use Rattle.std.proofs.lemmas.List.{append-nil, length-map}
use Rattle.std.proofs.lemmas.List.Elements.{All-pop}
use Rattle.std.proofs.lemmas.Option.{slice_get_read}
use Rattle.slave_worker.specs.declared.hand.StoreHand.{StoreHand}
use Rattle.slave_worker.specs.Hands.{IsHandIn, works_in}
use Rattle.master_run.specs.Musters.{Mustered}
use Rattle.master_run.specs.declared.post.Post.{Post}
use Rattle.master_run.proofs.Mustering.{hand_is, hand_within, last_workers, muster_fault, muster_more, muster_none}
use Rattle.master_run.proofs.Opening.{cause_then}
use Rattle.master_run.proofs.Ordered.{works_some}
use Rattle.master_run.proofs.Turned.{last_is}
use Rattle.master_run.proofs.running.+muster.Goals as goal

pub returns-in_default-clause-taken : goal.returns-in_default-clause-taken
returns-in_default-clause-taken g t c =
    let yard = g.Y.Yard.seen c.args.yard.now in
    let crews = c.args.crews.now.items in
    let seats = c.args.left.now.error_seats.items in
    let hands = c.pop.new.self.items in
    subst (λ (l : List (StoreHand _ _)). Mustered g.Y.Arm.Pass.Pass.seen g.B.Book.seen g.Y.Arm.Arm.seen c.args.plan.now c.args.run.now yard yard l hands crews crews seats seats _) (sym (c.in_default.ensures.items ∙ append-nil hands))
    (muster_none g.Y.Arm.Pass.Pass.seen g.B.Book.seen g.Y.Arm.Arm.seen c.args.plan.now c.args.run.now yard hands crews seats)

pub bounds-as_slice-hand : goal.bounds-as_slice-hand
bounds-as_slice-hand g t c =
    let is = last_is (IsHandIn g.Y.Arm.Pass.Pass.seen g.B.Book.seen c.args.plan.now c.args.run.now) c.args.hands.now.items c.pop.new.self.items c.in-Some.hand c.in-Some.ensures.items c.requires.hands in
    let below : c.in-Some.hand.store < length c.args.plan.now.stores = hand_within g.Y.Arm.Pass.Pass.seen g.B.Book.seen c.args.plan.now c.args.run.now c.in-Some.hand is in
    search rules

pub crew_of-made-requires-clause-store : goal.crew_of-made-requires-clause-store
crew_of-made-requires-clause-store g t c κs within =
    let stores = c.args.plan.now.stores in
    let is = last_is (IsHandIn g.Y.Arm.Pass.Pass.seen g.B.Book.seen c.args.plan.now c.args.run.now) c.args.hands.now.items c.pop.new.self.items c.in-Some.hand c.in-Some.ensures.items c.requires.hands in
    let below : c.in-Some.hand.store < length stores = hand_within g.Y.Arm.Pass.Pass.seen g.B.Book.seen c.args.plan.now c.args.run.now c.in-Some.hand is in
    slice_get_read stores (length stores) c.in-Some.hand.store c.index-as_slice-hand.result refl below (search rules)

pub crew_of-made-requires-clause-hand : goal.crew_of-made-requires-clause-hand
crew_of-made-requires-clause-hand g t c κs within =
    let stores = c.args.plan.now.stores in
    let is = last_is (IsHandIn g.Y.Arm.Pass.Pass.seen g.B.Book.seen c.args.plan.now c.args.run.now) c.args.hands.now.items c.pop.new.self.items c.in-Some.hand c.in-Some.ensures.items c.requires.hands in
    let below : c.in-Some.hand.store < length stores = hand_within g.Y.Arm.Pass.Pass.seen g.B.Book.seen c.args.plan.now c.args.run.now c.in-Some.hand is in
    let at : slice_get stores c.in-Some.hand.store ≡ Some c.index-as_slice-hand.result = slice_get_read stores (length stores) c.in-Some.hand.store c.index-as_slice-hand.result refl below (search rules) in
    hand_is g.Y.Arm.Pass.Pass.seen g.B.Book.seen c.args.plan.now c.args.run.now c.in-Some.hand c.index-as_slice-hand.result is at

pub crew_of-made-requires-clause-some : goal.crew_of-made-requires-clause-some
crew_of-made-requires-clause-some g t c κs within =
    (last_is (IsHandIn g.Y.Arm.Pass.Pass.seen g.B.Book.seen c.args.plan.now c.args.run.now) c.args.hands.now.items c.pop.new.self.items c.in-Some.hand c.in-Some.ensures.items c.requires.hands).some

pub muster-requires-clause-hands : goal.muster-requires-clause-hands
muster-requires-clause-hands g t c κs within =
    (All-pop (IsHandIn g.Y.Arm.Pass.Pass.seen g.B.Book.seen c.args.plan.now c.args.run.now) c.args.hands.now.items c.pop.new.self.items (Some c.in-Some.hand) c.in-Some.ensures.items c.requires.hands).0

pub muster-requires-clause-seats : goal.muster-requires-clause-seats
muster-requires-clause-seats g t c κs within =
    let manned = c.in-Ok.ensures.manned c.requires.new.0 c.requires.new.1 in
    let many = sym (length-map c.in-Ok.crew.posts.items (λ (post : Post _ _ _). post.worker)) ∙ ap length manned.0.is_crew.workers in
    let all = last_workers c.args.run.now c.args.hands.now.items c.pop.new.self.items c.in-Some.hand c.in-Some.ensures.items in
    omega (arith, many, all, c.requires.seats, c.in-Ok.ensures.used)

pub muster-requires-clause-new : goal.muster-requires-clause-new
muster-requires-clause-new g t c κs within = (c.requires.new.0, (c.in-Ok.ensures.manned c.requires.new.0 c.requires.new.1).1)

pub returns-in-Ok-clause-taken : goal.returns-in-Ok-clause-taken
returns-in-Ok-clause-taken g t c =
    let stores = c.args.plan.now.stores in
    let is = last_is (IsHandIn g.Y.Arm.Pass.Pass.seen g.B.Book.seen c.args.plan.now c.args.run.now) c.args.hands.now.items c.pop.new.self.items c.in-Some.hand c.in-Some.ensures.items c.requires.hands in
    let below : c.in-Some.hand.store < length stores = hand_within g.Y.Arm.Pass.Pass.seen g.B.Book.seen c.args.plan.now c.args.run.now c.in-Some.hand is in
    let at : slice_get stores c.in-Some.hand.store ≡ Some c.index-as_slice-hand.result = slice_get_read stores (length stores) c.in-Some.hand.store c.index-as_slice-hand.result refl below (search rules) in
    muster_more g.Y.Arm.Pass.Pass.seen g.B.Book.seen g.Y.Arm.Arm.seen c.args.plan.now c.args.run.now c.args.hands.now.items c.pop.new.self.items c.muster.new.hands.items c.in-Some.hand c.index-as_slice-hand.result c.args.crews.now.items c.push_reserved.new.self.items c.muster.new.crews.items c.in-Ok.crew
    (g.Y.Yard.seen c.args.yard.now) (g.Y.Yard.seen c.crew_of-made.new.yard) (g.Y.Yard.seen c.muster.new.yard) c.args.left.now.error_seats.items c.crew_of-made.new.error_seats.items c.muster.new.left.error_seats.items c.muster.result
    c.in-Some.ensures.items at c.push_reserved.ensures.items c.in-Ok.ensures.manned c.in-Ok.ensures.used c.in-Ok.ensures.took c.muster.ensures.taken

pub returns-in-Ok-clause-cause : goal.returns-in-Ok-clause-cause
returns-in-Ok-clause-cause g t c =
    cause_then (g.Y.Yard.seen c.args.yard.now) (g.Y.Yard.seen c.crew_of-made.new.yard) (g.Y.Yard.seen c.muster.new.yard) c.muster.result c.in-Ok.ensures.took.same (c.in-Ok.ensures.cause.kept (λ store is. cc)) c.muster.ensures.cause

pub returns-in-Err-clause-taken : goal.returns-in-Err-clause-taken
returns-in-Err-clause-taken g t c =
    muster_fault g.Y.Arm.Pass.Pass.seen g.B.Book.seen g.Y.Arm.Arm.seen c.args.plan.now c.args.run.now c.in-Err.fault (g.Y.Yard.seen c.args.yard.now) (g.Y.Yard.seen c.crew_of-made.new.yard) c.args.hands.now.items c.pop.new.self.items c.push_reserved-in-Err.new.self.items c.in-Some.hand c.in-Err.hand c.args.crews.now.items c.args.left.now.error_seats.items c.crew_of-made.new.error_seats.items
    c.in-Some.ensures.items c.push_reserved-in-Err.ensures.items c.in-Err.ensures.back (λ word new. (c.in-Err.ensures.manned word new).1) c.in-Err.ensures.gave

pub returns-in-Err-clause-named : goal.returns-in-Err-clause-named
returns-in-Err-clause-named g t c = λ store is.
    let hand = last_is (IsHandIn g.Y.Arm.Pass.Pass.seen g.B.Book.seen c.args.plan.now c.args.run.now) c.args.hands.now.items c.pop.new.self.items c.in-Some.hand c.in-Some.ensures.items c.requires.hands in
    subst (λ (s : ℕ). works_in c.args.run.now s ≡ true) (sym (c.in-Err.ensures.named store is)) (works_some c.args.run.now c.in-Some.hand.store hand.some)
