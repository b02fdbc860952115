use Rattle.std.proofs.Common.{◌≡◌, ◌∙◌, sym, ap, subst, arith, ℕ, ◌+◌, true, false, not, List, [], ◌∷◌, ◌++◌, filter, map}
use Rattle.std.specs.List.{range_with_len}
use Rattle.std.specs.Vec.{vec_capacity}
use Rattle.std.proofs.lemmas.List.{append_assoc, length-map}
use Rattle.slave_worker.specs.Hands.{hand_seen, works_in}
use Rattle.slave_worker.specs.declared.hand.StoreHand.{StoreHand}
use Rattle.plan_hands.specs.Stores.{place_of}
use Rattle.plan_hands.proofs.Joined.{joins_active, joins_resting, long_joined}
use Rattle.plan_hands.proofs.Lists.{last_is, lower_are, map_last, moved, one_fails, one_passes, same_are, some_is}
use Rattle.plan_hands.proofs.parting.+join.Goals as goal

pub unreachable-requires : goal.unreachable-requires
unreachable-requires g t c =
    let seen = hand_seen g.P.Pass.seen g.B.Book.seen in
    let more : c.args.places ≡ c.in-Some.place + 1 = omega (arith, c.in-Some.ensures.0, c.in-Some.ensures.1) in
    let are = subst (λ (n : ℕ). map place_of (map seen c.args.active.now.items) ≡ filter (works_in c.args.run.now) (range_with_len 0 n)) more c.requires.active in
    some_is place_of (works_in c.args.run.now) c.in-Some.place (map seen c.args.active.now.items) are (sym c.has_worker.ensures ∙ c.if-has_worker.true) (length-map c.args.active.now.items seen ∙ sym c.args.active.now.ok.0 ∙ c.in_default-pop.ensures.cases.0)

pub join-requires-clause-active : goal.join-requires-clause-active
join-requires-clause-active g t c κs within =
    let seen = hand_seen g.P.Pass.seen g.B.Book.seen in
    let more : c.args.places ≡ c.in-Some.place + 1 = omega (arith, c.in-Some.ensures.0, c.in-Some.ensures.1) in
    let are = subst (λ (n : ℕ). map place_of (map seen c.args.active.now.items) ≡ filter (works_in c.args.run.now) (range_with_len 0 n)) more c.requires.active in
    lower_are place_of (works_in c.args.run.now) c.in-Some.place (map seen c.args.active.now.items) are (map seen c.pop.new.self.items) (seen c.in-Some-pop.hand) (sym c.has_worker.ensures ∙ c.if-has_worker.true)
    (map_last seen c.args.active.now.items c.pop.new.self.items c.in-Some-pop.hand c.in-Some-pop.ensures.items)

pub join-requires-clause-resting : goal.join-requires-clause-resting
join-requires-clause-resting g t c κs within =
    let seen = hand_seen g.P.Pass.seen g.B.Book.seen in
    let more : c.args.places ≡ c.in-Some.place + 1 = omega (arith, c.in-Some.ensures.0, c.in-Some.ensures.1) in
    let are = subst (λ (n : ℕ). map place_of (map seen c.args.resting.now.items) ≡ filter (λ (place : ℕ). not (works_in c.args.run.now place)) (range_with_len 0 n)) more c.requires.resting in
    same_are place_of (λ (place : ℕ). not (works_in c.args.run.now place)) c.in-Some.place (map seen c.args.resting.now.items) are (ap not (sym c.has_worker.ensures ∙ c.if-has_worker.true))

pub push_reserved-requires : goal.push_reserved-requires
push_reserved-requires g t c =
    let seen = hand_seen g.P.Pass.seen g.B.Book.seen in
    let mid = c.join.new.hands in
    let long = long_joined seen c.args.run.now c.in-Some.place c.args.hands.now.items mid.items _ _ _ c.join.ensures.joined.1 c.join.ensures.joined.2 in
    let same : vec_capacity mid ≡ vec_capacity c.args.hands.now = c.join.ensures.rooms.0 in
    omega (arith, c.in-Some.ensures.0, c.in-Some.ensures.1, long, same, mid.ok.0, c.requires.room)

pub returns-then-has_worker-clause-joined : goal.returns-then-has_worker-clause-joined
returns-then-has_worker-clause-joined g t c =
    let seen = hand_seen g.P.Pass.seen g.B.Book.seen in
    let run = c.args.run.now in
    let works = sym c.has_worker.ensures ∙ c.if-has_worker.true in
    let more : c.args.places ≡ c.in-Some.place + 1 = omega (arith, c.in-Some.ensures.0, c.in-Some.ensures.1) in
    let are = subst (λ (n : ℕ). map place_of (map seen c.args.active.now.items) ≡ filter (works_in run) (range_with_len 0 n)) more c.requires.active in
    let split = map_last seen c.args.active.now.items c.pop.new.self.items c.in-Some-pop.hand c.in-Some-pop.ensures.items in
    let its = last_is place_of (works_in run) c.in-Some.place (map seen c.args.active.now.items) are (map seen c.pop.new.self.items) (seen c.in-Some-pop.hand) works split in
    let so_far = c.join.ensures.joined in (
      so_far.0 ++ seen c.in-Some-pop.hand ∷ [],
      moved seen c.args.hands.now.items c.join.new.hands.items c.push_reserved.new.self.items c.in-Some-pop.hand so_far.0 so_far.1 c.push_reserved.ensures.items,
      joins_active run c.args.places c.in-Some.place so_far.0 (seen c.in-Some-pop.hand) more its (map seen c.args.active.now.items) (map seen c.pop.new.self.items) (map seen c.args.resting.now.items) works split so_far.2,
    )

pub unreachable-requires-in_default-pop-2 : goal.unreachable-requires-in_default-pop-2
unreachable-requires-in_default-pop-2 g t c =
    let seen = hand_seen g.P.Pass.seen g.B.Book.seen in
    let more : c.args.places ≡ c.in-Some.place + 1 = omega (arith, c.in-Some.ensures.0, c.in-Some.ensures.1) in
    let are = subst (λ (n : ℕ). map place_of (map seen c.args.resting.now.items) ≡ filter (λ (place : ℕ). not (works_in c.args.run.now place)) (range_with_len 0 n)) more c.requires.resting in
    some_is place_of (λ (place : ℕ). not (works_in c.args.run.now place)) c.in-Some.place (map seen c.args.resting.now.items) are (ap not (sym c.has_worker.ensures ∙ c.if-has_worker.false)) (length-map c.args.resting.now.items seen ∙ sym c.args.resting.now.ok.0 ∙ c.in_default-pop-2.ensures.cases.0)

pub join-requires-2-clause-active : goal.join-requires-2-clause-active
join-requires-2-clause-active g t c κs within =
    let seen = hand_seen g.P.Pass.seen g.B.Book.seen in
    let more : c.args.places ≡ c.in-Some.place + 1 = omega (arith, c.in-Some.ensures.0, c.in-Some.ensures.1) in
    let are = subst (λ (n : ℕ). map place_of (map seen c.args.active.now.items) ≡ filter (works_in c.args.run.now) (range_with_len 0 n)) more c.requires.active in
    same_are place_of (works_in c.args.run.now) c.in-Some.place (map seen c.args.active.now.items) are (sym c.has_worker.ensures ∙ c.if-has_worker.false)

pub join-requires-2-clause-resting : goal.join-requires-2-clause-resting
join-requires-2-clause-resting g t c κs within =
    let seen = hand_seen g.P.Pass.seen g.B.Book.seen in
    let more : c.args.places ≡ c.in-Some.place + 1 = omega (arith, c.in-Some.ensures.0, c.in-Some.ensures.1) in
    let are = subst (λ (n : ℕ). map place_of (map seen c.args.resting.now.items) ≡ filter (λ (place : ℕ). not (works_in c.args.run.now place)) (range_with_len 0 n)) more c.requires.resting in
    lower_are place_of (λ (place : ℕ). not (works_in c.args.run.now place)) c.in-Some.place (map seen c.args.resting.now.items) are (map seen c.pop-2.new.self.items) (seen c.in-Some-pop-2.hand) (ap not (sym c.has_worker.ensures ∙ c.if-has_worker.false))
    (map_last seen c.args.resting.now.items c.pop-2.new.self.items c.in-Some-pop-2.hand c.in-Some-pop-2.ensures.items)

pub push_reserved-requires-2 : goal.push_reserved-requires-2
push_reserved-requires-2 g t c =
    let seen = hand_seen g.P.Pass.seen g.B.Book.seen in
    let mid = c.join-2.new.hands in
    let long = long_joined seen c.args.run.now c.in-Some.place c.args.hands.now.items mid.items _ _ _ c.join-2.ensures.joined.1 c.join-2.ensures.joined.2 in
    let same : vec_capacity mid ≡ vec_capacity c.args.hands.now = c.join-2.ensures.rooms.0 in
    omega (arith, c.in-Some.ensures.0, c.in-Some.ensures.1, long, same, mid.ok.0, c.requires.room)

pub returns-clause-joined : goal.returns-clause-joined
returns-clause-joined g t c =
    let seen = hand_seen g.P.Pass.seen g.B.Book.seen in
    let run = c.args.run.now in
    let rests = sym c.has_worker.ensures ∙ c.if-has_worker.false in
    let more : c.args.places ≡ c.in-Some.place + 1 = omega (arith, c.in-Some.ensures.0, c.in-Some.ensures.1) in
    let are = subst (λ (n : ℕ). map place_of (map seen c.args.resting.now.items) ≡ filter (λ (place : ℕ). not (works_in run place)) (range_with_len 0 n)) more c.requires.resting in
    let split = map_last seen c.args.resting.now.items c.pop-2.new.self.items c.in-Some-pop-2.hand c.in-Some-pop-2.ensures.items in
    let its = last_is place_of (λ (place : ℕ). not (works_in run place)) c.in-Some.place (map seen c.args.resting.now.items) are (map seen c.pop-2.new.self.items) (seen c.in-Some-pop-2.hand) (ap not rests) split in
    let so_far = c.join-2.ensures.joined in (
      so_far.0 ++ seen c.in-Some-pop-2.hand ∷ [],
      moved seen c.args.hands.now.items c.join-2.new.hands.items c.push_reserved-2.new.self.items c.in-Some-pop-2.hand so_far.0 so_far.1 c.push_reserved-2.ensures.items,
      joins_resting run c.args.places c.in-Some.place so_far.0 (seen c.in-Some-pop-2.hand) more its (map seen c.args.active.now.items) (map seen c.args.resting.now.items) (map seen c.pop-2.new.self.items) rests split so_far.2,
    )

pub returns-then-has_worker-clause-same : goal.returns-then-has_worker-clause-same
returns-then-has_worker-clause-same g t c =
    let seen = hand_seen g.P.Pass.seen g.B.Book.seen in
    let run = c.args.run.now in
    let hand = c.in-Some-pop.hand in
    let works = sym c.has_worker.ensures ∙ c.if-has_worker.true in
    let more : c.args.places ≡ c.in-Some.place + 1 = omega (arith, c.in-Some.ensures.0, c.in-Some.ensures.1) in
    let are = subst (λ (n : ℕ). map place_of (map seen c.args.active.now.items) ≡ filter (works_in run) (range_with_len 0 n)) more c.requires.active in
    let split = map_last seen c.args.active.now.items c.pop.new.self.items hand c.in-Some-pop.ensures.items in
    let its = last_is place_of (works_in run) c.in-Some.place (map seen c.args.active.now.items) are (map seen c.pop.new.self.items) (seen hand) works split in
    let its_works : works_in run hand.store ≡ true = ap (works_in run) its ∙ works in
    let all = c.join.ensures.same in (
      all.0 ++ hand ∷ [],
      c.push_reserved.ensures.items ∙ ap (λ (l : List (StoreHand g.row.P.Denot g.row.B.Denot)). l ++ hand ∷ []) all.1 ∙ append_assoc c.args.hands.now.items all.0 (hand ∷ []),
      one_passes (λ (h : StoreHand g.row.P.Denot g.row.B.Denot). works_in run h.store) all.0 hand c.pop.new.self.items c.args.active.now.items its_works all.2 c.in-Some-pop.ensures.items,
      one_fails (λ (h : StoreHand g.row.P.Denot g.row.B.Denot). not (works_in run h.store)) all.0 hand c.args.resting.now.items (ap not its_works) all.3,
    )

pub returns-clause-same : goal.returns-clause-same
returns-clause-same g t c =
    let seen = hand_seen g.P.Pass.seen g.B.Book.seen in
    let run = c.args.run.now in
    let hand = c.in-Some-pop-2.hand in
    let rests = sym c.has_worker.ensures ∙ c.if-has_worker.false in
    let more : c.args.places ≡ c.in-Some.place + 1 = omega (arith, c.in-Some.ensures.0, c.in-Some.ensures.1) in
    let are = subst (λ (n : ℕ). map place_of (map seen c.args.resting.now.items) ≡ filter (λ (place : ℕ). not (works_in run place)) (range_with_len 0 n)) more c.requires.resting in
    let split = map_last seen c.args.resting.now.items c.pop-2.new.self.items hand c.in-Some-pop-2.ensures.items in
    let its = last_is place_of (λ (place : ℕ). not (works_in run place)) c.in-Some.place (map seen c.args.resting.now.items) are (map seen c.pop-2.new.self.items) (seen hand) (ap not rests) split in
    let its_rests : works_in run hand.store ≡ false = ap (works_in run) its ∙ rests in
    let all = c.join-2.ensures.same in (
      all.0 ++ hand ∷ [],
      c.push_reserved-2.ensures.items ∙ ap (λ (l : List (StoreHand g.row.P.Denot g.row.B.Denot)). l ++ hand ∷ []) all.1 ∙ append_assoc c.args.hands.now.items all.0 (hand ∷ []),
      one_fails (λ (h : StoreHand g.row.P.Denot g.row.B.Denot). works_in run h.store) all.0 hand c.args.active.now.items its_rests all.2,
      one_passes (λ (h : StoreHand g.row.P.Denot g.row.B.Denot). not (works_in run h.store)) all.0 hand c.pop-2.new.self.items c.args.resting.now.items (ap not its_rests) all.3 c.in-Some-pop-2.ensures.items,
    )
