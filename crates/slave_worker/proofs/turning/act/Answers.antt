use Rattle.std.proofs.Common.{ℕ, ◌∙◌, refl, sym, ap, subst, arith, [], ◌∷◌}
use Rattle.claim_table.specs.Runs.{ArePassesFor, HasClaimed}
use Rattle.claim_table.specs.Seats.{view_of}
use Rattle.claim_table.specs.Passes.{Fitted}
use Rattle.claim_table.specs.Views.{met_bad, released, turned_away}
use Rattle.claim_table.specs.declared.view.View.{View}
use Rattle.block_ops.specs.Runs.{held_run}
use Rattle.worker_tally.specs.declared.done.Refusal.TheVariants as refusal
use Rattle.slave_worker.specs.Standings.{ViewAfter}
use Rattle.slave_worker.proofs.Acts.{act_clean, act_found, act_tally, act_turn, act_view, arm_none, claimed_all, claimed_bad, claimed_busy, did_of, holds_claimed, live_had, only_bad, only_busy, only_claimed, refused_of, refused_turn, refused_view, small_same, ticked_none}
use Rattle.slave_worker.proofs.turning.act.Goals as goal

pub hold-room-requires-clause-has : goal.hold-room-requires-clause-has
hold-room-requires-clause-has g c κs within =
    let held = c.in-Claimed.held in
    let answer = c.in-Claimed.ensures.answer in
    holds_claimed g.A.Pass.Pass.seen c.args.store.now (view_of c.args.seat.now) (view_of c.claim_run.new.seat) (held_run c.in-Claimed.held) c.requires.free.0 c.requires.free.1 c.requires.store
    (omega (arith, answer.1, c.requires.turn.some))
    (omega (arith, answer.0, answer.1, c.requires.turn.inside))
    answer.2
    (subst (λ (n : ℕ). HasClaimed (view_of c.args.seat.now) n c.in-Claimed.held.entries.items (view_of c.claim_run.new.seat)) (sym answer.0) answer.3)
    (subst (λ (n : ℕ). ArePassesFor g.A.Pass.Pass.seen (view_of c.args.seat.now).made n c.in-Claimed.held.entries.items c.in-Claimed.held.passes.items) (sym answer.0) answer.4)

pub hold-room-requires-clause-live : goal.hold-room-requires-clause-live
hold-room-requires-clause-live g c κs within = live_had c.in-Claimed.held.entries.items c.in-Claimed.ensures.answer.2

pub add-requires-clause-small : goal.add-requires-clause-small
add-requires-clause-small g c = small_same c.args.tally.now c.hold-room.new.tally _ c.hold-room.ensures.did.5 c.requires.small

pub returns-in-Claimed-clause-did : goal.returns-in-Claimed-clause-did
returns-in-Claimed-clause-did g c =
    let answer = c.in-Claimed.ensures.answer in
    let entries = c.in-Claimed.held.entries.items in
    let first = c.args.turn.now.block.0 in
    let did = c.hold-room.ensures.did in
    let made = c.hold-room.result.1 in
    let answered = c.hold-room.result.2 in
    let only = only_claimed first entries (view_of c.args.seat.now) (view_of c.claim_run.new.seat) answer.3 in
    let claims = claimed_all first entries (view_of c.args.seat.now) (view_of c.claim_run.new.seat) answer.2 answer.3 in (
      did_of claims.0 did.0 c.args.turn.now entries made answered,
      refl,
      refl,
      c.errors_of.ensures ∙ act_found c.args.rules.now c.args.store.now claims.0 did.0 c.args.turn.now entries made answered did.1 did.2,
      act_turn c.args.rules.now c.args.store.now claims.0 did.0 c.args.turn.now entries made answered did.1 did.2 claims.1 answer.2 c.requires.turn,
      act_view claims.0 did.0 c.args.turn.now entries made answered (view_of c.args.seat.now) (view_of c.claim_run.new.seat) (view_of c.hold-room.new.seat) did.1 only claims.2 did.3 did.4 c.hold-room.ensures.fault,
      act_tally c.args.rules.now.intervals c.args.store.now.geometry.block_size c.block_size.result claims.0 did.0 c.args.turn.now entries made answered c.args.tally.now c.hold-room.new.tally c.add.new.self did.1 c.block_size.ensures.value did.5 c.add.ensures,
      c.hold-room.ensures.called,
      c.hold-room.ensures.clock,
      c.hold-room.ensures.time,
      (λ fits. act_clean c.args.rules.now c.args.store.now did.0 c.args.turn.now entries made answered did.1 did.2 (c.hold-room.ensures.sound (subst Fitted (sym only.made) fits))),
      c.hold-room.ensures.still,
    )

pub returns-in-Busy-clause-free : goal.returns-in-Busy-clause-free
returns-in-Busy-clause-free g c =
    let answer = c.in-Busy.ensures.answer in
    let only = only_claimed c.args.turn.now.block.0 answer.0 (view_of c.args.seat.now) answer.1 answer.2 in
    (ap (λ (v : View). v.held) answer.7 ∙ c.requires.free.0, ap (λ (v : View). v.loan) answer.7 ∙ only.loan ∙ c.requires.free.1)

pub returns-in-Busy-clause-did : goal.returns-in-Busy-clause-did
returns-in-Busy-clause-did g c =
    let answer = c.in-Busy.ensures.answer in
    let first = c.args.turn.now.block.0 in
    let block = c.in-Busy.block.0 in
    let only = only_claimed first answer.0 (view_of c.args.seat.now) answer.1 answer.2 in
    let claims = claimed_busy first answer.0 (view_of c.args.seat.now) answer.1 block c.in-Busy.word answer.3 answer.2 answer.5 answer.6 in (
      refused_of c.args.turn.now claims.0 answer.0 refusal.Busy,
      refl,
      refl,
      refl,
      refused_turn c.args.rules.now c.args.store.now c.args.turn.now claims.0 answer.0 refusal.Busy claims.1 answer.3 answer.4 c.requires.turn,
      subst (λ (v : View). ViewAfter (refused_of c.args.turn.now claims.0 answer.0 refusal.Busy ∷ []) (view_of c.args.seat.now) v) (sym answer.7)
          (refused_view c.args.turn.now claims.0 answer.0 refusal.Busy (view_of c.args.seat.now) (released (turned_away answer.1 block c.in-Busy.word) (view_of c.args.seat.now).held) (only_busy (view_of c.args.seat.now) answer.1 block c.in-Busy.word only) claims.2 (λ busy. answer.8)),
      c.turn_away.ensures,
      arm_none (g.A.Arm.seen c.args.arm.now),
      ticked_none (g.C.Clock.seen c.args.clock.now),
      (λ called. cc),
      (λ fits. refl),
      (λ still called. cc),
    )

pub returns-in-BadBlock-clause-free : goal.returns-in-BadBlock-clause-free
returns-in-BadBlock-clause-free g c =
    let answer = c.in-BadBlock.ensures.answer in
    let only = only_claimed c.args.turn.now.block.0 answer.0 (view_of c.args.seat.now) answer.1 answer.3 in
    (ap (λ (v : View). v.held) answer.8 ∙ c.requires.free.0, ap (λ (v : View). v.loan) answer.8 ∙ only.loan ∙ c.requires.free.1)

pub returns-in-BadBlock-clause-did : goal.returns-in-BadBlock-clause-did
returns-in-BadBlock-clause-did g c =
    let answer = c.in-BadBlock.ensures.answer in
    let first = c.args.turn.now.block.0 in
    let block = c.in-BadBlock.block.0 in
    let only = only_claimed first answer.0 (view_of c.args.seat.now) answer.1 answer.3 in
    let claims = claimed_bad first answer.0 (view_of c.args.seat.now) answer.1 block answer.2 answer.4 answer.3 answer.6 answer.7 in (
      refused_of c.args.turn.now claims.0 answer.0 refusal.Bad,
      refl,
      refl,
      refl,
      refused_turn c.args.rules.now c.args.store.now c.args.turn.now claims.0 answer.0 refusal.Bad claims.1 answer.4 answer.5 c.requires.turn,
      subst (λ (v : View). ViewAfter (refused_of c.args.turn.now claims.0 answer.0 refusal.Bad ∷ []) (view_of c.args.seat.now) v) (sym answer.8)
          (refused_view c.args.turn.now claims.0 answer.0 refusal.Bad (view_of c.args.seat.now) (released (met_bad answer.1 block answer.2) (view_of c.args.seat.now).held) (only_bad (view_of c.args.seat.now) answer.1 block answer.2 only) claims.2 (λ busy. cc)),
      c.turn_away-in-BadBlock.ensures,
      arm_none (g.A.Arm.seen c.args.arm.now),
      ticked_none (g.C.Clock.seen c.args.clock.now),
      (λ called. cc),
      (λ fits. refl),
      (λ still called. cc),
    )
