use Rattle.std.proofs.Common.{inl, inr, ◌+◌, IsTrue, refl, sym, subst, arith, drop}
use Rattle.std.proofs.lemmas.Bool.{cases_eq}
use Rattle.interleave_core.specs.Event.{IsSafe}
use Rattle.interleave_core.specs.Journal.{now_of}
use Rattle.interleave_core.proofs.journal.Journal.are_safe.Goals as goal

pub returns-then-not-is_safe : goal.returns-then-not-is_safe
returns-then-not-is_safe c = (
  λ is. absurd (cc),
  λ all.
      let is : IsTrue c.is_safe.result = c.is_safe.ensures.1 (all (c.args.hold.first.0 + c.loop-at.at) (omega arith, omega (arith, c.loop-at-test.true))) in
      absurd (let e = is in let f = c.if-not-is_safe.true in cc),
)

pub loop-at-preserved : goal.loop-at-preserved
loop-at-preserved c = λ b low high. elim (cases_eq b (c.args.hold.first.0 + c.loop-at.at)) [
  | inl same ↦ subst (λ k. IsSafe (now_of c.args.self.now k) (drop c.args.self.now.synced c.args.self.now.records) k) (sym same) (c.is_safe.ensures.0 c.if-not-is_safe.false)
  | inr other ↦ c.loop-at.invariant b low (omega (arith, other))
]

pub returns : goal.returns
returns c = (λ is b lists. c.loop-at.invariant b lists.0 (omega (arith, lists.1, c.loop-at-test.false)), λ all. refl)
