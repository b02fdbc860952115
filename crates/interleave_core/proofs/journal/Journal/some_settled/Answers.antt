use Rattle.std.proofs.Common.{inl, inr, ◌+◌, IsTrue, sym, subst, arith}
use Rattle.std.proofs.lemmas.Bool.{cases_eq}
use Rattle.interleave_core.specs.Event.{IsSettled}
use Rattle.interleave_core.specs.Journal.{now_of}
use Rattle.interleave_core.proofs.journal.Journal.some_settled.Goals as goal

pub loop-at-preserved : goal.loop-at-preserved
loop-at-preserved c = λ b low high settled. elim (cases_eq b (c.args.hold.first.0 + c.loop-at.at)) [
  | inl same ↦
      let is : IsTrue c.is_settled.result = c.is_settled.ensures.1 (subst IsSettled (sym c.entry.ensures) (subst (λ k. IsSettled (now_of c.args.self.now k)) same settled)) in
      absurd (let e = is in let f = c.if-is_settled.false in cc)
  | inr other ↦ c.loop-at.invariant b low (omega (arith, other)) settled
]

pub returns : goal.returns
returns c = (λ is. absurd (cc), λ some. absurd (c.loop-at.invariant some.0 some.1.0 (omega (arith, some.1.1, c.loop-at-test.false)) some.2))
