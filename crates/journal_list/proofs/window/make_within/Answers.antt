use Rattle.std.proofs.Common.{inl, inr, ◌+◌, arith}
use Rattle.std.proofs.lemmas.Bool.{cases_lt}
use Rattle.key_state.specs.Entries.{first_of, many_of}
use Rattle.journal_list.proofs.window.make_within.Goals as goal

pub returns-clause-yes : goal.returns-clause-yes
returns-clause-yes c = λ yes block from below.
    let made = c.args.made.now in (
      (λ it. c.loop-block.invariant.stepped block it.0 from (omega (arith, it.1, below, c.first-first.ensures, c.many.ensures, c.min-end.ensures))),
      λ other. elim (cases_lt block (first_of made)) [
        | inl early ↦ c.loop-block.invariant.before block early from
        | inr late ↦ elim (cases_lt block (first_of made + many_of made)) [
          | inl inside ↦ absurd (other (late, inside))
          | inr past ↦ c.loop-block.invariant.behind block (c.loop-block.invariant.last block from late (omega (arith, past, c.first-first.ensures, c.many.ensures, c.min-end.ensures))) from
        ]
      ],
    )
