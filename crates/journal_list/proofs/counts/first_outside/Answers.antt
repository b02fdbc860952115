use Rattle.std.proofs.Common.{◌≡◌, inl, inr, Some, slice_get, subst, arith}
use Rattle.std.proofs.lemmas.Bool.{cases_lt}
use Rattle.key_state.specs.declared.record.Record.{Record}
use Rattle.key_state.specs.Entries.{Names}
use Rattle.journal_list.specs.Audits.{made_of}
use Rattle.journal_list.proofs.Legal.{same_record}
use Rattle.journal_list.proofs.counts.first_outside.Goals as goal
use Rattle.journal_list.proofs.counts.first_outside.Goals.{else-many-gt0-via-then-many-gt0+else-blocks-first, else-many-gt0-via-else-many-gt0}

pub loop-i-preserved : goal.loop-i-preserved
loop-i-preserved c = λ k made order is block it. elim (cases_lt k c.loop-i.i) [
  | inl early ↦ c.loop-i.invariant k made early is block it
  | inr late ↦
      let here : k ≡ c.loop-i.i = omega (arith, order, late) in
      let own = c.made_at-made.result in
      let same : made ≡ own = same_record (made_of c.args.records.now) c.loop-i.i made own (subst (λ n. slice_get (made_of c.args.records.now) n ≡ Some made) here is) c.made_at-made.ensures in
      let its : Names own block = subst (λ (m : Record). Names m block) same it in
      elim c.else-many-gt0.branch [
        | else-many-gt0-via-then-many-gt0+else-blocks-first w ↦ omega (arith, its.1, w.if-blocks-first.false, w.first.ensures, w.many-then-many-gt0.ensures)
        | else-many-gt0-via-else-many-gt0 w ↦ absurd (omega (arith, its.0, its.1, w.if-many-gt0.false, c.many.ensures))
      ]
]

pub returns-clause-inside : goal.returns-clause-inside
returns-clause-inside c = λ k made order is block it. c.loop-i.invariant k made (omega (arith, order)) is block it
