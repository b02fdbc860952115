use Rattle.std.proofs.Common.{rules, ◌≡◌, ◌<◌, ◌+◌, inl, inr, sym, ◌∙◌, subst, arith}
use Rattle.std.proofs.lemmas.Bool.{cases_lt}
use Rattle.std.proofs.lemmas.List.{get_or_read}
use Rattle.key_state.specs.declared.entry.Entry.{Entry}
use Rattle.key_state.specs.declared.entry.Entry.TheVariants.{Bad}
use Rattle.key_state.specs.Entries.{IsLegalAt, Names, entry_at, first_of, many_of}
use Rattle.key_state.proofs.Histories.{states_of_one}
use Rattle.journal_recover.proofs.sectors.make_record.Goals as goal

pub returns-in-None-clause-legal : goal.returns-in-None-clause-legal
returns-in-None-clause-legal c =
    let b = c.loop-block.block in
    let made = c.args.made.now in
    let stood : c.index-entries-block.result ≡ entry_at c.loop-block.entries b = get_or_read c.loop-block.entries b c.index-entries-block.result (omega arith) c.index-entries-block.is Bad in
    let same : c.index-entries-block.result ≡ entry_at c.args.entries.now b = stood ∙ c.loop-block.invariant.behind b (omega arith) in
    let named : Names made b = (omega (arith, c.first-first.ensures), omega (arith, c.first-first.ensures, c.many.ensures)) in
    (λ is. cc, λ legal. absurd (c.in-None.ensures (subst (λ (e : Entry). IsLegalAt e made) (sym same) (legal b named).1)))

pub returns-clause-legal : goal.returns-clause-legal
returns-clause-legal c = (
  λ is k named.
      let here : k < c.loop-block.block = omega (arith, named.1, c.first-first.ensures, c.many.ensures) in
      (omega (arith, named.1, c.requires.below), (entry_at c.loop-block.entries k, c.loop-block.invariant.stepped k named.0 here)),
  λ legal. search rules,
)

pub returns-clause-steps : goal.returns-clause-steps
returns-clause-steps c = λ is.
    let made = c.args.made.now in
    states_of_one c.args.entries.now made c.loop-block.entries c.loop-block.invariant.one_each
    (λ k inside named. c.loop-block.invariant.stepped k named.0 (omega (arith, named.1, c.first-first.ensures, c.many.ensures)))
    (λ k inside other. elim (cases_lt k (first_of made)) [
      | inl early ↦ c.loop-block.invariant.before k early
      | inr late ↦ elim (cases_lt k (first_of made + many_of made)) [
        | inl within ↦ absurd (other (late, within))
        | inr past ↦ c.loop-block.invariant.behind k (omega (arith, past, c.first-first.ensures, c.many.ensures))
      ]
    ])
