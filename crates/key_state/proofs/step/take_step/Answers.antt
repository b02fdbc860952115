use Rattle.std.proofs.Common.{◌≡◌, ◌<◌, ◌≤◌, ◌+◌, ℕ, length, arith, subst, sym, ◌∙◌}
use Rattle.std.proofs.lemmas.List.{get_or_read}
use Rattle.key_state.specs.declared.entry.Entry.{Entry}
use Rattle.key_state.specs.declared.entry.Entry.TheVariants.{Bad}
use Rattle.key_state.specs.Entries.{IsEntry, IsLegalAt, Takes, entry_at, first_of, many_of}
use Rattle.key_state.proofs.Steps.{StepsTo, untouched, steps_more, steps_all, steps_are_states}
use Rattle.key_state.proofs.step.take_step.Goals as goal
use Rattle.key_state.proofs.step.take_step.Goals.{in-Some, in-None}

pub apply-requires : goal.apply-requires
apply-requires c =
    let here : c.loop-i.i < length c.loop-i.entries =
    omega (arith, c.loop-i.invariant.sized, (c.requires.legal c.loop-i.i (omega (arith, c.loop-i.auto.i, c.first-first.ensures), omega (arith, c.loop-i-test.true, c.first-first.ensures, c.many.ensures))).0) in
    subst IsEntry (sym (get_or_read c.loop-i.entries c.loop-i.i c.index-entries-i.result here c.index-entries-i.is Bad)) (c.loop-i.invariant.valid c.loop-i.i here)

pub loop-i-preserved : goal.loop-i-preserved
loop-i-preserved c =
    let low : first_of c.args.made.now ≤ c.loop-i.i = omega (arith, c.loop-i.auto.i, c.first-first.ensures) in
    let high : c.loop-i.i < first_of c.args.made.now + many_of c.args.made.now = omega (arith, c.loop-i-test.true, c.first-first.ensures, c.many.ensures) in
    let is = c.requires.legal c.loop-i.i (low, high) in
    let here : c.loop-i.i < length c.loop-i.entries = omega (arith, is.0, c.loop-i.invariant.sized) in
    let read : c.index-entries-i.result ≡ entry_at c.loop-i.entries c.loop-i.i = get_or_read c.loop-i.entries c.loop-i.i c.index-entries-i.result here c.index-entries-i.is Bad in
    let old : c.index-entries-i.result ≡ entry_at c.args.entries.now c.loop-i.i = read ∙ untouched c.args.made.now c.loop-i.i c.args.entries.now c.loop-i.entries c.loop-i.invariant in
    elim c.match-apply.branch [
      | in-Some w ↦
          subst (StepsTo c.args.made.now (c.loop-i.i + 1) c.args.entries.now) (sym w.entries-is)
          (steps_more c.args.made.now c.loop-i.i c.args.entries.now c.loop-i.entries w.in-Some.after c.loop-i.invariant c.requires.legal c.requires.valid low high
          (subst (λ (x : Entry). Takes c.args.made.now x w.in-Some.after) read w.in-Some.ensures))
      | in-None w ↦ absurd (w.in-None.ensures (subst (λ (x : Entry). IsLegalAt x c.args.made.now) (sym old) is.1))
    ]

pub returns-clause-states : goal.returns-clause-states
returns-clause-states c =
    steps_are_states c.args.made.now c.args.entries.now c.loop-i.entries c.requires.legal
    (steps_all c.args.made.now c.loop-i.i c.args.entries.now c.loop-i.entries
    (omega (arith, c.loop-i-test.false, c.loop-i.auto.i-end, c.first-first.ensures, c.many.ensures)) c.loop-i.invariant)
