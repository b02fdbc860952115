use Rattle.std.proofs.Common.{rules, ◌≡◌, List, length, sym, subst, arith}
use Rattle.key_state.specs.declared.entry.Entry.{Entry}
use Rattle.key_state.specs.Entries.{IsLegalOn}
use Rattle.journal_core.proofs.Appends.{legal_below}
use Rattle.journal_core.proofs.book.note.Goals as goal

pub cleared_by-requires : goal.cleared_by-requires
cleared_by-requires c =
    let below = legal_below c.args.entries.now.items c.args.made.now c.requires.legal c.requires.spelled in
    let same : length c.deref.result.now ≡ length c.args.entries.now.items = search rules in
    omega (arith, below, same)

pub take_step-requires-clause-legal : goal.take_step-requires-clause-legal
take_step-requires-clause-legal c = subst (λ (es : List Entry). IsLegalOn es c.args.made.now) (sym c.deref_mut.ensures.value) c.requires.legal
