use Rattle.std.proofs.Common.{List, sym, subst}
use Rattle.key_state.specs.Entries.{IsLegalOn}
use Rattle.key_state.specs.declared.entry.Entry.{Entry}
use Rattle.key_state.specs.declared.record.Record.TheVariants.{BeginRun}
use Rattle.key_state.proofs.quiet.QuietBookBook.begin_run.Goals as goal

pub take_step-requires-clause-legal : goal.take_step-requires-clause-legal
take_step-requires-clause-legal c =
    subst (λ (entries : List Entry). IsLegalOn entries (BeginRun c.args.first c.args.many)) (sym c.deref_mut.ensures.value) c.requires.legal
