use Rattle.std.proofs.Common.{◌≡◌, List, ap, ◌∙◌}
use Rattle.key_state.specs.declared.entry.Entry.{Entry}
use Rattle.key_state.specs.declared.record.Record.{Record}
use Rattle.key_state.specs.Entries.{states}
use Rattle.interleave_core.specs.Journal.{Ledger}
use Rattle.interleave_core.proofs.Stepped.{states_are}
use Rattle.interleave_core.proofs.journal.Journal.turn_over.Goals as goal

pub returns : goal.returns
returns c =
    let base : c.copy_from_slice.new.self.items ≡ states c.args.self.now.base c.args.self.now.records
    = c.copy_from_slice.ensures.items ∙ c.deref.ensures.value
    ∙ states_are c.self.inside.base.items c.self.inside.current.items c.self.inside.records.items c.self.invariant.sizes c.self.invariant.each
    ∙ ap (λ (j : Ledger). states j.base j.records) c.self.view_is in
    ap (λ (l : List Entry). record { base = l; records = c.clear.new.self.items; synced = 0 }) base
    ∙ ap (λ (l : List Record). record { base = states c.args.self.now.base c.args.self.now.records; records = l; synced = 0 }) c.clear.ensures.items
