use Rattle.std.proofs.Common.{◌≡◌, IsTrue, ◌↔◌, sym, ap, ◌∙◌, subst, arith, [], drop, length}
use Rattle.key_state.specs.Entries.{IsPending, records_of}
use Rattle.interleave_core.specs.Journal.{Ledger}
use Rattle.interleave_core.proofs.Stepped.{slice_rest, slice_rest_inv}
use Rattle.interleave_core.proofs.journal.Journal.is_safe.Goals as goal

pub returns : goal.returns
returns c =
    let none : IsTrue c.none_of.result ↔ (records_of c.args.block.0 (drop c.self.inside.synced c.self.inside.records.items) ≡ []) = (
      λ is. slice_rest c.args.block.0 c.self.inside.synced _ c.self.inside.records.items c.deref.result.now c.deref.ensures.value
          (omega (arith, ap length c.deref.ensures.value, c.self.invariant.synced)) (c.none_of.ensures.0 is),
      λ empty. c.none_of.ensures.1 (slice_rest_inv c.args.block.0 c.self.inside.synced _ c.self.inside.records.items c.deref.result.now c.deref.ensures.value
          (omega (arith, ap length c.deref.ensures.value, c.self.invariant.synced)) empty),
    ) in
    let same : records_of c.args.block.0 (drop c.self.inside.synced c.self.inside.records.items) ≡ records_of c.args.block.0 (drop c.args.self.now.synced c.args.self.now.records)
    = ap (λ (j : Ledger). records_of c.args.block.0 (drop j.synced j.records)) c.self.view_is in (
      λ is. (subst IsPending c.entry.ensures (c.is_pending.ensures.0 c.if-not-is_pending.false), sym same ∙ none.0 is),
      λ safe. none.1 (same ∙ safe.1),
    )
