use Rattle.std.proofs.Common.{List, map, subst, inl, inr, refl}
use Rattle.key_state.specs.Entries.{ended}
use Rattle.key_state.specs.declared.entry.Entry.{Entry}
use Rattle.claim_table.specs.Runs.{ArePassesFor}
use Rattle.claim_table.specs.declared.view.Made.{Made}
use Rattle.block_ops.specs.Runs.{AreNow, HeldRun}
use Rattle.block_ops.proofs.RunParts.{length_ended}
use Rattle.block_ops.proofs.Stepping.{all_pending, all_same, still_fit}
use Rattle.block_ops.proofs.states.end_write.Goals as goal

pub returns-in-Err-clause-fits : goal.returns-in-Err-clause-fits
returns-in-Err-clause-fits g c =
    let was = c.written.inside.run in
    let run = c.as_in-run.result in
    let exact = c.as_in-run.ensures.exact in
    let entries : List Entry = was.entries.items in
    let Ended : List Entry → Type 0 = λ xs. AreNow (g.B.Book.seen c.append_end-appended.new.book) was.first.0 (map ended xs) in
    let Same : List Entry → Type 0 = λ xs. AreNow (g.B.Book.seen c.append_end-appended.new.book) was.first.0 xs in
    let Fits : HeldRun g.row.P.Denot → Type 0 = λ w. (made : Made) → ArePassesFor g.P.Pass.seen made w.first (map ended w.entries) w.passes → ArePassesFor g.P.Pass.seen made w.first run.entries.items run.passes.items in
    subst Fits c.written.view_is (λ made fits. elim c.in-Err.ensures.err [
      | inl acted ↦
          still_fit g.P.Pass.seen made was.first.0 (map ended entries) (map ended entries) run.entries.items was.passes.items run.passes.items
          (exact (map ended entries) (length_ended entries) (subst Ended c.deref.ensures.value acted.mine.each)) c.as_in-run.ensures.passes (all_same (map ended entries)) fits
      | inr acted ↦
          still_fit g.P.Pass.seen made was.first.0 (map ended entries) entries run.entries.items was.passes.items run.passes.items
          (exact entries refl (subst Same c.deref.ensures.value acted.mine.each)) c.as_in-run.ensures.passes (all_pending entries) fits
    ])
