use Rattle.std.proofs.Common.{◌≡◌, ◌*◌, ◌∙◌, ℕ, length, map, ap, sym, subst, arith, List}
use Rattle.std.specs.Vec.{with_items}
use Rattle.std.proofs.lemmas.List.{length-map, with_items_is}
use Rattle.vd_base.specs.declared.geometry.StoreId.{StoreId}
use Rattle.vd_arm.specs.Transfers.{SameBlocks, TookParts, TornParts}
use Rattle.key_state.specs.Entries.{ended}
use Rattle.key_state.specs.declared.entry.Entry.{Entry}
use Rattle.claim_table.specs.Sums.{Each}
use Rattle.claim_table.specs.Runs.{ArePassesFor}
use Rattle.block_ops.specs.Runs.{HeldRun, IsBegun, held_run}
use Rattle.block_ops.specs.Transfers.{AreStamps, WroteStamps, MayHaveStamps}
use Rattle.block_ops.proofs.Stamping.{took_stamps, torn_stamps, passes_ended, passes_kept}
use Rattle.block_ops.proofs.states.write_block.Goals as goal

pub write_run-wrote-requires-clause-transfer : goal.write_run-wrote-requires-clause-transfer
write_run-wrote-requires-clause-transfer g c =
    let seen = g.A.Pass.Pass.seen in
    let run = c.begun.inside.run in
    let size : ℕ = c.args.store.now.geometry.block_size in
    let is : held_run run ≡ c.args.begun = c.begun.view_is in
    let passes = rw (← is) at c.requires.passes in
    let asked = rw (← is) at c.requires.size in
    let many : length run.entries.items ≡ length (map seen run.passes.items) = omega (arith, length-map run.passes.items seen) in
    rw c.deref_mut.ensures.value
    (run.first.0, size, passes, c.stamp_run.ensures.size ∙ (asked ∙ ap (λ (n : ℕ). n * size) many))

pub returns-in-Ok-clause-written : goal.returns-in-Ok-clause-written
returns-in-Ok-clause-written g c =
    let seen = g.A.Pass.Pass.seen in
    let store = c.args.store.now in
    let begun = c.args.begun in
    let run = c.begun.inside.run in
    let new = c.write_run-wrote.new.passes in
    let bytes = c.stamp_run.new.buf in
    let is : held_run run ≡ begun = c.begun.view_is in
    let entries_are : c.deref.result.now ≡ begun.entries = c.deref.ensures.value ∙ ap (λ (r : HeldRun g.row.A-Pass.Denot). r.entries) is in
    let first_is : run.first.0 ≡ begun.first = ap (λ (r : HeldRun g.row.A-Pass.Denot). r.first) is in
    let passes_are : c.deref_mut.result.now ≡ begun.passes = c.deref_mut.ensures.value ∙ ap (λ (r : HeldRun g.row.A-Pass.Denot). r.passes) is in
    let stamps = subst (λ (es : List Entry). AreStamps store begun.first es (length es) bytes) entries_are (subst (λ (n : ℕ). AreStamps store n c.deref.result.now (length c.deref.result.now) bytes) first_is c.stamp_run.ensures.stamps) in
    let many : length (map seen begun.passes) ≡ length begun.entries = omega (arith, length-map begun.passes seen, ap (λ (ps : List g.row.A-Pass.Denot). length ps) passes_are, ap (λ (es : List Entry). length es) entries_are) in
    let kept : (with_items run.passes new).items ≡ new = with_items_is run.passes new (omega (arith, length-map new seen, length-map c.deref_mut.result.now seen)) in
    let moved = subst (λ (ps : List g.row.A-Pass.Denot). TookParts bytes (map seen ps) (map seen new)) passes_are c.in-Ok.ensures.written in
    let left : WroteStamps store begun.first begun.entries (map seen begun.passes) (map seen new) = took_stamps store begun.first begun.entries bytes (map seen begun.passes) (map seen new) c.requires.passes many stamps moved in
    subst (λ (ps : List g.row.A-Pass.Denot). WroteStamps store begun.first begun.entries (map seen begun.passes) (map seen ps)) (sym kept) left

pub returns-in-Ok-clause-fits : goal.returns-in-Ok-clause-fits
returns-in-Ok-clause-fits g c made same are =
    let seen = g.A.Pass.Pass.seen in
    let store = c.args.store.now in
    let begun = c.args.begun in
    let run = c.begun.inside.run in
    let new = c.write_run-wrote.new.passes in
    let bytes = c.stamp_run.new.buf in
    let is : held_run run ≡ begun = c.begun.view_is in
    let entries_are : c.deref.result.now ≡ begun.entries = c.deref.ensures.value ∙ ap (λ (r : HeldRun g.row.A-Pass.Denot). r.entries) is in
    let first_is : run.first.0 ≡ begun.first = ap (λ (r : HeldRun g.row.A-Pass.Denot). r.first) is in
    let passes_are : c.deref_mut.result.now ≡ begun.passes = c.deref_mut.ensures.value ∙ ap (λ (r : HeldRun g.row.A-Pass.Denot). r.passes) is in
    let stamps = subst (λ (es : List Entry). AreStamps store begun.first es (length es) bytes) entries_are (subst (λ (n : ℕ). AreStamps store n c.deref.result.now (length c.deref.result.now) bytes) first_is c.stamp_run.ensures.stamps) in
    let many : length (map seen begun.passes) ≡ length begun.entries = omega (arith, length-map begun.passes seen, ap (λ (ps : List g.row.A-Pass.Denot). length ps) passes_are, ap (λ (es : List Entry). length es) entries_are) in
    let kept : (with_items run.passes new).items ≡ new = with_items_is run.passes new (omega (arith, length-map new seen, length-map c.deref_mut.result.now seen)) in
    let moved = subst (λ (ps : List g.row.A-Pass.Denot). TookParts bytes (map seen ps) (map seen new)) passes_are c.in-Ok.ensures.written in
    let left : WroteStamps store begun.first begun.entries (map seen begun.passes) (map seen new) = took_stamps store begun.first begun.entries bytes (map seen begun.passes) (map seen new) c.requires.passes many stamps moved in
    let left_there = subst (λ (s : StoreId). WroteStamps s begun.first begun.entries (map seen begun.passes) (map seen new)) (sym same) left in
    let blocks = subst (λ (ps : List g.row.A-Pass.Denot). SameBlocks (map seen ps) (map seen new)) passes_are c.in-Ok.ensures.blocks in
    let begun_each : Each IsBegun begun.entries = subst (Each IsBegun) (ap (λ (r : HeldRun g.row.A-Pass.Denot). r.entries) is) c.begun.invariant.1 in
    subst (ArePassesFor seen made begun.first (map ended begun.entries)) (sym kept) (passes_ended seen made begun.first begun.entries begun.passes new begun_each are blocks left_there)

pub returns-in-Err-clause-torn : goal.returns-in-Err-clause-torn
returns-in-Err-clause-torn g c =
    let seen = g.A.Pass.Pass.seen in
    let store = c.args.store.now in
    let begun = c.args.begun in
    let run = c.begun.inside.run in
    let new = c.write_run-wrote.new.passes in
    let bytes = c.stamp_run.new.buf in
    let is : held_run run ≡ begun = c.begun.view_is in
    let entries_are : c.deref.result.now ≡ begun.entries = c.deref.ensures.value ∙ ap (λ (r : HeldRun g.row.A-Pass.Denot). r.entries) is in
    let first_is : run.first.0 ≡ begun.first = ap (λ (r : HeldRun g.row.A-Pass.Denot). r.first) is in
    let passes_are : c.deref_mut.result.now ≡ begun.passes = c.deref_mut.ensures.value ∙ ap (λ (r : HeldRun g.row.A-Pass.Denot). r.passes) is in
    let stamps = subst (λ (es : List Entry). AreStamps store begun.first es (length es) bytes) entries_are (subst (λ (n : ℕ). AreStamps store n c.deref.result.now (length c.deref.result.now) bytes) first_is c.stamp_run.ensures.stamps) in
    let many : length (map seen begun.passes) ≡ length begun.entries = omega (arith, length-map begun.passes seen, ap (λ (ps : List g.row.A-Pass.Denot). length ps) passes_are, ap (λ (es : List Entry). length es) entries_are) in
    let kept : (with_items run.passes new).items ≡ new = with_items_is run.passes new (omega (arith, length-map new seen, length-map c.deref_mut.result.now seen)) in
    let moved = subst (λ (ps : List g.row.A-Pass.Denot). TornParts bytes (map seen ps) (map seen new)) passes_are c.in-Err.ensures.torn in
    let left : MayHaveStamps store begun.first begun.entries (map seen begun.passes) (map seen new) = torn_stamps store begun.first begun.entries bytes (map seen begun.passes) (map seen new) c.requires.passes many stamps moved in
    subst (λ (ps : List g.row.A-Pass.Denot). MayHaveStamps store begun.first begun.entries (map seen begun.passes) (map seen ps)) (sym kept) left

pub returns-in-Err-clause-fits : goal.returns-in-Err-clause-fits
returns-in-Err-clause-fits g c made same are =
    let seen = g.A.Pass.Pass.seen in
    let store = c.args.store.now in
    let begun = c.args.begun in
    let run = c.begun.inside.run in
    let new = c.write_run-wrote.new.passes in
    let bytes = c.stamp_run.new.buf in
    let is : held_run run ≡ begun = c.begun.view_is in
    let entries_are : c.deref.result.now ≡ begun.entries = c.deref.ensures.value ∙ ap (λ (r : HeldRun g.row.A-Pass.Denot). r.entries) is in
    let first_is : run.first.0 ≡ begun.first = ap (λ (r : HeldRun g.row.A-Pass.Denot). r.first) is in
    let passes_are : c.deref_mut.result.now ≡ begun.passes = c.deref_mut.ensures.value ∙ ap (λ (r : HeldRun g.row.A-Pass.Denot). r.passes) is in
    let stamps = subst (λ (es : List Entry). AreStamps store begun.first es (length es) bytes) entries_are (subst (λ (n : ℕ). AreStamps store n c.deref.result.now (length c.deref.result.now) bytes) first_is c.stamp_run.ensures.stamps) in
    let many : length (map seen begun.passes) ≡ length begun.entries = omega (arith, length-map begun.passes seen, ap (λ (ps : List g.row.A-Pass.Denot). length ps) passes_are, ap (λ (es : List Entry). length es) entries_are) in
    let kept : (with_items run.passes new).items ≡ new = with_items_is run.passes new (omega (arith, length-map new seen, length-map c.deref_mut.result.now seen)) in
    let moved = subst (λ (ps : List g.row.A-Pass.Denot). TornParts bytes (map seen ps) (map seen new)) passes_are c.in-Err.ensures.torn in
    let left : MayHaveStamps store begun.first begun.entries (map seen begun.passes) (map seen new) = torn_stamps store begun.first begun.entries bytes (map seen begun.passes) (map seen new) c.requires.passes many stamps moved in
    let left_there = subst (λ (s : StoreId). MayHaveStamps s begun.first begun.entries (map seen begun.passes) (map seen new)) (sym same) left in
    let blocks = subst (λ (ps : List g.row.A-Pass.Denot). SameBlocks (map seen ps) (map seen new)) passes_are c.in-Err.ensures.blocks in
    let begun_each : Each IsBegun begun.entries = subst (Each IsBegun) (ap (λ (r : HeldRun g.row.A-Pass.Denot). r.entries) is) c.begun.invariant.1 in
    subst (ArePassesFor seen made begun.first begun.entries) (sym kept) (passes_kept seen made begun.first begun.entries begun.passes new begun_each are blocks left_there)
