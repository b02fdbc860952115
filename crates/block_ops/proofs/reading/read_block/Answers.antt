use Rattle.std.proofs.Common.{◌≡◌, ◌*◌, ◌∙◌, ℕ, length, map, ap, subst, arith, List}
use Rattle.std.proofs.lemmas.List.{length-map}
use Rattle.key_state.specs.declared.entry.Entry.{Entry}
use Rattle.block_ops.specs.Transfers.{AreSound}
use Rattle.block_ops.proofs.Judging.{none_corrupt}
use Rattle.block_ops.proofs.reading.read_block.Goals as goal

pub read_run-requires-clause-transfer : goal.read_run-requires-clause-transfer
read_run-requires-clause-transfer g c =
    let seen = g.A.Pass.Pass.seen in
    let held = c.args.held.now in
    let many : length held.entries.items ≡ length (map seen held.passes.items) = omega (arith, length-map held.passes.items seen) in
    rw c.deref_mut.ensures.value
    (held.first.0, c.args.store.now.geometry.block_size, c.requires.passes, c.requires.size ∙ ap (λ (n : ℕ). n * c.args.store.now.geometry.block_size) many)

pub returns-in-Ok-clause-told : goal.returns-in-Ok-clause-told
returns-in-Ok-clause-told g c = rw c.deref_mut.ensures.value at c.in-Ok.ensures.gives

pub returns-in-Ok-clause-clean : goal.returns-in-Ok-clause-clean
returns-in-Ok-clause-clean g c made same fitted are =
    let store = c.args.store.now in
    let held = c.args.held.now in
    let told = rw c.deref_mut.ensures.value at c.in-Ok.ensures.gives in
    let sound = subst (λ (es : List Entry). AreSound store held.first.0 es c.read_run.new.out c.judge_run.new.verdicts) c.deref.ensures.value c.judge_run.ensures.sound in
    none_corrupt g.A.Pass.Pass.seen made store held.first.0 held.entries.items held.passes.items c.read_run.new.out c.judge_run.new.verdicts same fitted are told sound
