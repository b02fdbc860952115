use Rattle.std.proofs.Common.{◌≡◌, ◌∙◌, ap}
use Rattle.block_ops.specs.Runs.{HeldRun}
use Rattle.slave_worker.proofs.Lookings.{passes_of, in_blocks, corrupt_found, none_counted}
use Rattle.slave_worker.proofs.device.look.Goals as goal

pub read_block-answer-requires-clause-passes : goal.read_block-answer-requires-clause-passes
read_block-answer-requires-clause-passes g c κs within =
    let held = c.args.held.now in
    let has = c.requires.has in
    passes_of g.A.Pass.Pass.seen has.0.made c.args.store.now held.first.0 held.entries.items held.passes.items has.1.store has.1.passes

pub returns-in-Ok-clause-found : goal.returns-in-Ok-clause-found
returns-in-Ok-clause-found g c =
    let store = c.args.store.now in
    let held = c.args.held.now in
    let verdicts = c.read_block-answer.new.verdicts in
    corrupt_found store held.first.0 held.entries.items verdicts c.requires.live
    (in_blocks store held.first.0 held.entries.items c.read_block-answer.new.buf verdicts c.in-Ok.ensures.verdicts)

pub returns-in-Ok-clause-clean : goal.returns-in-Ok-clause-clean
returns-in-Ok-clause-clean g c view has fitted =
    let held = c.args.held.now in
    let first = held.first.0 in
    let verdicts = c.read_block-answer.new.verdicts in
    let entries_are : c.deref.result.now ≡ held.entries.items = c.deref.ensures.value ∙ ap (λ (r : HeldRun g.row.A-Pass.Denot). r.entries) c.read_block-answer.ensures.same in
    none_counted c.count_corrupt.result first held.entries.items c.deref.result.now verdicts (c.count_corrupt.ensures first) entries_are (c.in-Ok.ensures.clean view.made has.store fitted has.passes)
