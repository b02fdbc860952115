use Rattle.std.proofs.Common.{◌≡◌, List, take, get_or, [], arith, subst}
use Rattle.std.proofs.lemmas.List.{take_more, take_all}
use Rattle.vd_disk.specs.declared.memory.Step.{Step}
use Rattle.vd_disk.specs.Disk.{present}
use Rattle.vd_disk.specs.Step.{HasRow, now_after, tables_from}
use Rattle.vd_disk.specs.Tale.{row_of_more, some_held}
use Rattle.vd_disk.proofs.memory.held_at.Goals as goal

pub loop-step-init : goal.loop-step-init
loop-step-init c = c.in_ok-row.ensures

pub loop-step-preserved : goal.loop-step-preserved
loop-step-preserved c =
    row_of_more c.args.place c.args.first.now (take c.loop-step.step-index c.args.steps.now) _ _ _ _ _ (take_more c.args.steps.now c.loop-step.step-index _ (omega arith)) (c.in_ok-step.ensures _ _ c.loop-step.invariant)

pub returns-clause-row : goal.returns-clause-row
returns-clause-row c =
    let all : take c.loop-step.step-index c.args.steps.now ≡ c.args.steps.now = take_all c.loop-step.step-index c.args.steps.now c.loop-step-test.false in
    subst (λ (l : List Step). c.loop-step.row.held.items ≡ get_or (present (tables_from c.args.first.now l)) c.args.place []) all c.loop-step.invariant.held_is

pub returns-clause-some : goal.returns-clause-some
returns-clause-some c =
    let all : take c.loop-step.step-index c.args.steps.now ≡ c.args.steps.now = take_all c.loop-step.step-index c.args.steps.now c.loop-step-test.false in
    some_held c.args.place c.args.first.now c.args.steps.now _ _ _
    (subst (λ (l : List Step). HasRow c.args.place (present (tables_from c.args.first.now l)) (now_after c.args.first.now l) c.loop-step.row.held.items c.loop-step.row.current c.loop-step.row.end) all c.loop-step.invariant)
    c.requires.within
