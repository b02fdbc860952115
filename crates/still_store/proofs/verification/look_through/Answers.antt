use Rattle.std.proofs.Common.{◌∙◌, List, ap, map, subst}
use Rattle.vd_yard.specs.Yard.{Tells}
use Rattle.vd_yard.specs.Out.{AtArm}
use Rattle.recover_run.specs.Looks.{AreLooks}
use Rattle.still_store.specs.Verification.{begun, stops_calling, stops_reading}
use Rattle.still_store.proofs.Contents.{blocks_stay, told_before}
use Rattle.still_store.proofs.Frames.{counts_rose, front_rose, leaves_by}
use Rattle.still_store.proofs.verification.look_through.Goals as goal

pub returns-in-Ok-answer-clause-looks : goal.returns-in-Ok-answer-clause-looks
returns-in-Ok-answer-clause-looks g c =
    let p = c.in-Ok-answer.ensures.looks in
    let looked = subst (λ (ps : List _). AreLooks c.args.store.now.id c.args.entries.now (map g.Y.Arm.Pass.Pass.seen ps) p.0) c.as_slice.ensures.value p.1 in (
      p.0,
      leaves_by _ _ _ c.args.store.now c.args.entries.now _ p.0 _ _ _ (c.arm.ensures.opens.counts ∙ c.passes.ensures.opens.counts) c.keep_arm.ensures.counts c.in-Ok-arm.ensures.fresh c.in-Ok-arm.ensures.none_read
          (c.in-Ok-arm.ensures.sure ∙ ap (λ (t : Tells). t.sure AtArm c.args.store.now.path) c.passes.ensures.opens.tells)
          (record { blocks = c.in-Ok.ensures.blocks; told = c.in-Ok.ensures.told })
          looked p.2 p.3,
      p.4,
      p.5,
    )

pub returns-in-Ok-answer-clause-stops : goal.returns-in-Ok-answer-clause-stops
returns-in-Ok-answer-clause-stops g c = λ failed. elim (c.verify_through-answer.ensures.stops failed) [
  | stops_calling n looks looked called ends ↦ stops_reading n (map g.Y.Arm.Pass.Pass.seen c.as_slice.result.now) looks
      (rw c.as_slice.ensures.value (record { blocks = c.in-Ok.ensures.blocks; told = c.in-Ok.ensures.told }))
      looked
      (counts_rose _ _ _ _ _ _ _ (c.arm.ensures.opens.counts ∙ c.passes.ensures.opens.counts) c.keep_arm.ensures.counts c.in-Ok-arm.ensures.fresh c.in-Ok-arm.ensures.none_read
      (c.in-Ok-arm.ensures.sure ∙ ap (λ (t : Tells). t.sure AtArm c.args.store.now.path) c.passes.ensures.opens.tells)
      called)
      ends
]

pub returns-in-Err-answer-clause-blocks : goal.returns-in-Err-answer-clause-blocks
returns-in-Err-answer-clause-blocks g c =
    blocks_stay c.args.store.now _ _ _ _ _ (c.keep_arm.ensures.contents ∙ (c.arm.ensures.opens.contents ∙ c.passes.ensures.opens.contents)) c.keep_passes.ensures.contents c.in-Ok.ensures.blocks
    (λ t. c.in-Ok.ensures.told (told_before _ _ (c.keep_arm.ensures.back.tells ∙ (c.arm.ensures.opens.tells ∙ c.passes.ensures.opens.tells)) t))

pub returns-in-Err-answer-clause-front : goal.returns-in-Err-answer-clause-front
returns-in-Err-answer-clause-front g c =
    let p = c.in-Err-answer.ensures.front in
    begun p.0 (map g.Y.Arm.Pass.Pass.seen c.as_slice.result.now) p.1 (rw c.as_slice.ensures.value (record { blocks = c.in-Ok.ensures.blocks; told = c.in-Ok.ensures.told })) p.2
    (front_rose _ _ _ _ _ _ _ _ _ (c.arm.ensures.opens.counts ∙ c.passes.ensures.opens.counts) (c.keep_passes.ensures.counts ∙ c.keep_arm.ensures.counts) c.in-Ok-arm.ensures.fresh p.3) p.4

pub returns-in-Err-answer-clause-stops : goal.returns-in-Err-answer-clause-stops
returns-in-Err-answer-clause-stops g c = λ failed. elim (c.verify_through-answer.ensures.stops failed) [
  | stops_calling n looks looked called ends ↦ stops_reading n (map g.Y.Arm.Pass.Pass.seen c.as_slice.result.now) looks
      (rw c.as_slice.ensures.value (record { blocks = c.in-Ok.ensures.blocks; told = c.in-Ok.ensures.told }))
      looked
      (counts_rose _ _ _ _ _ _ _ (c.arm.ensures.opens.counts ∙ c.passes.ensures.opens.counts) (c.keep_passes.ensures.counts ∙ c.keep_arm.ensures.counts) c.in-Ok-arm.ensures.fresh c.in-Ok-arm.ensures.none_read
      (c.in-Ok-arm.ensures.sure ∙ ap (λ (t : Tells). t.sure AtArm c.args.store.now.path) c.passes.ensures.opens.tells)
      called)
      ends
]

pub returns-in-Failed-clause-blocks : goal.returns-in-Failed-clause-blocks
returns-in-Failed-clause-blocks g c =
    blocks_stay c.args.store.now _ _ _ _ _ (c.arm.ensures.opens.contents ∙ c.passes.ensures.opens.contents) c.keep_passes-in-Err.ensures.contents c.in-Ok.ensures.blocks
    (λ t. c.in-Ok.ensures.told (told_before _ _ (c.arm.ensures.opens.tells ∙ c.passes.ensures.opens.tells) t))

pub returns-in-NoMemory-clause-blocks : goal.returns-in-NoMemory-clause-blocks
returns-in-NoMemory-clause-blocks g c =
    blocks_stay c.args.store.now _ _ _ _ _ (c.arm.ensures.opens.contents ∙ c.passes.ensures.opens.contents) c.keep_passes-in-Err.ensures.contents c.in-Ok.ensures.blocks
    (λ t. c.in-Ok.ensures.told (told_before _ _ (c.arm.ensures.opens.tells ∙ c.passes.ensures.opens.tells) t))
