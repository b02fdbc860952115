use Rattle.still_store.proofs.Contents.{blocks_stay, told_before}
use Rattle.still_store.proofs.Frames.{stops_along}
use Rattle.still_store.proofs.verification.verify_store.Goals as goal

pub returns-clause-blocks : goal.returns-clause-blocks
returns-clause-blocks g c =
    let theirs = c.in_ok-looked.ensures.looks.1.theirs in
    blocks_stay c.args.store.now _ _ _ _ _ c.in_ok-looked.ensures.contents c.keep_passes.ensures.contents theirs.blocks (λ t. theirs.told (told_before _ _ c.in_ok-looked.ensures.stays.tells t))

pub returns-clause-stops : goal.returns-clause-stops
returns-clause-stops g c = λ failed. stops_along _ _ _ _ _ _ _ c.keep_passes.ensures.counts (c.in_ok-looked.ensures.stops failed)
