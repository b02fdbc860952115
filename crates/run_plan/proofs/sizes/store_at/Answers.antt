use Rattle.std.proofs.Common.{◌∙◌}
use Rattle.std.proofs.lemmas.List.Elements.{All-same}
use Rattle.parm_records.specs.Ranges.{IsBlockSize}
use Rattle.run_plan.proofs.BlockSizes.{transfers_are}
use Rattle.run_plan.proofs.sizes.store_at.Goals as goal

pub block_size_of-block_size-requires-clause-transfers : goal.block_size_of-block_size-requires-clause-transfers
block_size_of-block_size-requires-clause-transfers c =
    All-same IsBlockSize _ _ (c.as_slice.ensures.value ∙ c.in_ok-transfers.ensures) (transfers_are _ c.args.drafts.now c.requires.drafts)
