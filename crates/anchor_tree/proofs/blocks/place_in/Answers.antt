-- The answers of `place_in`.
use Rattle.std.proofs.Common.{ℕ, ◌/◌, arith}
use Rattle.std.proofs.lemmas.List.Sums.{sum_by_more_le}
use Rattle.anchor_tree.proofs.blocks.place_in.Goals as goal

pub overflow_add-before : goal.overflow_add-before
overflow_add-before c =
    omega (arith, sum_by_more_le (λ (size : ℕ). size / c.args.block_size) c.args.sizes.now c.loop-file.file 0 c.loop-file-test.true, c.loop-file.invariant.0, c.from-more.ensures, c.requires.fits)
