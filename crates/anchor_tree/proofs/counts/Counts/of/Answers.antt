-- The answers of `Counts::of`.
use Rattle.std.proofs.Common.{ℕ, ◌^◌, ◌*◌, ◌∙◌, ap, arith}
use Rattle.anchor_tree.specs.Limits.{held}
use Rattle.anchor_tree.specs.Shape.{directories_to}
use Rattle.anchor_tree.proofs.Held.{behind_levels, held_bottom, held_directories, one_level_more, single_bottom, single_directories}
use Rattle.anchor_tree.proofs.counts.Counts.of.Goals as goal

pub returns-then-width-eq1-clause-directories : goal.returns-then-width-eq1-clause-directories
returns-then-width-eq1-clause-directories c = c.from.ensures ∙ single_directories c.args.width c.args.depth c.if-width-eq1.true (omega (arith, c.ranges.depth))

pub returns-then-width-eq1-clause-bottom : goal.returns-then-width-eq1-clause-bottom
returns-then-width-eq1-clause-bottom c = single_bottom c.args.width c.args.depth c.if-width-eq1.true

pub loop-level-preserved : goal.loop-level-preserved
loop-level-preserved c =
    let more = one_level_more c.args.width c.loop-level._level c.loop-level.bottom c.loop-level.directories c.saturating_mul-bottom.result c.saturating_add-directories.result
    c.requires.width c.loop-level.invariant.directories c.loop-level.invariant.bottom
    (c.saturating_mul-bottom.ensures ∙ ap (λ (n : ℕ). held (c.loop-level.bottom * n)) c.from-in-loop-level.ensures) c.saturating_add-directories.ensures in
    record { directories = more.0; bottom = more.1 }

pub returns-clause-directories : goal.returns-clause-directories
returns-clause-directories c =
    behind_levels (directories_to c.args.width) c.args.depth c.min-level-end.result c.loop-level._level c.loop-level.directories
    (λ deep. held_directories c.args.width c.args.depth (omega (arith, c.requires.width, c.if-width-eq1.false)) deep)
    c.min-level-end.ensures (omega (arith, c.loop-level.auto._level-end)) (omega (arith, c.loop-level-test.false)) c.loop-level.invariant.directories

pub returns-clause-bottom : goal.returns-clause-bottom
returns-clause-bottom c =
    behind_levels (λ l. c.args.width ^ l) c.args.depth c.min-level-end.result c.loop-level._level c.loop-level.bottom
    (λ deep. held_bottom c.args.width c.args.depth (omega (arith, c.requires.width, c.if-width-eq1.false)) deep)
    c.min-level-end.ensures (omega (arith, c.loop-level.auto._level-end)) (omega (arith, c.loop-level-test.false)) c.loop-level.invariant.bottom
