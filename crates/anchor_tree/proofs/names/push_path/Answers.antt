-- The answers of `push_path`.
use Rattle.std.proofs.Common.{ℕ, ◌+◌, ◌-◌, ◌/◌, ◌%◌, ◌≤◌, List, ◌++◌, ap, ◌∙◌, arith}
use Rattle.std.proofs.Math.Nat.{one-le-pow, pow-le-pow_right}
use Rattle.std.specs.String.{string_bytes}
use Rattle.anchor_tree.proofs.Paths.{path_more}
use Rattle.anchor_tree.proofs.names.push_path.Goals as goal

pub pow-requires : goal.pow-requires
pow-requires c =
    let few : c.args.place.level - (c.loop-level.level + 1) ≤ c.args.place.level = omega arith in
    omega (arith, pow-le-pow_right c.requires.width few, c.requires.few)

pub nonzero_div-digit : goal.nonzero_div-digit
nonzero_div-digit c = omega (arith, one-le-pow (c.args.place.level - (c.loop-level.level + 1)) c.args.width c.requires.width, c.pow.ensures)

pub loop-level-preserved : goal.loop-level-preserved
loop-level-preserved c =
    path_more c.args.width c.args.place.level c.args.place.index c.loop-level.level (c.args.place.index / c.pow.result % c.args.width) c.args.name.now c.loop-level.name (string_bytes c.in_ok-text.text) c.push.new.self
    c.loop-level.invariant (ap (λ (n : ℕ). c.args.place.index / n % c.args.width) c.pow.ensures) c.in_ok-text.ensures (c.in_ok-push.ensures.ok ∙ ap (λ (t : List ℕ). c.loop-level.name ++ t) c.as_str.ensures.value)
