-- The answers of `blocks_are_places`.
use Rattle.std.proofs.Common.{◌≡◌, ℕ, ◌+◌, ◌<◌, sym, subst, arith, inl, inr}
use Rattle.std.proofs.lemmas.Bool.{cases_order}
use Rattle.anchor_tree.specs.Shape.{Shape, files_of}
use Rattle.anchor_tree.specs.Blocks.{IsBlock, blocks_before}
use Rattle.anchor_tree.proofs.Cycles.{found, place_before}
use Rattle.anchor_tree.proofs.laws.blocks_are_places.Goals as goal

pub returns-clause-each : goal.returns-clause-each
returns-clause-each c = λ tree block_size block below.
    let at = found tree.hundred block_size (files_of tree) block below in
    (at.0, at.1, record { in_tree = at.2; in_file = at.3; number = at.4 })

pub returns-clause-inside : goal.returns-clause-inside
returns-clause-inside c = λ tree block_size file place block is.
    omega (arith, is.number, place_before tree.hundred block_size file place (files_of tree) is.in_file is.in_tree)

in_order : (tree : Shape) (block_size file place block : ℕ) (other at later : ℕ) → IsBlock tree block_size file place block → IsBlock tree block_size other at later → file < other → block < later
in_order tree block_size file place block other at later is there first =
    omega (arith, is.number, there.number, place_before tree.hundred block_size file place other is.in_file first)

pub returns-clause-in_order : goal.returns-clause-in_order
returns-clause-in_order c = in_order

same_file : (tree : Shape) (block_size file place block other at : ℕ) → IsBlock tree block_size file place block → IsBlock tree block_size other at block → file ≡ other
same_file tree block_size file place block other at is there = elim (cases_order file other) [
  | inl same ↦ same
  | inr apart ↦ elim apart [
    | inl first ↦ absurd (omega (arith, in_order tree block_size file place block other at block is there first))
    | inr first ↦ absurd (omega (arith, in_order tree block_size other at block file place block there is first))
  ]
]

pub returns-clause-one : goal.returns-clause-one
returns-clause-one c = λ tree block_size file place block other at is there.
    let same : file ≡ other = same_file tree block_size file place block other at is there in
    let moved : block ≡ blocks_before tree.hundred block_size file + at = subst (λ (n : ℕ). block ≡ blocks_before tree.hundred block_size n + at) (sym same) there.number in
    (same, omega (arith, is.number, moved))
