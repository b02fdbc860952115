use Rattle.std.proofs.Common.{◌≡◌, ◌≤◌, [], All, drop, length}
use Rattle.plan_types.specs.Valid.{IsStore, blocks_of}
use Rattle.run_plan.specs.Outcomes.{in_turn}
use Rattle.run_plan.specs.Sizes.{store_at}
use Rattle.run_plan.proofs.sizes.stores_of.Given as goal

abbrev pub invariant-loop-d : goal.invariant-loop-d
invariant-loop-d l = record {
  value : in_turn (store_at l.drafts) [] l.sds ≡ in_turn (store_at l.drafts) l.stores.items (drop l.d-index l.sds);
  blocks : l.blocks ≡ blocks_of l.stores.items;
  few_blocks : l.blocks ≤ 16777216;
  many : length l.stores.items ≡ l.d-index;
  stores : All IsStore l.stores.items;
}
