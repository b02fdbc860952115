use Rattle.std.proofs.Common.{◌∷◌, [], ap, length, sym, ◌∙◌, arith}
use Rattle.std.proofs.lemmas.List.{length-append}
use Rattle.std.proofs.lemmas.List.Elements.{All-push, All-same}
use Rattle.plan_types.specs.Valid.{IsStore, blocks_of}
use Rattle.run_plan.specs.Outcomes.{in_turn}
use Rattle.run_plan.specs.Sizes.{store_at}
use Rattle.run_plan.proofs.Steps.{blocks_more, one_kept}
use Rattle.run_plan.proofs.sizes.stores_of.Goals as goal

pub loop-d-preserved : goal.loop-d-preserved
loop-d-preserved c =
    let before = c.loop-d.stores.items in
    let store = c.in_ok-store.store in
    let added = c.in_ok-push.ensures.items in
    record {
      value =
          one_kept (store_at c.args.drafts.now) (in_turn (store_at c.args.drafts.now) [] c.args.sds.now) c.args.sds.now c.loop-d.d-index c.d-item.result before _ store
          c.loop-d-test.true c.d-item.is c.loop-d.invariant.value
          (ap (λ ss. store_at c.args.drafts.now ss c.d-item.result) (sym c.as_slice.ensures.value) ∙ c.in_ok-store.ensures.given) added;
      blocks = omega (arith, c.loop-d.invariant.blocks, c.blocks-in-loop-d.ensures.value, ap blocks_of added, blocks_more before store);
      few_blocks = omega (arith, c.in_ok-store.ensures.few_now, c.blocks-in-loop-d.ensures.value);
      many = omega (arith, ap length added, length-append before (store ∷ []), c.loop-d.invariant.many);
      stores = All-same IsStore _ _ added (All-push IsStore before store c.loop-d.invariant.stores c.in_ok-store.ensures.valid);
    }
