-- The answers of `store_shares`.
use Rattle.std.proofs.Common.{◌≡◌, ◌++◌, ◌∷◌, [], List, length, take, get_or, arith, ap, sym, ◌∙◌}
use Rattle.std.proofs.lemmas.List.{length_push}
use Rattle.plan_types.specs.declared.run.Share.{Share}
use Rattle.workload_gen.specs.declared.task.StoreShare.{StoreShare}
use Rattle.workload_gen.specs.Task.{shares_of, store_share}
use Rattle.workload_gen.proofs.Kept.{shares_more_other, shares_more_own}
use Rattle.workload_gen.proofs.task.store_shares.Goals as goal
use Rattle.workload_gen.proofs.task.store_shares.Goals.{then-share-store+in_ok-push, else-share-store}

pub loop-place-preserved : goal.loop-place-preserved
loop-place-preserved c =
    let xs = c.args.shares.now in
    let at = c.loop-place.place in
    let here = c.index-shares-place.result in
    elim c.if-share-store.branch [
      | then-share-store+in_ok-push w ↦
          let items : c.if-share-store.found.items ≡ c.loop-place.found.items ++ store_share c.args.block_size (at, here) ∷ [] = ap (λ found. found.items) w.found-is ∙ w.in_ok-push.ensures.items in
          let of : (get_or xs at here).store ≡ c.args.store = ap (λ (share : Share). share.store) (sym c.index-shares-place.is) ∙ w.if-share-store.true in
          let own = shares_more_own c.args.block_size c.args.store xs at here c.loop-place-test.true of in
          let so_far = ap (λ (found : List StoreShare). found ++ store_share c.args.block_size (at, here) ∷ []) c.loop-place.invariant.0 in
          let same = ap (λ (share : Share). shares_of c.args.block_size c.args.store (take at xs) ++ store_share c.args.block_size (at, share) ∷ []) c.index-shares-place.is in
          let more = length_push c.loop-place.found.items (store_share c.args.block_size (at, here)) in
          (items ∙ so_far ∙ same ∙ sym own, omega (arith, more, ap length items))
      | else-share-store w ↦
          let items : c.if-share-store.found.items ≡ c.loop-place.found.items = ap (λ found. found.items) w.found-is in
          let not_of : (get_or xs at here).store ≡ c.args.store → ⊥ = λ is. w.if-share-store.false (ap (λ (share : Share). share.store) c.index-shares-place.is ∙ is) in
          let other = shares_more_other c.args.block_size c.args.store xs at here c.loop-place-test.true not_of in
          (items ∙ c.loop-place.invariant.0 ∙ sym other, omega (arith, ap length items))
    ]
