use Rattle.std.proofs.Common.{◌≡◌, ◌≤◌, arith, subst, All, List}
use Rattle.std.proofs.lemmas.List.{take_all}
use Rattle.plan_types.specs.declared.run.Share.{Share}
use Rattle.master_run.proofs.Fitting.{greatest_more}
use Rattle.master_run.proofs.post.greatest_transfer.Goals as goal
use Rattle.master_run.proofs.post.greatest_transfer.Goals.{then-share-store+then-share-greatest, else-share-store, else-share-store-via-then-share-store+else-share-greatest, else-share-store-via-else-share-store}

pub loop-share-preserved : goal.loop-share-preserved
loop-share-preserved c =
    let more = greatest_more c.args.shares.now c.loop-share.share-index c.share-item.result c.args.store c.loop-share.greatest c.if-share-store.greatest c.loop-share-test.true c.share-item.is c.loop-share.invariant in
    elim c.if-share-store.branch [
      | then-share-store+then-share-greatest w ↦ more (omega (arith, w.greatest-is, w.if-share-greatest.true)) (λ is. omega (arith, w.greatest-is))
      | else-share-store w ↦ elim w.else-share-store.branch [
        | else-share-store-via-then-share-store+else-share-greatest v ↦ more (omega (arith, w.greatest-is)) (λ is. omega (arith, w.greatest-is, v.if-share-greatest.false))
        | else-share-store-via-else-share-store v ↦ more (omega (arith, w.greatest-is)) (λ is. absurd (v.if-share-store.false is))
      ]
    ]

pub returns : goal.returns
returns c = subst (λ (l : List Share). All (λ (share : Share). share.store ≡ c.args.store → share.xfersize ≤ c.loop-share.greatest) l) (take_all c.loop-share.share-index c.args.shares.now (omega (arith, c.loop-share-test.false))) c.loop-share.invariant
