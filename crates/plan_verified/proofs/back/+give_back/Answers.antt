use Rattle.std.proofs.Common.{◌≡◌, ◌+◌, length, rules}
use Rattle.plan_verified.specs.Stores.{store_seen}
use Rattle.plan_verified.proofs.Returning.{all_back, back_as_opened, front_and_last, last_is_out, others_out}
use Rattle.plan_verified.proofs.back.+give_back.Goals as goal

pub keep_passes-requires : goal.keep_passes-requires
keep_passes-requires g t c =
    let many : length c.args.stores.now ≡ c.len-many.result + 1 = search rules in
    last_is_out _ _ c.index-stores-many.result _ (front_and_last c.args.stores.now c.len-many.result c.index-stores-many.result c.index-stores-many.is many) c.requires.out

pub give_back-requires-clause-out : goal.give_back-requires-clause-out
give_back-requires-clause-out g t c κs within =
    let many : length c.args.stores.now ≡ c.len-many.result + 1 = search rules in
    others_out _ _ _ _ c.index-stores-many.result (front_and_last c.args.stores.now c.len-many.result c.index-stores-many.result c.index-stores-many.is many) c.requires.out c.keep_passes.ensures.back

pub returns-clause-back : goal.returns-clause-back
returns-clause-back g t c =
    let many : length c.args.stores.now ≡ c.len-many.result + 1 = search rules in
    all_back (store_seen g.Y.Arm.Pass.Pass.seen) _ _ _ _ _ c.index-stores-many.result _ _ c.in-Some.last (front_and_last c.args.stores.now c.len-many.result c.index-stores-many.result c.index-stores-many.is many) c.in-Some.ensures.items c.requires.one_each c.keep_passes.ensures.back c.keep_passes.ensures.counts c.keep_passes.ensures.disks c.keep_passes.ensures.contents c.give_back.ensures.back

pub returns-clause-same : goal.returns-clause-same
returns-clause-same g t c = λ apart theirs. back_as_opened _ _ _ _ (returns-clause-back g t c) apart theirs
