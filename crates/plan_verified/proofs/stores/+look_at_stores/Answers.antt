use Rattle.std.proofs.Common.{◌∙◌, ◌++◌, ◌∷◌, List, [], map, refl, sym, ap, inl, inr, subst}
use Rattle.run_report.specs.Says.{says_none}
use Rattle.run_report.specs.declared.status.Status.TheVariants as status
use Rattle.still_plan.specs.Frame.{AreApart}
use Rattle.vd_yard.specs.Counts.{Counts, source_faults}
use Rattle.still_plan.specs.Stores.{all_looks, not_begun}
use Rattle.still_plan.proofs.Frames.{apart_rest}
use Rattle.still_plan.proofs.Places.{empty_list, first_and_rest}
use Rattle.still_plan.proofs.Verifications.{elsewhere_with, first_not, last_not, left_by, left_same, looks_one_of, said_none, said_stop, stays_alone}
use Rattle.plan_verified.specs.Stores.{passes_of, store_seen}
use Rattle.plan_verified.proofs.Ending.{back_stays, contents_behind, elsewhere_back, is_a_stop, kept_popped, popped, said_behind, stays_then}
use Rattle.plan_verified.proofs.Leaving.{end_of_left, more_left, none_left}
use Rattle.plan_verified.proofs.Outs.{still_out, taken_back, taken_then}
use Rattle.plan_verified.proofs.stores.+look_at_stores.Goals as goal

pub returns-in_default-clause-leaves : goal.returns-in_default-clause-leaves
returns-in_default-clause-leaves g t c = none_left (store_seen g.Y.Arm.Pass.Pass.seen) _ _ _ _ _ (empty_list _ c.in_default.len_below) c.requires.fit

pub returns-in_default-clause-said : goal.returns-in_default-clause-said
returns-in_default-clause-said g t c = said_none _ _ _ _ (empty_list _ c.in_default.len_below) c.requires.fit

pub returns-then-printer-clause-said : goal.returns-then-printer-clause-said
returns-then-printer-clause-said g t c =
    said_stop _ _ _ _ c.store-item.result c.journal-item.result _ _ _ _ _ (first_and_rest _ _ c.store-item.is c.in-len1-up.len_at_least) (first_and_rest _ _ c.journal-item.is c.in-len1-up-found.len_at_least) (λ path other. left_same _ path) ([], says_none _, not_begun refl (inr refl))

pub look_at_stores-requires-clause-apart : goal.look_at_stores-requires-clause-apart
look_at_stores-requires-clause-apart g t c κs within = apart_rest _ _ (subst AreApart (first_and_rest _ _ c.store-item.is c.in-len1-up.len_at_least) c.requires.apart)

pub returns-in-Err-clause-contents : goal.returns-in-Err-clause-contents
returns-in-Err-clause-contents g t c = stays_alone _ _ _ _ _ (first_and_rest _ _ c.store-item.is c.in-len1-up.len_at_least) c.requires.apart c.look_at_one.ensures.blocks

pub returns-in-Err-clause-said : goal.returns-in-Err-clause-said
returns-in-Err-clause-said g t c =
    said_stop _ _ _ _ c.store-item.result c.journal-item.result _ _ _ _ _ (first_and_rest _ _ c.store-item.is c.in-len1-up.len_at_least) (first_and_rest _ _ c.journal-item.is c.in-len1-up-found.len_at_least) (left_by _ _ _ c.look_at_one.ensures.blocks c.look_at_one.ensures.elsewhere) c.in-Err.ensures.stops

pub returns-in-Err-clause-stops : goal.returns-in-Err-clause-stops
returns-in-Err-clause-stops g t c = is_a_stop _ _ _ _ _ _ _ c.in-Err.ensures.stops

pub returns-in_default-reserve-clause-said : goal.returns-in_default-reserve-clause-said
returns-in_default-reserve-clause-said g t c =
    said_stop _ _ _ _ c.store-item.result c.journal-item.result _ _ _ _ _ (first_and_rest _ _ c.store-item.is c.in-len1-up.len_at_least) (first_and_rest _ _ c.journal-item.is c.in-len1-up-found.len_at_least) (λ path other. left_same _ path) ([], says_none _, not_begun refl (inl refl))

pub keep_passes-requires : goal.keep_passes-requires
keep_passes-requires g t c =
    still_out _ _ _ _ c.in-Ok-look_at_one.ensures.taken c.in-Err-look_at_stores.ensures.not_taken

pub returns-in-Ok-look_at_stores-clause-stays : goal.returns-in-Ok-look_at_stores-clause-stays
returns-in-Ok-look_at_stores-clause-stays g t c =
    stays_then _ _ _ c.look_at_one.ensures.stays c.look_at_stores.ensures.stays

pub returns-in-Ok-look_at_stores-clause-taken : goal.returns-in-Ok-look_at_stores-clause-taken
returns-in-Ok-look_at_stores-clause-taken g t c =
    taken_then _ _ _ _ _ _ (first_and_rest _ _ c.store-item.is c.in-len1-up.len_at_least) c.in-Ok-look_at_one.ensures.taken c.in-Ok-look_at_stores.ensures.taken

pub returns-in-Ok-look_at_stores-clause-sources : goal.returns-in-Ok-look_at_stores-clause-sources
returns-in-Ok-look_at_stores-clause-sources g t c =
    λ q. c.look_at_stores.ensures.sources q ∙ c.look_at_one.ensures.sources q

pub returns-in-Ok-look_at_stores-clause-elsewhere : goal.returns-in-Ok-look_at_stores-clause-elsewhere
returns-in-Ok-look_at_stores-clause-elsewhere g t c =
    elsewhere_with _ _ _ _ _ _ (first_and_rest _ _ c.store-item.is c.in-len1-up.len_at_least) c.look_at_one.ensures.elsewhere c.look_at_stores.ensures.elsewhere

pub returns-in-Ok-look_at_stores-clause-leaves : goal.returns-in-Ok-look_at_stores-clause-leaves
returns-in-Ok-look_at_stores-clause-leaves g t c =
    more_left (store_seen g.Y.Arm.Pass.Pass.seen) _ _ _ _ _ c.store-item.result c.journal-item.result _ _ c.in-Ok-look_at_one.one.store _ _ _ _ _ _ _ _ _ (first_and_rest _ _ c.store-item.is c.in-len1-up.len_at_least) (first_and_rest _ _ c.journal-item.is c.in-len1-up-found.len_at_least) c.requires.apart c.look_at_one.ensures.stays.tells c.look_at_one.ensures.blocks c.look_at_one.ensures.elsewhere c.look_at_stores.ensures.elsewhere c.worse.ensures
    (c.push_reserved.ensures.items ∙ ap (λ (l : List _). l ++ c.in-Ok-look_at_one.one.store ∷ []) c.in-Ok.ensures.items) c.in-Ok-look_at_one.ensures.leaves c.in-Ok-look_at_stores.ensures.leaves

pub returns-in-Ok-look_at_stores-clause-said : goal.returns-in-Ok-look_at_stores-clause-said
returns-in-Ok-look_at_stores-clause-said g t c =
    end_of_left (store_seen g.Y.Arm.Pass.Pass.seen) _ _ _ _ _ _ _ _ _ (returns-in-Ok-look_at_stores-clause-leaves g t c)

pub returns-in-Ok-look_at_stores-clause-arms_quiet : goal.returns-in-Ok-look_at_stores-clause-arms_quiet
returns-in-Ok-look_at_stores-clause-arms_quiet g t c nd q =
    let u = returns-in-Ok-look_at_stores-clause-leaves g t c in
    c.in-Ok-look_at_stores.ensures.arms_quiet (last_not _ _ _ status.Device c.worse.ensures refl nd) q
    ∙ c.in-Ok-look_at_one.ensures.arms_quiet
    (first_not _ _ _ _ _ _ _ _ _ c.worse.ensures c.in-Ok-look_at_stores.ensures.said nd (λ e. looks_one_of (all_looks u.0) status.Yard (sym u.4 ∙ e) (λ x. cc) (λ x. cc) (λ x. cc)) (λ e. looks_one_of (all_looks u.0) status.Sink (sym u.4 ∙ e) (λ x. cc) (λ x. cc) (λ x. cc))
    (λ e. looks_one_of (all_looks u.0) status.NoMemory (sym u.4 ∙ e) (λ x. cc) (λ x. cc) (λ x. cc)))
    q

pub returns-in-Some-clause-stays : goal.returns-in-Some-clause-stays
returns-in-Some-clause-stays g t c =
    stays_then _ _ _ (stays_then _ _ _ c.look_at_one.ensures.stays c.look_at_stores.ensures.stays) (back_stays _ _ _ c.keep_passes.ensures.back c.keep_passes.ensures.counts)

pub returns-in-Some-clause-not_taken : goal.returns-in-Some-clause-not_taken
returns-in-Some-clause-not_taken g t c =
    taken_back _ _ _ _ _ c.in-Ok-look_at_one.ensures.taken c.in-Err-look_at_stores.ensures.not_taken c.keep_passes.ensures.back.out

pub returns-in-Some-clause-sources : goal.returns-in-Some-clause-sources
returns-in-Some-clause-sources g t c =
    λ q. ap (λ (n : Counts). source_faults n q) c.keep_passes.ensures.counts ∙ (c.look_at_stores.ensures.sources q ∙ c.look_at_one.ensures.sources q)

pub returns-in-Some-clause-elsewhere : goal.returns-in-Some-clause-elsewhere
returns-in-Some-clause-elsewhere g t c =
    elsewhere_back _ _ _ _ c.keep_passes.ensures.counts (elsewhere_with _ _ _ _ _ _ (first_and_rest _ _ c.store-item.is c.in-len1-up.len_at_least) c.look_at_one.ensures.elsewhere c.look_at_stores.ensures.elsewhere)

pub returns-in-Some-clause-contents : goal.returns-in-Some-clause-contents
returns-in-Some-clause-contents g t c =
    let seen_of = store_seen g.Y.Arm.Pass.Pass.seen in
    let one = c.in-Ok-look_at_one.one.store in
    let mid = g.Y.Yard.seen c.look_at_stores.new.yard in
    let now = g.Y.Yard.seen c.keep_passes.new.self in
    let is = popped _ _ _ _ one c.in-Some.last c.push_reserved.ensures.items c.in-Err-look_at_stores.ensures.none c.in-Some.ensures.items in
    contents_behind (g.Y.Yard.seen c.args.yard.now) (g.Y.Yard.seen c.look_at_one.new.yard) mid now c.args.stores.now c.store-item.result _ (passes_of (seen_of one)) (first_and_rest _ _ c.store-item.is c.in-len1-up.len_at_least) c.requires.apart c.in-Ok-look_at_one.ensures.contents c.look_at_one.ensures.stays
    c.look_at_stores.ensures.stays c.in-Ok-look_at_one.ensures.leaves.1.theirs c.look_at_stores.ensures.contents
    (kept_popped seen_of one c.in-Some.last mid.tells.keeps_contents mid.contents now.contents c.store-item.result.path is.1 c.keep_passes.ensures.contents)

pub returns-in-Some-clause-said : goal.returns-in-Some-clause-said
returns-in-Some-clause-said g t c =
    said_behind _ _ _ (g.Y.Yard.seen c.keep_passes.new.self) _ _ c.store-item.result c.journal-item.result _ _ _ _ _ (map g.Y.Arm.Pass.Pass.seen c.in-Some.last.passes.items) _ _ _ (first_and_rest _ _ c.store-item.is c.in-len1-up.len_at_least) (first_and_rest _ _ c.journal-item.is c.in-len1-up-found.len_at_least) c.requires.apart c.look_at_one.ensures.stays c.look_at_one.ensures.blocks
    c.look_at_one.ensures.elsewhere c.look_at_stores.ensures.elsewhere c.keep_passes.ensures.back c.keep_passes.ensures.counts c.keep_passes.ensures.contents c.in-Err-look_at_stores.ensures.stops c.in-Ok-look_at_one.ensures.leaves c.in-Err-look_at_stores.ensures.said
