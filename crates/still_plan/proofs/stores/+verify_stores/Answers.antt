use Rattle.std.proofs.Common.{◌∙◌, refl, inr, subst, []}
use Rattle.run_report.specs.Says.{says_none}
use Rattle.still_plan.specs.Frame.{AreApart}
use Rattle.still_plan.specs.Stores.{not_begun}
use Rattle.run_report.specs.declared.status.Status.TheVariants as status
use Rattle.still_plan.proofs.Places.{empty_list, first_and_rest}
use Rattle.still_plan.proofs.Frames.{apart_rest, keeps_then}
use Rattle.still_plan.proofs.Verifications.{left_by, left_same, said_none, said_stop, said_more, stays_with, stays_alone, elsewhere_with, last_not, first_not}
use Rattle.still_plan.proofs.stores.+verify_stores.Goals as goal

pub returns-in_default-clause-said : goal.returns-in_default-clause-said
returns-in_default-clause-said g t c = said_none _ _ _ _ (empty_list _ c.in_default.len_below) c.requires.fit

pub returns-then-printer-clause-said : goal.returns-then-printer-clause-said
returns-then-printer-clause-said g t c =
    said_stop _ _ _ _ c.store-item.result c.journal-item.result _ _ _ _ _ (first_and_rest _ _ c.store-item.is c.in-len1-up.len_at_least) (first_and_rest _ _ c.journal-item.is c.in-len1-up-found.len_at_least) (λ path other. left_same _ path) ([], says_none _, not_begun refl (inr refl))

pub verify_stores-requires-clause-apart : goal.verify_stores-requires-clause-apart
verify_stores-requires-clause-apart g t c κs within = apart_rest _ _ (subst AreApart (first_and_rest _ _ c.store-item.is c.in-len1-up.len_at_least) c.requires.apart)

pub returns-in-Ok-clause-keeps : goal.returns-in-Ok-clause-keeps
returns-in-Ok-clause-keeps g t c = keeps_then _ _ _ c.verify_one.ensures.keeps c.verify_stores.ensures.keeps

pub returns-in-Ok-clause-elsewhere : goal.returns-in-Ok-clause-elsewhere
returns-in-Ok-clause-elsewhere g t c = elsewhere_with _ _ _ _ _ _ (first_and_rest _ _ c.store-item.is c.in-len1-up.len_at_least) c.verify_one.ensures.elsewhere c.verify_stores.ensures.elsewhere

pub returns-in-Ok-clause-contents : goal.returns-in-Ok-clause-contents
returns-in-Ok-clause-contents g t c = stays_with _ _ _ _ _ _ (first_and_rest _ _ c.store-item.is c.in-len1-up.len_at_least) c.requires.apart c.verify_one.ensures.blocks c.verify_stores.ensures.contents

pub returns-in-Ok-clause-said : goal.returns-in-Ok-clause-said
returns-in-Ok-clause-said g t c =
    said_more _ _ _ _ _ _ _ _ _ _ _ _ _ _ _ c.worse.ensures (first_and_rest _ _ c.store-item.is c.in-len1-up.len_at_least) (first_and_rest _ _ c.journal-item.is c.in-len1-up-found.len_at_least) c.requires.apart
    c.verify_one.ensures.keeps c.verify_one.ensures.blocks c.verify_one.ensures.elsewhere c.verify_stores.ensures.elsewhere c.in-Ok.ensures.verifies c.verify_stores.ensures.said

pub returns-in-Ok-clause-yard_quiet : goal.returns-in-Ok-clause-yard_quiet
returns-in-Ok-clause-yard_quiet g t c ny nm =
    c.verify_stores.ensures.yard_quiet (last_not _ _ _ status.Yard c.worse.ensures refl ny) (last_not _ _ _ status.NoMemory c.worse.ensures refl nm)
    ∙ c.in-Ok.ensures.yard_quiet (λ e. cc) (λ e. cc)

pub returns-in-Ok-clause-arms_quiet : goal.returns-in-Ok-clause-arms_quiet
returns-in-Ok-clause-arms_quiet g t c nd ny ns nm q =
    c.verify_stores.ensures.arms_quiet (last_not _ _ _ status.Device c.worse.ensures refl nd) (last_not _ _ _ status.Yard c.worse.ensures refl ny) (last_not _ _ _ status.Sink c.worse.ensures refl ns) (last_not _ _ _ status.NoMemory c.worse.ensures refl nm) q
    ∙ c.in-Ok.ensures.arms_quiet (first_not _ _ _ _ _ _ _ _ _ c.worse.ensures c.verify_stores.ensures.said nd ny ns nm) q

pub returns-in-Err-clause-contents : goal.returns-in-Err-clause-contents
returns-in-Err-clause-contents g t c = stays_alone _ _ _ _ _ (first_and_rest _ _ c.store-item.is c.in-len1-up.len_at_least) c.requires.apart c.verify_one.ensures.blocks

pub returns-in-Err-clause-said : goal.returns-in-Err-clause-said
returns-in-Err-clause-said g t c =
    said_stop _ _ _ _ c.store-item.result c.journal-item.result _ _ _ _ _ (first_and_rest _ _ c.store-item.is c.in-len1-up.len_at_least) (first_and_rest _ _ c.journal-item.is c.in-len1-up-found.len_at_least) (left_by _ _ _ c.verify_one.ensures.blocks c.verify_one.ensures.elsewhere) c.in-Err.ensures.stops
