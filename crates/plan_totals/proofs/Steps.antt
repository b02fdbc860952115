-- What runs did to a plan's stage.
use Rattle.std.proofs.Common.{◌≡◌, ◌∙◌, refl, sym, subst, arith, ℕ, ◌+◌, IsTrue, List, [], ◌++◌, Some, slice_get}
use Rattle.std.specs.List.{AllZip}
use Rattle.vd_yard.specs.Counts.{Counts}
use Rattle.vd_yard.specs.Kept.{Kept}
use Rattle.vd_yard.specs.Yard.{Tells, YardSeen}
use Rattle.plan_types.specs.declared.plan.Plan.{Plan}
use Rattle.plan_types.specs.declared.store.StorePlan.{StorePlan}
use Rattle.claim_table.specs.Sums.{Each}
use Rattle.slave_worker.specs.Hands.{HandSeen, IsRunOf}
use Rattle.run_totals.proofs.Lists.{each_append}
use Rattle.plan_hands.specs.Stores.{AreStores}
use Rattle.plan_runs.specs.Stages.{Stage}
use Rattle.plan_totals.specs.Made.{MadeRun, findings_in, findings_of}
use Rattle.plan_totals.specs.Sentences.{IsCounted}
use Rattle.plan_totals.proofs.Moves.{HandMoved, PathStays, hand_same, hand_then, stays_same, stays_then}
use Rattle.plan_totals.proofs.Zips.{total_append, zip_each, zip_then}

-- A run of the plan has a tally and an end for each worker.
abbrev pub IsCountedOf : Plan → MadeRun → Type 0
IsCountedOf plan one = IsCounted one × IsRunOf plan one.run

module _ (plan : Plan) (contents : Kept (List ℕ)) (keeps : Type 0) where
  -- The yard keeps this, and tells it.
  pub record KeepsSame (yard : YardSeen) : Type 0 where
    pub same : yard.contents ≡ contents
    pub tells : keeps → IsTrue yard.tells.keeps_contents

  pub keeps_still : (old new : YardSeen) → new.contents ≡ old.contents → new.tells ≡ old.tells → KeepsSame old → KeepsSame new
  keeps_still old new is tells was = record {
    same = is ∙ was.same;
    tells = λ k. subst (λ (t : Tells). IsTrue t.keeps_contents) (sym tells) (was.tells k);
  }

  -- No store of the plan has this path.
  abbrev pub IsElsewhere : List ℕ → Type 0
  IsElsewhere path = (place : ℕ) (store : StorePlan) → slice_get plan.stores place ≡ Some store → store.path ≡ path → ⊥

  abbrev pub HandsMoved : Type 0 → List MadeRun → Counts → Counts → List HandSeen → List HandSeen → Type 0
  HandsMoved well runs old new before after = AllZip (HandMoved plan contents keeps well runs old new) before after

  pub record Step (runs : List MadeRun) (well : Type 0) (before after : Stage) : Type 0 where
    pub stores : AreStores plan after.hands
    pub yard : KeepsSame after.yard
    pub counted : Each (IsCountedOf plan) runs
    pub errors : after.errors ≡ before.errors + findings_of runs
    pub hands : HandsMoved well runs before.yard.counts after.yard.counts before.hands after.hands
    pub others : (path : List ℕ) → IsElsewhere path → PathStays before.yard.counts after.yard.counts path

  pub hands_same : (well : Type 0) (old new : Counts) (hands : List HandSeen) → ((path : List ℕ) → PathStays old new path) → HandsMoved well [] old new hands hands
  hands_same well old new hands stays = zip_each (HandMoved plan contents keeps well [] old new) (λ hand. hand_same plan contents keeps well old new hand (λ store at. stays store.path)) hands

  pub hands_then : (first_well next_well well : Type 0) (first next : List MadeRun) (old mid new : Counts) (a b c : List HandSeen) → (well → first_well) → (well → next_well) → HandsMoved first_well first old mid a b → HandsMoved next_well next mid new b c → HandsMoved well (first ++ next) old new a c
  hands_then first_well next_well well first next old mid new a b c is_first is_next one two =
      zip_then (HandMoved plan contents keeps first_well first old mid) (HandMoved plan contents keeps next_well next mid new) (HandMoved plan contents keeps well (first ++ next) old new)
      (λ x y z. hand_then plan contents keeps first_well next_well well first next old mid new x y z is_first is_next) a b c one two

  pub step_same : (well : Type 0) (before after : Stage) → after ≡ before → AreStores plan before.hands → KeepsSame before.yard → Step [] well before after
  step_same well before after is stores yard =
      subst (λ (s : Stage). Step [] well before s) (sym is)
      (record {
        stores = stores;
        yard = yard;
        counted = tt;
        errors = omega arith;
        hands = hands_same well before.yard.counts before.yard.counts before.hands (λ path. stays_same before.yard.counts before.yard.counts path refl);
        others = λ path elsewhere. stays_same before.yard.counts before.yard.counts path refl;
      })

  pub step_then : (first_well next_well well : Type 0) (first next : List MadeRun) (a b c : Stage) → (well → first_well) → (well → next_well) → Step first first_well a b → Step next next_well b c → Step (first ++ next) well a c
  step_then first_well next_well well first next a b c is_first is_next one two = record {
    stores = two.stores;
    yard = two.yard;
    counted = each_append (IsCountedOf plan) first next one.counted two.counted;
    errors = omega (arith, one.errors, two.errors, total_append findings_in first next);
    hands = hands_then first_well next_well well first next a.yard.counts b.yard.counts c.yard.counts a.hands b.hands c.hands is_first is_next one.hands two.hands;
    others = λ path elsewhere. stays_then a.yard.counts b.yard.counts c.yard.counts path (one.others path elsewhere) (two.others path elsewhere);
  }
