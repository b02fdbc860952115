-- Over sure arms no run of a plan meets a failed call.
use Rattle.std.proofs.Common.{◌≡◌, ◌∙◌, refl, sym, ap, subst, inl, inr, ℕ, All, Bool, true, false, List, [], ◌∷◌, ◌++◌}
use Rattle.std.specs.Prelude.{IsTrue, ◌||◌, if◌then◌else◌, nat_lt}
use Rattle.std.specs.List.{list_any}
use Rattle.std.proofs.lemmas.List.Elements.{All-head, All-tail}
use Rattle.std.proofs.lemmas.List.Folds.{list_any-append, list_any_none}
use Rattle.vd_arm.specs.Arm.{PassSeen}
use Rattle.vd_yard.specs.Out.{AtArm}
use Rattle.vd_yard.specs.Yard.{Tells}
use Rattle.plan_types.specs.Valid.{IsPlan}
use Rattle.plan_types.specs.declared.plan.Plan.{Plan}
use Rattle.plan_types.specs.declared.run.RunPlan.{RunPlan}
use Rattle.key_state.specs.declared.seen.BookSeen.{BookSeen}
use Rattle.claim_table.specs.Sums.{Each}
use Rattle.worker_tally.specs.Tallies.{Tallied}
use Rattle.slave_worker.specs.Hands.{IsRunOf}
use Rattle.slave_worker.specs.declared.hand.RunAnswer.{RunAnswer}
use Rattle.run_report.specs.declared.status.Status.{Status}
use Rattle.run_report.specs.declared.status.Status.TheVariants as status
use Rattle.run_totals.specs.Sentences.{ArmsAreSure, FindingsAreCounted}
use Rattle.run_totals.specs.Whole.{WholeRun}
use Rattle.run_totals.proofs.Lists.{each_append}
use Rattle.plan_hands.specs.Stores.{AreStores}
use Rattle.plan_runs.specs.Stages.{OneRun, RunMade, RunsMade, Stage, made, not_opened, not_started, said_in_part}
use Rattle.plan_runs.specs.Statuses.{tallies_status}
use Rattle.plan_totals.specs.Made.{MadeRun, all_made, made_in, made_run, tallies_of}
use Rattle.plan_totals.proofs.Running.{RunLaws, whole}
use Rattle.plan_totals.proofs.Runs.{one_step}

-- the findings of each tally of a run are as its numbers say
abbrev pub AreCounted : MadeRun → Type 0
AreCounted one = All FindingsAreCounted one.tallies

-- no tally of a run has a failed call
abbrev pub NoFaults : MadeRun → Type 0
NoFaults one = All (λ (tally : Tallied). tally.numbers.faults ≡ 0) one.tallies

abbrev has_fault : Tallied → Bool
has_fault tally = nat_lt 0 tally.numbers.faults

none_in : (one : MadeRun) → NoFaults one → list_any has_fault one.tallies ≡ false
none_in one none = list_any_none has_fault one.tallies (λ j e inside. ap (nat_lt 0) (none j e inside))

none_any : (runs : List MadeRun) → Each NoFaults runs → list_any has_fault (tallies_of runs) ≡ false
none_any [] none = refl
none_any (one ∷ runs) none =
    list_any-append has_fault one.tallies (tallies_of runs) ∙ ap (λ (b : Bool). b || list_any has_fault (tallies_of runs)) (none_in one none.0) ∙ none_any runs none.1

pub not_device : (runs : List MadeRun) → Each NoFaults runs → tallies_status (tallies_of runs) ≡ status.Device → ⊥
not_device runs none is =
    said (list_any (λ (tally : Tallied). nat_lt 0 tally.numbers.corrupt) (tallies_of runs))
    (sym (ap (λ (b : Bool). if b then status.Device else if list_any (λ (tally : Tallied). nat_lt 0 tally.numbers.corrupt) (tallies_of runs) then status.Corrupt else status.Good) (none_any runs none)) ∙ is)
  where
    said : (b : Bool) → (if b then status.Corrupt else status.Good) ≡ status.Device → ⊥
    said true e = cc
    said false e = cc

module _ {P B : Type 0} (pass_seen : P → PassSeen) (book_seen : B → BookSeen) (laws : RunLaws pass_seen book_seen) (plan : Plan) (valid : IsPlan plan) where
  module _ (run : RunPlan) (is_run : IsRunOf plan run) (before after : Stage) where
    abbrev its_whole : (answer : RunAnswer P B) → RunMade pass_seen book_seen plan run before after answer → AreStores plan before.hands → WholeRun pass_seen book_seen
    its_whole answer m stores = whole pass_seen book_seen laws plan valid before.yard.contents ⊥ run is_run before after answer m stores (record { same = refl; tells = λ k. absurd k }) ⊥ (λ k. absurd k)

    made_sure : (answer : RunAnswer P B) → RunMade pass_seen book_seen plan run before after answer → AreStores plan before.hands → ArmsAreSure before.yard plan.stores → NoFaults (made_run pass_seen book_seen run answer)
    made_sure answer m stores sure =
        laws.sure (its_whole answer m stores)
        (λ place store at. subst (λ (t : Tells). IsTrue (t.sure AtArm store.path)) (sym m.is_ready.opens.tells) (sure place store at))

    one_sure : (text : List ℕ) (result : Status) (one : OneRun pass_seen book_seen plan run before after text result) → AreStores plan before.hands → ArmsAreSure before.yard plan.stores → Each NoFaults (made_in pass_seen book_seen plan run before after text result one)
    one_sure text result (made answer m is_text is) stores sure = (made_sure answer m stores sure, tt)
    one_sure text result (said_in_part n answer m is_text is) stores sure = (made_sure answer m stores sure, tt)
    one_sure text result (not_started ready why is_ready none told) stores sure = tt
    one_sure text result (not_opened why none told) stores sure = tt

    one_told : (text : List ℕ) (result : Status) (one : OneRun pass_seen book_seen plan run before after text result) → AreStores plan before.hands → Each AreCounted (made_in pass_seen book_seen plan run before after text result one)
    one_told text result (made answer m is_text is) stores = ((laws.errors (its_whole answer m stores)).1, tt)
    one_told text result (said_in_part n answer m is_text is) stores = ((laws.errors (its_whole answer m stores)).1, tt)
    one_told text result (not_started ready why is_ready none told) stores = tt
    one_told text result (not_opened why none told) stores = tt

  module _ (run : RunPlan) (before after : Stage) where
    tells_stay : (text : List ℕ) (result : Status) → OneRun pass_seen book_seen plan run before after text result → after.yard.tells ≡ before.yard.tells
    tells_stay text result (made answer m is_text is) = m.did.yard.same.tells ∙ m.is_ready.opens.tells
    tells_stay text result (said_in_part n answer m is_text is) = m.did.yard.same.tells ∙ m.is_ready.opens.tells
    tells_stay text result (not_started ready why is_ready none told) = none.yard.same.tells ∙ is_ready.opens.tells
    tells_stay text result (not_opened why none told) = none.opens.tells

  pub all_sure : (runs : List RunPlan) → All (IsRunOf plan) runs → (before after : Stage) (text : List ℕ) (result : Status) (them : RunsMade pass_seen book_seen plan runs before after text result) → AreStores plan before.hands → ArmsAreSure before.yard plan.stores
      → Each NoFaults (all_made pass_seen book_seen plan runs before after text result them)
  all_sure [] are before after text result them stores sure = tt
  all_sure (run ∷ runs) are before after text result (inl limit) stores sure = tt
  all_sure (run ∷ runs) are before after text result (inr (inl (few, says, last))) stores sure = one_sure run (All-head (IsRunOf plan) run runs are) before after text result says.one stores sure
  all_sure (run ∷ runs) are before after text result (inr (inr (few, between, first, rest, one, others, says, last, later, is_text, is))) stores sure =
      let is_run = All-head (IsRunOf plan) run runs are in
      let now = one_step pass_seen book_seen laws plan valid before.yard.contents ⊥ run is_run before between first one says.one stores (record { same = refl; tells = λ k. absurd k }) in
      let still_sure : ArmsAreSure between.yard plan.stores = λ place store at. subst (λ (t : Tells). IsTrue (t.sure AtArm store.path)) (sym (tells_stay run before between first one says.one)) (sure place store at) in
      each_append NoFaults (made_in pass_seen book_seen plan run before between first one says.one) (all_made pass_seen book_seen plan runs between after rest others later)
      (one_sure run is_run before between first one says.one stores sure)
      (all_sure runs (All-tail (IsRunOf plan) run runs are) between after rest others later now.stores still_sure)

  pub all_told : (runs : List RunPlan) → All (IsRunOf plan) runs → (before after : Stage) (text : List ℕ) (result : Status) (them : RunsMade pass_seen book_seen plan runs before after text result) → AreStores plan before.hands
      → Each AreCounted (all_made pass_seen book_seen plan runs before after text result them)
  all_told [] are before after text result them stores = tt
  all_told (run ∷ runs) are before after text result (inl limit) stores = tt
  all_told (run ∷ runs) are before after text result (inr (inl (few, says, last))) stores = one_told run (All-head (IsRunOf plan) run runs are) before after text result says.one stores
  all_told (run ∷ runs) are before after text result (inr (inr (few, between, first, rest, one, others, says, last, later, is_text, is))) stores =
      let is_run = All-head (IsRunOf plan) run runs are in
      let now = one_step pass_seen book_seen laws plan valid before.yard.contents ⊥ run is_run before between first one says.one stores (record { same = refl; tells = λ k. absurd k }) in
      each_append AreCounted (made_in pass_seen book_seen plan run before between first one says.one) (all_made pass_seen book_seen plan runs between after rest others later)
      (one_told run is_run before between first one says.one stores) (all_told runs (All-tail (IsRunOf plan) run runs are) between after rest others later now.stores)

  pub all_tells : (runs : List RunPlan) (before after : Stage) (text : List ℕ) (result : Status) → RunsMade pass_seen book_seen plan runs before after text result → after.yard.tells ≡ before.yard.tells
  all_tells [] before after text result (same, is_text, is) = ap (λ (s : Stage). s.yard.tells) same
  all_tells (run ∷ runs) before after text result (inl (limit, same, is_text, is)) = ap (λ (s : Stage). s.yard.tells) same
  all_tells (run ∷ runs) before after text result (inr (inl (few, says, last))) = tells_stay run before after text result says.one
  all_tells (run ∷ runs) before after text result (inr (inr (few, between, first, rest, one, others, says, last, later, is_text, is))) =
      all_tells runs between after rest others later ∙ tells_stay run before between first one says.one
