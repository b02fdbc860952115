-- What all runs of a plan did, one after the other.
use Rattle.std.proofs.Common.{◌≡◌, ◌∙◌, sym, ap, subst, arith, inl, inr, ℕ, All, true, false, List, [], ◌∷◌}
use Rattle.std.proofs.lemmas.List.Elements.{All-head, All-tail}
use Rattle.vd_arm.specs.Arm.{PassSeen}
use Rattle.vd_yard.specs.Counts.{Counts}
use Rattle.vd_yard.specs.Kept.{Kept}
use Rattle.plan_types.specs.Valid.{IsPlan}
use Rattle.plan_types.specs.declared.plan.Plan.{Plan}
use Rattle.plan_types.specs.declared.run.RunPlan.{RunPlan}
use Rattle.key_state.specs.declared.seen.BookSeen.{BookSeen}
use Rattle.slave_worker.specs.Hands.{HandSeen, IsRunOf}
use Rattle.slave_worker.specs.declared.hand.RunFault.{RunFault}
use Rattle.master_run.specs.Yards.{IsUnused}
use Rattle.run_report.specs.declared.status.Status.{Status}
use Rattle.run_report.specs.declared.status.Status.TheVariants as status
use Rattle.run_totals.proofs.Lists.{all_from, each_of_all}
use Rattle.plan_hands.specs.Stores.{AreStores}
use Rattle.plan_runs.specs.Stages.{IsReadyFor, OneRun, RunNotOpened, RunNotStarted, RunsMade, Stage, is_last, made, not_opened, not_started, said_in_part}
use Rattle.plan_runs.proofs.Opened.{are_open, stores_still}
use Rattle.plan_totals.specs.Made.{all_made, made_in}
use Rattle.plan_totals.proofs.Books.{last_worse}
use Rattle.plan_totals.proofs.Moves.{PathStays, stays_same, stays_then, unused_stays}
use Rattle.plan_totals.proofs.Opening.{opened_all, opened_some}
use Rattle.plan_totals.proofs.Running.{RunLaws, ran_step}
use Rattle.plan_totals.proofs.Steps.{HandsMoved, KeepsSame, Step, hands_same, hands_then, keeps_still, step_same, step_then}

memory_is_last : (result : Status) → result ≡ status.NoMemory → is_last result ≡ false → ⊥
memory_is_last result is never = let so : true ≡ false = sym (ap is_last is) ∙ never in cc

-- The runs of a plan are runs of it.
pub all_are_runs : (plan : Plan) → IsPlan plan → All (IsRunOf plan) plan.runs
all_are_runs plan valid = all_from (IsRunOf plan) plan.runs (λ i run at. record { valid = valid; number = (i, at) })

module _ {P B : Type 0} (pass_seen : P → PassSeen) (book_seen : B → BookSeen) (laws : RunLaws pass_seen book_seen) (plan : Plan) (valid : IsPlan plan) (contents : Kept (List ℕ)) (keeps : Type 0) where
  module _ (run : RunPlan) (is_run : IsRunOf plan run) (before after : Stage) (stores : AreStores plan before.hands) (yard : KeepsSame plan contents keeps before.yard) (well : Type 0) where
    -- Nothing but openings: the workers didn't start, or the data couldn't be opened.
    idle_step : (ready : Stage) (why : RunFault) → IsReadyFor plan run before ready → RunNotStarted run ready after why → Step plan contents keeps [] well before after
    idle_step ready why is_ready none =
        let unused = each_of_all IsUnused none.yard.unused none.yard.are_unused in
        let opened = λ (path : List ℕ). stays_same before.yard.counts ready.yard.counts path is_ready.opens.counts in
        let given : (path : List ℕ) → PathStays ready.yard.counts after.yard.counts path =
        λ path. subst (λ (c : Counts). PathStays ready.yard.counts c path) (sym none.yard.counts) (unused_stays none.yard.unused ready.yard.counts path unused) in
        record {
          stores = subst (AreStores plan) (sym none.hands) (are_open plan valid run before.yard before.hands ready.hands stores is_ready.opened).stores;
          yard = keeps_still plan contents keeps before.yard after.yard (none.yard.same.contents ∙ is_ready.opens.contents) (none.yard.same.tells ∙ is_ready.opens.tells) yard;
          counted = tt;
          errors = omega (arith, none.errors, is_ready.errors);
          hands =
              subst (λ (l : List HandSeen). HandsMoved plan contents keeps well [] before.yard.counts after.yard.counts before.hands l) (sym none.hands)
              (hands_then plan contents keeps well well well [] [] before.yard.counts ready.yard.counts after.yard.counts before.hands ready.hands ready.hands (λ is. is) (λ is. is)
              (opened_all plan valid contents keeps run before.yard yard well before.yard.counts ready.yard.counts opened before.hands ready.hands is_ready.opened)
              (hands_same plan contents keeps well ready.yard.counts after.yard.counts ready.hands given));
          others = λ path apart. stays_then before.yard.counts ready.yard.counts after.yard.counts path (opened path) (given path);
        }

    closed_step : (why : RunFault) → RunNotOpened plan run before after why → Step plan contents keeps [] well before after
    closed_step why none =
        let same = λ (path : List ℕ). stays_same before.yard.counts after.yard.counts path none.opens.counts in
        record {
          stores = stores_still plan valid run before.yard before.hands after.hands why stores none.stops;
          yard = keeps_still plan contents keeps before.yard after.yard none.opens.contents none.opens.tells yard;
          counted = tt;
          errors = omega (arith, none.errors);
          hands = opened_some plan valid contents keeps run before.yard yard well before.yard.counts after.yard.counts same before.hands after.hands why none.stops;
          others = λ path apart. same path;
        }

  pub one_step : (run : RunPlan) → IsRunOf plan run → (before after : Stage) (text : List ℕ) (result : Status) (one : OneRun pass_seen book_seen plan run before after text result) → AreStores plan before.hands → KeepsSame plan contents keeps before.yard
      → Step plan contents keeps (made_in pass_seen book_seen plan run before after text result one) (is_last result ≡ false) before after
  one_step run is_run before after text result (made answer m is_text is) stores yard =
      ran_step pass_seen book_seen laws plan valid contents keeps run is_run before after answer m stores yard (is_last result ≡ false) (λ never. sym (ap is_last is) ∙ never)
  one_step run is_run before after text result (said_in_part n answer m is_text is) stores yard =
      ran_step pass_seen book_seen laws plan valid contents keeps run is_run before after answer m stores yard (is_last result ≡ false) (λ never. absurd (memory_is_last result is never))
  one_step run is_run before after text result (not_started ready why is_ready none told) stores yard = idle_step run is_run before after stores yard (is_last result ≡ false) ready why is_ready none
  one_step run is_run before after text result (not_opened why none told) stores yard = closed_step run is_run before after stores yard (is_last result ≡ false) why none

  pub all_steps : (runs : List RunPlan) → All (IsRunOf plan) runs → (before after : Stage) (text : List ℕ) (result : Status) (them : RunsMade pass_seen book_seen plan runs before after text result) → AreStores plan before.hands → KeepsSame plan contents keeps before.yard
      → Step plan contents keeps (all_made pass_seen book_seen plan runs before after text result them) (is_last result ≡ false) before after
  all_steps [] are before after text result (same, is_text, is) stores yard = step_same plan contents keeps (is_last result ≡ false) before after same stores yard
  all_steps (run ∷ runs) are before after text result (inl (limit, same, is_text, is)) stores yard = step_same plan contents keeps (is_last result ≡ false) before after same stores yard
  all_steps (run ∷ runs) are before after text result (inr (inl (few, says, last))) stores yard = one_step run (All-head (IsRunOf plan) run runs are) before after text result says.one stores yard
  all_steps (run ∷ runs) are before after text result (inr (inr (few, between, first, rest, one, others, says, last, then, is_text, is))) stores yard =
      let now = one_step run (All-head (IsRunOf plan) run runs are) before between first one says.one stores yard in
      let later = all_steps runs (All-tail (IsRunOf plan) run runs are) between after rest others then now.stores now.yard in
      step_then plan contents keeps (is_last one ≡ false) (is_last others ≡ false) (is_last result ≡ false) (made_in pass_seen book_seen plan run before between first one says.one) (all_made pass_seen book_seen plan runs between after rest others then) before between after
      (λ never. last) (λ never. (last_worse one others (sym (ap is_last is) ∙ never)).1) now later
