-- Over data that fits its journals no command finds a corrupt block.
use Rattle.std.proofs.Common.{◌≡◌, ◌∙◌, refl, sym, ap, subst, ℕ, Bool, false, IsTrue, List, [], map}
use Rattle.std.specs.Prelude.{◌≢◌, Option, Some, slice_get}
use Rattle.vd_outside.specs.Clocks.{ClockSeen}
use Rattle.vd_arm.specs.Arm.{PassSeen}
use Rattle.vd_yard.specs.Yard.{YardSeen}
use Rattle.plan_types.specs.declared.plan.Plan.{Plan}
use Rattle.plan_types.specs.declared.store.StorePlan.{StorePlan}
use Rattle.key_state.specs.declared.seen.BookSeen.{BookSeen}
use Rattle.run_report.specs.Says.{printing}
use Rattle.run_report.specs.declared.status.Status.{Status}
use Rattle.run_report.specs.declared.status.Status.TheVariants as status
use Rattle.plan_hands.specs.Stores.{with_books}
use Rattle.plan_runs.specs.Quiet.{unwritten}
use Rattle.plan_runs.specs.Stages.{Stage, stage}
use Rattle.plan_kept.specs.Fits.{FitsItsJournal}
use Rattle.plan_kept.specs.Laws.{StillIsSound}
use Rattle.plan_kept.proofs.Fitting.{told_on}
use Rattle.vdbench_top.specs.Clean.{BytesFindNone, FileFindsNone, PlanFindsNone, SaidFindsNone}
use Rattle.vdbench_top.specs.Kept.{DataFitsJournals, OfItsStores}
use Rattle.vdbench_top.specs.Runs.{RunCall, RunsFile, no_plan, ran, ran_journaled, ran_resumed, rereading}
use Rattle.vdbench_top.specs.Still.{AreBytesOf, Ends, IsPlanOf, SaidOfBytes, SaidOfFile, SaidOfPlan}
use Rattle.vdbench_top.specs.Still as still
use Rattle.vdbench_top.specs.Words.{Asked}
use Rattle.vdbench_top.proofs.Kept.{Sound, fits_on}
use Rattle.vdbench_top.proofs.Runs.{no_plan_status}

module _ (law : StillIsSound) (old new : YardSeen) (shows : Bool) (tells : IsTrue old.tells.keeps_contents) where
  plan_clean : (plan : Plan) (text : List ℕ) (result : Status) → ((place : ℕ) (store : StorePlan) → slice_get plan.stores place ≡ Some store → FitsItsJournal old store)
      → (says : SaidOfPlan old new shows plan text result) → PlanFindsNone old new shows plan text result says × (result ≢ status.Corrupt)
  plan_clean plan text result fits (still.shown shown untouched texts is) = (tt, λ e. (let so : status.Good ≡ status.Corrupt = sym is ∙ e in cc))
  plan_clean plan text result fits (still.shown_front shown untouched n texts is) = (tt, λ e. (let so : status.NoMemory ≡ status.Corrupt = sym is ∙ e in cc))
  plan_clean plan text result fits (still.looked shown looks stay counts) = law old new plan.stores text result tells fits looks

  bytes_clean : (file bytes text : List ℕ) (result : Status) → AreBytesOf old file bytes → OfItsStores old file (FitsItsJournal old)
      → (says : SaidOfBytes old new shows bytes text result) → BytesFindNone old new shows bytes text result says × (result ≢ status.Corrupt)
  bytes_clean file bytes text result are fits (still.refused plans untouched is) = (tt, λ e. (let so : status.Parameter ≡ status.Corrupt = sym is ∙ e in cc))
  bytes_clean file bytes text result are fits (still.planned plan plans says) = plan_clean plan text result (fits plan (record { bytes = bytes; read = are; plans = plans })) says
  bytes_clean file bytes text result are fits (still.unplanned untouched texts is) = (tt, λ e. (let so : status.NoMemory ≡ status.Corrupt = sym is ∙ e in cc))

  pub said_clean : (file text : List ℕ) (result : Status) → OfItsStores old file (FitsItsJournal old)
      → (says : SaidOfFile old new shows file text result) → SaidFindsNone old new shows file text result says × (result ≢ status.Corrupt)
  said_clean file text result fits (still.unopened rose willing untouched texts is) = (tt, λ e. (let so : status.Yard ≡ status.Corrupt = sym is ∙ e in cc))
  said_clean file text result fits (still.unread rose sure untouched texts is) = (tt, λ e. (let so : status.Source ≡ status.Corrupt = sym is ∙ e in cc))
  said_clean file text result fits (still.read bytes are says) = bytes_clean file bytes text result are fits says
  said_clean file text result fits (still.unkept untouched texts is) = (tt, λ e. (let so : status.NoMemory ≡ status.Corrupt = sym is ∙ e in cc))

  -- So no still command ends by its status.
  pub ends_clean : (file text : List ℕ) (said result : Status) (before now : Option (List ℕ)) → OfItsStores old file (FitsItsJournal old)
      → SaidOfFile old new shows file text said → Ends text said result before now → result ≢ status.Corrupt
  ends_clean file text said result before now fits says ends e =
      let heard : result ≢ status.Sink = λ f. (let so : status.Corrupt ≡ status.Sink = sym e ∙ f in cc) in
      (said_clean file text said fits says).1 (sym (ends.printed_all heard).0 ∙ e)

module _ {P B : Type 0} (pass_seen : P → PassSeen) (book_seen : B → BookSeen) where
  -- ---- a command that runs its plan
  pub file_clean : Sound pass_seen book_seen → (before after : Stage) (asks : Asked) (text : List ℕ) (result : Status) → IsTrue before.yard.tells.keeps_contents → DataFitsJournals before.yard asks
      → (runs : RunsFile pass_seen book_seen before after asks text result) → FileFindsNone pass_seen book_seen before after asks text result runs × (result ≢ status.Corrupt)
  file_clean laws before after asks text result told fits (no_plan reads none clock says) = (tt, no_plan_status before.yard after.yard asks.file text result status.Corrupt none (λ e. cc) (λ e. cc) (λ e. cc) (λ e. cc))
  file_clean laws before after asks text result told fits (ran plan kept is valid read reads runs) =
      laws.quiet (rereading asks.again plan) (stage (with_books (map unwritten plan.stores)) read before.clock 0 before.printing) after text result valid (told_on before.yard.tells read.tells reads.keeps.tells told) runs
  file_clean laws before after asks text result told fits (ran_journaled plan kept is valid read reads runs says keeps) =
      laws.anew (rereading asks.again plan) (stage [] read before.clock 0 before.printing) after text result valid (told_on before.yard.tells read.tells reads.keeps.tells told) runs
  file_clean laws before after asks text result told fits (ran_resumed plan kept is valid read reads went same uses) =
      laws.again (rereading asks.again plan) (stage [] read before.clock 0 before.printing) after result valid (told_on before.yard.tells read.tells reads.keeps.tells told)
      (λ place store at. fits_on before.yard read store reads (fits kept plan is place store at)) went

  pub call_sound : Sound pass_seen book_seen → (a c : YardSeen) (k l : ClockSeen) (taken now : Option (List ℕ)) (m n : ℕ) (asks : Asked) (result : Status) → IsTrue a.tells.keeps_contents → DataFitsJournals a asks
      → RunCall pass_seen book_seen a c k l taken now m n asks result → result ≢ status.Corrupt
  call_sound laws a c k l taken now m n asks result told fits call e =
      let heard : result ≢ status.Sink = λ f. (let g : status.Corrupt ≡ status.Sink = sym e ∙ f in cc) in
      (file_clean laws (stage [] a k 0 (printing false taken m)) (stage [] c l 0 call.last) asks call.text call.said told fits call.runs).1 (sym (call.ends.printed_all heard).0 ∙ e)
