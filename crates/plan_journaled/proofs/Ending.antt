-- Which status a command ends with behind that of its runs and that of closing.
use Rattle.std.proofs.Common.{◌≡◌, ◌∙◌, refl, sym, ap, inl, inr, ◌⊎◌, ℕ, Bool, true, false, List, [], ◌∷◌}
use Rattle.std.specs.Prelude.{◌≢◌}
use Rattle.vd_arm.specs.Arm.{PassSeen}
use Rattle.plan_types.specs.declared.plan.Plan.{Plan}
use Rattle.plan_types.specs.declared.run.RunPlan.{RunPlan}
use Rattle.key_state.specs.declared.seen.BookSeen.{BookSeen}
use Rattle.run_report.specs.declared.status.Status.{Status}
use Rattle.run_report.specs.declared.status.Status.TheVariants as status
use Rattle.plan_journals.specs.Closing.{IsClosingStatus, after_closing, after_refusal, fault_behind}
use Rattle.plan_runs.specs.Stages.{RunsMade, Stage}
use Rattle.plan_runs.proofs.Devices.{of_one_run}
use Rattle.plan_runs.proofs.Ended.{of_runs, worse_has}
use Rattle.plan_journaled.specs.Over.{CanEndOver}

-- A failed journal leaves a status or takes its place.
fault_either : (work : Status) → (fault_behind work ≡ work) ⊎ (fault_behind work ≡ status.Journal)
fault_either status.Good = inr refl
fault_either status.Corrupt = inr refl
fault_either status.Device = inr refl
fault_either status.EpochEnd = inr refl
fault_either status.Journal = inl refl
fault_either status.Yard = inl refl
fault_either status.NoMemory = inl refl
fault_either status.Parameter = inl refl
fault_either status.Source = inl refl
fault_either status.Usage = inl refl
fault_either status.Sink = inl refl
fault_either status.NoJournal = inl refl
fault_either status.Damaged = inl refl
fault_either status.Mismatch = inl refl

-- Closing leaves the status, or gives that of a failed journal or of want of memory.
pub either_behind : (work closing : Status) → IsClosingStatus closing → (after_closing work closing ≡ work) ⊎ (after_closing work closing ≡ status.Journal) ⊎ (after_closing work closing ≡ status.NoMemory)
either_behind work closing (inl is) = inl (ap (after_closing work) is)
either_behind work closing (inr (inl is)) =
    let here : after_closing work closing ≡ fault_behind work = ap (after_closing work) is in
    elim (fault_either work) [
      | inl same ↦ inl (here ∙ same)
      | inr other ↦ inr (inl (here ∙ other))
    ]
either_behind work closing (inr (inr is)) = inr (inr (ap (after_closing work) is))

-- Any other status is that of the runs.
pub was_before : (work closing result : Status) → IsClosingStatus closing → result ≡ after_closing work closing → result ≢ status.Journal → result ≢ status.NoMemory → work ≡ result
was_before work closing result answers is journal memory =
    elim (either_behind work closing answers) [
      | inl same ↦ sym (is ∙ same)
      | inr (inl other) ↦ absurd (journal (is ∙ other))
      | inr (inr other) ↦ absurd (memory (is ∙ other))
    ]

-- So a status that is neither of these came from the runs.
pub same_before : (this work closing result : Status) → this ≢ status.Journal → this ≢ status.NoMemory → IsClosingStatus closing → result ≡ after_closing work closing → result ≡ this → work ≡ this
same_before this work closing result journal memory answers is so = was_before work closing this answers (sym so ∙ is) journal memory

-- A status that no failed journal hides stays, or memory ran out.
pub heavy_before : (heavy work closing result : Status) → fault_behind heavy ≡ heavy → IsClosingStatus closing → result ≡ after_closing work closing → result ≢ heavy → result ≢ status.NoMemory → work ≢ heavy
heavy_before heavy work closing result stays (inl closed) is never memory so = never (is ∙ ap (after_closing work) closed ∙ so)
heavy_before heavy work closing result stays (inr (inl closed)) is never memory so = never (is ∙ ap (after_closing work) closed ∙ ap fault_behind so ∙ stays)
heavy_before heavy work closing result stays (inr (inr closed)) is never memory so = memory (is ∙ ap (after_closing work) closed)

-- Want of memory stays.
pub memory_stays : (closing : Status) → IsClosingStatus closing → after_closing status.NoMemory closing ≡ status.NoMemory
memory_stays closing (inl is) = ap (after_closing status.NoMemory) is
memory_stays closing (inr (inl is)) = ap (after_closing status.NoMemory) is
memory_stays closing (inr (inr is)) = ap (after_closing status.NoMemory) is

-- Behind a refusal it is the refusal's, or want of memory.
pub either_refused : (why closing : Status) → IsClosingStatus closing → (after_refusal why closing ≡ why) ⊎ (after_refusal why closing ≡ status.NoMemory)
either_refused why closing (inl is) = inl (ap (after_refusal why) is)
either_refused why closing (inr (inl is)) = inl (ap (after_refusal why) is)
either_refused why closing (inr (inr is)) = inr (ap (after_refusal why) is)

pub refused_before : (why closing result : Status) → IsClosingStatus closing → result ≡ after_refusal why closing → result ≢ status.NoMemory → why ≡ result
refused_before why closing result answers is memory =
    elim (either_refused why closing answers) [
      | inl same ↦ sym (is ∙ same)
      | inr other ↦ absurd (memory (is ∙ other))
    ]

pub refused_same : (this why closing result : Status) → this ≢ status.NoMemory → IsClosingStatus closing → result ≡ after_refusal why closing → result ≡ this → why ≡ this
refused_same this why closing result memory answers is so = refused_before why closing this answers (sym so ∙ is) memory

pub refused_has : (p : Status → Bool) (why closing : Status) → IsClosingStatus closing → p why ≡ true → p status.NoMemory ≡ true → p (after_refusal why closing) ≡ true
refused_has p why closing answers has memory =
    elim (either_refused why closing answers) [
      | inl same ↦ ap p same ∙ has
      | inr other ↦ ap p other ∙ memory
    ]

pub closing_has : (p : Status → Bool) (work closing : Status) → IsClosingStatus closing → p work ≡ true → p status.Journal ≡ true → p status.NoMemory ≡ true → p (after_closing work closing) ≡ true
closing_has p work closing answers has journal memory =
    elim (either_behind work closing answers) [
      | inl same ↦ ap p same ∙ has
      | inr (inl other) ↦ ap p other ∙ journal
      | inr (inr other) ↦ ap p other ∙ memory
    ]

pub can_by : (result : Status) → of_runs result ≡ true → CanEndOver result
can_by result known = record {
  no_usage = λ is. let so : false ≡ true = sym (ap of_runs is) ∙ known in cc;
  no_parameter = λ is. let so : false ≡ true = sym (ap of_runs is) ∙ known in cc;
  no_source = λ is. let so : false ≡ true = sym (ap of_runs is) ∙ known in cc;
  no_output = λ is. let so : false ≡ true = sym (ap of_runs is) ∙ known in cc;
  none_missing = λ is. let so : false ≡ true = sym (ap of_runs is) ∙ known in cc;
  none_damaged = λ is. let so : false ≡ true = sym (ap of_runs is) ∙ known in cc;
  none_mismatched = λ is. let so : false ≡ true = sym (ap of_runs is) ∙ known in cc;
}

pub can_over : (work closing result : Status) → IsClosingStatus closing → result ≡ after_closing work closing → of_runs work ≡ true → CanEndOver result
can_over work closing result answers is known = can_by result (ap of_runs is ∙ closing_has of_runs work closing answers known refl refl)

pub can_refused : (why closing result : Status) → IsClosingStatus closing → result ≡ after_refusal why closing → of_runs why ≡ true → CanEndOver result
can_refused why closing result answers is known = can_by result (ap of_runs is ∙ refused_has of_runs why closing answers known refl)

-- How the runs themselves end.
module _ {P B : Type 0} (pass_seen : P → PassSeen) (book_seen : B → BookSeen) (plan : Plan) where
  pub runs_end : (runs : List RunPlan) (before after : Stage) (text : List ℕ) (result : Status) → RunsMade pass_seen book_seen plan runs before after text result → of_runs result ≡ true
  runs_end [] before after text result (same, is_text, is) = ap of_runs is
  runs_end (run ∷ runs) before after text result (inl (limit, same, is_text, is)) = ap of_runs is
  runs_end (run ∷ runs) before after text result (inr (inl (few, says, last))) = of_one_run pass_seen book_seen plan run before after text result says.one
  runs_end (run ∷ runs) before after text result (inr (inr (few, between, first, rest, one, others, says, last, made, is_text, is))) =
      ap of_runs is
      ∙ worse_has of_runs one others (of_one_run pass_seen book_seen plan run before between first one says.one) (runs_end runs between after rest others made)
