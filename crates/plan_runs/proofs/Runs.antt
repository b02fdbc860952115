-- The runs of a plan, one after the other.
use Rattle.std.proofs.Common.{◌≡◌, ◌∙◌, refl, sym, ap, subst, arith, inl, inr, ℕ, ◌<◌, ◌≤◌, true, false, List, [], ◌∷◌, ◌++◌, length}
use Rattle.std.specs.Prelude.{◌≢◌}
use Rattle.vd_outside.specs.Causes.{Rose}
use Rattle.vd_arm.specs.Arm.{ArmSeen, PassSeen}
use Rattle.vd_yard.specs.Counts.{Counts, arm_faults, source_faults}
use Rattle.vd_yard.specs.Yard.{YardSeen}
use Rattle.plan_types.specs.declared.plan.Plan.{Plan}
use Rattle.plan_types.specs.declared.run.RunPlan.{RunPlan}
use Rattle.key_state.specs.declared.seen.BookSeen.{BookSeen}
use Rattle.master_run.specs.Yards.{counts_with}
use Rattle.run_report.specs.declared.status.Status.{Status}
use Rattle.run_report.specs.declared.status.Status.TheVariants as status
use Rattle.run_totals.proofs.Counts.{sources_stay}
use Rattle.run_totals.proofs.Works.{Laws}
use Rattle.plan_runs.specs.Ready.{HasRunCause}
use Rattle.plan_runs.specs.Stages.{RunsMade, SaysOneRun, Stage, is_last}
use Rattle.plan_runs.specs.Statuses.{worse}
use Rattle.plan_runs.proofs.Devices.{counts_append, of_one_run, one_counts, one_kept, one_rose}
use Rattle.plan_runs.proofs.Faults.{never_falls}
use Rattle.plan_runs.proofs.Ended.{GoesOn, goes_on, of_runs, worse_either, worse_has}

-- A status that others follow gives way to each that is heavier, and isn't one of them.
wins : (first x : Status) → GoesOn first → worse status.Good x ≡ x → worse status.Corrupt x ≡ x → worse status.Device x ≡ x → worse first x ≡ x
wins first x (inl is) good corrupt device = ap (λ (s : Status). worse s x) is ∙ good
wins first x (inr (inl is)) good corrupt device = ap (λ (s : Status). worse s x) is ∙ corrupt
wins first x (inr (inr is)) good corrupt device = ap (λ (s : Status). worse s x) is ∙ device

pub no_yard_yet : (s : Status) → GoesOn s → s ≢ status.Yard
no_yard_yet s (inl is) yard = let so : status.Good ≡ status.Yard = sym is ∙ yard in cc
no_yard_yet s (inr (inl is)) yard = let so : status.Corrupt ≡ status.Yard = sym is ∙ yard in cc
no_yard_yet s (inr (inr is)) yard = let so : status.Device ≡ status.Yard = sym is ∙ yard in cc

pub some_memory_yet : (s : Status) → GoesOn s → s ≢ status.NoMemory
some_memory_yet s (inl is) memory = let so : status.Good ≡ status.NoMemory = sym is ∙ memory in cc
some_memory_yet s (inr (inl is)) memory = let so : status.Corrupt ≡ status.NoMemory = sym is ∙ memory in cc
some_memory_yet s (inr (inr is)) memory = let so : status.Device ≡ status.NoMemory = sym is ∙ memory in cc

-- A failed device isn't forgotten but for a status that says more.
kept_device : (rest : Status) → of_runs rest ≡ true → worse status.Device rest ≢ status.Device → rest ≢ status.EpochEnd → rest ≢ status.Journal → rest ≢ status.Yard → rest ≢ status.NoMemory → ⊥
kept_device status.Good is device epoch journal yard memory = device refl
kept_device status.Corrupt is device epoch journal yard memory = device refl
kept_device status.Device is device epoch journal yard memory = device refl
kept_device status.EpochEnd is device epoch journal yard memory = epoch refl
kept_device status.Journal is device epoch journal yard memory = journal refl
kept_device status.Yard is device epoch journal yard memory = yard refl
kept_device status.NoMemory is device epoch journal yard memory = memory refl
kept_device status.Parameter is device epoch journal yard memory = absurd (let so : false ≡ true = is in cc)
kept_device status.Source is device epoch journal yard memory = absurd (let so : false ≡ true = is in cc)
kept_device status.Usage is device epoch journal yard memory = absurd (let so : false ≡ true = is in cc)
kept_device status.Sink is device epoch journal yard memory = absurd (let so : false ≡ true = is in cc)
kept_device status.NoJournal is device epoch journal yard memory = absurd (let so : false ≡ true = is in cc)
kept_device status.Damaged is device epoch journal yard memory = absurd (let so : false ≡ true = is in cc)
kept_device status.Mismatch is device epoch journal yard memory = absurd (let so : false ≡ true = is in cc)

module _ (first rest result : Status) (is : result ≡ worse first rest) (on : GoesOn first) where
  -- What ended the runs at once came of the rest.
  pub rest_yard : result ≡ status.Yard → rest ≡ status.Yard
  rest_yard yard = elim (worse_either first rest) [
    | inl same ↦ absurd (no_yard_yet first on (sym same ∙ sym is ∙ yard))
    | inr same ↦ sym same ∙ sym is ∙ yard
  ]

  pub yard_shows : result ≢ status.Yard → rest ≢ status.Yard
  yard_shows other yard = other (is ∙ ap (worse first) yard ∙ wins first status.Yard on refl refl refl)

  pub memory_shows : result ≢ status.NoMemory → rest ≢ status.NoMemory
  memory_shows other memory = other (is ∙ ap (worse first) memory ∙ wins first status.NoMemory on refl refl refl)

  pub device_shows : result ≢ status.Device → rest ≢ status.Device
  device_shows other device = other (is ∙ ap (worse first) device ∙ wins first status.Device on refl refl refl)

  pub epoch_shows : result ≢ status.EpochEnd → rest ≢ status.EpochEnd
  epoch_shows other epoch = other (is ∙ ap (worse first) epoch ∙ wins first status.EpochEnd on refl refl refl)

  pub journal_shows : result ≢ status.Journal → rest ≢ status.Journal
  journal_shows other journal = other (is ∙ ap (worse first) journal ∙ wins first status.Journal on refl refl refl)

  pub first_no_device : of_runs rest ≡ true → result ≢ status.Device → result ≢ status.EpochEnd → result ≢ status.Journal → result ≢ status.Yard → result ≢ status.NoMemory → first ≢ status.Device
  first_no_device known device epoch journal yard memory told =
      kept_device rest known (λ so. device (is ∙ ap (λ (s : Status). worse s rest) told ∙ so)) (epoch_shows epoch) (journal_shows journal) (yard_shows yard) (memory_shows memory)

-- The yard's count, by that of the first and that of the rest.
pub yard_rose : (a b c : YardSeen) (first rest result : Status) → result ≡ worse first rest → GoesOn first → HasRunCause a b first → (rest ≡ status.Yard → Rose b.faults c.faults) → result ≡ status.Yard → Rose a.faults c.faults
yard_rose a b c first rest result is on cause later yard =
    subst (λ (n : ℕ). Rose n c.faults) (cause.kept (no_yard_yet first on) (some_memory_yet first on)) (later (rest_yard first rest result is on yard))

pub yard_kept : (a b c : YardSeen) (first rest result : Status) → result ≡ worse first rest → GoesOn first → HasRunCause a b first → (rest ≢ status.Yard → rest ≢ status.NoMemory → c.faults ≡ b.faults) → result ≢ status.Yard → result ≢ status.NoMemory → c.faults ≡ a.faults
yard_kept a b c first rest result is on cause later yard memory =
    later (yard_shows first rest result is on yard) (memory_shows first rest result is on memory) ∙ cause.kept (no_yard_yet first on) (some_memory_yet first on)

pub not_at_end : (s : Status) → GoesOn s → s ≢ status.EpochEnd
not_at_end s (inl is) end = let so : status.Good ≡ status.EpochEnd = sym is ∙ end in cc
not_at_end s (inr (inl is)) end = let so : status.Corrupt ≡ status.EpochEnd = sym is ∙ end in cc
not_at_end s (inr (inr is)) end = let so : status.Device ≡ status.EpochEnd = sym is ∙ end in cc

pub none_failed : (s : Status) → GoesOn s → s ≢ status.Journal
none_failed s (inl is) failed = let so : status.Good ≡ status.Journal = sym is ∙ failed in cc
none_failed s (inr (inl is)) failed = let so : status.Corrupt ≡ status.Journal = sym is ∙ failed in cc
none_failed s (inr (inr is)) failed = let so : status.Device ≡ status.Journal = sym is ∙ failed in cc

module _ {P B : Type 0} (pass_seen : P → PassSeen) (book_seen : B → BookSeen) (plan : Plan) where
  -- What is true of the statuses of each run is true of that of all.
  pub runs_counts : (runs : List RunPlan) (before after : Stage) (text : List ℕ) (result : Status) → RunsMade pass_seen book_seen plan runs before after text result → (arms : List (List ℕ × ArmSeen)) × (after.yard.counts ≡ counts_with arms before.yard.counts)
  runs_counts [] before after text result (same, is_text, is) = ([], ap (λ (s : Stage). s.yard.counts) same)
  runs_counts (run ∷ runs) before after text result (inl (limit, same, is_text, is)) = ([], ap (λ (s : Stage). s.yard.counts) same)
  runs_counts (run ∷ runs) before after text result (inr (inl (few, says, last))) = one_counts pass_seen book_seen plan run before after text result says.one
  runs_counts (run ∷ runs) before after text result (inr (inr (few, between, first, rest, one, others, says, last, made, is_text, is))) =
      let now = one_counts pass_seen book_seen plan run before between first one says.one in
      let then = runs_counts runs between after rest others made in
      (now.0 ++ then.0, then.1 ∙ ap (counts_with then.0) now.1 ∙ sym (counts_append now.0 then.0 before.yard.counts))

  pub of_all_runs : (runs : List RunPlan) (before after : Stage) (text : List ℕ) (result : Status) → RunsMade pass_seen book_seen plan runs before after text result → of_runs result ≡ true
  of_all_runs [] before after text result (same, is_text, is) = ap of_runs is
  of_all_runs (run ∷ runs) before after text result (inl (limit, same, is_text, is)) = ap of_runs is
  of_all_runs (run ∷ runs) before after text result (inr (inl (few, says, last))) = of_one_run pass_seen book_seen plan run before after text result says.one
  of_all_runs (run ∷ runs) before after text result (inr (inr (few, between, first, rest, one, others, says, last, made, is_text, is))) =
      ap of_runs is ∙ worse_has of_runs one others (of_one_run pass_seen book_seen plan run before between first one says.one) (of_all_runs runs between after rest others made)

  -- The ends of the code's cases.
  pub at_limit : (all : List RunPlan) (run : RunPlan) (runs : List RunPlan) (stage : Stage) → all ≡ run ∷ runs → plan.data_errors ≤ stage.errors → (text : List ℕ) × RunsMade pass_seen book_seen plan all stage stage text status.Good
  at_limit all run runs stage split limit =
      ([], subst (λ (l : List RunPlan). RunsMade pass_seen book_seen plan l stage stage [] status.Good) (sym split) (inl (limit, refl, refl, refl)))

  pub none_left : (all : List RunPlan) (stage : Stage) → length all ≡ 0 → (text : List ℕ) × RunsMade pass_seen book_seen plan all stage stage text status.Good
  none_left [] stage none = ([], (refl, refl, refl))
  none_left (run ∷ runs) stage none = absurd (omega (arith, none))

  pub last_made : (all : List RunPlan) (run : RunPlan) (runs : List RunPlan) (before after : Stage) (result : Status) → all ≡ run ∷ runs → before.errors < plan.data_errors → (text : List ℕ) × SaysOneRun pass_seen book_seen plan run before after text result → is_last result ≡ true
      → (text : List ℕ) × RunsMade pass_seen book_seen plan all before after text result
  last_made all run runs before after result split few (text, says) last =
      (text, subst (λ (l : List RunPlan). RunsMade pass_seen book_seen plan l before after text result) (sym split) (inr (inl (few, says, last))))

  pub more_made : (all : List RunPlan) (run : RunPlan) (runs : List RunPlan) (before between after : Stage) (one others result : Status) → all ≡ run ∷ runs → before.errors < plan.data_errors → (text : List ℕ) × SaysOneRun pass_seen book_seen plan run before between text one → is_last one ≡ false
      → (text : List ℕ) × RunsMade pass_seen book_seen plan runs between after text others → result ≡ worse one others → (text : List ℕ) × RunsMade pass_seen book_seen plan all before after text result
  more_made all run runs before between after one others result split few (first, says) last (rest, made) is =
      (first ++ rest, subst (λ (l : List RunPlan). RunsMade pass_seen book_seen plan l before after (first ++ rest) result) (sym split) (inr (inr (few, between, first, rest, one, others, says, last, made, refl, is))))

  pub one_goes_on : (run : RunPlan) (before after : Stage) (result : Status) → (text : List ℕ) × SaysOneRun pass_seen book_seen plan run before after text result → is_last result ≡ false → GoesOn result
  one_goes_on run before after result (text, says) last = goes_on result last (of_one_run pass_seen book_seen plan run before after text result says.one)

  pub one_sources : (run : RunPlan) (before after : Stage) (result : Status) → (text : List ℕ) × SaysOneRun pass_seen book_seen plan run before after text result → (path : List ℕ) → source_faults after.yard.counts path ≡ source_faults before.yard.counts path
  one_sources run before after result (text, says) path =
      let arms = one_counts pass_seen book_seen plan run before after text result says.one in
      ap (λ (c : Counts). source_faults c path) arms.1 ∙ sources_stay arms.0 before.yard.counts path

  module _ (laws : Laws) where
    pub first_rose : (run : RunPlan) (before after : Stage) (result : Status) → (text : List ℕ) × SaysOneRun pass_seen book_seen plan run before after text result → result ≡ status.Device → (path : List ℕ) × Rose (arm_faults before.yard.counts path) (arm_faults after.yard.counts path)
    first_rose run before after result (text, says) device = one_rose pass_seen book_seen plan run laws before after text result says.one device

    pub first_kept : (run : RunPlan) (before after : Stage) (result : Status) → (text : List ℕ) × SaysOneRun pass_seen book_seen plan run before after text result → result ≢ status.Device → result ≢ status.EpochEnd → result ≢ status.Journal → result ≢ status.Yard → result ≢ status.NoMemory
        → (path : List ℕ) → arm_faults after.yard.counts path ≡ arm_faults before.yard.counts path
    first_kept run before after result (text, says) device epoch journal yard memory path = one_kept pass_seen book_seen plan run laws before after text result says.one device epoch journal yard memory path

    module _ (run : RunPlan) (runs : List RunPlan) (before between after : Stage) (one others result : Status) (first : (text : List ℕ) × SaysOneRun pass_seen book_seen plan run before between text one) (rest : (text : List ℕ) × RunsMade pass_seen book_seen plan runs between after text others) (is : result ≡ worse one others) where
      pub all_rose : (others ≡ status.Device → (path : List ℕ) × Rose (arm_faults between.yard.counts path) (arm_faults after.yard.counts path)) → result ≡ status.Device → (path : List ℕ) × Rose (arm_faults before.yard.counts path) (arm_faults after.yard.counts path)
      all_rose later device = elim (worse_either one others) [
        | inl same ↦
            let rose = first_rose run before between one first (sym same ∙ sym is ∙ device) in
            let arms = runs_counts runs between after rest.0 others rest.1 in
            (rose.0, omega (arith, rose.1, never_falls arms.0 between.yard.counts rose.0, ap (λ (c : Counts). arm_faults c rose.0) arms.1))
        | inr same ↦
            let rose = later (sym same ∙ sym is ∙ device) in
            let arms = one_counts pass_seen book_seen plan run before between first.0 one first.1.one in
            (rose.0, omega (arith, rose.1, never_falls arms.0 before.yard.counts rose.0, ap (λ (c : Counts). arm_faults c rose.0) arms.1))
      ]

      pub all_kept : GoesOn one → (others ≢ status.Device → others ≢ status.EpochEnd → others ≢ status.Journal → others ≢ status.Yard → others ≢ status.NoMemory → (path : List ℕ) → arm_faults after.yard.counts path ≡ arm_faults between.yard.counts path)
          → result ≢ status.Device → result ≢ status.EpochEnd → result ≢ status.Journal → result ≢ status.Yard → result ≢ status.NoMemory → (path : List ℕ) → arm_faults after.yard.counts path ≡ arm_faults before.yard.counts path
      all_kept on later device epoch journal yard memory path =
          let known = of_all_runs runs between after rest.0 others rest.1 in
          later (device_shows one others result is on device) (epoch_shows one others result is on epoch) (journal_shows one others result is on journal) (yard_shows one others result is on yard) (memory_shows one others result is on memory) path
          ∙ first_kept run before between one first (first_no_device one others result is on known device epoch journal yard memory) (not_at_end one on) (none_failed one on) (no_yard_yet one on) (some_memory_yet one on) path
