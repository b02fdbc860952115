-- What a command keeps, and how it ends where nothing outside fails.
use Rattle.std.proofs.Common.{◌≡◌, ◌∙◌, refl, sym, ap, subst, inl, inr, ◌⊎◌, ℕ, false, IsTrue, List, [], map, Option, Some, Err}
use Rattle.std.specs.Prelude.{◌≢◌, slice_get}
use Rattle.vd_outside.specs.Causes.{Rose}
use Rattle.vd_outside.specs.Clocks.{ClockSeen}
use Rattle.vd_arm.specs.Arm.{PassSeen}
use Rattle.vd_disk.specs.Disk.{DiskSeen}
use Rattle.vd_yard.specs.Counts.{arm_faults}
use Rattle.vd_yard.specs.Kept.{Kept, kept_at}
use Rattle.vd_yard.specs.Out.{AtArm, AtSource}
use Rattle.vd_yard.specs.Yard.{Tells, YardSeen, is_there}
use Rattle.plan_types.specs.declared.plan.Plan.{Plan}
use Rattle.plan_types.specs.declared.store.StorePlan.{StorePlan}
use Rattle.plan_file.specs.Files.{PlansTo}
use Rattle.key_state.specs.Quiet.{quiet_seen}
use Rattle.key_state.specs.declared.seen.BookSeen.{BookSeen}
use Rattle.run_report.specs.Says.{printing}
use Rattle.run_report.specs.declared.status.Status.{Status}
use Rattle.run_report.specs.declared.status.Status.TheVariants as status
use Rattle.plan_hands.specs.Stores.{with_books}
use Rattle.plan_journals.specs.Closing.{WentWell}
use Rattle.plan_journals.specs.Growth.{SomeRose}
use Rattle.plan_runs.specs.Quiet.{CanEndRun, unwritten}
use Rattle.plan_runs.specs.Stages.{Stage, stage}
use Rattle.plan_totals.specs.Sentences.{DataFits}
use Rattle.run_totals.specs.Sentences.{ArmsAreSure}
use Rattle.plan_kept.specs.Fits.{FitsItsJournal, HasJournal, IsNoRefusal, IsNoWord}
use Rattle.plan_kept.specs.Laws.{NewDataFits, NewEnds, NewIsSound, NewIsSure, OldDataFits, OldEnds, OldIsSound, OldIsSure, QuietEnds, QuietIsSound, QuietIsSure, ValidAreRecovered}
use Rattle.plan_kept.proofs.Again.{moved_one}
use Rattle.plan_kept.proofs.Fitting.{sure_on, told_on}
use Rattle.vdbench_top.specs.Kept.{DataFitsJournals, EndsWell, KeepsFitting, NothingFails, OfItsStores}
use Rattle.vdbench_top.specs.Runs.{CanEndAs, CanEndJournaled, HasJournals, HasNoPlan, KeepsJournals, MakesJournals, OnlyReads, OverFile, ReopensJournals, RunCall, RunsFile, UsesJournals, no_plan, over_plan, ran, ran_journaled, ran_resumed, refused, rereading, unkept, unopened, unread, without_plan}
use Rattle.vdbench_top.specs.Still.{IsPlanOf}
use Rattle.vdbench_top.specs.Words.{Asked}
use Rattle.vdbench_top.specs.declared.words.Keeping.{Keeping}
use Rattle.vdbench_top.specs.declared.words.Keeping.TheVariants as keeping
use Rattle.vdbench_top.proofs.Runs.{no_plan_bad, no_plan_status}

-- ---- reading the parameter file leaves what is kept and told
disks_on : (a b : YardSeen) → OnlyReads a b → IsTrue a.tells.keeps_disks → IsTrue b.tells.keeps_disks
disks_on a b reads told = subst (λ (t : Tells). IsTrue t.keeps_disks) (sym reads.keeps.tells) told

pub fits_on : (a b : YardSeen) (store : StorePlan) → OnlyReads a b → FitsItsJournal a store → FitsItsJournal b store
fits_on a b store reads fits found recovers =
    subst (λ (k : Kept (List ℕ)). DataFits k store found.entries.items) (sym reads.untouched.unopened.contents)
    (fits found (moved_one b a store found (sym reads.untouched.disks) (sym reads.keeps.tells) recovers))

has_on : (a b : YardSeen) (store : StorePlan) → OnlyReads a b → HasJournal a store → HasJournal b store
has_on a b store reads has = record {
  disk = has.disk;
  kept = ap (λ (k : Kept DiskSeen). kept_at k store.journal) reads.untouched.disks ∙ has.kept;
  sectors = has.sectors;
  told = has.told;
  found = has.found;
  gives = has.gives;
}

told_still : (a b : YardSeen) (store : StorePlan) → OnlyReads a b → FitsItsJournal a store ⊎ IsTrue (a.tells.sure AtArm store.path) → FitsItsJournal b store ⊎ IsTrue (b.tells.sure AtArm store.path)
told_still a b store reads (inl fits) = inl (fits_on a b store reads fits)
told_still a b store reads (inr sure) = inr (subst (λ (t : Tells). IsTrue (t.sure AtArm store.path)) (sym reads.keeps.tells) sure)

module _ {P B : Type 0} (pass_seen : P → PassSeen) (book_seen : B → BookSeen) where
  -- the laws of plans' runs that are used here
  pub record Sound : Type 0 where
    pub quiet : QuietIsSound pass_seen quiet_seen
    pub anew : NewIsSound pass_seen book_seen
    pub again : OldIsSound pass_seen book_seen

  pub record Fitting : Type 0 where
    pub anew : NewDataFits pass_seen book_seen
    pub again : OldDataFits pass_seen book_seen

  pub record Ending : Type 0 where
    pub quiet : QuietEnds pass_seen quiet_seen
    pub anew : NewEnds pass_seen book_seen
    pub again : OldEnds pass_seen book_seen
    pub quiet_sure : QuietIsSure pass_seen quiet_seen
    pub anew_sure : NewIsSure pass_seen book_seen
    pub again_sure : OldIsSure pass_seen book_seen
    pub valid : ValidAreRecovered pass_seen book_seen

  -- ---- what is kept fits
  file_keeps : Fitting → (before after : Stage) (asks : Asked) (text : List ℕ) (result : Status) → RunsFile pass_seen book_seen before after asks text result → KeepsFitting before.yard after.yard asks result
  file_keeps laws before after asks text result (no_plan reads none clock says) used well disks told = absurd (no_plan_bad before.yard after.yard asks.file text result none well)
  file_keeps laws before after asks text result (ran plan kept is valid read reads runs) used well disks told = absurd (used kept)
  file_keeps laws before after asks text result (ran_journaled plan kept is valid read reads runs says keeps) used well disks told = (
    plan,
    is,
    λ place store at apart. laws.anew (rereading asks.again plan) (stage [] read before.clock 0 before.printing) after text result valid runs well
        (disks_on before.yard read reads disks) (told_on before.yard.tells read.tells reads.keeps.tells told) place store at,
  )
  file_keeps laws before after asks text result (ran_resumed plan kept is valid read reads went same uses) used well disks told = (
    plan,
    is,
    λ place store at apart. laws.again (rereading asks.again plan) (stage [] read before.clock 0 before.printing) after result valid went well
        (disks_on before.yard read reads disks) (told_on before.yard.tells read.tells reads.keeps.tells told) place store at (told_still before.yard read store reads (apart kept)),
  )

  pub call_keeps : Fitting → (a c : YardSeen) (k l : ClockSeen) (taken now : Option (List ℕ)) (m n : ℕ) (asks : Asked) (result : Status) → RunCall pass_seen book_seen a c k l taken now m n asks result → KeepsFitting a c asks result
  call_keeps laws a c k l taken now m n asks result call used well disks told =
      let heard : result ≢ status.Sink = λ f. subst WentWell f well in
      let is = (call.ends.printed_all heard).0 in
      file_keeps laws (stage [] a k 0 (printing false taken m)) (stage [] c l 0 call.last) asks call.text call.said call.runs used (subst WentWell is well) disks told

  -- ---- nothing fails
  module _ (laws : Ending) (a c : YardSeen) (m n : ℕ) (asks : Asked) (fails : NothingFails a c m n asks) where
    no_plan_word : (text : List ℕ) (result : Status) → HasNoPlan a c asks.file text result → IsNoWord result
    no_plan_word text result (unopened rose not is_text is) = subst IsNoWord (sym is) (record { no_usage = λ e. cc; no_parameter = λ e. cc; no_source = λ e. cc })
    no_plan_word text result (unread rose not is_text is) = absurd (not fails.source)
    no_plan_word text result (refused bytes are plans is) = absurd (fails.accepted bytes text are plans)
    no_plan_word text result (unkept is_text is) = subst IsNoWord (sym is) (record { no_usage = λ e. cc; no_parameter = λ e. cc; no_source = λ e. cc })

    file_word : (before after : Stage) (text : List ℕ) (result : Status) → before.yard ≡ a → after.yard ≡ c → RunsFile pass_seen book_seen before after asks text result → IsNoWord result
    file_word before after text result here there (no_plan reads none clock says) =
        no_plan_word text result (subst (λ (y : YardSeen). HasNoPlan a y asks.file text result) there (subst (λ (y : YardSeen). HasNoPlan y after.yard asks.file text result) here none))
    file_word before after text result here there (ran plan kept is valid read reads runs) =
        laws.quiet (rereading asks.again plan) (stage (with_books (map unwritten plan.stores)) read before.clock 0 before.printing) after text result runs
    file_word before after text result here there (ran_journaled plan kept is valid read reads runs says keeps) =
        laws.anew (rereading asks.again plan) (stage [] read before.clock 0 before.printing) after text result runs
    file_word before after text result here there (ran_resumed plan kept is valid read reads went same uses) =
        laws.again (rereading asks.again plan) (stage [] read before.clock 0 before.printing) after result went

    file_sure : (before after : Stage) (text : List ℕ) (result : Status) → ((plan : Plan) → IsPlanOf before.yard asks.file plan → ArmsAreSure before.yard plan.stores) → RunsFile pass_seen book_seen before after asks text result → result ≢ status.Device
    file_sure before after text result sure (no_plan reads none clock says) = no_plan_status before.yard after.yard asks.file text result status.Device none (λ e. cc) (λ e. cc) (λ e. cc) (λ e. cc)
    file_sure before after text result sure (ran plan kept is valid read reads runs) =
        laws.quiet_sure (rereading asks.again plan) (stage (with_books (map unwritten plan.stores)) read before.clock 0 before.printing) after text result valid (sure_on before.yard read plan.stores reads.keeps.tells (sure plan is)) runs
    file_sure before after text result sure (ran_journaled plan kept is valid read reads runs says keeps) =
        laws.anew_sure (rereading asks.again plan) (stage [] read before.clock 0 before.printing) after text result valid (sure_on before.yard read plan.stores reads.keeps.tells (sure plan is)) runs
    file_sure before after text result sure (ran_resumed plan kept is valid read reads went same uses) =
        laws.again_sure (rereading asks.again plan) (stage [] read before.clock 0 before.printing) after result valid (sure_on before.yard read plan.stores reads.keeps.tells (sure plan is)) went

    -- over valid journals that are there
    file_valid : (before after : Stage) (text : List ℕ) (result : Status) → asks.keeping ≡ keeping.OldJournals → OfItsStores before.yard asks.file (HasJournal before.yard)
        → RunsFile pass_seen book_seen before after asks text result → IsNoRefusal result
    file_valid before after text result is_old has (no_plan reads none clock says) = record {
      none_missing = no_plan_status before.yard after.yard asks.file text result status.NoJournal none (λ e. cc) (λ e. cc) (λ e. cc) (λ e. cc);
      none_damaged = no_plan_status before.yard after.yard asks.file text result status.Damaged none (λ e. cc) (λ e. cc) (λ e. cc) (λ e. cc);
      none_mismatched = no_plan_status before.yard after.yard asks.file text result status.Mismatch none (λ e. cc) (λ e. cc) (λ e. cc) (λ e. cc);
    }
    file_valid before after text result is_old has (ran plan kept is valid read reads runs) = absurd (let so : keeping.OldJournals ≡ keeping.Nothing = sym is_old ∙ kept in cc)
    file_valid before after text result is_old has (ran_journaled plan kept is valid read reads runs says keeps) = absurd (let so : keeping.OldJournals ≡ keeping.NewJournals = sym is_old ∙ kept in cc)
    file_valid before after text result is_old has (ran_resumed plan kept is valid read reads went same uses) =
        laws.valid (rereading asks.again plan) (stage [] read before.clock 0 before.printing) after result (λ place store at. has_on before.yard read store reads (has plan is place store at)) went

    module _ (k l : ClockSeen) (taken now : Option (List ℕ)) (result : Status) (call : RunCall pass_seen book_seen a c k l taken now m n asks result)
        (opens : IsTrue a.willing → IsTrue (is_there a.files AtSource asks.file) → HasJournals a asks.keeping asks.file → result ≢ status.Yard)
        (makes : asks.keeping ≡ keeping.NewJournals → MakesJournals a c asks.file result) (uses : asks.keeping ≡ keeping.OldJournals → UsesJournals a c asks.file result)
        (yard_fault : result ≡ status.Yard → Rose a.faults c.faults) (device_fault : result ≡ status.Device → (path : List ℕ) × Rose (arm_faults a.counts path) (arm_faults c.counts path))
        (sink_fault : result ≡ status.Sink → Rose m n) (can : (result ≡ status.Sink) ⊎ CanEndAs asks.keeping result) (sound : result ≢ status.Corrupt)
      where
        heard : result ≢ status.Sink
        heard is = fails.output (sink_fault is)

        is_said : result ≡ call.said
        is_said = (call.ends.printed_all heard).0

        word : IsNoWord result
        word = subst IsNoWord (sym is_said) (file_word (stage [] a k 0 (printing false taken m)) (stage [] c l 0 call.last) call.text call.said refl refl call.runs)

        can_end : CanEndAs asks.keeping result
        can_end = elim can [
          | inl sink ↦ absurd (heard sink)
          | inr is ↦ is
        ]

        not_device : result ≢ status.Device
        not_device is = elim fails.arms [
          | inl sure ↦ file_sure (stage [] a k 0 (printing false taken m)) (stage [] c l 0 call.last) call.text call.said sure call.runs (sym is_said ∙ is)
          | inr none ↦ none (device_fault is).0 (device_fault is).1
        ]

        not_yard : result ≢ status.Yard
        not_yard is = elim fails.yard [
          | inl none ↦ none (yard_fault is)
          | inr has ↦ opens has.0 has.1 has.2 is
        ]

        disk_rose : {Over : Plan → YardSeen → YardSeen → Status → Type 0} → ((plan : Plan) → Over plan a c result → result ≡ status.Journal → IsTrue a.tells.keeps_disks → SomeRose plan.stores a.disks c.disks)
            → asks.keeping ≢ keeping.Nothing → OverFile Over a c asks.file result → result ≢ status.Journal
        disk_rose failed used (without_plan same unwell none) is = none is
        disk_rose failed used (over_plan plan its over) is = (fails.disks used).1 plan its (failed plan over is (fails.disks used).0)

        not_journal : (kept : Keeping) → asks.keeping ≡ kept → result ≢ status.Journal
        not_journal keeping.Nothing its = (subst (λ (x : Keeping). CanEndAs x result) its can_end).no_journal_failed
        not_journal keeping.NewJournals its = disk_rose {Over = KeepsJournals} (λ plan over. over.failed) (λ none. (let so : keeping.NewJournals ≡ keeping.Nothing = sym its ∙ none in cc)) (makes its)
        not_journal keeping.OldJournals its = disk_rose {Over = ReopensJournals} (λ plan over. over.failed) (λ none. (let so : keeping.OldJournals ≡ keeping.Nothing = sym its ∙ none in cc)) (uses its)

        no_refusal : (kept : Keeping) → asks.keeping ≡ kept → IsNoRefusal result
        no_refusal keeping.Nothing its =
            let ends : CanEndRun result = subst (λ (x : Keeping). CanEndAs x result) its can_end in
            record { none_missing = ends.none_missing; none_damaged = ends.none_damaged; none_mismatched = ends.none_mismatched }
        no_refusal keeping.NewJournals its =
            let ends : CanEndJournaled result = subst (λ (x : Keeping). CanEndAs x result) its can_end in
            record { none_missing = ends.none_missing; none_damaged = ends.none_damaged; none_mismatched = ends.none_mismatched }
        no_refusal keeping.OldJournals its =
            subst IsNoRefusal (sym is_said) (file_valid (stage [] a k 0 (printing false taken m)) (stage [] c l 0 call.last) call.text call.said its (fails.journals its) call.runs)

        epoch_used : result ≡ status.EpochEnd → asks.keeping ≢ keeping.Nothing
        epoch_used is none =
            let ends : CanEndRun result = subst (λ (x : Keeping). CanEndAs x result) none can_end in
            ends.no_epoch_over is

        by : (this : Status) → result ≡ this → EndsWell asks result
        by status.Good is = inl is
        by status.NoMemory is = inr (inl is)
        by status.EpochEnd is = inr (inr (epoch_used is, is))
        by status.Corrupt is = absurd (sound is)
        by status.Device is = absurd (not_device is)
        by status.Journal is = absurd (not_journal asks.keeping refl is)
        by status.Yard is = absurd (not_yard is)
        by status.Sink is = absurd (heard is)
        by status.Usage is = absurd (word.no_usage is)
        by status.Parameter is = absurd (word.no_parameter is)
        by status.Source is = absurd (word.no_source is)
        by status.NoJournal is = absurd ((no_refusal asks.keeping refl).none_missing is)
        by status.Damaged is = absurd ((no_refusal asks.keeping refl).none_damaged is)
        by status.Mismatch is = absurd ((no_refusal asks.keeping refl).none_mismatched is)

        pub completes : EndsWell asks result
        completes = by result refl
