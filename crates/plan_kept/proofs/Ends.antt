-- Which statuses a command over a plan's runs ends with.
use Rattle.std.proofs.Common.{◌≡◌, ◌∙◌, refl, sym, ap, inl, inr, ℕ, ◌==◌, Bool, true, false, IsTrue, List}
use Rattle.std.specs.Prelude.{Err, Ok, Some, count_by, if◌then◌else◌, slice_get}
use Rattle.vd_arm.specs.Arm.{PassSeen}
use Rattle.vd_base.specs.declared.geometry.StoreId.{StoreId}
use Rattle.vd_disk.specs.Disk.{DiskSeen}
use Rattle.vd_yard.specs.Yard.{YardSeen}
use Rattle.plan_types.specs.declared.plan.Plan.{Plan}
use Rattle.plan_types.specs.declared.store.StorePlan.{StorePlan}
use Rattle.key_state.specs.declared.seen.BookSeen.{BookSeen}
use Rattle.journal_layout.specs.Recovery.{Damaged, GivesOnce, Mismatch, NoJournal, Recovers, Sectors}
use Rattle.journal_recover.specs.Answers.{Answers}
use Rattle.journal_recover.specs.declared.fault.RecoverFault.{RecoverFault}
use Rattle.journal_recover.specs.declared.fault.RecoverFault.TheVariants as refusal
use Rattle.journal_recover.specs.declared.found.Recovered.{Recovered}
use Rattle.recover_run.specs.Looks.{is_corrupt, is_unread}
use Rattle.recover_run.specs.declared.look.Look.{Look}
use Rattle.run_report.specs.declared.status.Status.{Status}
use Rattle.run_report.specs.declared.status.Status.TheVariants as status
use Rattle.still_plan.specs.Journals.{JournalStop, JournalsStop, at_journal}
use Rattle.still_plan.specs.Journals as journals
use Rattle.still_plan.specs.Lines.{refusal_status}
use Rattle.still_plan.specs.Stores.{all_looks, looks_status}
use Rattle.plan_journals.specs.Open.{Start}
use Rattle.plan_journals.specs.Opening.{OpenStop}
use Rattle.plan_journals.specs.Opening as opening
use Rattle.plan_reopened.specs.Reopening.{ReopenStop}
use Rattle.plan_reopened.specs.Reopening as reopening
use Rattle.plan_runs.specs.Quiet as quietly
use Rattle.plan_runs.specs.Stages.{Stage}
use Rattle.plan_runs.proofs.Ended.{of_runs, worse_has}
use Rattle.plan_verified.specs.Stores.{StoreSeen, is_stop}
use Rattle.plan_journaled.specs.Journaled as journaled
use Rattle.plan_journaled.proofs.Ending.{closing_has, refused_has, runs_end}
use Rattle.plan_resumed.specs.Going.{GoesOn}
use Rattle.plan_resumed.specs.Going as going
use Rattle.plan_resumed.specs.Resumed.{RunsResumed}
use Rattle.plan_resumed.specs.Resumed as resumed
use Rattle.plan_kept.specs.Fits.{HasJournal, IsNoRefusal, IsNoWord}
use Rattle.plan_kept.specs.Laws.{NewEnds, OldEnds, QuietEnds, ValidAreRecovered}

-- whether a status is of no words, parameter file or source
abbrev no_word : Status → Bool
no_word status.Usage = false
no_word status.Parameter = false
no_word status.Source = false
no_word other = true

-- whether it is of no journal's contents
abbrev no_refusal : Status → Bool
no_refusal status.NoJournal = false
no_refusal status.Damaged = false
no_refusal status.Mismatch = false
no_refusal other = true

of_runs_word : (result : Status) → of_runs result ≡ true → no_word result ≡ true
of_runs_word status.Good known = refl
of_runs_word status.Corrupt known = refl
of_runs_word status.Device known = refl
of_runs_word status.EpochEnd known = refl
of_runs_word status.Journal known = refl
of_runs_word status.Yard known = refl
of_runs_word status.NoMemory known = refl
of_runs_word status.Parameter known = absurd (let so : false ≡ true = known in cc)
of_runs_word status.Source known = absurd (let so : false ≡ true = known in cc)
of_runs_word status.Usage known = absurd (let so : false ≡ true = known in cc)
of_runs_word status.Sink known = refl
of_runs_word status.NoJournal known = refl
of_runs_word status.Damaged known = refl
of_runs_word status.Mismatch known = refl

of_runs_refusal : (result : Status) → of_runs result ≡ true → no_refusal result ≡ true
of_runs_refusal status.Good known = refl
of_runs_refusal status.Corrupt known = refl
of_runs_refusal status.Device known = refl
of_runs_refusal status.EpochEnd known = refl
of_runs_refusal status.Journal known = refl
of_runs_refusal status.Yard known = refl
of_runs_refusal status.NoMemory known = refl
of_runs_refusal status.Parameter known = refl
of_runs_refusal status.Source known = refl
of_runs_refusal status.Usage known = refl
of_runs_refusal status.Sink known = refl
of_runs_refusal status.NoJournal known = absurd (let so : false ≡ true = known in cc)
of_runs_refusal status.Damaged known = absurd (let so : false ≡ true = known in cc)
of_runs_refusal status.Mismatch known = absurd (let so : false ≡ true = known in cc)

stop_word : (result : Status) → IsTrue (is_stop result) → no_word result ≡ true
stop_word status.Good stop = refl
stop_word status.Corrupt stop = refl
stop_word status.Device stop = refl
stop_word status.EpochEnd stop = refl
stop_word status.Journal stop = refl
stop_word status.Yard stop = refl
stop_word status.NoMemory stop = refl
stop_word status.Parameter stop = absurd (let so : false ≡ true = stop in cc)
stop_word status.Source stop = absurd (let so : false ≡ true = stop in cc)
stop_word status.Usage stop = absurd (let so : false ≡ true = stop in cc)
stop_word status.Sink stop = refl
stop_word status.NoJournal stop = refl
stop_word status.Damaged stop = refl
stop_word status.Mismatch stop = refl

stop_refusal : (result : Status) → IsTrue (is_stop result) → no_refusal result ≡ true
stop_refusal status.Good stop = refl
stop_refusal status.Corrupt stop = refl
stop_refusal status.Device stop = refl
stop_refusal status.EpochEnd stop = refl
stop_refusal status.Journal stop = refl
stop_refusal status.Yard stop = refl
stop_refusal status.NoMemory stop = refl
stop_refusal status.Parameter stop = refl
stop_refusal status.Source stop = refl
stop_refusal status.Usage stop = refl
stop_refusal status.Sink stop = refl
stop_refusal status.NoJournal stop = absurd (let so : false ≡ true = stop in cc)
stop_refusal status.Damaged stop = absurd (let so : false ≡ true = stop in cc)
stop_refusal status.Mismatch stop = absurd (let so : false ≡ true = stop in cc)

is_no_word : (result : Status) → no_word result ≡ true → IsNoWord result
is_no_word result known = record {
  no_usage = λ is. let so : false ≡ true = sym (ap no_word is) ∙ known in cc;
  no_parameter = λ is. let so : false ≡ true = sym (ap no_word is) ∙ known in cc;
  no_source = λ is. let so : false ≡ true = sym (ap no_word is) ∙ known in cc;
}

is_no_refusal : (result : Status) → no_refusal result ≡ true → IsNoRefusal result
is_no_refusal result known = record {
  none_missing = λ is. let so : false ≡ true = sym (ap no_refusal is) ∙ known in cc;
  none_damaged = λ is. let so : false ≡ true = sym (ap no_refusal is) ∙ known in cc;
  none_mismatched = λ is. let so : false ≡ true = sym (ap no_refusal is) ∙ known in cc;
}

-- ---- journals that aren't recovered
refusal_word : (fault : RecoverFault) → no_word (refusal_status fault) ≡ true
refusal_word refusal.NoJournal = refl
refusal_word (refusal.Mismatch found wanted) = refl
refusal_word (refusal.Damaged sector what at) = refl
refusal_word refusal.Failed = refl
refusal_word refusal.NoMemory = refl

journal_word : (old new : YardSeen) (store : StorePlan) (text : List ℕ) (result : Status) → JournalStop old new store text result → no_word result ≡ true
journal_word old new store text result (journals.unopened rose not is_text is) = ap no_word is
journal_word old new store text result (journals.unrecovered fault by is_text is) = ap no_word is ∙ refusal_word fault
journal_word old new store text result (journals.memory_out is_text is) = ap no_word is
journal_word old new store text result (journals.output_shut is_text is) = ap no_word is
journal_word old new store text result (journals.behind_line found recovers is_text (inl is)) = ap no_word is
journal_word old new store text result (journals.behind_line found recovers is_text (inr is)) = ap no_word is

-- A valid one has none of their refusals.
valid_fault : GivesOnce → (sectors : Sectors) (id : StoreId) (found : Recovered) (fault : RecoverFault) → Answers sectors id (Ok found) → Answers sectors id (Err fault) → no_refusal (refusal_status fault) ≡ true
valid_fault once sectors id found refusal.NoJournal gives other = absurd (let so = once sectors id (Recovers found.live gives.0 found.entries.items) NoJournal gives.2 other in cc)
valid_fault once sectors id found (refusal.Mismatch its named) gives other = absurd (let so = once sectors id (Recovers found.live gives.0 found.entries.items) (Mismatch its) gives.2 other.0 in cc)
valid_fault once sectors id found (refusal.Damaged sector what at) gives other = absurd (let so = once sectors id (Recovers found.live gives.0 found.entries.items) (Damaged sector what at) gives.2 other in cc)
valid_fault once sectors id found refusal.Failed gives other = refl
valid_fault once sectors id found refusal.NoMemory gives other = refl

journal_valid : GivesOnce → (old new : YardSeen) (store : StorePlan) (text : List ℕ) (result : Status) → HasJournal old store → JournalStop old new store text result → no_refusal result ≡ true
journal_valid once old new store text result has (journals.unopened rose not is_text is) = ap no_refusal is
journal_valid once old new store text result has (journals.unrecovered fault by is_text is) =
    ap no_refusal is ∙ valid_fault once has.sectors store.id has.found fault has.gives (by.gives has.disk has.kept has.sectors has.told)
journal_valid once old new store text result has (journals.memory_out is_text is) = ap no_refusal is
journal_valid once old new store text result has (journals.output_shut is_text is) = ap no_refusal is
journal_valid once old new store text result has (journals.behind_line found recovers is_text (inl is)) = ap no_refusal is
journal_valid once old new store text result has (journals.behind_line found recovers is_text (inr is)) = ap no_refusal is

-- ---- openings that stop, and looks
open_runs : (old new : YardSeen) (store : StorePlan) (opens : ℕ) (text : List ℕ) (result : Status) → OpenStop old new store opens text result → of_runs result ≡ true
open_runs old new store opens text result (opening.unopened r w d o t s) = ap of_runs s
open_runs old new store opens text result (opening.unmade r f o t s) = ap of_runs s
open_runs old new store opens text result (opening.memory_out o t s) = ap of_runs s

reopen_runs : (old new : YardSeen) (start : Start) (opens : ℕ) (text : List ℕ) (result : Status) → ReopenStop old new start opens text result → of_runs result ≡ true
reopen_runs old new start opens text result (reopening.last_is_over over keeps o t s) = ap of_runs s
reopen_runs old new start opens text result (reopening.not_reopened low rose o t s) = ap of_runs s
reopen_runs old new start opens text result (reopening.memory_out o t s) = ap of_runs s

looks_runs : (looks : List Look) → of_runs (looks_status looks) ≡ true
looks_runs looks = by (count_by is_unread looks == 0) (count_by is_corrupt looks == 0)
  where
    by : (a b : Bool) → of_runs (if a then (if b then status.Good else status.Corrupt) else status.Device) ≡ true
    by true true = refl
    by true false = refl
    by false b = refl

module _ {P B : Type 0} (pass_seen : P → PassSeen) (book_seen : B → BookSeen) where
  pub quiet_ends : QuietEnds pass_seen book_seen
  quiet_ends plan before after text result (quietly.all_made last runs hands back clock printing) = is_no_word result (of_runs_word result (runs_end pass_seen book_seen plan plan.runs before last text result runs))
  quiet_ends plan before after text result (quietly.none_made yard clock printing none memory) = is_no_word result (ap no_word memory)

  pub new_ends : NewEnds pass_seen book_seen
  new_ends plan before after text result (journaled.ran books opened said all_open rest closed texts) =
      is_no_word result (ap no_word closed.is ∙ of_runs_word _ (closing_has of_runs closed.work closed.closing closed.answers (runs_end pass_seen book_seen plan plan.runs _ closed.last closed.runs_text closed.work closed.made) refl refl))
  new_ends plan before after text result (journaled.unseated books opened said all_open unused clock texts memory) = is_no_word result (ap no_word memory)
  new_ends plan before after text result (journaled.stopped books opened said why stops leaves unused clock texts is) =
      is_no_word result (ap no_word is ∙ of_runs_word _ (refused_has of_runs why unused.closing unused.answers (open_runs _ _ _ _ _ why stops.stop) refl))

  goes_runs : (plan : Plan) (disks : List DiskSeen) (starts : List Start) (left : List StoreSeen) (before after : Stage) (text : List ℕ) (result : Status) → GoesOn pass_seen book_seen plan disks starts left before after text result → of_runs result ≡ true
  goes_runs plan disks starts left before after text result (going.went_on books printed opens on stores rest closed texts) =
      ap of_runs closed.is ∙ closing_has of_runs closed.work closed.closing closed.answers (runs_end pass_seen book_seen plan plan.runs _ closed.last closed.runs_text closed.work closed.made) refl refl
  goes_runs plan disks starts left before after text result (going.unseated books printed opens on unused clock texts memory) = ap of_runs memory
  goes_runs plan disks starts left before after text result (going.stopped books opened printed why stops on leaves same unused clock texts is) =
      ap of_runs is ∙ refused_has of_runs why unused.closing unused.answers (reopen_runs _ _ _ _ _ why stops.stop) refl
  goes_runs plan disks starts left before after text result (going.not_begun given clock texts memory) = ap of_runs memory

  old_word : (plan : Plan) (before after : Stage) (starts : List Start) (text : List ℕ) (result : Status) → RunsResumed pass_seen book_seen plan before after starts text result → no_word result ≡ true
  old_word plan before after starts text result (resumed.not_recovered (at_journal n found store part all there stop others is_text) leaves stay clock none) = journal_word before.yard after.yard store part result stop
  old_word plan before after starts text result (resumed.not_verified found recovered said have verified rest ends stop blocks same leaves disks clock none texts) = stop_word result stop
  old_word plan before after starts text result (resumed.resumed found recovered said have unfailed seen left verified told looked from rest after_that goes texts is) =
      ap no_word is ∙ of_runs_word _ (worse_has of_runs (looks_status (all_looks seen)) after_that (looks_runs (all_looks seen)) (goes_runs plan have.disks starts left _ after rest after_that goes))

  pub old_ends : OldEnds pass_seen book_seen
  old_ends plan before after result went = is_no_word result (old_word plan before after went.starts went.text result went.does)

  old_refusal : GivesOnce → (plan : Plan) (before after : Stage) (starts : List Start) (text : List ℕ) (result : Status) → ((place : ℕ) (store : StorePlan) → slice_get plan.stores place ≡ Some store → HasJournal before.yard store)
      → RunsResumed pass_seen book_seen plan before after starts text result → no_refusal result ≡ true
  old_refusal once plan before after starts text result has (resumed.not_recovered (at_journal n found store part all there stop others is_text) leaves stay clock none) = journal_valid once before.yard after.yard store part result (has n store there) stop
  old_refusal once plan before after starts text result has (resumed.not_verified found recovered said have verified rest ends stop blocks same leaves disks clock none texts) = stop_refusal result stop
  old_refusal once plan before after starts text result has (resumed.resumed found recovered said have unfailed seen left verified told looked from rest after_that goes texts is) =
      ap no_refusal is ∙ of_runs_refusal _ (worse_has of_runs (looks_status (all_looks seen)) after_that (looks_runs (all_looks seen)) (goes_runs plan have.disks starts left _ after rest after_that goes))

  pub valid_are_recovered : GivesOnce → ValidAreRecovered pass_seen book_seen
  valid_are_recovered once plan before after result has went = is_no_refusal result (old_refusal once plan before after went.starts went.text result has went.does)
