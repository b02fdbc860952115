-- Which statuses are none of 0, 1 and 2, and which one of two is the worse.
use Rattle.std.proofs.Common.{◌≡◌, ◌∙◌, refl, sym, subst, inl, inr, ℕ, true, false, IsTrue, List}
use Rattle.std.specs.Prelude.{◌≢◌}
use Rattle.vd_yard.specs.Yard.{YardSeen}
use Rattle.plan_types.specs.declared.store.StorePlan.{StorePlan}
use Rattle.journal_recover.specs.declared.fault.RecoverFault.{RecoverFault}
use Rattle.journal_recover.specs.declared.fault.RecoverFault.TheVariants as refusal
use Rattle.run_report.specs.declared.status.Status.{Status}
use Rattle.run_report.specs.declared.status.Status.TheVariants as status
use Rattle.still_plan.specs.Journals.{JournalStop, JournalsStop, at_journal}
use Rattle.still_plan.specs.Journals as journals
use Rattle.still_plan.specs.Lines.{refusal_status}
use Rattle.plan_journals.specs.Closing.{WentWell}
use Rattle.plan_journals.specs.Open.{Start}
use Rattle.plan_reopened.specs.Reopening.{ReopenStop}
use Rattle.plan_reopened.specs.Reopening as reopening
use Rattle.plan_runs.specs.Stages.{is_last}
use Rattle.plan_runs.specs.Statuses.{worse}
use Rattle.plan_runs.proofs.Ended.{worse_either}
use Rattle.plan_verified.specs.Stores.{is_stop}
use Rattle.plan_totals.proofs.Books.{last_worse}

refusal_not_well : (fault : RecoverFault) → WentWell (refusal_status fault) → ⊥
refusal_not_well refusal.NoJournal well = well
refusal_not_well (refusal.Mismatch found wanted) well = well
refusal_not_well (refusal.Damaged sector what at) well = well
refusal_not_well refusal.Failed well = well
refusal_not_well refusal.NoMemory well = well

pub journal_unwell : (old new : YardSeen) (store : StorePlan) (text : List ℕ) (result : Status) → JournalStop old new store text result → WentWell result → ⊥
journal_unwell old new store text result (journals.unopened rose not is_text is) well = subst WentWell is well
journal_unwell old new store text result (journals.unrecovered fault by is_text is) well = refusal_not_well fault (subst WentWell is well)
journal_unwell old new store text result (journals.memory_out is_text is) well = subst WentWell is well
journal_unwell old new store text result (journals.output_shut is_text is) well = subst WentWell is well
journal_unwell old new store text result (journals.behind_line found recovers is_text (inl is)) well = subst WentWell is well
journal_unwell old new store text result (journals.behind_line found recovers is_text (inr is)) well = subst WentWell is well

pub journals_unwell : (old new : YardSeen) (stores : List StorePlan) (text : List ℕ) (result : Status) → JournalsStop old new stores text result → WentWell result → ⊥
journals_unwell old new stores text result (at_journal n found store part all there stop others is_text) well = journal_unwell old new store part result stop well

pub stop_unwell : (result : Status) → IsTrue (is_stop result) → WentWell result → ⊥
stop_unwell status.Good stop well = (let so : false ≡ true = stop in cc)
stop_unwell status.Corrupt stop well = (let so : false ≡ true = stop in cc)
stop_unwell status.Device stop well = (let so : false ≡ true = stop in cc)
stop_unwell status.EpochEnd stop well = well
stop_unwell status.Parameter stop well = well
stop_unwell status.Usage stop well = well
stop_unwell status.Source stop well = well
stop_unwell status.Sink stop well = well
stop_unwell status.Journal stop well = well
stop_unwell status.NoJournal stop well = well
stop_unwell status.Damaged stop well = well
stop_unwell status.Mismatch stop well = well
stop_unwell status.Yard stop well = well
stop_unwell status.NoMemory stop well = well

pub reopen_unwell : (old new : YardSeen) (start : Start) (opens : ℕ) (text : List ℕ) (result : Status) → ReopenStop old new start opens text result → WentWell result → ⊥
reopen_unwell old new start opens text result (reopening.last_is_over over keeps o is_text is) well = subst WentWell is well
reopen_unwell old new start opens text result (reopening.not_reopened low rose o is_text is) well = subst WentWell is well
reopen_unwell old new start opens text result (reopening.memory_out o is_text is) well = subst WentWell is well

pub unwell_not : (this result : Status) → WentWell this → (WentWell result → ⊥) → result ≢ this
unwell_not this result well unwell is = unwell (subst WentWell (sym is) well)

well_goes_on : (result : Status) → WentWell result → is_last result ≡ false
well_goes_on status.Good well = refl
well_goes_on status.Corrupt well = refl
well_goes_on status.Device well = refl
well_goes_on status.EpochEnd well = absurd well
well_goes_on status.Parameter well = absurd well
well_goes_on status.Usage well = absurd well
well_goes_on status.Source well = absurd well
well_goes_on status.Sink well = absurd well
well_goes_on status.Journal well = absurd well
well_goes_on status.NoJournal well = absurd well
well_goes_on status.Damaged well = absurd well
well_goes_on status.Mismatch well = absurd well
well_goes_on status.Yard well = absurd well
well_goes_on status.NoMemory well = absurd well

well_by : (result : Status) → is_last result ≡ false → WentWell result
well_by status.Good not = tt
well_by status.Corrupt not = tt
well_by status.Device not = tt
well_by status.EpochEnd not = absurd (let so : true ≡ false = not in cc)
well_by status.Parameter not = absurd (let so : true ≡ false = not in cc)
well_by status.Usage not = absurd (let so : true ≡ false = not in cc)
well_by status.Source not = absurd (let so : true ≡ false = not in cc)
well_by status.Sink not = absurd (let so : true ≡ false = not in cc)
well_by status.Journal not = absurd (let so : true ≡ false = not in cc)
well_by status.NoJournal not = absurd (let so : true ≡ false = not in cc)
well_by status.Damaged not = absurd (let so : true ≡ false = not in cc)
well_by status.Mismatch not = absurd (let so : true ≡ false = not in cc)
well_by status.Yard not = absurd (let so : true ≡ false = not in cc)
well_by status.NoMemory not = absurd (let so : true ≡ false = not in cc)

-- Where the worse of two statuses is one of 0, 1 and 2, the second is.
pub well_after : (first rest : Status) → WentWell (worse first rest) → WentWell rest
well_after first rest well = well_by rest (last_worse first rest (well_goes_on (worse first rest) well)).1

pub worse_not : (this first rest : Status) → first ≢ this → rest ≢ this → worse first rest ≢ this
worse_not this first rest one other e = elim (worse_either first rest) [
  | inl is ↦ one (sym is ∙ e)
  | inr is ↦ other (sym is ∙ e)
]
