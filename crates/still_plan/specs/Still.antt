-- The text and the status of a still command over the stores of a plan.
use Rattle.std.specs.Prelude.{◌≡◌, ℕ, Bool, true, false, List, ◌++◌}
use Rattle.vd_yard.specs.Yard.{YardSeen}
use Rattle.plan_types.specs.declared.store.StorePlan.{StorePlan}
use Rattle.journal_recover.specs.declared.found.Recovered.{Recovered}
use Rattle.run_report.specs.declared.status.Status.{Status}
use Rattle.run_report.specs.declared.status.Status.TheVariants as status
use Rattle.still_plan.specs.Frame.{IsUnopened}
use Rattle.still_plan.specs.Journals.{AllRecover, JournalsStop, journals_text}
use Rattle.still_plan.specs.Stores.{StoresEnd}

-- First every journal is recovered and its line said, in order; then every store is verified and its lines are said, in order. The
-- command stops at a journal, and no data was opened; or all are recovered, and it ends as the stores do.
pub data IsStill (old new : YardSeen) (stores : List StorePlan) (text : List ℕ) (result : Status) : Type 0 where
  stops : JournalsStop old new stores text result → IsUnopened old new → IsStill old new stores text result
  ends : (found : List Recovered) (part : List ℕ) → AllRecover old stores found → StoresEnd old new stores found part result
      → text ≡ journals_text stores found ++ part → IsStill old new stores text result

-- the statuses that it has
abbrev pub is_still_status : Status → Bool
is_still_status status.Good = true
is_still_status status.Corrupt = true
is_still_status status.Device = true
is_still_status status.Sink = true
is_still_status status.Journal = true
is_still_status status.NoJournal = true
is_still_status status.Damaged = true
is_still_status status.Mismatch = true
is_still_status status.Yard = true
is_still_status status.NoMemory = true
is_still_status status.Parameter = false
is_still_status status.Usage = false
is_still_status status.Source = false
is_still_status status.EpochEnd = false
