-- A plan's runs without journals.
use Rattle.std.specs.Prelude.{◌≡◌, ◌≢◌, ℕ, List, [], map, replicate}
use Rattle.vd_arm.specs.Arm.{PassSeen}
use Rattle.plan_types.specs.declared.plan.Plan.{Plan}
use Rattle.plan_types.specs.declared.store.StorePlan.{StorePlan}
use Rattle.key_state.specs.Quiet.{quiet}
use Rattle.key_state.specs.declared.entry.Entry.TheVariants.{Settled}
use Rattle.key_state.specs.declared.seen.BookSeen.{BookSeen}
use Rattle.run_report.specs.declared.status.Status.{Status}
use Rattle.run_report.specs.declared.status.Status.TheVariants as status
use Rattle.plan_hands.specs.Openings.{PassesBack}
use Rattle.plan_hands.specs.Stores.{with_books}
use Rattle.plan_runs.specs.Stages.{RunsMade, Stage}

-- the book of a store none of whose blocks was ever written
abbrev pub unwritten : StorePlan → BookSeen
unwritten store = quiet (replicate store.id.geometry.blocks (Settled 0)) 0 0

-- The runs of a plan were made, as far as they go, from blocks that count as never written, and all passes went back; or memory ran out
-- before the first of them, and nothing changed.
pub data RunsQuietly {P B : Type 0} (pass_seen : P → PassSeen) (book_seen : B → BookSeen) (plan : Plan) (before after : Stage) (text : List ℕ) (result : Status) : Type 0 where
  all_made : (last : Stage) → RunsMade pass_seen book_seen plan plan.runs before last text result
      → before.hands ≡ with_books (map unwritten plan.stores) → PassesBack plan last.hands last.yard after.yard
      → after.clock ≡ last.clock → after.printing ≡ last.printing → RunsQuietly pass_seen book_seen plan before after text result
  none_made : after.yard ≡ before.yard → after.clock ≡ before.clock → after.printing ≡ before.printing → text ≡ [] → result ≡ status.NoMemory
      → RunsQuietly pass_seen book_seen plan before after text result

-- How a command may end whose plan was run without journals, but for a failed output: never by a status of journals or of words.
pub record CanEndRun (result : Status) : Type 0 where
  pub no_usage : result ≢ status.Usage
  pub no_output : result ≢ status.Sink
  pub no_journal_failed : result ≢ status.Journal
  pub none_missing : result ≢ status.NoJournal
  pub none_damaged : result ≢ status.Damaged
  pub none_mismatched : result ≢ status.Mismatch
  pub no_epoch_over : result ≢ status.EpochEnd
