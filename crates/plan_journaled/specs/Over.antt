-- The runs of a plan over open journals, which are closed behind them.
use Rattle.std.specs.Prelude.{◌≡◌, ◌≢◌, ℕ, ◌++◌, IsTrue, List, map}
use Rattle.vd_arm.specs.Arm.{PassSeen}
use Rattle.vd_disk.specs.Disk.{DiskSeen}
use Rattle.plan_types.specs.declared.plan.Plan.{Plan}
use Rattle.vd_yard.specs.Kept.{Kept}
use Rattle.vd_yard.specs.Out.{Out}
use Rattle.vd_yard.specs.Yard.{YardSeen}
use Rattle.key_state.specs.declared.seen.BookSeen.{BookSeen}
use Rattle.slave_worker.specs.Hands.{HandSeen}
use Rattle.run_report.specs.Says.{Says}
use Rattle.run_report.specs.declared.status.Status.{Status}
use Rattle.run_report.specs.declared.status.Status.TheVariants as status
use Rattle.plan_hands.specs.Openings.{PassesBack, passes_out}
use Rattle.plan_hands.specs.Stores.{book_of}
use Rattle.plan_journals.specs.Closing.{AllEnded, AreJournalsApart, IsClosingStatus, WentWell, after_closing, ends_text}
use Rattle.plan_journals.specs.Growth.{AreKeptClosed, LeavesRest}
use Rattle.plan_journals.specs.Open.{AllFollow, AreFrom, Held, Start, out_besides, seen_held}
use Rattle.plan_runs.specs.Stages.{RunsMade, Stage}

-- the books of hands, store by store
abbrev pub books_of : List HandSeen → List BookSeen
books_of hands = map book_of hands

-- The runs of a plan were made from hands whose books are open journals, as far as they go; all open passes went back, and the journals were
-- closed as the runs left them. The text is that of the runs, and behind it the lines of the journals that failed only as they were closed.
pub record RunsClosed {P B : Type 0} (pass_seen : P → PassSeen) (book_seen : B → BookSeen) (plan : Plan) (before after : Stage) (text : List ℕ) (result : Status) : Type 0 where
  pub last : Stage
  pub runs_text : List ℕ
  pub work : Status
  pub made : RunsMade pass_seen book_seen plan plan.runs before last runs_text work
  pub back : YardSeen
  pub passes : PassesBack plan last.hands last.yard back
  pub held : List Held
  pub same : map seen_held held ≡ books_of last.hands
  pub follow : AllFollow (books_of before.hands) (books_of last.hands)
  pub closing : Status
  pub ended : AllEnded back after.yard plan.stores held last.printing after.printing closing
  pub answers : IsClosingStatus closing
  pub rest : LeavesRest back after.yard
  pub faults : after.yard.faults ≡ back.faults
  pub clock : after.clock ≡ last.clock
  pub texts : text ≡ runs_text ++ ends_text plan.stores ended.ends
  pub says : Says before.printing after.printing text
  pub is : result ≡ after_closing work closing
  -- With a status of 0, 1 or 2 each journal stands closed on the kept disk, with all records of its book, wherever it was opened from.
  pub whole : (starts : List Start) (first : Kept DiskSeen) → WentWell result → IsTrue before.yard.tells.keeps_disks → AreJournalsApart plan.stores
      → AreFrom first plan.stores starts (books_of before.hands) → AreKeptClosed first after.yard.disks starts (books_of last.hands)

-- The open passes of the hands, and the disks of all journals of the plan, are out besides what was.
abbrev pub StoresAreOut : Plan → List HandSeen → Out → Out → Type 0
StoresAreOut plan hands before out = out ≡ passes_out plan hands (out_besides before plan.stores)

-- How a command may end whose plan was run over journals, but for a failed output: by no status of words, of a parameter file, or of a
-- journal's contents.
pub record CanEndOver (result : Status) : Type 0 where
  pub no_usage : result ≢ status.Usage
  pub no_parameter : result ≢ status.Parameter
  pub no_source : result ≢ status.Source
  pub no_output : result ≢ status.Sink
  pub none_missing : result ≢ status.NoJournal
  pub none_damaged : result ≢ status.Damaged
  pub none_mismatched : result ≢ status.Mismatch
