-- A plan's runs over journals that are made anew.
use Rattle.std.specs.Prelude.{◌≡◌, ℕ, ◌++◌, List, [], length, map, take}
use Rattle.vd_arm.specs.Arm.{PassSeen}
use Rattle.plan_types.specs.declared.plan.Plan.{Plan}
use Rattle.vd_yard.specs.Yard.{YardSeen}
use Rattle.key_state.specs.declared.seen.BookSeen.{BookSeen}
use Rattle.run_report.specs.Says.{Printing}
use Rattle.run_report.specs.declared.status.Status.{Status}
use Rattle.run_report.specs.declared.status.Status.TheVariants as status
use Rattle.plan_hands.specs.Stores.{with_books}
use Rattle.plan_journals.specs.Closing.{AllEnded, IsClosingStatus, after_refusal, ends_text}
use Rattle.plan_journals.specs.Growth.{AreKeptClosed, LeavesRest}
use Rattle.plan_journals.specs.Open.{Held, new_starts, seen_held}
use Rattle.plan_journals.specs.Opening.{AllOpened, OpeningEnds, opened_lines}
use Rattle.plan_runs.specs.Stages.{Stage, stage}
use Rattle.plan_journaled.specs.Over.{RunsClosed}

-- All journals of a plan were made anew, and these are their books.
pub record AreOpen (plan : Plan) (before : Stage) (books : List BookSeen) (opened : YardSeen) (said : Printing) : Type 0 where
  pub opens : AllOpened before.yard opened plan.stores plan.journal_sectors [] books before.printing said
  pub leaves : LeavesRest before.yard opened

-- Open journals were closed again without a run.
pub record ClosedUnused (plan : Plan) (books : List BookSeen) (opened : YardSeen) (said : Printing) (after : Stage) : Type 0 where
  pub held : List Held
  pub same : map seen_held held ≡ books
  pub closing : Status
  pub ended : AllEnded opened after.yard plan.stores held said after.printing closing
  pub answers : IsClosingStatus closing
  pub rest : LeavesRest opened after.yard
  pub faults : after.yard.faults ≡ opened.faults

-- What a command does that runs its plan over journals that are made anew, its text and its status.
pub data RunsJournaled {P B : Type 0} (pass_seen : P → PassSeen) (book_seen : B → BookSeen) (plan : Plan) (before after : Stage) (text : List ℕ) (result : Status) : Type 0 where
  -- all were made, the runs were made over them, and they were closed
  ran : (books : List BookSeen) (opened : YardSeen) (said : Printing) → AreOpen plan before books opened said
      → (rest : List ℕ) → RunsClosed pass_seen book_seen plan (stage (with_books books) opened before.clock 0 said) after rest result
      → text ≡ opened_lines plan.stores ++ rest → RunsJournaled pass_seen book_seen plan before after text result
  -- all were made, memory ran out before the first run, and they were closed
  unseated : (books : List BookSeen) (opened : YardSeen) (said : Printing) → AreOpen plan before books opened said
      → (unused : ClosedUnused plan books opened said after) → after.clock ≡ before.clock
      → text ≡ opened_lines plan.stores ++ ends_text plan.stores unused.ended.ends → result ≡ status.NoMemory
      → RunsJournaled pass_seen book_seen plan before after text result
  -- an opening stopped, and those that were open were closed
  stopped : (books : List BookSeen) (opened : YardSeen) (said : Printing) (why : Status)
      → (stops : OpeningEnds before.yard opened plan.stores plan.journal_sectors [] books before.printing said why)
      → LeavesRest before.yard opened → (unused : ClosedUnused plan books opened said after) → after.clock ≡ before.clock
      → text ≡ (opened_lines (take stops.place plan.stores) ++ stops.text) ++ ends_text plan.stores unused.ended.ends
      → result ≡ after_refusal why unused.closing → RunsJournaled pass_seen book_seen plan before after text result

-- Each store's new journal stands closed on the disk that is kept at its path, with all records of its book.
pub record StandClosed (plan : Plan) (old new : YardSeen) : Type 0 where
  pub books : List BookSeen
  pub one_each : length books ≡ length plan.stores
  pub closed : AreKeptClosed old.disks new.disks (new_starts plan.journal_sectors plan.stores) books
