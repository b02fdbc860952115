-- No corrupt block is found, as far as a command comes, whatever its status: no line says that one is.
use Rattle.std.specs.Prelude.{⊤, ℕ, Bool, false, List, [], Option, map}
use Rattle.vd_arm.specs.Arm.{PassSeen}
use Rattle.vd_outside.specs.Clocks.{ClockSeen}
use Rattle.vd_yard.specs.Yard.{YardSeen}
use Rattle.plan_types.specs.declared.plan.Plan.{Plan}
use Rattle.key_state.specs.Quiet.{quiet_seen}
use Rattle.key_state.specs.declared.seen.BookSeen.{BookSeen}
use Rattle.run_report.specs.Says.{printing}
use Rattle.run_report.specs.declared.status.Status.{Status}
use Rattle.plan_hands.specs.Stores.{with_books}
use Rattle.plan_runs.specs.Quiet.{unwritten}
use Rattle.plan_runs.specs.Stages.{Stage, stage}
use Rattle.plan_kept.specs.Clean.{NewFindsNone, QuietFindsNone, ResumedFindsNone, StillFindsNone}
use Rattle.vdbench_top.specs.Runs.{RunCall, RunsFile, no_plan, ran, ran_journaled, ran_resumed, rereading}
use Rattle.vdbench_top.specs.Still.{SaidOfBytes, SaidOfFile, SaidOfPlan}
use Rattle.vdbench_top.specs.Still as still
use Rattle.vdbench_top.specs.Words.{Asked}

-- a still command, over its plan, its bytes and its parameter file
abbrev pub PlanFindsNone : (old new : YardSeen) (shows : Bool) (plan : Plan) (text : List ℕ) (result : Status) → SaidOfPlan old new shows plan text result → Type 0
PlanFindsNone old new shows plan text result (still.looked shown still stay counts) = StillFindsNone old new plan.stores text result still
PlanFindsNone old new shows plan text result other = ⊤

abbrev pub BytesFindNone : (old new : YardSeen) (shows : Bool) (bytes text : List ℕ) (result : Status) → SaidOfBytes old new shows bytes text result → Type 0
BytesFindNone old new shows bytes text result (still.planned plan plans says) = PlanFindsNone old new shows plan text result says
BytesFindNone old new shows bytes text result other = ⊤

abbrev pub SaidFindsNone : (old new : YardSeen) (shows : Bool) (file text : List ℕ) (result : Status) → SaidOfFile old new shows file text result → Type 0
SaidFindsNone old new shows file text result (still.read bytes are says) = BytesFindNone old new shows bytes text result says
SaidFindsNone old new shows file text result other = ⊤

-- a command that runs its plan
abbrev pub FileFindsNone : {P B : Type 0} (pass_seen : P → PassSeen) (book_seen : B → BookSeen) (before after : Stage) (asks : Asked) (text : List ℕ) (result : Status)
    → RunsFile pass_seen book_seen before after asks text result → Type 0
FileFindsNone pass_seen book_seen before after asks text result (no_plan reads none clock says) = ⊤
FileFindsNone pass_seen book_seen before after asks text result (ran plan kept is valid read reads runs) =
    QuietFindsNone pass_seen quiet_seen (rereading asks.again plan) (stage (with_books (map unwritten plan.stores)) read before.clock 0 before.printing) after text result runs
FileFindsNone pass_seen book_seen before after asks text result (ran_journaled plan kept is valid read reads runs says keeps) =
    NewFindsNone pass_seen book_seen (rereading asks.again plan) (stage [] read before.clock 0 before.printing) after text result runs
FileFindsNone pass_seen book_seen before after asks text result (ran_resumed plan kept is valid read reads went texts uses) =
    ResumedFindsNone pass_seen book_seen (rereading asks.again plan) (stage [] read before.clock 0 before.printing) after went.starts went.text result went.does

abbrev pub CallFindsNone : {P B : Type 0} {pass_seen : P → PassSeen} {book_seen : B → BookSeen} {old new : YardSeen} {clock_before clock_after : ClockSeen} {taken_before taken_after : Option (List ℕ)} {faults_before faults_after : ℕ} {asks : Asked} {result : Status}
    → RunCall pass_seen book_seen old new clock_before clock_after taken_before taken_after faults_before faults_after asks result → Type 0
CallFindsNone {P} {B} {pass_seen} {book_seen} {old} {new} {clock_before} {clock_after} {taken_before} {taken_after} {faults_before} {faults_after} {asks} {result} call =
    FileFindsNone pass_seen book_seen (stage [] old clock_before 0 (printing false taken_before faults_before)) (stage [] new clock_after 0 call.last) asks call.text call.said call.runs
