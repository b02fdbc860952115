-- What a command without a parameter file prints.
use Rattle.std.specs.Prelude.{◌≡◌, ℕ, List, [], Some, None}
use Rattle.interleave_core.specs.declared.summary.Summary.{Summary}
use Rattle.interleave_core.specs.Schedule.{Simulates}
use Rattle.run_report.specs.declared.simulation.Simulated.{Simulated}
use Rattle.run_report.specs.declared.status.Status.{Status}
use Rattle.run_report.specs.declared.status.Status.TheVariants as status
use Rattle.run_report.specs.Lines.{usage_text}
use Rattle.run_report.specs.Simulation.{simulation_text}
use Rattle.vdbench_top.specs.Words.{steps_of}

abbrev pub simulated : ℕ → Summary → Simulated
simulated n counts = record { steps = n; taken = counts.taken; idle = counts.idle; ends = counts.ends; stops = counts.stops; wrong = counts.wrong }

-- The counts of the schedule of n were printed, or memory ran out and nothing was.
pub data IsSimulated (n : ℕ) (text : List ℕ) (result : Status) : Type 0 where
  counted : (counts : Summary) → Simulates n counts → text ≡ simulation_text (simulated n counts) → result ≡ status.Good → IsSimulated n text result
  too_little_memory : text ≡ [] → result ≡ status.NoMemory → IsSimulated n text result

-- What was printed for words that name no parameter file: the usage line, or the line of a schedule.
pub data SaidOfWords (words : List (List ℕ)) (text : List ℕ) (result : Status) : Type 0 where
  no_command : steps_of words ≡ None → text ≡ usage_text → result ≡ status.Usage → SaidOfWords words text result
  schedule : (n : ℕ) → steps_of words ≡ Some n → IsSimulated n text result → SaidOfWords words text result
