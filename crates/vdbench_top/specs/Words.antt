-- What the words of a command ask for.
use Rattle.std.specs.Prelude.{ℕ, Bool, true, false, List, Option, Some, None, if◌then◌else◌, codes, take, drop, slice_get}
use Rattle.std.specs.Option.{option_map}
use Rattle.std.specs.Str.{bytes_eq}
use Rattle.command_words.specs.Words.{command_said}
use Rattle.command_words.specs.declared.command.Command.{Command}
use Rattle.command_words.specs.declared.command.Mode.{Mode}
use Rattle.command_words.specs.declared.command.Mode.TheVariants as mode
use Rattle.vdbench_top.specs.declared.words.Keeping.{Keeping}
use Rattle.vdbench_top.specs.declared.words.Keeping.TheVariants as keeping

-- how the runs of a mode keep account of their writes: not at all, in journals that are made anew, or in those that are there; other modes
-- make no runs
abbrev pub keeping_of : Mode → Option Keeping
keeping_of mode.Validate = Some keeping.Nothing
keeping_of mode.Journal = Some keeping.NewJournals
keeping_of mode.Recover = Some keeping.OldJournals
keeping_of mode.Show = None
keeping_of mode.RecoverOnly = None
keeping_of (mode.Simulate n) = None

-- the parameter file's name in the word that names it: joined to the option, or alone
abbrev pub name_in : List ℕ → List ℕ
name_in word = if bytes_eq (take 2 word) (codes "-f") then drop 2 word else word

abbrev pub name_at : List (List ℕ) → Option ℕ → Option (List ℕ)
name_at words None = None
name_at words (Some at) = option_map name_in (slice_get words at)

-- a schedule has no parameter file
abbrev pub file_in : List (List ℕ) → Option ℕ → Mode → Option (List ℕ)
file_in words file mode.Show = name_at words file
file_in words file mode.RecoverOnly = name_at words file
file_in words file (mode.Simulate n) = None
file_in words file mode.Validate = None
file_in words file mode.Journal = None
file_in words file mode.Recover = None

abbrev pub file_by : List (List ℕ) → Option Command → Option (List ℕ)
file_by words None = None
file_by words (Some command) = file_in words command.file command.mode

-- the name of a still command's parameter file
abbrev pub file_of : List (List ℕ) → Option (List ℕ)
file_of words = file_by words (command_said words)

abbrev pub steps_in : Mode → Option ℕ
steps_in mode.Show = None
steps_in mode.RecoverOnly = None
steps_in (mode.Simulate n) = Some n
steps_in mode.Validate = None
steps_in mode.Journal = None
steps_in mode.Recover = None

abbrev pub steps_by : Option Command → Option ℕ
steps_by None = None
steps_by (Some command) = steps_in command.mode

-- the number of a schedule
abbrev pub steps_of : List (List ℕ) → Option ℕ
steps_of words = steps_by (command_said words)

abbrev pub is_show : Mode → Bool
is_show mode.Show = true
is_show mode.RecoverOnly = false
is_show (mode.Simulate n) = false
is_show mode.Validate = false
is_show mode.Journal = false
is_show mode.Recover = false

abbrev pub shows_by : Option Command → Bool
shows_by None = false
shows_by (Some command) = is_show command.mode

-- whether the plan is to be shown
abbrev pub shows_plan : List (List ℕ) → Bool
shows_plan words = shows_by (command_said words)

-- what a command asks for that runs its plan: the parameter file's name, whether what was written is to be read again, and how account is kept
pub record Asked : Type 0 where
  pub file : List ℕ
  pub again : Bool
  pub keeping : Keeping

abbrev pub asked : List ℕ → Bool → Keeping → Asked
asked file again keeping = record { file = file; again = again; keeping = keeping }

abbrev pub asked_in : List (List ℕ) → Option ℕ → Bool → Option Keeping → Option Asked
asked_in words file again None = None
asked_in words file again (Some keeping) = option_map (λ name. asked name again keeping) (name_at words file)

abbrev pub run_by : List (List ℕ) → Option Command → Option Asked
run_by words None = None
run_by words (Some command) = asked_in words command.file command.reread (keeping_of command.mode)

-- what words ask for that are a command which runs its plan
abbrev pub run_of : List (List ℕ) → Option Asked
run_of words = run_by words (command_said words)
