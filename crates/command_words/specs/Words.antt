-- The command that words say.
use Rattle.std.specs.Prelude.{ℕ, List, [], ◌∷◌, Bool, true, false, if◌then◌else◌, Option, Some, None, Result, Ok, Err, codes}
use Rattle.std.specs.Str.{bytes_eq}
use Rattle.parm_value.specs.Values.{number_in}
use Rattle.parm_value.specs.declared.fault.ValueFault.{ValueFault}
use Rattle.command_words.specs.Flags.{flags_of}
use Rattle.command_words.specs.declared.command.Flag.{Flag}
use Rattle.command_words.specs.declared.command.Flag.TheVariants.{Does, FileAt, Folder, Rereads}
use Rattle.command_words.specs.declared.command.Command.{Command}
use Rattle.command_words.specs.declared.command.Mode.{Mode}
use Rattle.command_words.specs.declared.command.Mode.TheVariants.{Simulate, Validate}

-- the words that name the file
abbrev pub files_of : List Flag → List ℕ
files_of [] = []
files_of (FileAt at ∷ flags) = at ∷ files_of flags
files_of (Folder ∷ flags) = files_of flags
files_of (Does mode ∷ flags) = files_of flags
files_of (Rereads again ∷ flags) = files_of flags

abbrev pub folders_of : List Flag → List Bool
folders_of [] = []
folders_of (FileAt at ∷ flags) = folders_of flags
folders_of (Folder ∷ flags) = true ∷ folders_of flags
folders_of (Does mode ∷ flags) = folders_of flags
folders_of (Rereads again ∷ flags) = folders_of flags

abbrev pub modes_of : List Flag → List Mode
modes_of [] = []
modes_of (FileAt at ∷ flags) = modes_of flags
modes_of (Folder ∷ flags) = modes_of flags
modes_of (Does mode ∷ flags) = mode ∷ modes_of flags
modes_of (Rereads again ∷ flags) = modes_of flags

abbrev pub rereads_of : List Flag → List Bool
rereads_of [] = []
rereads_of (FileAt at ∷ flags) = rereads_of flags
rereads_of (Folder ∷ flags) = rereads_of flags
rereads_of (Does mode ∷ flags) = rereads_of flags
rereads_of (Rereads again ∷ flags) = again ∷ rereads_of flags

-- the only one of a list, or another where the list is empty; nothing of two
abbrev pub only_or : {A : Type 0} → A → List A → Option A
only_or other [] = Some other
only_or other (x ∷ []) = Some x
only_or other (x ∷ y ∷ xs) = None

abbrev pub only : {A : Type 0} → List A → Option A
only [] = None
only (x ∷ []) = Some x
only (x ∷ y ∷ xs) = None

abbrev pub command_from : Option ℕ → Option Bool → Option Mode → Option Bool → Option Command
command_from (Some at) (Some folder) (Some mode) (Some again) = Some (record { mode = mode; reread = again; file = Some at })
command_from file folder mode again = None

-- the file exactly once, and of folders, modes and rereads at most one each, in any order
abbrev pub command_by : Option (List Flag) → Option Command
command_by None = None
command_by (Some flags) =
    command_from (only (files_of flags)) (only_or false (folders_of flags)) (only_or Validate (modes_of flags)) (only_or false (rereads_of flags))

-- a schedule of so many steps
abbrev pub simulates : Result ℕ ValueFault → Option Command
simulates (Err fault) = None
simulates (Ok n) = Some (record { mode = Simulate n; reread = false; file = None })

-- the number of a schedule, where the words are -sim and one word more
abbrev pub number_said : List (List ℕ) → Option (List ℕ)
number_said (word ∷ number ∷ []) = if bytes_eq word (codes "-sim") then Some number else None
number_said words = None

abbrev pub command_or : Option (List ℕ) → Option Command → Option Command
command_or (Some number) options = simulates (number_in 0 1000000 number)
command_or None options = options

-- the command that words say: a schedule and its number alone, or options
abbrev pub command_said : List (List ℕ) → Option Command
command_said words = command_or (number_said words) (command_by (flags_of 0 words))
