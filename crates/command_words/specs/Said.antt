-- What options say that are taken one by one.
use Rattle.std.specs.Prelude.{ℕ, List, [], ◌∷◌, ◌+◌, Bool, true, false, Option, Some, None, unwrap_or}
use Rattle.command_words.specs.declared.command.Flag.{Flag}
use Rattle.command_words.specs.declared.command.Flag.TheVariants.{Does, FileAt, Folder, Rereads}
use Rattle.command_words.specs.declared.command.Command.{Command}
use Rattle.command_words.specs.declared.command.Mode.{Mode}
use Rattle.command_words.specs.declared.command.Mode.TheVariants.{Validate}
use Rattle.command_words.specs.declared.words.Said.{Said}

abbrev pub file_said : Said → ℕ → Option ℕ → Option Said
file_said said at None = Some (record said { file = Some at })
file_said said at (Some other) = None

abbrev pub folder_said : Said → Bool → Option Said
folder_said said false = Some (record said { folder = true })
folder_said said true = None

abbrev pub one_if : Bool → ℕ
one_if true = 1
one_if false = 0

abbrev pub mode_said : Said → Mode → Option Mode → Option Said
mode_said said mode None = Some (record said { mode = Some mode })
mode_said said mode (Some other) = None

abbrev pub reread_said : Said → Bool → Option Bool → Option Said
reread_said said again None = Some (record said { reread = Some again })
reread_said said again (Some other) = None

-- one option more, which none of its group stood before
abbrev pub with_flag_said : Said → Flag → Option Said
with_flag_said said (FileAt at) = file_said said at said.file
with_flag_said said Folder = folder_said said said.folder
with_flag_said said (Does mode) = mode_said said mode said.mode
with_flag_said said (Rereads again) = reread_said said again said.reread

abbrev pub with_some : Said → Option Flag → Option Said
with_some said None = None
with_some said (Some flag) = with_flag_said said flag

abbrev pub with_named : Said → Flag → Bool → Option Said
with_named said flag true = with_flag_said said flag
with_named said flag false = None

abbrev pub said_flags : Option Said → List Flag → Option Said
said_flags None flags = None
said_flags (Some said) [] = Some said
said_flags (Some said) (flag ∷ flags) = said_flags (with_flag_said said flag) flags

abbrev pub said_after : Said → Option (List Flag) → Option Said
said_after said None = None
said_after said (Some flags) = said_flags (Some said) flags

abbrev pub one_of : {A : Type 0} → Option A → ℕ
one_of None = 0
one_of (Some x) = 1

-- how many groups were said
abbrev pub count_of : Said → ℕ
count_of said = one_of said.file + one_if said.folder + one_of said.mode + one_of said.reread

-- nothing was said yet
abbrev pub nothing_said : Said
nothing_said = record { file = None; folder = false; mode = None; reread = None }

abbrev pub finished_at : Said → Option ℕ → Option Command
finished_at said None = None
finished_at said (Some at) = Some (record { mode = unwrap_or said.mode Validate; reread = unwrap_or said.reread false; file = Some at })

-- the command of what was said, where it names a file
abbrev pub finished : Option Said → Option Command
finished None = None
finished (Some said) = finished_at said said.file
