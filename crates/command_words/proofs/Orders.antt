-- Options may stand in any order.
use Rattle.std.proofs.Common.{◌≡◌, ℕ, List, [], ◌∷◌, ◌++◌, Bool, true, false, refl, sym}
use Rattle.std.specs.Prelude.{Option, Some, None}
use Rattle.command_words.specs.declared.command.Command.{Command}
use Rattle.command_words.specs.declared.command.Flag.{Flag}
use Rattle.command_words.specs.declared.command.Flag.TheVariants.{Does, FileAt, Folder, Rereads}
use Rattle.command_words.specs.declared.command.Mode.{Mode}
use Rattle.command_words.specs.declared.command.Mode.TheVariants.{Validate}
use Rattle.command_words.specs.declared.words.Said.{Said}
use Rattle.command_words.specs.Said.{finished, nothing_said, said_after, said_flags}
use Rattle.command_words.specs.Words.{command_by, command_from, files_of, folders_of, modes_of, only, only_or, rereads_of}

abbrev listed : {A : Type 0} → Option A → List A
listed None = []
listed (Some x) = x ∷ []

abbrev marked : Bool → List Bool
marked false = []
marked true = true ∷ []

-- the command of what was said and of the options behind it
abbrev by_lists : Said → List Flag → Option Command
by_lists said flags = command_from
    (only (listed said.file ++ files_of flags))
    (only_or false (marked said.folder ++ folders_of flags))
    (only_or Validate (listed said.mode ++ modes_of flags))
    (only_or false (listed said.reread ++ rereads_of flags))

no_file : (folder : Option Bool) (mode : Option Mode) (again : Option Bool) → command_from None folder mode again ≡ None
no_file None mode again = refl
no_file (Some f) mode again = refl

no_folder : (file : Option ℕ) (mode : Option Mode) (again : Option Bool) → command_from file None mode again ≡ None
no_folder None mode again = refl
no_folder (Some f) mode again = refl

no_mode : (file : Option ℕ) (folder : Option Bool) (again : Option Bool) → command_from file folder None again ≡ None
no_mode None folder again = refl
no_mode (Some f) None again = refl
no_mode (Some f) (Some g) again = refl

no_reread : (file : Option ℕ) (folder : Option Bool) (mode : Option Mode) → command_from file folder mode None ≡ None
no_reread None folder mode = refl
no_reread (Some f) None mode = refl
no_reread (Some f) (Some g) None = refl
no_reread (Some f) (Some g) (Some h) = refl

-- none is left: what was said is the command
none_left : (file : Option ℕ) (folder : Bool) (mode : Option Mode) (again : Option Bool) →
    finished (Some (record { file = file; folder = folder; mode = mode; reread = again })) ≡ by_lists (record { file = file; folder = folder; mode = mode; reread = again }) []
none_left None false None None = refl
none_left None false None (Some r) = refl
none_left None false (Some m) None = refl
none_left None false (Some m) (Some r) = refl
none_left None true None None = refl
none_left None true None (Some r) = refl
none_left None true (Some m) None = refl
none_left None true (Some m) (Some r) = refl
none_left (Some f) false None None = refl
none_left (Some f) false None (Some r) = refl
none_left (Some f) false (Some m) None = refl
none_left (Some f) false (Some m) (Some r) = refl
none_left (Some f) true None None = refl
none_left (Some f) true None (Some r) = refl
none_left (Some f) true (Some m) None = refl
none_left (Some f) true (Some m) (Some r) = refl

so_far : (flags : List Flag) (file : Option ℕ) (folder : Bool) (mode : Option Mode) (again : Option Bool) →
    finished (said_flags (Some (record { file = file; folder = folder; mode = mode; reread = again })) flags) ≡ by_lists (record { file = file; folder = folder; mode = mode; reread = again }) flags
so_far [] file folder mode again = none_left file folder mode again
so_far (FileAt at ∷ flags) None folder mode again = so_far flags (Some at) folder mode again
so_far (FileAt at ∷ flags) (Some f) folder mode again = sym (no_file (only_or false (marked folder ++ folders_of flags)) (only_or Validate (listed mode ++ modes_of flags)) (only_or false (listed again ++ rereads_of flags)))
so_far (Folder ∷ flags) file false mode again = so_far flags file true mode again
so_far (Folder ∷ flags) file true mode again = sym (no_folder (only (listed file ++ files_of flags)) (only_or Validate (listed mode ++ modes_of flags)) (only_or false (listed again ++ rereads_of flags)))
so_far (Does m ∷ flags) file folder None again = so_far flags file folder (Some m) again
so_far (Does m ∷ flags) file folder (Some n) again = sym (no_mode (only (listed file ++ files_of flags)) (only_or false (marked folder ++ folders_of flags)) (only_or false (listed again ++ rereads_of flags)))
so_far (Rereads r ∷ flags) file folder mode None = so_far flags file folder mode (Some r)
so_far (Rereads r ∷ flags) file folder mode (Some q) = sym (no_reread (only (listed file ++ files_of flags)) (only_or false (marked folder ++ folders_of flags)) (only_or Validate (listed mode ++ modes_of flags)))

pub in_any_order : (flags : Option (List Flag)) → finished (said_after nothing_said flags) ≡ command_by flags
in_any_order None = refl
in_any_order (Some flags) = so_far flags None false None None
