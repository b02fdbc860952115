-- The options of a command, one behind the other.
use Rattle.std.specs.Prelude.{ℕ, List, [], ◌∷◌, ◌+◌, Bool, true, false, not, ◌==◌, if◌then◌else◌, Option, Some, None, codes, take}
use Rattle.std.specs.Str.{bytes_eq}
use Rattle.command_words.specs.declared.command.Flag.{Flag}
use Rattle.command_words.specs.declared.command.Flag.TheVariants.{Does, FileAt, Folder, Rereads}
use Rattle.command_words.specs.declared.command.Mode.TheVariants as mode

-- a name in a word of its own isn't empty and doesn't begin with a dash
abbrev pub is_own_name : List ℕ → Bool
is_own_name [] = false
is_own_name (byte ∷ bytes) = not (byte == 45)

-- an option whose name stands in the next word
abbrev pub split_flag : ℕ → List ℕ → Option Flag
split_flag at word =
    if bytes_eq word (codes "-f") then Some (FileAt at)
    else if bytes_eq word (codes "-o") then Some Folder
    else None

-- an option whose name is joined to it
abbrev pub joined_flag : ℕ → List ℕ → Option Flag
joined_flag at word =
    if bytes_eq (take 2 word) (codes "-f") then Some (FileAt at)
    else if bytes_eq (take 2 word) (codes "-o") then Some Folder
    else None

-- an option of one word
unfoldable pub word_flag : ℕ → List ℕ → Option Flag
word_flag at word =
    if bytes_eq word (codes "-s") then Some (Does mode.Show)
    else if bytes_eq word (codes "-j") then Some (Does mode.Journal)
    else if bytes_eq word (codes "-jr") then Some (Does mode.Recover)
    else if bytes_eq word (codes "-jro") then Some (Does mode.RecoverOnly)
    else if bytes_eq word (codes "-v") then Some (Rereads false)
    else if bytes_eq word (codes "-vr") then Some (Rereads true)
    else joined_flag at word

abbrev pub with_flag : Option Flag → Option (List Flag) → Option (List Flag)
with_flag (Some flag) (Some flags) = Some (flag ∷ flags)
with_flag None flags = None
with_flag (Some flag) None = None

abbrev pub named_flag : Bool → Flag → Option (List Flag) → Option (List Flag)
named_flag true flag flags = with_flag (Some flag) flags
named_flag false flag flags = None

abbrev pub two_or_one : Option Flag → Bool → Option (List Flag) → Option Flag → Option (List Flag) → Option (List Flag)
two_or_one (Some flag) named behind_name alone behind = named_flag named flag behind_name
two_or_one None named behind_name alone behind = with_flag alone behind

-- the options that words say, the first of them at this place
abbrev pub flags_of : ℕ → List (List ℕ) → Option (List Flag)
flags_of at [] = Some []
flags_of at (word ∷ []) = two_or_one (split_flag (at + 1) word) false None (word_flag at word) (Some [])
flags_of at (word ∷ name ∷ words) =
    two_or_one (split_flag (at + 1) word) (is_own_name name) (flags_of (at + 2) words) (word_flag at word) (flags_of (at + 1) (name ∷ words))
