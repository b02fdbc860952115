-- The place of a file's name is that of a word.
use Rattle.std.proofs.Common.{◌≡◌, ℕ, ◌+◌, ◌<◌, ◌≤◌, List, [], ◌∷◌, Bool, true, false, arith, length, map, subst, sym}
use Rattle.std.proofs.lemmas.List.{length-map}
use Rattle.std.specs.Prelude.{IfSome, Option, Some, None, codes, if◌then◌else◌, take}
use Rattle.std.specs.Str.{bytes_eq}
use Rattle.command_words.specs.declared.command.Command.{Command}
use Rattle.command_words.specs.declared.command.Flag.{Flag}
use Rattle.command_words.specs.declared.command.Flag.TheVariants.{Does, FileAt, Folder, Rereads}
use Rattle.command_words.specs.declared.command.Mode.{Mode}
use Rattle.command_words.specs.declared.command.Mode.TheVariants as mode
use Rattle.command_words.specs.declared.command.Mode.TheVariants.{Validate}
use Rattle.command_words.specs.Flags.{flags_of, is_own_name, joined_flag, split_flag, two_or_one, with_flag, word_flag}
use Rattle.command_words.specs.Words.{command_by, command_from, files_of, folders_of, modes_of, only, only_or, rereads_of}

abbrev AreBelow : ℕ → List ℕ → Type 0
AreBelow n [] = Unit {0}
AreBelow n (place ∷ places) = (place < n) × AreBelow n places

abbrev FlagBelow : ℕ → Option Flag → Type 0
FlagBelow n None = Unit {0}
FlagBelow n (Some (FileAt place)) = place < n
FlagBelow n (Some Folder) = Unit {0}
FlagBelow n (Some (Does mode)) = Unit {0}
FlagBelow n (Some (Rereads again)) = Unit {0}

abbrev FlagsBelow : ℕ → Option (List Flag) → Type 0
FlagsBelow n None = Unit {0}
FlagsBelow n (Some flags) = AreBelow n (files_of flags)

with_below : (n : ℕ) (flag : Option Flag) (flags : Option (List Flag)) → FlagBelow n flag → FlagsBelow n flags → FlagsBelow n (with_flag flag flags)
with_below n None flags h k = tt
with_below n (Some flag) None h k = tt
with_below n (Some (FileAt place)) (Some flags) h k = (h, k)
with_below n (Some Folder) (Some flags) h k = k
with_below n (Some (Does mode)) (Some flags) h k = k
with_below n (Some (Rereads again)) (Some flags) h k = k

two_below : (n : ℕ) (split : Option Flag) (named : Bool) (behind_name : Option (List Flag)) (alone : Option Flag) (behind : Option (List Flag)) →
    FlagBelow n split → FlagsBelow n behind_name → FlagBelow n alone → FlagsBelow n behind → FlagsBelow n (two_or_one split named behind_name alone behind)
two_below n (Some flag) true behind_name alone behind of_split of_name of_alone of_behind = with_below n (Some flag) behind_name of_split of_name
two_below n (Some flag) false behind_name alone behind of_split of_name of_alone of_behind = tt
two_below n None named behind_name alone behind of_split of_name of_alone of_behind = with_below n alone behind of_alone of_behind

last_below : (n : ℕ) (split alone : Option Flag) → FlagBelow n alone → FlagsBelow n (two_or_one split false None alone (Some []))
last_below n (Some flag) alone h = tt
last_below n None alone h = with_below n alone (Some []) h tt

one_of_two : (n at : ℕ) (file folder : Bool) → at < n → FlagBelow n (if file then Some (FileAt at) else if folder then Some Folder else None)
one_of_two n at true folder h = h
one_of_two n at false true h = tt
one_of_two n at false false h = tt

split_below : (n at : ℕ) (word : List ℕ) → at < n → FlagBelow n (split_flag at word)
split_below n at word h = one_of_two n at (bytes_eq word (codes "-f")) (bytes_eq word (codes "-o")) h

joined_below : (n at : ℕ) (word : List ℕ) → at < n → FlagBelow n (joined_flag at word)
joined_below n at word h = one_of_two n at (bytes_eq (take 2 word) (codes "-f")) (bytes_eq (take 2 word) (codes "-o")) h

-- flags without a place in front of another
six_below : (n : ℕ) (a b c d e f : Bool) (flag : Option Flag) → FlagBelow n flag → FlagBelow n (
    if a then Some (Does mode.Show)
    else if b then Some (Does mode.Journal)
    else if c then Some (Does mode.Recover)
    else if d then Some (Does mode.RecoverOnly)
    else if e then Some (Rereads false)
    else if f then Some (Rereads true)
    else flag)
six_below n true b c d e f flag h = tt
six_below n false true c d e f flag h = tt
six_below n false false true d e f flag h = tt
six_below n false false false true e f flag h = tt
six_below n false false false false true f flag h = tt
six_below n false false false false false true flag h = tt
six_below n false false false false false false flag h = h

word_below : (n at : ℕ) (word : List ℕ) → at < n → FlagBelow n (word_flag at word)
unfolding word_flag
word_below n at word h =
    six_below n (bytes_eq word (codes "-s")) (bytes_eq word (codes "-j")) (bytes_eq word (codes "-jr")) (bytes_eq word (codes "-jro")) (bytes_eq word (codes "-v")) (bytes_eq word (codes "-vr"))
    (joined_flag at word) (joined_below n at word h)

-- the names of files stand in the words
flags_below : (n at : ℕ) (words : List (List ℕ)) → at + length words ≤ n → FlagsBelow n (flags_of at words)
flags_below n at [] h = tt
flags_below n at (word ∷ []) h = last_below n (split_flag (at + 1) word) (word_flag at word) (word_below n at word (omega arith))
flags_below n at (word ∷ name ∷ words) h =
    two_below n (split_flag (at + 1) word) (is_own_name name) (flags_of (at + 2) words) (word_flag at word) (flags_of (at + 1) (name ∷ words))
    (split_below n (at + 1) word (omega arith)) (flags_below n (at + 2) words (omega arith)) (word_below n at word (omega arith)) (flags_below n (at + 1) (name ∷ words) (omega arith))

abbrev IsPlaced : ℕ → Option Command → Type 0
IsPlaced n command = IfSome command (λ command. IfSome command.file (λ at. at < n))

from_placed : (n : ℕ) (file : Option ℕ) (folder : Option Bool) (mode : Option Mode) (again : Option Bool) → IfSome file (λ at. at < n) → IsPlaced n (command_from file folder mode again)
from_placed n (Some at) (Some folder) (Some mode) (Some again) h = h
from_placed n (Some at) (Some folder) (Some mode) None h = tt
from_placed n (Some at) (Some folder) None (Some again) h = tt
from_placed n (Some at) (Some folder) None None h = tt
from_placed n (Some at) None (Some mode) (Some again) h = tt
from_placed n (Some at) None (Some mode) None h = tt
from_placed n (Some at) None None (Some again) h = tt
from_placed n (Some at) None None None h = tt
from_placed n None (Some folder) (Some mode) (Some again) h = tt
from_placed n None (Some folder) (Some mode) None h = tt
from_placed n None (Some folder) None (Some again) h = tt
from_placed n None (Some folder) None None h = tt
from_placed n None None (Some mode) (Some again) h = tt
from_placed n None None (Some mode) None h = tt
from_placed n None None None (Some again) h = tt
from_placed n None None None None h = tt

only_below : (n : ℕ) (places : List ℕ) → AreBelow n places → IfSome (only places) (λ at. at < n)
only_below n [] h = tt
only_below n (place ∷ []) h = h.0
only_below n (place ∷ next ∷ places) h = tt

by_placed : (n : ℕ) (flags : Option (List Flag)) → FlagsBelow n flags → IsPlaced n (command_by flags)
by_placed n None h = tt
by_placed n (Some flags) h =
    from_placed n (only (files_of flags)) (only_or false (folders_of flags)) (only_or Validate (modes_of flags)) (only_or false (rereads_of flags)) (only_below n (files_of flags) h)

-- the place that the options of words name is that of one of them
pub is_placed : {A : Type 0} (f : A → List ℕ) (xs : List A) (result : Option Command) → result ≡ command_by (flags_of 0 (map f xs)) → IfSome result (λ command. IfSome command.file (λ at. at < length xs))
is_placed f xs result is =
    let words = map f xs in
    let long : length words ≡ length xs = length-map xs f in
    subst (IsPlaced (length xs)) (sym is) (by_placed (length xs) (flags_of 0 words) (flags_below (length xs) 0 words (omega arith)))
