-- A command over a file names a word, and another has a number of steps.
use Rattle.std.proofs.Common.{◌≡◌, ℕ, ◌<◌, Bool, false, get_or, List, [], length, refl, sym, ◌∙◌, ap, subst, Option, Some, None, Result, Ok, Err}
use Rattle.std.specs.Prelude.{slice_get, IfSome}
use Rattle.std.specs.Option.{option_map}
use Rattle.std.proofs.lemmas.Option.{slice_get-get_or}
use Rattle.parm_value.specs.Values.{number_in}
use Rattle.parm_value.specs.declared.fault.ValueFault.{ValueFault}
use Rattle.command_words.specs.Flags.{flags_of}
use Rattle.command_words.specs.Words.{command_by, command_from, command_or, command_said, files_of, folders_of, modes_of, number_said, only, only_or, rereads_of, simulates}
use Rattle.command_words.specs.declared.command.Command.{Command}
use Rattle.command_words.specs.declared.command.Flag.{Flag}
use Rattle.command_words.specs.declared.command.Mode.{Mode}
use Rattle.command_words.specs.declared.command.Mode.TheVariants as mode
use Rattle.vdbench_top.specs.Words.{Asked, asked, asked_in, keeping_of, file_by, file_in, file_of, name_at, name_in, run_by, run_of, steps_by, steps_in, steps_of}
use Rattle.vdbench_top.specs.declared.words.Keeping.{Keeping}
use Rattle.vdbench_top.specs.declared.words.Keeping.TheVariants as keeping

some_is : {A : Type 0} (x y : A) → Some x ≡ Some y → x ≡ y
some_is x y e = cc

file_from : (file : Option ℕ) (folder : Option Bool) (mode : Option Mode) (again : Option Bool) (c : Command) → command_from file folder mode again ≡ Some c → c.file ≡ None → ⊥
file_from (Some at) (Some f) (Some m) (Some r) c e none =
    let same = some_is (record { mode = m; reread = r; file = Some at }) c e in
    (let f : Some at ≡ None = ap (λ (x : Command). x.file) same ∙ none in cc)
file_from (Some at) (Some f) (Some m) None c e none = cc
file_from (Some at) (Some f) None r c e none = cc
file_from (Some at) None m r c e none = cc
file_from None f m r c e none = cc

file_named : (flags : Option (List Flag)) (c : Command) → command_by flags ≡ Some c → c.file ≡ None → ⊥
file_named None c e none = cc
file_named (Some flags) c e none = file_from (only (files_of flags)) (only_or false (folders_of flags)) (only_or mode.Validate (modes_of flags)) (only_or false (rereads_of flags)) c e none

steps_named : (number : Result ℕ ValueFault) (c : Command) → simulates number ≡ Some c → (n : ℕ) × (c.mode ≡ mode.Simulate n)
steps_named (Err f) c e = absurd (let g : None ≡ Some c = e in cc)
steps_named (Ok n) c e = (n, ap (λ (x : Command). x.mode) (sym (some_is (record { mode = mode.Simulate n; reread = false; file = None }) c e)))

either_named : (number : Option (List ℕ)) (options : Option Command) (c : Command) → command_or number options ≡ Some c → (options ≡ Some c → c.file ≡ None → ⊥) → c.file ≡ None → (n : ℕ) × (c.mode ≡ mode.Simulate n)
either_named (Some number) options c e never none = steps_named (number_in 0 1000000 number) c e
either_named None options c e never none = absurd (never e none)

pub steps_or_file : (words : List (List ℕ)) (c : Command) → command_said words ≡ Some c → c.file ≡ None → (n : ℕ) × (c.mode ≡ mode.Simulate n)
steps_or_file words c e none = either_named (number_said words) (command_by (flags_of 0 words)) c e (λ f n. file_named (flags_of 0 words) c f n) none

-- ---- where neither a file nor steps are named, and nothing is run
is_named : (words : List (List ℕ)) (at : ℕ) → at < length words → name_at words (Some at) ≡ None → ⊥
is_named words at within none =
    let there : slice_get words at ≡ Some (get_or words at []) = slice_get-get_or words at [] within in
    (let e : Some (name_in (get_or words at [])) ≡ None = sym (ap (λ (o : Option (List ℕ)). option_map name_in o) there) ∙ none in cc)

named_by : (words : List (List ℕ)) (file : Option ℕ) → ((at : ℕ) → file ≡ Some at → at < length words) → (file ≡ None → ⊥) → name_at words file ≡ None → ⊥
named_by words None within some none = some refl
named_by words (Some at) within some none = is_named words at (within at refl) none

no_steps_there : (m : Mode) (n : ℕ) → m ≡ mode.Simulate n → steps_in m ≡ None → ⊥
no_steps_there m n e none = (let f : Some n ≡ None = sym (ap steps_in e) ∙ none in cc)

mapped_none : {A B : Type 0} (f : A → B) (o : Option A) → option_map f o ≡ None → o ≡ None
mapped_none f None e = refl
mapped_none f (Some x) e = absurd (let g : Some (f x) ≡ None = e in cc)

abbrev with_again : Bool → Keeping → List ℕ → Asked
with_again again keeping name = asked name again keeping

asked_by : (words : List (List ℕ)) (file : Option ℕ) (again : Bool) (m : Mode) → ((at : ℕ) → file ≡ Some at → at < length words) → (file ≡ None → (n : ℕ) × (m ≡ mode.Simulate n))
    → file_in words file m ≡ None → asked_in words file again (keeping_of m) ≡ None → steps_in m ≡ None → ⊥
asked_by words file again mode.Show within steps none no_run no_steps =
    named_by words file within (λ e. let s = steps e in no_steps_there mode.Show s.0 s.1 no_steps) none
asked_by words file again mode.RecoverOnly within steps none no_run no_steps =
    named_by words file within (λ e. let s = steps e in no_steps_there mode.RecoverOnly s.0 s.1 no_steps) none
asked_by words file again (mode.Simulate n) within steps none no_run no_steps = (let f : Some n ≡ None = no_steps in cc)
asked_by words file again mode.Validate within steps none no_run no_steps =
    named_by words file within (λ e. let s = steps e in no_steps_there mode.Validate s.0 s.1 no_steps) (mapped_none (with_again again keeping.Nothing) (name_at words file) no_run)
asked_by words file again mode.Journal within steps none no_run no_steps =
    named_by words file within (λ e. let s = steps e in no_steps_there mode.Journal s.0 s.1 no_steps) (mapped_none (with_again again keeping.NewJournals) (name_at words file) no_run)
asked_by words file again mode.Recover within steps none no_run no_steps =
    named_by words file within (λ e. let s = steps e in no_steps_there mode.Recover s.0 s.1 no_steps) (mapped_none (with_again again keeping.OldJournals) (name_at words file) no_run)

said_by : (words : List (List ℕ)) (o : Option Command) → command_said words ≡ o → ((c : Command) → o ≡ Some c → (at : ℕ) → c.file ≡ Some at → at < length words)
    → file_by words o ≡ None → run_by words o ≡ None → steps_by o ≡ None → o ≡ None
said_by words None e within none no_run no_steps = refl
said_by words (Some c) e within none no_run no_steps = absurd (asked_by words c.file c.reread c.mode (within c refl) (λ f. steps_or_file words c e f) none no_run no_steps)

place_within : (o : Option Command) (n : ℕ) → IfSome o (λ c. IfSome c.file (λ at. at < n)) → (c : Command) → o ≡ Some c → (at : ℕ) → c.file ≡ Some at → at < n
place_within o n within c e at f =
    let here : IfSome c.file (λ at. at < n) = subst (λ (x : Option Command). IfSome x (λ c. IfSome c.file (λ at. at < n))) e within in
    subst (λ (x : Option ℕ). IfSome x (λ at. at < n)) f here

pub nothing_asked : (words : List (List ℕ)) (n : ℕ) (o : Option Command) → length words ≡ n → o ≡ command_said words → IfSome o (λ c. IfSome c.file (λ at. at < n)) → file_of words ≡ None → run_of words ≡ None → steps_of words ≡ None → command_said words ≡ None
nothing_asked words n o many e within none no_run no_steps =
    said_by words (command_said words) refl
    (λ c f at g. subst (λ (m : ℕ). at < m) (sym many) (place_within o n within c (e ∙ f) at g)) none no_run no_steps

-- ---- a command has not both
both_in : (words : List (List ℕ)) (file : Option ℕ) (m : Mode) (name : List ℕ) (n : ℕ) → file_in words file m ≡ Some name → steps_in m ≡ Some n → ⊥
both_in words file mode.Show name n f s = cc
both_in words file mode.RecoverOnly name n f s = cc
both_in words file (mode.Simulate k) name n f s = cc
both_in words file mode.Validate name n f s = cc
both_in words file mode.Journal name n f s = cc
both_in words file mode.Recover name n f s = cc

both_by : (words : List (List ℕ)) (o : Option Command) (name : List ℕ) (n : ℕ) → file_by words o ≡ Some name → steps_by o ≡ Some n → ⊥
both_by words None name n f s = cc
both_by words (Some c) name n f s = both_in words c.file c.mode name n f s

pub not_both : (words : List (List ℕ)) (name : List ℕ) (n : ℕ) → file_of words ≡ Some name → steps_of words ≡ Some n → ⊥
not_both words name n f s = both_by words (command_said words) name n f s
