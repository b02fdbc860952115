-- The loops of a run are those of its keywords that have values, each once.
use Rattle.std.proofs.Common.{◌≡◌, ◌⊎◌, ℕ, zero, suc, inl, inr, List, [], ◌∷◌, Bool, true, false, cond, not, ◌&&◌, ◌||◌, codes, Contains, filter, Option, Some, None, Ok, slice_get, slice_set, refl, subst, sym, ◌∙◌, ap}
use Rattle.std.specs.List.{AllByRecursion}
use Rattle.std.specs.Str.{bytes_eq}
use Rattle.std.proofs.lemmas.Bool.{false≢true}
use Rattle.std.proofs.lemmas.List.Elements.{Contains-append_left, Contains-append_right, Contains-push}
use Rattle.std.proofs.lemmas.Slice.Eq.{bytes_eq-Decides}
use Rattle.parm_forms.specs.Fits.{Fits, IsBlockSize, IsFrom, SomeNumbers}
use Rattle.parm_forms.specs.Forms.{value_of}
use Rattle.parm_forms.specs.Rows.{forms_of, row_number, rows_of, words_of}
use Rattle.parm_forms.specs.declared.fault.ParmKind.TheVariants.{BadChoice, RepeatedKeyword}
use Rattle.parm_forms.specs.declared.form.Form.{Form}
use Rattle.parm_forms.specs.declared.form.Form.TheVariants as spelled
use Rattle.parm_forms.specs.declared.rows.Kind.TheVariants.{Rd}
use Rattle.parm_forms.specs.declared.value.Value.{Value}
use Rattle.parm_forms.specs.declared.value.Value.TheVariants.{Numbers, Texts}
use Rattle.parm_defs.specs.declared.given.Given.{Given}
use Rattle.parm_defs.specs.declared.made.Def.{Def}
use Rattle.parm_defs.specs.Made.{has_number, is_inherited, loop_words, loops_of, made, value_at, value_in}
use Rattle.parm_defs.specs.Parts.{Part, after_part, after_parts, is_among, is_count, put_items, put_row, put_value, with_value}
use Rattle.parm_defs.proofs.Loose.{AreLoose}
use Rattle.parm_defs.proofs.NamesApart.{Apart, Differs, all_both, apart_both, bytes_differ, neither}
use Rattle.parm_defs.proofs.PartsFit.{FormLaws, IsFew, part_fits}
use Rattle.parm_defs.proofs.Steps.{bound, err_no_ok, none_no_some, ok_same, placed, some_same, unless}

-- a word of a loop has a number
abbrev pub HasNumbers : List Value → List ℕ → Type 0
HasNumbers values word = is_among word loop_words ≡ true → has_number (value_at Rd word values) ≡ true

-- the words given are different, and those of loops have numbers
pub record WordsFit (given : Given) : Type 0 where
  pub apart : Apart given.words
  pub numbers : AllByRecursion (HasNumbers given.values) given.words

either : (a b : Bool) → (a || b) ≡ true → (a ≡ true) ⊎ (b ≡ true)
either true b h = inl refl
either false b h = inr h

both_true : (a b : Bool) → (a && b) ≡ true → (a ≡ true) × (b ≡ true)
both_true true b h = (refl, h)
both_true false b h = absurd (false≢true h)

is_word : (a b : List ℕ) → bytes_eq a b ≡ true → b ≡ a
is_word a b h = sym ((bytes_eq-Decides a b).0 h)

pub loop_cases : (word : List ℕ) → is_among word loop_words ≡ true → (word ≡ codes "forthreads") ⊎ ((word ≡ codes "forxfersize") ⊎ (word ≡ codes "forrdpct"))
loop_cases word h =
    elim (either (bytes_eq (codes "forthreads") word) (bytes_eq (codes "forxfersize") word || (bytes_eq (codes "forrdpct") word || false)) h) [
      | inl a ↦ inl (is_word (codes "forthreads") word a)
      | inr b ↦ elim (either (bytes_eq (codes "forxfersize") word) (bytes_eq (codes "forrdpct") word || false) b) [
        | inl c ↦ inr (inl (is_word (codes "forxfersize") word c))
        | inr d ↦ elim (either (bytes_eq (codes "forrdpct") word) false d) [
          | inl e ↦ inr (inr (is_word (codes "forrdpct") word e))
          | inr f ↦ absurd (false≢true f)
        ]
      ]
    ]

some_number : (P : ℕ → Type 0) (value : Value) → SomeNumbers P value → has_number (Some value) ≡ true
some_number P (Numbers []) h = absurd h
some_number P (Numbers (n ∷ numbers)) h = refl
some_number P (Texts texts) h = absurd h

in_row : (row at : ℕ) (form : Form) (value : Value) (there : Form) → at ≡ row → slice_get (forms_of Rd) at ≡ Some there → slice_get (forms_of Rd) row ≡ Some form → Fits form value → Fits there value
in_row row at form value there same is has fits =
    let formed : form ≡ there = some_same (sym has ∙ ap (slice_get (forms_of Rd)) (sym same) ∙ is) in
    subst (λ f. Fits f value) formed fits

abbrev Reads : List ℕ → Type 0
Reads word = (row : ℕ) (form : Form) (value : Value) → row_number Rd word ≡ Some row → slice_get (forms_of Rd) row ≡ Some form → Fits form value → has_number (Some value) ≡ true

threads_read : Reads (codes "forthreads")
unfolding rows_of words_of
threads_read row form value is has fits = some_number (IsFrom 1 256) value (in_row row 3 form value (spelled.Numbers 1 256) (some_same is) refl has fits)

sizes_read : Reads (codes "forxfersize")
unfolding rows_of words_of
sizes_read row form value is has fits = some_number IsBlockSize value (in_row row 4 form value spelled.BlockSizes (some_same is) refl has fits)

percents_read : Reads (codes "forrdpct")
unfolding rows_of words_of
percents_read row form value is has fits = some_number (IsFrom 0 100) value (in_row row 2 form value (spelled.Numbers 0 100) (some_same is) refl has fits)

-- what is read of a loop's keyword has a number
loop_reads : (word : List ℕ) → is_among word loop_words ≡ true → Reads word
loop_reads word h = elim (loop_cases word h) [
  | inl a ↦ subst Reads (sym a) threads_read
  | inr b ↦ elim b [ inl c ↦ subst Reads (sym c) sizes_read | inr d ↦ subst Reads (sym d) percents_read ]
]

-- a row after another value was given somewhere
pub set_cases : (values : List Value) (row : ℕ) (value : Value) (at : ℕ) → (slice_get (slice_set values row value) at ≡ slice_get values at) ⊎ ((row ≡ at) × (slice_get (slice_set values row value) at ≡ Some value))
set_cases [] row value at = inl refl
set_cases (old ∷ values) zero value zero = inr (refl, refl)
set_cases (old ∷ values) zero value (suc at) = inl refl
set_cases (old ∷ values) (suc row) value zero = inl refl
set_cases (old ∷ values) (suc row) value (suc at) = elim (set_cases values row value at) [
  | inl same ↦ inl same
  | inr here ↦ inr (ap suc here.0, here.1)
]

set_there : (most : ℕ) (forms : List Form) (values : List Value) (row : ℕ) (form : Form) (value : Value) → AreLoose most forms values → slice_get forms row ≡ Some form → slice_get (slice_set values row value) row ≡ Some value
set_there most [] values row form value are is = absurd (none_no_some is)
set_there most (first ∷ forms) [] row form value are is = absurd are
set_there most (first ∷ forms) (old ∷ values) zero form value are is = refl
set_there most (first ∷ forms) (old ∷ values) (suc row) form value are is = set_there most forms values row form value are.1 is

kept_number : (word : List ℕ) (values : List Value) (row : ℕ) (form : Form) (value : Value) (at : Option ℕ) → row_number Rd word ≡ at → slice_get (forms_of Rd) row ≡ Some form → Fits form value → is_among word loop_words ≡ true → has_number (value_in values at) ≡ true → has_number (value_in (slice_set values row value) at) ≡ true
kept_number word values row form value None is has fits loop number = number
kept_number word values row form value (Some at) is has fits loop number =
    elim (set_cases values row value at) [
      | inl same ↦ ap has_number same ∙ number
      | inr here ↦ ap has_number here.1 ∙ loop_reads word loop at form value is (subst (λ r. slice_get (forms_of Rd) r ≡ Some form) here.0 has) fits
    ]

kept_numbers : (words : List (List ℕ)) (values : List Value) (row : ℕ) (form : Form) (value : Value) → slice_get (forms_of Rd) row ≡ Some form → Fits form value → AllByRecursion (HasNumbers values) words → AllByRecursion (HasNumbers (slice_set values row value)) words
kept_numbers [] values row form value has fits all = tt
kept_numbers (word ∷ words) values row form value has fits all =
    ((λ loop. kept_number word values row form value (row_number Rd word) refl has fits loop (all.0 loop)), kept_numbers words values row form value has fits all.1)

-- words that stand nowhere among others differ from each of them
pub crossed : (words others : List (List ℕ)) → AllByRecursion (λ other. is_among other words ≡ false) others → AllByRecursion (λ word. AllByRecursion (Differs word) others) words
crossed [] others h = tt
crossed (word ∷ words) others h = (firsts word words others h, crossed words others (seconds word words others h))
  where
    firsts : (word : List ℕ) (words others : List (List ℕ)) → AllByRecursion (λ other. is_among other (word ∷ words) ≡ false) others → AllByRecursion (Differs word) others
    firsts word words [] h = tt
    firsts word words (other ∷ others) h = (bytes_differ word other (neither (bytes_eq word other) (is_among other words) h.0).0, firsts word words others h.1)

    seconds : (word : List ℕ) (words others : List (List ℕ)) → AllByRecursion (λ other. is_among other (word ∷ words) ≡ false) others → AllByRecursion (λ other. is_among other words ≡ false) others
    seconds word words [] h = tt
    seconds word words (other ∷ others) h = ((neither (bytes_eq word other) (is_among other words) h.0).1, seconds word words others h.1)

put_words : FormLaws → (most : ℕ) (is_default : Bool) (row : ℕ) (given next : Given) (part : Part) (form : Option Form) → row_number Rd part.word ≡ Some row → is_among part.word given.words ≡ false → AreLoose most (forms_of Rd) given.values → WordsFit given → slice_get (forms_of Rd) row ≡ form → put_items is_default row given part form ≡ Ok next → WordsFit next
put_words laws most is_default row given next part None named new fits words has h = absurd (err_no_ok h)
put_words laws most is_default row given next part (Some form) named new fits words has h =
    let read = bound (value_of form part.items) (put_value form is_default row part.word given) next h in
    let kept = unless (is_default && is_count form) BadChoice (Ok (with_value row part.word given read.0)) next read.2 in
    let same : with_value row part.word given read.0 ≡ next = ok_same kept.1 in
    let spelled : Fits form read.0 = laws.fit form part.items read.0 read.1 in
    let set : slice_get (slice_set given.values row read.0) row ≡ Some read.0 = set_there most (forms_of Rd) given.values row form read.0 fits has in
    let mine : HasNumbers (slice_set given.values row read.0) part.word = (λ loop. ap (λ at. has_number (value_in (slice_set given.values row read.0) at)) named ∙ ap has_number set ∙ loop_reads part.word loop row form read.0 named has spelled) in
    subst WordsFit same (record {
      apart = apart_both given.words (part.word ∷ []) words.apart (tt, tt) (crossed given.words (part.word ∷ []) (new, tt));
      numbers = all_both (HasNumbers (slice_set given.values row read.0)) given.words (part.word ∷ []) (kept_numbers given.words given.values row form read.0 has spelled words.numbers) (mine, tt);
    })

put_row_words : FormLaws → (most : ℕ) (is_default : Bool) (given next : Given) (part : Part) (row : Option ℕ) → row_number Rd part.word ≡ row → AreLoose most (forms_of Rd) given.values → WordsFit given → put_row Rd is_default given part row ≡ Ok next → WordsFit next
put_row_words laws most is_default given next part None named fits words h = absurd (err_no_ok h)
put_row_words laws most is_default given next part (Some row) named fits words h =
    let kept = unless (is_among part.word given.words) RepeatedKeyword (put_items is_default row given part (slice_get (forms_of Rd) row)) next h in
    put_words laws most is_default row given next part (slice_get (forms_of Rd) row) named kept.0 fits words refl kept.1

pub parts_words : FormLaws → (most : ℕ) (is_default : Bool) (given next : Given) (parts : List Part) → AllByRecursion (IsFew most) parts → AreLoose most (forms_of Rd) given.values → WordsFit given → after_parts Rd is_default given parts ≡ Ok next → WordsFit next
parts_words laws most is_default given next [] few fits words h = subst WordsFit (ok_same h) words
parts_words laws most is_default given next (part ∷ parts) few fits words h =
    let one = bound (after_part Rd is_default given part) (λ g. after_parts Rd is_default g parts) next h in
    parts_words laws most is_default one.0 next parts few.1 (part_fits laws most Rd is_default given one.0 part few.0 fits one.1)
    (put_row_words laws most is_default given one.0 part (row_number Rd part.word) refl fits words (placed part.line (put_row Rd is_default given part (row_number Rd part.word)) one.0 one.1)) one.2

-- the loops of a run
pub record LoopsFit (d : Def) : Type 0 where
  pub all : AllByRecursion (λ word. (is_among word loop_words ≡ true) × (has_number (value_at Rd word d.values) ≡ true)) d.loops
  pub every : (word : List ℕ) → is_among word loop_words ≡ true → has_number (value_at Rd word d.values) ≡ true → Contains d.loops word
  pub once : Apart d.loops

pass_one : {X : Type 0} (P Q : X → Type 0) (x : X) (xs : List X) (b : Bool) → (b ≡ true → Q x → P x) → Q x → AllByRecursion P xs → AllByRecursion P (cond b (x ∷ xs) xs)
pass_one P Q x xs true so here rest = (so refl here, rest)
pass_one P Q x xs false so here rest = rest

pass_all : {X : Type 0} (P Q : X → Type 0) (p : X → Bool) (xs : List X) → ((x : X) → p x ≡ true → Q x → P x) → AllByRecursion Q xs → AllByRecursion P (filter p xs)
pass_all P Q p [] so all = tt
pass_all P Q p (x ∷ xs) so all = pass_one P Q x (filter p xs) (p x) (so x) all.0 (pass_all P Q p xs so all.1)

apart_one : (x : List ℕ) (xs : List (List ℕ)) (b : Bool) → AllByRecursion (Differs x) xs → Apart xs → Apart (cond b (x ∷ xs) xs)
apart_one x xs true differs apart = (differs, apart)
apart_one x xs false differs apart = apart

apart_passed : (p : List ℕ → Bool) (xs : List (List ℕ)) → Apart xs → Apart (filter p xs)
apart_passed p [] h = tt
apart_passed p (x ∷ xs) h = apart_one x (filter p xs) (p x) (pass_all (Differs x) (Differs x) p xs (λ y passes differs. differs) h.0) (apart_passed p xs h.1)

contains_first : (x : List ℕ) (xs : List (List ℕ)) → Contains (x ∷ xs) x
contains_first x xs = Contains-append_left (x ∷ []) xs x (Contains-push [] x)

contains_here : (p : List ℕ → Bool) (word x : List ℕ) (xs : List (List ℕ)) (b : Bool) → p x ≡ b → word ≡ x → p word ≡ true → Contains (cond b (x ∷ filter p xs) (filter p xs)) word
contains_here p word x xs true is same passes = subst (λ w. Contains (x ∷ filter p xs) w) (sym same) (contains_first x (filter p xs))
contains_here p word x xs false is same passes = absurd (false≢true (sym is ∙ ap p (sym same) ∙ passes))

contains_later : (p : List ℕ → Bool) (word x : List ℕ) (xs : List (List ℕ)) (b : Bool) → Contains (filter p xs) word → Contains (cond b (x ∷ filter p xs) (filter p xs)) word
contains_later p word x xs true h = Contains-append_right (x ∷ []) (filter p xs) word h
contains_later p word x xs false h = h

contains_passed : (p : List ℕ → Bool) (word : List ℕ) (xs : List (List ℕ)) → p word ≡ true → is_among word xs ≡ true → Contains (filter p xs) word
contains_passed p word [] passes among = absurd (false≢true among)
contains_passed p word (x ∷ xs) passes among =
    elim (either (bytes_eq x word) (is_among word xs) among) [
      | inl here ↦ contains_here p word x xs (p x) refl (is_word x word here) passes
      | inr later ↦ contains_later p word x xs (p x) (contains_passed p word xs passes later)
    ]

loops_apart : Apart loop_words
loops_apart = ((bytes_differ _ _ refl, (bytes_differ _ _ refl, tt)), ((bytes_differ _ _ refl, tt), (tt, tt)))

trivial : {X : Type 0} (xs : List X) → AllByRecursion (λ x. Unit {0}) xs
trivial [] = tt
trivial (x ∷ xs) = (tt, trivial xs)

among_loops : AllByRecursion (λ word. is_among word loop_words ≡ true) loop_words
among_loops = (refl, (refl, (refl, tt)))

not_true : (b : Bool) → not b ≡ true → b ≡ false
not_true true h = absurd (false≢true h)
not_true false h = refl

not_false : (b : Bool) → b ≡ false → not b ≡ true
not_false b h = ap not h

every_in : (given : Given) (word : List ℕ) (among : Bool) → is_among word given.words ≡ among → is_among word loop_words ≡ true → has_number (value_at Rd word given.values) ≡ true → Contains (loops_of Rd given) word
every_in given word true is loop number =
    Contains-append_left (filter (λ w. is_among w loop_words) given.words) (filter (is_inherited Rd given) loop_words) word (contains_passed (λ w. is_among w loop_words) word given.words loop is)
every_in given word false is loop number =
    let passes : is_inherited Rd given word ≡ true = rw (is, number) refl in
    Contains-append_right (filter (λ w. is_among w loop_words) given.words) (filter (is_inherited Rd given) loop_words) word (contains_passed (is_inherited Rd given) word loop_words passes loop)

given_loops : (given : Given) → WordsFit given → AllByRecursion (λ word. (is_among word loop_words ≡ true) × (has_number (value_at Rd word given.values) ≡ true)) (loops_of Rd given)
given_loops given words =
    let P : List ℕ → Type 0 = λ word. (is_among word loop_words ≡ true) × (has_number (value_at Rd word given.values) ≡ true) in
    all_both P (filter (λ w. is_among w loop_words) given.words) (filter (is_inherited Rd given) loop_words)
    (pass_all P (HasNumbers given.values) (λ w. is_among w loop_words) given.words (λ w passes numbers. (passes, numbers passes)) words.numbers)
    (pass_all P (λ w. is_among w loop_words ≡ true) (is_inherited Rd given) loop_words (λ w passes loop. (loop, (both_true (not (is_among w given.words)) (has_number (value_at Rd w given.values)) passes).1)) among_loops)

loops_once : (given : Given) → WordsFit given → Apart (loops_of Rd given)
loops_once given words =
    let own = filter (λ w. is_among w loop_words) given.words in
    let others = filter (is_inherited Rd given) loop_words in
    let new : AllByRecursion (λ word. is_among word given.words ≡ false) others =
    pass_all (λ word. is_among word given.words ≡ false) (λ word. Unit {0}) (is_inherited Rd given) loop_words (λ w passes any. not_true (is_among w given.words) (both_true (not (is_among w given.words)) (has_number (value_at Rd w given.values)) passes).0) (trivial loop_words) in
    let apart : AllByRecursion (λ word. AllByRecursion (Differs word) others) own =
    pass_all (λ word. AllByRecursion (Differs word) others) (λ word. AllByRecursion (Differs word) others) (λ w. is_among w loop_words) given.words (λ w passes differs. differs) (crossed given.words others new) in
    apart_both own others (apart_passed (λ w. is_among w loop_words) given.words words.apart) (apart_passed (is_inherited Rd given) loop_words loops_apart) apart

-- a run has the values that are given: it has neither a path nor a count
run_values : (line : ℕ) (name number : List ℕ) (given : Given) → (made Rd line name given number).values ≡ given.values
unfolding words_of
run_values line name number given = refl

pub made_loops : (line : ℕ) (name number : List ℕ) (given : Given) → WordsFit given → LoopsFit (made Rd line name given number)
made_loops line name number given words =
    let same = run_values line name number given in record {
      all = subst (λ values. AllByRecursion (λ word. (is_among word loop_words ≡ true) × (has_number (value_at Rd word values) ≡ true)) (loops_of Rd given)) (sym same) (given_loops given words);
      every = λ word loop number. every_in given word (is_among word given.words) refl loop (subst (λ values. has_number (value_at Rd word values) ≡ true) same number);
      once = loops_once given words;
    }
