-- What stands of a file so far has the shapes of its kinds, line by line.
use Rattle.std.proofs.Common.{◌≡◌, ℕ, inl, inr, List, [], ◌∷◌, ◌++◌, Bool, true, false, cond, not, ◌&&◌, codes, filter, nat_lt, Option, Some, None, Ok, length, map, slice_get, slice_set, refl, subst, sym, ap, ◌∙◌, ◌+◌}
use Rattle.std.specs.List.{AllByRecursion, list_all, list_any}
use Rattle.std.proofs.lemmas.Bool.{false≢true}
use Rattle.parm_lex.specs.declared.line.ParmLine.{ParmLine}
use Rattle.parm_forms.specs.Fits.{ValuesFit}
use Rattle.parm_forms.specs.Forms.{value_of}
use Rattle.parm_forms.specs.Rows.{forms_of, row_number, words_of}
use Rattle.parm_forms.specs.declared.fault.ParmKind.TheVariants.{BadChoice, BadName, NameTaken, RemoteHost, RepeatedKeyword, TooMany}
use Rattle.parm_forms.specs.declared.form.Form.{Form}
use Rattle.parm_forms.specs.declared.rows.Kind.{Kind}
use Rattle.parm_forms.specs.declared.rows.Kind.TheVariants.{Fsd, Fwd, General, Hd, Rd, Sd, Wd}
use Rattle.parm_forms.specs.declared.value.Value.{Value}
use Rattle.parm_defs.specs.declared.file.SoFar.{SoFar}
use Rattle.parm_defs.specs.declared.given.Given.{Given}
use Rattle.parm_defs.specs.declared.made.Def.{Def}
use Rattle.parm_defs.specs.declared.whole.KindSoFar.{KindSoFar}
use Rattle.parm_defs.specs.Checks.{added, after_def, begun, defaulted, has_name, is_default, is_name, is_remote, most_of}
use Rattle.parm_defs.specs.File.{after_kind, after_line, after_lines, fresh, kind_of, start}
use Rattle.parm_defs.specs.Made.{all_made, has_number, is_inherited, loop_words, loops_of, made, numbers_of, value_at, value_in}
use Rattle.parm_defs.specs.Parts.{Part, after_part, after_parts, is_among, is_count, part_of, put_items, put_row, put_value, with_value}
use Rattle.parm_defs.proofs.KindsFit.{opened}
use Rattle.parm_defs.proofs.LoopsFit.{loop_cases}
use Rattle.parm_defs.proofs.MadeFit.{all_made_so}
use Rattle.parm_defs.proofs.NamesApart.{all_both}
use Rattle.parm_defs.proofs.Shapes.{AreShaped, defaults_shaped, given_shapes, made_shapes, made_values_shaped, shaped_set, suit}
use Rattle.parm_defs.proofs.Steps.{bound, err_no_ok, none_no_some, ok_same, placed, unless}

-- only runs have loops
abbrev pub is_looped : Kind → Bool
is_looped General = false
is_looped Hd = false
is_looped Sd = false
is_looped Wd = false
is_looped Rd = true
is_looped Fsd = false
is_looped Fwd = false

abbrev WordLoopless : Kind → List ℕ → Type 0
WordLoopless kind word = is_looped kind ≡ false → is_among word loop_words ≡ false

no_loop_rows : (kind : Kind) → is_looped kind ≡ false → (row_number kind (codes "forthreads") ≡ None) × (row_number kind (codes "forxfersize") ≡ None) × (row_number kind (codes "forrdpct") ≡ None)
unfolding words_of
no_loop_rows General h = (refl, refl, refl)
no_loop_rows Hd h = (refl, refl, refl)
no_loop_rows Sd h = (refl, refl, refl)
no_loop_rows Wd h = (refl, refl, refl)
no_loop_rows Rd h = absurd (false≢true (sym h))
no_loop_rows Fsd h = (refl, refl, refl)
no_loop_rows Fwd h = (refl, refl, refl)

not_in_row : (kind : Kind) (word loop : List ℕ) (row : ℕ) → row_number kind loop ≡ None → word ≡ loop → row_number kind word ≡ Some row → ⊥
not_in_row kind word loop row none is has = none_no_some (sym none ∙ ap (row_number kind) (sym is) ∙ has)

loopless : (kind : Kind) (word : List ℕ) (row : ℕ) (b : Bool) → is_among word loop_words ≡ b → row_number kind word ≡ Some row → is_looped kind ≡ false → b ≡ false
loopless kind word row false is has plain = refl
loopless kind word row true is has plain =
    let none = no_loop_rows kind plain in
    absurd (elim (loop_cases word is) [
      | inl a ↦ not_in_row kind word (codes "forthreads") row none.0 a has
      | inr b ↦ elim b [
        | inl c ↦ not_in_row kind word (codes "forxfersize") row none.1 c has
        | inr d ↦ not_in_row kind word (codes "forrdpct") row none.2 d has
      ]
    ])

pub record GivenShaped (kind : Kind) (given : Given) : Type 0 where
  pub values : AreShaped (given_shapes kind) given.values
  pub words : AllByRecursion (WordLoopless kind) given.words

put_value_shaped : (kind : Kind) (form : Form) (is_default : Bool) (row : ℕ) (word : List ℕ) (given next : Given) (value : Value) → AreShaped (given_shapes kind) (slice_set given.values row value) → WordLoopless kind word → AllByRecursion (WordLoopless kind) given.words → put_value form is_default row word given value ≡ Ok next → GivenShaped kind next
put_value_shaped kind form is_default row word given next value values plain words h =
    let kept = unless (is_default && is_count form) BadChoice (Ok (with_value row word given value)) next h in
    let same : with_value row word given value ≡ next = ok_same kept.1 in
    subst (GivenShaped kind) same (record { values = values; words = all_both (WordLoopless kind) given.words (word ∷ []) words (plain, tt) })

put_items_shaped : ValuesFit → (kind : Kind) (is_default : Bool) (row : ℕ) (given next : Given) (part : Part) (form : Option Form) → row_number kind part.word ≡ Some row → GivenShaped kind given → slice_get (forms_of kind) row ≡ form → put_items is_default row given part form ≡ Ok next → GivenShaped kind next
put_items_shaped fit kind is_default row given next part None has shaped is h = absurd (err_no_ok h)
put_items_shaped fit kind is_default row given next part (Some form) has shaped is h =
    let read = bound (value_of form part.items) (put_value form is_default row part.word given) next h in
    put_value_shaped kind form is_default row part.word given next read.0
    (shaped_set (forms_of kind) (given_shapes kind) given.values row form read.0 (suit kind) shaped.values is (fit form part.items read.0 read.1))
    (λ plain. loopless kind part.word row (is_among part.word loop_words) refl has plain) shaped.words read.2

put_row_shaped : ValuesFit → (kind : Kind) (is_default : Bool) (given next : Given) (part : Part) (row : Option ℕ) → row_number kind part.word ≡ row → GivenShaped kind given → put_row kind is_default given part row ≡ Ok next → GivenShaped kind next
put_row_shaped fit kind is_default given next part None has shaped h = absurd (err_no_ok h)
put_row_shaped fit kind is_default given next part (Some row) has shaped h =
    let kept = unless (is_among part.word given.words) RepeatedKeyword (put_items is_default row given part (slice_get (forms_of kind) row)) next h in
    put_items_shaped fit kind is_default row given next part (slice_get (forms_of kind) row) has shaped refl kept.1

parts_shaped : ValuesFit → (kind : Kind) (is_default : Bool) (given next : Given) (parts : List Part) → GivenShaped kind given → after_parts kind is_default given parts ≡ Ok next → GivenShaped kind next
parts_shaped fit kind is_default given next [] shaped h = let same : given ≡ next = ok_same h in subst (GivenShaped kind) same shaped
parts_shaped fit kind is_default given next (part ∷ parts) shaped h =
    let one = bound (after_part kind is_default given part) (λ g. after_parts kind is_default g parts) next h in
    parts_shaped fit kind is_default one.0 next parts
    (put_row_shaped fit kind is_default given one.0 part (row_number kind part.word) refl shaped (placed part.line (put_row kind is_default given part (row_number kind part.word)) one.0 one.1)) one.2

pub record DefShaped (kind : Kind) (d : Def) : Type 0 where
  pub values : AreShaped (made_shapes kind) d.values
  pub loops : is_looped kind ≡ false → d.loops ≡ []

none_pass : {X : Type 0} (p : X → Bool) (xs : List X) → AllByRecursion (λ x. p x ≡ false) xs → filter p xs ≡ []
none_pass p [] h = refl
none_pass p (x ∷ xs) h = subst (λ b. cond b (x ∷ filter p xs) (filter p xs) ≡ []) (sym h.0) (none_pass p xs h.1)

all_plain : (kind : Kind) (words : List (List ℕ)) → is_looped kind ≡ false → AllByRecursion (WordLoopless kind) words → AllByRecursion (λ word. is_among word loop_words ≡ false) words
all_plain kind [] plain h = tt
all_plain kind (word ∷ words) plain h = (h.0 plain, all_plain kind words plain h.1)

and_false : (b : Bool) → (b && false) ≡ false
and_false true = refl
and_false false = refl

not_inherited : (kind : Kind) (given : Given) (word : List ℕ) → row_number kind word ≡ None → is_inherited kind given word ≡ false
not_inherited kind given word none =
    ap (λ row. not (is_among word given.words) && has_number (value_in given.values row)) none ∙ and_false (not (is_among word given.words))

no_loops : (kind : Kind) (given : Given) → GivenShaped kind given → is_looped kind ≡ false → loops_of kind given ≡ []
no_loops kind given shaped plain =
    let none = no_loop_rows kind plain in
    let own = none_pass (λ word. is_among word loop_words) given.words (all_plain kind given.words plain shaped.words) in
    let others = none_pass (is_inherited kind given) loop_words
    (not_inherited kind given (codes "forthreads") none.0, (not_inherited kind given (codes "forxfersize") none.1, (not_inherited kind given (codes "forrdpct") none.2, tt))) in
    ap (λ loops. loops ++ filter (is_inherited kind given) loop_words) own ∙ others

made_shaped : (kind : Kind) (line : ℕ) (name : List ℕ) (given : Given) (number : List ℕ) → GivenShaped kind given → DefShaped kind (made kind line name given number)
made_shaped kind line name given number shaped = record {
  values = made_values_shaped kind (name ++ number) number given.values shaped.values;
  loops = no_loops kind given shaped;
}

pub record KindShaped (kind : Kind) (so_far : KindSoFar) : Type 0 where
  pub default : AreShaped (given_shapes kind) so_far.default
  pub defs : AllByRecursion (DefShaped kind) so_far.defs

added_shaped : (kind : Kind) (so_far next : KindSoFar) (defs : List Def) → KindShaped kind so_far → AllByRecursion (DefShaped kind) defs → added kind so_far defs ≡ Ok next → KindShaped kind next
added_shaped kind so_far next defs shaped more h =
    let named = unless (not (list_all (λ d. is_name kind d.name) defs)) BadName _ next h in
    let taken = unless (list_any (λ d. has_name so_far.defs d.name) defs) NameTaken _ next named.1 in
    let remote = unless (list_any (λ d. is_remote kind d.values) defs) RemoteHost _ next taken.1 in
    let many = unless (nat_lt (most_of kind) (length so_far.defs + length defs)) TooMany (Ok (record so_far { defs = so_far.defs ++ defs })) next remote.1 in
    subst (KindShaped kind) (ok_same many.1) (record { default = shaped.default; defs = all_both (DefShaped kind) so_far.defs defs shaped.defs more })

defaulted_shaped : (kind : Kind) (so_far next : KindSoFar) (values : List Value) → KindShaped kind so_far → AreShaped (given_shapes kind) values → defaulted kind so_far values ≡ Ok next → KindShaped kind next
defaulted_shaped kind so_far next values shaped given h =
    let kept = unless (is_remote kind values) RemoteHost (Ok (record so_far { default = values })) next h in
    subst (KindShaped kind) (ok_same kept.1) (record { default = given; defs = shaped.defs })

whole_shaped : (kind : Kind) (so_far next : KindSoFar) (line : ℕ) (name : List ℕ) (given : Given) (default : Bool) → KindShaped kind so_far → GivenShaped kind given → cond default (defaulted kind so_far given.values) (added kind so_far (all_made kind line name given)) ≡ Ok next → KindShaped kind next
whole_shaped kind so_far next line name given true shaped values h = defaulted_shaped kind so_far next given.values shaped values.values h
whole_shaped kind so_far next line name given false shaped values h =
    added_shaped kind so_far next (all_made kind line name given) shaped
    (all_made_so (DefShaped kind) (made kind line name given) (numbers_of (value_at kind (codes "count") given.values)) (λ number. made_shaped kind line name given number values)) h

def_shaped : ValuesFit → (kind : Kind) (both : Bool) (so_far next : KindSoFar) (line : ℕ) (first : Part) (parts : List Part) → KindShaped kind so_far → after_def kind both so_far line first parts ≡ Ok next → KindShaped kind next
def_shaped fit kind both so_far next line first parts shaped h =
    let read = opened kind both so_far next line first parts h in
    let values = parts_shaped fit kind (is_default read.name) (begun so_far.default) read.given parts (record { values = shaped.default; words = tt }) read.reads in
    whole_shaped kind so_far next line read.name read.given (is_default read.name) shaped values read.ends

pub record FileShaped (so_far : SoFar) : Type 0 where
  pub general : GivenShaped General so_far.general
  pub hd : KindShaped Hd so_far.hd
  pub sd : KindShaped Sd so_far.sd
  pub wd : KindShaped Wd so_far.wd
  pub rd : KindShaped Rd so_far.rd
  pub fsd : KindShaped Fsd so_far.fsd
  pub fwd : KindShaped Fwd so_far.fwd

kind_shaped : ValuesFit → (kind : Kind) (so_far next : SoFar) (line : ℕ) (first : Part) (parts : List Part) → FileShaped so_far → after_kind kind so_far line first parts ≡ Ok next → FileShaped next
kind_shaped fit General so_far next line first parts shaped h =
    let read = bound (after_parts General false so_far.general (first ∷ parts)) (λ given. Ok (record so_far { general = given })) next h in
    subst FileShaped (ok_same read.2) (record { general = parts_shaped fit General false so_far.general read.0 (first ∷ parts) shaped.general read.1; hd = shaped.hd; sd = shaped.sd; wd = shaped.wd; rd = shaped.rd; fsd = shaped.fsd; fwd = shaped.fwd })
kind_shaped fit Hd so_far next line first parts shaped h =
    let read = bound (after_def Hd false so_far.hd line first parts) (λ hd. Ok (record so_far { hd = hd })) next h in
    subst FileShaped (ok_same read.2) (record { general = shaped.general; hd = def_shaped fit Hd false so_far.hd read.0 line first parts shaped.hd read.1; sd = shaped.sd; wd = shaped.wd; rd = shaped.rd; fsd = shaped.fsd; fwd = shaped.fwd })
kind_shaped fit Sd so_far next line first parts shaped h =
    let read = bound (after_def Sd so_far.files so_far.sd line first parts) (λ sd. Ok (record so_far { sd = sd; blocks = true })) next h in
    subst FileShaped (ok_same read.2) (record { general = shaped.general; hd = shaped.hd; sd = def_shaped fit Sd so_far.files so_far.sd read.0 line first parts shaped.sd read.1; wd = shaped.wd; rd = shaped.rd; fsd = shaped.fsd; fwd = shaped.fwd })
kind_shaped fit Wd so_far next line first parts shaped h =
    let read = bound (after_def Wd so_far.files so_far.wd line first parts) (λ wd. Ok (record so_far { wd = wd; blocks = true })) next h in
    subst FileShaped (ok_same read.2) (record { general = shaped.general; hd = shaped.hd; sd = shaped.sd; wd = def_shaped fit Wd so_far.files so_far.wd read.0 line first parts shaped.wd read.1; rd = shaped.rd; fsd = shaped.fsd; fwd = shaped.fwd })
kind_shaped fit Rd so_far next line first parts shaped h =
    let read = bound (after_def Rd false so_far.rd line first parts) (λ rd. Ok (record so_far { rd = rd })) next h in
    subst FileShaped (ok_same read.2) (record { general = shaped.general; hd = shaped.hd; sd = shaped.sd; wd = shaped.wd; rd = def_shaped fit Rd false so_far.rd read.0 line first parts shaped.rd read.1; fsd = shaped.fsd; fwd = shaped.fwd })
kind_shaped fit Fsd so_far next line first parts shaped h =
    let read = bound (after_def Fsd so_far.blocks so_far.fsd line first parts) (λ fsd. Ok (record so_far { fsd = fsd; files = true })) next h in
    subst FileShaped (ok_same read.2) (record { general = shaped.general; hd = shaped.hd; sd = shaped.sd; wd = shaped.wd; rd = shaped.rd; fsd = def_shaped fit Fsd so_far.blocks so_far.fsd read.0 line first parts shaped.fsd read.1; fwd = shaped.fwd })
kind_shaped fit Fwd so_far next line first parts shaped h =
    let read = bound (after_def Fwd so_far.blocks so_far.fwd line first parts) (λ fwd. Ok (record so_far { fwd = fwd; files = true })) next h in
    subst FileShaped (ok_same read.2) (record { general = shaped.general; hd = shaped.hd; sd = shaped.sd; wd = shaped.wd; rd = shaped.rd; fsd = shaped.fsd; fwd = def_shaped fit Fwd so_far.blocks so_far.fwd read.0 line first parts shaped.fwd read.1 })

line_shaped : ValuesFit → (so_far next : SoFar) (line : ℕ) (parts : List Part) → FileShaped so_far → after_line so_far line parts ≡ Ok next → FileShaped next
line_shaped fit so_far next line [] shaped h = subst FileShaped (ok_same h) shaped
line_shaped fit so_far next line (first ∷ parts) shaped h = kind_shaped fit (kind_of first.word) so_far next line first parts shaped h

pub lines_shaped : ValuesFit → (bytes : List ℕ) (so_far next : SoFar) (lines : List ParmLine) → FileShaped so_far → after_lines bytes so_far lines ≡ Ok next → FileShaped next
lines_shaped fit bytes so_far next [] shaped h = subst FileShaped (ok_same h) shaped
lines_shaped fit bytes so_far next (line ∷ lines) shaped h =
    let read = bound (after_line so_far line.line (map (part_of bytes) line.parts)) (λ s. after_lines bytes s lines) next h in
    lines_shaped fit bytes read.0 next lines (line_shaped fit so_far read.0 line.line (map (part_of bytes) line.parts) shaped read.1) read.2

fresh_shaped : (kind : Kind) → KindShaped kind (fresh kind)
fresh_shaped kind = record { default = defaults_shaped kind; defs = tt }

pub start_shaped : FileShaped start
start_shaped = record {
  general = record { values = defaults_shaped General; words = tt };
  hd = fresh_shaped Hd;
  sd = fresh_shaped Sd;
  wd = fresh_shaped Wd;
  rd = fresh_shaped Rd;
  fsd = fresh_shaped Fsd;
  fwd = fresh_shaped Fwd;
}
