-- What stands of a kind so far fits, definition by definition.
use Rattle.std.proofs.Common.{◌≡◌, ℕ, ◌+◌, ◌^◌, ◌<◌, ◌≤◌, inl, inr, List, [], ◌∷◌, ◌++◌, Bool, true, false, cond, not, ◌&&◌, codes, nat_lt, Option, Some, None, Ok, length, map, refl, subst, sym, ap, arith}
use Rattle.std.specs.List.{AllByRecursion, list_all, list_any}
use Rattle.std.proofs.lemmas.Bool.{false≢true, ltb-false}
use Rattle.std.proofs.lemmas.List.{length-append, map-append}
use Rattle.parm_forms.specs.Rows.{forms_of, row_number}
use Rattle.parm_forms.specs.declared.fault.ParmKind.TheVariants.{BadName, NameTaken, RemoteHost, TooMany}
use Rattle.parm_forms.specs.declared.form.Form.TheVariants.{Count}
use Rattle.parm_forms.specs.declared.rows.Kind.{Kind}
use Rattle.parm_forms.specs.declared.rows.Kind.TheVariants.{Rd}
use Rattle.parm_forms.specs.declared.value.Value.{Value}
use Rattle.parm_forms.specs.declared.value.Value.TheVariants.{Numbers, Texts}
use Rattle.parm_defs.specs.declared.given.Given.{Given}
use Rattle.parm_defs.specs.declared.made.Def.{Def}
use Rattle.parm_defs.specs.declared.whole.KindSoFar.{KindSoFar}
use Rattle.parm_defs.specs.Answers.{◌>>=◌, on_line}
use Rattle.parm_defs.specs.Checks.{added, after_def, begun, defaulted, has_name, is_default, is_name, is_remote, most_of, name_of, whole}
use Rattle.parm_defs.specs.Made.{all_made, made, numbers_of, value_at, value_in}
use Rattle.parm_defs.specs.Parts.{Part, after_parts}
use Rattle.parm_defs.proofs.LoopsFit.{LoopsFit, WordsFit, made_loops, parts_words}
use Rattle.parm_defs.proofs.Loose.{AreLoose, loose_at}
use Rattle.parm_defs.proofs.MadeFit.{all_made_so, count_form, made_fits}
use Rattle.parm_defs.proofs.NamesApart.{Apart, all_both, apart_both, not_taken, numbered_apart}
use Rattle.parm_defs.proofs.PartsFit.{FormLaws, IsFew, parts_fit}
use Rattle.parm_defs.proofs.Steps.{bound, none_no_some, ok_same, placed, unless}

pub record KindFits (most : ℕ) (kind : Kind) (so_far : KindSoFar) : Type 0 where
  pub default : AreLoose most (forms_of kind) so_far.default
  pub defs : AllByRecursion (λ d. AreLoose most (forms_of kind) d.values) so_far.defs
  pub named : AllByRecursion (λ d. is_name kind d.name ≡ true) so_far.defs
  pub apart : Apart (map (λ d. d.name) so_far.defs)
  pub few : length so_far.defs ≤ most_of kind

-- a definition that is read: its name, what is given, and the whole
pub record Opened (kind : Kind) (so_far : KindSoFar) (line : ℕ) (parts : List Part) (next : KindSoFar) : Type 0 where
  pub name : List ℕ
  pub given : Given
  pub reads : after_parts kind (is_default name) (begun so_far.default) parts ≡ Ok given
  pub ends : whole kind so_far line name given ≡ Ok next

pub opened : (kind : Kind) (both : Bool) (so_far next : KindSoFar) (line : ℕ) (first : Part) (parts : List Part) → after_def kind both so_far line first parts ≡ Ok next → Opened kind so_far line parts next
opened kind both so_far next line first parts h =
    let named = bound (on_line first.line (name_of kind both first.items)) (λ name. after_parts kind (is_default name) (begun so_far.default) parts >>= λ given. on_line line (whole kind so_far line name given)) next h in
    let read = bound (after_parts kind (is_default named.0) (begun so_far.default) parts) (λ given. on_line line (whole kind so_far line named.0 given)) next named.2 in
    record { name = named.0; given = read.0; reads = read.1; ends = placed line (whole kind so_far line named.0 read.0) next read.2 }

all_true : {X : Type 0} (p : X → Bool) (xs : List X) → list_all p xs ≡ true → AllByRecursion (λ x. p x ≡ true) xs
all_true p [] h = tt
all_true p (x ∷ xs) h = both (p x) (list_all p xs) h (all_true p xs)
  where
    both : (a b : Bool) → (a && b) ≡ true → (b ≡ true → AllByRecursion (λ x. p x ≡ true) xs) → (a ≡ true) × AllByRecursion (λ x. p x ≡ true) xs
    both true b h rest = (refl, rest h)
    both false b h rest = absurd (false≢true h)

un_not : (b : Bool) → not b ≡ false → b ≡ true
un_not true h = refl
un_not false h = absurd (false≢true (sym h))

added_fits : (most : ℕ) (kind : Kind) (so_far next : KindSoFar) (defs : List Def) → KindFits most kind so_far → AllByRecursion (λ d. AreLoose most (forms_of kind) d.values) defs → Apart (map (λ d. d.name) defs) → added kind so_far defs ≡ Ok next → KindFits most kind next × (next.defs ≡ so_far.defs ++ defs)
added_fits most kind so_far next defs fits values apart h =
    let named = unless (not (list_all (λ d. is_name kind d.name) defs)) BadName _ next h in
    let taken = unless (list_any (λ d. has_name so_far.defs d.name) defs) NameTaken _ next named.1 in
    let remote = unless (list_any (λ d. is_remote kind d.values) defs) RemoteHost _ next taken.1 in
    let many = unless (nat_lt (most_of kind) (length so_far.defs + length defs)) TooMany (Ok (record so_far { defs = so_far.defs ++ defs })) next remote.1 in
    let small : length so_far.defs + length defs ≤ most_of kind = ltb-false (most_of kind) (length so_far.defs + length defs) many.0 in
    let sum : length (so_far.defs ++ defs) ≡ length so_far.defs + length defs = length-append so_far.defs defs in
    let same : record so_far { defs = so_far.defs ++ defs } ≡ next = ok_same many.1 in (
      subst (KindFits most kind) same (record {
        default = fits.default;
        defs = all_both (λ d. AreLoose most (forms_of kind) d.values) so_far.defs defs fits.defs values;
        named = all_both (λ d. is_name kind d.name ≡ true) so_far.defs defs fits.named (all_true (λ d. is_name kind d.name) defs (un_not _ named.0));
        apart = rw (map-append (λ d. d.name) so_far.defs defs) (apart_both (map (λ d. d.name) so_far.defs) (map (λ d. d.name) defs) fits.apart apart (not_taken so_far.defs defs taken.0));
        few = omega (arith, small, sum);
      }),
      sym (ap (λ s. s.defs) same),
    )

defaulted_fits : (most : ℕ) (kind : Kind) (so_far next : KindSoFar) (values : List Value) → KindFits most kind so_far → AreLoose most (forms_of kind) values → defaulted kind so_far values ≡ Ok next → KindFits most kind next × (next.defs ≡ so_far.defs)
defaulted_fits most kind so_far next values fits loose h =
    let kept = unless (is_remote kind values) RemoteHost (Ok (record so_far { default = values })) next h in
    let same : record so_far { default = values } ≡ next = ok_same kept.1 in
    (subst (KindFits most kind) same (record { default = loose; defs = fits.defs; named = fits.named; apart = fits.apart; few = fits.few }), sym (ap (λ s. s.defs) same))

-- a count is small
abbrev SmallCount : Option Value → Type 0
SmallCount o = (first many : ℕ) → o ≡ Some (Numbers (first ∷ many ∷ [])) → first + many < 2 ^ 64

count_in_row : (most : ℕ) (kind : Kind) (values : List Value) (row : Option ℕ) → row_number kind (codes "count") ≡ row → AreLoose most (forms_of kind) values → SmallCount (value_in values row)
count_in_row most kind values None is fits first many h = absurd (none_no_some h)
count_in_row most kind values (Some row) is fits first many h =
    elim ((loose_at most (forms_of kind) values row Count (Numbers (first ∷ many ∷ [])) fits (count_form kind row is) h).fits) [
      | inl count ↦ (let low = count.0 in let high = count.1.at_most in omega (arith, low, high))
      | inr nothing ↦ absurd nothing
    ]

made_apart : (kind : Kind) (line : ℕ) (name : List ℕ) (given : Given) (o : Option Value) → SmallCount o → Apart (map (λ d. d.name) (map (made kind line name given) (numbers_of o)))
made_apart kind line name given None small = (tt, tt)
made_apart kind line name given (Some (Texts texts)) small = (tt, tt)
made_apart kind line name given (Some (Numbers [])) small = (tt, tt)
made_apart kind line name given (Some (Numbers (first ∷ []))) small = (tt, tt)
made_apart kind line name given (Some (Numbers (first ∷ many ∷ []))) small = numbered_apart kind line name given first many (small first many refl)
made_apart kind line name given (Some (Numbers (first ∷ many ∷ more ∷ numbers))) small = (tt, tt)

all_made_fit : (most : ℕ) (kind : Kind) (line : ℕ) (name : List ℕ) (given : Given) → 1 ≤ most → AreLoose most (forms_of kind) given.values → AllByRecursion (λ d. AreLoose most (forms_of kind) d.values) (all_made kind line name given)
all_made_fit most kind line name given one fits =
    all_made_so (λ d. AreLoose most (forms_of kind) d.values) (made kind line name given) (numbers_of (value_at kind (codes "count") given.values)) (λ number. made_fits most kind line name given number one fits)

all_made_apart : (most : ℕ) (kind : Kind) (line : ℕ) (name : List ℕ) (given : Given) → AreLoose most (forms_of kind) given.values → Apart (map (λ d. d.name) (all_made kind line name given))
all_made_apart most kind line name given fits = made_apart kind line name given (value_at kind (codes "count") given.values) (count_in_row most kind given.values (row_number kind (codes "count")) refl fits)

whole_fits : (most : ℕ) (kind : Kind) (so_far next : KindSoFar) (line : ℕ) (name : List ℕ) (given : Given) (default : Bool) → 1 ≤ most → KindFits most kind so_far → AreLoose most (forms_of kind) given.values → cond default (defaulted kind so_far given.values) (added kind so_far (all_made kind line name given)) ≡ Ok next → KindFits most kind next
whole_fits most kind so_far next line name given true one fits values h = (defaulted_fits most kind so_far next given.values fits values h).0
whole_fits most kind so_far next line name given false one fits values h =
    (added_fits most kind so_far next (all_made kind line name given) fits (all_made_fit most kind line name given one values) (all_made_apart most kind line name given values) h).0

pub def_fits : FormLaws → (most : ℕ) (kind : Kind) (both : Bool) (so_far next : KindSoFar) (line : ℕ) (first : Part) (parts : List Part) → 1 ≤ most → AllByRecursion (IsFew most) parts → KindFits most kind so_far → after_def kind both so_far line first parts ≡ Ok next → KindFits most kind next
def_fits laws most kind both so_far next line first parts one few fits h =
    let read = opened kind both so_far next line first parts h in
    let values = parts_fit laws most kind (is_default read.name) (begun so_far.default) read.given parts few fits.default read.reads in
    whole_fits most kind so_far next line read.name read.given (is_default read.name) one fits values read.ends

whole_loops : (most : ℕ) (so_far next : KindSoFar) (line : ℕ) (name : List ℕ) (given : Given) (default : Bool) → 1 ≤ most → KindFits most Rd so_far → AllByRecursion LoopsFit so_far.defs → AreLoose most (forms_of Rd) given.values → WordsFit given → cond default (defaulted Rd so_far given.values) (added Rd so_far (all_made Rd line name given)) ≡ Ok next → AllByRecursion LoopsFit next.defs
whole_loops most so_far next line name given true one fits loops values words h = rw (defaulted_fits most Rd so_far next given.values fits values h).1 loops
whole_loops most so_far next line name given false one fits loops values words h =
    rw (added_fits most Rd so_far next (all_made Rd line name given) fits (all_made_fit most Rd line name given one values) (all_made_apart most Rd line name given values) h).1
    (all_both LoopsFit so_far.defs (all_made Rd line name given) loops
    (all_made_so LoopsFit (made Rd line name given) (numbers_of (value_at Rd (codes "count") given.values)) (λ number. made_loops line name number given words)))

pub def_loops : FormLaws → (most : ℕ) (both : Bool) (so_far next : KindSoFar) (line : ℕ) (first : Part) (parts : List Part) → 1 ≤ most → AllByRecursion (IsFew most) parts → KindFits most Rd so_far → AllByRecursion LoopsFit so_far.defs → after_def Rd both so_far line first parts ≡ Ok next → AllByRecursion LoopsFit next.defs
def_loops laws most both so_far next line first parts one few fits loops h =
    let read = opened Rd both so_far next line first parts h in
    let values = parts_fit laws most Rd (is_default read.name) (begun so_far.default) read.given parts few fits.default read.reads in
    let words = parts_words laws most (is_default read.name) (begun so_far.default) read.given parts few fits.default (record { apart = tt; numbers = tt }) read.reads in
    whole_loops most so_far next line read.name read.given (is_default read.name) one fits loops values words read.ends
