-- The names of a kind are different.
use Rattle.std.proofs.Common.{◌≡◌, ℕ, zero, suc, ◌+◌, ◌^◌, ◌<◌, List, [], ◌∷◌, ◌++◌, Bool, true, false, ◌||◌, decimal, map, refl, sym, ◌∙◌, arith}
use Rattle.std.specs.List.{AllByRecursion, AllPairs, list_any, range_with_len}
use Rattle.std.specs.Str.{bytes_eq}
use Rattle.std.proofs.lemmas.Bool.{false≢true}
use Rattle.std.proofs.lemmas.Fmt.{decimal_injective}
use Rattle.std.proofs.lemmas.List.{append_cancel_left}
use Rattle.std.proofs.lemmas.List.Elements.{All-from_recursion}
use Rattle.std.proofs.lemmas.List.Kept.{AllPairs-cons}
use Rattle.std.proofs.lemmas.Slice.Eq.{bytes_eq-Decides}
use Rattle.parm_forms.specs.declared.rows.Kind.{Kind}
use Rattle.parm_defs.specs.declared.given.Given.{Given}
use Rattle.parm_defs.specs.declared.made.Def.{Def}
use Rattle.parm_defs.specs.Checks.{has_name}
use Rattle.parm_defs.specs.Made.{made}

abbrev pub Differs : List ℕ → List ℕ → Type 0
Differs a b = a ≡ b → ⊥

abbrev pub Apart : List (List ℕ) → Type 0
Apart [] = Unit {0}
Apart (x ∷ xs) = AllByRecursion (Differs x) xs × Apart xs

pub apart_pairs : (xs : List (List ℕ)) → Apart xs → AllPairs Differs xs
apart_pairs [] h = λ i j d below within. absurd (omega (arith, within))
apart_pairs (x ∷ xs) h = AllPairs-cons Differs x xs (All-from_recursion (Differs x) xs h.0) (apart_pairs xs h.1)

pub all_both : {X : Type 0} (P : X → Type 0) (xs ys : List X) → AllByRecursion P xs → AllByRecursion P ys → AllByRecursion P (xs ++ ys)
all_both P [] ys h k = k
all_both P (x ∷ xs) ys h k = (h.0, all_both P xs ys h.1 k)

pub apart_both : (xs ys : List (List ℕ)) → Apart xs → Apart ys → AllByRecursion (λ x. AllByRecursion (Differs x) ys) xs → Apart (xs ++ ys)
apart_both [] ys h k m = k
apart_both (x ∷ xs) ys h k m = (all_both (Differs x) xs ys h.0 m.0, apart_both xs ys h.1 k m.1)

pub neither : (a b : Bool) → (a || b) ≡ false → (a ≡ false) × (b ≡ false)
neither true b h = absurd (false≢true (sym h))
neither false b h = (refl, h)

pub bytes_differ : (a b : List ℕ) → bytes_eq a b ≡ false → Differs a b
bytes_differ a b h = λ same. false≢true (sym h ∙ (bytes_eq-Decides a b).1 same)

-- one name is none of others
no_other : (name : List ℕ) (defs : List Def) → list_any (λ d. bytes_eq name d.name) defs ≡ false → AllByRecursion (Differs name) (map (λ d. d.name) defs)
no_other name [] h = tt
no_other name (d ∷ defs) h =
    let both = neither (bytes_eq name d.name) (list_any (λ d. bytes_eq name d.name) defs) h in
    (bytes_differ name d.name both.0, no_other name defs both.1)

-- the first of earlier definitions, and the others
first_and_others : (e : Def) (before defs : List Def) → list_any (λ d. has_name (e ∷ before) d.name) defs ≡ false → (list_any (λ d. bytes_eq e.name d.name) defs ≡ false) × (list_any (λ d. has_name before d.name) defs ≡ false)
first_and_others e before [] h = (refl, refl)
first_and_others e before (d ∷ defs) h =
    let split = neither (bytes_eq e.name d.name || has_name before d.name) (list_any (λ d. has_name (e ∷ before) d.name) defs) h in
    let head = neither (bytes_eq e.name d.name) (has_name before d.name) split.0 in
    let rest = first_and_others e before defs split.1 in
    (rw head.0 rest.0, rw head.1 rest.1)

pub not_taken : (before defs : List Def) → list_any (λ d. has_name before d.name) defs ≡ false → AllByRecursion (λ x. AllByRecursion (Differs x) (map (λ d. d.name) defs)) (map (λ d. d.name) before)
not_taken [] defs h = tt
not_taken (e ∷ before) defs h =
    let split = first_and_others e before defs h in
    (no_other e.name defs split.0, not_taken before defs split.1)

later_differ : (kind : Kind) (line : ℕ) (name : List ℕ) (given : Given) (number first many : ℕ) → number < first → first + many < 2 ^ 64 → AllByRecursion (Differs (name ++ decimal number)) (map (λ d. d.name) (map (made kind line name given) (map decimal (range_with_len first many))))
later_differ kind line name given number first zero below small = tt
later_differ kind line name given number first (suc many) below small = (
  (λ same. let equal : number ≡ first = decimal_injective number first (omega arith) (omega arith) (append_cancel_left name (decimal number) (decimal first) same) in absurd (omega (arith, equal, below))),
  later_differ kind line name given number (first + 1) many (omega arith) (omega arith),
)

-- names with numbers behind them
pub numbered_apart : (kind : Kind) (line : ℕ) (name : List ℕ) (given : Given) (first many : ℕ) → first + many < 2 ^ 64 → Apart (map (λ d. d.name) (map (made kind line name given) (map decimal (range_with_len first many))))
numbered_apart kind line name given first zero small = tt
numbered_apart kind line name given first (suc many) small =
    (later_differ kind line name given first (first + 1) many (omega arith) (omega arith), numbered_apart kind line name given (first + 1) many (omega arith))
