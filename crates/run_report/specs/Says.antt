-- What a printer has done: lines go out as the work goes on, and none after a write that failed.
use Rattle.std.specs.Prelude.{◌≡◌, ℕ, ◌+◌, ◌≤◌, min, Bool, true, false, List, [], ◌∷◌, ◌++◌, take, length, Option, Some, None, refl}
use Rattle.std.specs.Io.KnownBytes.{Appends}
use Rattle.std.proofs.Common.{suc, sym, ◌∙◌, ap, arith, subst, inl, inr, ◌⊎◌}
use Rattle.std.proofs.lemmas.List.{append_assoc, append-nil, take-append-le, take_min, take_at}
use Rattle.vd_outside.specs.Causes.{Rose}
use Rattle.vd_outside.specs.Streams.{AppendsFront}

-- whether a write failed, and what the sink tells
pub record Printing : Type 0 where
  pub failed : Bool
  pub taken : Option (List ℕ)
  pub faults : ℕ

abbrev pub printing : Bool → Option (List ℕ) → ℕ → Printing
printing failed taken faults = record { failed = failed; taken = taken; faults = faults }

-- All of this text was added where no write failed, and a front of it where one did. After that nothing more is.
pub record Says (old new : Printing) (text : List ℕ) : Type 0 where
  pub later : old.faults ≤ new.faults
  pub all : new.failed ≡ false → Appends old.taken new.taken text
  pub none_before : new.failed ≡ false → old.failed ≡ false
  pub front : new.failed ≡ true → AppendsFront old.taken new.taken text
  pub still : old.failed ≡ true → new ≡ old
  pub cause : new.failed ≡ true → old.failed ≡ false → Rose old.faults new.faults
  pub quiet : new.failed ≡ false → new.faults ≡ old.faults

-- Some front of this text was said, before the work stopped.
pub data SaysFront (old new : Printing) (text : List ℕ) : Type 0 where
  says_front : (n : ℕ) → Says old new (take n text) → SaysFront old new text

either_way : (b : Bool) → (b ≡ true) ⊎ (b ≡ false)
either_way true = inl refl
either_way false = inr refl

appends_none : (a : Option (List ℕ)) → Appends a a []
appends_none None = tt
appends_none (Some xs) = sym (append-nil xs)

appends_then : (a b c : Option (List ℕ)) (t u : List ℕ) → Appends a b t → Appends b c u → Appends a c (t ++ u)
appends_then None b c t u p q = tt
appends_then (Some x) None c t u p q = absurd p
appends_then (Some x) (Some y) None t u p q = absurd q
appends_then (Some x) (Some y) (Some z) t u p q = q ∙ ap (λ l. l ++ u) p ∙ append_assoc x t u

take_past : (t u : List ℕ) (n : ℕ) → take (length t + n) (t ++ u) ≡ t ++ take n u
take_past [] u n = let e : 0 + n ≡ n = omega arith in ap (λ k. take k u) e
take_past (x ∷ t) u n =
    let e : suc (length t) + n ≡ suc (length t + n) = omega arith in
    ap (λ k. take k (x ∷ t ++ u)) e ∙ ap (λ l. x ∷ l) (take_past t u n)

pub take_within : (t u : List ℕ) (n : ℕ) → take (min n (length t)) (t ++ u) ≡ take n t
take_within t u n =
    let short : min n (length t) ≤ length t = omega arith in
    take-append-le (min n (length t)) t u short ∙ take_min n t

front_more : (a b : Option (List ℕ)) (t u : List ℕ) → AppendsFront a b t → AppendsFront a b (t ++ u)
front_more a b t u (n, p) = (min n (length t), subst (λ l. Appends a b l) (sym (take_within t u n)) p)

front_after : (a b c : Option (List ℕ)) (t u : List ℕ) → Appends a b t → AppendsFront b c u → AppendsFront a c (t ++ u)
front_after a b c t u p (n, q) = (length t + n, subst (λ l. Appends a c l) (sym (take_past t u n)) (appends_then a b c t (take n u) p q))

pub says_none : (a : Printing) → Says a a []
says_none a = record {
  later = omega arith;
  all = λ e. appends_none a.taken;
  none_before = λ e. e;
  front = λ e. (0, appends_none a.taken);
  still = λ e. refl;
  cause = λ e f. cc;
  quiet = λ e. refl;
}

pub says_then : (a b c : Printing) (t u : List ℕ) → Says a b t → Says b c u → Says a c (t ++ u)
says_then a b c t u p q = record {
  later = omega (arith, p.later, q.later);
  all = λ e. appends_then a.taken b.taken c.taken t u (p.all (q.none_before e)) (q.all e);
  none_before = λ e. p.none_before (q.none_before e);
  front = λ e. elim (either_way b.failed) [
    | inl on ↦ subst (λ (s : Printing). AppendsFront a.taken s.taken (t ++ u)) (sym (q.still on)) (front_more a.taken b.taken t u (p.front on))
    | inr off ↦ front_after a.taken b.taken c.taken t u (p.all off) (q.front e)
  ];
  still = λ e. let first : b ≡ a = p.still e in let stopped : b.failed ≡ true = ap (λ (s : Printing). s.failed) first ∙ e in q.still stopped ∙ first;
  cause = λ e f. elim (either_way b.failed) [
    | inl on ↦ let r : Rose a.faults b.faults = p.cause on f in omega (arith, q.later)
    | inr off ↦ let r : Rose b.faults c.faults = q.cause e off in omega (arith, p.later)
  ];
  quiet = λ e. q.quiet e ∙ p.quiet (q.none_before e);
}

pub front_here : (a b : Printing) (t u : List ℕ) → Says a b t → SaysFront a b (t ++ u)
front_here a b t u p = says_front (length t) (subst (λ l. Says a b l) (sym (take_at t u (length t) refl)) p)

pub then_front : (a b c : Printing) (t u : List ℕ) → Says a b t → SaysFront b c u → SaysFront a c (t ++ u)
then_front a b c t u p (says_front n q) = says_front (length t + n) (subst (λ l. Says a c l) (sym (take_past t u n)) (says_then a b c t (take n u) p q))

-- the same text in other words
pub says_along : (a b : Printing) (t u : List ℕ) → t ≡ u → Says a b t → Says a b u
says_along a b t u e p = subst (λ l. Says a b l) e p
