-- What is out was found: where one of a kind is out, there is one at its path.
use Rattle.std.specs.Prelude.{◌≡◌, ℕ, ◌+◌, ◌≤◌, Bool, true, false, List, Option, Some, IsSome, cond, refl}
use Rattle.std.proofs.Common.{sym, ◌∙◌, ap, arith, subst}
use Rattle.std.specs.Str.{bytes_eq}
use Rattle.std.proofs.lemmas.Slice.Eq.{bytes_eq-Decides}
use Rattle.vd_yard.specs.Out.{Out, Kind, out_at, one_more, one_more_at, one_more_other, one_more_least, same_kind}
use Rattle.vd_yard.specs.Kept.{Kept, kept_at, keep_at, keep_at_cond, keep_at_here}

pub record AreThere {A : Type 0} (kind : Kind) (out : Out) (kept : Kept A) : Type 0 where
  pub each : (path : List ℕ) → 1 ≤ out_at out kind path → IsSome (kept_at kept path)

-- one of another kind
pub there_other : {A : Type 0} (kind other : Kind) (path : List ℕ) (old new : Out) (kept : Kept A) → new ≡ one_more old other path → same_kind other kind ≡ false →
    AreThere kind old kept → AreThere kind new kept
there_other kind other path old new kept e apart all = record {
  each = λ q some.
      let same : out_at new kind q ≡ out_at old kind q = ap (λ (o : Out). out_at o kind q) e ∙ one_more_other old other path kind q apart in
      all.each q (omega (arith, same));
}

here : (b : Bool) (old new : ℕ) (P : Type 0) → new ≡ old + cond b 1 0 → (b ≡ true → P) → (1 ≤ old → P) → 1 ≤ new → P
here true old new P e this before some = this refl
here false old new P e this before some = before (omega arith)

-- one more, which is there
pub there_more : {A : Type 0} (kind : Kind) (path : List ℕ) (old new : Out) (kept : Kept A) → new ≡ one_more old kind path → IsSome (kept_at kept path) →
    AreThere kind old kept → AreThere kind new kept
there_more {A} kind path old new kept e found all = record {
  each = λ q some.
      let count : out_at new kind q ≡ out_at old kind q + cond (bytes_eq path q) 1 0 = ap (λ (o : Out). out_at o kind q) e ∙ one_more_at old kind path q in
      here (bytes_eq path q) (out_at old kind q) (out_at new kind q) (IsSome (kept_at kept q)) count
      (λ same. subst (λ (p : List ℕ). IsSome (kept_at kept p)) ((bytes_eq-Decides path q).0 same) found)
      (all.each q) some;
}

-- one less
pub there_back : {A : Type 0} (kind other : Kind) (path : List ℕ) (old new : Out) (kept : Kept A) → old ≡ one_more new other path →
    AreThere kind old kept → AreThere kind new kept
there_back kind other path old new kept e all = record {
  each = λ q some. all.each q (one_more_least kind other path old new q e some);
}

either : {A : Type 0} (b : Bool) (x : A) (o : Option A) → IsSome o → IsSome (cond b (Some x) o)
either true x o some = refl
either false x o some = some

-- What is kept at a path stays kept there.
pub kept_stays : {A : Type 0} (kept : Kept A) (path : List ℕ) (x : A) (q : List ℕ) → IsSome (kept_at kept q) → IsSome (kept_at (keep_at true kept path x) q)
kept_stays {A} kept path x q some =
    subst (λ (o : Option A). IsSome o) (sym (keep_at_cond kept path x q)) (either (bytes_eq path q) x (kept_at kept q) some)

pub kept_here : {A : Type 0} (kept : Kept A) (path : List ℕ) (x : A) → IsSome (kept_at (keep_at true kept path x) path)
kept_here {A} kept path x = subst (λ (o : Option A). IsSome o) (sym (keep_at_here true kept path x refl)) refl

-- a value that is put
pub there_kept : {A : Type 0} (kind : Kind) (path : List ℕ) (x : A) (out : Out) (kept new : Kept A) → new ≡ keep_at true kept path x →
    AreThere kind out kept → AreThere kind out new
there_kept {A} kind path x out kept new e all = record {
  each = λ q some. subst (λ (k : Kept A). IsSome (kept_at k q)) (sym e) (kept_stays kept path x q (all.each q some));
}
