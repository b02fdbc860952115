-- One pass more.
use Rattle.std.proofs.Common.{zero, suc, ◌≡◌, ℕ, ◌+◌, List, [], ◌∷◌, ◌++◌, length, map, Some, refl, sym, ◌∙◌, ap, arith, inl, inr, ◌⊎◌}
use Rattle.std.specs.Prelude.{slice_get, unwrap_or, Option}
use Rattle.std.proofs.lemmas.List.{length_push, append-nil}
use Rattle.vd_arm.specs.Arm.{PassSeen}
use Rattle.vd_yard.specs.Blocks.{AreFirst, AllTell}
use Rattle.vd_yard.specs.Contents.{file_block, told_bytes}
use Rattle.std.specs.List.{concat}
use Rattle.std.proofs.lemmas.List.Folds.{concat-append}

pub none_first : (size : ℕ) (passes : List PassSeen) → passes ≡ [] → AreFirst size 0 passes
none_first size [] e = record { as_many = refl; blocks = λ i pass is. cc; sizes = λ i pass is. cc }
none_first size (p ∷ ps) e = cc

-- what stands in a list with one more
pushed : {A : Type 0} (xs : List A) (x y : A) (i : ℕ) → slice_get (xs ++ x ∷ []) i ≡ Some y → (slice_get xs i ≡ Some y) ⊎ ((i ≡ length xs) × (y ≡ x))
pushed [] x y zero e = inr (refl, cc)
pushed [] x y (suc i) e = cc
pushed (z ∷ xs) x y zero e = inl e
pushed (z ∷ xs) x y (suc i) e = elim (pushed xs x y i e) [
  | inl there ↦ inl there
  | inr last ↦ inr (omega (arith, last.0), last.1)
]

pub one_first : (size count : ℕ) (passes : List PassSeen) (pass : PassSeen) → AreFirst size count passes → pass.block ≡ count → pass.size ≡ size →
    AreFirst size (count + 1) (passes ++ pass ∷ [])
one_first size count passes pass first block same = record {
  as_many = omega (arith, length_push passes pass, first.as_many);
  blocks = λ i other is. elim (pushed passes pass other i is) [
    | inl there ↦ first.blocks i other there
    | inr last ↦ ap (λ (p : PassSeen). p.block) last.1 ∙ block ∙ sym first.as_many ∙ sym last.0
  ];
  sizes = λ i other is. elim (pushed passes pass other i is) [
    | inl there ↦ first.sizes i other there
    | inr last ↦ ap (λ (p : PassSeen). p.size) last.1 ∙ same
  ];
}

pub map_push : {A B : Type 0} (f : A → B) (xs ys : List A) (x : A) → ys ≡ xs ++ x ∷ [] → map f ys ≡ map f xs ++ f x ∷ []
map_push {A} {B} f xs ys x e = ap (λ (l : List A). map f l) e ∙ go xs
  where
    go : (l : List A) → map f (l ++ x ∷ []) ≡ map f l ++ f x ∷ []
    go [] = refl
    go (z ∷ l) = ap (λ (m : List B). f z ∷ m) (go l)

pub none_tell : (size : ℕ) (bytes : List ℕ) (passes : List PassSeen) → passes ≡ [] → AllTell size bytes passes
none_tell size bytes [] e = record { each = λ i pass is. cc }
none_tell size bytes (p ∷ ps) e = cc

pub one_tells : (size : ℕ) (bytes : List ℕ) (passes : List PassSeen) (pass : PassSeen) (count : ℕ) → AllTell size bytes passes → length passes ≡ count →
    pass.told ≡ Some (file_block size count bytes) → AllTell size bytes (passes ++ pass ∷ [])
one_tells size bytes passes pass count all as_many told = record {
  each = λ i other is. elim (pushed passes pass other i is) [
    | inl there ↦ all.each i other there
    | inr last ↦
        ap (λ (p : PassSeen). p.told) last.1 ∙ told ∙ ap (λ n. Some (file_block size n bytes)) (sym as_many ∙ sym last.0)
  ];
}

-- one pass more in what passes tell
pub told_more : (passes more : List PassSeen) (pass : PassSeen) (bytes : List ℕ) → more ≡ passes ++ pass ∷ [] → pass.told ≡ Some bytes → told_bytes more ≡ told_bytes passes ++ bytes
told_more passes more pass bytes e told =
    let one : unwrap_or pass.told [] ≡ bytes = ap (λ (o : Option (List ℕ)). unwrap_or o []) told in
    ap told_bytes (e ∙ refl)
    ∙ ap concat (map_push (λ (p : PassSeen). unwrap_or p.told []) passes (passes ++ pass ∷ []) pass refl)
    ∙ concat-append (map (λ (p : PassSeen). unwrap_or p.told []) passes) (unwrap_or pass.told [] ∷ [])
    ∙ ap (λ (l : List ℕ). told_bytes passes ++ l) (append-nil (unwrap_or pass.told []) ∙ one)
