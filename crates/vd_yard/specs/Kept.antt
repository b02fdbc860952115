-- What is kept by path: a finite map.
use Rattle.std.specs.Prelude.{◌≡◌, ◌&&◌, cond, Bool, true, false, List, ℕ, Option, Some, None, refl, unwrap_or, []}
use Rattle.std.specs.Str.{bytes_eq}
use Rattle.std.proofs.lemmas.Slice.Eq.{bytes_eq-Decides}
use Rattle.std.proofs.Common.{sym, inl, inr, ◌⊎◌, ◌∙◌}

-- by path, what is kept there: a finite map
pub record Kept (A : Type 0) : Type 0 where
  pub at : List ℕ → Option A

pub kept_at : {A : Type 0} → Kept A → List ℕ → Option A
kept_at kept path = kept.at path

unfoldable pub kept_of : {A : Type 0} → (List ℕ → Option A) → Kept A
kept_of f = record { at = f }

placed : {A : Type 0} → Bool → A → Option A → Option A
placed true x o = Some x
placed false x o = o

-- what came back is the kept one, where the yard tells
pub keep_at : {A : Type 0} → Bool → Kept A → List ℕ → A → Kept A
keep_at tells kept path x = record { at = λ q. placed (tells && bytes_eq path q) x (kept.at q) }

placed_cases : {A : Type 0} (b : Bool) (x e : A) (o : Option A) → placed b x o ≡ Some e → ((b ≡ true) × (e ≡ x)) ⊎ (o ≡ Some e)
unfolding placed
placed_cases true x e o p = inl (refl, cc)
placed_cases false x e o p = inr p

both : (a b : Bool) → (a && b) ≡ true → b ≡ true
both true b e = e
both false b e = cc

-- Whatever is kept now is what came back just now, or was kept before.
pub keep_at_cases : {A : Type 0} (tells : Bool) (kept : Kept A) (path : List ℕ) (x : A) (q : List ℕ) (e : A) →
    kept_at (keep_at tells kept path x) q ≡ Some e → ((q ≡ path) × (e ≡ x)) ⊎ (kept_at kept q ≡ Some e)
unfolding kept_at keep_at
keep_at_cases tells kept path x q e p = elim (placed_cases (tells && bytes_eq path q) x e (kept.at q) p) [
  | inl r ↦ inl (sym ((bytes_eq-Decides path q).0 (both tells (bytes_eq path q) r.0)), r.1)
  | inr r ↦ inr r
]

placed_true : {A : Type 0} (b : Bool) (x : A) (o : Option A) → b ≡ true → placed b x o ≡ Some x
unfolding placed
placed_true true x o e = refl
placed_true false x o e = cc

-- where the yard tells, it is there
pub keep_at_here : {A : Type 0} (tells : Bool) (kept : Kept A) (path : List ℕ) (x : A) → tells ≡ true → kept_at (keep_at tells kept path x) path ≡ Some x
unfolding kept_at keep_at
keep_at_here tells kept path x e = placed_true (tells && bytes_eq path path) x (kept.at path) (rw e ((bytes_eq-Decides path path).1 refl))

-- and nothing else is
pub keep_at_only : {A : Type 0} (tells : Bool) (kept : Kept A) (path : List ℕ) (x e : A) → tells ≡ true → kept_at (keep_at tells kept path x) path ≡ Some e → e ≡ x
keep_at_only tells kept path x e t p = let here = keep_at_here tells kept path x t in cc

placed_not : {A : Type 0} (b : Bool) (x : A) (o : Option A) → (b ≡ true → ⊥) → placed b x o ≡ o
unfolding placed
placed_not true x o n = absurd (n refl)
placed_not false x o n = refl

-- Other paths keep what they have.
pub keep_at_other : {A : Type 0} (tells : Bool) (kept : Kept A) (path : List ℕ) (x : A) (q : List ℕ) → (q ≡ path → ⊥) → kept_at (keep_at tells kept path x) q ≡ kept_at kept q
unfolding kept_at keep_at
keep_at_other tells kept path x q n = placed_not (tells && bytes_eq path q) x (kept.at q) (λ e. n (sym ((bytes_eq-Decides path q).0 (both tells (bytes_eq path q) e))))

-- the bytes that are kept at a path: none where no file is there
abbrev pub bytes_at : Kept (List ℕ) → List ℕ → List ℕ
bytes_at kept path = unwrap_or (kept_at kept path) []

-- Nothing is kept at any path.
pub nothing_kept : {A : Type 0} → Kept A
nothing_kept = record { at = λ path. None }

pub nothing_kept_by : {A : Type 0} (f : List ℕ → Option A) → ((q : List ℕ) → f q ≡ None) → kept_of f ≡ nothing_kept
unfolding kept_of nothing_kept
nothing_kept_by f e = λ i. record { at = λ q. e q i }

pub nothing_kept_at : {A : Type 0} (q : List ℕ) → kept_at {A = A} nothing_kept q ≡ None
unfolding kept_at nothing_kept
nothing_kept_at q = refl

pub kept_at_kept_of : {A : Type 0} (f : List ℕ → Option A) (q : List ℕ) → kept_at (kept_of f) q ≡ f q
unfolding kept_at kept_of
kept_at_kept_of f q = refl

-- the same at each path
pub kept_of_same : {A : Type 0} (f h : List ℕ → Option A) → ((q : List ℕ) → h q ≡ f q) → kept_of h ≡ kept_of f
unfolding kept_of
kept_of_same f h e = λ i. record { at = λ q. e q i }

placed_cond : {A : Type 0} (b : Bool) (x : A) (o : Option A) → placed (true && b) x o ≡ cond b (Some x) o
unfolding placed
placed_cond true x o = refl
placed_cond false x o = refl

-- a value at one path, shown path by path
pub keep_at_by : {A : Type 0} (f h : List ℕ → Option A) (path : List ℕ) (x : A) → ((q : List ℕ) → h q ≡ cond (bytes_eq path q) (Some x) (f q)) →
    kept_of h ≡ keep_at true (kept_of f) path x
unfolding kept_of keep_at
keep_at_by f h path x e = λ i. record { at = λ q. (e q ∙ sym (placed_cond (bytes_eq path q) x (f q))) i }

-- what is kept, seen by a function of it
pub keep_at_cond : {A : Type 0} (kept : Kept A) (path : List ℕ) (x : A) (q : List ℕ) → kept_at (keep_at true kept path x) q ≡ cond (bytes_eq path q) (Some x) (kept_at kept q)
unfolding kept_at keep_at
keep_at_cond kept path x q = placed_cond (bytes_eq path q) x (kept.at q)

-- A yard that doesn't tell keeps what it had.
pub keep_at_untold : {A : Type 0} (kept : Kept A) (path : List ℕ) (x : A) → keep_at false kept path x ≡ kept
unfolding keep_at placed
keep_at_untold kept path x = refl

pub nothing_kept_not : {A : Type 0} (path : List ℕ) (x : A) → kept_at nothing_kept path ≡ Some x → ⊥
nothing_kept_not {A} path x is = let none = nothing_kept_at {A = A} path in cc

either_placed : {A P : Type 0} (b : Bool) (x : A) (o : Option A) → (b ≡ true → P) → (P × (placed b x o ≡ Some x)) ⊎ (placed b x o ≡ o)
unfolding placed
either_placed true x o f = inl (f refl, refl)
either_placed false x o f = inr refl

-- At each path stands what came back just now, or what was kept before.
pub keep_at_either : {A : Type 0} (tells : Bool) (kept : Kept A) (path : List ℕ) (x : A) (q : List ℕ) →
    ((q ≡ path) × (kept_at (keep_at tells kept path x) q ≡ Some x)) ⊎ (kept_at (keep_at tells kept path x) q ≡ kept_at kept q)
unfolding kept_at keep_at
keep_at_either tells kept path x q = either_placed (tells && bytes_eq path q) x (kept.at q) (λ e. sym ((bytes_eq-Decides path q).0 (both tells (bytes_eq path q) e)))
