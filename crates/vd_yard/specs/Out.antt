-- What is out: for each kind of thing and each path, how many.
use Rattle.std.specs.Prelude.{◌≡◌, ℕ, ◌+◌, ◌-◌, ◌≤◌, Bool, true, false, ◌&&◌, List, if◌then◌else◌, cond, refl}
use Rattle.std.proofs.Common.{sym, ◌∙◌, ap, arith}
use Rattle.std.specs.Str.{bytes_eq}
use Rattle.std.proofs.lemmas.Slice.Eq.{bytes_eq-Decides}

pub data Kind : Type 0 where
  AtSource : Kind
  AtDisk : Kind
  AtPasses : Kind
  AtArm : Kind

abbrev pub same_kind : Kind → Kind → Bool
same_kind AtSource AtSource = true
same_kind AtDisk AtDisk = true
same_kind AtPasses AtPasses = true
same_kind AtArm AtArm = true
same_kind k l = false

-- how many are out, by kind and path: a finite map whose missing places are 0
pub record Out : Type 0 where
  pub at : Kind → List ℕ → ℕ

-- how many of a kind are out at a path
pub out_at : Out → Kind → List ℕ → ℕ
out_at out kind path = out.at kind path

unfoldable pub one_at : Kind → List ℕ → Kind → List ℕ → ℕ
one_at kind path k q = if same_kind kind k && bytes_eq path q then 1 else 0

-- one more of this kind is out at this path
pub one_more : Out → Kind → List ℕ → Out
one_more out kind path = record { at = λ k q. out.at k q + one_at kind path k q }

one_less : Out → Kind → List ℕ → Out
one_less out kind path = record { at = λ k q. out.at k q - one_at kind path k q }

back : (a b : ℕ) → a + b - b ≡ a
back a b = omega arith

one_less_one_more : (out : Out) (kind : Kind) (path : List ℕ) → one_less (one_more out kind path) kind path ≡ out
unfolding one_less one_more
one_less_one_more out kind path = λ i. record { at = λ k q. back (out.at k q) (one_at kind path k q) i }

-- what is out once the last is given back is what was out before it was taken
pub one_more_cancel : (a b : Out) (kind : Kind) (path : List ℕ) → one_more a kind path ≡ one_more b kind path → a ≡ b
one_more_cancel a b kind path p =
    sym (one_less_one_more a kind path) ∙ ap (λ (o : Out). one_less o kind path) p ∙ one_less_one_more b kind path

swap : (a b c : ℕ) → a + b + c ≡ a + c + b
swap a b c = omega arith

-- the order doesn't matter
pub one_more_swap : (a : Out) (k l : Kind) (p q : List ℕ) → one_more (one_more a k p) l q ≡ one_more (one_more a l q) k p
unfolding one_more
one_more_swap a k l p q = λ i. record { at = λ m r. swap (a.at m r) (one_at k p m r) (one_at l q m r) i }

same_kind_self : (k : Kind) → same_kind k k ≡ true
same_kind_self AtSource = refl
same_kind_self AtDisk = refl
same_kind_self AtPasses = refl
same_kind_self AtArm = refl

one_at_here : (k : Kind) (p : List ℕ) → one_at k p k p ≡ 1
unfolding one_at
one_at_here k p = rw (same_kind_self k, (bytes_eq-Decides p p).1 refl) refl

pub one_more_here : (out : Out) (kind : Kind) (path : List ℕ) → out_at (one_more out kind path) kind path ≡ out_at out kind path + 1
unfolding out_at one_more
one_more_here out kind path = ap (λ n. out.at kind path + n) (one_at_here kind path)

-- the counts that a function gives
pub out_of : (Kind → List ℕ → ℕ) → Out
out_of f = record { at = f }

pub out_at_out_of : (f : Kind → List ℕ → ℕ) (k : Kind) (q : List ℕ) → out_at (out_of f) k q ≡ f k q
unfolding out_at out_of
out_at_out_of f k q = refl

-- one more, shown place by place
pub one_more_by : (f h : Kind → List ℕ → ℕ) (kind : Kind) (path : List ℕ) →
    ((k : Kind) (q : List ℕ) → h k q ≡ f k q + one_at kind path k q) → out_of h ≡ one_more (out_of f) kind path
unfolding out_of one_more
one_more_by f h kind path e = λ i. record { at = λ k q. e k q i }

-- nothing is out
pub nothing_out : Out
nothing_out = out_of (λ kind path. 0)

pub nothing_out_by : (f : Kind → List ℕ → ℕ) → ((k : Kind) (q : List ℕ) → f k q ≡ 0) → out_of f ≡ nothing_out
unfolding out_of nothing_out
nothing_out_by f e = λ i. record { at = λ k q. e k q i }

pub nothing_out_at : (k : Kind) (q : List ℕ) → out_at nothing_out k q ≡ 0
unfolding out_at out_of nothing_out
nothing_out_at k q = refl

one_at_other : (kind : Kind) (path : List ℕ) (k : Kind) (q : List ℕ) → same_kind kind k ≡ false → one_at kind path k q ≡ 0
unfolding one_at
one_at_other kind path k q e = rw e refl

-- Other kinds stay as they are.
pub one_more_other : (out : Out) (kind : Kind) (path : List ℕ) (k : Kind) (q : List ℕ) → same_kind kind k ≡ false →
    out_at (one_more out kind path) k q ≡ out_at out k q
unfolding out_at one_more
one_more_other out kind path k q e = omega (arith, one_at_other kind path k q e)

one_at_same : (k : Kind) (p q : List ℕ) → one_at k p k q ≡ cond (bytes_eq p q) 1 0
unfolding one_at
one_at_same k p q = rw (same_kind_self k) refl

-- one more, path by path
pub one_more_at : (out : Out) (kind : Kind) (path : List ℕ) (q : List ℕ) → out_at (one_more out kind path) kind q ≡ out_at out kind q + cond (bytes_eq path q) 1 0
unfolding out_at one_more
one_more_at out kind path q = ap (λ n. out.at kind q + n) (one_at_same kind path q)

-- One more is no less, of any kind.
pub one_more_least : (kind other : Kind) (path : List ℕ) (old new : Out) (q : List ℕ) → old ≡ one_more new other path → 1 ≤ out_at new kind q → 1 ≤ out_at old kind q
unfolding out_at one_more
one_more_least kind other path old new q e some =
    let same : out_at old kind q ≡ new.at kind q + one_at other path kind q = ap (λ (o : Out). out_at o kind q) e in
    omega arith
