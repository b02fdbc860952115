-- What holds where a step gives a value.
use Rattle.std.proofs.Common.{◌≡◌, ℕ, Bool, true, false, cond, Some, None, Result, Ok, Err, refl}
use Rattle.parm_forms.specs.declared.fault.ParmKind.{ParmKind}
use Rattle.parm_defs.specs.Answers.{◌>>=◌, on_line}

abbrev same_result : {A F : Type 0} → Result A F → Result A F → Type 0
same_result a b = a ≡ b

pub ok_same : {A F : Type 0} {x y : A} → same_result {A = A} {F = F} (Ok x) (Ok y) → x ≡ y
ok_same h = cc

pub err_no_ok : {A F : Type 0} {f : F} {y : A} → same_result {A = A} {F = F} (Err f) (Ok y) → ⊥
err_no_ok h = cc

pub bound : {A B F : Type 0} (r : Result A F) (f : A → Result B F) (y : B) → same_result (r >>= f) (Ok y) → (x : A) × same_result r (Ok x) × same_result (f x) (Ok y)
bound (Ok x) f y h = (x, refl, h)
bound (Err e) f y h = absurd (err_no_ok h)

pub placed : {A : Type 0} (line : ℕ) (r : Result A ParmKind) (x : A) → same_result (on_line line r) (Ok x) → same_result r (Ok x)
placed line (Ok y) x h = let e : y ≡ x = ok_same h in rw e refl
placed line (Err kind) x h = absurd (err_no_ok h)

pub unless : {A F : Type 0} (b : Bool) (f : F) (r : Result A F) (y : A) → same_result (cond b (Err f) r) (Ok y) → (b ≡ false) × same_result r (Ok y)
unless true f r y h = absurd (err_no_ok h)
unless false f r y h = (refl, h)

pub some_same : {A : Type 0} {x y : A} → Some x ≡ Some y → x ≡ y
some_same h = cc

pub none_no_some : {A : Type 0} {x : A} → None ≡ Some x → ⊥
none_no_some h = cc
