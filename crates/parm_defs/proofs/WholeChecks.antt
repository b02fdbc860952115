-- What is wrong with whole definitions.
use Rattle.std.proofs.Common.{◌≡◌, ℕ, List, Bool, true, false, cond, not, Result, Err, ap, refl, subst, sym, ◌∙◌}
use Rattle.std.specs.List.{list_all, list_any}
use Rattle.parm_forms.specs.declared.fault.ParmKind.TheVariants.{RemoteHost}
use Rattle.parm_forms.specs.declared.rows.Kind.{Kind}
use Rattle.parm_defs.specs.declared.made.Def.{Def}
use Rattle.parm_defs.specs.declared.whole.KindSoFar.{KindSoFar}
use Rattle.parm_defs.specs.declared.fault.DefsRefused.{DefsRefused}
use Rattle.parm_defs.specs.declared.fault.DefsRefused.TheVariants as refused
use Rattle.parm_defs.specs.declared.fault.ParmFault.{ParmFault}
use Rattle.parm_defs.specs.Answers.{Gives, fault_at, on_line}
use Rattle.parm_defs.specs.Checks.{added, has_name, is_name, is_remote}

third : {A : Type 0} (named taken remote : Bool) (w x y z : A) → named ≡ true → taken ≡ false → remote ≡ true → cond (not named) w (cond taken x (cond remote y z)) ≡ y
third true false true w x y z h k m = refl
third true false false w x y z h k m = absurd cc
third true true remote w x y z h k m = absurd cc
third false taken remote w x y z h k m = absurd cc

pub remote_host : (kind : Kind) (so_far : KindSoFar) (line : ℕ) (defs : List Def) → list_all (λ d. is_name kind d.name) defs ≡ true → list_any (λ d. has_name so_far.defs d.name) defs ≡ false → list_any (λ d. is_remote kind d.values) defs ≡ true → on_line line (added kind so_far defs) ≡ Err (fault_at line RemoteHost)
remote_host kind so_far line defs h k m = ap (on_line line) (third _ _ _ _ _ _ _ h k m)

-- a test of a list that is seen by another name
pub tested : {A : Type 0} {xs ys : List A} {result value : Bool} (test : List A → Bool) → result ≡ test xs → xs ≡ ys → result ≡ value → test ys ≡ value
tested test h k m = sym (h ∙ ap test k) ∙ m

-- a fault that is made is the one that is defined
pub at_line : {A : Type 0} (made : DefsRefused) (fault : ParmFault) (defined : Result A ParmFault) → made ≡ refused.Fault fault → defined ≡ Err fault → Gives (λ x. x) (Err made) defined
at_line made fault defined h k = subst (λ e. Gives (λ x. x) (Err e) defined) (sym h) k
