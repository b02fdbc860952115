-- What a call answers, beside what is defined.
use Rattle.std.specs.Prelude.{◌≡◌, ℕ, Result, Ok, Err}
use Rattle.parm_forms.specs.declared.fault.ParmKind.{ParmKind}
use Rattle.parm_defs.specs.declared.fault.DefsRefused.{DefsRefused}
use Rattle.parm_defs.specs.declared.fault.DefsRefused.TheVariants as refused
use Rattle.parm_defs.specs.declared.fault.ParmFault.{ParmFault}

infixl 10 ◌>>=◌
abbrev pub ◌>>=◌ : {A B F : Type 0} → Result A F → (A → Result B F) → Result B F
(Ok x) >>= f = f x
(Err fault) >>= f = Err fault

-- What a function answered, seen by view, is what is defined, unless memory ran out.
abbrev pub Gives : {A B : Type 0} → (A → B) → Result A DefsRefused → Result B ParmFault → Type 0
Gives view (Ok x) defined = defined ≡ Ok (view x)
Gives view (Err refused.NoMemory) defined = Unit {0}
Gives view (Err (refused.Fault fault)) defined = defined ≡ Err fault

abbrev pub fault_at : ℕ → ParmKind → ParmFault
fault_at line kind = record { line = line; kind = kind }

-- a fault that is found on a line
abbrev pub on_line : {A : Type 0} → ℕ → Result A ParmKind → Result A ParmFault
on_line line (Ok x) = Ok x
on_line line (Err kind) = Err (fault_at line kind)
