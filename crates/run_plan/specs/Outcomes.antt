-- Steps of which the first refusal counts.
use Rattle.std.specs.Prelude.{◌≡◌, ℕ, List, [], ◌∷◌, ◌++◌, Option, Some, None, Result, Ok, Err}
use Rattle.run_plan.specs.declared.fault.PlanFault.{PlanFault}
use Rattle.run_plan.specs.declared.fault.PlanKind.{PlanKind}
use Rattle.run_plan.specs.declared.fault.PlanRefused.{PlanRefused}
use Rattle.run_plan.specs.declared.fault.PlanRefused.TheVariants as refused

infixl 10 ◌>>=◌
abbrev pub ◌>>=◌ : {A B : Type 0} → Result A PlanFault → (A → Result B PlanFault) → Result B PlanFault
(Ok x) >>= f = f x
(Err fault) >>= f = Err fault

-- What a function answered is what is defined, unless memory ran out.
abbrev pub Gives : {A : Type 0} → Result A PlanRefused → Result A PlanFault → Type 0
Gives (Ok x) defined = defined ≡ Ok x
Gives (Err (refused.Fault fault)) defined = defined ≡ Err fault
Gives (Err refused.NoMemory) defined = Unit {0}

-- the same of one item, of which the defined list consists
abbrev pub GivesOne : {A : Type 0} → Result A PlanRefused → Result (List A) PlanFault → Type 0
GivesOne (Ok x) defined = defined ≡ Ok (x ∷ [])
GivesOne (Err (refused.Fault fault)) defined = defined ≡ Err fault
GivesOne (Err refused.NoMemory) defined = Unit {0}

-- the same of a list to which the defined one was added
abbrev pub GivesMore : {A B : Type 0} → Result A PlanRefused → List B → List B → Result (List B) PlanFault → Type 0
GivesMore {B = B} (Ok done) before now defined = (more : List B) × (defined ≡ Ok more) × (now ≡ before ++ more)
GivesMore (Err (refused.Fault fault)) before now defined = defined ≡ Err fault
GivesMore (Err refused.NoMemory) before now defined = Unit {0}

-- A check passed or refused as is defined, unless memory ran out.
abbrev pub Passes : {A : Type 0} → Result A PlanRefused → Option PlanFault → Type 0
Passes (Ok passed) defined = defined ≡ None
Passes (Err (refused.Fault fault)) defined = defined ≡ Some fault
Passes (Err refused.NoMemory) defined = Unit {0}

-- a definition's fault, where it has one, else what comes behind it
abbrev pub unless : {A : Type 0} → ℕ → Option PlanKind → Result A PlanFault → Result A PlanFault
unless line (Some kind) rest = Err (record { line = line; kind = kind })
unless line None rest = rest

-- a definition's fault stops
abbrev pub Stops : {A : Type 0} → Result A PlanFault → ℕ → Option PlanKind → Type 0
Stops (Ok passed) line kind = kind ≡ None
Stops (Err fault) line kind = (why : PlanKind) × (kind ≡ Some why) × (fault ≡ record { line = line; kind = why })

-- a fault, else what comes behind it
abbrev pub stop_at : {A : Type 0} → Option PlanFault → Result A PlanFault → Result A PlanFault
stop_at (Some fault) rest = Err fault
stop_at None rest = rest

-- the first of two faults
abbrev pub or_next : Option PlanFault → Option PlanFault → Option PlanFault
or_next (Some fault) next = Some fault
or_next None next = next

abbrev pub at_line : ℕ → Option PlanKind → Option PlanFault
at_line line (Some kind) = Some (record { line = line; kind = kind })
at_line line None = None

-- the first fault of a check over definitions: each is looked at with those before it
abbrev pub first_fault : {A : Type 0} → (List A → A → Option PlanFault) → List A → List A → Option PlanFault
first_fault check before [] = None
first_fault check before (x ∷ xs) = or_next (check before x) (first_fault check (before ++ x ∷ []) xs)

-- a step over definitions: each is taken with what those before it gave, and the first refusal counts
abbrev pub in_turn : {A B : Type 0} → (List B → A → Result (List B) PlanFault) → List B → List A → Result (List B) PlanFault
in_turn step done [] = Ok done
in_turn step done (x ∷ xs) = step done x >>= λ more. in_turn step (done ++ more) xs
