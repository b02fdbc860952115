-- Hosts, and selections.
use Rattle.std.specs.Prelude.{ℕ, List, [], ◌∷◌, Option, Some, None, Result, Ok, codes, map, sum}
use Rattle.wildcards.specs.Selection.{nothing_at, places_of}
use Rattle.parm_records.specs.declared.general.HdDef.{HdDef}
use Rattle.run_plan.specs.declared.fault.PlanFault.{PlanFault}
use Rattle.run_plan.specs.declared.fault.PlanKind.{PlanKind}
use Rattle.run_plan.specs.declared.fault.PlanKind.TheVariants.{NothingSelected}
use Rattle.run_plan.specs.Outcomes.{unless}

-- where no host is defined, this machine is there
abbrev pub host_names : List HdDef → List (List ℕ)
host_names [] = codes "localhost" ∷ []
host_names (d ∷ ds) = map (λ e. e.name) (d ∷ ds)

-- all slaves of all hosts
abbrev pub slaves_of : List HdDef → ℕ
slaves_of [] = 1
slaves_of (d ∷ ds) = sum (map (λ e. e.jvms) (d ∷ ds))

-- refused where some pattern fits no name, or there is no pattern
abbrev pub selection_kind : Option ℕ → Option PlanKind
selection_kind (Some place) = Some NothingSelected
selection_kind None = None

-- the places of the names that patterns select
abbrev pub selected : ℕ → List (List ℕ) → List (List ℕ) → Result (List ℕ) PlanFault
selected line patterns names = unless line (selection_kind (nothing_at patterns names)) (Ok (places_of patterns names))
