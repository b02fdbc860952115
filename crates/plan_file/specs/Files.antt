-- What a parameter file asks for.
use Rattle.std.specs.Prelude.{◌≡◌, ℕ, List, Result, Ok, Err}
use Rattle.vd_outside.specs.declared.text.NoMemory.{NoMemory}
use Rattle.parm_lex.specs.Lines.{FileAt}
use Rattle.parm_lex.specs.declared.fault.LexFault.{LexFault}
use Rattle.parm_lex.specs.declared.line.ParmLine.{ParmLine}
use Rattle.parm_records.specs.Ranges.{Defs}
use Rattle.parm_defs.specs.File.{read_of}
use Rattle.parm_defs.specs.Records.{shown}
use Rattle.parm_defs.specs.declared.fault.ParmFault.{ParmFault}
use Rattle.plan_types.specs.declared.plan.Plan.{Plan}
use Rattle.run_plan.specs.Plans.{plan_at}
use Rattle.run_plan.specs.declared.fault.PlanFault.{PlanFault}
use Rattle.run_report.specs.Plans.{parameter_column_text, parameter_text}
use Rattle.plan_file.specs.Words.{defs_word, lex_word, plan_word}
use Rattle.plan_file.specs.declared.file.Unplanned.{Unplanned}
use Rattle.plan_file.specs.declared.file.Unplanned.TheVariants as unplanned

-- The plan of a file, or the line that refuses it. Its lines have a fault; or they are read, and the definitions have one; or they are
-- definitions, and the plan has one; or it is their plan.
pub data PlansTo (bytes : List ℕ) (made : Result Plan (List ℕ)) : Type 0 where
  unread : (fault : LexFault) → FileAt bytes (Err fault)
      → made ≡ Err (parameter_column_text fault.line fault.column (lex_word fault.why)) → PlansTo bytes made
  undefined : (lines : List ParmLine) (fault : ParmFault) → FileAt bytes (Ok lines) → read_of bytes lines ≡ Err fault
      → made ≡ Err (parameter_text fault.line (defs_word fault.kind)) → PlansTo bytes made
  without_plan : (lines : List ParmLine) (defs : Defs) (fault : PlanFault) → FileAt bytes (Ok lines) → read_of bytes lines ≡ Ok (shown defs)
      → plan_at defs ≡ Err fault → made ≡ Err (parameter_text fault.line (plan_word fault.kind)) → PlansTo bytes made
  planned : (lines : List ParmLine) (defs : Defs) (plan : Plan) → FileAt bytes (Ok lines) → read_of bytes lines ≡ Ok (shown defs)
      → plan_at defs ≡ Ok plan → made ≡ Ok plan → PlansTo bytes made

-- a line that was made refuses
abbrev pub refused_by : Result (List ℕ) NoMemory → Unplanned
refused_by (Ok line) = unplanned.Refused line
refused_by (Err e) = unplanned.NoMemory

-- What a function answered is what the file asks for, unless memory ran out.
abbrev pub Gives : List ℕ → Result Plan Unplanned → Type 0
Gives bytes (Ok plan) = PlansTo bytes (Ok plan)
Gives bytes (Err (unplanned.Refused line)) = PlansTo bytes (Err line)
Gives bytes (Err unplanned.NoMemory) = Unit {0}

-- Where a step stops, that is what the file asks for.
abbrev pub Stops : {A : Type 0} → List ℕ → Result A Unplanned → Type 0
Stops bytes (Ok x) = Unit {0}
Stops bytes (Err (unplanned.Refused line)) = PlansTo bytes (Err line)
Stops bytes (Err unplanned.NoMemory) = Unit {0}

-- a file asks for one plan, or one line refuses it
abbrev pub PlansOnce : Type 0
PlansOnce = (bytes : List ℕ) (a b : Result Plan (List ℕ)) → PlansTo bytes a → PlansTo bytes b → a ≡ b

-- and always so
abbrev pub AlwaysPlans : Type 0
AlwaysPlans = (bytes : List ℕ) → (made : Result Plan (List ℕ)) × PlansTo bytes made
