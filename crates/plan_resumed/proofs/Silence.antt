-- A command whose output had failed before takes no disk, and no passes behind recovery.
use Rattle.std.proofs.Common.{◌≡◌, ◌∙◌, refl, sym, ap, arith, ℕ, ◌<◌, ◌≤◌, Bool, true, false, List, [], ◌∷◌, length}
use Rattle.std.specs.Prelude.{All}
use Rattle.std.proofs.lemmas.List.Elements.{All-head}
use Rattle.vd_yard.specs.Out.{AtDisk, AtPasses, Out, one_more, one_more_at, one_more_here, out_at}
use Rattle.plan_types.specs.Valid.{IsPlan, IsRun, IsShare}
use Rattle.plan_types.specs.declared.plan.Plan.{Plan}
use Rattle.plan_types.specs.declared.run.RunPlan.{RunPlan}
use Rattle.plan_types.specs.declared.run.Share.{Share}
use Rattle.plan_types.specs.declared.store.StorePlan.{StorePlan}
use Rattle.plan_journals.specs.Open.{out_besides}
use Rattle.plan_verified.specs.Stores.{stores_out}

some_share : (stores : List StorePlan) (shares : List Share) → 0 < length shares → All (IsShare stores) shares → 0 < length stores
some_share stores [] some all = absurd (omega (arith, some))
some_share stores (share ∷ shares) some all = let first = All-head (IsShare stores) share shares all in omega (arith, first.store)

some_run : (stores : List StorePlan) (runs : List RunPlan) → 0 < length runs → All (IsRun stores) runs → 0 < length stores
some_run stores [] some all = absurd (omega (arith, some))
some_run stores (run ∷ runs) some all =
    let first = All-head (IsRun stores) run runs all in
    some_share stores run.shares first.some_share first.shares

-- A valid plan has a store.
pub some_store : (plan : Plan) → IsPlan plan → 0 < length plan.stores
some_store plan valid = some_run plan.stores plan.runs valid.some_runs valid.runs

no_less : (out : Out) (stores : List StorePlan) (path : List ℕ) → out_at out AtDisk path ≤ out_at (out_besides out stores) AtDisk path
no_less out [] path = omega arith
no_less out (store ∷ stores) path =
    let rest = no_less (one_more out AtDisk store.journal) stores path in
    let one = one_more_at out AtDisk store.journal path in
    omega (arith, rest, one)

-- Where disks were taken more is out.
pub some_taken : (out now : Out) (stores : List StorePlan) → 0 < length stores → now ≡ out_besides out stores → now ≡ out → ⊥
some_taken out now [] some is same = absurd (omega (arith, some))
some_taken out now (store ∷ stores) some is same =
    let rest = no_less (one_more out AtDisk store.journal) stores store.journal in
    let here = one_more_here out AtDisk store.journal in
    let again : out_at (out_besides (one_more out AtDisk store.journal) stores) AtDisk store.journal ≡ out_at out AtDisk store.journal = ap (λ (o : Out). out_at o AtDisk store.journal) (sym is ∙ same) in
    absurd (omega (arith, rest, here, again))

passes_no_less : (out : Out) (stores : List StorePlan) (path : List ℕ) → out_at out AtPasses path ≤ out_at (stores_out stores out) AtPasses path
passes_no_less out [] path = omega arith
passes_no_less out (store ∷ stores) path =
    let rest = passes_no_less out stores path in
    let one = one_more_at (stores_out stores out) AtPasses store.path path in
    omega (arith, rest, one)

-- Where passes were taken more is out.
pub some_passes : (out now : Out) (stores : List StorePlan) → 0 < length stores → now ≡ stores_out stores out → now ≡ out → ⊥
some_passes out now [] some is same = absurd (omega (arith, some))
some_passes out now (store ∷ stores) some is same =
    let rest = passes_no_less out stores store.path in
    let here = one_more_here (stores_out stores out) AtPasses store.path in
    let again : out_at (stores_out (store ∷ stores) out) AtPasses store.path ≡ out_at out AtPasses store.path = ap (λ (o : Out). out_at o AtPasses store.path) (sym is ∙ same) in
    absurd (omega (arith, rest, here, again))

pub not_failed : (failed : Bool) → (failed ≡ true → ⊥) → failed ≡ false
not_failed true not = absurd (not refl)
not_failed false not = refl
