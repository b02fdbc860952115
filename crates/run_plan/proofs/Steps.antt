-- A step over definitions, and the workers of a run, item by item.
use Rattle.std.proofs.Common.{◌≡◌, ℕ, List, [], ◌∷◌, ◌++◌, ◌+◌, ◌<◌, ◌≤◌, Bool, true, false, cond, Option, Some, None, Result, Ok, length, get_or, slice_get, drop, map, ap, refl, sym, ◌∙◌, append_assoc, append-nil, arith}
use Rattle.std.specs.List.{range_with_len}
use Rattle.std.proofs.lemmas.Bool.{ltb-false}
use Rattle.std.proofs.lemmas.List.FromFn.{map-range_with_len_more}
use Rattle.plan_types.specs.declared.run.WorkerPlan.{WorkerPlan}
use Rattle.plan_types.specs.declared.store.StorePlan.{StorePlan}
use Rattle.std.specs.Prelude.{nat_lt}
use Rattle.std.proofs.lemmas.Grind.{common_steps}
use Rattle.parm_records.specs.declared.runs.RdDef.{RdDef}
use Rattle.plan_types.specs.Valid.{blocks_of, intervals_of}
use Rattle.run_plan.specs.declared.fault.PlanFault.{PlanFault}
use Rattle.run_plan.specs.declared.fault.PlanKind.{PlanKind}
use Rattle.run_plan.specs.declared.fault.PlanKind.TheVariants.{IntervalsMany, RunsMany, WorkersMany}
use Rattle.run_plan.specs.declared.loops.Settings.{Settings}
use Rattle.run_plan.specs.declared.runs.Pick.{Pick}
use Rattle.run_plan.specs.declared.runs.Work.{Work}
use Rattle.run_plan.specs.Outcomes.{◌>>=◌, in_turn, unless}
use Rattle.run_plan.proofs.Counts.{count_is}
use Rattle.run_plan.specs.Loops.{count_of, settings_of}
use Rattle.run_plan.specs.Runs.{admitted_at, is_crowded, numbers_kind, picks_at, stores_at}
use Rattle.run_plan.specs.Workers.{workers_at, workers_of}
use Rattle.run_plan.proofs.Lists.{cells}

-- one more item of a list that a function of numbers gives
pub made_more : {A : Type 0} (f : ℕ → A) (i : ℕ) (front before now : List A) (x : A) → before ≡ front ++ map f (range_with_len 0 i) → x ≡ f i → now ≡ before ++ x ∷ [] → now ≡ front ++ map f (range_with_len 0 (i + 1))
made_more f i front before now x so_far is added =
    added ∙ ap (λ xs. xs ++ x ∷ []) so_far ∙ ap (λ y. (front ++ map f (range_with_len 0 i)) ++ y ∷ []) is ∙
    append_assoc front (map f (range_with_len 0 i)) (f i ∷ []) ∙
    ap (λ xs. front ++ xs) (sym (map-range_with_len_more f 0 i i (omega arith)))

-- the workers of one more store
pub workers_kept : (plans : List StorePlan) (slaves : ℕ) (choice : Option ℕ) (all : List WorkerPlan) (stores : List ℕ) (i store : ℕ) (before now : List WorkerPlan) → i < length stores → store ≡ get_or stores i store → all ≡ workers_of plans slaves choice before (drop i stores) → now ≡ before ++ workers_at (slice_get plans store) store slaves choice (length before) → all ≡ workers_of plans slaves choice now (drop (i + 1) stores)
workers_kept plans slaves choice all stores i store before now within is so_far added =
    so_far ∙ ap (workers_of plans slaves choice before) (cells stores i store within is) ∙
    ap (λ ws. workers_of plans slaves choice ws (drop (i + 1) stores)) (sym added)

third : (a b c : Bool) → cond a (Some IntervalsMany) (cond b (Some WorkersMany) (cond c (Some RunsMany) None)) ≡ None → c ≡ false
third true b c e = absurd (cc)
third false true c e = absurd (cc)
third false false true e = absurd (cc)
third false false false e = refl

-- where nothing is too many, the runs so far are few
pub numbers_few : (work : Work) (d : RdDef) (stores : List ℕ) (before : ℕ) → numbers_kind work d stores before ≡ None → before + count_of d d.loops ≤ 1000
numbers_few work d stores before e =
    let few : nat_lt 1000 (before + count_of d d.loops) ≡ false =
    third (nat_lt 100000 (intervals_of d.elapsed d.interval)) (is_crowded work.threads stores d) (nat_lt 1000 (before + count_of d d.loops)) e in
    omega (arith, ltb-false 1000 (before + count_of d d.loops) few)

-- what is admitted, by its workloads and by what its numbers say
pub admitted_is : (work : Work) (d : RdDef) (before : ℕ) (picks : List Pick) (stores : List ℕ) (kind : Option PlanKind) → picks_at work d ≡ Ok picks → stores ≡ stores_at work picks → kind ≡ numbers_kind work d stores before → admitted_at work before d ≡ unless d.line kind (Ok picks)
admitted_is work d before picks stores kind picked same says =
    ap (λ r. r >>= λ ps. unless d.line (numbers_kind work d (stores_at work ps) before) (Ok ps)) picked ∙
    ap (λ ss. unless d.line (numbers_kind work d ss before) (Ok picks)) (sym same) ∙ ap (λ k. unless d.line k (Ok picks)) (sym says)

-- the runs of loops are few
pub few_runs : (d : RdDef) (words : List (List ℕ)) (s : Settings) (all before : List Settings) (n : ℕ) → all ≡ before ++ settings_of d words s → before ≡ [] → words ≡ d.loops → n + count_of d d.loops ≤ 1000 → n + length all ≤ 1000
few_runs d words s all before n made none same few =
    omega (arith, ap length (made ∙ ap (λ xs. xs ++ settings_of d words s) none ∙ ap (λ ws. settings_of d ws s) same), count_is d d.loops s)

pub none_adds : {A : Type 0} (xs ys : List A) → ys ≡ [] → xs ≡ xs ++ ys
none_adds xs ys e = sym (ap (λ zs. xs ++ zs) e ∙ append-nil xs)

-- a step over definitions, with one item more
pub one_kept : {A B : Type 0} (f : List B → A → Result (List B) PlanFault) (all : Result (List B) PlanFault) (xs : List A) (i : ℕ) (x : A) (before now : List B) (y : B) → i < length xs → x ≡ get_or xs i x → all ≡ in_turn f before (drop i xs) → f before x ≡ Ok (y ∷ []) → now ≡ before ++ y ∷ [] → all ≡ in_turn f now (drop (i + 1) xs)
one_kept f all xs i x before now y within is so_far gives added =
    so_far ∙ ap (in_turn f before) (cells xs i x within is) ∙
    ap (λ r. r >>= λ more. in_turn f (before ++ more) (drop (i + 1) xs)) gives ∙ ap (λ ys. in_turn f ys (drop (i + 1) xs)) (sym added)

-- the blocks of one store more
pub blocks_more : (before : List StorePlan) (store : StorePlan) → blocks_of (before ++ store ∷ []) ≡ blocks_of before + store.id.geometry.blocks
blocks_more before store = grind (arith, common_steps)
