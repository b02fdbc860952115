-- The runs of a plan: that there is one, and their numbers.
use Rattle.std.proofs.Common.{◌≡◌, ℕ, zero, suc, List, [], ◌∷◌, ◌++◌, ◌+◌, ◌*◌, ◌<◌, ◌≤◌, All, Option, Some, None, IfSome, Result, Ok, Err, length, map, slice_get, ap, refl, sym, subst, ◌∙◌, arith}
use Rattle.std.specs.List.{range_with_len}
use Rattle.std.proofs.Math.Nat.{mul-le-mul_left, mul-one}
use Rattle.std.proofs.lemmas.List.{length-append, map-append}
use Rattle.std.proofs.lemmas.List.Elements.{All-head, All-tail}
use Rattle.parm_records.specs.Ranges.{HasLoop, IsRd}
use Rattle.parm_records.specs.declared.runs.RdDef.{RdDef}
use Rattle.plan_types.specs.declared.run.RunPlan.{RunPlan}
use Rattle.plan_types.specs.declared.store.StorePlan.{StorePlan}
use Rattle.run_plan.specs.declared.fault.PlanFault.{PlanFault}
use Rattle.run_plan.specs.declared.loops.Settings.{Settings}
use Rattle.run_plan.specs.declared.runs.Draft.{Draft}
use Rattle.run_plan.specs.declared.runs.Pick.{Pick}
use Rattle.run_plan.specs.declared.runs.Work.{Work}
use Rattle.run_plan.specs.Loops.{as_defined, count_of, settings_of, values_of}
use Rattle.run_plan.specs.Outcomes.{◌>>=◌, in_turn}
use Rattle.run_plan.specs.Plans.{runs_fault}
use Rattle.run_plan.specs.Runs.{admitted_at, drafts_of, runs_at}
use Rattle.run_plan.specs.Workers.{run_of}
use Rattle.run_plan.proofs.Counts.{count_is}
use Rattle.run_plan.proofs.Crowds.{has_values}

positive : (a b : ℕ) → 0 < a → 0 < b → 0 < a * b
positive a b h k = let wide : a * 1 ≤ a * b = mul-le-mul_left a k in let one : a * 1 ≡ a = mul-one a in omega arith

some_count : (d : RdDef) (words : List (List ℕ)) → All (HasLoop d) words → 0 < count_of d words
some_count d [] all = omega arith
some_count d (word ∷ words) all =
    positive (length (values_of d word)) (count_of d words) (has_values d word (All-head (HasLoop d) word words all))
    (some_count d words (All-tail (HasLoop d) word words all))

length_drafts : (work : Work) (d : RdDef) (picks : List Pick) (number : ℕ) (ss : List Settings) → length (drafts_of work d picks number ss) ≡ length ss
length_drafts work d picks number [] = refl
length_drafts work d picks number (s ∷ ss) = ap suc (length_drafts work d picks (number + 1) ss)

abbrev numbers : List Draft → List ℕ
numbers drafts = map (λ draft. draft.run.number) drafts

drafts_numbered : (work : Work) (d : RdDef) (picks : List Pick) (number : ℕ) (ss : List Settings) → numbers (drafts_of work d picks number ss) ≡ range_with_len number (length ss)
drafts_numbered work d picks number [] = refl
drafts_numbered work d picks number (s ∷ ss) = ap (λ ns. number ∷ ns) (drafts_numbered work d picks (number + 1) ss)

range_joined : (a n m : ℕ) → range_with_len a (n + m) ≡ range_with_len a n ++ range_with_len (a + n) m
range_joined a zero m = let e : zero + m ≡ m = omega arith in let h : a + 0 ≡ a = omega arith in ap (range_with_len a) e ∙ ap (λ b. range_with_len b m) (sym h)
range_joined a (suc n) m =
    let e : suc n + m ≡ suc (n + m) = omega arith in
    let h : a + 1 + n ≡ a + suc n = omega arith in
    ap (range_with_len a) e ∙ ap (λ ns. a ∷ ns) (range_joined (a + 1) n m ∙ ap (λ b. range_with_len (a + 1) n ++ range_with_len b m) h)

-- runs are numbered from 1, and there are at least so many
pub record AreRuns (least : ℕ) (drafts : List Draft) : Type 0 where
  pub numbered : numbers drafts ≡ range_with_len 1 (length drafts)
  pub many : least ≤ length drafts

one_more : (work : Work) (done : List Draft) (d : RdDef) (picks : List Pick) (least : ℕ) (ss : List Settings) → 0 < length ss → AreRuns least done → AreRuns (least + 1) (done ++ drafts_of work d picks (length done + 1) ss)
one_more work done d picks least ss some are =
    let more = drafts_of work d picks (length done + 1) ss in
    let joined : length (done ++ more) ≡ length done + length ss = length-append done more ∙ ap (λ n. length done + n) (length_drafts work d picks (length done + 1) ss) in
    let from : length done + 1 ≡ 1 + length done = omega arith in
    record {
      numbered =
          map-append (λ (draft : Draft). draft.run.number) done more ∙ ap (λ ns. ns ++ numbers more) are.numbered ∙
          ap (λ ns. range_with_len 1 (length done) ++ ns) (drafts_numbered work d picks (length done + 1) ss ∙ ap (λ b. range_with_len b (length ss)) from) ∙
          sym (range_joined 1 (length done) (length ss)) ∙ ap (range_with_len 1) (sym joined);
      many = let least_now = are.many in omega (arith, joined);
    }

after : (work : Work) (done : List Draft) (d : RdDef) (rds : List RdDef) (zs : List Draft) (least : ℕ) → 0 < length (settings_of d d.loops as_defined) → AreRuns least done → ((next : List Draft) → AreRuns (least + 1) next → in_turn (runs_at work) next rds ≡ Ok zs → AreRuns (least + 1 + length rds) zs) → (r : Result (List Pick) PlanFault) → admitted_at work (length done) d ≡ r → ((r >>= λ picks. Ok (drafts_of work d picks (length done + 1) (settings_of d d.loops as_defined))) >>= λ more. in_turn (runs_at work) (done ++ more) rds) ≡ Ok zs → AreRuns (least + 1 + length rds) zs
after work done d rds zs least some are rest (Ok picks) is e =
    rest (done ++ drafts_of work d picks (length done + 1) (settings_of d d.loops as_defined))
    (one_more work done d picks least (settings_of d d.loops as_defined) some are) e
after work done d rds zs least some are rest (Err fault) is e = absurd (cc)

are_runs : (work : Work) (done : List Draft) (rds : List RdDef) (zs : List Draft) (least : ℕ) → All IsRd rds → AreRuns least done → in_turn (runs_at work) done rds ≡ Ok zs → AreRuns (least + length rds) zs
are_runs work done [] zs least all are e =
    let same : done ≡ zs = cc in
    let none : least ≡ least + 0 = omega arith in
    subst (λ n. AreRuns n zs) none (subst (AreRuns least) same are)
are_runs work done (d ∷ rds) zs least all are e =
    let here = All-head IsRd d rds all in
    let some : 0 < length (settings_of d d.loops as_defined) = subst (λ n. 0 < n) (sym (count_is d d.loops as_defined)) (some_count d d.loops here.loops) in
    let more : least + 1 + length rds ≡ least + suc (length rds) = omega arith in
    subst (λ n. AreRuns n zs) more
    (after work done d rds zs least some are (λ next h g. are_runs work next rds zs (least + 1) (All-tail IsRd d rds all) h g)
    (admitted_at work (length done) d) refl e)

pub drafts_are_runs : (work : Work) (rds : List RdDef) (zs : List Draft) → All IsRd rds → in_turn (runs_at work) [] rds ≡ Ok zs → AreRuns (0 + length rds) zs
drafts_are_runs work rds zs all e = are_runs work [] rds zs 0 all (record { numbered = refl; many = omega arith }) e

moved : (o : Option RunPlan) (a b : ℕ) → a ≡ b → IfSome o (λ run. run.number ≡ a) → IfSome o (λ run. run.number ≡ b)
moved (Some run) a b e h = h ∙ e
moved None a b e h = tt

numbered_from : (n : ℕ) (runs : List RunPlan) → map (λ (run : RunPlan). run.number) runs ≡ range_with_len n (length runs) → (i : ℕ) → IfSome (slice_get runs i) (λ run. run.number ≡ n + i)
numbered_from n [] e i = tt
numbered_from n (run ∷ runs) e zero = let h : run.number ≡ n = cc in omega (arith, h)
numbered_from n (run ∷ runs) e (suc i) =
    let rest : map (λ (r : RunPlan). r.number) runs ≡ range_with_len (n + 1) (length runs) = cc in
    let same : n + 1 + i ≡ n + suc i = omega arith in
    moved (slice_get runs i) (n + 1 + i) (n + suc i) same (numbered_from (n + 1) runs rest i)

dealt_numbers : (stores : List StorePlan) (drafts : List Draft) → map (λ (run : RunPlan). run.number) (map (run_of stores) drafts) ≡ numbers drafts
dealt_numbers stores [] = refl
dealt_numbers stores (draft ∷ drafts) = ap (λ ns. draft.run.number ∷ ns) (dealt_numbers stores drafts)

-- each run has the number of its place
pub runs_numbered : (stores : List StorePlan) (drafts : List Draft) (runs : List RunPlan) (least : ℕ) → AreRuns least drafts → runs ≡ map (run_of stores) drafts → length runs ≡ length drafts → (i : ℕ) → IfSome (slice_get runs i) (λ run. run.number ≡ i + 1)
runs_numbered stores drafts runs least are made many i =
    let e = ap (map (λ (run : RunPlan). run.number)) made ∙ dealt_numbers stores drafts ∙ are.numbered ∙ ap (range_with_len 1) (sym many) in
    let same : 1 + i ≡ i + 1 = omega arith in
    moved (slice_get runs i) (1 + i) (i + 1) same (numbered_from 1 runs e i)

pub some_rds : (rds : List RdDef) → runs_fault rds ≡ None → 0 < length rds
some_rds [] e = absurd (cc)
some_rds (d ∷ ds) e = omega arith
