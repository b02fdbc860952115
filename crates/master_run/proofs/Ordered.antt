-- The workers of a run's stores, store by store, are all its workers in the plan's order.
use Rattle.std.proofs.Common.{◌≡◌, ◌∙◌, refl, sym, ap, arith, inl, inr, ne_eqb, eq-eqb, ℕ, zero, suc, ◌+◌, ◌<◌, ◌≤◌, ◌==◌, ◌||◌, cond, Bool, true, false, All, List, [], ◌∷◌, ◌++◌, filter, length}
use Rattle.std.specs.List.{AllByRecursion, AllPairs, flat_map, list_any, range_with_len}
use Rattle.std.proofs.lemmas.Bool.{cases_eq}
use Rattle.std.proofs.lemmas.List.Elements.{recursion_from_All}
use Rattle.plan_types.specs.Valid.{IsRun}
use Rattle.plan_types.specs.declared.plan.Plan.{Plan}
use Rattle.plan_types.specs.declared.run.RunPlan.{RunPlan}
use Rattle.plan_types.specs.declared.run.WorkerPlan.{WorkerPlan}
use Rattle.slave_worker.specs.Hands.{stores_in, workers_at, workers_in, works_in}

-- A test that keeps each number whose list isn't empty changes nothing.
kept : {A : Type 0} (f : ℕ → List A) (test : ℕ → Bool) (n : ℕ) (ns : List ℕ) (b : Bool) → (b ≡ false → f n ≡ []) → flat_map f (filter test ns) ≡ flat_map f ns → flat_map f (cond b (n ∷ filter test ns) (filter test ns)) ≡ f n ++ flat_map f ns
kept f test n ns true none rest = ap (λ (l : List _). f n ++ l) rest
kept f test n ns false none rest = rest ∙ ap (λ (l : List _). l ++ flat_map f ns) (sym (none refl))

drop_empty : {A : Type 0} (f : ℕ → List A) (test : ℕ → Bool) → ((n : ℕ) → test n ≡ false → f n ≡ []) → (ns : List ℕ) → flat_map f (filter test ns) ≡ flat_map f ns
drop_empty f test none [] = refl
drop_empty f test none (n ∷ ns) = kept f test n ns (test n) (none n) (drop_empty f test none ns)

-- A store that is none of the workers' has none.
none_with : (store : ℕ) (worker : WorkerPlan) (workers : List WorkerPlan) (b : Bool) → (b || list_any (λ worker. worker.store == store) workers) ≡ false → (list_any (λ worker. worker.store == store) workers ≡ false → workers_at store workers ≡ []) → cond b (worker ∷ workers_at store workers) (workers_at store workers) ≡ []
none_with store worker workers true is rest = absurd cc
none_with store worker workers false is rest = rest is

none_at : (store : ℕ) (workers : List WorkerPlan) → list_any (λ worker. worker.store == store) workers ≡ false → workers_at store workers ≡ []
none_at store [] is = refl
none_at store (worker ∷ workers) is = none_with store worker workers (worker.store == store) is (none_at store workers)

some_with : (run : RunPlan) (store : ℕ) (b : Bool) → works_in run store ≡ b → 0 < length (workers_in run store) → works_in run store ≡ true
some_with run store true is some = is
some_with run store false is some = absurd (omega (arith, some, ap length (none_at store run.workers is)))

-- A store that has workers in a run works in it.
pub works_some : (run : RunPlan) (store : ℕ) → 0 < length (workers_in run store) → works_in run store ≡ true
works_some run store some = some_with run store (works_in run store) refl some

-- A store below those of all workers has none.
none_below : (store : ℕ) (workers : List WorkerPlan) → AllByRecursion (λ (worker : WorkerPlan). store < worker.store) workers → workers_at store workers ≡ []
none_below store [] all = refl
none_below store (worker ∷ workers) all =
    let above : store < worker.store = all.0 in
    ap (λ (b : Bool). cond b (worker ∷ workers_at store workers) (workers_at store workers)) (ne_eqb worker.store store (λ is. omega (arith, above, is)))
    ∙ none_below store workers all.1

-- A worker isn't among those of stores above its own.
past : (worker : WorkerPlan) (workers : List WorkerPlan) (n low : ℕ) → worker.store < low → flat_map (λ store. workers_at store (worker ∷ workers)) (range_with_len low n) ≡ flat_map (λ store. workers_at store workers) (range_with_len low n)
past worker workers zero low below = refl
past worker workers (suc n) low below =
    ap (λ (b : Bool). cond b (worker ∷ workers_at low workers) (workers_at low workers) ++ flat_map (λ store. workers_at store (worker ∷ workers)) (range_with_len (low + 1) n)) (ne_eqb worker.store low (λ is. omega (arith, below, is)))
    ∙ ap (λ (l : List WorkerPlan). workers_at low workers ++ l) (past worker workers n (low + 1) (omega (arith, below)))

above_all : (low : ℕ) (worker : WorkerPlan) (workers : List WorkerPlan) → low < worker.store → AllByRecursion (λ (other : WorkerPlan). worker.store ≤ other.store) workers → AllByRecursion (λ (other : WorkerPlan). low < other.store) workers
above_all low worker [] below all = tt
above_all low worker (other ∷ workers) below all = let first : worker.store ≤ other.store = all.0 in (omega (arith, below, first), above_all low worker workers below all.1)

-- The first of all workers comes first.
first : (worker : WorkerPlan) (workers : List WorkerPlan) (n low : ℕ) → low ≤ worker.store → worker.store < low + n → AllByRecursion (λ (other : WorkerPlan). worker.store ≤ other.store) workers → flat_map (λ store. workers_at store (worker ∷ workers)) (range_with_len low n) ≡ worker ∷ flat_map (λ store. workers_at store workers) (range_with_len low n)
first worker workers zero low least most all = absurd (omega (arith, least, most))
first worker workers (suc n) low least most all = elim (cases_eq worker.store low) [
  | inl same ↦
      ap (λ (b : Bool). cond b (worker ∷ workers_at low workers) (workers_at low workers) ++ flat_map (λ store. workers_at store (worker ∷ workers)) (range_with_len (low + 1) n)) (eq-eqb worker.store low same)
      ∙ ap (λ (l : List WorkerPlan). worker ∷ (workers_at low workers ++ l)) (past worker workers n (low + 1) (omega (arith, same)))
  | inr apart ↦
      let below : low < worker.store = omega (arith, least, apart) in
      let none = none_below low workers (above_all low worker workers below all) in
      ap (λ (b : Bool). cond b (worker ∷ workers_at low workers) (workers_at low workers) ++ flat_map (λ store. workers_at store (worker ∷ workers)) (range_with_len (low + 1) n)) (ne_eqb worker.store low apart)
      ∙ ap (λ (l : List WorkerPlan). l ++ flat_map (λ store. workers_at store (worker ∷ workers)) (range_with_len (low + 1) n)) none
      ∙ first worker workers n (low + 1) (omega (arith, below)) (omega (arith, most)) all
      ∙ ap (λ (l : List WorkerPlan). worker ∷ (l ++ flat_map (λ store. workers_at store workers) (range_with_len (low + 1) n))) (sym none)
]

abbrev Sorted : List WorkerPlan → Type 0
Sorted [] = Unit {0}
Sorted (worker ∷ workers) = AllByRecursion (λ (other : WorkerPlan). worker.store ≤ other.store) workers × Sorted workers

nothing : {A : Type 0} (f : ℕ → List A) → ((n : ℕ) → f n ≡ []) → (ns : List ℕ) → flat_map f ns ≡ []
nothing f none [] = refl
nothing f none (n ∷ ns) = ap (λ (l : List _). l ++ flat_map f ns) (none n) ∙ nothing f none ns

in_order : (workers : List WorkerPlan) (n : ℕ) → Sorted workers → AllByRecursion (λ (worker : WorkerPlan). worker.store < n) workers → flat_map (λ store. workers_at store workers) (range_with_len 0 n) ≡ workers
in_order [] n sorted below = nothing (λ store. workers_at store []) (λ store. refl) (range_with_len 0 n)
in_order (worker ∷ workers) n sorted below =
    let most : worker.store < n = below.0 in
    first worker workers n 0 (omega arith) (omega (arith, most)) sorted.0 ∙ ap (λ (l : List WorkerPlan). worker ∷ l) (in_order workers n sorted.1 below.1)

pairs_tail : (worker : WorkerPlan) (workers : List WorkerPlan) → AllPairs (λ (a b : WorkerPlan). a.store ≤ b.store) (worker ∷ workers) → AllPairs (λ (a b : WorkerPlan). a.store ≤ b.store) workers
pairs_tail worker workers all = λ i j d less within. all (suc i) (suc j) d (omega (arith, less)) (omega (arith, within))

pairs_head : (worker : WorkerPlan) (workers : List WorkerPlan) → AllPairs (λ (a b : WorkerPlan). a.store ≤ b.store) (worker ∷ workers) → All (λ (other : WorkerPlan). worker.store ≤ other.store) workers
pairs_head worker workers all = λ k d within. all 0 (suc k) d (omega arith) (omega (arith, within))

sorted_is : (workers : List WorkerPlan) → AllPairs (λ (a b : WorkerPlan). a.store ≤ b.store) workers → Sorted workers
sorted_is [] all = tt
sorted_is (worker ∷ workers) all = (recursion_from_All (λ (other : WorkerPlan). worker.store ≤ other.store) workers (pairs_head worker workers all), sorted_is workers (pairs_tail worker workers all))

below_is : (stores : ℕ) (workers : List WorkerPlan) → All (λ (worker : WorkerPlan). worker.store < stores) workers → AllByRecursion (λ (worker : WorkerPlan). worker.store < stores) workers
below_is stores workers all = recursion_from_All (λ (worker : WorkerPlan). worker.store < stores) workers all

pub all_workers : (plan : Plan) (run : RunPlan) → IsRun plan.stores run → flat_map (workers_in run) (stores_in plan run) ≡ run.workers
all_workers plan run is =
    drop_empty (workers_in run) (λ store. list_any (λ worker. worker.store == store) run.workers) (λ store none. none_at store run.workers none) (range_with_len 0 (length plan.stores))
    ∙ in_order run.workers (length plan.stores) (sorted_is run.workers is.by_store) (below_is (length plan.stores) run.workers (λ k d within. (is.workers k d within).store))
