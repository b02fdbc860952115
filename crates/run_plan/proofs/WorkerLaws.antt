-- The workers of a run beside its stores and shares.
use Rattle.std.proofs.Common.{◌≡◌, inl, inr, ℕ, zero, suc, List, [], ◌∷◌, ◌++◌, ◌+◌, ◌*◌, ◌/◌, ◌<◌, ◌≤◌, All, AllPairs, Contains, Option, Some, None, IfSome, get_or, length, map, slice_get, sum, ap, refl, sym, subst, ◌∙◌, append_assoc, append-nil, arith}
use Rattle.std.specs.List.{range_with_len}
use Rattle.std.proofs.Math.Nat.{mul-div-le, mul-le-mul_left, mul_comm}
use Rattle.std.proofs.lemmas.Grind.{common_steps}
use Rattle.std.proofs.lemmas.Bool.{cases_lt}
use Rattle.std.proofs.lemmas.List.{length-append, map-append}
use Rattle.std.proofs.lemmas.List.FromFn.{length-map-range_with_len}
use Rattle.std.proofs.lemmas.List.Kept.{AllPairs-cons}
use Rattle.std.proofs.lemmas.List.Elements.{All-append, All-cons, All-contains, All-head, All-map, All-nil, All-tail, All-weaker, Contains-append_left, Contains-append_right}
use Rattle.plan_types.specs.Valid.{IsStore, IsWorker}
use Rattle.plan_types.specs.declared.run.WorkerPlan.{WorkerPlan}
use Rattle.plan_types.specs.declared.store.StorePlan.{StorePlan}
use Rattle.run_plan.specs.Runs.{or_else, threads_at, workers_many}
use Rattle.run_plan.specs.Workers.{worker_of, workers_at, workers_of}
use Rattle.run_plan.proofs.ShareLaws.{range_within}

-- the workers of stores, from a number on
abbrev deal : List StorePlan → ℕ → Option ℕ → ℕ → List ℕ → List WorkerPlan
deal plans slaves choice n [] = []
deal plans slaves choice n (store ∷ stores) =
    workers_at (slice_get plans store) store slaves choice n ++ deal plans slaves choice (n + length (workers_at (slice_get plans store) store slaves choice n)) stores

dealt : (plans : List StorePlan) (slaves : ℕ) (choice : Option ℕ) (before : List WorkerPlan) (stores : List ℕ) → workers_of plans slaves choice before stores ≡ before ++ deal plans slaves choice (length before) stores
dealt plans slaves choice before [] = sym (append-nil before)
dealt plans slaves choice before (store ∷ stores) =
    let here = workers_at (slice_get plans store) store slaves choice (length before) in
    dealt plans slaves choice (before ++ here) stores ∙
    ap (λ n. (before ++ here) ++ deal plans slaves choice n stores) (length-append before here) ∙
    append_assoc before here (deal plans slaves choice (length before + length here) stores)

-- the store at a place
pub record IsAt (plans : List StorePlan) (place : ℕ) (plan : StorePlan) : Type 0 where
  pub here : slice_get plans place ≡ Some plan
  pub threads : get_or (map (λ (s : StorePlan). s.threads) plans) place 0 ≡ plan.threads
  pub valid : IsStore plan

at_place : (plans : List StorePlan) (place : ℕ) → All IsStore plans → place < length plans → (plan : StorePlan) × IsAt plans place plan
at_place [] place all h = absurd (omega arith)
at_place (plan ∷ plans) zero all h = (plan, record { here = refl; threads = refl; valid = All-head IsStore plan plans all })
at_place (plan ∷ plans) (suc place) all h =
    let rest = at_place plans place (All-tail IsStore plan plans all) (omega arith) in
    (rest.0, record { here = rest.1.here; threads = rest.1.threads; valid = rest.1.valid })

start_below : (i blocks many : ℕ) → i < many → 0 < blocks → i * blocks / many < blocks
start_below i blocks many h some =
    elim (cases_lt (i * blocks / many) blocks) [
      | inl below ↦ below
      | inr above ↦
          let low : many * (i * blocks / many) ≤ i * blocks = mul-div-le (i * blocks) many in
          let high : many * blocks ≤ many * (i * blocks / many) = mul-le-mul_left many above in
          let wide : blocks * (i + 1) ≤ blocks * many = mul-le-mul_left blocks (omega arith) in
          let turned : blocks * many ≡ many * blocks = mul_comm blocks many in
          let other : blocks * i ≡ i * blocks = mul_comm blocks i in
          absurd (omega arith)
    ]

shifted : (plan : StorePlan) (store slaves many a b n : ℕ) → map (λ (w : WorkerPlan). w.number) (map (worker_of plan store slaves many a) (range_with_len b n)) ≡ range_with_len (a + b) n
shifted plan store slaves many a b zero = refl
shifted plan store slaves many a b (suc n) =
    let e : a + (b + 1) ≡ a + b + 1 = omega arith in
    ap (λ ns. (a + b) ∷ ns) (shifted plan store slaves many a (b + 1) n ∙ ap (λ m. range_with_len m n) e)

-- what a store's workers are
pub record AreAt (plans : List StorePlan) (slaves store many n : ℕ) (ws : List WorkerPlan) : Type 0 where
  pub all : All (IsWorker plans slaves) ws
  pub numbers : map (λ (w : WorkerPlan). w.number) ws ≡ range_with_len n (length ws)
  pub count : length ws ≡ many
  pub stores : All (λ (w : WorkerPlan). w.store ≡ store) ws

are_at : (plans : List StorePlan) (slaves : ℕ) (choice : Option ℕ) (n store : ℕ) (plan : StorePlan) → store < length plans → IsAt plans store plan → AreAt plans slaves store (or_else choice plan.threads) n (workers_at (slice_get plans store) store slaves choice n)
are_at plans slaves choice n store plan within is =
    let many = or_else choice plan.threads in
    let made = worker_of plan store slaves many n in
    let count : length (map made (range_with_len 0 many)) ≡ many = length-map-range_with_len made 0 many in
    let zero_more : n + 0 ≡ n = omega arith in
    subst (λ o. AreAt plans slaves store many n (workers_at o store slaves choice n)) (sym is.here) (record {
      all =
          All-map (IsWorker plans slaves) made (range_with_len 0 many)
          (All-weaker (λ i. i < many) (λ i. IsWorker plans slaves (made i))
          (λ i h. record {
            store = within;
            slave = refl;
            start = subst (λ o. IfSome o (λ s. i * plan.id.geometry.blocks / many < s.id.geometry.blocks)) (sym is.here) (start_below i plan.id.geometry.blocks many h is.valid.geometry.some_blocks);
          })
          (range_with_len 0 many) (range_within 0 many many (omega arith)));
      numbers = shifted plan store slaves many n 0 many ∙ ap (λ m. range_with_len m many) zero_more ∙ ap (range_with_len n) (sym count);
      count = count;
      stores = All-map (λ (w : WorkerPlan). w.store ≡ store) made (range_with_len 0 many) (λ k d h. refl);
    })

range_joined : (a n m : ℕ) → range_with_len a (n + m) ≡ range_with_len a n ++ range_with_len (a + n) m
range_joined a zero m = let e : zero + m ≡ m = omega arith in let h : a + 0 ≡ a = omega arith in ap (range_with_len a) e ∙ ap (λ b. range_with_len b m) (sym h)
range_joined a (suc n) m =
    let e : suc n + m ≡ suc (n + m) = omega arith in
    let h : a + 1 + n ≡ a + suc n = omega arith in
    ap (range_with_len a) e ∙ ap (λ ns. a ∷ ns) (range_joined (a + 1) n m ∙ ap (λ b. range_with_len (a + 1) n ++ range_with_len b m) h)

first_in : (store : ℕ) (ws : List WorkerPlan) → 0 < length ws → All (λ (w : WorkerPlan). w.store ≡ store) ws → Contains (map (λ (w : WorkerPlan). w.store) ws) store
first_in store [] h all = absurd (omega arith)
first_in store (w ∷ ws) h all = (0, omega arith, All-head (λ (x : WorkerPlan). x.store ≡ store) w ws all)

sum_cons : (x : ℕ) (xs : List ℕ) → sum (x ∷ xs) ≡ x + sum xs
sum_cons x xs = grind (arith, common_steps)

-- the stores of workers never fall
abbrev Rise : List WorkerPlan → Type 0
Rise = AllPairs (λ (a b : WorkerPlan). a.store ≤ b.store)

-- the workers of one store, and then those of later ones
risen : (store : ℕ) (here more : List WorkerPlan) → All (λ (w : WorkerPlan). w.store ≡ store) here → All (λ (w : WorkerPlan). store ≤ w.store) more → Rise more → Rise (here ++ more)
risen store [] more same above rise = rise
risen store (w ∷ here) more same above rise =
    let first : w.store ≡ store = All-head (λ (x : WorkerPlan). x.store ≡ store) w here same in
    let others = All-tail (λ (x : WorkerPlan). x.store ≡ store) w here same in
    AllPairs-cons (λ (a b : WorkerPlan). a.store ≤ b.store) w (here ++ more)
    (All-append (λ (x : WorkerPlan). w.store ≤ x.store) here more
    (All-weaker (λ (x : WorkerPlan). x.store ≡ store) (λ (x : WorkerPlan). w.store ≤ x.store) (λ x e. omega arith) here others)
    (All-weaker (λ (x : WorkerPlan). store ≤ x.store) (λ (x : WorkerPlan). w.store ≤ x.store) (λ x h. omega arith) more above))
    (risen store here more others above rise)

-- what the workers of stores are
pub record AreWorkers (plans : List StorePlan) (slaves n : ℕ) (choice : Option ℕ) (stores : List ℕ) (ws : List WorkerPlan) : Type 0 where
  pub all : All (IsWorker plans slaves) ws
  pub numbers : map (λ (w : WorkerPlan). w.number) ws ≡ range_with_len n (length ws)
  pub count : length ws ≡ workers_many (map (λ (s : StorePlan). s.threads) plans) stores choice
  pub worked : All (Contains (map (λ (w : WorkerPlan). w.store) ws)) stores
  pub shared : All (λ (w : WorkerPlan). Contains stores w.store) ws
  pub rise : Rise ws

some_threads : (choice : Option ℕ) (own : ℕ) → IfSome choice (λ n. 0 < n) → 0 < own → 0 < or_else choice own
some_threads (Some n) own h k = h
some_threads None own h k = k

deal_are : (plans : List StorePlan) (slaves : ℕ) (choice : Option ℕ) → All IsStore plans → IfSome choice (λ n. 0 < n) → (n : ℕ) (stores : List ℕ) → All (λ store. store < length plans) stores → AllPairs (λ a b. a ≤ b) stores → AreWorkers plans slaves n choice stores (deal plans slaves choice n stores)
deal_are plans slaves choice valid some n [] within ordered = record {
  all = All-nil (IsWorker plans slaves);
  numbers = refl;
  count = refl;
  worked = All-nil (Contains (map (λ (w : WorkerPlan). w.store) []));
  shared = All-nil (λ (w : WorkerPlan). Contains [] w.store);
  rise = λ i j d below inside. absurd (omega arith);
}
deal_are plans slaves choice valid some n (store ∷ stores) within ordered =
    let inside = All-head (λ s. s < length plans) store stores within in
    let at = at_place plans store valid inside in
    let here = workers_at (slice_get plans store) store slaves choice n in
    let first = are_at plans slaves choice n store at.0 inside at.1 in
    let more = deal plans slaves choice (n + length here) stores in
    let rest = deal_are plans slaves choice valid some (n + length here) stores (All-tail (λ s. s < length plans) store stores within) (λ i j d below inside. ordered (suc i) (suc j) d (omega arith) (omega arith)) in
    let later : All (λ s. store ≤ s) stores = λ k d inside. ordered zero (suc k) d (omega arith) (omega arith) in
    let joined : length (here ++ more) ≡ length here + length more = length-append here more in
    let places : map (λ (w : WorkerPlan). w.store) (here ++ more) ≡ map (λ (w : WorkerPlan). w.store) here ++ map (λ (w : WorkerPlan). w.store) more = map-append (λ (w : WorkerPlan). w.store) here more in
    let own : or_else choice at.0.threads ≡ threads_at (map (λ (s : StorePlan). s.threads) plans) choice store = ap (or_else choice) (sym at.1.threads) in
    record {
      all = All-append (IsWorker plans slaves) here more first.all rest.all;
      numbers =
          map-append (λ (w : WorkerPlan). w.number) here more ∙ ap (λ ns. ns ++ map (λ (w : WorkerPlan). w.number) more) first.numbers ∙
          ap (λ ns. range_with_len n (length here) ++ ns) rest.numbers ∙ sym (range_joined n (length here) (length more)) ∙ ap (range_with_len n) (sym joined);
      count = joined ∙ ap (λ m. m + length more) (first.count ∙ own) ∙ ap (λ m. threads_at (map (λ (s : StorePlan). s.threads) plans) choice store + m) rest.count ∙
          sym (sum_cons (threads_at (map (λ (s : StorePlan). s.threads) plans) choice store) (map (threads_at (map (λ (s : StorePlan). s.threads) plans) choice) stores));
      worked =
          subst (λ xs. All (Contains xs) (store ∷ stores)) (sym places)
          (All-cons (Contains (map (λ (w : WorkerPlan). w.store) here ++ map (λ (w : WorkerPlan). w.store) more)) store stores
          (Contains-append_left (map (λ (w : WorkerPlan). w.store) here) (map (λ (w : WorkerPlan). w.store) more) store
          (first_in store here (subst (λ m. 0 < m) (sym first.count) (some_threads choice at.0.threads some (omega (arith, at.1.valid.threads.at_least)))) first.stores))
          (All-weaker (Contains (map (λ (w : WorkerPlan). w.store) more)) (Contains (map (λ (w : WorkerPlan). w.store) here ++ map (λ (w : WorkerPlan). w.store) more))
          (λ s h. Contains-append_right (map (λ (w : WorkerPlan). w.store) here) (map (λ (w : WorkerPlan). w.store) more) s h) stores rest.worked));
      shared =
          All-append (λ (w : WorkerPlan). Contains (store ∷ stores) w.store) here more
          (All-weaker (λ (w : WorkerPlan). w.store ≡ store) (λ (w : WorkerPlan). Contains (store ∷ stores) w.store) (λ w e. (0, omega arith, sym e)) here first.stores)
          (All-weaker (λ (w : WorkerPlan). Contains stores w.store) (λ (w : WorkerPlan). Contains (store ∷ stores) w.store) (λ w h. Contains-append_right (store ∷ []) stores w.store h) more rest.shared);
      rise =
          risen store here more first.stores
          (All-weaker (λ (w : WorkerPlan). Contains stores w.store) (λ (w : WorkerPlan). store ≤ w.store) (λ w h. All-contains (λ s. store ≤ s) stores w.store later h) more rest.shared)
          rest.rise;
    }

pub workers_are : (plans : List StorePlan) (slaves : ℕ) (choice : Option ℕ) (stores : List ℕ) → All IsStore plans → IfSome choice (λ n. 0 < n) → All (λ store. store < length plans) stores → AllPairs (λ a b. a ≤ b) stores → AreWorkers plans slaves 0 choice stores (workers_of plans slaves choice [] stores)
workers_are plans slaves choice stores valid some within ordered =
    subst (AreWorkers plans slaves 0 choice stores) (sym (dealt plans slaves choice [] stores)) (deal_are plans slaves choice valid some 0 stores within ordered)
