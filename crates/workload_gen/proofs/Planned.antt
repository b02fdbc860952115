-- Workers of valid plans.
use Rattle.std.proofs.Common.{◌≡◌, ℕ, zero, suc, ◌+◌, ◌<◌, ◌≤◌, Bool, true, false, cond, Option, Some, List, [], ◌∷◌, All, Contains, filter, get_or, length, map, slice_get, sym, ap, subst, ◌∙◌, arith, inl, inr}
use Rattle.std.specs.Prelude.{IfSome, IsSomeAnd}
use Rattle.std.specs.List.{enumerate_from}
use Rattle.std.proofs.lemmas.Bool.{eqb-true, eq-eqb}
use Rattle.std.proofs.lemmas.List.Elements.{All-contains, All-filter, All-map, All-tail, filter_passes}
use Rattle.std.proofs.lemmas.List.FromFn.{get_or-enumerate_from, length-enumerate_from}
use Rattle.std.proofs.lemmas.List.Sums.{sum_by-cons}
use Rattle.std.proofs.lemmas.Option.{slice_get_cases}
use Rattle.plan_types.specs.declared.run.RunPlan.{RunPlan}
use Rattle.plan_types.specs.declared.run.Share.{Share}
use Rattle.plan_types.specs.declared.run.WorkerPlan.{WorkerPlan}
use Rattle.plan_types.specs.declared.store.StorePlan.{StorePlan}
use Rattle.plan_types.specs.Valid.{IsRun, IsShare, IsTransferOf, IsWorker}
use Rattle.workload_gen.specs.declared.task.StoreShare.{StoreShare}
use Rattle.workload_gen.specs.Laws.{SharesAreFew, WorkersCanDraw}
use Rattle.workload_gen.specs.Task.{CanDraw, IsTransfer, is_of, shares_of, store_share, task_of, weight_of}

abbrev store_in : Share → ℕ
store_in share = share.store

-- A share more leaves a weight.
more_weight : (block_size : ℕ) (own : Bool) (placed : ℕ × Share) (rest : List (ℕ × Share)) → 0 < weight_of (map (store_share block_size) rest) → 0 < weight_of (map (store_share block_size) (cond own (placed ∷ rest) rest))
more_weight block_size true placed rest some =
    omega (arith, sum_by-cons (λ (share : StoreShare). share.weight) (store_share block_size placed) (map (store_share block_size) rest))
more_weight block_size false placed rest some = some

-- A share of the store has a weight.
some_weight : (block_size store from k : ℕ) (shares : List Share) → All (λ (share : Share). 1 ≤ share.weight) shares → k < length (map store_in shares) → get_or (map store_in shares) k store ≡ store
    → 0 < weight_of (map (store_share block_size) (filter (is_of store) (enumerate_from from shares)))
some_weight block_size store from k [] each inside is = absurd (omega arith)
some_weight block_size store from zero (share ∷ shares) each inside is =
    let rest : List (ℕ × Share) = filter (is_of store) (enumerate_from (from + 1) shares) in
    let weight : 1 ≤ share.weight = each 0 share (omega arith) in
    let own : is_of store (from, share) ≡ true = eq-eqb share.store store is in
    let some : 0 < weight_of (map (store_share block_size) ((from, share) ∷ rest)) =
    omega (arith, sum_by-cons (λ (s : StoreShare). s.weight) (store_share block_size (from, share)) (map (store_share block_size) rest)) in
    subst (λ (b : Bool). 0 < weight_of (map (store_share block_size) (cond b ((from, share) ∷ rest) rest))) (sym own) some
some_weight block_size store from (suc k) (share ∷ shares) each inside is =
    let rest : List (ℕ × Share) = filter (is_of store) (enumerate_from (from + 1) shares) in
    let within : k < length (map store_in shares) = omega arith in
    more_weight block_size (is_of store (from, share)) (from, share) rest
    (some_weight block_size store (from + 1) k shares (All-tail (λ (s : Share). 1 ≤ s.weight) share shares each) within is)

-- shares that stand beside their places
placed_shares : (stores : List StorePlan) (shares : List Share) → All (IsShare stores) shares → All (λ (placed : ℕ × Share). IsShare stores placed.1) (enumerate_from 0 shares)
placed_shares stores shares each k d inside =
    let within : k < length shares = omega (arith, length-enumerate_from 0 shares) in
    subst (λ (placed : ℕ × Share). IsShare stores placed.1) (sym (get_or-enumerate_from 0 shares k d within)) (each k d.1 within)

-- the transfer of a share of the store
transfer_in : (stores : List StorePlan) (at : ℕ) (store : StorePlan) (placed : ℕ × Share) → slice_get stores at ≡ Some store → IsShare stores placed.1 → is_of at placed ≡ true
    → IsTransfer store.id.geometry.blocks (store_share store.id.geometry.block_size placed)
transfer_in stores at store placed there valid of =
    let own : slice_get stores placed.1.store ≡ Some store = ap (slice_get stores) (eqb-true placed.1.store at of) ∙ there in
    let transfer : IsTransferOf store placed.1.xfersize = subst (λ (o : Option StorePlan). IfSome o (λ s. IsTransferOf s placed.1.xfersize)) own valid.transfer in
    record { many = transfer.many; within = transfer.within }

transfers_in : (stores : List StorePlan) (at : ℕ) (store : StorePlan) (shares : List Share) → slice_get stores at ≡ Some store → All (IsShare stores) shares
    → All (IsTransfer store.id.geometry.blocks) (shares_of store.id.geometry.block_size at shares)
transfers_in stores at store shares there each =
    let kept : List (ℕ × Share) = filter (is_of at) (enumerate_from 0 shares) in
    let valid = All-filter (is_of at) (λ (placed : ℕ × Share). IsShare stores placed.1) (enumerate_from 0 shares) (placed_shares stores shares each) in
    let of = filter_passes (is_of at) (enumerate_from 0 shares) in
    All-map (IsTransfer store.id.geometry.blocks) (store_share store.id.geometry.block_size) kept
    (λ k d inside. transfer_in stores at store (get_or kept k d) there (valid k d inside) (of k d inside))

-- a worker of a valid run, over its store
can_draw : (stores : List StorePlan) (run : RunPlan) (worker : WorkerPlan) (store : StorePlan) → IsRun stores run → Contains run.workers worker → slice_get stores worker.store ≡ Some store
    → CanDraw (task_of run worker store.id.geometry)
can_draw stores run worker store valid among there =
    let of : IsWorker stores run.slaves worker = All-contains (IsWorker stores run.slaves) run.workers worker valid.workers among in
    let shared : Contains (map store_in run.shares) worker.store = All-contains (λ (w : WorkerPlan). Contains (map store_in run.shares) w.store) run.workers worker valid.shared among in
    record {
      start = subst (λ (o : Option StorePlan). IfSome o (λ s. worker.start < s.id.geometry.blocks)) there of.start;
      some_weight = some_weight store.id.geometry.block_size worker.store 0 shared.0 run.shares (λ k d inside. (valid.shares k d inside).weight.at_least) shared.1 shared.2;
      transfers = transfers_in stores worker.store store run.shares there valid.shares;
      few_workers = valid.few_workers;
    }

pub workers_can_draw : WorkersCanDraw
workers_can_draw plan run worker valid is_run is_worker =
    let run_valid : IsRun plan.stores run = All-contains (IsRun plan.stores) plan.runs run valid.runs is_run in
    let of : IsWorker plan.stores run.slaves worker = All-contains (IsWorker plan.stores run.slaves) run.workers worker run_valid.workers is_worker in
    let Draws : Option StorePlan → Type 0 = λ o. IsSomeAnd o (λ store. CanDraw (task_of run worker store.id.geometry)) in
    let in_stores : worker.store < length plan.stores = of.store in
    elim (slice_get_cases plan.stores worker.store).1 [
      | inl there ↦ subst Draws (sym there.2) (can_draw plan.stores run worker there.0 run_valid is_worker there.2)
      | inr past ↦ absurd (omega (arith, past.0))
    ]

pub shares_are_few : SharesAreFew
shares_are_few plan run valid is_run =
    let run_valid : IsRun plan.stores run = All-contains (IsRun plan.stores) plan.runs run valid.runs is_run in
    run_valid.few_shares
