-- The runs of a plan are valid.
use Rattle.std.proofs.Common.{◌≡◌, inl, inr, ℕ, zero, suc, List, [], ◌∷◌, ◌+◌, ◌<◌, ◌≤◌, Bool, true, false, cond, All, AllPairs, Contains, IfSome, Ok, filter, get_or, length, map, slice_get, ap, refl, sym, subst, ◌∙◌, arith}
use Rattle.std.specs.Prelude.{◌==◌, ◌||◌}
use Rattle.std.specs.List.{list_any, range_with_len}
use Rattle.std.proofs.lemmas.Bool.{cases_lt, eq-eqb, eqb-true}
use Rattle.std.proofs.lemmas.List.{length-map}
use Rattle.std.proofs.lemmas.List.Kept.{AllPairs-cons, AllPairs-filter}
use Rattle.std.proofs.lemmas.List.Elements.{All-cons, All-contains, All-filter, All-map, All-nil, All-weaker, Contains-append_right, filter_passes}
use Rattle.std.proofs.lemmas.List.Folds.{list_any_at}
use Rattle.parm_records.specs.Ranges.{IsFrom, IsWd}
use Rattle.parm_records.specs.declared.general.HdDef.{HdDef}
use Rattle.parm_records.specs.declared.stores.SdDef.{SdDef}
use Rattle.parm_records.specs.declared.stores.WdDef.{WdDef}
use Rattle.plan_types.specs.Valid.{IsRun, IsStore, IsTransferOf}
use Rattle.plan_types.specs.declared.run.Share.{Share}
use Rattle.plan_types.specs.declared.run.WorkerPlan.{WorkerPlan}
use Rattle.plan_types.specs.declared.store.StorePlan.{StorePlan}
use Rattle.run_plan.specs.declared.runs.Draft.{Draft}
use Rattle.run_plan.specs.declared.runs.Work.{Work}
use Rattle.run_plan.specs.declared.workloads.Workload.{Workload}
use Rattle.run_plan.specs.Plans.{work_of, work_over, workloads_over}
use Rattle.run_plan.specs.Runs.{stores_of, workers_many}
use Rattle.run_plan.specs.Workers.{run_of}
use Rattle.run_plan.proofs.ReadyLaws.{IsChoice, IsPart, IsReady, split}
use Rattle.run_plan.proofs.ShareLaws.{IsWorkload, range_within, workloads_are}
use Rattle.run_plan.proofs.TransferLaws.{shares_are}
use Rattle.run_plan.proofs.WorkerLaws.{workers_are}

kept : (b : Bool) (a x : ℕ) (xs : List ℕ) → Contains xs x → Contains (cond b (a ∷ xs) xs) x
kept true a x xs h = Contains-append_right (a ∷ []) xs x h
kept false a x xs h = h

chosen : (b : Bool) (a x : ℕ) (xs : List ℕ) → b ≡ true → a ≡ x → Contains (cond b (a ∷ xs) xs) x
chosen true a x xs e same = (0, omega arith, same)
chosen false a x xs e same = absurd (cc)

in_filter : (p : ℕ → Bool) (a n x : ℕ) → a ≤ x → x < a + n → p x ≡ true → Contains (filter p (range_with_len a n)) x
in_filter p a zero x low high e = absurd (omega arith)
in_filter p a (suc n) x low high e =
    elim (cases_lt a x) [
      | inl above ↦ kept (p a) a x (filter p (range_with_len (a + 1) n)) (in_filter p (a + 1) n x (omega arith) (omega arith) e)
      | inr below ↦ let same : a ≡ x = omega arith in chosen (p a) a x (filter p (range_with_len (a + 1) n)) (ap p same ∙ e) same
    ]

this_or : (store : ℕ) (share : Share) (shares : List Share) (b : Bool) → b ≡ (share.store == store) → (b || list_any (λ (s : Share). s.store == store) shares) ≡ true → (list_any (λ (s : Share). s.store == store) shares ≡ true → Contains (map (λ (s : Share). s.store) shares) store) → Contains (share.store ∷ map (λ (s : Share). s.store) shares) store
this_or store share shares true is e rest = (0, omega arith, eqb-true share.store store (sym is))
this_or store share shares false is e rest = Contains-append_right (share.store ∷ []) (map (λ (s : Share). s.store) shares) store (rest e)

any_store : (store : ℕ) (shares : List Share) → list_any (λ (share : Share). share.store == store) shares ≡ true → Contains (map (λ (share : Share). share.store) shares) store
any_store store [] e = absurd (cc)
any_store store (share ∷ shares) e = this_or store share shares (share.store == store) refl e (λ h. any_store store shares h)

numbered_from : (n : ℕ) (ws : List WorkerPlan) → map (λ (w : WorkerPlan). w.number) ws ≡ range_with_len n (length ws) → (i : ℕ) → IfSome (slice_get ws i) (λ w. w.number ≡ n + i)
numbered_from n [] e i = tt
numbered_from n (w ∷ ws) e zero = let h : w.number ≡ n = cc in omega (arith, h)
numbered_from n (w ∷ ws) e (suc i) =
    let rest : map (λ (r : WorkerPlan). r.number) ws ≡ range_with_len (n + 1) (length ws) = cc in
    let same : n + 1 + i ≡ n + suc i = omega arith in
    subst (λ m. IfSome (slice_get ws i) (λ w. w.number ≡ m)) same (numbered_from (n + 1) ws rest i)

from_least : (least b m : ℕ) → least ≤ b → All (λ x. least ≤ x) (range_with_len b m)
from_least least b zero h = All-nil (λ x. least ≤ x)
from_least least b (suc m) h = All-cons (λ x. least ≤ x) b (range_with_len (b + 1) m) h (from_least least (b + 1) m (omega arith))

range_rises : (a n : ℕ) → AllPairs (λ x y. x ≤ y) (range_with_len a n)
range_rises a zero = λ i j d below inside. absurd (omega arith)
range_rises a (suc n) = AllPairs-cons (λ x y. x ≤ y) a (range_with_len (a + 1) n) (from_least a (a + 1) n (omega arith)) (range_rises (a + 1) n)

pub run_valid : (stores : List StorePlan) (threads : List ℕ) (draft : Draft) → All IsStore stores → map (λ (s : StorePlan). s.threads) stores ≡ threads → IsReady threads draft → All (λ (share : Share). IfSome (slice_get stores share.store) (λ s. IsTransferOf s share.xfersize)) draft.run.shares → IsRun stores (run_of stores draft)
run_valid stores threads draft valid same ready fits =
    let many : length threads ≡ length stores = sym (ap length same) ∙ length-map stores (λ (s : StorePlan). s.threads) in
    let shares = draft.run.shares in
    let used = λ (store : ℕ). list_any (λ (share : Share). share.store == store) shares in
    let places = stores_of (length stores) shares in
    let parts = subst (λ n. All (IsPart n) shares) many ready.shares in
    let workers = workers_are stores draft.run.slaves draft.threads places valid ready.some_threads
    (All-filter used (λ store. store < length stores) (range_with_len 0 (length stores)) (range_within 0 (length stores) (length stores) (omega arith)))
    (AllPairs-filter (λ x y. x ≤ y) used (range_with_len 0 (length stores)) (range_rises 0 (length stores))) in
    let crowd = subst (λ n. workers_many threads (stores_of n shares) draft.threads ≤ 512) many ready.workers in
    let few = subst (λ ts. workers_many ts places draft.threads ≤ 512) (sym same) crowd in
    record {
      iorate = ready.iorate;
      elapsed = record { at_least = ready.elapsed.at_least; at_most = ready.elapsed.at_most };
      interval = record { at_least = ready.interval.at_least; at_most = ready.interval.at_most };
      intervals = ready.intervals;
      turns = record { at_least = ready.turns.at_least; at_most = ready.turns.at_most };
      format = ready.format;
      slaves = record { at_least = ready.slaves.at_least; at_most = ready.slaves.at_most };
      shares = shares_are stores shares parts fits;
      some_share = ready.some;
      few_shares = ready.few;
      workers = workers.all;
      few_workers = subst (λ n. n ≤ 512) (sym workers.count) few;
      worker_numbers = λ i. let zero_more : 0 + i ≡ i = omega arith in subst (λ m. IfSome (slice_get (run_of stores draft).workers i) (λ w. w.number ≡ m)) zero_more (numbered_from 0 (run_of stores draft).workers workers.numbers i);
      by_store = workers.rise;
      worked = λ j x within.
          let store = (get_or shares j x).store in
          All-contains (Contains (map (λ (w : WorkerPlan). w.store) (run_of stores draft).workers)) places store workers.worked
          (in_filter used 0 (length stores) store (omega arith) (omega (arith, (parts j x within).store)) (list_any_at (λ (share : Share). share.store == store) shares j x within (eq-eqb store store refl)));
      shared = All-weaker (λ (w : WorkerPlan). Contains places w.store) (λ (w : WorkerPlan). Contains (map (λ (share : Share). share.store) shares) w.store)
          (λ w h. any_store w.store shares (All-contains (λ store. used store ≡ true) places w.store (filter_passes used (range_with_len 0 (length stores))) h))
          (run_of stores draft).workers workers.shared;
    }

pub runs_valid : (stores : List StorePlan) (threads : List ℕ) (drafts : List Draft) → All IsStore stores → map (λ (s : StorePlan). s.threads) stores ≡ threads → All (IsReady threads) drafts → All (λ (draft : Draft). All (λ (share : Share). IfSome (slice_get stores share.store) (λ s. IsTransferOf s share.xfersize)) draft.run.shares) drafts → All (IsRun stores) (map (run_of stores) drafts)
runs_valid stores threads drafts valid same ready fits =
    All-map (IsRun stores) (run_of stores) drafts (λ i d inside. run_valid stores threads (get_or drafts i d) valid same (ready i d inside) (fits i d inside))

pub choice_is : (hosts : List (List ℕ)) (hds : List HdDef) (sds : List SdDef) (wds : List WdDef) (work : Work) → All IsWd wds → length work.names ≤ 64 → length sds ≤ 64 → work_over hosts hds sds wds ≡ Ok work → IsFrom 1 256 work.slaves → IsChoice work
choice_is hosts hds sds wds work all few few_sds e slaves =
    let one = split (workloads_over hosts sds wds) _ work e in
    let made : work_of hds sds one.0 ≡ work = cc (one.2) in
    let names : length (map (λ (sd : SdDef). sd.name) sds) ≡ length sds = length-map sds (λ (sd : SdDef). sd.name) in
    let threads : length (map (λ (sd : SdDef). sd.threads) sds) ≡ length sds = length-map sds (λ (sd : SdDef). sd.threads) in
    let named : length (map (λ (w : Workload). w.name) one.0) ≡ length one.0 = length-map one.0 (λ (w : Workload). w.name) in
    let ws = workloads_are (map (λ (sd : SdDef). sd.name) sds) hosts wds one.0 all one.1 in
    let few_names : length (map (λ (w : Workload). w.name) one.0) ≤ 64 = subst (λ (v : Work). length v.names ≤ 64) (sym made) few in
    subst IsChoice made (record {
      workloads = subst (λ n. All (IsWorkload n) one.0) (names ∙ sym threads) ws;
      named = named;
      few = omega arith;
      few_stores = omega arith;
      slaves = subst (λ (v : Work). IsFrom 1 256 v.slaves) (sym made) slaves;
    })

pub work_threads : (hosts : List (List ℕ)) (hds : List HdDef) (sds : List SdDef) (wds : List WdDef) (work : Work) → work_over hosts hds sds wds ≡ Ok work → work.threads ≡ map (λ (sd : SdDef). sd.threads) sds
work_threads hosts hds sds wds work e =
    let one = split (workloads_over hosts sds wds) _ work e in
    let made : work_of hds sds one.0 ≡ work = cc (one.2) in
    subst (λ (v : Work). v.threads ≡ map (λ (sd : SdDef). sd.threads) sds) made refl
