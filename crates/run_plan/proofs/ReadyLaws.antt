-- The runs of a plan before their workers are dealt.
use Rattle.std.proofs.Common.{◌≡◌, ℕ, zero, suc, List, [], ◌∷◌, ◌+◌, ◌-◌, ◌*◌, ◌<◌, ◌≤◌, ◌^◌, Bool, true, false, cond, All, Option, Some, None, IfSome, Result, Ok, Err, filter, length, map, slice_get, ap, refl, sym, subst, ◌∙◌, arith}
use Rattle.std.specs.Prelude.{◌==◌, ◌||◌, nat_lt}
use Rattle.std.specs.List.{list_any, range_with_len}
use Rattle.std.proofs.lemmas.Bool.{ltb-false}
use Rattle.std.proofs.Math.Nat.{mul-le-mul_left}
use Rattle.std.proofs.lemmas.List.{length-append, length-map}
use Rattle.std.proofs.lemmas.List.Elements.{All-cons, All-head, All-map, All-nil, All-tail, All-weaker}
use Rattle.parm_records.specs.Ranges.{IsBlockSize, IsFrom, IsRd}
use Rattle.parm_records.specs.declared.runs.RdDef.{RdDef}
use Rattle.plan_types.specs.Valid.{intervals_of}
use Rattle.plan_types.specs.declared.run.Format.TheVariants.{No}
use Rattle.plan_types.specs.declared.run.Share.{Share}
use Rattle.run_plan.specs.declared.fault.PlanFault.{PlanFault}
use Rattle.run_plan.specs.declared.fault.PlanKind.TheVariants.{IntervalsMany, RunsMany, WorkersMany}
use Rattle.run_plan.specs.declared.loops.Settings.{Settings}
use Rattle.run_plan.specs.declared.runs.Draft.{Draft}
use Rattle.run_plan.specs.declared.runs.Pick.{Pick}
use Rattle.run_plan.specs.declared.runs.Work.{Work}
use Rattle.run_plan.specs.declared.workloads.Workload.{Workload}
use Rattle.run_plan.specs.Drafts.{IsSettings}
use Rattle.run_plan.specs.Loops.{as_defined, count_of, settings_of}
use Rattle.run_plan.specs.Outcomes.{◌>>=◌, in_turn}
use Rattle.run_plan.specs.Runs.{admitted_at, draft_of, drafts_of, is_crowded, numbers_kind, picks_at, runs_at, share_of, shares_at, shares_of, stores_at, stores_of, workers_many}
use Rattle.run_plan.proofs.DraftLaws.{get_is, or_else_is, settings_are}
use Rattle.run_plan.proofs.Lists.{All-flat, list_any_map}
use Rattle.std.proofs.lemmas.List.Folds.{list_any-append}
use Rattle.run_plan.proofs.ShareLaws.{ArePicks, IsPick, IsWorkload, in_turn_all, picks_are, unless_ok}

-- a share within its ranges
pub record IsPart (many : ℕ) (share : Share) : Type 0 where
  pub store : share.store < many
  pub xfersize : IsBlockSize share.xfersize
  pub rdpct : share.rdpct ≤ 100
  pub seekpct : share.seekpct ≤ 100
  pub weight : IsFrom 1 100 share.weight

parts_at : (many : ℕ) (o : Option Workload) (s : Settings) (weight : ℕ) → IsSettings s → IsFrom 1 100 weight → IfSome o (IsWorkload many) → All (IsPart many) (shares_at o s weight)
parts_at many (Some w) s weight is from h =
    All-map (IsPart many) (share_of w s weight) w.stores
    (All-weaker (λ store. store < many) (λ store. IsPart many (share_of w s weight store))
    (λ store within. record {
      store = within;
      xfersize = or_else_is IsBlockSize s.xfersize w.xfersize is.xfersize h.xfersize;
      rdpct = or_else_is (λ n. n ≤ 100) s.rdpct w.rdpct is.rdpct h.rdpct;
      seekpct = h.seekpct;
      weight = from;
    }) w.stores h.stores)
parts_at many None s weight is from h = All-nil (IsPart many)

pub parts_are : (many : ℕ) (ws : List Workload) (s : Settings) (picks : List Pick) → IsSettings s → All (IsWorkload many) ws → All (IsPick (length ws)) picks → All (IsPart many) (shares_of ws s picks)
parts_are many ws s picks is all picked =
    All-flat (IsPick (length ws)) (IsPart many) (λ pick. shares_at (slice_get ws pick.place) s pick.weight)
    (λ pick h. parts_at many (slice_get ws pick.place) s pick.weight is h.weight (get_is (IsWorkload many) ws pick.place all)) picks picked

-- how many shares a workload has
at_least : (many : ℕ) (ws : List Workload) (place : ℕ) (s : Settings) (weight : ℕ) → All (IsWorkload many) ws → place < length ws → (0 < length (shares_at (slice_get ws place) s weight)) × (length (shares_at (slice_get ws place) s weight) ≤ many)
at_least many [] place s weight all h = absurd (omega arith)
at_least many (w ∷ ws) zero s weight all h =
    let is = All-head (IsWorkload many) w ws all in
    let e : length (map (share_of w s weight) w.stores) ≡ length w.stores = length-map w.stores (share_of w s weight) in
    let some = is.some in
    let few = is.few in
    (omega arith, omega arith)
at_least many (w ∷ ws) (suc place) s weight all h = at_least many ws place s weight (All-tail (IsWorkload many) w ws all) (omega arith)

pub shares_few : (many : ℕ) (ws : List Workload) (s : Settings) (picks : List Pick) → All (IsWorkload many) ws → All (IsPick (length ws)) picks → length (shares_of ws s picks) ≤ many * length picks
shares_few many ws s [] all picked = omega arith
shares_few many ws s (pick ∷ picks) all picked =
    let here = at_least many ws pick.place s pick.weight all (All-head (IsPick (length ws)) pick picks picked).place in
    let first = here.1 in
    let rest = shares_few many ws s picks all (All-tail (IsPick (length ws)) pick picks picked) in
    let joined = length-append (shares_at (slice_get ws pick.place) s pick.weight) (shares_of ws s picks) in
    omega (arith, first, rest, joined)

pub shares_some : (many : ℕ) (ws : List Workload) (s : Settings) (picks : List Pick) → All (IsWorkload many) ws → All (IsPick (length ws)) picks → 0 < length picks → 0 < length (shares_of ws s picks)
shares_some many ws s [] all picked h = absurd (omega arith)
shares_some many ws s (pick ∷ picks) all picked h =
    let here = at_least many ws pick.place s pick.weight all (All-head (IsPick (length ws)) pick picks picked).place in
    let first = here.0 in
    let joined = length-append (shares_at (slice_get ws pick.place) s pick.weight) (shares_of ws s picks) in
    omega (arith, first, joined)

-- the stores of shares don't depend on what loops replace
used_at : (o : Option Workload) (s t : Settings) (weight store : ℕ) → list_any (λ (share : Share). share.store == store) (shares_at o s weight) ≡ list_any (λ (share : Share). share.store == store) (shares_at o t weight)
used_at (Some w) s t weight store = list_any_map (λ (share : Share). share.store == store) (share_of w s weight) w.stores ∙ sym (list_any_map (λ (share : Share). share.store == store) (share_of w t weight) w.stores)
used_at None s t weight store = refl

used_same : (ws : List Workload) (s t : Settings) (picks : List Pick) (store : ℕ) → list_any (λ (share : Share). share.store == store) (shares_of ws s picks) ≡ list_any (λ (share : Share). share.store == store) (shares_of ws t picks)
used_same ws s t [] store = refl
used_same ws s t (pick ∷ picks) store =
    let p : Share → Bool = λ share. share.store == store in
    list_any-append p (shares_at (slice_get ws pick.place) s pick.weight) (shares_of ws s picks) ∙
    ap (λ b. b || list_any p (shares_of ws s picks)) (used_at (slice_get ws pick.place) s t pick.weight store) ∙
    ap (λ b. list_any p (shares_at (slice_get ws pick.place) t pick.weight) || b) (used_same ws s t picks store) ∙
    sym (list_any-append p (shares_at (slice_get ws pick.place) t pick.weight) (shares_of ws t picks))

filter_same : (p q : ℕ → Bool) → ((n : ℕ) → p n ≡ q n) → (xs : List ℕ) → filter p xs ≡ filter q xs
filter_same p q same [] = refl
filter_same p q same (x ∷ xs) = ap (λ b. cond b (x ∷ filter p xs) (filter p xs)) (same x) ∙ ap (λ ys. cond (q x) (x ∷ ys) ys) (filter_same p q same xs)

pub stores_same : (many : ℕ) (ws : List Workload) (s t : Settings) (picks : List Pick) → stores_of many (shares_of ws s picks) ≡ stores_of many (shares_of ws t picks)
stores_same many ws s t picks =
    filter_same (λ store. list_any (λ share. share.store == store) (shares_of ws s picks)) (λ store. list_any (λ share. share.store == store) (shares_of ws t picks))
    (used_same ws s t picks) (range_with_len 0 many)

-- a run before its workers are dealt
pub record IsReady (threads : List ℕ) (draft : Draft) : Type 0 where
  pub iorate : draft.run.iorate ≤ 10000000
  pub elapsed : IsFrom 1 8640000 draft.run.elapsed
  pub interval : IsFrom 1 8640000 draft.run.interval
  pub intervals : intervals_of draft.run.elapsed draft.run.interval ≤ 100000
  pub turns : IsFrom 1 (2 ^ 32 - 1) draft.run.turns
  pub format : draft.run.format ≡ No
  pub slaves : IsFrom 1 256 draft.run.slaves
  pub some_threads : IfSome draft.threads (λ n. 0 < n)
  pub shares : All (IsPart (length threads)) draft.run.shares
  pub some : 0 < length draft.run.shares
  pub few : length draft.run.shares ≤ 4096
  pub workers : workers_many threads (stores_of (length threads) draft.run.shares) draft.threads ≤ 512

left_no : (a b : Bool) → (a || b) ≡ false → a ≡ false
left_no true b e = absurd (cc)
left_no false b e = refl

right_no : (a b : Bool) → (a || b) ≡ false → b ≡ false
right_no true b e = absurd (cc)
right_no false b e = e

pub none_any : {A : Type 0} (p : A → Bool) (xs : List A) → list_any p xs ≡ false → All (λ x. p x ≡ false) xs
none_any p [] e = All-nil (λ x. p x ≡ false)
none_any p (x ∷ xs) e = All-cons (λ y. p y ≡ false) x xs (left_no (p x) (list_any p xs) e) (none_any p xs (right_no (p x) (list_any p xs) e))

numbers_none : (a b c : Bool) → cond a (Some IntervalsMany) (cond b (Some WorkersMany) (cond c (Some RunsMany) None)) ≡ None → (a ≡ false) × (b ≡ false)
numbers_none true b c e = absurd (cc)
numbers_none false true c e = absurd (cc)
numbers_none false false c e = (refl, refl)

pub split : {A B : Type 0} (r : Result A PlanFault) (next : A → Result B PlanFault) (y : B) → (r >>= next) ≡ Ok y → (x : A) × (r ≡ Ok x) × (next x ≡ Ok y)
split (Ok x) next y e = (x, refl, e)
split (Err fault) next y e = absurd (cc)

-- what run definitions choose from, within its ranges
pub record IsChoice (work : Work) : Type 0 where
  pub workloads : All (IsWorkload (length work.threads)) work.workloads
  pub named : length work.names ≡ length work.workloads
  pub few : length work.workloads ≤ 64
  pub few_stores : length work.threads ≤ 64
  pub slaves : IsFrom 1 256 work.slaves

draft_ready : (work : Work) → IsChoice work → (d : RdDef) → IsRd d → (picks : List Pick) → ArePicks (length work.workloads) picks → (number : ℕ) → intervals_of d.elapsed d.interval ≤ 100000 → (s : Settings) → IsSettings s → workers_many work.threads (stores_at work picks) s.threads ≤ 512 → IsReady work.threads (draft_of work d picks number s)
draft_ready work choice d rd picks are number intervals s is crowd =
    let ws = work.workloads in
    let count = shares_few (length work.threads) ws s picks choice.workloads are.all in
    let wide : length work.threads * length picks ≤ length work.threads * 64 = mul-le-mul_left (length work.threads) (omega (arith, are.few, choice.few)) in
    let few_stores = choice.few_stores in
    record {
      iorate = rd.iorate;
      elapsed = rd.elapsed;
      interval = rd.interval;
      intervals = intervals;
      turns = rd.turns;
      format = refl;
      slaves = choice.slaves;
      some_threads = is.some_threads;
      shares = parts_are (length work.threads) ws s picks is choice.workloads are.all;
      some = shares_some (length work.threads) ws s picks choice.workloads are.all are.some;
      few = omega arith;
      workers = subst (λ stores. workers_many work.threads stores s.threads ≤ 512) (stores_same (length work.threads) ws as_defined s picks) crowd;
    }

drafts_ready : (work : Work) → IsChoice work → (d : RdDef) → IsRd d → (picks : List Pick) → ArePicks (length work.workloads) picks → (number : ℕ) → intervals_of d.elapsed d.interval ≤ 100000 → (ss : List Settings) → All IsSettings ss → All (λ s. workers_many work.threads (stores_at work picks) s.threads ≤ 512) ss → All (IsReady work.threads) (drafts_of work d picks number ss)
drafts_ready work choice d rd picks are number intervals [] is crowd = All-nil (IsReady work.threads)
drafts_ready work choice d rd picks are number intervals (s ∷ ss) is crowd =
    All-cons (IsReady work.threads) (draft_of work d picks number s) (drafts_of work d picks (number + 1) ss)
    (draft_ready work choice d rd picks are number intervals s (All-head IsSettings s ss is) (All-head (λ u. workers_many work.threads (stores_at work picks) u.threads ≤ 512) s ss crowd))
    (drafts_ready work choice d rd picks are (number + 1) intervals ss (All-tail IsSettings s ss is) (All-tail (λ u. workers_many work.threads (stores_at work picks) u.threads ≤ 512) s ss crowd))

runs_ready : (work : Work) → IsChoice work → (done : List Draft) (d : RdDef) (ys : List Draft) → IsRd d → runs_at work done d ≡ Ok ys → All (IsReady work.threads) ys
runs_ready work choice done d ys rd e =
    let one = split (admitted_at work (length done) d) _ ys e in
    let two = split (picks_at work d) _ one.0 one.1 in
    let admitted = unless_ok d.line (numbers_kind work d (stores_at work two.0) (length done)) (Ok two.0) one.0 two.2 in
    let picks_same : two.0 ≡ one.0 = cc (admitted.1) in
    let numbers = numbers_none (nat_lt 100000 (intervals_of d.elapsed d.interval)) (is_crowded work.threads (stores_at work two.0) d) (nat_lt 1000 (length done + count_of d d.loops)) admitted.0 in
    let intervals = ltb-false 100000 (intervals_of d.elapsed d.interval) numbers.0 in
    let made : drafts_of work d one.0 (length done + 1) (settings_of d d.loops as_defined) ≡ ys = cc (one.2) in
    let are = picks_are (length work.threads) work d two.0 choice.workloads choice.named two.1 in
    let crowd = All-weaker (λ (s : Settings). nat_lt 512 (workers_many work.threads (stores_at work two.0) s.threads) ≡ false) (λ s. workers_many work.threads (stores_at work two.0) s.threads ≤ 512)
    (λ s h. ltb-false 512 (workers_many work.threads (stores_at work two.0) s.threads) h) (settings_of d d.loops as_defined)
    (none_any (λ (s : Settings). nat_lt 512 (workers_many work.threads (stores_at work two.0) s.threads)) (settings_of d d.loops as_defined) numbers.1) in
    subst (All (IsReady work.threads)) made
    (subst (λ picks. All (IsReady work.threads) (drafts_of work d picks (length done + 1) (settings_of d d.loops as_defined))) picks_same
    (drafts_ready work choice d rd two.0 are (length done + 1) intervals (settings_of d d.loops as_defined)
    (settings_are d rd d.loops as_defined (record { threads = tt; some_threads = tt; xfersize = tt; rdpct = tt })) crowd))

pub all_ready : (work : Work) → IsChoice work → (rds : List RdDef) (zs : List Draft) → All IsRd rds → in_turn (runs_at work) [] rds ≡ Ok zs → All (IsReady work.threads) zs
all_ready work choice rds zs all e =
    in_turn_all (runs_at work) IsRd (IsReady work.threads) (λ done d ys rd h. runs_ready work choice done d ys rd h) [] rds zs all (All-nil (IsReady work.threads)) e
