-- The runs of definitions within their ranges.
use Rattle.std.proofs.Common.{ℕ, zero, suc, List, [], ◌∷◌, ◌+◌, ◌≤◌, Bool, true, false, cond, All, Option, Some, None, IfSome, slice_get, arith}
use Rattle.std.specs.List.{flat_map}
use Rattle.std.specs.Prelude.{codes}
use Rattle.std.specs.Str.{bytes_eq}
use Rattle.std.proofs.lemmas.List.Elements.{All-cons, All-head, All-map, All-nil, All-tail}
use Rattle.parm_records.specs.Ranges.{IsBlockSize, IsFrom, IsRd}
use Rattle.parm_records.specs.declared.runs.RdDef.{RdDef}
use Rattle.plan_types.specs.declared.run.Share.{Share}
use Rattle.run_plan.specs.declared.loops.Settings.{Settings}
use Rattle.run_plan.specs.declared.runs.Pick.{Pick}
use Rattle.run_plan.specs.declared.runs.Work.{Work}
use Rattle.run_plan.specs.declared.workloads.Workload.{Workload}
use Rattle.run_plan.specs.Drafts.{IsDraft, IsSettings, IsWork}
use Rattle.run_plan.specs.Loops.{settings_of}
use Rattle.run_plan.specs.Runs.{draft_of, drafts_of, or_else, share_of, shares_at, shares_of}
use Rattle.run_plan.proofs.Lists.{All-flat}

-- one loop: its values within their range
looped : (b c : Bool) (d : RdDef) → IsRd d → (s : Settings) → IsSettings s → (next : Settings → List Settings) → ((t : Settings) → IsSettings t → All IsSettings (next t)) → All IsSettings (flat_map (λ value. next (cond b (record s { threads = Some value }) (cond c (record s { xfersize = Some value }) (record s { rdpct = Some value })))) (cond b d.forthreads (cond c d.forxfersize d.forrdpct)))
looped true c d rd s is next each =
    All-flat (IsFrom 1 256) IsSettings (λ value. next (record s { threads = Some value }))
    (λ value h. each (record s { threads = Some value }) (record { threads = omega (arith, h.at_most); some_threads = omega (arith, h.at_least); xfersize = is.xfersize; rdpct = is.rdpct })) d.forthreads rd.forthreads
looped false true d rd s is next each =
    All-flat IsBlockSize IsSettings (λ value. next (record s { xfersize = Some value }))
    (λ value h. each (record s { xfersize = Some value }) (record { threads = is.threads; some_threads = is.some_threads; xfersize = h; rdpct = is.rdpct })) d.forxfersize rd.forxfersize
looped false false d rd s is next each =
    All-flat (λ n. n ≤ 100) IsSettings (λ value. next (record s { rdpct = Some value }))
    (λ value h. each (record s { rdpct = Some value }) (record { threads = is.threads; some_threads = is.some_threads; xfersize = is.xfersize; rdpct = h })) d.forrdpct rd.forrdpct

pub settings_are : (d : RdDef) → IsRd d → (words : List (List ℕ)) (s : Settings) → IsSettings s → All IsSettings (settings_of d words s)
settings_are d rd [] s is = All-cons IsSettings s [] is (All-nil IsSettings)
settings_are d rd (word ∷ words) s is =
    looped (bytes_eq word (codes "forthreads")) (bytes_eq word (codes "forxfersize")) d rd s is (settings_of d words)
    (λ t it. settings_are d rd words t it)

pub or_else_is : (P : ℕ → Type 0) (choice : Option ℕ) (own : ℕ) → IfSome choice P → P own → P (or_else choice own)
or_else_is P (Some n) own h k = h
or_else_is P None own h k = k

pub get_is : {A : Type 0} (P : A → Type 0) (xs : List A) (i : ℕ) → All P xs → IfSome (slice_get xs i) P
get_is P [] i all = tt
get_is P (x ∷ xs) zero all = All-head P x xs all
get_is P (x ∷ xs) (suc i) all = get_is P xs i (All-tail P x xs all)

shares_at_are : (o : Option Workload) (s : Settings) (weight : ℕ) → IsSettings s → IfSome o (λ w. IsBlockSize w.xfersize) → All (λ (share : Share). IsBlockSize share.xfersize) (shares_at o s weight)
shares_at_are (Some w) s weight is transfer =
    All-map (λ (share : Share). IsBlockSize share.xfersize) (share_of w s weight) w.stores
    (λ k d h. or_else_is IsBlockSize s.xfersize w.xfersize is.xfersize transfer)
shares_at_are None s weight is transfer = All-nil (λ (share : Share). IsBlockSize share.xfersize)

shares_are : (workloads : List Workload) (s : Settings) (picks : List Pick) → IsSettings s → All (λ w. IsBlockSize w.xfersize) workloads → All (λ (share : Share). IsBlockSize share.xfersize) (shares_of workloads s picks)
shares_are workloads s picks is all =
    All-flat (λ (pick : Pick). Unit {0}) (λ (share : Share). IsBlockSize share.xfersize) (λ pick. shares_at (slice_get workloads pick.place) s pick.weight)
    (λ pick h. shares_at_are (slice_get workloads pick.place) s pick.weight is (get_is (λ (w : Workload). IsBlockSize w.xfersize) workloads pick.place all))
    picks (λ k d h. tt)

pub drafts_are : (work : Work) → IsWork work → (d : RdDef) (picks : List Pick) (number : ℕ) (ss : List Settings) → All IsSettings ss → All IsDraft (drafts_of work d picks number ss)
drafts_are work is d picks number [] all = All-nil IsDraft
drafts_are work is d picks number (s ∷ ss) all =
    let here = All-head IsSettings s ss all in
    All-cons IsDraft (draft_of work d picks number s) (drafts_of work d picks (number + 1) ss)
    (record { slaves = is.slaves; threads = here.threads; transfers = shares_are work.workloads s picks here is.workloads })
    (drafts_are work is d picks (number + 1) ss (All-tail IsSettings s ss all))
