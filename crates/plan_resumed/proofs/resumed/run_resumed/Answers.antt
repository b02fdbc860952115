use Rattle.std.proofs.Common.{◌≡◌, ◌∙◌, refl, sym, ap, subst, arith, ℕ, false, List, [], ◌++◌, length, map, take, ◌<◌}
use Rattle.std.proofs.lemmas.List.{length-map, take_all}
use Rattle.vd_outside.specs.Causes.{Rose}
use Rattle.vd_disk.specs.Disk.{DiskSeen}
use Rattle.vd_yard.specs.Counts.{Counts, arm_faults}
use Rattle.vd_yard.specs.Yard.{YardSeen}
use Rattle.vd_yard.specs.Kept.{Kept, kept_at}
use Rattle.plan_types.specs.declared.store.StorePlan.{StorePlan}
use Rattle.journal_recover.specs.declared.found.Recovered.{Recovered}
use Rattle.run_report.specs.Says.{Says, printing}
use Rattle.run_report.specs.declared.status.Status.TheVariants as status
use Rattle.journal_core.specs.Book.{seen_of}
use Rattle.still_plan.specs.Frame.{AreApart, CountsStay, IsPathOf, StoresStay}
use Rattle.still_plan.specs.Journals.{AreFit, JournalsStop, journals_text}
use Rattle.still_plan.specs.Stores.{StoresEnd, all_looks, stores_text}
use Rattle.plan_verified.specs.Stores.{LeaveStores, settled_of, store_seen, stores_out}
use Rattle.plan_journals.specs.Growth.{SomeRose}
use Rattle.plan_journals.specs.Open.{journals_are_out, out_besides}
use Rattle.plan_reopened.specs.Kept.{AreStillKept}
use Rattle.plan_reopened.specs.Recovering.{AreRecovered}
use Rattle.plan_reopened.specs.Reopening.{AreReady, next_starts}
use Rattle.plan_reopened.proofs.Following.{recovered_kept, recovered_ready}
use Rattle.plan_reopened.proofs.Recoveries.{as_many}
use Rattle.plan_runs.specs.Stages.{stage}
use Rattle.plan_resumed.specs.Going.{WentOn}
use Rattle.plan_resumed.specs.Resumed.{HaveRecovered, HaveVerified}
use Rattle.plan_resumed.proofs.Looking.{as_many_found, came_of_rest, can_resumed, faults_of_both, left_passed, looks_on, quiet_of_both, recovered_fit, resumed_not, resumed_on, resumed_stopped, rose_of_both, stores_apart}
use Rattle.plan_resumed.proofs.Parts.{along, plan_apart, told_after, told_before}
use Rattle.plan_resumed.proofs.Silence.{not_failed, some_passes, some_store, some_taken}
use Rattle.plan_resumed.proofs.resumed.run_resumed.Goals as goal

pub recover_journals-requires-clause-apart : goal.recover_journals-requires-clause-apart
recover_journals-requires-clause-apart g c κs within =
    let plan = c.args.plan.now in
    let stores = c.as_slice-stores.result.now in
    let all = c.as_slice-stores.ensures in
    plan_apart plan stores c.requires all

pub returns-in-Err-clause-ran : goal.returns-in-Err-clause-ran
returns-in-Err-clause-ran g c =
    let plan = c.args.plan.now in
    let stores = c.as_slice-stores.result.now in
    let all = c.as_slice-stores.ensures in
    let book = seen_of {D = g.row.Y-Disk.Denot} {G = g.Y.Disk.Disk} in
    let ps = g.Y.Arm.Pass.Pass.seen in
    let seen_of_store = store_seen ps in
    let a = g.Y.Yard.seen c.args.yard.now in
    let m = g.Y.Yard.seen c.recover_journals.new.yard in
    let p0 = printing c.args.printer.now.failed (g.S.Sink.taken c.args.out.now) (g.S.Sink.faults c.args.out.now) in
    let p1 = printing c.recover_journals.new.printer.failed (g.S.Sink.taken c.recover_journals.new.out) (g.S.Sink.faults c.recover_journals.new.out) in
    let before = stage [] a (g.C.Clock.seen c.args.clock.now) 0 p0 in
    let after = stage [] m (g.C.Clock.seen c.args.clock.now) 0 p1 in
    let result = c.in-Err.status in
    let stops = subst (λ (s : List StorePlan). (text : List ℕ) × Says p0 p1 text × JournalsStop a m s text result) all c.in-Err.ensures.stops in
    resumed_not ps book plan before after result stops c.recover_journals.ensures.leaves c.recover_journals.ensures.journals refl

pub look_at_stores-looked-requires-clause-apart : goal.look_at_stores-looked-requires-clause-apart
look_at_stores-looked-requires-clause-apart g c κs within =
    let plan = c.args.plan.now in
    let stores = c.as_slice-stores.result.now in
    let all = c.as_slice-stores.ensures in
    subst AreApart (sym all) (stores_apart plan.stores c.requires.paths)

pub look_at_stores-looked-requires-clause-fit : goal.look_at_stores-looked-requires-clause-fit
look_at_stores-looked-requires-clause-fit g c κs within =
    let stores = c.as_slice-stores.result.now in
    let all = c.as_slice-stores.ensures in
    let a = g.Y.Yard.seen c.args.yard.now in
    let items = c.in-Ok.all.disks.items in
    let disks = map g.Y.Disk.Disk.seen items in
    let found = c.in-Ok.all.found.items in
    let each0 = c.in-Ok.ensures.recovers.0 in
    let same_found = c.as_slice.ensures.value in
    subst (λ (f : List Recovered). AreFit stores f) (sym same_found) (recovered_fit a stores disks found each0)

pub run_verified-rest-requires-clause-as_many : goal.run_verified-rest-requires-clause-as_many
run_verified-rest-requires-clause-as_many g c κs within =
    let plan = c.args.plan.now in
    let stores = c.as_slice-stores.result.now in
    let all = c.as_slice-stores.ensures in
    let book = seen_of {D = g.row.Y-Disk.Denot} {G = g.Y.Disk.Disk} in
    let ps = g.Y.Arm.Pass.Pass.seen in
    let seen_of_store = store_seen ps in
    let a = g.Y.Yard.seen c.args.yard.now in
    let m = g.Y.Yard.seen c.recover_journals.new.yard in
    let p0 = printing c.args.printer.now.failed (g.S.Sink.taken c.args.out.now) (g.S.Sink.faults c.args.out.now) in
    let p1 = printing c.recover_journals.new.printer.failed (g.S.Sink.taken c.recover_journals.new.out) (g.S.Sink.faults c.recover_journals.new.out) in
    let before = stage [] a (g.C.Clock.seen c.args.clock.now) 0 p0 in
    let items = c.in-Ok.all.disks.items in
    let disks = map g.Y.Disk.Disk.seen items in
    let found = c.in-Ok.all.found.items in
    let each0 = c.in-Ok.ensures.recovers.0 in
    let each = subst (λ (s : List StorePlan). AreRecovered a s disks found) all each0 in
    let same_found = c.as_slice.ensures.value in
    let f1 = c.as_slice.result.now in
    let many_disks = (let n1 : length disks ≡ length items = length-map items g.Y.Disk.Disk.seen in let n2 : length disks ≡ length stores = as_many a stores disks found each0 in let n3 : length items ≡ length stores = omega (arith, n1, n2) in n3) in
    let l = g.Y.Yard.seen c.look_at_stores-looked.new.yard in
    let p2 = printing c.look_at_stores-looked.new.printer.failed (g.S.Sink.taken c.look_at_stores-looked.new.out) (g.S.Sink.faults c.look_at_stores-looked.new.out) in
    let v = c.look_at_stores-looked.new.verified.items in
    let leaves0 = c.in-Ok-looked.ensures.leaves in
    let looks = leaves0.0 in
    let items_same = (let i : v ≡ leaves0.1 = leaves0.2 ∙ ap (λ (o : List _). o ++ leaves0.1) c.new-verified.ensures.items in i) in
    let left = map seen_of_store v in
    let settled = map settled_of left in
    let left0 = (let k : LeaveStores m l stores f1 looks left = subst (λ (o : List _). LeaveStores m l stores f1 looks (map seen_of_store o)) (sym items_same) leaves0.3 in k) in
    let lefts = (let k : LeaveStores m l plan.stores found looks left = along (λ (s : List StorePlan) (f : List Recovered). LeaveStores m l s f looks left) all same_found left0 in k) in
    let f2 = c.as_slice-in-Ok-looked.result.now in
    let same_f2 = c.as_slice-in-Ok-looked.ensures.value in
    let first = c.in-Ok-looked.first in
    let first_is = leaves0.4 in
    let on = looks_on (all_looks looks) first first_is in
    let tells = (let t : l.tells ≡ a.tells = c.look_at_stores-looked.ensures.stays.tells ∙ c.recover_journals.ensures.leaves.tells in t) in
    let same_disks = (let t : l.disks ≡ a.disks = c.look_at_stores-looked.ensures.disks ∙ c.in-Ok.ensures.same in t) in
    let many = ap length all in
    let fs = as_many_found a stores disks found each0 in
    (omega (arith, many_disks, many), omega (arith, fs, ap length same_f2, many))

pub run_verified-rest-requires-clause-passed : goal.run_verified-rest-requires-clause-passed
run_verified-rest-requires-clause-passed g c κs within =
    let plan = c.args.plan.now in
    let stores = c.as_slice-stores.result.now in
    let all = c.as_slice-stores.ensures in
    let book = seen_of {D = g.row.Y-Disk.Denot} {G = g.Y.Disk.Disk} in
    let ps = g.Y.Arm.Pass.Pass.seen in
    let seen_of_store = store_seen ps in
    let a = g.Y.Yard.seen c.args.yard.now in
    let m = g.Y.Yard.seen c.recover_journals.new.yard in
    let p0 = printing c.args.printer.now.failed (g.S.Sink.taken c.args.out.now) (g.S.Sink.faults c.args.out.now) in
    let p1 = printing c.recover_journals.new.printer.failed (g.S.Sink.taken c.recover_journals.new.out) (g.S.Sink.faults c.recover_journals.new.out) in
    let before = stage [] a (g.C.Clock.seen c.args.clock.now) 0 p0 in
    let items = c.in-Ok.all.disks.items in
    let disks = map g.Y.Disk.Disk.seen items in
    let found = c.in-Ok.all.found.items in
    let each0 = c.in-Ok.ensures.recovers.0 in
    let each = subst (λ (s : List StorePlan). AreRecovered a s disks found) all each0 in
    let same_found = c.as_slice.ensures.value in
    let f1 = c.as_slice.result.now in
    let many_disks = (let n1 : length disks ≡ length items = length-map items g.Y.Disk.Disk.seen in let n2 : length disks ≡ length stores = as_many a stores disks found each0 in let n3 : length items ≡ length stores = omega (arith, n1, n2) in n3) in
    let l = g.Y.Yard.seen c.look_at_stores-looked.new.yard in
    let p2 = printing c.look_at_stores-looked.new.printer.failed (g.S.Sink.taken c.look_at_stores-looked.new.out) (g.S.Sink.faults c.look_at_stores-looked.new.out) in
    let v = c.look_at_stores-looked.new.verified.items in
    let leaves0 = c.in-Ok-looked.ensures.leaves in
    let looks = leaves0.0 in
    let items_same = (let i : v ≡ leaves0.1 = leaves0.2 ∙ ap (λ (o : List _). o ++ leaves0.1) c.new-verified.ensures.items in i) in
    let left = map seen_of_store v in
    let settled = map settled_of left in
    let left0 = (let k : LeaveStores m l stores f1 looks left = subst (λ (o : List _). LeaveStores m l stores f1 looks (map seen_of_store o)) (sym items_same) leaves0.3 in k) in
    let lefts = (let k : LeaveStores m l plan.stores found looks left = along (λ (s : List StorePlan) (f : List Recovered). LeaveStores m l s f looks left) all same_found left0 in k) in
    let f2 = c.as_slice-in-Ok-looked.result.now in
    let same_f2 = c.as_slice-in-Ok-looked.ensures.value in
    let first = c.in-Ok-looked.first in
    let first_is = leaves0.4 in
    let on = looks_on (all_looks looks) first first_is in
    let tells = (let t : l.tells ≡ a.tells = c.look_at_stores-looked.ensures.stays.tells ∙ c.recover_journals.ensures.leaves.tells in t) in
    let same_disks = (let t : l.disks ≡ a.disks = c.look_at_stores-looked.ensures.disks ∙ c.in-Ok.ensures.same in t) in
    (left_passed m l plan.stores found looks left lefts).0

pub run_verified-rest-requires-clause-kept : goal.run_verified-rest-requires-clause-kept
run_verified-rest-requires-clause-kept g c κs within told =
    let plan = c.args.plan.now in
    let stores = c.as_slice-stores.result.now in
    let all = c.as_slice-stores.ensures in
    let book = seen_of {D = g.row.Y-Disk.Denot} {G = g.Y.Disk.Disk} in
    let ps = g.Y.Arm.Pass.Pass.seen in
    let seen_of_store = store_seen ps in
    let a = g.Y.Yard.seen c.args.yard.now in
    let m = g.Y.Yard.seen c.recover_journals.new.yard in
    let p0 = printing c.args.printer.now.failed (g.S.Sink.taken c.args.out.now) (g.S.Sink.faults c.args.out.now) in
    let p1 = printing c.recover_journals.new.printer.failed (g.S.Sink.taken c.recover_journals.new.out) (g.S.Sink.faults c.recover_journals.new.out) in
    let before = stage [] a (g.C.Clock.seen c.args.clock.now) 0 p0 in
    let items = c.in-Ok.all.disks.items in
    let disks = map g.Y.Disk.Disk.seen items in
    let found = c.in-Ok.all.found.items in
    let each0 = c.in-Ok.ensures.recovers.0 in
    let each = subst (λ (s : List StorePlan). AreRecovered a s disks found) all each0 in
    let same_found = c.as_slice.ensures.value in
    let f1 = c.as_slice.result.now in
    let many_disks = (let n1 : length disks ≡ length items = length-map items g.Y.Disk.Disk.seen in let n2 : length disks ≡ length stores = as_many a stores disks found each0 in let n3 : length items ≡ length stores = omega (arith, n1, n2) in n3) in
    let l = g.Y.Yard.seen c.look_at_stores-looked.new.yard in
    let p2 = printing c.look_at_stores-looked.new.printer.failed (g.S.Sink.taken c.look_at_stores-looked.new.out) (g.S.Sink.faults c.look_at_stores-looked.new.out) in
    let v = c.look_at_stores-looked.new.verified.items in
    let leaves0 = c.in-Ok-looked.ensures.leaves in
    let looks = leaves0.0 in
    let items_same = (let i : v ≡ leaves0.1 = leaves0.2 ∙ ap (λ (o : List _). o ++ leaves0.1) c.new-verified.ensures.items in i) in
    let left = map seen_of_store v in
    let settled = map settled_of left in
    let left0 = (let k : LeaveStores m l stores f1 looks left = subst (λ (o : List _). LeaveStores m l stores f1 looks (map seen_of_store o)) (sym items_same) leaves0.3 in k) in
    let lefts = (let k : LeaveStores m l plan.stores found looks left = along (λ (s : List StorePlan) (f : List Recovered). LeaveStores m l s f looks left) all same_found left0 in k) in
    let f2 = c.as_slice-in-Ok-looked.result.now in
    let same_f2 = c.as_slice-in-Ok-looked.ensures.value in
    let first = c.in-Ok-looked.first in
    let first_is = leaves0.4 in
    let on = looks_on (all_looks looks) first first_is in
    let tells = (let t : l.tells ≡ a.tells = c.look_at_stores-looked.ensures.stays.tells ∙ c.recover_journals.ensures.leaves.tells in t) in
    let same_disks = (let t : l.disks ≡ a.disks = c.look_at_stores-looked.ensures.disks ∙ c.in-Ok.ensures.same in t) in
    subst (λ (k : Kept DiskSeen). AreStillKept k plan.stores disks) (sym same_disks) (recovered_kept a plan.stores disks found each (told_before a l tells told))

pub run_verified-rest-requires-clause-ready : goal.run_verified-rest-requires-clause-ready
run_verified-rest-requires-clause-ready g c κs within =
    let plan = c.args.plan.now in
    let stores = c.as_slice-stores.result.now in
    let all = c.as_slice-stores.ensures in
    let book = seen_of {D = g.row.Y-Disk.Denot} {G = g.Y.Disk.Disk} in
    let ps = g.Y.Arm.Pass.Pass.seen in
    let seen_of_store = store_seen ps in
    let a = g.Y.Yard.seen c.args.yard.now in
    let m = g.Y.Yard.seen c.recover_journals.new.yard in
    let p0 = printing c.args.printer.now.failed (g.S.Sink.taken c.args.out.now) (g.S.Sink.faults c.args.out.now) in
    let p1 = printing c.recover_journals.new.printer.failed (g.S.Sink.taken c.recover_journals.new.out) (g.S.Sink.faults c.recover_journals.new.out) in
    let before = stage [] a (g.C.Clock.seen c.args.clock.now) 0 p0 in
    let items = c.in-Ok.all.disks.items in
    let disks = map g.Y.Disk.Disk.seen items in
    let found = c.in-Ok.all.found.items in
    let each0 = c.in-Ok.ensures.recovers.0 in
    let each = subst (λ (s : List StorePlan). AreRecovered a s disks found) all each0 in
    let same_found = c.as_slice.ensures.value in
    let f1 = c.as_slice.result.now in
    let many_disks = (let n1 : length disks ≡ length items = length-map items g.Y.Disk.Disk.seen in let n2 : length disks ≡ length stores = as_many a stores disks found each0 in let n3 : length items ≡ length stores = omega (arith, n1, n2) in n3) in
    let l = g.Y.Yard.seen c.look_at_stores-looked.new.yard in
    let p2 = printing c.look_at_stores-looked.new.printer.failed (g.S.Sink.taken c.look_at_stores-looked.new.out) (g.S.Sink.faults c.look_at_stores-looked.new.out) in
    let v = c.look_at_stores-looked.new.verified.items in
    let leaves0 = c.in-Ok-looked.ensures.leaves in
    let looks = leaves0.0 in
    let items_same = (let i : v ≡ leaves0.1 = leaves0.2 ∙ ap (λ (o : List _). o ++ leaves0.1) c.new-verified.ensures.items in i) in
    let left = map seen_of_store v in
    let settled = map settled_of left in
    let left0 = (let k : LeaveStores m l stores f1 looks left = subst (λ (o : List _). LeaveStores m l stores f1 looks (map seen_of_store o)) (sym items_same) leaves0.3 in k) in
    let lefts = (let k : LeaveStores m l plan.stores found looks left = along (λ (s : List StorePlan) (f : List Recovered). LeaveStores m l s f looks left) all same_found left0 in k) in
    let f2 = c.as_slice-in-Ok-looked.result.now in
    let same_f2 = c.as_slice-in-Ok-looked.ensures.value in
    let first = c.in-Ok-looked.first in
    let first_is = leaves0.4 in
    let on = looks_on (all_looks looks) first first_is in
    let tells = (let t : l.tells ≡ a.tells = c.look_at_stores-looked.ensures.stays.tells ∙ c.recover_journals.ensures.leaves.tells in t) in
    let same_disks = (let t : l.disks ≡ a.disks = c.look_at_stores-looked.ensures.disks ∙ c.in-Ok.ensures.same in t) in
    let set = (left_passed m l plan.stores found looks left lefts).1 in
    subst (λ (f : List Recovered). AreReady plan.stores disks f settled) (sym same_f2) (recovered_ready a plan.stores disks found settled each set)

pub returns-in-Ok-looked-clause-ran : goal.returns-in-Ok-looked-clause-ran
returns-in-Ok-looked-clause-ran g c =
    let plan = c.args.plan.now in
    let stores = c.as_slice-stores.result.now in
    let all = c.as_slice-stores.ensures in
    let book = seen_of {D = g.row.Y-Disk.Denot} {G = g.Y.Disk.Disk} in
    let ps = g.Y.Arm.Pass.Pass.seen in
    let seen_of_store = store_seen ps in
    let a = g.Y.Yard.seen c.args.yard.now in
    let m = g.Y.Yard.seen c.recover_journals.new.yard in
    let p0 = printing c.args.printer.now.failed (g.S.Sink.taken c.args.out.now) (g.S.Sink.faults c.args.out.now) in
    let p1 = printing c.recover_journals.new.printer.failed (g.S.Sink.taken c.recover_journals.new.out) (g.S.Sink.faults c.recover_journals.new.out) in
    let before = stage [] a (g.C.Clock.seen c.args.clock.now) 0 p0 in
    let items = c.in-Ok.all.disks.items in
    let disks = map g.Y.Disk.Disk.seen items in
    let found = c.in-Ok.all.found.items in
    let each0 = c.in-Ok.ensures.recovers.0 in
    let each = subst (λ (s : List StorePlan). AreRecovered a s disks found) all each0 in
    let same_found = c.as_slice.ensures.value in
    let f1 = c.as_slice.result.now in
    let many_disks = (let n1 : length disks ≡ length items = length-map items g.Y.Disk.Disk.seen in let n2 : length disks ≡ length stores = as_many a stores disks found each0 in let n3 : length items ≡ length stores = omega (arith, n1, n2) in n3) in
    let l = g.Y.Yard.seen c.look_at_stores-looked.new.yard in
    let p2 = printing c.look_at_stores-looked.new.printer.failed (g.S.Sink.taken c.look_at_stores-looked.new.out) (g.S.Sink.faults c.look_at_stores-looked.new.out) in
    let v = c.look_at_stores-looked.new.verified.items in
    let leaves0 = c.in-Ok-looked.ensures.leaves in
    let looks = leaves0.0 in
    let items_same = (let i : v ≡ leaves0.1 = leaves0.2 ∙ ap (λ (o : List _). o ++ leaves0.1) c.new-verified.ensures.items in i) in
    let left = map seen_of_store v in
    let settled = map settled_of left in
    let left0 = (let k : LeaveStores m l stores f1 looks left = subst (λ (o : List _). LeaveStores m l stores f1 looks (map seen_of_store o)) (sym items_same) leaves0.3 in k) in
    let lefts = (let k : LeaveStores m l plan.stores found looks left = along (λ (s : List StorePlan) (f : List Recovered). LeaveStores m l s f looks left) all same_found left0 in k) in
    let f2 = c.as_slice-in-Ok-looked.result.now in
    let same_f2 = c.as_slice-in-Ok-looked.ensures.value in
    let first = c.in-Ok-looked.first in
    let first_is = leaves0.4 in
    let on = looks_on (all_looks looks) first first_is in
    let tells = (let t : l.tells ≡ a.tells = c.look_at_stores-looked.ensures.stays.tells ∙ c.recover_journals.ensures.leaves.tells in t) in
    let same_disks = (let t : l.disks ≡ a.disks = c.look_at_stores-looked.ensures.disks ∙ c.in-Ok.ensures.same in t) in
    let e = g.Y.Yard.seen c.run_verified-rest.new.yard in
    let rest = c.run_verified-rest.result in
    let result = c.worse.result in
    let went0 = c.run_verified-rest.ensures.went in
    let have = (let h : HaveRecovered plan before found m p1 = record { disks = disks; each = each; says = subst (λ (s : List StorePlan). Says p0 p1 (journals_text s found)) all c.in-Ok.ensures.recovers.1; leaves = c.recover_journals.ensures.leaves; out = subst (λ (s : List StorePlan). m.out ≡ out_besides a.out s) all c.in-Ok.ensures.taken; same = c.in-Ok.ensures.same; faults = c.in-Ok.ensures.yard_quiet (λ e. cc) (λ e. cc) } in h) in
    let after = stage [] e (g.C.Clock.seen c.run_verified-rest.new.clock) 0 (printing c.run_verified-rest.new.printer.failed (g.S.Sink.taken c.run_verified-rest.new.out) (g.S.Sink.faults c.run_verified-rest.new.out)) in
    let verified : HaveVerified plan found looks left m p1 l p2 = record { each = lefts; says = along (λ (s : List StorePlan) (f : List Recovered). Says p1 p2 (stores_text s f looks)) all same_found leaves0.5; stays = c.look_at_stores-looked.ensures.stays; out = subst (λ (s : List StorePlan). l.out ≡ stores_out s m.out) all c.in-Ok-looked.ensures.taken; sources = c.look_at_stores-looked.ensures.sources; elsewhere = subst (λ (s : List StorePlan). (q : List ℕ) → (IsPathOf s q → ⊥) → CountsStay m l q) all c.look_at_stores-looked.ensures.elsewhere; disks = c.look_at_stores-looked.ensures.disks; contents = c.in-Ok-looked.ensures.kept } in
    let went = subst (λ (f : List Recovered). WentOn ps book plan disks (next_starts plan.stores f settled) left (stage [] l (g.C.Clock.seen c.args.clock.now) 0 p2) after rest) same_f2 went0 in
    let some : 0 < length stores = subst (λ (s : List StorePlan). 0 < length s) (sym all) (some_store plan c.requires) in
    let unfailed : p1.failed ≡ false = not_failed c.recover_journals.new.printer.failed (λ shut. some_passes m.out l.out stores some c.in-Ok-looked.ensures.taken (ap (λ (y : YardSeen). y.out) (c.look_at_stores-looked.ensures.silent shut))) in
    resumed_on ps book plan before after result found m p1 have unfailed looks left l p2 verified first rest first_is c.worse.ensures went

pub returns-in-Ok-looked-clause-journal_fault : goal.returns-in-Ok-looked-clause-journal_fault
returns-in-Ok-looked-clause-journal_fault g c so told =
    let plan = c.args.plan.now in
    let stores = c.as_slice-stores.result.now in
    let all = c.as_slice-stores.ensures in
    let book = seen_of {D = g.row.Y-Disk.Denot} {G = g.Y.Disk.Disk} in
    let ps = g.Y.Arm.Pass.Pass.seen in
    let seen_of_store = store_seen ps in
    let a = g.Y.Yard.seen c.args.yard.now in
    let m = g.Y.Yard.seen c.recover_journals.new.yard in
    let p0 = printing c.args.printer.now.failed (g.S.Sink.taken c.args.out.now) (g.S.Sink.faults c.args.out.now) in
    let p1 = printing c.recover_journals.new.printer.failed (g.S.Sink.taken c.recover_journals.new.out) (g.S.Sink.faults c.recover_journals.new.out) in
    let before = stage [] a (g.C.Clock.seen c.args.clock.now) 0 p0 in
    let items = c.in-Ok.all.disks.items in
    let disks = map g.Y.Disk.Disk.seen items in
    let found = c.in-Ok.all.found.items in
    let each0 = c.in-Ok.ensures.recovers.0 in
    let each = subst (λ (s : List StorePlan). AreRecovered a s disks found) all each0 in
    let same_found = c.as_slice.ensures.value in
    let f1 = c.as_slice.result.now in
    let many_disks = (let n1 : length disks ≡ length items = length-map items g.Y.Disk.Disk.seen in let n2 : length disks ≡ length stores = as_many a stores disks found each0 in let n3 : length items ≡ length stores = omega (arith, n1, n2) in n3) in
    let l = g.Y.Yard.seen c.look_at_stores-looked.new.yard in
    let p2 = printing c.look_at_stores-looked.new.printer.failed (g.S.Sink.taken c.look_at_stores-looked.new.out) (g.S.Sink.faults c.look_at_stores-looked.new.out) in
    let v = c.look_at_stores-looked.new.verified.items in
    let leaves0 = c.in-Ok-looked.ensures.leaves in
    let looks = leaves0.0 in
    let items_same = (let i : v ≡ leaves0.1 = leaves0.2 ∙ ap (λ (o : List _). o ++ leaves0.1) c.new-verified.ensures.items in i) in
    let left = map seen_of_store v in
    let settled = map settled_of left in
    let left0 = (let k : LeaveStores m l stores f1 looks left = subst (λ (o : List _). LeaveStores m l stores f1 looks (map seen_of_store o)) (sym items_same) leaves0.3 in k) in
    let lefts = (let k : LeaveStores m l plan.stores found looks left = along (λ (s : List StorePlan) (f : List Recovered). LeaveStores m l s f looks left) all same_found left0 in k) in
    let f2 = c.as_slice-in-Ok-looked.result.now in
    let same_f2 = c.as_slice-in-Ok-looked.ensures.value in
    let first = c.in-Ok-looked.first in
    let first_is = leaves0.4 in
    let on = looks_on (all_looks looks) first first_is in
    let tells = (let t : l.tells ≡ a.tells = c.look_at_stores-looked.ensures.stays.tells ∙ c.recover_journals.ensures.leaves.tells in t) in
    let same_disks = (let t : l.disks ≡ a.disks = c.look_at_stores-looked.ensures.disks ∙ c.in-Ok.ensures.same in t) in
    let e = g.Y.Yard.seen c.run_verified-rest.new.yard in
    let rest = c.run_verified-rest.result in
    let result = c.worse.result in
    let went0 = c.run_verified-rest.ensures.went in
    subst (λ (k : Kept DiskSeen). SomeRose plan.stores k e.disks) same_disks (went0.journal_fault (came_of_rest first rest result c.worse.ensures on status.Journal (λ no. cc) (λ no. cc) (λ no. cc) so) (told_after a l tells told))

pub returns-in-Ok-looked-clause-yard_quiet : goal.returns-in-Ok-looked-clause-yard_quiet
returns-in-Ok-looked-clause-yard_quiet g c yard memory =
    let plan = c.args.plan.now in
    let stores = c.as_slice-stores.result.now in
    let all = c.as_slice-stores.ensures in
    let book = seen_of {D = g.row.Y-Disk.Denot} {G = g.Y.Disk.Disk} in
    let ps = g.Y.Arm.Pass.Pass.seen in
    let seen_of_store = store_seen ps in
    let a = g.Y.Yard.seen c.args.yard.now in
    let m = g.Y.Yard.seen c.recover_journals.new.yard in
    let p0 = printing c.args.printer.now.failed (g.S.Sink.taken c.args.out.now) (g.S.Sink.faults c.args.out.now) in
    let p1 = printing c.recover_journals.new.printer.failed (g.S.Sink.taken c.recover_journals.new.out) (g.S.Sink.faults c.recover_journals.new.out) in
    let before = stage [] a (g.C.Clock.seen c.args.clock.now) 0 p0 in
    let items = c.in-Ok.all.disks.items in
    let disks = map g.Y.Disk.Disk.seen items in
    let found = c.in-Ok.all.found.items in
    let each0 = c.in-Ok.ensures.recovers.0 in
    let each = subst (λ (s : List StorePlan). AreRecovered a s disks found) all each0 in
    let same_found = c.as_slice.ensures.value in
    let f1 = c.as_slice.result.now in
    let many_disks = (let n1 : length disks ≡ length items = length-map items g.Y.Disk.Disk.seen in let n2 : length disks ≡ length stores = as_many a stores disks found each0 in let n3 : length items ≡ length stores = omega (arith, n1, n2) in n3) in
    let l = g.Y.Yard.seen c.look_at_stores-looked.new.yard in
    let p2 = printing c.look_at_stores-looked.new.printer.failed (g.S.Sink.taken c.look_at_stores-looked.new.out) (g.S.Sink.faults c.look_at_stores-looked.new.out) in
    let v = c.look_at_stores-looked.new.verified.items in
    let leaves0 = c.in-Ok-looked.ensures.leaves in
    let looks = leaves0.0 in
    let items_same = (let i : v ≡ leaves0.1 = leaves0.2 ∙ ap (λ (o : List _). o ++ leaves0.1) c.new-verified.ensures.items in i) in
    let left = map seen_of_store v in
    let settled = map settled_of left in
    let left0 = (let k : LeaveStores m l stores f1 looks left = subst (λ (o : List _). LeaveStores m l stores f1 looks (map seen_of_store o)) (sym items_same) leaves0.3 in k) in
    let lefts = (let k : LeaveStores m l plan.stores found looks left = along (λ (s : List StorePlan) (f : List Recovered). LeaveStores m l s f looks left) all same_found left0 in k) in
    let f2 = c.as_slice-in-Ok-looked.result.now in
    let same_f2 = c.as_slice-in-Ok-looked.ensures.value in
    let first = c.in-Ok-looked.first in
    let first_is = leaves0.4 in
    let on = looks_on (all_looks looks) first first_is in
    let tells = (let t : l.tells ≡ a.tells = c.look_at_stores-looked.ensures.stays.tells ∙ c.recover_journals.ensures.leaves.tells in t) in
    let same_disks = (let t : l.disks ≡ a.disks = c.look_at_stores-looked.ensures.disks ∙ c.in-Ok.ensures.same in t) in
    let e = g.Y.Yard.seen c.run_verified-rest.new.yard in
    let rest = c.run_verified-rest.result in
    let result = c.worse.result in
    let went0 = c.run_verified-rest.ensures.went in
    faults_of_both m l e first rest result c.worse.ensures on c.look_at_stores-looked.ensures.stays went0.leaves (c.in-Ok-looked.ensures.yard_quiet (λ no. cc) (λ no. cc)) yard memory ∙ c.in-Ok.ensures.yard_quiet (λ no. cc) (λ no. cc)

pub returns-in-Ok-looked-clause-device_fault : goal.returns-in-Ok-looked-clause-device_fault
returns-in-Ok-looked-clause-device_fault g c so =
    let plan = c.args.plan.now in
    let stores = c.as_slice-stores.result.now in
    let all = c.as_slice-stores.ensures in
    let book = seen_of {D = g.row.Y-Disk.Denot} {G = g.Y.Disk.Disk} in
    let ps = g.Y.Arm.Pass.Pass.seen in
    let seen_of_store = store_seen ps in
    let a = g.Y.Yard.seen c.args.yard.now in
    let m = g.Y.Yard.seen c.recover_journals.new.yard in
    let p0 = printing c.args.printer.now.failed (g.S.Sink.taken c.args.out.now) (g.S.Sink.faults c.args.out.now) in
    let p1 = printing c.recover_journals.new.printer.failed (g.S.Sink.taken c.recover_journals.new.out) (g.S.Sink.faults c.recover_journals.new.out) in
    let before = stage [] a (g.C.Clock.seen c.args.clock.now) 0 p0 in
    let items = c.in-Ok.all.disks.items in
    let disks = map g.Y.Disk.Disk.seen items in
    let found = c.in-Ok.all.found.items in
    let each0 = c.in-Ok.ensures.recovers.0 in
    let each = subst (λ (s : List StorePlan). AreRecovered a s disks found) all each0 in
    let same_found = c.as_slice.ensures.value in
    let f1 = c.as_slice.result.now in
    let many_disks = (let n1 : length disks ≡ length items = length-map items g.Y.Disk.Disk.seen in let n2 : length disks ≡ length stores = as_many a stores disks found each0 in let n3 : length items ≡ length stores = omega (arith, n1, n2) in n3) in
    let l = g.Y.Yard.seen c.look_at_stores-looked.new.yard in
    let p2 = printing c.look_at_stores-looked.new.printer.failed (g.S.Sink.taken c.look_at_stores-looked.new.out) (g.S.Sink.faults c.look_at_stores-looked.new.out) in
    let v = c.look_at_stores-looked.new.verified.items in
    let leaves0 = c.in-Ok-looked.ensures.leaves in
    let looks = leaves0.0 in
    let items_same = (let i : v ≡ leaves0.1 = leaves0.2 ∙ ap (λ (o : List _). o ++ leaves0.1) c.new-verified.ensures.items in i) in
    let left = map seen_of_store v in
    let settled = map settled_of left in
    let left0 = (let k : LeaveStores m l stores f1 looks left = subst (λ (o : List _). LeaveStores m l stores f1 looks (map seen_of_store o)) (sym items_same) leaves0.3 in k) in
    let lefts = (let k : LeaveStores m l plan.stores found looks left = along (λ (s : List StorePlan) (f : List Recovered). LeaveStores m l s f looks left) all same_found left0 in k) in
    let f2 = c.as_slice-in-Ok-looked.result.now in
    let same_f2 = c.as_slice-in-Ok-looked.ensures.value in
    let first = c.in-Ok-looked.first in
    let first_is = leaves0.4 in
    let on = looks_on (all_looks looks) first first_is in
    let tells = (let t : l.tells ≡ a.tells = c.look_at_stores-looked.ensures.stays.tells ∙ c.recover_journals.ensures.leaves.tells in t) in
    let same_disks = (let t : l.disks ≡ a.disks = c.look_at_stores-looked.ensures.disks ∙ c.in-Ok.ensures.same in t) in
    let e = g.Y.Yard.seen c.run_verified-rest.new.yard in
    let rest = c.run_verified-rest.result in
    let result = c.worse.result in
    let went0 = c.run_verified-rest.ensures.went in
    let said = c.in-Ok-looked.ensures.said in
    let rose = rose_of_both m l e first rest result c.worse.ensures on c.look_at_stores-looked.ensures.stays went0.leaves stores f1 (said.0, said.2) so in
    (rose.0, subst (λ (k : Counts). Rose (arm_faults k rose.0) (arm_faults e.counts rose.0)) c.recover_journals.ensures.leaves.counts rose.1)

pub returns-in-Ok-looked-clause-device_quiet : goal.returns-in-Ok-looked-clause-device_quiet
returns-in-Ok-looked-clause-device_quiet g c device epoch journal yard sink memory path =
    let plan = c.args.plan.now in
    let stores = c.as_slice-stores.result.now in
    let all = c.as_slice-stores.ensures in
    let book = seen_of {D = g.row.Y-Disk.Denot} {G = g.Y.Disk.Disk} in
    let ps = g.Y.Arm.Pass.Pass.seen in
    let seen_of_store = store_seen ps in
    let a = g.Y.Yard.seen c.args.yard.now in
    let m = g.Y.Yard.seen c.recover_journals.new.yard in
    let p0 = printing c.args.printer.now.failed (g.S.Sink.taken c.args.out.now) (g.S.Sink.faults c.args.out.now) in
    let p1 = printing c.recover_journals.new.printer.failed (g.S.Sink.taken c.recover_journals.new.out) (g.S.Sink.faults c.recover_journals.new.out) in
    let before = stage [] a (g.C.Clock.seen c.args.clock.now) 0 p0 in
    let items = c.in-Ok.all.disks.items in
    let disks = map g.Y.Disk.Disk.seen items in
    let found = c.in-Ok.all.found.items in
    let each0 = c.in-Ok.ensures.recovers.0 in
    let each = subst (λ (s : List StorePlan). AreRecovered a s disks found) all each0 in
    let same_found = c.as_slice.ensures.value in
    let f1 = c.as_slice.result.now in
    let many_disks = (let n1 : length disks ≡ length items = length-map items g.Y.Disk.Disk.seen in let n2 : length disks ≡ length stores = as_many a stores disks found each0 in let n3 : length items ≡ length stores = omega (arith, n1, n2) in n3) in
    let l = g.Y.Yard.seen c.look_at_stores-looked.new.yard in
    let p2 = printing c.look_at_stores-looked.new.printer.failed (g.S.Sink.taken c.look_at_stores-looked.new.out) (g.S.Sink.faults c.look_at_stores-looked.new.out) in
    let v = c.look_at_stores-looked.new.verified.items in
    let leaves0 = c.in-Ok-looked.ensures.leaves in
    let looks = leaves0.0 in
    let items_same = (let i : v ≡ leaves0.1 = leaves0.2 ∙ ap (λ (o : List _). o ++ leaves0.1) c.new-verified.ensures.items in i) in
    let left = map seen_of_store v in
    let settled = map settled_of left in
    let left0 = (let k : LeaveStores m l stores f1 looks left = subst (λ (o : List _). LeaveStores m l stores f1 looks (map seen_of_store o)) (sym items_same) leaves0.3 in k) in
    let lefts = (let k : LeaveStores m l plan.stores found looks left = along (λ (s : List StorePlan) (f : List Recovered). LeaveStores m l s f looks left) all same_found left0 in k) in
    let f2 = c.as_slice-in-Ok-looked.result.now in
    let same_f2 = c.as_slice-in-Ok-looked.ensures.value in
    let first = c.in-Ok-looked.first in
    let first_is = leaves0.4 in
    let on = looks_on (all_looks looks) first first_is in
    let tells = (let t : l.tells ≡ a.tells = c.look_at_stores-looked.ensures.stays.tells ∙ c.recover_journals.ensures.leaves.tells in t) in
    let same_disks = (let t : l.disks ≡ a.disks = c.look_at_stores-looked.ensures.disks ∙ c.in-Ok.ensures.same in t) in
    let e = g.Y.Yard.seen c.run_verified-rest.new.yard in
    let rest = c.run_verified-rest.result in
    let result = c.worse.result in
    let went0 = c.run_verified-rest.ensures.went in
    quiet_of_both m l e first rest result c.worse.ensures on c.look_at_stores-looked.ensures.stays went0.leaves c.in-Ok-looked.ensures.arms_quiet device epoch journal yard memory path ∙ ap (λ (k : Counts). arm_faults k path) c.recover_journals.ensures.leaves.counts

pub returns-in-Ok-looked-clause-can : goal.returns-in-Ok-looked-clause-can
returns-in-Ok-looked-clause-can g c =
    let plan = c.args.plan.now in
    let stores = c.as_slice-stores.result.now in
    let all = c.as_slice-stores.ensures in
    let book = seen_of {D = g.row.Y-Disk.Denot} {G = g.Y.Disk.Disk} in
    let ps = g.Y.Arm.Pass.Pass.seen in
    let seen_of_store = store_seen ps in
    let a = g.Y.Yard.seen c.args.yard.now in
    let m = g.Y.Yard.seen c.recover_journals.new.yard in
    let p0 = printing c.args.printer.now.failed (g.S.Sink.taken c.args.out.now) (g.S.Sink.faults c.args.out.now) in
    let p1 = printing c.recover_journals.new.printer.failed (g.S.Sink.taken c.recover_journals.new.out) (g.S.Sink.faults c.recover_journals.new.out) in
    let before = stage [] a (g.C.Clock.seen c.args.clock.now) 0 p0 in
    let items = c.in-Ok.all.disks.items in
    let disks = map g.Y.Disk.Disk.seen items in
    let found = c.in-Ok.all.found.items in
    let each0 = c.in-Ok.ensures.recovers.0 in
    let each = subst (λ (s : List StorePlan). AreRecovered a s disks found) all each0 in
    let same_found = c.as_slice.ensures.value in
    let f1 = c.as_slice.result.now in
    let many_disks = (let n1 : length disks ≡ length items = length-map items g.Y.Disk.Disk.seen in let n2 : length disks ≡ length stores = as_many a stores disks found each0 in let n3 : length items ≡ length stores = omega (arith, n1, n2) in n3) in
    let l = g.Y.Yard.seen c.look_at_stores-looked.new.yard in
    let p2 = printing c.look_at_stores-looked.new.printer.failed (g.S.Sink.taken c.look_at_stores-looked.new.out) (g.S.Sink.faults c.look_at_stores-looked.new.out) in
    let v = c.look_at_stores-looked.new.verified.items in
    let leaves0 = c.in-Ok-looked.ensures.leaves in
    let looks = leaves0.0 in
    let items_same = (let i : v ≡ leaves0.1 = leaves0.2 ∙ ap (λ (o : List _). o ++ leaves0.1) c.new-verified.ensures.items in i) in
    let left = map seen_of_store v in
    let settled = map settled_of left in
    let left0 = (let k : LeaveStores m l stores f1 looks left = subst (λ (o : List _). LeaveStores m l stores f1 looks (map seen_of_store o)) (sym items_same) leaves0.3 in k) in
    let lefts = (let k : LeaveStores m l plan.stores found looks left = along (λ (s : List StorePlan) (f : List Recovered). LeaveStores m l s f looks left) all same_found left0 in k) in
    let f2 = c.as_slice-in-Ok-looked.result.now in
    let same_f2 = c.as_slice-in-Ok-looked.ensures.value in
    let first = c.in-Ok-looked.first in
    let first_is = leaves0.4 in
    let on = looks_on (all_looks looks) first first_is in
    let tells = (let t : l.tells ≡ a.tells = c.look_at_stores-looked.ensures.stays.tells ∙ c.recover_journals.ensures.leaves.tells in t) in
    let same_disks = (let t : l.disks ≡ a.disks = c.look_at_stores-looked.ensures.disks ∙ c.in-Ok.ensures.same in t) in
    let e = g.Y.Yard.seen c.run_verified-rest.new.yard in
    let rest = c.run_verified-rest.result in
    let result = c.worse.result in
    let went0 = c.run_verified-rest.ensures.went in
    can_resumed first rest result c.worse.ensures on c.run_verified-rest.new.printer.failed went0.leaves.can

pub give_back-requires-clause-few : goal.give_back-requires-clause-few
give_back-requires-clause-few g c κs within =
    let plan = c.args.plan.now in
    let stores = c.as_slice-stores.result.now in
    let all = c.as_slice-stores.ensures in
    let book = seen_of {D = g.row.Y-Disk.Denot} {G = g.Y.Disk.Disk} in
    let ps = g.Y.Arm.Pass.Pass.seen in
    let seen_of_store = store_seen ps in
    let a = g.Y.Yard.seen c.args.yard.now in
    let m = g.Y.Yard.seen c.recover_journals.new.yard in
    let p0 = printing c.args.printer.now.failed (g.S.Sink.taken c.args.out.now) (g.S.Sink.faults c.args.out.now) in
    let p1 = printing c.recover_journals.new.printer.failed (g.S.Sink.taken c.recover_journals.new.out) (g.S.Sink.faults c.recover_journals.new.out) in
    let before = stage [] a (g.C.Clock.seen c.args.clock.now) 0 p0 in
    let items = c.in-Ok.all.disks.items in
    let disks = map g.Y.Disk.Disk.seen items in
    let found = c.in-Ok.all.found.items in
    let each0 = c.in-Ok.ensures.recovers.0 in
    let each = subst (λ (s : List StorePlan). AreRecovered a s disks found) all each0 in
    let same_found = c.as_slice.ensures.value in
    let f1 = c.as_slice.result.now in
    let many_disks = (let n1 : length disks ≡ length items = length-map items g.Y.Disk.Disk.seen in let n2 : length disks ≡ length stores = as_many a stores disks found each0 in let n3 : length items ≡ length stores = omega (arith, n1, n2) in n3) in
    let l = g.Y.Yard.seen c.look_at_stores-looked.new.yard in
    let p2 = printing c.look_at_stores-looked.new.printer.failed (g.S.Sink.taken c.look_at_stores-looked.new.out) (g.S.Sink.faults c.look_at_stores-looked.new.out) in
    omega (arith, many_disks)

pub give_back-requires-clause-out : goal.give_back-requires-clause-out
give_back-requires-clause-out g c κs within =
    let plan = c.args.plan.now in
    let stores = c.as_slice-stores.result.now in
    let all = c.as_slice-stores.ensures in
    let book = seen_of {D = g.row.Y-Disk.Denot} {G = g.Y.Disk.Disk} in
    let ps = g.Y.Arm.Pass.Pass.seen in
    let seen_of_store = store_seen ps in
    let a = g.Y.Yard.seen c.args.yard.now in
    let m = g.Y.Yard.seen c.recover_journals.new.yard in
    let p0 = printing c.args.printer.now.failed (g.S.Sink.taken c.args.out.now) (g.S.Sink.faults c.args.out.now) in
    let p1 = printing c.recover_journals.new.printer.failed (g.S.Sink.taken c.recover_journals.new.out) (g.S.Sink.faults c.recover_journals.new.out) in
    let before = stage [] a (g.C.Clock.seen c.args.clock.now) 0 p0 in
    let items = c.in-Ok.all.disks.items in
    let disks = map g.Y.Disk.Disk.seen items in
    let found = c.in-Ok.all.found.items in
    let each0 = c.in-Ok.ensures.recovers.0 in
    let each = subst (λ (s : List StorePlan). AreRecovered a s disks found) all each0 in
    let same_found = c.as_slice.ensures.value in
    let f1 = c.as_slice.result.now in
    let many_disks = (let n1 : length disks ≡ length items = length-map items g.Y.Disk.Disk.seen in let n2 : length disks ≡ length stores = as_many a stores disks found each0 in let n3 : length items ≡ length stores = omega (arith, n1, n2) in n3) in
    let l = g.Y.Yard.seen c.look_at_stores-looked.new.yard in
    let p2 = printing c.look_at_stores-looked.new.printer.failed (g.S.Sink.taken c.look_at_stores-looked.new.out) (g.S.Sink.faults c.look_at_stores-looked.new.out) in
    let out : l.out ≡ out_besides a.out (take (length items) stores) = c.in-Err-looked.ensures.not_taken ∙ c.in-Ok.ensures.taken ∙ ap (out_besides a.out) (sym (take_all (length items) stores (omega (arith, many_disks)))) in
    journals_are_out a.out out

pub returns-clause-back : goal.returns-clause-back
returns-clause-back g c =
    let plan = c.args.plan.now in
    let stores = c.as_slice-stores.result.now in
    let all = c.as_slice-stores.ensures in
    let book = seen_of {D = g.row.Y-Disk.Denot} {G = g.Y.Disk.Disk} in
    let ps = g.Y.Arm.Pass.Pass.seen in
    let seen_of_store = store_seen ps in
    let a = g.Y.Yard.seen c.args.yard.now in
    let m = g.Y.Yard.seen c.recover_journals.new.yard in
    let p0 = printing c.args.printer.now.failed (g.S.Sink.taken c.args.out.now) (g.S.Sink.faults c.args.out.now) in
    let p1 = printing c.recover_journals.new.printer.failed (g.S.Sink.taken c.recover_journals.new.out) (g.S.Sink.faults c.recover_journals.new.out) in
    let before = stage [] a (g.C.Clock.seen c.args.clock.now) 0 p0 in
    let items = c.in-Ok.all.disks.items in
    let disks = map g.Y.Disk.Disk.seen items in
    let found = c.in-Ok.all.found.items in
    let each0 = c.in-Ok.ensures.recovers.0 in
    let each = subst (λ (s : List StorePlan). AreRecovered a s disks found) all each0 in
    let same_found = c.as_slice.ensures.value in
    let f1 = c.as_slice.result.now in
    let many_disks = (let n1 : length disks ≡ length items = length-map items g.Y.Disk.Disk.seen in let n2 : length disks ≡ length stores = as_many a stores disks found each0 in let n3 : length items ≡ length stores = omega (arith, n1, n2) in n3) in
    let l = g.Y.Yard.seen c.look_at_stores-looked.new.yard in
    let p2 = printing c.look_at_stores-looked.new.printer.failed (g.S.Sink.taken c.look_at_stores-looked.new.out) (g.S.Sink.faults c.look_at_stores-looked.new.out) in
    let out : l.out ≡ out_besides a.out (take (length items) stores) = c.in-Err-looked.ensures.not_taken ∙ c.in-Ok.ensures.taken ∙ ap (out_besides a.out) (sym (take_all (length items) stores (omega (arith, many_disks)))) in
    c.give_back.ensures.back a.out out

pub returns-clause-ran : goal.returns-clause-ran
returns-clause-ran g c =
    let plan = c.args.plan.now in
    let stores = c.as_slice-stores.result.now in
    let all = c.as_slice-stores.ensures in
    let book = seen_of {D = g.row.Y-Disk.Denot} {G = g.Y.Disk.Disk} in
    let ps = g.Y.Arm.Pass.Pass.seen in
    let seen_of_store = store_seen ps in
    let a = g.Y.Yard.seen c.args.yard.now in
    let m = g.Y.Yard.seen c.recover_journals.new.yard in
    let p0 = printing c.args.printer.now.failed (g.S.Sink.taken c.args.out.now) (g.S.Sink.faults c.args.out.now) in
    let p1 = printing c.recover_journals.new.printer.failed (g.S.Sink.taken c.recover_journals.new.out) (g.S.Sink.faults c.recover_journals.new.out) in
    let before = stage [] a (g.C.Clock.seen c.args.clock.now) 0 p0 in
    let items = c.in-Ok.all.disks.items in
    let disks = map g.Y.Disk.Disk.seen items in
    let found = c.in-Ok.all.found.items in
    let each0 = c.in-Ok.ensures.recovers.0 in
    let each = subst (λ (s : List StorePlan). AreRecovered a s disks found) all each0 in
    let same_found = c.as_slice.ensures.value in
    let f1 = c.as_slice.result.now in
    let many_disks = (let n1 : length disks ≡ length items = length-map items g.Y.Disk.Disk.seen in let n2 : length disks ≡ length stores = as_many a stores disks found each0 in let n3 : length items ≡ length stores = omega (arith, n1, n2) in n3) in
    let l = g.Y.Yard.seen c.look_at_stores-looked.new.yard in
    let p2 = printing c.look_at_stores-looked.new.printer.failed (g.S.Sink.taken c.look_at_stores-looked.new.out) (g.S.Sink.faults c.look_at_stores-looked.new.out) in
    let tells = (let t : l.tells ≡ a.tells = c.look_at_stores-looked.ensures.stays.tells ∙ c.recover_journals.ensures.leaves.tells in t) in
    let same_disks = (let t : l.disks ≡ a.disks = c.look_at_stores-looked.ensures.disks ∙ c.in-Ok.ensures.same in t) in
    let have = (let h : HaveRecovered plan before found m p1 = record { disks = disks; each = each; says = subst (λ (s : List StorePlan). Says p0 p1 (journals_text s found)) all c.in-Ok.ensures.recovers.1; leaves = c.recover_journals.ensures.leaves; out = subst (λ (s : List StorePlan). m.out ≡ out_besides a.out s) all c.in-Ok.ensures.taken; same = c.in-Ok.ensures.same; faults = c.in-Ok.ensures.yard_quiet (λ e. cc) (λ e. cc) } in h) in
    let e = g.Y.Yard.seen c.give_back.new.yard in
    let after = stage [] e (g.C.Clock.seen c.args.clock.now) 0 p2 in
    let result = c.in-Err-looked.status in
    let said = along (λ (s : List StorePlan) (f : List Recovered). (text : List ℕ) × Says p1 p2 text × StoresEnd m l s f text result) all same_found c.in-Err-looked.ensures.said in
    let stay = subst (λ (s : List StorePlan). StoresStay s m.contents l.contents) all c.look_at_stores-looked.ensures.contents in
    let keeps = c.give_back.ensures.same (λ told. subst (λ (k : Kept DiskSeen). AreStillKept k stores disks) (sym same_disks) (recovered_kept a stores disks found each0 (told_before a l tells told))) in
    resumed_stopped ps book plan before after result found m p1 have l said c.in-Err-looked.ensures.stops stay c.look_at_stores-looked.ensures.stays c.give_back.ensures.leaves (λ path. keeps path ∙ ap (λ (k : Kept DiskSeen). kept_at k path) same_disks) refl

pub returns-in-Ok-looked-clause-silent : goal.returns-in-Ok-looked-clause-silent
returns-in-Ok-looked-clause-silent g c shut =
    let plan = c.args.plan.now in
    let stores = c.as_slice-stores.result.now in
    let a = g.Y.Yard.seen c.args.yard.now in
    let m = g.Y.Yard.seen c.recover_journals.new.yard in
    let some : 0 < length stores = subst (λ (l : List StorePlan). 0 < length l) (sym c.as_slice-stores.ensures) (some_store plan c.requires) in
    absurd (some_taken a.out m.out stores some c.in-Ok.ensures.taken (ap (λ (y : YardSeen). y.out) (c.recover_journals.ensures.silent shut)))

pub returns-clause-silent : goal.returns-clause-silent
returns-clause-silent g c shut =
    let plan = c.args.plan.now in
    let stores = c.as_slice-stores.result.now in
    let a = g.Y.Yard.seen c.args.yard.now in
    let m = g.Y.Yard.seen c.recover_journals.new.yard in
    let some : 0 < length stores = subst (λ (l : List StorePlan). 0 < length l) (sym c.as_slice-stores.ensures) (some_store plan c.requires) in
    absurd (some_taken a.out m.out stores some c.in-Ok.ensures.taken (ap (λ (y : YardSeen). y.out) (c.recover_journals.ensures.silent shut)))
