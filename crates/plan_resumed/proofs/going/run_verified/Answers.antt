use Rattle.std.proofs.Common.{◌≡◌, ◌∙◌, refl, sym, ap, subst, arith, IsTrue, ℕ, List, [], length, map, take, vec_items}
use Rattle.std.proofs.lemmas.List.{length-map}
use Rattle.vd_disk.specs.Disk.{DiskSeen}
use Rattle.vd_yard.specs.Kept.{Kept, kept_at}
use Rattle.vd_yard.specs.Yard.{YardSeen}
use Rattle.plan_types.specs.declared.store.StorePlan.{StorePlan}
use Rattle.key_state.specs.declared.seen.BookSeen.{BookSeen}
use Rattle.slave_worker.specs.Hands.{HandSeen, hand_seen}
use Rattle.run_report.specs.Says.{printing}
use Rattle.run_report.specs.declared.status.Status.TheVariants as status
use Rattle.journal_core.specs.Book.{seen_of}
use Rattle.plan_hands.specs.Openings.{passes_out}
use Rattle.plan_hands.specs.Stores.{AreStores}
use Rattle.plan_journals.specs.Growth.{ChangesOnlyJournals, IsNoneOf}
use Rattle.plan_journals.specs.Open.{AreFrom, AreOpenedNow, Start, held_of, journals_are_out, out_besides}
use Rattle.plan_reopened.specs.Kept.{AreStillKept}
use Rattle.plan_reopened.specs.Reopening.{AllReopened, ReopeningEnds, StandReopened, items_of, next_starts}
use Rattle.plan_runs.specs.Stages.{stage}
use Rattle.plan_journaled.specs.Over.{books_of}
use Rattle.plan_verified.specs.Stores.{StoreSeen, settled_of, store_seen}
use Rattle.plan_verified.specs.Back.{StoresBack}
use Rattle.plan_journaled.specs.Over.{RunsClosed}
use Rattle.plan_resumed.specs.Going.{ClosedUnused, LeavesYard}
use Rattle.plan_resumed.specs.Seating.{emptied, with_passes}
use Rattle.plan_resumed.proofs.Ending.{after_refuses, ends_journal, memory_stays, refused_same, refuses}
use Rattle.plan_resumed.proofs.Parts.{all_opened_on, along, arms_over, back_along, back_emptied, closed_unused, held_books, plan_apart, told_after, told_before, unused_grown, went_not, went_ran, went_stopped, went_unseated}
use Rattle.plan_resumed.proofs.Outs.{disks_out, hands_out, journals_out, left_out, open_out}
use Rattle.plan_resumed.proofs.Seats.{long_same, long_seated, seated_books, seated_emptied}
use Rattle.plan_resumed.proofs.Starts.{are_seated, long_starts, passed_long}
use Rattle.plan_resumed.proofs.going.run_verified.Goals as goal

pub give_back-requires-clause-one_each : goal.give_back-requires-clause-one_each
give_back-requires-clause-one_each g c κs within =
    let plan = c.args.plan.now in
    let stores = c.as_slice-stores.result.now in
    let all = c.as_slice-stores.ensures in
    let book = seen_of {D = g.row.Y-Disk.Denot} {G = g.Y.Disk.Disk} in
    let ps = g.Y.Arm.Pass.Pass.seen in
    let seen = store_seen ps in
    let left = map seen c.args.verified.items in
    let now = map seen c.take_settled.new.verified.items in
    let settled = map settled_of left in
    let starts = next_starts plan.stores c.args.found.now settled in
    let a = g.Y.Yard.seen c.args.yard.now in
    let long = passed_long plan.stores left c.requires.passed in
    let longv = (let same : length left ≡ length c.args.verified.items = length-map c.args.verified.items seen in same) in
    let many = ap length all in
    let kept = ap vec_items c.in_default.ensures.refused in
    omega (arith, ap length kept, long, longv, many)

pub give_back-requires-in_default-clause-out : goal.give_back-requires-in_default-clause-out
give_back-requires-in_default-clause-out g c κs within =
    let plan = c.args.plan.now in
    let stores = c.as_slice-stores.result.now in
    let all = c.as_slice-stores.ensures in
    let book = seen_of {D = g.row.Y-Disk.Denot} {G = g.Y.Disk.Disk} in
    let ps = g.Y.Arm.Pass.Pass.seen in
    let seen = store_seen ps in
    let left = map seen c.args.verified.items in
    let now = map seen c.take_settled.new.verified.items in
    let settled = map settled_of left in
    let starts = next_starts plan.stores c.args.found.now settled in
    let a = g.Y.Yard.seen c.args.yard.now in
    let long = passed_long plan.stores left c.requires.passed in
    let longv = (let same : length left ≡ length c.args.verified.items = length-map c.args.verified.items seen in same) in
    let many = ap length all in
    let kept = ap vec_items c.in_default.ensures.refused in
    let same_seen : now ≡ left = ap (map seen) kept in
    let d = g.Y.Yard.seen c.give_back.new.yard in
    let back = c.give_back.ensures.back in
    let back_left = subst (λ (s : List StoreSeen). StoresBack stores s a d) same_seen back in
    let n : length c.args.disks.items ≡ length stores = omega (arith, c.requires.as_many.0, many) in
    journals_are_out c.requires.out.0 (disks_out plan stores all c.requires.out.0 a c.requires.out.1 left d (length c.args.disks.items) back_left n)

pub returns-in_default-clause-went : goal.returns-in_default-clause-went
returns-in_default-clause-went g c =
    let plan = c.args.plan.now in
    let stores = c.as_slice-stores.result.now in
    let all = c.as_slice-stores.ensures in
    let book = seen_of {D = g.row.Y-Disk.Denot} {G = g.Y.Disk.Disk} in
    let ps = g.Y.Arm.Pass.Pass.seen in
    let seen = store_seen ps in
    let left = map seen c.args.verified.items in
    let now = map seen c.take_settled.new.verified.items in
    let settled = map settled_of left in
    let starts = next_starts plan.stores c.args.found.now settled in
    let a = g.Y.Yard.seen c.args.yard.now in
    let long = passed_long plan.stores left c.requires.passed in
    let longv = (let same : length left ≡ length c.args.verified.items = length-map c.args.verified.items seen in same) in
    let many = ap length all in
    let p = printing c.args.printer.now.failed (g.S.Sink.taken c.args.out.now) (g.S.Sink.faults c.args.out.now) in
    let before = stage [] a (g.C.Clock.seen c.args.clock.now) 0 p in
    let kept = ap vec_items c.in_default.ensures.refused in
    let same_seen : now ≡ left = ap (map seen) kept in
    let d = g.Y.Yard.seen c.give_back.new.yard in
    let back = c.give_back.ensures.back in
    let back_left = subst (λ (s : List StoreSeen). StoresBack stores s a d) same_seen back in
    let e = g.Y.Yard.seen c.give_back-in_default.new.yard in
    let after = stage [] e (g.C.Clock.seen c.args.clock.now) 0 p in
    let disks = c.give_back-in_default.ensures.same (λ told. along (λ (k : Kept DiskSeen) (l : List StorePlan). AreStillKept k l (map g.Y.Disk.Disk.seen c.args.disks.items)) (sym back.disks) (sym all) (c.requires.kept (told_before a d back.tells told))) in
    went_not ps book plan (map g.Y.Disk.Disk.seen c.args.disks.items) starts left before after status.NoMemory (record { back = d; passes = back_along plan stores left now a d all same_seen back; rest = c.give_back-in_default.ensures.leaves; faults = c.give_back-in_default.ensures.faults; disks = disks; printing = refl }) refl refl

pub returns-in_default-clause-back : goal.returns-in_default-clause-back
returns-in_default-clause-back g c first is =
    let plan = c.args.plan.now in
    let stores = c.as_slice-stores.result.now in
    let all = c.as_slice-stores.ensures in
    let book = seen_of {D = g.row.Y-Disk.Denot} {G = g.Y.Disk.Disk} in
    let ps = g.Y.Arm.Pass.Pass.seen in
    let seen = store_seen ps in
    let left = map seen c.args.verified.items in
    let now = map seen c.take_settled.new.verified.items in
    let settled = map settled_of left in
    let starts = next_starts plan.stores c.args.found.now settled in
    let a = g.Y.Yard.seen c.args.yard.now in
    let long = passed_long plan.stores left c.requires.passed in
    let longv = (let same : length left ≡ length c.args.verified.items = length-map c.args.verified.items seen in same) in
    let many = ap length all in
    let kept = ap vec_items c.in_default.ensures.refused in
    let same_seen : now ≡ left = ap (map seen) kept in
    let d = g.Y.Yard.seen c.give_back.new.yard in
    let back = c.give_back.ensures.back in
    let back_left = subst (λ (s : List StoreSeen). StoresBack stores s a d) same_seen back in
    let n : length c.args.disks.items ≡ length stores = omega (arith, c.requires.as_many.0, many) in
    c.give_back-in_default.ensures.back first (disks_out plan stores all first a is left d (length c.args.disks.items) back_left n)

pub reopen_journals-opened-requires-clause-as_many : goal.reopen_journals-opened-requires-clause-as_many
reopen_journals-opened-requires-clause-as_many g c κs within =
    let plan = c.args.plan.now in
    let stores = c.as_slice-stores.result.now in
    let all = c.as_slice-stores.ensures in
    let book = seen_of {D = g.row.Y-Disk.Denot} {G = g.Y.Disk.Disk} in
    let ps = g.Y.Arm.Pass.Pass.seen in
    let seen = store_seen ps in
    let left = map seen c.args.verified.items in
    let now = map seen c.take_settled.new.verified.items in
    let settled = map settled_of left in
    let starts = next_starts plan.stores c.args.found.now settled in
    let a = g.Y.Yard.seen c.args.yard.now in
    let long = passed_long plan.stores left c.requires.passed in
    let longv = (let same : length left ≡ length c.args.verified.items = length-map c.args.verified.items seen in same) in
    let many = ap length all in
    let long_settled = (let n1 : length (map items_of c.in-Ok.settled.items) ≡ length c.in-Ok.settled.items = length-map c.in-Ok.settled.items items_of in let n2 : length settled ≡ length left = length-map left settled_of in let n3 : length (map items_of c.in-Ok.settled.items) ≡ length settled = ap length c.in-Ok.ensures.settled in let n : length c.in-Ok.settled.items ≡ length left = omega (arith, n1, n2, n3) in n) in
    (omega (arith, c.requires.as_many.0, many), omega (arith, c.requires.as_many.1, many), omega (arith, long_settled, long, many))

pub reopen_journals-opened-requires-clause-apart : goal.reopen_journals-opened-requires-clause-apart
reopen_journals-opened-requires-clause-apart g c κs within =
    let plan = c.args.plan.now in
    let stores = c.as_slice-stores.result.now in
    let all = c.as_slice-stores.ensures in
    let book = seen_of {D = g.row.Y-Disk.Denot} {G = g.Y.Disk.Disk} in
    let ps = g.Y.Arm.Pass.Pass.seen in
    let seen = store_seen ps in
    let left = map seen c.args.verified.items in
    let now = map seen c.take_settled.new.verified.items in
    let settled = map settled_of left in
    let starts = next_starts plan.stores c.args.found.now settled in
    let a = g.Y.Yard.seen c.args.yard.now in
    let long = passed_long plan.stores left c.requires.passed in
    let longv = (let same : length left ≡ length c.args.verified.items = length-map c.args.verified.items seen in same) in
    let many = ap length all in
    plan_apart plan stores c.requires.plan all

pub reopen_journals-opened-requires-clause-out : goal.reopen_journals-opened-requires-clause-out
reopen_journals-opened-requires-clause-out g c κs within =
    let plan = c.args.plan.now in
    let stores = c.as_slice-stores.result.now in
    let all = c.as_slice-stores.ensures in
    let book = seen_of {D = g.row.Y-Disk.Denot} {G = g.Y.Disk.Disk} in
    let ps = g.Y.Arm.Pass.Pass.seen in
    let seen = store_seen ps in
    let left = map seen c.args.verified.items in
    let now = map seen c.take_settled.new.verified.items in
    let settled = map settled_of left in
    let starts = next_starts plan.stores c.args.found.now settled in
    let a = g.Y.Yard.seen c.args.yard.now in
    let long = passed_long plan.stores left c.requires.passed in
    let longv = (let same : length left ≡ length c.args.verified.items = length-map c.args.verified.items seen in same) in
    let many = ap length all in
    journals_out plan stores all c.requires.out.0 a c.requires.out.1

pub give_back-requires-in-Err-clause-one_each : goal.give_back-requires-in-Err-clause-one_each
give_back-requires-in-Err-clause-one_each g c κs within =
    let plan = c.args.plan.now in
    let stores = c.as_slice-stores.result.now in
    let all = c.as_slice-stores.ensures in
    let book = seen_of {D = g.row.Y-Disk.Denot} {G = g.Y.Disk.Disk} in
    let ps = g.Y.Arm.Pass.Pass.seen in
    let seen = store_seen ps in
    let left = map seen c.args.verified.items in
    let now = map seen c.take_settled.new.verified.items in
    let settled = map settled_of left in
    let starts = next_starts plan.stores c.args.found.now settled in
    let a = g.Y.Yard.seen c.args.yard.now in
    let long = passed_long plan.stores left c.requires.passed in
    let longv = (let same : length left ≡ length c.args.verified.items = length-map c.args.verified.items seen in same) in
    let many = ap length all in
    let vs = long_same seen emptied c.args.verified.items c.take_settled.new.verified.items c.in-Ok.ensures.left in
    omega (arith, vs, long, longv, many)

pub give_back-requires-in-Err-clause-out : goal.give_back-requires-in-Err-clause-out
give_back-requires-in-Err-clause-out g c κs within =
    let plan = c.args.plan.now in
    let stores = c.as_slice-stores.result.now in
    let all = c.as_slice-stores.ensures in
    let book = seen_of {D = g.row.Y-Disk.Denot} {G = g.Y.Disk.Disk} in
    let ps = g.Y.Arm.Pass.Pass.seen in
    let seen = store_seen ps in
    let left = map seen c.args.verified.items in
    let now = map seen c.take_settled.new.verified.items in
    let settled = map settled_of left in
    let starts = next_starts plan.stores c.args.found.now settled in
    let a = g.Y.Yard.seen c.args.yard.now in
    let long = passed_long plan.stores left c.requires.passed in
    let longv = (let same : length left ≡ length c.args.verified.items = length-map c.args.verified.items seen in same) in
    let many = ap length all in
    let none = (let nil : length c.new-books.result.items ≡ 0 = ap length c.new-books.ensures.items in nil) in
    let empty = ap (map book) c.new-books.ensures.items in
    let books = map book c.reopen_journals-opened.new.books.items in
    let size = length c.reopen_journals-opened.new.books.items in
    let long_settled = (let n1 : length (map items_of c.in-Ok.settled.items) ≡ length c.in-Ok.settled.items = length-map c.in-Ok.settled.items items_of in let n2 : length settled ≡ length left = length-map left settled_of in let n3 : length (map items_of c.in-Ok.settled.items) ≡ length settled = ap length c.in-Ok.ensures.settled in let n : length c.in-Ok.settled.items ≡ length left = omega (arith, n1, n2, n3) in n) in
    let b = g.Y.Yard.seen c.reopen_journals-opened.new.yard in
    let same = (let s1 : next_starts stores c.args.found.now (map items_of c.in-Ok.settled.items) ≡ starts = ap (λ (l : List StorePlan). next_starts l c.args.found.now (map items_of c.in-Ok.settled.items)) all ∙ ap (next_starts plan.stores c.args.found.now) c.in-Ok.ensures.settled in s1) in
    let p = printing c.args.printer.now.failed (g.S.Sink.taken c.args.out.now) (g.S.Sink.faults c.args.out.now) in
    let before = stage [] a (g.C.Clock.seen c.args.clock.now) 0 p in
    let said = printing c.reopen_journals-opened.new.printer.failed (g.S.Sink.taken c.reopen_journals-opened.new.out) (g.S.Sink.faults c.reopen_journals-opened.new.out) in
    let stands = along (λ (l : List StorePlan) (s : List Start). StandReopened a b l s size books) all same (c.reopen_journals-opened.ensures.stands none) in
    let grown = subst (λ (s : List Start). ChangesOnlyJournals s a.disks b.disks) same c.reopen_journals-opened.ensures.grows in
    let stands0 = subst (λ (s : List Start). StandReopened a b stores s size books) same (c.reopen_journals-opened.ensures.stands none) in
    let first = c.requires.out.0 in
    (out_besides first (take size stores), open_out plan stores all first a c.requires.out.1 b starts size books stands0)

pub close_journals-closing-requires-clause-out : goal.close_journals-closing-requires-clause-out
close_journals-closing-requires-clause-out g c κs within =
    let plan = c.args.plan.now in
    let stores = c.as_slice-stores.result.now in
    let all = c.as_slice-stores.ensures in
    let book = seen_of {D = g.row.Y-Disk.Denot} {G = g.Y.Disk.Disk} in
    let ps = g.Y.Arm.Pass.Pass.seen in
    let seen = store_seen ps in
    let left = map seen c.args.verified.items in
    let now = map seen c.take_settled.new.verified.items in
    let settled = map settled_of left in
    let starts = next_starts plan.stores c.args.found.now settled in
    let a = g.Y.Yard.seen c.args.yard.now in
    let long = passed_long plan.stores left c.requires.passed in
    let longv = (let same : length left ≡ length c.args.verified.items = length-map c.args.verified.items seen in same) in
    let many = ap length all in
    let none = (let nil : length c.new-books.result.items ≡ 0 = ap length c.new-books.ensures.items in nil) in
    let empty = ap (map book) c.new-books.ensures.items in
    let books = map book c.reopen_journals-opened.new.books.items in
    let size = length c.reopen_journals-opened.new.books.items in
    let long_settled = (let n1 : length (map items_of c.in-Ok.settled.items) ≡ length c.in-Ok.settled.items = length-map c.in-Ok.settled.items items_of in let n2 : length settled ≡ length left = length-map left settled_of in let n3 : length (map items_of c.in-Ok.settled.items) ≡ length settled = ap length c.in-Ok.ensures.settled in let n : length c.in-Ok.settled.items ≡ length left = omega (arith, n1, n2, n3) in n) in
    let b = g.Y.Yard.seen c.reopen_journals-opened.new.yard in
    let same = (let s1 : next_starts stores c.args.found.now (map items_of c.in-Ok.settled.items) ≡ starts = ap (λ (l : List StorePlan). next_starts l c.args.found.now (map items_of c.in-Ok.settled.items)) all ∙ ap (next_starts plan.stores c.args.found.now) c.in-Ok.ensures.settled in s1) in
    let p = printing c.args.printer.now.failed (g.S.Sink.taken c.args.out.now) (g.S.Sink.faults c.args.out.now) in
    let before = stage [] a (g.C.Clock.seen c.args.clock.now) 0 p in
    let said = printing c.reopen_journals-opened.new.printer.failed (g.S.Sink.taken c.reopen_journals-opened.new.out) (g.S.Sink.faults c.reopen_journals-opened.new.out) in
    let stands = along (λ (l : List StorePlan) (s : List Start). StandReopened a b l s size books) all same (c.reopen_journals-opened.ensures.stands none) in
    let grown = subst (λ (s : List Start). ChangesOnlyJournals s a.disks b.disks) same c.reopen_journals-opened.ensures.grows in
    let stands0 = subst (λ (s : List Start). StandReopened a b stores s size books) same (c.reopen_journals-opened.ensures.stands none) in
    let d = g.Y.Yard.seen c.give_back-in-Err.new.yard in
    let back = c.give_back-in-Err.ensures.back in
    let first = c.requires.out.0 in
    journals_are_out first (left_out plan stores all first a c.requires.out.1 b starts size books stands0 now d back)

pub returns-in-Err-clause-back : goal.returns-in-Err-clause-back
returns-in-Err-clause-back g c first is =
    let plan = c.args.plan.now in
    let stores = c.as_slice-stores.result.now in
    let all = c.as_slice-stores.ensures in
    let book = seen_of {D = g.row.Y-Disk.Denot} {G = g.Y.Disk.Disk} in
    let ps = g.Y.Arm.Pass.Pass.seen in
    let seen = store_seen ps in
    let left = map seen c.args.verified.items in
    let now = map seen c.take_settled.new.verified.items in
    let settled = map settled_of left in
    let starts = next_starts plan.stores c.args.found.now settled in
    let a = g.Y.Yard.seen c.args.yard.now in
    let long = passed_long plan.stores left c.requires.passed in
    let longv = (let same : length left ≡ length c.args.verified.items = length-map c.args.verified.items seen in same) in
    let many = ap length all in
    let none = (let nil : length c.new-books.result.items ≡ 0 = ap length c.new-books.ensures.items in nil) in
    let empty = ap (map book) c.new-books.ensures.items in
    let books = map book c.reopen_journals-opened.new.books.items in
    let size = length c.reopen_journals-opened.new.books.items in
    let long_settled = (let n1 : length (map items_of c.in-Ok.settled.items) ≡ length c.in-Ok.settled.items = length-map c.in-Ok.settled.items items_of in let n2 : length settled ≡ length left = length-map left settled_of in let n3 : length (map items_of c.in-Ok.settled.items) ≡ length settled = ap length c.in-Ok.ensures.settled in let n : length c.in-Ok.settled.items ≡ length left = omega (arith, n1, n2, n3) in n) in
    let b = g.Y.Yard.seen c.reopen_journals-opened.new.yard in
    let same = (let s1 : next_starts stores c.args.found.now (map items_of c.in-Ok.settled.items) ≡ starts = ap (λ (l : List StorePlan). next_starts l c.args.found.now (map items_of c.in-Ok.settled.items)) all ∙ ap (next_starts plan.stores c.args.found.now) c.in-Ok.ensures.settled in s1) in
    let p = printing c.args.printer.now.failed (g.S.Sink.taken c.args.out.now) (g.S.Sink.faults c.args.out.now) in
    let before = stage [] a (g.C.Clock.seen c.args.clock.now) 0 p in
    let said = printing c.reopen_journals-opened.new.printer.failed (g.S.Sink.taken c.reopen_journals-opened.new.out) (g.S.Sink.faults c.reopen_journals-opened.new.out) in
    let stands = along (λ (l : List StorePlan) (s : List Start). StandReopened a b l s size books) all same (c.reopen_journals-opened.ensures.stands none) in
    let grown = subst (λ (s : List Start). ChangesOnlyJournals s a.disks b.disks) same c.reopen_journals-opened.ensures.grows in
    let stands0 = subst (λ (s : List Start). StandReopened a b stores s size books) same (c.reopen_journals-opened.ensures.stands none) in
    let d = g.Y.Yard.seen c.give_back-in-Err.new.yard in
    let back = c.give_back-in-Err.ensures.back in
    c.close_journals-closing.ensures.back first (left_out plan stores all first a is b starts size books stands0 now d back)

pub returns-in-Err-clause-went : goal.returns-in-Err-clause-went
returns-in-Err-clause-went g c =
    let plan = c.args.plan.now in
    let stores = c.as_slice-stores.result.now in
    let all = c.as_slice-stores.ensures in
    let book = seen_of {D = g.row.Y-Disk.Denot} {G = g.Y.Disk.Disk} in
    let ps = g.Y.Arm.Pass.Pass.seen in
    let seen = store_seen ps in
    let left = map seen c.args.verified.items in
    let now = map seen c.take_settled.new.verified.items in
    let settled = map settled_of left in
    let starts = next_starts plan.stores c.args.found.now settled in
    let a = g.Y.Yard.seen c.args.yard.now in
    let long = passed_long plan.stores left c.requires.passed in
    let longv = (let same : length left ≡ length c.args.verified.items = length-map c.args.verified.items seen in same) in
    let many = ap length all in
    let none = (let nil : length c.new-books.result.items ≡ 0 = ap length c.new-books.ensures.items in nil) in
    let empty = ap (map book) c.new-books.ensures.items in
    let books = map book c.reopen_journals-opened.new.books.items in
    let size = length c.reopen_journals-opened.new.books.items in
    let long_settled = (let n1 : length (map items_of c.in-Ok.settled.items) ≡ length c.in-Ok.settled.items = length-map c.in-Ok.settled.items items_of in let n2 : length settled ≡ length left = length-map left settled_of in let n3 : length (map items_of c.in-Ok.settled.items) ≡ length settled = ap length c.in-Ok.ensures.settled in let n : length c.in-Ok.settled.items ≡ length left = omega (arith, n1, n2, n3) in n) in
    let b = g.Y.Yard.seen c.reopen_journals-opened.new.yard in
    let same = (let s1 : next_starts stores c.args.found.now (map items_of c.in-Ok.settled.items) ≡ starts = ap (λ (l : List StorePlan). next_starts l c.args.found.now (map items_of c.in-Ok.settled.items)) all ∙ ap (next_starts plan.stores c.args.found.now) c.in-Ok.ensures.settled in s1) in
    let p = printing c.args.printer.now.failed (g.S.Sink.taken c.args.out.now) (g.S.Sink.faults c.args.out.now) in
    let before = stage [] a (g.C.Clock.seen c.args.clock.now) 0 p in
    let said = printing c.reopen_journals-opened.new.printer.failed (g.S.Sink.taken c.reopen_journals-opened.new.out) (g.S.Sink.faults c.reopen_journals-opened.new.out) in
    let stands = along (λ (l : List StorePlan) (s : List Start). StandReopened a b l s size books) all same (c.reopen_journals-opened.ensures.stands none) in
    let grown = subst (λ (s : List Start). ChangesOnlyJournals s a.disks b.disks) same c.reopen_journals-opened.ensures.grows in
    let stands0 = subst (λ (s : List Start). StandReopened a b stores s size books) same (c.reopen_journals-opened.ensures.stands none) in
    let d = g.Y.Yard.seen c.give_back-in-Err.new.yard in
    let back = c.give_back-in-Err.ensures.back in
    let why = c.in-Err.why in
    let ends = along (λ (l : List StorePlan) (s : List Start). ReopeningEnds a b l s [] books p said why) all same (subst (λ (w : List BookSeen). ReopeningEnds a b stores (next_starts stores c.args.found.now (map items_of c.in-Ok.settled.items)) w books p said why) empty c.in-Err.ensures.stops) in
    let e = g.Y.Yard.seen c.close_journals-closing.new.yard in
    let after = stage [] e (g.C.Clock.seen c.args.clock.now) 0 (printing c.close_journals-closing.new.printer.failed (g.S.Sink.taken c.close_journals-closing.new.out) (g.S.Sink.faults c.close_journals-closing.new.out)) in
    let closing = c.close_journals-closing.result in
    let answers = c.close_journals-closing.ensures.answers in
    let result = c.after_refusal.result in
    let is = c.after_refusal.ensures.status in
    let passes = back_emptied plan stores left now b d all c.in-Ok.ensures.left back in
    let unused = closed_unused plan stores left books b d said after (map held_of c.reopen_journals-opened.new.books.items) closing all passes (held_books c.reopen_journals-opened.new.books.items) c.close_journals-closing.ensures.ends answers c.close_journals-closing.ensures.leaves c.close_journals-closing.ensures.faults in
    let has = ap refuses is ∙ after_refuses a b plan.stores c.args.found.now settled books p said why ends closing answers in
    let changes = unused_grown plan stores starts a b d e books all c.reopen_journals-opened.ensures.leaves.tells back.tells back.disks stands.from grown c.close_journals-closing.ensures.grows in
    let others : (path : List ℕ) → IsNoneOf path (take size plan.stores) → kept_at e.disks path ≡ kept_at b.disks path = λ path other. subst (λ (l : List StorePlan). (q : List ℕ) → IsNoneOf q (take size l) → kept_at e.disks q ≡ kept_at d.disks q) all c.close_journals-closing.ensures.others path other ∙ ap (λ (k : Kept DiskSeen). kept_at k path) back.disks in
    went_stopped ps book plan (map g.Y.Disk.Disk.seen c.args.disks.items) starts left before after result books b said why ends (all_opened_on _ _ _ empty c.reopen_journals-opened.ensures.their_disks) c.reopen_journals-opened.ensures.leaves c.reopen_journals-opened.ensures.faults unused refl is has changes
    (λ so told. ends_journal a b plan.stores c.args.found.now settled books p said why ends e size (sym (length-map c.reopen_journals-opened.new.books.items book)) (refused_same status.Journal why closing result (λ no. cc) answers is so) told (plan_apart plan plan.stores c.requires.plan refl) others)

pub open_hands_of-requires-clause-as_many : goal.open_hands_of-requires-clause-as_many
open_hands_of-requires-clause-as_many g c κs within =
    let plan = c.args.plan.now in
    let stores = c.as_slice-stores.result.now in
    let all = c.as_slice-stores.ensures in
    let book = seen_of {D = g.row.Y-Disk.Denot} {G = g.Y.Disk.Disk} in
    let ps = g.Y.Arm.Pass.Pass.seen in
    let seen = store_seen ps in
    let left = map seen c.args.verified.items in
    let now = map seen c.take_settled.new.verified.items in
    let settled = map settled_of left in
    let starts = next_starts plan.stores c.args.found.now settled in
    let a = g.Y.Yard.seen c.args.yard.now in
    let long = passed_long plan.stores left c.requires.passed in
    let longv = (let same : length left ≡ length c.args.verified.items = length-map c.args.verified.items seen in same) in
    let many = ap length all in
    let none = (let nil : length c.new-books.result.items ≡ 0 = ap length c.new-books.ensures.items in nil) in
    let empty = ap (map book) c.new-books.ensures.items in
    let books = map book c.reopen_journals-opened.new.books.items in
    let size = length c.reopen_journals-opened.new.books.items in
    let long_settled = (let n1 : length (map items_of c.in-Ok.settled.items) ≡ length c.in-Ok.settled.items = length-map c.in-Ok.settled.items items_of in let n2 : length settled ≡ length left = length-map left settled_of in let n3 : length (map items_of c.in-Ok.settled.items) ≡ length settled = ap length c.in-Ok.ensures.settled in let n : length c.in-Ok.settled.items ≡ length left = omega (arith, n1, n2, n3) in n) in
    let b = g.Y.Yard.seen c.reopen_journals-opened.new.yard in
    let same = (let s1 : next_starts stores c.args.found.now (map items_of c.in-Ok.settled.items) ≡ starts = ap (λ (l : List StorePlan). next_starts l c.args.found.now (map items_of c.in-Ok.settled.items)) all ∙ ap (next_starts plan.stores c.args.found.now) c.in-Ok.ensures.settled in s1) in
    let p = printing c.args.printer.now.failed (g.S.Sink.taken c.args.out.now) (g.S.Sink.faults c.args.out.now) in
    let before = stage [] a (g.C.Clock.seen c.args.clock.now) 0 p in
    let said = printing c.reopen_journals-opened.new.printer.failed (g.S.Sink.taken c.reopen_journals-opened.new.out) (g.S.Sink.faults c.reopen_journals-opened.new.out) in
    let stands = along (λ (l : List StorePlan) (s : List Start). StandReopened a b l s size books) all same (c.reopen_journals-opened.ensures.stands none) in
    let grown = subst (λ (s : List Start). ChangesOnlyJournals s a.disks b.disks) same c.reopen_journals-opened.ensures.grows in
    let opens0 = along (λ (l : List StorePlan) (s : List Start). AllReopened a b s [] books p said) all same (subst (λ (w : List BookSeen). AllReopened a b (next_starts stores c.args.found.now (map items_of c.in-Ok.settled.items)) w books p said) empty c.in_default-opened.ensures.opened) in
    let opens = subst (λ (y : YardSeen). AllReopened a y starts [] books p said) opens0.same opens0 in
    let long_set : length settled ≡ length plan.stores = length-map left settled_of ∙ long in
    let all_books : length books ≡ length plan.stores = ap length opens.books ∙ opens.one_each ∙ long_starts plan.stores c.args.found.now settled c.requires.as_many.1 long_set in
    let sized : length books ≡ size = length-map c.reopen_journals-opened.new.books.items book in
    let vs = long_same seen emptied c.args.verified.items c.take_settled.new.verified.items c.in-Ok.ensures.left in
    omega (arith, vs, long, longv, all_books, sized)

pub give_back-requires-in_default-open_hands_of-clause-one_each : goal.give_back-requires-in_default-open_hands_of-clause-one_each
give_back-requires-in_default-open_hands_of-clause-one_each g c κs within =
    let plan = c.args.plan.now in
    let stores = c.as_slice-stores.result.now in
    let all = c.as_slice-stores.ensures in
    let book = seen_of {D = g.row.Y-Disk.Denot} {G = g.Y.Disk.Disk} in
    let ps = g.Y.Arm.Pass.Pass.seen in
    let seen = store_seen ps in
    let left = map seen c.args.verified.items in
    let now = map seen c.take_settled.new.verified.items in
    let settled = map settled_of left in
    let starts = next_starts plan.stores c.args.found.now settled in
    let a = g.Y.Yard.seen c.args.yard.now in
    let long = passed_long plan.stores left c.requires.passed in
    let longv = (let same : length left ≡ length c.args.verified.items = length-map c.args.verified.items seen in same) in
    let many = ap length all in
    let kept = ap vec_items c.in_default-open_hands_of.ensures.refused.0 in
    let vkept = ap vec_items c.in_default-open_hands_of.ensures.refused.1 in
    let vs = long_same seen emptied c.args.verified.items c.take_settled.new.verified.items c.in-Ok.ensures.left in
    omega (arith, ap length vkept, vs, long, longv, many)

pub give_back-requires-in_default-open_hands_of-clause-out : goal.give_back-requires-in_default-open_hands_of-clause-out
give_back-requires-in_default-open_hands_of-clause-out g c κs within =
    let plan = c.args.plan.now in
    let stores = c.as_slice-stores.result.now in
    let all = c.as_slice-stores.ensures in
    let book = seen_of {D = g.row.Y-Disk.Denot} {G = g.Y.Disk.Disk} in
    let ps = g.Y.Arm.Pass.Pass.seen in
    let seen = store_seen ps in
    let left = map seen c.args.verified.items in
    let now = map seen c.take_settled.new.verified.items in
    let settled = map settled_of left in
    let starts = next_starts plan.stores c.args.found.now settled in
    let a = g.Y.Yard.seen c.args.yard.now in
    let long = passed_long plan.stores left c.requires.passed in
    let longv = (let same : length left ≡ length c.args.verified.items = length-map c.args.verified.items seen in same) in
    let many = ap length all in
    let none = (let nil : length c.new-books.result.items ≡ 0 = ap length c.new-books.ensures.items in nil) in
    let empty = ap (map book) c.new-books.ensures.items in
    let books = map book c.reopen_journals-opened.new.books.items in
    let size = length c.reopen_journals-opened.new.books.items in
    let long_settled = (let n1 : length (map items_of c.in-Ok.settled.items) ≡ length c.in-Ok.settled.items = length-map c.in-Ok.settled.items items_of in let n2 : length settled ≡ length left = length-map left settled_of in let n3 : length (map items_of c.in-Ok.settled.items) ≡ length settled = ap length c.in-Ok.ensures.settled in let n : length c.in-Ok.settled.items ≡ length left = omega (arith, n1, n2, n3) in n) in
    let b = g.Y.Yard.seen c.reopen_journals-opened.new.yard in
    let same = (let s1 : next_starts stores c.args.found.now (map items_of c.in-Ok.settled.items) ≡ starts = ap (λ (l : List StorePlan). next_starts l c.args.found.now (map items_of c.in-Ok.settled.items)) all ∙ ap (next_starts plan.stores c.args.found.now) c.in-Ok.ensures.settled in s1) in
    let p = printing c.args.printer.now.failed (g.S.Sink.taken c.args.out.now) (g.S.Sink.faults c.args.out.now) in
    let before = stage [] a (g.C.Clock.seen c.args.clock.now) 0 p in
    let said = printing c.reopen_journals-opened.new.printer.failed (g.S.Sink.taken c.reopen_journals-opened.new.out) (g.S.Sink.faults c.reopen_journals-opened.new.out) in
    let stands = along (λ (l : List StorePlan) (s : List Start). StandReopened a b l s size books) all same (c.reopen_journals-opened.ensures.stands none) in
    let grown = subst (λ (s : List Start). ChangesOnlyJournals s a.disks b.disks) same c.reopen_journals-opened.ensures.grows in
    let stands0 = subst (λ (s : List Start). StandReopened a b stores s size books) same (c.reopen_journals-opened.ensures.stands none) in
    let first = c.requires.out.0 in
    (out_besides first (take size stores), open_out plan stores all first a c.requires.out.1 b starts size books stands0)

pub close_journals-closing-requires-in_default-open_hands_of-clause-out : goal.close_journals-closing-requires-in_default-open_hands_of-clause-out
close_journals-closing-requires-in_default-open_hands_of-clause-out g c κs within =
    let plan = c.args.plan.now in
    let stores = c.as_slice-stores.result.now in
    let all = c.as_slice-stores.ensures in
    let book = seen_of {D = g.row.Y-Disk.Denot} {G = g.Y.Disk.Disk} in
    let ps = g.Y.Arm.Pass.Pass.seen in
    let seen = store_seen ps in
    let left = map seen c.args.verified.items in
    let now = map seen c.take_settled.new.verified.items in
    let settled = map settled_of left in
    let starts = next_starts plan.stores c.args.found.now settled in
    let a = g.Y.Yard.seen c.args.yard.now in
    let long = passed_long plan.stores left c.requires.passed in
    let longv = (let same : length left ≡ length c.args.verified.items = length-map c.args.verified.items seen in same) in
    let many = ap length all in
    let none = (let nil : length c.new-books.result.items ≡ 0 = ap length c.new-books.ensures.items in nil) in
    let empty = ap (map book) c.new-books.ensures.items in
    let books = map book c.reopen_journals-opened.new.books.items in
    let size = length c.reopen_journals-opened.new.books.items in
    let long_settled = (let n1 : length (map items_of c.in-Ok.settled.items) ≡ length c.in-Ok.settled.items = length-map c.in-Ok.settled.items items_of in let n2 : length settled ≡ length left = length-map left settled_of in let n3 : length (map items_of c.in-Ok.settled.items) ≡ length settled = ap length c.in-Ok.ensures.settled in let n : length c.in-Ok.settled.items ≡ length left = omega (arith, n1, n2, n3) in n) in
    let b = g.Y.Yard.seen c.reopen_journals-opened.new.yard in
    let same = (let s1 : next_starts stores c.args.found.now (map items_of c.in-Ok.settled.items) ≡ starts = ap (λ (l : List StorePlan). next_starts l c.args.found.now (map items_of c.in-Ok.settled.items)) all ∙ ap (next_starts plan.stores c.args.found.now) c.in-Ok.ensures.settled in s1) in
    let p = printing c.args.printer.now.failed (g.S.Sink.taken c.args.out.now) (g.S.Sink.faults c.args.out.now) in
    let before = stage [] a (g.C.Clock.seen c.args.clock.now) 0 p in
    let said = printing c.reopen_journals-opened.new.printer.failed (g.S.Sink.taken c.reopen_journals-opened.new.out) (g.S.Sink.faults c.reopen_journals-opened.new.out) in
    let stands = along (λ (l : List StorePlan) (s : List Start). StandReopened a b l s size books) all same (c.reopen_journals-opened.ensures.stands none) in
    let grown = subst (λ (s : List Start). ChangesOnlyJournals s a.disks b.disks) same c.reopen_journals-opened.ensures.grows in
    let kept = ap vec_items c.in_default-open_hands_of.ensures.refused.0 in
    let vkept = ap vec_items c.in_default-open_hands_of.ensures.refused.1 in
    let stands0 = subst (λ (s : List Start). StandReopened a b stores s size books) same (c.reopen_journals-opened.ensures.stands none) in
    let d = g.Y.Yard.seen c.give_back-in_default-open_hands_of.new.yard in
    let back = c.give_back-in_default-open_hands_of.ensures.back in
    let left3 = map seen c.open_hands_of.new.verified.items in
    let first = c.requires.out.0 in
    journals_are_out first (left_out plan stores all first a c.requires.out.1 b starts size books stands0 left3 d back ∙ ap (λ (n : ℕ). out_besides first (take n stores)) (sym (ap length kept)))

pub returns-in_default-open_hands_of-clause-back : goal.returns-in_default-open_hands_of-clause-back
returns-in_default-open_hands_of-clause-back g c first is =
    let plan = c.args.plan.now in
    let stores = c.as_slice-stores.result.now in
    let all = c.as_slice-stores.ensures in
    let book = seen_of {D = g.row.Y-Disk.Denot} {G = g.Y.Disk.Disk} in
    let ps = g.Y.Arm.Pass.Pass.seen in
    let seen = store_seen ps in
    let left = map seen c.args.verified.items in
    let now = map seen c.take_settled.new.verified.items in
    let settled = map settled_of left in
    let starts = next_starts plan.stores c.args.found.now settled in
    let a = g.Y.Yard.seen c.args.yard.now in
    let long = passed_long plan.stores left c.requires.passed in
    let longv = (let same : length left ≡ length c.args.verified.items = length-map c.args.verified.items seen in same) in
    let many = ap length all in
    let none = (let nil : length c.new-books.result.items ≡ 0 = ap length c.new-books.ensures.items in nil) in
    let empty = ap (map book) c.new-books.ensures.items in
    let books = map book c.reopen_journals-opened.new.books.items in
    let size = length c.reopen_journals-opened.new.books.items in
    let long_settled = (let n1 : length (map items_of c.in-Ok.settled.items) ≡ length c.in-Ok.settled.items = length-map c.in-Ok.settled.items items_of in let n2 : length settled ≡ length left = length-map left settled_of in let n3 : length (map items_of c.in-Ok.settled.items) ≡ length settled = ap length c.in-Ok.ensures.settled in let n : length c.in-Ok.settled.items ≡ length left = omega (arith, n1, n2, n3) in n) in
    let b = g.Y.Yard.seen c.reopen_journals-opened.new.yard in
    let same = (let s1 : next_starts stores c.args.found.now (map items_of c.in-Ok.settled.items) ≡ starts = ap (λ (l : List StorePlan). next_starts l c.args.found.now (map items_of c.in-Ok.settled.items)) all ∙ ap (next_starts plan.stores c.args.found.now) c.in-Ok.ensures.settled in s1) in
    let p = printing c.args.printer.now.failed (g.S.Sink.taken c.args.out.now) (g.S.Sink.faults c.args.out.now) in
    let before = stage [] a (g.C.Clock.seen c.args.clock.now) 0 p in
    let said = printing c.reopen_journals-opened.new.printer.failed (g.S.Sink.taken c.reopen_journals-opened.new.out) (g.S.Sink.faults c.reopen_journals-opened.new.out) in
    let stands = along (λ (l : List StorePlan) (s : List Start). StandReopened a b l s size books) all same (c.reopen_journals-opened.ensures.stands none) in
    let grown = subst (λ (s : List Start). ChangesOnlyJournals s a.disks b.disks) same c.reopen_journals-opened.ensures.grows in
    let kept = ap vec_items c.in_default-open_hands_of.ensures.refused.0 in
    let vkept = ap vec_items c.in_default-open_hands_of.ensures.refused.1 in
    let stands0 = subst (λ (s : List Start). StandReopened a b stores s size books) same (c.reopen_journals-opened.ensures.stands none) in
    let d = g.Y.Yard.seen c.give_back-in_default-open_hands_of.new.yard in
    let back = c.give_back-in_default-open_hands_of.ensures.back in
    let left3 = map seen c.open_hands_of.new.verified.items in
    c.close_journals-closing-in_default-open_hands_of.ensures.back first (left_out plan stores all first a is b starts size books stands0 left3 d back ∙ ap (λ (n : ℕ). out_besides first (take n stores)) (sym (ap length kept)))

pub returns-in_default-open_hands_of-clause-went : goal.returns-in_default-open_hands_of-clause-went
returns-in_default-open_hands_of-clause-went g c =
    let plan = c.args.plan.now in
    let stores = c.as_slice-stores.result.now in
    let all = c.as_slice-stores.ensures in
    let book = seen_of {D = g.row.Y-Disk.Denot} {G = g.Y.Disk.Disk} in
    let ps = g.Y.Arm.Pass.Pass.seen in
    let seen = store_seen ps in
    let left = map seen c.args.verified.items in
    let now = map seen c.take_settled.new.verified.items in
    let settled = map settled_of left in
    let starts = next_starts plan.stores c.args.found.now settled in
    let a = g.Y.Yard.seen c.args.yard.now in
    let long = passed_long plan.stores left c.requires.passed in
    let longv = (let same : length left ≡ length c.args.verified.items = length-map c.args.verified.items seen in same) in
    let many = ap length all in
    let none = (let nil : length c.new-books.result.items ≡ 0 = ap length c.new-books.ensures.items in nil) in
    let empty = ap (map book) c.new-books.ensures.items in
    let books = map book c.reopen_journals-opened.new.books.items in
    let size = length c.reopen_journals-opened.new.books.items in
    let long_settled = (let n1 : length (map items_of c.in-Ok.settled.items) ≡ length c.in-Ok.settled.items = length-map c.in-Ok.settled.items items_of in let n2 : length settled ≡ length left = length-map left settled_of in let n3 : length (map items_of c.in-Ok.settled.items) ≡ length settled = ap length c.in-Ok.ensures.settled in let n : length c.in-Ok.settled.items ≡ length left = omega (arith, n1, n2, n3) in n) in
    let b = g.Y.Yard.seen c.reopen_journals-opened.new.yard in
    let same = (let s1 : next_starts stores c.args.found.now (map items_of c.in-Ok.settled.items) ≡ starts = ap (λ (l : List StorePlan). next_starts l c.args.found.now (map items_of c.in-Ok.settled.items)) all ∙ ap (next_starts plan.stores c.args.found.now) c.in-Ok.ensures.settled in s1) in
    let p = printing c.args.printer.now.failed (g.S.Sink.taken c.args.out.now) (g.S.Sink.faults c.args.out.now) in
    let before = stage [] a (g.C.Clock.seen c.args.clock.now) 0 p in
    let said = printing c.reopen_journals-opened.new.printer.failed (g.S.Sink.taken c.reopen_journals-opened.new.out) (g.S.Sink.faults c.reopen_journals-opened.new.out) in
    let stands = along (λ (l : List StorePlan) (s : List Start). StandReopened a b l s size books) all same (c.reopen_journals-opened.ensures.stands none) in
    let grown = subst (λ (s : List Start). ChangesOnlyJournals s a.disks b.disks) same c.reopen_journals-opened.ensures.grows in
    let opens0 = along (λ (l : List StorePlan) (s : List Start). AllReopened a b s [] books p said) all same (subst (λ (w : List BookSeen). AllReopened a b (next_starts stores c.args.found.now (map items_of c.in-Ok.settled.items)) w books p said) empty c.in_default-opened.ensures.opened) in
    let opens = subst (λ (y : YardSeen). AllReopened a y starts [] books p said) opens0.same opens0 in
    let long_set : length settled ≡ length plan.stores = length-map left settled_of ∙ long in
    let all_books : length books ≡ length plan.stores = ap length opens.books ∙ opens.one_each ∙ long_starts plan.stores c.args.found.now settled c.requires.as_many.1 long_set in
    let sized : length books ≡ size = length-map c.reopen_journals-opened.new.books.items book in
    let vs = long_same seen emptied c.args.verified.items c.take_settled.new.verified.items c.in-Ok.ensures.left in
    let kept = ap vec_items c.in_default-open_hands_of.ensures.refused.0 in
    let vkept = ap vec_items c.in_default-open_hands_of.ensures.refused.1 in
    let stands0 = subst (λ (s : List Start). StandReopened a b stores s size books) same (c.reopen_journals-opened.ensures.stands none) in
    let d = g.Y.Yard.seen c.give_back-in_default-open_hands_of.new.yard in
    let back = c.give_back-in_default-open_hands_of.ensures.back in
    let left3 = map seen c.open_hands_of.new.verified.items in
    let e = g.Y.Yard.seen c.close_journals-closing-in_default-open_hands_of.new.yard in
    let after = stage [] e (g.C.Clock.seen c.args.clock.now) 0 (printing c.close_journals-closing-in_default-open_hands_of.new.printer.failed (g.S.Sink.taken c.close_journals-closing-in_default-open_hands_of.new.out) (g.S.Sink.faults c.close_journals-closing-in_default-open_hands_of.new.out)) in
    let closing = c.close_journals-closing-in_default-open_hands_of.result in
    let answers = c.close_journals-closing-in_default-open_hands_of.ensures.answers in
    let result = c.after_closing.result in
    let is = c.after_closing.ensures.status ∙ memory_stays closing answers in
    let passes = back_emptied plan stores left left3 b d all (ap (map seen) vkept ∙ c.in-Ok.ensures.left) back in
    let unused = closed_unused plan stores left books b d said after (map held_of c.open_hands_of.new.books.items) closing all passes (held_books c.open_hands_of.new.books.items ∙ ap (map book) kept) c.close_journals-closing-in_default-open_hands_of.ensures.ends answers c.close_journals-closing-in_default-open_hands_of.ensures.leaves c.close_journals-closing-in_default-open_hands_of.ensures.faults in
    let unused_here = subst (λ (y : YardSeen). ClosedUnused plan left books y said after) opens0.same unused in
    let changes = unused_grown plan stores starts a b d e (map book c.open_hands_of.new.books.items) all c.reopen_journals-opened.ensures.leaves.tells back.tells back.disks (λ told. subst (λ (l : List BookSeen). AreFrom a.disks plan.stores starts l) (sym (ap (map book) kept)) (stands.from told)) grown c.close_journals-closing-in_default-open_hands_of.ensures.grows in
    went_unseated ps book plan (map g.Y.Disk.Disk.seen c.args.disks.items) starts left before after result books said opens (all_opened_on _ _ _ empty c.reopen_journals-opened.ensures.their_disks) unused_here refl is changes

pub run_over-requires-clause-stores : goal.run_over-requires-clause-stores
run_over-requires-clause-stores g c κs within =
    let plan = c.args.plan.now in
    let stores = c.as_slice-stores.result.now in
    let all = c.as_slice-stores.ensures in
    let book = seen_of {D = g.row.Y-Disk.Denot} {G = g.Y.Disk.Disk} in
    let ps = g.Y.Arm.Pass.Pass.seen in
    let seen = store_seen ps in
    let left = map seen c.args.verified.items in
    let now = map seen c.take_settled.new.verified.items in
    let settled = map settled_of left in
    let starts = next_starts plan.stores c.args.found.now settled in
    let a = g.Y.Yard.seen c.args.yard.now in
    let long = passed_long plan.stores left c.requires.passed in
    let longv = (let same : length left ≡ length c.args.verified.items = length-map c.args.verified.items seen in same) in
    let many = ap length all in
    let none = (let nil : length c.new-books.result.items ≡ 0 = ap length c.new-books.ensures.items in nil) in
    let empty = ap (map book) c.new-books.ensures.items in
    let books = map book c.reopen_journals-opened.new.books.items in
    let size = length c.reopen_journals-opened.new.books.items in
    let long_settled = (let n1 : length (map items_of c.in-Ok.settled.items) ≡ length c.in-Ok.settled.items = length-map c.in-Ok.settled.items items_of in let n2 : length settled ≡ length left = length-map left settled_of in let n3 : length (map items_of c.in-Ok.settled.items) ≡ length settled = ap length c.in-Ok.ensures.settled in let n : length c.in-Ok.settled.items ≡ length left = omega (arith, n1, n2, n3) in n) in
    let b = g.Y.Yard.seen c.reopen_journals-opened.new.yard in
    let same = (let s1 : next_starts stores c.args.found.now (map items_of c.in-Ok.settled.items) ≡ starts = ap (λ (l : List StorePlan). next_starts l c.args.found.now (map items_of c.in-Ok.settled.items)) all ∙ ap (next_starts plan.stores c.args.found.now) c.in-Ok.ensures.settled in s1) in
    let p = printing c.args.printer.now.failed (g.S.Sink.taken c.args.out.now) (g.S.Sink.faults c.args.out.now) in
    let before = stage [] a (g.C.Clock.seen c.args.clock.now) 0 p in
    let said = printing c.reopen_journals-opened.new.printer.failed (g.S.Sink.taken c.reopen_journals-opened.new.out) (g.S.Sink.faults c.reopen_journals-opened.new.out) in
    let stands = along (λ (l : List StorePlan) (s : List Start). StandReopened a b l s size books) all same (c.reopen_journals-opened.ensures.stands none) in
    let grown = subst (λ (s : List Start). ChangesOnlyJournals s a.disks b.disks) same c.reopen_journals-opened.ensures.grows in
    let opens0 = along (λ (l : List StorePlan) (s : List Start). AllReopened a b s [] books p said) all same (subst (λ (w : List BookSeen). AllReopened a b (next_starts stores c.args.found.now (map items_of c.in-Ok.settled.items)) w books p said) empty c.in_default-opened.ensures.opened) in
    let opens = subst (λ (y : YardSeen). AllReopened a y starts [] books p said) opens0.same opens0 in
    let long_set : length settled ≡ length plan.stores = length-map left settled_of ∙ long in
    let all_books : length books ≡ length plan.stores = ap length opens.books ∙ opens.one_each ∙ long_starts plan.stores c.args.found.now settled c.requires.as_many.1 long_set in
    let sized : length books ≡ size = length-map c.reopen_journals-opened.new.books.items book in
    let vs = long_same seen emptied c.args.verified.items c.take_settled.new.verified.items c.in-Ok.ensures.left in
    let hseen = hand_seen ps book in
    let hands = map hseen c.in-Ok-open_hands_of.hands.items in
    let its : hands ≡ with_passes left books = c.in-Ok-open_hands_of.ensures.hands ∙ ap (λ (l : List StoreSeen). with_passes l books) c.in-Ok.ensures.left ∙ seated_emptied 0 left books in
    let as_many : length left ≡ length books = omega (arith, long, all_books) in
    subst (λ (l : List HandSeen). AreStores plan l) (sym its) (are_seated plan a (map g.Y.Disk.Disk.seen c.args.disks.items) c.args.found.now settled left books c.requires.passed c.requires.ready (subst (λ (l : List BookSeen). AreOpenedNow a starts l) (sym opens.books) opens.opened) all_books)

pub run_over-requires-clause-out : goal.run_over-requires-clause-out
run_over-requires-clause-out g c κs within =
    let plan = c.args.plan.now in
    let stores = c.as_slice-stores.result.now in
    let all = c.as_slice-stores.ensures in
    let book = seen_of {D = g.row.Y-Disk.Denot} {G = g.Y.Disk.Disk} in
    let ps = g.Y.Arm.Pass.Pass.seen in
    let seen = store_seen ps in
    let left = map seen c.args.verified.items in
    let now = map seen c.take_settled.new.verified.items in
    let settled = map settled_of left in
    let starts = next_starts plan.stores c.args.found.now settled in
    let a = g.Y.Yard.seen c.args.yard.now in
    let long = passed_long plan.stores left c.requires.passed in
    let longv = (let same : length left ≡ length c.args.verified.items = length-map c.args.verified.items seen in same) in
    let many = ap length all in
    let none = (let nil : length c.new-books.result.items ≡ 0 = ap length c.new-books.ensures.items in nil) in
    let empty = ap (map book) c.new-books.ensures.items in
    let books = map book c.reopen_journals-opened.new.books.items in
    let size = length c.reopen_journals-opened.new.books.items in
    let long_settled = (let n1 : length (map items_of c.in-Ok.settled.items) ≡ length c.in-Ok.settled.items = length-map c.in-Ok.settled.items items_of in let n2 : length settled ≡ length left = length-map left settled_of in let n3 : length (map items_of c.in-Ok.settled.items) ≡ length settled = ap length c.in-Ok.ensures.settled in let n : length c.in-Ok.settled.items ≡ length left = omega (arith, n1, n2, n3) in n) in
    let b = g.Y.Yard.seen c.reopen_journals-opened.new.yard in
    let same = (let s1 : next_starts stores c.args.found.now (map items_of c.in-Ok.settled.items) ≡ starts = ap (λ (l : List StorePlan). next_starts l c.args.found.now (map items_of c.in-Ok.settled.items)) all ∙ ap (next_starts plan.stores c.args.found.now) c.in-Ok.ensures.settled in s1) in
    let p = printing c.args.printer.now.failed (g.S.Sink.taken c.args.out.now) (g.S.Sink.faults c.args.out.now) in
    let before = stage [] a (g.C.Clock.seen c.args.clock.now) 0 p in
    let said = printing c.reopen_journals-opened.new.printer.failed (g.S.Sink.taken c.reopen_journals-opened.new.out) (g.S.Sink.faults c.reopen_journals-opened.new.out) in
    let stands = along (λ (l : List StorePlan) (s : List Start). StandReopened a b l s size books) all same (c.reopen_journals-opened.ensures.stands none) in
    let grown = subst (λ (s : List Start). ChangesOnlyJournals s a.disks b.disks) same c.reopen_journals-opened.ensures.grows in
    let opens0 = along (λ (l : List StorePlan) (s : List Start). AllReopened a b s [] books p said) all same (subst (λ (w : List BookSeen). AllReopened a b (next_starts stores c.args.found.now (map items_of c.in-Ok.settled.items)) w books p said) empty c.in_default-opened.ensures.opened) in
    let opens = subst (λ (y : YardSeen). AllReopened a y starts [] books p said) opens0.same opens0 in
    let long_set : length settled ≡ length plan.stores = length-map left settled_of ∙ long in
    let all_books : length books ≡ length plan.stores = ap length opens.books ∙ opens.one_each ∙ long_starts plan.stores c.args.found.now settled c.requires.as_many.1 long_set in
    let sized : length books ≡ size = length-map c.reopen_journals-opened.new.books.items book in
    let vs = long_same seen emptied c.args.verified.items c.take_settled.new.verified.items c.in-Ok.ensures.left in
    let hseen = hand_seen ps book in
    let hands = map hseen c.in-Ok-open_hands_of.hands.items in
    let its : hands ≡ with_passes left books = c.in-Ok-open_hands_of.ensures.hands ∙ ap (λ (l : List StoreSeen). with_passes l books) c.in-Ok.ensures.left ∙ seated_emptied 0 left books in
    let as_many : length left ≡ length books = omega (arith, long, all_books) in
    let first = c.requires.out.0 in
    (first, ap (λ (y : YardSeen). y.out) opens0.same ∙ c.requires.out.1 ∙ sym (ap (λ (l : List HandSeen). passes_out plan l (out_besides first plan.stores)) its ∙ hands_out plan c.requires.plan left books (out_besides first plan.stores) c.requires.passed as_many))

pub run_over-requires-clause-room : goal.run_over-requires-clause-room
run_over-requires-clause-room g c κs within =
    let plan = c.args.plan.now in
    let stores = c.as_slice-stores.result.now in
    let all = c.as_slice-stores.ensures in
    let book = seen_of {D = g.row.Y-Disk.Denot} {G = g.Y.Disk.Disk} in
    let ps = g.Y.Arm.Pass.Pass.seen in
    let seen = store_seen ps in
    let left = map seen c.args.verified.items in
    let now = map seen c.take_settled.new.verified.items in
    let settled = map settled_of left in
    let starts = next_starts plan.stores c.args.found.now settled in
    let a = g.Y.Yard.seen c.args.yard.now in
    let long = passed_long plan.stores left c.requires.passed in
    let longv = (let same : length left ≡ length c.args.verified.items = length-map c.args.verified.items seen in same) in
    let many = ap length all in
    let none = (let nil : length c.new-books.result.items ≡ 0 = ap length c.new-books.ensures.items in nil) in
    let empty = ap (map book) c.new-books.ensures.items in
    let books = map book c.reopen_journals-opened.new.books.items in
    let size = length c.reopen_journals-opened.new.books.items in
    let long_settled = (let n1 : length (map items_of c.in-Ok.settled.items) ≡ length c.in-Ok.settled.items = length-map c.in-Ok.settled.items items_of in let n2 : length settled ≡ length left = length-map left settled_of in let n3 : length (map items_of c.in-Ok.settled.items) ≡ length settled = ap length c.in-Ok.ensures.settled in let n : length c.in-Ok.settled.items ≡ length left = omega (arith, n1, n2, n3) in n) in
    let b = g.Y.Yard.seen c.reopen_journals-opened.new.yard in
    let same = (let s1 : next_starts stores c.args.found.now (map items_of c.in-Ok.settled.items) ≡ starts = ap (λ (l : List StorePlan). next_starts l c.args.found.now (map items_of c.in-Ok.settled.items)) all ∙ ap (next_starts plan.stores c.args.found.now) c.in-Ok.ensures.settled in s1) in
    let p = printing c.args.printer.now.failed (g.S.Sink.taken c.args.out.now) (g.S.Sink.faults c.args.out.now) in
    let before = stage [] a (g.C.Clock.seen c.args.clock.now) 0 p in
    let said = printing c.reopen_journals-opened.new.printer.failed (g.S.Sink.taken c.reopen_journals-opened.new.out) (g.S.Sink.faults c.reopen_journals-opened.new.out) in
    let stands = along (λ (l : List StorePlan) (s : List Start). StandReopened a b l s size books) all same (c.reopen_journals-opened.ensures.stands none) in
    let grown = subst (λ (s : List Start). ChangesOnlyJournals s a.disks b.disks) same c.reopen_journals-opened.ensures.grows in
    let opens0 = along (λ (l : List StorePlan) (s : List Start). AllReopened a b s [] books p said) all same (subst (λ (w : List BookSeen). AllReopened a b (next_starts stores c.args.found.now (map items_of c.in-Ok.settled.items)) w books p said) empty c.in_default-opened.ensures.opened) in
    let opens = subst (λ (y : YardSeen). AllReopened a y starts [] books p said) opens0.same opens0 in
    let long_set : length settled ≡ length plan.stores = length-map left settled_of ∙ long in
    let all_books : length books ≡ length plan.stores = ap length opens.books ∙ opens.one_each ∙ long_starts plan.stores c.args.found.now settled c.requires.as_many.1 long_set in
    let sized : length books ≡ size = length-map c.reopen_journals-opened.new.books.items book in
    let vs = long_same seen emptied c.args.verified.items c.take_settled.new.verified.items c.in-Ok.ensures.left in
    let hseen = hand_seen ps book in
    let hands = map hseen c.in-Ok-open_hands_of.hands.items in
    let its : hands ≡ with_passes left books = c.in-Ok-open_hands_of.ensures.hands ∙ ap (λ (l : List StoreSeen). with_passes l books) c.in-Ok.ensures.left ∙ seated_emptied 0 left books in
    let as_many : length left ≡ length books = omega (arith, long, all_books) in
    let hm : length hands ≡ length c.in-Ok-open_hands_of.hands.items = length-map c.in-Ok-open_hands_of.hands.items hseen in
    let hb : length hands ≡ length books = ap length its ∙ long_seated 0 left books as_many in
    omega (arith, hm, hb, sized, c.open_hands_of.ensures.room.1)

pub returns-clause-back : goal.returns-clause-back
returns-clause-back g c first is =
    let plan = c.args.plan.now in
    let stores = c.as_slice-stores.result.now in
    let all = c.as_slice-stores.ensures in
    let book = seen_of {D = g.row.Y-Disk.Denot} {G = g.Y.Disk.Disk} in
    let ps = g.Y.Arm.Pass.Pass.seen in
    let seen = store_seen ps in
    let left = map seen c.args.verified.items in
    let now = map seen c.take_settled.new.verified.items in
    let settled = map settled_of left in
    let starts = next_starts plan.stores c.args.found.now settled in
    let a = g.Y.Yard.seen c.args.yard.now in
    let long = passed_long plan.stores left c.requires.passed in
    let longv = (let same : length left ≡ length c.args.verified.items = length-map c.args.verified.items seen in same) in
    let many = ap length all in
    let none = (let nil : length c.new-books.result.items ≡ 0 = ap length c.new-books.ensures.items in nil) in
    let empty = ap (map book) c.new-books.ensures.items in
    let books = map book c.reopen_journals-opened.new.books.items in
    let size = length c.reopen_journals-opened.new.books.items in
    let long_settled = (let n1 : length (map items_of c.in-Ok.settled.items) ≡ length c.in-Ok.settled.items = length-map c.in-Ok.settled.items items_of in let n2 : length settled ≡ length left = length-map left settled_of in let n3 : length (map items_of c.in-Ok.settled.items) ≡ length settled = ap length c.in-Ok.ensures.settled in let n : length c.in-Ok.settled.items ≡ length left = omega (arith, n1, n2, n3) in n) in
    let b = g.Y.Yard.seen c.reopen_journals-opened.new.yard in
    let same = (let s1 : next_starts stores c.args.found.now (map items_of c.in-Ok.settled.items) ≡ starts = ap (λ (l : List StorePlan). next_starts l c.args.found.now (map items_of c.in-Ok.settled.items)) all ∙ ap (next_starts plan.stores c.args.found.now) c.in-Ok.ensures.settled in s1) in
    let p = printing c.args.printer.now.failed (g.S.Sink.taken c.args.out.now) (g.S.Sink.faults c.args.out.now) in
    let before = stage [] a (g.C.Clock.seen c.args.clock.now) 0 p in
    let said = printing c.reopen_journals-opened.new.printer.failed (g.S.Sink.taken c.reopen_journals-opened.new.out) (g.S.Sink.faults c.reopen_journals-opened.new.out) in
    let stands = along (λ (l : List StorePlan) (s : List Start). StandReopened a b l s size books) all same (c.reopen_journals-opened.ensures.stands none) in
    let grown = subst (λ (s : List Start). ChangesOnlyJournals s a.disks b.disks) same c.reopen_journals-opened.ensures.grows in
    let opens0 = along (λ (l : List StorePlan) (s : List Start). AllReopened a b s [] books p said) all same (subst (λ (w : List BookSeen). AllReopened a b (next_starts stores c.args.found.now (map items_of c.in-Ok.settled.items)) w books p said) empty c.in_default-opened.ensures.opened) in
    let opens = subst (λ (y : YardSeen). AllReopened a y starts [] books p said) opens0.same opens0 in
    let long_set : length settled ≡ length plan.stores = length-map left settled_of ∙ long in
    let all_books : length books ≡ length plan.stores = ap length opens.books ∙ opens.one_each ∙ long_starts plan.stores c.args.found.now settled c.requires.as_many.1 long_set in
    let sized : length books ≡ size = length-map c.reopen_journals-opened.new.books.items book in
    let vs = long_same seen emptied c.args.verified.items c.take_settled.new.verified.items c.in-Ok.ensures.left in
    let hseen = hand_seen ps book in
    let hands = map hseen c.in-Ok-open_hands_of.hands.items in
    let its : hands ≡ with_passes left books = c.in-Ok-open_hands_of.ensures.hands ∙ ap (λ (l : List StoreSeen). with_passes l books) c.in-Ok.ensures.left ∙ seated_emptied 0 left books in
    let as_many : length left ≡ length books = omega (arith, long, all_books) in
    c.run_over.ensures.back first (ap (λ (y : YardSeen). y.out) opens0.same ∙ is ∙ sym (ap (λ (l : List HandSeen). passes_out plan l (out_besides first plan.stores)) its ∙ hands_out plan c.requires.plan left books (out_besides first plan.stores) c.requires.passed as_many))

pub returns-clause-went : goal.returns-clause-went
returns-clause-went g c =
    let plan = c.args.plan.now in
    let stores = c.as_slice-stores.result.now in
    let all = c.as_slice-stores.ensures in
    let book = seen_of {D = g.row.Y-Disk.Denot} {G = g.Y.Disk.Disk} in
    let ps = g.Y.Arm.Pass.Pass.seen in
    let seen = store_seen ps in
    let left = map seen c.args.verified.items in
    let now = map seen c.take_settled.new.verified.items in
    let settled = map settled_of left in
    let starts = next_starts plan.stores c.args.found.now settled in
    let a = g.Y.Yard.seen c.args.yard.now in
    let long = passed_long plan.stores left c.requires.passed in
    let longv = (let same : length left ≡ length c.args.verified.items = length-map c.args.verified.items seen in same) in
    let many = ap length all in
    let none = (let nil : length c.new-books.result.items ≡ 0 = ap length c.new-books.ensures.items in nil) in
    let empty = ap (map book) c.new-books.ensures.items in
    let books = map book c.reopen_journals-opened.new.books.items in
    let size = length c.reopen_journals-opened.new.books.items in
    let long_settled = (let n1 : length (map items_of c.in-Ok.settled.items) ≡ length c.in-Ok.settled.items = length-map c.in-Ok.settled.items items_of in let n2 : length settled ≡ length left = length-map left settled_of in let n3 : length (map items_of c.in-Ok.settled.items) ≡ length settled = ap length c.in-Ok.ensures.settled in let n : length c.in-Ok.settled.items ≡ length left = omega (arith, n1, n2, n3) in n) in
    let b = g.Y.Yard.seen c.reopen_journals-opened.new.yard in
    let same = (let s1 : next_starts stores c.args.found.now (map items_of c.in-Ok.settled.items) ≡ starts = ap (λ (l : List StorePlan). next_starts l c.args.found.now (map items_of c.in-Ok.settled.items)) all ∙ ap (next_starts plan.stores c.args.found.now) c.in-Ok.ensures.settled in s1) in
    let p = printing c.args.printer.now.failed (g.S.Sink.taken c.args.out.now) (g.S.Sink.faults c.args.out.now) in
    let before = stage [] a (g.C.Clock.seen c.args.clock.now) 0 p in
    let said = printing c.reopen_journals-opened.new.printer.failed (g.S.Sink.taken c.reopen_journals-opened.new.out) (g.S.Sink.faults c.reopen_journals-opened.new.out) in
    let stands = along (λ (l : List StorePlan) (s : List Start). StandReopened a b l s size books) all same (c.reopen_journals-opened.ensures.stands none) in
    let grown = subst (λ (s : List Start). ChangesOnlyJournals s a.disks b.disks) same c.reopen_journals-opened.ensures.grows in
    let opens0 = along (λ (l : List StorePlan) (s : List Start). AllReopened a b s [] books p said) all same (subst (λ (w : List BookSeen). AllReopened a b (next_starts stores c.args.found.now (map items_of c.in-Ok.settled.items)) w books p said) empty c.in_default-opened.ensures.opened) in
    let opens = subst (λ (y : YardSeen). AllReopened a y starts [] books p said) opens0.same opens0 in
    let long_set : length settled ≡ length plan.stores = length-map left settled_of ∙ long in
    let all_books : length books ≡ length plan.stores = ap length opens.books ∙ opens.one_each ∙ long_starts plan.stores c.args.found.now settled c.requires.as_many.1 long_set in
    let sized : length books ≡ size = length-map c.reopen_journals-opened.new.books.items book in
    let vs = long_same seen emptied c.args.verified.items c.take_settled.new.verified.items c.in-Ok.ensures.left in
    let hseen = hand_seen ps book in
    let hands = map hseen c.in-Ok-open_hands_of.hands.items in
    let its : hands ≡ with_passes left books = c.in-Ok-open_hands_of.ensures.hands ∙ ap (λ (l : List StoreSeen). with_passes l books) c.in-Ok.ensures.left ∙ seated_emptied 0 left books in
    let as_many : length left ≡ length books = omega (arith, long, all_books) in
    let e = g.Y.Yard.seen c.run_over.new.yard in
    let after = stage [] e (g.C.Clock.seen c.run_over.new.clock) 0 (printing c.run_over.new.printer.failed (g.S.Sink.taken c.run_over.new.out) (g.S.Sink.faults c.run_over.new.out)) in
    let result = c.run_over.result in
    let over = stage hands b before.clock 0 said in
    let leaves : LeavesYard b e result = record { tells = c.run_over.ensures.tells; willing = c.run_over.ensures.willing; files = c.run_over.ensures.files; sources = c.run_over.ensures.sources; yard_fault = c.run_over.ensures.yard_fault; yard_quiet = c.run_over.ensures.yard_quiet; arms = arms_over ps book plan over after result c.run_over.ensures.ran; device_fault = c.run_over.ensures.device_fault; device_quiet = c.run_over.ensures.device_quiet; can = c.run_over.ensures.can } in
    let same_books : books_of hands ≡ books = ap books_of its ∙ seated_books 0 left books as_many in
    let from : IsTrue a.tells.keeps_disks → AreFrom a.disks plan.stores starts (books_of hands) = λ told. subst (λ (l : List BookSeen). AreFrom a.disks plan.stores starts l) (sym same_books) (stands.from told) in
    let tells = c.reopen_journals-opened.ensures.leaves.tells in
    let ran = subst (λ (y : YardSeen). (rest : List ℕ) × RunsClosed ps book plan (stage hands y before.clock 0 said) after rest result) opens0.same c.run_over.ensures.ran in
    let changes = c.run_over.ensures.grows starts a.disks (λ told. from (told_before a b tells told)) grown in
    went_ran ps book plan (map g.Y.Disk.Disk.seen c.args.disks.items) starts left before after result books said hands c.requires.plan opens (all_opened_on _ _ _ empty c.reopen_journals-opened.ensures.their_disks) (are_seated plan a (map g.Y.Disk.Disk.seen c.args.disks.items) c.args.found.now settled left books c.requires.passed c.requires.ready (subst (λ (l : List BookSeen). AreOpenedNow a starts l) (sym opens.books) opens.opened) all_books) its as_many all_books ran (subst (λ (y : YardSeen). LeavesYard y e result) opens0.same leaves) changes from
    (λ so told. c.run_over.ensures.journal_fault starts a.disks so (told_after a b tells told) (plan_apart plan plan.stores c.requires.plan refl) (from told))
