use Rattle.std.proofs.Common.{◌≡◌, ◌∙◌, refl, sym, ap, subst, arith, ℕ, ◌≤◌, List, [], length, map, take, vec_items}
use Rattle.std.proofs.lemmas.List.{length-map}
use Rattle.vd_outside.specs.Causes.{Rose}
use Rattle.vd_yard.specs.Counts.{Counts, arm_faults, source_faults}
use Rattle.key_state.specs.declared.seen.BookSeen.{BookSeen}
use Rattle.slave_worker.specs.Hands.{HandSeen, hand_seen}
use Rattle.run_report.specs.Says.{printing}
use Rattle.run_report.specs.declared.status.Status.TheVariants as status
use Rattle.journal_core.specs.Book.{seen_of}
use Rattle.plan_hands.specs.Stores.{AreStores}
use Rattle.plan_journals.specs.Open.{AreFrom, held_of, journals_are_out, out_besides}
use Rattle.plan_runs.specs.Stages.{stage}
use Rattle.slave_worker.specs.declared.hand.StoreHand.{StoreHand}
use Rattle.journal_core.specs.declared.book.JournalBook.{JournalBook}
use Rattle.plan_journals.specs.Open.{new_starts}
use Rattle.plan_journaled.proofs.Anew.{ends_books, ends_journal, ends_not_device, ends_of_runs, ends_yard, few_books, from_anew, grown_closed, grown_over, opened_books, opened_seated, others_of, plan_apart, ran_anew, refused_quiet, seated_out, badly_not_well, ends_badly, stands_closed, went_badly, stopped_anew, unseated_anew}
use Rattle.plan_journaled.proofs.Closed.{held_books, tells_after}
use Rattle.plan_journaled.proofs.Ending.{can_over, can_refused, memory_stays, refused_before, refused_has, refused_same}
use Rattle.plan_journaled.proofs.journaled.run_journaled.Goals as goal

pub open_journals-opened-requires-clause-logs : goal.open_journals-opened-requires-clause-logs
open_journals-opened-requires-clause-logs g c κs within =
    (omega (arith, c.requires.journal_sectors.at_least), c.requires.journal_sectors.at_most)

pub close_journals-closing-requires-clause-few : goal.close_journals-closing-requires-clause-few
close_journals-closing-requires-clause-few g c κs within =
    let plan = c.args.plan.now in
    let none : length c.new-books.result.items ≡ 0 = ap length c.new-books.ensures.items in
    let stands = c.open_journals-opened.ensures.stands none in
    let all = c.as_slice-stores.ensures in
    let stores = c.as_slice-stores.result.now in
    let logs = plan.journal_sectors in
    omega (arith, stands.few)

pub close_journals-closing-requires-clause-out : goal.close_journals-closing-requires-clause-out
close_journals-closing-requires-clause-out g c κs within =
    let plan = c.args.plan.now in
    let none : length c.new-books.result.items ≡ 0 = ap length c.new-books.ensures.items in
    let stands = c.open_journals-opened.ensures.stands none in
    let all = c.as_slice-stores.ensures in
    let stores = c.as_slice-stores.result.now in
    let logs = plan.journal_sectors in
    journals_are_out (g.Y.Yard.seen c.args.yard.now).out stands.out

pub close_journals-closing-requires-in_default-hands_of-clause-few : goal.close_journals-closing-requires-in_default-hands_of-clause-few
close_journals-closing-requires-in_default-hands_of-clause-few g c κs within =
    let plan = c.args.plan.now in
    let none : length c.new-books.result.items ≡ 0 = ap length c.new-books.ensures.items in
    let stands = c.open_journals-opened.ensures.stands none in
    let all = c.as_slice-stores.ensures in
    let stores = c.as_slice-stores.result.now in
    let logs = plan.journal_sectors in
    let kept = ap vec_items c.in_default-hands_of.ensures.refused in
    subst (λ (n : ℕ). n ≤ length stores) (sym (ap length kept)) stands.few

pub close_journals-closing-requires-in_default-hands_of-clause-out : goal.close_journals-closing-requires-in_default-hands_of-clause-out
close_journals-closing-requires-in_default-hands_of-clause-out g c κs within =
    let plan = c.args.plan.now in
    let none : length c.new-books.result.items ≡ 0 = ap length c.new-books.ensures.items in
    let stands = c.open_journals-opened.ensures.stands none in
    let all = c.as_slice-stores.ensures in
    let stores = c.as_slice-stores.result.now in
    let logs = plan.journal_sectors in
    let kept = ap vec_items c.in_default-hands_of.ensures.refused in
    journals_are_out (g.Y.Yard.seen c.args.yard.now).out (stands.out ∙ ap (λ (n : ℕ). out_besides (g.Y.Yard.seen c.args.yard.now).out (take n stores)) (sym (ap length kept)))

pub hands_of-requires-after_bounds : goal.hands_of-requires-after_bounds
hands_of-requires-after_bounds g c κs within =
    let plan = c.args.plan.now in
    let none : length c.new-books.result.items ≡ 0 = ap length c.new-books.ensures.items in
    let stands = c.open_journals-opened.ensures.stands none in
    let all = c.as_slice-stores.ensures in
    let stores = c.as_slice-stores.result.now in
    let logs = plan.journal_sectors in
    few_books plan stores (length c.open_journals-opened.new.books.items) all c.requires stands.few

pub returns-in-Err-clause-ran : goal.returns-in-Err-clause-ran
returns-in-Err-clause-ran g c =
    let book = seen_of {D = g.row.Y-Disk.Denot} {G = g.Y.Disk.Disk} in
    let pass = g.Y.Arm.Pass.Pass.seen in
    let plan = c.args.plan.now in
    let before = stage [] (g.Y.Yard.seen c.args.yard.now) (g.C.Clock.seen c.args.clock.now) 0 (printing c.args.printer.now.failed (g.S.Sink.taken c.args.out.now) (g.S.Sink.faults c.args.out.now)) in
    let opened = g.Y.Yard.seen c.open_journals-opened.new.yard in
    let said = printing c.open_journals-opened.new.printer.failed (g.S.Sink.taken c.open_journals-opened.new.out) (g.S.Sink.faults c.open_journals-opened.new.out) in
    let books = map book c.open_journals-opened.new.books.items in
    let none : length c.new-books.result.items ≡ 0 = ap length c.new-books.ensures.items in
    let stands = c.open_journals-opened.ensures.stands none in
    let all = c.as_slice-stores.ensures in
    let stores = c.as_slice-stores.result.now in
    let logs = plan.journal_sectors in
    let empty = ap (map book) c.new-books.ensures.items in
    let ends = ends_books (g.Y.Yard.seen c.args.yard.now) (g.Y.Yard.seen c.open_journals-opened.new.yard) plan stores logs (map book c.new-books.result.items) books before.printing said c.in-Err.why all empty c.in-Err.ensures.stops in
    let after = stage [] (g.Y.Yard.seen c.close_journals-closing.new.yard) (g.C.Clock.seen c.args.clock.now) 0 (printing c.close_journals-closing.new.printer.failed (g.S.Sink.taken c.close_journals-closing.new.out) (g.S.Sink.faults c.close_journals-closing.new.out)) in
    stopped_anew pass book plan before after opened said books c.after_refusal.result stores all (map held_of c.open_journals-opened.new.books.items) (held_books c.open_journals-opened.new.books.items) c.close_journals-closing.result c.close_journals-closing.ensures.answers c.close_journals-closing.ensures.leaves c.close_journals-closing.ensures.faults c.close_journals-closing.ensures.ends refl c.in-Err.why ends c.open_journals-opened.ensures.leaves c.after_refusal.ensures.status

pub returns-in-Err-clause-back : goal.returns-in-Err-clause-back
returns-in-Err-clause-back g c =
    let plan = c.args.plan.now in
    let none : length c.new-books.result.items ≡ 0 = ap length c.new-books.ensures.items in
    let stands = c.open_journals-opened.ensures.stands none in
    let all = c.as_slice-stores.ensures in
    let stores = c.as_slice-stores.result.now in
    let logs = plan.journal_sectors in
    c.close_journals-closing.ensures.back (g.Y.Yard.seen c.args.yard.now).out stands.out

pub returns-in-Err-clause-tells : goal.returns-in-Err-clause-tells
returns-in-Err-clause-tells g c =
    c.close_journals-closing.ensures.leaves.tells ∙ c.open_journals-opened.ensures.leaves.tells

pub returns-in-Err-clause-files : goal.returns-in-Err-clause-files
returns-in-Err-clause-files g c kind path there =
    c.close_journals-closing.ensures.leaves.files kind path (c.open_journals-opened.ensures.leaves.files kind path there)

pub returns-in-Err-clause-sources : goal.returns-in-Err-clause-sources
returns-in-Err-clause-sources g c path =
    ap (λ (k : Counts). source_faults k path) (c.close_journals-closing.ensures.leaves.counts ∙ c.open_journals-opened.ensures.leaves.counts)

pub returns-in-Err-clause-device_quiet : goal.returns-in-Err-clause-device_quiet
returns-in-Err-clause-device_quiet g c device epoch journal yard memory path =
    ap (λ (k : Counts). arm_faults k path) (c.close_journals-closing.ensures.leaves.counts ∙ c.open_journals-opened.ensures.leaves.counts)

pub returns-in-Err-clause-grows : goal.returns-in-Err-clause-grows
returns-in-Err-clause-grows g c =
    let book = seen_of {D = g.row.Y-Disk.Denot} {G = g.Y.Disk.Disk} in
    let pass = g.Y.Arm.Pass.Pass.seen in
    let plan = c.args.plan.now in
    let none : length c.new-books.result.items ≡ 0 = ap length c.new-books.ensures.items in
    let stands = c.open_journals-opened.ensures.stands none in
    let all = c.as_slice-stores.ensures in
    let stores = c.as_slice-stores.result.now in
    let logs = plan.journal_sectors in
    grown_closed plan stores all (g.Y.Yard.seen c.args.yard.now) (g.Y.Yard.seen c.open_journals-opened.new.yard) logs (map book c.open_journals-opened.new.books.items) stands.from (g.Y.Yard.seen c.close_journals-closing.new.yard) c.open_journals-opened.ensures.leaves.tells c.open_journals-opened.ensures.grows c.close_journals-closing.ensures.grows

pub returns-in-Err-clause-willing : goal.returns-in-Err-clause-willing
returns-in-Err-clause-willing g c w =
    let book = seen_of {D = g.row.Y-Disk.Denot} {G = g.Y.Disk.Disk} in
    let pass = g.Y.Arm.Pass.Pass.seen in
    let plan = c.args.plan.now in
    let before = stage [] (g.Y.Yard.seen c.args.yard.now) (g.C.Clock.seen c.args.clock.now) 0 (printing c.args.printer.now.failed (g.S.Sink.taken c.args.out.now) (g.S.Sink.faults c.args.out.now)) in
    let opened = g.Y.Yard.seen c.open_journals-opened.new.yard in
    let said = printing c.open_journals-opened.new.printer.failed (g.S.Sink.taken c.open_journals-opened.new.out) (g.S.Sink.faults c.open_journals-opened.new.out) in
    let books = map book c.open_journals-opened.new.books.items in
    let none : length c.new-books.result.items ≡ 0 = ap length c.new-books.ensures.items in
    let stands = c.open_journals-opened.ensures.stands none in
    let all = c.as_slice-stores.ensures in
    let stores = c.as_slice-stores.result.now in
    let logs = plan.journal_sectors in
    let empty = ap (map book) c.new-books.ensures.items in
    let ends = ends_books (g.Y.Yard.seen c.args.yard.now) (g.Y.Yard.seen c.open_journals-opened.new.yard) plan stores logs (map book c.new-books.result.items) books before.printing said c.in-Err.why all empty c.in-Err.ensures.stops in
    let closing = c.close_journals-closing.result in
    let answers = c.close_journals-closing.ensures.answers in
    let is = c.after_refusal.ensures.status in
    let why = c.in-Err.why in
    let result = c.after_refusal.result in
    (c.close_journals-closing.ensures.leaves.willing (c.open_journals-opened.ensures.leaves.willing w), λ so. (ends_yard (g.Y.Yard.seen c.args.yard.now) (g.Y.Yard.seen c.open_journals-opened.new.yard) plan.stores logs books before.printing said why ends (refused_same status.Yard why closing result (λ e. cc) answers is so)).1 w)

pub returns-in-Err-clause-yard_fault : goal.returns-in-Err-clause-yard_fault
returns-in-Err-clause-yard_fault g c so =
    let book = seen_of {D = g.row.Y-Disk.Denot} {G = g.Y.Disk.Disk} in
    let pass = g.Y.Arm.Pass.Pass.seen in
    let plan = c.args.plan.now in
    let before = stage [] (g.Y.Yard.seen c.args.yard.now) (g.C.Clock.seen c.args.clock.now) 0 (printing c.args.printer.now.failed (g.S.Sink.taken c.args.out.now) (g.S.Sink.faults c.args.out.now)) in
    let opened = g.Y.Yard.seen c.open_journals-opened.new.yard in
    let said = printing c.open_journals-opened.new.printer.failed (g.S.Sink.taken c.open_journals-opened.new.out) (g.S.Sink.faults c.open_journals-opened.new.out) in
    let books = map book c.open_journals-opened.new.books.items in
    let none : length c.new-books.result.items ≡ 0 = ap length c.new-books.ensures.items in
    let stands = c.open_journals-opened.ensures.stands none in
    let all = c.as_slice-stores.ensures in
    let stores = c.as_slice-stores.result.now in
    let logs = plan.journal_sectors in
    let empty = ap (map book) c.new-books.ensures.items in
    let ends = ends_books (g.Y.Yard.seen c.args.yard.now) (g.Y.Yard.seen c.open_journals-opened.new.yard) plan stores logs (map book c.new-books.result.items) books before.printing said c.in-Err.why all empty c.in-Err.ensures.stops in
    let closing = c.close_journals-closing.result in
    let answers = c.close_journals-closing.ensures.answers in
    let is = c.after_refusal.ensures.status in
    let why = c.in-Err.why in
    let result = c.after_refusal.result in
    subst (λ n. Rose (g.Y.Yard.seen c.args.yard.now).faults n) (sym c.close_journals-closing.ensures.faults) (ends_yard (g.Y.Yard.seen c.args.yard.now) (g.Y.Yard.seen c.open_journals-opened.new.yard) plan.stores logs books before.printing said why ends (refused_same status.Yard why closing result (λ e. cc) answers is so)).0

pub returns-in-Err-clause-yard_quiet : goal.returns-in-Err-clause-yard_quiet
returns-in-Err-clause-yard_quiet g c yard memory =
    let closing = c.close_journals-closing.result in
    let answers = c.close_journals-closing.ensures.answers in
    let is = c.after_refusal.ensures.status in
    let why = c.in-Err.why in
    let result = c.after_refusal.result in
    let same = refused_before why closing result answers is memory in
    c.close_journals-closing.ensures.faults ∙ c.open_journals-opened.ensures.yard_quiet (refused_quiet status.Yard why result c.open_journals-opened.result c.in-Err.is same yard) (refused_quiet status.NoMemory why result c.open_journals-opened.result c.in-Err.is same memory)

pub returns-in-Err-clause-journal_fault : goal.returns-in-Err-clause-journal_fault
returns-in-Err-clause-journal_fault g c failed told =
    let book = seen_of {D = g.row.Y-Disk.Denot} {G = g.Y.Disk.Disk} in
    let pass = g.Y.Arm.Pass.Pass.seen in
    let plan = c.args.plan.now in
    let before = stage [] (g.Y.Yard.seen c.args.yard.now) (g.C.Clock.seen c.args.clock.now) 0 (printing c.args.printer.now.failed (g.S.Sink.taken c.args.out.now) (g.S.Sink.faults c.args.out.now)) in
    let opened = g.Y.Yard.seen c.open_journals-opened.new.yard in
    let said = printing c.open_journals-opened.new.printer.failed (g.S.Sink.taken c.open_journals-opened.new.out) (g.S.Sink.faults c.open_journals-opened.new.out) in
    let books = map book c.open_journals-opened.new.books.items in
    let none : length c.new-books.result.items ≡ 0 = ap length c.new-books.ensures.items in
    let stands = c.open_journals-opened.ensures.stands none in
    let all = c.as_slice-stores.ensures in
    let stores = c.as_slice-stores.result.now in
    let logs = plan.journal_sectors in
    let empty = ap (map book) c.new-books.ensures.items in
    let ends = ends_books (g.Y.Yard.seen c.args.yard.now) (g.Y.Yard.seen c.open_journals-opened.new.yard) plan stores logs (map book c.new-books.result.items) books before.printing said c.in-Err.why all empty c.in-Err.ensures.stops in
    let closing = c.close_journals-closing.result in
    let answers = c.close_journals-closing.ensures.answers in
    let is = c.after_refusal.ensures.status in
    let why = c.in-Err.why in
    let result = c.after_refusal.result in
    ends_journal (g.Y.Yard.seen c.args.yard.now) (g.Y.Yard.seen c.open_journals-opened.new.yard) plan.stores logs books before.printing said why ends (g.Y.Yard.seen c.close_journals-closing.new.yard) (length c.open_journals-opened.new.books.items) (sym (length-map c.open_journals-opened.new.books.items book)) (refused_same status.Journal why closing result (λ e. cc) answers is failed) told (plan_apart plan plan.stores c.requires refl) (others_of plan stores all (length c.open_journals-opened.new.books.items) (g.Y.Yard.seen c.open_journals-opened.new.yard) (g.Y.Yard.seen c.close_journals-closing.new.yard) c.close_journals-closing.ensures.others)

pub returns-in-Err-clause-device_fault : goal.returns-in-Err-clause-device_fault
returns-in-Err-clause-device_fault g c so =
    let book = seen_of {D = g.row.Y-Disk.Denot} {G = g.Y.Disk.Disk} in
    let pass = g.Y.Arm.Pass.Pass.seen in
    let plan = c.args.plan.now in
    let before = stage [] (g.Y.Yard.seen c.args.yard.now) (g.C.Clock.seen c.args.clock.now) 0 (printing c.args.printer.now.failed (g.S.Sink.taken c.args.out.now) (g.S.Sink.faults c.args.out.now)) in
    let opened = g.Y.Yard.seen c.open_journals-opened.new.yard in
    let said = printing c.open_journals-opened.new.printer.failed (g.S.Sink.taken c.open_journals-opened.new.out) (g.S.Sink.faults c.open_journals-opened.new.out) in
    let books = map book c.open_journals-opened.new.books.items in
    let none : length c.new-books.result.items ≡ 0 = ap length c.new-books.ensures.items in
    let stands = c.open_journals-opened.ensures.stands none in
    let all = c.as_slice-stores.ensures in
    let stores = c.as_slice-stores.result.now in
    let logs = plan.journal_sectors in
    let empty = ap (map book) c.new-books.ensures.items in
    let ends = ends_books (g.Y.Yard.seen c.args.yard.now) (g.Y.Yard.seen c.open_journals-opened.new.yard) plan stores logs (map book c.new-books.result.items) books before.printing said c.in-Err.why all empty c.in-Err.ensures.stops in
    let closing = c.close_journals-closing.result in
    let answers = c.close_journals-closing.ensures.answers in
    let is = c.after_refusal.ensures.status in
    let why = c.in-Err.why in
    let result = c.after_refusal.result in
    absurd (ends_not_device (g.Y.Yard.seen c.args.yard.now) (g.Y.Yard.seen c.open_journals-opened.new.yard) plan.stores logs books before.printing said why ends (refused_same status.Device why closing result (λ e. cc) answers is so))

pub returns-in-Err-clause-can : goal.returns-in-Err-clause-can
returns-in-Err-clause-can g c =
    let book = seen_of {D = g.row.Y-Disk.Denot} {G = g.Y.Disk.Disk} in
    let pass = g.Y.Arm.Pass.Pass.seen in
    let plan = c.args.plan.now in
    let before = stage [] (g.Y.Yard.seen c.args.yard.now) (g.C.Clock.seen c.args.clock.now) 0 (printing c.args.printer.now.failed (g.S.Sink.taken c.args.out.now) (g.S.Sink.faults c.args.out.now)) in
    let opened = g.Y.Yard.seen c.open_journals-opened.new.yard in
    let said = printing c.open_journals-opened.new.printer.failed (g.S.Sink.taken c.open_journals-opened.new.out) (g.S.Sink.faults c.open_journals-opened.new.out) in
    let books = map book c.open_journals-opened.new.books.items in
    let none : length c.new-books.result.items ≡ 0 = ap length c.new-books.ensures.items in
    let stands = c.open_journals-opened.ensures.stands none in
    let all = c.as_slice-stores.ensures in
    let stores = c.as_slice-stores.result.now in
    let logs = plan.journal_sectors in
    let empty = ap (map book) c.new-books.ensures.items in
    let ends = ends_books (g.Y.Yard.seen c.args.yard.now) (g.Y.Yard.seen c.open_journals-opened.new.yard) plan stores logs (map book c.new-books.result.items) books before.printing said c.in-Err.why all empty c.in-Err.ensures.stops in
    let closing = c.close_journals-closing.result in
    let answers = c.close_journals-closing.ensures.answers in
    let is = c.after_refusal.ensures.status in
    let why = c.in-Err.why in
    let result = c.after_refusal.result in
    can_refused why closing result answers is (ends_of_runs (g.Y.Yard.seen c.args.yard.now) (g.Y.Yard.seen c.open_journals-opened.new.yard) plan.stores logs books before.printing said why ends)

pub returns-in_default-hands_of-clause-ran : goal.returns-in_default-hands_of-clause-ran
returns-in_default-hands_of-clause-ran g c =
    let book = seen_of {D = g.row.Y-Disk.Denot} {G = g.Y.Disk.Disk} in
    let pass = g.Y.Arm.Pass.Pass.seen in
    let plan = c.args.plan.now in
    let before = stage [] (g.Y.Yard.seen c.args.yard.now) (g.C.Clock.seen c.args.clock.now) 0 (printing c.args.printer.now.failed (g.S.Sink.taken c.args.out.now) (g.S.Sink.faults c.args.out.now)) in
    let opened = g.Y.Yard.seen c.open_journals-opened.new.yard in
    let said = printing c.open_journals-opened.new.printer.failed (g.S.Sink.taken c.open_journals-opened.new.out) (g.S.Sink.faults c.open_journals-opened.new.out) in
    let books = map book c.open_journals-opened.new.books.items in
    let none : length c.new-books.result.items ≡ 0 = ap length c.new-books.ensures.items in
    let stands = c.open_journals-opened.ensures.stands none in
    let all = c.as_slice-stores.ensures in
    let stores = c.as_slice-stores.result.now in
    let logs = plan.journal_sectors in
    let empty = ap (map book) c.new-books.ensures.items in
    let opens = opened_books (g.Y.Yard.seen c.args.yard.now) (g.Y.Yard.seen c.open_journals-opened.new.yard) plan stores logs (map book c.new-books.result.items) books before.printing said all empty c.in_default.ensures.opened in
    let kept = ap vec_items c.in_default-hands_of.ensures.refused in
    let after = stage [] (g.Y.Yard.seen c.close_journals-closing-in_default-hands_of.new.yard) (g.C.Clock.seen c.args.clock.now) 0 (printing c.close_journals-closing-in_default-hands_of.new.printer.failed (g.S.Sink.taken c.close_journals-closing-in_default-hands_of.new.out) (g.S.Sink.faults c.close_journals-closing-in_default-hands_of.new.out)) in
    unseated_anew pass book plan before after opened said books c.after_closing.result stores all (map held_of c.hands_of.new.books.items) (held_books c.hands_of.new.books.items ∙ ap (map book) kept) c.close_journals-closing-in_default-hands_of.result c.close_journals-closing-in_default-hands_of.ensures.answers c.close_journals-closing-in_default-hands_of.ensures.leaves c.close_journals-closing-in_default-hands_of.ensures.faults c.close_journals-closing-in_default-hands_of.ensures.ends refl c.open_journals-opened.ensures.leaves opens c.after_closing.ensures.status

pub returns-in_default-hands_of-clause-back : goal.returns-in_default-hands_of-clause-back
returns-in_default-hands_of-clause-back g c =
    let plan = c.args.plan.now in
    let none : length c.new-books.result.items ≡ 0 = ap length c.new-books.ensures.items in
    let stands = c.open_journals-opened.ensures.stands none in
    let all = c.as_slice-stores.ensures in
    let stores = c.as_slice-stores.result.now in
    let logs = plan.journal_sectors in
    let kept = ap vec_items c.in_default-hands_of.ensures.refused in
    c.close_journals-closing-in_default-hands_of.ensures.back (g.Y.Yard.seen c.args.yard.now).out (stands.out ∙ ap (λ (n : ℕ). out_besides (g.Y.Yard.seen c.args.yard.now).out (take n stores)) (sym (ap length kept)))

pub returns-in_default-hands_of-clause-tells : goal.returns-in_default-hands_of-clause-tells
returns-in_default-hands_of-clause-tells g c =
    c.close_journals-closing-in_default-hands_of.ensures.leaves.tells ∙ c.open_journals-opened.ensures.leaves.tells

pub returns-in_default-hands_of-clause-files : goal.returns-in_default-hands_of-clause-files
returns-in_default-hands_of-clause-files g c kind path there =
    c.close_journals-closing-in_default-hands_of.ensures.leaves.files kind path (c.open_journals-opened.ensures.leaves.files kind path there)

pub returns-in_default-hands_of-clause-sources : goal.returns-in_default-hands_of-clause-sources
returns-in_default-hands_of-clause-sources g c path =
    ap (λ (k : Counts). source_faults k path) (c.close_journals-closing-in_default-hands_of.ensures.leaves.counts ∙ c.open_journals-opened.ensures.leaves.counts)

pub returns-in_default-hands_of-clause-device_quiet : goal.returns-in_default-hands_of-clause-device_quiet
returns-in_default-hands_of-clause-device_quiet g c device epoch journal yard memory path =
    ap (λ (k : Counts). arm_faults k path) (c.close_journals-closing-in_default-hands_of.ensures.leaves.counts ∙ c.open_journals-opened.ensures.leaves.counts)

pub returns-in_default-hands_of-clause-grows : goal.returns-in_default-hands_of-clause-grows
returns-in_default-hands_of-clause-grows g c =
    let book = seen_of {D = g.row.Y-Disk.Denot} {G = g.Y.Disk.Disk} in
    let pass = g.Y.Arm.Pass.Pass.seen in
    let plan = c.args.plan.now in
    let none : length c.new-books.result.items ≡ 0 = ap length c.new-books.ensures.items in
    let stands = c.open_journals-opened.ensures.stands none in
    let all = c.as_slice-stores.ensures in
    let stores = c.as_slice-stores.result.now in
    let logs = plan.journal_sectors in
    let kept = ap vec_items c.in_default-hands_of.ensures.refused in
    grown_closed plan stores all (g.Y.Yard.seen c.args.yard.now) (g.Y.Yard.seen c.open_journals-opened.new.yard) logs (map book c.hands_of.new.books.items) (λ told. subst (λ (l : List BookSeen). AreFrom (g.Y.Yard.seen c.args.yard.now).disks stores (new_starts logs stores) l) (sym (ap (map book) kept)) (stands.from told)) (g.Y.Yard.seen c.close_journals-closing-in_default-hands_of.new.yard) c.open_journals-opened.ensures.leaves.tells c.open_journals-opened.ensures.grows c.close_journals-closing-in_default-hands_of.ensures.grows

pub returns-in_default-hands_of-clause-willing : goal.returns-in_default-hands_of-clause-willing
returns-in_default-hands_of-clause-willing g c w =
    let closing = c.close_journals-closing-in_default-hands_of.result in
    let answers = c.close_journals-closing-in_default-hands_of.ensures.answers in
    let is = c.after_closing.ensures.status in
    let result = c.after_closing.result in
    let memory = is ∙ memory_stays closing answers in
    (c.close_journals-closing-in_default-hands_of.ensures.leaves.willing (c.open_journals-opened.ensures.leaves.willing w), λ so. let no : status.NoMemory ≡ status.Yard = sym memory ∙ so in cc)

pub returns-in_default-hands_of-clause-yard_fault : goal.returns-in_default-hands_of-clause-yard_fault
returns-in_default-hands_of-clause-yard_fault g c so =
    let closing = c.close_journals-closing-in_default-hands_of.result in
    let answers = c.close_journals-closing-in_default-hands_of.ensures.answers in
    let is = c.after_closing.ensures.status in
    let result = c.after_closing.result in
    let memory = is ∙ memory_stays closing answers in
    absurd (let no : status.NoMemory ≡ status.Yard = sym memory ∙ so in cc)

pub returns-in_default-hands_of-clause-yard_quiet : goal.returns-in_default-hands_of-clause-yard_quiet
returns-in_default-hands_of-clause-yard_quiet g c yard kept =
    let closing = c.close_journals-closing-in_default-hands_of.result in
    let answers = c.close_journals-closing-in_default-hands_of.ensures.answers in
    let is = c.after_closing.ensures.status in
    let result = c.after_closing.result in
    let memory = is ∙ memory_stays closing answers in
    absurd (kept memory)

pub returns-in_default-hands_of-clause-journal_fault : goal.returns-in_default-hands_of-clause-journal_fault
returns-in_default-hands_of-clause-journal_fault g c failed told =
    let closing = c.close_journals-closing-in_default-hands_of.result in
    let answers = c.close_journals-closing-in_default-hands_of.ensures.answers in
    let is = c.after_closing.ensures.status in
    let result = c.after_closing.result in
    let memory = is ∙ memory_stays closing answers in
    absurd (let no : status.NoMemory ≡ status.Journal = sym memory ∙ failed in cc)

pub returns-in_default-hands_of-clause-device_fault : goal.returns-in_default-hands_of-clause-device_fault
returns-in_default-hands_of-clause-device_fault g c so =
    let closing = c.close_journals-closing-in_default-hands_of.result in
    let answers = c.close_journals-closing-in_default-hands_of.ensures.answers in
    let is = c.after_closing.ensures.status in
    let result = c.after_closing.result in
    let memory = is ∙ memory_stays closing answers in
    absurd (let no : status.NoMemory ≡ status.Device = sym memory ∙ so in cc)

pub returns-in_default-hands_of-clause-can : goal.returns-in_default-hands_of-clause-can
returns-in_default-hands_of-clause-can g c =
    let closing = c.close_journals-closing-in_default-hands_of.result in
    let answers = c.close_journals-closing-in_default-hands_of.ensures.answers in
    let is = c.after_closing.ensures.status in
    let result = c.after_closing.result in
    let memory = is ∙ memory_stays closing answers in
    can_over status.NoMemory closing result answers is refl

pub run_over-requires-clause-stores : goal.run_over-requires-clause-stores
run_over-requires-clause-stores g c κs within =
    let book = seen_of {D = g.row.Y-Disk.Denot} {G = g.Y.Disk.Disk} in
    let pass = g.Y.Arm.Pass.Pass.seen in
    let plan = c.args.plan.now in
    let before = stage [] (g.Y.Yard.seen c.args.yard.now) (g.C.Clock.seen c.args.clock.now) 0 (printing c.args.printer.now.failed (g.S.Sink.taken c.args.out.now) (g.S.Sink.faults c.args.out.now)) in
    let opened = g.Y.Yard.seen c.open_journals-opened.new.yard in
    let said = printing c.open_journals-opened.new.printer.failed (g.S.Sink.taken c.open_journals-opened.new.out) (g.S.Sink.faults c.open_journals-opened.new.out) in
    let books = map book c.open_journals-opened.new.books.items in
    let none : length c.new-books.result.items ≡ 0 = ap length c.new-books.ensures.items in
    let stands = c.open_journals-opened.ensures.stands none in
    let all = c.as_slice-stores.ensures in
    let stores = c.as_slice-stores.result.now in
    let logs = plan.journal_sectors in
    let empty = ap (map book) c.new-books.ensures.items in
    let opens = opened_books (g.Y.Yard.seen c.args.yard.now) (g.Y.Yard.seen c.open_journals-opened.new.yard) plan stores logs (map book c.new-books.result.items) books before.printing said all empty c.in_default.ensures.opened in
    let seen = hand_seen pass book in
    let hands = map seen c.in-Ok.hands.items in
    let its = c.in-Ok.ensures.hands in
    subst (λ (l : List HandSeen). AreStores plan l) (sym its) (opened_seated (g.Y.Yard.seen c.args.yard.now) (g.Y.Yard.seen c.open_journals-opened.new.yard) plan logs books before.printing said opens)

pub run_over-requires-clause-out : goal.run_over-requires-clause-out
run_over-requires-clause-out g c κs within =
    let book = seen_of {D = g.row.Y-Disk.Denot} {G = g.Y.Disk.Disk} in
    let pass = g.Y.Arm.Pass.Pass.seen in
    let plan = c.args.plan.now in
    let before = stage [] (g.Y.Yard.seen c.args.yard.now) (g.C.Clock.seen c.args.clock.now) 0 (printing c.args.printer.now.failed (g.S.Sink.taken c.args.out.now) (g.S.Sink.faults c.args.out.now)) in
    let opened = g.Y.Yard.seen c.open_journals-opened.new.yard in
    let said = printing c.open_journals-opened.new.printer.failed (g.S.Sink.taken c.open_journals-opened.new.out) (g.S.Sink.faults c.open_journals-opened.new.out) in
    let books = map book c.open_journals-opened.new.books.items in
    let none : length c.new-books.result.items ≡ 0 = ap length c.new-books.ensures.items in
    let stands = c.open_journals-opened.ensures.stands none in
    let all = c.as_slice-stores.ensures in
    let stores = c.as_slice-stores.result.now in
    let logs = plan.journal_sectors in
    let empty = ap (map book) c.new-books.ensures.items in
    let opens = opened_books (g.Y.Yard.seen c.args.yard.now) (g.Y.Yard.seen c.open_journals-opened.new.yard) plan stores logs (map book c.new-books.result.items) books before.printing said all empty c.in_default.ensures.opened in
    let seen = hand_seen pass book in
    let hands = map seen c.in-Ok.hands.items in
    let its = c.in-Ok.ensures.hands in
    ((g.Y.Yard.seen c.args.yard.now).out, seated_out plan hands books (g.Y.Yard.seen c.args.yard.now).out (g.Y.Yard.seen c.open_journals-opened.new.yard).out its opens.out)

pub run_over-requires-clause-room : goal.run_over-requires-clause-room
run_over-requires-clause-room g c κs within =
    let book = seen_of {D = g.row.Y-Disk.Denot} {G = g.Y.Disk.Disk} in
    let pass = g.Y.Arm.Pass.Pass.seen in
    let plan = c.args.plan.now in
    let seen = hand_seen pass book in
    let hands = map seen c.in-Ok.hands.items in
    let its = c.in-Ok.ensures.hands in
    omega (arith, ap length c.in-Ok.ensures.books, length-map c.in-Ok.hands.items (λ (hand : StoreHand g.row.Y-Arm-Pass.Denot (JournalBook g.row.Y-Disk.Denot g.Y.Disk.Disk)). hand.book), c.in-Ok.ensures.room, c.open_journals-opened.new.books.ok.0, c.open_journals-opened.new.books.ok.1)

pub returns-clause-ran : goal.returns-clause-ran
returns-clause-ran g c =
    let book = seen_of {D = g.row.Y-Disk.Denot} {G = g.Y.Disk.Disk} in
    let pass = g.Y.Arm.Pass.Pass.seen in
    let plan = c.args.plan.now in
    let before = stage [] (g.Y.Yard.seen c.args.yard.now) (g.C.Clock.seen c.args.clock.now) 0 (printing c.args.printer.now.failed (g.S.Sink.taken c.args.out.now) (g.S.Sink.faults c.args.out.now)) in
    let opened = g.Y.Yard.seen c.open_journals-opened.new.yard in
    let said = printing c.open_journals-opened.new.printer.failed (g.S.Sink.taken c.open_journals-opened.new.out) (g.S.Sink.faults c.open_journals-opened.new.out) in
    let books = map book c.open_journals-opened.new.books.items in
    let none : length c.new-books.result.items ≡ 0 = ap length c.new-books.ensures.items in
    let stands = c.open_journals-opened.ensures.stands none in
    let all = c.as_slice-stores.ensures in
    let stores = c.as_slice-stores.result.now in
    let logs = plan.journal_sectors in
    let empty = ap (map book) c.new-books.ensures.items in
    let opens = opened_books (g.Y.Yard.seen c.args.yard.now) (g.Y.Yard.seen c.open_journals-opened.new.yard) plan stores logs (map book c.new-books.result.items) books before.printing said all empty c.in_default.ensures.opened in
    let seen = hand_seen pass book in
    let hands = map seen c.in-Ok.hands.items in
    let its = c.in-Ok.ensures.hands in
    let after = stage [] (g.Y.Yard.seen c.run_over.new.yard) (g.C.Clock.seen c.run_over.new.clock) 0 (printing c.run_over.new.printer.failed (g.S.Sink.taken c.run_over.new.out) (g.S.Sink.faults c.run_over.new.out)) in
    ran_anew pass book plan before after opened said books c.run_over.result hands c.open_journals-opened.ensures.leaves opens its c.run_over.ensures.ran

pub returns-clause-back : goal.returns-clause-back
returns-clause-back g c =
    let book = seen_of {D = g.row.Y-Disk.Denot} {G = g.Y.Disk.Disk} in
    let pass = g.Y.Arm.Pass.Pass.seen in
    let plan = c.args.plan.now in
    let before = stage [] (g.Y.Yard.seen c.args.yard.now) (g.C.Clock.seen c.args.clock.now) 0 (printing c.args.printer.now.failed (g.S.Sink.taken c.args.out.now) (g.S.Sink.faults c.args.out.now)) in
    let opened = g.Y.Yard.seen c.open_journals-opened.new.yard in
    let said = printing c.open_journals-opened.new.printer.failed (g.S.Sink.taken c.open_journals-opened.new.out) (g.S.Sink.faults c.open_journals-opened.new.out) in
    let books = map book c.open_journals-opened.new.books.items in
    let none : length c.new-books.result.items ≡ 0 = ap length c.new-books.ensures.items in
    let stands = c.open_journals-opened.ensures.stands none in
    let all = c.as_slice-stores.ensures in
    let stores = c.as_slice-stores.result.now in
    let logs = plan.journal_sectors in
    let empty = ap (map book) c.new-books.ensures.items in
    let opens = opened_books (g.Y.Yard.seen c.args.yard.now) (g.Y.Yard.seen c.open_journals-opened.new.yard) plan stores logs (map book c.new-books.result.items) books before.printing said all empty c.in_default.ensures.opened in
    let seen = hand_seen pass book in
    let hands = map seen c.in-Ok.hands.items in
    let its = c.in-Ok.ensures.hands in
    c.run_over.ensures.back (g.Y.Yard.seen c.args.yard.now).out (seated_out plan hands books (g.Y.Yard.seen c.args.yard.now).out (g.Y.Yard.seen c.open_journals-opened.new.yard).out its opens.out)

pub returns-clause-tells : goal.returns-clause-tells
returns-clause-tells g c =
    c.run_over.ensures.tells ∙ c.open_journals-opened.ensures.leaves.tells

pub returns-clause-willing : goal.returns-clause-willing
returns-clause-willing g c w =
    c.run_over.ensures.willing (c.open_journals-opened.ensures.leaves.willing w)

pub returns-clause-files : goal.returns-clause-files
returns-clause-files g c kind path there =
    c.run_over.ensures.files kind path (c.open_journals-opened.ensures.leaves.files kind path there)

pub returns-clause-sources : goal.returns-clause-sources
returns-clause-sources g c path =
    c.run_over.ensures.sources path ∙ ap (λ (k : Counts). source_faults k path) c.open_journals-opened.ensures.leaves.counts

pub returns-clause-grows : goal.returns-clause-grows
returns-clause-grows g c =
    let book = seen_of {D = g.row.Y-Disk.Denot} {G = g.Y.Disk.Disk} in
    let pass = g.Y.Arm.Pass.Pass.seen in
    let plan = c.args.plan.now in
    let before = stage [] (g.Y.Yard.seen c.args.yard.now) (g.C.Clock.seen c.args.clock.now) 0 (printing c.args.printer.now.failed (g.S.Sink.taken c.args.out.now) (g.S.Sink.faults c.args.out.now)) in
    let opened = g.Y.Yard.seen c.open_journals-opened.new.yard in
    let said = printing c.open_journals-opened.new.printer.failed (g.S.Sink.taken c.open_journals-opened.new.out) (g.S.Sink.faults c.open_journals-opened.new.out) in
    let books = map book c.open_journals-opened.new.books.items in
    let none : length c.new-books.result.items ≡ 0 = ap length c.new-books.ensures.items in
    let stands = c.open_journals-opened.ensures.stands none in
    let all = c.as_slice-stores.ensures in
    let stores = c.as_slice-stores.result.now in
    let logs = plan.journal_sectors in
    let empty = ap (map book) c.new-books.ensures.items in
    let opens = opened_books (g.Y.Yard.seen c.args.yard.now) (g.Y.Yard.seen c.open_journals-opened.new.yard) plan stores logs (map book c.new-books.result.items) books before.printing said all empty c.in_default.ensures.opened in
    let seen = hand_seen pass book in
    let hands = map seen c.in-Ok.hands.items in
    let its = c.in-Ok.ensures.hands in
    grown_over plan stores all (g.Y.Yard.seen c.args.yard.now) (g.Y.Yard.seen c.open_journals-opened.new.yard) logs books stands.from (g.Y.Yard.seen c.run_over.new.yard) c.open_journals-opened.ensures.leaves.tells c.open_journals-opened.ensures.grows hands its c.run_over.ensures.grows

pub returns-clause-journal_fault : goal.returns-clause-journal_fault
returns-clause-journal_fault g c failed told =
    let book = seen_of {D = g.row.Y-Disk.Denot} {G = g.Y.Disk.Disk} in
    let pass = g.Y.Arm.Pass.Pass.seen in
    let plan = c.args.plan.now in
    let before = stage [] (g.Y.Yard.seen c.args.yard.now) (g.C.Clock.seen c.args.clock.now) 0 (printing c.args.printer.now.failed (g.S.Sink.taken c.args.out.now) (g.S.Sink.faults c.args.out.now)) in
    let opened = g.Y.Yard.seen c.open_journals-opened.new.yard in
    let said = printing c.open_journals-opened.new.printer.failed (g.S.Sink.taken c.open_journals-opened.new.out) (g.S.Sink.faults c.open_journals-opened.new.out) in
    let books = map book c.open_journals-opened.new.books.items in
    let none : length c.new-books.result.items ≡ 0 = ap length c.new-books.ensures.items in
    let stands = c.open_journals-opened.ensures.stands none in
    let all = c.as_slice-stores.ensures in
    let stores = c.as_slice-stores.result.now in
    let logs = plan.journal_sectors in
    let empty = ap (map book) c.new-books.ensures.items in
    let opens = opened_books (g.Y.Yard.seen c.args.yard.now) (g.Y.Yard.seen c.open_journals-opened.new.yard) plan stores logs (map book c.new-books.result.items) books before.printing said all empty c.in_default.ensures.opened in
    let seen = hand_seen pass book in
    let hands = map seen c.in-Ok.hands.items in
    let its = c.in-Ok.ensures.hands in
    c.run_over.ensures.journal_fault (new_starts logs plan.stores) (g.Y.Yard.seen c.args.yard.now).disks failed (tells_after (g.Y.Yard.seen c.args.yard.now) (g.Y.Yard.seen c.open_journals-opened.new.yard) c.open_journals-opened.ensures.leaves.tells told) (plan_apart plan plan.stores c.requires refl) (from_anew plan stores all (g.Y.Yard.seen c.args.yard.now) (g.Y.Yard.seen c.open_journals-opened.new.yard) logs books stands.from hands its told)

pub returns-clause-yard_fault : goal.returns-clause-yard_fault
returns-clause-yard_fault g c so =
    let book = seen_of {D = g.row.Y-Disk.Denot} {G = g.Y.Disk.Disk} in
    let pass = g.Y.Arm.Pass.Pass.seen in
    let plan = c.args.plan.now in
    let before = stage [] (g.Y.Yard.seen c.args.yard.now) (g.C.Clock.seen c.args.clock.now) 0 (printing c.args.printer.now.failed (g.S.Sink.taken c.args.out.now) (g.S.Sink.faults c.args.out.now)) in
    let opened = g.Y.Yard.seen c.open_journals-opened.new.yard in
    let said = printing c.open_journals-opened.new.printer.failed (g.S.Sink.taken c.open_journals-opened.new.out) (g.S.Sink.faults c.open_journals-opened.new.out) in
    let books = map book c.open_journals-opened.new.books.items in
    let none : length c.new-books.result.items ≡ 0 = ap length c.new-books.ensures.items in
    let stands = c.open_journals-opened.ensures.stands none in
    let all = c.as_slice-stores.ensures in
    let stores = c.as_slice-stores.result.now in
    let logs = plan.journal_sectors in
    let empty = ap (map book) c.new-books.ensures.items in
    let opens = opened_books (g.Y.Yard.seen c.args.yard.now) (g.Y.Yard.seen c.open_journals-opened.new.yard) plan stores logs (map book c.new-books.result.items) books before.printing said all empty c.in_default.ensures.opened in
    subst (λ n. Rose n (g.Y.Yard.seen c.run_over.new.yard).faults) opens.faults (c.run_over.ensures.yard_fault so)

pub returns-clause-yard_quiet : goal.returns-clause-yard_quiet
returns-clause-yard_quiet g c yard memory =
    let book = seen_of {D = g.row.Y-Disk.Denot} {G = g.Y.Disk.Disk} in
    let pass = g.Y.Arm.Pass.Pass.seen in
    let plan = c.args.plan.now in
    let before = stage [] (g.Y.Yard.seen c.args.yard.now) (g.C.Clock.seen c.args.clock.now) 0 (printing c.args.printer.now.failed (g.S.Sink.taken c.args.out.now) (g.S.Sink.faults c.args.out.now)) in
    let opened = g.Y.Yard.seen c.open_journals-opened.new.yard in
    let said = printing c.open_journals-opened.new.printer.failed (g.S.Sink.taken c.open_journals-opened.new.out) (g.S.Sink.faults c.open_journals-opened.new.out) in
    let books = map book c.open_journals-opened.new.books.items in
    let none : length c.new-books.result.items ≡ 0 = ap length c.new-books.ensures.items in
    let stands = c.open_journals-opened.ensures.stands none in
    let all = c.as_slice-stores.ensures in
    let stores = c.as_slice-stores.result.now in
    let logs = plan.journal_sectors in
    let empty = ap (map book) c.new-books.ensures.items in
    let opens = opened_books (g.Y.Yard.seen c.args.yard.now) (g.Y.Yard.seen c.open_journals-opened.new.yard) plan stores logs (map book c.new-books.result.items) books before.printing said all empty c.in_default.ensures.opened in
    c.run_over.ensures.yard_quiet yard memory ∙ opens.faults

pub returns-clause-device_fault : goal.returns-clause-device_fault
returns-clause-device_fault g c so =
    let rose = c.run_over.ensures.device_fault so in
    (rose.0, subst (λ (k : Counts). Rose (arm_faults k rose.0) (arm_faults (g.Y.Yard.seen c.run_over.new.yard).counts rose.0)) c.open_journals-opened.ensures.leaves.counts rose.1)

pub returns-clause-device_quiet : goal.returns-clause-device_quiet
returns-clause-device_quiet g c device epoch journal yard memory path =
    c.run_over.ensures.device_quiet device epoch journal yard memory path ∙ ap (λ (k : Counts). arm_faults k path) c.open_journals-opened.ensures.leaves.counts

pub returns-clause-can : goal.returns-clause-can
returns-clause-can g c =
    c.run_over.ensures.can

pub returns-in-Err-clause-whole : goal.returns-in-Err-clause-whole
returns-in-Err-clause-whole g c well told =
    let book = seen_of {D = g.row.Y-Disk.Denot} {G = g.Y.Disk.Disk} in
    let pass = g.Y.Arm.Pass.Pass.seen in
    let plan = c.args.plan.now in
    let before = stage [] (g.Y.Yard.seen c.args.yard.now) (g.C.Clock.seen c.args.clock.now) 0 (printing c.args.printer.now.failed (g.S.Sink.taken c.args.out.now) (g.S.Sink.faults c.args.out.now)) in
    let opened = g.Y.Yard.seen c.open_journals-opened.new.yard in
    let said = printing c.open_journals-opened.new.printer.failed (g.S.Sink.taken c.open_journals-opened.new.out) (g.S.Sink.faults c.open_journals-opened.new.out) in
    let books = map book c.open_journals-opened.new.books.items in
    let none : length c.new-books.result.items ≡ 0 = ap length c.new-books.ensures.items in
    let stands = c.open_journals-opened.ensures.stands none in
    let all = c.as_slice-stores.ensures in
    let stores = c.as_slice-stores.result.now in
    let logs = plan.journal_sectors in
    let empty = ap (map book) c.new-books.ensures.items in
    let ends = ends_books (g.Y.Yard.seen c.args.yard.now) (g.Y.Yard.seen c.open_journals-opened.new.yard) plan stores logs (map book c.new-books.result.items) books before.printing said c.in-Err.why all empty c.in-Err.ensures.stops in
    let closing = c.close_journals-closing.result in
    let answers = c.close_journals-closing.ensures.answers in
    let is = c.after_refusal.ensures.status in
    let why = c.in-Err.why in
    let result = c.after_refusal.result in
    absurd (badly_not_well result (ap went_badly is ∙ refused_has went_badly why closing answers (ends_badly (g.Y.Yard.seen c.args.yard.now) (g.Y.Yard.seen c.open_journals-opened.new.yard) plan.stores logs books before.printing said why ends) refl) well)

pub returns-in_default-hands_of-clause-whole : goal.returns-in_default-hands_of-clause-whole
returns-in_default-hands_of-clause-whole g c well told =
    let closing = c.close_journals-closing-in_default-hands_of.result in
    let answers = c.close_journals-closing-in_default-hands_of.ensures.answers in
    let is = c.after_closing.ensures.status in
    let result = c.after_closing.result in
    let memory = is ∙ memory_stays closing answers in
    absurd (badly_not_well result (ap went_badly memory) well)

pub returns-clause-whole : goal.returns-clause-whole
returns-clause-whole g c well told =
    let book = seen_of {D = g.row.Y-Disk.Denot} {G = g.Y.Disk.Disk} in
    let pass = g.Y.Arm.Pass.Pass.seen in
    let plan = c.args.plan.now in
    let before = stage [] (g.Y.Yard.seen c.args.yard.now) (g.C.Clock.seen c.args.clock.now) 0 (printing c.args.printer.now.failed (g.S.Sink.taken c.args.out.now) (g.S.Sink.faults c.args.out.now)) in
    let opened = g.Y.Yard.seen c.open_journals-opened.new.yard in
    let said = printing c.open_journals-opened.new.printer.failed (g.S.Sink.taken c.open_journals-opened.new.out) (g.S.Sink.faults c.open_journals-opened.new.out) in
    let books = map book c.open_journals-opened.new.books.items in
    let none : length c.new-books.result.items ≡ 0 = ap length c.new-books.ensures.items in
    let stands = c.open_journals-opened.ensures.stands none in
    let all = c.as_slice-stores.ensures in
    let stores = c.as_slice-stores.result.now in
    let logs = plan.journal_sectors in
    let empty = ap (map book) c.new-books.ensures.items in
    let opens = opened_books (g.Y.Yard.seen c.args.yard.now) (g.Y.Yard.seen c.open_journals-opened.new.yard) plan stores logs (map book c.new-books.result.items) books before.printing said all empty c.in_default.ensures.opened in
    let seen = hand_seen pass book in
    let hands = map seen c.in-Ok.hands.items in
    let its = c.in-Ok.ensures.hands in
    let after = stage [] (g.Y.Yard.seen c.run_over.new.yard) (g.C.Clock.seen c.run_over.new.clock) 0 (printing c.run_over.new.printer.failed (g.S.Sink.taken c.run_over.new.out) (g.S.Sink.faults c.run_over.new.out)) in
    stands_closed pass book plan before after opened said books c.run_over.result (g.Y.Yard.seen c.args.yard.now) hands opens its c.run_over.ensures.ran c.requires well (tells_after (g.Y.Yard.seen c.args.yard.now) (g.Y.Yard.seen c.open_journals-opened.new.yard) c.open_journals-opened.ensures.leaves.tells told) (from_anew plan stores all (g.Y.Yard.seen c.args.yard.now) (g.Y.Yard.seen c.open_journals-opened.new.yard) logs books stands.from hands its told)
