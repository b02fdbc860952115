use Rattle.std.proofs.Common.{◌∙◌, refl, sym, ap, subst, arith, All, List, [], length, map}
use Rattle.std.proofs.lemmas.List.{length-map}
use Rattle.vd_outside.specs.Causes.{Rose}
use Rattle.vd_yard.specs.Counts.{Counts, arm_faults, source_faults}
use Rattle.plan_types.specs.declared.run.RunPlan.{RunPlan}
use Rattle.slave_worker.specs.Hands.{IsRunOf, hand_seen}
use Rattle.run_report.specs.Says.{printing}
use Rattle.run_report.specs.declared.status.Status.TheVariants as status
use Rattle.journal_core.specs.Book.{seen_of}
use Rattle.plan_journals.specs.Closing.{AreJournalsApart}
use Rattle.plan_journals.specs.Growth.{ChangesOnlyJournals}
use Rattle.plan_journals.specs.Open.{held_of, journals_are_out, out_besides}
use Rattle.plan_runs.specs.Stages.{stage}
use Rattle.plan_runs.proofs.Opened.{all_there}
use Rattle.plan_runs.proofs.Parted.{as_many}
use Rattle.plan_runs.proofs.Quieted.{runs_of}
use Rattle.plan_journaled.specs.Over.{books_of}
use Rattle.plan_journaled.proofs.Anew.{some_rose_of}
use Rattle.plan_journaled.proofs.Closed.{all_out, closed_from, closing_failed, ends_over, follows_over, held_books, journals_left, left_books, length_left, runs_closed, runs_of_plan, stopped_over, tells_after, tells_before}
use Rattle.plan_journaled.proofs.Ending.{can_over, heavy_before, same_before, was_before}
use Rattle.plan_journaled.proofs.over.run_over.Goals as goal

pub run_all-work-requires-clause-runs : goal.run_all-work-requires-clause-runs
run_all-work-requires-clause-runs g c κs within =
    subst (λ (l : List RunPlan). All (IsRunOf c.args.plan.now) l) (sym c.as_slice.ensures) (runs_of c.args.plan.now c.requires.plan)

pub leave-requires-clause-stores : goal.leave-requires-clause-stores
leave-requires-clause-stores g c κs within =
    let book = seen_of {D = g.row.Y-Disk.Denot} {G = g.Y.Disk.Disk} in
    all_there g.Y.Arm.Pass.Pass.seen book c.args.plan.now c.run_all-work.new.hands.items c.run_all-work.ensures.stores

pub leave-requires-clause-out : goal.leave-requires-clause-out
leave-requires-clause-out g c κs within =
    (out_besides c.requires.out.0 c.args.plan.now.stores, c.run_all-work.ensures.passes (out_besides c.requires.out.0 c.args.plan.now.stores) c.requires.out.1)

pub leave-requires-clause-room : goal.leave-requires-clause-room
leave-requires-clause-room g c κs within =
    let book = seen_of {D = g.row.Y-Disk.Denot} {G = g.Y.Disk.Disk} in
    let pass = g.Y.Arm.Pass.Pass.seen in
    let seen = hand_seen pass book in
    let plan = c.args.plan.now in
    let many = as_many plan (map seen c.run_all-work.new.hands.items) c.run_all-work.ensures.stores in
    let were = as_many plan (map seen c.args.hands.items) c.requires.stores in
    omega (arith, many, were, length-map c.run_all-work.new.hands.items seen, length-map c.args.hands.items seen, ap length c.requires.none, c.requires.room)

pub close_journals-closing-requires-clause-few : goal.close_journals-closing-requires-clause-few
close_journals-closing-requires-clause-few g c κs within =
    let book = seen_of {D = g.row.Y-Disk.Denot} {G = g.Y.Disk.Disk} in
    let pass = g.Y.Arm.Pass.Pass.seen in
    let seen = hand_seen pass book in
    let plan = c.args.plan.now in
    let many = as_many plan (map seen c.run_all-work.new.hands.items) c.run_all-work.ensures.stores in
    let left = length_left c.args.books.items c.leave.new.books.items c.run_all-work.new.hands.items c.requires.none c.leave.ensures.books in
    omega (arith, many, left, length-map c.run_all-work.new.hands.items seen, ap length c.as_slice-2.ensures)

pub close_journals-closing-requires-clause-out : goal.close_journals-closing-requires-clause-out
close_journals-closing-requires-clause-out g c κs within =
    let book = seen_of {D = g.row.Y-Disk.Denot} {G = g.Y.Disk.Disk} in
    let pass = g.Y.Arm.Pass.Pass.seen in
    let seen = hand_seen pass book in
    let plan = c.args.plan.now in
    let many = as_many plan (map seen c.run_all-work.new.hands.items) c.run_all-work.ensures.stores in
    let left = length_left c.args.books.items c.leave.new.books.items c.run_all-work.new.hands.items c.requires.none c.leave.ensures.books in
    let out = c.requires.out.0 in
    let was = c.requires.out.1 in
    let journals = journals_left plan (map seen c.args.hands.items) (map seen c.run_all-work.new.hands.items) out (g.Y.Yard.seen c.args.yard.now).out (g.Y.Yard.seen c.run_all-work.new.yard).out (g.Y.Yard.seen c.leave.new.yard).out was (c.run_all-work.ensures.passes (out_besides out plan.stores)) c.leave.ensures.back.out in
    let all = all_out out (g.Y.Yard.seen c.leave.new.yard).out plan c.as_slice-2.result.now (length c.leave.new.books.items) c.as_slice-2.ensures (omega (arith, many, left, length-map c.run_all-work.new.hands.items seen)) journals in
    journals_are_out out all

pub returns-clause-back : goal.returns-clause-back
returns-clause-back g c out was =
    let book = seen_of {D = g.row.Y-Disk.Denot} {G = g.Y.Disk.Disk} in
    let pass = g.Y.Arm.Pass.Pass.seen in
    let seen = hand_seen pass book in
    let plan = c.args.plan.now in
    let many = as_many plan (map seen c.run_all-work.new.hands.items) c.run_all-work.ensures.stores in
    let left = length_left c.args.books.items c.leave.new.books.items c.run_all-work.new.hands.items c.requires.none c.leave.ensures.books in
    let journals = journals_left plan (map seen c.args.hands.items) (map seen c.run_all-work.new.hands.items) out (g.Y.Yard.seen c.args.yard.now).out (g.Y.Yard.seen c.run_all-work.new.yard).out (g.Y.Yard.seen c.leave.new.yard).out was (c.run_all-work.ensures.passes (out_besides out plan.stores)) c.leave.ensures.back.out in
    let all = all_out out (g.Y.Yard.seen c.leave.new.yard).out plan c.as_slice-2.result.now (length c.leave.new.books.items) c.as_slice-2.ensures (omega (arith, many, left, length-map c.run_all-work.new.hands.items seen)) journals in
    c.close_journals-closing.ensures.back out all

pub returns-clause-ran : goal.returns-clause-ran
returns-clause-ran g c =
    let book = seen_of {D = g.row.Y-Disk.Denot} {G = g.Y.Disk.Disk} in
    let pass = g.Y.Arm.Pass.Pass.seen in
    let seen = hand_seen pass book in
    let plan = c.args.plan.now in
    let before = stage (map seen c.args.hands.items) (g.Y.Yard.seen c.args.yard.now) (g.C.Clock.seen c.args.clock.now) 0 (printing c.args.printer.now.failed (g.S.Sink.taken c.args.out.now) (g.S.Sink.faults c.args.out.now)) in
    let last = stage (map seen c.run_all-work.new.hands.items) (g.Y.Yard.seen c.run_all-work.new.yard) (g.C.Clock.seen c.run_all-work.new.clock) c.run_all-work.new.errors (printing c.run_all-work.new.printer.failed (g.S.Sink.taken c.run_all-work.new.out) (g.S.Sink.faults c.run_all-work.new.out)) in
    let made = runs_of_plan pass book plan c.as_slice.result.now before last c.run_all-work.result c.as_slice.ensures c.run_all-work.ensures.ran in
    let its = left_books pass book c.args.books.items c.leave.new.books.items c.run_all-work.new.hands.items c.requires.none c.leave.ensures.books in
    let after = stage [] (g.Y.Yard.seen c.close_journals-closing.new.yard) (g.C.Clock.seen c.run_all-work.new.clock) 0 (printing c.close_journals-closing.new.printer.failed (g.S.Sink.taken c.close_journals-closing.new.out) (g.S.Sink.faults c.close_journals-closing.new.out)) in
    runs_closed pass book plan before last after c.run_all-work.result c.close_journals-closing.result c.after_closing.result (g.Y.Yard.seen c.leave.new.yard) (map held_of c.leave.new.books.items) (map book c.leave.new.books.items) c.as_slice-2.result.now c.as_slice-2.ensures c.requires.stores made c.run_all-work.ensures.same.tells c.leave.ensures.back (held_books c.leave.new.books.items) its c.close_journals-closing.ensures.ends refl c.close_journals-closing.ensures.answers c.close_journals-closing.ensures.leaves c.close_journals-closing.ensures.faults c.after_closing.ensures.status c.close_journals-closing.ensures.whole

pub returns-clause-grows : goal.returns-clause-grows
returns-clause-grows g c starts first from grown =
    let book = seen_of {D = g.row.Y-Disk.Denot} {G = g.Y.Disk.Disk} in
    let pass = g.Y.Arm.Pass.Pass.seen in
    let seen = hand_seen pass book in
    let plan = c.args.plan.now in
    let before = stage (map seen c.args.hands.items) (g.Y.Yard.seen c.args.yard.now) (g.C.Clock.seen c.args.clock.now) 0 (printing c.args.printer.now.failed (g.S.Sink.taken c.args.out.now) (g.S.Sink.faults c.args.out.now)) in
    let last = stage (map seen c.run_all-work.new.hands.items) (g.Y.Yard.seen c.run_all-work.new.yard) (g.C.Clock.seen c.run_all-work.new.clock) c.run_all-work.new.errors (printing c.run_all-work.new.printer.failed (g.S.Sink.taken c.run_all-work.new.out) (g.S.Sink.faults c.run_all-work.new.out)) in
    let made = runs_of_plan pass book plan c.as_slice.result.now before last c.run_all-work.result c.as_slice.ensures c.run_all-work.ensures.ran in
    let its = left_books pass book c.args.books.items c.leave.new.books.items c.run_all-work.new.hands.items c.requires.none c.leave.ensures.books in
    let follow = follows_over pass book plan before last c.run_all-work.result c.requires.stores made in
    let tells = c.leave.ensures.back.tells ∙ c.run_all-work.ensures.same.tells in
    let books = map book c.leave.new.books.items in
    let stores = c.as_slice-2.result.now in
    c.close_journals-closing.ensures.grows starts first
    (λ told. closed_from first plan stores starts (books_of before.hands) (books_of last.hands) books c.as_slice-2.ensures its follow (from (tells_before (g.Y.Yard.seen c.args.yard.now) (g.Y.Yard.seen c.leave.new.yard) tells told)))
    (subst (ChangesOnlyJournals starts first) (sym (c.leave.ensures.back.disks ∙ c.run_all-work.ensures.same.disks)) grown)

pub returns-clause-journal_fault : goal.returns-clause-journal_fault
returns-clause-journal_fault g c starts first failed told apart from =
    let book = seen_of {D = g.row.Y-Disk.Denot} {G = g.Y.Disk.Disk} in
    let pass = g.Y.Arm.Pass.Pass.seen in
    let seen = hand_seen pass book in
    let plan = c.args.plan.now in
    let before = stage (map seen c.args.hands.items) (g.Y.Yard.seen c.args.yard.now) (g.C.Clock.seen c.args.clock.now) 0 (printing c.args.printer.now.failed (g.S.Sink.taken c.args.out.now) (g.S.Sink.faults c.args.out.now)) in
    let last = stage (map seen c.run_all-work.new.hands.items) (g.Y.Yard.seen c.run_all-work.new.yard) (g.C.Clock.seen c.run_all-work.new.clock) c.run_all-work.new.errors (printing c.run_all-work.new.printer.failed (g.S.Sink.taken c.run_all-work.new.out) (g.S.Sink.faults c.run_all-work.new.out)) in
    let made = runs_of_plan pass book plan c.as_slice.result.now before last c.run_all-work.result c.as_slice.ensures c.run_all-work.ensures.ran in
    let its = left_books pass book c.args.books.items c.leave.new.books.items c.run_all-work.new.hands.items c.requires.none c.leave.ensures.books in
    let follow = follows_over pass book plan before last c.run_all-work.result c.requires.stores made in
    let tells = c.leave.ensures.back.tells ∙ c.run_all-work.ensures.same.tells in
    let books = map book c.leave.new.books.items in
    let stores = c.as_slice-2.result.now in
    let closing = closing_failed c.run_all-work.result c.close_journals-closing.result c.after_closing.result books c.close_journals-closing.ensures.answers c.after_closing.ensures.status failed (stopped_over pass book plan before last c.run_all-work.result books its made) c.close_journals-closing.ensures.stopped in
    some_rose_of plan stores first (g.Y.Yard.seen c.close_journals-closing.new.yard).disks c.as_slice-2.ensures
    (c.close_journals-closing.ensures.fault starts first closing (tells_after (g.Y.Yard.seen c.args.yard.now) (g.Y.Yard.seen c.leave.new.yard) tells told) (subst AreJournalsApart (sym c.as_slice-2.ensures) apart)
    (closed_from first plan stores starts (books_of before.hands) (books_of last.hands) books c.as_slice-2.ensures its follow from))

pub returns-clause-tells : goal.returns-clause-tells
returns-clause-tells g c =
    c.close_journals-closing.ensures.leaves.tells ∙ c.leave.ensures.back.tells ∙ c.run_all-work.ensures.same.tells

pub returns-clause-willing : goal.returns-clause-willing
returns-clause-willing g c w =
    let work = c.run_all-work.result in
    let closing = c.close_journals-closing.result in
    let result = c.after_closing.result in
    let answers = c.close_journals-closing.ensures.answers in
    let is = c.after_closing.ensures.status in
    (c.close_journals-closing.ensures.leaves.willing (c.leave.ensures.back.willing (c.run_all-work.ensures.same.willing w)), λ so. c.run_all-work.ensures.willing w (same_before status.Yard work closing result (λ e. cc) (λ e. cc) answers is so))

pub returns-clause-files : goal.returns-clause-files
returns-clause-files g c kind path there =
    c.close_journals-closing.ensures.leaves.files kind path (c.leave.ensures.back.files kind path (c.run_all-work.ensures.same.files kind path there))

pub returns-clause-sources : goal.returns-clause-sources
returns-clause-sources g c path =
    ap (λ (k : Counts). source_faults k path) (c.close_journals-closing.ensures.leaves.counts ∙ c.leave.ensures.back.counts) ∙ c.run_all-work.ensures.sources path

pub returns-clause-yard_fault : goal.returns-clause-yard_fault
returns-clause-yard_fault g c so =
    let work = c.run_all-work.result in
    let closing = c.close_journals-closing.result in
    let result = c.after_closing.result in
    let answers = c.close_journals-closing.ensures.answers in
    let is = c.after_closing.ensures.status in
    subst (λ n. Rose (g.Y.Yard.seen c.args.yard.now).faults n) (sym (c.close_journals-closing.ensures.faults ∙ c.leave.ensures.back.faults)) (c.run_all-work.ensures.yard_fault (same_before status.Yard work closing result (λ e. cc) (λ e. cc) answers is so))

pub returns-clause-yard_quiet : goal.returns-clause-yard_quiet
returns-clause-yard_quiet g c yard memory =
    let work = c.run_all-work.result in
    let closing = c.close_journals-closing.result in
    let result = c.after_closing.result in
    let answers = c.close_journals-closing.ensures.answers in
    let is = c.after_closing.ensures.status in
    c.close_journals-closing.ensures.faults ∙ c.leave.ensures.back.faults
    ∙ c.run_all-work.ensures.yard_quiet (heavy_before status.Yard work closing result refl answers is yard memory) (heavy_before status.NoMemory work closing result refl answers is memory memory)

pub returns-clause-device_fault : goal.returns-clause-device_fault
returns-clause-device_fault g c so =
    let work = c.run_all-work.result in
    let closing = c.close_journals-closing.result in
    let result = c.after_closing.result in
    let answers = c.close_journals-closing.ensures.answers in
    let is = c.after_closing.ensures.status in
    let rose = c.run_all-work.ensures.device_fault (same_before status.Device work closing result (λ e. cc) (λ e. cc) answers is so) in
    (rose.0, subst (λ (k : Counts). Rose (arm_faults (g.Y.Yard.seen c.args.yard.now).counts rose.0) (arm_faults k rose.0)) (sym (c.close_journals-closing.ensures.leaves.counts ∙ c.leave.ensures.back.counts)) rose.1)

pub returns-clause-device_quiet : goal.returns-clause-device_quiet
returns-clause-device_quiet g c device epoch journal yard memory path =
    let work = c.run_all-work.result in
    let closing = c.close_journals-closing.result in
    let result = c.after_closing.result in
    let answers = c.close_journals-closing.ensures.answers in
    let is = c.after_closing.ensures.status in
    let same = sym (was_before work closing result answers is journal memory) in
    ap (λ (k : Counts). arm_faults k path) (c.close_journals-closing.ensures.leaves.counts ∙ c.leave.ensures.back.counts)
    ∙ c.run_all-work.ensures.device_quiet (λ e. device (same ∙ e)) (λ e. epoch (same ∙ e)) (λ e. journal (same ∙ e)) (λ e. yard (same ∙ e)) (λ e. memory (same ∙ e)) path

pub returns-clause-can : goal.returns-clause-can
returns-clause-can g c =
    let book = seen_of {D = g.row.Y-Disk.Denot} {G = g.Y.Disk.Disk} in
    let pass = g.Y.Arm.Pass.Pass.seen in
    let seen = hand_seen pass book in
    let plan = c.args.plan.now in
    let before = stage (map seen c.args.hands.items) (g.Y.Yard.seen c.args.yard.now) (g.C.Clock.seen c.args.clock.now) 0 (printing c.args.printer.now.failed (g.S.Sink.taken c.args.out.now) (g.S.Sink.faults c.args.out.now)) in
    let last = stage (map seen c.run_all-work.new.hands.items) (g.Y.Yard.seen c.run_all-work.new.yard) (g.C.Clock.seen c.run_all-work.new.clock) c.run_all-work.new.errors (printing c.run_all-work.new.printer.failed (g.S.Sink.taken c.run_all-work.new.out) (g.S.Sink.faults c.run_all-work.new.out)) in
    let made = runs_of_plan pass book plan c.as_slice.result.now before last c.run_all-work.result c.as_slice.ensures c.run_all-work.ensures.ran in
    let work = c.run_all-work.result in
    let closing = c.close_journals-closing.result in
    let result = c.after_closing.result in
    let answers = c.close_journals-closing.ensures.answers in
    let is = c.after_closing.ensures.status in
    can_over work closing result answers is (ends_over pass book plan before last work made)
