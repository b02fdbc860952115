use Rattle.std.proofs.Common.{◌∙◌, sym, subst, arith, All, map}
use Rattle.std.proofs.lemmas.List.Elements.{All-head, All-tail}
use Rattle.slave_worker.specs.Hands.{IsRunOf, hand_seen}
use Rattle.slave_worker.specs.Sentences.{FaultsAreCounted, FaultsAreFound, NoMoreCorrupt, NotedOnce, ReadsAreGood, WritesAreEnded, WritesAreGood}
use Rattle.run_report.specs.Says.{printing}
use Rattle.run_totals.proofs.Works.{Laws}
use Rattle.plan_runs.specs.Stages.{stage}
use Rattle.plan_runs.proofs.Runs.{all_kept, all_rose, at_limit, first_kept, more_made, none_left, one_goes_on, one_sources, rest_yard, yard_kept, yard_rose}
use Rattle.plan_runs.proofs.running.+run_all.Goals as goal

-- what `turns_add_up` ensures, as far as it is needed
laws : WritesAreEnded → NoMoreCorrupt → ReadsAreGood → WritesAreGood → FaultsAreCounted → FaultsAreFound → NotedOnce → Laws
laws writes no_more reads good_writes faults findings notes = record {
  writes = writes;
  no_more = no_more;
  reads = reads;
  good_writes = good_writes;
  faults = faults;
  findings = findings;
  notes = notes;
}

pub returns-in_default-clause-ran : goal.returns-in_default-clause-ran
returns-in_default-clause-ran g t c = none_left g.Y.Arm.Pass.Pass.seen g.B.Book.seen c.args.plan.now c.args.runs.now _ c.in_default.ensures.cases

pub returns-then-errors-from-clause-ran : goal.returns-then-errors-from-clause-ran
returns-then-errors-from-clause-ran g t c =
    at_limit g.Y.Arm.Pass.Pass.seen g.B.Book.seen c.args.plan.now c.args.runs.now c.in-Some.run'.now c.in-Some.others.now _ c.in-Some.ensures.cases.0 (omega (arith, c.if-errors-from.true, c.from.ensures))

pub run_next-first-requires-clause-run : goal.run_next-first-requires-clause-run
run_next-first-requires-clause-run g t c κs within =
    All-head (IsRunOf c.args.plan.now) c.in-Some.run'.now c.in-Some.others.now (subst (All (IsRunOf c.args.plan.now)) c.in-Some.ensures.cases.0 c.requires.runs)

pub returns-then-is_the_last-clause-device_quiet : goal.returns-then-is_the_last-clause-device_quiet
returns-then-is_the_last-clause-device_quiet g t c =
    let seen = hand_seen g.Y.Arm.Pass.Pass.seen g.B.Book.seen in
    let plan = c.args.plan.now in
    let run = c.in-Some.run'.now in
    let before = stage (map seen c.args.hands.now.items) (g.Y.Yard.seen c.args.yard.now) (g.C.Clock.seen c.args.clock.now) c.args.errors.now (printing c.args.printer.now.failed (g.S.Sink.taken c.args.out.now) (g.S.Sink.faults c.args.out.now)) in
    let between = stage (map seen c.run_next-first.new.hands.items) (g.Y.Yard.seen c.run_next-first.new.yard) (g.C.Clock.seen c.run_next-first.new.clock) c.run_next-first.new.errors (printing c.run_next-first.new.printer.failed (g.S.Sink.taken c.run_next-first.new.out) (g.S.Sink.faults c.run_next-first.new.out)) in
    let e = c.turns_add_up.ensures in
    first_kept g.Y.Arm.Pass.Pass.seen g.B.Book.seen plan (laws e.writes e.no_more e.reads e.good_writes e.faults e.findings e.notes) run before between c.run_next-first.result c.run_next-first.ensures.ran

pub returns-then-is_the_last-clause-sources : goal.returns-then-is_the_last-clause-sources
returns-then-is_the_last-clause-sources g t c =
    let seen = hand_seen g.Y.Arm.Pass.Pass.seen g.B.Book.seen in
    let plan = c.args.plan.now in
    let run = c.in-Some.run'.now in
    let before = stage (map seen c.args.hands.now.items) (g.Y.Yard.seen c.args.yard.now) (g.C.Clock.seen c.args.clock.now) c.args.errors.now (printing c.args.printer.now.failed (g.S.Sink.taken c.args.out.now) (g.S.Sink.faults c.args.out.now)) in
    let between = stage (map seen c.run_next-first.new.hands.items) (g.Y.Yard.seen c.run_next-first.new.yard) (g.C.Clock.seen c.run_next-first.new.clock) c.run_next-first.new.errors (printing c.run_next-first.new.printer.failed (g.S.Sink.taken c.run_next-first.new.out) (g.S.Sink.faults c.run_next-first.new.out)) in
    one_sources g.Y.Arm.Pass.Pass.seen g.B.Book.seen plan run before between c.run_next-first.result c.run_next-first.ensures.ran

pub run_all-rest-requires-clause-runs : goal.run_all-rest-requires-clause-runs
run_all-rest-requires-clause-runs g t c κs within =
    All-tail (IsRunOf c.args.plan.now) c.in-Some.run'.now c.in-Some.others.now (subst (All (IsRunOf c.args.plan.now)) c.in-Some.ensures.cases.0 c.requires.runs)

pub returns-clause-ran : goal.returns-clause-ran
returns-clause-ran g t c =
    let seen = hand_seen g.Y.Arm.Pass.Pass.seen g.B.Book.seen in
    let plan = c.args.plan.now in
    let run = c.in-Some.run'.now in
    let before = stage (map seen c.args.hands.now.items) (g.Y.Yard.seen c.args.yard.now) (g.C.Clock.seen c.args.clock.now) c.args.errors.now (printing c.args.printer.now.failed (g.S.Sink.taken c.args.out.now) (g.S.Sink.faults c.args.out.now)) in
    let between = stage (map seen c.run_next-first.new.hands.items) (g.Y.Yard.seen c.run_next-first.new.yard) (g.C.Clock.seen c.run_next-first.new.clock) c.run_next-first.new.errors (printing c.run_next-first.new.printer.failed (g.S.Sink.taken c.run_next-first.new.out) (g.S.Sink.faults c.run_next-first.new.out)) in
    let after = stage (map seen c.run_all-rest.new.hands.items) (g.Y.Yard.seen c.run_all-rest.new.yard) (g.C.Clock.seen c.run_all-rest.new.clock) c.run_all-rest.new.errors (printing c.run_all-rest.new.printer.failed (g.S.Sink.taken c.run_all-rest.new.out) (g.S.Sink.faults c.run_all-rest.new.out)) in
    let one = c.run_next-first.result in
    let others = c.run_all-rest.result in
    let first = c.run_next-first.ensures.ran in
    let rest = c.run_all-rest.ensures.ran in
    more_made g.Y.Arm.Pass.Pass.seen g.B.Book.seen plan c.args.runs.now run c.in-Some.others.now before between after one others c.worse.result c.in-Some.ensures.cases.0 (omega (arith, c.if-errors-from.false, c.from.ensures)) first (sym c.is_the_last.ensures ∙ c.if-is_the_last.false) rest c.worse.ensures

pub returns-clause-yard_fault : goal.returns-clause-yard_fault
returns-clause-yard_fault g t c yard =
    let seen = hand_seen g.Y.Arm.Pass.Pass.seen g.B.Book.seen in
    let plan = c.args.plan.now in
    let run = c.in-Some.run'.now in
    let before = stage (map seen c.args.hands.now.items) (g.Y.Yard.seen c.args.yard.now) (g.C.Clock.seen c.args.clock.now) c.args.errors.now (printing c.args.printer.now.failed (g.S.Sink.taken c.args.out.now) (g.S.Sink.faults c.args.out.now)) in
    let between = stage (map seen c.run_next-first.new.hands.items) (g.Y.Yard.seen c.run_next-first.new.yard) (g.C.Clock.seen c.run_next-first.new.clock) c.run_next-first.new.errors (printing c.run_next-first.new.printer.failed (g.S.Sink.taken c.run_next-first.new.out) (g.S.Sink.faults c.run_next-first.new.out)) in
    let after = stage (map seen c.run_all-rest.new.hands.items) (g.Y.Yard.seen c.run_all-rest.new.yard) (g.C.Clock.seen c.run_all-rest.new.clock) c.run_all-rest.new.errors (printing c.run_all-rest.new.printer.failed (g.S.Sink.taken c.run_all-rest.new.out) (g.S.Sink.faults c.run_all-rest.new.out)) in
    let one = c.run_next-first.result in
    let others = c.run_all-rest.result in
    let first = c.run_next-first.ensures.ran in
    let rest = c.run_all-rest.ensures.ran in
    let on = one_goes_on g.Y.Arm.Pass.Pass.seen g.B.Book.seen plan run before between one first (sym c.is_the_last.ensures ∙ c.if-is_the_last.false) in
    yard_rose before.yard between.yard after.yard one others c.worse.result c.worse.ensures on c.run_next-first.ensures.yard_cause c.run_all-rest.ensures.yard_fault yard

pub returns-clause-yard_quiet : goal.returns-clause-yard_quiet
returns-clause-yard_quiet g t c yard memory =
    let seen = hand_seen g.Y.Arm.Pass.Pass.seen g.B.Book.seen in
    let plan = c.args.plan.now in
    let run = c.in-Some.run'.now in
    let before = stage (map seen c.args.hands.now.items) (g.Y.Yard.seen c.args.yard.now) (g.C.Clock.seen c.args.clock.now) c.args.errors.now (printing c.args.printer.now.failed (g.S.Sink.taken c.args.out.now) (g.S.Sink.faults c.args.out.now)) in
    let between = stage (map seen c.run_next-first.new.hands.items) (g.Y.Yard.seen c.run_next-first.new.yard) (g.C.Clock.seen c.run_next-first.new.clock) c.run_next-first.new.errors (printing c.run_next-first.new.printer.failed (g.S.Sink.taken c.run_next-first.new.out) (g.S.Sink.faults c.run_next-first.new.out)) in
    let after = stage (map seen c.run_all-rest.new.hands.items) (g.Y.Yard.seen c.run_all-rest.new.yard) (g.C.Clock.seen c.run_all-rest.new.clock) c.run_all-rest.new.errors (printing c.run_all-rest.new.printer.failed (g.S.Sink.taken c.run_all-rest.new.out) (g.S.Sink.faults c.run_all-rest.new.out)) in
    let one = c.run_next-first.result in
    let others = c.run_all-rest.result in
    let first = c.run_next-first.ensures.ran in
    let rest = c.run_all-rest.ensures.ran in
    let on = one_goes_on g.Y.Arm.Pass.Pass.seen g.B.Book.seen plan run before between one first (sym c.is_the_last.ensures ∙ c.if-is_the_last.false) in
    yard_kept before.yard between.yard after.yard one others c.worse.result c.worse.ensures on c.run_next-first.ensures.yard_cause c.run_all-rest.ensures.yard_quiet yard memory

pub returns-clause-willing : goal.returns-clause-willing
returns-clause-willing g t c w yard =
    let seen = hand_seen g.Y.Arm.Pass.Pass.seen g.B.Book.seen in
    let plan = c.args.plan.now in
    let run = c.in-Some.run'.now in
    let before = stage (map seen c.args.hands.now.items) (g.Y.Yard.seen c.args.yard.now) (g.C.Clock.seen c.args.clock.now) c.args.errors.now (printing c.args.printer.now.failed (g.S.Sink.taken c.args.out.now) (g.S.Sink.faults c.args.out.now)) in
    let between = stage (map seen c.run_next-first.new.hands.items) (g.Y.Yard.seen c.run_next-first.new.yard) (g.C.Clock.seen c.run_next-first.new.clock) c.run_next-first.new.errors (printing c.run_next-first.new.printer.failed (g.S.Sink.taken c.run_next-first.new.out) (g.S.Sink.faults c.run_next-first.new.out)) in
    let after = stage (map seen c.run_all-rest.new.hands.items) (g.Y.Yard.seen c.run_all-rest.new.yard) (g.C.Clock.seen c.run_all-rest.new.clock) c.run_all-rest.new.errors (printing c.run_all-rest.new.printer.failed (g.S.Sink.taken c.run_all-rest.new.out) (g.S.Sink.faults c.run_all-rest.new.out)) in
    let one = c.run_next-first.result in
    let others = c.run_all-rest.result in
    let first = c.run_next-first.ensures.ran in
    let rest = c.run_all-rest.ensures.ran in
    let on = one_goes_on g.Y.Arm.Pass.Pass.seen g.B.Book.seen plan run before between one first (sym c.is_the_last.ensures ∙ c.if-is_the_last.false) in
    c.run_all-rest.ensures.willing (c.run_next-first.ensures.same.willing w) (rest_yard one others c.worse.result c.worse.ensures on yard)

pub returns-clause-device_fault : goal.returns-clause-device_fault
returns-clause-device_fault g t c =
    let seen = hand_seen g.Y.Arm.Pass.Pass.seen g.B.Book.seen in
    let plan = c.args.plan.now in
    let run = c.in-Some.run'.now in
    let before = stage (map seen c.args.hands.now.items) (g.Y.Yard.seen c.args.yard.now) (g.C.Clock.seen c.args.clock.now) c.args.errors.now (printing c.args.printer.now.failed (g.S.Sink.taken c.args.out.now) (g.S.Sink.faults c.args.out.now)) in
    let between = stage (map seen c.run_next-first.new.hands.items) (g.Y.Yard.seen c.run_next-first.new.yard) (g.C.Clock.seen c.run_next-first.new.clock) c.run_next-first.new.errors (printing c.run_next-first.new.printer.failed (g.S.Sink.taken c.run_next-first.new.out) (g.S.Sink.faults c.run_next-first.new.out)) in
    let after = stage (map seen c.run_all-rest.new.hands.items) (g.Y.Yard.seen c.run_all-rest.new.yard) (g.C.Clock.seen c.run_all-rest.new.clock) c.run_all-rest.new.errors (printing c.run_all-rest.new.printer.failed (g.S.Sink.taken c.run_all-rest.new.out) (g.S.Sink.faults c.run_all-rest.new.out)) in
    let one = c.run_next-first.result in
    let others = c.run_all-rest.result in
    let first = c.run_next-first.ensures.ran in
    let rest = c.run_all-rest.ensures.ran in
    let e = c.turns_add_up.ensures in
    all_rose g.Y.Arm.Pass.Pass.seen g.B.Book.seen plan (laws e.writes e.no_more e.reads e.good_writes e.faults e.findings e.notes) run c.in-Some.others.now before between after one others c.worse.result first rest c.worse.ensures c.run_all-rest.ensures.device_fault

pub returns-clause-device_quiet : goal.returns-clause-device_quiet
returns-clause-device_quiet g t c =
    let seen = hand_seen g.Y.Arm.Pass.Pass.seen g.B.Book.seen in
    let plan = c.args.plan.now in
    let run = c.in-Some.run'.now in
    let before = stage (map seen c.args.hands.now.items) (g.Y.Yard.seen c.args.yard.now) (g.C.Clock.seen c.args.clock.now) c.args.errors.now (printing c.args.printer.now.failed (g.S.Sink.taken c.args.out.now) (g.S.Sink.faults c.args.out.now)) in
    let between = stage (map seen c.run_next-first.new.hands.items) (g.Y.Yard.seen c.run_next-first.new.yard) (g.C.Clock.seen c.run_next-first.new.clock) c.run_next-first.new.errors (printing c.run_next-first.new.printer.failed (g.S.Sink.taken c.run_next-first.new.out) (g.S.Sink.faults c.run_next-first.new.out)) in
    let after = stage (map seen c.run_all-rest.new.hands.items) (g.Y.Yard.seen c.run_all-rest.new.yard) (g.C.Clock.seen c.run_all-rest.new.clock) c.run_all-rest.new.errors (printing c.run_all-rest.new.printer.failed (g.S.Sink.taken c.run_all-rest.new.out) (g.S.Sink.faults c.run_all-rest.new.out)) in
    let one = c.run_next-first.result in
    let others = c.run_all-rest.result in
    let first = c.run_next-first.ensures.ran in
    let rest = c.run_all-rest.ensures.ran in
    let e = c.turns_add_up.ensures in
    let on = one_goes_on g.Y.Arm.Pass.Pass.seen g.B.Book.seen plan run before between one first (sym c.is_the_last.ensures ∙ c.if-is_the_last.false) in
    all_kept g.Y.Arm.Pass.Pass.seen g.B.Book.seen plan (laws e.writes e.no_more e.reads e.good_writes e.faults e.findings e.notes) run c.in-Some.others.now before between after one others c.worse.result first rest c.worse.ensures on c.run_all-rest.ensures.device_quiet

pub returns-clause-sources : goal.returns-clause-sources
returns-clause-sources g t c path =
    let seen = hand_seen g.Y.Arm.Pass.Pass.seen g.B.Book.seen in
    let plan = c.args.plan.now in
    let run = c.in-Some.run'.now in
    let before = stage (map seen c.args.hands.now.items) (g.Y.Yard.seen c.args.yard.now) (g.C.Clock.seen c.args.clock.now) c.args.errors.now (printing c.args.printer.now.failed (g.S.Sink.taken c.args.out.now) (g.S.Sink.faults c.args.out.now)) in
    let between = stage (map seen c.run_next-first.new.hands.items) (g.Y.Yard.seen c.run_next-first.new.yard) (g.C.Clock.seen c.run_next-first.new.clock) c.run_next-first.new.errors (printing c.run_next-first.new.printer.failed (g.S.Sink.taken c.run_next-first.new.out) (g.S.Sink.faults c.run_next-first.new.out)) in
    c.run_all-rest.ensures.sources path ∙ one_sources g.Y.Arm.Pass.Pass.seen g.B.Book.seen plan run before between c.run_next-first.result c.run_next-first.ensures.ran path
