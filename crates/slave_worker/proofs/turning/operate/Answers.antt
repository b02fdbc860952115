use Rattle.std.proofs.Common.{◌≡◌, ◌∙◌, ℕ, ◌+◌, ◌-◌, ◌*◌, ◌≤◌, ◌==◌, true, false, cond, List, [], length, map, sym, ap, subst, arith}
use Rattle.vd_base.specs.declared.geometry.BlockNo.{BlockNo}
use Rattle.key_state.specs.Entries.{begun, ended}
use Rattle.block_verdict.specs.declared.finding.Finding.{Finding}
use Rattle.claim_table.specs.Passes.{Fitted}
use Rattle.claim_table.specs.Seats.{view_of}
use Rattle.claim_table.specs.declared.view.Made.{Made}
use Rattle.block_ops.specs.Runs.{HeldRun}
use Rattle.worker_tally.specs.Dones.{corrupt_in, fault, fault_put, good, good_put}
use Rattle.worker_tally.specs.declared.done.Look.{Look}
use Rattle.worker_tally.specs.declared.done.Put.{Put}
use Rattle.worker_tally.specs.declared.done.Put.TheVariants.{Ended}
use Rattle.slave_worker.specs.Dids.{AreCorrupt}
use Rattle.slave_worker.specs.Looks.{corrupt_run, forbids, found_by, started}
use Rattle.slave_worker.specs.Standings.{Ticked}
use Rattle.slave_worker.proofs.Operatings.{few_by, found_judged, many_there, none_forbidden, quiet_first, rules_read, rules_wrote}
use Rattle.slave_worker.proofs.Puttings.{calls_add, calls_as, ticked_add}
use Rattle.slave_worker.proofs.Stills.{started_then}
use Rattle.slave_worker.proofs.turning.operate.Given.{Over}
use Rattle.slave_worker.proofs.turning.operate.Goals as goal
use Rattle.slave_worker.proofs.turning.operate.Goals.{After-second_look-again, then-read-via-then-read, then-read-via-else-read+then-forbids}

-- After the second look: the first one allowed the write, the write left as many blocks from the same first on, and the second look found what
-- the verdicts now say.
allowed : (g : Over) (c : After-second_look-again g) → forbids c.first_look-first.result ≡ false
allowed g c = sym c.forbids.ensures ∙ c.if-forbids.false

long : (g : Over) (c : After-second_look-again g) → length c.put-held.result.0.entries.items ≡ length c.args.held.entries.items
long g c = c.put-held.ensures.many ∙ ap (λ (r : HeldRun g.row.A-Pass.Denot). length r.entries) c.first_look-first.ensures.same

begins : (g : Over) (c : After-second_look-again g) → c.put-held.result.0.first.0 ≡ c.args.held.first.0
begins g c = ap (λ (b : BlockNo). b.0) c.put-held.ensures.first ∙ ap (λ (r : HeldRun g.row.A-Pass.Denot). r.first) c.first_look-first.ensures.same

found : (g : Over) (c : After-second_look-again g) → corrupt_in c.second_look-again.result ≡ length (corrupt_run c.args.held.first.0 c.put-held.result.0.entries.items c.second_look-again.new.verdicts)
found g c =
    let at : ℕ = c.args.held.first.0 in
    let entries = c.args.held.entries.items in
    let now = c.put-held.result.0.entries.items in
    let old = c.first_look-first.new.verdicts in
    let new = c.second_look-again.new.verdicts in
    let first : Look = c.first_look-first.result in
    let again : Look = c.second_look-again.result in
    let quiet : corrupt_run at entries old ≡ [] = quiet_first first at entries c.args.verdicts.now old (allowed g c) c.first_look-first.ensures.corrupt c.first_look-first.ensures.kept c.requires.clean in
    many_there again at c.put-held.result.0.first.0 entries now old new (begins g c) (long g c) quiet c.second_look-again.ensures.kept c.second_look-again.ensures.corrupt

pub returns-then-read-clause-follows : goal.returns-then-read-clause-follows
returns-then-read-clause-follows g c =
    let held = c.args.held in
    let first : Look = c.first_look-first.result in
    let must : c.args.read ≡ false → forbids first ≡ true = elim c.then-read.branch [
      | then-read-via-then-read w ↦ λ no. absurd (let both : true ≡ false = sym w.if-read.true ∙ no in cc)
      | then-read-via-else-read+then-forbids w ↦ λ no. sym w.forbids.ensures ∙ w.if-forbids.true
    ] in
    let few : corrupt_in first ≤ length held.entries.items = omega (arith, c.first_look-first.ensures.corrupt, few_by first held.first.0 held.entries.items c.first_look-first.new.verdicts) in
    rules_read c.args.rules.now held.entries.items (length held.entries.items) c.args.read first c.first_look-first.ensures.read c.first_look-first.ensures.preread must few

pub returns-clause-follows : goal.returns-clause-follows
returns-clause-follows g c =
    let a = (goal.at.returns-clause-follows g c).After-second_look-again in
    let had = c.args.held.entries.items in
    let run = c.put-held.result.0 in
    let again : Look = c.second_look-again.result in
    let few : corrupt_in again ≤ length had = omega (arith, long g a, c.second_look-again.ensures.corrupt, few_by again run.first.0 run.entries.items c.second_look-again.new.verdicts) in
    rules_wrote c.args.rules.now had (length had) c.args.read c.first_look-first.result c.put-held.result.1 again c.if-read.false c.first_look-first.ensures.preread (allowed g a) c.put-held.ensures.put c.second_look-again.ensures.reread few

pub returns-clause-called : goal.returns-clause-called
returns-clause-called g c =
    let a = (goal.at.returns-clause-called g c).After-second_look-again in
    let first : Look = c.first_look-first.result in
    let how : Put = c.put-held.result.1 in
    let again : Look = c.second_look-again.result in
    let many : ℕ = length c.args.held.entries.items in
    let to_write : ℕ = length c.first_look-first.new.held.entries.items in
    let to_read : ℕ = length c.put-held.result.0.entries.items in
    let as_many : to_write ≡ many = ap (λ (r : HeldRun g.row.A-Pass.Denot). length r.entries) c.first_look-first.ensures.same in
    let reads : many * good first + (0 + to_read * good again) ≡ many * (good first + good again) = omega (arith, ap (λ (n : ℕ). n * good again) (long g a)) in
    let writes : 0 + (to_write * good_put how + 0) ≡ many * good_put how = omega (arith, ap (λ (n : ℕ). n * good_put how) as_many) in
    let faults : fault first + (fault_put how + fault again) ≡ fault first + fault_put how + fault again = omega arith in
    let one = g.A.Arm.seen c.args.arm.now in
    let two = g.A.Arm.seen c.first_look-first.new.arm in
    let three = g.A.Arm.seen c.put-held.new.arm in
    let four = g.A.Arm.seen c.second_look-again.new.arm in
    let later = calls_add 0 (to_write * good_put how) (fault_put how) (to_read * good again) 0 (fault again) two three four c.put-held.ensures.called c.second_look-again.ensures.called in
    let all = calls_add (many * good first) 0 (fault first) (0 + to_read * good again) (to_write * good_put how + 0) (fault_put how + fault again) one two four c.first_look-first.ensures.called later in
    calls_as (many * good first + (0 + to_read * good again)) (0 + (to_write * good_put how + 0)) (fault first + (fault_put how + fault again))
    (many * (good first + good again)) (many * good_put how) (fault first + fault_put how + fault again) one four reads writes faults all

pub returns-clause-clock : goal.returns-clause-clock
returns-clause-clock g c =
    let one = g.C.Clock.seen c.args.clock.now in
    let two = g.C.Clock.seen c.first_look-first.new.clock in
    let three = g.C.Clock.seen c.put-held.new.clock in
    let four = g.C.Clock.seen c.second_look-again.new.clock in
    let before : ℕ = started c.first_look-first.new.watch in
    let then : ℕ = started c.put-held.new.watch in
    let last : ℕ = started c.second_look-again.new.watch in
    let more : then ≡ then - before + before = omega (arith, c.put-held.ensures.watch) in
    let same : last ≡ 0 + then = omega (arith, c.second_look-again.ensures.watch) in
    let first : Ticked then one.until one three = ticked_add before (then - before) then one two three more (c.first_look-first.ensures.clock c.requires.watch) c.put-held.ensures.clock in
    ticked_add then 0 last one three four same first c.second_look-again.ensures.clock

pub returns-clause-corrupt : goal.returns-clause-corrupt
returns-clause-corrupt g c =
    let a = (goal.at.returns-clause-corrupt g c).After-second_look-again in
    let at : ℕ = c.args.held.first.0 in
    let new = c.second_look-again.new.verdicts in
    let same : length (corrupt_run at c.second_look-again.new.held.entries.items new) ≡ length (corrupt_run at c.put-held.result.0.entries.items new) =
    ap (λ (r : HeldRun g.row.A-Pass.Denot). length (corrupt_run at r.entries new)) c.second_look-again.ensures.same
    in
    omega (arith, (none_forbidden c.first_look-first.result (allowed g a)).1, found g a, same)

pub returns-clause-found : goal.returns-clause-found
returns-clause-found g c =
    let a = (goal.at.returns-clause-found g c).After-second_look-again in
    let store = c.args.store.now in
    let at : ℕ = c.args.held.first.0 in
    let had = c.args.held.entries.items in
    let now = c.put-held.result.0.entries.items in
    let new = c.second_look-again.new.verdicts in
    let how : Put = c.put-held.result.1 in
    let again : Look = c.second_look-again.result in
    let are : AreCorrupt store at now (found_by again at now new) = subst (λ (n : ℕ). AreCorrupt store n now (found_by again n now new)) (begins g a) c.second_look-again.ensures.found in
    let over : how ≡ Ended → now ≡ map ended (map begun had) = λ is. c.put-held.ensures.ended is ∙ ap (λ (r : HeldRun g.row.A-Pass.Denot). map ended (map begun r.entries)) c.first_look-first.ensures.same in
    let judged = found_judged store c.args.rules.now.reread how again at had now new c.second_look-again.ensures.reread over (found g a) are in
    let same : corrupt_run at now new ≡ corrupt_run at c.second_look-again.new.held.entries.items new = ap (λ (r : HeldRun g.row.A-Pass.Denot). corrupt_run at r.entries new) (sym c.second_look-again.ensures.same) in
    subst (λ (fs : List Finding). AreCorrupt store at (cond (corrupt_in again == 0) had (map ended (map begun had))) fs) same judged

pub returns-clause-goes_on : goal.returns-clause-goes_on
returns-clause-goes_on g c none some = c.put-held.ensures.goes_on none

pub returns-clause-sound : goal.returns-clause-sound
returns-clause-sound g c fitted =
    let a = (goal.at.returns-clause-sound g c).After-second_look-again in
    let w = view_of c.put-held.new.seat in
    let there : Fitted w.made = subst (λ (m : Made). Fitted m) (sym c.put-held.ensures.changed.2.made) fitted in
    let none : corrupt_in c.second_look-again.result ≡ 0 = c.second_look-again.ensures.clean w c.put-held.ensures.has there in
    omega (arith, (none_forbidden c.first_look-first.result (allowed g a)).1, none)

pub returns-clause-at : goal.returns-clause-at
returns-clause-at g c still was =
    let one = g.C.Clock.seen c.args.clock.now in
    let two = g.C.Clock.seen c.first_look-first.new.clock in
    let three = g.C.Clock.seen c.put-held.new.clock in
    let ticked = c.first_look-first.ensures.clock c.requires.watch in
    let later = started_then _ _ two three c.first_look-first.new.watch c.put-held.new.watch c.second_look-again.new.watch c.put-held.ensures.clock c.put-held.ensures.at c.second_look-again.ensures.at in
    started_then _ _ one two c.args.watch.now c.first_look-first.new.watch c.second_look-again.new.watch ticked c.first_look-first.ensures.at later still was
