use Rattle.std.proofs.Common.{◌≡◌, ◌∙◌, ℕ, ◌<◌, inl, inr, refl, sym, ap, subst, length, map, arith, List, []}
use Rattle.key_state.specs.Entries.{begun, ended}
use Rattle.key_state.specs.declared.entry.Entry.{Entry}
use Rattle.claim_table.specs.Sums.{Each}
use Rattle.claim_table.specs.Runs.{ArePassesFor}
use Rattle.claim_table.specs.Seats.{view_of}
use Rattle.claim_table.specs.declared.view.View.{View}
use Rattle.block_ops.specs.Runs.{HeldRun, IsBegun, IsLive, held_run}
use Rattle.block_ops.proofs.RunParts.{length_begun, length_ended}
use Rattle.seat_ops.specs.Holds.{falling}
use Rattle.slave_worker.specs.Looks.{first_settled}
use Rattle.slave_worker.specs.Standings.{Changed}
use Rattle.slave_worker.proofs.Lookings.{passes_of}
use Rattle.slave_worker.proofs.Puttings.{Begins, begins, changed_as, changed_once, changed_then, changed_twice, falling_as, has_after, has_same, live_begun, live_either, live_ended, live_since_begun, many_either, over_unended, over_where, unended_either, unended_made, written_fit}
use Rattle.slave_worker.proofs.Refusals.{answered, answered_either, refuses_flush, refuses_queue, refuses_record}
use Rattle.slave_worker.proofs.writing.put.Given.{Over}
use Rattle.slave_worker.proofs.writing.put.Goals as goal
use Rattle.slave_worker.proofs.writing.put.Goals.{In-Ok-answer, In-Ok-confirm_begun}

-- the run whose write was begun
begun_run : (g : Over) (c : In-Ok-confirm_begun g) → Begins g.A.Pass.Pass.seen c.args.store.now (view_of c.args.seat.now).made (held_run c.args.held) c.in-Ok-confirm_begun.begun
begun_run g c =
    begins g.A.Pass.Pass.seen c.args.store.now (view_of c.args.seat.now) (held_run c.args.held) c.in-Ok.queued c.in-Ok-confirm_begun.begun c.requires.has c.requires.live c.in-Ok.ensures.first c.in-Ok.ensures.queued
    (c.in-Ok.ensures.fits (view_of c.args.seat.now).made c.requires.has.passes) c.in-Ok-confirm_begun.ensures.same

-- the same, and the two uses of the book, once the device has written it
written_run : (g : Over) (c : In-Ok-answer g) → Begins g.A.Pass.Pass.seen c.args.store.now (view_of c.args.seat.now).made (held_run c.args.held) c.in-Ok-confirm_begun.begun
written_run g c =
    begins g.A.Pass.Pass.seen c.args.store.now (view_of c.args.seat.now) (held_run c.args.held) c.in-Ok.queued c.in-Ok-confirm_begun.begun c.requires.has c.requires.live c.in-Ok.ensures.first c.in-Ok.ensures.queued
    (c.in-Ok.ensures.fits (view_of c.args.seat.now).made c.requires.has.passes) c.in-Ok-confirm_begun.ensures.same

written_uses : (g : Over) (c : In-Ok-answer g) → Changed 2 (view_of c.args.seat.now) (view_of c.confirm_begun.new.seat) [] []
written_uses g c = changed_twice (view_of c.args.seat.now) (view_of c.queue_held.new.seat) (view_of c.confirm_begun.new.seat) c.in-Ok.ensures.used c.in-Ok-confirm_begun.ensures.used

-- the run that the device has written
written_passes : (g : Over) (c : In-Ok-answer g) → ArePassesFor g.A.Pass.Pass.seen (view_of c.args.seat.now).made c.in-Ok-answer.written.first (map ended c.in-Ok-answer.written.entries) c.in-Ok-answer.written.passes
written_passes g c =
    let b = written_run g c in
    let made = (view_of c.args.seat.now).made in
    written_fit g.A.Pass.Pass.seen made c.in-Ok-confirm_begun.begun c.in-Ok-answer.written c.in-Ok-answer.ensures.first c.in-Ok-answer.ensures.entries (c.in-Ok-answer.ensures.fits made b.store b.fit)

written_begun : (g : Over) (c : In-Ok-answer g) → Each IsBegun c.in-Ok-answer.written.entries
written_begun g c = subst (Each IsBegun) (sym c.in-Ok-answer.ensures.entries) (written_run g c).each

written_entries : (g : Over) (c : In-Ok-answer g) → c.in-Ok-answer.written.entries ≡ map begun c.args.held.entries.items
written_entries g c = c.in-Ok-answer.ensures.entries ∙ (written_run g c).entries

written_many : (g : Over) (c : In-Ok-answer g) → length c.in-Ok-answer.written.entries ≡ length c.args.held.entries.items
written_many g c = ap (λ (es : List Entry). length es) (written_entries g c) ∙ length_begun c.args.held.entries.items

written_blocks : (g : Over) (c : In-Ok-answer g) → falling c.in-Ok-answer.written.first (length c.in-Ok-answer.written.entries) ≡ falling c.args.held.first.0 (length c.args.held.entries.items)
written_blocks g c =
    let first : c.in-Ok-answer.written.first ≡ c.args.held.first.0 = c.in-Ok-answer.ensures.first ∙ (written_run g c).first in
    falling_as c.in-Ok-answer.written.first c.args.held.first.0 c.in-Ok-answer.written.entries c.args.held.entries.items first (written_many g c)

pub returns-in-Err-clause-live : goal.returns-in-Err-clause-live
returns-in-Err-clause-live g c =
    let was = c.args.held.entries.items in
    live_either was (map begun was) c.in-Err.held.entries.items c.in-Err.ensures.refused c.requires.live (live_begun was c.requires.live)

pub returns-in-Err-clause-changed : goal.returns-in-Err-clause-changed
returns-in-Err-clause-changed g c = (1, inl refl, changed_once (view_of c.args.seat.now) (view_of c.queue_held.new.seat) [] [] c.in-Err.ensures.used)

pub returns-in-Err-confirm_begun-clause-live : goal.returns-in-Err-confirm_begun-clause-live
returns-in-Err-confirm_begun-clause-live g c =
    let was = c.args.held.entries.items in
    let now : c.in-Err-confirm_begun.held.entries.items ≡ map begun was = ap (λ (r : HeldRun g.row.A-Pass.Denot). r.entries) c.in-Err-confirm_begun.ensures.same ∙ c.in-Ok.ensures.queued in
    subst (Each IsLive) (sym now) (live_begun was c.requires.live)

pub returns-in-Err-confirm_begun-clause-changed : goal.returns-in-Err-confirm_begun-clause-changed
returns-in-Err-confirm_begun-clause-changed g c =
    (2, inr refl, changed_twice (view_of c.args.seat.now) (view_of c.queue_held.new.seat) (view_of c.confirm_begun.new.seat) c.in-Ok.ensures.used c.in-Err-confirm_begun.ensures.used)

pub write_block-answer-requires-clause-passes : goal.write_block-answer-requires-clause-passes
write_block-answer-requires-clause-passes g c κs within =
    let run = c.in-Ok-confirm_begun.begun in
    let b = begun_run g (goal.at.write_block-answer-requires-clause-passes g c).In-Ok-confirm_begun in
    passes_of g.A.Pass.Pass.seen (view_of c.args.seat.now).made c.args.store.now run.first run.entries run.passes b.store b.fit

pub returns-in-Err-answer-clause-live : goal.returns-in-Err-answer-clause-live
returns-in-Err-answer-clause-live g c =
    let run = c.in-Ok-confirm_begun.begun in
    let b = begun_run g (goal.at.returns-in-Err-answer-clause-live g c).In-Ok-confirm_begun in
    let now : c.back.result.entries.items ≡ run.entries = ap (λ (r : HeldRun g.row.A-Pass.Denot). r.entries) c.back.ensures ∙ c.in-Err-answer.ensures.entries in
    subst (Each IsLive) (sym now) (live_since_begun run.entries b.each)

pub returns-in-Err-answer-clause-changed : goal.returns-in-Err-answer-clause-changed
returns-in-Err-answer-clause-changed g c =
    (2, refl, changed_twice (view_of c.args.seat.now) (view_of c.queue_held.new.seat) (view_of c.confirm_begun.new.seat) c.in-Ok.ensures.used c.in-Ok-confirm_begun.ensures.used)

pub returns-in-Ok-end_written-clause-has : goal.returns-in-Ok-end_written-clause-has
returns-in-Ok-end_written-clause-has g c =
    let a = (goal.at.returns-in-Ok-end_written-clause-has g c).In-Ok-answer in
    let seen = g.A.Pass.Pass.seen in
    let v : View = view_of c.args.seat.now in
    let w : View = view_of c.end_written.new.seat in
    let old = held_run c.args.held in
    let written = c.in-Ok-answer.written in
    let over = c.in-Ok-end_written.ended in
    let many : length over.entries ≡ length old.entries = ap (λ (es : List Entry). length es) c.in-Ok-end_written.ensures.ended.0 ∙ length_ended written.entries ∙ written_many g a in
    let made : w.made ≡ v.made = c.in-Ok-end_written.ensures.ended.1.made ∙ (written_uses g a).made in
    has_same seen c.args.store.now w over (held_run c.back-in-Ok-end_written.result) c.back-in-Ok-end_written.ensures
    (has_after seen c.args.store.now v w old over written.first c.requires.has made c.in-Ok-end_written.ensures.first many c.in-Ok-end_written.ensures.holds (c.in-Ok-end_written.ensures.fits v.made (written_passes g a)))

pub returns-in-Ok-end_written-clause-live : goal.returns-in-Ok-end_written-clause-live
returns-in-Ok-end_written-clause-live g c =
    let a = (goal.at.returns-in-Ok-end_written-clause-live g c).In-Ok-answer in
    let written = c.in-Ok-answer.written in
    let now : c.back-in-Ok-end_written.result.entries.items ≡ map ended written.entries = ap (λ (r : HeldRun g.row.A-Pass.Denot). r.entries) c.back-in-Ok-end_written.ensures ∙ c.in-Ok-end_written.ensures.ended.0 in
    subst (Each IsLive) (sym now) (live_ended written.entries (written_begun g a))

pub returns-in-Ok-end_written-clause-ended : goal.returns-in-Ok-end_written-clause-ended
returns-in-Ok-end_written-clause-ended g c is =
    let a = (goal.at.returns-in-Ok-end_written-clause-ended g c).In-Ok-answer in
    ap (λ (r : HeldRun g.row.A-Pass.Denot). r.entries) c.back-in-Ok-end_written.ensures ∙ c.in-Ok-end_written.ensures.ended.0 ∙ ap (λ (es : List Entry). map ended es) (written_entries g a)

pub returns-in-Ok-end_written-clause-changed : goal.returns-in-Ok-end_written-clause-changed
returns-in-Ok-end_written-clause-changed g c =
    let a = (goal.at.returns-in-Ok-end_written-clause-changed g c).In-Ok-answer in
    let v : View = view_of c.args.seat.now in
    let w : View = view_of c.confirm_begun.new.seat in
    let x : View = view_of c.end_written.new.seat in
    let those : List ℕ = falling c.in-Ok-answer.written.first (length c.in-Ok-answer.written.entries) in
    let blocks : List ℕ = falling c.args.held.first.0 (length c.args.held.entries.items) in
    let last : Changed 1 w x blocks [] = changed_as 1 w x those [] blocks [] (written_blocks g a) refl (changed_once w x those [] c.in-Ok-end_written.ensures.ended.1) in
    (3, refl, changed_then 2 1 3 v w x blocks [] refl (written_uses g a) last)

pub returns-in-Err-end_written-clause-has : goal.returns-in-Err-end_written-clause-has
returns-in-Err-end_written-clause-has g c =
    let a = (goal.at.returns-in-Err-end_written-clause-has g c).In-Ok-answer in
    let seen = g.A.Pass.Pass.seen in
    let v : View = view_of c.args.seat.now in
    let u : View = view_of c.confirm_begun.new.seat in
    let w : View = view_of c.end_written.new.seat in
    let old = held_run c.args.held in
    let written = c.in-Ok-answer.written in
    let left = c.in-Err-end_written.written in
    let either = unended_either u w written.first written.entries left.entries c.in-Err-end_written.ensures.refused in
    let many : length left.entries ≡ length old.entries = many_either written.entries (map ended written.entries) left.entries either (length_ended written.entries) ∙ written_many g a in
    let made : w.made ≡ v.made = unended_made u w written.first written.entries left.entries c.in-Err-end_written.ensures.refused ∙ (written_uses g a).made in
    has_same seen c.args.store.now w left (held_run c.back-held.result) c.back-held.ensures
    (has_after seen c.args.store.now v w old left written.first c.requires.has made c.in-Err-end_written.ensures.first many c.in-Err-end_written.ensures.holds (c.in-Err-end_written.ensures.fits v.made (written_passes g a)))

pub returns-in-Err-end_written-clause-live : goal.returns-in-Err-end_written-clause-live
returns-in-Err-end_written-clause-live g c =
    let each = written_begun g (goal.at.returns-in-Err-end_written-clause-live g c).In-Ok-answer in
    let u : View = view_of c.confirm_begun.new.seat in
    let w : View = view_of c.end_written.new.seat in
    let written = c.in-Ok-answer.written in
    let left = c.in-Err-end_written.written in
    let either = unended_either u w written.first written.entries left.entries c.in-Err-end_written.ensures.refused in
    let now : c.back-held.result.entries.items ≡ left.entries = ap (λ (r : HeldRun g.row.A-Pass.Denot). r.entries) c.back-held.ensures in
    subst (Each IsLive) (sym now) (live_either written.entries (map ended written.entries) left.entries either (live_since_begun written.entries each) (live_ended written.entries each))

pub returns-in-Err-end_written-clause-changed : goal.returns-in-Err-end_written-clause-changed
returns-in-Err-end_written-clause-changed g c =
    let a = (goal.at.returns-in-Err-end_written-clause-changed g c).In-Ok-answer in
    let v : View = view_of c.args.seat.now in
    let w : View = view_of c.confirm_begun.new.seat in
    let x : View = view_of c.end_written.new.seat in
    let written = c.in-Ok-answer.written in
    let left = c.in-Err-end_written.written in
    let appended = c.is_first_settled-appended.result in
    let those : List ℕ = falling written.first (length written.entries) in
    let blocks : List ℕ = falling c.args.held.first.0 (length c.args.held.entries.items) in
    let some : 0 < length written.entries = omega (arith, c.requires.has.some, written_many g a) in
    let is : appended ≡ first_settled left.entries = c.is_first_settled-appended.ensures ∙ ap first_settled (c.deref.ensures.value ∙ ap (λ (r : HeldRun g.row.A-Pass.Denot). r.entries) c.back-held.ensures) in
    let end : Changed 1 w x (over_where appended those) [] = over_unended w x written.first written.entries left.entries appended some (written_begun g a) is c.in-Err-end_written.ensures.refused in
    let last : Changed 1 w x (over_where appended blocks) [] = changed_as 1 w x (over_where appended those) [] (over_where appended blocks) [] (ap (λ (l : List ℕ). over_where appended l) (written_blocks g a)) refl end in
    (3, refl, changed_then 2 1 3 v w x (over_where appended blocks) [] refl (written_uses g a) last)

pub returns-in-Err-answer-clause-goes_on : goal.returns-in-Err-answer-clause-goes_on
returns-in-Err-answer-clause-goes_on g c none =
    let used = c.in-Ok-confirm_begun.ensures.cause in
    (used.1, (view_of c.queue_held.new.seat).gave, used.3, used.4.1)

pub returns-in-Ok-end_written-clause-goes_on : goal.returns-in-Ok-end_written-clause-goes_on
returns-in-Ok-end_written-clause-goes_on g c none =
    let used = c.in-Ok-end_written.ensures.cause in
    (used.1, (view_of c.confirm_begun.new.seat).gave, used.3, used.4.0.2)

pub returns-in-Err-clause-fault : goal.returns-in-Err-clause-fault
returns-in-Err-clause-fault g c =
    let used = c.in-Err.ensures.cause in
    answered (view_of c.args.seat.now) (view_of c.queue_held.new.seat) [] [] c.in-Err.fault used.0 used.1 c.in-Err.ensures.used c.in-Err.ensures.shut used.2 used.3 (refuses_queue _ c.args.held.entries.items used.0 used.1 c.in-Err.fault used.4.0)

pub returns-in-Err-confirm_begun-clause-fault : goal.returns-in-Err-confirm_begun-clause-fault
returns-in-Err-confirm_begun-clause-fault g c =
    let used = c.in-Err-confirm_begun.ensures.cause in
    answered (view_of c.queue_held.new.seat) (view_of c.confirm_begun.new.seat) [] [] c.in-Err-confirm_begun.fault used.0 used.1 c.in-Err-confirm_begun.ensures.used c.in-Err-confirm_begun.ensures.shut used.2 used.3 (refuses_flush ℕ used.0 used.1 c.in-Err-confirm_begun.fault used.4)

pub returns-in-Err-end_written-clause-fault : goal.returns-in-Err-end_written-clause-fault
returns-in-Err-end_written-clause-fault g c =
    let used = c.in-Err-end_written.ensures.cause in
    let written = c.in-Ok-answer.written in
    answered_either (view_of c.confirm_begun.new.seat) (view_of c.end_written.new.seat) (falling written.first (length written.entries)) [] _ _ c.in-Err-end_written.fault used.0 used.1 c.in-Err-end_written.ensures.refused c.in-Err-end_written.ensures.shut used.2 used.3 (refuses_record ℕ used.0 used.1 c.in-Err-end_written.fault used.4.0)
