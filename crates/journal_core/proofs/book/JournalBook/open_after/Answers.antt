use Rattle.std.proofs.Common.{◌≡◌, List, Result, Ok, sym, ap, ◌∙◌, subst, arith, refl}
use Rattle.key_state.specs.declared.entry.Entry.{Entry}
use Rattle.vd_outside.specs.declared.Failed.{Failed}
use Rattle.vd_disk.specs.Disk.{DiskSeen}
use Rattle.journal_core.specs.Writes.{Reopens}
use Rattle.vd_outside.specs.Causes.{Rose}
use Rattle.journal_core.specs.Opening.{Opens}
use Rattle.journal_core.proofs.Kept.{err_of}
use Rattle.journal_core.proofs.Renewing.{renews, opens_next, refused_call}
use Rattle.journal_core.proofs.Seeing.{opened_room}
use Rattle.journal_core.proofs.Appends.{ok_of, ok_unit, low_epoch}
use Rattle.journal_core.proofs.GoingOn.{goes_reopens, is_opened}
use Rattle.journal_core.specs.Book.{memory_of}
use Rattle.journal_core.specs.Keeps.{next_of}
use Rattle.journal_core.proofs.Clearing.{reopens_leaves, fits_reopened, live_gate}
use Rattle.journal_core.proofs.book.JournalBook.open_after.Goals as goal

pub open-requires-clause-room : goal.open-requires-clause-room
open-requires-clause-room g c =
    let old = g.D.Disk.seen c.args.disk in
    let new = g.D.Disk.seen c.reopen.new.disk in
    let left = reopens_leaves c.args.live.now c.deref.result.now old new c.reopen.result c.reopen.ensures.reopens in
    omega (arith, left.0, c.requires.room)

pub open-requires-clause-fits : goal.open-requires-clause-fits
open-requires-clause-fits g c =
    let met = g.met.D.Disk in
    let live = c.args.live.now in
    let old = g.D.Disk.seen c.args.disk in
    let new = g.D.Disk.seen c.reopen.new.disk in
    let good = sym c.is_err.ensures.value ∙ c.if-is_err.false in
    let low = low_epoch live.epoch c.if-live-eq-LAST_EPOCH.false c.requires.limits.epoch in
    let reopens : Reopens live c.args.entries.items old new c.reopen.result = subst (λ (es : List Entry). Reopens live es old new c.reopen.result) c.deref.ensures.value c.reopen.ensures.reopens in
    let done : Reopens {E = Failed} live c.args.entries.items old new (Ok tt) =
    subst (λ (r : Result (Unit {0}) Failed). Reopens live c.args.entries.items old new r) (ok_unit c.reopen.result good) reopens in
    fits_reopened Failed live c.args.entries.items old new low c.requires.room (met.is_tale c.args.disk) (λ s told. live_gate live s (c.requires.found s told)) done

pub open-requires-clause-opening : goal.open-requires-clause-opening
open-requires-clause-opening g c =
    let met = g.met.D.Disk in
    let live = c.args.live.now in
    let old = g.D.Disk.seen c.args.disk in
    let made = g.D.Disk.seen c.reopen.new.disk in
    let low = low_epoch live.epoch c.if-live-eq-LAST_EPOCH.false c.requires.limits.epoch in
    let reopens : Reopens live c.args.entries.items old made c.reopen.result = subst (λ (es : List Entry). Reopens live es old made c.reopen.result) c.deref.ensures.value c.reopen.ensures.reopens in
    let opens : Opens (next_of live) c.args.entries.items old.told old.moments made.moments = opens_next live c.args.entries.items old made c.requires.found
    (λ s told rests. renews live c.args.entries.items old low c.requires.room (met.is_tale c.args.disk) (λ t is. live_gate live t (c.requires.found t is)) c.requires.one_each s told rests made c.reopen.result reopens) in
    subst (λ (d : DiskSeen). Opens (next_of live) c.args.entries.items d.told d.moments made.moments) (sym (ap g.D.Disk.seen c.of-began.ensures)) opens

pub returns-clause-opened : goal.returns-clause-opened
returns-clause-opened g c =
    let old = g.D.Disk.seen c.args.disk in
    let made = g.D.Disk.seen c.reopen.new.disk in
    let good = sym c.is_err.ensures.value ∙ c.if-is_err.false in
    let met = g.met.D.Disk in
    let live = c.args.live.now in
    let low = low_epoch live.epoch c.if-live-eq-LAST_EPOCH.false c.requires.limits.epoch in
    let reopens : Reopens live c.args.entries.items old made c.reopen.result = subst (λ (es : List Entry). Reopens live es old made c.reopen.result) c.deref.ensures.value c.reopen.ensures.reopens in
    let opens : Opens (next_of live) c.args.entries.items old.told old.moments made.moments = opens_next live c.args.entries.items old made c.requires.found
    (λ s told rests. renews live c.args.entries.items old low c.requires.room (met.is_tale c.args.disk) (λ t is. live_gate live t (c.requires.found t is)) c.requires.one_each s told rests made c.reopen.result reopens) in
    let kept : made.faults ≡ old.faults = ok_of c.reopen.result (made.faults ≡ old.faults) good c.reopen.ensures.cause.kept in
    is_opened old (g.D.Disk.seen c.open.result.began.value) (g.D.Disk.seen c.open.result.opened.value) (g.D.Disk.seen c.open.result.disk) made (memory_of c.open.result) (next_of c.args.live.now)
    c.args.entries.items c.args.entries.items opens (ap g.D.Disk.seen (c.open.ensures.began ∙ c.of-began.ensures)) (ap g.D.Disk.seen c.open.ensures.opened) (ap g.D.Disk.seen c.open.ensures.same) kept
    (goes_reopens c.args.live.now c.deref.result.now old made c.reopen.result c.reopen.ensures.reopens) c.open.ensures.memory refl c.open.result.keeps

pub returns-clause-ready : goal.returns-clause-ready
returns-clause-ready g c = opened_room (memory_of c.open.result) (next_of c.args.live.now) _ _ _ c.open.ensures.memory c.requires.limits.some_log

pub returns-then-is_err-clause-refused : goal.returns-then-is_err-clause-refused
returns-then-is_err-clause-refused g c =
    let met = g.met.D.Disk in
    let live = c.args.live.now in
    let old = g.D.Disk.seen c.args.disk in
    let made = g.D.Disk.seen c.reopen.new.disk in
    let low = low_epoch live.epoch c.if-live-eq-LAST_EPOCH.false c.requires.limits.epoch in
    let bad = sym c.is_err.ensures.value ∙ c.if-is_err.true in
    let reopens : Reopens live c.args.entries.items old made c.reopen.result = subst (λ (es : List Entry). Reopens live es old made c.reopen.result) c.deref.ensures.value c.reopen.ensures.reopens in
    let opens : Opens (next_of live) c.args.entries.items old.told old.moments made.moments = opens_next live c.args.entries.items old made c.requires.found
    (λ s told rests. renews live c.args.entries.items old low c.requires.room (met.is_tale c.args.disk) (λ t is. live_gate live t (c.requires.found t is)) c.requires.one_each s told rests made c.reopen.result reopens) in
    refused_call live c.args.entries.items old made (g.D.Disk.seen c.refuse-then-is_err.result.disk) c.refuse-then-is_err.result.why c.reopen.result (ap g.D.Disk.seen c.refuse-then-is_err.ensures.0) c.refuse-then-is_err.ensures.1
    (omega (arith, low)) (err_of c.reopen.result (Rose old.faults made.faults) bad c.reopen.ensures.cause.failed) reopens opens
