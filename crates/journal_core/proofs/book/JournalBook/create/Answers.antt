use Rattle.std.proofs.Common.{◌≡◌, List, replicate, sym, ap, ◌∙◌, subst, refl}
use Rattle.key_state.specs.declared.entry.Entry.{Entry}
use Rattle.key_state.specs.declared.entry.Entry.TheVariants.{Settled}
use Rattle.vd_outside.specs.Causes.{Rose}
use Rattle.journal_core.specs.declared.fault.OpenFault.TheVariants.{Failed as FailedCall}
use Rattle.journal_core.specs.Book.{memory_of}
use Rattle.journal_core.proofs.GoingOn.{is_opened, not_made}
use Rattle.journal_core.proofs.Kept.{err_of}
use Rattle.journal_core.specs.Opening.{Opens}
use Rattle.journal_core.proofs.Seeing.{opened_room}
use Rattle.vd_disk.specs.Disk.{DiskSeen}
use Rattle.journal_layout.specs.declared.live.Live.{Live}
use Rattle.journal_core.specs.Writes.{IsNew, IsSynced}
use Rattle.journal_core.proofs.Appends.{ok_of}
use Rattle.journal_core.proofs.Opened.{all_new}
use Rattle.journal_core.proofs.book.JournalBook.create.Goals as goal

pub open-requires-clause-fits : goal.open-requires-clause-fits
open-requires-clause-fits g c = λ t told.
    let live : Live = record { version = 2; epoch = 0; id = c.args.id.now; log_sectors = c.args.log_sectors } in
    let new = g.D.Disk.seen c.make_new.new.disk in
    let good = sym c.is_err.ensures.value ∙ c.if-is_err.false in
    let made : IsSynced new (IsNew live) = ok_of c.make_new.result (IsSynced new (IsNew live)) good c.make_new.ensures.made in
    ((made t told).0, all_new live c.blocks-2.result c.in-Ok.entries.items t refl c.in-Ok.ensures (made t told).1)

pub open-requires-clause-opening : goal.open-requires-clause-opening
open-requires-clause-opening g c =
    let live : Live = record { version = 2; epoch = 0; id = c.args.id.now; log_sectors = c.args.log_sectors } in
    let old = g.D.Disk.seen c.args.disk in
    let new = g.D.Disk.seen c.make_new.new.disk in
    let made : Opens live (replicate c.args.id.now.geometry.blocks (Settled 0)) old.told old.moments new.moments = c.make_new.ensures.opens in
    let is : c.in-Ok.entries.items ≡ replicate c.args.id.now.geometry.blocks (Settled 0) = c.in-Ok.ensures ∙ ap (λ n. replicate n (Settled 0)) c.blocks-2.ensures.value in
    let opens : Opens live c.in-Ok.entries.items old.told old.moments new.moments = subst (λ (es : List Entry). Opens live es old.told old.moments new.moments) (sym is) made in
    subst (λ (d : DiskSeen). Opens live c.in-Ok.entries.items d.told d.moments new.moments) (sym (ap g.D.Disk.seen c.of-began.ensures)) opens

pub returns-clause-ready : goal.returns-clause-ready
returns-clause-ready g c = opened_room (memory_of c.open.result) (record { version = 2; epoch = 0; id = c.args.id.now; log_sectors = c.args.log_sectors }) _ _ _ c.open.ensures.memory c.requires.logs.0

pub returns-clause-opened : goal.returns-clause-opened
returns-clause-opened g c =
    let live : Live = record { version = 2; epoch = 0; id = c.args.id.now; log_sectors = c.args.log_sectors } in
    let never : List Entry = replicate c.args.id.now.geometry.blocks (Settled 0) in
    let old = g.D.Disk.seen c.args.disk in
    let made = g.D.Disk.seen c.make_new.new.disk in
    let good = sym c.is_err.ensures.value ∙ c.if-is_err.false in
    let kept : made.faults ≡ old.faults = ok_of c.make_new.result (made.faults ≡ old.faults) good c.make_new.ensures.cause.kept in
    let is : c.in-Ok.entries.items ≡ never = c.in-Ok.ensures ∙ ap (λ n. replicate n (Settled 0)) c.blocks-2.ensures.value in
    is_opened old (g.D.Disk.seen c.open.result.began.value) (g.D.Disk.seen c.open.result.opened.value) (g.D.Disk.seen c.open.result.disk) made (memory_of c.open.result) live c.in-Ok.entries.items never c.make_new.ensures.opens
    (ap g.D.Disk.seen (c.open.ensures.began ∙ c.of-began.ensures)) (ap g.D.Disk.seen c.open.ensures.opened) (ap g.D.Disk.seen c.open.ensures.same) kept c.make_new.ensures.goes_on c.open.ensures.memory is c.open.result.keeps

pub returns-then-is_err-clause-refused : goal.returns-then-is_err-clause-refused
returns-then-is_err-clause-refused g c =
    let live : Live = record { version = 2; epoch = 0; id = c.args.id.now; log_sectors = c.args.log_sectors } in
    let old = g.D.Disk.seen c.args.disk in
    let made = g.D.Disk.seen c.make_new.new.disk in
    let bad = sym c.is_err.ensures.value ∙ c.if-is_err.true in
    let rose : Rose old.faults made.faults = err_of c.make_new.result (Rose old.faults made.faults) bad c.make_new.ensures.cause.failed in
    not_made live (replicate c.args.id.now.geometry.blocks (Settled 0)) old made (g.D.Disk.seen c.refuse-then-is_err.result.disk) c.refuse-then-is_err.result.why FailedCall (ap g.D.Disk.seen c.refuse-then-is_err.ensures.0)
    c.refuse-then-is_err.ensures.1 (rose, c.make_new.ensures.goes_on, c.make_new.ensures.opens)
