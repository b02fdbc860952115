use Rattle.std.proofs.Common.{Vec, ◌≡◌, Bool, true, List, Result, Ok, sym, ◌∙◌, subst, arith}
use Rattle.std.proofs.Math.Logic.{∥∥₁_map}
use Rattle.std.specs.declared.alloc.Global.{Global}
use Rattle.key_state.specs.declared.entry.Entry.{Entry}
use Rattle.key_state.specs.Entries.{AreEntries}
use Rattle.vd_outside.specs.declared.Failed.{Failed}
use Rattle.journal_layout.specs.Recovery.{journal_end}
use Rattle.journal_core.specs.Book.{memory_of}
use Rattle.journal_core.specs.Keeps.{Keeps, next_of, with_epoch}
use Rattle.journal_core.specs.Writes.{Begins}
use Rattle.journal_core.proofs.Changes.{extends_then}
use Rattle.journal_core.proofs.GoingOn.{goes_begins, goes_still}
use Rattle.journal_core.proofs.TurnSteps.{begins_leaves, turned_over, keeps_asked, keeps_asked_failed}
use Rattle.journal_core.proofs.Seeing.{open_room}
use Rattle.journal_core.proofs.Appends.{ok_of, ok_unit, low_epoch}
use Rattle.journal_core.proofs.book.JournalBook.turnover.Goals as goal

pub invariant_of-self-clause-room : goal.invariant_of-self-clause-room
invariant_of-self-clause-room g c =
    let b = memory_of c.args.self.now in
    let old = g.D.Disk.seen c.args.self.now.disk in
    let new = g.D.Disk.seen c.begin_epoch.new.disk in
    let same = c.deref.ensures.value in
    let begins : Begins (next_of b.live) b.entries old new c.begin_epoch.result = subst (λ (es : List Entry). Begins (next_of b.live) es old new c.begin_epoch.result) same c.begin_epoch.ensures.begins in
    let left = begins_leaves (next_of b.live) b.entries old new c.begin_epoch.result begins in
    let room = c.args.self.now.room in
    omega (arith, room, left.0)

pub invariant_of-self-clause-grown : goal.invariant_of-self-clause-grown
invariant_of-self-clause-grown g c =
    let b = memory_of c.args.self.now in
    let old = g.D.Disk.seen c.args.self.now.disk in
    let new = g.D.Disk.seen c.begin_epoch.new.disk in
    let same = c.deref.ensures.value in
    let begins : Begins (next_of b.live) b.entries old new c.begin_epoch.result = subst (λ (es : List Entry). Begins (next_of b.live) es old new c.begin_epoch.result) same c.begin_epoch.ensures.begins in
    let left = begins_leaves (next_of b.live) b.entries old new c.begin_epoch.result begins in
    extends_then (g.D.Disk.seen c.args.self.now.opened.value).moments old.moments new.moments c.args.self.now.grown left.1

pub invariant_of-self-2-clause-room : goal.invariant_of-self-2-clause-room
invariant_of-self-2-clause-room g c =
    let b = memory_of c.args.self.now in
    let old = g.D.Disk.seen c.args.self.now.disk in
    let new = g.D.Disk.seen c.begin_epoch.new.disk in
    let same = c.deref.ensures.value in
    let begins : Begins (next_of b.live) b.entries old new c.begin_epoch.result = subst (λ (es : List Entry). Begins (next_of b.live) es old new c.begin_epoch.result) same c.begin_epoch.ensures.begins in
    let left = begins_leaves (next_of b.live) b.entries old new c.begin_epoch.result begins in
    let room = c.args.self.now.room in
    omega (arith, room, left.0)

pub invariant_of-self-2-clause-grown : goal.invariant_of-self-2-clause-grown
invariant_of-self-2-clause-grown g c =
    let b = memory_of c.args.self.now in
    let old = g.D.Disk.seen c.args.self.now.disk in
    let new = g.D.Disk.seen c.begin_epoch.new.disk in
    let same = c.deref.ensures.value in
    let begins : Begins (next_of b.live) b.entries old new c.begin_epoch.result = subst (λ (es : List Entry). Begins (next_of b.live) es old new c.begin_epoch.result) same c.begin_epoch.ensures.begins in
    let left = begins_leaves (next_of b.live) b.entries old new c.begin_epoch.result begins in
    extends_then (g.D.Disk.seen c.args.self.now.opened.value).moments old.moments new.moments c.args.self.now.grown left.1

pub invariant_of-self-clause-keeps : goal.invariant_of-self-clause-keeps
invariant_of-self-clause-keeps g c =
    let met = g.met.D.Disk in
    let b = memory_of c.args.self.now in
    let old = g.D.Disk.seen c.args.self.now.disk in
    let new = g.D.Disk.seen c.begin_epoch.new.disk in
    let same = c.deref.ensures.value in
    let begins : Begins (next_of b.live) b.entries old new c.begin_epoch.result = subst (λ (es : List Entry). Begins (next_of b.live) es old new c.begin_epoch.result) same c.begin_epoch.ensures.begins in
    let left = begins_leaves (next_of b.live) b.entries old new c.begin_epoch.result begins in
    let low = low_epoch b.live.epoch c.if-self-eq-LAST_EPOCH.false c.args.self.now.limits.epoch in
    ∥∥₁_map c.args.self.now.keeps
    (λ k. (k.0, keeps_asked_failed old new b k.1 c.if-self.false low (met.is_tale c.args.self.now.disk) (met.is_tale c.begin_epoch.new.disk) c.begin_epoch.result begins))

pub invariant_of-self-2-clause-kept_valid : goal.invariant_of-self-2-clause-kept_valid
invariant_of-self-2-clause-kept_valid g c = subst (λ (v : Vec Entry Global). AreEntries v.items) (sym c.of.ensures) c.args.self.now.valid

pub invariant_of-self-2-clause-keeps : goal.invariant_of-self-2-clause-keeps
invariant_of-self-2-clause-keeps g c =
    let met = g.met.D.Disk in
    let b = memory_of c.args.self.now in
    let old = g.D.Disk.seen c.args.self.now.disk in
    let new = g.D.Disk.seen c.begin_epoch.new.disk in
    let same = c.deref.ensures.value in
    let begins : Begins (next_of b.live) b.entries old new c.begin_epoch.result = subst (λ (es : List Entry). Begins (next_of b.live) es old new c.begin_epoch.result) same c.begin_epoch.ensures.begins in
    let left = begins_leaves (next_of b.live) b.entries old new c.begin_epoch.result begins in
    let low = low_epoch b.live.epoch c.if-self-eq-LAST_EPOCH.false c.args.self.now.limits.epoch in
    let good = sym c.is_err.ensures.value ∙ c.if-is_err.false in
    let E = Failed in
    let is : c.begin_epoch.result ≡ Ok tt = ok_unit c.begin_epoch.result good in
    let done : Begins {E = E} (next_of b.live) b.entries old new (Ok tt) = subst (λ (r : Result (Unit {0}) E). Begins (next_of b.live) b.entries old new r) is begins in
    let at = turned_over (record b { asked = true }) c.blank-self.result in
    ∥∥₁_map c.args.self.now.keeps
    (λ k.
    let kept = keeps_asked old new b k.1 c.if-self.false low (met.is_tale c.args.self.now.disk) (met.is_tale c.begin_epoch.new.disk) E c.blank-self.result c.blank-self.ensures done in (
      with_epoch k.0,
      subst (λ (v : Vec Entry Global). Keeps new (record at { stopped = c.args.self.now.stopped; kept = v.items }) (with_epoch k.0)) (sym c.of.ensures)
          (subst (λ (t : Bool). Keeps new (record at { stopped = t }) (with_epoch k.0)) (sym c.if-self.false) kept),
    ))

pub returns-clause-cause : goal.returns-clause-cause
returns-clause-cause g c =
    let old = g.D.Disk.seen c.args.self.now.disk in
    let new = g.D.Disk.seen c.begin_epoch.new.disk in
    let good = sym c.is_err.ensures.value ∙ c.if-is_err.false in
    ok_of c.begin_epoch.result (new.faults ≡ old.faults) good c.begin_epoch.ensures.cause.kept

pub returns-clause-goes_on : goal.returns-clause-goes_on
returns-clause-goes_on g c =
    goes_begins (next_of c.args.self.now.live) c.deref.result.now (g.D.Disk.seen c.args.self.now.disk) (g.D.Disk.seen c.begin_epoch.new.disk) c.begin_epoch.result c.begin_epoch.ensures.begins

pub returns-clause-ready : goal.returns-clause-ready
returns-clause-ready g c =
    let b = memory_of c.args.self.now in
    let some = c.args.self.now.limits.some_log in
    let now = record (turned_over (record b { asked = true }) c.blank-self.result) { stopped = c.args.self.now.stopped; kept = c.of.result.value.items } in
    open_room now c.if-self.false (omega (arith, some))

pub returns-then-is_err-clause-story : goal.returns-then-is_err-clause-story
returns-then-is_err-clause-story g c = λ so_far had.
    let met = g.met.D.Disk in
    let b = memory_of c.args.self.now in
    let old = g.D.Disk.seen c.args.self.now.disk in
    let new = g.D.Disk.seen c.begin_epoch.new.disk in
    let same = c.deref.ensures.value in
    let begins : Begins (next_of b.live) b.entries old new c.begin_epoch.result = subst (λ (es : List Entry). Begins (next_of b.live) es old new c.begin_epoch.result) same c.begin_epoch.ensures.begins in
    let left = begins_leaves (next_of b.live) b.entries old new c.begin_epoch.result begins in
    let low = low_epoch b.live.epoch c.if-self-eq-LAST_EPOCH.false c.args.self.now.limits.epoch in
    ∥∥₁_map had
    (λ k. keeps_asked_failed old new b k c.if-self.false low (met.is_tale c.args.self.now.disk) (met.is_tale c.begin_epoch.new.disk) c.begin_epoch.result begins)

pub returns-clause-story : goal.returns-clause-story
returns-clause-story g c = λ so_far had.
    let met = g.met.D.Disk in
    let b = memory_of c.args.self.now in
    let old = g.D.Disk.seen c.args.self.now.disk in
    let new = g.D.Disk.seen c.begin_epoch.new.disk in
    let same = c.deref.ensures.value in
    let begins : Begins (next_of b.live) b.entries old new c.begin_epoch.result = subst (λ (es : List Entry). Begins (next_of b.live) es old new c.begin_epoch.result) same c.begin_epoch.ensures.begins in
    let left = begins_leaves (next_of b.live) b.entries old new c.begin_epoch.result begins in
    let low = low_epoch b.live.epoch c.if-self-eq-LAST_EPOCH.false c.args.self.now.limits.epoch in
    let good = sym c.is_err.ensures.value ∙ c.if-is_err.false in
    let E = Failed in
    let is : c.begin_epoch.result ≡ Ok tt = ok_unit c.begin_epoch.result good in
    let done : Begins {E = E} (next_of b.live) b.entries old new (Ok tt) = subst (λ (r : Result (Unit {0}) E). Begins (next_of b.live) b.entries old new r) is begins in
    let at = turned_over (record b { asked = true }) c.blank-self.result in
    ∥∥₁_map had
    (λ k.
    let kept = keeps_asked old new b k c.if-self.false low (met.is_tale c.args.self.now.disk) (met.is_tale c.begin_epoch.new.disk) E c.blank-self.result c.blank-self.ensures done in
    subst (λ (v : Vec Entry Global). Keeps new (record at { stopped = c.args.self.now.stopped; kept = v.items }) (with_epoch so_far)) (sym c.of.ensures)
    (subst (λ (t : Bool). Keeps new (record at { stopped = t }) (with_epoch so_far)) (sym c.if-self.false) kept))

pub returns-then-is_err-clause-goes_on : goal.returns-then-is_err-clause-goes_on
returns-then-is_err-clause-goes_on g c =
    goes_begins (next_of c.args.self.now.live) c.deref.result.now (g.D.Disk.seen c.args.self.now.disk) (g.D.Disk.seen c.begin_epoch.new.disk) c.begin_epoch.result c.begin_epoch.ensures.begins

pub returns-then-self-clause-goes_on : goal.returns-then-self-clause-goes_on
returns-then-self-clause-goes_on g c = let met = g.met.D.Disk in goes_still (journal_end c.args.self.now.live) (g.D.Disk.seen c.args.self.now.disk) (met.is_tale c.args.self.now.disk)

pub returns-then-self-eq-LAST_EPOCH-clause-goes_on : goal.returns-then-self-eq-LAST_EPOCH-clause-goes_on
returns-then-self-eq-LAST_EPOCH-clause-goes_on g c = let met = g.met.D.Disk in goes_still (journal_end c.args.self.now.live) (g.D.Disk.seen c.args.self.now.disk) (met.is_tale c.args.self.now.disk)
