use Rattle.std.proofs.Common.{Vec, inl, inr, ◌≡◌, Bool, true, List, Result, Ok, sym, ap, ◌∙◌, subst, arith, refl}
use Rattle.std.proofs.Math.Logic.{∥∥₁_map}
use Rattle.std.specs.declared.alloc.Global.{Global}
use Rattle.key_state.specs.declared.entry.Entry.{Entry}
use Rattle.key_state.specs.Entries.{AreEntries}
use Rattle.journal_core.specs.Book.{memory_of}
use Rattle.journal_core.specs.Keeps.{Keeps, next_of, with_record, with_epoch}
use Rattle.journal_core.specs.Writes.{Begins}
use Rattle.vd_outside.specs.declared.Failed.{Failed}
use Rattle.journal_core.proofs.Changes.{extends_then}
use Rattle.journal_core.proofs.GoingOn.{goes_begins}
use Rattle.journal_core.proofs.TurnSteps.{begins_leaves, turned_over}
use Rattle.journal_core.proofs.Seeing.{appended_seen, cause_ok, open_low}
use Rattle.journal_core.proofs.Appends.{keeps_over, keeps_over_failed, put_in, ok_of, ok_unit, full_records}
use Rattle.journal_core.proofs.book.JournalBook.append_over.Goals as goal

pub invariant_of-self-clause-keeps : goal.invariant_of-self-clause-keeps
invariant_of-self-clause-keeps g c =
    let met = g.met.D.Disk in
    let b = memory_of c.args.self.now in
    let old = g.D.Disk.seen c.args.self.now.disk in
    let new = g.D.Disk.seen c.begin_epoch.new.disk in
    let same = c.deref.ensures.value in
    let begins : Begins (next_of b.live) c.note.new.entries.items old new c.begin_epoch.result = subst (λ (es : List Entry). Begins (next_of b.live) es old new c.begin_epoch.result) same c.begin_epoch.ensures.begins in
    ∥∥₁_map c.args.self.now.keeps
    (λ k. (
      with_record k.0 c.args.made.now,
      keeps_over_failed old b k.1 c.requires.running c.args.made.now c.note.new.entries.items c.requires.legal c.note.ensures.steps c.note.new.ends c.note.new.clears c.note.ensures.ends c.note.ensures.clears
          new c.requires.full (omega (arith, c.requires.low)) (met.is_tale c.args.self.now.disk) (met.is_tale c.begin_epoch.new.disk) c.begin_epoch.result begins,
    ))

pub invariant_of-self-clause-room : goal.invariant_of-self-clause-room
invariant_of-self-clause-room g c =
    let b = memory_of c.args.self.now in
    let old = g.D.Disk.seen c.args.self.now.disk in
    let new = g.D.Disk.seen c.begin_epoch.new.disk in
    let same = c.deref.ensures.value in
    let begins : Begins (next_of b.live) c.note.new.entries.items old new c.begin_epoch.result = subst (λ (es : List Entry). Begins (next_of b.live) es old new c.begin_epoch.result) same c.begin_epoch.ensures.begins in
    let left = begins_leaves (next_of b.live) c.note.new.entries.items old new c.begin_epoch.result begins in
    let room = c.args.self.now.room in
    omega (arith, room, left.0)

pub invariant_of-self-clause-grown : goal.invariant_of-self-clause-grown
invariant_of-self-clause-grown g c =
    let b = memory_of c.args.self.now in
    let old = g.D.Disk.seen c.args.self.now.disk in
    let new = g.D.Disk.seen c.begin_epoch.new.disk in
    let same = c.deref.ensures.value in
    let begins : Begins (next_of b.live) c.note.new.entries.items old new c.begin_epoch.result = subst (λ (es : List Entry). Begins (next_of b.live) es old new c.begin_epoch.result) same c.begin_epoch.ensures.begins in
    let left = begins_leaves (next_of b.live) c.note.new.entries.items old new c.begin_epoch.result begins in
    extends_then (g.D.Disk.seen c.args.self.now.opened.value).moments old.moments new.moments c.args.self.now.grown left.1

pub invariant_of-self-2-clause-room : goal.invariant_of-self-2-clause-room
invariant_of-self-2-clause-room g c =
    let b = memory_of c.args.self.now in
    let old = g.D.Disk.seen c.args.self.now.disk in
    let new = g.D.Disk.seen c.begin_epoch.new.disk in
    let same = c.deref.ensures.value in
    let begins : Begins (next_of b.live) c.note.new.entries.items old new c.begin_epoch.result = subst (λ (es : List Entry). Begins (next_of b.live) es old new c.begin_epoch.result) same c.begin_epoch.ensures.begins in
    let left = begins_leaves (next_of b.live) c.note.new.entries.items old new c.begin_epoch.result begins in
    let room = c.args.self.now.room in
    omega (arith, room, left.0)

pub invariant_of-self-2-clause-grown : goal.invariant_of-self-2-clause-grown
invariant_of-self-2-clause-grown g c =
    let b = memory_of c.args.self.now in
    let old = g.D.Disk.seen c.args.self.now.disk in
    let new = g.D.Disk.seen c.begin_epoch.new.disk in
    let same = c.deref.ensures.value in
    let begins : Begins (next_of b.live) c.note.new.entries.items old new c.begin_epoch.result = subst (λ (es : List Entry). Begins (next_of b.live) es old new c.begin_epoch.result) same c.begin_epoch.ensures.begins in
    let left = begins_leaves (next_of b.live) c.note.new.entries.items old new c.begin_epoch.result begins in
    extends_then (g.D.Disk.seen c.args.self.now.opened.value).moments old.moments new.moments c.args.self.now.grown left.1

pub invariant_of-self-2-clause-kept_valid : goal.invariant_of-self-2-clause-kept_valid
invariant_of-self-2-clause-kept_valid g c = subst (λ (v : Vec Entry Global). AreEntries v.items) (sym c.of.ensures) c.note.ensures.valid

pub invariant_of-self-2-clause-keeps : goal.invariant_of-self-2-clause-keeps
invariant_of-self-2-clause-keeps g c =
    let met = g.met.D.Disk in
    let b = memory_of c.args.self.now in
    let old = g.D.Disk.seen c.args.self.now.disk in
    let new = g.D.Disk.seen c.begin_epoch.new.disk in
    let same = c.deref.ensures.value in
    let begins : Begins (next_of b.live) c.note.new.entries.items old new c.begin_epoch.result = subst (λ (es : List Entry). Begins (next_of b.live) es old new c.begin_epoch.result) same c.begin_epoch.ensures.begins in
    let left = begins_leaves (next_of b.live) c.note.new.entries.items old new c.begin_epoch.result begins in
    let good = sym c.is_err.ensures.value ∙ c.if-is_err.false in
    let E = Failed in
    let is : c.begin_epoch.result ≡ Ok tt = ok_unit c.begin_epoch.result good in
    let done : Begins {E = E} (next_of b.live) c.note.new.entries.items old new (Ok tt) = subst (λ (r : Result (Unit {0}) E). Begins (next_of b.live) c.note.new.entries.items old new r) is begins in
    let more = put_in b c.note.new.entries.items b.sector b.count c.note.new.ends c.note.new.clears true in
    let at = turned_over more c.blank-self.result in
    ∥∥₁_map c.args.self.now.keeps
    (λ k.
    let kept = keeps_over old b k.1 c.requires.running c.args.made.now c.note.new.entries.items c.requires.legal c.note.ensures.steps c.note.new.ends c.note.new.clears c.note.ensures.ends c.note.ensures.clears
    new c.requires.full (omega (arith, c.requires.low)) (met.is_tale c.args.self.now.disk) (met.is_tale c.begin_epoch.new.disk) E c.blank-self.result c.blank-self.ensures done in (
      with_epoch (with_record k.0 c.args.made.now),
      subst (λ (v : Vec Entry Global). Keeps new (record at { stopped = c.args.self.now.stopped; kept = v.items }) (with_epoch (with_record k.0 c.args.made.now))) (sym c.of.ensures)
          (subst (λ (t : Bool). Keeps new (record at { stopped = t }) (with_epoch (with_record k.0 c.args.made.now))) (sym c.requires.running) kept),
    ))

pub returns-clause-appended : goal.returns-clause-appended
returns-clause-appended g c =
    let b = memory_of c.args.self.now in
    let old = g.D.Disk.seen c.args.self.now.disk in
    let new = g.D.Disk.seen c.begin_epoch.new.disk in
    let same = c.deref.ensures.value in
    let begins : Begins (next_of b.live) c.note.new.entries.items old new c.begin_epoch.result = subst (λ (es : List Entry). Begins (next_of b.live) es old new c.begin_epoch.result) same c.begin_epoch.ensures.begins in
    let left = begins_leaves (next_of b.live) c.note.new.entries.items old new c.begin_epoch.result begins in
    let now = record (turned_over (put_in b c.note.new.entries.items b.sector b.count c.note.new.ends c.note.new.clears true) c.blank-self.result) { stopped = c.args.self.now.stopped; kept = c.of.result.value.items } in
    appended_seen (g.D.Disk.seen c.args.self.now.began.value) (g.D.Disk.seen c.args.self.now.opened.value) old new b now c.args.made.now c.requires.running
    (open_low b c.requires.running c.requires.low) refl (omega arith) left.2 c.note.ensures.steps (inr (ap (λ (v : Vec Entry Global). v.items) c.of.ensures)) c.note.ensures.ends c.note.ensures.clears

pub returns-clause-cause : goal.returns-clause-cause
returns-clause-cause g c =
    let b = memory_of c.args.self.now in
    let old = g.D.Disk.seen c.args.self.now.disk in
    let new = g.D.Disk.seen c.begin_epoch.new.disk in
    let good = sym c.is_err.ensures.value ∙ c.if-is_err.false in
    let now = record (turned_over (put_in b c.note.new.entries.items b.sector b.count c.note.new.ends c.note.new.clears true) c.blank-self.result) { stopped = c.args.self.now.stopped; kept = c.of.result.value.items } in
    cause_ok (g.D.Disk.seen c.args.self.now.began.value) (g.D.Disk.seen c.args.self.now.opened.value) old new b now c.args.made.now
    (open_low b c.requires.running c.requires.low) (ok_of c.begin_epoch.result (new.faults ≡ old.faults) good c.begin_epoch.ensures.cause.kept) c.requires.running

pub returns-clause-more : goal.returns-clause-more
returns-clause-more g c =
    let shaped = c.args.self.now.shaped c.requires.running in
    (c.requires.running, inl (full_records shaped c.requires.full, refl, refl, ap (λ (v : Vec Entry Global). v.items) c.of.ensures))

pub returns-clause-goes_on : goal.returns-clause-goes_on
returns-clause-goes_on g c =
    goes_begins (next_of c.args.self.now.live) c.deref.result.now (g.D.Disk.seen c.args.self.now.disk) (g.D.Disk.seen c.begin_epoch.new.disk) c.begin_epoch.result c.begin_epoch.ensures.begins

pub returns-then-is_err-clause-story : goal.returns-then-is_err-clause-story
returns-then-is_err-clause-story g c = λ so_far had.
    let met = g.met.D.Disk in
    let b = memory_of c.args.self.now in
    let old = g.D.Disk.seen c.args.self.now.disk in
    let new = g.D.Disk.seen c.begin_epoch.new.disk in
    let same = c.deref.ensures.value in
    let begins : Begins (next_of b.live) c.note.new.entries.items old new c.begin_epoch.result = subst (λ (es : List Entry). Begins (next_of b.live) es old new c.begin_epoch.result) same c.begin_epoch.ensures.begins in
    ∥∥₁_map had
    (λ k. keeps_over_failed old b k c.requires.running c.args.made.now c.note.new.entries.items c.requires.legal c.note.ensures.steps c.note.new.ends c.note.new.clears c.note.ensures.ends c.note.ensures.clears
    new c.requires.full (omega (arith, c.requires.low)) (met.is_tale c.args.self.now.disk) (met.is_tale c.begin_epoch.new.disk) c.begin_epoch.result begins)

pub returns-clause-story : goal.returns-clause-story
returns-clause-story g c = λ so_far had.
    let met = g.met.D.Disk in
    let b = memory_of c.args.self.now in
    let old = g.D.Disk.seen c.args.self.now.disk in
    let new = g.D.Disk.seen c.begin_epoch.new.disk in
    let same = c.deref.ensures.value in
    let begins : Begins (next_of b.live) c.note.new.entries.items old new c.begin_epoch.result = subst (λ (es : List Entry). Begins (next_of b.live) es old new c.begin_epoch.result) same c.begin_epoch.ensures.begins in
    let left = begins_leaves (next_of b.live) c.note.new.entries.items old new c.begin_epoch.result begins in
    let good = sym c.is_err.ensures.value ∙ c.if-is_err.false in
    let E = Failed in
    let is : c.begin_epoch.result ≡ Ok tt = ok_unit c.begin_epoch.result good in
    let done : Begins {E = E} (next_of b.live) c.note.new.entries.items old new (Ok tt) = subst (λ (r : Result (Unit {0}) E). Begins (next_of b.live) c.note.new.entries.items old new r) is begins in
    let more = put_in b c.note.new.entries.items b.sector b.count c.note.new.ends c.note.new.clears true in
    let at = turned_over more c.blank-self.result in
    inr (
      refl,
      ∥∥₁_map had
          (λ k.
          let kept = keeps_over old b k c.requires.running c.args.made.now c.note.new.entries.items c.requires.legal c.note.ensures.steps c.note.new.ends c.note.new.clears c.note.ensures.ends c.note.ensures.clears
          new c.requires.full (omega (arith, c.requires.low)) (met.is_tale c.args.self.now.disk) (met.is_tale c.begin_epoch.new.disk) E c.blank-self.result c.blank-self.ensures done in
          subst (λ (v : Vec Entry Global). Keeps new (record at { stopped = c.args.self.now.stopped; kept = v.items }) (with_epoch (with_record so_far c.args.made.now))) (sym c.of.ensures)
          (subst (λ (t : Bool). Keeps new (record at { stopped = t }) (with_epoch (with_record so_far c.args.made.now))) (sym c.requires.running) kept)),
    )

pub returns-then-is_err-clause-goes_on : goal.returns-then-is_err-clause-goes_on
returns-then-is_err-clause-goes_on g c =
    goes_begins (next_of c.args.self.now.live) c.deref.result.now (g.D.Disk.seen c.args.self.now.disk) (g.D.Disk.seen c.begin_epoch.new.disk) c.begin_epoch.result c.begin_epoch.ensures.begins
