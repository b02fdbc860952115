use Rattle.std.proofs.Common.{Vec, ◌≡◌, Some, sym, ◌∙◌, subst, arith}
use Rattle.std.proofs.Math.Logic.{∥∥₁_map}
use Rattle.vd_disk.specs.Disk.{Sectors}
use Rattle.journal_layout.specs.Recovery.{journal_end}
use Rattle.journal_core.specs.Book.{memory_of}
use Rattle.std.specs.declared.alloc.Global.{Global}
use Rattle.key_state.specs.declared.entry.Entry.{Entry}
use Rattle.key_state.specs.Entries.{AreEntries}
use Rattle.journal_core.specs.Keeps.{Keeps}
use Rattle.journal_core.specs.Writes.{IsSynced}
use Rattle.journal_core.proofs.Appends.{ok_of}
use Rattle.journal_core.proofs.Writes.{synced_after}
use Rattle.journal_core.proofs.Kept.{all_kept}
use Rattle.journal_core.proofs.GoingOn.{goes_sync, goes_still, adds_none, adds_sync}
use Rattle.journal_core.proofs.LogSteps.{keeps_synced, keeps_sync_failed}
use Rattle.journal_core.proofs.book.JournalBook.sync_log.Goals as goal

pub invariant_of-self-clause-keeps : goal.invariant_of-self-clause-keeps
invariant_of-self-clause-keeps g c =
    let met = g.met.D.Disk in
    let b = memory_of c.args.self.now in
    let old = g.D.Disk.seen c.args.self.now.disk in
    let new = g.D.Disk.seen c.sync.new.self in
    ∥∥₁_map c.args.self.now.keeps
    (λ k. (k.0, keeps_sync_failed old new b k.1 c.requires.running (met.is_tale c.args.self.now.disk) (met.is_tale c.sync.new.self) c.sync.ensures.leaves c.sync.ensures.cause.later c.sync.result c.sync.ensures.syncs))

pub invariant_of-self-2-clause-keeps : goal.invariant_of-self-2-clause-keeps
invariant_of-self-2-clause-keeps g c =
    let met = g.met.D.Disk in
    let b = memory_of c.args.self.now in
    let old = g.D.Disk.seen c.args.self.now.disk in
    let new = g.D.Disk.seen c.sync.new.self in
    let good = sym c.is_err.ensures.value ∙ c.if-is_err.false in
    let P : Sectors → Type 0 = λ t. old.told ≡ Some t in
    let synced : IsSynced new P = ok_of c.sync.result (IsSynced new P) good (synced_after old new c.sync.result P c.sync.ensures.syncs (λ t is. is)) in
    ∥∥₁_map c.args.self.now.keeps
    (λ k.
    let kept = keeps_synced old new b k.1 c.requires.running (met.is_tale c.args.self.now.disk) (met.is_tale c.sync.new.self) c.sync.ensures.leaves c.sync.ensures.cause.later c.sync.result c.sync.ensures.syncs synced c.requires.all in
    (k.0, subst (λ (v : Vec Entry Global). Keeps new (record b { synced = b.records; kept = v.items }) k.0) (sym c.of.ensures) kept))

pub invariant_of-self-2-clause-kept_valid : goal.invariant_of-self-2-clause-kept_valid
invariant_of-self-2-clause-kept_valid g c = subst (λ (v : Vec Entry Global). AreEntries v.items) (sym c.of.ensures) c.args.self.now.valid

pub returns-clause-goes_on : goal.returns-clause-goes_on
returns-clause-goes_on g c =
    let met = g.met.D.Disk in
    goes_sync (journal_end c.args.self.now.live) (g.D.Disk.seen c.args.self.now.disk) (g.D.Disk.seen c.sync.new.self) c.sync.result (met.is_tale c.args.self.now.disk) c.sync.ensures.syncs c.sync.ensures.leaves c.sync.ensures.cause.later

pub returns-then-self-clause-ok : goal.returns-then-self-clause-ok
returns-then-self-clause-ok g c =
    let b = memory_of c.args.self.now in
    let kept = all_kept (g.D.Disk.seen c.args.self.now.disk) b c.args.self.now.keeps (omega (arith, c.if-self.true)) in
    λ i. record b { synced = c.if-self.true i; kept = kept i }

pub returns-then-self-clause-goes_on : goal.returns-then-self-clause-goes_on
returns-then-self-clause-goes_on g c = let met = g.met.D.Disk in goes_still (journal_end c.args.self.now.live) (g.D.Disk.seen c.args.self.now.disk) (met.is_tale c.args.self.now.disk)

pub returns-then-self-clause-few : goal.returns-then-self-clause-few
returns-then-self-clause-few g c = adds_none 1 (g.D.Disk.seen c.args.self.now.disk)

pub returns-clause-few : goal.returns-clause-few
returns-clause-few g c = adds_sync (g.D.Disk.seen c.args.self.now.disk) (g.D.Disk.seen c.sync.new.self) c.sync.result c.sync.ensures.syncs

pub returns-then-is_err-clause-few : goal.returns-then-is_err-clause-few
returns-then-is_err-clause-few g c = adds_sync (g.D.Disk.seen c.args.self.now.disk) (g.D.Disk.seen c.sync.new.self) c.sync.result c.sync.ensures.syncs

pub returns-then-is_err-clause-story : goal.returns-then-is_err-clause-story
returns-then-is_err-clause-story g c = λ so_far had.
    let met = g.met.D.Disk in
    let b = memory_of c.args.self.now in
    let old = g.D.Disk.seen c.args.self.now.disk in
    let new = g.D.Disk.seen c.sync.new.self in
    ∥∥₁_map had
    (λ k. keeps_sync_failed old new b k c.requires.running (met.is_tale c.args.self.now.disk) (met.is_tale c.sync.new.self) c.sync.ensures.leaves c.sync.ensures.cause.later c.sync.result c.sync.ensures.syncs)

pub returns-clause-story : goal.returns-clause-story
returns-clause-story g c = λ so_far had.
    let met = g.met.D.Disk in
    let b = memory_of c.args.self.now in
    let old = g.D.Disk.seen c.args.self.now.disk in
    let new = g.D.Disk.seen c.sync.new.self in
    let good = sym c.is_err.ensures.value ∙ c.if-is_err.false in
    let P : Sectors → Type 0 = λ t. old.told ≡ Some t in
    let synced : IsSynced new P = ok_of c.sync.result (IsSynced new P) good (synced_after old new c.sync.result P c.sync.ensures.syncs (λ t is. is)) in
    ∥∥₁_map had
    (λ k.
    let kept = keeps_synced old new b k c.requires.running (met.is_tale c.args.self.now.disk) (met.is_tale c.sync.new.self) c.sync.ensures.leaves c.sync.ensures.cause.later c.sync.result c.sync.ensures.syncs synced c.requires.all in
    subst (λ (v : Vec Entry Global). Keeps new (record b { synced = b.records; kept = v.items }) so_far) (sym c.of.ensures) kept)

pub returns-then-self-clause-story : goal.returns-then-self-clause-story
returns-then-self-clause-story g c = λ so_far had. had

pub returns-then-is_err-clause-goes_on : goal.returns-then-is_err-clause-goes_on
returns-then-is_err-clause-goes_on g c =
    let met = g.met.D.Disk in
    goes_sync (journal_end c.args.self.now.live) (g.D.Disk.seen c.args.self.now.disk) (g.D.Disk.seen c.sync.new.self) c.sync.result (met.is_tale c.args.self.now.disk) c.sync.ensures.syncs c.sync.ensures.leaves c.sync.ensures.cause.later
