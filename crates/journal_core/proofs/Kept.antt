-- What a book has synced.
use Rattle.std.proofs.Common.{◌≡◌, ◌≤◌, true, false, List, Result, Ok, Err, refl, sym, ap, ◌∙◌, subst, arith}
use Rattle.std.specs.Result.{is_err, OnErr}
use Rattle.std.proofs.Math.Logic.{∥∥₁_elim, ∥∥₁_map}
use Rattle.std.proofs.Props.{props}
use Rattle.std.proofs.lemmas.List.{take_all}
use Rattle.key_state.specs.declared.entry.Entry.{Entry}
use Rattle.key_state.specs.Entries.{states}
use Rattle.vd_outside.specs.Causes.{Rose}
use Rattle.vd_disk.specs.Disk.{DiskSeen, Sectors, Table, IsImage, Rests}
use Rattle.journal_layout.specs.Recovery.{journal_end}
use Rattle.journal_core.specs.Calls.{all_synced, GoesOn, IsClosed, IsGivenUp, IsStopped, SameStory}
use Rattle.journal_core.specs.Keeps.{Memory, Keeps, HasStory, HasSome}
use Rattle.journal_core.proofs.Settling.{settled_only}
use Rattle.journal_core.proofs.Steps.{false_true}

same_entries_prop : (xs ys : List Entry) → IsProp (xs ≡ ys)
same_entries_prop xs ys = hlevel props

-- Where every record is synced, so is every entry.
pub all_kept : (disk : DiskSeen) (b : Memory) → HasSome disk b → b.records ≤ b.synced → b.kept ≡ b.entries
all_kept disk b keeps all =
    ∥∥₁_elim keeps (same_entries_prop b.kept b.entries)
    (λ k. k.1.stays.1 ∙ ap (states k.0.base) (take_all b.synced k.0.past (omega (arith, all, k.1.many))) ∙ sym k.1.stands)

same_prop : (xs ys : Sectors) → IsProp (xs ≡ ys)
same_prop xs ys = hlevel props

-- A book with nothing left to sync has a disk at rest.
pub all_rests : (disk : DiskSeen) (b : Memory) → HasSome disk b → b.stopped ≡ false → b.synced ≡ b.written → Rests disk
all_rests disk b keeps running all s told image left =
    ∥∥₁_elim keeps (same_prop image s)
    (λ k. settled_only s image (subst (λ (t : Table). IsImage t image) ((k.1.running running).rests all s told) left))

pub err_of : {T E : Type 0} (result : Result T E) (P : Type 0) → is_err result ≡ true → OnErr result P → P
err_of (Ok x) P bad on = absurd (false_true bad refl)
err_of (Err e) P bad on = on

-- what a flush that answered Ok leaves
pub is_closed : (old new : DiskSeen) (b c : Memory) → HasSome new c → SameStory old b new c → b.stopped ≡ false → c ≡ all_synced b → new.faults ≡ old.faults → GoesOn (journal_end b.live) old new → IsClosed old new b
is_closed old new b c keeps story running is faults goes =
    let kept : HasSome new (all_synced b) = subst (HasSome new) is keeps in
    record {
      running = running;
      story = λ so_far had. subst (λ (m : Memory). HasStory new m so_far) is (story so_far had);
      rests = all_rests new (all_synced b) kept running refl;
      faults = faults;
      goes_on = goes;
    }

-- and one that failed
pub is_given_up : (began old new : DiskSeen) (b c : Memory) → SameStory old b new c → IsStopped b c → Rose began.faults new.faults → GoesOn (journal_end b.live) old new → IsGivenUp began old new b
is_given_up began old new b c story is cause goes = record {
  story = λ so_far had. ∥∥₁_map (story so_far had) (λ k. (c.written, subst (λ (m : Memory). Keeps new m so_far) is k));
  cause = cause;
  goes_on = goes;
}
