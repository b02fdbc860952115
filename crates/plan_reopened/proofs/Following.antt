-- The laws of journals that were recovered and opened again.
use Rattle.std.proofs.Common.{◌≤◌, ℕ, IsTrue, List, [], ◌∷◌, length, map, take, sym, subst, ◌≡◌, suc, refl, ap}
use Rattle.vd_base.specs.declared.geometry.StoreId.{StoreId}
use Rattle.vd_disk.specs.Disk.{DiskSeen}
use Rattle.key_state.specs.declared.entry.Entry.{Entry}
use Rattle.key_state.specs.declared.seen.BookSeen.{BookSeen}
use Rattle.journal_layout.specs.Recovery.{Gives, Recovers}
use Rattle.journal_recover.specs.declared.found.Recovered.{Recovered}
use Rattle.plan_types.specs.declared.store.StorePlan.{StorePlan}
use Rattle.vd_yard.specs.Yard.{YardSeen}
use Rattle.plan_journals.specs.Open.{JournalsAreOut, Start, journals_are_out}
use Rattle.plan_reopened.specs.Kept.{AreStillKept}
use Rattle.plan_reopened.specs.Recovering.{AreRecovered, IsRecovered}
use Rattle.plan_reopened.specs.Reopening.{AreEntriesOf, AreReady, AreSettled, CanReopen, StandReopened}

can_reopen : (yard : YardSeen) (store : StorePlan) (disk : DiskSeen) (found : Recovered) (entries : List Entry) → IsRecovered yard store disk found → AreEntriesOf store entries → CanReopen store disk found.live entries
can_reopen yard store disk found entries p own = record {
  its_id = p.usable.is_wanted;
  limits = p.usable.within;
  room = p.usable.has_room;
  found = λ sectors told.
      let gave = p.answers sectors told in
      (gave.0, found.entries.items, subst (λ (id : StoreId). Gives sectors id (Recovers found.live gave.0 found.entries.items)) (sym p.usable.is_wanted) gave.2);
  its_entries = own;
}

pub recovered_ready : (yard : YardSeen) (stores : List StorePlan) (disks : List DiskSeen) (found : List Recovered) (settled : List (List Entry)) → AreRecovered yard stores disks found → AreSettled stores settled → AreReady stores disks found settled
recovered_ready yard [] [] [] [] r s = tt
recovered_ready yard [] [] [] (entries ∷ settled) r s = absurd s
recovered_ready yard [] [] (one ∷ found) settled r s = absurd r
recovered_ready yard [] (disk ∷ disks) found settled r s = absurd r
recovered_ready yard (store ∷ stores) [] found settled r s = absurd r
recovered_ready yard (store ∷ stores) (disk ∷ disks) [] settled r s = absurd r
recovered_ready yard (store ∷ stores) (disk ∷ disks) (one ∷ found) [] r s = absurd s
recovered_ready yard (store ∷ stores) (disk ∷ disks) (one ∷ found) (entries ∷ settled) r s = (can_reopen yard store disk one entries r.0 s.0, recovered_ready yard stores disks found settled r.1 s.1)

pub recovered_settled : (yard : YardSeen) (stores : List StorePlan) (disks : List DiskSeen) (found : List Recovered) → AreRecovered yard stores disks found → AreSettled stores (map (λ (one : Recovered). one.entries.items) found)
recovered_settled yard [] [] [] r = tt
recovered_settled yard [] [] (one ∷ found) r = absurd r
recovered_settled yard [] (disk ∷ disks) found r = absurd r
recovered_settled yard (store ∷ stores) [] found r = absurd r
recovered_settled yard (store ∷ stores) (disk ∷ disks) [] r = absurd r
recovered_settled yard (store ∷ stores) (disk ∷ disks) (one ∷ found) r =
    (record { one_each = r.0.recovers.fit.one_each; valid = r.0.recovers.fit.valid }, recovered_settled yard stores disks found r.1)

pub recovered_kept : (yard : YardSeen) (stores : List StorePlan) (disks : List DiskSeen) (found : List Recovered) → AreRecovered yard stores disks found → IsTrue yard.tells.keeps_disks → AreStillKept yard.disks stores disks
recovered_kept yard [] [] [] r told = tt
recovered_kept yard [] [] (one ∷ found) r told = absurd r
recovered_kept yard [] (disk ∷ disks) found r told = absurd r
recovered_kept yard (store ∷ stores) [] found r told = absurd r
recovered_kept yard (store ∷ stores) (disk ∷ disks) [] r told = absurd r
recovered_kept yard (store ∷ stores) (disk ∷ disks) (one ∷ found) r told = (r.0.kept told, recovered_kept yard stores disks found r.1 told)

pub standing_out : (old new : YardSeen) (stores : List StorePlan) (starts : List Start) (many : ℕ) (books : List BookSeen) → StandReopened old new stores starts many books → JournalsAreOut old.out stores → (many ≤ length stores) × JournalsAreOut new.out (take many stores)
standing_out old new stores starts many books s (journals_are_out before is) = (s.few, journals_are_out before (s.out before is))

pub recovered_as_many : (yard : YardSeen) (stores : List StorePlan) (disks : List DiskSeen) (found : List Recovered) → AreRecovered yard stores disks found → (length disks ≡ length stores) × (length found ≡ length stores)
recovered_as_many yard [] [] [] r = (refl, refl)
recovered_as_many yard [] [] (one ∷ found) r = absurd r
recovered_as_many yard [] (disk ∷ disks) found r = absurd r
recovered_as_many yard (store ∷ stores) [] found r = absurd r
recovered_as_many yard (store ∷ stores) (disk ∷ disks) [] r = absurd r
recovered_as_many yard (store ∷ stores) (disk ∷ disks) (one ∷ found) r = let rest = recovered_as_many yard stores disks found r.1 in (ap suc rest.0, ap suc rest.1)
