-- What a journal that stands closed recovers to.
use Rattle.std.proofs.Common.{◌≡◌, ◌∙◌, sym, ap, subst, arith, inl, inr, ℕ, ◌+◌, ◌-◌, ◌%◌, ◌^◌, ◌<◌, ◌≤◌, List, length, take, Option, Some, None, IsSome}
use Rattle.std.proofs.Math.Logic.{∥∥₁_map}
use Rattle.std.proofs.lemmas.List.{length-take, take_all}
use Rattle.vd_base.specs.declared.geometry.StoreId.{StoreId}
use Rattle.key_state.specs.Entries.{ends as ends_in, states}
use Rattle.key_state.specs.declared.entry.Entry.{Entry}
use Rattle.key_state.specs.declared.record.Record.{Record}
use Rattle.key_state.specs.declared.seen.BookSeen.{BookSeen}
use Rattle.vd_disk.specs.Disk.{DiskSeen, Extends, IsImage, Sectors, Table, present}
use Rattle.journal_core.specs.History.{Found, HistoryOf, OneHistory, closed}
use Rattle.journal_core.specs.Keeps.{Story}
use Rattle.journal_layout.specs.Recovery.{Gives, Recovers}
use Rattle.plan_journals.specs.Growth.{ClosedWell}
use Rattle.plan_journals.specs.Open.{Start}
use Rattle.plan_journaled.specs.Laws.{ClosedRecovers, RecoversBook}

longer_extends : (old new : List Table) → Extends old new → length old ≤ length new
longer_extends old new e =
    let same : length (take (length old) new) ≡ length old = ap length e.front in
    omega (arith, same, length-take (length old) new)

never_stopped : (stopped : Option ℕ) → stopped ≡ None → IsSome stopped → ⊥
never_stopped None is some = cc
never_stopped (Some n) is some = cc

same_some : (a b : StoreId) → Some a ≡ Some b → a ≡ b
same_some a b is = cc

module _ (start : Start) (kept : Option DiskSeen) (b : BookSeen) (disk : DiskSeen) (well : ClosedWell start kept b disk) (so_far : Story) (records : ℕ) (history : HistoryOf (closed b disk) so_far records records disk) (sectors : Sectors) (told : disk.told ≡ Some sectors) where
  its_id : history.id ≡ start.id
  its_id = same_some history.id start.id (sym history.its_id ∙ well.opened.its_id)

  module _ (image : Sectors) (left : IsImage (present disk.moments) image) where
    one : OneHistory (closed b disk) history.id disk so_far records
    one = history.images sectors told

    found : Found history.id image
    found =
        let begun = (well.telling.fits.tale sectors told).began in
        let longer = longer_extends b.origin.opened disk.moments history.earlier in
        one.found (length disk.moments - 1) image (omega (arith, longer, begun), record { reached = omega (arith, begun); left = left })

    since : (length b.origin.opened ≤ length disk.moments - 1 + 1) × (length disk.moments - 1 < length disk.moments)
    since =
        let begun = (well.telling.fits.tale sectors told).began in
        let longer = longer_extends b.origin.opened disk.moments history.earlier in
        (omega (arith, longer, begun), omega (arith, begun))

    -- It is of the book's epoch, and has all its records.
    newest : (found.live.epoch ≡ b.epoch) × (records ≤ length found.records)
    newest = elim (one.now image left found) [
      | inl is ↦ is
      | inr next ↦ absurd (never_stopped b.stopped well.running next.1)
    ]

    recovers : RecoversBook start b image
    recovers =
        let own = one.own (length disk.moments - 1) image (since.0, record { reached = since.1; left = left }) found newest.0 in
        let all : found.records ≡ so_far.past =
        own.1 ∙ take_all (length found.records) so_far.past (omega (arith, newest.1, history.many)) in
        let now : states found.base found.records ≡ b.now =
        ap (λ (l : List Entry). states l found.records) own.0 ∙ ap (states so_far.base) all ∙ sym history.now in
        record {
          live = found.live;
          epoch = newest.0;
          records = found.records;
          gives =
              subst (λ (i : StoreId). Gives image i (Recovers found.live found.records b.now)) its_id
              (subst (λ (l : List Entry). Gives image history.id (Recovers found.live found.records l)) now found.gives);
          ends = λ same. history.ends (same ∙ sym well.opened.its_epoch) ∙ ap (λ (l : List Record). ends_in l % 2 ^ 64) (sym all);
        }

pub closed_recovers : ClosedRecovers
closed_recovers start kept b disk well sectors told =
    ∥∥₁_map well.whole (λ h. λ image left. recovers start kept b disk well h.0 h.1 h.2 sectors told image left)
