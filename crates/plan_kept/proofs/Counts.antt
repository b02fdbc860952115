-- The ends that are stored in a journal which stands closed are the writes of its store's total lines.
use Rattle.std.proofs.Common.{◌≡◌, ◌∙◌, refl, sym, ap, subst, arith, ℕ, zero, suc, ◌+◌, IsTrue, List, [], ◌∷◌, length, map}
use Rattle.std.specs.Prelude.{◌%◌, ◌^◌, Some, slice_get}
use Rattle.std.proofs.Math.Logic.{∥∥₁_map}
use Rattle.std.proofs.Math.Nat.{mod-mod}
use Rattle.std.proofs.lemmas.Option.{none-some, same_Some}
use Rattle.vd_arm.specs.Arm.{PassSeen}
use Rattle.vd_disk.specs.Disk.{DiskSeen}
use Rattle.vd_yard.specs.Kept.{Kept, kept_at}
use Rattle.vd_yard.specs.Yard.{Tells, YardSeen}
use Rattle.plan_types.specs.Valid.{IsPlan}
use Rattle.plan_types.specs.declared.plan.Plan.{Plan}
use Rattle.key_state.specs.Entries.{ends as ends_in}
use Rattle.key_state.specs.declared.seen.BookSeen.{BookSeen}
use Rattle.slave_worker.specs.Hands.{HandSeen}
use Rattle.run_report.specs.declared.status.Status.{Status}
use Rattle.run_totals.proofs.Lists.{get_map}
use Rattle.plan_hands.specs.Stores.{AreStores, book_of, with_books}
use Rattle.plan_journals.specs.Growth.{AreKeptClosed, IsKeptClosed}
use Rattle.plan_journals.specs.Open.{AreFrom, AreMade, AreOpenedNow, AreStartsOf, Start, new_starts}
use Rattle.plan_journals.proofs.Books.{made_from, opened_from, paths_apart}
use Rattle.plan_journaled.specs.Laws.{ClosedRecovers}
use Rattle.plan_journaled.specs.Over.{RunsClosed, books_of}
use Rattle.plan_journaled.proofs.Anew.{from_anew}
use Rattle.plan_runs.specs.Stages.{Stage, stage}
use Rattle.plan_totals.specs.Made.{PlanRuns, all_made, sum_of}
use Rattle.plan_totals.specs.Sentences.{RoseBy, WritesAreEnds}
use Rattle.plan_resumed.specs.Seating.{with_passes}
use Rattle.plan_verified.specs.Stores.{settled_of}
use Rattle.plan_kept.specs.Laws.{JournalsCount, NewJournalsCount, OldJournalsCount}
use Rattle.plan_kept.proofs.Anew.{hand_at}
use Rattle.plan_kept.proofs.Seats.{are_starts, long_left, seat_at, seated_books}

-- a journal that stands closed, by its place
closed_there : (first now : Kept DiskSeen) (starts : List Start) (books : List BookSeen) → AreKeptClosed first now starts books
    → (i : ℕ) (start : Start) (b : BookSeen) → slice_get starts i ≡ Some start → slice_get books i ≡ Some b → IsKeptClosed first now start b
closed_there first now starts [] kept i start b at there = absurd (none-some b there)
closed_there first now [] (x ∷ books) kept i start b at there = absurd kept
closed_there first now (s ∷ starts) (x ∷ books) kept zero start b at there =
    subst (λ (t : Start). IsKeptClosed first now t b) (same_Some s start at) (subst (IsKeptClosed first now s) (same_Some x b there) kept.0)
closed_there first now (s ∷ starts) (x ∷ books) kept (suc i) start b at there = closed_there first now starts books kept.1 i start b at there

-- A book that was opened just now has ended no write.
none_ended : (yard : YardSeen) (starts : List Start) (books : List BookSeen) → AreOpenedNow yard starts books → (i : ℕ) (b : BookSeen) → slice_get books i ≡ Some b → b.ends ≡ 0
none_ended yard starts [] opened i b there = absurd (none-some b there)
none_ended yard [] (x ∷ books) opened i b there = absurd opened
none_ended yard (s ∷ starts) (x ∷ books) opened zero b there = sym (ap (λ (y : BookSeen). y.ends) (same_Some x b there)) ∙ opened.0.fresh.ends
none_ended yard (s ∷ starts) (x ∷ books) opened (suc i) b there = none_ended yard starts books opened.1 i b there

-- counts from 0 on, modulo whatever
same_rise : (m stored written first last : ℕ) → first ≡ 0 → last ≡ stored % m → last % m ≡ (first + written) % m → stored % m ≡ written % m
same_rise m stored written first last none is rise =
    let here : first + written ≡ written = omega (arith, none) in
    sym (mod-mod stored m) ∙ ap (λ (n : ℕ). n % m) (sym is) ∙ rise ∙ ap (λ (n : ℕ). n % m) here

module _ {P B : Type 0} (pass_seen : P → PassSeen) (book_seen : B → BookSeen) (writes : WritesAreEnds pass_seen book_seen) (recovers : ClosedRecovers) where
  journals_count : (plan : Plan) (valid : IsPlan plan) (before after : Stage) (text : List ℕ) (result : Status) (closed : RunsClosed pass_seen book_seen plan before after text result) (stores : AreStores plan before.hands)
      → (starts : List Start) (first : Kept DiskSeen) → AreKeptClosed first after.yard.disks starts (books_of closed.last.hands)
      → ((place : ℕ) (hand : HandSeen) → slice_get before.hands place ≡ Some hand → (book_of hand).ends ≡ 0)
      → JournalsCount pass_seen book_seen plan valid before after text result closed stores starts
  journals_count plan valid before after text result closed stores starts first stand fresh its start at =
      let b : BookSeen = book_of its.back in
      let one = closed_there first after.yard.disks starts (books_of closed.last.hands) stand its.place start b at (get_map book_of closed.last.hands its.place its.back its.came_back) in
      let all : PlanRuns pass_seen book_seen = record { plan = plan; before = before; last = closed.last; text = closed.runs_text; result = closed.work; valid = valid; stores = stores; runs = closed.made } in
      let written = sum_of (λ totals. totals.writes) its.place (all_made pass_seen book_seen plan plan.runs before closed.last closed.runs_text closed.work closed.made) in
      let rose : RoseBy written (book_of its.hand).ends b.ends = (writes all its).1 in
      record {
        disk = one.disk;
        kept = one.kept;
        counts = λ sectors told.
            ∥∥₁_map (recovers start (kept_at first start.journal) b one.disk one.well sectors told) (λ each. λ image left.
            let gives = each image left in
            record {
              live = gives.live;
              records = gives.records;
              entries = b.now;
              gives = gives.gives;
              ends = λ epoch. same_rise (2 ^ 64) (ends_in gives.records) written (book_of its.hand).ends b.ends (fresh its.place its.hand its.went_in) (gives.ends (sym gives.epoch ∙ epoch)) rose.rise;
            });
      }

  pub new_journals_count : NewJournalsCount pass_seen book_seen
  new_journals_count plan valid before after books opened said all_open text result closed stores well disks =
      let logs = plan.journal_sectors in
      let are : AreMade before.yard logs plan.stores books = subst (λ (l : List BookSeen). AreMade before.yard logs plan.stores l) (sym all_open.opens.books) all_open.opens.made in
      let from = from_anew plan plan.stores refl before.yard opened logs books (made_from before.yard logs plan.stores books are) (with_books books) refl disks in
      let still : IsTrue opened.tells.keeps_disks = subst (λ (t : Tells). IsTrue t.keeps_disks) (sym all_open.leaves.tells) disks in
      let stand = closed.whole (new_starts logs plan.stores) before.yard.disks well still (paths_apart plan.stores valid.paths) from in
      journals_count plan valid (stage (with_books books) opened before.clock 0 said) after text result closed stores (new_starts logs plan.stores) before.yard.disks stand
      (λ place hand at. none_ended before.yard (new_starts logs plan.stores) books are place (book_of hand) (hand_at 0 books place hand at).1)

  pub old_journals_count : OldJournalsCount pass_seen book_seen
  old_journals_count plan valid found seen left recovered said verified told looked starts is clock after books printed opens text result closed stores well still =
      let opened : AreOpenedNow verified starts books = subst (AreOpenedNow verified starts) (sym opens.books) opens.opened in
      let are : AreStartsOf plan.stores starts = subst (AreStartsOf plan.stores) (sym is) (are_starts plan.stores found (map settled_of left) recovered verified seen left looked.each refl) in
      let books_are = seated_books 0 left books (long_left recovered verified plan.stores found seen left starts books looked.each is (ap length opens.books ∙ opens.one_each)) in
      let from = subst (AreFrom verified.disks plan.stores starts) (sym books_are) (opened_from verified plan.stores starts books are opened still) in
      let stand = closed.whole starts verified.disks well still (paths_apart plan.stores valid.paths) from in
      journals_count plan valid (stage (with_passes left books) verified clock 0 printed) after text result closed stores starts verified.disks stand
      (λ place hand at.
      let seat = seat_at 0 left books place hand at in
      ap (λ (h : HandSeen). (book_of h).ends) seat.is ∙ none_ended verified starts books opened place seat.book seat.its_book)
