-- How a command ends whose journals weren't all opened, or whose memory ran out.
use Rattle.std.proofs.Common.{◌≡◌, ◌∙◌, refl, sym, ap, subst, arith, inl, inr, ◌⊎◌, ℕ, zero, suc, ◌<◌, Bool, true, false, IsTrue, List, [], ◌∷◌, length, take, Some, slice_get}
use Rattle.std.specs.Prelude.{◌≢◌}
use Rattle.std.proofs.lemmas.Option.{get_or_from_slice_get, none-some, slice_get_within}
use Rattle.vd_yard.specs.Counts.{Counts, arm_faults, source_faults}
use Rattle.vd_yard.specs.Kept.{kept_at}
use Rattle.vd_yard.specs.Yard.{StaysThere, YardSeen}
use Rattle.plan_types.specs.declared.store.StorePlan.{StorePlan}
use Rattle.key_state.specs.declared.entry.Entry.{Entry}
use Rattle.key_state.specs.declared.seen.BookSeen.{BookSeen}
use Rattle.journal_recover.specs.declared.found.Recovered.{Recovered}
use Rattle.run_report.specs.Says.{Printing}
use Rattle.run_report.specs.declared.status.Status.{Status}
use Rattle.run_report.specs.declared.status.Status.TheVariants as status
use Rattle.plan_journals.specs.Closing.{AreJournalsApart, IsClosingStatus, WentWell, after_closing, after_refusal}
use Rattle.plan_journals.specs.Growth.{DiskRose, IsNoneOf, SomeRose}
use Rattle.plan_journals.specs.Open.{Start}
use Rattle.plan_reopened.specs.Reopening.{ReopenStop, ReopeningEnds, last_is_over, memory_out, next_starts, not_reopened}
use Rattle.plan_runs.proofs.Ended.{of_runs}
use Rattle.plan_journaled.specs.Over.{CanEndOver}
use Rattle.plan_resumed.specs.Going.{LeavesYard}
use Rattle.plan_resumed.proofs.Starts.{start_at}

-- Want of memory stays behind closing; behind a refusal the refusal's status stays, or it is want of memory.
pub memory_stays : (closing : Status) → IsClosingStatus closing → after_closing status.NoMemory closing ≡ status.NoMemory
memory_stays closing (inl is) = ap (after_closing status.NoMemory) is
memory_stays closing (inr (inl is)) = ap (after_closing status.NoMemory) is
memory_stays closing (inr (inr is)) = ap (after_closing status.NoMemory) is

either_refused : (why closing : Status) → IsClosingStatus closing → (after_refusal why closing ≡ why) ⊎ (after_refusal why closing ≡ status.NoMemory)
either_refused why closing (inl is) = inl (ap (after_refusal why) is)
either_refused why closing (inr (inl is)) = inl (ap (after_refusal why) is)
either_refused why closing (inr (inr is)) = inr (ap (after_refusal why) is)

pub refused_same : (this why closing result : Status) → this ≢ status.NoMemory → IsClosingStatus closing → result ≡ after_refusal why closing → result ≡ this → why ≡ this
refused_same this why closing result memory answers is so =
    elim (either_refused why closing answers) [
      | inl same ↦ sym same ∙ sym is ∙ so
      | inr other ↦ absurd (memory (sym so ∙ is ∙ other))
    ]

refused_has : (p : Status → Bool) (why closing : Status) → IsClosingStatus closing → p why ≡ true → p status.NoMemory ≡ true → p (after_refusal why closing) ≡ true
refused_has p why closing answers has memory =
    elim (either_refused why closing answers) [
      | inl same ↦ ap p same ∙ has
      | inr other ↦ ap p other ∙ memory
    ]

-- The statuses with which opening journals stops, or want of memory.
abbrev pub refuses : Status → Bool
refuses status.EpochEnd = true
refuses status.Journal = true
refuses status.NoMemory = true
refuses _ = false

refuses_of_runs : (s : Status) → refuses s ≡ true → of_runs s ≡ true
refuses_of_runs status.EpochEnd is = refl
refuses_of_runs status.Journal is = refl
refuses_of_runs status.NoMemory is = refl
refuses_of_runs status.Good is = refl
refuses_of_runs status.Corrupt is = refl
refuses_of_runs status.Device is = refl
refuses_of_runs status.Yard is = refl
refuses_of_runs status.Parameter is = is
refuses_of_runs status.Source is = is
refuses_of_runs status.Usage is = is
refuses_of_runs status.Sink is = is
refuses_of_runs status.NoJournal is = is
refuses_of_runs status.Damaged is = is
refuses_of_runs status.Mismatch is = is

pub refuses_badly : (s : Status) → refuses s ≡ true → WentWell s → ⊥
refuses_badly status.Good is well = let no : false ≡ true = is in cc
refuses_badly status.Corrupt is well = let no : false ≡ true = is in cc
refuses_badly status.Device is well = let no : false ≡ true = is in cc
refuses_badly status.EpochEnd is well = well
refuses_badly status.Journal is well = well
refuses_badly status.Yard is well = well
refuses_badly status.NoMemory is well = well
refuses_badly status.Parameter is well = well
refuses_badly status.Source is well = well
refuses_badly status.Usage is well = well
refuses_badly status.Sink is well = well
refuses_badly status.NoJournal is well = well
refuses_badly status.Damaged is well = well
refuses_badly status.Mismatch is well = well

can_by : (result : Status) → of_runs result ≡ true → CanEndOver result
can_by result known = record {
  no_usage = λ is. let so : false ≡ true = sym (ap of_runs is) ∙ known in cc;
  no_parameter = λ is. let so : false ≡ true = sym (ap of_runs is) ∙ known in cc;
  no_source = λ is. let so : false ≡ true = sym (ap of_runs is) ∙ known in cc;
  no_output = λ is. let so : false ≡ true = sym (ap of_runs is) ∙ known in cc;
  none_missing = λ is. let so : false ≡ true = sym (ap of_runs is) ∙ known in cc;
  none_damaged = λ is. let so : false ≡ true = sym (ap of_runs is) ∙ known in cc;
  none_mismatched = λ is. let so : false ≡ true = sym (ap of_runs is) ∙ known in cc;
}

-- A command that made no run leaves the counts.
pub leaves_quiet : (a d : YardSeen) (result : Status) → d.tells ≡ a.tells → (IsTrue a.willing → IsTrue d.willing) → StaysThere a.files d.files → d.counts ≡ a.counts → d.faults ≡ a.faults → refuses result ≡ true → LeavesYard a d result
leaves_quiet a d result tells willing files counts faults is =
    let not_yard : result ≢ status.Yard = λ so. let no : false ≡ true = sym (ap refuses so) ∙ is in cc in
    let not_device : result ≢ status.Device = λ so. let no : false ≡ true = sym (ap refuses so) ∙ is in cc in
    record {
      tells = tells;
      willing = λ w. (willing w, not_yard);
      files = files;
      sources = λ path. ap (λ (k : Counts). source_faults k path) counts;
      yard_fault = λ so. absurd (not_yard so);
      yard_quiet = λ yard memory. faults;
      arms = λ path. let same : arm_faults d.counts path ≡ arm_faults a.counts path = ap (λ (k : Counts). arm_faults k path) counts in omega (arith, same);
      device_fault = λ so. absurd (not_device so);
      device_quiet = λ device epoch journal yard memory path. ap (λ (k : Counts). arm_faults k path) counts;
      can = can_by result (refuses_of_runs result is);
    }

-- ---- an opening that stopped
module _ (a b : YardSeen) (start : Start) (opens : ℕ) (text : List ℕ) where
  stop_has : (why : Status) → ReopenStop a b start opens text why → refuses why ≡ true
  stop_has why (last_is_over over same none is_text is) = ap refuses is
  stop_has why (not_reopened low rose none is_text is) = ap refuses is
  stop_has why (memory_out few is_text is) = ap refuses is

  stop_journal : (why : Status) → ReopenStop a b start opens text why → why ≡ status.Journal → (opens ≡ 0) × (IsTrue a.tells.keeps_disks → DiskRose a.disks b.disks start.journal)
  stop_journal why (last_is_over over same none is_text is) so = absurd (let no : status.EpochEnd ≡ status.Journal = sym is ∙ so in cc)
  stop_journal why (not_reopened low rose none is_text is) so = (none, rose)
  stop_journal why (memory_out few is_text is) so = absurd (let no : status.NoMemory ≡ status.Journal = sym is ∙ so in cc)

taken_at : {A : Type 0} (n : ℕ) (xs : List A) (i : ℕ) (x : A) → slice_get (take n xs) i ≡ Some x → (i < n) × (slice_get xs i ≡ Some x)
taken_at zero [] i x at = absurd (none-some x at)
taken_at zero (y ∷ ys) i x at = absurd (none-some x at)
taken_at (suc n) [] i x at = absurd (none-some x at)
taken_at (suc n) (y ∷ ys) zero x at = (omega arith, at)
taken_at (suc n) (y ∷ ys) (suc i) x at = let rest = taken_at n ys i x at in (omega (arith, rest.0), rest.1)

-- The journal of a store is none of those of the stores before it.
none_before : (stores : List StorePlan) (place : ℕ) (store : StorePlan) → AreJournalsApart stores → slice_get stores place ≡ Some store → IsNoneOf store.journal (take place stores)
none_before stores place store apart there i other at same =
    let taken = taken_at place stores i other at in
    let is_other = get_or_from_slice_get stores i other other taken.1 in
    let is_store = get_or_from_slice_get stores place store other there in
    apart i place other taken.0 (slice_get_within stores place store there)
    (ap (λ (s : StorePlan). s.journal) is_other ∙ sym same ∙ ap (λ (s : StorePlan). s.journal) (sym is_store))

module _ (a b : YardSeen) (stores : List StorePlan) (found : List Recovered) (settled : List (List Entry)) (now : List BookSeen) (p q : Printing) (why : Status) (ends : ReopeningEnds a b stores (next_starts stores found settled) [] now p q why) where
  pub ends_refuses : refuses why ≡ true
  ends_refuses = stop_has a b ends.start ends.opens ends.text why ends.stop

  pub after_refuses : (closing : Status) → IsClosingStatus closing → refuses (after_refusal why closing) ≡ true
  after_refuses closing answers = refused_has refuses why closing answers ends_refuses refl

  -- Where a journal couldn't be opened the count of faults of its disk rose, also once the others are closed.
  pub ends_journal : (c : YardSeen) (many : ℕ) → many ≡ length now → why ≡ status.Journal → IsTrue a.tells.keeps_disks → AreJournalsApart stores → ((path : List ℕ) → IsNoneOf path (take many stores) → kept_at c.disks path ≡ kept_at b.disks path) → SomeRose stores a.disks c.disks
  ends_journal c many are so told apart others =
      let stop = stop_journal a b ends.start ends.opens ends.text why ends.stop so in
      let its = start_at stores found settled ends.place ends.start ends.there in
      let rose : DiskRose a.disks b.disks its.0.journal = subst (λ (path : List ℕ). DiskRose a.disks b.disks path) its.2 (stop.1 told) in
      let none = none_before stores ends.place its.0 apart its.1 in
      let here : many ≡ ends.place = omega (arith, are, ap length ends.books, ends.so_many, stop.0) in
      record {
        place = ends.place;
        store = its.0;
        there = its.1;
        rose = record {
          disk = rose.disk;
          kept = others its.0.journal (subst (λ (n : ℕ). IsNoneOf its.0.journal (take n stores)) (sym here) none) ∙ rose.kept;
          rose = rose.rose;
        };
      }
