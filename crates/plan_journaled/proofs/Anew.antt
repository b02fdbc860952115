-- Journals that are made anew, the hands that are made of their books, and how a command ends that opened them.
use Rattle.std.proofs.Common.{◌≡◌, ◌∙◌, refl, sym, ap, subst, arith, inl, ℕ, zero, suc, ◌+◌, ◌<◌, ◌≤◌, ◌^◌, IsTrue, Bool, true, false, List, [], ◌∷◌, ◌++◌, length, map, take, Some, slice_get, Result, Err, IsErrOf}
use Rattle.std.specs.Prelude.{◌≢◌}
use Rattle.std.specs.List.{range_with_len, zip}
use Rattle.std.proofs.lemmas.List.{length-replicate}
use Rattle.std.proofs.lemmas.Option.{get_or_from_slice_get, none-some, slice_get_within}
use Rattle.vd_outside.specs.Causes.{Rose}
use Rattle.vd_arm.specs.Arm.{PassSeen}
use Rattle.vd_disk.specs.Disk.{DiskSeen}
use Rattle.vd_yard.specs.Kept.{Kept, kept_at}
use Rattle.vd_yard.specs.Out.{Out}
use Rattle.vd_yard.specs.Yard.{YardSeen}
use Rattle.plan_types.specs.Valid.{IsPlan}
use Rattle.plan_types.specs.declared.plan.Plan.{Plan}
use Rattle.plan_types.specs.declared.store.StorePlan.{StorePlan}
use Rattle.key_state.specs.declared.entry.Entry.TheVariants.{Settled}
use Rattle.key_state.specs.declared.seen.BookSeen.{BookSeen}
use Rattle.claim_table.specs.Sums.{Each}
use Rattle.slave_worker.specs.Hands.{HandSeen}
use Rattle.run_report.specs.Says.{Printing, Says, says_then}
use Rattle.run_report.specs.declared.status.Status.{Status}
use Rattle.run_report.specs.declared.status.Status.TheVariants as status
use Rattle.plan_hands.specs.Openings.{passes_out}
use Rattle.plan_hands.specs.Stores.{AreStores, IsHandAt, place_of, with_books}
use Rattle.plan_journals.specs.Closing.{AllEnded, AreJournalsApart, IsClosingStatus, WentWell, after_closing, after_refusal, ends_text}
use Rattle.plan_journals.specs.Growth.{ChangesOnlyJournals, DiskRose, IsNoneOf, LeavesRest, SomeRose}
use Rattle.plan_journals.specs.Open.{AllFollow, AreFrom, AreMade, Held, Start, new_starts, out_besides, seen_held}
use Rattle.plan_journals.specs.Opening.{AllOpened, OpenStop, OpeningEnds, memory_out, opened_lines, unmade, unopened}
use Rattle.plan_journals.proofs.Books.{paths_apart}
use Rattle.plan_runs.specs.Stages.{Stage, stage}
use Rattle.plan_runs.proofs.Chosen.{all_of_each}
use Rattle.plan_runs.proofs.Ended.{of_runs}
use Rattle.plan_runs.proofs.Quieted.{nothing_out}
use Rattle.plan_journaled.specs.Journaled.{ClosedUnused, RunsJournaled, StandClosed, ran, stopped, unseated}
use Rattle.plan_journaled.specs.Over.{RunsClosed, books_of}
use Rattle.plan_journaled.proofs.Closed.{tells_before}
use Rattle.plan_journaled.proofs.Ending.{memory_stays}

-- ---- the hands of new books
module _ (plan : Plan) (yard : YardSeen) (logs : ℕ) where
  abbrev seated : ℕ → List BookSeen → List HandSeen
  seated a books = map (λ (one : ℕ × BookSeen). (one.0, [], one.1)) (zip (range_with_len a (length books)) books)

  numbered : (a : ℕ) (stores : List StorePlan) (books : List BookSeen) → length books ≡ length stores → AreMade yard logs stores books → ((i : ℕ) (store : StorePlan) → slice_get stores i ≡ Some store → slice_get plan.stores (a + i) ≡ Some store)
      → (map place_of (seated a books) ≡ range_with_len a (length stores)) × Each (IsHandAt plan) (seated a books)
  numbered a [] [] long made at = (refl, tt)
  numbered a [] (b ∷ books) long made at = absurd (omega (arith, long))
  numbered a (store ∷ stores) [] long made at = absurd (omega (arith, long))
  numbered a (store ∷ stores) (b ∷ books) long made at =
      let same : a ≡ a + 0 = omega arith in
      let first : slice_get plan.stores a ≡ Some store = ap (λ (n : ℕ). slice_get plan.stores n) same ∙ at 0 store refl in
      let sized : length b.now ≡ store.id.geometry.blocks = ap length made.0.fresh.now ∙ length-replicate store.id.geometry.blocks (Settled 0) in
      let rest = numbered (a + 1) stores books (omega (arith, long)) made.1 (λ i other is. let next : a + 1 + i ≡ a + suc i = omega arith in ap (λ (n : ℕ). slice_get plan.stores n) next ∙ at (suc i) other is) in
      (ap (λ (l : List ℕ). a ∷ l) rest.0, (record { its = (store, first, (inl refl, sized)) }, rest.1))

  -- The books of all journals, in their hands.
  pub are_seated : (books : List BookSeen) → length books ≡ length plan.stores → AreMade yard logs plan.stores books → AreStores plan (with_books books)
  are_seated books long made =
      let all = numbered 0 plan.stores books long made (λ i store is. let same : 0 + i ≡ i = omega arith in ap (λ (n : ℕ). slice_get plan.stores n) same ∙ is) in
      record { places = all.0; each = all_of_each (IsHandAt plan) (seated 0 books) all.1 }

-- Their books are those, and none of their passes is out.
seated_books : (a : ℕ) (books : List BookSeen) → books_of (map (λ (one : ℕ × BookSeen). (one.0, [], one.1)) (zip (range_with_len a (length books)) books)) ≡ books
seated_books a [] = refl
seated_books a (b ∷ books) = ap (λ (l : List BookSeen). b ∷ l) (seated_books (a + 1) books)

pub seated_out : (plan : Plan) (hands : List HandSeen) (books : List BookSeen) (out now : Out) → hands ≡ with_books books → now ≡ out_besides out plan.stores → now ≡ passes_out plan hands (out_besides out plan.stores)
seated_out plan hands books out now its is =
    is ∙ sym (ap (λ (l : List HandSeen). passes_out plan l (out_besides out plan.stores)) its ∙ nothing_out plan books (out_besides out plan.stores))

module _ (plan : Plan) (stores : List StorePlan) (all : stores ≡ plan.stores) (a b : YardSeen) (logs : ℕ) (books : List BookSeen) (from : IsTrue a.tells.keeps_disks → AreFrom a.disks stores (new_starts logs stores) books) where
  pub from_anew : (hands : List HandSeen) → hands ≡ with_books books → IsTrue a.tells.keeps_disks → AreFrom a.disks plan.stores (new_starts logs plan.stores) (books_of hands)
  from_anew hands its told =
      let same : books_of hands ≡ books = ap books_of its ∙ seated_books 0 books in
      subst (λ (l : List BookSeen). AreFrom a.disks plan.stores (new_starts logs plan.stores) l) (sym same) (subst (λ (l : List StorePlan). AreFrom a.disks l (new_starts logs l) books) all (from told))

  module _ (c : YardSeen) (tells : b.tells ≡ a.tells) (opened : ChangesOnlyJournals (new_starts logs stores) a.disks b.disks) where
    pub grown_closed : ((starts : List Start) (first : Kept DiskSeen) → (IsTrue b.tells.keeps_disks → AreFrom first stores starts books) → ChangesOnlyJournals starts first b.disks → ChangesOnlyJournals starts first c.disks) → ChangesOnlyJournals (new_starts logs plan.stores) a.disks c.disks
    grown_closed closes =
        subst (λ (l : List StorePlan). ChangesOnlyJournals (new_starts logs l) a.disks c.disks) all (closes (new_starts logs stores) a.disks (λ told. from (tells_before a b tells told)) opened)

    pub grown_over : (hands : List HandSeen) → hands ≡ with_books books → ((starts : List Start) (first : Kept DiskSeen) → (IsTrue b.tells.keeps_disks → AreFrom first plan.stores starts (books_of hands)) → ChangesOnlyJournals starts first b.disks → ChangesOnlyJournals starts first c.disks)
        → ChangesOnlyJournals (new_starts logs plan.stores) a.disks c.disks
    grown_over hands its runs =
        runs (new_starts logs plan.stores) a.disks (λ told. from_anew hands its (tells_before a b tells told)) (subst (λ (l : List StorePlan). ChangesOnlyJournals (new_starts logs l) a.disks b.disks) all opened)

-- What was opened, where nothing was at hand before.
pub opened_books : (a b : YardSeen) (plan : Plan) (stores : List StorePlan) (logs : ℕ) (before now : List BookSeen) (p q : Printing) → stores ≡ plan.stores → before ≡ [] → AllOpened a b stores logs before now p q → AllOpened a b plan.stores logs [] now p q
opened_books a b plan stores logs before now p q all none opened =
    subst (λ (l : List StorePlan). AllOpened a b l logs [] now p q) all (subst (λ (l : List BookSeen). AllOpened a b stores logs l now p q) none opened)

pub ends_books : (a b : YardSeen) (plan : Plan) (stores : List StorePlan) (logs : ℕ) (before now : List BookSeen) (p q : Printing) (why : Status) → stores ≡ plan.stores → before ≡ [] → OpeningEnds a b stores logs before now p q why → OpeningEnds a b plan.stores logs [] now p q why
ends_books a b plan stores logs before now p q why all none ends =
    subst (λ (l : List StorePlan). OpeningEnds a b l logs [] now p q why) all (subst (λ (l : List BookSeen). OpeningEnds a b stores logs l now p q why) none ends)

pub opened_seated : (a b : YardSeen) (plan : Plan) (logs : ℕ) (now : List BookSeen) (p q : Printing) → AllOpened a b plan.stores logs [] now p q → AreStores plan (with_books now)
opened_seated a b plan logs now p q opened =
    subst (λ (l : List BookSeen). AreStores plan (with_books l)) (sym opened.books) (are_seated plan a logs opened.more opened.one_each opened.made)

-- There are as many books that follow.
as_many_follow : (olds news : List BookSeen) → AllFollow olds news → length news ≡ length olds
as_many_follow [] [] follow = refl
as_many_follow [] (new ∷ news) follow = absurd follow
as_many_follow (old ∷ olds) [] follow = absurd follow
as_many_follow (old ∷ olds) (new ∷ news) follow = let rest = as_many_follow olds news follow.1 in omega (arith, rest)

-- Each new journal stands closed.
module _ {P B : Type 0} (pass_seen : P → PassSeen) (book_seen : B → BookSeen) (plan : Plan) (before after : Stage) (opened : YardSeen) (said : Printing) (books : List BookSeen) (result : Status) where
  pub stands_closed : (old : YardSeen) (hands : List HandSeen) → AllOpened old opened plan.stores plan.journal_sectors [] books before.printing said → hands ≡ with_books books → (rest : List ℕ) × RunsClosed pass_seen book_seen plan (stage hands opened before.clock 0 said) after rest result
      → IsPlan plan → WentWell result → IsTrue opened.tells.keeps_disks → AreFrom old.disks plan.stores (new_starts plan.journal_sectors plan.stores) (books_of hands) → StandClosed plan old after.yard
  stands_closed old hands all its (rest, closed) valid well told from =
      let many = as_many_follow (books_of hands) (books_of closed.last.hands) closed.follow in
      let same : books_of hands ≡ books = ap books_of its ∙ seated_books 0 books in
      record {
        books = books_of closed.last.hands;
        one_each = many ∙ ap length same ∙ ap length all.books ∙ all.one_each;
        closed = closed.whole (new_starts plan.journal_sectors plan.stores) old.disks well told (paths_apart plan.stores valid.paths) from;
      }

-- ---- how the command ends
module _ {P B : Type 0} (pass_seen : P → PassSeen) (book_seen : B → BookSeen) (plan : Plan) (before after : Stage) (opened : YardSeen) (said : Printing) (books : List BookSeen) (result : Status) where
  abbrev Journaled : Type 0
  Journaled = (text : List ℕ) × RunsJournaled pass_seen book_seen plan before after text result × Says before.printing after.printing text

  pub ran_anew : (hands : List HandSeen) → LeavesRest before.yard opened → AllOpened before.yard opened plan.stores plan.journal_sectors [] books before.printing said → hands ≡ with_books books → (rest : List ℕ) × RunsClosed pass_seen book_seen plan (stage hands opened before.clock 0 said) after rest result → Journaled
  ran_anew hands leaves all its (rest, closed) =
      let runs = subst (λ (l : List HandSeen). RunsClosed pass_seen book_seen plan (stage l opened before.clock 0 said) after rest result) its closed in
      (opened_lines plan.stores ++ rest, ran books opened said (record { opens = all; leaves = leaves }) rest runs refl, says_then before.printing said after.printing (opened_lines plan.stores) rest all.said runs.says)

  module _ (stores : List StorePlan) (same_stores : stores ≡ plan.stores) (held : List Held) (same : map seen_held held ≡ books) (closing : Status) (answers : IsClosingStatus closing) (left : LeavesRest opened after.yard) (quiet : after.yard.faults ≡ opened.faults) (all_ended : AllEnded opened after.yard stores held said after.printing closing) (clock : after.clock ≡ before.clock) where
    abbrev unused : ClosedUnused plan books opened said after
    unused = record {
      held = held;
      same = same;
      closing = closing;
      ended = subst (λ (l : List StorePlan). AllEnded opened after.yard l held said after.printing closing) same_stores all_ended;
      answers = answers;
      rest = left;
      faults = quiet;
    }

    pub unseated_anew : LeavesRest before.yard opened → AllOpened before.yard opened plan.stores plan.journal_sectors [] books before.printing said → result ≡ after_closing status.NoMemory closing → Journaled
    unseated_anew leaves all is =
        let un = unused in (
          opened_lines plan.stores ++ ends_text plan.stores un.ended.ends,
          unseated books opened said (record { opens = all; leaves = leaves }) un clock refl (is ∙ memory_stays closing answers),
          says_then before.printing said after.printing (opened_lines plan.stores) (ends_text plan.stores un.ended.ends) all.said un.ended.said,
        )

    pub stopped_anew : (why : Status) → OpeningEnds before.yard opened plan.stores plan.journal_sectors [] books before.printing said why → LeavesRest before.yard opened → result ≡ after_refusal why closing → Journaled
    stopped_anew why stops leaves is =
        let un = unused in
        let lines = opened_lines (take stops.place plan.stores) ++ stops.text in (
          lines ++ ends_text plan.stores un.ended.ends,
          stopped books opened said why stops leaves un clock refl is,
          says_then before.printing said after.printing lines (ends_text plan.stores un.ended.ends) stops.said un.ended.said,
        )

-- ---- an opening that stopped
-- The statuses with which it does, and none of them is 0, 1 or 2.
abbrev pub went_badly : Status → Bool
went_badly status.Yard = true
went_badly status.Journal = true
went_badly status.NoMemory = true
went_badly _ = false

pub badly_not_well : (s : Status) → went_badly s ≡ true → WentWell s → ⊥
badly_not_well status.Good is well = let no : false ≡ true = is in cc
badly_not_well status.Corrupt is well = let no : false ≡ true = is in cc
badly_not_well status.Device is well = let no : false ≡ true = is in cc
badly_not_well status.EpochEnd is well = well
badly_not_well status.Journal is well = well
badly_not_well status.Yard is well = well
badly_not_well status.NoMemory is well = well
badly_not_well status.Parameter is well = well
badly_not_well status.Source is well = well
badly_not_well status.Usage is well = well
badly_not_well status.Sink is well = well
badly_not_well status.NoJournal is well = well
badly_not_well status.Damaged is well = well
badly_not_well status.Mismatch is well = well

module _ (a b : YardSeen) (store : StorePlan) (opens : ℕ) (text : List ℕ) where
  -- Its status is that of a failed yard, of a failed journal, or of want of memory.
  stop_has : (p : Status → Bool) → p status.Yard ≡ true → p status.Journal ≡ true → p status.NoMemory ≡ true → (why : Status) → OpenStop a b store opens text why → p why ≡ true
  stop_has p yard journal memory why (unopened rose unwilling disks none is_text is) = ap p is ∙ yard
  stop_has p yard journal memory why (unmade rose faults none is_text is) = ap p is ∙ journal
  stop_has p yard journal memory why (memory_out few is_text is) = ap p is ∙ memory

  stop_not_device : (why : Status) → OpenStop a b store opens text why → why ≢ status.Device
  stop_not_device why (unopened rose unwilling disks none is_text is) so = let no : status.Yard ≡ status.Device = sym is ∙ so in cc
  stop_not_device why (unmade rose faults none is_text is) so = let no : status.Journal ≡ status.Device = sym is ∙ so in cc
  stop_not_device why (memory_out few is_text is) so = let no : status.NoMemory ≡ status.Device = sym is ∙ so in cc

  stop_yard : (why : Status) → OpenStop a b store opens text why → why ≡ status.Yard → Rose a.faults b.faults × (IsTrue a.willing → ⊥)
  stop_yard why (unopened rose unwilling disks none is_text is) so = (rose, unwilling)
  stop_yard why (unmade rose faults none is_text is) so = absurd (let no : status.Journal ≡ status.Yard = sym is ∙ so in cc)
  stop_yard why (memory_out few is_text is) so = absurd (let no : status.NoMemory ≡ status.Yard = sym is ∙ so in cc)

  stop_journal : (why : Status) → OpenStop a b store opens text why → why ≡ status.Journal → (opens ≡ 0) × (IsTrue a.tells.keeps_disks → DiskRose a.disks b.disks store.journal)
  stop_journal why (unopened rose unwilling disks none is_text is) so = absurd (let no : status.Yard ≡ status.Journal = sym is ∙ so in cc)
  stop_journal why (unmade rose faults none is_text is) so = (none, rose)
  stop_journal why (memory_out few is_text is) so = absurd (let no : status.NoMemory ≡ status.Journal = sym is ∙ so in cc)

taken_at : {A : Type 0} (n : ℕ) (xs : List A) (i : ℕ) (x : A) → slice_get (take n xs) i ≡ Some x → (i < n) × (slice_get xs i ≡ Some x)
taken_at zero [] i x at = absurd (none-some x at)
taken_at zero (y ∷ ys) i x at = absurd (none-some x at)
taken_at (suc n) [] i x at = absurd (none-some x at)
taken_at (suc n) (y ∷ ys) zero x at = (omega arith, at)
taken_at (suc n) (y ∷ ys) (suc i) x at = let rest = taken_at n ys i x at in (omega (arith, rest.0), rest.1)

-- The journal of a store is none of those of the stores before it.
none_before : (stores : List StorePlan) (place : ℕ) (store : StorePlan) → AreJournalsApart stores → slice_get stores place ≡ Some store → IsNoneOf store.journal (take place stores)
none_before stores place store apart there i other at same =
    let taken = taken_at place stores i other at in
    let is_other = get_or_from_slice_get stores i other other taken.1 in
    let is_store = get_or_from_slice_get stores place store other there in
    apart i place other taken.0 (slice_get_within stores place store there)
    (ap (λ (s : StorePlan). s.journal) is_other ∙ sym same ∙ ap (λ (s : StorePlan). s.journal) (sym is_store))

module _ (a b : YardSeen) (stores : List StorePlan) (logs : ℕ) (now : List BookSeen) (p q : Printing) (why : Status) (ends : OpeningEnds a b stores logs [] now p q why) where
  pub ends_of_runs : of_runs why ≡ true
  ends_of_runs = stop_has a b ends.store ends.opens ends.text of_runs refl refl refl why ends.stop

  pub ends_badly : went_badly why ≡ true
  ends_badly = stop_has a b ends.store ends.opens ends.text went_badly refl refl refl why ends.stop

  pub ends_not_device : why ≢ status.Device
  ends_not_device = stop_not_device a b ends.store ends.opens ends.text why ends.stop

  pub ends_yard : why ≡ status.Yard → Rose a.faults b.faults × (IsTrue a.willing → ⊥)
  ends_yard = stop_yard a b ends.store ends.opens ends.text why ends.stop

  -- Where a journal couldn't be made the count of faults of its disk rose, also once the others are closed.
  pub ends_journal : (c : YardSeen) (many : ℕ) → many ≡ length now → why ≡ status.Journal → IsTrue a.tells.keeps_disks → AreJournalsApart stores → ((path : List ℕ) → IsNoneOf path (take many stores) → kept_at c.disks path ≡ kept_at b.disks path) → SomeRose stores a.disks c.disks
  ends_journal c many are so told apart others =
      let stop = stop_journal a b ends.store ends.opens ends.text why ends.stop so in
      let rose = stop.1 told in
      let none = none_before stores ends.place ends.store apart ends.there in
      let here : many ≡ ends.place = omega (arith, are, ap length ends.books, ends.so_many, stop.0) in
      record {
        place = ends.place;
        store = ends.store;
        there = ends.there;
        rose = record {
          disk = rose.disk;
          kept = others ends.store.journal (subst (λ (n : ℕ). IsNoneOf ends.store.journal (take n stores)) (sym here) none) ∙ rose.kept;
          rose = rose.rose;
        };
      }

-- Stores of a valid plan have journals of their own.
pub plan_apart : (plan : Plan) (stores : List StorePlan) → IsPlan plan → stores ≡ plan.stores → AreJournalsApart stores
plan_apart plan stores valid all = subst AreJournalsApart (sym all) (paths_apart plan.stores valid.paths)

pub some_rose_of : (plan : Plan) (stores : List StorePlan) (old new : Kept DiskSeen) → stores ≡ plan.stores → SomeRose stores old new → SomeRose plan.stores old new
some_rose_of plan stores old new all rose = subst (λ (l : List StorePlan). SomeRose l old new) all rose

-- Paths of none of these journals keep what they had.
pub others_of : (plan : Plan) (stores : List StorePlan) → stores ≡ plan.stores → (n : ℕ) (b c : YardSeen) → ((path : List ℕ) → IsNoneOf path (take n stores) → kept_at c.disks path ≡ kept_at b.disks path)
    → (path : List ℕ) → IsNoneOf path (take n plan.stores) → kept_at c.disks path ≡ kept_at b.disks path
others_of plan stores all n b c others = subst (λ (l : List StorePlan). (path : List ℕ) → IsNoneOf path (take n l) → kept_at c.disks path ≡ kept_at b.disks path) all others

-- An opening that ended by another status.
err_is : {T : Type 0} (r : Result T Status) (a b : Status) → r ≡ Err a → r ≡ Err b → a ≡ b
err_is r a b p q = cc

pub refused_quiet : {T : Type 0} (this why result : Status) (r : Result T Status) → r ≡ Err why → why ≡ result → result ≢ this → IsErrOf r this → ⊥
refused_quiet this why result r is same never so = never (sym same ∙ err_is r why this is so)

-- No more books than a plan has stores.
pub few_books : (plan : Plan) (stores : List StorePlan) (n : ℕ) → stores ≡ plan.stores → IsPlan plan → n ≤ length stores → n < 2 ^ 32
few_books plan stores n all valid few = omega (arith, few, ap length all, valid.few_stores)
