-- What the runs of a command add up to, from the laws of all runs of a plan.
use Rattle.std.proofs.Common.{◌≡◌, IsTrue, ℕ, zero, suc, ◌+◌, ◌-◌, ◌^◌, ◌≤◌, min, inl, inr, Bool, true, false, List, [], ◌∷◌, length, map, refl, sym, ◌∙◌, ap, subst, arith}
use Rattle.std.specs.Prelude.{Some, count_by, replicate, slice_get, slice_index_or}
use Rattle.std.specs.List.{range_with_len, zip}
use Rattle.std.proofs.lemmas.Option.{none-some, same_Some}
use Rattle.vd_arm.specs.Arm.{Counted, PassSeen}
use Rattle.vd_disk.specs.Disk.{DiskSeen}
use Rattle.vd_yard.specs.Counts.{Counts, arm_faults, good_reads, good_writes}
use Rattle.vd_yard.specs.Yard.{YardSeen}
use Rattle.plan_types.specs.Valid.{IsPlan}
use Rattle.plan_types.specs.declared.plan.Plan.{Plan}
use Rattle.plan_types.specs.declared.store.StorePlan.{StorePlan}
use Rattle.key_state.specs.Quiet.{quiet_seen}
use Rattle.key_state.specs.declared.entry.Entry.{Entry}
use Rattle.key_state.specs.declared.entry.Entry.TheVariants.{Settled}
use Rattle.key_state.specs.declared.seen.BookSeen.{BookSeen}
use Rattle.claim_table.specs.Sums.{total}
use Rattle.claim_table.specs.Views.{bad}
use Rattle.slave_worker.specs.Hands.{HandSeen}
use Rattle.journal_recover.specs.declared.found.Recovered.{Recovered}
use Rattle.recover_run.specs.Looks.{is_seen, is_unread}
use Rattle.recover_run.specs.declared.look.Look.{Look}
use Rattle.run_report.specs.declared.status.Status.{Status}
use Rattle.run_report.specs.declared.status.Status.TheVariants as status
use Rattle.still_plan.specs.Frame.{CountsStay}
use Rattle.still_plan.specs.Stores.{PathRose, all_looks, looks_status}
use Rattle.plan_hands.specs.Stores.{AreStores, book_of, with_books}
use Rattle.plan_journals.specs.Closing.{IsClosingStatus, WentWell, after_closing, fault_behind}
use Rattle.plan_journals.specs.Open.{AreMade, Start}
use Rattle.plan_journaled.specs.Over.{RunsClosed}
use Rattle.plan_reopened.specs.Reopening.{AllReopened}
use Rattle.plan_kept.specs.Laws.{JournalsCount, NewJournalsCount, OldJournalsCount}
use Rattle.run_report.specs.Says.{Printing}
use Rattle.plan_journaled.specs.Journaled.{RunsJournaled}
use Rattle.plan_journaled.specs.Journaled as journaled
use Rattle.plan_journaled.proofs.Anew.{are_seated as new_seats}
use Rattle.plan_runs.specs.Quiet.{RunsQuietly, none_made, unwritten}
use Rattle.plan_runs.specs.Quiet as quietly
use Rattle.plan_runs.specs.Stages.{RunsMade, Stage, stage}
use Rattle.plan_runs.proofs.Quieted.{are_seated as quiet_seats}
use Rattle.plan_verified.specs.Stores.{LeaveStores, StoreSeen}
use Rattle.plan_resumed.specs.Going.{GoesOn}
use Rattle.plan_resumed.specs.Going as going
use Rattle.plan_resumed.specs.Resumed.{RunsResumed}
use Rattle.plan_resumed.specs.Resumed as resumed
use Rattle.plan_resumed.specs.Seating.{with_passes}
use Rattle.plan_totals.specs.Drawn.{LinesAreDrawn, SlavesTellTurns, StillRunsMakeAllTurns}
use Rattle.plan_totals.specs.Made.{PlanRuns, StoreOf, made_of, sum_of}
use Rattle.plan_totals.proofs.Good.{good_worse}
use Rattle.plan_totals.specs.Sentences.{CorruptAreBad, ErrorsAreFindings, FaultsAreArmFaults, FindingsAreTold, FirstAreMade, NoneIsLeftOut, OneForEach, OtherPathsStay, ReadsAreGoodReads, RefusedIsTold, StartBelowLimit, StatusIsFound, TextIsTheirs, WritesAreEnds, WritesAreGoodWrites}
use Rattle.vdbench_top.specs.Runs.{OnlyReads, RunsFile, no_plan, ran, ran_journaled, ran_resumed, rereading}
use Rattle.vdbench_top.specs.Sums.{AddUp, CountsAddUp, FileAddsUp, GoingAddsUp, JournaledAddUp, QuietlyAddUp, ResumedAddUp, RunsAddUp, RunsAreDrawn, StoreAddsUp}
use Rattle.vdbench_top.specs.Words.{Asked}

-- What verification did to the counts of a path, from before the command on.
pub record PathBegins (old first : YardSeen) (path : List ℕ) (looks : List Look) : Type 0 where
  pub reads : Counted (count_by is_seen looks) (good_reads old.counts path) (good_reads first.counts path)
  pub faults : min (arm_faults old.counts path + count_by is_unread looks) (2 ^ 64 - 1) ≤ arm_faults first.counts path
  pub no_faults : count_by is_unread looks ≡ 0 → arm_faults first.counts path ≡ arm_faults old.counts path
  pub writes : Counted 0 (good_writes old.counts path) (good_writes first.counts path)

module _ {P B : Type 0} (pass_seen : P → PassSeen) (book_seen : B → BookSeen) where
  -- the laws of all runs of a plan that are used here
  pub record Laws : Type 0 where
    pub first : FirstAreMade pass_seen book_seen
    pub below : StartBelowLimit pass_seen book_seen
    pub left_out : NoneIsLeftOut pass_seen book_seen
    pub text : TextIsTheirs pass_seen book_seen
    pub refused : RefusedIsTold pass_seen book_seen
    pub each : OneForEach pass_seen book_seen
    pub findings : FindingsAreTold pass_seen book_seen
    pub status : StatusIsFound pass_seen book_seen
    pub others : OtherPathsStay pass_seen book_seen
    pub errors : ErrorsAreFindings pass_seen book_seen
    pub writes : WritesAreEnds pass_seen book_seen
    pub reads : ReadsAreGoodReads pass_seen book_seen
    pub faults : FaultsAreArmFaults pass_seen book_seen
    pub good_writes : WritesAreGoodWrites pass_seen book_seen
    pub corrupt : CorruptAreBad pass_seen book_seen
    pub drawn : LinesAreDrawn pass_seen book_seen
    pub turns : SlavesTellTurns pass_seen book_seen
    pub still : StillRunsMakeAllTurns pass_seen book_seen

  runs_add : Laws → (all : PlanRuns pass_seen book_seen) → RunsAddUp pass_seen book_seen all
  runs_add laws all = record {
    first = laws.first all;
    below = laws.below all;
    left_out = laws.left_out all;
    text = laws.text all;
    refused = laws.refused all;
    each = laws.each all;
    findings = laws.findings all;
    status = laws.status all;
    elsewhere = laws.others all;
    errors = laws.errors all;
    stores = λ its. record {
      follows = (laws.writes all its).0;
      writes = (laws.writes all its).1;
      reads = laws.reads all its;
      faults = (laws.faults all its).0;
      no_faults = (laws.faults all its).1;
      good_writes = laws.good_writes all its;
      corrupt = laws.corrupt all its;
    };
  }

  -- no block of these hands is bad
  abbrev NoneBad : List HandSeen → Type 0
  NoneBad hands = (place : ℕ) (hand : HandSeen) → slice_get hands place ≡ Some hand → total bad (book_of hand).now ≡ 0

  runs_drawn : Laws → (anew : Bool) (ended : Status) (all : PlanRuns pass_seen book_seen) → (ended ≡ status.Good → all.result ≡ status.Good) → (anew ≡ true → NoneBad all.before.hands) → RunsAreDrawn pass_seen book_seen anew ended all
  runs_drawn laws anew ended all ends none = record {
    turns = laws.turns all;
    lines = λ good its clean. (laws.drawn all its (ends good) (none_bad its anew refl none clean)).0;
    still = λ good. laws.still all (ends good);
  }
    where
      none_bad : (its : StoreOf pass_seen book_seen all) (b : Bool) → anew ≡ b → (anew ≡ true → NoneBad all.before.hands) → (anew ≡ false → total bad (book_of its.hand).now ≡ 0) → total bad (book_of its.hand).now ≡ 0
      none_bad its true is fresh clean = fresh is its.place its.hand its.went_in
      none_bad its false is fresh clean = clean is

  counts_add : (old new : YardSeen) (looks : List Look) (all : PlanRuns pass_seen book_seen) (its : StoreOf pass_seen book_seen all) → PathBegins old all.before.yard its.store.path looks → CountsStay all.last.yard new its.store.path → StoreAddsUp pass_seen book_seen all its
      → CountsAddUp pass_seen book_seen old new (count_by is_seen looks) (count_by is_unread looks) all its
  counts_add old new looks all its begins stays sums = record {
    reads = omega (arith, begins.reads, sums.reads.rise, stays.reads);
    faults = omega (arith, begins.faults, sums.faults, stays.faults);
    no_faults = λ none.
        let no_unread : count_by is_unread looks ≡ 0 = omega (arith, none) in
        let no_fault : sum_of (λ totals. totals.faults) its.place (made_of pass_seen book_seen all) ≡ 0 = omega (arith, none) in
        stays.faults ∙ sums.no_faults no_fault ∙ begins.no_faults no_unread;
    good_writes = λ goes_on. omega (arith, begins.writes, (sums.good_writes goes_on).rise, stays.writes);
  }

  pub adds : Laws → (anew : Bool) (ended : Status) (old new : YardSeen) (seen : List (List Look)) (plan : Plan) (before last : Stage) (text : List ℕ) (result : Status) (runs : RunsMade pass_seen book_seen plan plan.runs before last text result)
      → (IsPlan plan → AreStores plan before.hands) → (ended ≡ status.Good → result ≡ status.Good) → (anew ≡ true → NoneBad before.hands)
      → ((place : ℕ) (store : StorePlan) → slice_get plan.stores place ≡ Some store → PathBegins old before.yard store.path (slice_index_or seen place [])) → ((path : List ℕ) → CountsStay last.yard new path)
      → AddUp pass_seen book_seen anew ended old new seen plan before last text result runs
  adds laws anew ended old new seen plan before last text result runs seated ends none begins stays valid =
      let stores = seated valid in
      let all : PlanRuns pass_seen book_seen = record { plan = plan; before = before; last = last; text = text; result = result; valid = valid; stores = stores; runs = runs } in
      (stores, runs_add laws all, runs_drawn laws anew ended all ends none, λ its. counts_add old new (slice_index_or seen its.place []) all its (begins its.place its.store its.its_store) (stays its.store.path) ((runs_add laws all).stores its))

-- ---- from before a command to its runs
begins_so : (old first : YardSeen) → ((path : List ℕ) → CountsStay old first path) → (path : List ℕ) → PathBegins old first path []
begins_so old first stays path =
    let same = stays path in
    record { reads = omega (arith, same.reads); faults = omega (arith, same.faults); no_faults = λ none. same.faults; writes = omega (arith, same.writes) }

read_counts : (a b : YardSeen) → OnlyReads a b → (path : List ℕ) → CountsStay a b path
read_counts a b reads path = reads.untouched.unopened.counts path

same_counts : (a b : YardSeen) → b.counts ≡ a.counts → (path : List ℕ) → CountsStay a b path
same_counts a b same path = record {
  faults = ap (λ (k : Counts). arm_faults k path) same;
  reads = ap (λ (k : Counts). good_reads k path) same;
  writes = ap (λ (k : Counts). good_writes k path) same;
}

counts_then : (a b c : YardSeen) → ((path : List ℕ) → CountsStay a b path) → ((path : List ℕ) → CountsStay b c path) → (path : List ℕ) → CountsStay a c path
counts_then a b c one two path = record {
  faults = (two path).faults ∙ (one path).faults;
  reads = (two path).reads ∙ (one path).reads;
  writes = (two path).writes ∙ (one path).writes;
}

looks_at : (old new : YardSeen) (stores : List StorePlan) (found : List Recovered) (seen : List (List Look)) (left : List StoreSeen) → LeaveStores old new stores found seen left
    → (place : ℕ) (store : StorePlan) → slice_get stores place ≡ Some store → PathRose old new store.path (slice_index_or seen place [])
looks_at old new [] found seen left leaves place store at = absurd (none-some store at)
looks_at old new (x ∷ stores) (f ∷ found) (looks ∷ seen) (l ∷ left) leaves zero store at =
    subst (λ (s : StorePlan). PathRose old new s.path looks) (same_Some x store at) leaves.0.counts
looks_at old new (x ∷ stores) (f ∷ found) (looks ∷ seen) (l ∷ left) leaves (suc place) store at = looks_at old new stores found seen left leaves.1 place store at
looks_at old new (x ∷ stores) [] seen left leaves place store at = absurd leaves
looks_at old new (x ∷ stores) (f ∷ found) [] left leaves place store at = absurd leaves
looks_at old new (x ∷ stores) (f ∷ found) (looks ∷ seen) [] leaves place store at = absurd leaves

begins_looked : (old first verified : YardSeen) (path : List ℕ) (looks : List Look) → CountsStay old first path → PathRose first verified path looks → Counted 0 (good_writes first.counts path) (good_writes verified.counts path) → PathBegins old verified path looks
begins_looked old first verified path looks same rose writes = record {
  reads = omega (arith, same.reads, rose.reads);
  faults = omega (arith, same.faults, rose.rose);
  no_faults = λ none. rose.kept none ∙ same.faults;
  writes = omega (arith, same.writes, writes);
}

-- ---- new data
none_settled : (n : ℕ) → total bad (replicate n (Settled 0)) ≡ 0
none_settled zero = refl
none_settled (suc n) = omega (arith, none_settled n)

book_at : (a : ℕ) (books : List BookSeen) (place : ℕ) (hand : HandSeen) → slice_get (map (λ (one : ℕ × BookSeen). (one.0, [], one.1)) (zip (range_with_len a (length books)) books)) place ≡ Some hand → slice_get books place ≡ Some (book_of hand)
book_at a [] place hand at = absurd (none-some hand at)
book_at a (book ∷ books) zero hand at = ap (λ (h : HandSeen). Some (book_of h)) (same_Some (a, [], book) hand at)
book_at a (book ∷ books) (suc place) hand at = book_at (a + 1) books place hand at

-- None of these books has a bad block.
abbrev NoneBadIn : List BookSeen → Type 0
NoneBadIn books = (place : ℕ) (book : BookSeen) → slice_get books place ≡ Some book → total bad book.now ≡ 0

hands_new : (books : List BookSeen) → NoneBadIn books → (place : ℕ) (hand : HandSeen) → slice_get (with_books books) place ≡ Some hand → total bad (book_of hand).now ≡ 0
hands_new books none place hand at = none place (book_of hand) (book_at 0 books place hand at)

unwritten_new : (stores : List StorePlan) → NoneBadIn (map unwritten stores)
unwritten_new [] place book at = absurd (none-some book at)
unwritten_new (store ∷ stores) zero book at = ap (λ (b : BookSeen). total bad b.now) (sym (same_Some (unwritten store) book at)) ∙ none_settled store.id.geometry.blocks
unwritten_new (store ∷ stores) (suc place) book at = unwritten_new stores place book at

made_new : (yard : YardSeen) (logs : ℕ) (stores : List StorePlan) (books : List BookSeen) → AreMade yard logs stores books → NoneBadIn books
made_new yard logs stores [] made place book at = absurd (none-some book at)
made_new yard logs [] (b ∷ books) made place book at = absurd made
made_new yard logs (store ∷ stores) (b ∷ books) made zero book at =
    ap (λ (k : BookSeen). total bad k.now) (sym (same_Some b book at)) ∙ ap (total bad) made.0.fresh.now ∙ none_settled store.id.geometry.blocks
made_new yard logs (store ∷ stores) (b ∷ books) made (suc place) book at = made_new yard logs stores books made.1 place book at

-- ---- the status of runs, by that of the command
good_behind : (s : Status) → fault_behind s ≡ status.Good → s ≡ status.Good
good_behind status.Good is = refl
good_behind status.Corrupt is = absurd (let so : status.Journal ≡ status.Good = is in cc)
good_behind status.Device is = absurd (let so : status.Journal ≡ status.Good = is in cc)
good_behind status.EpochEnd is = absurd (let so : status.Journal ≡ status.Good = is in cc)
good_behind s is = is

good_closing : (work closing result : Status) → result ≡ after_closing work closing → IsClosingStatus closing → result ≡ status.Good → work ≡ status.Good
good_closing work closing result is (inl same) good = sym (is ∙ ap (after_closing work) same) ∙ good
good_closing work closing result is (inr (inl same)) good = good_behind work (sym (is ∙ ap (after_closing work) same) ∙ good)
good_closing work closing result is (inr (inr same)) good = absurd (let so : status.NoMemory ≡ status.Good = sym (is ∙ ap (after_closing work) same) ∙ good in cc)

-- ---- all that a command made
module _ {P B : Type 0} (pass_seen : P → PassSeen) (book_seen : B → BookSeen) where
  quietly_add : Laws pass_seen quiet_seen → (old : YardSeen) (plan : Plan) (before after : Stage) (text : List ℕ) (result : Status) → ((path : List ℕ) → CountsStay old before.yard path) → (runs : RunsQuietly pass_seen quiet_seen plan before after text result)
      → QuietlyAddUp pass_seen quiet_seen old plan before after text result runs
  quietly_add laws old plan before after text result same (quietly.all_made last runs hands back clock printing) =
      adds pass_seen quiet_seen laws true result old after.yard [] plan before last text result runs (λ valid. subst (λ (l : List HandSeen). AreStores plan l) (sym hands) (quiet_seats plan)) (λ good. good)
      (λ anew. subst (λ (l : List HandSeen). NoneBad pass_seen quiet_seen l) (sym hands) (hands_new (map unwritten plan.stores) (unwritten_new plan.stores)))
      (λ place store at. begins_so old before.yard same store.path) (same_counts last.yard after.yard back.counts)
  quietly_add laws old plan before after text result same (none_made yard clock printing none memory) = tt

  journaled_add : Laws pass_seen book_seen → NewJournalsCount pass_seen book_seen → (old : YardSeen) (plan : Plan) (before after : Stage) (text : List ℕ) (result : Status) → ((path : List ℕ) → CountsStay old before.yard path) → (runs : RunsJournaled pass_seen book_seen plan before after text result)
      → JournaledAddUp pass_seen book_seen old plan before after text result runs
  journaled_add laws count old plan before after text result same (journaled.ran books opened said all_open rest closed texts) =
      let made : AreMade before.yard plan.journal_sectors plan.stores books = subst (λ (l : List BookSeen). AreMade before.yard plan.journal_sectors plan.stores l) (sym all_open.opens.books) all_open.opens.made in (
        adds pass_seen book_seen laws true result old after.yard [] plan (stage (with_books books) opened before.clock 0 said) closed.last closed.runs_text closed.work closed.made
            (λ valid. new_seats plan before.yard plan.journal_sectors books (ap length all_open.opens.books ∙ all_open.opens.one_each) made)
            (good_closing closed.work closed.closing result closed.is closed.answers) (λ anew. hands_new books (made_new before.yard plan.journal_sectors plan.stores books made))
            (λ place store at. begins_so old opened (counts_then old before.yard opened same (same_counts before.yard opened all_open.leaves.counts)) store.path)
            (same_counts closed.last.yard after.yard (closed.rest.counts ∙ closed.passes.counts)),
        λ valid stores well disks. count plan valid before after books opened said all_open rest result closed stores well disks,
      )
  journaled_add laws count old plan before after text result same (journaled.unseated books opened said all_open unused clock texts memory) = tt
  journaled_add laws count old plan before after text result same (journaled.stopped books opened said why stops leaves unused clock texts is) = tt

  going_adds : Laws pass_seen book_seen → (ended : Status) (old : YardSeen) (seen : List (List Look)) (plan : Plan) (disks : List DiskSeen) (starts : List Start) (left : List StoreSeen) (before after : Stage) (text : List ℕ) (result : Status)
      → (ended ≡ status.Good → result ≡ status.Good) → ((place : ℕ) (store : StorePlan) → slice_get plan.stores place ≡ Some store → PathBegins old before.yard store.path (slice_index_or seen place []))
      → ((valid : IsPlan plan) (books : List BookSeen) (said : Printing) → AllReopened before.yard before.yard starts [] books before.printing said
      → (rest : List ℕ) (closed : RunsClosed pass_seen book_seen plan (stage (with_passes left books) before.yard before.clock 0 said) after rest result) (stores : AreStores plan (with_passes left books))
      → WentWell result → IsTrue before.yard.tells.keeps_disks → JournalsCount pass_seen book_seen plan valid (stage (with_passes left books) before.yard before.clock 0 said) after rest result closed stores starts)
      → (goes : GoesOn pass_seen book_seen plan disks starts left before after text result)
      → GoingAddsUp pass_seen book_seen ended old seen plan disks starts left before after text result goes
  going_adds laws ended old seen plan disks starts left before after text result ends begins count (going.went_on books said opened on seated rest closed texts) = (
    adds pass_seen book_seen laws false ended old after.yard seen plan (stage (with_passes left books) before.yard before.clock 0 said) closed.last closed.runs_text closed.work closed.made (λ valid. seated)
        (λ good. good_closing closed.work closed.closing result closed.is closed.answers (ends good)) (λ anew. absurd (let so : false ≡ true = anew in cc))
        begins (same_counts closed.last.yard after.yard (closed.rest.counts ∙ closed.passes.counts)),
    λ valid stores well disks. count valid books said opened rest closed stores well disks,
  )
  going_adds laws ended old seen plan disks starts left before after text result ends begins count (going.unseated books said opened on unused clock texts memory) = tt
  going_adds laws ended old seen plan disks starts left before after text result ends begins count (going.stopped books opened said why stops on leaves same unused clock texts is) = tt
  going_adds laws ended old seen plan disks starts left before after text result ends begins count (going.not_begun given clock texts memory) = tt

  resumed_add : Laws pass_seen book_seen → OldJournalsCount pass_seen book_seen → (old : YardSeen) (plan : Plan) (before after : Stage) (starts : List Start) (text : List ℕ) (result : Status) → ((path : List ℕ) → CountsStay old before.yard path) → (runs : RunsResumed pass_seen book_seen plan before after starts text result)
      → ResumedAddUp pass_seen book_seen old plan before after starts text result runs
  resumed_add laws count old plan before after starts text result same (resumed.not_recovered stop leaves stay clock none) = tt
  resumed_add laws count old plan before after starts text result same (resumed.not_verified found recovered said have verified rest ends stop blocks stays leaves disks clock none texts) = tt
  resumed_add laws count old plan before after starts text result same (resumed.resumed found recovered said have unfailed seen left verified told looked from rest after_that goes texts is) =
      let first = counts_then old before.yard recovered same (same_counts before.yard recovered have.leaves.counts) in
      going_adds laws result old seen plan have.disks starts left (stage [] verified before.clock 0 told) after rest after_that
      (λ good. (good_worse (looks_status (all_looks seen)) after_that (sym is ∙ good)).1)
      (λ place store at. begins_looked old recovered verified store.path (slice_index_or seen place []) (first store.path) (looks_at recovered verified plan.stores found seen left looked.each place store at) (looked.stays.writes store.path))
      (λ valid books printed opens rest closed stores well disks. count plan valid found seen left recovered said verified told looked starts from before.clock after books printed opens rest after_that closed stores well disks)
      goes

  pub file_adds : Laws pass_seen quiet_seen → Laws pass_seen book_seen → NewJournalsCount pass_seen book_seen → OldJournalsCount pass_seen book_seen → (before after : Stage) (asks : Asked) (text : List ℕ) (result : Status)
      (runs : RunsFile pass_seen book_seen before after asks text result) → FileAddsUp pass_seen book_seen before after asks text result runs
  file_adds quiet_laws laws new_count old_count before after asks text result (no_plan reads none clock says) = tt
  file_adds quiet_laws laws new_count old_count before after asks text result (ran plan kept is valid read reads runs) =
      quietly_add quiet_laws before.yard (rereading asks.again plan) (stage (with_books (map unwritten plan.stores)) read before.clock 0 before.printing) after text result (read_counts before.yard read reads) runs
  file_adds quiet_laws laws new_count old_count before after asks text result (ran_journaled plan kept is valid read reads runs says keeps) =
      journaled_add laws new_count before.yard (rereading asks.again plan) (stage [] read before.clock 0 before.printing) after text result (read_counts before.yard read reads) runs
  file_adds quiet_laws laws new_count old_count before after asks text result (ran_resumed plan kept is valid read reads went same uses) =
      resumed_add laws old_count before.yard (rereading asks.again plan) (stage [] read before.clock 0 before.printing) after went.starts went.text result (read_counts before.yard read reads) went.does
