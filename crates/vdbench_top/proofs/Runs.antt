-- From what is said over a plan's runs to what is said over a command that runs it.
use Rattle.std.proofs.Common.{◌≡◌, ℕ, Bool, true, false, IsTrue, List, [], ◌∷◌, refl, sym, ◌∙◌, ap, subst, inl, inr, ◌⊎◌, Option, Some, Err, map}
use Rattle.std.specs.Prelude.{◌≢◌}
use Rattle.vd_outside.specs.Causes.{Rose}
use Rattle.vd_outside.specs.Clocks.{ClockSeen}
use Rattle.vd_arm.specs.Arm.{PassSeen}
use Rattle.vd_yard.specs.Counts.{arm_faults, good_reads, good_writes, source_faults}
use Rattle.vd_yard.specs.Out.{AtDisk, AtSource}
use Rattle.vd_yard.specs.Kept.{Kept, kept_at}
use Rattle.vd_disk.specs.Disk.{DiskSeen}
use Rattle.vd_yard.specs.Yard.{Tells, YardSeen, is_there}
use Rattle.plan_types.specs.Valid.{IsPlan}
use Rattle.plan_types.specs.declared.plan.Plan.{Plan}
use Rattle.plan_types.specs.declared.store.StorePlan.{StorePlan}
use Rattle.journal_recover.specs.declared.found.Recovered.{Recovered}
use Rattle.plan_file.specs.Files.{PlansTo}
use Rattle.key_state.specs.Quiet.{quiet_seen}
use Rattle.key_state.specs.declared.seen.BookSeen.{BookSeen}
use Rattle.run_report.specs.Lines.{cannot_open_text, cannot_read_text}
use Rattle.run_report.specs.Says.{Printing, Says, printing, says_along, says_none}
use Rattle.run_report.specs.Status.{last_text}
use Rattle.run_report.specs.declared.status.Status.{Status}
use Rattle.run_report.specs.declared.status.Status.TheVariants as status
use Rattle.still_plan.specs.Lines.{SaysOr}
use Rattle.still_store.specs.Frame.{Keeps}
use Rattle.plan_hands.specs.Stores.{with_books}
use Rattle.plan_runs.specs.Quiet.{CanEndRun, RunsQuietly, unwritten}
use Rattle.plan_runs.specs.Stages.{Stage, stage}
use Rattle.plan_journaled.specs.Journaled.{RunsJournaled, StandClosed}
use Rattle.plan_journaled.specs.Over.{CanEndOver}
use Rattle.plan_journals.specs.Closing.{WentWell}
use Rattle.plan_journals.specs.Growth.{AreKeptClosed, ChangesOnlyJournals, SomeRose}
use Rattle.plan_journals.specs.Open.{Start, new_starts}
use Rattle.still_plan.specs.Journals.{AllRecover, RecoversTo}
use Rattle.plan_reopened.specs.Reopening.{AreSettled}
use Rattle.plan_reopened.proofs.Recoveries.{all_recover}
use Rattle.plan_resumed.specs.Resumed.{AreThere, OnlyJournalsChange, Resumed, RunsResumed, not_recovered, not_verified, resumed}
use Rattle.recover_run.specs.declared.look.Look.{Look}
use Rattle.plan_verified.specs.Stores.{LeaveStores, StoreSeen, settled_of}
use Rattle.vdbench_top.specs.Runs.{AreNext, CanEndAs, CanEndJournaled, HasJournals, HasNoPlan, unopened, unread, refused, unkept, KeepsJournals, MakesJournals, OverFile, ReopensJournals, UsesJournals, without_plan, over_plan, OnlyReads, RunsFile, no_plan, ran, ran_journaled, ran_resumed, RunCall, rereading}
use Rattle.vdbench_top.specs.Still.{AreBytesOf, IsPlanOf}
use Rattle.vdbench_top.specs.Words.{Asked, asked}
use Rattle.vdbench_top.specs.declared.words.Keeping.{Keeping}
use Rattle.vdbench_top.specs.declared.words.Keeping.TheVariants as keeping
use Rattle.vdbench_top.proofs.Statuses.{quietly_says}
use Rattle.still_plan.proofs.Frames.{keeps_same}
use Rattle.vdbench_top.proofs.Tellings.{ends_by, its_status, untouched_same}

-- ---- a parameter file that gives no plan
-- a text that was said, and why it was
abbrev pub NoPlan : YardSeen → YardSeen → List ℕ → Status → Printing → Printing → Type 0
NoPlan a c file result p q = (text : List ℕ) × HasNoPlan a c file text result × Says p q text

pub none_opened : (a c : YardSeen) (file : List ℕ) (result : Status) (p q : Printing) → SaysOr (cannot_open_text file) status.Yard result p q → Rose a.faults c.faults → (IsTrue a.willing → IsTrue (is_there a.files AtSource file) → ⊥) → NoPlan a c file result p q
none_opened a c file result p q (inl s) r w = (cannot_open_text file, unopened r w refl s.0, s.1)
none_opened a c file result p q (inr s) r w = ([], unkept refl s.0, s.1)

pub none_read : (a c : YardSeen) (file : List ℕ) (result : Status) (p q : Printing) → SaysOr (cannot_read_text file) status.Source result p q → Rose (source_faults a.counts file) (source_faults c.counts file) → (IsTrue (a.tells.sure AtSource file) → ⊥) → NoPlan a c file result p q
none_read a c file result p q (inl s) r w = (cannot_read_text file, unread r w refl s.0, s.1)
none_read a c file result p q (inr s) r w = ([], unkept refl s.0, s.1)

pub none_planned : (a c : YardSeen) (file bytes line text : List ℕ) (p q : Printing) → AreBytesOf a file bytes → PlansTo bytes (Err line) → text ≡ line → Says p q text → NoPlan a c file status.Parameter p q
none_planned a c file bytes line text p q are e same s = (line, refused bytes are e refl, says_along p q text line same s)

pub none_kept : (a c : YardSeen) (file : List ℕ) (p : Printing) → NoPlan a c file status.NoMemory p p
none_kept a c file p = ([], unkept refl refl, says_none p)

pub no_plan_yard : (a c : YardSeen) (file text : List ℕ) (result : Status) → HasNoPlan a c file text result → result ≡ status.Yard → Rose a.faults c.faults
no_plan_yard a c file text result (unopened r w t s) e = r
no_plan_yard a c file text result (unread r w t s) e = absurd (let f : status.Source ≡ status.Yard = sym s ∙ e in cc)
no_plan_yard a c file text result (refused bytes are p s) e = absurd (let f : status.Parameter ≡ status.Yard = sym s ∙ e in cc)
no_plan_yard a c file text result (unkept t s) e = absurd (let f : status.NoMemory ≡ status.Yard = sym s ∙ e in cc)

pub no_plan_source : (a c : YardSeen) (file text : List ℕ) (result : Status) → HasNoPlan a c file text result → result ≡ status.Source → Rose (source_faults a.counts file) (source_faults c.counts file)
no_plan_source a c file text result (unopened r w t s) e = absurd (let f : status.Yard ≡ status.Source = sym s ∙ e in cc)
no_plan_source a c file text result (unread r w t s) e = r
no_plan_source a c file text result (refused bytes are p s) e = absurd (let f : status.Parameter ≡ status.Source = sym s ∙ e in cc)
no_plan_source a c file text result (unkept t s) e = absurd (let f : status.NoMemory ≡ status.Source = sym s ∙ e in cc)

-- the statuses of a parameter file without a plan
pub no_plan_status : (a c : YardSeen) (file text : List ℕ) (result other : Status) → HasNoPlan a c file text result → status.Yard ≢ other → status.Source ≢ other → status.Parameter ≢ other → status.NoMemory ≢ other → result ≢ other
no_plan_status a c file text result other (unopened r w t s) y o p m = λ e. y (sym s ∙ e)
no_plan_status a c file text result other (unread r w t s) y o p m = λ e. o (sym s ∙ e)
no_plan_status a c file text result other (refused bytes are f s) y o p m = λ e. p (sym s ∙ e)
no_plan_status a c file text result other (unkept t s) y o p m = λ e. m (sym s ∙ e)

pub no_plan_can : (a c : YardSeen) (file text : List ℕ) (result : Status) → HasNoPlan a c file text result → CanEndRun result
no_plan_can a c file text result n = record {
  no_usage = no_plan_status a c file text result status.Usage n (λ e. cc) (λ e. cc) (λ e. cc) (λ e. cc);
  no_output = no_plan_status a c file text result status.Sink n (λ e. cc) (λ e. cc) (λ e. cc) (λ e. cc);
  no_journal_failed = no_plan_status a c file text result status.Journal n (λ e. cc) (λ e. cc) (λ e. cc) (λ e. cc);
  none_missing = no_plan_status a c file text result status.NoJournal n (λ e. cc) (λ e. cc) (λ e. cc) (λ e. cc);
  none_damaged = no_plan_status a c file text result status.Damaged n (λ e. cc) (λ e. cc) (λ e. cc) (λ e. cc);
  none_mismatched = no_plan_status a c file text result status.Mismatch n (λ e. cc) (λ e. cc) (λ e. cc) (λ e. cc);
  no_epoch_over = no_plan_status a c file text result status.EpochEnd n (λ e. cc) (λ e. cc) (λ e. cc) (λ e. cc);
}

pub no_plan_ends : (a c : YardSeen) (file text : List ℕ) (result : Status) → HasNoPlan a c file text result → (k : Keeping) → CanEndAs k result
no_plan_ends a c file text result n keeping.Nothing = no_plan_can a c file text result n
no_plan_ends a c file text result n keeping.NewJournals = record {
  no_usage = no_plan_status a c file text result status.Usage n (λ e. cc) (λ e. cc) (λ e. cc) (λ e. cc);
  no_output = no_plan_status a c file text result status.Sink n (λ e. cc) (λ e. cc) (λ e. cc) (λ e. cc);
  none_missing = no_plan_status a c file text result status.NoJournal n (λ e. cc) (λ e. cc) (λ e. cc) (λ e. cc);
  none_damaged = no_plan_status a c file text result status.Damaged n (λ e. cc) (λ e. cc) (λ e. cc) (λ e. cc);
  none_mismatched = no_plan_status a c file text result status.Mismatch n (λ e. cc) (λ e. cc) (λ e. cc) (λ e. cc);
}
no_plan_ends a c file text result n keeping.OldJournals = no_plan_status a c file text result status.Usage n (λ e. cc) (λ e. cc) (λ e. cc) (λ e. cc)

-- it doesn't go well either, and no journal failed
pub no_plan_bad : (a c : YardSeen) (file text : List ℕ) (result : Status) → HasNoPlan a c file text result → WentWell result → ⊥
no_plan_bad a c file text result (unopened r w t s) well = subst WentWell s well
no_plan_bad a c file text result (unread r w t s) well = subst WentWell s well
no_plan_bad a c file text result (refused bytes are p s) well = subst WentWell s well
no_plan_bad a c file text result (unkept t s) well = subst WentWell s well

-- its output didn't fail as it was said
pub no_plan_output : (a c : YardSeen) (file text : List ℕ) (result : Status) → HasNoPlan a c file text result → result ≢ status.Sink
no_plan_output a c file text result n = no_plan_status a c file text result status.Sink n (λ e. cc) (λ e. cc) (λ e. cc) (λ e. cc)

pub ends_over : (result : Status) → CanEndOver result → CanEndJournaled result
ends_over result can = record {
  no_usage = can.no_usage;
  no_output = can.no_output;
  none_missing = can.none_missing;
  none_damaged = can.none_damaged;
  none_mismatched = can.none_mismatched;
}

-- ---- what was read
pub only_reads : (a b : YardSeen) → Keeps a b → b.contents ≡ a.contents → b.disks ≡ a.disks → ((q : List ℕ) → arm_faults b.counts q ≡ arm_faults a.counts q) → ((q : List ℕ) → good_reads b.counts q ≡ good_reads a.counts q) → ((q : List ℕ) → good_writes b.counts q ≡ good_writes a.counts q) → OnlyReads a b
only_reads a b k c d f r w = record {
  keeps = k;
  untouched = record { unopened = record { contents = c; counts = λ path. record { faults = f path; reads = r path; writes = w path } }; disks = d };
  writes = w;
}

pub only_reads_same : (a : YardSeen) → OnlyReads a a
only_reads_same a = record { keeps = keeps_same a a refl; untouched = untouched_same a; writes = λ path. refl }

-- ---- a plan
pub rereading_valid : (again : Bool) (plan : Plan) → IsPlan plan → IsPlan (rereading again plan)
rereading_valid again plan v = record {
  few_stores = v.few_stores;
  few_blocks = v.few_blocks;
  names = v.names;
  paths = v.paths;
  stores = v.stores;
  some_runs = v.some_runs;
  few_runs = v.few_runs;
  run_numbers = v.run_numbers;
  runs = v.runs;
  data_errors = v.data_errors;
  journal_sectors = v.journal_sectors;
}

-- ---- the words
some_same : {A : Type 0} (x y : A) → Some x ≡ Some y → x ≡ y
some_same x y e = cc

same_asked : (x asks : Asked) (o : Option Asked) → Some x ≡ o → o ≡ Some asks → x ≡ asks
same_asked x asks o e f = some_same x asks (e ∙ f)

-- ---- the kept disks
over_none : (Over : Plan → YardSeen → YardSeen → Status → Type 0) (a c : YardSeen) (file text : List ℕ) (result : Status) → OnlyReads a c → HasNoPlan a c file text result → OverFile Over a c file result
over_none Over a c file text result o n =
    without_plan o.untouched.disks (no_plan_bad a c file text result n)
    (no_plan_status a c file text result status.Journal n (λ e. cc) (λ e. cc) (λ e. cc) (λ e. cc))

pub makes_none : (a c : YardSeen) (file text : List ℕ) (result : Status) → OnlyReads a c → HasNoPlan a c file text result → MakesJournals a c file result
makes_none a c file text result o n = over_none KeepsJournals a c file text result o n

pub uses_none : (a c : YardSeen) (file text : List ℕ) (result : Status) → OnlyReads a c → HasNoPlan a c file text result → UsesJournals a c file result
uses_none a c file text result o n = over_none ReopensJournals a c file text result o n

grows_behind : (starts : List Start) (a b c : YardSeen) → b.disks ≡ a.disks → ChangesOnlyJournals starts b.disks c.disks → ChangesOnlyJournals starts a.disks c.disks
grows_behind starts a b c e g = subst (λ (k : Kept DiskSeen). ChangesOnlyJournals starts k c.disks) e g

stand_behind : (plan : Plan) (a b c : YardSeen) → b.disks ≡ a.disks → StandClosed plan b c → StandClosed plan a c
stand_behind plan a b c e s = record {
  books = s.books;
  one_each = s.one_each;
  closed = subst (λ (k : Kept DiskSeen). AreKeptClosed k c.disks (new_starts plan.journal_sectors plan.stores) s.books) e s.closed;
}

stand_along : (plan : Plan) (again : Bool) (a c : YardSeen) → StandClosed (rereading again plan) a c → StandClosed plan a c
stand_along plan again a c s = record { books = s.books; one_each = s.one_each; closed = s.closed }

pub keeps_journals : (a b c : YardSeen) (again : Bool) (plan now : Plan) (result : Status) → OnlyReads a b → now ≡ rereading again plan
    → ChangesOnlyJournals (new_starts now.journal_sectors now.stores) b.disks c.disks
    → (WentWell result → IsTrue b.tells.keeps_disks → StandClosed now b c)
    → (result ≡ status.Journal → IsTrue b.tells.keeps_disks → SomeRose now.stores b.disks c.disks) → KeepsJournals plan a c result
keeps_journals a b c again plan now result o e grows whole failed =
    let told : IsTrue a.tells.keeps_disks → IsTrue b.tells.keeps_disks = λ keeps. subst (λ (t : Tells). IsTrue t.keeps_disks) (sym o.keeps.tells) keeps in
    record {
      grows = grows_behind (new_starts plan.journal_sectors plan.stores) a b c o.untouched.disks (subst (λ (x : Plan). ChangesOnlyJournals (new_starts x.journal_sectors x.stores) b.disks c.disks) e grows);
      closed = λ well keeps. stand_behind plan a b c o.untouched.disks (stand_along plan again b c (subst (λ (x : Plan). StandClosed x b c) e (whole well (told keeps))));
      failed = λ is keeps. subst (λ (k : Kept DiskSeen). SomeRose plan.stores k c.disks) o.untouched.disks (subst (λ (x : Plan). SomeRose x.stores b.disks c.disks) e (failed is (told keeps)));
    }

-- ---- and where journals are used that are there
next_behind : (plan : Plan) (again : Bool) (a b : YardSeen) (starts : List Start) → OnlyReads a b → AreNext (rereading again plan) b starts → AreNext plan a starts
next_behind plan again a b starts o (inl none) = inl none
next_behind plan again a b starts o (inr (found, entries, each, settled, from)) = inr (found, entries, recover_behind a b plan.stores found o each, settled, from)
  where
    one_behind : (a b : YardSeen) (store : StorePlan) (one : Recovered) → OnlyReads a b → RecoversTo b store one → RecoversTo a store one
    one_behind a b store one o r =
        let same : b.disks ≡ a.disks = o.untouched.disks in
        record {
          gives = λ disk at. r.gives disk (ap (λ (k : Kept DiskSeen). kept_at k store.journal) same ∙ at);
          there = λ told none. r.there (subst (λ (t : Tells). IsTrue t.keeps_disks) (sym o.keeps.tells) told) (ap (λ (k : Kept DiskSeen). kept_at k store.journal) same ∙ none);
          usable = r.usable;
          fit = r.fit;
        }

    recover_behind : (a b : YardSeen) (stores : List StorePlan) (found : List Recovered) → OnlyReads a b → AllRecover b stores found → AllRecover a stores found
    recover_behind a b [] [] o each = tt
    recover_behind a b [] (one ∷ found) o each = absurd each
    recover_behind a b (store ∷ stores) [] o each = absurd each
    recover_behind a b (store ∷ stores) (one ∷ found) o each = (one_behind a b store one o each.0, recover_behind a b stores found o each.1)

-- Verification leaves a valid entry for each block.
left_settled : (a c : YardSeen) (stores : List StorePlan) (found : List Recovered) (seen : List (List Look)) (left : List StoreSeen) → LeaveStores a c stores found seen left → AreSettled stores (map settled_of left)
left_settled a c [] [] [] [] p = tt
left_settled a c [] [] [] (first ∷ left) p = absurd p
left_settled a c [] [] (looks ∷ seen) left p = absurd p
left_settled a c [] (one ∷ found) seen left p = absurd p
left_settled a c (store ∷ stores) [] seen left p = absurd p
left_settled a c (store ∷ stores) (one ∷ found) [] left p = absurd p
left_settled a c (store ∷ stores) (one ∷ found) (looks ∷ seen) [] p = absurd p
left_settled a c (store ∷ stores) (one ∷ found) (looks ∷ seen) (first ∷ left) p = (record { one_each = p.0.one_each; valid = p.0.valid }, left_settled a c stores found seen left p.1)

module _ {P B : Type 0} (pass_seen : P → PassSeen) (book_seen : B → BookSeen) where
  -- The journals that a command opens are those that it recovered.
  next_of : (plan : Plan) (before after : Stage) (starts : List Start) (text : List ℕ) (result : Status) → RunsResumed pass_seen book_seen plan before after starts text result → AreNext plan before.yard starts
  next_of plan before after starts text result (not_recovered stop leaves stay clock none) = inl none
  next_of plan before after starts text result (not_verified found recovered said have verified rest ends stop blocks same leaves disks clock none texts) = inl none
  next_of plan before after starts text result (resumed found recovered said have unfailed seen left verified told looked from rest after_that goes texts is) =
      inr (found, map settled_of left, all_recover before.yard plan.stores have.disks found have.each, left_settled recovered verified plan.stores found seen left looked.each, from)

  pub reopens_journals : (a b c : YardSeen) (k l : ClockSeen) (again : Bool) (plan now : Plan) (result : Status) (p q : Printing) → OnlyReads a b → now ≡ rereading again plan
      → Resumed pass_seen book_seen now (stage [] b k 0 p) (stage [] c l 0 q) result
      → (result ≡ status.Journal → IsTrue b.tells.keeps_disks → SomeRose now.stores b.disks c.disks) → ReopensJournals plan a c result
  reopens_journals a b c k l again plan now result p q o e went failed =
      let mine : Resumed pass_seen book_seen (rereading again plan) (stage [] b k 0 p) (stage [] c l 0 q) result = subst (λ (x : Plan). Resumed pass_seen book_seen x (stage [] b k 0 p) (stage [] c l 0 q) result) e went in
      let told : IsTrue a.tells.keeps_disks → IsTrue b.tells.keeps_disks = λ keeps. subst (λ (t : Tells). IsTrue t.keeps_disks) (sym o.keeps.tells) keeps in
      record {
        starts = mine.starts;
        next = next_behind plan again a b mine.starts o (next_of (rereading again plan) (stage [] b k 0 p) (stage [] c l 0 q) mine.starts mine.text result mine.does);
        grows = subst (λ (d : Kept DiskSeen). OnlyJournalsChange mine.starts d c.disks) o.untouched.disks mine.grows;
        closed = λ well keeps.
            let s = mine.whole well (told keeps) in
            record { books = s.books; one_each = s.one_each; closed = subst (λ (d : Kept DiskSeen). AreKeptClosed d c.disks mine.starts s.books) o.untouched.disks s.closed };
        failed = λ is keeps. subst (λ (d : Kept DiskSeen). SomeRose plan.stores d c.disks) o.untouched.disks (subst (λ (x : Plan). SomeRose x.stores b.disks c.disks) e (failed is (told keeps)));
      }

-- another status that is neither 0, 1 or 2 nor that of a failed journal
pub anew_unheard : (plan : Plan) (a c : YardSeen) (result : Status) → KeepsJournals plan a c result → KeepsJournals plan a c status.Sink
anew_unheard plan a c result k = record { grows = k.grows; closed = λ x. absurd x; failed = λ e. absurd (let f : status.Sink ≡ status.Journal = e in cc) }

pub old_unheard : (plan : Plan) (a c : YardSeen) (result : Status) → ReopensJournals plan a c result → ReopensJournals plan a c status.Sink
old_unheard plan a c result k = record { starts = k.starts; next = k.next; grows = k.grows; closed = λ x. absurd x; failed = λ e. absurd (let f : status.Sink ≡ status.Journal = e in cc) }

module _ (Over : Plan → YardSeen → YardSeen → Status → Type 0) (over_unheard : (plan : Plan) (a c : YardSeen) (result : Status) → Over plan a c result → Over plan a c status.Sink) where
  unheard : (a c : YardSeen) (file : List ℕ) (result : Status) → OverFile Over a c file result → OverFile Over a c file status.Sink
  unheard a c file result (without_plan d w j) = without_plan d (λ x. x) (λ e. cc)
  unheard a c file result (over_plan plan is k) = over_plan plan is (over_unheard plan a c result k)

  pub over_ends : (a c : YardSeen) (file name : List ℕ) (said result : Status) (f : Bool) → file ≡ name → (f ≡ true → result ≡ status.Sink) → (f ≡ false → result ≡ said)
      → OverFile Over a c file said → OverFile Over a c name result
  over_ends a c file name said result true e failed good m =
      subst (λ (x : List ℕ). OverFile Over a c x result) e (subst (λ (s : Status). OverFile Over a c file s) (sym (failed refl)) (unheard a c file said m))
  over_ends a c file name said result false e failed good m =
      subst (λ (x : List ℕ). OverFile Over a c x result) e (subst (λ (s : Status). OverFile Over a c file s) (sym (good refl)) m)

pub makes_nothing : (a : YardSeen) (name : List ℕ) (result : Status) (f : Bool) → (f ≡ true → result ≡ status.Sink) → (f ≡ false → result ≡ status.NoMemory) → MakesJournals a a name result
makes_nothing a name result f failed good = over_ends KeepsJournals anew_unheard a a name name status.NoMemory result f refl failed good (without_plan refl (λ x. x) (λ e. cc))

pub uses_nothing : (a : YardSeen) (name : List ℕ) (result : Status) (f : Bool) → (f ≡ true → result ≡ status.Sink) → (f ≡ false → result ≡ status.NoMemory) → UsesJournals a a name result
uses_nothing a name result f failed good = over_ends ReopensJournals old_unheard a a name name status.NoMemory result f refl failed good (without_plan refl (λ x. x) (λ e. cc))

-- ---- the files that a willing yard has
there_behind : (a b : YardSeen) (stores : List StorePlan) → Keeps a b → AreThere a stores → AreThere b stores
there_behind a b stores k there = λ place store at. k.files AtDisk store.journal (there place store at)

pub there_along : (a b : YardSeen) (again : Bool) (plan now : Plan) → OnlyReads a b → now ≡ rereading again plan → AreThere a plan.stores → AreThere b now.stores
there_along a b again plan now o e there = subst (λ (x : Plan). AreThere b x.stores) (sym e) (there_behind a b plan.stores o.keeps there)

-- a willing yard that has the parameter file opens it
pub no_plan_opens : (a c : YardSeen) (file text : List ℕ) (result : Status) → HasNoPlan a c file text result → IsTrue a.willing → IsTrue (is_there a.files AtSource file) → result ≢ status.Yard
no_plan_opens a c file text result (unopened r w t s) willing there = λ e. w willing there
no_plan_opens a c file text result (unread r w t s) willing there = λ e. (let f : status.Source ≡ status.Yard = sym s ∙ e in cc)
no_plan_opens a c file text result (refused bytes are p s) willing there = λ e. (let f : status.Parameter ≡ status.Yard = sym s ∙ e in cc)
no_plan_opens a c file text result (unkept t s) willing there = λ e. (let f : status.NoMemory ≡ status.Yard = sym s ∙ e in cc)

pub opens_ends : (a : YardSeen) (k : Keeping) (file name : List ℕ) (said result : Status) (f : Bool) → file ≡ name → (f ≡ true → result ≡ status.Sink) → (f ≡ false → result ≡ said)
    → (IsTrue a.willing → IsTrue (is_there a.files AtSource file) → HasJournals a k file → said ≢ status.Yard)
    → IsTrue a.willing → IsTrue (is_there a.files AtSource name) → HasJournals a k name → result ≢ status.Yard
opens_ends a k file name said result f same failed good opens willing there journals = λ e.
    opens willing (subst (λ (x : List ℕ). IsTrue (is_there a.files AtSource x)) (sym same) there)
    (λ old plan is. journals old plan (subst (λ (x : List ℕ). IsPlanOf a x plan) same is)) (its_status f said result status.Yard failed good (λ x. cc) e)

-- what was said before the last lines, where the output didn't fail
pub said_not : (f : Bool) (said result other : Status) → (f ≡ true → result ≡ status.Sink) → (f ≡ false → result ≡ said) → result ≢ status.Sink → result ≢ other → said ≢ other
said_not true said result other failed good heard n = absurd (heard (failed refl))
said_not false said result other failed good heard n = λ e. n (good refl ∙ e)

pub ends_as : (f : Bool) (k : Keeping) (said result : Status) → (f ≡ true → result ≡ status.Sink) → (f ≡ false → result ≡ said) → CanEndAs k said → (result ≡ status.Sink) ⊎ CanEndAs k result
ends_as true k said result failed good can = inl (failed refl)
ends_as false k said result failed good can = inr (subst (λ (s : Status). CanEndAs k s) (sym (good refl)) can)

module _ {P B : Type 0} (pass_seen : P → PassSeen) (book_seen : B → BookSeen) where
  -- ---- a parameter file
  pub file_unplanned : (a c : YardSeen) (clock : ClockSeen) (asks : Asked) (result : Status) (p q : Printing) → OnlyReads a c → NoPlan a c asks.file result p q
      → (text : List ℕ) × RunsFile pass_seen book_seen (stage [] a clock 0 p) (stage [] c clock 0 q) asks text result
  file_unplanned a c clock asks result p q r n = (n.0, no_plan r n.1 refl n.2)

  -- Reading said nothing: the runs go on from what was printed before.
  pub file_ran : (a b c : YardSeen) (k l : ClockSeen) (again : Bool) (file : List ℕ) (plan now : Plan) (result : Status) (p read q : Printing) → OnlyReads a b → IsPlanOf a file plan → IsPlan plan → now ≡ rereading again plan
      → (text : List ℕ) × RunsQuietly pass_seen quiet_seen now (stage (with_books (map unwritten now.stores)) b k 0 read) (stage [] c l 0 q) text result → read ≡ p
      → (text : List ℕ) × RunsFile pass_seen book_seen (stage [] a k 0 p) (stage [] c l 0 q) (asked file again keeping.Nothing) text result
  file_ran a b c k l again file plan now result p read q r is valid e v same = (
    v.0,
    ran plan refl is (rereading_valid again plan valid) b r (subst (λ (x : Printing). RunsQuietly pass_seen quiet_seen (rereading again plan) (stage (with_books (map unwritten plan.stores)) b k 0 x) (stage [] c l 0 q) v.0 result) same
        (subst (λ (x : Plan). RunsQuietly pass_seen quiet_seen x (stage (with_books (map unwritten x.stores)) b k 0 read) (stage [] c l 0 q) v.0 result) e v.1)),
  )

  pub file_journaled : (a b c : YardSeen) (k l : ClockSeen) (again : Bool) (file : List ℕ) (plan now : Plan) (result : Status) (p read q : Printing) → OnlyReads a b → IsPlanOf a file plan → IsPlan plan → now ≡ rereading again plan
      → (text : List ℕ) × RunsJournaled pass_seen book_seen now (stage [] b k 0 read) (stage [] c l 0 q) text result × Says read q text → KeepsJournals plan a c result → read ≡ p
      → (text : List ℕ) × RunsFile pass_seen book_seen (stage [] a k 0 p) (stage [] c l 0 q) (asked file again keeping.NewJournals) text result
  file_journaled a b c k l again file plan now result p read q r is valid e v keeps same = (
    v.0,
    ran_journaled plan refl is (rereading_valid again plan valid) b r (subst (λ (x : Printing). RunsJournaled pass_seen book_seen (rereading again plan) (stage [] b k 0 x) (stage [] c l 0 q) v.0 result) same
        (subst (λ (x : Plan). RunsJournaled pass_seen book_seen x (stage [] b k 0 read) (stage [] c l 0 q) v.0 result) e v.1))
        (subst (λ (x : Printing). Says x q v.0) same v.2) keeps,
  )

  pub file_resumed : (a b c : YardSeen) (k l : ClockSeen) (again : Bool) (file : List ℕ) (plan now : Plan) (result : Status) (p read q : Printing) → OnlyReads a b → IsPlanOf a file plan → IsPlan plan → now ≡ rereading again plan
      → Resumed pass_seen book_seen now (stage [] b k 0 read) (stage [] c l 0 q) result → ReopensJournals plan a c result → read ≡ p
      → (text : List ℕ) × RunsFile pass_seen book_seen (stage [] a k 0 p) (stage [] c l 0 q) (asked file again keeping.OldJournals) text result
  file_resumed a b c k l again file plan now result p read q r is valid e went uses same =
      let mine : Resumed pass_seen book_seen (rereading again plan) (stage [] b k 0 p) (stage [] c l 0 q) result =
      subst (λ (x : Printing). Resumed pass_seen book_seen (rereading again plan) (stage [] b k 0 x) (stage [] c l 0 q) result) same
      (subst (λ (x : Plan). Resumed pass_seen book_seen x (stage [] b k 0 read) (stage [] c l 0 q) result) e went) in
      (mine.text, ran_resumed plan refl is (rereading_valid again plan valid) b r mine refl uses)

  pub file_as : (before after : Stage) (again : Bool) (file : List ℕ) (result : Status) (k x : Keeping) → k ≡ x
      → (text : List ℕ) × RunsFile pass_seen book_seen before after (asked file again x) text result → (text : List ℕ) × RunsFile pass_seen book_seen before after (asked file again k) text result
  file_as before after again file result k x e f = subst (λ (y : Keeping). (text : List ℕ) × RunsFile pass_seen book_seen before after (asked file again y) text result) (sym e) f

  -- the same parameter file by another name of its own
  pub runs_along : (before after : Stage) (again : Bool) (k : Keeping) (f g text : List ℕ) (result : Status) → f ≡ g → RunsFile pass_seen book_seen before after (asked f again k) text result → RunsFile pass_seen book_seen before after (asked g again k) text result
  runs_along before after again k f g text result e s = subst (λ (x : List ℕ). RunsFile pass_seen book_seen before after (asked x again k) text result) e s

  pub file_says : (before after : Stage) (asks : Asked) (text : List ℕ) (result : Status) → RunsFile pass_seen book_seen before after asks text result → Says before.printing after.printing text
  file_says before after asks text result (no_plan o n k s) = s
  file_says before after asks text result (ran_journaled plan kept is v b o q s m) = s
  file_says before after asks text result (ran_resumed plan kept is v b o went same uses) = says_along before.printing after.printing went.text text (sym same) went.says
  file_says before after asks text result (ran plan kept is v b o q) =
      quietly_says pass_seen quiet_seen (rereading asks.again plan) (stage (with_books (map unwritten plan.stores)) b before.clock 0 before.printing) after text result q

  -- A whole call, by what a printer said that had printed nothing.
  pub call_by : (a c : YardSeen) (k l : ClockSeen) (again : Bool) (keep : Keeping) (file name text : List ℕ) (said result : Status) (f : Bool) (taken : Option (List ℕ)) (faults : ℕ) (q e : Printing) → f ≡ false → file ≡ name
      → RunsFile pass_seen book_seen (stage [] a k 0 (printing f taken faults)) (stage [] c l 0 q) (asked file again keep) text said → (said ≡ status.Sink → q.failed ≡ true)
      → Says q e (last_text said) → (e.failed ≡ true → result ≡ status.Sink) → (e.failed ≡ false → result ≡ said)
      → RunCall pass_seen book_seen a c k l taken e.taken faults e.faults (asked name again keep) result
  call_by a c k l again keep file name text said result f taken faults q e fresh same runs heard last failed good = record {
    text = text;
    said = said;
    last = q;
    runs =
        subst (λ (x : Bool). RunsFile pass_seen book_seen (stage [] a k 0 (printing x taken faults)) (stage [] c l 0 q) (asked name again keep) text said) fresh
        (runs_along (stage [] a k 0 (printing f taken faults)) (stage [] c l 0 q) again keep file name text said same runs);
    ends =
        ends_by (printing f taken faults) q e text said result
        (file_says (stage [] a k 0 (printing f taken faults)) (stage [] c l 0 q) (asked file again keep) text said runs) last failed good heard;
  }

  -- Memory ran out before anything was done.
  pub call_without_memory : (a : YardSeen) (k : ClockSeen) (again : Bool) (keep : Keeping) (name : List ℕ) (result : Status) (f : Bool) (taken : Option (List ℕ)) (faults : ℕ) (e : Printing) → f ≡ false
      → Says (printing f taken faults) e (last_text status.NoMemory) → (e.failed ≡ true → result ≡ status.Sink) → (e.failed ≡ false → result ≡ status.NoMemory)
      → RunCall pass_seen book_seen a a k k taken e.taken faults e.faults (asked name again keep) result
  call_without_memory a k again keep name result f taken faults e fresh last failed good =
      call_by a a k k again keep name name [] status.NoMemory result f taken faults (printing f taken faults) e fresh refl
      (no_plan (only_reads_same a) (unkept refl refl) refl (says_none (printing f taken faults))) (λ s. absurd (let g : status.NoMemory ≡ status.Sink = s in cc)) last failed good

  -- The call that the words ask for.
  pub call_as : (a c : YardSeen) (k l : ClockSeen) (taken now : Option (List ℕ)) (m n : ℕ) (x : Asked) (result : Status) (asks : Asked) (o : Option Asked) → Some x ≡ o → o ≡ Some asks
      → RunCall pass_seen book_seen a c k l taken now m n x result → RunCall pass_seen book_seen a c k l taken now m n asks result
  call_as a c k l taken now m n x result asks o e f call =
      subst (λ (y : Asked). RunCall pass_seen book_seen a c k l taken now m n y result) (same_asked x asks o e f) call

-- what holds of what was asked for
pub holds_as : (Holds : Asked → Type 0) (x asks : Asked) (o : Option Asked) → Some x ≡ o → o ≡ Some asks → Holds x → Holds asks
holds_as Holds x asks o e f h = subst Holds (same_asked x asks o e f) h

pub arm_rose_behind : (a b c : YardSeen) → OnlyReads a b → (path : List ℕ) × Rose (arm_faults b.counts path) (arm_faults c.counts path) → (path : List ℕ) × Rose (arm_faults a.counts path) (arm_faults c.counts path)
arm_rose_behind a b c o (path, r) = (path, subst (λ (n : ℕ). Rose n (arm_faults c.counts path)) ((o.untouched.unopened.counts path).faults) r)
