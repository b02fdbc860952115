-- A command that resumes a plan: whether it goes on behind recovery and behind verification, and how it ends.
use Rattle.std.proofs.Common.{◌≡◌, ◌∙◌, refl, sym, ap, subst, arith, inl, inr, ℕ, suc, ◌==◌, ◌++◌, Bool, true, false, cond, IsTrue, List, [], ◌∷◌, length, map}
use Rattle.std.specs.Prelude.{◌≢◌, All, count_by}
use Rattle.std.proofs.lemmas.List.Elements.{All-nil, All-cons, All-head, All-tail}
use Rattle.std.proofs.lemmas.List.Kept.{AllPairs-cons}
use Rattle.vd_outside.specs.Causes.{Rose}
use Rattle.vd_arm.specs.Arm.{PassSeen}
use Rattle.vd_disk.specs.Disk.{DiskSeen}
use Rattle.vd_yard.specs.Counts.{arm_faults}
use Rattle.vd_yard.specs.Kept.{Kept}
use Rattle.vd_yard.specs.Yard.{YardSeen}
use Rattle.plan_types.specs.Valid.{AreDifferent, paths_of}
use Rattle.plan_types.specs.declared.plan.Plan.{Plan}
use Rattle.plan_types.specs.declared.store.StorePlan.{StorePlan}
use Rattle.key_state.specs.declared.seen.BookSeen.{BookSeen}
use Rattle.journal_recover.specs.declared.fault.RecoverFault.{RecoverFault}
use Rattle.journal_recover.specs.declared.fault.RecoverFault.TheVariants as fault
use Rattle.journal_recover.specs.declared.found.Recovered.{Recovered}
use Rattle.recover_run.specs.Looks.{is_corrupt, is_unread}
use Rattle.recover_run.specs.declared.look.Look.{Look}
use Rattle.run_report.specs.Says.{Printing, Says, says_then}
use Rattle.run_report.specs.declared.status.Status.{Status}
use Rattle.run_report.specs.declared.status.Status.TheVariants as status
use Rattle.still_store.specs.Frame.{JournalsStay, Stays}
use Rattle.still_plan.specs.Frame.{AreApart, StoresStay}
use Rattle.still_plan.specs.Journals.{AreFit, JournalStop, JournalsStop, at_journal, behind_line, journals_text, memory_out, output_shut, unopened, unrecovered}
use Rattle.still_plan.specs.Lines.{refusal_status}
use Rattle.still_plan.specs.Stores.{StoresEnd, all_looks, looks_status, stores_text}
use Rattle.still_plan.proofs.Recoveries.{all_fit}
use Rattle.still_plan.proofs.Verifications.{device_of}
use Rattle.plan_verified.specs.Stores.{LeaveStores, StoreSeen, is_stop, settled_of}
use Rattle.plan_journals.specs.Closing.{WentWell}
use Rattle.plan_journals.specs.Growth.{AreKeptClosed, ChangesOnlyJournals, LeavesRest}
use Rattle.plan_reopened.specs.Recovering.{AreRecovered}
use Rattle.plan_reopened.specs.Reopening.{AreSettled, KeepsEach, next_starts}
use Rattle.plan_reopened.proofs.Keeping.{stay_at}
use Rattle.plan_reopened.proofs.Recoveries.{all_recover}
use Rattle.plan_runs.specs.Stages.{Stage, stage}
use Rattle.plan_runs.specs.Statuses.{worse}
use Rattle.plan_runs.proofs.Ended.{GoesOn, of_runs, worse_either}
use Rattle.plan_runs.proofs.Runs.{device_shows, epoch_shows, first_no_device, journal_shows, memory_shows, yard_shows}
use Rattle.plan_journaled.specs.Over.{CanEndOver}
use Rattle.plan_resumed.specs.Going.{LeavesYard, WentOn}
use Rattle.plan_resumed.specs.Resumed.{CanEndResumed, HaveRecovered, HaveVerified, Resumed, not_recovered, not_verified, resumed}
use Rattle.plan_resumed.specs.Seating.{ArePassed}
use Rattle.plan_resumed.proofs.Parts.{told_after}

-- ---- stores of a valid plan have paths of their own
Differ : List ℕ → List ℕ → Type 0
Differ a b = a ≡ b → ⊥

first_differs : (x : List ℕ) (xs : List (List ℕ)) → AreDifferent (x ∷ xs) → All (Differ x) xs
unfolding Differ
first_differs x xs apart k d within = apart 0 (suc k) d (omega arith) (omega (arith, within))

rest_differs : (x : List ℕ) (xs : List (List ℕ)) → AreDifferent (x ∷ xs) → AreDifferent xs
rest_differs x xs apart i j d less within = apart (suc i) (suc j) d (omega (arith, less)) (omega (arith, within))

PathDiffers : List ℕ → StorePlan → Type 0
PathDiffers path store = path ≡ store.path → ⊥

of_paths : (path : List ℕ) (stores : List StorePlan) → All (Differ path) (paths_of stores) → All (PathDiffers path) stores
unfolding Differ PathDiffers
of_paths path [] p = All-nil (PathDiffers path)
of_paths path (store ∷ stores) p =
    All-cons (PathDiffers path) store stores (All-head (Differ path) store.path (store.journal ∷ paths_of stores) p)
    (of_paths path stores (All-tail (Differ path) store.journal (paths_of stores) (All-tail (Differ path) store.path (store.journal ∷ paths_of stores) p)))

pub stores_apart : (stores : List StorePlan) → AreDifferent (paths_of stores) → AreApart stores
unfolding PathDiffers
stores_apart [] p = λ i j d less within. absurd (omega (arith, within))
stores_apart (store ∷ stores) p =
    AllPairs-cons (λ (a : StorePlan) (b : StorePlan). a.path ≡ b.path → ⊥) store stores
    (of_paths store.path stores (All-tail (Differ store.path) store.journal (paths_of stores) (first_differs store.path (store.journal ∷ paths_of stores) p)))
    (stores_apart stores (rest_differs store.journal (paths_of stores) (rest_differs store.path (store.journal ∷ paths_of stores) p)))

-- ---- what recovery and verification leave
pub recovered_fit : (a : YardSeen) (stores : List StorePlan) (disks : List DiskSeen) (found : List Recovered) → AreRecovered a stores disks found → AreFit stores found
recovered_fit a stores disks found each = all_fit a stores found (all_recover a stores disks found each)

pub as_many_found : (a : YardSeen) (stores : List StorePlan) (disks : List DiskSeen) (found : List Recovered) → AreRecovered a stores disks found → length found ≡ length stores
as_many_found a [] [] [] each = refl
as_many_found a [] [] (one ∷ found) each = absurd each
as_many_found a [] (disk ∷ disks) found each = absurd each
as_many_found a (store ∷ stores) [] found each = absurd each
as_many_found a (store ∷ stores) (disk ∷ disks) [] each = absurd each
as_many_found a (store ∷ stores) (disk ∷ disks) (one ∷ found) each = let rest = as_many_found a stores disks found each.1 in omega (arith, rest)

-- Verified stores have their passes and entries of their blocks.
pub left_passed : (a c : YardSeen) (stores : List StorePlan) (found : List Recovered) (seen : List (List Look)) (left : List StoreSeen) → LeaveStores a c stores found seen left → ArePassed stores left × AreSettled stores (map settled_of left)
left_passed a c [] [] [] [] p = (tt, tt)
left_passed a c [] [] [] (first ∷ left) p = absurd p
left_passed a c [] [] (looks ∷ seen) left p = absurd p
left_passed a c [] (one ∷ found) seen left p = absurd p
left_passed a c (store ∷ stores) [] seen left p = absurd p
left_passed a c (store ∷ stores) (one ∷ found) [] left p = absurd p
left_passed a c (store ∷ stores) (one ∷ found) (looks ∷ seen) [] p = absurd p
left_passed a c (store ∷ stores) (one ∷ found) (looks ∷ seen) (first ∷ left) p =
    let rest = left_passed a c stores found seen left p.1 in
    ((p.0.theirs.blocks, rest.0), (record { one_each = p.0.one_each; valid = p.0.valid }, rest.1))

pick_on : (unread corrupt : Bool) → GoesOn (cond unread (cond corrupt status.Good status.Corrupt) status.Device)
pick_on true true = inl refl
pick_on true false = inr (inl refl)
pick_on false corrupt = inr (inr refl)

-- What is seen of blocks ends no command.
pub looks_on : (looks : List Look) (result : Status) → result ≡ looks_status looks → GoesOn result
looks_on looks result is = subst GoesOn (sym is) (pick_on (count_by is_unread looks == 0) (count_by is_corrupt looks == 0))

-- ---- statuses with which a command stops before it opens a journal
abbrev pub halts : Status → Bool
halts status.Yard = true
halts status.Sink = true
halts status.NoMemory = true
halts status.Journal = true
halts status.NoJournal = true
halts status.Damaged = true
halts status.Mismatch = true
halts _ = false

halts_badly : (s : Status) → halts s ≡ true → WentWell s → ⊥
halts_badly status.Good is well = let no : false ≡ true = is in cc
halts_badly status.Corrupt is well = let no : false ≡ true = is in cc
halts_badly status.Device is well = let no : false ≡ true = is in cc
halts_badly status.EpochEnd is well = well
halts_badly status.Journal is well = well
halts_badly status.Yard is well = well
halts_badly status.NoMemory is well = well
halts_badly status.Parameter is well = well
halts_badly status.Source is well = well
halts_badly status.Usage is well = well
halts_badly status.Sink is well = well
halts_badly status.NoJournal is well = well
halts_badly status.Damaged is well = well
halts_badly status.Mismatch is well = well

stop_halts : (s : Status) → IsTrue (is_stop s) → halts s ≡ true
stop_halts status.Yard is = refl
stop_halts status.Sink is = refl
stop_halts status.NoMemory is = refl
stop_halts status.Journal is = refl
stop_halts status.NoJournal is = refl
stop_halts status.Damaged is = refl
stop_halts status.Mismatch is = refl
stop_halts status.Good is = cc
stop_halts status.Corrupt is = cc
stop_halts status.Device is = cc
stop_halts status.EpochEnd is = cc
stop_halts status.Parameter is = cc
stop_halts status.Source is = cc
stop_halts status.Usage is = cc

fault_halts : (f : RecoverFault) → halts (refusal_status f) ≡ true
fault_halts fault.NoJournal = refl
fault_halts (fault.Mismatch found wanted) = refl
fault_halts (fault.Damaged sector what at) = refl
fault_halts fault.Failed = refl
fault_halts fault.NoMemory = refl

one_halts : (a b : YardSeen) (store : StorePlan) (text : List ℕ) (result : Status) → JournalStop a b store text result → halts result ≡ true
one_halts a b store text result (unopened rose unwilling is_text is) = ap halts is
one_halts a b store text result (unrecovered f stops is_text is) = ap halts is ∙ fault_halts f
one_halts a b store text result (memory_out is_text is) = ap halts is
one_halts a b store text result (output_shut is_text is) = ap halts is
one_halts a b store text result (behind_line found to is_text (inl is)) = ap halts is
one_halts a b store text result (behind_line found to is_text (inr is)) = ap halts is

journals_halt : (a b : YardSeen) (stores : List StorePlan) (text : List ℕ) (result : Status) → JournalsStop a b stores text result → halts result ≡ true
journals_halt a b stores text result (at_journal n found store part all at stop others is_text) = one_halts a b store part result stop

-- ---- the status of what was found and of what followed
module _ (first rest result : Status) (is : result ≡ worse first rest) (on : GoesOn first) where
  -- One that doesn't come of blocks came of what followed.
  pub came_of_rest : (this : Status) → this ≢ status.Good → this ≢ status.Corrupt → this ≢ status.Device → result ≡ this → rest ≡ this
  came_of_rest this good corrupt device so = elim (worse_either first rest) [
    | inl same ↦ absurd (none (sym so ∙ is ∙ same) on)
    | inr same ↦ sym same ∙ sym is ∙ so
  ]
    where
      none : this ≡ first → GoesOn first → ⊥
      none e (inl g) = good (e ∙ g)
      none e (inr (inl g)) = corrupt (e ∙ g)
      none e (inr (inr g)) = device (e ∙ g)

  pub can_resumed : (failed : Bool) → CanEndOver rest → CanEndResumed result failed
  can_resumed failed can = record {
    no_usage = λ so. can.no_usage (came_of_rest status.Usage (λ e. cc) (λ e. cc) (λ e. cc) so);
    no_parameter = λ so. can.no_parameter (came_of_rest status.Parameter (λ e. cc) (λ e. cc) (λ e. cc) so);
    no_source = λ so. can.no_source (came_of_rest status.Source (λ e. cc) (λ e. cc) (λ e. cc) so);
    output = λ so. absurd (can.no_output (came_of_rest status.Sink (λ e. cc) (λ e. cc) (λ e. cc) so));
  }

over_good : (rest : Status) → WentWell (worse status.Good rest) → WentWell rest
over_good status.Good well = tt
over_good status.Corrupt well = tt
over_good status.Device well = tt
over_good status.EpochEnd well = well
over_good status.Journal well = well
over_good status.Yard well = well
over_good status.NoMemory well = well
over_good status.Parameter well = well
over_good status.Source well = well
over_good status.Usage well = well
over_good status.Sink well = well
over_good status.NoJournal well = well
over_good status.Damaged well = well
over_good status.Mismatch well = well

over_corrupt : (rest : Status) → WentWell (worse status.Corrupt rest) → WentWell rest
over_corrupt status.Good well = tt
over_corrupt status.Corrupt well = tt
over_corrupt status.Device well = tt
over_corrupt status.EpochEnd well = well
over_corrupt status.Journal well = well
over_corrupt status.Yard well = well
over_corrupt status.NoMemory well = well
over_corrupt status.Parameter well = well
over_corrupt status.Source well = well
over_corrupt status.Usage well = well
over_corrupt status.Sink well = well
over_corrupt status.NoJournal well = well
over_corrupt status.Damaged well = well
over_corrupt status.Mismatch well = well

over_device : (rest : Status) → WentWell (worse status.Device rest) → WentWell rest
over_device status.Good well = tt
over_device status.Corrupt well = tt
over_device status.Device well = tt
over_device status.EpochEnd well = well
over_device status.Journal well = well
over_device status.Yard well = well
over_device status.NoMemory well = well
over_device status.Parameter well = well
over_device status.Source well = well
over_device status.Usage well = well
over_device status.Sink well = well
over_device status.NoJournal well = well
over_device status.Damaged well = well
over_device status.Mismatch well = well

rest_well : (first rest : Status) → GoesOn first → WentWell (worse first rest) → WentWell rest
rest_well first rest (inl is) well = over_good rest (subst (λ (s : Status). WentWell (worse s rest)) is well)
rest_well first rest (inr (inl is)) well = over_corrupt rest (subst (λ (s : Status). WentWell (worse s rest)) is well)
rest_well first rest (inr (inr is)) well = over_device rest (subst (λ (s : Status). WentWell (worse s rest)) is well)

of_runs_by : (s : Status) → CanEndOver s → of_runs s ≡ true
of_runs_by status.Good can = refl
of_runs_by status.Corrupt can = refl
of_runs_by status.Device can = refl
of_runs_by status.EpochEnd can = refl
of_runs_by status.Journal can = refl
of_runs_by status.Yard can = refl
of_runs_by status.NoMemory can = refl
of_runs_by status.Parameter can = absurd (can.no_parameter refl)
of_runs_by status.Source can = absurd (can.no_source refl)
of_runs_by status.Usage can = absurd (can.no_usage refl)
of_runs_by status.Sink can = absurd (can.no_output refl)
of_runs_by status.NoJournal can = absurd (can.none_missing refl)
of_runs_by status.Damaged can = absurd (can.none_damaged refl)
of_runs_by status.Mismatch can = absurd (can.none_mismatched refl)

-- What is counted of arms, by verification and by what followed.
module _ (a c d : YardSeen) (first rest result : Status) (is : result ≡ worse first rest) (on : GoesOn first) (stays : Stays a c) (leaves : LeavesYard c d rest) where
  pub rose_of_both : (stores : List StorePlan) (found : List Recovered) → (text : List ℕ) × StoresEnd a c stores found text first → result ≡ status.Device → (path : List ℕ) × Rose (arm_faults a.counts path) (arm_faults d.counts path)
  rose_of_both stores found (text, ends) device = elim (worse_either first rest) [
    | inl same ↦
        let rose = device_of a c stores found text first ends (sym same ∙ sym is ∙ device) in
        (rose.0, omega (arith, rose.2, leaves.arms rose.0))
    | inr same ↦
        let rose = leaves.device_fault (sym same ∙ sym is ∙ device) in
        (rose.0, omega (arith, rose.1, stays.arms rose.0))
  ]

  pub quiet_of_both : (first ≢ status.Device → (path : List ℕ) → arm_faults c.counts path ≡ arm_faults a.counts path) → result ≢ status.Device → result ≢ status.EpochEnd → result ≢ status.Journal → result ≢ status.Yard → result ≢ status.NoMemory
      → (path : List ℕ) → arm_faults d.counts path ≡ arm_faults a.counts path
  quiet_of_both quiet device epoch journal yard memory path =
      leaves.device_quiet (device_shows first rest result is on device) (epoch_shows first rest result is on epoch) (journal_shows first rest result is on journal) (yard_shows first rest result is on yard) (memory_shows first rest result is on memory) path
      ∙ quiet (first_no_device first rest result is on (of_runs_by rest leaves.can) device epoch journal yard memory) path

  pub faults_of_both : c.faults ≡ a.faults → result ≢ status.Yard → result ≢ status.NoMemory → d.faults ≡ a.faults
  faults_of_both same yard memory = leaves.yard_quiet (yard_shows first rest result is on yard) (memory_shows first rest result is on memory) ∙ same

-- ---- how the command ends
module _ {P B : Type 0} (pass_seen : P → PassSeen) (book_seen : B → BookSeen) (plan : Plan) (before after : Stage) (result : Status) where
  abbrev Does : Type 0
  Does = Resumed pass_seen book_seen plan before after result

  -- a journal isn't recovered
  pub resumed_not : (text : List ℕ) × Says before.printing after.printing text × JournalsStop before.yard after.yard plan.stores text result → LeavesRest before.yard after.yard → JournalsStay before.yard.disks after.yard.disks → after.clock ≡ before.clock → Does
  resumed_not (text, says, stop) leaves journals clock = record {
    text = text;
    starts = [];
    does = not_recovered stop leaves journals clock refl;
    says = says;
    grows = inl journals;
    whole = λ well told. absurd (halts_badly result (journals_halt before.yard after.yard plan.stores text result stop) well);
  }

  -- verification stops at a store
  pub resumed_stopped : (found : List Recovered) (recovered : YardSeen) (said : Printing) → HaveRecovered plan before found recovered said → (verified : YardSeen) → (rest : List ℕ) × Says said after.printing rest × StoresEnd recovered verified plan.stores found rest result → IsTrue (is_stop result)
      → StoresStay plan.stores recovered.contents verified.contents → Stays recovered verified → LeavesRest verified after.yard → KeepsEach before.yard.disks after.yard.disks → after.clock ≡ before.clock → Does
  resumed_stopped found recovered said have verified (rest, says, ends) stop contents same leaves disks clock = record {
    text = journals_text plan.stores found ++ rest;
    starts = [];
    does = not_verified found recovered said have verified rest ends stop contents same leaves disks clock refl refl;
    says = says_then before.printing said after.printing (journals_text plan.stores found) rest have.says says;
    grows = inl (stay_at before.yard.disks after.yard.disks disks);
    whole = λ well told. absurd (halts_badly result (stop_halts result stop) well);
  }

  -- the journals are opened, and what follows followed
  pub resumed_on : (found : List Recovered) (recovered : YardSeen) (said : Printing) → (have : HaveRecovered plan before found recovered said) → said.failed ≡ false → (seen : List (List Look)) (left : List StoreSeen) (verified : YardSeen) (told : Printing) → HaveVerified plan found seen left recovered said verified told → (first rest : Status)
      → first ≡ looks_status (all_looks seen) → result ≡ worse first rest → WentOn pass_seen book_seen plan have.disks (next_starts plan.stores found (map settled_of left)) left (stage [] verified before.clock 0 told) after rest → Does
  resumed_on found recovered said have unfailed seen left verified told looked first rest first_is is went =
      let on = looks_on (all_looks seen) first first_is in
      let disks : verified.disks ≡ before.yard.disks = looked.disks ∙ have.same in
      let tells = looked.stays.tells ∙ have.leaves.tells in
      record {
        text = journals_text plan.stores found ++ (stores_text plan.stores found seen ++ went.text);
        starts = next_starts plan.stores found (map settled_of left);
        does = resumed found recovered said have unfailed seen left verified told looked refl went.text rest went.does refl (is ∙ ap (λ (s : Status). worse s rest) first_is);
        says = says_then before.printing said after.printing (journals_text plan.stores found) (stores_text plan.stores found seen ++ went.text) have.says
            (says_then said told after.printing (stores_text plan.stores found seen) went.text looked.says went.says);
        grows = inr (subst (λ (k : Kept DiskSeen). ChangesOnlyJournals (next_starts plan.stores found (map settled_of left)) k after.yard.disks) disks went.grows);
        whole = λ well keeps.
            let closed = went.whole (rest_well first rest on (subst WentWell is well)) (told_after before.yard verified tells keeps) in
            record {
              books = closed.books;
              one_each = closed.one_each;
              closed = subst (λ (k : Kept DiskSeen). AreKeptClosed k after.yard.disks (next_starts plan.stores found (map settled_of left)) closed.books) disks closed.closed;
            };
      }
