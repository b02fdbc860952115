-- From what is said over a plan to what is said over a parameter file.
use Rattle.std.proofs.Common.{◌≡◌, ℕ, ◌+◌, ◌-◌, ◌^◌, ◌<◌, min, Bool, true, false, IsTrue, List, [], ◌++◌, take, refl, sym, ◌∙◌, ap, subst, arith, inl, inr, ◌⊎◌, Result, Ok, Err, IfOk}
use Rattle.std.specs.Prelude.{All, Option, Some, None, slice_get, ◌≢◌}
use Rattle.std.proofs.lemmas.List.Elements.{All-get_or}
use Rattle.std.proofs.lemmas.Option.{slice_get_within, get_or_from_slice_get}
use Rattle.vd_outside.specs.Causes.{Rose}
use Rattle.vd_outside.specs.declared.text.NoMemory.{NoMemory}
use Rattle.vd_disk.specs.Disk.{DiskSeen}
use Rattle.vd_yard.specs.Counts.{arm_faults, source_faults}
use Rattle.vd_yard.specs.Kept.{Kept, kept_at}
use Rattle.vd_yard.specs.Out.{AtSource}
use Rattle.vd_yard.specs.Yard.{YardSeen, Tells, is_there}
use Rattle.plan_types.specs.declared.plan.Plan.{Plan}
use Rattle.plan_types.specs.declared.store.StorePlan.{StorePlan}
use Rattle.plan_file.specs.Files.{PlansTo}
use Rattle.journal_recover.specs.declared.found.Recovered.{Recovered}
use Rattle.journal_recover.specs.declared.fault.RecoverFault.{RecoverFault}
use Rattle.journal_recover.specs.declared.fault.RecoverFault.TheVariants as refusal
use Rattle.run_report.specs.declared.status.Status.{Status}
use Rattle.run_report.specs.declared.status.Status.TheVariants as status
use Rattle.run_report.specs.Lines.{cannot_open_text, cannot_read_text}
use Rattle.run_report.specs.Plans.{plan_text}
use Rattle.run_report.specs.Status.{last_text}
use Rattle.run_report.specs.Says.{Printing, Says, SaysFront, says_front, says_then, says_along}
use Rattle.still_store.specs.Recovery.{JournalRefused}
use Rattle.still_plan.specs.Frame.{CountsStay, DiskFailed, IsPathOf, StoresStay}
use Rattle.still_plan.proofs.Frames.{counts_then}
use Rattle.still_plan.specs.Lines.{SaysLine, SaysOr, refusal_status}
use Rattle.still_plan.specs.Journals.{JournalStop, unopened, unrecovered, memory_out, output_shut, behind_line, at_journal, StopsBy}
use Rattle.still_plan.specs.Stores.{StoreStop, no_data, not_begun, begun, all_verified, at_store, all_looks}
use Rattle.still_plan.specs.Still.{IsStill, stops, ends}
use Rattle.still_plan.proofs.Recoveries.{IsLater, refused_later}
use Rattle.still_plan.proofs.Stills.{still_earlier}
use Rattle.still_plan.proofs.Verifications.{looks_one_of}
use Rattle.vdbench_top.specs.Still.{SaidOfPlan, shown, shown_front, looked, SaidOfBytes, refused, planned, unplanned, AreBytesOf, SaidOfFile, unopened as file_unopened, unread, read, unkept, IsPlanOf, DataStays, untouched, opened, SomeRefused, FindsNoData, Ends, HasStore, HasSureDisk, IsHonest, IsNoFault, IsUntouched}

-- ---- a plan
said_front : (old new : YardSeen) (shows : Bool) (plan : Plan) (result : Status) (p q : Printing) → shows ≡ true → IsUntouched old new → result ≡ status.NoMemory → SaysFront p q (plan_text plan) → (text : List ℕ) × Says p q text × SaidOfPlan old new shows plan text result
said_front old new shows plan result p q e un none (says_front n s) = (take n (plan_text plan), s, shown_front e un n refl none)

pub said_shown : (old new : YardSeen) (shows : Bool) (plan : Plan) (result : Status) (p q : Printing) → shows ≡ true → IsUntouched old new → (result ≡ status.Good) ⊎ (result ≡ status.NoMemory) → (result ≡ status.Good → Says p q (plan_text plan)) → (result ≡ status.NoMemory → SaysFront p q (plan_text plan))
    → (text : List ℕ) × Says p q text × SaidOfPlan old new shows plan text result
said_shown old new shows plan result p q e un (inl good) says front = (plan_text plan, says good, shown e un refl good)
said_shown old new shows plan result p q e un (inr none) says front = said_front old new shows plan result p q e un none (front none)

pub said_looked : (old new : YardSeen) (shows : Bool) (plan : Plan) (stores : List StorePlan) (result : Status) (p q : Printing) → shows ≡ false → stores ≡ plan.stores → StoresStay stores old.contents new.contents → ((path : List ℕ) → (IsPathOf stores path → ⊥) → CountsStay old new path) → (text : List ℕ) × Says p q text × IsStill old new stores text result → (text : List ℕ) × Says p q text × SaidOfPlan old new shows plan text result
said_looked old new shows plan stores result p q e same stay others v = (
  v.0,
  v.1,
  looked e (subst (λ (s : List StorePlan). IsStill old new s v.0 result) same v.2) (subst (λ (s : List StorePlan). StoresStay s old.contents new.contents) same stay)
      (subst (λ (s : List StorePlan). (path : List ℕ) → (IsPathOf s path → ⊥) → CountsStay old new path) same others),
)

pub refused_by : (P : Type 0) (a : YardSeen) (stores slice : List StorePlan) → slice ≡ stores → ((n : ℕ) (store : StorePlan) → slice_get slice n ≡ Some store → JournalRefused a store → P) → SomeRefused a stores → P
refused_by P a stores slice e never (n, store, is, why) = never n store (ap (λ (s : List StorePlan). slice_get s n) e ∙ is) why

-- ---- the bytes of a parameter file
pub opened_by : (a c : YardSeen) (bytes : List ℕ) (plan : Plan) → PlansTo bytes (Ok plan) → (c.contents ≡ a.contents) ⊎ StoresStay plan.stores a.contents c.contents
    → (c.contents ≡ a.contents) ⊎ ((plan : Plan) × PlansTo bytes (Ok plan) × StoresStay plan.stores a.contents c.contents)
opened_by a c bytes plan e (inl same) = inl same
opened_by a c bytes plan e (inr stay) = inr (plan, e, stay)

pub said_planned : (old new : YardSeen) (shows : Bool) (bytes : List ℕ) (plan : Plan) (result : Status) (p q : Printing) → PlansTo bytes (Ok plan) → (text : List ℕ) × Says p q text × SaidOfPlan old new shows plan text result → (text : List ℕ) × Says p q text × SaidOfBytes old new shows bytes text result
said_planned old new shows bytes plan result p q e v = (v.0, v.1, planned plan e v.2)

pub said_refused : (old new : YardSeen) (shows : Bool) (bytes line text : List ℕ) (p q : Printing) → PlansTo bytes (Err line) → IsUntouched old new → text ≡ line → Says p q text → (t : List ℕ) × Says p q t × SaidOfBytes old new shows bytes t status.Parameter
said_refused old new shows bytes line text p q e un same s = (line, says_along p q text line same s, refused e un refl)

-- ---- a parameter file
-- a later yard that a file was read from
pub record WasRead (a b : YardSeen) : Type 0 where
  pub later : IsLater a b
  pub contents : b.contents ≡ a.contents
  pub counts : (path : List ℕ) → CountsStay a b path
  pub disks : b.disks ≡ a.disks

pub untouched_same : (a : YardSeen) → IsUntouched a a
untouched_same a = record { unopened = record { contents = refl; counts = λ path. record { faults = refl; reads = refl; writes = refl } }; disks = refl }

pub untouched_earlier : (a b c : YardSeen) → WasRead a b → IsUntouched b c → IsUntouched a c
untouched_earlier a b c w u = record {
  unopened = record {
    contents = u.unopened.contents ∙ w.contents;
    counts = λ path. counts_then a b c path (w.counts path) (u.unopened.counts path);
  };
  disks = u.disks ∙ w.disks;
}

plan_earlier : (a b c : YardSeen) (shows : Bool) (plan : Plan) (text : List ℕ) (result : Status) → WasRead a b → SaidOfPlan b c shows plan text result → SaidOfPlan a c shows plan text result
plan_earlier a b c shows plan text result w (shown e u t r) = shown e (untouched_earlier a b c w u) t r
plan_earlier a b c shows plan text result w (shown_front e u n t r) = shown_front e (untouched_earlier a b c w u) n t r
plan_earlier a b c shows plan text result w (looked e s stay others) =
    looked e (still_earlier a b c plan.stores text result w.later w.contents w.counts s) (subst (λ (k : Kept (List ℕ)). StoresStay plan.stores k c.contents) w.contents stay)
    (λ path other. counts_then a b c path (w.counts path) (others path other))

bytes_earlier : (a b c : YardSeen) (shows : Bool) (bytes text : List ℕ) (result : Status) → WasRead a b → SaidOfBytes b c shows bytes text result → SaidOfBytes a c shows bytes text result
bytes_earlier a b c shows bytes text result w (refused e u r) = refused e (untouched_earlier a b c w u) r
bytes_earlier a b c shows bytes text result w (planned plan e s) = planned plan e (plan_earlier a b c shows plan text result w s)
bytes_earlier a b c shows bytes text result w (unplanned u t r) = unplanned (untouched_earlier a b c w u) t r

pub said_read : (a b c : YardSeen) (shows : Bool) (file bytes : List ℕ) (result : Status) (p q : Printing) → WasRead a b → AreBytesOf a file bytes → (text : List ℕ) × Says p q text × SaidOfBytes b c shows bytes text result → (text : List ℕ) × Says p q text × SaidOfFile a c shows file text result
said_read a b c shows file bytes result p q w e v = (v.0, v.1, read bytes e (bytes_earlier a b c shows bytes v.0 result w v.2))

pub said_or : (line : Result (List ℕ) NoMemory) (want : List ℕ) (with result : Status) (a b : Printing) → IfOk line (λ l. l ≡ want) → SaysLine line with result a b → SaysOr want with result a b
said_or (Ok line) want with result a b e p = inl (p.0, says_along a b line want e p.1)
said_or (Err e) want with result a b is p = inr p

pub said_unopened : (a c : YardSeen) (shows : Bool) (file : List ℕ) (result : Status) (p q : Printing) → SaysOr (cannot_open_text file) status.Yard result p q → Rose a.faults c.faults → (IsTrue a.willing → IsTrue (is_there a.files AtSource file) → ⊥) → IsUntouched a c
    → (text : List ℕ) × Says p q text × SaidOfFile a c shows file text result
said_unopened a c shows file result p q (inl s) r w u = (cannot_open_text file, s.1, file_unopened r w u refl s.0)
said_unopened a c shows file result p q (inr s) r w u = ([], s.1, unkept u refl s.0)

pub said_unread : (a c : YardSeen) (shows : Bool) (file : List ℕ) (result : Status) (p q : Printing) → SaysOr (cannot_read_text file) status.Source result p q → Rose (source_faults a.counts file) (source_faults c.counts file) → (IsTrue (a.tells.sure AtSource file) → ⊥) → IsUntouched a c
    → (text : List ℕ) × Says p q text × SaidOfFile a c shows file text result
said_unread a c shows file result p q (inl s) r w u = (cannot_read_text file, s.1, unread r w u refl s.0)
said_unread a c shows file result p q (inr s) r w u = ([], s.1, unkept u refl s.0)

pub no_such_line : (line : Result (List ℕ) NoMemory) (with result other : Status) (p q : Printing) → SaysLine line with result p q → result ≡ other → (with ≡ other → ⊥) → (status.NoMemory ≡ other → ⊥) → ⊥
no_such_line (Ok line) with result other p q s e n m = n (sym s.0 ∙ e)
no_such_line (Err none) with result other p q s e n m = m (sym s.0 ∙ e)

-- ---- data
pub data_opened : (a b c : YardSeen) (file bytes : List ℕ) → b.contents ≡ a.contents → AreBytesOf a file bytes → (c.contents ≡ b.contents) ⊎ ((plan : Plan) × PlansTo bytes (Ok plan) × StoresStay plan.stores b.contents c.contents) → DataStays a file a.contents c.contents
data_opened a b c file bytes e are (inl same) = untouched (same ∙ e)
data_opened a b c file bytes e are (inr stay) = opened stay.0 (record { bytes = bytes; read = are; plans = stay.1 }) (subst (λ (k : Kept (List ℕ)). StoresStay stay.0.stores k c.contents) e stay.2)

pub some_refused_later : (a b : YardSeen) (stores : List StorePlan) → IsLater a b → SomeRefused a stores → SomeRefused b stores
some_refused_later a b stores l (n, store, is, why) = (n, store, is, refused_later a b store l why)

pub no_data_later : (a b : YardSeen) (bytes : List ℕ) → IsLater a b → FindsNoData a bytes → FindsNoData b bytes
no_data_later a b bytes l none plan plans = some_refused_later a b plan.stores l (none plan plans)

pub disk_failed_same : (a b c : YardSeen) → b.disks ≡ a.disks → DiskFailed b c → DiskFailed a c
disk_failed_same a b c d f = record {
  path = f.path;
  disk = f.disk;
  now = f.now;
  was = ap (λ (k : Kept DiskSeen). kept_at k f.path) (sym d) ∙ f.was;
  is = f.is;
  rose = f.rose;
}

pub keeps_disks_same : (a b : Tells) → b ≡ a → IsTrue a.keeps_disks → IsTrue b.keeps_disks
keeps_disks_same a b t keeps = subst (λ (s : Tells). IsTrue s.keeps_disks) (sym t) keeps

pub arm_rose_earlier : (a b c : YardSeen) → ((path : List ℕ) → arm_faults b.counts path ≡ arm_faults a.counts path) → (path : List ℕ) × Rose (arm_faults b.counts path) (arm_faults c.counts path) → (path : List ℕ) × Rose (arm_faults a.counts path) (arm_faults c.counts path)
arm_rose_earlier a b c e (path, r) = (path, subst (λ (n : ℕ). Rose n (arm_faults c.counts path)) (e path) r)

-- ---- the same parameter file by another name of its own
pub file_along : (a c : YardSeen) (shows : Bool) (f g text : List ℕ) (result : Status) → f ≡ g → SaidOfFile a c shows g text result → SaidOfFile a c shows f text result
file_along a c shows f g text result e s = subst (λ (x : List ℕ). SaidOfFile a c shows x text result) (sym e) s

pub name_is : (o : Option (List ℕ)) (name file : List ℕ) → Some name ≡ o → o ≡ Some file → file ≡ name
name_is o name file p q = cc

pub bytes_along : (a : YardSeen) (f g parameters : List ℕ) → f ≡ g → a.tells.bytes f ≡ Some parameters → a.tells.bytes g ≡ Some parameters
bytes_along a f g parameters e p = subst (λ (x : List ℕ). a.tells.bytes x ≡ Some parameters) e p

-- ---- nothing outside fails
below_no_rise : (a c : ℕ) → c < min (a + 1) (2 ^ 64 - 1) → Rose a c → ⊥
below_no_rise a c p r = omega arith

at_place : {A : Type 0} (P : A → Type 0) (xs : List A) (n : ℕ) (x : A) → All P xs → slice_get xs n ≡ Some x → P x
at_place P xs n x all is =
    let within = slice_get_within xs n x is in
    subst P (get_or_from_slice_get xs n x x is) (All-get_or P xs n x within all)

no_fault_by : (said other : Status) → said ≡ other → other ≢ status.Yard → other ≢ status.Source → other ≢ status.Journal → IsNoFault said
no_fault_by said other e y s j = record { yard = λ f. y (sym e ∙ f); source = λ f. s (sym e ∙ f); journal = λ f. j (sym e ∙ f) }

early_no_fault : (said : Status) → (said ≡ status.NoMemory) ⊎ (said ≡ status.Sink) → IsNoFault said
early_no_fault said (inl e) = no_fault_by said status.NoMemory e (λ f. cc) (λ f. cc) (λ f. cc)
early_no_fault said (inr e) = no_fault_by said status.Sink e (λ f. cc) (λ f. cc) (λ f. cc)

-- a disk that is sure fails no read, and one that isn't there is none
sure_disk : (a c : YardSeen) (store : StorePlan) (o : Option DiskSeen) → kept_at a.disks store.journal ≡ o → HasSureDisk a store → StopsBy a c store refusal.Failed → ⊥
sure_disk a c store None is h s = (let e : refusal.Failed ≡ refusal.NoMemory = s.there h.keeps is in cc)
sure_disk a c store (Some disk) is h s = s.unsure refl disk is (h.sure disk is).0 (h.sure disk is).1

refusal_no_fault : (a c : YardSeen) (store : StorePlan) (fault : RecoverFault) (said : Status) → HasSureDisk a store → StopsBy a c store fault → said ≡ refusal_status fault → IsNoFault said
refusal_no_fault a c store refusal.NoJournal said h s e = no_fault_by said status.NoJournal e (λ f. cc) (λ f. cc) (λ f. cc)
refusal_no_fault a c store (refusal.Mismatch found wanted) said h s e = no_fault_by said status.Mismatch e (λ f. cc) (λ f. cc) (λ f. cc)
refusal_no_fault a c store (refusal.Damaged sector what at) said h s e = no_fault_by said status.Damaged e (λ f. cc) (λ f. cc) (λ f. cc)
refusal_no_fault a c store refusal.Failed said h s e = absurd (sure_disk a c store (kept_at a.disks store.journal) refl h s)
refusal_no_fault a c store refusal.NoMemory said h s e = no_fault_by said status.NoMemory e (λ f. cc) (λ f. cc) (λ f. cc)

has_stores : (a c : YardSeen) (shows : Bool) (file : List ℕ) (plan : Plan) → shows ≡ false → IsHonest a c shows file → IsPlanOf a file plan → (c.faults < min (a.faults + 1) (2 ^ 64 - 1)) ⊎ (IsTrue a.willing × All (HasStore a) plan.stores)
has_stores a c shows file plan e h is = elim h.yard [ inl b ↦ inl b | inr w ↦ inr (w.0, w.2 e plan is) ]

journal_no_fault : (a c : YardSeen) (shows : Bool) (file : List ℕ) (plan : Plan) (n : ℕ) (store : StorePlan) (text : List ℕ) (said : Status) → shows ≡ false → IsHonest a c shows file → IsPlanOf a file plan → slice_get plan.stores n ≡ Some store → JournalStop a c store text said → IsNoFault said
journal_no_fault a c shows file plan n store text said e h is at (unopened r w t s) =
    absurd (elim (has_stores a c shows file plan e h is) [ inl b ↦ below_no_rise a.faults c.faults b r | inr v ↦ w v.0 (at_place (HasStore a) plan.stores n store v.1 at).0 ])
journal_no_fault a c shows file plan n store text said e h is at (unrecovered fault s t r) = refusal_no_fault a c store fault said (at_place (HasSureDisk a) plan.stores n store (h.disks e plan is) at) s r
journal_no_fault a c shows file plan n store text said e h is at (memory_out t r) = early_no_fault said (inl r)
journal_no_fault a c shows file plan n store text said e h is at (output_shut t r) = early_no_fault said (inr r)
journal_no_fault a c shows file plan n store text said e h is at (behind_line found r t s) = early_no_fault said s

store_no_fault : (a c : YardSeen) (shows : Bool) (file : List ℕ) (plan : Plan) (n : ℕ) (store : StorePlan) (found : Recovered) (text : List ℕ) (said : Status) → shows ≡ false → IsHonest a c shows file → IsPlanOf a file plan → slice_get plan.stores n ≡ Some store → StoreStop a c store found text said → IsNoFault said
store_no_fault a c shows file plan n store found text said e h is at (no_data r w k t s) =
    absurd (elim (has_stores a c shows file plan e h is) [ inl b ↦ below_no_rise a.faults c.faults b r | inr v ↦ w v.0 (at_place (HasStore a) plan.stores n store v.1 at).1 ])
store_no_fault a c shows file plan n store found text said e h is at (not_begun t s) = early_no_fault said s
store_no_fault a c shows file plan n store found text said e h is at (begun m passes looks f g r t s) = early_no_fault said s

still_no_fault : (a c : YardSeen) (shows : Bool) (file : List ℕ) (plan : Plan) (text : List ℕ) (said : Status) → shows ≡ false → IsHonest a c shows file → IsPlanOf a file plan → IsStill a c plan.stores text said → IsNoFault said
still_no_fault a c shows file plan text said e h is (stops (at_journal n found store part all at stop others t) u) = journal_no_fault a c shows file plan n store part said e h is at stop
still_no_fault a c shows file plan text said s h is (ends found part all (all_verified seen verify u r) t) =
    record { yard = λ e. looks_one_of (all_looks seen) status.Yard (sym r ∙ e) (λ f. cc) (λ f. cc) (λ f. cc); source = λ e. looks_one_of (all_looks seen) status.Source (sym r ∙ e) (λ f. cc) (λ f. cc) (λ f. cc); journal = λ e. looks_one_of (all_looks seen) status.Journal (sym r ∙ e) (λ f. cc) (λ f. cc) (λ f. cc) }
still_no_fault a c shows file plan text said e h is (ends found part all (at_store n seen store here more verify at there stop others u) t) = store_no_fault a c shows file plan n store here more said e h is at stop

plan_no_fault : (a c : YardSeen) (file : List ℕ) (shows : Bool) (plan : Plan) (text : List ℕ) (said : Status) → IsHonest a c shows file → IsPlanOf a file plan → SaidOfPlan a c shows plan text said → IsNoFault said
plan_no_fault a c file shows plan text said h is (shown e u t r) = no_fault_by said status.Good r (λ f. cc) (λ f. cc) (λ f. cc)
plan_no_fault a c file shows plan text said h is (shown_front e u n t r) = no_fault_by said status.NoMemory r (λ f. cc) (λ f. cc) (λ f. cc)
plan_no_fault a c file shows plan text said h is (looked e s stay others) = still_no_fault a c shows file plan text said e h is s

bytes_no_fault : (a c : YardSeen) (file : List ℕ) (shows : Bool) (bytes text : List ℕ) (said : Status) → IsHonest a c shows file → AreBytesOf a file bytes → SaidOfBytes a c shows bytes text said → IsNoFault said
bytes_no_fault a c file shows bytes text said h are (refused e u r) = no_fault_by said status.Parameter r (λ f. cc) (λ f. cc) (λ f. cc)
bytes_no_fault a c file shows bytes text said h are (planned plan e s) = plan_no_fault a c file shows plan text said h (record { bytes = bytes; read = are; plans = e }) s
bytes_no_fault a c file shows bytes text said h are (unplanned u t r) = no_fault_by said status.NoMemory r (λ f. cc) (λ f. cc) (λ f. cc)

pub no_fault : (a c : YardSeen) (file : List ℕ) (shows : Bool) (text : List ℕ) (said : Status) → IsHonest a c shows file → SaidOfFile a c shows file text said → IsNoFault said
no_fault a c file shows text said h (file_unopened r w u t s) = absurd (elim h.yard [ inl b ↦ below_no_rise a.faults c.faults b r | inr v ↦ w v.0 v.1 ])
no_fault a c file shows text said h (unread r w u t s) = absurd (w h.source)
no_fault a c file shows text said h (read bytes are s) = bytes_no_fault a c file shows bytes text said h are s
no_fault a c file shows text said h (unkept u t r) = no_fault_by said status.NoMemory r (λ f. cc) (λ f. cc) (λ f. cc)

-- ---- how a command ends
not_both : (f : Bool) → f ≡ true → f ≡ false → ⊥
not_both f p q = cc

still_failed : (g : Bool) → (g ≡ false → ⊥) → g ≡ true
still_failed true n = refl
still_failed false n = absurd (n refl)

stays_failed : (b c : Printing) (t : List ℕ) → Says b c t → b.failed ≡ true → c.failed ≡ true
stays_failed b c t p e = still_failed c.failed (λ n. not_both b.failed e (p.none_before n))

no_sink : (f : Bool) (said result : Status) → (f ≡ true → result ≡ status.Sink) → (f ≡ false → result ≡ said) → result ≢ status.Sink → (f ≡ false) × (result ≡ said)
no_sink true said result p q n = absurd (n (p refl))
no_sink false said result p q n = (refl, q refl)

sink_said : (f : Bool) (said result : Status) → (f ≡ true → result ≡ status.Sink) → (f ≡ false → result ≡ said) → (said ≡ status.Sink → f ≡ true) → result ≡ status.Sink → f ≡ true
sink_said true said result p q o e = refl
sink_said false said result p q o e = o (sym (q refl) ∙ e)

pub ends_by : (a b c : Printing) (text : List ℕ) (said result : Status) → Says a b text → Says b c (last_text said) → (c.failed ≡ true → result ≡ status.Sink) → (c.failed ≡ false → result ≡ said) → (said ≡ status.Sink → b.failed ≡ true) → Ends text said result a.taken c.taken
ends_by a b c text said result p q failed good sink =
    let whole : Says a c (text ++ last_text said) = says_then a b c text (last_text said) p q in record {
      printed_all = λ n. let no = no_sink c.failed said result failed good n in (no.1, whole.all no.0);
      printed_front = λ e. whole.front (sink_said c.failed said result failed good (λ s. stays_failed b c (last_text said) q (sink s)) e);
    }

pub sink_rose : (a b c : Printing) (text : List ℕ) (said result : Status) → a.failed ≡ false → Says a b text → Says b c (last_text said) → (c.failed ≡ true → result ≡ status.Sink) → (c.failed ≡ false → result ≡ said) → (said ≡ status.Sink → b.failed ≡ true) → (result ≡ status.Sink → Rose a.faults c.faults) × (result ≢ status.Sink → c.faults ≡ a.faults)
sink_rose a b c text said result fresh p q failed good sink =
    let whole : Says a c (text ++ last_text said) = says_then a b c text (last_text said) p q in (
      λ e. whole.cause (sink_said c.failed said result failed good (λ s. stays_failed b c (last_text said) q (sink s)) e) fresh,
      λ n. whole.quiet (no_sink c.failed said result failed good n).0,
    )

pub its_status : (f : Bool) (said result target : Status) → (f ≡ true → result ≡ status.Sink) → (f ≡ false → result ≡ said) → (target ≡ status.Sink → ⊥) → result ≡ target → said ≡ target
its_status true said result target p q n e = absurd (n (sym e ∙ p refl))
its_status false said result target p q n e = sym (q refl) ∙ e

pub not_status : (f : Bool) (said result target : Status) → (f ≡ true → result ≡ status.Sink) → (f ≡ false → result ≡ said) → result ≢ status.Sink → result ≢ target → said ≢ target
not_status true said result target p q s n = absurd (s (p refl))
not_status false said result target p q s n = λ e. n (q refl ∙ e)
