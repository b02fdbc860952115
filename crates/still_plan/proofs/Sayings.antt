-- A line that was made or not, and said.
use Rattle.std.proofs.Common.{◌≡◌, take, ℕ, Bool, IsTrue, List, [], refl, ap, subst, inl, inr, ◌⊎◌, Result, Ok, Err, IfOk}
use Rattle.std.specs.Prelude.{Option}
use Rattle.vd_outside.specs.Causes.{Rose}
use Rattle.vd_outside.specs.declared.text.NoMemory.{NoMemory}
use Rattle.vd_yard.specs.Out.{AtDisk}
use Rattle.vd_yard.specs.Yard.{YardSeen, is_there, HasFiles}
use Rattle.plan_types.specs.declared.store.StorePlan.{StorePlan}
use Rattle.journal_recover.specs.declared.found.Recovered.{Recovered}
use Rattle.journal_recover.specs.declared.fault.RecoverFault.{RecoverFault}
use Rattle.key_state.specs.declared.entry.Entry.{Entry}
use Rattle.recover_run.specs.declared.look.Look.{Look}
use Rattle.recover_run.specs.Looks.{AreLooks}
use Rattle.run_report.specs.declared.status.Status.{Status}
use Rattle.run_report.specs.declared.status.Status.TheVariants as status
use Rattle.run_report.specs.Lines.{cannot_open_text}
use Rattle.run_report.specs.Says.{Printing, Says, printing, says_along}
use Rattle.still_store.specs.Verification.{counted_of, counted_status, lines_of, CameSoFar, not_begun as none_begun, begun as some_begun}
use Rattle.still_plan.specs.Frame.{CountsStay}
use Rattle.still_plan.specs.Lines.{SaysLine, SaysOr, refusal_text, refusal_status}
use Rattle.still_plan.specs.Journals.{JournalStop, unopened, unrecovered, memory_out, behind_line, RecoversTo, StopsBy, recovered_text}
use Rattle.still_plan.specs.Stores.{StoreStop, no_data, not_begun, begun, looks_status}

pub says_or : (line : Result (List ℕ) NoMemory) (want : List ℕ) (with result : Status) (a b : Printing) → IfOk line (λ l. l ≡ want) → SaysLine line with result a b → SaysOr want with result a b
says_or (Ok line) want with result a b e p = inl (p.0, says_along a b line want e p.1)
says_or (Err e) want with result a b is p = inr p

-- ---- a journal at which the command stops
pub stop_unopened : (old new : YardSeen) (store : StorePlan) (result : Status) (a b : Printing) → SaysOr (cannot_open_text store.journal) status.Yard result a b → Rose old.faults new.faults → (IsTrue old.willing → IsTrue (is_there old.files AtDisk store.journal) → ⊥)
    → (text : List ℕ) × Says a b text × JournalStop old new store text result
stop_unopened old new store result a b (inl p) r w = (cannot_open_text store.journal, p.1, unopened r w refl p.0)
stop_unopened old new store result a b (inr p) r w = ([], p.1, memory_out refl p.0)

pub stop_unrecovered : (old new : YardSeen) (store : StorePlan) (fault : RecoverFault) (result : Status) (a b : Printing) → SaysOr (refusal_text store.id fault) (refusal_status fault) result a b → StopsBy old new store fault
    → (text : List ℕ) × Says a b text × JournalStop old new store text result
stop_unrecovered old new store fault result a b (inl p) s = (refusal_text store.id fault, p.1, unrecovered fault s refl p.0)
stop_unrecovered old new store fault result a b (inr p) s = ([], p.1, memory_out refl p.0)

-- ---- a store at which the command stops
pub stop_no_data : (old new : YardSeen) (store : StorePlan) (found : Recovered) (result : Status) (a b : Printing) → SaysOr (cannot_open_text store.path) status.Yard result a b → Rose old.faults new.faults → (IsTrue old.willing → HasFiles old.files store → ⊥) → CountsStay old new store.path
    → (text : List ℕ) × Says a b text × StoreStop old new store found text result
stop_no_data old new store found result a b (inl p) r w n = (cannot_open_text store.path, p.1, no_data r w n refl p.0)
stop_no_data old new store found result a b (inr p) r w n = ([], p.1, not_begun refl (inl p.0))

pub stop_early : (old new : YardSeen) (store : StorePlan) (found : Recovered) (es : List Entry) (result : Status) (a b : Printing) → es ≡ found.entries.items → CameSoFar old new store es a b → (result ≡ status.NoMemory) ⊎ (result ≡ status.Sink)
    → (text : List ℕ) × Says a b text × StoreStop old new store found text result
stop_early old new store found es result a b e (none_begun s) r = ([], s, not_begun refl r)
stop_early old new store found es result a b e (some_begun n passes looks p q f s) r =
    let q2 : AreLooks store.id (take n found.entries.items) (take n passes) looks = subst (λ (x : List Entry). AreLooks store.id (take n x) (take n passes) looks) e q in
    (lines_of store.id (take n found.entries.items) looks, says_along a b _ _ (ap (λ (x : List Entry). lines_of store.id (take n x) looks) e) s, begun n passes looks p q2 f refl r)

pub looks_counted : (entries : List Entry) (looks : List Look) → counted_status (counted_of entries looks) ≡ looks_status looks
unfolding counted_of
looks_counted entries looks = refl

pub stop_said : (old new : YardSeen) (store : StorePlan) (found : Recovered) (result : Status) (a b : Printing) → RecoversTo old store found → (result ≡ status.NoMemory) ⊎ (result ≡ status.Sink)
    → (result ≡ status.NoMemory → Says a b []) → (result ≡ status.Sink → Says a b (recovered_text store found)) → (text : List ℕ) × Says a b text × JournalStop old new store text result
stop_said old new store found result a b r (inl e) unsaid said = ([], unsaid e, memory_out refl e)
stop_said old new store found result a b r (inr e) unsaid said = (recovered_text store found, said e, behind_line found r refl (inr e))

pub stop_no_data_after : (old new : YardSeen) (store : StorePlan) (found : Recovered) (result : Status) (f g : Bool) (t u : Option (List ℕ)) (m n : ℕ) (b : Printing) → f ≡ g → t ≡ u → m ≡ n → SaysOr (cannot_open_text store.path) status.Yard result (printing f t m) b
    → Rose old.faults new.faults → (IsTrue old.willing → HasFiles old.files store → ⊥) → CountsStay old new store.path → (text : List ℕ) × Says (printing g u n) b text × StoreStop old new store found text result
stop_no_data_after old new store found result f g t u m n b p q r s rose w k =
    let same : printing f t m ≡ printing g u n = cc in
    subst (λ (a : Printing). (text : List ℕ) × Says a b text × StoreStop old new store found text result) same (stop_no_data old new store found result (printing f t m) b s rose w k)
