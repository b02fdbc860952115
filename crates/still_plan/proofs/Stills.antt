-- From journals and stores to the whole command.
use Rattle.std.proofs.Common.{◌≡◌, ℕ, List, [], ◌++◌, refl, sym, ◌∙◌, ap, subst}
use Rattle.vd_outside.specs.Causes.{Rose}
use Rattle.vd_yard.specs.Counts.{Counts, arm_faults}
use Rattle.vd_yard.specs.Yard.{YardSeen}
use Rattle.plan_types.specs.declared.store.StorePlan.{StorePlan}
use Rattle.journal_recover.specs.declared.found.Recovered.{Recovered}
use Rattle.run_report.specs.declared.status.Status.{Status}
use Rattle.run_report.specs.declared.status.Status.TheVariants as status
use Rattle.run_report.specs.Says.{Printing, Says, says_then}
use Rattle.still_store.specs.Frame.{Keeps}
use Rattle.vd_yard.specs.Kept.{Kept, kept_at}
use Rattle.still_plan.specs.Frame.{CountsStay, IsPathOf}
use Rattle.still_plan.specs.Journals.{AllRecover, AreFit, JournalsStop, journals_text}
use Rattle.still_plan.specs.Stores.{StoresEnd}
use Rattle.still_plan.specs.Still.{IsStill, stops, ends}
use Rattle.still_plan.proofs.Frames.{counts_same, counts_then}
use Rattle.still_plan.proofs.Recoveries.{IsLater, all_fit, all_recover_earlier, journals_stop_earlier}
use Rattle.still_plan.proofs.Verifications.{end_before, end_earlier, device_of}

-- what was put behind nothing
found_is : (old more items slice : List Recovered) → slice ≡ items → items ≡ old ++ more → old ≡ [] → more ≡ slice
found_is old more items slice s e none = sym (s ∙ (e ∙ ap (λ (o : List Recovered). o ++ more) none))

pub fit_by : (yard : YardSeen) (stores : List StorePlan) (old more items slice : List Recovered) → slice ≡ items → items ≡ old ++ more → old ≡ [] → AllRecover yard stores more → AreFit stores slice
fit_by yard stores old more items slice s e none all = subst (AreFit stores) (found_is old more items slice s e none) (all_fit yard stores more all)

pub still_ends : (a b c : YardSeen) (stores : List StorePlan) (old items slice : List Recovered) (result : Status) (p q r : Printing) → slice ≡ items → old ≡ [] → Keeps a b → b.contents ≡ a.contents → b.counts ≡ a.counts
    → (more : List Recovered) × (items ≡ old ++ more) × AllRecover a stores more × Says p q (journals_text stores more)
    → (text : List ℕ) × Says q r text × StoresEnd b c stores slice text result
    → (text : List ℕ) × Says p r text × IsStill a c stores text result
still_ends a b c stores old items slice result p q r s none k d n j v =
    let same = found_is old j.0 items slice s j.1 none in (
      journals_text stores j.0 ++ v.0,
      says_then p q r _ _ j.3 v.1,
      ends j.0 v.0 j.2 (subst (λ (f : List Recovered). StoresEnd a c stores f v.0 result) (sym same) (end_earlier a b c stores slice v.0 result k d n v.2)) refl,
    )

pub still_stops : (a c : YardSeen) (stores : List StorePlan) (result : Status) (p q : Printing) → c.contents ≡ a.contents → c.counts ≡ a.counts → (text : List ℕ) × Says p q text × JournalsStop a c stores text result → (text : List ℕ) × Says p q text × IsStill a c stores text result
still_stops a c stores result p q k n v = (v.0, v.1, stops v.2 (record { contents = k; counts = λ path. counts_same a c path n }))

pub device_by : (a b c : YardSeen) (stores : List StorePlan) (found : List Recovered) (result : Status) (p q : Printing) → b.counts ≡ a.counts → (text : List ℕ) × Says p q text × StoresEnd b c stores found text result → result ≡ status.Device
    → (path : List ℕ) × IsPathOf stores path × Rose (arm_faults a.counts path) (arm_faults c.counts path)
device_by a b c stores found result p q n v e =
    let d = device_of b c stores found v.0 result v.2 e in
    (d.0, d.1, subst (λ (k : Counts). Rose (arm_faults k d.0) (arm_faults c.counts d.0)) n d.2)

-- ---- what is found from a later yard on, by what was there before
pub still_earlier : (a b c : YardSeen) (stores : List StorePlan) (text : List ℕ) (result : Status) → IsLater a b → b.contents ≡ a.contents → ((path : List ℕ) → CountsStay a b path)
    → IsStill b c stores text result → IsStill a c stores text result
still_earlier a b c stores text result l k n (stops p u) =
    stops (journals_stop_earlier a b c stores text result l p) (record { contents = u.contents ∙ k; counts = λ path. counts_then a b c path (n path) (u.counts path) })
still_earlier a b c stores text result l k n (ends found part all end t) =
    ends found part (all_recover_earlier a b stores found l all) (end_before a b c stores found part result l.keeps (λ path. ap (λ (x : Kept (List ℕ)). kept_at x path) k) n end) t
