-- What the looks at a store left, from an earlier yard on and up to a later one.
use Rattle.std.proofs.Common.{◌≡◌, ℕ, IsTrue, List, [], ◌∷◌, ◌++◌, length, map, refl, sym, ◌∙◌, ap, subst}
use Rattle.std.specs.Prelude.{All}
use Rattle.std.proofs.lemmas.List.{append_assoc, append-nil}
use Rattle.std.proofs.lemmas.List.Elements.{All-head, All-tail, All-weaker}
use Rattle.vd_arm.specs.Arm.{PassSeen}
use Rattle.vd_yard.specs.Out.{AtArm}
use Rattle.vd_yard.specs.Yard.{Tells, YardSeen}
use Rattle.plan_types.specs.declared.store.StorePlan.{StorePlan}
use Rattle.key_state.specs.declared.entry.Entry.{Entry}
use Rattle.key_state.specs.Entries.{AreEntries}
use Rattle.block_verdict.specs.Verdicts.{FitAfterSettling}
use Rattle.journal_recover.specs.declared.found.Recovered.{Recovered}
use Rattle.recover_run.specs.declared.look.Look.{Look}
use Rattle.recover_run.specs.Looks.{AreLooks, settled_from}
use Rattle.recover_run.proofs.Looking.{looks_as_many}
use Rattle.run_report.specs.declared.finding.Verified.{Verified}
use Rattle.run_report.specs.declared.status.Status.{Status}
use Rattle.run_report.specs.declared.status.Status.TheVariants as status
use Rattle.run_report.specs.Says.{Printing, Says, says_along, says_none, says_then}
use Rattle.still_store.specs.Frame.{BlocksStay}
use Rattle.still_store.specs.Looking.{Leaves}
use Rattle.still_store.specs.Verification.{counted_status, store_text}
use Rattle.still_plan.specs.Frame.{AreApart, CountsStay, IsPathOf}
use Rattle.still_plan.specs.Journals.{AreFit, IsFit}
use Rattle.still_plan.specs.Stores.{StoresEnd, all_looks, all_verified, looks_status, stores_text, worse}
use Rattle.still_plan.proofs.Frames.{Differs, apart_first, not_among}
use Rattle.still_plan.proofs.Sayings.{looks_counted}
use Rattle.still_plan.proofs.Verifications.{HasPath, passes_earlier, none_found, path_rose, rose_earlier, rose_later, status_more}
use Rattle.plan_verified.specs.Laws.{VerifyAsStill}
use Rattle.plan_verified.specs.Stores.{LeavesStore, LeaveStores, StoreSeen, passes_of}
use Rattle.plan_verified.proofs.Settling.{fit_read, settled_long, settled_valid}

-- ---- one store
-- These entries and passes are what the looks left.
pub leaves_store : FitAfterSettling → (a b : YardSeen) (store : StorePlan) (found : Recovered) (es : List Entry) (passes : List PassSeen) (looks : List Look) (counted : Verified) (settled : List Entry) → es ≡ found.entries.items → IsFit store found → Leaves a b store es passes looks counted → settled ≡ settled_from es looks
    → LeavesStore a b store found looks (passes, settled)
leaves_store law a b store found es passes looks counted settled e fit left is =
    let looked : AreLooks store.id found.entries.items passes looks = subst (λ (x : List Entry). AreLooks store.id x passes looks) e left.looked in
    let same : settled ≡ settled_from found.entries.items looks = is ∙ ap (λ (x : List Entry). settled_from x looks) e in
    let many = looks_as_many store.id found.entries.items passes looks looked in record {
      theirs = left.theirs;
      looked = looked;
      counts = path_rose a b store.path looks left.rose;
      sure = left.sure;
      settled = same;
      one_each = ap (λ (x : List Entry). length x) same ∙ (settled_long found.entries.items looks many ∙ fit.one_each);
      valid = subst AreEntries (sym same) (settled_valid found.entries.items looks many fit.valid);
      fit = rw same (fit_read law store.id found.entries.items passes looks looked);
    }

pub leaves_one : FitAfterSettling → (a b : YardSeen) (store : StorePlan) (found : Recovered) (es : List Entry) (passes : List PassSeen) (looks : List Look) (counted : Verified) (settled : List Entry) (result : Status) (p q : Printing) → es ≡ found.entries.items → IsFit store found → Leaves a b store es passes looks counted
    → Says p q (store_text store.id es looks) → settled ≡ settled_from es looks → result ≡ counted_status counted
    → (looks : List Look) × LeavesStore a b store found looks (passes, settled) × (result ≡ looks_status looks) × Says p q (store_text store.id found.entries.items looks)
leaves_one law a b store found es passes looks counted settled result p q e fit left say is s = (
  looks,
  leaves_store law a b store found es passes looks counted settled e fit left is,
  s ∙ (ap counted_status left.counts ∙ looks_counted es looks),
  says_along p q _ _ (ap (λ (x : List Entry). store_text store.id x looks) e) say,
)

leaves_later : (a b c : YardSeen) (store : StorePlan) (found : Recovered) (looks : List Look) (left : StoreSeen) → CountsStay b c store.path → LeavesStore a b store found looks left → LeavesStore a c store found looks left
leaves_later a b c store found looks left s p = record {
  theirs = p.theirs;
  looked = p.looked;
  counts = rose_later a b c store.path looks s p.counts;
  sure = p.sure;
  settled = p.settled;
  one_each = p.one_each;
  valid = p.valid;
  fit = p.fit;
}

leaves_earlier : (a b c : YardSeen) (store : StorePlan) (found : Recovered) (looks : List Look) (left : StoreSeen) → HasPath a b store.path → LeavesStore b c store found looks left → LeavesStore a c store found looks left
leaves_earlier a b c store found looks left h p = record {
  theirs = passes_earlier a b store (passes_of left) h p.theirs;
  looked = p.looked;
  counts = rose_earlier a b c store.path looks h.tells h.counts p.counts;
  sure = λ s. p.sure (subst (λ (t : Tells). IsTrue (t.sure AtArm store.path)) (sym h.tells) s);
  settled = p.settled;
  one_each = p.one_each;
  valid = p.valid;
  fit = p.fit;
}

-- ---- all stores
-- the later yard has what the earlier one had at the paths of these stores
abbrev HaveTheirs : YardSeen → YardSeen → List StorePlan → Type 0
HaveTheirs a b stores = All (λ (s : StorePlan). HasPath a b s.path) stores

have_theirs : (a b : YardSeen) (first : StorePlan) (stores : List StorePlan) → All (Differs first) stores → b.tells ≡ a.tells → BlocksStay first a.contents b.contents → ((q : List ℕ) → (q ≡ first.path → ⊥) → CountsStay a b q) → HaveTheirs a b stores
unfolding Differs
have_theirs a b first stores apart t stay counts =
    All-weaker (Differs first) (λ (s : StorePlan). HasPath a b s.path)
    (λ s differs. record { tells = t; kept = stay.others s.path (λ e. differs (sym e)); counts = counts s.path (λ e. differs (sym e)) }) stores apart

all_earlier : (a b c : YardSeen) (stores : List StorePlan) (found : List Recovered) (seen : List (List Look)) (left : List StoreSeen) → HaveTheirs a b stores → LeaveStores b c stores found seen left → LeaveStores a c stores found seen left
all_earlier a b c [] [] [] [] h p = tt
all_earlier a b c (store ∷ stores) (one ∷ found) (looks ∷ seen) (first ∷ left) h p =
    (leaves_earlier a b c store one looks first (All-head (λ (s : StorePlan). HasPath a b s.path) store stores h) p.0, all_earlier a b c stores found seen left (All-tail (λ (s : StorePlan). HasPath a b s.path) store stores h) p.1)
all_earlier a b c [] [] [] (first ∷ left) h p = absurd p
all_earlier a b c [] [] (looks ∷ seen) left h p = absurd p
all_earlier a b c [] (one ∷ found) seen left h p = absurd p
all_earlier a b c (store ∷ stores) [] seen left h p = absurd p
all_earlier a b c (store ∷ stores) (one ∷ found) [] left h p = absurd p
all_earlier a b c (store ∷ stores) (one ∷ found) (looks ∷ seen) [] h p = absurd p

pub verify_as_still : VerifyAsStill
verify_as_still a c [] [] [] [] p = tt
verify_as_still a c (store ∷ stores) (one ∷ found) (looks ∷ seen) (first ∷ left) p =
    (record { passes = passes_of first; theirs = p.0.theirs; looked = p.0.looked; counts = p.0.counts }, verify_as_still a c stores found seen left p.1)
verify_as_still a c [] [] [] (first ∷ left) p = absurd p
verify_as_still a c [] [] (looks ∷ seen) left p = absurd p
verify_as_still a c [] (one ∷ found) seen left p = absurd p
verify_as_still a c (store ∷ stores) [] seen left p = absurd p
verify_as_still a c (store ∷ stores) (one ∷ found) [] left p = absurd p
verify_as_still a c (store ∷ stores) (one ∷ found) (looks ∷ seen) [] p = absurd p

-- what verifying stores leaves behind those from before, and says
abbrev pub LeftBehind : {V : Type 0} → (V → StoreSeen) → YardSeen → YardSeen → List StorePlan → List Recovered → List V → List V → Status → Printing → Printing → Type 0
LeftBehind {V} seen_of a c stores found before now result p q =
    (seen : List (List Look)) × (more : List V) × (now ≡ before ++ more) × LeaveStores a c stores found seen (map seen_of more) × (result ≡ looks_status (all_looks seen)) × Says p q (stores_text stores found seen)

pub none_left : {V : Type 0} (seen_of : V → StoreSeen) (a : YardSeen) (stores : List StorePlan) (found : List Recovered) (before : List V) (p : Printing) → stores ≡ [] → AreFit stores found → LeftBehind seen_of a a stores found before before status.Good p p
none_left {V} seen_of a stores found before p e fit =
    let f : found ≡ [] = none_found found (subst (λ (s : List StorePlan). AreFit s found) e fit) in
    subst (λ (s : List StorePlan). LeftBehind seen_of a a s found before before status.Good p p) (sym e)
    (subst (λ (m : List Recovered). LeftBehind seen_of a a [] m before before status.Good p p) (sym f)
    ([], [], sym (append-nil before), tt, refl, says_none p))

-- One store was verified, and then the others.
pub more_left : {V : Type 0} (seen_of : V → StoreSeen) (a b c : YardSeen) (stores : List StorePlan) (founds : List Recovered) (store : StorePlan) (found : Recovered) (rest : List StorePlan) (more : List Recovered) (one : V) (before mid now : List V) (first last result : Status) (p q r : Printing)
    → stores ≡ store ∷ rest → founds ≡ found ∷ more → AreApart stores → b.tells ≡ a.tells → BlocksStay store a.contents b.contents
    → ((x : List ℕ) → (x ≡ store.path → ⊥) → CountsStay a b x) → ((x : List ℕ) → (IsPathOf rest x → ⊥) → CountsStay b c x) → result ≡ worse first last → mid ≡ before ++ one ∷ []
    → (looks : List Look) × LeavesStore a b store found looks (seen_of one) × (first ≡ looks_status looks) × Says p q (store_text store.id found.entries.items looks)
    → LeftBehind seen_of b c rest more mid now last q r → LeftBehind seen_of a c stores founds before now result p r
more_left {V} seen_of a b c stores founds store found rest more one before mid now first last result p q r e f apart tells stay counts others w pushed v u =
    let differ = apart_first store rest (subst AreApart e apart) in
    subst (λ (s : List StorePlan). LeftBehind seen_of a c s founds before now result p r) (sym e)
    (subst (λ (m : List Recovered). LeftBehind seen_of a c (store ∷ rest) m before now result p r) (sym f) (
      v.0 ∷ u.0,
      one ∷ u.1,
      u.2 ∙ (ap (λ (l : List V). l ++ u.1) pushed ∙ append_assoc before (one ∷ []) u.1),
      (leaves_later a b c store found v.0 (seen_of one) (others store.path (not_among store rest differ)) v.1, all_earlier a b c rest more u.0 (map seen_of u.1) (have_theirs a b store rest differ tells stay counts) u.3),
      w ∙ (ap (λ (x : Status). worse x last) v.2 ∙ (ap (λ (x : Status). worse (looks_status v.0) x) u.4 ∙ sym (status_more v.0 (all_looks u.0)))),
      says_then p q r _ _ v.3 u.5,
    ))

-- That is the end of a still command's verification.
pub end_of_left : {V : Type 0} (seen_of : V → StoreSeen) (a c : YardSeen) (stores : List StorePlan) (found : List Recovered) (before now : List V) (result : Status) (p q : Printing) → LeftBehind seen_of a c stores found before now result p q
    → (text : List ℕ) × Says p q text × StoresEnd a c stores found text result
end_of_left seen_of a c stores found before now result p q u =
    (stores_text stores found u.0, u.5, all_verified u.0 (verify_as_still a c stores found u.0 (map seen_of u.1) u.3) refl u.4)
