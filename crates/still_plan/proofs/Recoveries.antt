-- From what is found of one journal to what is found of all.
use Rattle.std.proofs.Common.{◌≡◌, ℕ, zero, suc, IsTrue, List, [], ◌∷◌, ◌++◌, take, refl, sym, ◌∙◌, ap, subst, append_assoc, append-nil, inl, inr, ◌⊎◌, Result, Ok, Err}
use Rattle.std.specs.Prelude.{Some, slice_get, OnOk, IfErr, IsErrOf}
use Rattle.vd_outside.specs.Causes.{Rose}
use Rattle.vd_yard.specs.Kept.{kept_at}
use Rattle.vd_yard.specs.Out.{AtDisk}
use Rattle.vd_yard.specs.Yard.{YardSeen, Tells}
use Rattle.plan_types.specs.declared.store.StorePlan.{StorePlan}
use Rattle.journal_recover.specs.declared.found.Recovered.{Recovered}
use Rattle.journal_recover.specs.declared.fault.RecoverFault.{RecoverFault}
use Rattle.run_report.specs.declared.status.Status.{Status}
use Rattle.run_report.specs.declared.status.Status.TheVariants as status
use Rattle.run_report.specs.Says.{Printing, Says, says_then, says_along, says_none}
use Rattle.still_store.specs.Frame.{Keeps}
use Rattle.still_store.specs.Recovery.{JournalRefused, journal_missing, journal_refused}
use Rattle.still_plan.specs.Journals.{AllRecover, AreFit, JournalStop, unopened, unrecovered, memory_out, behind_line, output_shut, JournalsStop, at_journal, RecoversTo, StopsBy, journals_text, recovered_text}
use Rattle.still_plan.proofs.Places.{place_later, place_before, place_first}

-- A later yard that has what an earlier one had: its disks are as they were, and it failed no more.
pub record IsLater (a b : YardSeen) : Type 0 where
  pub disks : (path : List ℕ) → kept_at b.disks path ≡ kept_at a.disks path
  pub faults : b.faults ≡ a.faults
  pub keeps : Keeps a b

keeps_told : (a b : Tells) → b ≡ a → IsTrue a.keeps_disks → IsTrue b.keeps_disks
keeps_told a b e told = subst (λ (t : Tells). IsTrue t.keeps_disks) (sym e) told

recovers_earlier : (a b : YardSeen) (store : StorePlan) (found : Recovered) → IsLater a b → RecoversTo b store found → RecoversTo a store found
recovers_earlier a b store found l p = record {
  gives = λ disk kept. p.gives disk (l.disks store.journal ∙ kept);
  there = λ told none. p.there (keeps_told a.tells b.tells l.keeps.tells told) (l.disks store.journal ∙ none);
  usable = p.usable;
  fit = p.fit;
}

pub all_recover_earlier : (a b : YardSeen) (stores : List StorePlan) (found : List Recovered) → IsLater a b → AllRecover b stores found → AllRecover a stores found
all_recover_earlier a b [] [] l p = tt
all_recover_earlier a b [] (one ∷ found) l p = absurd p
all_recover_earlier a b (store ∷ stores) [] l p = absurd p
all_recover_earlier a b (store ∷ stores) (one ∷ found) l p = (recovers_earlier a b store one l p.0, all_recover_earlier a b stores found l p.1)

stops_earlier : (a b c : YardSeen) (store : StorePlan) (fault : RecoverFault) → IsLater a b → StopsBy b c store fault → StopsBy a c store fault
stops_earlier a b c store fault l p = record {
  gives = λ disk kept. p.gives disk (l.disks store.journal ∙ kept);
  there = λ told none. p.there (keeps_told a.tells b.tells l.keeps.tells told) (l.disks store.journal ∙ none);
  rose = λ e told disk now kept is. p.rose e (keeps_told a.tells b.tells l.keeps.tells told) disk now (l.disks store.journal ∙ kept) is;
  unsure = λ e disk kept. p.unsure e disk (l.disks store.journal ∙ kept);
}

rose_earlier : (a b c : ℕ) → b ≡ a → Rose b c → Rose a c
rose_earlier a b c e r = subst (λ (n : ℕ). Rose n c) e r

journal_stop_earlier : (a b c : YardSeen) (store : StorePlan) (text : List ℕ) (result : Status) → IsLater a b → JournalStop b c store text result → JournalStop a c store text result
journal_stop_earlier a b c store text result l (unopened r w t s) =
    unopened (rose_earlier a.faults b.faults c.faults l.faults r) (λ x y. w (l.keeps.willing x) (l.keeps.files AtDisk store.journal y)) t s
journal_stop_earlier a b c store text result l (unrecovered fault p t s) = unrecovered fault (stops_earlier a b c store fault l p) t s
journal_stop_earlier a b c store text result l (memory_out t s) = memory_out t s
journal_stop_earlier a b c store text result l (output_shut t s) = output_shut t s
journal_stop_earlier a b c store text result l (behind_line found p t s) = behind_line found (recovers_earlier a b store found l p) t s

pub journals_stop_earlier : (a b c : YardSeen) (stores : List StorePlan) (text : List ℕ) (result : Status) → IsLater a b → JournalsStop b c stores text result → JournalsStop a c stores text result
journals_stop_earlier a b c stores text result l (at_journal n found store part all is stop others t) =
    at_journal n found store part (all_recover_earlier a b (take n stores) found l all) is (journal_stop_earlier a b c store part result l stop) (λ path other. others path other ∙ l.disks path) t

pub refused_later : (a b : YardSeen) (store : StorePlan) → IsLater a b → JournalRefused a store → JournalRefused b store
refused_later a b store l (journal_missing told none) = journal_missing (keeps_told a.tells b.tells l.keeps.tells told) (l.disks store.journal ∙ none)
refused_later a b store l (journal_refused disk sectors outcome kept told gives bad) = journal_refused disk sectors outcome (l.disks store.journal ∙ kept) told gives bad

-- ---- one journal in front of others
pub stop_here : (a c : YardSeen) (store : StorePlan) (stores : List StorePlan) (text : List ℕ) (result : Status) → JournalStop a c store text result → ((path : List ℕ) → (path ≡ store.journal → ⊥) → kept_at c.disks path ≡ kept_at a.disks path) → JournalsStop a c (store ∷ stores) text result
stop_here a c store stores text result p others = at_journal 0 [] store text tt refl p others refl

pub stop_there : (a b c : YardSeen) (store : StorePlan) (one : Recovered) (stores : List StorePlan) (text : List ℕ) (result : Status) → IsLater a b → RecoversTo a store one → JournalsStop b c stores text result
    → JournalsStop a c (store ∷ stores) (recovered_text store one ++ text) result
stop_there a b c store one stores text result l r (at_journal n found here part all is stop others e) =
    at_journal (suc n) (one ∷ found) here part (r, all_recover_earlier a b (take n stores) found l all) (place_later store here stores n is)
    (journal_stop_earlier a b c here part result l stop) (λ path other. others path other ∙ l.disks path)
    (ap (λ (t : List ℕ). recovered_text store one ++ t) e ∙ sym (append_assoc (recovered_text store one) (journals_text (take n stores) found) part))

pub refused_there : (a b : YardSeen) (first : StorePlan) (stores : List StorePlan) (n : ℕ) (store : StorePlan) → IsLater a b → slice_get (first ∷ stores) n ≡ Some store → JournalRefused a store
    → JournalRefused a first ⊎ ((m : ℕ) × (slice_get stores m ≡ Some store) × JournalRefused b store)
refused_there a b first stores zero store l is p = inl (subst (JournalRefused a) (sym (place_first first store stores is)) p)
refused_there a b first stores (suc n) store l is p = inr (n, place_before first store stores n is, refused_later a b store l p)

pub all_fit : (yard : YardSeen) (stores : List StorePlan) (found : List Recovered) → AllRecover yard stores found → AreFit stores found
all_fit yard [] [] p = tt
all_fit yard [] (one ∷ found) p = absurd p
all_fit yard (store ∷ stores) [] p = absurd p
all_fit yard (store ∷ stores) (one ∷ found) p = (p.0.fit, all_fit yard stores found p.1)

-- ---- the answers of a call over stores, by those over the first and over the others
pub recovers_none : (yard : YardSeen) (stores : List StorePlan) (items : List Recovered) (a : Printing) → stores ≡ [] → (more : List Recovered) × (items ≡ items ++ more) × AllRecover yard stores more × Says a a (journals_text stores more)
recovers_none yard stores items a e =
    ([], sym (append-nil items), subst (λ (s : List StorePlan). AllRecover yard s []) (sym e) tt, says_along a a [] _ (sym (ap (λ (s : List StorePlan). journals_text s []) e)) (says_none a))

pub recovers_more : {T E : Type 0} (result : Result T E) (a b : YardSeen) (stores : List StorePlan) (store : StorePlan) (rest : List StorePlan) (one : Recovered) (old mid new : List Recovered) (p q r : Printing) → IsLater a b → stores ≡ store ∷ rest
    → mid ≡ old ++ one ∷ [] → RecoversTo a store one → Says p q (recovered_text store one)
    → OnOk result ((more : List Recovered) × (new ≡ mid ++ more) × AllRecover b rest more × Says q r (journals_text rest more))
    → OnOk result ((more : List Recovered) × (new ≡ old ++ more) × AllRecover a stores more × Says p r (journals_text stores more))
recovers_more (Err f) a b stores store rest one old mid new p q r l e m g s o = tt
recovers_more (Ok v) a b stores store rest one old mid new p q r l e m g s o = (
  one ∷ o.0,
  o.1 ∙ (ap (λ (i : List Recovered). i ++ o.0) m ∙ append_assoc old (one ∷ []) o.0),
  subst (λ (x : List StorePlan). AllRecover a x (one ∷ o.0)) (sym e) (g, all_recover_earlier a b rest o.0 l o.2),
  says_along p r _ _ (sym (ap (λ (x : List StorePlan). journals_text x (one ∷ o.0)) e)) (says_then p q r _ _ s o.3),
)

pub stops_first : (a c : YardSeen) (stores : List StorePlan) (store : StorePlan) (rest : List StorePlan) (result : Status) (p q : Printing) → stores ≡ store ∷ rest → ((path : List ℕ) → (path ≡ store.journal → ⊥) → kept_at c.disks path ≡ kept_at a.disks path) → (text : List ℕ) × Says p q text × JournalStop a c store text result
    → (text : List ℕ) × Says p q text × JournalsStop a c stores text result
stops_first a c stores store rest result p q e others v = (v.0, v.1, subst (λ (x : List StorePlan). JournalsStop a c x v.0 result) (sym e) (stop_here a c store rest v.0 result v.2 others))

pub stops_unkept : (a b : YardSeen) (stores : List StorePlan) (store : StorePlan) (rest : List StorePlan) (one : Recovered) (p q : Printing) → stores ≡ store ∷ rest → ((path : List ℕ) → (path ≡ store.journal → ⊥) → kept_at b.disks path ≡ kept_at a.disks path) → RecoversTo a store one → Says p q (recovered_text store one)
    → (text : List ℕ) × Says p q text × JournalsStop a b stores text status.NoMemory
stops_unkept a b stores store rest one p q e others g s = stops_first a b stores store rest status.NoMemory p q e others (recovered_text store one, s, behind_line one g refl (inl refl))

pub stops_more : {T : Type 0} (result : Result T Status) (a b c : YardSeen) (stores : List StorePlan) (store : StorePlan) (rest : List StorePlan) (one : Recovered) (p q r : Printing) → IsLater a b → stores ≡ store ∷ rest
    → RecoversTo a store one → Says p q (recovered_text store one)
    → IfErr result (λ (s : Status). (text : List ℕ) × Says q r text × JournalsStop b c rest text s)
    → IfErr result (λ (s : Status). (text : List ℕ) × Says p r text × JournalsStop a c stores text s)
stops_more (Ok v) a b c stores store rest one p q r l e g s o = tt
stops_more (Err f) a b c stores store rest one p q r l e g s o = (
  recovered_text store one ++ o.0,
  says_then p q r _ _ s o.1,
  subst (λ (x : List StorePlan). JournalsStop a c x (recovered_text store one ++ o.0) f) (sym e) (stop_there a b c store one rest o.0 f l g o.2),
)

pub refused_more : (P : Type 0) (a b : YardSeen) (stores : List StorePlan) (first : StorePlan) (rest : List StorePlan) (n : ℕ) (store : StorePlan) → IsLater a b → stores ≡ first ∷ rest → slice_get stores n ≡ Some store → JournalRefused a store
    → (JournalRefused a first → ⊥) → ((m : ℕ) (s : StorePlan) → slice_get rest m ≡ Some s → JournalRefused b s → P) → P
refused_more P a b stores first rest n store l e is p never others =
    elim (refused_there a b first rest n store l (ap (λ (x : List StorePlan). slice_get x n) (sym e) ∙ is) p) [
      | inl here ↦ absurd (never here)
      | inr there ↦ others there.0 store there.1 there.2
    ]

pub stops_silent : (a : YardSeen) (stores : List StorePlan) (store : StorePlan) (rest : List StorePlan) (p : Printing) → stores ≡ store ∷ rest → (text : List ℕ) × Says p p text × JournalsStop a a stores text status.Sink
stops_silent a stores store rest p e = stops_first a a stores store rest status.Sink p p e (λ path other. refl) ([], says_none p, output_shut refl refl)

-- the same error of another type of answers
pub err_as : {T U E : Type 0} (x y : E) → IsErrOf {T = T} (Err x) y → IsErrOf {T = U} (Err x) y
err_as x y e = let same : x ≡ y = cc in ap (λ z. Err z) same
