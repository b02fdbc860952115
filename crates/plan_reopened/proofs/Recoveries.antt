-- From one journal that is recovered to all.
use Rattle.std.proofs.Common.{◌≡◌, ◌≤◌, ℕ, zero, suc, IsTrue, List, [], ◌∷◌, ◌++◌, length, map, take, refl, sym, ◌∙◌, ap, subst, append_assoc, append-nil, inl, inr, ◌⊎◌, arith, Result, Ok, Err}
use Rattle.std.specs.Prelude.{Some, None, slice_get, OnOk, IfErr}
use Rattle.std.proofs.lemmas.List.{length-map, length-take-le, map-append}
use Rattle.std.proofs.lemmas.Option.{slice_get_within}
use Rattle.vd_outside.specs.Causes.{Rose}
use Rattle.vd_disk.specs.Disk.{DiskSeen, WhenTold}
use Rattle.vd_yard.specs.Kept.{Kept, kept_at, keep_at, keep_at_only}
use Rattle.vd_yard.specs.Out.{AtDisk, Out, one_more}
use Rattle.vd_yard.specs.Yard.{YardSeen, Tells}
use Rattle.plan_types.specs.declared.store.StorePlan.{StorePlan}
use Rattle.journal_recover.specs.Answers.{Answers, IsUsable}
use Rattle.journal_recover.specs.declared.found.Recovered.{Recovered}
use Rattle.journal_recover.specs.declared.fault.RecoverFault.{RecoverFault}
use Rattle.run_report.specs.declared.status.Status.{Status}
use Rattle.run_report.specs.declared.status.Status.TheVariants as status
use Rattle.run_report.specs.Says.{Printing, Says, says_then, says_along, says_none}
use Rattle.still_store.specs.Frame.{JournalsStay}
use Rattle.still_store.specs.Recovery.{JournalRefused, journal_missing, journal_refused}
use Rattle.still_plan.specs.Journals.{AllRecover, JournalStop, unopened, unrecovered, memory_out, behind_line, output_shut, JournalsStop, at_journal, RecoversTo, StopsBy, journals_text, recovered_text}
use Rattle.still_plan.proofs.Places.{place_later, place_before, place_first}
use Rattle.plan_journals.specs.Closing.{AreJournalsApart}
use Rattle.plan_journals.specs.Growth.{LeavesRest}
use Rattle.plan_journals.specs.Open.{FitsTogether, out_besides}
use Rattle.plan_reopened.specs.Kept.{AreStillKept}
use Rattle.plan_reopened.specs.Recovering.{AllRecovered, AreRecovered, IsRecovered, RecoveringEnds}
use Rattle.plan_journals.proofs.Closings.{apart_first, apart_rest}
use Rattle.plan_reopened.proofs.Keeping.{back_same, is_kept}

-- ---- one journal
-- a disk that was read without a fault is as it was handed out
pub read_same : (handed now : DiskSeen) → now ≡ record handed { faults = now.faults } → now.faults ≡ handed.faults → now ≡ handed
read_same handed now same quiet = same ∙ ap (λ f. record handed { faults = f }) quiet

pub read_rose : (told was : Tells) (mid old new : Kept DiskSeen) (path : List ℕ) (handed left : DiskSeen) → told ≡ was → new ≡ keep_at told.keeps_disks mid path left → IsTrue was.keeps_disks → ((disk : DiskSeen) → kept_at old path ≡ Some disk → handed ≡ disk) → Rose handed.faults left.faults
    → (disk now : DiskSeen) → kept_at old path ≡ Some disk → kept_at new path ≡ Some now → Rose disk.faults now.faults
read_rose told was mid old new path handed left t e keeps same rose disk now kept is =
    let tells : IsTrue told.keeps_disks = subst (λ (x : Tells). IsTrue x.keeps_disks) (sym t) keeps in
    let its : now ≡ left = keep_at_only told.keeps_disks mid path left now tells (ap (λ (k : Kept DiskSeen). kept_at k path) (sym e) ∙ is) in
    subst (λ (d : DiskSeen). Rose d.faults now.faults) (same disk kept) (subst (λ (d : DiskSeen). Rose handed.faults d.faults) (sym its) rose)

pub found_so : (a : YardSeen) (store : StorePlan) (handed now : DiskSeen) (found : Recovered) → ((other : DiskSeen) → kept_at a.disks store.journal ≡ Some other → handed ≡ other) → (IsTrue a.tells.keeps_disks → kept_at a.disks store.journal ≡ None → ⊥)
    → now ≡ record handed { faults = now.faults } → now.faults ≡ handed.faults → WhenTold handed.told (λ sectors. Answers sectors store.id (Ok found)) → IsUsable store.id now.sectors found → FitsTogether now → IsRecovered a store now found
found_so a store handed now found told some same quiet answers usable fits =
    let is = read_same handed now same quiet in record {
      recovers = record {
        gives = λ disk kept sectors t. answers sectors (ap (λ (d : DiskSeen). d.told) (told disk kept) ∙ t);
        there = some;
        usable = (now.sectors, usable);
        fit = record { one_each = usable.one_each; valid = usable.valid };
      };
      kept = λ t. is_kept (kept_at a.disks store.journal) now (λ other e. is ∙ told other e) (some t);
      answers = λ sectors t. answers sectors (ap (λ (d : DiskSeen). d.told) (sym is) ∙ t);
      usable = usable;
      fits = fits;
    }

-- ---- a yard from which disks were taken
pub record IsAfter (a b : YardSeen) : Type 0 where
  pub disks : b.disks ≡ a.disks
  pub faults : b.faults ≡ a.faults
  pub rest : LeavesRest a b

after_told : (a b : YardSeen) → IsAfter a b → IsTrue a.tells.keeps_disks → IsTrue b.tells.keeps_disks
after_told a b l told = subst (λ (t : Tells). IsTrue t.keeps_disks) (sym l.rest.tells) told

at_path : (a b : YardSeen) → IsAfter a b → (path : List ℕ) → kept_at b.disks path ≡ kept_at a.disks path
at_path a b l path = ap (λ (k : Kept DiskSeen). kept_at k path) l.disks

-- A disk that was recovered and comes back changes nothing.
pub recovered_back : (a b : YardSeen) (new : Kept DiskSeen) (store : StorePlan) (disk : DiskSeen) (found : Recovered) → LeavesRest a b → b.disks ≡ a.disks → IsRecovered a store disk found → new ≡ keep_at b.tells.keeps_disks b.disks store.journal disk → (path : List ℕ) → kept_at new path ≡ kept_at a.disks path
recovered_back a b new store disk found rest same its back path =
    back_same b.tells.keeps_disks b.disks new store.journal disk back
    (λ told. ap (λ (k : Kept DiskSeen). kept_at k store.journal) same ∙ its.kept (subst (λ (t : Tells). IsTrue t.keeps_disks) rest.tells told)) path
    ∙ ap (λ (k : Kept DiskSeen). kept_at k path) same

recovers_earlier : (a b : YardSeen) (store : StorePlan) (found : Recovered) → IsAfter a b → RecoversTo b store found → RecoversTo a store found
recovers_earlier a b store found l p = record {
  gives = λ disk kept. p.gives disk (at_path a b l store.journal ∙ kept);
  there = λ told none. p.there (after_told a b l told) (at_path a b l store.journal ∙ none);
  usable = p.usable;
  fit = p.fit;
}

is_recovered_earlier : (a b : YardSeen) (store : StorePlan) (disk : DiskSeen) (found : Recovered) → IsAfter a b → IsRecovered b store disk found → IsRecovered a store disk found
is_recovered_earlier a b store disk found l p = record {
  recovers = recovers_earlier a b store found l p.recovers;
  kept = λ told. sym (at_path a b l store.journal) ∙ p.kept (after_told a b l told);
  answers = p.answers;
  usable = p.usable;
  fits = p.fits;
}

are_recovered_earlier : (a b : YardSeen) (stores : List StorePlan) (disks : List DiskSeen) (found : List Recovered) → IsAfter a b → AreRecovered b stores disks found → AreRecovered a stores disks found
are_recovered_earlier a b [] [] [] l p = tt
are_recovered_earlier a b [] [] (f ∷ found) l p = absurd p
are_recovered_earlier a b [] (d ∷ disks) found l p = absurd p
are_recovered_earlier a b (store ∷ stores) [] found l p = absurd p
are_recovered_earlier a b (store ∷ stores) (d ∷ disks) [] l p = absurd p
are_recovered_earlier a b (store ∷ stores) (d ∷ disks) (f ∷ found) l p = (is_recovered_earlier a b store d f l p.0, are_recovered_earlier a b stores disks found l p.1)

pub all_recover : (a : YardSeen) (stores : List StorePlan) (disks : List DiskSeen) (found : List Recovered) → AreRecovered a stores disks found → AllRecover a stores found
all_recover a [] [] [] p = tt
all_recover a [] [] (f ∷ found) p = absurd p
all_recover a [] (d ∷ disks) found p = absurd p
all_recover a (store ∷ stores) [] found p = absurd p
all_recover a (store ∷ stores) (d ∷ disks) [] p = absurd p
all_recover a (store ∷ stores) (d ∷ disks) (f ∷ found) p = (p.0.recovers, all_recover a stores disks found p.1)

pub as_many : (a : YardSeen) (stores : List StorePlan) (disks : List DiskSeen) (found : List Recovered) → AreRecovered a stores disks found → length disks ≡ length stores
as_many a [] [] [] p = refl
as_many a [] [] (f ∷ found) p = absurd p
as_many a [] (d ∷ disks) found p = absurd p
as_many a (store ∷ stores) [] found p = absurd p
as_many a (store ∷ stores) (d ∷ disks) [] p = absurd p
as_many a (store ∷ stores) (d ∷ disks) (f ∷ found) p = ap suc (as_many a stores disks found p.1)

stops_by_earlier : (a b c : YardSeen) (store : StorePlan) (fault : RecoverFault) → IsAfter a b → StopsBy b c store fault → StopsBy a c store fault
stops_by_earlier a b c store fault l p = record {
  gives = λ disk kept. p.gives disk (at_path a b l store.journal ∙ kept);
  there = λ told none. p.there (after_told a b l told) (at_path a b l store.journal ∙ none);
  rose = λ e told disk now kept is. p.rose e (after_told a b l told) disk now (at_path a b l store.journal ∙ kept) is;
  unsure = λ e disk kept. p.unsure e disk (at_path a b l store.journal ∙ kept);
}

rose_from : (a b c : ℕ) → b ≡ a → Rose b c → Rose a c
rose_from a b c e r = subst (λ (n : ℕ). Rose n c) e r

rose_to : (a b c : ℕ) → c ≡ b → Rose a b → Rose a c
rose_to a b c e r = subst (λ (n : ℕ). Rose a n) (sym e) r

stop_earlier : (a b c : YardSeen) (store : StorePlan) (text : List ℕ) (result : Status) → IsAfter a b → JournalStop b c store text result → JournalStop a c store text result
stop_earlier a b c store text result l (unopened r w t s) = unopened (rose_from a.faults b.faults c.faults l.faults r) (λ x y. w (l.rest.willing x) (l.rest.files AtDisk store.journal y)) t s
stop_earlier a b c store text result l (unrecovered fault p t s) = unrecovered fault (stops_by_earlier a b c store fault l p) t s
stop_earlier a b c store text result l (memory_out t s) = memory_out t s
stop_earlier a b c store text result l (output_shut t s) = output_shut t s
stop_earlier a b c store text result l (behind_line found p t s) = behind_line found (recovers_earlier a b store found l p) t s

-- the same stop where later nothing but disks as they were kept came back
stop_later : (a b c : YardSeen) (store : StorePlan) (text : List ℕ) (result : Status) → c.faults ≡ b.faults → ((path : List ℕ) → kept_at c.disks path ≡ kept_at b.disks path) → JournalStop a b store text result → JournalStop a c store text result
stop_later a b c store text result f same (unopened r w t s) = unopened (rose_to a.faults b.faults c.faults f r) w t s
stop_later a b c store text result f same (unrecovered fault p t s) =
    unrecovered fault (record {
      gives = p.gives;
      there = p.there;
      rose = λ e told disk now kept is. p.rose e told disk now kept (sym (same store.journal) ∙ is);
      unsure = p.unsure;
    }) t s
stop_later a b c store text result f same (memory_out t s) = memory_out t s
stop_later a b c store text result f same (output_shut t s) = output_shut t s
stop_later a b c store text result f same (behind_line found p t s) = behind_line found p t s

-- ---- one journal in front of others
pub recovered_none : (a : YardSeen) (stores : List StorePlan) (held : List DiskSeen) (before : List Recovered) (p : Printing) → stores ≡ [] → AllRecovered a a stores held held before before p p
recovered_none a stores held before p e = subst (λ (s : List StorePlan). AllRecovered a a s held held before before p p) (sym e) (record {
  more = [];
  gave = [];
  disks = sym (append-nil held);
  gives = sym (append-nil before);
  each = tt;
  out = refl;
  same = refl;
  faults = refl;
  said = says_none p;
})

-- what is known of one that was recovered
pub record OneRecovered (a b : YardSeen) (store : StorePlan) (disk : DiskSeen) (found : Recovered) (p q : Printing) : Type 0 where
  pub after : IsAfter a b
  pub its : IsRecovered a store disk found
  pub out : b.out ≡ one_more a.out AtDisk store.journal
  pub said : Says p q (recovered_text store found)

recovered_there : (a b c : YardSeen) (store : StorePlan) (rest : List StorePlan) (disk : DiskSeen) (one : Recovered) (held mid now : List DiskSeen) (before between found : List Recovered) (p q r : Printing) → OneRecovered a b store disk one p q → mid ≡ held ++ disk ∷ []
    → between ≡ before ++ one ∷ [] → AllRecovered b c rest mid now between found q r → AllRecovered a c (store ∷ rest) held now before found p r
recovered_there a b c store rest disk one held mid now before between found p q r o d f all = record {
  more = disk ∷ all.more;
  gave = one ∷ all.gave;
  disks = all.disks ∙ ap (λ (h : List DiskSeen). h ++ all.more) d ∙ append_assoc held (disk ∷ []) all.more;
  gives = all.gives ∙ ap (λ (h : List Recovered). h ++ all.gave) f ∙ append_assoc before (one ∷ []) all.gave;
  each = (o.its, are_recovered_earlier a b rest all.more all.gave o.after all.each);
  out = all.out ∙ ap (λ (x : Out). out_besides x rest) o.out;
  same = all.same ∙ o.after.disks;
  faults = all.faults ∙ o.after.faults;
  said = says_then p q r _ _ o.said all.said;
}

pub recovered_more : {T E : Type 0} (result : Result T E) (a b c : YardSeen) (stores : List StorePlan) (store : StorePlan) (rest : List StorePlan) (disk : DiskSeen) (one : Recovered) (held mid now : List DiskSeen) (before between found : List Recovered) (p q r : Printing) → stores ≡ store ∷ rest
    → OneRecovered a b store disk one p q → mid ≡ held ++ disk ∷ [] → between ≡ before ++ one ∷ [] → OnOk result (AllRecovered b c rest mid now between found q r) → OnOk result (AllRecovered a c stores held now before found p r)
recovered_more (Err f) a b c stores store rest disk one held mid now before between found p q r e o d g all = tt
recovered_more (Ok v) a b c stores store rest disk one held mid now before between found p q r e o d g all =
    subst (λ (s : List StorePlan). AllRecovered a c s held now before found p r) (sym e) (recovered_there a b c store rest disk one held mid now before between found p q r o d g all)

ends_here : (a c : YardSeen) (store : StorePlan) (rest : List StorePlan) (held now : List DiskSeen) (p q : Printing) (result : Status) → now ≡ held → c.out ≡ a.out → ((path : List ℕ) → (path ≡ store.journal → ⊥) → kept_at c.disks path ≡ kept_at a.disks path)
    → (text : List ℕ) × Says p q text × JournalStop a c store text result → RecoveringEnds a c (store ∷ rest) held now p q result
ends_here a c store rest held now p q result d o others v = record {
  place = 0;
  store = store;
  there = refl;
  more = [];
  gave = [];
  disks = d ∙ sym (append-nil held);
  each = tt;
  out = o;
  text = v.0;
  stop = v.2;
  others = others;
  said = v.1;
}

pub ends_first : (a c : YardSeen) (stores : List StorePlan) (store : StorePlan) (rest : List StorePlan) (held now : List DiskSeen) (p q : Printing) (result : Status) → stores ≡ store ∷ rest → now ≡ held → c.out ≡ a.out
    → ((path : List ℕ) → (path ≡ store.journal → ⊥) → kept_at c.disks path ≡ kept_at a.disks path) → (text : List ℕ) × Says p q text × JournalStop a c store text result → RecoveringEnds a c stores held now p q result
ends_first a c stores store rest held now p q result e d o others v = subst (λ (s : List StorePlan). RecoveringEnds a c s held now p q result) (sym e) (ends_here a c store rest held now p q result d o others v)

-- It stops before the first is opened.
pub ends_before : (a : YardSeen) (stores : List StorePlan) (store : StorePlan) (rest : List StorePlan) (held now : List DiskSeen) (p : Printing) (result : Status) → stores ≡ store ∷ rest → now ≡ held → (result ≡ status.Sink) ⊎ (result ≡ status.NoMemory) → RecoveringEnds a a stores held now p p result
ends_before a stores store rest held now p result e d (inl is) = ends_first a a stores store rest held now p p result e d refl (λ path other. refl) ([], says_none p, output_shut refl is)
ends_before a stores store rest held now p result e d (inr is) = ends_first a a stores store rest held now p p result e d refl (λ path other. refl) ([], says_none p, memory_out refl is)

ends_there : (a b c : YardSeen) (store : StorePlan) (rest : List StorePlan) (disk : DiskSeen) (one : Recovered) (held mid now : List DiskSeen) (p q r : Printing) (result : Status) → OneRecovered a b store disk one p q → mid ≡ held ++ disk ∷ []
    → RecoveringEnds b c rest mid now q r result → RecoveringEnds a c (store ∷ rest) held now p r result
ends_there a b c store rest disk one held mid now p q r result o d s = record {
  place = suc s.place;
  store = s.store;
  there = place_later store s.store rest s.place s.there;
  more = disk ∷ s.more;
  gave = one ∷ s.gave;
  disks = s.disks ∙ ap (λ (h : List DiskSeen). h ++ s.more) d ∙ append_assoc held (disk ∷ []) s.more;
  each = (o.its, are_recovered_earlier a b (take s.place rest) s.more s.gave o.after s.each);
  out = s.out ∙ ap (λ (x : Out). out_besides x (take s.place rest)) o.out;
  text = s.text;
  stop = stop_earlier a b c s.store s.text result o.after s.stop;
  others = λ path other. s.others path other ∙ at_path a b o.after path;
  said = says_along p r _ _ (sym (append_assoc (recovered_text store one) (journals_text (take s.place rest) s.gave) s.text)) (says_then p q r (recovered_text store one) (journals_text (take s.place rest) s.gave ++ s.text) o.said s.said);
}

pub ends_more : {T : Type 0} (result : Result T Status) (a b c : YardSeen) (stores : List StorePlan) (store : StorePlan) (rest : List StorePlan) (disk : DiskSeen) (one : Recovered) (held mid now : List DiskSeen) (p q r : Printing) → stores ≡ store ∷ rest
    → OneRecovered a b store disk one p q → mid ≡ held ++ disk ∷ [] → IfErr result (λ (s : Status). RecoveringEnds b c rest mid now q r s) → IfErr result (λ (s : Status). RecoveringEnds a c stores held now p r s)
ends_more (Ok v) a b c stores store rest disk one held mid now p q r e o d s = tt
ends_more (Err f) a b c stores store rest disk one held mid now p q r e o d s = subst (λ (x : List StorePlan). RecoveringEnds a c x held now p r f) (sym e) (ends_there a b c store rest disk one held mid now p q r f o d s)

pub stays_on : (a b : Kept DiskSeen) (c : Kept DiskSeen) → b ≡ a → JournalsStay b c → JournalsStay a c
stays_on a b c e s = subst (λ (k : Kept DiskSeen). JournalsStay k c) e s

refused_later : (a b : YardSeen) (store : StorePlan) → IsAfter a b → JournalRefused a store → JournalRefused b store
refused_later a b store l (journal_missing told none) = journal_missing (after_told a b l told) (at_path a b l store.journal ∙ none)
refused_later a b store l (journal_refused disk sectors outcome kept told gives bad) = journal_refused disk sectors outcome (at_path a b l store.journal ∙ kept) told gives bad

refused_there : (a b : YardSeen) (first : StorePlan) (stores : List StorePlan) (n : ℕ) (store : StorePlan) → IsAfter a b → slice_get (first ∷ stores) n ≡ Some store → JournalRefused a store
    → JournalRefused a first ⊎ ((m : ℕ) × (slice_get stores m ≡ Some store) × JournalRefused b store)
refused_there a b first stores zero store l is p = inl (subst (JournalRefused a) (sym (place_first first store stores is)) p)
refused_there a b first stores (suc n) store l is p = inr (n, place_before first store stores n is, refused_later a b store l p)

pub refused_more : (P : Type 0) (a b : YardSeen) (stores : List StorePlan) (first : StorePlan) (rest : List StorePlan) (n : ℕ) (store : StorePlan) → IsAfter a b → stores ≡ first ∷ rest → slice_get stores n ≡ Some store → JournalRefused a store
    → (JournalRefused a first → ⊥) → ((m : ℕ) (s : StorePlan) → slice_get rest m ≡ Some s → JournalRefused b s → P) → P
refused_more P a b stores first rest n store l e is p never others =
    elim (refused_there a b first rest n store l (ap (λ (x : List StorePlan). slice_get x n) (sym e) ∙ is) p) [
      | inl here ↦ absurd (never here)
      | inr there ↦ others there.0 store there.1 there.2
    ]

pub one_more_disk : {A B : Type 0} (seen : A → B) (was mid now : List A) (one : A) → mid ≡ was → now ≡ mid ++ one ∷ [] → map seen now ≡ map seen was ++ seen one ∷ []
one_more_disk seen was mid now one e f = ap (map seen) (f ∙ ap (λ xs. xs ++ one ∷ []) e) ∙ map-append seen was (one ∷ [])

pub one_more_item : {A : Type 0} (was mid now : List A) (one : A) → mid ≡ was → now ≡ mid ++ one ∷ [] → now ≡ was ++ one ∷ []
one_more_item was mid now one e f = f ∙ ap (λ xs. xs ++ one ∷ []) e

-- ---- all of them, from no disk at hand
none_seen : {A B : Type 0} (seen : A → B) (was : List A) → was ≡ [] → map seen was ≡ []
none_seen seen was e = ap (map seen) e

recovered_all : (a b : YardSeen) (stores : List StorePlan) (held now : List DiskSeen) (before found : List Recovered) (p q : Printing) → held ≡ [] → before ≡ [] → AllRecovered a b stores held now before found p q → AreRecovered a stores now found × Says p q (journals_text stores found)
recovered_all a b stores held now before found p q h g all =
    let disks : now ≡ all.more = all.disks ∙ ap (λ (x : List DiskSeen). x ++ all.more) h in
    let gives : found ≡ all.gave = all.gives ∙ ap (λ (x : List Recovered). x ++ all.gave) g in (
      subst (λ (x : List DiskSeen). AreRecovered a stores x found) (sym disks) (subst (AreRecovered a stores all.more) (sym gives) all.each),
      says_along p q _ _ (ap (journals_text stores) (sym gives)) all.said,
    )

pub all_recovered : {A : Type 0} (seen : A → DiskSeen) (a b : YardSeen) (stores : List StorePlan) (was now : List A) (before found : List Recovered) (p q : Printing) → was ≡ [] → before ≡ [] → AllRecovered a b stores (map seen was) (map seen now) before found p q
    → AreRecovered a stores (map seen now) found × Says p q (journals_text stores found)
all_recovered seen a b stores was now before found p q h g all = recovered_all a b stores (map seen was) (map seen now) before found p q (none_seen seen was h) g all

-- where it stopped: so many disks are at hand
pub many_taken : (a : YardSeen) (stores : List StorePlan) (store : StorePlan) (place : ℕ) (disks : List DiskSeen) (found : List Recovered) → slice_get stores place ≡ Some store → AreRecovered a (take place stores) disks found → (length disks ≡ place) × (length disks ≤ length stores)
many_taken a stores store place disks found there each =
    let within = slice_get_within stores place store there in
    let many = as_many a (take place stores) disks found each in
    let front = length-take-le place stores (omega (arith, within)) in
    (omega (arith, many, front), omega (arith, many, front, within))

-- What is known of the disks at hand, where none was there before.
pub record Held (a b : YardSeen) (stores : List StorePlan) (disks : List DiskSeen) : Type 0 where
  pub few : length disks ≤ length stores
  pub out : b.out ≡ out_besides a.out (take (length disks) stores)
  pub kept : IsTrue a.tells.keeps_disks → AreStillKept b.disks stores disks

still_kept : (a b : YardSeen) (stores : List StorePlan) (store : StorePlan) (place : ℕ) (disks : List DiskSeen) (found : List Recovered) → AreJournalsApart stores → slice_get stores place ≡ Some store → ((path : List ℕ) → (path ≡ store.journal → ⊥) → kept_at b.disks path ≡ kept_at a.disks path)
    → IsTrue a.tells.keeps_disks → AreRecovered a (take place stores) disks found → AreStillKept b.disks stores disks
still_kept a b [] store place disks found apart there others told each = let far = slice_get_within {A = StorePlan} [] place store there in absurd (omega (arith, far))
still_kept a b (first ∷ stores) store zero [] found apart there others told each = tt
still_kept a b (first ∷ stores) store zero (disk ∷ disks) found apart there others told each = absurd each
still_kept a b (first ∷ stores) store (suc n) [] found apart there others told each = tt
still_kept a b (first ∷ stores) store (suc n) (disk ∷ disks) [] apart there others told each = absurd each
still_kept a b (first ∷ stores) store (suc n) (disk ∷ disks) (one ∷ found) apart there others told each =
    let is = place_before first store stores n there in
    (others first.journal (apart_first first stores apart n store is) ∙ each.0.kept told, still_kept a b stores store n disks found (apart_rest first stores apart) is others told each.1)

pub held_disks : {A : Type 0} (seen : A → DiskSeen) (a b : YardSeen) (stores : List StorePlan) (was now : List A) (p q : Printing) (result : Status) → was ≡ [] → AreJournalsApart stores → RecoveringEnds a b stores (map seen was) (map seen now) p q result → Held a b stores (map seen now)
held_disks seen a b stores was now p q result none apart s =
    let more : map seen now ≡ s.more = s.disks ∙ ap (λ (x : List DiskSeen). x ++ s.more) (none_seen seen was none) in
    let many = many_taken a stores s.store s.place s.more s.gave s.there s.each in
    subst (Held a b stores) (sym more) (record {
      few = many.1;
      out = s.out ∙ ap (λ n. out_besides a.out (take n stores)) (sym many.0);
      kept = λ told. still_kept a b stores s.store s.place s.more s.gave apart s.there s.others told s.each;
    })

pub held_few : {A : Type 0} (seen : A → DiskSeen) (a b : YardSeen) (stores : List StorePlan) (now : List A) → Held a b stores (map seen now) → length now ≤ length stores
held_few seen a b stores now h = let same = length-map now seen in let few = h.few in omega (arith, same, few)

pub held_out : {A : Type 0} (seen : A → DiskSeen) (a b : YardSeen) (stores : List StorePlan) (now : List A) → Held a b stores (map seen now) → b.out ≡ out_besides a.out (take (length now) stores)
held_out seen a b stores now h = h.out ∙ ap (λ n. out_besides a.out (take n stores)) (length-map now seen)

pub all_stop : (a b c : YardSeen) (stores : List StorePlan) (held now : List DiskSeen) (p q : Printing) (result : Status) → c.faults ≡ b.faults → ((path : List ℕ) → kept_at c.disks path ≡ kept_at b.disks path) → RecoveringEnds a b stores held now p q result
    → (text : List ℕ) × Says p q text × JournalsStop a c stores text result
all_stop a b c stores held now p q result f same s = (
  journals_text (take s.place stores) s.gave ++ s.text,
  s.said,
  at_journal s.place s.gave s.store s.text (all_recover a (take s.place stores) s.more s.gave s.each) s.there (stop_later a b c s.store s.text result f same s.stop) (λ path other. same path ∙ s.others path other) refl,
)

pub told_still : (a b : YardSeen) → LeavesRest a b → IsTrue b.tells.keeps_disks → IsTrue a.tells.keeps_disks
told_still a b l told = subst (λ (t : Tells). IsTrue t.keeps_disks) l.tells told
