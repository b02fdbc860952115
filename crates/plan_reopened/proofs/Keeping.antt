-- What disks leave that come back as they were kept.
use Rattle.std.specs.Prelude.{◌≡◌, ℕ, suc, ◌-◌, Bool, true, false, IsTrue, List, [], ◌∷◌, ◌++◌, length, map, take, replicate, refl, Option, Some, None}
use Rattle.std.proofs.Common.{inl, inr, sym, ◌∙◌, ap, subst, append-nil, arith}
use Rattle.vd_disk.specs.Disk.{DiskSeen, Sectors, WhenTold, told_longer, zeros}
use Rattle.plan_types.specs.declared.store.StorePlan.{StorePlan}
use Rattle.vd_yard.specs.Hands.{Longer}
use Rattle.vd_yard.specs.Kept.{Kept, kept_at, keep_at, keep_at_either, keep_at_other, keep_at_untold}
use Rattle.vd_yard.specs.Out.{AtDisk, Out, one_more}
use Rattle.vd_yard.specs.Yard.{GivesBack, YardSeen, Tells}
use Rattle.still_store.specs.Frame.{JournalsStay}
use Rattle.plan_journals.specs.Closing.{AreJournalsApart}
use Rattle.plan_journals.specs.Growth.{IsNoneOf, LeavesRest}
use Rattle.plan_journals.specs.Open.{FitsTogether, IsHanded, out_besides}
use Rattle.plan_journals.proofs.Closings.{apart_rest, out_in_any_order}
use Rattle.plan_journals.proofs.Places.{place_later}
use Rattle.plan_reopened.specs.Kept.{AreStillKept, keep_all}

-- ---- a disk as it is kept
told_same : (told : Option Sectors) (size : ℕ) → WhenTold told (λ s. length s ≡ size) → told ≡ told_longer size told
told_same None size as_many = refl
told_same (Some s) size as_many =
    let same = as_many s refl in
    let none : size - length s ≡ 0 = omega (arith, same) in
    ap (λ (x : Sectors). Some x) (sym (ap (λ k. s ++ replicate k zeros) none ∙ append-nil s))

as_it_is : (disk : DiskSeen) → FitsTogether disk → Longer disk disk
as_it_is disk fits = record {
  sectors = omega arith;
  reads = told_same disk.told disk.sectors (λ s told. (fits.tale s told).as_many);
  faults = refl;
  sure = refl;
  moments = inl refl;
}

-- A disk that is as it is kept is one that was handed out.
pub handed_as_kept : (kept : Option DiskSeen) (disk : DiskSeen) → kept ≡ Some disk → FitsTogether disk → IsHanded kept disk
handed_as_kept kept disk e fits = subst (λ (o : Option DiskSeen). IsHanded o disk) (sym e) (record { hands = as_it_is disk fits; fits = fits })

-- It is the kept one, where one is kept.
pub is_kept : (kept : Option DiskSeen) (disk : DiskSeen) → ((other : DiskSeen) → kept ≡ Some other → disk ≡ other) → (kept ≡ None → ⊥) → kept ≡ Some disk
is_kept None disk same some = absurd (some refl)
is_kept (Some other) disk same some = ap (λ (d : DiskSeen). Some d) (sym (same other refl))

one_same : (kept : Kept DiskSeen) (path : List ℕ) (disk : DiskSeen) (q : List ℕ) → kept_at kept path ≡ Some disk → kept_at (keep_at true kept path disk) q ≡ kept_at kept q
one_same kept path disk q is = elim (keep_at_either true kept path disk q) [
  | inl here ↦ here.1 ∙ (sym is ∙ ap (λ p. kept_at kept p) (sym here.0))
  | inr other ↦ other
]

either_same : (tells : Bool) (kept : Kept DiskSeen) (path : List ℕ) (disk : DiskSeen) (q : List ℕ) → (IsTrue tells → kept_at kept path ≡ Some disk) → kept_at (keep_at tells kept path disk) q ≡ kept_at kept q
either_same true kept path disk q is = one_same kept path disk q (is refl)
either_same false kept path disk q is = ap (λ (k : Kept DiskSeen). kept_at k q) (keep_at_untold kept path disk)

-- One that comes back as it is kept changes nothing.
pub back_same : (tells : Bool) (old new : Kept DiskSeen) (path : List ℕ) (disk : DiskSeen) → new ≡ keep_at tells old path disk → (IsTrue tells → kept_at old path ≡ Some disk) → (q : List ℕ) → kept_at new q ≡ kept_at old q
back_same tells old new path disk e is q = ap (λ (k : Kept DiskSeen). kept_at k q) e ∙ either_same tells old path disk q is

pub back_else : (tells : Bool) (old new : Kept DiskSeen) (path : List ℕ) (disk : DiskSeen) → new ≡ keep_at tells old path disk → (q : List ℕ) → (q ≡ path → ⊥) → kept_at new q ≡ kept_at old q
back_else tells old new path disk e q other = ap (λ (k : Kept DiskSeen). kept_at k q) e ∙ keep_at_other tells old path disk q other

pub leaves_given : (kind : _) (a b : YardSeen) (path : List ℕ) → GivesBack kind path a b → b.counts ≡ a.counts → b.contents ≡ a.contents → LeavesRest a b
leaves_given kind a b path back counts contents = record {
  tells = back.tells;
  later = let same = back.faults in omega (arith, same);
  counts = counts;
  contents = contents;
  willing = back.willing;
  files = back.files;
}

-- ---- all of them
untold_all : (kept : Kept DiskSeen) (stores : List StorePlan) (disks : List DiskSeen) → keep_all false kept stores disks ≡ kept
untold_all kept [] disks = refl
untold_all kept (store ∷ stores) [] = refl
untold_all kept (store ∷ stores) (disk ∷ disks) = untold_all (keep_at false kept store.journal disk) stores disks ∙ keep_at_untold kept store.journal disk

pub still_as : (old new : Kept DiskSeen) (stores : List StorePlan) (disks : List DiskSeen) → ((path : List ℕ) → kept_at new path ≡ kept_at old path) → AreStillKept old stores disks → AreStillKept new stores disks
still_as old new stores [] same kept = tt
still_as old new [] (disk ∷ disks) same kept = absurd kept
still_as old new (store ∷ stores) (disk ∷ disks) same kept = (same store.journal ∙ kept.0, still_as old new stores disks same kept.1)

told_all : (kept : Kept DiskSeen) (stores : List StorePlan) (disks : List DiskSeen) (path : List ℕ) → AreStillKept kept stores disks → kept_at (keep_all true kept stores disks) path ≡ kept_at kept path
told_all kept [] disks path is = refl
told_all kept (store ∷ stores) [] path is = refl
told_all kept (store ∷ stores) (disk ∷ disks) path is =
    let mid = keep_at true kept store.journal disk in
    told_all mid stores disks path (still_as kept mid stores disks (λ q. one_same kept store.journal disk q is.0) is.1) ∙ one_same kept store.journal disk path is.0

either_all : (tells : Bool) (kept : Kept DiskSeen) (stores : List StorePlan) (disks : List DiskSeen) (path : List ℕ) → (IsTrue tells → AreStillKept kept stores disks) → kept_at (keep_all tells kept stores disks) path ≡ kept_at kept path
either_all true kept stores disks path is = told_all kept stores disks path (is refl)
either_all false kept stores disks path is = ap (λ (k : Kept DiskSeen). kept_at k path) (untold_all kept stores disks)

pub all_same : (tells : Bool) (old new : Kept DiskSeen) (stores : List StorePlan) (disks : List DiskSeen) → new ≡ keep_all tells old stores disks → (IsTrue tells → AreStillKept old stores disks) → (path : List ℕ) → kept_at new path ≡ kept_at old path
all_same tells old new stores disks e is path = ap (λ (k : Kept DiskSeen). kept_at k path) e ∙ either_all tells old stores disks path is

others_all : (tells : Bool) (kept : Kept DiskSeen) (stores : List StorePlan) (disks : List DiskSeen) (path : List ℕ) → IsNoneOf path (take (length disks) stores) → kept_at (keep_all tells kept stores disks) path ≡ kept_at kept path
others_all tells kept [] disks path others = refl
others_all tells kept (store ∷ stores) [] path others = refl
others_all tells kept (store ∷ stores) (disk ∷ disks) path others =
    others_all tells (keep_at tells kept store.journal disk) stores disks path (λ place other is. others (suc place) other (place_later store other (take (length disks) stores) place is))
    ∙ keep_at_other tells kept store.journal disk path (others 0 store refl)

pub all_others : {A : Type 0} (seen : A → DiskSeen) (xs : List A) (tells : Bool) (old new : Kept DiskSeen) (stores : List StorePlan) → length (map seen xs) ≡ length xs → new ≡ keep_all tells old stores (map seen xs) → (path : List ℕ) → IsNoneOf path (take (length xs) stores)
    → kept_at new path ≡ kept_at old path
all_others seen xs tells old new stores many e path others =
    ap (λ (k : Kept DiskSeen). kept_at k path) e ∙ others_all tells old stores (map seen xs) path (subst (λ n. IsNoneOf path (take n stores)) (sym many) others)

none_all : (tells : Bool) (kept : Kept DiskSeen) (stores : List StorePlan) → kept ≡ keep_all tells kept stores []
none_all tells kept [] = refl
none_all tells kept (store ∷ stores) = refl

pub keep_none : (tells : Bool) (kept : Kept DiskSeen) (stores : List StorePlan) (disks : List DiskSeen) → disks ≡ [] → kept ≡ keep_all tells kept stores disks
keep_none tells kept stores disks e = none_all tells kept stores ∙ ap (keep_all tells kept stores) (sym e)

pub keep_more : (s t : Tells) (old mid new : Kept DiskSeen) (stores : List StorePlan) (store : StorePlan) (rest : List StorePlan) (disks : List DiskSeen) (disk : DiskSeen) (more : List DiskSeen) → stores ≡ store ∷ rest → disks ≡ disk ∷ more → t ≡ s
    → mid ≡ keep_at s.keeps_disks old store.journal disk → new ≡ keep_all t.keeps_disks mid rest more → new ≡ keep_all s.keeps_disks old stores disks
keep_more s t old mid new stores store rest disks disk more e f told m n =
    n ∙ ap (λ (x : Tells). keep_all x.keeps_disks mid rest more) told ∙ ap (λ (k : Kept DiskSeen). keep_all s.keeps_disks k rest more) m
    ∙ ap (λ (d : List DiskSeen). keep_all s.keeps_disks old (store ∷ rest) d) (sym f) ∙ ap (λ (x : List StorePlan). keep_all s.keeps_disks old x disks) (sym e)

-- ---- journals that are apart
pub apart_more : (stores : List StorePlan) (store : StorePlan) (rest : List StorePlan) → stores ≡ store ∷ rest → AreJournalsApart stores → AreJournalsApart rest
apart_more stores store rest e apart = apart_rest store rest (subst AreJournalsApart e apart)

-- ---- what stays where each path keeps what it had
pub stay_at : (old new : Kept DiskSeen) → ((path : List ℕ) → kept_at new path ≡ kept_at old path) → JournalsStay old new
stay_at old new same = record {
  each = λ path disk is. (disk, same path ∙ is, record { same = refl; later = omega arith });
  none = λ path is. same path ∙ is;
}

pub stay_on : (a b c : Kept DiskSeen) → JournalsStay a b → ((path : List ℕ) → kept_at c path ≡ kept_at b path) → JournalsStay a c
stay_on a b c stays same = record {
  each = λ path disk is. let one = stays.each path disk is in (one.0, same path ∙ one.1, one.2);
  none = λ path is. same path ∙ stays.none path is;
}

-- ---- what is out
pub out_swap : (out : Out) (first rest : List StorePlan) → out_besides (out_besides out rest) first ≡ out_besides (out_besides out first) rest
out_swap out [] rest = refl
out_swap out (store ∷ first) rest = ap (λ (o : Out). out_besides o first) (sym (out_in_any_order out AtDisk store.journal rest)) ∙ out_swap (one_more out AtDisk store.journal) first rest
