-- What a disk that comes back leaves of the kept disks.
use Rattle.std.proofs.Common.{◌≡◌, inl, inr, ℕ, zero, suc, Bool, true, false, IsTrue, List, [], ◌∷◌, refl, sym, ◌∙◌, ap, subst, arith}
use Rattle.std.specs.Prelude.{Option, Some, None, slice_get}
use Rattle.std.proofs.lemmas.Option.{slice_get_within}
use Rattle.vd_outside.specs.Causes.{Rose}
use Rattle.vd_disk.specs.Disk.{DiskSeen}
use Rattle.vd_yard.specs.Hands.{HandsOut}
use Rattle.vd_yard.specs.Kept.{Kept, kept_at, keep_at, keep_at_either, keep_at_here, keep_at_other, keep_at_untold}
use Rattle.vd_yard.specs.Yard.{YardSeen, Tells}
use Rattle.plan_types.specs.declared.store.StorePlan.{StorePlan}
use Rattle.plan_journals.specs.Open.{IsHanded, Start, new_start, new_starts}
use Rattle.plan_journals.specs.Growth.{Becomes, DiskRose, HasJournal, IsUnwritten, Journaled, LeavesRest, ChangesOnlyJournals, faults_of, is_journal, stays, was_read}
use Rattle.plan_journals.proofs.Places.{place_later}

-- one of these
abbrev pub IsAmong : List Start → Start → Type 0
IsAmong starts start = (place : ℕ) × (slice_get starts place ≡ Some start)

pub same_grows : (starts : List Start) (old new : Kept DiskSeen) → new ≡ old → ChangesOnlyJournals starts old new
same_grows starts old new e path = stays (ap (λ (k : Kept DiskSeen). kept_at k path) e)

journal_here : (starts : List Start) (first new : Kept DiskSeen) (start : Start) (disk : DiskSeen) (path : List ℕ) → IsAmong starts start → path ≡ start.journal
    → kept_at new path ≡ Some disk → Journaled start (kept_at first start.journal) disk → HasJournal starts first new path
journal_here starts first new start disk path among e kept j = record {
  place = among.0;
  start = start;
  there = among.1;
  its_path = e;
  disk = disk;
  kept = kept;
  journaled = subst (λ (p : List ℕ). Journaled start (kept_at first p) disk) (sym e) j;
}

journal_still : (starts : List Start) (first old new : Kept DiskSeen) (path : List ℕ) → kept_at new path ≡ kept_at old path → HasJournal starts first old path → HasJournal starts first new path
journal_still starts first old new path e j = record {
  place = j.place;
  start = j.start;
  there = j.there;
  its_path = j.its_path;
  disk = j.disk;
  kept = e ∙ j.kept;
  journaled = j.journaled;
}

path_grows : (starts : List Start) (first old new : Kept DiskSeen) (path : List ℕ) → kept_at new path ≡ kept_at old path
    → Becomes starts first old path → Becomes starts first new path
path_grows starts first old new path e (stays same) = stays (e ∙ same)
path_grows starts first old new path e (is_journal j) = is_journal (journal_still starts first old new path e j)
path_grows starts first old new path e (was_read r) = was_read (record { was = r.was; had = r.had; disk = r.disk; kept = e ∙ r.kept; same = r.same; later = r.later })

pub told_grows : (starts : List Start) (first old : Kept DiskSeen) (start : Start) (disk : DiskSeen) → IsAmong starts start → Journaled start (kept_at first start.journal) disk
    → ChangesOnlyJournals starts first old → ChangesOnlyJournals starts first (keep_at true old start.journal disk)
told_grows starts first old start disk among j grown path = elim (keep_at_either true old start.journal disk path) [
  | inl r ↦ is_journal (journal_here starts first (keep_at true old start.journal disk) start disk path among r.0 r.1 j)
  | inr same ↦ path_grows starts first old (keep_at true old start.journal disk) path same (grown path)
]

-- A journal's disk comes back to disks that have only grown.
pub back_grows : (tells : Bool) (starts : List Start) (first old : Kept DiskSeen) (start : Start) (disk : DiskSeen) → IsAmong starts start
    → (IsTrue tells → Journaled start (kept_at first start.journal) disk) → ChangesOnlyJournals starts first old → ChangesOnlyJournals starts first (keep_at tells old start.journal disk)
back_grows true starts first old start disk among j grown = told_grows starts first old start disk among (j refl) grown
back_grows false starts first old start disk among j grown = subst (ChangesOnlyJournals starts first) (sym (keep_at_untold old start.journal disk)) grown

pub one_grows : (tells : Bool) (old new : Kept DiskSeen) (start : Start) (disk : DiskSeen) → new ≡ keep_at tells old start.journal disk
    → (IsTrue tells → Journaled start (kept_at old start.journal) disk) → ChangesOnlyJournals (start ∷ []) old new
one_grows tells old new start disk e j =
    subst (ChangesOnlyJournals (start ∷ []) old) (sym e) (back_grows tells (start ∷ []) old old start disk (0, refl) j (same_grows (start ∷ []) old old refl))

pub back_others : (tells : Bool) (old new : Kept DiskSeen) (path : List ℕ) (disk : DiskSeen) → new ≡ keep_at tells old path disk → (other : List ℕ) → (other ≡ path → ⊥) → kept_at new other ≡ kept_at old other
back_others tells old new path disk e other n = ap (λ (k : Kept DiskSeen). kept_at k other) e ∙ keep_at_other tells old path disk other n

pub handed_faults : (kept : Option DiskSeen) (handed : DiskSeen) → HandsOut kept handed → handed.faults ≡ faults_of kept
handed_faults None handed h = h.faults
handed_faults (Some disk) handed h = h.faults

pub back_rose : (tells : Bool) (old new : Kept DiskSeen) (path : List ℕ) (handed disk : DiskSeen) → new ≡ keep_at tells old path disk → IsTrue tells → IsHanded (kept_at old path) handed → Rose handed.faults disk.faults → DiskRose old new path
back_rose tells old new path handed disk e t h r = record {
  disk = disk;
  kept = ap (λ (k : Kept DiskSeen). kept_at k path) e ∙ keep_at_here tells old path disk t;
  rose = subst (λ (n : ℕ). Rose n disk.faults) (handed_faults (kept_at old path) handed h.hands) r;
}

-- A disk that came back as it was handed out.
pub back_unwritten : (tells : Bool) (old new : Kept DiskSeen) (path : List ℕ) (handed disk : DiskSeen) → new ≡ keep_at tells old path disk → (IsTrue tells → IsHanded (kept_at old path) handed) → disk ≡ handed → IsUnwritten old new path
back_unwritten true old new path handed disk e hands same = inr (record {
  disk = disk;
  hands = subst (IsHanded (kept_at old path)) (sym same) (hands refl);
  kept = ap (λ (k : Kept DiskSeen). kept_at k path) e ∙ keep_at_here true old path disk refl;
})
back_unwritten false old new path handed disk e hands same = inl (e ∙ keep_at_untold old path disk)

-- what a yard keeps once a disk came back, by what it kept before that was handed out
pub kept_back : (told was : Tells) (mid old new : Kept DiskSeen) (path : List ℕ) (disk : DiskSeen) → told ≡ was → mid ≡ old → new ≡ keep_at told.keeps_disks mid path disk → new ≡ keep_at was.keeps_disks old path disk
kept_back told was mid old new path disk t d e =
    e ∙ ap (λ (k : Kept DiskSeen). keep_at told.keeps_disks k path disk) d ∙ ap (λ (x : Tells). keep_at x.keeps_disks old path disk) t

-- ---- of fewer journals, and of those behind the first
journal_among : (starts all : List Start) (old new : Kept DiskSeen) (path : List ℕ) → ((place : ℕ) (start : Start) → slice_get starts place ≡ Some start → IsAmong all start) → HasJournal starts old new path → HasJournal all old new path
journal_among starts all old new path within j = record {
  place = (within j.place j.start j.there).0;
  start = j.start;
  there = (within j.place j.start j.there).1;
  its_path = j.its_path;
  disk = j.disk;
  kept = j.kept;
  journaled = j.journaled;
}

pub path_among : (starts all : List Start) (old new : Kept DiskSeen) (path : List ℕ) → ((place : ℕ) (start : Start) → slice_get starts place ≡ Some start → IsAmong all start)
    → Becomes starts old new path → Becomes all old new path
path_among starts all old new path within (stays same) = stays same
path_among starts all old new path within (is_journal j) = is_journal (journal_among starts all old new path within j)
path_among starts all old new path within (was_read r) = was_read r

pub first_among : (start : Start) (starts : List Start) (place : ℕ) (one : Start) → slice_get (start ∷ []) place ≡ Some one → IsAmong (start ∷ starts) one
first_among start starts zero one is = (0, is)
first_among start starts (suc n) one is =
    let far = slice_get_within (start ∷ []) (suc n) one is in
    absurd (omega (arith, far))

pub first_grows : (logs : ℕ) (stores : List StorePlan) (store : StorePlan) (rest : List StorePlan) (old new : Kept DiskSeen) → stores ≡ store ∷ rest → ChangesOnlyJournals (new_start logs store ∷ []) old new → ChangesOnlyJournals (new_starts logs stores) old new
first_grows logs stores store rest old new e grown =
    subst (λ (s : List StorePlan). ChangesOnlyJournals (new_starts logs s) old new) (sym e)
    (λ path. path_among (new_start logs store ∷ []) (new_start logs store ∷ new_starts logs rest) old new path (first_among (new_start logs store) (new_starts logs rest)) (grown path))

pub rest_grows : (logs : ℕ) (stores : List StorePlan) (store : StorePlan) (rest : List StorePlan) (old mid new : Kept DiskSeen) → stores ≡ store ∷ rest → mid ≡ old → ChangesOnlyJournals (new_starts logs rest) mid new → ChangesOnlyJournals (new_starts logs stores) old new
rest_grows logs stores store rest old mid new e m grown =
    subst (λ (s : List StorePlan). ChangesOnlyJournals (new_starts logs s) old new) (sym e)
    (λ path. path_among (new_starts logs rest) (new_start logs store ∷ new_starts logs rest) old new path (λ place one is. (suc place, place_later (new_start logs store) one (new_starts logs rest) place is))
    (subst (λ (k : Kept DiskSeen). ChangesOnlyJournals (new_starts logs rest) k new) m grown path))

-- ---- what a yard keeps besides
pub leaves_then : (a b c : YardSeen) → LeavesRest a b → LeavesRest b c → LeavesRest a c
leaves_then a b c p q = record {
  tells = q.tells ∙ p.tells;
  later = omega (arith, p.later, q.later);
  counts = q.counts ∙ p.counts;
  contents = q.contents ∙ p.contents;
  willing = λ w. q.willing (p.willing w);
  files = λ kind path t. q.files kind path (p.files kind path t);
}
