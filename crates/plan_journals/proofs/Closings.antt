-- From one journal that ended to all.
use Rattle.std.proofs.Common.{◌≡◌, ◌⊎◌, inl, inr, ℕ, suc, ◌+◌, ◌≤◌, Bool, true, false, IsTrue, List, [], ◌∷◌, ◌++◌, length, map, take, drop, get_or, refl, sym, ◌∙◌, ap, subst, arith, Result, Ok, Err, IfOk}
use Rattle.std.proofs.Math.Logic.{∥∥₁_elim, ∥∥₁_map, ∥∥₁_prop}
use Rattle.std.specs.Prelude.{Option, Some, None, IsSome, is_some, if◌then◌else◌, slice_get, unwrap_or, zero}
use Rattle.std.proofs.lemmas.List.{length-map}
use Rattle.std.proofs.lemmas.Option.{slice_get_within, get_or_from_slice_get}
use Rattle.vd_outside.specs.Causes.{Rose}
use Rattle.vd_outside.specs.declared.text.NoMemory.{NoMemory}
use Rattle.vd_disk.specs.Disk.{DiskSeen}
use Rattle.vd_disk.specs.declared.disk.Disk.{Ghosts}
use Rattle.plan_types.specs.declared.store.StorePlan.{StorePlan}
use Rattle.vd_yard.specs.Kept.{Kept, kept_at, keep_at, keep_at_here, keep_at_other, keep_at_untold}
use Rattle.vd_yard.specs.Out.{Out, Kind, AtDisk, one_more, one_more_cancel, one_more_here, one_more_swap, out_at}
use Rattle.vd_yard.specs.Yard.{YardSeen, Tells}
use Rattle.key_state.specs.declared.seen.BookSeen.{BookSeen}
use Rattle.journal_core.specs.Book.{seen_of}
use Rattle.journal_core.specs.History.{closed, given_up}
use Rattle.journal_core.specs.declared.book.JournalBook.{JournalBook}
use Rattle.run_report.specs.Lines.{journal_fault_text}
use Rattle.run_report.specs.Says.{Printing, says_along, says_none, says_then}
use Rattle.run_report.specs.declared.status.Status.{Status}
use Rattle.run_report.specs.declared.status.Status.TheVariants as status
use Rattle.still_plan.specs.Lines.{SaysLine}
use Rattle.plan_journals.specs.Open.{AreFrom, JournalsAreOut, CameFrom, Held, IsOpenedAs, Start, StillTells, journals_are_out, held_of, seen_held, out_besides}
use Rattle.plan_journals.specs.Growth.{AreKeptClosed, ClosedWell, HasHistory, HasWholeHistory, IsKeptClosed, Journaled, LeavesRest, ChangesOnlyJournals, SomeRose, faults_of, was_open}
use Rattle.plan_journals.specs.Closing.{AllEnded, AreEnds, AreJournalsApart, AreKept, End, Ended, FailedBefore, IsClosingStatus, IsEnd, HasFailed, HasFailedNow, EndedWell, FailedNow, OneEnded, Whole, Unsaid, HadFailed, WentBack, WentWell, after_closing, end_status, end_text, ends_status, ends_text, fault_behind, kept_after}
use Rattle.plan_journals.proofs.Books.{came_later, still_tells}
use Rattle.plan_journals.proofs.Growing.{IsAmong, handed_faults, told_grows}
use Rattle.plan_journals.proofs.Places.{place_earlier, place_later}

-- ---- one journal
pub stopped_some : (before stopped : Option ℕ) (records : ℕ) → before ≡ stopped → before ≡ Some records → IsSome stopped
stopped_some before stopped records e is = ap is_some (sym e ∙ is)

pub one_shut : (a b : YardSeen) (store : StorePlan) (held : Held) (disk : DiskSeen) (p : Printing) → WentBack a b store.journal disk → EndedWell held disk → OneEnded a b store held p p status.Good
one_shut a b store held disk p w s = record {
  one = record { disk = disk; end = Whole };
  back = w;
  is_end = s;
  said = says_none p;
  is = refl;
}

pub one_lost_before : (a b : YardSeen) (store : StorePlan) (held : Held) (disk : DiskSeen) (p : Printing) → WentBack a b store.journal disk → HadFailed held disk → OneEnded a b store held p p status.Journal
one_lost_before a b store held disk p w lost = record {
  one = record { disk = disk; end = FailedBefore };
  back = w;
  is_end = lost;
  said = says_none p;
  is = refl;
}

pub one_lost : (line : Result (List ℕ) NoMemory) (a b : YardSeen) (store : StorePlan) (held : Held) (disk : DiskSeen) (records : ℕ) (result : Status) (p q : Printing) → IfOk line (λ l. l ≡ journal_fault_text store.id.name records)
    → SaysLine line status.Journal result p q → WentBack a b store.journal disk → HasFailedNow held disk records → OneEnded a b store held p q result
one_lost (Ok line) a b store held disk records result p q e s w lost = record {
  one = record { disk = disk; end = FailedNow records };
  back = w;
  is_end = lost;
  said = says_along p q line _ e s.1;
  is = s.0;
}
one_lost (Err e) a b store held disk records result p q is s w lost = record {
  one = record { disk = disk; end = Unsaid records };
  back = w;
  is_end = lost;
  said = s.1;
  is = s.0;
}

pub leaves_back : (a b : YardSeen) (path : List ℕ) (disk : DiskSeen) → WentBack a b path disk → LeavesRest a b
leaves_back a b path disk w = record {
  tells = w.back.tells;
  later = let same = w.back.faults in omega (arith, same);
  counts = w.counts;
  contents = w.contents;
  willing = w.back.willing;
  files = w.back.files;
}

-- ---- the history on a disk that came back
shut_history : (held : Held) (disk : DiskSeen) → EndedWell held disk → HasWholeHistory (closed (seen_held held) disk) disk
shut_history held disk s = ∥∥₁_elim s.some ∥∥₁_prop (λ k. ∥∥₁_map (s.keeps_all k.0 ∣ k.1 ∣₁) (λ h. (k.0, held.memory.records, h)))

lost_history : (held : Held) (disk : DiskSeen) → HasFailed held disk → HasHistory (given_up held.memory.records (seen_held held) disk) disk
lost_history held disk s = ∥∥₁_elim s.some ∥∥₁_prop (λ k. ∥∥₁_map (s.keeps_over k.0 ∣ k.1 ∣₁) (λ h. (k.0, held.memory.records, held.memory.synced, h)))

shut_journaled : (start : Start) (kept : Option DiskSeen) (held : Held) (disk : DiskSeen) → EndedWell held disk → IsOpenedAs start (seen_held held).origin → CameFrom kept (seen_held held) → Journaled start kept disk
shut_journaled start kept held disk s opened came =
    let same = s.is_closed.faults in
    let left = closed (seen_held held) disk in
    let after = came_later kept (seen_held held) left refl (omega (arith, same)) came in
    let history : HasHistory left disk = ∥∥₁_map (shut_history held disk s) (λ h. (h.0, h.1, h.1, h.2)) in
    was_open left opened after refl (still_tells kept left held.began disk refl refl s.disks.began s.disks.back after history) history

lost_journaled : (start : Start) (kept : Option DiskSeen) (held : Held) (disk : DiskSeen) → HasFailed held disk → IsOpenedAs start (seen_held held).origin → CameFrom kept (seen_held held) → Journaled start kept disk
lost_journaled start kept held disk s opened came =
    let left = given_up held.memory.records (seen_held held) disk in
    let after = came_later kept (seen_held held) left refl s.is_given_up.goes_on.later came in
    let history = lost_history held disk s in
    was_open left opened after refl (still_tells kept left held.began disk refl refl s.disks.began s.disks.back after history) history

journaled_end : (start : Start) (kept : Option DiskSeen) (held : Held) (disk : DiskSeen) (end : End) → IsEnd held disk end → IsOpenedAs start (seen_held held).origin → CameFrom kept (seen_held held) → Journaled start kept disk
journaled_end start kept held disk Whole is opened came = shut_journaled start kept held disk is opened came
journaled_end start kept held disk FailedBefore is opened came = lost_journaled start kept held disk is.lost opened came
journaled_end start kept held disk (FailedNow records) is opened came = lost_journaled start kept held disk is.lost opened came
journaled_end start kept held disk (Unsaid records) is opened came = lost_journaled start kept held disk is.lost opened came

journaled_there : (first : Kept DiskSeen) (store : StorePlan) (start : Start) (held : Held) (one : Ended) → start.journal ≡ store.journal → IsEnd held one.disk one.end → IsOpenedAs start (seen_held held).origin → CameFrom (kept_at first store.journal) (seen_held held)
    → Journaled start (kept_at first start.journal) one.disk
journaled_there first store start held one e is opened came =
    subst (λ (p : List ℕ). Journaled start (kept_at first p) one.disk) (sym e) (journaled_end start (kept_at first store.journal) held one.disk one.end is opened came)

ends_grow : (all : List Start) (first old : Kept DiskSeen) (stores : List StorePlan) (starts : List Start) (opens : List Held) (ends : List Ended) → ((place : ℕ) (start : Start) → slice_get starts place ≡ Some start → IsAmong all start)
    → AreEnds opens ends → AreFrom first stores starts (map seen_held opens) → ChangesOnlyJournals all first old → ChangesOnlyJournals all first (kept_after true old stores ends)
ends_grow all first old [] starts opens ends within each from grown = grown
ends_grow all first old (store ∷ stores) starts opens [] within each from grown = grown
ends_grow all first old (store ∷ stores) starts [] (one ∷ rest) within each from grown = absurd each
ends_grow all first old (store ∷ stores) [] (held ∷ more) (one ∷ rest) within each from grown = absurd from
ends_grow all first old (store ∷ stores) (start ∷ starts) (held ∷ more) (one ∷ rest) within each from grown =
    ends_grow all first (keep_at true old store.journal one.disk) stores starts more rest (λ place other is. within (suc place) other (place_later start other starts place is)) each.1 from.3
    (subst (λ (p : List ℕ). ChangesOnlyJournals all first (keep_at true old p one.disk)) from.0.its_path
    (told_grows all first old start one.disk (within 0 start refl) (journaled_there first store start held one from.0.its_path each.0 from.1 from.2) grown))

untold_after : (kept : Kept DiskSeen) (stores : List StorePlan) (ends : List Ended) → kept_after false kept stores ends ≡ kept
untold_after kept [] ends = refl
untold_after kept (store ∷ stores) [] = refl
untold_after kept (store ∷ stores) (one ∷ rest) = untold_after (keep_at false kept store.journal one.disk) stores rest ∙ keep_at_untold kept store.journal one.disk

either_grows : (tells : Bool) (starts : List Start) (first old : Kept DiskSeen) (stores : List StorePlan) (opens : List Held) (ends : List Ended) → AreEnds opens ends → (IsTrue tells → AreFrom first stores starts (map seen_held opens))
    → ChangesOnlyJournals starts first old → ChangesOnlyJournals starts first (kept_after tells old stores ends)
either_grows true starts first old stores opens ends each from grown = ends_grow starts first old stores starts opens ends (λ place start is. (place, is)) each (from refl) grown
either_grows false starts first old stores opens ends each from grown = subst (ChangesOnlyJournals starts first) (sym (untold_after old stores ends)) grown

-- ---- what callers of the books see
seen_same : {D : Type 0} {G : Ghosts D} (books : List (JournalBook D G)) → map seen_held (map held_of books) ≡ map seen_of books
seen_same [] = refl
seen_same (book ∷ books) = ap (λ seen. seen_of book ∷ seen) (seen_same books)

from_held : {D : Type 0} {G : Ghosts D} (books : List (JournalBook D G)) (first : Kept DiskSeen) (stores : List StorePlan) (starts : List Start) → AreFrom first stores starts (map seen_of books) → AreFrom first stores starts (map seen_held (map held_of books))
from_held books first stores starts from = subst (AreFrom first stores starts) (sym (seen_same books)) from

pub grows_by_ends : {D : Type 0} {G : Ghosts D} (books : List (JournalBook D G)) (a c : YardSeen) (stores : List StorePlan) (p r : Printing) (result : Status) (starts : List Start) (first : Kept DiskSeen) → AllEnded a c stores (map held_of books) p r result
    → (IsTrue a.tells.keeps_disks → AreFrom first stores starts (map seen_of books)) → ChangesOnlyJournals starts first a.disks → ChangesOnlyJournals starts first c.disks
grows_by_ends books a c stores p r result starts first all from grown =
    subst (ChangesOnlyJournals starts first) (sym all.disks) (either_grows a.tells.keeps_disks starts first a.disks stores (map held_of books) all.ends all.each (λ t. from_held books first stores starts (from t)) grown)

-- ---- what is out
pub out_in_any_order : (out : Out) (kind : Kind) (path : List ℕ) (stores : List StorePlan) → out_besides (one_more out kind path) stores ≡ one_more (out_besides out stores) kind path
out_in_any_order out kind path [] = refl
out_in_any_order out kind path (store ∷ stores) =
    ap (λ (o : Out). out_besides o stores) (one_more_swap out kind AtDisk path store.journal) ∙ out_in_any_order (one_more out AtDisk store.journal) kind path stores

pub out_in_turn : (out : Out) (first rest : List StorePlan) → out_besides out (first ++ rest) ≡ out_besides (out_besides out first) rest
out_in_turn out [] rest = refl
out_in_turn out (store ∷ first) rest = out_in_turn (one_more out AtDisk store.journal) first rest

front_out : {A : Type 0} (out before : Out) (stores : List StorePlan) (store : StorePlan) (rest : List StorePlan) (xs : List A) (x : A) (ys : List A) → stores ≡ store ∷ rest → xs ≡ x ∷ ys → out ≡ out_besides before (take (length xs) stores)
    → out ≡ one_more (out_besides before (take (length ys) rest)) AtDisk store.journal
front_out {A} out before stores store rest xs x ys e f is =
    is ∙ ap (λ (s : List StorePlan). out_besides before (take (length xs) s)) e ∙ ap (λ (l : List A). out_besides before (take (length l) (store ∷ rest))) f ∙ out_in_any_order before AtDisk store.journal (take (length ys) rest)

pub first_is_out : {A : Type 0} (out : Out) (stores : List StorePlan) (store : StorePlan) (rest : List StorePlan) (xs : List A) (x : A) (ys : List A) → stores ≡ store ∷ rest → xs ≡ x ∷ ys → JournalsAreOut out (take (length xs) stores) → 1 ≤ out_at out AtDisk store.journal
first_is_out out stores store rest xs x ys e f (journals_are_out before is) =
    let same = front_out out before stores store rest xs x ys e f is in
    let left = out_besides before (take (length ys) rest) in
    let count : out_at out AtDisk store.journal ≡ out_at left AtDisk store.journal + 1 = ap (λ (o : Out). out_at o AtDisk store.journal) same ∙ one_more_here left AtDisk store.journal in
    omega (arith, count)

pub rest_before : {A : Type 0} (out new before : Out) (stores : List StorePlan) (store : StorePlan) (rest : List StorePlan) (xs : List A) (x : A) (ys : List A) → stores ≡ store ∷ rest → xs ≡ x ∷ ys
    → out ≡ one_more new AtDisk store.journal → out ≡ out_besides before (take (length xs) stores) → new ≡ out_besides before (take (length ys) rest)
rest_before out new before stores store rest xs x ys e f back is =
    one_more_cancel new (out_besides before (take (length ys) rest)) AtDisk store.journal (sym back ∙ front_out out before stores store rest xs x ys e f is)

pub rest_is_out : {A : Type 0} (out new : Out) (stores : List StorePlan) (store : StorePlan) (rest : List StorePlan) (xs : List A) (x : A) (ys : List A) → stores ≡ store ∷ rest → xs ≡ x ∷ ys
    → out ≡ one_more new AtDisk store.journal → JournalsAreOut out (take (length xs) stores) → JournalsAreOut new (take (length ys) rest)
rest_is_out out new stores store rest xs x ys e f back (journals_are_out before is) = journals_are_out before (rest_before out new before stores store rest xs x ys e f back is)

take_none : {A : Type 0} (xs : List A) → take 0 xs ≡ []
take_none [] = refl
take_none (x ∷ xs) = refl

pub none_out : (out before : Out) (stores : List StorePlan) (n : ℕ) → n ≡ 0 → out ≡ out_besides before (take n stores) → out ≡ before
none_out out before stores n e is = is ∙ ap (λ k. out_besides before (take k stores)) e ∙ ap (out_besides before) (take_none stores)

-- ---- the disks that are kept then
after_others : (tells : Bool) (kept : Kept DiskSeen) (stores : List StorePlan) (ends : List Ended) (path : List ℕ) → ((place : ℕ) (store : StorePlan) → slice_get stores place ≡ Some store → path ≡ store.journal → ⊥)
    → kept_at (kept_after tells kept stores ends) path ≡ kept_at kept path
after_others tells kept [] ends path others = refl
after_others tells kept (store ∷ stores) [] path others = refl
after_others tells kept (store ∷ stores) (one ∷ rest) path others =
    after_others tells (keep_at tells kept store.journal one.disk) stores rest path (λ place other is. others (suc place) other (place_later store other stores place is))
    ∙ keep_at_other tells kept store.journal one.disk path (others 0 store refl)

pub apart_first : (first : StorePlan) (stores : List StorePlan) → AreJournalsApart (first ∷ stores) → (place : ℕ) (store : StorePlan) → slice_get stores place ≡ Some store → first.journal ≡ store.journal → ⊥
apart_first first stores apart place store is e =
    let within = slice_get_within stores place store is in
    let same = get_or_from_slice_get stores place store store is in
    apart 0 (suc place) store (omega arith) (omega (arith, within)) (e ∙ sym (ap (λ (s : StorePlan). s.journal) same))

pub apart_rest : (first : StorePlan) (stores : List StorePlan) → AreJournalsApart (first ∷ stores) → AreJournalsApart stores
apart_rest first stores apart i j d less within = apart (suc i) (suc j) d (omega (arith, less)) (omega (arith, within))

first_kept : (tells : Bool) (old new : Kept DiskSeen) (store : StorePlan) (stores : List StorePlan) (disk : DiskSeen) (ends : List Ended) → IsTrue tells → AreJournalsApart (store ∷ stores)
    → new ≡ kept_after tells (keep_at tells old store.journal disk) stores ends → kept_at new store.journal ≡ Some disk
first_kept tells old new store stores disk ends t apart e =
    ap (λ (k : Kept DiskSeen). kept_at k store.journal) e ∙ after_others tells (keep_at tells old store.journal disk) stores ends store.journal (apart_first store stores apart)
    ∙ keep_at_here tells old store.journal disk t

-- ---- all journals
kept_none : (tells : Bool) (kept : Kept DiskSeen) (stores : List StorePlan) → kept ≡ kept_after tells kept stores []
kept_none tells kept [] = refl
kept_none tells kept (store ∷ stores) = refl

text_none : (stores : List StorePlan) → [] ≡ ends_text stores []
text_none [] = refl
text_none (store ∷ stores) = refl

each_none : (kept : Kept DiskSeen) (stores : List StorePlan) → AreKept kept stores []
each_none kept [] = tt
each_none kept (store ∷ stores) = tt

pub ended_none : (a : YardSeen) (stores : List StorePlan) (opens : List Held) (p : Printing) → opens ≡ [] → AllEnded a a stores opens p p status.Good
ended_none a stores opens p e = record {
  ends = [];
  each = subst (λ (o : List Held). AreEnds o []) (sym e) tt;
  disks = kept_none a.tells.keeps_disks a.disks stores;
  last = λ t apart. each_none a.disks stores;
  said = says_along p p [] _ (text_none stores) (says_none p);
  is = refl;
}

after_both : (s t : Tells) (mid old new : Kept DiskSeen) (store : StorePlan) (stores : List StorePlan) (disk : DiskSeen) (ends : List Ended) → t ≡ s → mid ≡ keep_at s.keeps_disks old store.journal disk → new ≡ kept_after t.keeps_disks mid stores ends
    → new ≡ kept_after s.keeps_disks (keep_at s.keeps_disks old store.journal disk) stores ends
after_both s t mid old new store stores disk ends e m n =
    n ∙ ap (λ (x : Tells). kept_after x.keeps_disks mid stores ends) e ∙ ap (λ (k : Kept DiskSeen). kept_after s.keeps_disks k stores ends) m

both_ended : (a b c : YardSeen) (store : StorePlan) (rest : List StorePlan) (held : Held) (more : List Held) (p q r : Printing) (first last result : Status) → OneEnded a b store held p q first → AllEnded b c rest more q r last → result ≡ after_closing first last
    → AllEnded a c (store ∷ rest) (held ∷ more) p r result
both_ended a b c store rest held more p q r first last result one all is =
    let disks = after_both a.tells b.tells b.disks a.disks c.disks store rest one.one.disk all.ends one.back.back.tells one.back.disks all.disks in record {
      ends = one.one ∷ all.ends;
      each = (one.is_end, all.each);
      disks = disks;
      last = λ t apart.
          (first_kept a.tells.keeps_disks a.disks c.disks store rest one.one.disk all.ends t apart disks, all.last (subst (λ (x : Tells). IsTrue x.keeps_disks) (sym one.back.back.tells) t) (apart_rest store rest apart));
      said = says_then p q r (end_text store one.one.end) (ends_text rest all.ends) one.said all.said;
      is = is ∙ ap (λ (s : Status). after_closing s last) one.is ∙ ap (λ (s : Status). after_closing (end_status one.one.end) s) all.is;
    }

pub ended_more : (a b c : YardSeen) (stores : List StorePlan) (store : StorePlan) (rest : List StorePlan) (opens : List Held) (held : Held) (more : List Held) (p q r : Printing) (first last result : Status) → stores ≡ store ∷ rest → opens ≡ held ∷ more
    → OneEnded a b store held p q first → AllEnded b c rest more q r last → result ≡ after_closing first last → AllEnded a c stores opens p r result
ended_more a b c stores store rest opens held more p q r first last result e f one all is =
    subst (λ (s : List StorePlan). AllEnded a c s opens p r result) (sym e) (subst (λ (o : List Held). AllEnded a c (store ∷ rest) o p r result) (sym f) (both_ended a b c store rest held more p q r first last result one all is))

-- ---- the status
end_closing : (end : End) → IsClosingStatus (end_status end)
end_closing Whole = inl refl
end_closing FailedBefore = inr (inl refl)
end_closing (FailedNow records) = inr (inl refl)
end_closing (Unsaid records) = inr (inr refl)

both_closing : (a b : Status) → IsClosingStatus a → IsClosingStatus b → IsClosingStatus (after_closing a b)
both_closing a b x (inl f) = subst IsClosingStatus (sym (ap (after_closing a) f)) x
both_closing a b (inl e) (inr (inl f)) = inr (inl (ap (after_closing a) f ∙ ap fault_behind e))
both_closing a b (inr (inl e)) (inr (inl f)) = inr (inl (ap (after_closing a) f ∙ ap fault_behind e))
both_closing a b (inr (inr e)) (inr (inl f)) = inr (inr (ap (after_closing a) f ∙ ap fault_behind e))
both_closing a b x (inr (inr f)) = inr (inr (ap (after_closing a) f))

ends_closing : (ends : List Ended) → IsClosingStatus (ends_status ends)
ends_closing [] = inl refl
ends_closing (one ∷ rest) = both_closing (end_status one.end) (ends_status rest) (end_closing one.end) (ends_closing rest)

pub answers_by_ends : (a c : YardSeen) (stores : List StorePlan) (opens : List Held) (p r : Printing) (result : Status) → AllEnded a c stores opens p r result → IsClosingStatus result
answers_by_ends a c stores opens p r result all = subst IsClosingStatus (sym all.is) (ends_closing all.ends)

both_good : (a b : Status) → IsClosingStatus a → IsClosingStatus b → after_closing a b ≡ status.Good → (a ≡ status.Good) × (b ≡ status.Good)
both_good a b x (inl f) e = (sym (ap (after_closing a) f) ∙ e, f)
both_good a b (inl x) (inr (inl f)) e = let wrong : status.Journal ≡ status.Good = sym (ap fault_behind x) ∙ sym (ap (after_closing a) f) ∙ e in absurd (cc wrong)
both_good a b (inr (inl x)) (inr (inl f)) e = let wrong : status.Journal ≡ status.Good = sym (ap fault_behind x) ∙ sym (ap (after_closing a) f) ∙ e in absurd (cc wrong)
both_good a b (inr (inr x)) (inr (inl f)) e = let wrong : status.NoMemory ≡ status.Good = sym (ap fault_behind x) ∙ sym (ap (after_closing a) f) ∙ e in absurd (cc wrong)
both_good a b x (inr (inr f)) e = let wrong : status.NoMemory ≡ status.Good = sym (ap (after_closing a) f) ∙ e in absurd (cc wrong)

pub either_journal : (a b : Status) → IsClosingStatus b → after_closing a b ≡ status.Journal → (a ≡ status.Journal) ⊎ (b ≡ status.Journal)
either_journal a b (inl f) e = inl (sym (ap (after_closing a) f) ∙ e)
either_journal a b (inr (inl f)) e = inr f
either_journal a b (inr (inr f)) e = let wrong : status.NoMemory ≡ status.Journal = sym (ap (after_closing a) f) ∙ e in absurd (cc wrong)

fault_not_well : (a : Status) → WentWell (fault_behind a) → ⊥
fault_not_well status.Good w = w
fault_not_well status.Corrupt w = w
fault_not_well status.Device w = w
fault_not_well status.Parameter w = w
fault_not_well status.Usage w = w
fault_not_well status.Source w = w
fault_not_well status.Sink w = w
fault_not_well status.Journal w = w
fault_not_well status.NoJournal w = w
fault_not_well status.Damaged w = w
fault_not_well status.Mismatch w = w
fault_not_well status.Yard w = w
fault_not_well status.EpochEnd w = w
fault_not_well status.NoMemory w = w

pub well_behind : (a b : Status) → IsClosingStatus b → WentWell (after_closing a b) → b ≡ status.Good
well_behind a b (inl f) w = f
well_behind a b (inr (inl f)) w = absurd (fault_not_well a (subst WentWell (ap (after_closing a) f) w))
well_behind a b (inr (inr f)) w = absurd (subst WentWell (ap (after_closing a) f) w)

-- ---- each journal closed well
shut_tells : (kept : Option DiskSeen) (held : Held) (disk : DiskSeen) → EndedWell held disk → CameFrom kept (seen_held held) → StillTells (seen_held held) disk
shut_tells kept held disk s came =
    let same = s.is_closed.faults in
    let left = closed (seen_held held) disk in
    let after = came_later kept (seen_held held) left refl (omega (arith, same)) came in
    let told = still_tells kept left held.began disk refl refl s.disks.began s.disks.back after (∥∥₁_map (shut_history held disk s) (λ h. (h.0, h.1, h.1, h.2))) in
    record { tells = told.tells; fits = told.fits }

well_closed : (start : Start) (kept : Option DiskSeen) (held : Held) (disk : DiskSeen) (end : End) → end_status end ≡ status.Good → IsEnd held disk end → IsOpenedAs start (seen_held held).origin → CameFrom kept (seen_held held)
    → ClosedWell start kept (seen_held held) disk
well_closed start kept held disk Whole good is opened came = record {
  opened = opened;
  came = came;
  running = ap (λ (s : Bool). if s then Some held.memory.records else None) is.is_closed.running;
  faults = is.is_closed.faults;
  telling = shut_tells kept held disk is came;
  whole = shut_history held disk is;
  rests = is.is_closed.rests;
}
well_closed start kept held disk FailedBefore good is opened came = absurd (cc good)
well_closed start kept held disk (FailedNow records) good is opened came = absurd (cc good)
well_closed start kept held disk (Unsaid records) good is opened came = absurd (cc good)

kept_closed : (first now : Kept DiskSeen) (store : StorePlan) (start : Start) (held : Held) (one : Ended) → end_status one.end ≡ status.Good → IsEnd held one.disk one.end → kept_at now store.journal ≡ Some one.disk → start.journal ≡ store.journal
    → IsOpenedAs start (seen_held held).origin → CameFrom (kept_at first store.journal) (seen_held held) → IsKeptClosed first now start (seen_held held)
kept_closed first now store start held one good is kept e opened came = record {
  disk = one.disk;
  kept = ap (kept_at now) e ∙ kept;
  well = subst (λ (p : List ℕ). ClosedWell start (kept_at first p) (seen_held held) one.disk) (sym e) (well_closed start (kept_at first store.journal) held one.disk one.end good is opened came);
}

all_closed : (first now : Kept DiskSeen) (stores : List StorePlan) (starts : List Start) (opens : List Held) (ends : List Ended) → ends_status ends ≡ status.Good → AreEnds opens ends → AreKept now stores ends → AreFrom first stores starts (map seen_held opens)
    → AreKeptClosed first now starts (map seen_held opens)
all_closed first now stores starts [] ends good each kept from = tt
all_closed first now stores starts (held ∷ more) [] good each kept from = absurd each
all_closed first now [] starts (held ∷ more) (one ∷ rest) good each kept from = absurd from
all_closed first now (store ∷ stores) [] (held ∷ more) (one ∷ rest) good each kept from = absurd from
all_closed first now (store ∷ stores) (start ∷ starts) (held ∷ more) (one ∷ rest) good each kept from =
    let both = both_good (end_status one.end) (ends_status rest) (end_closing one.end) (ends_closing rest) good in
    (kept_closed first now store start held one both.0 each.0 kept.0 from.0.its_path from.1 from.2, all_closed first now stores starts more rest both.1 each.1 kept.1 from.3)

pub whole_by_ends : {D : Type 0} {G : Ghosts D} (books : List (JournalBook D G)) (a c : YardSeen) (stores : List StorePlan) (p r : Printing) (result : Status) (starts : List Start) (first : Kept DiskSeen) → AllEnded a c stores (map held_of books) p r result
    → result ≡ status.Good → IsTrue a.tells.keeps_disks → AreJournalsApart stores → AreFrom first stores starts (map seen_of books) → AreKeptClosed first c.disks starts (map seen_of books)
whole_by_ends books a c stores p r result starts first all good told apart from =
    subst (AreKeptClosed first c.disks starts) (seen_same books)
    (all_closed first c.disks stores starts (map held_of books) all.ends (sym all.is ∙ good) all.each (all.last told apart) (from_held books first stores starts from))

-- ---- a book that was stopped
runs_on : (held : Held) (disk : DiskSeen) (end : End) → end_status end ≡ status.Good → IsEnd held disk end → (seen_held held).stopped ≡ None
runs_on held disk Whole good is = ap (λ (s : Bool). if s then Some held.memory.records else None) is.is_closed.running
runs_on held disk FailedBefore good is = absurd (cc good)
runs_on held disk (FailedNow records) good is = absurd (cc good)
runs_on held disk (Unsaid records) good is = absurd (cc good)

not_stopped : (o p : Option ℕ) → o ≡ None → o ≡ p → IsSome p → ⊥
not_stopped o p e f is = cc

first_there : {A : Type 0} (x y : A) (xs : List A) → slice_get (x ∷ xs) 0 ≡ Some y → x ≡ y
first_there x y xs is = ap (λ o. unwrap_or o x) is

all_run : (opens : List Held) (ends : List Ended) → ends_status ends ≡ status.Good → AreEnds opens ends → (place : ℕ) (b : BookSeen) → slice_get (map seen_held opens) place ≡ Some b → IsSome b.stopped → ⊥
all_run [] ends good each place b is stopped = let far = slice_get_within {A = BookSeen} [] place b is in omega (arith, far)
all_run (held ∷ more) [] good each place b is stopped = each
all_run (held ∷ more) (one ∷ rest) good each zero b is stopped =
    let both = both_good (end_status one.end) (ends_status rest) (end_closing one.end) (ends_closing rest) good in
    not_stopped (seen_held held).stopped b.stopped (runs_on held one.disk one.end both.0 each.0) (ap (λ (x : BookSeen). x.stopped) (first_there (seen_held held) b (map seen_held more) is)) stopped
all_run (held ∷ more) (one ∷ rest) good each (suc n) b is stopped =
    let both = both_good (end_status one.end) (ends_status rest) (end_closing one.end) (ends_closing rest) good in
    all_run more rest both.1 each.1 n b (place_earlier (seen_held held) b (map seen_held more) n is) stopped

pub stopped_by_ends : {D : Type 0} {G : Ghosts D} (books : List (JournalBook D G)) (a c : YardSeen) (stores : List StorePlan) (p r : Printing) (result : Status) → AllEnded a c stores (map held_of books) p r result
    → (place : ℕ) (b : BookSeen) → slice_get (map seen_of books) place ≡ Some b → IsSome b.stopped → result ≡ status.Good → ⊥
stopped_by_ends books a c stores p r result all place b is stopped good =
    all_run (map held_of books) all.ends (sym all.is ∙ good) all.each place b (ap (λ (s : List BookSeen). slice_get s place) (seen_same books) ∙ is) stopped

-- ---- a journal whose count of faults rose
lost_rose : (kept : Option DiskSeen) (held : Held) (disk : DiskSeen) → HasFailed held disk → CameFrom kept (seen_held held) → Rose (faults_of kept) disk.faults
lost_rose kept held disk lost came = subst (λ n. Rose n disk.faults) (came.its_faults ∙ handed_faults kept came.handed came.hands.hands) lost.is_given_up.cause

end_rose : (kept : Option DiskSeen) (held : Held) (disk : DiskSeen) (end : End) → end_status end ≡ status.Journal → IsEnd held disk end → CameFrom kept (seen_held held) → Rose (faults_of kept) disk.faults
end_rose kept held disk Whole e is came = absurd (cc e)
end_rose kept held disk FailedBefore e is came = lost_rose kept held disk is.lost came
end_rose kept held disk (FailedNow records) e is came = lost_rose kept held disk is.lost came
end_rose kept held disk (Unsaid records) e is came = absurd (cc e)

later_rose : (first : StorePlan) (stores : List StorePlan) (old new : Kept DiskSeen) → SomeRose stores old new → SomeRose (first ∷ stores) old new
later_rose first stores old new s = record { place = suc s.place; store = s.store; there = place_later first s.store stores s.place s.there; rose = s.rose }

first_rose : (store : StorePlan) (stores : List StorePlan) (old new : Kept DiskSeen) (held : Held) (one : Ended) → end_status one.end ≡ status.Journal → IsEnd held one.disk one.end → kept_at new store.journal ≡ Some one.disk → CameFrom (kept_at old store.journal) (seen_held held)
    → SomeRose (store ∷ stores) old new
first_rose store stores old new held one e is kept came = record {
  place = 0;
  store = store;
  there = refl;
  rose = record { disk = one.disk; kept = kept; rose = end_rose (kept_at old store.journal) held one.disk one.end e is came };
}

some_rose : (first now : Kept DiskSeen) (stores : List StorePlan) (starts : List Start) (opens : List Held) (ends : List Ended) → ends_status ends ≡ status.Journal → AreEnds opens ends → AreKept now stores ends → AreFrom first stores starts (map seen_held opens)
    → SomeRose stores first now
some_rose first now stores starts opens [] bad each kept from = absurd (cc bad)
some_rose first now stores starts [] (one ∷ rest) bad each kept from = absurd each
some_rose first now [] starts (held ∷ more) (one ∷ rest) bad each kept from = absurd from
some_rose first now (store ∷ stores) [] (held ∷ more) (one ∷ rest) bad each kept from = absurd from
some_rose first now (store ∷ stores) (start ∷ starts) (held ∷ more) (one ∷ rest) bad each kept from =
    elim (either_journal (end_status one.end) (ends_status rest) (ends_closing rest) bad) [
      | inl e ↦ first_rose store stores first now held one e each.0 kept.0 from.2
      | inr e ↦ later_rose store stores first now (some_rose first now stores starts more rest e each.1 kept.1 from.3)
    ]

pub fault_by_ends : {D : Type 0} {G : Ghosts D} (books : List (JournalBook D G)) (a c : YardSeen) (stores : List StorePlan) (p r : Printing) (result : Status) (starts : List Start) (first : Kept DiskSeen) → AllEnded a c stores (map held_of books) p r result
    → result ≡ status.Journal → IsTrue a.tells.keeps_disks → AreJournalsApart stores → AreFrom first stores starts (map seen_of books) → SomeRose stores first c.disks
fault_by_ends books a c stores p r result starts first all bad told apart from =
    some_rose first c.disks stores starts (map held_of books) all.ends (sym all.is ∙ bad) all.each (all.last told apart) (from_held books first stores starts from)

-- ---- other paths
others_after : (tells : Bool) (kept : Kept DiskSeen) (stores : List StorePlan) (opens : List Held) (ends : List Ended) (path : List ℕ) → AreEnds opens ends
    → ((place : ℕ) (store : StorePlan) → slice_get (take (length opens) stores) place ≡ Some store → path ≡ store.journal → ⊥) → kept_at (kept_after tells kept stores ends) path ≡ kept_at kept path
others_after tells kept [] opens ends path each others = refl
others_after tells kept (store ∷ stores) opens [] path each others = refl
others_after tells kept (store ∷ stores) [] (one ∷ rest) path each others = absurd each
others_after tells kept (store ∷ stores) (held ∷ more) (one ∷ rest) path each others =
    others_after tells (keep_at tells kept store.journal one.disk) stores more rest path each.1 (λ place other is. others (suc place) other (place_later store other (take (length more) stores) place is))
    ∙ keep_at_other tells kept store.journal one.disk path (others 0 store refl)

pub others_by_ends : {D : Type 0} {G : Ghosts D} (books : List (JournalBook D G)) (a c : YardSeen) (stores : List StorePlan) (p r : Printing) (result : Status) (path : List ℕ) → AllEnded a c stores (map held_of books) p r result
    → ((place : ℕ) (store : StorePlan) → slice_get (take (length books) stores) place ≡ Some store → path ≡ store.journal → ⊥) → kept_at c.disks path ≡ kept_at a.disks path
others_by_ends books a c stores p r result path all others =
    ap (λ (k : Kept DiskSeen). kept_at k path) all.disks
    ∙ others_after a.tells.keeps_disks a.disks stores (map held_of books) all.ends path all.each
    (subst (λ n. (place : ℕ) (store : StorePlan) → slice_get (take n stores) place ≡ Some store → path ≡ store.journal → ⊥) (sym (length-map books held_of)) others)

-- ---- the first of some books, which was taken out
pub taken_out : {A : Type 0} (xs : List A) (x : A) (ys : List A) → x ≡ get_or xs 0 x → ys ≡ drop 1 xs → 1 ≤ length xs → xs ≡ x ∷ ys
taken_out [] x ys e f some = absurd (omega (arith, some))
taken_out (y ∷ zs) x ys e f some = ap (λ z. z ∷ zs) (sym e) ∙ ap (λ z. x ∷ z) (sym f)

pub first_book : {A B : Type 0} (f : A → B) (xs : List A) (x : A) (ys : List A) → x ≡ get_or xs 0 x → ys ≡ drop 1 xs → 1 ≤ length xs → map f xs ≡ f x ∷ map f ys
first_book f xs x ys e g some = ap (map f) (taken_out xs x ys e g some)

pub no_book : {A B : Type 0} (f : A → B) (xs : List A) → length xs ≡ 0 → map f xs ≡ []
no_book f [] none = refl
no_book f (x ∷ xs) none = absurd (omega (arith, none))
