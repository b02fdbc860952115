-- From one journal that is opened again to all.
use Rattle.std.proofs.Common.{◌≡◌, ◌≤◌, ◌<◌, inl, inr, ℕ, zero, suc, ◌+◌, Bool, IsTrue, List, [], ◌∷◌, ◌++◌, length, map, take, refl, sym, ◌∙◌, ap, subst, append_assoc, append-nil, arith, Result, Ok, Err}
use Rattle.std.specs.Prelude.{Option, Some, OnOk, IfErr}
use Rattle.std.proofs.lemmas.List.{length-map, take_all}
use Rattle.std.proofs.lemmas.List.Elements.{All-cons, All-nil}
use Rattle.vd_outside.specs.Causes.{Rose}
use Rattle.vd_disk.specs.Disk.{DiskSeen, Extends}
use Rattle.vd_yard.specs.Kept.{Kept, kept_at}
use Rattle.vd_yard.specs.Out.{Out, AtDisk, one_more, one_more_cancel, one_more_here, out_at}
use Rattle.vd_yard.specs.Yard.{YardSeen, Tells}
use Rattle.plan_types.specs.declared.store.StorePlan.{StorePlan}
use Rattle.key_state.specs.declared.entry.Entry.{Entry}
use Rattle.key_state.specs.declared.seen.BookSeen.{BookSeen}
use Rattle.journal_core.specs.Calls.{GoesOn, IsOpened, NotOpened}
use Rattle.journal_core.specs.Keeps.{next_of}
use Rattle.journal_core.specs.Opening.{Opens}
use Rattle.journal_core.specs.Seen.{last_epoch}
use Rattle.journal_core.specs.declared.fault.OpenFault.{OpenFault}
use Rattle.journal_core.specs.declared.fault.OpenFault.TheVariants as fault
use Rattle.journal_layout.specs.Recovery.{journal_end}
use Rattle.journal_layout.specs.declared.live.Live.{Live}
use Rattle.journal_recover.specs.declared.found.Recovered.{Recovered}
use Rattle.vd_base.specs.declared.geometry.StoreId.{StoreId}
use Rattle.run_report.specs.Lines.{opened_text}
use Rattle.run_report.specs.Says.{Printing, Says, says_along, says_none, says_then}
use Rattle.run_report.specs.declared.status.Status.{Status}
use Rattle.run_report.specs.declared.status.Status.TheVariants as status
use Rattle.still_plan.specs.Lines.{SaysOr}
use Rattle.plan_journals.specs.Closing.{AreJournalsApart}
use Rattle.plan_journals.specs.Growth.{Becomes, ChangesOnlyJournals, DiskRose, Journaled, LeavesRest, given_back, is_journal, not_opened, stays, was_read}
use Rattle.plan_journals.specs.Open.{AreOpenedNow, AreStartsOf, Held, IsHanded, IsOpenedNow, JournalsAreOut, Start, journals_are_out, live_of, out_besides, seen_held}
use Rattle.plan_journals.proofs.Beginnings.{KeepsStory}
use Rattle.plan_journals.proofs.Books.{opened_from}
use Rattle.plan_journals.proofs.Closings.{apart_first, out_in_any_order}
use Rattle.plan_journals.proofs.Growing.{first_among, path_among}
use Rattle.plan_journals.proofs.Openings.{opened_now}
use Rattle.plan_journals.proofs.Places.{place_later}
use Rattle.plan_reopened.specs.Kept.{AreStillKept}
use Rattle.plan_reopened.specs.Reopening.{AllReopened, AreOpenedOn, AreReady, CanReopen, IsLow, IsOpenedOn, KeepsEach, OneReopened, ReopenStop, ReopeningEnds, ReopeningEndsAt, StandReopened, last_is_over, memory_out, next_start, next_starts, not_reopened, refusal_line, refusal_status, starts_text}
use Rattle.plan_reopened.specs.declared.reopening.NotReopened.{NotReopened}
use Rattle.plan_reopened.specs.declared.reopening.NotReopened.TheVariants as refusal
use Rattle.plan_reopened.proofs.Keeping.{out_swap}

-- ---- one journal
next_at : Live → StoreId → Live
next_at live id = record { version = 2; epoch = live.epoch + 1; id = id; log_sectors = live.log_sectors }

next_live : (store : StorePlan) (live : Live) (entries : List Entry) → live.id ≡ store.id → next_of live ≡ live_of (next_start store live entries)
unfolding next_at
next_live store live entries e = ap (next_at live) e

same_end : (store : StorePlan) (live : Live) (entries : List Entry) → live.id ≡ store.id → journal_end live ≡ journal_end (live_of (next_start store live entries))
unfolding next_at
same_end store live entries e = ap (λ (id : StoreId). journal_end (next_at live id)) e

pub reopened_now : (yard : YardSeen) (store : StorePlan) (live : Live) (entries : List Entry) (given : DiskSeen) (held : Held) → live.id ≡ store.id → IsOpened given held.began held.opened held.disk held.memory (next_of live) entries → (seen_held held).shut ≡ Bool.false
    → (IsTrue yard.tells.keeps_disks → IsHanded (kept_at yard.disks store.journal) given) → KeepsStory held → IsOpenedNow yard (next_start store live entries) (seen_held held)
reopened_now yard store live entries given held e o ready hands keeps =
    opened_now yard (next_start store live entries) given held (subst (λ (l : Live). IsOpened given held.began held.opened held.disk held.memory l entries) (next_live store live entries e) o) ready hands keeps

-- It is opened on the disk that was handed in.
pub opened_on : (live : Live) (entries : List Entry) (given : DiskSeen) (held : Held) → IsOpened given held.began held.opened held.disk held.memory live entries → IsOpenedOn given (seen_held held)
opened_on live entries given held o = record {
  its_moments = ap (λ (d : DiskSeen). d.moments) o.since;
  its_sectors = ap (λ (d : DiskSeen). d.told) o.since;
  its_faults = ap (λ (d : DiskSeen). d.faults) o.since;
  grown = subst (λ (d : DiskSeen). Extends given.moments d.moments) (sym o.ended) o.goes_on.earlier;
}

pub refused_disk : (store : StorePlan) (live : Live) (entries : List Entry) (kept : Option DiskSeen) (given back : DiskSeen) (why : OpenFault) → live.id ≡ store.id → IsHanded kept given → NotOpened live entries given back why → Journaled (next_start store live entries) kept back
refused_disk store live entries kept given back (fault.EpochEnd epoch) e h n = given_back (subst (IsHanded kept) (sym n.2) h)
refused_disk store live entries kept given back fault.Failed e h n =
    not_opened given h n.1 (subst (λ k. GoesOn k given back) (same_end store live entries e) n.2) (subst (λ (l : Live). Opens l entries given.told given.moments back.moments) (next_live store live entries e) n.3)
refused_disk store live entries kept given back fault.NoMemory e h n = given_back (subst (IsHanded kept) (sym n.1) h)

pub refused_rose : (live : Live) (entries : List Entry) (given back : DiskSeen) (why : OpenFault) → why ≡ fault.Failed → NotOpened live entries given back why → Rose given.faults back.faults
refused_rose live entries given back (fault.EpochEnd epoch) is n = absurd (cc is)
refused_rose live entries given back fault.Failed is n = n.1
refused_rose live entries given back fault.NoMemory is n = absurd (cc is)

pub refused_epoch : (live : Live) (entries : List Entry) (given back : DiskSeen) (why : OpenFault) (epoch : ℕ) → why ≡ fault.EpochEnd epoch → NotOpened live entries given back why → live.epoch ≡ last_epoch
refused_epoch live entries given back (fault.EpochEnd e) epoch is n = n.0
refused_epoch live entries given back fault.Failed epoch is n = absurd (cc is)
refused_epoch live entries given back fault.NoMemory epoch is n = absurd (cc is)

pub refused_low : (live : Live) (entries : List Entry) (given back : DiskSeen) (why : OpenFault) → ((epoch : ℕ) → why ≡ fault.EpochEnd epoch → ⊥) → NotOpened live entries given back why → live.epoch < last_epoch
refused_low live entries given back (fault.EpochEnd epoch) o n = absurd (o epoch refl)
refused_low live entries given back fault.Failed o n = n.0
refused_low live entries given back fault.NoMemory o n = n.0

pub refused_same : (live : Live) (entries : List Entry) (given back : DiskSeen) (why : OpenFault) → (why ≡ fault.Failed → ⊥) → NotOpened live entries given back why → back ≡ given
refused_same live entries given back (fault.EpochEnd epoch) o n = n.2
refused_same live entries given back fault.Failed o n = absurd (o refl)
refused_same live entries given back fault.NoMemory o n = n.1

pub kept_same : (kept : Option DiskSeen) (given back : DiskSeen) → back ≡ given → kept ≡ Some given → kept ≡ Some back
kept_same kept given back e is = is ∙ ap (λ (d : DiskSeen). Some d) (sym e)

-- ---- one journal that isn't opened
ends_alone : (a b : YardSeen) (store : StorePlan) (start : Start) (before now : List BookSeen) (p q : Printing) (text : List ℕ) (result : Status) → now ≡ before → a.out ≡ one_more b.out AtDisk store.journal → ReopenStop a b start 0 text result
    → ((path : List ℕ) → (path ≡ start.journal → ⊥) → kept_at b.disks path ≡ kept_at a.disks path) → Says p q text → ReopeningEndsAt a b store start before now p q result
ends_alone a b store start before now p q text result e o stop others said = record {
  more = [];
  books = e ∙ sym (append-nil before);
  opened = tt;
  out = λ besides is. one_more_cancel b.out besides AtDisk store.journal (sym o ∙ is);
  text = text;
  stop = stop;
  others = others;
  said = said;
}

pub ends_unreserved : {A : Type 0} (seen : A → BookSeen) (a b : YardSeen) (store : StorePlan) (start : Start) (was now : List A) (p : Printing) → now ≡ was → a.out ≡ one_more b.out AtDisk store.journal
    → ((path : List ℕ) → (path ≡ start.journal → ⊥) → kept_at b.disks path ≡ kept_at a.disks path) → ReopeningEndsAt a b store start (map seen was) (map seen now) p p status.NoMemory
ends_unreserved seen a b store start was now p e o others = ends_alone a b store start (map seen was) (map seen now) p p [] status.NoMemory (ap (map seen) e) o (memory_out (omega arith) refl refl) others (says_none p)

-- what is known of it
pub record Unopened (a b : YardSeen) (store : StorePlan) (start : Start) (why : NotReopened) : Type 0 where
  pub out : a.out ≡ one_more b.out AtDisk store.journal
  pub others : (path : List ℕ) → (path ≡ start.journal → ⊥) → kept_at b.disks path ≡ kept_at a.disks path
  pub epoch_end : why ≡ refusal.EpochEnd → start.epoch ≡ last_epoch + 1
  pub low : (why ≡ refusal.EpochEnd → ⊥) → IsLow start
  pub disk_fault : why ≡ refusal.Journal → IsTrue a.tells.keeps_disks → DiskRose a.disks b.disks start.journal
  pub disk_quiet : (why ≡ refusal.Journal → ⊥) → KeepsEach a.disks b.disks

pub low_next : (n k : ℕ) → n < k → n + 1 ≤ k
low_next n k less = omega (arith, less)

stop_said : (a b : YardSeen) (store : StorePlan) (start : Start) (why : NotReopened) (with result : Status) → start.id ≡ store.id → Unopened a b store start why → with ≡ refusal_status why → result ≡ with → ReopenStop a b start 0 (refusal_line store why) result
stop_said a b store start refusal.EpochEnd with result i u w is = last_is_over (u.epoch_end refl) (u.disk_quiet (λ e. cc)) refl (ap (λ (id : StoreId). refusal_line (record store { id = id }) refusal.EpochEnd) (sym i)) (is ∙ w)
stop_said a b store start refusal.Journal with result i u w is = not_reopened (u.low (λ e. cc)) (u.disk_fault refl) refl (ap (λ (id : StoreId). refusal_line (record store { id = id }) refusal.Journal) (sym i)) (is ∙ w)
stop_said a b store start refusal.NoMemory with result i u w is = memory_out (omega arith) refl (is ∙ w)

pub ends_unopened : {A : Type 0} (seen : A → BookSeen) (a b : YardSeen) (store : StorePlan) (start : Start) (was now : List A) (p q : Printing) (why : NotReopened) (result : Status) → start.id ≡ store.id → now ≡ was → Unopened a b store start why
    → SaysOr (refusal_line store why) (refusal_status why) result p q → ReopeningEndsAt a b store start (map seen was) (map seen now) p q result
ends_unopened seen a b store start was now p q why result i e u (inl s) =
    ends_alone a b store start (map seen was) (map seen now) p q (refusal_line store why) result (ap (map seen) e) u.out (stop_said a b store start why (refusal_status why) result i u refl s.0) u.others s.1
ends_unopened seen a b store start was now p q why result i e u (inr s) = ends_alone a b store start (map seen was) (map seen now) p q [] result (ap (map seen) e) u.out (memory_out (omega arith) refl s.0) u.others s.1

pub quiet_refusal : (why : NotReopened) (result : Status) (p q : Printing) (store : StorePlan) → SaysOr (refusal_line store why) (refusal_status why) result p q → (result ≡ status.Journal → ⊥) → (result ≡ status.NoMemory → ⊥) → why ≡ refusal.Journal → ⊥
quiet_refusal why result p q store (inl s) j m e = j (s.0 ∙ ap refusal_status e)
quiet_refusal why result p q store (inr s) j m e = m s.0

-- ---- one journal that is opened
-- what is known of it
pub record Opened (a b : YardSeen) (start : Start) (before now : List BookSeen) (new : BookSeen) : Type 0 where
  pub book : now ≡ before ++ new ∷ []
  pub opened : IsOpenedNow a start new
  pub low : IsLow start
  pub same : b ≡ a

pub opened_said : (a b : YardSeen) (start : Start) (before now : List BookSeen) (new : BookSeen) (epoch : ℕ) (p q : Printing) (result : Status) → Opened a b start before now new → epoch ≡ start.epoch → SaysOr (opened_text start.id.name epoch) status.Good result p q → result ≡ status.Good
    → OneReopened a b start before now p q
opened_said a b start before now new epoch p q result o e (inl s) is =
    record { b = new; book = o.book; opened = o.opened; low = o.low; same = o.same; said = says_along p q _ _ (ap (opened_text start.id.name) e) s.1 }
opened_said a b start before now new epoch p q result o e (inr s) is = let wrong : status.NoMemory ≡ status.Good = sym s.0 ∙ is in absurd (cc wrong)

pub opened_unsaid : (a b : YardSeen) (store : StorePlan) (start : Start) (before now : List BookSeen) (new : BookSeen) (line : List ℕ) (p q : Printing) (result : Status) → Opened a b start before now new → SaysOr line status.Good result p q
    → (result ≡ status.Good → ⊥) → ReopeningEndsAt a b store start before now p q result
opened_unsaid a b store start before now new line p q result o (inl s) isnt = absurd (isnt s.0)
opened_unsaid a b store start before now new line p q result o (inr s) isnt = record {
  more = new ∷ [];
  books = o.book;
  opened = (o.opened, tt);
  out = λ besides is. ap (λ (y : YardSeen). y.out) o.same ∙ is;
  text = [];
  stop = memory_out (omega arith) refl s.0;
  others = λ path other. ap (λ (y : YardSeen). kept_at y.disks path) o.same;
  said = s.1;
}

pub grows_same : (starts : List Start) (old new : Kept DiskSeen) → KeepsEach old new → ChangesOnlyJournals starts old new
grows_same starts old new same path = stays (same path)

-- ---- the first of lists
pub ready_first : (stores : List StorePlan) (store : StorePlan) (rest : List StorePlan) (disks : List DiskSeen) (disk : DiskSeen) (more : List DiskSeen) (found : List Recovered) (one : Recovered) (others : List Recovered) (settled : List (List Entry)) (entries : List Entry) (left : List (List Entry))
    → stores ≡ store ∷ rest → disks ≡ disk ∷ more → found ≡ one ∷ others → settled ≡ entries ∷ left → AreReady stores disks found settled → CanReopen store disk one.live entries × AreReady rest more others left
ready_first stores store rest disks disk more found one others settled entries left e f g h ready =
    subst (AreReady (store ∷ rest) (disk ∷ more) (one ∷ others)) h
    (subst (λ (x : List Recovered). AreReady (store ∷ rest) (disk ∷ more) x settled) g (subst (λ (x : List DiskSeen). AreReady (store ∷ rest) x found settled) f (subst (λ (x : List StorePlan). AreReady x disks found settled) e ready)))

pub kept_first : (kept : Kept DiskSeen) (stores : List StorePlan) (store : StorePlan) (rest : List StorePlan) (disks : List DiskSeen) (disk : DiskSeen) (more : List DiskSeen) → stores ≡ store ∷ rest → disks ≡ disk ∷ more → AreStillKept kept stores disks
    → (kept_at kept store.journal ≡ Some disk) × AreStillKept kept rest more
kept_first kept stores store rest disks disk more e f is = subst (AreStillKept kept (store ∷ rest)) f (subst (λ (x : List StorePlan). AreStillKept kept x disks) e is)

pub starts_first : (stores : List StorePlan) (store : StorePlan) (rest : List StorePlan) (found : List Recovered) (one : Recovered) (others : List Recovered) (settled : List (List Entry)) (entries : List Entry) (left : List (List Entry))
    → stores ≡ store ∷ rest → found ≡ one ∷ others → settled ≡ entries ∷ left → next_starts stores found settled ≡ next_start store one.live entries ∷ next_starts rest others left
starts_first stores store rest found one others settled entries left e g h =
    ap (λ (x : List StorePlan). next_starts x found settled) e ∙ ap (λ (x : List Recovered). next_starts (store ∷ rest) x settled) g ∙ ap (next_starts (store ∷ rest) (one ∷ others)) h

starts_none : (stores : List StorePlan) (found : List Recovered) (settled : List (List Entry)) → stores ≡ [] → next_starts stores found settled ≡ []
starts_none stores found settled e = ap (λ (x : List StorePlan). next_starts x found settled) e

-- ---- what is out
pub first_out : (out : Out) (stores : List StorePlan) (store : StorePlan) (rest : List StorePlan) → stores ≡ store ∷ rest → JournalsAreOut out stores → 1 ≤ out_at out AtDisk store.journal
first_out out stores store rest e (journals_are_out before is) =
    let left = out_besides before rest in
    let same : out ≡ one_more left AtDisk store.journal = is ∙ ap (out_besides before) e ∙ out_in_any_order before AtDisk store.journal rest in
    let count : out_at out AtDisk store.journal ≡ out_at left AtDisk store.journal + 1 = ap (λ (o : Out). out_at o AtDisk store.journal) same ∙ one_more_here left AtDisk store.journal in
    omega (arith, count)

-- the disks behind the first, where that is in a book
pub rest_open : (out new : Out) (stores : List StorePlan) (store : StorePlan) (rest : List StorePlan) → stores ≡ store ∷ rest → new ≡ out → JournalsAreOut out stores → JournalsAreOut new rest
rest_open out new stores store rest e same (journals_are_out before is) = journals_are_out (one_more before AtDisk store.journal) (same ∙ is ∙ ap (out_besides before) e)

first_besides : (out before : Out) (stores : List StorePlan) (store : StorePlan) (rest : List StorePlan) → stores ≡ store ∷ rest → out ≡ out_besides before stores → out ≡ one_more (out_besides before rest) AtDisk store.journal
first_besides out before stores store rest e is = is ∙ ap (out_besides before) e ∙ out_in_any_order before AtDisk store.journal rest

-- where opening stopped at the first: what was out before, without the disks of all these
stopped_besides : (a b : YardSeen) (stores : List StorePlan) (store : StorePlan) (rest : List StorePlan) (start : Start) (before now : List BookSeen) (p q : Printing) (result : Status) (besides : Out) → stores ≡ store ∷ rest → (s : ReopeningEndsAt a b store start before now p q result) → a.out ≡ out_besides besides stores
    → b.out ≡ out_besides (out_besides besides (take (length s.more) (store ∷ []))) rest
stopped_besides a b stores store rest start before now p q result besides e s is =
    s.out (out_besides besides rest) (first_besides a.out besides stores store rest e is) ∙ out_swap besides (take (length s.more) (store ∷ [])) rest

pub rest_stopped : (a b : YardSeen) (stores : List StorePlan) (store : StorePlan) (rest : List StorePlan) (start : Start) (before now : List BookSeen) (p q : Printing) (result : Status) → stores ≡ store ∷ rest → ReopeningEndsAt a b store start before now p q result → JournalsAreOut a.out stores → JournalsAreOut b.out rest
rest_stopped a b stores store rest start before now p q result e s (journals_are_out besides is) = journals_are_out (out_besides besides (take (length s.more) (store ∷ []))) (stopped_besides a b stores store rest start before now p q result besides e s is)

pub taken_all : {A : Type 0} (out : Out) (stores : List StorePlan) (xs : List A) → length xs ≡ length stores → JournalsAreOut out stores → JournalsAreOut out (take (length xs) stores)
taken_all out stores xs many are = subst (JournalsAreOut out) (sym (ap (λ n. take n stores) many ∙ take_all (length stores) stores (omega arith))) are

-- what a yard gave back: all disks behind the first
pub back_of_all : {A : Type 0} (old new : Out) (stores : List StorePlan) (xs : List A) → ((before : Out) → old ≡ out_besides before (take (length xs) stores) → new ≡ before) → length xs ≡ length stores → (before : Out) → old ≡ out_besides before stores → new ≡ before
back_of_all old new stores xs back many before is = back before (is ∙ ap (out_besides before) (sym (ap (λ n. take n stores) many ∙ take_all (length stores) stores (omega arith))))

-- ---- disks that are as they were kept
pub rest_kept : (a b : YardSeen) (stores : List StorePlan) (disks : List DiskSeen) → b ≡ a → (IsTrue a.tells.keeps_disks → AreStillKept a.disks stores disks) → IsTrue b.tells.keeps_disks → AreStillKept b.disks stores disks
rest_kept a b stores disks e kept told = subst (λ (y : YardSeen). AreStillKept y.disks stores disks) (sym e) (kept (subst (λ (y : YardSeen). IsTrue y.tells.keeps_disks) e told))

apart_skip : (first second : StorePlan) (stores : List StorePlan) → AreJournalsApart (first ∷ second ∷ stores) → AreJournalsApart (first ∷ stores)
apart_skip first second stores apart zero zero d less within = absurd (omega (arith, less))
apart_skip first second stores apart zero (suc j) d less within = apart 0 (suc (suc j)) d (omega arith) (omega (arith, within))
apart_skip first second stores apart (suc i) zero d less within = absurd (omega (arith, less))
apart_skip first second stores apart (suc i) (suc j) d less within = apart (suc (suc i)) (suc (suc j)) d (omega (arith, less)) (omega (arith, within))

still_others : (old new : Kept DiskSeen) (first : StorePlan) (stores : List StorePlan) (disks : List DiskSeen) → AreJournalsApart (first ∷ stores) → ((path : List ℕ) → (path ≡ first.journal → ⊥) → kept_at new path ≡ kept_at old path) → AreStillKept old stores disks → AreStillKept new stores disks
still_others old new first stores [] apart others kept = tt
still_others old new first [] (disk ∷ disks) apart others kept = absurd kept
still_others old new first (store ∷ stores) (disk ∷ disks) apart others kept =
    (others store.journal (λ e. apart_first first (store ∷ stores) apart 0 store refl (sym e)) ∙ kept.0, still_others old new first stores disks (apart_skip first store stores apart) others kept.1)

-- The disks behind the first are still so where opening stopped at that one.
pub still_first : (a b : YardSeen) (stores : List StorePlan) (store : StorePlan) (rest : List StorePlan) (disks : List DiskSeen) → stores ≡ store ∷ rest → AreJournalsApart stores → LeavesRest a b
    → ((path : List ℕ) → (path ≡ store.journal → ⊥) → kept_at b.disks path ≡ kept_at a.disks path) → (IsTrue a.tells.keeps_disks → AreStillKept a.disks rest disks) → IsTrue b.tells.keeps_disks → AreStillKept b.disks rest disks
still_first a b stores store rest disks e apart rests others kept told =
    still_others a.disks b.disks store rest disks (subst AreJournalsApart e apart) others (kept (subst (λ (t : Tells). IsTrue t.keeps_disks) rests.tells told))

-- ---- the journals of stores
none_reopened : (a : YardSeen) (before : List BookSeen) (p : Printing) → AllReopened a a [] before before p p
none_reopened a before p = record {
  more = [];
  one_each = refl;
  books = sym (append-nil before);
  opened = tt;
  low = All-nil IsLow;
  same = refl;
  said = says_none p;
}

pub reopened_none : (a : YardSeen) (stores : List StorePlan) (found : List Recovered) (settled : List (List Entry)) (before : List BookSeen) (p : Printing) → stores ≡ [] → AllReopened a a (next_starts stores found settled) before before p p
reopened_none a stores found settled before p e = subst (λ (s : List Start). AllReopened a a s before before p p) (sym (starts_none stores found settled e)) (none_reopened a before p)

opened_of : (a b : YardSeen) (starts : List Start) (more : List BookSeen) → b ≡ a → AreOpenedNow b starts more → AreOpenedNow a starts more
opened_of a b starts more e o = subst (λ (y : YardSeen). AreOpenedNow y starts more) e o

reopened_there : (a b c : YardSeen) (start : Start) (starts : List Start) (before mid now : List BookSeen) (p q r : Printing) → OneReopened a b start before mid p q → AllReopened b c starts mid now q r → AllReopened a c (start ∷ starts) before now p r
reopened_there a b c start starts before mid now p q r one all = record {
  more = one.b ∷ all.more;
  one_each = ap suc all.one_each;
  books = all.books ∙ ap (λ (h : List BookSeen). h ++ all.more) one.book ∙ append_assoc before (one.b ∷ []) all.more;
  opened = (one.opened, opened_of a b starts all.more one.same all.opened);
  low = All-cons IsLow start starts one.low all.low;
  same = all.same ∙ one.same;
  said = says_then p q r (opened_text start.id.name start.epoch) (starts_text starts) one.said all.said;
}

pub reopened_more : {T E : Type 0} (result : Result T E) (a b c : YardSeen) (all : List Start) (start : Start) (starts : List Start) (before mid now : List BookSeen) (p q r : Printing) → all ≡ start ∷ starts → OneReopened a b start before mid p q
    → OnOk result (AllReopened b c starts mid now q r) → OnOk result (AllReopened a c all before now p r)
reopened_more (Err f) a b c all start starts before mid now p q r e one o = tt
reopened_more (Ok v) a b c all start starts before mid now p q r e one o = subst (λ (s : List Start). AllReopened a c s before now p r) (sym e) (reopened_there a b c start starts before mid now p q r one o)

opened_more : (a : YardSeen) (start : Start) (starts : List Start) (more : List BookSeen) → AreOpenedNow a (start ∷ []) more → AreOpenedNow a (start ∷ starts) more
opened_more a start starts [] m = tt
opened_more a start starts (new ∷ []) m = (m.0, tt)
opened_more a start starts (new ∷ other ∷ more) m = absurd m.1

take_more : (a : YardSeen) (start : Start) (store : StorePlan) (rest : List StorePlan) (more : List BookSeen) → AreOpenedNow a (start ∷ []) more → take (length more) (store ∷ []) ≡ take (length more) (store ∷ rest)
take_more a start store rest [] m = refl
take_more a start store rest (new ∷ []) m = refl
take_more a start store rest (new ∷ other ∷ more) m = absurd m.1

stop_later : (a b c : YardSeen) (start : Start) (opens : ℕ) (text : List ℕ) (result : Status) → KeepsEach b.disks c.disks → ReopenStop a b start opens text result → ReopenStop a c start opens text result
stop_later a b c start opens text result same (last_is_over l k o t s) = last_is_over l (λ path. same path ∙ k path) o t s
stop_later a b c start opens text result same (not_reopened l r o t s) =
    not_reopened l (λ told. let d = r told in record { disk = d.disk; kept = same start.journal ∙ d.kept; rose = d.rose }) o t s
stop_later a b c start opens text result same (memory_out o t s) = memory_out o t s

-- It stops at the first, and then the other disks came back as they were kept.
ends_in_front : (a b c : YardSeen) (stores : List StorePlan) (store : StorePlan) (rest : List StorePlan) (start : Start) (starts : List Start) (before now : List BookSeen) (p q : Printing) (result : Status) → stores ≡ store ∷ rest → ReopeningEndsAt a b store start before now p q result
    → ((besides : Out) → b.out ≡ out_besides besides rest → c.out ≡ besides) → KeepsEach b.disks c.disks → ReopeningEnds a c stores (start ∷ starts) before now p q result
ends_in_front a b c stores store rest start starts before now p q result e s back same = record {
  place = 0;
  start = start;
  there = refl;
  more = s.more;
  opens = length s.more;
  so_many = omega arith;
  books = s.books;
  opened = opened_more a start starts s.more s.opened;
  low = All-nil IsLow;
  out = λ besides is.
      back (out_besides besides (take (length s.more) (store ∷ []))) (stopped_besides a b stores store rest start before now p q result besides e s is)
      ∙ ap (out_besides besides) (take_more a start store rest s.more s.opened ∙ ap (take (length s.more)) (sym e));
  text = s.text;
  stop = stop_later a b c start (length s.more) s.text result same s.stop;
  others = λ path other. same path ∙ s.others path other;
  said = s.said;
}

pub ends_here : (a b c : YardSeen) (stores : List StorePlan) (store : StorePlan) (rest : List StorePlan) (all : List Start) (start : Start) (starts : List Start) (before now : List BookSeen) (p q : Printing) (result : Status) → stores ≡ store ∷ rest → all ≡ start ∷ starts
    → ReopeningEndsAt a b store start before now p q result → ((besides : Out) → b.out ≡ out_besides besides rest → c.out ≡ besides) → KeepsEach b.disks c.disks → ReopeningEnds a c stores all before now p q result
ends_here a b c stores store rest all start starts before now p q result e f s back same =
    subst (λ (x : List Start). ReopeningEnds a c stores x before now p q result) (sym f) (ends_in_front a b c stores store rest start starts before now p q result e s back same)

stop_earlier : (a b c : YardSeen) (start : Start) (opens : ℕ) (text : List ℕ) (result : Status) → b ≡ a → ReopenStop b c start opens text result → ReopenStop a c start opens text result
stop_earlier a b c start opens text result e s = subst (λ (y : YardSeen). ReopenStop y c start opens text result) e s

one_longer : (n place opens : ℕ) → n ≡ place + opens → suc n ≡ suc place + opens
one_longer n place opens e = omega arith

ends_there : (a b c : YardSeen) (stores : List StorePlan) (store : StorePlan) (rest : List StorePlan) (start : Start) (starts : List Start) (before mid now : List BookSeen) (p q r : Printing) (result : Status) → stores ≡ store ∷ rest → OneReopened a b start before mid p q
    → ReopeningEnds b c rest starts mid now q r result → ReopeningEnds a c stores (start ∷ starts) before now p r result
ends_there a b c stores store rest start starts before mid now p q r result e one s = record {
  place = suc s.place;
  start = s.start;
  there = place_later start s.start starts s.place s.there;
  more = one.b ∷ s.more;
  opens = s.opens;
  so_many = one_longer (length s.more) s.place s.opens s.so_many;
  books = s.books ∙ ap (λ (h : List BookSeen). h ++ s.more) one.book ∙ append_assoc before (one.b ∷ []) s.more;
  opened = (one.opened, opened_of a b starts s.more one.same s.opened);
  low = All-cons IsLow start (take s.place starts) one.low s.low;
  out = λ besides is.
      s.out (one_more besides AtDisk store.journal) (ap (λ (y : YardSeen). y.out) one.same ∙ is ∙ ap (out_besides besides) e)
      ∙ ap (λ (x : List StorePlan). out_besides besides (take (length (one.b ∷ s.more)) x)) (sym e);
  text = s.text;
  stop = stop_earlier a b c s.start s.opens s.text result one.same s.stop;
  others = λ path other. s.others path other ∙ ap (λ (y : YardSeen). kept_at y.disks path) one.same;
  said = says_along p r _ _ (sym (append_assoc (opened_text start.id.name start.epoch) (starts_text (take s.place starts)) s.text)) (says_then p q r (opened_text start.id.name start.epoch) (starts_text (take s.place starts) ++ s.text) one.said s.said);
}

pub ends_more : {T : Type 0} (result : Result T Status) (a b c : YardSeen) (stores : List StorePlan) (store : StorePlan) (rest : List StorePlan) (all : List Start) (start : Start) (starts : List Start) (before mid now : List BookSeen) (p q r : Printing) → stores ≡ store ∷ rest → all ≡ start ∷ starts
    → OneReopened a b start before mid p q → IfErr result (λ (s : Status). ReopeningEnds b c rest starts mid now q r s) → IfErr result (λ (s : Status). ReopeningEnds a c stores all before now p r s)
ends_more (Ok v) a b c stores store rest all start starts before mid now p q r e f one s = tt
ends_more (Err k) a b c stores store rest all start starts before mid now p q r e f one s =
    subst (λ (x : List Start). ReopeningEnds a c stores x before now p r k) (sym f) (ends_there a b c stores store rest start starts before mid now p q r k e one s)

-- ---- the disks on which they are opened
pub none_opened : {A : Type 0} (seen : A → BookSeen) (disks : List DiskSeen) (was now : List A) → now ≡ was → (more : List BookSeen) × (map seen now ≡ map seen was ++ more) × AreOpenedOn disks more
none_opened seen disks was now e = ([], ap (map seen) e ∙ sym (append-nil (map seen was)), tt)

pub disks_more : (all : List DiskSeen) (first : DiskSeen) (disks : List DiskSeen) (was mid now : List BookSeen) → all ≡ first ∷ disks → (b : BookSeen) × (mid ≡ was ++ b ∷ []) × IsOpenedOn first b
    → (more : List BookSeen) × (now ≡ mid ++ more) × AreOpenedOn disks more → (more : List BookSeen) × (now ≡ was ++ more) × AreOpenedOn all more
disks_more all first disks was mid now e (b, book, its) (more, books, rest) =
    (b ∷ more, books ∙ ap (λ (h : List BookSeen). h ++ more) book ∙ append_assoc was (b ∷ []) more, subst (λ (d : List DiskSeen). AreOpenedOn d (b ∷ more)) (sym e) (its, rest))

on_more : (first : DiskSeen) (disks : List DiskSeen) (more : List BookSeen) → AreOpenedOn (first ∷ []) more → AreOpenedOn (first ∷ disks) more
on_more first disks [] on = tt
on_more first disks (b ∷ []) on = (on.0, tt)
on_more first disks (b ∷ other ∷ more) on = absurd on.1

pub disks_first : (all : List DiskSeen) (first : DiskSeen) (disks : List DiskSeen) (was now : List BookSeen) → all ≡ first ∷ disks → (more : List BookSeen) × (now ≡ was ++ more) × AreOpenedOn (first ∷ []) more
    → (more : List BookSeen) × (now ≡ was ++ more) × AreOpenedOn all more
disks_first all first disks was now e (more, books, on) = (more, books, subst (λ (d : List DiskSeen). AreOpenedOn d more) (sym e) (on_more first disks more on))

-- ---- what changes of the kept disks
becomes_later : (starts : List Start) (first old new : Kept DiskSeen) (path : List ℕ) → kept_at new path ≡ kept_at old path → Becomes starts first old path → Becomes starts first new path
becomes_later starts first old new path e (stays same) = stays (e ∙ same)
becomes_later starts first old new path e (is_journal j) =
    is_journal (record { place = j.place; start = j.start; there = j.there; its_path = j.its_path; disk = j.disk; kept = e ∙ j.kept; journaled = j.journaled })
becomes_later starts first old new path e (was_read r) = was_read (record { was = r.was; had = r.had; disk = r.disk; kept = e ∙ r.kept; same = r.same; later = r.later })

pub grows_first : (all : List Start) (start : Start) (starts : List Start) (a b c : Kept DiskSeen) → all ≡ start ∷ starts → ChangesOnlyJournals (start ∷ []) a b → KeepsEach b c → ChangesOnlyJournals all a c
grows_first all start starts a b c e grown same =
    subst (λ (s : List Start). ChangesOnlyJournals s a c) (sym e) (λ path. becomes_later (start ∷ starts) a b c path (same path) (path_among (start ∷ []) (start ∷ starts) a b path (first_among start starts) (grown path)))

pub grows_more : (all : List Start) (start : Start) (starts : List Start) (a b c : Kept DiskSeen) → all ≡ start ∷ starts → b ≡ a → ChangesOnlyJournals starts b c → ChangesOnlyJournals all a c
grows_more all start starts a b c e same grown =
    subst (λ (s : List Start). ChangesOnlyJournals s a c) (sym e)
    (λ path. path_among starts (start ∷ starts) a c path (λ place one is. (suc place, place_later start one starts place is)) (subst (λ (k : Kept DiskSeen). ChangesOnlyJournals starts k c) same grown path))

-- ---- what stands open where none were there before
next_of_stores : (stores : List StorePlan) (disks : List DiskSeen) (found : List Recovered) (settled : List (List Entry)) → AreReady stores disks found settled → AreStartsOf stores (next_starts stores found settled) × (length (next_starts stores found settled) ≡ length stores)
next_of_stores [] [] [] [] ready = (tt, refl)
next_of_stores [] [] [] (entries ∷ settled) ready = absurd ready
next_of_stores [] [] (one ∷ found) settled ready = absurd ready
next_of_stores [] (disk ∷ disks) found settled ready = absurd ready
next_of_stores (store ∷ stores) [] found settled ready = absurd ready
next_of_stores (store ∷ stores) (disk ∷ disks) [] settled ready = absurd ready
next_of_stores (store ∷ stores) (disk ∷ disks) (one ∷ found) [] ready = absurd ready
next_of_stores (store ∷ stores) (disk ∷ disks) (one ∷ found) (entries ∷ settled) ready =
    let rest = next_of_stores stores disks found settled ready.1 in ((record { its_path = refl; its_id = refl }, rest.0), ap suc rest.1)

few_opened : (a : YardSeen) (starts : List Start) (books : List BookSeen) → AreOpenedNow a starts books → length books ≤ length starts
few_opened a starts [] o = omega arith
few_opened a [] (b ∷ books) o = absurd o
few_opened a (start ∷ starts) (b ∷ books) o = let rest = few_opened a starts books o.1 in omega (arith, rest)

stand_of : (a c : YardSeen) (stores : List StorePlan) (starts : List Start) (before now more : List BookSeen) → AreStartsOf stores starts → length starts ≡ length stores → before ≡ [] → now ≡ before ++ more → ((besides : Out) → a.out ≡ out_besides besides stores → c.out ≡ out_besides besides (take (length more) stores))
    → AreOpenedNow a starts more → StandReopened a c stores starts (length now) now
stand_of a c stores starts before now more are many none e out opened =
    let same : now ≡ more = e ∙ ap (λ (h : List BookSeen). h ++ more) none in
    subst (λ (h : List BookSeen). StandReopened a c stores starts (length h) h) (sym same) (record {
      few = let few = few_opened a starts more opened in omega (arith, few, many);
      out = out;
      opened = opened;
      from = opened_from a stores starts more are opened;
    })

stand_either : {T : Type 0} (result : Result T Status) (a c : YardSeen) (stores : List StorePlan) (starts : List Start) (before now : List BookSeen) (p q : Printing) → AreStartsOf stores starts → length starts ≡ length stores → OnOk result (AllReopened a c starts before now p q)
    → IfErr result (λ (s : Status). ReopeningEnds a c stores starts before now p q s) → before ≡ [] → StandReopened a c stores starts (length now) now
stand_either (Ok v) a c stores starts before now p q are many o s none =
    stand_of a c stores starts before now o.more are many none o.books
    (λ besides is. ap (λ (y : YardSeen). y.out) o.same ∙ is ∙ ap (out_besides besides) (sym (take_all (length o.more) stores (let each = o.one_each in omega (arith, each, many))))) o.opened
stand_either (Err f) a c stores starts before now p q are many o s none = stand_of a c stores starts before now s.more are many none s.books s.out s.opened

none_seen : {A : Type 0} (seen : A → BookSeen) (was : List A) → length was ≡ 0 → map seen was ≡ []
none_seen seen [] none = refl
none_seen seen (x ∷ xs) none = absurd (omega (arith, none))

pub stand_open : {A T : Type 0} (seen : A → BookSeen) (was now : List A) (result : Result T Status) (a c : YardSeen) (stores : List StorePlan) (disks : List DiskSeen) (found : List Recovered) (settled : List (List Entry)) (p q : Printing) → AreReady stores disks found settled
    → OnOk result (AllReopened a c (next_starts stores found settled) (map seen was) (map seen now) p q) → IfErr result (λ (s : Status). ReopeningEnds a c stores (next_starts stores found settled) (map seen was) (map seen now) p q s) → length was ≡ 0
    → StandReopened a c stores (next_starts stores found settled) (length now) (map seen now)
stand_open seen was now result a c stores disks found settled p q ready o s none =
    let are = next_of_stores stores disks found settled ready in
    subst (λ n. StandReopened a c stores (next_starts stores found settled) n (map seen now)) (length-map now seen)
    (stand_either result a c stores (next_starts stores found settled) (map seen was) (map seen now) p q are.0 are.1 o s (none_seen seen was none))

pub stand_stopped : {A : Type 0} (seen : A → BookSeen) (was now : List A) (result : Status) (a c : YardSeen) (stores : List StorePlan) (disks : List DiskSeen) (found : List Recovered) (settled : List (List Entry)) (p q : Printing) → AreReady stores disks found settled
    → ReopeningEnds a c stores (next_starts stores found settled) (map seen was) (map seen now) p q result → length was ≡ 0 → StandReopened a c stores (next_starts stores found settled) (length now) (map seen now)
stand_stopped seen was now result a c stores disks found settled p q ready s none =
    let are = next_of_stores stores disks found settled ready in
    subst (λ n. StandReopened a c stores (next_starts stores found settled) n (map seen now)) (length-map now seen)
    (stand_of a c stores (next_starts stores found settled) (map seen was) (map seen now) s.more are.0 are.1 (none_seen seen was none) s.books s.out s.opened)

pub rest_long : {A : Type 0} (stores : List StorePlan) (store : StorePlan) (rest : List StorePlan) (xs : List A) (x : A) (ys : List A) → stores ≡ store ∷ rest → xs ≡ x ∷ ys → length xs ≡ length stores → length ys ≡ length rest
rest_long stores store rest xs x ys e f many =
    let all : length stores ≡ suc (length rest) = ap length e in
    let some : length xs ≡ suc (length ys) = ap length f in
    omega (arith, all, some, many)
