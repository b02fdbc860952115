-- From one store's journal that is made or not to those of all stores.
use Rattle.std.proofs.Common.{◌≡◌, ◌≤◌, inl, inr, ℕ, suc, ◌+◌, false, IsTrue, List, [], ◌∷◌, ◌++◌, length, map, take, refl, sym, ◌∙◌, ap, subst, append_assoc, append-nil, arith, Result, Ok, Err, IfOk}
use Rattle.std.specs.Prelude.{Option, Some, OnOk, IfErr}
use Rattle.std.proofs.lemmas.List.{length-map, map-append, take_all}
use Rattle.vd_outside.specs.Causes.{Rose}
use Rattle.vd_outside.specs.declared.text.NoMemory.{NoMemory}
use Rattle.vd_disk.specs.Disk.{DiskSeen, Extends}
use Rattle.vd_yard.specs.Kept.{Kept, kept_at}
use Rattle.vd_yard.specs.Out.{Out, AtDisk, one_more}
use Rattle.vd_yard.specs.Yard.{YardSeen, Tells}
use Rattle.plan_types.specs.declared.store.StorePlan.{StorePlan}
use Rattle.key_state.specs.declared.seen.BookSeen.{BookSeen}
use Rattle.journal_core.specs.Calls.{IsOpened, NotMade}
use Rattle.journal_core.specs.Keeps.{Memory, new_live}
use Rattle.journal_core.specs.Seen.{stopped_at}
use Rattle.journal_core.specs.declared.fault.OpenFault.{OpenFault}
use Rattle.journal_core.specs.declared.fault.OpenFault.TheVariants as fault
use Rattle.run_report.specs.Lines.{opened_text}
use Rattle.run_report.specs.Says.{Printing, Says, says_along, says_none, says_then}
use Rattle.run_report.specs.declared.status.Status.{Status}
use Rattle.run_report.specs.declared.status.Status.TheVariants as status
use Rattle.still_plan.specs.Lines.{SaysLine, SaysOr}
use Rattle.plan_journals.specs.declared.opening.NotOpened.{NotOpened}
use Rattle.plan_journals.specs.declared.opening.NotOpened.TheVariants as refusal
use Rattle.plan_journals.specs.Growth.{DiskRose, Journaled, LeavesRest, given_back, not_opened}
use Rattle.plan_journals.specs.Open.{AreMade, CameFrom, Held, IsHanded, IsMade, IsOpenedNow, Start, live_of, never_written, new_start, seen_held, out_besides}
use Rattle.plan_journals.proofs.Beginnings.{KeepsStory, opened_only}
use Rattle.plan_journals.proofs.Books.{made_from}
use Rattle.plan_journals.specs.Opening.{AllOpened, OneOpened, OpeningEndsAt, OpenStop, StandOpen, OpeningEnds, memory_out, opened_lines, refusal_line, refusal_status, unmade, unopened}
use Rattle.plan_journals.proofs.Places.{place_later}

pub says_or : (line : Result (List ℕ) NoMemory) (want : List ℕ) (with result : Status) (a b : Printing) → IfOk line (λ l. l ≡ want) → SaysLine line with result a b → SaysOr want with result a b
says_or (Ok line) want with result a b e p = inl (p.0, says_along a b line want e p.1)
says_or (Err e) want with result a b is p = inr p

-- ---- one journal that is opened
pub opened_now : (yard : YardSeen) (start : Start) (given : DiskSeen) (held : Held) → IsOpened given held.began held.opened held.disk held.memory (live_of start) start.entries → (seen_held held).shut ≡ false
    → (IsTrue yard.tells.keeps_disks → IsHanded (kept_at yard.disks start.journal) given) → KeepsStory held → IsOpenedNow yard start (seen_held held)
opened_now yard start given held o ready hands keeps = record {
  opened = record {
    its_id = ap (λ (b : Memory). Some b.live.id) o.memory;
    its_logs = ap (λ (b : Memory). b.live.log_sectors) o.memory;
    its_epoch = ap (λ (b : Memory). b.first_epoch) o.memory;
    its_entries = ap (λ (b : Memory). b.first_entries) o.memory;
    only = opened_only start given held o keeps;
    unasked = ap (λ (b : Memory). b.asked) o.memory;
  };
  fresh = record {
    now = ap (λ (b : Memory). b.entries) o.memory;
    synced = ap (λ (b : Memory). b.kept) o.memory;
    epoch = ap (λ (b : Memory). b.live.epoch) o.memory;
    faults = o.faults ∙ sym (ap (λ (d : DiskSeen). d.faults) o.since);
    ends = ap (λ (b : Memory). b.ends) o.memory;
    clears = ap (λ (b : Memory). b.clears) o.memory;
    running = ap stopped_at o.memory;
    ready = ready;
  };
  came = λ t. record {
    handed = given;
    hands = hands t;
    its_moments = ap (λ (d : DiskSeen). d.moments) o.since;
    its_sectors = ap (λ (d : DiskSeen). d.told) o.since;
    its_faults = ap (λ (d : DiskSeen). d.faults) o.since;
    grown = subst (λ (d : DiskSeen). Extends given.moments d.moments) (sym o.ended) o.goes_on.earlier;
    later = o.goes_on.later;
  };
}

-- ---- one journal that isn't made
pub refused_disk : (store : StorePlan) (logs : ℕ) (kept : Option DiskSeen) (handed left : DiskSeen) (why : OpenFault) → IsHanded kept handed → NotMade (new_live store.id logs) (never_written store) handed left why → Journaled (new_start logs store) kept left
refused_disk store logs kept handed left (fault.EpochEnd epoch) h n = absurd n
refused_disk store logs kept handed left fault.Failed h n = not_opened handed h n.0 n.1 n.2
refused_disk store logs kept handed left fault.NoMemory h n = given_back (subst (IsHanded kept) (sym n) h)

pub refused_rose : (store : StorePlan) (logs : ℕ) (handed left : DiskSeen) (why : OpenFault) → (why ≡ fault.NoMemory → ⊥) → NotMade (new_live store.id logs) (never_written store) handed left why → Rose handed.faults left.faults
refused_rose store logs handed left (fault.EpochEnd epoch) o n = absurd n
refused_rose store logs handed left fault.Failed o n = n.0
refused_rose store logs handed left fault.NoMemory o n = absurd (o refl)

pub refused_same : (store : StorePlan) (logs : ℕ) (handed left : DiskSeen) (why : OpenFault) → why ≡ fault.NoMemory → NotMade (new_live store.id logs) (never_written store) handed left why → left ≡ handed
refused_same store logs handed left (fault.EpochEnd epoch) is n = absurd n
refused_same store logs handed left fault.Failed is n = absurd (cc is)
refused_same store logs handed left fault.NoMemory is n = n

pub stops_alone : (a b : YardSeen) (store : StorePlan) (logs : ℕ) (before now : List BookSeen) (p q : Printing) (text : List ℕ) (result : Status) → now ≡ before → b.out ≡ a.out
    → ((path : List ℕ) → (path ≡ store.journal → ⊥) → kept_at b.disks path ≡ kept_at a.disks path) → OpenStop a b store 0 text result → Says p q text → OpeningEndsAt a b store logs before now p q result
stops_alone a b store logs before now p q text result e o others stop said = record {
  more = [];
  books = e ∙ sym (append-nil before);
  made = tt;
  out = o;
  text = text;
  stop = stop;
  others = others;
  said = said;
}

pub stops_unreserved : {A : Type 0} (seen : A → BookSeen) (a : YardSeen) (store : StorePlan) (logs : ℕ) (was now : List A) (p : Printing) → now ≡ was → OpeningEndsAt a a store logs (map seen was) (map seen now) p p status.NoMemory
stops_unreserved seen a store logs was now p e =
    stops_alone a a store logs (map seen was) (map seen now) p p [] status.NoMemory (ap (map seen) e) refl (λ path other. refl) (memory_out (omega arith) refl refl) (says_none p)

-- what is known of a journal that isn't opened
pub record Unopened (a b : YardSeen) (store : StorePlan) (why : NotOpened) : Type 0 where
  pub out : b.out ≡ a.out
  pub others : (path : List ℕ) → (path ≡ store.journal → ⊥) → kept_at b.disks path ≡ kept_at a.disks path
  pub disk_fault : why ≡ refusal.Journal → IsTrue a.tells.keeps_disks → DiskRose a.disks b.disks store.journal
  pub disk_quiet : (why ≡ refusal.Journal → ⊥) → (why ≡ refusal.NoMemory → ⊥) → b.disks ≡ a.disks
  pub yard_fault : why ≡ refusal.Yard → Rose a.faults b.faults
  pub yard_quiet : (why ≡ refusal.Yard → ⊥) → b.faults ≡ a.faults
  pub willing : IsTrue a.willing → why ≡ refusal.Yard → ⊥

stop_said : (a b : YardSeen) (store : StorePlan) (why : NotOpened) (with result : Status) → Unopened a b store why → with ≡ refusal_status why → result ≡ with → OpenStop a b store 0 (refusal_line store why) result
stop_said a b store refusal.Yard with result u w is = unopened (u.yard_fault refl) (λ t. u.willing t refl) (u.disk_quiet (λ e. cc) (λ e. cc)) refl refl (is ∙ w)
stop_said a b store refusal.Journal with result u w is = unmade (u.disk_fault refl) (u.yard_quiet (λ e. cc)) refl refl (is ∙ w)
stop_said a b store refusal.NoMemory with result u w is = memory_out (omega arith) refl (is ∙ w)

pub stops_unopened : {A : Type 0} (seen : A → BookSeen) (a b : YardSeen) (store : StorePlan) (logs : ℕ) (was now : List A) (p q : Printing) (why : NotOpened) (result : Status) → now ≡ was → Unopened a b store why
    → SaysOr (refusal_line store why) (refusal_status why) result p q → OpeningEndsAt a b store logs (map seen was) (map seen now) p q result
stops_unopened seen a b store logs was now p q why result e u (inl s) =
    stops_alone a b store logs (map seen was) (map seen now) p q (refusal_line store why) result (ap (map seen) e) u.out u.others (stop_said a b store why (refusal_status why) result u refl s.0) s.1
stops_unopened seen a b store logs was now p q why result e u (inr s) = stops_alone a b store logs (map seen was) (map seen now) p q [] result (ap (map seen) e) u.out u.others (memory_out (omega arith) refl s.0) s.1

-- ---- one journal that is made
-- what is known of it
pub record Opened (a b : YardSeen) (store : StorePlan) (logs : ℕ) (before now : List BookSeen) (new : BookSeen) : Type 0 where
  pub book : now ≡ before ++ new ∷ []
  pub made : IsMade a store logs new
  pub out : b.out ≡ one_more a.out AtDisk store.journal
  pub disks : b.disks ≡ a.disks
  pub faults : b.faults ≡ a.faults

pub one_more_book : {A : Type 0} (seen : A → BookSeen) (was mid now : List A) (one : A) → mid ≡ was → now ≡ mid ++ one ∷ [] → map seen now ≡ map seen was ++ seen one ∷ []
one_more_book seen was mid now one e f = ap (map seen) (f ∙ ap (λ xs. xs ++ one ∷ []) e) ∙ map-append seen was (one ∷ [])

pub opened_unsaid : (a b : YardSeen) (store : StorePlan) (logs : ℕ) (before now : List BookSeen) (new : BookSeen) (p q : Printing) (result : Status) → Opened a b store logs before now new → SaysOr (opened_text store.id.name 0) status.Good result p q
    → (result ≡ status.Good → ⊥) → OpeningEndsAt a b store logs before now p q result
opened_unsaid a b store logs before now new p q result o (inl s) isnt = absurd (isnt s.0)
opened_unsaid a b store logs before now new p q result o (inr s) isnt = record {
  more = new ∷ [];
  books = o.book;
  made = (o.made, tt);
  out = o.out;
  text = [];
  stop = memory_out (omega arith) refl s.0;
  others = λ path other. ap (λ (k : Kept DiskSeen). kept_at k path) o.disks;
  said = s.1;
}

-- ---- the journals of stores
-- a yard that has what an earlier one had, but for what is out
pub record IsAfter (a b : YardSeen) : Type 0 where
  pub disks : b.disks ≡ a.disks
  pub faults : b.faults ≡ a.faults
  pub tells : b.tells ≡ a.tells
  pub willing : IsTrue a.willing → IsTrue b.willing

after_told : (a b : YardSeen) → IsAfter a b → IsTrue a.tells.keeps_disks → IsTrue b.tells.keeps_disks
after_told a b l told = subst (λ (t : Tells). IsTrue t.keeps_disks) (sym l.tells) told

made_earlier : (a b : YardSeen) (store : StorePlan) (logs : ℕ) (new : BookSeen) → IsAfter a b → IsMade b store logs new → IsMade a store logs new
made_earlier a b store logs new l m = record {
  opened = m.opened;
  fresh = m.fresh;
  came = λ told. subst (λ (k : Kept DiskSeen). CameFrom (kept_at k store.journal) new) l.disks (m.came (after_told a b l told));
}

are_made_earlier : (a b : YardSeen) (logs : ℕ) (stores : List StorePlan) (opens : List BookSeen) → IsAfter a b → AreMade b logs stores opens → AreMade a logs stores opens
are_made_earlier a b logs stores [] l m = tt
are_made_earlier a b logs [] (new ∷ more) l m = absurd m
are_made_earlier a b logs (store ∷ stores) (new ∷ more) l m = (made_earlier a b store logs new l m.0, are_made_earlier a b logs stores more l m.1)

rose_earlier : (a b c : ℕ) → b ≡ a → Rose b c → Rose a c
rose_earlier a b c e r = subst (λ (n : ℕ). Rose n c) e r

disk_rose_earlier : (old mid new : Kept DiskSeen) (path : List ℕ) → mid ≡ old → DiskRose mid new path → DiskRose old new path
disk_rose_earlier old mid new path e r = subst (λ (k : Kept DiskSeen). DiskRose k new path) e r

stop_earlier : (a b c : YardSeen) (store : StorePlan) (opens : ℕ) (text : List ℕ) (result : Status) → IsAfter a b → OpenStop b c store opens text result → OpenStop a c store opens text result
stop_earlier a b c store opens text result l (unopened r w d o t s) = unopened (rose_earlier a.faults b.faults c.faults l.faults r) (λ x. w (l.willing x)) (d ∙ l.disks) o t s
stop_earlier a b c store opens text result l (unmade r f o t s) = unmade (λ told. disk_rose_earlier a.disks b.disks c.disks store.journal l.disks (r (after_told a b l told))) (f ∙ l.faults) o t s
stop_earlier a b c store opens text result l (memory_out o t s) = memory_out o t s

none_opened : (a : YardSeen) (logs : ℕ) (before : List BookSeen) (p : Printing) → AllOpened a a [] logs before before p p
none_opened a logs before p = record {
  more = [];
  one_each = refl;
  books = sym (append-nil before);
  made = tt;
  out = refl;
  disks = refl;
  faults = refl;
  said = says_none p;
}

more_opened : (a b c : YardSeen) (store : StorePlan) (rest : List StorePlan) (logs : ℕ) (before mid now : List BookSeen) (p q r : Printing) → IsAfter a b → OneOpened a b store logs before mid p q → AllOpened b c rest logs mid now q r
    → AllOpened a c (store ∷ rest) logs before now p r
more_opened a b c store rest logs before mid now p q r l one all = record {
  more = one.b ∷ all.more;
  one_each = ap suc all.one_each;
  books = all.books ∙ ap (λ (h : List BookSeen). h ++ all.more) one.book ∙ append_assoc before (one.b ∷ []) all.more;
  made = (one.made, are_made_earlier a b logs rest all.more l all.made);
  out = all.out ∙ ap (λ (o : Out). out_besides o rest) one.out;
  disks = all.disks ∙ one.disks;
  faults = all.faults ∙ one.faults;
  said = says_then p q r (opened_text store.id.name 0) (opened_lines rest) one.said all.said;
}

made_of_more : (a : YardSeen) (logs : ℕ) (store : StorePlan) (rest : List StorePlan) (more : List BookSeen) → AreMade a logs (store ∷ []) more → AreMade a logs (store ∷ rest) more
made_of_more a logs store rest [] m = tt
made_of_more a logs store rest (new ∷ []) m = (m.0, tt)
made_of_more a logs store rest (new ∷ other ∷ more) m = absurd m.1

take_of_more : (a : YardSeen) (logs : ℕ) (store : StorePlan) (rest : List StorePlan) (more : List BookSeen) → AreMade a logs (store ∷ []) more → take (length more) (store ∷ []) ≡ take (length more) (store ∷ rest)
take_of_more a logs store rest [] m = refl
take_of_more a logs store rest (new ∷ []) m = refl
take_of_more a logs store rest (new ∷ other ∷ more) m = absurd m.1

stops_here : (a c : YardSeen) (store : StorePlan) (rest : List StorePlan) (logs : ℕ) (before now : List BookSeen) (p q : Printing) (result : Status) → OpeningEndsAt a c store logs before now p q result → OpeningEnds a c (store ∷ rest) logs before now p q result
stops_here a c store rest logs before now p q result s = record {
  place = 0;
  store = store;
  there = refl;
  more = s.more;
  opens = length s.more;
  so_many = omega arith;
  books = s.books;
  made = made_of_more a logs store rest s.more s.made;
  out = s.out ∙ ap (out_besides a.out) (take_of_more a logs store rest s.more s.made);
  text = s.text;
  stop = s.stop;
  others = s.others;
  said = s.said;
}

one_longer : (n place opens : ℕ) → n ≡ place + opens → suc n ≡ suc place + opens
one_longer n place opens e = omega arith

stops_there : (a b c : YardSeen) (store : StorePlan) (rest : List StorePlan) (logs : ℕ) (before mid now : List BookSeen) (p q r : Printing) (result : Status) → IsAfter a b → OneOpened a b store logs before mid p q → OpeningEnds b c rest logs mid now q r result
    → OpeningEnds a c (store ∷ rest) logs before now p r result
stops_there a b c store rest logs before mid now p q r result l one s = record {
  place = suc s.place;
  store = s.store;
  there = place_later store s.store rest s.place s.there;
  more = one.b ∷ s.more;
  opens = s.opens;
  so_many = one_longer (length s.more) s.place s.opens s.so_many;
  books = s.books ∙ ap (λ (h : List BookSeen). h ++ s.more) one.book ∙ append_assoc before (one.b ∷ []) s.more;
  made = (one.made, are_made_earlier a b logs rest s.more l s.made);
  out = s.out ∙ ap (λ (o : Out). out_besides o (take (length s.more) rest)) one.out;
  text = s.text;
  stop = stop_earlier a b c s.store s.opens s.text result l s.stop;
  others = λ path other. s.others path other ∙ ap (λ (k : Kept DiskSeen). kept_at k path) one.disks;
  said = says_along p r _ _ (sym (append_assoc (opened_text store.id.name 0) (opened_lines (take s.place rest)) s.text)) (says_then p q r (opened_text store.id.name 0) (opened_lines (take s.place rest) ++ s.text) one.said s.said);
}

pub after_one : (a b : YardSeen) (store : StorePlan) (logs : ℕ) (before mid : List BookSeen) (p q : Printing) → LeavesRest a b → OneOpened a b store logs before mid p q → IsAfter a b
after_one a b store logs before mid p q l one = record { disks = one.disks; faults = one.faults; tells = l.tells; willing = l.willing }

-- ---- the answers of a call over stores, by those over the first and over the others
pub opened_none : (a : YardSeen) (stores : List StorePlan) (logs : ℕ) (before : List BookSeen) (p : Printing) → stores ≡ [] → AllOpened a a stores logs before before p p
opened_none a stores logs before p e = subst (λ (s : List StorePlan). AllOpened a a s logs before before p p) (sym e) (none_opened a logs before p)

pub opened_more : {T E : Type 0} (result : Result T E) (a b c : YardSeen) (stores : List StorePlan) (store : StorePlan) (rest : List StorePlan) (logs : ℕ) (before mid now : List BookSeen) (p q r : Printing) → stores ≡ store ∷ rest → LeavesRest a b
    → OneOpened a b store logs before mid p q → OnOk result (AllOpened b c rest logs mid now q r) → OnOk result (AllOpened a c stores logs before now p r)
opened_more (Err f) a b c stores store rest logs before mid now p q r e l one o = tt
opened_more (Ok v) a b c stores store rest logs before mid now p q r e l one o =
    subst (λ (s : List StorePlan). AllOpened a c s logs before now p r) (sym e) (more_opened a b c store rest logs before mid now p q r (after_one a b store logs before mid p q l one) one o)

pub stops_first : {T : Type 0} (result : Result T Status) (a c : YardSeen) (stores : List StorePlan) (store : StorePlan) (rest : List StorePlan) (logs : ℕ) (before now : List BookSeen) (p q : Printing) → stores ≡ store ∷ rest
    → IfErr result (λ (s : Status). OpeningEndsAt a c store logs before now p q s) → IfErr result (λ (s : Status). OpeningEnds a c stores logs before now p q s)
stops_first (Ok v) a c stores store rest logs before now p q e s = tt
stops_first (Err f) a c stores store rest logs before now p q e s = subst (λ (x : List StorePlan). OpeningEnds a c x logs before now p q f) (sym e) (stops_here a c store rest logs before now p q f s)

pub stops_more : {T : Type 0} (result : Result T Status) (a b c : YardSeen) (stores : List StorePlan) (store : StorePlan) (rest : List StorePlan) (logs : ℕ) (before mid now : List BookSeen) (p q r : Printing) → stores ≡ store ∷ rest → LeavesRest a b
    → OneOpened a b store logs before mid p q → IfErr result (λ (s : Status). OpeningEnds b c rest logs mid now q r s) → IfErr result (λ (s : Status). OpeningEnds a c stores logs before now p r s)
stops_more (Ok v) a b c stores store rest logs before mid now p q r e l one o = tt
stops_more (Err f) a b c stores store rest logs before mid now p q r e l one o =
    subst (λ (x : List StorePlan). OpeningEnds a c x logs before now p r f) (sym e) (stops_there a b c store rest logs before mid now p q r f (after_one a b store logs before mid p q l one) one o)

-- ---- what stands open where none were there before
made_few : (a : YardSeen) (logs : ℕ) (stores : List StorePlan) (books : List BookSeen) → AreMade a logs stores books → length books ≤ length stores
made_few a logs stores [] m = omega arith
made_few a logs [] (b ∷ books) m = absurd m
made_few a logs (store ∷ stores) (b ∷ books) m = let rest = made_few a logs stores books m.1 in omega (arith, rest)

stand_of : (a c : YardSeen) (stores : List StorePlan) (logs : ℕ) (before now more : List BookSeen) → before ≡ [] → now ≡ before ++ more → c.out ≡ out_besides a.out (take (length more) stores) → AreMade a logs stores more → StandOpen a c stores logs (length now) now
stand_of a c stores logs before now more none e out made =
    let same : now ≡ more = e ∙ ap (λ (h : List BookSeen). h ++ more) none in
    subst (λ (h : List BookSeen). StandOpen a c stores logs (length h) h) (sym same) (record {
      few = made_few a logs stores more made;
      out = out;
      made = made;
      from = made_from a logs stores more made;
    })

stand_either : {T : Type 0} (result : Result T Status) (a c : YardSeen) (stores : List StorePlan) (logs : ℕ) (before now : List BookSeen) (p q : Printing) → OnOk result (AllOpened a c stores logs before now p q)
    → IfErr result (λ (s : Status). OpeningEnds a c stores logs before now p q s) → before ≡ [] → StandOpen a c stores logs (length now) now
stand_either (Ok v) a c stores logs before now p q o s none =
    stand_of a c stores logs before now o.more none o.books (o.out ∙ ap (out_besides a.out) (sym (take_all (length o.more) stores (omega (arith, o.one_each))))) o.made
stand_either (Err f) a c stores logs before now p q o s none = stand_of a c stores logs before now s.more none s.books s.out s.made

none_seen : {A : Type 0} (seen : A → BookSeen) (was : List A) → length was ≡ 0 → map seen was ≡ []
none_seen seen [] none = refl
none_seen seen (x ∷ xs) none = absurd (omega (arith, none))

pub stand_open : {A T : Type 0} (seen : A → BookSeen) (was now : List A) (result : Result T Status) (a c : YardSeen) (stores : List StorePlan) (logs : ℕ) (p q : Printing) → OnOk result (AllOpened a c stores logs (map seen was) (map seen now) p q)
    → IfErr result (λ (s : Status). OpeningEnds a c stores logs (map seen was) (map seen now) p q s) → length was ≡ 0 → StandOpen a c stores logs (length now) (map seen now)
stand_open seen was now result a c stores logs p q o s none =
    subst (λ n. StandOpen a c stores logs n (map seen now)) (length-map now seen) (stand_either result a c stores logs (map seen was) (map seen now) p q o s (none_seen seen was none))
