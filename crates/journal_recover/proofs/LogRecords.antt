-- Records of a log, sector by sector.
use Rattle.std.proofs.Common.{◌≡◌, inl, inr, ℕ, ◌+◌, ◌-◌, ◌*◌, ◌/◌, ◌%◌, ◌<◌, ◌≤◌, List, [], ◌++◌, length, drop, slice_get, slice_index_or, Option, Some, Ok, Err, refl, sym, ap, ◌∙◌, subst, arith, length-append, length-take, length-drop}
use Rattle.std.proofs.lemmas.Bool.{cases_lt, cases_eq}
use Rattle.std.proofs.lemmas.List.{get_or-take, get_or-drop}
use Rattle.std.proofs.lemmas.Option.{slice_get_within}
use Rattle.key_state.specs.declared.entry.Entry.{Entry}
use Rattle.key_state.specs.declared.record.Record.{Record}
use Rattle.key_state.specs.Entries.{IsLegalOn, states}
use Rattle.key_state.proofs.Histories.{history_joined, history_nil, states-append, states_nil}
use Rattle.journal_layout.specs.Log.{HasCount, IsForeign, IsBadHeader, IsRecordOf, IsZeroPast}
use Rattle.journal_layout.specs.Places.{map_sectors}
use Rattle.journal_layout.specs.Recovery.{Sectors, Reads, Ending, Complete, WrongHeader, WrongRecord, WrongTail, EndsAt, Stores, blocks_of, area_of, log_of, log_start, journal_end, place_at}
use Rattle.journal_layout.specs.declared.live.Live.{Live}
use Rattle.journal_layout.specs.declared.damage.Damage.TheVariants.{Missing, Map, Header, Record as AtRecord, Tail}
use Rattle.journal_recover.specs.declared.fault.RecoverFault.{RecoverFault}
use Rattle.journal_recover.specs.declared.fault.RecoverFault.TheVariants.{NoJournal, Mismatch, Damaged, Failed, NoMemory}
use Rattle.journal_recover.specs.Sinks.{Placed, HandsOn}
use Rattle.journal_recover.specs.Logs.{AreFirst, AddsUpTo, IsBadRecord, IsWrongAt, ReadsAll, ReadsSector, FindsLog}
use Rattle.journal_recover.proofs.Handed.{hands_none, hands_joined}
use Rattle.journal_recover.proofs.Gets.{get_front, get_back}

at_most_once : (a n : ℕ) → a < 2 → a * n ≤ n
at_most_once a n small = elim (cases_eq a 0) [
  | inl none ↦ let is : a * n ≡ 0 * n = ap (λ m. m * n) none in omega (arith, is)
  | inr some ↦
      let one : a ≡ 1 = omega (arith, small, some) in
      let is : a * n ≡ 1 * n = ap (λ m. m * n) one in omega (arith, is)
]

-- the live log stands on the disk
pub log_inside : (live : Live) → log_start live + live.log_sectors ≤ journal_end live
log_inside live =
    let n = map_sectors (blocks_of live) + live.log_sectors in
    let once : area_of live * n ≤ n = at_most_once (area_of live) n (omega arith) in
    omega (arith, once)

pub length-log_of : (sectors : Sectors) (live : Live) → journal_end live ≤ length sectors → length (log_of sectors live) ≡ live.log_sectors
length-log_of sectors live room =
    let start = log_start live in
    let many : (start + live.log_sectors) - start ≡ live.log_sectors = omega arith in
    let rest = length-drop start sectors in
    let taken = length-take ((start + live.log_sectors) - start) (drop start sectors) in
    let inside = log_inside live in
    omega (arith, many, rest, taken, inside, room)

pub log_place : (sectors : Sectors) (live : Live) (p : ℕ) → p < live.log_sectors → place_at (log_of sectors live) p ≡ slice_index_or sectors (log_start live + p) []
log_place sectors live p inside =
    let start = log_start live in
    get_or-take ((start + live.log_sectors) - start) (drop start sectors) p [] (omega (arith, inside)) ∙ get_or-drop start sectors p []

-- the records so far, what they make of the entries, and of what a sink keeps
abbrev pub SoFar : Live → List Entry → Sectors → ℕ → List Entry → Option (List Placed) → Option (List Placed) → Type 0
SoFar live base log many entries before after =
    (records : List Record) × Reads live base log records × (length records ≡ many) × (entries ≡ states base records) × HandsOn live 0 records before after

pub reads_none : (live : Live) (base : List Entry) (log : Sectors) (kept : Option (List Placed)) → SoFar live base log 0 base kept kept
reads_none live base log kept = (
  [],
  record {
    room = omega arith;
    counted = λ q some. absurd (omega (arith, some));
    spelled = λ i made is. cc;
    legal = history_nil base;
  },
  omega arith,
  sym (states_nil base),
  hands_none live 0 kept,
)

-- the records of one sector more
pub reads_more : (live : Live) (base : List Entry) (log : Sectors) (p count : ℕ) (records added : List Record) → p < length log → Reads live base log records → length records ≡ 30 * p
    → HasCount live.version live.epoch p (place_at log p) count → length added ≤ count → AreFirst live (states base records) (place_at log p) added → Reads live base log (records ++ added)
reads_more live base log p count records added inside reads long has few first =
    let whole = length-append records added in
    let most = has.most in
    record {
      room = omega (arith, whole, long, few, most, inside);
      counted = λ q some. elim (cases_lt q p) [
        | inl early ↦
            let old = reads.counted q (omega (arith, early, long)) in
            (old.0, old.1, omega (arith, old.2, early, long, old.1.most, whole))
        | inr late ↦
            let here : p ≡ q = omega (arith, late, some, whole, long, few, most) in
            (count, subst (λ n. HasCount live.version live.epoch n (place_at log n) count) here has, omega (arith, here, whole, long, few))
      ];
      spelled = λ i made is. elim (cases_lt i (length records)) [
        | inl early ↦ reads.spelled i made (sym (get_front records added i early) ∙ is)
        | inr late ↦
            let own : slice_get added (i - length records) ≡ Some made = sym (get_back records added i late) ∙ is in
            let below : i < length (records ++ added) = slice_get_within (records ++ added) i made is in
            let place : p ≡ i / 30 = omega (arith, late, below, whole, long, few, most) in
            let at : i - length records ≡ i % 30 = omega (arith, late, below, whole, long, few, most) in
            subst (λ n. IsRecordOf live.version (blocks_of live) (place_at log n) (i % 30) made) place
            (subst (λ n. IsRecordOf live.version (blocks_of live) (place_at log p) n made) at (first.spelled (i - length records) made own))
      ];
      legal = history_joined base records added reads.legal first.legal;
    }

-- what stands behind them
pub stores_at : (live : Live) (base : List Entry) (log : Sectors) (records : List Record) (q j : ℕ) (ending : Ending) → Reads live base log records → length records ≡ 30 * q + j → j < 30
    → EndsAt live base log records q j ending → Stores live base log records ending
stores_at live base log records q j ending reads long small ends =
    let place : q ≡ length records / 30 = omega (arith, long, small) in
    let at : j ≡ length records % 30 = omega (arith, long, small) in
    record {
      reads = reads;
      ends = subst (λ n. EndsAt live base log records n (length records % 30) ending) place (subst (λ n. EndsAt live base log records q n ending) at ends);
    }

-- what one sector says, where all sectors before it were read
module _ (live : Live) (base : List Entry) (log : Sectors) (p : ℕ) (sector : List ℕ) (entries : List Entry) (first mid last : Option (List Placed))
    (at : sector ≡ place_at log p) (inside : p < length log) (so_far : SoFar live base log (30 * p) entries first mid) where
  -- some of its records more
  pub so_far_more : (n count : ℕ) (after : List Entry) → HasCount live.version live.epoch p sector count → n ≤ count → AddsUpTo live p entries sector n after mid last
      → SoFar live base log (30 * p + n) after first last
  so_far_more n count after has few adds =
      let records = so_far.0 in
      let added = adds.0 in
      let here = subst (λ (s : List ℕ). HasCount live.version live.epoch p s count) at has in
      let front = subst (λ (es : List Entry). AreFirst live es (place_at log p) added) so_far.3 (subst (λ (s : List ℕ). AreFirst live entries s added) at adds.2) in (
        records ++ added,
        reads_more live base log p count records added inside so_far.1 so_far.2 here (omega (arith, adds.1, few)) front,
        omega (arith, length-append records added, so_far.2, adds.1),
        adds.3 ∙ ap (λ (es : List Entry). states es added) so_far.3 ∙ sym (states-append base records added),
        hands_joined live 0 (30 * p) records added first mid last so_far.4 (omega (arith, so_far.2)) adds.4,
      )

  -- the log ends behind its records
  ends_behind : (n : ℕ) (after : List Entry) → n < 30 → HasCount live.version live.epoch p sector n → AddsUpTo live p entries sector n after mid last → IsZeroPast sector n
      → ReadsAll live base log (30 * p + n) after first last
  ends_behind n after small has adds zeros =
      let all = so_far_more n n after has (omega arith) adds in
      let here = subst (λ (s : List ℕ). HasCount live.version live.epoch p s n × IsZeroPast s n) at (has, zeros) in
      (all.0, stores_at live base log all.0 p n Complete all.1 all.2 small (inr here), all.2, all.3, all.4)

  -- something is wrong behind j records
  wrong_at : (records : List Record) (j where_ number : ℕ) (ending : Ending) → Reads live base log records → length records ≡ 30 * p + j → j < 30
      → EndsAt live base log records p j ending → HandsOn live 0 records first last → where_ ≡ log_start live + p → number ≡ j → IsWrongAt live base log ending where_ number first last
  wrong_at records j where_ number ending reads long small ends handed is is_j = (
    records,
    stores_at live base log records p j ending reads long small ends,
    omega (arith, is, long, small),
    omega (arith, is_j, long, small),
    handed,
  )

  nothing_past : (n : ℕ) → n ≡ 30 → IsZeroPast sector n
  nothing_past n is = subst (IsZeroPast sector) (sym is) refl

  wrong_header : (where_ number : ℕ) → where_ ≡ log_start live + p → number ≡ 0 → IsBadHeader live.version live.epoch p sector → last ≡ mid
      → IsWrongAt live base log WrongHeader where_ number first last
  wrong_header where_ number is none bad same =
      let here = subst (IsBadHeader live.version live.epoch p) at bad in
      wrong_at so_far.0 0 where_ number WrongHeader so_far.1 (omega (arith, so_far.2)) (omega arith) (refl, inside, here) (same ∙ so_far.4) is none

  wrong_record : (where_ j count : ℕ) → where_ ≡ log_start live + p → HasCount live.version live.epoch p sector count → IsBadRecord live p entries sector count j mid last
      → IsWrongAt live base log WrongRecord where_ j first last
  wrong_record where_ j count is has bad =
      let all = so_far_more j count (states entries bad.0) has (omega (arith, bad.3)) (bad.0, bad.1, bad.2, refl, bad.5) in
      let here = subst (λ (s : List ℕ). HasCount live.version live.epoch p s count) at has in
      let none = λ (made : Record) (spelled : IsRecordOf live.version (blocks_of live) (place_at log p) j made) (legal : IsLegalOn (states base all.0) made).
      bad.4 made (subst (λ (s : List ℕ). IsRecordOf live.version (blocks_of live) s j made) (sym at) spelled) (subst (λ (es : List Entry). IsLegalOn es made) (sym all.3) legal) in
      wrong_at all.0 j where_ j WrongRecord all.1 all.2 (omega (arith, bad.3, has.most)) ((count, here, bad.3), none) all.4 is refl

  wrong_tail : (where_ n : ℕ) (after : List Entry) → where_ ≡ log_start live + p → HasCount live.version live.epoch p sector n → AddsUpTo live p entries sector n after mid last
      → (IsZeroPast sector n → ⊥) → IsWrongAt live base log WrongTail where_ n first last
  wrong_tail where_ n after is has adds wrong = elim (cases_lt n 30) [
    | inl small ↦
        let all = so_far_more n n after has (omega arith) adds in
        let here = subst (λ (s : List ℕ). HasCount live.version live.epoch p s n × (IsZeroPast s n → ⊥)) at (has, wrong) in
        wrong_at all.0 n where_ n WrongTail all.1 all.2 small here all.4 is refl
    | inr full ↦ absurd (wrong (nothing_past n (omega (arith, full, has.most))))
  ]

  -- the sector is full
  pub full : (n : ℕ) (after : List Entry) → n ≡ 30 → ReadsSector live p sector entries after mid last (Ok n) → SoFar live base log (30 * (p + 1)) after first last
  full n after whole (inl foreign) = absurd (omega (arith, whole, foreign.1))
  full n after whole (inr own) =
      let many : 30 * p + n ≡ 30 * (p + 1) = omega (arith, whole) in
      subst (λ m. SoFar live base log m after first last) many (so_far_more n n after own.0 (omega arith) own.1)

  -- it isn't, and the log ends there
  pub stops : (n : ℕ) (after : List Entry) → (n ≡ 30 → ⊥) → ReadsSector live p sector entries after mid last (Ok n) → ReadsAll live base log (30 * p + n) after first last
  stops n after short (inl foreign) =
      let many : 30 * p ≡ 30 * p + n = omega (arith, foreign.1) in
      let long : length so_far.0 ≡ 30 * p + 0 = omega (arith, so_far.2) in
      let here = subst (IsForeign live.version live.epoch p) at foreign.0 in
      let all : ReadsAll live base log (30 * p) after first last =
      (so_far.0, stores_at live base log so_far.0 p 0 Complete so_far.1 long (omega arith) (inl (refl, inr here)), so_far.2, foreign.2 ∙ so_far.3, foreign.3 ∙ so_far.4) in
      subst (λ m. ReadsAll live base log m after first last) many all
  stops n after short (inr own) = ends_behind n after (omega (arith, short, own.0.most)) own.0 own.1 own.2

  -- it is wrong
  pub wrong : (why : RecoverFault) (after : List Entry) → ReadsSector live p sector entries after mid last (Err why) → FindsLog live base log after first last (Err why)
  wrong (Damaged where_ Header j) after reads = wrong_header where_ j reads.0 reads.1 reads.2 reads.3
  wrong (Damaged where_ AtRecord j) after reads = wrong_record where_ j reads.1.0 reads.0 reads.1.1 reads.1.2
  wrong (Damaged where_ Tail n) after reads = wrong_tail where_ n after reads.0 reads.1 reads.2 reads.3
  wrong (Damaged where_ Missing n) after reads = absurd reads
  wrong (Damaged where_ Map n) after reads = absurd reads
  wrong NoMemory after reads =
      let some = reads.2 in
      let all = so_far_more some.0 reads.0 some.2.0 reads.1 some.1 some.2.1 in
      (all.0, all.1, all.4)
  wrong NoJournal after reads = absurd reads
  wrong (Mismatch found named) after reads = absurd reads
  wrong Failed after reads = absurd reads

-- the log was read to its end
pub ends_there : (live : Live) (base : List Entry) (log : Sectors) (p : ℕ) (entries : List Entry) (first last : Option (List Placed)) → SoFar live base log (30 * p) entries first last
    → length log ≤ p → ReadsAll live base log (30 * p) entries first last
ends_there live base log p entries first last so_far end =
    let long : length so_far.0 ≡ 30 * p + 0 = omega (arith, so_far.2) in
    (so_far.0, stores_at live base log so_far.0 p 0 Complete so_far.1 long (omega arith) (inl (refl, inl end)), so_far.2, so_far.3, so_far.4)
