-- The sectors of a journal give one outcome.
use Rattle.std.proofs.Common.{◌≡◌, inl, inr, ℕ, ◌+◌, ◌-◌, ◌/◌, ◌%◌, ◌<◌, ◌≤◌, List, [], length, take, get_or, refl, sym, ap, ◌∙◌, subst, arith, length-take}
use Rattle.std.proofs.lemmas.Bool.{cases_lt, cases_eq}
use Rattle.std.proofs.lemmas.List.{get_or-take, get_or_past, take_all}
use Rattle.std.proofs.lemmas.List.FromFn.{fill_by_all}
use Rattle.std.proofs.lemmas.Option.{slice_get-get_or}
use Rattle.key_state.specs.declared.entry.Entry.{Entry}
use Rattle.key_state.specs.declared.entry.Entry.TheVariants.{Settled, Bad}
use Rattle.key_state.specs.declared.record.Record.{Record}
use Rattle.key_state.specs.declared.record.Record.TheVariants.{Bad as BadRecord}
use Rattle.key_state.specs.Entries.{IsLegalOn, states}
use Rattle.key_state.proofs.Histories.{both_ways}
use Rattle.vd_base.specs.declared.geometry.StoreId.{StoreId}
use Rattle.journal_layout.specs.declared.damage.Damage.{Damage}
use Rattle.journal_layout.specs.declared.damage.Damage.TheVariants.{Missing, Map, Header, Record as Illegal, Tail}
use Rattle.journal_layout.specs.declared.gate.Gate.{Gate}
use Rattle.journal_layout.specs.declared.live.Live.{Live}
use Rattle.journal_layout.specs.Log.{HasHead, HasCount}
use Rattle.journal_layout.specs.Recovery.{Sectors, HasGate, IsLive, IsWhole, area_of, gate_of_live, blocks_of, map_start, log_start, journal_end, IsMap, map_places, IsMapFault, log_of, place_at, Reads, Ending, Complete, WrongHeader, WrongRecord, WrongTail, EndsAt, Stores, Outcome, NoJournal, Mismatch, Damaged, Recovers, HasLogFault, Gives, GivesOnce}
use Rattle.journal_layout.proofs.SameGate.{one_gate}
use Rattle.journal_layout.proofs.SameRecord.{same_record, same_count, same_entry}

-- There is one live area.
live_in : Gate → Live
live_in gate = record { version = gate.version; epoch = gate.epoch; id = gate.id; log_sectors = gate.log_sectors }

one_live : (sectors : Sectors) (a b : Live) → IsLive sectors a → IsLive sectors b → a ≡ b
one_live sectors a b is_a is_b = elim (cases_eq (area_of b) (area_of a)) [
  | inl same ↦
      let gate_b = subst (λ n. HasGate sectors n (gate_of_live b)) same is_b.gate in
      let gates : gate_of_live a ≡ gate_of_live b = one_gate sectors (area_of a) (gate_of_live a) (gate_of_live b) is_a.gate gate_b in
      λ i. record { version = (gates i).version; epoch = (gates i).epoch; id = (gates i).id; log_sectors = (gates i).log_sectors }
  | inr differ ↦
      let b_other : area_of b ≡ 1 - area_of a = omega (arith, differ) in
      let a_other : area_of a ≡ 1 - area_of b = omega (arith, differ) in
      let low : b.epoch < a.epoch = is_a.greatest (gate_of_live b) (subst (λ n. HasGate sectors n (gate_of_live b)) b_other is_b.gate) in
      let high : a.epoch < b.epoch = is_b.greatest (gate_of_live a) (subst (λ n. HasGate sectors n (gate_of_live a)) a_other is_a.gate) in
      absurd (omega (arith, low, high))
]

-- Lists are equal by their elements.
by_elements : {X : Type 0} (xs ys : List X) (d : X) → length xs ≡ length ys → ((i : ℕ) → i < length ys → get_or xs i d ≡ get_or ys i d) → xs ≡ ys
by_elements xs ys d long each =
    fill_by_all (λ i. get_or ys i d) xs (length ys) d long each ∙ sym (fill_by_all (λ i. get_or ys i d) ys (length ys) d refl (λ k inside. refl))

-- There is one map, and one first place that has no entry; not both.
pub one_map : (sectors : Sectors) (live : Live) (a b : List Entry) → IsMap sectors live a → IsMap sectors live b → a ≡ b
one_map sectors live a b is_a is_b =
    by_elements a b Bad (is_a.one_each ∙ sym is_b.one_each)
    (λ k inside.
    let high : k < map_places (blocks_of live) = omega (arith, inside, is_b.one_each) in
    let there : k < blocks_of live = omega (arith, inside, is_b.one_each) in
    same_entry _ (k % 256) (get_or a k Bad) (get_or b k Bad) (is_a.each k (omega arith) high there).bytes (is_b.each k (omega arith) high there).bytes)

pub map_or_fault : (sectors : Sectors) (live : Live) (entries : List Entry) (k : ℕ) → IsMap sectors live entries → IsMapFault sectors live k → ⊥
map_or_fault sectors live entries k is fault = elim (cases_lt k (blocks_of live)) [
  | inl there ↦ fault.none (get_or entries k Bad) (is.each k (omega arith) fault.within.1 there)
  | inr past ↦ fault.none (Settled 0) (is.rest k (omega arith) fault.within.1 past)
]

not_before : (sectors : Sectors) (live : Live) (k m : ℕ) → IsMapFault sectors live k → IsMapFault sectors live m → k < m → ⊥
not_before sectors live k m is_k is_m order = let has = is_m.before k (omega arith) order in is_k.none has.0 has.1

one_fault : (sectors : Sectors) (live : Live) (k m : ℕ) → IsMapFault sectors live k → IsMapFault sectors live m → k ≡ m
one_fault sectors live k m is_k is_m = elim (cases_lt k m) [
  | inl early ↦ absurd (not_before sectors live k m is_k is_m early)
  | inr late ↦ elim (cases_lt m k) [
    | inl early ↦ absurd (not_before sectors live m k is_m is_k early)
    | inr same ↦ omega (arith, late, same)
  ]
]

-- What is read of a log is read in one way.
filler : Record
filler = BadRecord (record { 0 = 0 })

module _ (live : Live) (few : blocks_of live ≤ 16777216) (base : List Entry) (log : Sectors) where
  front : (xs ys : List Record) → Reads live base log xs → Reads live base log ys → length xs ≤ length ys → xs ≡ take (length xs) ys
  front xs ys is_x is_y order =
      let long : length xs ≡ length (take (length xs) ys) = omega (arith, order, length-take (length xs) ys) in
      by_elements xs (take (length xs) ys) filler long
      (λ i inside.
      let early : i < length xs = omega (arith, inside, long) in
      let x = is_x.spelled i (get_or xs i filler) (slice_get-get_or xs i filler early) in
      let y = is_y.spelled i (get_or ys i filler) (slice_get-get_or ys i filler (omega (arith, early, order))) in
      same_record live.version (blocks_of live) _ (i % 30) (get_or xs i filler) (get_or ys i filler) few x y ∙ sym (get_or-take (length xs) ys i filler early))

  -- the sector of one record more
  counted : (ys : List Record) (n : ℕ) → Reads live base log ys → n < length ys → (count : ℕ) × HasCount live.version live.epoch (n / 30) (place_at log (n / 30)) count × (n % 30 < count)
  counted ys n is more = let has = is.counted (n / 30) (omega (arith, more)) in (has.0, has.1, omega (arith, has.2, more))

  no_more : (xs ys : List Record) (ending : Ending) → Reads live base log xs → EndsAt live base log xs (length xs / 30) (length xs % 30) ending → Reads live base log ys → length xs < length ys → ⊥
  no_more xs ys Complete is_x (inl (none, inl end)) is_y more = omega (arith, is_y.room, more, none, end)
  no_more xs ys Complete is_x (inl (none, inr foreign)) is_y more = foreign (counted ys (length xs) is_y more).1.head
  no_more xs ys Complete is_x (inr own) is_y more =
      let has = counted ys (length xs) is_y more in omega (arith, has.2, same_count live.version live.epoch _ _ _ _ own.0 has.1)
  no_more xs ys WrongHeader is_x ends is_y more = let has = counted ys (length xs) is_y more in ends.2.1 has.0 has.1
  no_more xs ys WrongRecord is_x ends is_y more =
      let n = length xs in
      let made = get_or ys n filler in
      let is = slice_get-get_or ys n filler more in
      let same : take n ys ≡ xs = sym (front xs ys is_x is_y (omega (arith, more))) in
      ends.1 made (is_y.spelled n made is) (subst (λ (rs : List Record). IsLegalOn (states base rs) made) same ((both_ways base ys).0 is_y.legal n made is))
  no_more xs ys WrongTail is_x ends is_y more =
      let has = counted ys (length xs) is_y more in omega (arith, has.2, same_count live.version live.epoch _ _ _ _ ends.0 has.1)

  -- past the end of the log there is no log sector
  none_past : (q count : ℕ) → length log ≤ q → HasCount live.version live.epoch q (place_at log q) count → ⊥
  none_past q count past has =
      let none : place_at log q ≡ [] = get_or_past log q [] past in
      let magic = subst (λ (s : List ℕ). HasHead live.version live.epoch q s) none has.head in
      let byte : 0 ≡ 86 = ap (λ (l : List ℕ). get_or l 0 0) magic.magic in
      omega (arith, byte)

  -- what stands behind the records is one thing
  module _ (records : List Record) (q j : ℕ) where
    header_or_none : EndsAt live base log records q j Complete → EndsAt live base log records q j WrongHeader → ⊥
    header_or_none (inl (none, inl end)) header = omega (arith, end, header.1)
    header_or_none (inl (none, inr foreign)) header = foreign header.2.0
    header_or_none (inr own) header = header.2.1 j own.0

    record_or_none : EndsAt live base log records q j Complete → EndsAt live base log records q j WrongRecord → ⊥
    record_or_none (inl (none, inl end)) wrong = none_past q wrong.0.0 end wrong.0.1
    record_or_none (inl (none, inr foreign)) wrong = foreign wrong.0.1.head
    record_or_none (inr own) wrong = omega (arith, wrong.0.2, same_count live.version live.epoch _ _ _ _ own.0 wrong.0.1)

    tail_or_none : EndsAt live base log records q j Complete → EndsAt live base log records q j WrongTail → ⊥
    tail_or_none (inl end) tail = omega (arith, end.0, tail.0.some)
    tail_or_none (inr own) tail = tail.1 own.1

    header_or_record : EndsAt live base log records q j WrongHeader → EndsAt live base log records q j WrongRecord → ⊥
    header_or_record header wrong = header.2.1 wrong.0.0 wrong.0.1

    header_or_tail : EndsAt live base log records q j WrongHeader → EndsAt live base log records q j WrongTail → ⊥
    header_or_tail header tail = header.2.1 j tail.0

    record_or_tail : EndsAt live base log records q j WrongRecord → EndsAt live base log records q j WrongTail → ⊥
    record_or_tail wrong tail = omega (arith, wrong.0.2, same_count live.version live.epoch _ _ _ _ tail.0 wrong.0.1)

    one_ending : (a b : Ending) → EndsAt live base log records q j a → EndsAt live base log records q j b → a ≡ b
    one_ending Complete Complete is_a is_b = refl
    one_ending Complete WrongHeader is_a is_b = absurd (header_or_none is_a is_b)
    one_ending Complete WrongRecord is_a is_b = absurd (record_or_none is_a is_b)
    one_ending Complete WrongTail is_a is_b = absurd (tail_or_none is_a is_b)
    one_ending WrongHeader Complete is_a is_b = absurd (header_or_none is_b is_a)
    one_ending WrongHeader WrongHeader is_a is_b = refl
    one_ending WrongHeader WrongRecord is_a is_b = absurd (header_or_record is_a is_b)
    one_ending WrongHeader WrongTail is_a is_b = absurd (header_or_tail is_a is_b)
    one_ending WrongRecord Complete is_a is_b = absurd (record_or_none is_b is_a)
    one_ending WrongRecord WrongHeader is_a is_b = absurd (header_or_record is_b is_a)
    one_ending WrongRecord WrongRecord is_a is_b = refl
    one_ending WrongRecord WrongTail is_a is_b = absurd (record_or_tail is_a is_b)
    one_ending WrongTail Complete is_a is_b = absurd (tail_or_none is_b is_a)
    one_ending WrongTail WrongHeader is_a is_b = absurd (header_or_tail is_b is_a)
    one_ending WrongTail WrongRecord is_a is_b = absurd (record_or_tail is_b is_a)
    one_ending WrongTail WrongTail is_a is_b = refl

  one_list : (xs ys : List Record) (a b : Ending) → Stores live base log xs a → Stores live base log ys b → xs ≡ ys
  one_list xs ys a b is_x is_y = elim (cases_lt (length xs) (length ys)) [
    | inl more ↦ absurd (no_more xs ys a is_x.reads is_x.ends is_y.reads more)
    | inr rest ↦ elim (cases_lt (length ys) (length xs)) [
      | inl more ↦ absurd (no_more ys xs b is_y.reads is_y.ends is_x.reads more)
      | inr other ↦ front xs ys is_x.reads is_y.reads other ∙ take_all (length xs) ys rest
    ]
  ]

  pub one_log : (xs ys : List Record) (a b : Ending) → Stores live base log xs a → Stores live base log ys b → (xs ≡ ys) × (a ≡ b)
  one_log xs ys a b is_x is_y =
      let same = one_list xs ys a b is_x is_y in
      let ends = subst (λ (rs : List Record). EndsAt live base log rs (length rs / 30) (length rs % 30) b) (sym same) is_y.ends in
      (same, one_ending xs (length xs / 30) (length xs % 30) a b is_x.ends ends)

few_blocks : (sectors : Sectors) (live : Live) → IsLive sectors live → blocks_of live ≤ 16777216
few_blocks sectors live is = is.gate.is_gate.id.is_geometry.few_blocks

-- what is found, before it is named
data View : Type 0 where
  NoGate : View
  Other : Live → View
  Short : Live → View
  NoSlot : Live → ℕ → View
  Logged : Live → List Entry → List Record → Ending → View

abbrev Sees : Sectors → StoreId → View → Type 0
Sees sectors wanted NoGate = (area : ℕ) (gate : Gate) → area < 2 → HasGate sectors area gate → ⊥
Sees sectors wanted (Other live) = IsLive sectors live × (live.id ≡ wanted → ⊥)
Sees sectors wanted (Short live) = IsLive sectors live × (live.id ≡ wanted) × (length sectors < journal_end live)
Sees sectors wanted (NoSlot live k) = IsWhole sectors wanted live × IsMapFault sectors live k
Sees sectors wanted (Logged live base records ending) = IsWhole sectors wanted live × IsMap sectors live base × Stores live base (log_of sectors live) records ending

abbrev log_outcome : Live → List Entry → List Record → Ending → Outcome
log_outcome live base records Complete = Recovers live records (states base records)
log_outcome live base records WrongHeader = Damaged (log_start live + length records / 30) Header (length records % 30)
log_outcome live base records WrongRecord = Damaged (log_start live + length records / 30) Illegal (length records % 30)
log_outcome live base records WrongTail = Damaged (log_start live + length records / 30) Tail (length records % 30)

abbrev outcome : Sectors → View → Outcome
outcome sectors NoGate = NoJournal
outcome sectors (Other live) = Mismatch live.id
outcome sectors (Short live) = Damaged (length sectors) Missing 0
outcome sectors (NoSlot live k) = Damaged (map_start live + k / 256) Map (k % 256)
outcome sectors (Logged live base records ending) = log_outcome live base records ending

abbrev IsSeen : Sectors → StoreId → Outcome → Type 0
IsSeen sectors wanted given = (view : View) × Sees sectors wanted view × (given ≡ outcome sectors view)

seen_fault : (sectors : Sectors) (wanted : StoreId) (what : Damage) (ending : Ending) (sector at : ℕ)
    → ((live : Live) (base : List Entry) (records : List Record) → log_outcome live base records ending ≡ Damaged (log_start live + length records / 30) what (length records % 30))
    → HasLogFault sectors wanted ending sector at → IsSeen sectors wanted (Damaged sector what at)
seen_fault sectors wanted what ending sector at named is =
    let live = is.0 in
    let base = is.2.0 in
    let records = is.2.1 in
    let fault = is.2.2 in
    let place : Damaged sector what at ≡ Damaged (log_start live + length records / 30) what (length records % 30) = λ i. Damaged (fault.is_sector i) what (fault.is_at i) in
    (Logged live base records ending, (is.1, fault.is_map, fault.stores), place ∙ sym (named live base records))

seen : (sectors : Sectors) (wanted : StoreId) (given : Outcome) → Gives sectors wanted given → IsSeen sectors wanted given
seen sectors wanted NoJournal is = (NoGate, is, refl)
seen sectors wanted (Mismatch found) is = (Other is.0, (is.1, λ same. is.3 (sym is.2 ∙ same)), ap Mismatch (sym is.2))
seen sectors wanted (Damaged sector Missing at) is = (Short is.0, (is.1, is.2, is.3), λ i. Damaged (is.4 i) Missing (is.5 i))
seen sectors wanted (Damaged sector Map at) is = (NoSlot is.0 is.2.0, (is.1, is.2.1), λ i. Damaged (is.2.2 i) Map (is.2.3 i))
seen sectors wanted (Damaged sector Header at) is = seen_fault sectors wanted Header WrongHeader sector at (λ live base records. refl) is
seen sectors wanted (Damaged sector Illegal at) is = seen_fault sectors wanted Illegal WrongRecord sector at (λ live base records. refl) is
seen sectors wanted (Damaged sector Tail at) is = seen_fault sectors wanted Tail WrongTail sector at (λ live base records. refl) is
seen sectors wanted (Recovers live records entries) is =
    (Logged live is.1.0 records Complete, (is.0, is.1.1, is.1.2), ap (Recovers live records) is.1.3)

module _ (sectors : Sectors) (wanted : StoreId) where
  a_gate : (live : Live) → IsLive sectors live → ((area : ℕ) (gate : Gate) → area < 2 → HasGate sectors area gate → ⊥) → ⊥
  a_gate live is none = none (area_of live) (gate_of_live live) (omega arith) is.gate

  other_store : (a b : Live) → IsLive sectors a → (a.id ≡ wanted → ⊥) → IsLive sectors b → b.id ≡ wanted → ⊥
  other_store a b is_a not_a is_b wanted_b = not_a (ap (λ (l : Live). l.id) (one_live sectors a b is_a is_b) ∙ wanted_b)

  short_of : (a b : Live) → IsLive sectors a → length sectors < journal_end a → IsWhole sectors wanted b → ⊥
  short_of a b is_a short whole =
      let same : journal_end a ≡ journal_end b = ap journal_end (one_live sectors a b is_a whole.is_live) in
      omega (arith, short, same, whole.has_room)

  slot_or_log : (a b : Live) (k : ℕ) (base : List Entry) → IsWhole sectors wanted a → IsMapFault sectors a k → IsWhole sectors wanted b → IsMap sectors b base → ⊥
  slot_or_log a b k base whole_a fault whole_b is =
      let same = one_live sectors a b whole_a.is_live whole_b.is_live in
      map_or_fault sectors b base k is (subst (λ (l : Live). IsMapFault sectors l k) same fault)

  same_slot : (a b : Live) (k m : ℕ) → IsWhole sectors wanted a → IsMapFault sectors a k → IsWhole sectors wanted b → IsMapFault sectors b m → NoSlot a k ≡ NoSlot b m
  same_slot a b k m whole_a fault_a whole_b fault_b =
      let same = one_live sectors a b whole_a.is_live whole_b.is_live in
      let place = one_fault sectors b k m (subst (λ (l : Live). IsMapFault sectors l k) same fault_a) fault_b in
      λ i. NoSlot (same i) (place i)

  same_log : (a b : Live) (base_a base_b : List Entry) (xs ys : List Record) (e f : Ending) → IsWhole sectors wanted a → IsMap sectors a base_a → Stores a base_a (log_of sectors a) xs e
      → IsWhole sectors wanted b → IsMap sectors b base_b → Stores b base_b (log_of sectors b) ys f → Logged a base_a xs e ≡ Logged b base_b ys f
  same_log a b base_a base_b xs ys e f whole_a map_a stores_a whole_b map_b stores_b =
      let same = one_live sectors a b whole_a.is_live whole_b.is_live in
      let both = subst (λ (l : Live). IsMap sectors l base_a × Stores l base_a (log_of sectors l) xs e) same (map_a, stores_a) in
      let base = one_map sectors b base_a base_b both.0 map_b in
      let stores = subst (λ (es : List Entry). Stores b es (log_of sectors b) xs e) base both.1 in
      let log = one_log b (few_blocks sectors b whole_b.is_live) base_b (log_of sectors b) xs ys e f stores stores_b in
      λ i. Logged (same i) (base i) (log.0 i) (log.1 i)

  one_view : (v w : View) → Sees sectors wanted v → Sees sectors wanted w → v ≡ w
  one_view NoGate NoGate is_v is_w = refl
  one_view NoGate (Other b) is_v is_w = absurd (a_gate b is_w.0 is_v)
  one_view NoGate (Short b) is_v is_w = absurd (a_gate b is_w.0 is_v)
  one_view NoGate (NoSlot b m) is_v is_w = absurd (a_gate b is_w.0.is_live is_v)
  one_view NoGate (Logged b base ys f) is_v is_w = absurd (a_gate b is_w.0.is_live is_v)
  one_view (Other a) NoGate is_v is_w = absurd (a_gate a is_v.0 is_w)
  one_view (Other a) (Other b) is_v is_w = ap Other (one_live sectors a b is_v.0 is_w.0)
  one_view (Other a) (Short b) is_v is_w = absurd (other_store a b is_v.0 is_v.1 is_w.0 is_w.1)
  one_view (Other a) (NoSlot b m) is_v is_w = absurd (other_store a b is_v.0 is_v.1 is_w.0.is_live is_w.0.is_wanted)
  one_view (Other a) (Logged b base ys f) is_v is_w = absurd (other_store a b is_v.0 is_v.1 is_w.0.is_live is_w.0.is_wanted)
  one_view (Short a) NoGate is_v is_w = absurd (a_gate a is_v.0 is_w)
  one_view (Short a) (Other b) is_v is_w = absurd (other_store b a is_w.0 is_w.1 is_v.0 is_v.1)
  one_view (Short a) (Short b) is_v is_w = ap Short (one_live sectors a b is_v.0 is_w.0)
  one_view (Short a) (NoSlot b m) is_v is_w = absurd (short_of a b is_v.0 is_v.2 is_w.0)
  one_view (Short a) (Logged b base ys f) is_v is_w = absurd (short_of a b is_v.0 is_v.2 is_w.0)
  one_view (NoSlot a k) NoGate is_v is_w = absurd (a_gate a is_v.0.is_live is_w)
  one_view (NoSlot a k) (Other b) is_v is_w = absurd (other_store b a is_w.0 is_w.1 is_v.0.is_live is_v.0.is_wanted)
  one_view (NoSlot a k) (Short b) is_v is_w = absurd (short_of b a is_w.0 is_w.2 is_v.0)
  one_view (NoSlot a k) (NoSlot b m) is_v is_w = same_slot a b k m is_v.0 is_v.1 is_w.0 is_w.1
  one_view (NoSlot a k) (Logged b base ys f) is_v is_w = absurd (slot_or_log a b k base is_v.0 is_v.1 is_w.0 is_w.1)
  one_view (Logged a base xs e) NoGate is_v is_w = absurd (a_gate a is_v.0.is_live is_w)
  one_view (Logged a base xs e) (Other b) is_v is_w = absurd (other_store b a is_w.0 is_w.1 is_v.0.is_live is_v.0.is_wanted)
  one_view (Logged a base xs e) (Short b) is_v is_w = absurd (short_of b a is_w.0 is_w.2 is_v.0)
  one_view (Logged a base xs e) (NoSlot b m) is_v is_w = absurd (slot_or_log b a m base is_w.0 is_w.1 is_v.0 is_v.1)
  one_view (Logged a base_a xs e) (Logged b base_b ys f) is_v is_w = same_log a b base_a base_b xs ys e f is_v.0 is_v.1 is_v.2 is_w.0 is_w.1 is_w.2

pub gives_once : GivesOnce
gives_once sectors wanted a b is_a is_b =
    let of_a = seen sectors wanted a is_a in
    let of_b = seen sectors wanted b is_b in
    of_a.2 ∙ ap (outcome sectors) (one_view sectors wanted of_a.0 of_b.0 of_a.1 of_b.1) ∙ sym of_b.2
