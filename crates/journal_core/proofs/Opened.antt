-- A book that was opened just now.
use Rattle.std.proofs.Common.{◌≡◌, inl, inr, ⊎_elim, ℕ, zero, suc, ◌+◌, ◌-◌, ◌*◌, ◌/◌, ◌%◌, ◌<◌, ◌≤◌, false, List, [], ◌∷◌, length, take, replicate, slice_range, get_or, slice_get, Some, Result, Ok, Err, refl, sym, ap, ◌∙◌, subst, arith}
use Rattle.key_state.specs.declared.entry.Entry.{Entry}
use Rattle.std.specs.Int.{w64, from_be_bytes}
use Rattle.std.specs.Result.{OnOk}
use Rattle.std.proofs.lemmas.List.{drop-replicate, take-replicate, get_or-replicate, get_or_past, length-replicate}
use Rattle.journal_layout.specs.Places.{map_sectors}
use Rattle.journal_core.proofs.Kernel.{inside_area, map_inside, log_inside}
use Rattle.key_state.specs.declared.entry.Entry.TheVariants.{Settled}
use Rattle.journal_layout.specs.declared.gate.Gate.{Gate}
use Rattle.key_state.specs.Entries.{states, IsHistory}
use Rattle.std.proofs.Math.Logic.{∥∥₁_map}
use Rattle.key_state.proofs.Histories.{states_nil, history_nil}
use Rattle.journal_layout.specs.declared.live.Live.{Live}
use Rattle.journal_layout.specs.Gate.{IsGate, IsWithinLimits}
use Rattle.journal_layout.specs.Log.{IsForeign, IsZeroPast}
use Rattle.journal_layout.specs.Recovery.{Sectors, area_of, blocks_of, gate_of_live, journal_end, IsSlot}
use Rattle.vd_disk.specs.Disk.{DiskSeen, WhenTold, IsTale, sector_at}
use Rattle.journal_core.specs.Parts.{slot_at, IsNotLater, IsSectorOf, AllFit}
use Rattle.journal_core.specs.Chapters.{Chapter, IsStory}
use Rattle.journal_core.specs.Keeps.{Memory, story_of, first_story, new_memory, IsEpoch, Runs, Keeps, HasStory, HasSome, IsGateAt}
use Rattle.journal_core.specs.Writes.{IsNew, IsSynced, IsZeroIn, ReadsZero}
use Rattle.journal_core.specs.Changes.{Changed, ReadsAs}
use Rattle.std.proofs.lemmas.Bool.{cases_lt, cases_eq}
use Rattle.journal_core.proofs.Settling.{runs_fresh}
use Rattle.journal_core.proofs.Lasting.{lasts_runs}
use Rattle.journal_core.proofs.Told.{told_before}
use Rattle.journal_core.proofs.Steps.{false_true}

none_in : {X : Type 0} (i : ℕ) (x : X) → slice_get [] i ≡ Some x → ⊥
none_in i x is = cc

only_in : (one : Chapter) (i : ℕ) (chapter : Chapter) → slice_get (one ∷ []) i ≡ Some chapter → (i ≡ 0) × (one ≡ chapter)
only_in one zero chapter is = (refl, cc)
only_in one (suc i) chapter is = absurd (none_in i chapter is)

pub is_first_story : (live : Live) (base : List Entry) → length base ≡ blocks_of live → IsStory live (story_of [] base [])
is_first_story live base one_each = record {
  sized = λ i chapter is. ap (λ (c : Chapter). length c.base) (sym (only_in (record { base = base; past = [] }) i chapter is).1) ∙ one_each;
  legal = λ i chapter is. subst (λ (c : Chapter). IsHistory c.base c.past) (only_in (record { base = base; past = [] }) i chapter is).1 (history_nil base);
  links = λ i chapter next is is_next. absurd (omega (arith, (only_in (record { base = base; past = [] }) (i + 1) next is_next).0));
}

pub first_epoch : (live : Live) (base : List Entry) → IsWithinLimits (gate_of_live live) → length base ≡ blocks_of live → IsEpoch live [] live base []
first_epoch live base limits one_each = record {
  is_live = let same : live.epoch ≡ live.epoch + 0 = omega arith in λ i. record { version = live.version; epoch = same i; id = live.id; log_sectors = live.log_sectors };
  limits = limits;
  story = is_first_story live base one_each;
}

pub keeps_opened : (live : Live) (entries : List Entry) (blank : List ℕ) (disk : DiskSeen) → live.version ≡ 2 → IsWithinLimits (gate_of_live live) → length entries ≡ blocks_of live → blank ≡ replicate 512 0
    → journal_end live ≤ disk.sectors → WhenTold disk.told (IsTale disk.sectors disk.moments) → IsSynced disk (AllFit (IsSectorOf live entries [])) → Keeps disk (new_memory live entries blank (length disk.moments - 1)) (first_story entries)
keeps_opened live entries blank disk two limits one_each zeros room tale synced =
    let epoch = first_epoch live entries limits one_each in
    let one : Chapter = record { base = entries; past = [] } in
    let runs : WhenTold disk.told (λ t. Runs live [] live entries [] (length disk.moments - 1) 0 disk) = λ t told.
    let is = synced t told in runs_fresh live entries disk t epoch (tale t told) is.0 room is.1 in
    record {
      first = live;
      half_turned = false;
      epoch = epoch;
      version = two;
      opened = (refl, λ chapter is. ap (λ (c : Chapter). c.base) (sym (only_in one 0 chapter is).1));
      many = refl;
      stands = sym (states_nil entries);
      stays = (omega arith, sym (states_nil entries));
      ends_are = λ same. refl;
      clears_are = λ same. refl;
      filled = λ asked i chapter next is is_next. absurd (omega (arith, (only_in one (i + 1) next is_next).0));
      stops = λ no. absurd (false_true no refl);
      few = omega arith;
      tells = λ t told. (runs t told).tells;
      lasts = λ t told. lasts_runs live [] live entries [] (length disk.moments - 1) 0 disk (runs t told);
      full = λ asked t told i chapter next is is_next. absurd (omega (arith, (only_in one (i + 1) next is_next).0));
      running = λ on. record {
        shaped = record {
          counted = omega arith;
          most = omega arith;
          inside = omega arith;
          some = λ some. absurd (omega (arith, some));
          full = omega arith;
          fewer = omega arith;
          stay = omega arith;
        };
        hand = record {
          zeros = subst (λ (x : List ℕ). IsZeroPast x 0) (sym zeros) refl;
          part = λ some. absurd (omega (arith, some));
        };
        runs = λ t told. (runs t told, λ q below. absurd (omega (arith, below)));
        rests = λ same t told. (synced t told).0;
      };
    }

-- Whatever story a book of an epoch without records has, it is that of its opening.
none_of : {X : Type 0} (xs : List X) → length xs ≡ 0 → xs ≡ []
none_of [] is = refl
none_of (x ∷ xs) is = absurd (omega (arith, is))

pub opened_story : (disk : DiskSeen) (b : Memory) (live : Live) (entries : List Entry) (blank : List ℕ) (start : ℕ) → b ≡ new_memory live entries blank start → HasSome disk b → HasStory disk b (first_story entries)
opened_story disk b live entries blank start is some =
    ∥∥₁_map some
    (λ k.
    let so_far = k.0 in
    let kept = k.1 in
    let epoch = ap (λ (l : Live). l.epoch) kept.epoch.is_live in
    let same : b.live.epoch ≡ b.first_epoch = ap (λ (m : Memory). m.live.epoch) is ∙ sym (ap (λ (m : Memory). m.first_epoch) is) in
    let before : so_far.before ≡ [] = none_of so_far.before (omega (arith, epoch, same, kept.opened.0)) in
    let past : so_far.past ≡ [] = none_of so_far.past (kept.many ∙ ap (λ (m : Memory). m.records) is) in
    let base : so_far.base ≡ entries = sym (kept.stands ∙ ap (states so_far.base) past ∙ states_nil so_far.base) ∙ ap (λ (m : Memory). m.entries) is in
    let whole : so_far ≡ first_story entries = λ i. record { before = before i; base = base i; past = past i } in
    subst (Keeps disk b) whole kept)

-- A sector of zeros is no gate, no log sector of any epoch, and a map sector of blocks that were never written.
zeros_range : (a b : ℕ) → a ≤ b → b ≤ 512 → slice_range {X = ℕ} (replicate 512 0) a b ≡ replicate (b - a) 0
zeros_range a b order inside =
    ap (take (b - a)) (drop-replicate a 512 0) ∙ take-replicate (b - a) (512 - a) 0 (omega (arith, order, inside))

pub zero_no_gate : (area : ℕ) (gate : Gate) → IsGate area (replicate 512 0) gate → ⊥
zero_no_gate area gate is =
    let first : 0 ≡ 86 = ap (λ (l : List ℕ). get_or l 0 0) (sym (zeros_range 0 8 (omega arith) (omega arith)) ∙ is.magic) in
    omega (arith, first)

pub zero_foreign : (version epoch q : ℕ) → IsForeign version epoch q (replicate 512 0)
zero_foreign version epoch q has =
    let first : 0 ≡ 86 = ap (λ (l : List ℕ). get_or l 0 0) (sym (zeros_range 0 8 (omega arith) (omega arith)) ∙ has.magic) in
    omega (arith, first)

pub zero_not_later : (epoch : ℕ) → IsNotLater epoch (replicate 512 0)
zero_not_later epoch =
    let none : from_be_bytes w64 (slice_range (replicate 512 0) 8 16) ≡ 0 = ap (from_be_bytes w64) (zeros_range 8 16 (omega arith) (omega arith)) in
    omega (arith, none)

zero_slot : (blocks k : ℕ) (entry : Entry) → entry ≡ Settled 0 → IsSlot (replicate 512 0) blocks k entry
zero_slot blocks k entry is =
    let two : 2 * (k % 256) + 2 - 2 * (k % 256) ≡ 2 = omega arith in
    let bytes : slice_range (replicate 512 0) (2 * (k % 256)) (2 * (k % 256) + 2) ≡ replicate 2 0 =
    zeros_range (2 * (k % 256)) (2 * (k % 256) + 2) (omega arith) (omega arith) ∙ ap (λ n. replicate n 0) two in
    subst (IsSlot (replicate 512 0) blocks k) (sym is) (record { bytes = record { bytes = bytes; keys = omega arith }; past = λ beyond. refl })

-- the sectors of a new journal: a gate of epoch 0, and zeros
pub new_fits : (live : Live) (entries : List Entry) (i : ℕ) (content : List ℕ) → live.epoch ≡ 0 → ((k : ℕ) → slot_at entries k ≡ Settled 0)
    → (i ≡ 0 → IsGate 0 content (gate_of_live live)) → (0 < i → i < journal_end live → content ≡ replicate 512 0) → i < journal_end live → IsSectorOf live entries [] i content
new_fits live entries i content none never gate zeros inside =
    let area : area_of live ≡ 0 = omega (arith, none) in
    let zero : 0 < i → content ≡ replicate 512 0 = λ some. zeros some inside in
    record {
      gate = λ is. subst (λ a. IsGate a content (gate_of_live live)) (sym area) (gate (is ∙ area));
      other = λ is g is_gate.
          let here = zero (omega (arith, is, area)) in
          absurd (zero_no_gate (1 - area_of live) g (subst (λ (x : List ℕ). IsGate (1 - area_of live) x g) here is_gate));
      slots = λ k below is.
          let here = zero (omega (arith, is)) in
          subst (λ (x : List ℕ). IsSlot x (blocks_of live) k (slot_at entries k)) (sym here) (zero_slot (blocks_of live) k (slot_at entries k) (never k));
      part = λ q below is. inl (subst (IsForeign live.version live.epoch q) (sym (zero (omega (arith, is)))) (zero_foreign live.version live.epoch q));
      here = λ q below is. subst (IsNotLater live.epoch) (sym (zero (omega (arith, is)))) (zero_not_later live.epoch);
      there = λ q below is. subst (IsNotLater live.epoch) (sym (zero (omega (arith, is)))) (zero_not_later live.epoch);
    }

-- what is read of zeros that were written, one row behind the other, and a gate
module _ (a b c d : DiskSeen) (first : ℕ) (live : Live) (end : ℕ) (none : live.epoch ≡ 0) (area : first < 2) (both : 2 ≤ a.sectors) (fits : end ≤ a.sectors)
    (tale : WhenTold a.told (IsTale a.sectors a.moments)) (one : IsSynced a (ReadsZero first (first + 1))) (two : Changed (IsZeroIn (1 - first) (2 - first)) a b) (two_is : IsSynced b (ReadsZero (1 - first) (2 - first)))
    (three : Changed (IsZeroIn 2 end) b c) (three_is : IsSynced c (ReadsZero 2 end)) (four : Changed (IsGateAt live) c d) where
  pub rest_zero : (t : Sectors) → d.told ≡ Some t → (i : ℕ) → 0 < i → i < end → sector_at t i ≡ replicate 512 0
  rest_zero t told i some inside =
      let told_c = told_before (IsGateAt live) c d c.told refl four t told in
      let told_b = told_before (IsZeroIn 2 end) b c b.told refl three told_c.0 told_c.1 in
      let told_a = told_before (IsZeroIn (1 - first) (2 - first)) a b a.told refl two told_b.0 told_b.1 in
      let to_b = two.told told_a.0 told_a.1 in
      let to_c = three.told told_b.0 told_b.1 in
      let to_d = four.told told_c.0 told_c.1 in
      let same_b : to_b.0 ≡ told_b.0 = cc in
      let same_c : to_c.0 ≡ told_c.0 = cc in
      let same_d : to_d.0 ≡ t = cc in
      let reads_b : ReadsAs (IsZeroIn (1 - first) (2 - first)) told_a.0 told_b.0 = subst (ReadsAs (IsZeroIn (1 - first) (2 - first)) told_a.0) same_b to_b.2 in
      let reads_c : ReadsAs (IsZeroIn 2 end) told_b.0 told_c.0 = subst (ReadsAs (IsZeroIn 2 end) told_b.0) same_c to_c.2 in
      let reads_d : ReadsAs (IsGateAt live) told_c.0 t = subst (ReadsAs (IsGateAt live) told_c.0) same_d to_d.2 in
      let size = (tale told_a.0 told_a.1).as_many in
      let here : sector_at t i ≡ sector_at told_c.0 i = ⊎_elim
      (λ kept. kept)
      (λ put. absurd (omega (arith, put.0, none, some)))
      (reads_d.each i (omega (arith, reads_c.as_many, reads_b.as_many, size, fits, inside))) in
      here ∙ elim (cases_lt i 2) [
        | inr late ↦ (three_is told_c.0 told_c.1).1 i late inside
        | inl low ↦ ⊎_elim
            (λ kept. kept ∙ elim (cases_eq first 0) [
              | inl is ↦ (two_is told_b.0 told_b.1).1 i (omega (arith, is, some)) (omega (arith, is, low))
              | inr is ↦ ⊎_elim
                  (λ before. before ∙ (one told_a.0 told_a.1).1 i (omega (arith, is, some, area)) (omega (arith, is, low)))
                  (λ put. put.2)
                  (reads_b.each i (omega (arith, size, both, low)))
            ])
            (λ put. put.2)
            (reads_c.each i (omega (arith, reads_b.as_many, size, both, low)))
      ]

pub ok_more : {T E : Type 0} (result : Result T E) (A B : Type 0) → (A → B) → OnOk result A → OnOk result B
ok_more (Ok x) A B to on = to on
ok_more (Err e) A B to on = tt

-- Nothing is asked of sectors past the journal's end.
pub past_fits : (live : Live) (entries : List Entry) (i : ℕ) (content : List ℕ) → journal_end live ≤ i → IsSectorOf live entries [] i content
past_fits live entries i content past = record {
  gate = λ is. absurd (omega (arith, is, past));
  other = λ is. absurd (omega (arith, is, past));
  slots = λ k below is. let at = map_inside live (k / 256) (omega (arith, below)) in absurd (omega (arith, at, is, past));
  part = λ q below is. let at = log_inside live q below in absurd (omega (arith, at, is, past));
  here = λ q below is. let at = log_inside live q below in absurd (omega (arith, at, is, past));
  there = λ q below is.
      let at = inside_area (1 - area_of live) (map_sectors (blocks_of live)) live.log_sectors (map_sectors (blocks_of live) + q) (omega arith) (omega (arith, below)) in
      absurd (omega (arith, at, is, past));
}

slot_never : (n k : ℕ) → slot_at (replicate n (Settled 0)) k ≡ Settled 0
slot_never n k = elim (cases_lt k n) [
  | inl inside ↦ get_or-replicate n k (Settled 0) (Settled 0) inside
  | inr past ↦ get_or_past (replicate n (Settled 0)) k (Settled 0) (omega (arith, past, length-replicate n (Settled 0)))
]

pub all_new : (live : Live) (blocks : ℕ) (entries : List Entry) (t : Sectors) → live.epoch ≡ 0 → entries ≡ replicate blocks (Settled 0) → IsNew live t → AllFit (IsSectorOf live entries []) t
all_new live blocks entries t none never new i inside = elim (cases_lt i (journal_end live)) [
  | inr past ↦ past_fits live entries i (sector_at t i) past
  | inl here ↦
      let area : area_of live ≡ 0 = omega (arith, none) in
      new_fits live entries i (sector_at t i) none (λ k. ap (λ (es : List Entry). slot_at es k) never ∙ slot_never blocks k)
      (λ is.
      let gate : IsGate 0 (sector_at t (area_of live)) (gate_of_live live) = subst (λ a. IsGate a (sector_at t (area_of live)) (gate_of_live live)) area new.0 in
      subst (λ n. IsGate 0 (sector_at t n) (gate_of_live live)) (area ∙ sym is) gate)
      (λ some low. new.1 i some low) here
]
