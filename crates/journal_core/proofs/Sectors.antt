-- A record more in a log sector, an entry more in a map sector.
use Rattle.std.proofs.Common.{◌≡◌, inl, inr, ⊎_elim, ℕ, ◌+◌, ◌-◌, ◌*◌, ◌/◌, ◌%◌, ◌<◌, ◌≤◌, List, [], ◌∷◌, ◌++◌, length, take, drop, replicate, slice_range, refl, sym, ap, ◌∙◌, subst, arith, length-append}
use Rattle.std.specs.Int.{w32, to_be_bytes}
use Rattle.std.proofs.lemmas.Bool.{cases_lt}
use Rattle.std.proofs.lemmas.List.{drop-take, drop-drop, drop-replicate, length_push, get_or_past, get_or_default}
use Rattle.key_state.specs.declared.entry.Entry.{Entry}
use Rattle.key_state.specs.declared.entry.Entry.TheVariants.{Settled, Pending, Bad}
use Rattle.key_state.specs.declared.record.Record.{Record}
use Rattle.key_state.specs.declared.record.Record.TheVariants.{Begin, End, Bad as BadRecord, BeginRun, EndRun, Clear}
use Rattle.key_state.specs.Entries.{first_of, IsEntry, AreEntries, entry_at}
use Rattle.journal_layout.specs.declared.live.Live.{Live}
use Rattle.journal_layout.specs.Bytes.{Puts}
use Rattle.journal_layout.specs.Log.{HasCount, IsRecordOf, IsSpelled, IsBelow, IsZeroPast, kind_bytes, record_bytes}
use Rattle.journal_layout.specs.Map.{IsEntryOf, entry_bytes}
use Rattle.journal_layout.specs.Recovery.{blocks_of, IsSlot}
use Rattle.journal_core.specs.Parts.{slot_at, InHand}
use Rattle.journal_core.proofs.Stories.{get_cases}

-- a later part of a range
later_part : (xs : List ℕ) (a n b : ℕ) → a + n ≤ b → slice_range xs (a + n) b ≡ drop n (slice_range xs a b)
later_part xs a n b inside =
    let whole : n + (b - (a + n)) ≡ b - a = omega (arith, inside) in
    sym (ap (λ k. drop n (take k (drop a xs))) (sym whole) ∙ drop-take n (b - (a + n)) (drop a xs)
    ∙ ap (take (b - (a + n))) (drop-drop n a xs))

zero_later : (sector : List ℕ) (count : ℕ) → count < 30 → IsZeroPast sector count → IsZeroPast sector (count + 1)
zero_later sector count few zeros =
    let at : 32 + 16 * (count + 1) ≡ 32 + 16 * count + 16 = omega arith in
    let rest : 512 - (32 + 16 * count) - 16 ≡ 512 - (32 + 16 * (count + 1)) = omega (arith, few) in
    ap (λ n. slice_range sector n 512) at ∙ later_part sector (32 + 16 * count) 16 512 (omega (arith, few)) ∙ ap (drop 16) zeros
    ∙ drop-replicate 16 (512 - (32 + 16 * count)) 0 ∙ ap (λ n. replicate n 0) rest

length-kind_bytes : (made : Record) → length (kind_bytes made) ≡ 4
length-kind_bytes (Begin block old new) = refl
length-kind_bytes (End block key) = refl
length-kind_bytes (BadRecord block) = refl
length-kind_bytes (BeginRun first many) = refl
length-kind_bytes (EndRun first many) = refl
length-kind_bytes (Clear first many) = refl

length-record_bytes : (made : Record) → length (record_bytes made) ≡ 16
length-record_bytes made =
    let rest : List ℕ = to_be_bytes w32 (first_of made) ++ replicate 8 0 in
    let twelve : length rest ≡ 12 = refl in
    omega (arith, length-append (kind_bytes made) rest, length-kind_bytes made, twelve)

record_kept : (version blocks : ℕ) (old new : List ℕ) (j : ℕ) (made : Record)
    → ((a b : ℕ) → 32 + 16 * j ≤ a → b ≤ 32 + 16 * j + 16 → slice_range new a b ≡ slice_range old a b) → IsRecordOf version blocks old j made → IsRecordOf version blocks new j made
record_kept version blocks old new j made same is = record {
  kind = same (32 + 16 * j) (32 + 16 * j + 4) (omega arith) (omega arith) ∙ is.kind;
  block = same (36 + 16 * j) (36 + 16 * j + 4) (omega arith) (omega arith) ∙ is.block;
  zeros = same (40 + 16 * j) (40 + 16 * j + 8) (omega arith) (omega arith) ∙ is.zeros;
  is_spelled = is.is_spelled;
  is_below = is.is_below;
}

head_kept : (version epoch place : ℕ) (old new : List ℕ) (count : ℕ) → ((a b : ℕ) → b ≤ 32 → slice_range new a b ≡ slice_range old a b) → HasCount version epoch place old count → HasCount version epoch place new count
head_kept version epoch place old new count same is = record {
  head = record {
    magic = same 0 8 (omega arith) ∙ is.head.magic;
    its_epoch = same 8 16 (omega arith) ∙ is.head.its_epoch;
    its_place = same 16 20 (omega arith) ∙ is.head.its_place;
  };
  counts = same 20 22 (omega arith) ∙ is.counts;
  blank = same 22 32 (omega arith) ∙ is.blank;
  some = is.some;
  most = is.most;
}

-- one record more in hand: the head was put, then the record
pub hand_more : (live : Live) (past : List Record) (place count : ℕ) (made : Record) (old mid new : List ℕ) → live.version ≡ 2 → count < 30 → length past ≡ 30 * place + count
    → IsBelow (blocks_of live) made → IsSpelled 2 made → HasCount live.version live.epoch place mid (count + 1) → ((i j : ℕ) → 32 ≤ i → slice_range mid i j ≡ slice_range old i j)
    → Puts (32 + 16 * count) (record_bytes made) mid new
    → ((version blocks : ℕ) → IsSpelled version made → IsBelow blocks made → IsRecordOf version blocks new count made)
    → InHand live past place count old → InHand live (past ++ made ∷ []) place (count + 1) new
hand_more live past place count made old mid new two few long below spelled counted rest puts back hand =
    let wide = length-record_bytes made in
    let tail : IsZeroPast new (count + 1) =
    let at : 32 + 16 * (count + 1) ≡ 32 + 16 * count + 16 = omega arith in
    puts.above (32 + 16 * (count + 1)) 512 (omega (arith, wide)) ∙ rest (32 + 16 * (count + 1)) 512 (omega arith) ∙ zero_later old count few hand.zeros in
    record {
      zeros = tail;
      part = λ some. record {
        counted = head_kept live.version live.epoch place mid new (count + 1) (λ a b early. puts.below a b (omega (arith, early))) counted;
        there = omega (arith, long, length_push past made);
        spelled = λ j r early is. ⊎_elim
            (λ before.
            let soon : j < count = omega (arith, before.0, long) in
            let part = hand.part (omega (arith, soon)) in
            record_kept live.version (blocks_of live) old new j r
            (λ a b low high. puts.below a b (omega (arith, high, soon)) ∙ rest a b (omega (arith, low)))
            (part.spelled j r soon before.1))
            (λ last.
            let at : count ≡ j = omega (arith, last.0, long) in
            let own : IsRecordOf live.version (blocks_of live) new count made = subst (λ v. IsRecordOf v (blocks_of live) new count made) (sym two) (back 2 (blocks_of live) spelled below) in
            subst (λ (x : Record). IsRecordOf live.version (blocks_of live) new j x) last.1 (subst (λ n. IsRecordOf live.version (blocks_of live) new n made) at own))
            (get_cases past made (30 * place + j) r is);
        zeros = tail;
      };
    }

length-entry_bytes : (entry : Entry) → length (entry_bytes entry) ≡ 2
length-entry_bytes (Settled key) = refl
length-entry_bytes (Pending old new) = refl
length-entry_bytes Bad = refl

-- one entry more of a map sector
pub entries_more : (old new : List ℕ) (fits : ℕ → Entry) (j : ℕ) (entry : Entry) → entry ≡ fits j → Puts (2 * j) (entry_bytes entry) old new → IsEntryOf new j entry
    → ((m : ℕ) → m < j → IsEntryOf old m (fits m)) → (m : ℕ) → m < j + 1 → IsEntryOf new m (fits m)
entries_more old new fits j entry is puts own before m early = elim (cases_lt m j) [
  | inl soon ↦
      let was = before m soon in
      record { bytes = puts.below (2 * m) (2 * m + 2) (omega (arith, soon)) ∙ was.bytes; keys = was.keys }
  | inr late ↦
      let same : j ≡ m = omega (arith, late, early) in
      subst (λ n. IsEntryOf new n (fits n)) same (subst (IsEntryOf new j) is own)
]

-- what stands at a place of a map is an entry
pub slot_valid : (entries : List Entry) (k : ℕ) → AreEntries entries → IsEntry (slot_at entries k)
slot_valid entries k valid = elim (cases_lt k (length entries)) [
  | inl inside ↦ subst IsEntry (slot_is entries k inside) (valid k inside)
  | inr past ↦ subst IsEntry (sym (get_or_past entries k (Settled 0) past)) tt
]
  where
    slot_is : (entries : List Entry) (k : ℕ) → k < length entries → entry_at entries k ≡ slot_at entries k
    slot_is entries k inside = get_or_default entries k Bad (Settled 0) inside

pub map_slots : (entries : List Entry) (sector : List ℕ) (i : ℕ) → ((m : ℕ) → m < 256 → IsEntryOf sector m (slot_at entries (256 * i + m)))
    → (k : ℕ) → k / 256 ≡ i → IsSlot sector (length entries) k (slot_at entries k)
map_slots entries sector i all k at =
    let whole : 256 * i + k % 256 ≡ k = omega (arith, at) in
    record {
      bytes = subst (λ n. IsEntryOf sector (k % 256) (slot_at entries n)) whole (all (k % 256) (omega arith));
      past = λ beyond. get_or_past entries k (Settled 0) beyond;
    }
