-- Places of a map, sector by sector.
use Rattle.std.proofs.Common.{◌≡◌, inl, inr, ℕ, ◌+◌, ◌*◌, ◌/◌, ◌<◌, ◌≤◌, min, List, [], length, take, slice_index_or, get_or, sym, ap, ◌∙◌, subst, arith}
use Rattle.std.proofs.lemmas.Bool.{cases_lt}
use Rattle.std.proofs.lemmas.List.{get_or-take}
use Rattle.key_state.specs.declared.entry.Entry.{Entry}
use Rattle.key_state.specs.declared.entry.Entry.TheVariants.{Settled, Pending, Bad}
use Rattle.journal_layout.specs.Recovery.{Sectors, IsSlot, IsMapSlot, Fills, IsFirstBad}
use Rattle.journal_layout.specs.Map.{HasKeys}
use Rattle.key_state.specs.Entries.{IsEntry, AreEntries}

module _ (fits : ℕ → Entry → Type 0) (blocks : ℕ) where
  -- a place that is filled has an entry
  pub filled : (low high : ℕ) (entries : List Entry) → Fills fits blocks low high entries → (j : ℕ) → low ≤ j → j < high → (entry : Entry) × fits j entry
  filled low high entries fills j from below = elim (cases_lt j blocks) [
    | inl in_range ↦ (slice_index_or entries j Bad, fills.each j from below in_range)
    | inr past ↦ (Settled 0, fills.rest j from below past)
  ]

  -- the place behind those that are filled, where nothing fits
  pub first_bad : (low high top : ℕ) (entries : List Entry) → Fills fits blocks low high entries → low ≤ high → high < top → ((entry : Entry) → fits high entry → ⊥) → IsFirstBad fits low top high
  first_bad low high top entries fills order inside none = record {
    within = (order, inside);
    none = none;
    before = λ j from below. filled low high entries fills j from below;
  }

  -- the places of two parts
  pub joined : (mid high : ℕ) (old new : List Entry) → mid ≤ high → Fills fits blocks 0 mid old → Fills fits blocks mid high new → take (length old) new ≡ old → Fills fits blocks 0 high new
  joined mid high old new order front back kept = record {
    one_each = back.one_each;
    each = λ k from below inside. elim (cases_lt k mid) [
      | inl early ↦
          let here : k < length old = omega (arith, front.one_each) in
          let same : get_or old k Bad ≡ get_or new k Bad = sym (ap (λ (l : List Entry). get_or l k Bad) kept) ∙ get_or-take (length old) new k Bad here in
          subst (fits k) same (front.each k from early inside)
      | inr late ↦ back.each k late below inside
    ];
    rest = λ k from below past. elim (cases_lt k mid) [
      | inl early ↦ front.rest k from early past
      | inr late ↦ back.rest k late below past
    ];
  }

  -- the same entries of another reading
  pub read_as : (other : ℕ → Entry → Type 0) (low high : ℕ) (entries : List Entry) → ((k : ℕ) (entry : Entry) → low ≤ k → k < high → fits k entry → other k entry)
      → Fills fits blocks low high entries → Fills other blocks low high entries
  read_as other low high entries same fills = record {
    one_each = fills.one_each;
    each = λ k from below inside. same k _ from below (fills.each k from below inside);
    rest = λ k from below past. same k _ from below (fills.rest k from below past);
  }

  -- the first bad place of a part, behind those that are filled
  pub bad_joined : (part : ℕ → Entry → Type 0) (mid high top k : ℕ) (old : List Entry) → high ≤ top → Fills fits blocks 0 mid old
      → ((j : ℕ) (entry : Entry) → mid ≤ j → j < high → part j entry → fits j entry) → ((j : ℕ) (entry : Entry) → mid ≤ j → j < high → fits j entry → part j entry)
      → IsFirstBad part mid high k → IsFirstBad fits 0 top k
  bad_joined part mid high top k old order front to from bad = record {
    within = (omega arith, omega (arith, bad.within.1));
    none = λ entry fit. bad.none entry (from k entry bad.within.0 bad.within.1 fit);
    before = λ j low below. elim (cases_lt j mid) [
      | inl early ↦ filled 0 mid old front j low early
      | inr late ↦ let has = bad.before j late below in (has.0, to j has.0 late (omega (arith, below, bad.within.1)) has.1)
    ];
  }

-- the sector of a place
pub sector_of_place : (sectors : Sectors) (at blocks i : ℕ) (sector : List ℕ) → sector ≡ slice_index_or sectors (at + i) []
    → (k : ℕ) (entry : Entry) → 256 * i ≤ k → k < 256 * i + 256 → IsSlot sector blocks k entry → IsMapSlot sectors at blocks k entry
sector_of_place sectors at blocks i sector is k entry from below slot =
    let place : i ≡ k / 256 = omega arith in
    subst (λ (s : List ℕ). IsSlot s blocks k entry) (is ∙ ap (λ p. slice_index_or sectors (at + p) []) place) slot

pub place_of_sector : (sectors : Sectors) (at blocks i : ℕ) (sector : List ℕ) → sector ≡ slice_index_or sectors (at + i) []
    → (k : ℕ) (entry : Entry) → 256 * i ≤ k → k < 256 * i + 256 → IsMapSlot sectors at blocks k entry → IsSlot sector blocks k entry
place_of_sector sectors at blocks i sector is k entry from below slot =
    let place : k / 256 ≡ i = omega arith in
    subst (λ (s : List ℕ). IsSlot s blocks k entry) (ap (λ p. slice_index_or sectors (at + p) []) place ∙ sym is) slot

-- the entries of a map are entries
keys_valid : (entry : Entry) → HasKeys entry → IsEntry entry
keys_valid (Settled key) has = tt
keys_valid (Pending old new) has = has.1
keys_valid Bad has = tt

pub valid_joined : (sector : List ℕ) (blocks mid : ℕ) (old new : List Entry) → length old ≡ min mid blocks → AreEntries old
    → Fills (IsSlot sector blocks) blocks mid (mid + 256) new → take (length old) new ≡ old → AreEntries new
valid_joined sector blocks mid old new so_far valid back kept k inside = elim (cases_lt k (length old)) [
  | inl early ↦
      let same : get_or old k Bad ≡ get_or new k Bad = sym (ap (λ (l : List Entry). get_or l k Bad) kept) ∙ get_or-take (length old) new k Bad early in
      subst IsEntry same (valid k early)
  | inr late ↦
      let low : mid ≤ k = omega (arith, late, so_far, inside, back.one_each) in
      let high : k < mid + 256 = omega (arith, inside, back.one_each) in
      let there : k < blocks = omega (arith, inside, back.one_each) in
      keys_valid (get_or new k Bad) (back.each k low high there).bytes.keys
]
