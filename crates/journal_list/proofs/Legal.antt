-- Records that are legal at the blocks of a window, and at all blocks.
use Rattle.std.proofs.Common.{◌≡◌, inl, inr, ℕ, zero, suc, ◌+◌, ◌-◌, ◌<◌, ◌≤◌, Bool, true, false, cond, List, [], ◌∷◌, ◌++◌, length, take, map, sum_by, slice_get, Some, refl, sym, ap, ◌∙◌, subst, arith, length-take}
use Rattle.std.specs.List.{range_with_len}
use Rattle.std.proofs.lemmas.Bool.{cases_lt}
use Rattle.std.proofs.lemmas.Bool.Decides.{nat_tests}
use Rattle.std.proofs.lemmas.List.{take_more}
use Rattle.std.proofs.lemmas.List.Elements.{filter-append}
use Rattle.std.proofs.lemmas.List.FromFn.{sum_by-map-range_with_len_more}
use Rattle.std.proofs.lemmas.Option.{get_or_from_slice_get, slice_get_within}
use Rattle.key_state.specs.declared.entry.Entry.{Entry}
use Rattle.key_state.specs.declared.record.Record.{Record}
use Rattle.key_state.specs.Entries.{IsEntry, IsHistory, IsLegalAt, IsLegalOn, Names, chain_end, entry_at, first_of, leaves, many_of, names_block, records_of, state, states}
use Rattle.key_state.proofs.Histories.{both_ways, chain_end-append, entry_at-states, leaves_valid, length-states, takes_leaves}
use Rattle.journal_list.specs.Audits.{AreInside, AreLegalIn, AreValidIn, IsRefused, IsStepIn, Shows}

-- fronts of lists
pub take_one : (records : List Record) (i : ℕ) (made : Record) → slice_get records i ≡ Some made → take (i + 1) records ≡ take i records ++ made ∷ []
take_one records i made is =
    take_more records i made (slice_get_within records i made is) ∙ ap (λ (m : Record). take i records ++ m ∷ []) (get_or_from_slice_get records i made made is)

take_take : (m n : ℕ) (records : List Record) → m ≤ n → take m (take n records) ≡ take m records
take_take zero n records order = refl
take_take (suc m) zero records order = absurd (omega (arith, order))
take_take (suc m) (suc n) [] order = refl
take_take (suc m) (suc n) (made ∷ records) order = ap (λ (l : List Record). made ∷ l) (take_take m n records (omega (arith, order)))

get_take : (k n : ℕ) (records : List Record) → k < n → slice_get (take n records) k ≡ slice_get records k
get_take k zero records order = absurd (omega (arith, order))
get_take k (suc n) [] order = refl
get_take zero (suc n) (made ∷ records) order = refl
get_take (suc k) (suc n) (made ∷ records) order = get_take k n records (omega (arith, order))

pub same_record : (records : List Record) (i : ℕ) (a b : Record) → slice_get records i ≡ Some a → slice_get records i ≡ Some b → a ≡ b
same_record records i a b is_a is_b = sym (get_or_from_slice_get records i a a is_a) ∙ get_or_from_slice_get records i b a is_b

-- what a block's entry is after one record more
names : (block : ℕ) (made : Record) → Names made block → names_block block made ≡ true
names block made is = grind (arith, nat_tests, is.0, is.1)

named : (block : ℕ) (made : Record) → names_block block made ≡ true → Names made block
named block made held = grind (arith, nat_tests, held)

after_one : (entry : Entry) (made : Record) (b : Bool) → b ≡ true → chain_end entry (cond b (made ∷ []) []) ≡ leaves made entry
after_one entry made true is = refl
after_one entry made false is = cc

after_none : (entry : Entry) (made : Record) (b : Bool) → (b ≡ true → ⊥) → chain_end entry (cond b (made ∷ []) []) ≡ entry
after_none entry made true not_is = absurd (not_is refl)
after_none entry made false not_is = refl

module _ (base : List Entry) (records : List Record) (i : ℕ) (made : Record) (is : slice_get records i ≡ Some made) where
  state_appended : (block : ℕ) → state base (take (i + 1) records) block ≡ chain_end (state base (take i records) block) (records_of block (made ∷ []))
  state_appended block =
      ap (λ (l : List Record). state base l block) (take_one records i made is)
      ∙ ap (chain_end (entry_at base block)) (filter-append (names_block block) (take i records) (made ∷ []))
      ∙ chain_end-append (entry_at base block) (records_of block (take i records)) (records_of block (made ∷ []))

  state_named : (block : ℕ) → Names made block → state base (take (i + 1) records) block ≡ leaves made (state base (take i records) block)
  state_named block it = state_appended block ∙ after_one _ made (names_block block made) (names block made it)

  state_other : (block : ℕ) → (Names made block → ⊥) → state base (take (i + 1) records) block ≡ state base (take i records) block
  state_other block other = state_appended block ∙ after_none _ made (names_block block made) (λ held. other (named block made held))

  -- a record more in a window
  module _ (low high : ℕ) (old new : List Entry) (step : IsStepIn made low high old new) (shows : Shows base (take i records) low high old) where
    shows_named : (block : ℕ) → low ≤ block → block < high → Names made block → entry_at new (block - low) ≡ state base (take (i + 1) records) block
    shows_named block from below it =
        takes_leaves made (entry_at old (block - low)) (entry_at new (block - low)) ((step block from below).0 it)
        ∙ ap (leaves made) (shows block from below) ∙ sym (state_named block it)

    shows_other : (block : ℕ) → low ≤ block → block < high → (Names made block → ⊥) → entry_at new (block - low) ≡ state base (take (i + 1) records) block
    shows_other block from below other = (step block from below).1 other ∙ shows block from below ∙ sym (state_other block other)

    pub shows_more : Shows base (take (i + 1) records) low high new
    shows_more block from below = elim (cases_lt block (first_of made)) [
      | inl early ↦ shows_other block from below (λ it. omega (arith, it.0, early))
      | inr late ↦ elim (cases_lt block (first_of made + many_of made)) [
        | inl inside ↦ shows_named block from below (late, inside)
        | inr past ↦ shows_other block from below (λ it. omega (arith, it.1, past))
      ]
    ]

    valid_named : AreValidIn low high old → (block : ℕ) → low ≤ block → block < high → Names made block → IsEntry (entry_at new (block - low))
    valid_named valid block from below it =
        let takes = (step block from below).0 it in
        subst IsEntry (sym (takes_leaves made (entry_at old (block - low)) (entry_at new (block - low)) takes))
        (leaves_valid made (entry_at old (block - low)) (valid block from below) (entry_at new (block - low), takes))

    valid_other : AreValidIn low high old → (block : ℕ) → low ≤ block → block < high → (Names made block → ⊥) → IsEntry (entry_at new (block - low))
    valid_other valid block from below other = subst IsEntry (sym ((step block from below).1 other)) (valid block from below)

    pub valid_more : AreValidIn low high old → AreValidIn low high new
    valid_more valid block from below = elim (cases_lt block (first_of made)) [
      | inl early ↦ valid_other valid block from below (λ it. omega (arith, it.0, early))
      | inr late ↦ elim (cases_lt block (first_of made + many_of made)) [
        | inl inside ↦ valid_named valid block from below (late, inside)
        | inr past ↦ valid_other valid block from below (λ it. omega (arith, it.1, past))
      ]
    ]

    legal_here : (block : ℕ) → Names made block → low ≤ block → block < high → IsLegalAt (state base (take i records) block) made
    legal_here block it from below =
        subst (λ (e : Entry). IsLegalAt e made) (shows block from below) (entry_at new (block - low), (step block from below).0 it)

    pub legal_more : AreLegalIn base records low high i → AreLegalIn base records low high (i + 1)
    legal_more legal k other order at block it from below = elim (cases_lt k i) [
      | inl early ↦ legal k other early at block it from below
      | inr late ↦
          let here : i ≡ k = omega (arith, order, late) in
          let same : made ≡ other = same_record records i made other is (subst (λ n. slice_get records n ≡ Some other) (sym here) at) in
          subst (λ n. IsLegalAt (state base (take n records) block) other) here
          (subst (λ (m : Record). IsLegalAt (state base (take i records) block) m) same (legal_here block (subst (λ (m : Record). Names m block) (sym same) it) from below))
    ]

-- the records that are legal in two windows, one behind the other, as far as in both
pub legal_joined : (base : List Entry) (records : List Record) (mid high top n m : ℕ) → m ≤ n → top ≡ high → AreLegalIn base records 0 mid n → AreLegalIn base records mid high m
    → AreLegalIn base records 0 top m
legal_joined base records mid high top n m order is front back k made few at block it from below = elim (cases_lt block mid) [
  | inl early ↦ front k made (omega (arith, few, order)) at block it from early
  | inr late ↦ back k made few at block it late (omega (arith, below, is))
]

-- those that are legal at all blocks and name no other are a history
pub history_of : (base : List Entry) (records : List Record) (n : ℕ) → AreInside (length base) records n → AreLegalIn base records 0 (length base) n → IsHistory base (take n records)
history_of base records n inside legal =
    (both_ways base (take n records)).1
    (λ k made is block it.
    let long = length-take n records in
    let within = slice_get_within (take n records) k made is in
    let order : k < n = omega (arith, within, long) in
    let at : slice_get records k ≡ Some made = sym (get_take k n records order) ∙ is in
    let there : block < length base = inside k made order at block it in
    let front : take k (take n records) ≡ take k records = take_take k n records (omega (arith, order)) in
    let is_legal : IsLegalAt (entry_at (states base (take k records)) block) made =
    subst (λ (e : Entry). IsLegalAt e made) (sym (entry_at-states base (take k records) block there)) (legal k made order at block it (omega arith) there) in
    let both : (block < length (states base (take k records))) × IsLegalAt (entry_at (states base (take k records)) block) made =
    (omega (arith, there, length-states base (take k records)), is_legal) in
    subst (λ (l : List Record). (block < length (states base l)) × IsLegalAt (entry_at (states base l) block) made) (sym front) both)

-- a record that is refused isn't legal on the entries
pub not_legal : (base : List Entry) (records : List Record) (n : ℕ) → IsRefused base records n
    → (made : Record) × (slice_get records n ≡ Some made) × (IsLegalOn (states base (take n records)) made → ⊥)
not_legal base records n refused = (
  refused.0,
  refused.1,
  λ legal.
      let block = refused.2.0 in
      let here = legal block refused.2.1 in
      let inside : block < length base = omega (arith, here.0, length-states base (take n records)) in
      refused.2.2 inside (subst (λ (e : Entry). IsLegalAt e refused.0) (entry_at-states base (take n records) block inside) here.1),
)

-- a sum over blocks, and over a window behind them
pub sum_window : (f : Entry → ℕ) (g : ℕ → Entry) (window : List Entry) (low n : ℕ) → ((block : ℕ) → low ≤ block → block < low + n → entry_at window (block - low) ≡ g block)
    → sum_by f (map g (range_with_len 0 (low + n))) ≡ sum_by f (map g (range_with_len 0 low)) + sum_by f (map (entry_at window) (range_with_len 0 n))
sum_window f g window low zero each =
    let same : low + 0 ≡ low = omega arith in
    let none : sum_by f (map (entry_at window) (range_with_len 0 0)) ≡ 0 = refl in
    let front = ap (λ n. sum_by f (map g (range_with_len 0 n))) same in
    omega (arith, front, none)
sum_window f g window low (suc n) each =
    let before = sum_window f g window low n (λ block from below. each block from (omega (arith, below))) in
    let long : low + suc n ≡ (low + n) + 1 = omega arith in
    let one : suc n ≡ n + 1 = omega arith in
    let place : (low + n) - low ≡ n = omega arith in
    let whole = ap (λ m. sum_by f (map g (range_with_len 0 m))) long in
    let last = sum_by-map-range_with_len_more f g 0 (low + n) (low + n) (omega arith) in
    let part = ap (λ m. sum_by f (map (entry_at window) (range_with_len 0 m))) one in
    let last_part = sum_by-map-range_with_len_more f (entry_at window) 0 n n (omega arith) in
    let same : f (entry_at window n) ≡ f (g (low + n)) = ap f (ap (entry_at window) (sym place) ∙ each (low + n) (omega arith) (omega arith)) in
    omega (arith, before, whole, last, part, last_part, same)
