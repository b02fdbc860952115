-- Histories: block by block and record by record, and one behind another.
use Rattle.std.proofs.Common.{◌≡◌, inl, inr, ℕ, zero, suc, ◌+◌, ◌<◌, ◌≤◌, Bool, true, false, cond, List, [], ◌∷◌, ◌++◌, length, take, drop, slice_get, get_or, Some, refl, sym, ap, ◌∙◌, subst, arith}
use Rattle.std.proofs.lemmas.Bool.{cases_lt}
use Rattle.std.proofs.lemmas.Bool.Decides.{nat_tests}
use Rattle.std.proofs.lemmas.List.{take_more, take_all}
use Rattle.std.proofs.lemmas.List.Elements.{filter-append}
use Rattle.std.proofs.lemmas.List.Sums.{fold-append}
use Rattle.std.proofs.lemmas.List.FromFn.{length-map-range_with_len, get_or-map-range_with_len, fill_by_all}
use Rattle.std.proofs.lemmas.Option.{slice_get-get_or}
use Rattle.key_state.specs.declared.entry.Entry.{Entry}
use Rattle.key_state.specs.declared.entry.Entry.TheVariants.{Settled, Pending, Bad}
use Rattle.key_state.specs.declared.record.Record.{Record}
use Rattle.key_state.specs.declared.record.Record.TheVariants.{Begin, End, Bad as BadRecord, BeginRun, EndRun, Clear}
use Rattle.key_state.specs.Entries.{IsEntry, Takes, IsLegalAt, leaves, begun, ended, names_block, Names, records_of, entry_at, chain_end, state, states, IsChain, IsHistory, IsLegalOn, AreLegal, AreEntries, HistoryIsLegal, StatesAppend, EntriesStay}

-- what a record takes an entry to is what it leaves
pub takes_leaves : (made : Record) (before after : Entry) → Takes made before after → after ≡ leaves made before
takes_leaves (Begin block old new) before after takes = takes.2
takes_leaves (End block key) before after takes = takes.1
takes_leaves (BadRecord block) before after takes = takes.1
takes_leaves (BeginRun first many) before after (inl is) = is.2 ∙ sym (ap begun is.1)
takes_leaves (BeginRun first many) before after (inr is) = is.1 ∙ is.0.2 ∙ sym (ap begun is.0.2)
takes_leaves (EndRun first many) before after takes = takes.3 ∙ sym (ap ended takes.2)
takes_leaves (Clear first many) before after takes = takes.1

pub legal_leaves : (made : Record) (before : Entry) → IsLegalAt before made → Takes made before (leaves made before)
legal_leaves made before legal = subst (Takes made before) (takes_leaves made before legal.0 legal.1) legal.1

valid_begun : (before : Entry) → IsEntry before → IsEntry (begun before)
valid_begun (Settled key) valid = refl
valid_begun (Pending old new) valid = valid
valid_begun Bad valid = tt

valid_ended : (before : Entry) → IsEntry before → IsEntry (ended before)
valid_ended (Settled key) valid = tt
valid_ended (Pending old new) valid = tt
valid_ended Bad valid = tt

-- a legal record leaves an entry
pub leaves_valid : (made : Record) (before : Entry) → IsEntry before → IsLegalAt before made → IsEntry (leaves made before)
leaves_valid (Begin block old new) before valid legal = legal.1.1
leaves_valid (End block key) before valid legal = tt
leaves_valid (BadRecord block) before valid legal = tt
leaves_valid (BeginRun first many) before valid legal = valid_begun before valid
leaves_valid (EndRun first many) before valid legal = valid_ended before valid
leaves_valid (Clear first many) before valid legal = tt

chain_valid : (entry : Entry) (records : List Record) → IsEntry entry → IsChain entry records → IsEntry (chain_end entry records)
chain_valid entry [] valid chain = valid
chain_valid entry (made ∷ records) valid chain = chain_valid (leaves made entry) records (leaves_valid made entry valid chain.0) chain.1

-- chains one behind the other
pub chain_end-append : (entry : Entry) (xs ys : List Record) → chain_end entry (xs ++ ys) ≡ chain_end (chain_end entry xs) ys
chain_end-append entry xs ys = fold-append (λ before made. leaves made before) entry xs ys

pub chain_joined : (entry : Entry) (xs ys : List Record) → IsChain entry xs → IsChain (chain_end entry xs) ys → IsChain entry (xs ++ ys)
chain_joined entry [] ys front back = back
chain_joined entry (made ∷ xs) ys front back = (front.0, chain_joined (leaves made entry) xs ys front.1 back)

pub chain_split : (entry : Entry) (xs ys : List Record) → IsChain entry (xs ++ ys) → IsChain entry xs × IsChain (chain_end entry xs) ys
chain_split entry [] ys chain = (tt, chain)
chain_split entry (made ∷ xs) ys chain = let rest = chain_split (leaves made entry) xs ys chain.1 in ((chain.0, rest.0), rest.1)

-- what is read of the states
pub length-states : (base : List Entry) (records : List Record) → length (states base records) ≡ length base
length-states base records = length-map-range_with_len (state base records) 0 (length base)

pub entry_at-states : (base : List Entry) (records : List Record) (block : ℕ) → block < length base → entry_at (states base records) block ≡ state base records block
entry_at-states base records block inside = get_or-map-range_with_len (state base records) 0 (length base) block block Bad inside (omega arith)

pub states_by : (base : List Entry) (records : List Record) (entries : List Entry) → length entries ≡ length base
    → ((block : ℕ) → block < length base → entry_at entries block ≡ state base records block) → entries ≡ states base records
states_by base records entries long each = fill_by_all (state base records) entries (length base) Bad long each

-- without records nothing changes
pub states_nil : (base : List Entry) → states base [] ≡ base
states_nil base = sym (states_by base [] base refl (λ block inside. refl))

state-append : (base : List Entry) (xs ys : List Record) (block : ℕ) → state base (xs ++ ys) block ≡ chain_end (state base xs block) (records_of block ys)
state-append base xs ys block =
    ap (chain_end (entry_at base block)) (filter-append (names_block block) xs ys) ∙ chain_end-append (entry_at base block) (records_of block xs) (records_of block ys)

pub states-append : (base : List Entry) (xs ys : List Record) → states base (xs ++ ys) ≡ states (states base xs) ys
states-append base xs ys =
    states_by (states base xs) ys (states base (xs ++ ys)) (length-states base (xs ++ ys) ∙ sym (length-states base xs))
    (λ block inside.
    let here : block < length base = omega (arith, inside, length-states base xs) in
    entry_at-states base (xs ++ ys) block here ∙ state-append base xs ys block
    ∙ sym (ap (λ (e : Entry). chain_end e (records_of block ys)) (entry_at-states base xs block here)))

pub history_joined : (base : List Entry) (xs ys : List Record) → IsHistory base xs → IsHistory (states base xs) ys → IsHistory base (xs ++ ys)
history_joined base xs ys front back = record {
  chains = λ block inside.
      let long : block < length (states base xs) = omega (arith, inside, length-states base xs) in
      subst (IsChain (entry_at base block)) (sym (filter-append (names_block block) xs ys))
      (chain_joined _ _ _ (front.chains block inside)
      (subst (λ (e : Entry). IsChain e (records_of block ys)) (entry_at-states base xs block inside) (back.chains block long)));
  within = λ block past.
      let long : length (states base xs) ≤ block = omega (arith, past, length-states base xs) in
      filter-append (names_block block) xs ys ∙ ap (λ (l : List Record). l ++ records_of block ys) (front.within block past) ∙ back.within block long;
}

none_in_front : (xs ys : List Record) → xs ++ ys ≡ [] → xs ≡ []
none_in_front [] ys none = refl
none_in_front (x ∷ xs) ys none = cc

none_behind : (xs ys : List Record) → xs ++ ys ≡ [] → ys ≡ []
none_behind [] ys none = none
none_behind (x ∷ xs) ys none = cc

-- the history before a place, and the one behind it
pub history_split : (base : List Entry) (xs ys : List Record) → IsHistory base (xs ++ ys) → IsHistory base xs × IsHistory (states base xs) ys
history_split base xs ys all =
    let split : (block : ℕ) → block < length base → IsChain (entry_at base block) (records_of block xs) × IsChain (state base xs block) (records_of block ys) =
    λ block inside. chain_split _ _ _ (subst (IsChain (entry_at base block)) (filter-append (names_block block) xs ys) (all.chains block inside)) in
    let none : (block : ℕ) → length base ≤ block → records_of block xs ++ records_of block ys ≡ [] =
    λ block past. sym (filter-append (names_block block) xs ys) ∙ all.within block past in (
      record {
        chains = λ block inside. (split block inside).0;
        within = λ block past. none_in_front _ _ (none block past);
      },
      record {
        chains = λ block inside.
            let here : block < length base = omega (arith, inside, length-states base xs) in
            subst (λ (e : Entry). IsChain e (records_of block ys)) (sym (entry_at-states base xs block here)) (split block here).1;
        within = λ block past. none_behind _ _ (none block (omega (arith, past, length-states base xs)));
      },
    )

-- the test and what it says
named : (block : ℕ) (made : Record) → names_block block made ≡ true → Names made block
named block made held = grind (arith, nat_tests, held)

names : (block : ℕ) (made : Record) → Names made block → names_block block made ≡ true
names block made is = grind (arith, nat_tests, is.0, is.1)

-- one record is a history where it is legal on the entries
chain_of_one : (entry : Entry) (made : Record) (b : Bool) → (b ≡ true → IsLegalAt entry made) → IsChain entry (cond b (made ∷ []) [])
chain_of_one entry made true legal = (legal refl, tt)
chain_of_one entry made false legal = tt

none_of_one : (made : Record) (b : Bool) → (b ≡ true → ⊥) → cond b (made ∷ []) [] ≡ []
none_of_one made true not_held = absurd (not_held refl)
none_of_one made false not_held = refl

pub history_of_one : (base : List Entry) (made : Record) → IsLegalOn base made → IsHistory base (made ∷ [])
history_of_one base made legal = record {
  chains = λ block inside. chain_of_one (entry_at base block) made (names_block block made) (λ held. (legal block (named block made held)).1);
  within = λ block past. none_of_one made (names_block block made) (λ held. let inside = (legal block (named block made held)).0 in omega (arith, inside, past));
}

first_legal : (entry : Entry) (made : Record) (b : Bool) (records : List Record) → b ≡ true → IsChain entry (cond b (made ∷ records) records) → IsLegalAt entry made
first_legal entry made true records held chain = chain.0
first_legal entry made false records held chain = cc

first_there : (made : Record) (b : Bool) (records : List Record) → b ≡ true → cond b (made ∷ records) records ≡ [] → ⊥
first_there made true records held none = cc
first_there made false records held none = cc

pub first_of_history : (base : List Entry) (made : Record) (records : List Record) → IsHistory base (made ∷ records) → IsLegalOn base made
first_of_history base made records history block is = elim (cases_lt block (length base)) [
  | inl inside ↦ (inside, first_legal (entry_at base block) made (names_block block made) (records_of block records) (names block made is) (history.chains block inside))
  | inr past ↦ absurd (first_there made (names_block block made) (records_of block records) (names block made is) (history.within block past))
]

-- one record more
pub history_more : (base : List Entry) (records : List Record) (made : Record) → IsHistory base records → IsLegalOn (states base records) made → IsHistory base (records ++ made ∷ [])
history_more base records made history legal = history_joined base records (made ∷ []) history (history_of_one (states base records) made legal)

-- the entries of a legal history are entries
pub states_valid : (base : List Entry) (records : List Record) → AreEntries base → IsHistory base records → AreEntries (states base records)
states_valid base records valid history block inside =
    let here : block < length base = omega (arith, inside, length-states base records) in
    subst IsEntry (sym (entry_at-states base records block here)) (chain_valid (entry_at base block) (records_of block records) (valid block here) (history.chains block here))

-- no record, no step
pub history_nil : (base : List Entry) → IsHistory base []
history_nil base = record { chains = λ block inside. tt; within = λ block past. refl }

split_at : (records : List Record) (k : ℕ) (made : Record) → slice_get records k ≡ Some made → take k records ++ made ∷ drop (suc k) records ≡ records
split_at [] k made is = cc
split_at (r ∷ records) zero made is = let same : r ≡ made = cc in ap (λ (x : Record). x ∷ records) (sym same)
split_at (r ∷ records) (suc k) made is = ap (λ (l : List Record). r ∷ l) (split_at records k made is)

legal_of_history : (base : List Entry) (records : List Record) → IsHistory base records → AreLegal base records
legal_of_history base records history k made is =
    first_of_history (states base (take k records)) made (drop (suc k) records)
    (history_split base (take k records) (made ∷ drop (suc k) records) (subst (IsHistory base) (sym (split_at records k made is)) history)).1

front_of_legal : (base : List Entry) (records : List Record) → AreLegal base records → (k : ℕ) → k ≤ length records → IsHistory base (take k records)
front_of_legal base records legal zero order = history_nil base
front_of_legal base records legal (suc k) order =
    let made = get_or records k (BadRecord (record { 0 = 0 })) in
    let is = slice_get-get_or records k (BadRecord (record { 0 = 0 })) (omega arith) in
    let one : k + 1 ≡ suc k = omega arith in
    subst (IsHistory base) (sym (take_more records k (BadRecord (record { 0 = 0 })) (omega arith)) ∙ ap (λ n. take n records) one)
    (history_more base (take k records) made (front_of_legal base records legal k (omega arith)) (legal k made is))

pub both_ways : HistoryIsLegal
both_ways base records = (
  legal_of_history base records,
  λ legal. subst (IsHistory base) (take_all (length records) records (omega arith)) (front_of_legal base records legal (length records) (omega arith)),
)

pub append_both : StatesAppend
append_both base front back = (
  states-append base front back,
  (history_split base front back, λ both. history_joined base front back both.0 both.1),
)

pub entries_stay : EntriesStay
entries_stay base records = (length-states base records, states_valid base records)

state_of_one : (entry : Entry) (made : Record) (b : Bool) (after : Entry) → (b ≡ true → after ≡ leaves made entry) → (b ≡ false → after ≡ entry) → after ≡ chain_end entry (cond b (made ∷ []) [])
state_of_one entry made true after named_one other = named_one refl
state_of_one entry made false after named_one other = other refl

not_named : (block : ℕ) (made : Record) → names_block block made ≡ false → Names made block → ⊥
not_named block made is_not is = let is_one = names block made is in cc

-- what one record makes of the entries: those of its blocks take its step, and the others stay
pub states_of_one : (base : List Entry) (made : Record) (entries : List Entry) → length entries ≡ length base
    → ((block : ℕ) → block < length base → Names made block → Takes made (entry_at base block) (entry_at entries block))
    → ((block : ℕ) → block < length base → (Names made block → ⊥) → entry_at entries block ≡ entry_at base block) → entries ≡ states base (made ∷ [])
states_of_one base made entries long stepped kept =
    states_by base (made ∷ []) entries long
    (λ block inside.
    state_of_one (entry_at base block) made (names_block block made) (entry_at entries block)
    (λ held. takes_leaves made (entry_at base block) (entry_at entries block) (stepped block inside (named block made held)))
    (λ is_not. kept block inside (not_named block made is_not)))
