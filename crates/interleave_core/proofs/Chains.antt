-- Chains of one block's own records.
use Rattle.std.proofs.Common.{◌≡◌, ℕ, ◌+◌, ◌-◌, ◌≤◌, Bool, true, false, cond, List, [], ◌∷◌, ◌++◌, take, drop, refl, sym, ap, ◌∙◌, subst, arith}
use Rattle.std.proofs.lemmas.List.{append-nil, take-append-drop, drop-drop}
use Rattle.std.proofs.lemmas.List.Elements.{filter-append}
use Rattle.std.proofs.lemmas.List.Sums.{fold_push}
use Rattle.std.proofs.lemmas.Bool.Decides.{nat_tests}
use Rattle.key_state.specs.declared.entry.Entry.{Entry}
use Rattle.key_state.specs.declared.record.Record.{Record}
use Rattle.key_state.specs.Entries.{names_block, Names, IsLegalAt, leaves, records_of, chain_end, entry_at, state, IsChain}

-- The test and the relation agree.
pub names_true : (b : ℕ) (made : Record) → Names made b → names_block b made ≡ true
names_true b made names = grind (arith, nat_tests)

pub names_inv : (b : ℕ) (made : Record) → names_block b made ≡ true → Names made b
names_inv b made is = grind (arith, nat_tests)

-- a record of the block at the end
pub own-push_of : (b : ℕ) (records : List Record) (made : Record) → names_block b made ≡ true → records_of b (records ++ made ∷ []) ≡ records_of b records ++ made ∷ []
own-push_of b records made is = filter-append (names_block b) records (made ∷ []) ∙ ap (λ (t : Bool). records_of b records ++ cond t (made ∷ []) []) is

-- a record of other blocks at the end
pub own-push_other : (b : ℕ) (records : List Record) (made : Record) → names_block b made ≡ false → records_of b (records ++ made ∷ []) ≡ records_of b records
own-push_other b records made other =
    filter-append (names_block b) records (made ∷ []) ∙ ap (λ (t : Bool). records_of b records ++ cond t (made ∷ []) []) other ∙ append-nil (records_of b records)

pub state-push_of : (base : List Entry) (b : ℕ) (records : List Record) (made : Record) → names_block b made ≡ true
    → state base (records ++ made ∷ []) b ≡ leaves made (state base records b)
state-push_of base b records made is =
    ap (chain_end (entry_at base b)) (own-push_of b records made is) ∙ fold_push (λ (before : Entry) (r : Record). leaves r before) (entry_at base b) (records_of b records) made

pub state-push_other : (base : List Entry) (b : ℕ) (records : List Record) (made : Record) → names_block b made ≡ false
    → state base (records ++ made ∷ []) b ≡ state base records b
state-push_other base b records made other = ap (chain_end (entry_at base b)) (own-push_other b records made other)

-- one more legal record
pub chain_push : (entry : Entry) (records : List Record) (made : Record) → IsChain entry records → IsLegalAt (chain_end entry records) made
    → IsChain entry (records ++ made ∷ [])
chain_push entry [] made chain legal = (legal, tt)
chain_push entry (r ∷ records) made chain legal = (chain.0, chain_push (leaves r entry) records made chain.1 legal)

pub chain_front : (entry : Entry) (front rest : List Record) → IsChain entry (front ++ rest) → IsChain entry front
chain_front entry [] rest chain = tt
chain_front entry (r ∷ front) rest chain = (chain.0, chain_front (leaves r entry) front rest chain.1)

-- a block's records, in two parts
pub own_parts : (b n : ℕ) (records : List Record) → records_of b (take n records) ++ records_of b (drop n records) ≡ records_of b records
own_parts b n records = sym (filter-append (names_block b) (take n records) (drop n records)) ∙ ap (records_of b) (take-append-drop n records)

pub chain_take : (entry : Entry) (b n : ℕ) (records : List Record) → IsChain entry (records_of b records) → IsChain entry (records_of b (take n records))
chain_take entry b n records chain =
    chain_front entry (records_of b (take n records)) (records_of b (drop n records)) (subst (IsChain entry) (sym (own_parts b n records)) chain)

nil_left : (front rest : List Record) → front ++ rest ≡ [] → front ≡ []
nil_left [] rest is = refl
nil_left (r ∷ front) rest is = absurd (cc)

nil_right : (front rest : List Record) → front ++ rest ≡ [] → rest ≡ []
nil_right [] rest is = is
nil_right (r ∷ front) rest is = absurd (cc)

-- Where a block has no record, it has none in a front or in a rest.
pub own-take_nil : (b n : ℕ) (records : List Record) → records_of b records ≡ [] → records_of b (take n records) ≡ []
own-take_nil b n records none = nil_left (records_of b (take n records)) (records_of b (drop n records)) (own_parts b n records ∙ none)

-- Where none of a block's records stands behind the first m, none stands behind the first n.
pub own-drop_nil : (b m n : ℕ) (records : List Record) → m ≤ n → records_of b (drop m records) ≡ [] → records_of b (drop n records) ≡ []
own-drop_nil b m n records le none =
    let e : m + (n - m) ≡ n = omega arith in
    let d : drop (n - m) (drop m records) ≡ drop n records = drop-drop (n - m) m records ∙ ap (λ k. drop k records) e in
    ap (records_of b) (sym d) ∙ nil_right (records_of b (take (n - m) (drop m records))) (records_of b (drop (n - m) (drop m records))) (own_parts b (n - m) (drop m records) ∙ none)

-- Then the block's entry is the same after the first n as after all.
pub state_front : (base : List Entry) (b m n : ℕ) (records : List Record) → m ≤ n → records_of b (drop m records) ≡ []
    → state base (take n records) b ≡ state base records b
state_front base b m n records le none =
    ap (chain_end (entry_at base b))
    (sym (append-nil (records_of b (take n records)))
    ∙ ap (λ (l : List Record). records_of b (take n records) ++ l) (sym (own-drop_nil b m n records le none))
    ∙ own_parts b n records)
