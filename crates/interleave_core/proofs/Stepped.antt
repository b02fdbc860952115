-- What a record makes of the entries of all blocks.
use Rattle.std.proofs.Common.{◌≡◌, inl, inr, ℕ, ◌+◌, ◌<◌, ◌≤◌, true, false, List, [], ◌∷◌, ◌++◌, length, take, drop, get_or, slice_set, refl, sym, ap, ◌∙◌, subst, arith}
use Rattle.std.proofs.lemmas.List.{get_or-set_same, get_or-set_other, length-set, get_or_past, get_or_default, take_more, take_all, length-drop}
use Rattle.std.proofs.lemmas.List.FromFn.{fill_by_all}
use Rattle.std.proofs.lemmas.Bool.{cases_lt, cases_eq, cases_Bool}
use Rattle.key_state.specs.declared.entry.Entry.{Entry}
use Rattle.key_state.specs.declared.entry.Entry.TheVariants.{Settled, Bad}
use Rattle.key_state.specs.declared.record.Record.{Record}
use Rattle.key_state.specs.Entries.{first_of, names_block, Names, leaves, records_of, entry_at, state, states}
use Rattle.interleave_core.specs.Journal.{IsStepped, entry_in}
use Rattle.interleave_core.proofs.Chains.{names_true, names_inv, own-push_of, own-push_other, own_parts, state-push_of, state-push_other}

-- At the first block nothing has happened.
pub stepped_first : (made : Record) (entries : List Entry) (i : ℕ) → i ≤ first_of made → IsStepped made entries entries i
stepped_first made entries i low = record {
  size = refl;
  stepped = λ b within below names. absurd (omega (arith, below, names.0, low));
  rest = λ b not. refl;
}

pub stepped_one : (made : Record) (old new : List Entry) (i : ℕ) → IsStepped made old new i → i < length new → Names made i
    → IsStepped made old (slice_set new i (leaves made (entry_in new i))) (i + 1)
stepped_one made old new i before within names = record {
  size = length-set new i (leaves made (entry_in new i)) ∙ before.size;
  stepped = λ b inside below its. elim (cases_eq b i) [
    | inl same ↦
        subst (λ k. entry_in (slice_set new i (leaves made (entry_in new i))) k ≡ leaves made (entry_in old k)) (sym same)
        (get_or-set_same new i (leaves made (entry_in new i)) (Settled 0) within ∙ ap (leaves made) (before.rest i (λ n less. omega (arith, less))))
    | inr apart ↦ get_or-set_other new i b (leaves made (entry_in new i)) (Settled 0) apart ∙ before.stepped b inside (omega (arith, apart)) its
  ];
  rest = λ b not.
      let apart : b ≡ i → ⊥ = λ same. not (subst (Names made) (sym same) names) (omega (arith, same)) in
      get_or-set_other new i b (leaves made (entry_in new i)) (Settled 0) apart ∙ before.rest b (λ n less. not n (omega (arith, less)));
}

-- At the last block all has happened.
pub stepped_last : (made : Record) (old new : List Entry) (i : ℕ) → IsStepped made old new i
    → ((b : ℕ) → b < length old → Names made b → b < i) → IsStepped made old new (length old)
stepped_last made old new i before all = record {
  size = before.size;
  stepped = λ b inside below its. before.stepped b inside (all b inside its) its;
  rest = λ b not. elim (cases_lt b (length old)) [
    | inl inside ↦ before.rest b (λ n less. not n inside)
    | inr past ↦ get_or_past new b (Settled 0) (omega (arith, past, before.size)) ∙ sym (get_or_past old b (Settled 0) past)
  ];
}

-- The entries after one record more.
pub stepped_states : (made : Record) (base : List Entry) (records : List Record) (old new : List Entry) → IsStepped made old new (length old)
    → (b : ℕ) → b < length old → entry_in old b ≡ state base records b → entry_in new b ≡ state base (records ++ made ∷ []) b
stepped_states made base records old new stepped b within is = elim (cases_Bool (names_block b made)) [
  | inl names ↦ stepped.stepped b within within (names_inv b made names) ∙ ap (leaves made) is ∙ sym (state-push_of base b records made names)
  | inr other ↦
      stepped.rest b (λ n less. absurd (let e = sym (names_true b made n) ∙ other in cc)) ∙ is ∙ sym (state-push_other base b records made other)
]

-- A list of all entries is the list of all states.
pub states_are : (base now : List Entry) (records : List Record) → length now ≡ length base
    → ((b : ℕ) → b < length base → entry_in now b ≡ state base records b) → now ≡ states base records
states_are base now records same each =
    fill_by_all (state base records) now (length base) (Settled 0) same each

-- A read of an entry that is there, at either default.
pub read_at : (entries : List Entry) (b : ℕ) → b < length entries → entry_in entries b ≡ entry_at entries b
read_at entries b within = get_or_default entries b (Settled 0) Bad within

-- none of the block's records among the first i, and the next isn't one
pub own_more_none : (b i : ℕ) (records : List Record) (d : Record) → i < length records → records_of b (take i records) ≡ [] → names_block b (get_or records i d) ≡ false
    → records_of b (take (i + 1) records) ≡ []
own_more_none b i records d within none not =
    ap (records_of b) (take_more records i d within) ∙ own-push_other b (take i records) (get_or records i d) not ∙ none

-- a record of the block
pub own_has : (b i : ℕ) (records : List Record) (d : Record) → i < length records → names_block b (get_or records i d) ≡ true → records_of b records ≡ [] → ⊥
own_has b i records d within is none =
    let front : records_of b (take (i + 1) records) ≡ records_of b (take i records) ++ get_or records i d ∷ []
    = ap (records_of b) (take_more records i d within) ∙ own-push_of b (take i records) (get_or records i d) is in
    let left : records_of b (take (i + 1) records) ≡ [] = nil_left (records_of b (take (i + 1) records)) (records_of b (drop (i + 1) records)) (own_parts b (i + 1) records ∙ none) in
    let last : records_of b (take i records) ++ get_or records i d ∷ [] ≡ [] = sym front ∙ left in
    absurd (let e : get_or records i d ∷ [] ≡ [] = nil_right (records_of b (take i records)) (get_or records i d ∷ []) last in cc) where
      nil_left : (front rest : List Record) → front ++ rest ≡ [] → front ≡ []
      nil_left [] rest is = refl
      nil_left (r ∷ front) rest is = absurd (cc)

      nil_right : (front rest : List Record) → front ++ rest ≡ [] → rest ≡ []
      nil_right [] rest is = is
      nil_right (r ∷ front) rest is = absurd (cc)

-- what a slice from s on has
pub slice_rest : (b s n : ℕ) (records slice : List Record) → slice ≡ records → length records ≤ n + s → records_of b (take n (drop s slice)) ≡ [] → records_of b (drop s records) ≡ []
slice_rest b s n records slice same all none =
    ap (λ (l : List Record). records_of b (drop s l)) (sym same)
    ∙ ap (records_of b) (sym (take_all n (drop s slice) (omega (arith, length-drop s slice, ap length same))))
    ∙ none

pub slice_rest_inv : (b s n : ℕ) (records slice : List Record) → slice ≡ records → length records ≤ n + s → records_of b (drop s records) ≡ [] → records_of b (take n (drop s slice)) ≡ []
slice_rest_inv b s n records slice same all none =
    ap (records_of b) (take_all n (drop s slice) (omega (arith, length-drop s slice, ap length same)))
    ∙ ap (λ (l : List Record). records_of b (drop s l)) same
    ∙ none
