-- Stepping the blocks of a record, one after the other.
use Rattle.std.proofs.Common.{◌≡◌, inl, inr, ◌⊎◌, ℕ, suc, ◌+◌, ◌<◌, ◌≤◌, List, length, get_or, set, refl, sym, ap, ◌∙◌, subst, arith, length-set}
use Rattle.std.proofs.lemmas.List.{get_or-set_same, get_or-set_other}
use Rattle.std.proofs.lemmas.Bool.{cases_eq, cases_lt}
use Rattle.key_state.specs.declared.entry.Entry.{Entry}
use Rattle.key_state.specs.declared.entry.Entry.TheVariants.{Bad}
use Rattle.key_state.specs.declared.record.Record.{Record}
use Rattle.key_state.specs.Entries.{IsEntry, IsLegalAt, IsLegalOn, Takes, leaves, entry_at, first_of, many_of, Names, AreEntries}
use Rattle.key_state.specs.Books.{Steps, StepsAreStates}
use Rattle.key_state.proofs.Histories.{takes_leaves, legal_leaves, leaves_valid, states_of_one}

-- the record's blocks before the i-th place took their step, and no other block did
pub record StepsTo (made : Record) (i : ℕ) (old new : List Entry) : Type 0 where
  pub sized : length new ≡ length old
  pub done : (block : ℕ) → Names made block → block < i → entry_at new block ≡ leaves made (entry_at old block)
  pub rest : (block : ℕ) → (block < first_of made) ⊎ (i ≤ block) → entry_at new block ≡ entry_at old block
  pub valid : AreEntries new

pub steps_none : (made : Record) (entries : List Entry) → AreEntries entries → StepsTo made (first_of made) entries entries
steps_none made entries valid = record {
  sized = refl;
  done = λ block names before. absurd (omega (arith, names.0, before));
  rest = λ block apart. refl;
  valid = valid;
}

-- the entry at the i-th place is still the old one
pub untouched : (made : Record) (i : ℕ) (old new : List Entry) → StepsTo made i old new → entry_at new i ≡ entry_at old i
untouched made i old new so = so.rest i (inr (omega arith))

pub steps_more : (made : Record) (i : ℕ) (old new : List Entry) (after : Entry) → StepsTo made i old new → IsLegalOn old made → AreEntries old → first_of made ≤ i → i < first_of made + many_of made
    → Takes made (entry_at new i) after → StepsTo made (i + 1) old (set new i after)
steps_more made i old new after so legal valid low high takes =
    let is = legal i (low, high) in
    let inside : i < length new = omega (arith, is.0, so.sized) in
    let leaves_here : after ≡ leaves made (entry_at old i) = takes_leaves made (entry_at new i) after takes ∙ ap (leaves made) (untouched made i old new so) in
    let good : IsEntry after = subst IsEntry (sym leaves_here) (leaves_valid made (entry_at old i) (valid i is.0) is.1) in
    record {
      sized = length-set new i after ∙ so.sized;
      done = λ block names before. elim (cases_eq block i) [
        | inl same ↦ ap (entry_at (set new i after)) same ∙ get_or-set_same new i after Bad inside ∙ leaves_here ∙ ap (λ b. leaves made (entry_at old b)) (sym same)
        | inr other ↦ get_or-set_other new i block after Bad other ∙ so.done block names (omega (arith, before, other))
      ];
      rest = λ block apart.
          let other : block ≡ i → ⊥ = λ (e : block ≡ i). elim apart [ inl left ↦ absurd (omega (arith, left, e, low)) | inr right ↦ absurd (omega (arith, right, e)) ] in
          let far : (block < first_of made) ⊎ (i ≤ block) = elim apart [ inl left ↦ inl left | inr right ↦ inr (omega (arith, right)) ] in
          get_or-set_other new i block after Bad other ∙ so.rest block far;
      valid = λ block within. elim (cases_eq block i) [
        | inl same ↦ subst IsEntry (sym (ap (entry_at (set new i after)) same ∙ get_or-set_same new i after Bad inside)) good
        | inr other ↦ subst IsEntry (sym (get_or-set_other new i block after Bad other)) (so.valid block (omega (arith, within, length-set new i after)))
      ];
    }

pub steps_all : (made : Record) (i : ℕ) (old new : List Entry) → i ≡ first_of made + many_of made → StepsTo made i old new → Steps made old new
steps_all made i old new end so = record {
  sized = so.sized;
  named = λ block names. so.done block names (omega (arith, names.1, end));
  others = λ block apart. elim (cases_lt block (first_of made)) [
    | inl left ↦ so.rest block (inl left)
    | inr right ↦ elim (cases_lt block i) [
      | inl low ↦ absurd (apart (right, omega (arith, low, end)))
      | inr high ↦ so.rest block (inr high)
    ]
  ];
}

pub steps_are_states : StepsAreStates
steps_are_states made old new legal so =
    states_of_one old made new so.sized
    (λ block inside names.
    subst (Takes made (entry_at old block)) (sym (so.named block names)) (legal_leaves made (entry_at old block) (legal block names).1))
    (λ block inside apart. so.others block apart)
