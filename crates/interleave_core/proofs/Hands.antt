-- What the workers hold, and how one of them changes that.
use Rattle.std.specs.Prelude.{⊤, ◌↔◌}
use Rattle.std.proofs.Common.{◌≡◌, ◌≢◌, ◌⊎◌, inl, inr, ℕ, ◌<◌, ◌≤◌, Bool, true, List, length, replicate, slice_index_or, slice_set, refl, sym, ap, ◌∙◌, subst, arith}
use Rattle.std.proofs.lemmas.List.{get_or-set_same, get_or-set_other, get_or-replicate, get_or_past, length-replicate}
use Rattle.std.proofs.lemmas.Bool.{cases_lt, cases_eq}
use Rattle.key_state.specs.declared.entry.Entry.{Entry}
use Rattle.key_state.specs.declared.entry.Entry.TheVariants.{Bad}
use Rattle.key_state.specs.Entries.{IsPending}
use Rattle.interleave_core.specs.declared.hold.Stage.{Stage}
use Rattle.interleave_core.specs.declared.hold.Stage.TheVariants.{Free, Claimed, Queued, Writing, Acked, Done}
use Rattle.interleave_core.specs.declared.hold.Hold.{Hold}
use Rattle.interleave_core.specs.Event.{pending_key}
use Rattle.interleave_core.specs.World.{no_hold, Lists}

abbrev pub held : List Hold → ℕ → Hold
held holds a = slice_index_or holds a no_hold

-- what a stage says of a listed block with this entry, these keys and these marks
abbrev pub Suits : ℕ → Entry → (ℕ → ℕ) → (ℕ → Bool) → Stage → Type 0
Suits S e key mark Free = ⊤
Suits S e key mark Claimed = e ≢ Bad
Suits S e key mark Queued = IsPending e × ((s : ℕ) → s < S → mark s ≡ true → key s ≡ pending_key e)
Suits S e key mark Writing = IsPending e × ((s : ℕ) → s < S → mark s ≡ true → key s ≡ pending_key e)
Suits S e key mark Acked = IsPending e × ((s : ℕ) → s < S → key s ≡ pending_key e)
Suits S e key mark Done = ⊤

pub record Hands (holds : List Hold) (S N : ℕ) (E : ℕ → Entry) (K : ℕ → ℕ → ℕ) (M : ℕ → ℕ → Bool) : Type 0 where
  pub free : (a : ℕ) → ((held holds a).stage ≡ Free) ↔ ((held holds a).many ≡ 0)
  pub few : (a : ℕ) → (held holds a).many ≤ 64
  pub inside : (a b : ℕ) → Lists (held holds a) b → b < N
  pub apart : (a c b : ℕ) → Lists (held holds a) b → Lists (held holds c) b → a ≡ c
  pub suits : (a b : ℕ) → Lists (held holds a) b → Suits S (E b) (K b) (M b) (held holds a).stage

pub held-set : (holds : List Hold) (a c : ℕ) (x : Hold) → a < length holds
    → ((c ≡ a) × (held (slice_set holds a x) c ≡ x)) ⊎ ((c ≡ a → ⊥) × (held (slice_set holds a x) c ≡ held holds c))
held-set holds a c x within = elim (cases_eq c a) [
  | inl same ↦ inl (same, ap (held (slice_set holds a x)) same ∙ get_or-set_same holds a x no_hold within)
  | inr other ↦ inr (other, get_or-set_other holds a c x no_hold other)
]

pub suits_same : (S : ℕ) (e f : Entry) (key to : ℕ → ℕ) (mark at : ℕ → Bool) (stage : Stage) → f ≡ e
    → ((s : ℕ) → s < S → (to s ≡ key s) × (at s ≡ mark s)) → Suits S e key mark stage → Suits S f to at stage
suits_same S e f key to mark at Free same keys suits = tt
suits_same S e f key to mark at Claimed same keys suits = λ bad. suits (sym same ∙ bad)
suits_same S e f key to mark at Queued same keys suits =
    (subst IsPending (sym same) suits.0, λ s within is. (keys s within).0 ∙ suits.1 s within (sym (keys s within).1 ∙ is) ∙ ap pending_key (sym same))
suits_same S e f key to mark at Writing same keys suits =
    (subst IsPending (sym same) suits.0, λ s within is. (keys s within).0 ∙ suits.1 s within (sym (keys s within).1 ∙ is) ∙ ap pending_key (sym same))
suits_same S e f key to mark at Acked same keys suits =
    (subst IsPending (sym same) suits.0, λ s within. (keys s within).0 ∙ suits.1 s within ∙ ap pending_key (sym same))
suits_same S e f key to mark at Done same keys suits = tt

-- One worker's hold becomes x, and the blocks of the others stay as they were.
pub hands_set : (holds : List Hold) (S N : ℕ) (E F : ℕ → Entry) (K L : ℕ → ℕ → ℕ) (M R : ℕ → ℕ → Bool) (a : ℕ) (x : Hold) → Hands holds S N E K M → a < length holds
    → ((x.stage ≡ Free) ↔ (x.many ≡ 0))
    → x.many ≤ 64
    → ((b : ℕ) → Lists x b → b < N)
    → ((b : ℕ) → Lists x b → (c : ℕ) → (c ≡ a → ⊥) → Lists (held holds c) b → ⊥)
    → ((b : ℕ) → Lists x b → Suits S (F b) (L b) (R b) x.stage)
    → ((b c : ℕ) → (c ≡ a → ⊥) → Lists (held holds c) b → (F b ≡ E b) × ((s : ℕ) → s < S → (L b s ≡ K b s) × (R b s ≡ M b s)))
    → Hands (slice_set holds a x) S N F L R
hands_set holds S N E F K L M R a x hands within free few inside apart suits others = record {
  free = λ c. elim (held-set holds a c x within) [
    | inl own ↦ subst (λ (h : Hold). (h.stage ≡ Free) ↔ (h.many ≡ 0)) (sym own.1) free
    | inr other ↦ subst (λ (h : Hold). (h.stage ≡ Free) ↔ (h.many ≡ 0)) (sym other.1) (hands.free c)
  ];
  few = λ c. elim (held-set holds a c x within) [
    | inl own ↦ subst (λ (h : Hold). h.many ≤ 64) (sym own.1) few
    | inr other ↦ subst (λ (h : Hold). h.many ≤ 64) (sym other.1) (hands.few c)
  ];
  inside = λ c b. elim (held-set holds a c x within) [
    | inl own ↦ subst (λ (h : Hold). Lists h b → b < N) (sym own.1) (inside b)
    | inr other ↦ subst (λ (h : Hold). Lists h b → b < N) (sym other.1) (hands.inside c b)
  ];
  apart = λ c d b. elim (held-set holds a c x within) [
    | inl own ↦ elim (held-set holds a d x within) [
      | inl too ↦ λ n m. own.0 ∙ sym too.0
      | inr other ↦ λ n m. absurd (apart b (subst (λ (h : Hold). Lists h b) own.1 n) d other.0 (subst (λ (h : Hold). Lists h b) other.1 m))
    ]
    | inr other ↦ elim (held-set holds a d x within) [
      | inl own ↦ λ n m. absurd (apart b (subst (λ (h : Hold). Lists h b) own.1 m) c other.0 (subst (λ (h : Hold). Lists h b) other.1 n))
      | inr too ↦ λ n m. hands.apart c d b (subst (λ (h : Hold). Lists h b) other.1 n) (subst (λ (h : Hold). Lists h b) too.1 m)
    ]
  ];
  suits = λ c b. elim (held-set holds a c x within) [
    | inl own ↦ subst (λ (h : Hold). Lists h b → Suits S (F b) (L b) (R b) h.stage) (sym own.1) (suits b)
    | inr other ↦ subst (λ (h : Hold). Lists h b → Suits S (F b) (L b) (R b) h.stage) (sym other.1)
        (λ n. let same = others b c other.0 n in suits_same S (E b) (F b) (K b) (L b) (M b) (R b) (held holds c).stage same.0 same.1 (hands.suits c b n))
  ];
}

-- No worker holds a thing.
pub hands_none : (holds : List Hold) (S N : ℕ) (E : ℕ → Entry) (K : ℕ → ℕ → ℕ) (M : ℕ → ℕ → Bool)
    → ((a : ℕ) → ((held holds a).stage ≡ Free) ↔ ((held holds a).many ≡ 0)) → ((a : ℕ) → (held holds a).many ≤ 64)
    → ((a b : ℕ) → Lists (held holds a) b → ⊥) → Hands holds S N E K M
hands_none holds S N E K M free few none = record {
  free = free;
  few = few;
  inside = λ a b n. absurd (none a b n);
  apart = λ a c b n m. absurd (none a b n);
  suits = λ a b n. absurd (none a b n);
}

-- a list of free holds
pub all_free : (n a : ℕ) → held (replicate n no_hold) a ≡ no_hold
all_free n a = elim (cases_lt a n) [
  | inl inside ↦ get_or-replicate n a no_hold no_hold inside
  | inr past ↦ get_or_past (replicate n no_hold) a no_hold (omega (arith, past, length-replicate n no_hold))
]

pub none_listed : (n a b : ℕ) → Lists (held (replicate n no_hold) a) b → ⊥
none_listed n a b lists = let m = subst (λ (h : Hold). Lists h b) (all_free n a) lists in omega (arith, m)

pub hands_free : (n S N : ℕ) (E : ℕ → Entry) (K : ℕ → ℕ → ℕ) (M : ℕ → ℕ → Bool) → Hands (replicate n no_hold) S N E K M
hands_free n S N E K M = hands_none (replicate n no_hold) S N E K M
    (λ a. subst (λ (h : Hold). (h.stage ≡ Free) ↔ (h.many ≡ 0)) (sym (all_free n a)) ((λ is. refl), (λ is. refl)))
    (λ a. subst (λ (h : Hold). h.many ≤ 64) (sym (all_free n a)) (omega arith))
    (none_listed n)
