-- What every event keeps, and the changes that events share.
use Rattle.std.specs.Prelude.{◌↔◌}
use Rattle.std.proofs.Common.{◌≡◌, ◌⊎◌, inl, inr, ℕ, ◌+◌, ◌*◌, ◌-◌, ◌<◌, ◌≤◌, Bool, true, false, List, [], ◌∷◌, ◌++◌, length, slice_index_or, refl, sym, ◌∙◌, arith}
use Rattle.std.proofs.lemmas.Bool.{cases_lt, cases_Bool}
use Rattle.key_state.specs.declared.record.Record.{Record}
use Rattle.key_state.specs.Entries.{names_block, IsLegalAt, leaves, state}
use Rattle.interleave_core.specs.declared.hold.Stage.{Stage}
use Rattle.interleave_core.specs.declared.hold.Stage.TheVariants.{Free, Claimed, Queued, Writing, Acked, Done}
use Rattle.interleave_core.specs.declared.hold.Hold.{Hold}
use Rattle.interleave_core.specs.Event.{at_stage, unwritten}
use Rattle.interleave_core.specs.Fits.{Fits}
use Rattle.interleave_core.specs.Sound.{Sound, SuitsStage}
use Rattle.interleave_core.specs.World.{World, hold_of, Lists, entry_of, key_of, is_written}
use Rattle.interleave_core.proofs.Chains.{state-push_other}
use Rattle.interleave_core.proofs.Hands.{Suits, Hands, hands_set}
use Rattle.interleave_core.proofs.Kept.{Kept, kept_push}
use Rattle.interleave_core.proofs.Sectors.{place_within, row_in, row_behind, cleared_length, cleared_in, cleared_below, cleared_above}

pub record Good (w : World) : Type 0 where
  pub kept : Kept w
  pub hands : Hands w.holds w.sectors (length w.base) (entry_of w) (key_of w) (is_written w)
  pub quiet : w.stopped ≡ true → (a b : ℕ) → Lists (hold_of w a) b → ⊥

-- A running world is not stopped.
pub runs : (w : World) (P : Type 0) → w.stopped ≡ false → w.stopped ≡ true → P
runs w P running stopped = absurd (let e = sym running ∙ stopped in cc)

-- The blocks of a list are there.
pub list_fits : (w : World) (a : ℕ) → Good w → ((hold_of w a).stage ≡ Free → ⊥) → (hold_of w a).first.0 + (hold_of w a).many ≤ length w.base
list_fits w a good busy = elim (cases_lt 0 (hold_of w a).many) [
  | inl some ↦
      let last : (hold_of w a).first.0 + (hold_of w a).many - 1 < length w.base = good.hands.inside a ((hold_of w a).first.0 + (hold_of w a).many - 1) (omega (arith, some), omega (arith, some)) in
      omega (arith, last, some)
  | inr none ↦ absurd (busy ((good.hands.free a).1 (omega (arith, none))))
]

-- what clearing the marks of a list leaves of each
pub marks_anew : (w : World) (hold : Hold) (b s : ℕ) → length w.written ≡ length w.base * w.sectors → hold.first.0 + hold.many ≤ length w.base → s < w.sectors
    → (Lists hold b × (slice_index_or (unwritten w hold) (b * w.sectors + s) false ≡ false))
    ⊎ ((Lists hold b → ⊥) × (slice_index_or (unwritten w hold) (b * w.sectors + s) false ≡ is_written w b s))
marks_anew w hold b s marked fit within = elim (cases_lt b hold.first.0) [
  | inl before ↦ inr (
    λ lists. omega (arith, lists.0, before),
    cleared_below w.written (hold.first.0 * w.sectors) (hold.many * w.sectors) (b * w.sectors + s) room (place_within hold.first.0 w.sectors b s before within),
  )
  | inr low ↦ elim (cases_lt b (hold.first.0 + hold.many)) [
    | inl high ↦
        let row = row_in hold.first.0 hold.many w.sectors b s low high within in
        inl ((low, high), cleared_in w.written (hold.first.0 * w.sectors) (hold.many * w.sectors) (b * w.sectors + s) room row.0 row.1)
    | inr past ↦ inr (
      λ lists. omega (arith, lists.1, past),
      cleared_above w.written (hold.first.0 * w.sectors) (hold.many * w.sectors) (b * w.sectors + s) room (row_behind hold.first.0 hold.many w.sectors b s past),
    )
  ]
] where
  room : hold.first.0 * w.sectors + hold.many * w.sectors ≤ length w.written
  room = let row : hold.first.0 * w.sectors + hold.many * w.sectors ≤ length w.base * w.sectors + 0 = row_behind hold.first.0 hold.many w.sectors (length w.base) 0 fit in omega (arith, row, marked)

pub marks_length : (w : World) (hold : Hold) → length w.written ≡ length w.base * w.sectors → hold.first.0 + hold.many ≤ length w.base → length (unwritten w hold) ≡ length w.written
marks_length w hold marked fit =
    let row : hold.first.0 * w.sectors + hold.many * w.sectors ≤ length w.base * w.sectors + 0 = row_behind hold.first.0 hold.many w.sectors (length w.base) 0 fit in
    cleared_length w.written (hold.first.0 * w.sectors) (hold.many * w.sectors) (omega (arith, row, marked))

-- A hold at another stage is free as before: not at all.
stays_busy : (hold : Hold) (stage : Stage) → ((hold.stage ≡ Free) ↔ (hold.many ≡ 0)) → (hold.stage ≡ Free → ⊥) → (stage ≡ Free → ⊥) → (stage ≡ Free) ↔ (hold.many ≡ 0)
stays_busy hold stage free was busy = ((λ is. absurd (busy is)), (λ none. absurd (was (free.1 none))))

-- One worker goes to another stage, and the marks of its blocks may change.
pub good_stage : (w : World) (a : ℕ) (stage : Stage) (marks : List Bool) → Good w → w.stopped ≡ false → a < length w.holds
    → ((hold_of w a).stage ≡ Free → ⊥) → (stage ≡ Free → ⊥)
    → length marks ≡ length w.written
    → ((b s : ℕ) → (Lists (hold_of w a) b → ⊥) → s < w.sectors → slice_index_or marks (b * w.sectors + s) false ≡ is_written w b s)
    → ((b : ℕ) → Lists (hold_of w a) b → Suits w.sectors (entry_of w b) (key_of w b) (λ s. slice_index_or marks (b * w.sectors + s) false) stage)
    → Good (record w { holds = at_stage w a stage; written = marks })
good_stage w a stage marks good running within was busy sized same suits = record {
  kept = record { synced = good.kept.synced; keyed = good.kept.keyed; marked = sized ∙ good.kept.marked; legal = good.kept.legal; fits = good.kept.fits };
  hands = hands_set w.holds w.sectors (length w.base) (entry_of w) (entry_of w) (key_of w) (key_of w) (is_written w) (λ b s. slice_index_or marks (b * w.sectors + s) false) a _ good.hands within
      (stays_busy (hold_of w a) stage (good.hands.free a) was busy)
      (good.hands.few a)
      (λ b n. good.hands.inside a b n)
      (λ b n c other m. other (good.hands.apart c a b m n))
      suits
      (λ b c other n. (refl, λ s in_block. (refl, same b s (λ m. other (good.hands.apart c a b n m)) in_block)));
  quiet = runs w _ running;
}

-- One worker appends a record of blocks that it lists, and goes to another stage.
pub good_record : (w : World) (a : ℕ) (made : Record) (stage : Stage) (marks : List Bool) → Good w → w.stopped ≡ false → a < length w.holds
    → ((hold_of w a).stage ≡ Free → ⊥) → (stage ≡ Free → ⊥)
    → length marks ≡ length w.written
    → ((b s : ℕ) → (Lists (hold_of w a) b → ⊥) → s < w.sectors → slice_index_or marks (b * w.sectors + s) false ≡ is_written w b s)
    → ((b : ℕ) → names_block b made ≡ true → Lists (hold_of w a) b)
    → ((b : ℕ) → Lists (hold_of w a) b → names_block b made ≡ true → IsLegalAt (entry_of w b) made)
    → ((b s : ℕ) → s < w.sectors → Lists (hold_of w a) b → names_block b made ≡ true → Fits (leaves made (entry_of w b)) (key_of w b s))
    → ((b : ℕ) → Lists (hold_of w a) b → Suits w.sectors (state w.base (w.records ++ made ∷ []) b) (key_of w b) (λ s. slice_index_or marks (b * w.sectors + s) false) stage)
    → Good (record w { records = w.records ++ made ∷ []; holds = at_stage w a stage; written = marks })
good_record w a made stage marks good running within was busy sized same listed legal fits suits =
    let kept = kept_push w made good.kept (λ b is. good.hands.inside a b (listed b is)) (λ b block is. legal b (listed b is) is) (λ b s block in_block is. fits b s in_block (listed b is) is) in
    record {
      kept = record { synced = kept.synced; keyed = kept.keyed; marked = sized ∙ good.kept.marked; legal = kept.legal; fits = kept.fits };
      hands = hands_set w.holds w.sectors (length w.base) (entry_of w) (state w.base (w.records ++ made ∷ [])) (key_of w) (key_of w) (is_written w) (λ b s. slice_index_or marks (b * w.sectors + s) false) a _ good.hands within
          (stays_busy (hold_of w a) stage (good.hands.free a) was busy)
          (good.hands.few a)
          (λ b n. good.hands.inside a b n)
          (λ b n c other m. other (good.hands.apart c a b m n))
          suits
          (λ b c other n. elim (cases_Bool (names_block b made)) [
            | inl is ↦ absurd (other (good.hands.apart c a b n (listed b is)))
            | inr not ↦ (state-push_other w.base b w.records made not, λ s in_block. (refl, same b s (λ m. other (good.hands.apart c a b n m)) in_block))
          ]);
      quiet = runs w _ running;
    }

suits_stage : (w : World) (b : ℕ) (stage : Stage) → Suits w.sectors (entry_of w b) (key_of w b) (is_written w b) stage → SuitsStage w b stage
suits_stage w b Free suits = tt
suits_stage w b Claimed suits = suits
suits_stage w b Queued suits = suits
suits_stage w b Writing suits = suits
suits_stage w b Acked suits = suits
suits_stage w b Done suits = tt

pub sound_of : (w : World) → Good w → Sound w
sound_of w good = record {
  apart = good.hands.apart;
  legal = good.kept.legal;
  stages = λ a b n. suits_stage w b (hold_of w a).stage (good.hands.suits a b n);
  fits = good.kept.fits;
  quiet = good.quiet;
  free = good.hands.free;
  few = good.hands.few;
  inside = good.hands.inside;
  synced = good.kept.synced;
  keyed = good.kept.keyed;
  marked = good.kept.marked;
}

pub good_of : (w : World) → Sound w → Good w
good_of w sound = record {
  kept = record { synced = sound.synced; keyed = sound.keyed; marked = sound.marked; legal = sound.legal; fits = sound.fits };
  hands = record { free = sound.free; few = sound.few; inside = sound.inside; apart = sound.apart; suits = λ a b n. stage_suits w b (hold_of w a).stage (sound.stages a b n) };
  quiet = sound.quiet;
} where
  stage_suits : (v : World) (b : ℕ) (stage : Stage) → SuitsStage v b stage → Suits v.sectors (entry_of v b) (key_of v b) (is_written v b) stage
  stage_suits v b Free suits = tt
  stage_suits v b Claimed suits = suits
  stage_suits v b Queued suits = suits
  stage_suits v b Writing suits = suits
  stage_suits v b Acked suits = suits
  stage_suits v b Done suits = tt
