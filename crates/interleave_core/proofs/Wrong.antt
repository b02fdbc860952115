-- No schedule counts a wrong sector, and each counts every step once.
use Rattle.std.specs.Prelude.{sum_by, Option, None, Some, ◌||◌}
use Rattle.std.proofs.Common.{List, [], ◌∷◌, ◌++◌, add-one, ◌≡◌, ◌⊎◌, inl, inr, ℕ, zero, suc, ◌+◌, ◌<◌, Bool, true, false, cond, eqb, length, refl, sym, ap, ◌∙◌, subst, arith}
use Rattle.std.proofs.lemmas.Bool.Decides.{nat_tests}
use Rattle.std.specs.List.{range_with_len}
use Rattle.std.proofs.lemmas.List.{map-id}
use Rattle.std.proofs.lemmas.List.FromFn.{map-range_with_len_more}
use Rattle.std.proofs.lemmas.List.Sums.{sum_by-append, sum_by-cons}
use Rattle.rand_pcg.specs.Lcg.{Lcg}
use Rattle.key_state.specs.declared.entry.Entry.{Entry}
use Rattle.key_state.specs.declared.entry.Entry.TheVariants.{Settled, Pending, Bad}
use Rattle.interleave_core.specs.declared.event.Event.{Event}
use Rattle.interleave_core.specs.declared.event.Event.TheVariants as event
use Rattle.interleave_core.specs.declared.summary.Summary.{Summary}
use Rattle.interleave_core.specs.Fits.{Fits, Matches}
use Rattle.interleave_core.specs.Summary.{AreFew, Grew}
use Rattle.interleave_core.specs.Schedule.{draw, seeded, matches, fits, wrong_at, wrong_in, wrong_of, Tries, Stops, Turn, Turns, no_counts, Simulates}
use Rattle.interleave_core.specs.World.{World, first_world, entry_of, key_of}
use Rattle.interleave_core.proofs.Kept.{fits_now}
use Rattle.interleave_core.proofs.Good.{Good}
use Rattle.interleave_core.proofs.Events.{good_step}
use Rattle.interleave_core.proofs.Always.{good_first}

either_true : (a b : Bool) → (a ≡ true) ⊎ (b ≡ true) → (a || b) ≡ true
either_true true b either = refl
either_true false b either = elim either [ inl is ↦ absurd (cc) | inr is ↦ is ]

matches_true : (sector key : ℕ) → Matches sector key → matches sector key ≡ true
matches_true sector key is = either_true (eqb key 0) (eqb sector key) (elim is [
  | inl none ↦ inl (grind (arith, nat_tests))
  | inr same ↦ inr (grind (arith, nat_tests))
])

fits_true : (e : Entry) (sector : ℕ) → Fits e sector → fits e sector ≡ true
fits_true (Settled key) sector is = matches_true sector key is
fits_true (Pending old new) sector is = either_true (matches sector old) (matches sector new) (elim is [
  | inl first ↦ inl (matches_true sector old first)
  | inr second ↦ inr (matches_true sector new second)
])
fits_true Bad sector is = refl

range_more : (n : ℕ) → range_with_len 0 (n + 1) ≡ range_with_len 0 n ++ n ∷ []
range_more n =
    sym (map-id (range_with_len 0 (n + 1)))
    ∙ map-range_with_len_more {X = ℕ} (λ k. k) 0 n n (omega arith)
    ∙ ap (λ (l : List ℕ). l ++ n ∷ []) (map-id (range_with_len 0 n))

-- A sum over the first so many numbers, and one more.
pub sum_more : (f : ℕ → ℕ) (n : ℕ) → sum_by f (range_with_len 0 (n + 1)) ≡ sum_by f (range_with_len 0 n) + f n
sum_more f n =
    let parts : sum_by f (range_with_len 0 n ++ n ∷ []) ≡ sum_by f (range_with_len 0 n) + sum_by f (n ∷ []) = sum_by-append f (range_with_len 0 n) (n ∷ []) in
    let last : sum_by f (n ∷ []) ≡ f n = omega (arith, sum_by-cons f n []) in
    ap (sum_by f) (range_more n) ∙ parts ∙ ap (λ k. sum_by f (range_with_len 0 n) + k) last

sum_none : (f : ℕ → ℕ) (n : ℕ) → ((i : ℕ) → i < n → f i ≡ 0) → sum_by f (range_with_len 0 n) ≡ 0
sum_none f zero each = refl
sum_none f (suc n) each =
    let before = sum_none f n (λ i below. each i (omega arith)) in
    let last = each n (omega arith) in
    let more : sum_by f (range_with_len 0 (suc n)) ≡ sum_by f (range_with_len 0 n) + f n = ap (λ k. sum_by f (range_with_len 0 k)) (sym (add-one n)) ∙ sum_more f n in
    omega (arith, before, last, more)

none_of : (w : World) → ((b s : ℕ) → b < length w.base → s < w.sectors → Fits (entry_of w b) (key_of w b s)) → wrong_of w ≡ 0
none_of w each = sum_none (wrong_in w) (length w.base) (λ b within. sum_none (wrong_at w b) w.sectors (λ s in_block.
    ap {B = ℕ} (λ (t : Bool). cond t 0 1) (fits_true (entry_of w b) (key_of w b s) (each b s within in_block))))

-- One step finds no wrong sector, and is counted once.
record Counted (before after : Summary) : Type 0 where
  wrong : after.wrong ≡ before.wrong
  steps : after.taken + after.idle ≡ before.taken + before.idle + 1

idle_counted : (before after : Summary) → after ≡ record before { idle = before.idle + 1 } → Counted before after
idle_counted before after is = record {
  wrong = ap (λ (c : Summary). c.wrong) is;
  steps = omega (arith, ap (λ (c : Summary). c.taken) is, ap (λ (c : Summary). c.idle) is);
}

tries_good : (w new : World) (e : Option Event) (before after : Summary) → Good w → Tries w e new before after → Good new × Counted before after
tries_good w new None before after good tries = (subst Good (sym tries.0) good, idle_counted before after tries.1)
tries_good w new (Some e) before after good tries = elim tries [
  | inl on ↦ (
    good_step w new e good on.0 on.1,
    record {
      wrong = ap (λ (c : Summary). c.wrong) on.2;
      steps = omega (arith, ap (λ (c : Summary). c.taken) on.2, ap (λ (c : Summary). c.idle) on.2);
    },
  )
  | inr off ↦ (subst Good (sym off.1) good, idle_counted before after off.2)
]

stops_good : (w new : World) (keep : ℕ) (before after : Summary) → Good w → Stops w keep new before after → Good new × Counted before after
stops_good w new keep before after good stops = elim stops [
  | inl stop ↦
      let mid = good_step w stop.0 (event.Stop keep) good stop.1 stop.2 in
      let none = none_of stop.0 (λ b s within in_block. fits_now stop.0 mid.kept b s within in_block) in
      let was : stop.0.stopped ≡ true = ap (λ (x : World). x.stopped) stop.2 in (
        good_step stop.0 new event.Recover mid was stop.3,
        record {
          wrong = omega (arith, ap (λ (c : Summary). c.wrong) stop.4, none);
          steps = omega (arith, ap (λ (c : Summary). c.taken) stop.4, ap (λ (c : Summary). c.idle) stop.4);
        },
      )
  | inr off ↦ (subst Good (sym off.1) good, idle_counted before after off.2)
]

turn_good : (w new : World) (x y z : ℕ) (before after : Summary) → Good w → Turn w x y z new before after → Good new × Counted before after
turn_good w new x y z before after good turn = elim turn [
  | inl stop ↦ stops_good w new _ before after good stop.1
  | inr other ↦ tries_good w new _ before after good other.1
]

turns_good : (n : ℕ) (w new : World) (g : Lcg) (before after : Summary) → Good w → Turns n w g before new after
    → (after.wrong ≡ before.wrong) × (after.taken + after.idle ≡ before.taken + before.idle + n)
turns_good zero w new g before after good turns = (ap (λ (c : Summary). c.wrong) turns.1, omega (arith, ap (λ (c : Summary). c.taken) turns.1, ap (λ (c : Summary). c.idle) turns.1))
turns_good (suc n) w new g before after good turns =
    let first = turn_good w turns.0 (draw g).x (draw g).y (draw g).z before turns.1 good turns.2 in
    let rest = turns_good n turns.0 new (draw g).rest turns.1 after first.0 turns.3 in
    (rest.0 ∙ first.1.wrong, omega (arith, rest.1, first.1.steps))

pub none_wrong : (n : ℕ) (counts : Summary) → Simulates n counts → counts.wrong ≡ 0
none_wrong n counts is = (turns_good n (first_world 64 8 4) is.0 (seeded n) no_counts counts (good_first 64 8 4) is.1).0

pub all_counted : (n : ℕ) (counts : Summary) → Simulates n counts → counts.taken + counts.idle ≡ n
all_counted n counts is = omega (arith, (turns_good n (first_world 64 8 4) is.0 (seeded n) no_counts counts (good_first 64 8 4) is.1).1)

-- One step more, from what is left of a schedule.
pub turns_more : (m n x y z : ℕ) (w mid new : World) (g h : Lcg) (before counts after : Summary) → x ≡ (draw g).x → y ≡ (draw g).y → z ≡ (draw g).z → h ≡ (draw g).rest → n ≡ suc m
    → Turn w x y z mid before counts → Turns m mid h counts new after → Turns n w g before new after
turns_more m n x y z w mid new g h before counts after is_x is_y is_z is_rest is turn rest =
    let drawn : Turn w (draw g).x (draw g).y (draw g).z mid before counts
    = subst (λ k. Turn w (draw g).x (draw g).y k mid before counts) is_z
    (subst (λ k. Turn w (draw g).x k z mid before counts) is_y (subst (λ k. Turn w k y z mid before counts) is_x turn)) in
    let left : Turns m mid (draw g).rest counts new after = subst (λ (k : Lcg). Turns m mid k counts new after) is_rest rest in
    subst (λ k. Turns k w g before new after) (sym is) (mid, counts, drawn, left)

pub few_more : (i : ℕ) (a b : Summary) → AreFew i a → Grew a b → AreFew (i + 1) b
few_more i a b few grew = record {
  taken = omega (arith, few.taken, grew.taken);
  idle = omega (arith, few.idle, grew.idle);
  ends = omega (arith, few.ends, grew.ends);
  stops = omega (arith, few.stops, grew.stops);
  wrong = omega (arith, few.wrong, grew.wrong);
}

-- a schedule from its beginning, and at its end
pub turns_from : (m n : ℕ) (w v new : World) (g h : Lcg) (before after : Summary) → m ≡ n → w ≡ v → g ≡ h → Turns m w g before new after → Turns n v h before new after
turns_from m n w v new g h before after is_m is_w is_g turns =
    subst (λ k. Turns k v h before new after) is_m (subst (λ (x : World). Turns m x h before new after) is_w (subst (λ (x : Lcg). Turns m w x before new after) is_g turns))

pub turns_end : (m : ℕ) (w : World) (g : Lcg) (counts : Summary) → m ≡ 0 → Turns m w g counts w counts
turns_end m w g counts none = subst (λ k. Turns k w g counts w counts) (sym none) (refl, refl)

pub none_counted : AreFew 0 no_counts
none_counted = record { taken = omega arith; idle = omega arith; ends = omega arith; stops = omega arith; wrong = omega arith }
