-- The slave lines of a run add up to the turns of all its workers.
use Rattle.std.proofs.Common.{◌≡◌, ◌∙◌, refl, sym, ap, arith, inl, inr, ℕ, zero, suc, ◌+◌, ◌<◌, ◌≤◌, Bool, cond, List, [], ◌∷◌, length, sum_by}
use Rattle.std.specs.Prelude.{nat_eq}
use Rattle.std.specs.List.{filter, range_with_len, zip}
use Rattle.std.proofs.lemmas.Bool.{cases_eq, eq-eqb, ne_eqb}
use Rattle.std.proofs.lemmas.Nat.{mod_below}
use Rattle.plan_types.specs.Valid.{IsRun, IsWorker}
use Rattle.plan_types.specs.declared.plan.Plan.{Plan}
use Rattle.plan_types.specs.declared.run.WorkerPlan.{WorkerPlan}
use Rattle.claim_table.specs.Sums.{Each, total}
use Rattle.worker_tally.specs.Tallies.{Tallied}
use Rattle.slave_worker.specs.Hands.{IsRunOf}
use Rattle.run_report.specs.Runs.{group_totals, is_of, totals_of}
use Rattle.run_report.specs.declared.run_sums.Group.TheVariants as group
use Rattle.run_totals.proofs.Lists.{all_at, each_from, each_of_all, sum_is_total, total_filter, total_plus, total_same}
use Rattle.plan_totals.specs.Drawn.{slaves_turns}
use Rattle.plan_totals.specs.Made.{MadeRun}

abbrev pub Worked : Type 0
Worked = WorkerPlan × Tallied

abbrev turns_in : Worked → ℕ
turns_in one = one.1.numbers.turns

-- a number where its own is this one, and else 0
abbrev where_is : ℕ → ℕ → ℕ → ℕ
where_is own number n = cond (nat_eq own number) n 0

here : (own number n : ℕ) → own ≡ number → where_is own number n ≡ n
here own number n is = ap (λ (b : Bool). cond b n 0) (eq-eqb own number is)

elsewhere : (own number n : ℕ) → (own ≡ number → ⊥) → where_is own number n ≡ 0
elsewhere own number n isnt = ap (λ (b : Bool). cond b n 0) (ne_eqb own number isnt)

-- A number below a range, and one in it.
none_below : (own n low many : ℕ) → own < low → total (λ number. where_is own number n) (range_with_len low many) ≡ 0
none_below own n low zero below = refl
none_below own n low (suc many) below = omega (arith, elsewhere own low n (λ is. omega (arith, is, below)), none_below own n (low + 1) many (omega (arith, below)))

once : (own n low many : ℕ) → low ≤ own → own < low + many → total (λ number. where_is own number n) (range_with_len low many) ≡ n
once own n low zero from until = absurd (omega (arith, from, until))
once own n low (suc many) from until = elim (cases_eq own low) [
  | inl is ↦ omega (arith, here own low n is, none_below own n (low + 1) many (omega (arith, is)))
  | inr isnt ↦ omega (arith, elsewhere own low n isnt, once own n (low + 1) many (above own low from isnt) (omega (arith, until)))
]
  where
    above : (a b : ℕ) → b ≤ a → (a ≡ b → ⊥) → b + 1 ≤ a
    above a b under apart = omega (arith, under, apart)

no_total : {A : Type 0} (xs : List A) → total (λ x. 0) xs ≡ 0
no_total [] = refl
no_total (x ∷ xs) = omega (arith, no_total xs)

-- sums of sums, in either order
swapped : {A B : Type 0} (f : A → B → ℕ) (xs : List A) (ys : List B) → total (λ x. total (f x) ys) xs ≡ total (λ y. total (λ x. f x y) xs) ys
swapped f [] ys = sym (no_total ys)
swapped f (x ∷ xs) ys = ap (λ (n : ℕ). total (f x) ys + n) (swapped f xs ys) ∙ sym (total_plus (f x) (λ y. total (λ z. f z y) xs) ys)

-- a worker's slave has a line
abbrev pub HasLine : ℕ → WorkerPlan → Type 0
HasLine slaves worker = (1 ≤ worker.slave) × (worker.slave < 1 + slaves)

line_turns : (number : ℕ) (worked : List Worked) → (group_totals (group.Slave number) worked).turns ≡ total (λ (one : Worked). where_is one.0.slave number (turns_in one)) worked
unfolding totals_of
line_turns number worked =
    sum_is_total turns_in (filter (λ (one : Worked). is_of (group.Slave number) one.0) worked) ∙ total_filter turns_in (λ (one : Worked). is_of (group.Slave number) one.0) worked

each_of : {A : Type 0} (Q : A → Type 0) (xs : List A) → ((x : A) → Q x) → Each Q xs
each_of Q [] gives = tt
each_of Q (x ∷ xs) gives = (gives x, each_of Q xs gives)

lines_add_up : (slaves : ℕ) (worked : List Worked) → Each (λ (one : Worked). HasLine slaves one.0) worked → sum_by (λ number. (group_totals (group.Slave number) worked).turns) (range_with_len 1 slaves) ≡ total turns_in worked
lines_add_up slaves worked have =
    sum_is_total (λ number. (group_totals (group.Slave number) worked).turns) (range_with_len 1 slaves)
    ∙ total_same (λ number. (group_totals (group.Slave number) worked).turns) (λ number. total (λ (one : Worked). where_is one.0.slave number (turns_in one)) worked) (range_with_len 1 slaves)
    (each_of (λ number. (group_totals (group.Slave number) worked).turns ≡ total (λ (one : Worked). where_is one.0.slave number (turns_in one)) worked) (range_with_len 1 slaves) (λ number. line_turns number worked))
    ∙ swapped (λ (number : ℕ) (one : Worked). where_is one.0.slave number (turns_in one)) (range_with_len 1 slaves) worked
    ∙ total_same (λ (one : Worked). total (λ number. where_is one.0.slave number (turns_in one)) (range_with_len 1 slaves)) turns_in worked
    (each_from (λ (one : Worked). HasLine slaves one.0) (λ (one : Worked). total (λ number. where_is one.0.slave number (turns_in one)) (range_with_len 1 slaves) ≡ turns_in one) worked
    (λ one has. once one.0.slave (turns_in one) 1 slaves has.0 has.1) have)

-- workers beside their tallies
pub each_first : (Q : WorkerPlan → Type 0) (workers : List WorkerPlan) (tallies : List Tallied) → Each Q workers → Each (λ (one : Worked). Q one.0) (zip workers tallies)
each_first Q [] [] each = tt
each_first Q [] (tally ∷ tallies) each = tt
each_first Q (worker ∷ workers) [] each = tt
each_first Q (worker ∷ workers) (tally ∷ tallies) each = (each.0, each_first Q workers tallies each.1)

pub each_second : (Q : Tallied → Type 0) (workers : List WorkerPlan) (tallies : List Tallied) → Each Q tallies → Each (λ (one : Worked). Q one.1) (zip workers tallies)
each_second Q [] [] each = tt
each_second Q [] (tally ∷ tallies) each = tt
each_second Q (worker ∷ workers) [] each = tt
each_second Q (worker ∷ workers) (tally ∷ tallies) each = (each.0, each_second Q workers tallies each.1)

zip_total : (f : Tallied → ℕ) (workers : List WorkerPlan) (tallies : List Tallied) → length tallies ≡ length workers → total (λ (one : Worked). f one.1) (zip workers tallies) ≡ total f tallies
zip_total f [] [] many = refl
zip_total f [] (tally ∷ tallies) many = absurd (omega (arith, many))
zip_total f (worker ∷ workers) [] many = refl
zip_total f (worker ∷ workers) (tally ∷ tallies) many = ap (λ (n : ℕ). f tally + n) (zip_total f workers tallies (omega (arith, many)))

-- The slaves of a run of a plan.
pub slaves_add_up : (plan : Plan) (one : MadeRun) → IsRunOf plan one.run → length one.tallies ≡ length one.run.workers → slaves_turns one ≡ sum_by (λ tally. tally.numbers.turns) one.tallies
slaves_add_up plan one is_run many =
    let run_is = all_at (IsRun plan.stores) plan.runs is_run.number.0 one.run is_run.valid.runs is_run.number.1 in
    let have : Each (HasLine one.run.slaves) one.run.workers =
    each_from (IsWorker plan.stores one.run.slaves) (HasLine one.run.slaves) one.run.workers (λ worker is.
    let below = mod_below worker.number one.run.slaves (omega (arith, run_is.slaves.at_least)) in
    (omega (arith, is.slave), omega (arith, is.slave, below))) (each_of_all (IsWorker plan.stores one.run.slaves) one.run.workers run_is.workers) in
    lines_add_up one.run.slaves (zip one.run.workers one.tallies) (each_first (HasLine one.run.slaves) one.run.workers one.tallies have)
    ∙ zip_total (λ (tally : Tallied). tally.numbers.turns) one.run.workers one.tallies many
    ∙ sym (sum_is_total (λ (tally : Tallied). tally.numbers.turns) one.tallies)
