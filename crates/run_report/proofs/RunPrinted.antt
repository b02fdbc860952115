-- The lines of a run, one after another.
use Rattle.std.proofs.Common.{arith, ℕ, ◌≡◌, ◌+◌, ◌<◌, ◌≤◌, Bool, true, false, nat_lt, List, [], ◌∷◌, ◌++◌, length, take, get_or, Option, refl, ap, sym, ◌∙◌, subst}
use Rattle.std.specs.Prelude.{All, slice_get, if◌then◌else◌, ◌==◌}
use Rattle.std.specs.List.{flat_map, range_with_len, zip}
use Rattle.std.proofs.lemmas.Bool.{lt-ltb}
use Rattle.std.proofs.lemmas.List.{get_or_default, take_all}
use Rattle.std.proofs.lemmas.List.Elements.{All-get_or}
use Rattle.std.proofs.lemmas.List.FromFn.{get_or-range_with_len, length-range_with_len}
use Rattle.std.proofs.lemmas.Option.{slice_get-get_or, slice_get_read}
use Rattle.vd_base.specs.Name.{name_text}
use Rattle.plan_types.specs.declared.run.RunPlan.{RunPlan}
use Rattle.plan_types.specs.declared.run.WorkerPlan.{WorkerPlan}
use Rattle.plan_types.specs.declared.store.StorePlan.{StorePlan}
use Rattle.worker_tally.specs.Tallies.{Tallied}
use Rattle.run_report.specs.Findings.{finding_text}
use Rattle.run_report.specs.Plans.{name_of}
use Rattle.run_report.specs.Runs.{Worked, findings_text, found_text, group_totals, run_text, store_total_text, title_text, total_or_none, total_text, worked_text}
use Rattle.run_report.specs.Says.{Printing, Says, SaysFront, says_along}
use Rattle.run_report.specs.declared.run_sums.Group.TheVariants as group
use Rattle.run_report.specs.declared.run_sums.Totals.{Totals}
use Rattle.run_report.proofs.Printed.{said_front, said_more}
use Rattle.run_report.proofs.RunSums.{zip_at, zip_long}

-- a loop over numbers that follow one another
pub said_at : (f : ℕ → List ℕ) (from n i j : ℕ) (a b c : Printing) → i < n → from + i ≡ j → Says a b (flat_map f (take i (range_with_len from n))) → Says b c (f j)
    → Says a c (flat_map f (take (i + 1) (range_with_len from n)))
said_at f from n i j a b c inside is before now =
    let long : i < length (range_with_len from n) = omega (arith, length-range_with_len from n) in
    said_more f (range_with_len from n) i j a b c (f j) long (sym (get_or-range_with_len from n i j inside ∙ is)) refl before now

pub front_at : (f : ℕ → List ℕ) (from n i j : ℕ) (a b c : Printing) → i < n → from + i ≡ j → Says a b (flat_map f (take i (range_with_len from n))) → SaysFront b c (f j)
    → SaysFront a c (flat_map f (range_with_len from n))
front_at f from n i j a b c inside is before now =
    let long : i < length (range_with_len from n) = omega (arith, length-range_with_len from n) in
    said_front f (range_with_len from n) i j a b c long (sym (get_or-range_with_len from n i j inside ∙ is)) before now

pub said_range : (f : ℕ → List ℕ) (from n i : ℕ) (a b : Printing) → n ≤ i → Says a b (flat_map f (take i (range_with_len from n))) → Says a b (flat_map f (range_with_len from n))
said_range f from n i a b end before =
    says_along a b _ _ (ap (flat_map f) (take_all i (range_with_len from n) (omega (arith, length-range_with_len from n)))) before

-- a loop over workers and their tallies
module _ (ws : List WorkerPlan) (ts : List Tallied) (i : ℕ) (d : WorkerPlan) (t : Tallied) (same : length ts ≡ length ws) (inside : i < length ws) (second : t ≡ get_or ts i t) where
  pair_is : (get_or ws i d, t) ≡ get_or (zip ws ts) i (get_or ws i d, t)
  pair_is = sym (zip_at ws ts i (get_or ws i d) t same inside (get_or_default ws i d (get_or ws i d) inside) second)

  within : i < length (zip ws ts)
  within = omega (arith, zip_long ws ts same)

  pub said_pair : (f : Worked → List ℕ) (a b c : Printing) → Says a b (flat_map f (take i (zip ws ts))) → Says b c (f (get_or ws i d, t)) → Says a c (flat_map f (take (i + 1) (zip ws ts)))
  said_pair f a b c before now = said_more f (zip ws ts) i (get_or ws i d, t) a b c (f (get_or ws i d, t)) within pair_is refl before now

  pub front_pair : (f : Worked → List ℕ) (a b c : Printing) → Says a b (flat_map f (take i (zip ws ts))) → SaysFront b c (f (get_or ws i d, t)) → SaysFront a c (flat_map f (zip ws ts))
  front_pair f a b c before now = said_front f (zip ws ts) i (get_or ws i d, t) a b c within pair_is before now

  pub all_pair : (P : Worked → Type 0) → All P (zip ws ts) → P (get_or ws i d, t)
  all_pair P all = subst P (sym pair_is) (All-get_or P (zip ws ts) i (get_or ws i d, t) within all)

pub said_pairs : (f : Worked → List ℕ) (ws : List WorkerPlan) (ts : List Tallied) (i : ℕ) (a b : Printing) → length ts ≡ length ws → length ws ≤ i
    → Says a b (flat_map f (take i (zip ws ts))) → Says a b (flat_map f (zip ws ts))
said_pairs f ws ts i a b same end before = says_along a b _ _ (ap (flat_map f) (take_all i (zip ws ts) (omega (arith, zip_long ws ts same)))) before

-- the findings of a worker whose store is there
pub found_is : (stores : List StorePlan) (one : Worked) (store : StorePlan) → one.0.store < length stores → store ≡ get_or stores one.0.store store
    → flat_map (finding_text store.id) one.1.findings ≡ findings_text stores one
unfolding findings_text
found_is stores one store inside is =
    ap (λ (found : Option StorePlan). found_text found one.1.findings) (sym (slice_get_read stores (length stores) one.0.store store refl inside is))

line_there : (there : Bool) (line : List ℕ) → there ≡ true → line ≡ (if there then line else [])
line_there true line e = refl
line_there false line e = cc

-- the line of a store that has a worker
pub total_is : (stores : List StorePlan) (worked : List Worked) (place : ℕ) (d : StorePlan) (totals : Totals) → place < length stores
    → totals ≡ group_totals (group.Store place) worked → (totals.workers ≡ 0 → ⊥) → total_text (name_text (get_or stores place d).id.name) totals ≡ store_total_text stores worked place
unfolding store_total_text
total_is stores worked place d totals inside sums some =
    let there : nat_lt 0 totals.workers ≡ true = lt-ltb 0 totals.workers (omega arith) in
    line_there (nat_lt 0 totals.workers) (total_text (name_text (get_or stores place d).id.name) totals) there
    ∙ ap (λ (found : Option StorePlan). total_or_none (name_of found) totals) (sym (slice_get-get_or stores place d inside))
    ∙ ap (λ (of : Totals). total_or_none (name_of (slice_get stores place)) of) sums

-- a run with tallies
pub with_tallies : (stores : List StorePlan) (run : RunPlan) (tallies : List Tallied) → (length tallies == 0) ≡ false → title_text run ++ worked_text stores run tallies ≡ run_text stores run tallies
with_tallies stores run [] some = cc
with_tallies stores run (tally ∷ tallies) some = refl
