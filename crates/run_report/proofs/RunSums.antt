-- Sums over tallies with one tally more.
use Rattle.std.proofs.Common.{arith, ℕ, ◌≡◌, ◌+◌, ◌<◌, max, Bool, true, false, cond, List, [], ◌∷◌, ◌++◌, length, take, get_or, refl, ap, sym, ◌∙◌}
use Rattle.std.specs.List.{filter, sum_by, zip}
use Rattle.std.proofs.lemmas.List.{append-nil, get_or_default, length_push}
use Rattle.std.proofs.lemmas.List.Elements.{filter_more}
use Rattle.std.proofs.lemmas.List.Sums.{fold_more, sum_by_more, sum_by_push}
use Rattle.std.proofs.lemmas.Slice.Zip.{get_or-zip, length-zip}
use Rattle.plan_types.specs.declared.run.WorkerPlan.{WorkerPlan}
use Rattle.worker_tally.specs.Tallies.{Tallied}
use Rattle.run_report.specs.Runs.{Worked, group_totals, is_of, most_rows, row_at, row_sums, totals_of}
use Rattle.run_report.specs.RunSteps.{with_numbers, with_row}
use Rattle.run_report.specs.declared.run_sums.Group.{Group}
use Rattle.run_report.specs.declared.run_sums.RowSums.{RowSums}
use Rattle.run_report.specs.declared.run_sums.Totals.{Totals}

-- a sum up to an item, and that item
sum_here : (f : Tallied → ℕ) (xs : List Tallied) (i : ℕ) (x : Tallied) → i < length xs → x ≡ get_or xs i x → sum_by f (take (i + 1) xs) ≡ sum_by f (take i xs) + f x
sum_here f xs i x inside is = sum_by_more f xs i x inside ∙ ap (λ y. sum_by f (take i xs) + f y) (sym is)

pub no_rows : (place : ℕ) → row_sums place [] ≡ record { turns = 0; reads = 0; writes = 0; bytes = 0; micros = 0 }
unfolding row_sums
no_rows place = refl

pub rows_more : (place i : ℕ) (tallies : List Tallied) (tally : Tallied) → i < length tallies → tally ≡ get_or tallies i tally
    → row_sums place (take (i + 1) tallies) ≡ with_row (row_sums place (take i tallies)) (row_at place tally)
unfolding row_sums
rows_more place i tallies tally inside is =
    let turns = sum_here (λ t. (row_at place t).turns) tallies i tally inside is in
    let reads = sum_here (λ t. (row_at place t).reads) tallies i tally inside is in
    let writes = sum_here (λ t. (row_at place t).writes) tallies i tally inside is in
    let bytes = sum_here (λ t. (row_at place t).bytes) tallies i tally inside is in
    let micros = sum_here (λ t. (row_at place t).micros) tallies i tally inside is in
    cc

pub most_more : (i : ℕ) (tallies : List Tallied) (tally : Tallied) → i < length tallies → tally ≡ get_or tallies i tally
    → most_rows (take (i + 1) tallies) ≡ max (most_rows (take i tallies)) (length tally.rows)
most_more i tallies tally inside is =
    fold_more (λ (most : ℕ) (t : Tallied). max most (length t.rows)) 0 tallies i tally inside ∙ ap (λ (t : Tallied). max (most_rows (take i tallies)) (length t.rows)) (sym is)

pub no_totals : (group : Group) → group_totals group [] ≡ record {
  workers = 0;
  turns = 0;
  reads = 0;
  prereads = 0;
  rereads = 0;
  writes = 0;
  busy = 0;
  badskip = 0;
  bytes = 0;
  faults = 0;
  corrupt = 0;
}
unfolding totals_of
no_totals group = refl

totals_push : (xs : List Worked) (one : Worked) → totals_of (xs ++ one ∷ []) ≡ with_numbers (totals_of xs) one.1.numbers
unfolding totals_of
totals_push xs one =
    let workers = length_push xs one in
    let turns = sum_by_push (λ (w : Worked). w.1.numbers.turns) xs one in
    let reads = sum_by_push (λ (w : Worked). w.1.numbers.reads) xs one in
    let prereads = sum_by_push (λ (w : Worked). w.1.numbers.prereads) xs one in
    let rereads = sum_by_push (λ (w : Worked). w.1.numbers.rereads) xs one in
    let writes = sum_by_push (λ (w : Worked). w.1.numbers.writes) xs one in
    let busy = sum_by_push (λ (w : Worked). w.1.numbers.busy) xs one in
    let badskip = sum_by_push (λ (w : Worked). w.1.numbers.badskip) xs one in
    let bytes = sum_by_push (λ (w : Worked). w.1.numbers.bytes) xs one in
    let faults = sum_by_push (λ (w : Worked). w.1.numbers.faults) xs one in
    let corrupt = sum_by_push (λ (w : Worked). w.1.numbers.corrupt) xs one in
    cc

-- a worker counts where it passes
totals_kept : (passes : Bool) (xs : List Worked) (one : Worked) → totals_of (xs ++ cond passes (one ∷ []) []) ≡ cond passes (with_numbers (totals_of xs) one.1.numbers) (totals_of xs)
totals_kept true xs one = totals_push xs one
totals_kept false xs one = ap totals_of (append-nil xs)

-- the pair at a place
pub zip_at : (ws : List WorkerPlan) (ts : List Tallied) (i : ℕ) (w : WorkerPlan) (t : Tallied) → length ts ≡ length ws → i < length ws
    → w ≡ get_or ws i w → t ≡ get_or ts i t → get_or (zip ws ts) i (w, t) ≡ (w, t)
zip_at ws ts i w t same inside first second =
    let long : i < length ts = omega arith in
    let here = get_or-zip ws ts i (w, t) inside long in
    cc

pub zip_long : (ws : List WorkerPlan) (ts : List Tallied) → length ts ≡ length ws → length (zip ws ts) ≡ length ws
zip_long ws ts same = omega (arith, length-zip ws ts)

pub group_more : (group : Group) (ws : List WorkerPlan) (ts : List Tallied) (i : ℕ) (w : WorkerPlan) (t : Tallied) → length ts ≡ length ws → i < length ws
    → w ≡ get_or ws i w → t ≡ get_or ts i t
    → group_totals group (take (i + 1) (zip ws ts)) ≡ cond (is_of group w) (with_numbers (group_totals group (take i (zip ws ts))) t.numbers) (group_totals group (take i (zip ws ts)))
group_more group ws ts i w t same inside first second =
    let long : i < length (zip ws ts) = omega (arith, zip_long ws ts same) in
    let more = filter_more (λ (one : Worked). is_of group one.0) (zip ws ts) i (w, t) long in
    let here : get_or (zip ws ts) i (w, t) ≡ (w, t) = zip_at ws ts i w t same inside first second in
    let kept = filter (λ (one : Worked). is_of group one.0) (take i (zip ws ts)) in
    ap totals_of more ∙ ap (λ (one : Worked). totals_of (kept ++ cond (is_of group one.0) (one ∷ []) [])) here ∙ totals_kept (is_of group w) kept (w, t)

-- a loop's step
pub group_step : (group : Group) (ws : List WorkerPlan) (ts : List Tallied) (i : ℕ) (d : WorkerPlan) (t : Tallied) (old new : Totals) → length ts ≡ length ws → i < length ws
    → t ≡ get_or ts i t → old ≡ group_totals group (take i (zip ws ts)) → new ≡ cond (is_of group (get_or ws i d)) (with_numbers old t.numbers) old
    → new ≡ group_totals group (take (i + 1) (zip ws ts))
group_step group ws ts i d t old new same inside second before now =
    let first : get_or ws i d ≡ get_or ws i (get_or ws i d) = get_or_default ws i d (get_or ws i d) inside in
    let more = group_more group ws ts i (get_or ws i d) t same inside first second in
    now ∙ ap (λ (totals : Totals). cond (is_of group (get_or ws i d)) (with_numbers totals t.numbers) totals) before ∙ sym more

pub rows_step : (place i : ℕ) (tallies : List Tallied) (tally : Tallied) (old new : RowSums) → i < length tallies → tally ≡ get_or tallies i tally
    → old ≡ row_sums place (take i tallies) → new ≡ with_row old (row_at place tally) → new ≡ row_sums place (take (i + 1) tallies)
rows_step place i tallies tally old new inside is before now =
    now ∙ ap (λ (sums : RowSums). with_row sums (row_at place tally)) before ∙ sym (rows_more place i tallies tally inside is)
