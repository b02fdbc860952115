-- The turns that the workers of a store made in a run.
use Rattle.std.proofs.Common.{◌≡◌, ◌∙◌, refl, sym, ap, subst, arith, ℕ, ◌+◌, ◌≤◌, ◌==◌, Bool, true, false, cond, All, List, [], ◌∷◌, ◌++◌, length}
use Rattle.std.specs.Prelude.{◌≢◌, AllPairs}
use Rattle.std.specs.List.{filter, flat_map, zip}
use Rattle.vd_base.specs.Geometry.{Shape}
use Rattle.plan_types.specs.declared.run.RunPlan.{RunPlan}
use Rattle.plan_types.specs.declared.run.WorkerPlan.{WorkerPlan}
use Rattle.claim_table.specs.Sums.{Each}
use Rattle.worker_tally.specs.Tallies.{Tallied}
use Rattle.workload_gen.specs.declared.task.StoreShare.{StoreShare}
use Rattle.workload_gen.specs.declared.turn.Turn.{Turn}
use Rattle.slave_worker.specs.Drawn.{AreOneBlock}
use Rattle.slave_worker.specs.Hands.{works_in}
use Rattle.run_report.specs.Runs.{is_of, totals_of}
use Rattle.run_report.specs.declared.run_sums.Group.TheVariants as group
use Rattle.run_totals.specs.Drawn.{IsDrawn, IsIn, first_turns, its_shares, turns_made}
use Rattle.run_totals.proofs.Lists.{filter_no}
use Rattle.plan_totals.specs.Drawn.{AllTurnsMade, LineIsDrawn, all_turns}
use Rattle.plan_totals.specs.Made.{MadeRun}
use Rattle.plan_totals.proofs.Books.{unmet}
use Rattle.plan_totals.proofs.Running.{none_here}
use Rattle.plan_totals.proofs.Slaves.{Worked}

-- The turns of a store of which no worker worked.
none_in : (block : ℕ) → IsIn [] block → ⊥
none_in block some = omega (arith, some)

no_turns : (reread : Bool) (shares : List StoreShare) → IsDrawn reread shares [] (totals_of [])
unfolding totals_of
no_turns reread shares = record {
  many = refl;
  badskip = refl;
  rereads = nothing reread 0;
  reads = omega arith;
  writes = omega arith;
  add_up = λ ones. refl;
  used = of_none;
}
  where
    nothing : (b : Bool) (n : ℕ) → n ≡ cond b n n
    nothing true n = refl
    nothing false n = refl

    of_none : AreOneBlock shares → (blocks : List ℕ) → AllPairs (λ one other. one ≢ other) blocks → All (IsIn []) blocks → length blocks + 0 ≤ 0
    of_none ones [] different within = omega arith
    of_none ones (block ∷ blocks) different within = absurd (none_in block (within 0 0 (omega arith)))

-- Where each made all turns of the run, they are all turns of its draws.
module _ (run : RunPlan) (shape : Shape) (place : ℕ) where
  abbrev made_by : Worked → List Turn
  made_by one = first_turns run shape one.0 one.1.numbers.turns

  abbrev all_of : WorkerPlan → List Turn
  all_of worker = first_turns run shape worker run.turns

  one_more : (b : Bool) (worker : WorkerPlan) (tally : Tallied) (worked : List Worked) (workers : List WorkerPlan) → tally.numbers.turns ≡ run.turns → flat_map made_by worked ≡ flat_map all_of workers → flat_map made_by (cond b ((worker, tally) ∷ worked) worked) ≡ flat_map all_of (cond b (worker ∷ workers) workers)
  one_more true worker tally worked workers all rest =
      ap (λ (n : ℕ). first_turns run shape worker n ++ flat_map made_by worked) all ∙ ap (λ (l : List Turn). all_of worker ++ l) rest
  one_more false worker tally worked workers all rest = rest

  pub made_all : (workers : List WorkerPlan) (tallies : List Tallied) → length tallies ≡ length workers → Each (λ (tally : Tallied). tally.numbers.turns ≡ run.turns) tallies → flat_map made_by (filter (λ (one : Worked). is_of (group.Store place) one.0) (zip workers tallies)) ≡ flat_map all_of (filter (λ (worker : WorkerPlan). worker.store == place) workers)
  made_all [] [] many all = refl
  made_all [] (tally ∷ tallies) many all = absurd (omega (arith, many))
  made_all (worker ∷ workers) [] many all = absurd (omega (arith, many))
  made_all (worker ∷ workers) (tally ∷ tallies) many all =
      one_more (worker.store == place) worker tally (filter (λ (one : Worked). is_of (group.Store place) one.0) (zip workers tallies)) (filter (λ (w : WorkerPlan). w.store == place) workers) all.0 (made_all workers tallies (omega (arith, many)) all.1)

-- The line of a store that no worker of the run works on, were there one.
pub idle_line : (reread : Bool) (shape : Shape) (place : ℕ) (one : MadeRun) → works_in one.run place ≡ false → (AllTurnsMade one → turns_made one.run shape place one.tallies ≡ all_turns one.run shape place) → LineIsDrawn reread shape place one
idle_line reread shape place one none all = record {
  drawn =
      subst (λ (worked : List Worked). IsDrawn reread (its_shares one.run shape place) (flat_map (λ (w : Worked). first_turns one.run shape w.0 w.1.numbers.turns) worked) (totals_of worked)) (sym (none_here place one.run.workers one.tallies none))
      (no_turns reread (its_shares one.run shape place));
  all_made = all;
  alone = λ worker only. absurd (let so : [] ≡ worker ∷ [] = sym (filter_no (λ (w : WorkerPlan). w.store == place) one.run.workers (unmet (λ (w : WorkerPlan). w.store == place) one.run.workers none)) ∙ only in cc);
}
