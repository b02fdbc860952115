-- Counts of faults, by what the tallies of a run's workers say.
use Rattle.std.proofs.Common.{◌≡◌, ◌∙◌, refl, sym, ap, arith, ℕ, ◌-◌, ◌^◌, ◌<◌, ◌≤◌, min, Bool, true, false, cond, List, [], ◌∷◌, map, slice_get}
use Rattle.std.specs.Prelude.{nat_lt, ◌||◌}
use Rattle.std.specs.List.{list_any}
use Rattle.std.specs.Str.{bytes_eq}
use Rattle.std.proofs.lemmas.Bool.{ltb-false, ltb-true}
use Rattle.std.proofs.lemmas.Slice.Eq.{bytes_eq-Decides}
use Rattle.vd_outside.specs.Causes.{Rose}
use Rattle.vd_outside.specs.Clocks.{ClockSeen}
use Rattle.vd_arm.specs.Arm.{ArmSeen, PassSeen}
use Rattle.vd_yard.specs.Counts.{Counts, arm_faults}
use Rattle.vd_yard.specs.Yard.{YardSeen}
use Rattle.plan_types.specs.declared.plan.Plan.{Plan}
use Rattle.plan_types.specs.declared.run.RunPlan.{RunPlan}
use Rattle.key_state.specs.declared.seen.BookSeen.{BookSeen}
use Rattle.claim_table.specs.Sums.{Each, total}
use Rattle.worker_tally.specs.Tallies.{Tallied}
use Rattle.slave_worker.specs.declared.hand.RunAnswer.{RunAnswer}
use Rattle.slave_worker.specs.declared.hand.StoreHand.{StoreHand}
use Rattle.master_run.specs.Crews.{Beginning, DidRun, all_labors, arms_of, path_of}
use Rattle.master_run.specs.Labors.{Labor}
use Rattle.master_run.specs.Yards.{counts_with}
use Rattle.run_totals.proofs.Counts.{at_path, faults_rise, faults_stay}
use Rattle.run_totals.proofs.Crews.{IsLabor, all_are}
use Rattle.run_totals.proofs.Lists.{each_from}
use Rattle.run_totals.proofs.Works.{AddUp, Laws, adds_up}

abbrev pub some_fault : Tallied → Bool
some_fault tally = nat_lt 0 tally.numbers.faults

abbrev pub faults_at : List ℕ → List ℕ × ArmSeen → ℕ
faults_at path one = at_path (λ (arm : ArmSeen). arm.faults) path one

module _ (plan : Plan) where
  here : (labor : Labor) (labors : List Labor) → some_fault labor.tally ≡ true → AddUp labor → (path : List ℕ) × (0 < total (faults_at path) (arms_of plan (labor ∷ labors)))
  here labor labors is adds =
      let path = path_of (slice_get plan.stores labor.worker.store) in
      let its : faults_at path (path, labor.arm) ≡ labor.arm.faults = ap (λ (b : Bool). cond b labor.arm.faults 0) ((bytes_eq-Decides path path).1 refl) in
      (path, omega (arith, its, ltb-true 0 labor.tally.numbers.faults is, adds.faults))

  later : (labor : Labor) (labors : List Labor) → (path : List ℕ) × (0 < total (faults_at path) (arms_of plan labors)) → (path : List ℕ) × (0 < total (faults_at path) (arms_of plan (labor ∷ labors)))
  later labor labors (path, some) = (path, omega (arith, some))

  -- A path has faults where a tally does.
  path_of_fault : (labors : List Labor) → Each AddUp labors → list_any some_fault (map (λ (labor : Labor). labor.tally) labors) ≡ true → (path : List ℕ) × (0 < total (faults_at path) (arms_of plan labors))
  path_of_fault [] adds any = absurd (let so : false ≡ true = any in cc)
  path_of_fault (labor ∷ labors) adds any = by_first (some_fault labor.tally) refl (path_of_fault labors adds.1)
    where
      by_first : (b : Bool) → some_fault labor.tally ≡ b → (list_any some_fault (map (λ (l : Labor). l.tally) labors) ≡ true → (path : List ℕ) × (0 < total (faults_at path) (arms_of plan labors)))
          → (path : List ℕ) × (0 < total (faults_at path) (arms_of plan (labor ∷ labors)))
      by_first true is rest = here labor labors is adds.0
      by_first false is rest = later labor labors (rest (sym (ap (λ (b : Bool). b || list_any some_fault (map (λ (l : Labor). l.tally) labors)) is) ∙ any))

  nothing_at : (b : Bool) (n : ℕ) → n ≡ 0 → cond b n 0 ≡ 0
  nothing_at true n none = none
  nothing_at false n none = refl

  -- No path has one where no tally does.
  no_fault_at : (path : List ℕ) (labors : List Labor) → Each AddUp labors → list_any some_fault (map (λ (labor : Labor). labor.tally) labors) ≡ false → total (faults_at path) (arms_of plan labors) ≡ 0
  no_fault_at path [] adds any = refl
  no_fault_at path (labor ∷ labors) adds any = by_first (some_fault labor.tally) refl (no_fault_at path labors adds.1)
    where
      by_first : (b : Bool) → some_fault labor.tally ≡ b → (list_any some_fault (map (λ (l : Labor). l.tally) labors) ≡ false → total (faults_at path) (arms_of plan labors) ≡ 0) → total (faults_at path) (arms_of plan (labor ∷ labors)) ≡ 0
      by_first true is others = absurd (let so : true ≡ false = sym (ap (λ (b : Bool). b || list_any some_fault (map (λ (l : Labor). l.tally) labors)) is) ∙ any in cc)
      by_first false is others =
          let none : labor.tally.numbers.faults ≡ 0 = omega (arith, ltb-false 0 labor.tally.numbers.faults is) in
          let its = nothing_at (bytes_eq (path_of (slice_get plan.stores labor.worker.store)) path) labor.arm.faults (adds.0.no_fault none) in
          let rest = others (sym (ap (λ (b : Bool). b || list_any some_fault (map (λ (l : Labor). l.tally) labors)) is) ∙ any) in
          omega (arith, its, rest)

-- Faults don't fall by arms that come back.
pub never_falls : (arms : List (List ℕ × ArmSeen)) (counts : Counts) (path : List ℕ) → min (arm_faults counts path) (2 ^ 64 - 1) ≤ arm_faults (counts_with arms counts) path
never_falls arms counts path = omega (arith, faults_rise arms counts path)

module _ {P B : Type 0} (pass_seen : P → PassSeen) (book_seen : B → BookSeen) (laws : Laws) (plan : Plan) (run : RunPlan) (errors : ℕ) (old new : YardSeen) (clock_before clock_after : ClockSeen) (hands : List (StoreHand P B)) (answer : RunAnswer P B) (did : DidRun pass_seen book_seen plan run errors old new clock_before clock_after hands answer) where
  all_add : Each AddUp (all_labors did.crews)
  all_add =
      let beginning : Beginning = record { start = did.start; clock = clock_after; tells = old.tells } in
      each_from (IsLabor plan run beginning) AddUp (all_labors did.crews) (λ labor is. adds_up plan run is.store.id did.start clock_after is.made is.sure laws labor is.did)
      (all_are pass_seen book_seen plan run beginning hands did.crews answer.hands.items did.ran)

  pub faults_rose : list_any some_fault answer.tallies.items ≡ true → (path : List ℕ) × Rose (arm_faults old.counts path) (arm_faults new.counts path)
  faults_rose any =
      let found = path_of_fault plan (all_labors did.crews) all_add (ap (list_any some_fault) (sym did.tallies) ∙ any) in
      (found.0, omega (arith, found.1, faults_rise (arms_of plan (all_labors did.crews)) old.counts found.0, ap (λ (c : Counts). arm_faults c found.0) did.yard.counts))

  pub faults_kept : list_any some_fault answer.tallies.items ≡ false → (path : List ℕ) → arm_faults new.counts path ≡ arm_faults old.counts path
  faults_kept any path =
      ap (λ (c : Counts). arm_faults c path) did.yard.counts
      ∙ faults_stay (arms_of plan (all_labors did.crews)) old.counts path (no_fault_at plan path (all_labors did.crews) all_add (ap (list_any some_fault) (sym did.tallies) ∙ any))
