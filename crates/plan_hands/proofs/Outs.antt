-- What is out besides the open passes of hands, and what is kept once they came back.
use Rattle.std.proofs.Common.{◌≡◌, ◌∙◌, refl, ap, ℕ, List, [], ◌∷◌, ◌++◌}
use Rattle.std.specs.Prelude.{slice_get}
use Rattle.vd_arm.specs.Arm.{PassSeen}
use Rattle.plan_types.specs.declared.plan.Plan.{Plan}
use Rattle.vd_yard.specs.Contents.{told_bytes}
use Rattle.vd_yard.specs.Kept.{Kept, keep_at}
use Rattle.vd_yard.specs.Out.{AtPasses, Out, one_more_cancel, one_more_swap}
use Rattle.vd_yard.specs.Yard.{Tells, YardSeen}
use Rattle.slave_worker.specs.Hands.{HandSeen}
use Rattle.plan_hands.specs.Openings.{data_path, kept_after, one_kept, one_out, passes_out}
use Rattle.plan_hands.specs.Stores.{passes_of, place_of}

one_swap : (p q : List ℕ) (ps qs : List PassSeen) (out : Out) → one_out p ps (one_out q qs out) ≡ one_out q qs (one_out p ps out)
one_swap p q [] qs out = refl
one_swap p q (x ∷ ps) [] out = refl
one_swap p q (x ∷ ps) (y ∷ qs) out = one_more_swap out AtPasses AtPasses q p

one_cancel : (p : List ℕ) (ps : List PassSeen) (a b : Out) → one_out p ps a ≡ one_out p ps b → a ≡ b
one_cancel p [] a b is = is
one_cancel p (x ∷ ps) a b is = one_more_cancel a b AtPasses p is

module _ (plan : Plan) where
  -- The order doesn't matter.
  pub passes_out_one : (hands : List HandSeen) (p : List ℕ) (ps : List PassSeen) (out : Out) → passes_out plan hands (one_out p ps out) ≡ one_out p ps (passes_out plan hands out)
  passes_out_one [] p ps out = refl
  passes_out_one (hand ∷ hands) p ps out =
      ap (one_out (data_path (slice_get plan.stores (place_of hand))) (passes_of hand)) (passes_out_one hands p ps out)
      ∙ one_swap (data_path (slice_get plan.stores (place_of hand))) p (passes_of hand) ps (passes_out plan hands out)

  pub passes_out_append : (hands others : List HandSeen) (out : Out) → passes_out plan (hands ++ others) out ≡ passes_out plan hands (passes_out plan others out)
  passes_out_append [] others out = refl
  passes_out_append (hand ∷ hands) others out =
      ap (one_out (data_path (slice_get plan.stores (place_of hand))) (passes_of hand)) (passes_out_append hands others out)

  pub passes_out_cancel : (hands : List HandSeen) (a b : Out) → passes_out plan hands a ≡ passes_out plan hands b → a ≡ b
  passes_out_cancel [] a b is = is
  passes_out_cancel (hand ∷ hands) a b is =
      passes_out_cancel hands a b
      (one_cancel (data_path (slice_get plan.stores (place_of hand))) (passes_of hand) (passes_out plan hands a) (passes_out plan hands b) is)

  pub kept_append : (yard : YardSeen) (hands others : List HandSeen) (kept : Kept (List ℕ)) → kept_after plan yard (hands ++ others) kept ≡ kept_after plan yard others (kept_after plan yard hands kept)
  kept_append yard [] others kept = refl
  kept_append yard (hand ∷ hands) others kept =
      kept_append yard hands others (one_kept (data_path (slice_get plan.stores (place_of hand))) (passes_of hand) kept yard)

  one_kept_same : (a b : YardSeen) (path : List ℕ) (passes : List PassSeen) (kept : Kept (List ℕ)) → b.tells ≡ a.tells → one_kept path passes kept b ≡ one_kept path passes kept a
  one_kept_same a b path [] kept same = refl
  one_kept_same a b path (pass ∷ passes) kept same =
      ap (λ (t : Tells). keep_at t.keeps_contents kept path (told_bytes (pass ∷ passes))) same

  -- A yard keeps by what it tells.
  pub kept_same : (a b : YardSeen) (hands : List HandSeen) (kept : Kept (List ℕ)) → b.tells ≡ a.tells → kept_after plan b hands kept ≡ kept_after plan a hands kept
  kept_same a b [] kept same = refl
  kept_same a b (hand ∷ hands) kept same =
      kept_same a b hands (one_kept (data_path (slice_get plan.stores (place_of hand))) (passes_of hand) kept b) same
      ∙ ap (kept_after plan a hands) (one_kept_same a b (data_path (slice_get plan.stores (place_of hand))) (passes_of hand) kept same)
