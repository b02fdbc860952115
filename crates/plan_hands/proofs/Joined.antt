-- The hands of a run's stores and the others, one more at the end.
use Rattle.std.proofs.Common.{◌≡◌, ◌∙◌, sym, ap, ℕ, ◌+◌, Bool, true, false, cond, not, List, [], ◌∷◌, ◌++◌, length, length-append, map}
use Rattle.std.specs.List.{range_with_len}
use Rattle.std.proofs.lemmas.List.{append-nil, length-map, map-append}
use Rattle.std.proofs.lemmas.List.Elements.{filter-append}
use Rattle.std.proofs.lemmas.List.FromFn.{length-range_with_len}
use Rattle.plan_types.specs.declared.run.RunPlan.{RunPlan}
use Rattle.slave_worker.specs.Hands.{HandSeen, works_in}
use Rattle.plan_hands.specs.Stores.{Joins, not_of_run, of_run, place_of}
use Rattle.plan_hands.proofs.Lists.{range_more}

module _ (run : RunPlan) (places place : ℕ) (all : List HandSeen) (hand : HandSeen) (more : places ≡ place + 1) (its : place_of hand ≡ place) where
  in_order : map place_of all ≡ range_with_len 0 place → map place_of (all ++ hand ∷ []) ≡ range_with_len 0 places
  in_order are =
      map-append place_of all (hand ∷ []) ∙ ap (λ (l : List ℕ). l ++ place_of hand ∷ []) are
      ∙ ap (λ (n : ℕ). range_with_len 0 place ++ n ∷ []) its ∙ sym (range_more place) ∙ ap (range_with_len 0) (sym more)

  of_run_more : (b : Bool) → works_in run place ≡ b → of_run run (all ++ hand ∷ []) ≡ of_run run all ++ cond b (hand ∷ []) []
  of_run_more b is =
      filter-append (λ (h : HandSeen). works_in run (place_of h)) all (hand ∷ [])
      ∙ ap (λ (c : Bool). of_run run all ++ cond c (hand ∷ []) []) (ap (works_in run) its ∙ is)

  not_of_run_more : (b : Bool) → works_in run place ≡ b → not_of_run run (all ++ hand ∷ []) ≡ not_of_run run all ++ cond (not b) (hand ∷ []) []
  not_of_run_more b is =
      filter-append (λ (h : HandSeen). not (works_in run (place_of h))) all (hand ∷ [])
      ∙ ap (λ (c : Bool). not_of_run run all ++ cond (not c) (hand ∷ []) []) (ap (works_in run) its ∙ is)

  -- The last store works in the run.
  pub joins_active : (active rest resting : List HandSeen) → works_in run place ≡ true → active ≡ rest ++ hand ∷ [] → Joins run place rest resting all → Joins run places active resting (all ++ hand ∷ [])
  joins_active active rest resting is split so_far = record {
    in_order = in_order so_far.in_order;
    its = of_run_more true is ∙ ap (λ (l : List HandSeen). l ++ hand ∷ []) so_far.its ∙ sym split;
    others = not_of_run_more true is ∙ append-nil (not_of_run run all) ∙ so_far.others;
  }

  -- The last store doesn't.
  pub joins_resting : (active resting rest : List HandSeen) → works_in run place ≡ false → resting ≡ rest ++ hand ∷ [] → Joins run place active rest all → Joins run places active resting (all ++ hand ∷ [])
  joins_resting active resting rest is split so_far = record {
    in_order = in_order so_far.in_order;
    its = of_run_more false is ∙ append-nil (of_run run all) ∙ so_far.its;
    others = not_of_run_more false is ∙ ap (λ (l : List HandSeen). l ++ hand ∷ []) so_far.others ∙ sym split;
  }

-- As many were joined as there are stores.
pub long_joined : {X : Type 0} (f : X → HandSeen) (run : RunPlan) (place : ℕ) (hands mid : List X) (active resting all : List HandSeen) → map f mid ≡ map f hands ++ all → Joins run place active resting all → length mid ≡ length hands + place
long_joined f run place hands mid active resting all is joined =
    sym (length-map mid f) ∙ ap length is ∙ length-append (map f hands) all
    ∙ ap (λ (n : ℕ). n + length all) (length-map hands f)
    ∙ ap (λ (n : ℕ). length hands + n) (sym (length-map all place_of) ∙ ap length joined.in_order ∙ length-range_with_len 0 place)
