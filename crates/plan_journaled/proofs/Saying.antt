-- What the runs of a plan say.
use Rattle.std.proofs.Common.{◌≡◌, ℕ, ◌++◌, List, [], ◌∷◌, sym, subst, inl, inr}
use Rattle.vd_arm.specs.Arm.{PassSeen}
use Rattle.plan_types.specs.declared.plan.Plan.{Plan}
use Rattle.plan_types.specs.declared.run.RunPlan.{RunPlan}
use Rattle.key_state.specs.declared.seen.BookSeen.{BookSeen}
use Rattle.run_report.specs.Says.{Says, says_along, says_none, says_then}
use Rattle.run_report.specs.declared.status.Status.{Status}
use Rattle.plan_runs.specs.Stages.{RunsMade, Stage}

module _ {P B : Type 0} (pass_seen : P → PassSeen) (book_seen : B → BookSeen) (plan : Plan) where
  says_nothing : (before after : Stage) (text : List ℕ) → after ≡ before → text ≡ [] → Says before.printing after.printing text
  says_nothing before after text same none =
      says_along before.printing after.printing [] text (sym none) (subst (λ (s : Stage). Says before.printing s.printing []) (sym same) (says_none before.printing))

  pub runs_say : (runs : List RunPlan) (before after : Stage) (text : List ℕ) (result : Status) → RunsMade pass_seen book_seen plan runs before after text result → Says before.printing after.printing text
  runs_say [] before after text result (same, is_text, is) = says_nothing before after text same is_text
  runs_say (run ∷ runs) before after text result (inl (limit, same, is_text, is)) = says_nothing before after text same is_text
  runs_say (run ∷ runs) before after text result (inr (inl (few, says, last))) = says.says
  runs_say (run ∷ runs) before after text result (inr (inr (few, between, first, rest, one, others, says, last, made, is_text, is))) =
      says_along before.printing after.printing (first ++ rest) text (sym is_text)
      (says_then before.printing between.printing after.printing first rest says.says (runs_say runs between after rest others made))
