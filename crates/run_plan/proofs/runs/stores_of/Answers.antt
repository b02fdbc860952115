use Rattle.std.proofs.Common.{◌≡◌, ℕ, ◌+◌, filter, length, ap, ◌∙◌, arith}
use Rattle.std.specs.Prelude.{◌==◌}
use Rattle.std.specs.List.{list_any, range_with_len}
use Rattle.run_plan.proofs.Lists.{filter_kept, filter_short, passed, picked}
use Rattle.run_plan.proofs.runs.stores_of.Goals as goal
use Rattle.run_plan.proofs.runs.stores_of.Goals.{then-is_used+in_ok-push, else-is_used}

pub loop-store-preserved : goal.loop-store-preserved
loop-store-preserved c =
    let used = λ (store : ℕ). list_any (λ share. share.store == store) c.args.shares.now in
    let chosen : c.if-is_used.stores.items ≡ filter used (range_with_len 0 (c.loop-store.store + 1)) =
    filter_kept used c.loop-store.store c.loop-store.stores.items _ c.is_used.result
    c.loop-store.invariant.value c.is_used.ensures
    (elim c.if-is_used.branch [
      | then-is_used+in_ok-push w ↦ picked _ _ _ _ w.if-is_used.true (ap (λ v. v.items) w.stores-is ∙ w.in_ok-push.ensures.items)
      | else-is_used w ↦ passed _ _ _ _ w.if-is_used.false (ap (λ v. v.items) w.stores-is)
    ]) in
    record { value = chosen; few = omega (arith, ap length chosen, filter_short used (c.loop-store.store + 1)) }
