use Rattle.std.proofs.Common.{◌≡◌, ◌∙◌, ◌+◌, ap, sym, List, ℕ, Some, true, min, refl}
use Rattle.vd_yard.specs.Kept.{kept_at, keep_at, keep_at_here}
use Rattle.vd_yard.specs.PathMap.{map_of}
use Rattle.vd_yard.proofs.arm_plan.count_arm.Goals as goal

pub returns-in-Some : goal.returns-in-Some
returns-in-Some c = λ count is.
    let path = c.args.path.now in
    let next = c.saturating_add-next.result in
    let found : kept_at (map_of c.args.opened.now) path ≡ Some c.in-Some.number.now =
    ap (λ (q : List ℕ). kept_at (map_of c.args.opened.now) q) (sym c.as_bytes.ensures) ∙ c.in-Some.ensures in
    let same : c.in-Some.number.now ≡ count = cc in
    ap (λ m. kept_at m path) c.replace.ensures
    ∙ ap (λ (q : List ℕ). kept_at (keep_at true (map_of c.args.opened.now) q next) path) c.as_bytes-in-Some.ensures
    ∙ keep_at_here true (map_of c.args.opened.now) path next refl
    ∙ ap Some (c.saturating_add-next.ensures ∙ ap (λ n. min (n + 1) 4294967295) same)
