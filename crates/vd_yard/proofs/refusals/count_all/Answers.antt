use Rattle.std.proofs.Common.{◌≡◌, ◌<◌, ◌∙◌, ap, sym, List, ℕ, Option, length, get_or, arith, ◌||◌, set, Bool, true, false, refl, take}
use Rattle.std.specs.List.{list_any}
use Rattle.std.proofs.lemmas.List.Folds.{list_any_more}
use Rattle.vd_yard.specs.Refusals.{hits, after_call}
use Rattle.vd_yard.proofs.Fronts.{front_mapped_all, front_mapped_at, front_mapped_next}
use Rattle.vd_yard.proofs.refusals.count_all.Goals as goal
use Rattle.vd_yard.proofs.refusals.count_all.Goals.{then-refused, else-refused}

or_left : (a b : Bool) → a ≡ true → true ≡ (a || b)
or_left true b e = refl
or_left false b e = cc

or_right : (a b : Bool) → a ≡ false → b ≡ (a || b)
or_right true b e = cc
or_right false b e = refl

pub loop-at-preserved : goal.loop-at-preserved
loop-at-preserved c =
    let path = c.args.path.now in
    let all = c.args.refusals.now in
    let at = c.loop-at.at in
    let x = c.index-refusals-at.result in
    let inside : at < length all = omega arith in
    let item : get_or c.loop-at.refusals at x ≡ get_or all at x =
    ap (λ (l : List (List ℕ × Option ℕ)). get_or l at x) c.loop-at.invariant.counted ∙ front_mapped_at (after_call path) all at x in
    let hit : c.count_one-hit.result ≡ hits path (get_or all at x) = c.count_one-hit.ensures.answer ∙ ap (λ (r : List ℕ × Option ℕ). hits path r) item in
    let more = list_any_more (hits path) all at x inside in
    record {
      counted = ap (λ (r : List ℕ × Option ℕ). set c.loop-at.refusals at r) (c.count_one-hit.ensures.counted ∙ ap (λ (r : List ℕ × Option ℕ). after_call path r) item)
          ∙ ap (λ (l : List (List ℕ × Option ℕ)). set l at (after_call path (get_or all at x))) c.loop-at.invariant.counted
          ∙ front_mapped_next (after_call path) all at x inside;
      answer = elim c.if-refused.branch [
        | then-refused w ↦ w.refused-is ∙ w.if-refused.true ∙ or_left (list_any (hits path) (take at all)) (hits path (get_or all at x)) (sym c.loop-at.invariant.answer ∙ w.if-refused.true) ∙ sym more
        | else-refused w ↦ w.refused-is ∙ hit ∙ or_right (list_any (hits path) (take at all)) (hits path (get_or all at x)) (sym c.loop-at.invariant.answer ∙ w.if-refused.false) ∙ sym more
      ];
    }

pub returns-clause-counted : goal.returns-clause-counted
returns-clause-counted c = c.loop-at.invariant.counted ∙ front_mapped_all (after_call c.args.path.now) c.args.refusals.now c.loop-at.at (omega arith)
