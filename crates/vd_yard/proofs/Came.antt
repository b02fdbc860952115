-- A call where no refusal is still to come.
use Rattle.std.proofs.Common.{◌≡◌, ℕ, Bool, true, false, ◌&&◌, cond, List, [], ◌∷◌, map, Option, Some, None, refl, sym, ap, ◌∙◌}
use Rattle.std.specs.Prelude.{is_none, IsTrue}
use Rattle.std.specs.List.{list_any}
use Rattle.std.specs.Str.{bytes_eq}
use Rattle.vd_yard.specs.Refusals.{all_came, hits, after_call, is_due, one_less}

true_not_false : true ≡ false → ⊥
true_not_false e = cc

and_parts : (a b : Bool) → (a && b) ≡ true → (a ≡ true) × (b ≡ true)
and_parts true b e = (refl, e)
and_parts false b e = cc

none_due : (o : Option ℕ) (b : Bool) → is_none o ≡ true → (b && is_due o) ≡ false
none_due None true e = refl
none_due None false e = refl
none_due (Some n) b e = cc

none_stays : (o : Option ℕ) (b : Bool) → is_none o ≡ true → is_none (cond b (one_less o) o) ≡ true
none_stays None true e = refl
none_stays None false e = refl
none_stays (Some n) b e = cc

pub came_goes_on : (path : List ℕ) (refusals : List (List ℕ × Option ℕ)) → all_came refusals ≡ true → list_any (hits path) refusals ≡ false
came_goes_on path [] e = refl
came_goes_on path (r ∷ rs) e =
    let parts = and_parts (is_none r.1) (all_came rs) e in
    rw (none_due r.1 (bytes_eq r.0 path) parts.0) (came_goes_on path rs parts.1)

pub came_stays : (path : List ℕ) (refusals : List (List ℕ × Option ℕ)) → all_came refusals ≡ true → all_came (map (after_call path) refusals) ≡ true
came_stays path [] e = refl
came_stays path (r ∷ rs) e =
    let parts = and_parts (is_none r.1) (all_came rs) e in
    rw (none_stays r.1 (bytes_eq r.0 path) parts.0) (came_stays path rs parts.1)

pub still_willing : (path : List ℕ) (old new : List (List ℕ × Option ℕ)) → new ≡ map (after_call path) old → IsTrue (all_came old) → IsTrue (all_came new)
still_willing path old new e came = ap all_came e ∙ came_stays path old came

pub never_refused : (path : List ℕ) (old : List (List ℕ × Option ℕ)) (refused : Bool) → refused ≡ list_any (hits path) old → refused ≡ true → IsTrue (all_came old) → ⊥
never_refused path old refused e was came =
    let goes : refused ≡ false = e ∙ came_goes_on path old came in
    true_not_false (sym was ∙ goes)
