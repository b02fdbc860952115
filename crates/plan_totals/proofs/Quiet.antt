-- What the yard keeps fits books without journals in which no block was ever written.
use Rattle.std.proofs.Common.{◌≡◌, ◌∙◌, sym, ap, subst, ℕ, zero, suc, List, [], ◌∷◌, length, map, Some, slice_get}
use Rattle.std.specs.List.{range_with_len, zip}
use Rattle.std.proofs.lemmas.List.{get_or-replicate}
use Rattle.std.proofs.lemmas.Option.{none-some, same_Some}
use Rattle.vd_arm.specs.Arm.{PassSeen}
use Rattle.vd_yard.specs.Kept.{Kept}
use Rattle.plan_types.specs.declared.store.StorePlan.{StorePlan}
use Rattle.key_state.specs.declared.entry.Entry.TheVariants.{Bad, Settled}
use Rattle.key_state.specs.declared.seen.BookSeen.{BookSeen}
use Rattle.slave_worker.specs.Hands.{HandSeen}
use Rattle.run_totals.proofs.Lists.{get_of_map}
use Rattle.plan_hands.specs.Stores.{with_books}
use Rattle.plan_runs.specs.Quiet.{unwritten}
use Rattle.plan_totals.specs.Sentences.{HandFits, UnwrittenFit, UnwrittenPlansFit}

zip_second : {A B : Type 0} (xs : List A) (ys : List B) (i : ℕ) (both : A × B) → slice_get (zip xs ys) i ≡ Some both → slice_get ys i ≡ Some both.1
zip_second [] ys i both at = absurd (none-some both at)
zip_second (x ∷ xs) [] i both at = absurd (none-some both at)
zip_second {A} {B} (x ∷ xs) (y ∷ ys) zero both at = ap (λ (p : A × B). Some p.1) (same_Some (x, y) both at)
zip_second (x ∷ xs) (y ∷ ys) (suc i) both at = zip_second xs ys i both at

unwritten_hand : UnwrittenFit → (contents : Kept (List ℕ)) (store : StorePlan) (place : ℕ) (book : BookSeen) (hand : HandSeen) → unwritten store ≡ book → (place, [], book) ≡ hand → HandFits contents store hand
unwritten_hand any contents store place book hand is_book is =
    let first : HandSeen = (place, [], unwritten store) in
    let fits : HandFits contents store first = (λ block pass at. absurd (none-some pass at), λ none. any contents store first (λ block within. get_or-replicate store.id.geometry.blocks block (Settled 0) Bad within)) in
    subst (λ (h : HandSeen). HandFits contents store h) is (subst (λ (b : BookSeen). HandFits contents store (place, [], b)) is_book fits)

module _ {P B : Type 0} (pass_seen : P → PassSeen) (book_seen : B → BookSeen) where
  pub unwritten_plans : UnwrittenFit → UnwrittenPlansFit pass_seen book_seen
  unwritten_plans any all begins its =
      let books : List BookSeen = map unwritten all.plan.stores in
      let at : slice_get (with_books books) its.place ≡ Some its.hand = ap (λ (l : List HandSeen). slice_get l its.place) (sym begins) ∙ its.went_in in
      let one = get_of_map (λ (o : ℕ × BookSeen). (o.0, [], o.1)) (zip (range_with_len 0 (length books)) books) its.place its.hand at in
      let book = get_of_map unwritten all.plan.stores its.place one.0.1 (zip_second (range_with_len 0 (length books)) books its.place one.0 one.1) in
      let store : book.0 ≡ its.store = same_Some book.0 its.store (sym book.1 ∙ its.its_store) in
      let is : unwritten its.store ≡ one.0.1 = sym (ap unwritten store) ∙ book.2 in
      unwritten_hand any all.before.yard.contents its.store one.0.0 one.0.1 its.hand is one.2
