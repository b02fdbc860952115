-- What comes back where no seat made a claim, or gave a book back.
use Rattle.std.proofs.Common.{◌≡◌, ℕ, zero, suc, List, [], ◌∷◌, map, length, sym, refl, ap, ◌∙◌, subst, ⊎_elim, arith, Option, Some, None, slice_get, slice_index_or}
use Rattle.std.proofs.lemmas.List.{length-map}
use Rattle.std.proofs.lemmas.List.Elements.{All-head, All-tail}
use Rattle.vd_arm.specs.Arm.{PassSeen}
use Rattle.key_state.specs.declared.seen.BookSeen.{BookSeen}
use Rattle.claim_table.specs.Sums.{total, Among}
use Rattle.claim_table.specs.Views.{answered, other_at, gave_by}
use Rattle.claim_table.specs.Openings.{made_with}
use Rattle.claim_table.specs.Seats.{IsNew}
use Rattle.claim_table.specs.Closings.{Returned, MadeNoClaim, GaveNoBook, ToldKept, PassesKept, BookKept, NewDidNothing}
use Rattle.claim_table.specs.declared.view.View.{View}
use Rattle.claim_table.specs.declared.view.Made.{Made}
use Rattle.claim_table.proofs.Basics.{some_same}
use Rattle.claim_table.proofs.GaveBack.{among_either}

none_there : {A : Type 0} (y : A) → ◌≡◌ {A = Option A} None (Some y) → ⊥
none_there y is = cc

-- lists that are equal at each index
same_lists : {A : Type 0} (xs ys : List A) → length xs ≡ length ys → ((i : ℕ) (x y : A) → slice_get xs i ≡ Some x → slice_get ys i ≡ Some y → x ≡ y) → xs ≡ ys
same_lists [] [] long h = refl
same_lists [] (y ∷ ys) long h = absurd (omega arith)
same_lists (x ∷ xs) [] long h = absurd (omega arith)
same_lists (x ∷ xs) (y ∷ ys) long h =
    let head : x ≡ y = h 0 x y refl refl in
    let tail : xs ≡ ys = same_lists xs ys (omega arith) (λ i a b p q. h (suc i) a b p q) in
    (λ i. head i ∷ tail i)

-- an element of a list that was mapped, and one of a list
of_mapped : {A B : Type 0} (f : A → B) (xs : List A) (i : ℕ) (y : B) → slice_get (map f xs) i ≡ Some y → (x : A) × (slice_get xs i ≡ Some x) × (f x ≡ y)
of_mapped f [] i y is = absurd (none_there y is)
of_mapped f (x ∷ xs) zero y is = (x, refl, some_same y (f x) (sym is))
of_mapped f (x ∷ xs) (suc i) y is = of_mapped f xs i y is

indexed : {A B : Type 0} (f : A → B) (xs : List A) (i : ℕ) (x : A) (d : B) → slice_get xs i ≡ Some x → slice_index_or (map f xs) i d ≡ f x
indexed f [] i x d is = absurd (none_there x is)
indexed f (z ∷ xs) zero x d is = ap f (some_same x z (sym is))
indexed f (z ∷ xs) (suc i) x d is = indexed f xs i x d is

here_indexed : {A : Type 0} (xs : List A) (i : ℕ) (x d : A) → slice_get xs i ≡ Some x → slice_index_or xs i d ≡ x
here_indexed [] i x d is = absurd (none_there x is)
here_indexed (z ∷ xs) zero x d is = some_same x z (sym is)
here_indexed (z ∷ xs) (suc i) x d is = here_indexed xs i x d is

same_seen : (x y : PassSeen) → x.block ≡ y.block → x.size ≡ y.size → x.told ≡ y.told → x ≡ y
same_seen x y block size told = λ i. record { block = block i; size = size i; told = told i }

none_met : (block : ℕ) (views : List View) → MadeNoClaim views → total (other_at block) views ≡ 0
none_met block [] h = refl
none_met block (view ∷ views) h = omega (arith, ap (total (answered block)) h.0, none_met block views h.1)

none_given : (book : BookSeen) (views : List View) → GaveNoBook views → Among book (gave_by views) → ⊥
none_given book [] h given = given
none_given book (view ∷ views) h given = ⊎_elim (λ (l : Among book view.gave). let none-left : Among book [] = subst (Among book) h.0 l in absurd none-left)
    (λ (r : Among book (gave_by views)). none_given book views h.1 r) (among_either book view.gave (gave_by views) given)

pub told_kept : ToldKept
told_kept made views passes book long none-claimed r =
    same_lists (map (λ pass. pass.told) passes) made.told (length-map passes (λ pass. pass.told) ∙ (r.many ∙ sym long))
    (λ i x y at-x at-y.
    let p = of_mapped (λ (pass : PassSeen). pass.told) passes i x at-x in
    sym p.2 ∙ (r.untouched i p.0 p.1 (none_met i views none-claimed) ∙ here_indexed made.told i y None at-y))

pub passes_kept : {P B : Type 0} (pass_seen : P → PassSeen) (book_seen : B → BookSeen) → PassesKept pass_seen book_seen
passes_kept {P} {B} pass_seen book_seen store seats handed given book made views back is are none-claimed r =
    let first : Made = made_with pass_seen book_seen store seats handed book in
    let F : Made → Type 0 = λ m. Returned m views (map pass_seen given) back in
    let t : Returned first views (map pass_seen given) back = subst F is r in
    same_lists (map pass_seen given) (map pass_seen handed) (t.many ∙ sym are.many)
    (λ i x y at-x at-y.
    let p = of_mapped pass_seen handed i y at-y in
    let fits = t.each i x at-x in
    let was = are.each i y at-y in
    let told : slice_index_or first.told i None ≡ y.told = indexed (λ (q : P). (pass_seen q).told) handed i p.0 None p.1 ∙ ap (λ (z : PassSeen). z.told) p.2 in
    same_seen x y (fits.of ∙ sym was.0) (fits.sized ∙ sym was.1) (t.untouched i x at-x (none_met i views none-claimed) ∙ told))

pub book_kept : BookKept
book_kept made views passes book none-gave r = ⊎_elim (λ (e : book ≡ made.book). e) (λ (g : Among book (gave_by views)). absurd (none_given book views none-gave g)) r.given

pub new_did_nothing : {P B : Type 0} (pass_seen : P → PassSeen) (book_seen : B → BookSeen) → NewDidNothing pass_seen book_seen
new_did_nothing pass_seen book_seen table [] h = (tt, tt)
new_did_nothing pass_seen book_seen table (seat ∷ seats) h =
    let first = All-head (IsNew pass_seen book_seen table) seat seats h in
    let others = new_did_nothing pass_seen book_seen table seats (All-tail (IsNew pass_seen book_seen table) seat seats h) in
    ((ap (λ (v : View). v.mine) first.1, others.0), (ap (λ (v : View). v.gave) first.1, others.1))
