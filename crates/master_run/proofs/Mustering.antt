-- Crews that are made, from the last hand on.
use Rattle.std.proofs.Common.{◌≡◌, ◌∙◌, refl, sym, ap, subst, arith, ℕ, ◌+◌, ◌<◌, All, List, [], ◌∷◌, ◌++◌, length, length-append, map, OnOk, Result, Ok, Err, reverse, Some, slice_get}
use Rattle.std.specs.List.{AllZip, flat_map}
use Rattle.std.proofs.lemmas.Grind.{flat_map-append}
use Rattle.std.proofs.lemmas.List.{append-nil, append_assoc, map-append, reverse-append}
use Rattle.std.proofs.lemmas.Option.{same_Some, slice_get_within}
use Rattle.vd_arm.specs.Arm.{ArmSeen, PassSeen}
use Rattle.plan_types.specs.declared.plan.Plan.{Plan}
use Rattle.plan_types.specs.declared.run.RunPlan.{RunPlan}
use Rattle.plan_types.specs.declared.store.StorePlan.{StorePlan}
use Rattle.vd_yard.specs.Yard.{Tells, YardSeen}
use Rattle.key_state.specs.declared.seen.BookSeen.{BookSeen}
use Rattle.error_limit.specs.Seats.{IsNew as IsNewErrorSeat}
use Rattle.error_limit.specs.declared.word.ErrorSeat.{ErrorSeat}
use Rattle.error_limit.specs.declared.word.ErrorWord.{ErrorWord}
use Rattle.slave_worker.specs.declared.hand.RunFault.{RunFault}
use Rattle.slave_worker.specs.declared.hand.StoreHand.{StoreHand}
use Rattle.master_run.specs.Crews.{path_of}
use Rattle.slave_worker.specs.Hands.{IsHandIn, IsHandOf, OfStore, hand_seen, workers_in}
use Rattle.master_run.specs.Musters.{Mustered}
use Rattle.master_run.specs.Posts.{Crewed, IsManned, all_paths, path_at, paths_at, posts_of}
use Rattle.master_run.specs.Yards.{TookArms}
use Rattle.master_run.specs.declared.crew.Crew.{Crew}
use Rattle.master_run.proofs.Opening.{took_none, took_then}

-- One pair more behind two lists.
pub zip_push : {A B : Type 0} (R : A → B → Type 0) (xs : List A) (ys : List B) (x : A) (y : B) → AllZip R xs ys → R x y → AllZip R (xs ++ x ∷ []) (ys ++ y ∷ [])
zip_push R [] [] x y zip here = (here, tt)
zip_push R [] (b ∷ ys) x y zip here = absurd zip
zip_push R (a ∷ xs) [] x y zip here = absurd zip
zip_push R (a ∷ xs) (b ∷ ys) x y zip here = (zip.0, zip_push R xs ys x y zip.1 here)

pub turned_cons : {A : Type 0} (x : A) (xs : List A) → reverse (x ∷ xs) ≡ reverse xs ++ x ∷ []
turned_cons x xs = reverse-append (x ∷ []) xs

pub on_ok_then : {E : Type 0} (result : Result (Unit {0}) E) (P Q : Type 0) → (P → Q) → OnOk result P → OnOk result Q
on_ok_then (Ok done) P Q then is = then is
on_ok_then (Err fault) P Q then is = tt

pub last_flat : {A B : Type 0} (f : A → List B) (xs : List A) (x : A) → flat_map f (xs ++ x ∷ []) ≡ flat_map f xs ++ f x
last_flat f xs x = flat_map-append f xs (x ∷ []) ∙ ap (λ (l : List _). flat_map f xs ++ l) (append-nil (f x))

module _ {P B A C : Type 0} (pass_seen : P → PassSeen) (book_seen : B → BookSeen) (arm_seen : A → ArmSeen) (plan : Plan) (run : RunPlan) where
  -- No hand was left.
  pub muster_none : (yard : YardSeen) (hands : List (StoreHand P B)) (crews : List (Crew P B A C)) (seats : List ErrorSeat) → Mustered pass_seen book_seen arm_seen plan run yard yard hands hands crews crews seats seats (Ok tt)
  muster_none yard hands crews seats = record {
    rest = hands;
    taken = [];
    more = [];
    hands = sym (append-nil hands);
    same = refl;
    crews = sym (append-nil crews);
    manned = λ word new. (tt, new, took_none yard);
    seats = omega arith;
  }

  -- The last hand's crew couldn't be made.
  pub muster_fault : (fault : RunFault) (yard_before yard_after : YardSeen) (before middle after : List (StoreHand P B)) (hand back : StoreHand P B) (crews : List (Crew P B A C)) (seats_before seats_after : List ErrorSeat) → before ≡ middle ++ hand ∷ [] → after ≡ middle ++ back ∷ [] → hand_seen pass_seen book_seen back ≡ hand_seen pass_seen book_seen hand
      → ((word : ErrorWord) → All (IsNewErrorSeat word) seats_before → All (IsNewErrorSeat word) seats_after) → TookArms [] yard_before yard_after → Mustered pass_seen book_seen arm_seen plan run yard_before yard_after before after crews crews seats_before seats_after (Err fault)
  muster_fault fault yard_before yard_after before middle after hand back crews seats_before seats_after was is same seats took = record {
    rest = before;
    taken = [];
    more = [];
    hands = sym (append-nil before);
    same =
        let seen = hand_seen pass_seen book_seen in
        ap (map seen) is ∙ map-append seen middle (back ∷ []) ∙ ap (λ (h : _). map seen middle ++ h ∷ []) same ∙ sym (map-append seen middle (hand ∷ [])) ∙ ap (map seen) (sym was);
    crews = sym (append-nil crews);
    manned = λ word new. (tt, seats word new, took);
    seats = tt;
  }

  -- Its crew was made, and then those of the hands before it.
  module _ (before middle after : List (StoreHand P B)) (hand : StoreHand P B) (store : StorePlan) (crews crews_middle crews_after : List (Crew P B A C)) (crew : Crew P B A C) (yard yard_middle yard_after : YardSeen) (seats seats_middle seats_after : List ErrorSeat) (result : Result (Unit {0}) RunFault)
      (was : before ≡ middle ++ hand ∷ [])
      (at : slice_get plan.stores hand.store ≡ Some store)
      (made : crews_middle ≡ crews ++ crew ∷ [])
      (manned : (word : ErrorWord) → All (IsNewErrorSeat word) seats → IsManned pass_seen book_seen arm_seen plan run word yard.tells store hand crew × All (IsNewErrorSeat word) seats_middle)
      (used : length seats ≡ length seats_middle + length crew.posts.items)
      (took : TookArms (paths_at store.path crew.posts.items) yard yard_middle)
      (others : Mustered pass_seen book_seen arm_seen plan run yard_middle yard_after middle after crews_middle crews_after seats_middle seats_after result) where
    posts_are : posts_of (reverse (crew ∷ others.more)) ≡ posts_of (reverse others.more) ++ crew.posts.items
    posts_are = ap posts_of (turned_cons crew others.more) ∙ last_flat (λ (crew : Crew P B A C). crew.posts.items) (reverse others.more) crew

    paths_are : crew.place ≡ hand.store → all_paths plan (reverse (crew ∷ others.more)) ≡ all_paths plan (reverse others.more) ++ paths_at store.path crew.posts.items
    paths_are place =
        ap (all_paths plan) (turned_cons crew others.more)
        ∙ last_flat (λ (crew : Crew P B A C). paths_at (path_at plan crew) crew.posts.items) (reverse others.more) crew
        ∙ ap (λ (path : List ℕ). all_paths plan (reverse others.more) ++ paths_at path crew.posts.items) (ap path_of (ap (slice_get plan.stores) place ∙ at))

    crewed : (word : ErrorWord) → All (IsNewErrorSeat word) seats → Crewed plan (IsManned pass_seen book_seen arm_seen plan run word yard.tells) (others.taken ++ hand ∷ []) (reverse (crew ∷ others.more))
    crewed word new =
        let Is = (λ (hand : StoreHand P B) (crew : Crew P B A C). OfStore plan hand.store (λ (store : StorePlan). IsManned pass_seen book_seen arm_seen plan run word yard.tells store hand crew)) in
        let here = manned word new in
        let rest = others.manned word here.1 in
        subst (λ (l : List (Crew P B A C)). AllZip Is (others.taken ++ hand ∷ []) l) (sym (turned_cons crew others.more))
        (zip_push Is others.taken (reverse others.more) hand crew
        (subst (λ (t : Tells). Crewed plan (IsManned pass_seen book_seen arm_seen plan run word t) others.taken (reverse others.more)) took.same.tells rest.0)
        (store, at, here.0))

    arms : (word : ErrorWord) → All (IsNewErrorSeat word) seats → TookArms (all_paths plan (reverse (crew ∷ others.more))) yard yard_after
    arms word new =
        let here = manned word new in
        subst (λ (l : List (List ℕ)). TookArms l yard yard_after) (sym (paths_are here.0.is_crew.place))
        (took_then (paths_at store.path crew.posts.items) (all_paths plan (reverse others.more)) yard yard_middle yard_after took (others.manned word here.1).2)

    pub muster_more : Mustered pass_seen book_seen arm_seen plan run yard yard_after before after crews crews_after seats seats_after result
    muster_more = record {
      rest = others.rest;
      taken = others.taken ++ hand ∷ [];
      more = crew ∷ others.more;
      hands = was ∙ ap (λ (l : List (StoreHand P B)). l ++ hand ∷ []) others.hands ∙ append_assoc others.rest others.taken (hand ∷ []);
      same = others.same;
      crews = others.crews ∙ ap (λ (l : List (Crew P B A C)). l ++ others.more) made ∙ append_assoc crews (crew ∷ []) others.more;
      manned = λ word new. (crewed word new, (others.manned word (manned word new).1).1, arms word new);
      seats = on_ok_then result _ _ (λ many. let len = ap length posts_are ∙ length-append (posts_of (reverse others.more)) crew.posts.items in omega (arith, used, many, len)) others.seats;
    }

-- The workers of the hands' stores are those of the last one's and those of the hands before it.
pub last_workers : {P B : Type 0} (run : RunPlan) (before middle : List (StoreHand P B)) (hand : StoreHand P B) → before ≡ middle ++ hand ∷ [] → length (flat_map (workers_in run) (map (λ (hand : StoreHand P B). hand.store) before)) ≡ length (flat_map (workers_in run) (map (λ (hand : StoreHand P B). hand.store) middle)) + length (workers_in run hand.store)
last_workers run before middle hand was =
    ap (λ (l : List (StoreHand _ _)). length (flat_map (workers_in run) (map (λ (hand : StoreHand _ _). hand.store) l))) was
    ∙ ap (λ (l : List ℕ). length (flat_map (workers_in run) l)) (map-append (λ (hand : StoreHand _ _). hand.store) middle (hand ∷ []))
    ∙ ap length (last_flat (workers_in run) (map (λ (hand : StoreHand _ _). hand.store) middle) hand.store)
    ∙ length-append (flat_map (workers_in run) (map (λ (hand : StoreHand _ _). hand.store) middle)) (workers_in run hand.store)

-- The last hand's store, of which the plan tells this.
pub hand_within : {P B : Type 0} (pass_seen : P → PassSeen) (book_seen : B → BookSeen) (plan : Plan) (run : RunPlan) (hand : StoreHand P B) → IsHandIn pass_seen book_seen plan run hand → hand.store < length plan.stores
hand_within pass_seen book_seen plan run hand is = slice_get_within plan.stores hand.store is.its.0 is.its.1

pub hand_is : {P B : Type 0} (pass_seen : P → PassSeen) (book_seen : B → BookSeen) (plan : Plan) (run : RunPlan) (hand : StoreHand P B) (store : StorePlan) → IsHandIn pass_seen book_seen plan run hand → slice_get plan.stores hand.store ≡ Some store → IsHandOf pass_seen book_seen store hand
hand_is pass_seen book_seen plan run hand store is at = subst (λ (s : StorePlan). IsHandOf pass_seen book_seen s hand) (same_Some is.its.0 store (sym is.its.1 ∙ at)) is.its.2
