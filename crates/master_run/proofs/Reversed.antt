-- Lists of hands and crews that are turned round.
use Rattle.std.proofs.Common.{◌≡◌, ◌∙◌, refl, sym, ap, subst, arith, ℕ, List, [], ◌∷◌, ◌++◌, length, length-append, map, Result, All, reverse}
use Rattle.std.specs.List.{AllZip, flat_map}
use Rattle.std.proofs.lemmas.List.{map-append, reverse-reverse}
use Rattle.vd_arm.specs.Arm.{ArmSeen, PassSeen}
use Rattle.plan_types.specs.declared.plan.Plan.{Plan}
use Rattle.plan_types.specs.declared.run.RunPlan.{RunPlan}
use Rattle.plan_types.specs.declared.store.StorePlan.{StorePlan}
use Rattle.vd_yard.specs.Out.{Out}
use Rattle.vd_yard.specs.Yard.{YardSeen}
use Rattle.key_state.specs.declared.seen.BookSeen.{BookSeen}
use Rattle.error_limit.specs.Seats.{IsNew as IsNewErrorSeat}
use Rattle.error_limit.specs.declared.word.ErrorSeat.{ErrorSeat}
use Rattle.error_limit.specs.declared.word.ErrorWord.{ErrorWord}
use Rattle.slave_worker.specs.declared.hand.RunFault.{RunFault}
use Rattle.slave_worker.specs.declared.hand.StoreHand.{StoreHand}
use Rattle.slave_worker.specs.Hands.{OfStore, hand_seen, workers_in}
use Rattle.master_run.specs.Musters.{Mustered}
use Rattle.master_run.specs.Posts.{Crewed, IsManned, all_paths, path_at, paths_at, posts_of}
use Rattle.master_run.specs.Yards.{TookArms, out_with}
use Rattle.master_run.specs.declared.crew.Crew.{Crew}
use Rattle.master_run.proofs.Arming.{out_with_append}
use Rattle.master_run.proofs.Ending.{same_many, zip_turned}
use Rattle.master_run.proofs.Mustering.{last_flat, last_workers, on_ok_then, turned_cons}
use Rattle.master_run.proofs.Opening.{out_with_swap}

pub map_turned : {A B : Type 0} (f : A → B) (xs : List A) → map f (reverse xs) ≡ reverse (map f xs)
map_turned f [] = refl
map_turned f (x ∷ xs) =
    ap (map f) (turned_cons x xs) ∙ map-append f (reverse xs) (x ∷ []) ∙ ap (λ (l : List _). l ++ f x ∷ []) (map_turned f xs) ∙ sym (turned_cons (f x) (map f xs))

-- There are as many workers in either order.
pub workers_turned : {P B : Type 0} (run : RunPlan) (hands : List (StoreHand P B)) → length (flat_map (workers_in run) (map (λ (hand : StoreHand P B). hand.store) (reverse hands))) ≡ length (flat_map (workers_in run) (map (λ (hand : StoreHand P B). hand.store) hands))
workers_turned run [] = refl
workers_turned run (hand ∷ hands) =
    let last = last_workers run (reverse (hand ∷ hands)) (reverse hands) hand (turned_cons hand hands) in
    let both = length-append (workers_in run hand.store) (flat_map (workers_in run) (map (λ (hand : StoreHand _ _). hand.store) hands)) in
    omega (arith, last, both, workers_turned run hands)

pub posts_turned : {P B A C : Type 0} (crews : List (Crew P B A C)) → length (posts_of (reverse crews)) ≡ length (posts_of crews)
posts_turned [] = refl
posts_turned (crew ∷ crews) =
    let last = ap (λ (l : List (Crew _ _ _ _)). length (posts_of l)) (turned_cons crew crews) ∙ ap length (last_flat (λ (crew : Crew _ _ _ _). crew.posts.items) (reverse crews) crew) ∙ length-append (posts_of (reverse crews)) crew.posts.items in
    let both = length-append crew.posts.items (posts_of crews) in
    omega (arith, last, both, posts_turned crews)

-- The same arms are out in either order.
pub paths_turned : {P B A C : Type 0} (plan : Plan) (crews : List (Crew P B A C)) (out : Out) → out_with (all_paths plan (reverse crews)) out ≡ out_with (all_paths plan crews) out
paths_turned plan [] out = refl
paths_turned plan (crew ∷ crews) out =
    let own = paths_at (path_at plan crew) crew.posts.items in
    let others = all_paths plan (reverse crews) in
    ap (λ (l : List (Crew _ _ _ _)). out_with (all_paths plan l) out) (turned_cons crew crews)
    ∙ ap (λ (l : List (List ℕ)). out_with l out) (last_flat (λ (crew : Crew _ _ _ _). paths_at (path_at plan crew) crew.posts.items) (reverse crews) crew)
    ∙ out_with_swap others own out
    ∙ out_with_append own others out
    ∙ ap (out_with own) (paths_turned plan crews out)
    ∙ sym (out_with_append own (all_paths plan crews) out)

took_turned : {P B A C : Type 0} (plan : Plan) (crews : List (Crew P B A C)) (old new : YardSeen) → TookArms (all_paths plan crews) old new → TookArms (all_paths plan (reverse crews)) old new
took_turned plan crews old new took = record {
  same = took.same;
  out = took.out ∙ sym (paths_turned plan crews old.out);
  unused = took.unused;
  are_unused = took.are_unused;
  counts = took.counts;
}

pub no_items : {A : Type 0} (xs : List A) → length xs ≡ 0 → xs ≡ []
no_items [] is = refl
no_items (x ∷ xs) is = absurd (omega (arith, is))

-- Where all of the turned hands were taken, the turned crews are those of the hands.
module _ {P B A C : Type 0} (pass_seen : P → PassSeen) (book_seen : B → BookSeen) (arm_seen : A → ArmSeen) (plan : Plan) (run : RunPlan) (yard middle : YardSeen) (hands before left : List (StoreHand P B)) (none crews turned : List (Crew P B A C)) (seats seats_left : List ErrorSeat) (result : Result (Unit {0}) RunFault)
    (before_is : before ≡ reverse hands)
    (turned_is : turned ≡ reverse crews)
    (mustered : Mustered pass_seen book_seen arm_seen plan run yard middle before left none crews seats seats_left result)
    (empty : none ≡ [])
    (all : left ≡ []) where
  crews_are : crews ≡ mustered.more
  crews_are = mustered.crews ∙ ap (λ (l : List (Crew P B A C)). l ++ mustered.more) empty

  taken_are : reverse hands ≡ mustered.taken
  taken_are =
      let rest : mustered.rest ≡ [] = no_items mustered.rest (sym (same_many pass_seen book_seen mustered.rest left mustered.same) ∙ ap length all) in
      sym before_is ∙ mustered.hands ∙ ap (λ (l : List (StoreHand P B)). l ++ mustered.taken) rest

  crewed : (word : ErrorWord) → All (IsNewErrorSeat word) seats → Crewed plan (IsManned pass_seen book_seen arm_seen plan run word yard.tells) hands (reverse (reverse crews))
  crewed word new =
      let Is = (λ (hand : StoreHand P B) (crew : Crew P B A C). OfStore plan hand.store (λ (store : StorePlan). IsManned pass_seen book_seen arm_seen plan run word yard.tells store hand crew)) in
      subst (λ (l : List (StoreHand P B)). AllZip Is l (reverse (reverse crews))) (reverse-reverse hands)
      (zip_turned Is (reverse hands) (reverse crews)
      (subst (λ (l : List (StoreHand P B)). AllZip Is l (reverse crews)) (sym taken_are)
      (subst (λ (l : List (Crew P B A C)). AllZip Is mustered.taken (reverse l)) (sym crews_are) (mustered.manned word new).0)))

  pub mustered_turned : Mustered pass_seen book_seen arm_seen plan run yard middle hands left none turned seats seats_left result
  mustered_turned = subst (λ (l : List (Crew P B A C)). Mustered pass_seen book_seen arm_seen plan run yard middle hands left none l seats seats_left result) (sym turned_is) (record {
    rest = [];
    taken = hands;
    more = reverse crews;
    hands = refl;
    same = ap (map (hand_seen pass_seen book_seen)) all;
    crews = sym (ap (λ (l : List (Crew P B A C)). l ++ reverse crews) empty);
    manned = λ word new. (
      crewed word new,
      (mustered.manned word new).1,
      took_turned plan (reverse crews) yard middle (subst (λ (l : List (Crew P B A C)). TookArms (all_paths plan (reverse l)) yard middle) (sym crews_are) (mustered.manned word new).2),
    );
    seats =
        let same = ap (λ (l : List (Crew P B A C)). length (posts_of (reverse l))) crews_are in
        on_ok_then result _ _ (λ many. omega (arith, many, same, posts_turned (reverse crews))) mustered.seats;
  })
