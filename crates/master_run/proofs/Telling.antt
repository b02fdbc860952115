-- What a run tells whose workers have worked.
use Rattle.std.proofs.Common.{◌≡◌, ◌∙◌, refl, sym, ap, subst, ℕ, ◌+◌, ◌≤◌, All, List, [], ◌∷◌, ◌++◌, length, map, slice_get, sum_by}
use Rattle.std.specs.List.{AllByRecursion, AllZip}
use Rattle.std.proofs.lemmas.List.{length-map, map-append}
use Rattle.std.proofs.lemmas.List.Elements.{All-map, All-same, recursion_from_All}
use Rattle.std.proofs.lemmas.List.Sums.{sum_by-cons}
use Rattle.vd_outside.specs.Clocks.{ClockSeen}
use Rattle.vd_arm.specs.Arm.{ArmSeen, PassSeen}
use Rattle.plan_types.specs.declared.plan.Plan.{Plan}
use Rattle.plan_types.specs.declared.run.RunPlan.{RunPlan}
use Rattle.plan_types.specs.declared.store.StorePlan.{StorePlan}
use Rattle.vd_yard.specs.Out.{AtArm}
use Rattle.vd_yard.specs.Yard.{Tells}
use Rattle.key_state.specs.declared.seen.BookSeen.{BookSeen}
use Rattle.claim_table.specs.Closings.{Returned}
use Rattle.claim_table.specs.Openings.{made_with}
use Rattle.claim_table.specs.Seats.{made_in}
use Rattle.claim_table.specs.Sums.{total}
use Rattle.claim_table.specs.declared.view.Made.{Made}
use Rattle.claim_table.specs.declared.view.View.{View}
use Rattle.error_limit.specs.Rule.{newest}
use Rattle.error_limit.specs.Seats.{IsSeatOf as IsErrorSeatOf, Lasts, notes_of}
use Rattle.error_limit.specs.declared.word.ErrorWord.{ErrorWord}
use Rattle.slave_worker.specs.declared.hand.StoreHand.{StoreHand}
use Rattle.master_run.specs.Crews.{Beginning, Ran, RanAll, all_labors, arms_of, path_of}
use Rattle.slave_worker.specs.Hands.{OfStore}
use Rattle.master_run.specs.Labors.{DidWork, Labor}
use Rattle.master_run.specs.Posts.{Closed, HasEnded, all_arms, arms_at, labor_of, path_at, posts_of}
use Rattle.master_run.specs.declared.crew.Crew.{Crew}
use Rattle.master_run.specs.declared.post.Post.{Post}
use Rattle.master_run.proofs.Ending.{all_in_flat, all_unmap, zip_all}

pub map_twice : {A B C : Type 0} (g : B → C) (f : A → B) (xs : List A) → map g (map f xs) ≡ map (λ x. g (f x)) xs
map_twice g f [] = refl
map_twice g f (x ∷ xs) = ap (λ (l : List _). g (f x) ∷ l) (map_twice g f xs)

sum_total : {A : Type 0} (f : A → ℕ) (xs : List A) → sum_by f xs ≡ total f xs
sum_total f [] = refl
sum_total f (x ∷ xs) = sum_by-cons f x xs ∙ ap (λ (n : ℕ). f x + n) (sum_total f xs)

total_map : {A B : Type 0} (g : B → ℕ) (f : A → B) (xs : List A) → total g (map f xs) ≡ total (λ x. g (f x)) xs
total_map g f [] = refl
total_map g f (x ∷ xs) = ap (λ (n : ℕ). g (f x) + n) (total_map g f xs)

module _ {P B A C : Type 0} (pass_seen : P → PassSeen) (book_seen : B → BookSeen) (arm_seen : A → ArmSeen) (clock_seen : C → ClockSeen) (plan : Plan) (run : RunPlan) (word : ErrorWord) (tells : Tells) (start : ℕ) (clock : ClockSeen) where
  abbrev pub of_post : Post P A C → Labor
  of_post post = labor_of arm_seen clock_seen post

  -- the labors of a crew, and of crews, crew by crew
  abbrev pub labors_of : Crew P B A C → List Labor
  labors_of crew = map of_post crew.posts.items

  pub labors_are : (crews : List (Crew P B A C)) → all_labors (map labors_of crews) ≡ map of_post (posts_of crews)
  labors_are [] = refl
  labors_are (crew ∷ crews) = ap (λ (l : List Labor). map of_post crew.posts.items ++ l) (labors_are crews) ∙ sym (map-append of_post crew.posts.items (posts_of crews))

  -- What is told of each labor is told of each worker.
  pub told : {D : Type 0} (tell : Labor → D) (crews : List (Crew P B A C)) → map tell (all_labors (map labors_of crews)) ≡ map (λ (post : Post P A C). tell (of_post post)) (posts_of crews)
  told tell crews = ap (map tell) (labors_are crews) ∙ map_twice tell of_post (posts_of crews)

  abbrev pub EndedOf : StoreHand P B → Crew P B A C → Type 0
  EndedOf hand crew = OfStore plan hand.store (λ (store : StorePlan). HasEnded pass_seen book_seen arm_seen plan run word tells clock_seen start clock store hand crew)

  abbrev pub began : Beginning
  began = record { start = start; clock = clock; tells = tells }

  ran_one : (store : StorePlan) (hand : StoreHand P B) (crew : Crew P B A C) (back : StoreHand P B) → HasEnded pass_seen book_seen arm_seen plan run word tells clock_seen start clock store hand crew → Closed pass_seen book_seen crew back → Ran pass_seen book_seen plan run began store hand (labors_of crew) back
  ran_one store hand crew back is closed =
      let many : length (labors_of crew) ≡ length crew.posts.items = length-map crew.posts.items of_post in
      let made : made_in pass_seen book_seen crew.table ≡ made_with pass_seen book_seen store.id (length (labors_of crew)) hand.passes.items hand.book = is.is_crew.made ∙ ap (λ (n : ℕ). made_with pass_seen book_seen store.id n hand.passes.items hand.book) (sym many) in
      record {
        same = closed.place ∙ is.is_crew.place;
        workers = map_twice (λ (labor : Labor). labor.worker) of_post crew.posts.items ∙ is.is_crew.workers;
        each =
            subst (λ (m : Made). All (DidWork plan run store.id start clock m (tells.sure AtArm store.path)) (labors_of crew)) made
            (All-map (DidWork plan run store.id start clock (made_in pass_seen book_seen crew.table) (tells.sure AtArm store.path)) of_post crew.posts.items is.did);
        returned =
            subst (λ (m : Made). Returned m (map (λ (labor : Labor). labor.view) (labors_of crew)) (map pass_seen back.passes.items) (book_seen back.book)) made
            (subst (λ (l : List View). Returned (made_in pass_seen book_seen crew.table) l (map pass_seen back.passes.items) (book_seen back.book)) (sym (map_twice (λ (labor : Labor). labor.view) of_post crew.posts.items)) closed.returned);
      }

  -- Each store's workers did their labors, and its passes and its book came back.
  pub ran_all : (hands : List (StoreHand P B)) (crews : List (Crew P B A C)) (backs : List (StoreHand P B)) → AllZip EndedOf hands crews → AllZip (Closed pass_seen book_seen) crews backs → RanAll pass_seen book_seen plan run began hands (map labors_of crews) backs
  ran_all [] [] [] are closed = tt
  ran_all [] [] (back ∷ backs) are closed = absurd closed
  ran_all [] (crew ∷ crews) backs are closed = absurd are
  ran_all (hand ∷ hands) [] backs are closed = absurd are
  ran_all (hand ∷ hands) (crew ∷ crews) [] are closed = absurd closed
  ran_all (hand ∷ hands) (crew ∷ crews) (back ∷ backs) are closed =
      ((are.0.0, are.0.1, ran_one are.0.0 hand crew back are.0.2 closed.0), ran_all hands crews backs are.1 closed.1)

  -- The arms of a crew's workers, by their labors.
  posts_arms : (place : ℕ) (posts : List (Post P A C)) → AllByRecursion (λ (post : Post P A C). post.worker.store ≡ place) posts → arms_of plan (map of_post posts) ≡ arms_at arm_seen (path_of (slice_get plan.stores place)) posts
  posts_arms place [] all = refl
  posts_arms place (post ∷ posts) all =
      ap (λ (n : ℕ). (path_of (slice_get plan.stores n), arm_seen post.arm) ∷ arms_of plan (map of_post posts)) all.0
      ∙ ap (λ (l : List (List ℕ × ArmSeen)). (path_of (slice_get plan.stores place), arm_seen post.arm) ∷ l) (posts_arms place posts all.1)

  crew_arms : (hand : StoreHand P B) (crew : Crew P B A C) → EndedOf hand crew → arms_of plan (labors_of crew) ≡ arms_at arm_seen (path_at plan crew) crew.posts.items
  crew_arms hand crew (store, at, is) =
      posts_arms hand.store crew.posts.items (recursion_from_All (λ (post : Post P A C). post.worker.store ≡ hand.store) crew.posts.items (λ k d within. (is.done k d within).at_place))
      ∙ ap (λ (n : ℕ). arms_at arm_seen (path_of (slice_get plan.stores n)) crew.posts.items) (sym is.is_crew.place)

  pub crews_arms : (hands : List (StoreHand P B)) (crews : List (Crew P B A C)) → AllZip EndedOf hands crews → arms_of plan (all_labors (map labors_of crews)) ≡ all_arms arm_seen plan crews
  crews_arms [] [] are = refl
  crews_arms [] (crew ∷ crews) are = absurd are
  crews_arms (hand ∷ hands) [] are = absurd are
  crews_arms (hand ∷ hands) (crew ∷ crews) are =
      map-append (λ (labor : Labor). (path_of (slice_get plan.stores labor.worker.store), labor.arm)) (labors_of crew) (all_labors (map labors_of crews))
      ∙ ap (λ (l : List (List ℕ × ArmSeen)). l ++ arms_of plan (all_labors (map labors_of crews))) (crew_arms hand crew are.0)
      ∙ ap (λ (l : List (List ℕ × ArmSeen)). arms_at arm_seen (path_at plan crew) crew.posts.items ++ l) (crews_arms hands crews are.1)

  seats_one : (hand : StoreHand P B) (crew : Crew P B A C) → EndedOf hand crew → All (λ (post : Post P A C). IsErrorSeatOf word post.error_seat) crew.posts.items
  seats_one hand crew (store, at, is) = λ k d within. (is.done k d within).error_seat

  -- The seats of all workers are the word's.
  pub seats_all : (hands : List (StoreHand P B)) (crews : List (Crew P B A C)) → AllZip EndedOf hands crews → All (IsErrorSeatOf word) (map (λ (post : Post P A C). post.error_seat) (posts_of crews))
  seats_all hands crews are =
      All-map (IsErrorSeatOf word) (λ (post : Post P A C). post.error_seat) (posts_of crews)
      (all_in_flat (λ (crew : Crew P B A C). All (λ (post : Post P A C). IsErrorSeatOf word post.error_seat) crew.posts.items) (λ (post : Post P A C). IsErrorSeatOf word post.error_seat) (λ (crew : Crew P B A C). crew.posts.items) (λ crew all. all) crews
      (zip_all EndedOf (λ (crew : Crew P B A C). All (λ (post : Post P A C). IsErrorSeatOf word post.error_seat) crew.posts.items) seats_one hands crews are))

  -- Their notes are those of all labors, and so are their last answers.
  pub notes_are : (crews : List (Crew P B A C)) → sum_by notes_of (map (λ (post : Post P A C). post.error_seat) (posts_of crews)) ≡ total (λ (labor : Labor). labor.notes) (all_labors (map labors_of crews))
  notes_are crews =
      sum_total notes_of (map (λ (post : Post P A C). post.error_seat) (posts_of crews))
      ∙ total_map notes_of (λ (post : Post P A C). post.error_seat) (posts_of crews)
      ∙ sym (ap (total (λ (labor : Labor). labor.notes)) (labors_are crews) ∙ total_map (λ (labor : Labor). labor.notes) of_post (posts_of crews))

  pub last_are : (count : ℕ) (crews : List (Crew P B A C)) → All (Lasts count) (map (λ (post : Post P A C). post.error_seat) (posts_of crews)) → All (λ (labor : Labor). newest labor.answers ≤ count) (all_labors (map labors_of crews))
  last_are count crews all =
      All-same (λ (labor : Labor). newest labor.answers ≤ count) (all_labors (map labors_of crews)) (map of_post (posts_of crews)) (labors_are crews)
      (All-map (λ (labor : Labor). newest labor.answers ≤ count) of_post (posts_of crews) (all_unmap (Lasts count) (λ (post : Post P A C). post.error_seat) (posts_of crews) all))
