-- The crews of a run's hands, and what they can do.
use Rattle.std.proofs.Common.{◌≡◌, ◌∙◌, refl, sym, ap, subst, arith, ℕ, suc, ◌<◌, ◌≤◌, ◌==◌, ◌||◌, cond, Bool, true, false, All, Contains, List, [], ◌∷◌, ◌++◌, get_or, length, map, reverse, slice_get}
use Rattle.std.specs.List.{AllByRecursion, AllZip, flat_map, list_any}
use Rattle.std.proofs.lemmas.List.{length-map, map-append, reverse-reverse}
use Rattle.std.proofs.lemmas.List.Elements.{All-append, All-cons, All-head, All-nil, All-push, All-same, All-tail, All-weaker, filter_passes, recursion_from_All}
use Rattle.std.proofs.lemmas.Option.{get_or_from_slice_get, slice_get_within}
use Rattle.vd_outside.specs.Clocks.{ClockSeen}
use Rattle.vd_arm.specs.Arm.{ArmSeen, PassSeen}
use Rattle.plan_types.specs.Valid.{IsFrom, IsRun}
use Rattle.plan_types.specs.declared.plan.Plan.{Plan}
use Rattle.plan_types.specs.declared.run.RunPlan.{RunPlan}
use Rattle.plan_types.specs.declared.run.WorkerPlan.{WorkerPlan}
use Rattle.plan_types.specs.declared.store.StorePlan.{StorePlan}
use Rattle.vd_yard.specs.Out.{AtArm}
use Rattle.vd_yard.specs.Yard.{Tells}
use Rattle.key_state.specs.declared.seen.BookSeen.{BookSeen}
use Rattle.claim_table.specs.Seats.{IsNew, made_in}
use Rattle.claim_table.specs.declared.view.Made.{Made}
use Rattle.error_limit.specs.declared.word.ErrorWord.{ErrorWord}
use Rattle.slave_worker.specs.declared.hand.StoreHand.{StoreHand}
use Rattle.master_run.specs.Crews.{AreSameHands, path_of}
use Rattle.slave_worker.specs.Hands.{AreHands, IsHandIn, IsRunOf, OfStore, hand_seen, stores_in, workers_at, workers_in}
use Rattle.master_run.specs.Posts.{CanClose, CanDismiss, CanWork, HasEnded, IsCrewOf, IsManned, IsOver, IsReady, Works, all_paths, path_at, paths_at, posts_of}
use Rattle.master_run.specs.declared.crew.Crew.{Crew}
use Rattle.master_run.specs.declared.post.Post.{Post}
use Rattle.master_run.proofs.Mustering.{turned_cons, zip_push}
use Rattle.master_run.proofs.Ordered.{all_workers}

-- Lists that are paired.
pub zip_turned : {A B : Type 0} (R : A → B → Type 0) (xs : List A) (ys : List B) → AllZip R xs ys → AllZip R (reverse xs) (reverse ys)
zip_turned R [] [] zip = tt
zip_turned R [] (y ∷ ys) zip = absurd zip
zip_turned R (x ∷ xs) [] zip = absurd zip
zip_turned R (x ∷ xs) (y ∷ ys) zip =
    subst (λ (l : List _). AllZip R l (reverse (y ∷ ys))) (sym (turned_cons x xs))
    (subst (λ (l : List _). AllZip R (reverse xs ++ x ∷ []) l) (sym (turned_cons y ys)) (zip_push R (reverse xs) (reverse ys) x y (zip_turned R xs ys zip.1) zip.0))

pub zip_then : {A B C : Type 0} (R : A → B → Type 0) (S : B → C → Type 0) (T : A → C → Type 0) → ((a : A) (b : B) (c : C) → R a b → S b c → T a c) → (xs : List A) (ys : List B) (zs : List C) → AllZip R xs ys → AllZip S ys zs → AllZip T xs zs
zip_then R S T then [] [] [] p q = tt
zip_then R S T then [] [] (z ∷ zs) p q = absurd q
zip_then R S T then [] (y ∷ ys) zs p q = absurd p
zip_then R S T then (x ∷ xs) [] zs p q = absurd p
zip_then R S T then (x ∷ xs) (y ∷ ys) [] p q = absurd q
zip_then R S T then (x ∷ xs) (y ∷ ys) (z ∷ zs) p q = (then x y z p.0 q.0, zip_then R S T then xs ys zs p.1 q.1)

pub zip_all : {A B : Type 0} (R : A → B → Type 0) (P : B → Type 0) → ((a : A) (b : B) → R a b → P b) → (xs : List A) (ys : List B) → AllZip R xs ys → All P ys
zip_all R P then [] [] zip = All-nil P
zip_all R P then [] (y ∷ ys) zip = absurd zip
zip_all R P then (x ∷ xs) [] zip = absurd zip
zip_all R P then (x ∷ xs) (y ∷ ys) zip = All-cons P y ys (then x y zip.0) (zip_all R P then xs ys zip.1)

pub zip_same : {A B C : Type 0} (R : A → B → Type 0) (f : A → C) (g : B → C) → ((a : A) (b : B) → R a b → g b ≡ f a) → (xs : List A) (ys : List B) → AllZip R xs ys → map g ys ≡ map f xs
zip_same R f g then [] [] zip = refl
zip_same R f g then [] (y ∷ ys) zip = absurd zip
zip_same R f g then (x ∷ xs) [] zip = absurd zip
zip_same R f g then (x ∷ xs) (y ∷ ys) zip = ap (λ (c : _). c ∷ map g ys) (then x y zip.0) ∙ ap (λ (l : List _). f x ∷ l) (zip_same R f g then xs ys zip.1)

pub zip_flat : {A B C : Type 0} (R : A → B → Type 0) (f : A → List C) (g : B → List C) → ((a : A) (b : B) → R a b → g b ≡ f a) → (xs : List A) (ys : List B) → AllZip R xs ys → flat_map g ys ≡ flat_map f xs
zip_flat R f g then [] [] zip = refl
zip_flat R f g then [] (y ∷ ys) zip = absurd zip
zip_flat R f g then (x ∷ xs) [] zip = absurd zip
zip_flat R f g then (x ∷ xs) (y ∷ ys) zip = ap (λ (l : List _). l ++ flat_map g ys) (then x y zip.0) ∙ ap (λ (l : List _). f x ++ l) (zip_flat R f g then xs ys zip.1)

pub zip_many : {A B : Type 0} (R : A → B → Type 0) (xs : List A) (ys : List B) → AllZip R xs ys → length ys ≡ length xs
zip_many R [] [] zip = refl
zip_many R [] (y ∷ ys) zip = absurd zip
zip_many R (x ∷ xs) [] zip = absurd zip
zip_many R (x ∷ xs) (y ∷ ys) zip = ap suc (zip_many R xs ys zip.1)

pub turned_all : {A : Type 0} (P : A → Type 0) (xs : List A) → All P xs → All P (reverse xs)
turned_all P [] all = All-nil P
turned_all P (x ∷ xs) all = All-same P (reverse (x ∷ xs)) (reverse xs ++ x ∷ []) (turned_cons x xs) (All-push P (reverse xs) x (turned_all P xs (All-tail P x xs all)) (All-head P x xs all))

pub all_turned : {A : Type 0} (P : A → Type 0) (xs : List A) → All P (reverse xs) → All P xs
all_turned P xs all = All-same P xs (reverse (reverse xs)) (sym (reverse-reverse xs)) (turned_all P (reverse xs) all)

all_flat : {A B : Type 0} (P : A → Type 0) (Q : B → Type 0) (f : A → List B) → ((a : A) → P a → All Q (f a)) → (xs : List A) → AllByRecursion P xs → All Q (flat_map f xs)
all_flat P Q f each [] all = All-nil Q
all_flat P Q f each (x ∷ xs) all = All-append Q (f x) (flat_map f xs) (each x all.0) (all_flat P Q f each xs all.1)

pub all_in_flat : {A B : Type 0} (P : A → Type 0) (Q : B → Type 0) (f : A → List B) → ((a : A) → P a → All Q (f a)) → (xs : List A) → All P xs → All Q (flat_map f xs)
all_in_flat P Q f each xs all = all_flat P Q f each xs (recursion_from_All P xs all)

pub all_unmap : {A B : Type 0} (P : B → Type 0) (f : A → B) (xs : List A) → All P (map f xs) → All (λ x. P (f x)) xs
all_unmap P f [] all = All-nil (λ x. P (f x))
all_unmap P f (x ∷ xs) all = All-cons (λ x. P (f x)) x xs (All-head P (f x) (map f xs) all) (all_unmap P f xs (All-tail P (f x) (map f xs) all))

pub no_map : {A B : Type 0} (f : A → B) (xs : List A) → length (map f xs) ≡ 0 → xs ≡ []
no_map f [] is = refl
no_map f (x ∷ xs) is = absurd (omega (arith, is))

-- The run is one of the plan's valid ones.
pub run_in : (plan : Plan) (run : RunPlan) → IsRunOf plan run → IsRun plan.stores run
run_in plan run of =
    subst (IsRun plan.stores) (get_or_from_slice_get plan.runs of.number.0 run run of.number.1) (of.valid.runs of.number.0 run (slice_get_within plan.runs of.number.0 run of.number.1))

not_none : {A : Type 0} (xs : List A) (x : A) → Contains xs x → 1 ≤ length xs
not_none xs x is = let below : is.0 < length xs = is.1 in omega (arith, below)

-- A run has workers.
pub some_workers : (plan : Plan) (run : RunPlan) → IsRunOf plan run → IsFrom 1 512 (length run.workers)
some_workers plan run of =
    let is = run_in plan run of in
    let share = get_or run.shares 0 (record { store = 0; xfersize = 0; rdpct = 0; seekpct = 0; weight = 0; workload = [] }) in
    let some = not_none (map (λ (worker : WorkerPlan). worker.store) run.workers) _ (is.worked 0 share is.some_share) in
    record { at_least = omega (arith, some, length-map run.workers (λ (worker : WorkerPlan). worker.store)); at_most = is.few_workers }

-- A store that is one of the workers' has some.
some_with : (store : ℕ) (worker : WorkerPlan) (workers : List WorkerPlan) (b : Bool) → (b || list_any (λ worker. worker.store == store) workers) ≡ true → (list_any (λ worker. worker.store == store) workers ≡ true → 0 < length (workers_at store workers)) → 0 < length (cond b (worker ∷ workers_at store workers) (workers_at store workers))
some_with store worker workers true is rest = omega arith
some_with store worker workers false is rest = rest is

some_at : (store : ℕ) (workers : List WorkerPlan) → list_any (λ worker. worker.store == store) workers ≡ true → 0 < length (workers_at store workers)
some_at store [] is = cc
some_at store (worker ∷ workers) is = some_with store worker workers (worker.store == store) is (some_at store workers)

pub hands_in : {P B : Type 0} (pass_seen : P → PassSeen) (book_seen : B → BookSeen) (plan : Plan) (run : RunPlan) (hands : List (StoreHand P B)) → AreHands pass_seen book_seen plan run hands → All (IsHandIn pass_seen book_seen plan run) hands
hands_in pass_seen book_seen plan run hands are =
    let Has = (λ (store : ℕ). list_any (λ worker. worker.store == store) run.workers ≡ true) in
    let all = all_unmap Has (λ (hand : StoreHand _ _). hand.store) hands (All-same Has (map (λ (hand : StoreHand _ _). hand.store) hands) (stores_in plan run) are.places (filter_passes (λ store. list_any (λ worker. worker.store == store) run.workers) _)) in
    λ k d within. record { its = are.each k d within; some = some_at (get_or hands k d).store run.workers (all k d within) }

-- The workers of the hands' stores are all workers of the run.
pub hands_workers : {P B : Type 0} (pass_seen : P → PassSeen) (book_seen : B → BookSeen) (plan : Plan) (run : RunPlan) (hands : List (StoreHand P B)) → IsRunOf plan run → AreHands pass_seen book_seen plan run hands → flat_map (workers_in run) (map (λ (hand : StoreHand P B). hand.store) hands) ≡ run.workers
hands_workers pass_seen book_seen plan run hands of are = ap (flat_map (workers_in run)) are.places ∙ all_workers plan run (run_in plan run of)

-- Hands that came back as they were are as many.
pub same_many : {P B : Type 0} (pass_seen : P → PassSeen) (book_seen : B → BookSeen) (hands backs : List (StoreHand P B)) → AreSameHands pass_seen book_seen hands backs → length backs ≡ length hands
same_many pass_seen book_seen hands backs same = sym (length-map backs (hand_seen pass_seen book_seen)) ∙ ap length same ∙ length-map hands (hand_seen pass_seen book_seen)

-- the paths of a hand's workers
abbrev pub hand_paths : {P B : Type 0} → Plan → RunPlan → StoreHand P B → List (List ℕ)
hand_paths plan run hand = map (λ (worker : WorkerPlan). path_of (slice_get plan.stores hand.store)) (workers_in run hand.store)

flat_stores : {P B : Type 0} (run : RunPlan) (hands : List (StoreHand P B)) → flat_map (λ (hand : StoreHand P B). workers_in run hand.store) hands ≡ flat_map (workers_in run) (map (λ (hand : StoreHand P B). hand.store) hands)
flat_stores run [] = refl
flat_stores run (hand ∷ hands) = ap (λ (l : List WorkerPlan). workers_in run hand.store ++ l) (flat_stores run hands)

module _ {P B A C : Type 0} (pass_seen : P → PassSeen) (book_seen : B → BookSeen) (plan : Plan) (run : RunPlan) where
  abbrev pub CrewOf : StoreHand P B → Crew P B A C → Type 0
  CrewOf hand crew = OfStore plan hand.store (λ (store : StorePlan). IsCrewOf pass_seen book_seen run store hand crew)

  crew_many : (hand : StoreHand P B) (crew : Crew P B A C) → CrewOf hand crew → length crew.posts.items ≡ length (workers_in run hand.store)
  crew_many hand crew (store, at, is) = sym (length-map crew.posts.items (λ (post : Post P A C). post.worker)) ∙ ap length is.workers

  paths_many : (path : List ℕ) (posts : List (Post P A C)) (workers : List WorkerPlan) → length posts ≡ length workers → paths_at path posts ≡ map (λ (worker : WorkerPlan). path) workers
  paths_many path [] [] same = refl
  paths_many path [] (worker ∷ workers) same = absurd (omega (arith, same))
  paths_many path (post ∷ posts) [] same = absurd (omega (arith, same))
  paths_many path (post ∷ posts) (worker ∷ workers) same = ap (λ (l : List (List ℕ)). path ∷ l) (paths_many path posts workers (omega (arith, same)))

  crew_paths : (hand : StoreHand P B) (crew : Crew P B A C) → CrewOf hand crew → paths_at (path_at plan crew) crew.posts.items ≡ hand_paths plan run hand
  crew_paths hand crew (store, at, is) =
      ap (λ (n : ℕ). paths_at (path_of (slice_get plan.stores n)) crew.posts.items) is.place
      ∙ paths_many (path_of (slice_get plan.stores hand.store)) crew.posts.items (workers_in run hand.store) (crew_many hand crew (store, at, is))

  crew_workers : (hand : StoreHand P B) (crew : Crew P B A C) → CrewOf hand crew → map (λ (post : Post P A C). post.worker) crew.posts.items ≡ workers_in run hand.store
  crew_workers hand crew (store, at, is) = is.workers

  crew_place : (hand : StoreHand P B) (crew : Crew P B A C) → CrewOf hand crew → crew.place < length plan.stores
  crew_place hand crew (store, at, is) = subst (λ (n : ℕ). n < length plan.stores) (sym is.place) (slice_get_within plan.stores hand.store store at)

  module _ (hands : List (StoreHand P B)) (crews : List (Crew P B A C)) (are : AllZip CrewOf hands crews) where
    -- The paths of crews are those of their hands, and so are their places the plan's and their workers the run's.
    pub hands_paths : all_paths plan crews ≡ flat_map (hand_paths plan run) hands
    hands_paths = zip_flat CrewOf (hand_paths plan run) (λ (crew : Crew P B A C). paths_at (path_at plan crew) crew.posts.items) crew_paths hands crews are

    pub places_within : All (λ (crew : Crew P B A C). crew.place < length plan.stores) crews
    places_within = zip_all CrewOf (λ (crew : Crew P B A C). crew.place < length plan.stores) crew_place hands crews are

  workers_flat : (crews : List (Crew P B A C)) → map (λ (post : Post P A C). post.worker) (posts_of crews) ≡ flat_map (λ (crew : Crew P B A C). map (λ (post : Post P A C). post.worker) crew.posts.items) crews
  workers_flat [] = refl
  workers_flat (crew ∷ crews) = map-append (λ (post : Post P A C). post.worker) crew.posts.items (posts_of crews) ∙ ap (λ (l : List WorkerPlan). map (λ (post : Post P A C). post.worker) crew.posts.items ++ l) (workers_flat crews)

  pub crews_workers : (hands : List (StoreHand P B)) (crews : List (Crew P B A C)) → AllZip CrewOf hands crews → map (λ (post : Post P A C). post.worker) (posts_of crews) ≡ flat_map (workers_in run) (map (λ (hand : StoreHand P B). hand.store) hands)
  crews_workers hands crews are = workers_flat crews ∙ zip_flat CrewOf (λ (hand : StoreHand P B). workers_in run hand.store) (λ (crew : Crew P B A C). map (λ (post : Post P A C). post.worker) crew.posts.items) crew_workers hands crews are ∙ flat_stores run hands

  crew_seats : (store : StorePlan) (hand : StoreHand P B) (crew : Crew P B A C) → IsCrewOf pass_seen book_seen run store hand crew → (made_in pass_seen book_seen crew.table).seats ≡ length crew.posts.items
  crew_seats store hand crew is = ap (λ (m : Made). m.seats) is.made

  -- A crew's table was made over its hand.
  pub crew_over : (store : StorePlan) (hand : StoreHand P B) (crew : Crew P B A C) → IsCrewOf pass_seen book_seen run store hand crew → IsOver pass_seen book_seen store hand crew
  crew_over store hand crew is = record { place = is.place; seats = length crew.posts.items; made = is.made; are_passes = is.are_passes }

  module _ (arm_seen : A → ArmSeen) (word : ErrorWord) (tells : Tells) where
    abbrev pub MannedOf : StoreHand P B → Crew P B A C → Type 0
    MannedOf hand crew = OfStore plan hand.store (λ (store : StorePlan). IsManned pass_seen book_seen arm_seen plan run word tells store hand crew)

    manned_crew : (hand : StoreHand P B) (crew : Crew P B A C) → MannedOf hand crew → CrewOf hand crew
    manned_crew hand crew (store, at, is) = (store, at, is.is_crew)

    pub manned_crews : (hands : List (StoreHand P B)) (crews : List (Crew P B A C)) → AllZip MannedOf hands crews → AllZip CrewOf hands crews
    manned_crews [] [] are = tt
    manned_crews [] (crew ∷ crews) are = absurd are
    manned_crews (hand ∷ hands) [] are = absurd are
    manned_crews (hand ∷ hands) (crew ∷ crews) are = (manned_crew hand crew are.0, manned_crews hands crews are.1)

    manned_dismiss : (hand : StoreHand P B) (crew : Crew P B A C) → MannedOf hand crew → CanDismiss pass_seen book_seen crew
    manned_dismiss hand crew (store, at, is) =
        let none = ap length is.is_crew.none in
        record {
          room = omega (arith, none, is.is_crew.room);
          spare = subst (λ (l : List _). All (IsNew pass_seen book_seen crew.table) l) (sym is.is_crew.none) (All-nil (IsNew pass_seen book_seen crew.table));
          posts = All-weaker (IsReady pass_seen book_seen arm_seen plan run hand.store store.id (tells.sure AtArm store.path) word crew.table) (λ (post : Post P A C). IsNew pass_seen book_seen crew.table post.seat) (λ post ready. ready.seat) crew.posts.items is.ready;
          all = omega (arith, crew_seats store hand crew is.is_crew, none);
          some = omega (arith, is.is_crew.some);
        }

    -- Crews that are manned can be undone, and can work.
    pub can_dismiss : (hands : List (StoreHand P B)) (crews : List (Crew P B A C)) → AllZip MannedOf hands (reverse crews) → All (CanDismiss pass_seen book_seen) crews
    can_dismiss hands crews are = all_turned (CanDismiss pass_seen book_seen) crews (zip_all MannedOf (CanDismiss pass_seen book_seen) manned_dismiss hands (reverse crews) are)

    pub can_work : (hands : List (StoreHand P B)) (crews : List (Crew P B A C)) → AllZip MannedOf hands (reverse crews) → All (CanWork pass_seen book_seen arm_seen plan run word) crews
    can_work hands crews are = all_turned (CanWork pass_seen book_seen arm_seen plan run word) crews (zip_all MannedOf (CanWork pass_seen book_seen arm_seen plan run word) (λ hand crew is. (tells, hand, is)) hands (reverse crews) are)

    module _ (clock_seen : C → ClockSeen) (start : ℕ) (clock : ClockSeen) where
      abbrev pub EndedOf : StoreHand P B → Crew P B A C → Type 0
      EndedOf hand crew = OfStore plan hand.store (λ (store : StorePlan). HasEnded pass_seen book_seen arm_seen plan run word tells clock_seen start clock store hand crew)

      end_crew : (hand : StoreHand P B) (before after : Crew P B A C) → MannedOf hand before → Works pass_seen book_seen arm_seen plan run word clock_seen start clock before after → EndedOf hand after
      end_crew hand before after (store, at, is) works = (store, at, works tells store hand at is)

      -- After their work they have ended.
      pub end_crews : (hands : List (StoreHand P B)) (before after : List (Crew P B A C)) → AllZip MannedOf hands (reverse before) → AllZip (Works pass_seen book_seen arm_seen plan run word clock_seen start clock) before after → AllZip EndedOf hands (reverse after)
      end_crews hands before after are works =
          zip_then MannedOf (Works pass_seen book_seen arm_seen plan run word clock_seen start clock) EndedOf end_crew hands (reverse before) (reverse after) are
          (zip_turned (Works pass_seen book_seen arm_seen plan run word clock_seen start clock) before after works)

      ended_crew : (hand : StoreHand P B) (crew : Crew P B A C) → EndedOf hand crew → CrewOf hand crew
      ended_crew hand crew (store, at, is) = (store, at, is.is_crew)

      pub ended_crews : (hands : List (StoreHand P B)) (crews : List (Crew P B A C)) → AllZip EndedOf hands crews → AllZip CrewOf hands crews
      ended_crews [] [] are = tt
      ended_crews [] (crew ∷ crews) are = absurd are
      ended_crews (hand ∷ hands) [] are = absurd are
      ended_crews (hand ∷ hands) (crew ∷ crews) are = (ended_crew hand crew are.0, ended_crews hands crews are.1)

      ended_close : (hand : StoreHand P B) (crew : Crew P B A C) → EndedOf hand crew → CanClose pass_seen book_seen crew
      ended_close hand crew (store, at, is) = record {
        none = is.is_crew.none;
        room = is.is_crew.room;
        rests = λ k d within. record { idle = (is.done k d within).seat; parts = (is.done k d within).parts };
        all = crew_seats store hand crew is.is_crew;
      }

      pub can_close : (hands : List (StoreHand P B)) (crews : List (Crew P B A C)) → AllZip EndedOf hands (reverse crews) → All (CanClose pass_seen book_seen) crews
      can_close hands crews are = all_turned (CanClose pass_seen book_seen) crews (zip_all EndedOf (CanClose pass_seen book_seen) ended_close hands (reverse crews) are)
