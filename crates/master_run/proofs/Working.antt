-- What the workers of a crew need of it, and what their work comes to.
use Rattle.std.proofs.Common.{◌≡◌, ◌∙◌, refl, sym, ap, subst, arith, get_or-set_other, get_or-set_same, inl, inr, set, ℕ, suc, ◌+◌, ◌<◌, ◌≤◌, All, List, [], ◌∷◌, get_or, length, map, Option, Some, slice_get}
use Rattle.std.specs.List.{AllByRecursion, AllZip}
use Rattle.std.specs.Vec.{vec_capacity}
use Rattle.std.proofs.lemmas.Bool.{cases_eq}
use Rattle.std.proofs.lemmas.List.{get_or_default}
use Rattle.std.proofs.lemmas.List.Elements.{All-cons, All-nil, recursion_from_All}
use Rattle.std.proofs.lemmas.Option.{same_Some, slice_get_within}
use Rattle.vd_outside.specs.Clocks.{ClockSeen}
use Rattle.vd_arm.specs.Arm.{ArmSeen, PassSeen}
use Rattle.plan_types.specs.declared.plan.Plan.{Plan}
use Rattle.plan_types.specs.declared.run.RunPlan.{RunPlan}
use Rattle.plan_types.specs.declared.store.StorePlan.{StorePlan}
use Rattle.vd_yard.specs.Out.{AtArm}
use Rattle.vd_yard.specs.Yard.{Tells}
use Rattle.key_state.specs.declared.seen.BookSeen.{BookSeen}
use Rattle.claim_table.specs.Openings.{made_with}
use Rattle.claim_table.specs.Seats.{made_in}
use Rattle.claim_table.specs.declared.table.ClaimTable.{ClaimTable}
use Rattle.claim_table.specs.declared.view.Made.{Made}
use Rattle.error_limit.specs.declared.word.ErrorWord.{ErrorWord}
use Rattle.slave_worker.specs.declared.hand.StoreHand.{StoreHand}
use Rattle.slave_worker.specs.Hands.{IsRunOf}
use Rattle.master_run.specs.Labors.{DidWork}
use Rattle.master_run.specs.Posts.{AllClocks, CanWork, HasEnded, IsDone, IsManned, IsReady, StaysManned, Works, labor_of}
use Rattle.master_run.specs.Starts.{CanStart, HasDone}
use Rattle.master_run.specs.Yards.{fresh_arm}
use Rattle.master_run.specs.declared.crew.Crew.{Crew}
use Rattle.master_run.specs.declared.post.Post.{Post}
use Rattle.master_run.proofs.Ending.{zip_then}

-- What is true of the elements at each place is true of both lists.
pub zip_of : {A : Type 0} (R : A → A → Type 0) (xs ys : List A) → length ys ≡ length xs → ((k : ℕ) (d : A) → k < length xs → R (get_or xs k d) (get_or ys k d)) → AllZip R xs ys
zip_of R [] [] same each = tt
zip_of R [] (y ∷ ys) same each = absurd (omega (arith, same))
zip_of R (x ∷ xs) [] same each = absurd (omega (arith, same))
zip_of R (x ∷ xs) (y ∷ ys) same each = (each 0 x (omega arith), zip_of R xs ys (omega (arith, same)) (λ k d below. each (suc k) d (omega (arith, below))))

-- One element more was changed, and those behind it stay.
pub set_more : {A : Type 0} (R : A → A → Type 0) (first now : List A) (i : ℕ) (e new : A) → i < length now → R (get_or now i e) new → ((k : ℕ) (d : A) → k < i → R (get_or first k d) (get_or now k d)) → ((k : ℕ) (d : A) → i ≤ k → get_or now k d ≡ get_or first k d)
    → ((k : ℕ) (d : A) → k < i + 1 → R (get_or first k d) (get_or (set now i new) k d)) × ((k : ℕ) (d : A) → i + 1 ≤ k → get_or (set now i new) k d ≡ get_or first k d)
set_more R first now i e new within changed done rest = (
  (λ k d below. elim (cases_eq k i) [
    | inl same ↦
        subst (λ (n : ℕ). R (get_or first n d) (get_or (set now i new) n d)) (sym same)
        (subst (λ (a : _). R (get_or first i d) a) (sym (get_or-set_same now i new d within))
        (subst (λ (a : _). R a new) (get_or_default now i e d within ∙ rest i d (omega arith)) changed))
    | inr apart ↦ subst (λ (a : _). R (get_or first k d) a) (sym (get_or-set_other now i k new d apart)) (done k d (omega (arith, below, apart)))
  ]),
  (λ k d past. get_or-set_other now i k new d (λ same. omega (arith, past, same)) ∙ rest k d (omega (arith, past))),
)

pub zip_map : {A B : Type 0} (f : A → B) (xs ys : List A) → AllZip (λ x y. f y ≡ f x) xs ys → map f ys ≡ map f xs
zip_map f [] [] zip = refl
zip_map f [] (y ∷ ys) zip = absurd zip
zip_map f (x ∷ xs) [] zip = absurd zip
zip_map f (x ∷ xs) (y ∷ ys) zip = ap (λ (a : _). a ∷ map f ys) zip.0 ∙ ap (λ (l : List _). f x ∷ l) (zip_map f xs ys zip.1)

store_same : (o : Option StorePlan) (a b : StorePlan) → o ≡ Some a → o ≡ Some b → a ≡ b
store_same o a b is other = same_Some a b (sym is ∙ other)

module _ {P B A C : Type 0} (pass_seen : P → PassSeen) (book_seen : B → BookSeen) (arm_seen : A → ArmSeen) (plan : Plan) (run : RunPlan) (word : ErrorWord) where
  -- The crew's store is one of the plan's.
  pub place_within : (crew : Crew P B A C) → CanWork pass_seen book_seen arm_seen plan run word crew → crew.place < length plan.stores
  place_within crew (tells, hand, (store, at, manned)) = subst (λ (n : ℕ). n < length plan.stores) (sym manned.is_crew.place) (slice_get_within plan.stores hand.store store at)

  can_start : (place : ℕ) (store : StorePlan) (tells : Tells) (table : ClaimTable P B) (post : Post P A C) → IsRunOf plan run → slice_get plan.stores place ≡ Some store → (made_in pass_seen book_seen table).store ≡ store.id → IsReady pass_seen book_seen arm_seen plan run place store.id (tells.sure AtArm store.path) word table post → CanStart pass_seen book_seen arm_seen plan run store.id word table post
  can_start place store tells table post of at made ready = record {
    of = record {
      valid = of.valid;
      run_number = of.number;
      worker_number = ready.worker;
      its_store = (store, ap (slice_get plan.stores) ready.at_place ∙ at, refl);
    };
    its_table = made;
    ready = record {
      worker = ready.worker;
      at_place = refl;
      seat = ready.seat;
      error_seat = ready.error_seat;
      arm = ready.arm ∙ ap (λ (a : ArmSeen). fresh_arm a.sure) (sym ready.arm);
      draw = ready.draw;
      tally = ready.tally;
      rows = ready.rows;
      findings = ready.findings;
      bytes = ready.bytes;
      room = ready.room;
    };
  }

  -- Each worker of a manned crew can start.
  pub starts : (crew : Crew P B A C) (store : StorePlan) → IsRunOf plan run → slice_get plan.stores crew.place ≡ Some store → CanWork pass_seen book_seen arm_seen plan run word crew → All (CanStart pass_seen book_seen arm_seen plan run store.id word crew.table) crew.posts.items
  starts crew store of here (tells, hand, (found, at, manned)) =
      let at_place : slice_get plan.stores hand.store ≡ Some store = ap (slice_get plan.stores) (sym manned.is_crew.place) ∙ here in
      let Ready = (λ (s : StorePlan). All (IsReady pass_seen book_seen arm_seen plan run hand.store s.id (tells.sure AtArm s.path) word crew.table) crew.posts.items) in
      let same : found ≡ store = store_same (slice_get plan.stores hand.store) found store at at_place in
      let ready = subst Ready same manned.ready in
      let made : (made_in pass_seen book_seen crew.table).store ≡ store.id = ap (λ (m : Made). m.store) manned.is_crew.made ∙ ap (λ (s : StorePlan). s.id) same in
      λ k d within. can_start hand.store store tells crew.table (get_or crew.posts.items k d) of at_place made (ready k d within)

  module _ (clock_seen : C → ClockSeen) (start : ℕ) (clock : ClockSeen) where
    did_as : (place : ℕ) (store : StorePlan) (sure : _) (table : ClaimTable P B) (before after : Post P A C) → arm_seen before.arm ≡ fresh_arm sure → clock_seen before.clock ≡ clock → HasDone pass_seen book_seen arm_seen plan run store.id word table clock_seen start before after → DidWork plan run store.id start clock (made_in pass_seen book_seen table) sure (labor_of arm_seen clock_seen after)
    did_as place store sure table before after fresh is done =
        subst (λ (b : _). DidWork plan run store.id start clock (made_in pass_seen book_seen table) b (labor_of arm_seen clock_seen after)) (ap (λ (a : ArmSeen). a.sure) fresh)
        (subst (λ (t : ClockSeen). DidWork plan run store.id start t (made_in pass_seen book_seen table) (arm_seen before.arm).sure (labor_of arm_seen clock_seen after)) is done.did)

    -- Once each worker's work is done the crew's has ended.
    pub ended : (before after : Crew P B A C) (tells : Tells) (store : StorePlan) (hand : StoreHand P B) → after.place ≡ before.place → after.table ≡ before.table → after.spare ≡ before.spare → length after.posts.items ≡ length before.posts.items
        → ((k : ℕ) (d : Post P A C) → k < length before.posts.items → HasDone pass_seen book_seen arm_seen plan run store.id word before.table clock_seen start (get_or before.posts.items k d) (get_or after.posts.items k d))
        → AllClocks clock_seen clock before → IsManned pass_seen book_seen arm_seen plan run word tells store hand before → HasEnded pass_seen book_seen arm_seen plan run word tells clock_seen start clock store hand after
    ended before after tells store hand place table spare same each clocks manned =
        let many = λ (k : ℕ) (below : k < length after.posts.items). subst (λ (n : ℕ). k < n) same below in
        let is = manned.is_crew in
        record {
          is_crew = record {
            place = place ∙ is.place;
            are_passes = is.are_passes;
            made = ap (made_in pass_seen book_seen) table ∙ is.made ∙ ap (λ (n : ℕ). made_with pass_seen book_seen store.id n hand.passes.items hand.book) (sym same);
            workers = zip_map (λ (post : Post P A C). post.worker) before.posts.items after.posts.items (zip_of (λ (old new : Post P A C). new.worker ≡ old.worker) before.posts.items after.posts.items same (λ k d below. (each k d below).worker)) ∙ is.workers;
            none = ap (λ (v : _). v.items) spare ∙ is.none;
            room = subst (λ (n : ℕ). n ≤ vec_capacity after.spare) (sym same) (subst (λ (v : _). length before.posts.items ≤ vec_capacity v) (sym spare) is.room);
            some = subst (λ (n : ℕ). 0 < n) (sym same) is.some;
          };
          done = λ k d below.
              subst (λ (n : ℕ). IsDone n word after.table (get_or after.posts.items k d)) (manned.ready k d (many k below)).at_place
              (subst (λ (t : ClaimTable P B). IsDone (get_or before.posts.items k d).worker.store word t (get_or after.posts.items k d)) (sym table) (each k d (many k below)).done);
          did = λ k d below.
              subst (λ (t : ClaimTable P B). DidWork plan run store.id start clock (made_in pass_seen book_seen t) (tells.sure AtArm store.path) (labor_of arm_seen clock_seen (get_or after.posts.items k d))) (sym table)
              (did_as hand.store store (tells.sure AtArm store.path) before.table (get_or before.posts.items k d) (get_or after.posts.items k d) (manned.ready k d (many k below)).arm (clocks k d (many k below)) (each k d (many k below)));
        }

-- What is true of the elements of one list carries over to those that are paired with them.
zip_carry : {A : Type 0} (R : A → A → Type 0) (P : A → Type 0) → ((a b : A) → R a b → P a → P b) → (xs ys : List A) → AllByRecursion P xs → AllZip R xs ys → All P ys
zip_carry R P then [] [] all zip = All-nil P
zip_carry R P then [] (y ∷ ys) all zip = absurd zip
zip_carry R P then (x ∷ xs) [] all zip = absurd zip
zip_carry R P then (x ∷ xs) (y ∷ ys) all zip = All-cons P y ys (then x y zip.0 all.0) (zip_carry R P then xs ys all.1 zip.1)

module _ {P B A C : Type 0} (pass_seen : P → PassSeen) (book_seen : B → BookSeen) (arm_seen : A → ArmSeen) (plan : Plan) (run : RunPlan) (word : ErrorWord) (clock_seen : C → ClockSeen) (start : ℕ) (clock : ClockSeen) where
  -- The clocks of a crew were set.
  abbrev pub WasSet : Crew P B A C → Crew P B A C → Type 0
  WasSet before after = AllClocks clock_seen clock after × StaysManned pass_seen book_seen arm_seen before after

  abbrev pub HasWorked : Crew P B A C → Crew P B A C → Type 0
  HasWorked before after = (clock : ClockSeen) → AllClocks clock_seen clock before → Works pass_seen book_seen arm_seen plan run word clock_seen start clock before after

  set_can : (before after : Crew P B A C) → WasSet before after → CanWork pass_seen book_seen arm_seen plan run word before → CanWork pass_seen book_seen arm_seen plan run word after
  set_can before after set (tells, hand, (store, at, manned)) = (tells, hand, (store, at, set.1 plan run word tells store hand manned))

  pub all_can : (before after : List (Crew P B A C)) → All (CanWork pass_seen book_seen arm_seen plan run word) before → AllZip WasSet before after → All (CanWork pass_seen book_seen arm_seen plan run word) after
  all_can before after can set = zip_carry WasSet (CanWork pass_seen book_seen arm_seen plan run word) set_can before after (recursion_from_All (CanWork pass_seen book_seen arm_seen plan run word) before can) set

  set_works : (before middle after : Crew P B A C) → WasSet before middle → HasWorked middle after → Works pass_seen book_seen arm_seen plan run word clock_seen start clock before after
  set_works before middle after set worked = λ tells store hand at manned. worked clock set.0 tells store hand at (set.1 plan run word tells store hand manned)

  pub all_work : (before middle after : List (Crew P B A C)) → AllZip WasSet before middle → AllZip HasWorked middle after → AllZip (Works pass_seen book_seen arm_seen plan run word clock_seen start clock) before after
  all_work before middle after set worked = zip_then WasSet HasWorked (Works pass_seen book_seen arm_seen plan run word clock_seen start clock) set_works before middle after set worked
