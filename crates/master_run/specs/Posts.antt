-- A worker before and after its work, and a store with its workers.
use Rattle.std.specs.Prelude.{◌≡◌, ℕ, ◌+◌, ◌^◌, ◌<◌, ◌≤◌, All, Bool, List, [], ◌++◌, length, map, Some, slice_get}
use Rattle.std.specs.List.{AllZip, flat_map}
use Rattle.std.specs.Vec.{vec_capacity}
use Rattle.vd_base.specs.declared.geometry.StoreId.{StoreId}
use Rattle.vd_outside.specs.Clocks.{ClockSeen}
use Rattle.vd_arm.specs.Arm.{ArmSeen, PassSeen}
use Rattle.plan_types.specs.declared.plan.Plan.{Plan}
use Rattle.plan_types.specs.declared.run.RunPlan.{RunPlan}
use Rattle.plan_types.specs.declared.store.StorePlan.{StorePlan}
use Rattle.vd_yard.specs.Out.{AtArm}
use Rattle.vd_yard.specs.Yard.{Tells}
use Rattle.key_state.specs.declared.seen.BookSeen.{BookSeen}
use Rattle.claim_table.specs.Closings.{Returned}
use Rattle.claim_table.specs.Openings.{made_with}
use Rattle.claim_table.specs.Passes.{ArePasses}
use Rattle.claim_table.specs.Seats.{IsIdle, IsNew, made_in, view_of}
use Rattle.claim_table.specs.Views.{parts}
use Rattle.claim_table.specs.declared.table.ClaimSeat.{ClaimSeat}
use Rattle.claim_table.specs.declared.table.ClaimTable.{ClaimTable}
use Rattle.claim_table.specs.declared.run.Run.{Run}
use Rattle.error_limit.specs.Seats.{IsNew as IsNewErrorSeat, IsSeatOf as IsErrorSeatOf, answers_of, notes_of}
use Rattle.error_limit.specs.declared.word.ErrorWord.{ErrorWord}
use Rattle.workload_gen.specs.Task.{task_of}
use Rattle.slave_worker.specs.declared.hand.StoreHand.{StoreHand}
use Rattle.slave_worker.specs.Ends.{HasBytes, rules_of}
use Rattle.slave_worker.specs.Standings.{AreIntervals}
use Rattle.master_run.specs.Crews.{path_of}
use Rattle.slave_worker.specs.Hands.{OfStore, hand_seen, workers_in}
use Rattle.master_run.specs.Labors.{DidWork, IsEmptyTally, Labor}
use Rattle.master_run.specs.Yards.{fresh_arm}
use Rattle.master_run.specs.declared.crew.Crew.{Crew}
use Rattle.master_run.specs.declared.crew.Left.{Left}
use Rattle.master_run.specs.declared.post.Post.{Post}

-- what a worker did, as it stands after its work
abbrev pub labor_of : {P A C : Type 0} → (A → ArmSeen) → (C → ClockSeen) → Post P A C → Labor
labor_of arm_seen clock_seen post = record {
  worker = post.worker;
  view = view_of post.seat;
  tally = post.tally;
  arm = arm_seen post.arm;
  notes = notes_of post.error_seat;
  answers = answers_of post.error_seat;
  clock = clock_seen post.clock;
  end = post.end;
}

-- The worker of this store has all that it needs, unused.
pub record IsReady {P B A C : Type 0} (pass_seen : P → PassSeen) (book_seen : B → BookSeen) (arm_seen : A → ArmSeen) (plan : Plan) (run : RunPlan) (place : ℕ) (store : StoreId) (sure : Bool) (word : ErrorWord) (table : ClaimTable P B) (post : Post P A C) : Type 0 where
  pub worker : (i : ℕ) × (slice_get run.workers i ≡ Some post.worker)
  pub at_place : post.worker.store ≡ place
  pub seat : IsNew pass_seen book_seen table post.seat
  pub error_seat : IsNewErrorSeat word post.error_seat
  pub arm : arm_seen post.arm ≡ fresh_arm sure
  pub draw : post.draw ≡ record { task = task_of run post.worker store.geometry; turns = 0 }
  pub tally : IsEmptyTally post.tally
  pub rows : AreIntervals (rules_of plan run post.worker 0).intervals post.tally
  pub findings : plan.data_errors + 64 ≤ post.tally.finding_room
  pub bytes : HasBytes run post.worker (length post.buf.items)
  pub room : (room : Run P) × (post.room ≡ Some room) × (room.entries.items ≡ [])

-- The worker is done: its seats are idle ones of the table and of the word.
pub record IsDone {P B A C : Type 0} (place : ℕ) (word : ErrorWord) (table : ClaimTable P B) (post : Post P A C) : Type 0 where
  pub at_place : post.worker.store ≡ place
  pub seat : IsIdle table post.seat
  pub parts : parts (view_of post.seat) ≡ 2 ^ 32
  pub error_seat : IsErrorSeatOf word post.error_seat

-- There is room for what is left of so many workers more.
pub record HasRoom (left : Left) (many : ℕ) : Type 0 where
  pub error_seats : length left.error_seats.items + many ≤ vec_capacity left.error_seats
  pub tallies : length left.tallies.items + many ≤ vec_capacity left.tallies
  pub ends : length left.ends.items + many ≤ vec_capacity left.ends

-- What is left of these workers was added, worker by worker.
pub record HasLeft {P A C : Type 0} (old : Left) (posts : List (Post P A C)) (new : Left) : Type 0 where
  pub error_seats : new.error_seats.items ≡ old.error_seats.items ++ map (λ (post : Post P A C). post.error_seat) posts
  pub tallies : new.tallies.items ≡ old.tallies.items ++ map (λ (post : Post P A C). post.tally) posts
  pub ends : new.ends.items ≡ old.ends.items ++ map (λ (post : Post P A C). post.end) posts
  pub error_seat_room : vec_capacity new.error_seats ≡ vec_capacity old.error_seats
  pub tally_room : vec_capacity new.tallies ≡ vec_capacity old.tallies
  pub end_room : vec_capacity new.ends ≡ vec_capacity old.ends

-- The seat rests, with the parts of one seat.
pub record Rests {P B : Type 0} (table : ClaimTable P B) (seat : ClaimSeat) : Type 0 where
  pub idle : IsIdle table seat
  pub parts : parts (view_of seat) ≡ 2 ^ 32

module _ {P B A C : Type 0} (pass_seen : P → PassSeen) (book_seen : B → BookSeen) where
  -- The crew's table was made over this.
  pub record IsOver (store : StorePlan) (hand : StoreHand P B) (crew : Crew P B A C) : Type 0 where
    pub place : crew.place ≡ hand.store
    pub seats : ℕ
    pub made : made_in pass_seen book_seen crew.table ≡ made_with pass_seen book_seen store.id seats hand.passes.items hand.book
    pub are_passes : ArePasses store.id (map pass_seen hand.passes.items)

  -- All seats of the crew's table are its workers' or spare, and new.
  pub record CanDismiss (crew : Crew P B A C) : Type 0 where
    pub room : length crew.spare.items + length crew.posts.items ≤ vec_capacity crew.spare
    pub spare : All (IsNew pass_seen book_seen crew.table) crew.spare.items
    pub posts : All (λ (post : Post P A C). IsNew pass_seen book_seen crew.table post.seat) crew.posts.items
    pub all : (made_in pass_seen book_seen crew.table).seats ≡ length crew.spare.items + length crew.posts.items
    pub some : 0 < length crew.spare.items + length crew.posts.items

  -- All seats of the crew's table are its workers', and rest.
  pub record CanClose (crew : Crew P B A C) : Type 0 where
    pub none : crew.spare.items ≡ []
    pub room : length crew.posts.items ≤ vec_capacity crew.spare
    pub rests : All (λ (post : Post P A C). Rests crew.table post.seat) crew.posts.items
    pub all : (made_in pass_seen book_seen crew.table).seats ≡ length crew.posts.items

  -- The crew's store came back, with its workers' work.
  pub record Closed (crew : Crew P B A C) (back : StoreHand P B) : Type 0 where
    pub place : back.store ≡ crew.place
    pub returned : Returned (made_in pass_seen book_seen crew.table) (map (λ (post : Post P A C). view_of post.seat) crew.posts.items) (map pass_seen back.passes.items) (book_seen back.book)

  -- The crew of a store: the table over its passes and its book, and one worker for each of the plan's.
  pub record IsCrewOf (run : RunPlan) (store : StorePlan) (hand : StoreHand P B) (crew : Crew P B A C) : Type 0 where
    pub place : crew.place ≡ hand.store
    pub are_passes : ArePasses store.id (map pass_seen hand.passes.items)
    pub made : made_in pass_seen book_seen crew.table ≡ made_with pass_seen book_seen store.id (length crew.posts.items) hand.passes.items hand.book
    pub workers : map (λ (post : Post P A C). post.worker) crew.posts.items ≡ workers_in run hand.store
    pub none : crew.spare.items ≡ []
    pub room : length crew.posts.items ≤ vec_capacity crew.spare
    pub some : 0 < length crew.posts.items

  -- What undoing a crew gives back is the hand over which its table was made.
  abbrev pub IsUndone : Crew P B A C → StoreHand P B → Type 0
  IsUndone crew back = (store : StorePlan) (hand : StoreHand P B) → IsOver store hand crew → hand_seen pass_seen book_seen back ≡ hand_seen pass_seen book_seen hand

-- Workers were added to a crew, each with a spare seat and an arm, both new.
pub record HasMore {P B A C : Type 0} (pass_seen : P → PassSeen) (book_seen : B → BookSeen) (arm_seen : A → ArmSeen) (sure : Bool) (before after : Crew P B A C) (more : List (Post P A C)) : Type 0 where
  pub place : after.place ≡ before.place
  pub table : after.table ≡ before.table
  pub posts : after.posts.items ≡ before.posts.items ++ more
  pub spare : length before.spare.items ≡ length after.spare.items + length more
  pub spare_new : All (IsNew pass_seen book_seen before.table) after.spare.items
  pub new : All (λ (post : Post P A C). IsNew pass_seen book_seen before.table post.seat) more
  pub fresh : All (λ (post : Post P A C). arm_seen post.arm ≡ fresh_arm sure) more
  pub post_room : vec_capacity after.posts ≡ vec_capacity before.posts
  pub spare_room : vec_capacity after.spare ≡ vec_capacity before.spare

module _ {P B A C : Type 0} (pass_seen : P → PassSeen) (book_seen : B → BookSeen) (arm_seen : A → ArmSeen) (plan : Plan) (run : RunPlan) (word : ErrorWord) (tells : Tells) where
  -- The crew's workers have all that they need, unused.
  pub record IsManned (store : StorePlan) (hand : StoreHand P B) (crew : Crew P B A C) : Type 0 where
    pub is_crew : IsCrewOf pass_seen book_seen run store hand crew
    pub ready : All (IsReady pass_seen book_seen arm_seen plan run hand.store store.id (tells.sure AtArm store.path) word crew.table) crew.posts.items

  -- They are done, in a run that began so.
  pub record HasEnded (clock_seen : C → ClockSeen) (start : ℕ) (clock : ClockSeen) (store : StorePlan) (hand : StoreHand P B) (crew : Crew P B A C) : Type 0 where
    pub is_crew : IsCrewOf pass_seen book_seen run store hand crew
    pub done : All (IsDone hand.store word crew.table) crew.posts.items
    pub did : All (λ post. DidWork plan run store.id start clock (made_in pass_seen book_seen crew.table) (tells.sure AtArm store.path) (labor_of arm_seen clock_seen post)) crew.posts.items

module _ {P B A C : Type 0} (pass_seen : P → PassSeen) (book_seen : B → BookSeen) (arm_seen : A → ArmSeen) (plan : Plan) (run : RunPlan) (word : ErrorWord) where
  -- The crew is manned, over some hand.
  abbrev pub CanWork : Crew P B A C → Type 0
  CanWork crew = (tells : Tells) × (hand : StoreHand P B) × OfStore plan hand.store (λ store. IsManned pass_seen book_seen arm_seen plan run word tells store hand crew)

  -- The crew's work: over the same hand it has ended.
  abbrev pub Works : (C → ClockSeen) → ℕ → ClockSeen → Crew P B A C → Crew P B A C → Type 0
  Works clock_seen start clock before after = (tells : Tells) (store : StorePlan) (hand : StoreHand P B) → slice_get plan.stores hand.store ≡ Some store
      → IsManned pass_seen book_seen arm_seen plan run word tells store hand before → HasEnded pass_seen book_seen arm_seen plan run word tells clock_seen start clock store hand after

-- A manned crew stays so, for each hand.
abbrev pub StaysManned : {P B A C : Type 0} → (P → PassSeen) → (B → BookSeen) → (A → ArmSeen) → Crew P B A C → Crew P B A C → Type 0
StaysManned {P} {B} pass_seen book_seen arm_seen before after = (plan : Plan) (run : RunPlan) (word : ErrorWord) (tells : Tells) (store : StorePlan) (hand : StoreHand P B)
    → IsManned pass_seen book_seen arm_seen plan run word tells store hand before → IsManned pass_seen book_seen arm_seen plan run word tells store hand after

-- The crews of these hands, each by this.
abbrev pub Crewed : {P B A C : Type 0} → Plan → (StorePlan → StoreHand P B → Crew P B A C → Type 0) → List (StoreHand P B) → List (Crew P B A C) → Type 0
Crewed plan Is hands crews = AllZip (λ hand crew. OfStore plan hand.store (λ store. Is store hand crew)) hands crews

-- each worker's clock stands so
abbrev pub AllClocks : {P B A C : Type 0} → (C → ClockSeen) → ClockSeen → Crew P B A C → Type 0
AllClocks clock_seen clock crew = All (λ post. clock_seen post.clock ≡ clock) crew.posts.items

-- the path of a crew's store
abbrev pub path_at : {P B A C : Type 0} → Plan → Crew P B A C → List ℕ
path_at plan crew = path_of (slice_get plan.stores crew.place)

-- the posts of crews, crew by crew
abbrev pub posts_of : {P B A C : Type 0} → List (Crew P B A C) → List (Post P A C)
posts_of crews = flat_map (λ crew. crew.posts.items) crews

-- the paths of the arms of posts, and of crews
abbrev pub paths_at : {P A C : Type 0} → List ℕ → List (Post P A C) → List (List ℕ)
paths_at path posts = map (λ post. path) posts

abbrev pub all_paths : {P B A C : Type 0} → Plan → List (Crew P B A C) → List (List ℕ)
all_paths plan crews = flat_map (λ crew. paths_at (path_at plan crew) crew.posts.items) crews

-- the arms of posts, each with its path, and of crews
abbrev pub arms_at : {P A C : Type 0} → (A → ArmSeen) → List ℕ → List (Post P A C) → List (List ℕ × ArmSeen)
arms_at arm_seen path posts = map (λ post. (path, arm_seen post.arm)) posts

abbrev pub all_arms : {P B A C : Type 0} → (A → ArmSeen) → Plan → List (Crew P B A C) → List (List ℕ × ArmSeen)
all_arms arm_seen plan crews = flat_map (λ crew. arms_at arm_seen (path_at plan crew) crew.posts.items) crews
