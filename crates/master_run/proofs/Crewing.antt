-- A crew that is made over a hand.
use Rattle.std.proofs.Common.{◌≡◌, ◌∙◌, refl, sym, ap, subst, arith, ℕ, ◌+◌, ◌<◌, ◌≤◌, ◌==◌, not, All, Bool, List, [], ◌∷◌, ◌++◌, length, map, Some, slice_get}
use Rattle.std.specs.Vec.{vec_capacity}
use Rattle.std.proofs.lemmas.List.{length-map}
use Rattle.std.proofs.lemmas.List.Elements.{All-map, All-weaker}
use Rattle.std.proofs.lemmas.List.Filters.{length-filter_both}
use Rattle.std.proofs.lemmas.Option.{get_or_from_slice_get, slice_get-get_or, slice_get_within}
use Rattle.vd_arm.specs.Arm.{ArmSeen, PassSeen}
use Rattle.plan_types.specs.Valid.{IsRun}
use Rattle.plan_types.specs.declared.plan.Plan.{Plan}
use Rattle.plan_types.specs.declared.run.RunPlan.{RunPlan}
use Rattle.plan_types.specs.declared.run.WorkerPlan.{WorkerPlan}
use Rattle.plan_types.specs.declared.store.StorePlan.{StorePlan}
use Rattle.vd_yard.specs.Out.{AtArm}
use Rattle.vd_yard.specs.Yard.{Tells, YardSeen}
use Rattle.key_state.specs.declared.seen.BookSeen.{BookSeen}
use Rattle.claim_table.specs.Openings.{made_with}
use Rattle.claim_table.specs.Seats.{IsNew, made_in}
use Rattle.claim_table.specs.declared.table.ClaimTable.{ClaimTable}
use Rattle.claim_table.specs.declared.view.Made.{Made}
use Rattle.error_limit.specs.declared.word.ErrorWord.{ErrorWord}
use Rattle.slave_worker.specs.Ends.{IsWorkOf}
use Rattle.slave_worker.specs.declared.hand.StoreHand.{StoreHand}
use Rattle.slave_worker.specs.Hands.{IsHandOf, IsRunOf, workers_at, workers_in}
use Rattle.master_run.specs.Posts.{CanDismiss, HasMore, IsManned, IsOver, IsReady, arms_at, paths_at}
use Rattle.master_run.specs.Yards.{GaveArms, IsUnused, TookArms, fresh_arm}
use Rattle.master_run.specs.declared.crew.Crew.{Crew}
use Rattle.master_run.specs.declared.post.Post.{Post}
use Rattle.master_run.proofs.Arming.{arms_paths}
use Rattle.master_run.proofs.Opening.{took_back}

-- Each worker of a store of a run is one that slave_worker takes.
pub works_of : (plan : Plan) (run : RunPlan) (place : ℕ) (store : StorePlan) → IsRunOf plan run → slice_get plan.stores place ≡ Some store → All (λ (worker : WorkerPlan). worker.store ≡ place → IsWorkOf plan run worker store.id) run.workers
works_of plan run place store of at = λ k d within is. record {
  valid = of.valid;
  run_number = of.number;
  worker_number = (k, slice_get-get_or run.workers k d within);
  its_store = (store, ap (slice_get plan.stores) is ∙ at, refl);
}

few_at : (store : ℕ) (workers : List WorkerPlan) → length (workers_at store workers) ≤ length workers
few_at store workers =
    let both = length-filter_both (λ (worker : WorkerPlan). worker.store == store) (λ (worker : WorkerPlan). not (worker.store == store)) (λ worker. refl) workers in
    omega (arith, both)

-- A store's workers in a run are few enough for the seats of a table.
pub few_workers_of : (plan : Plan) (run : RunPlan) (store : ℕ) → IsRunOf plan run → length (workers_in run store) ≤ 512
few_workers_of plan run store of =
    let place = of.number.0 in
    let is = subst (λ (r : RunPlan). IsRun plan.stores r) (get_or_from_slice_get plan.runs place run run of.number.1) (of.valid.runs place run (slice_get_within plan.runs place run of.number.1)) in
    omega (arith, is.few_workers, few_at store run.workers)

no_length : {A : Type 0} (xs : List A) → length xs ≡ 0 → xs ≡ []
no_length [] is = refl
no_length (x ∷ xs) is = absurd (omega (arith, is))

fresh_unused : {P A C : Type 0} (seen : A → ArmSeen) (sure : Bool) (path : List ℕ) (post : Post P A C) → seen post.arm ≡ fresh_arm sure → IsUnused (path, seen post.arm)
fresh_unused seen sure path post is = (ap (λ (a : ArmSeen). a.faults) is, ap (λ (a : ArmSeen). a.good_reads) is, ap (λ (a : ArmSeen). a.good_writes) is)

-- The arms of posts that are fresh weren't used.
pub all_unused : {P A C : Type 0} (seen : A → ArmSeen) (sure : Bool) (path : List ℕ) (posts : List (Post P A C)) → All (λ (post : Post P A C). seen post.arm ≡ fresh_arm sure) posts → All IsUnused (arms_at seen path posts)
all_unused seen sure path posts all =
    All-map IsUnused (λ (post : Post _ _ _). (path, seen post.arm)) posts
    (All-weaker (λ (post : Post _ _ _). seen post.arm ≡ fresh_arm sure) (λ (post : Post _ _ _). IsUnused (path, seen post.arm)) (λ post is. fresh_unused seen sure path post is) posts all)

module _ {P B A C : Type 0} (pass_seen : P → PassSeen) (book_seen : B → BookSeen) (arm_seen : A → ArmSeen) (run : RunPlan) (store : StorePlan) (hand : StoreHand P B) (sure : Bool) (many : ℕ) (before after : Crew P B A C) (more : List (Post P A C))
    (place : before.place ≡ hand.store)
    (none : before.posts.items ≡ [])
    (made : made_in pass_seen book_seen before.table ≡ made_with pass_seen book_seen store.id many hand.passes.items hand.book)
    (seats : length before.spare.items ≡ many)
    (room : length before.spare.items ≤ vec_capacity before.spare)
    (has : HasMore pass_seen book_seen arm_seen sure before after more) where
  posts_are : after.posts.items ≡ more
  posts_are = has.posts ∙ ap (λ (l : List (Post P A C)). l ++ more) none

  -- What was opened for it is given back unused.
  pub crew_gave : (old mid new : YardSeen) → TookArms (paths_at store.path more) old mid → GaveArms (arms_at arm_seen store.path after.posts.items) mid new → TookArms [] old new
  crew_gave old mid new took gave =
      let posts = after.posts.items in
      took_back (paths_at store.path posts) (arms_at arm_seen store.path posts) old mid new (arms_paths arm_seen store.path posts)
      (all_unused arm_seen sure store.path posts (subst (λ (l : List (Post P A C)). All (λ (post : Post P A C). arm_seen post.arm ≡ fresh_arm sure) l) (sym posts_are) has.fresh))
      (subst (λ (l : List (Post P A C)). TookArms (paths_at store.path l) old mid) (sym posts_are) took) gave

  -- What was made of it can be undone.
  pub crew_can : 0 < many → CanDismiss pass_seen book_seen after
  crew_can some = record {
    room = omega (arith, has.spare, ap length posts_are, room, has.spare_room);
    spare = subst (λ (t : ClaimTable P B). All (IsNew pass_seen book_seen t) after.spare.items) (sym has.table) has.spare_new;
    posts = subst (λ (l : List (Post P A C)). All (λ (post : Post P A C). IsNew pass_seen book_seen after.table post.seat) l) (sym posts_are)
        (subst (λ (t : ClaimTable P B). All (λ (post : Post P A C). IsNew pass_seen book_seen t post.seat) more) (sym has.table) has.new);
    all = ap (λ (t : ClaimTable P B). (made_in pass_seen book_seen t).seats) has.table ∙ ap (λ (m : Made). m.seats) made ∙ sym seats ∙ has.spare ∙ ap (λ (l : List (Post P A C)). length after.spare.items + length l) (sym posts_are);
    some = omega (arith, has.spare, ap length posts_are, seats, some);
  }

  pub crew_over : IsHandOf pass_seen book_seen store hand → IsOver pass_seen book_seen store hand after
  crew_over is = record {
    place = has.place ∙ place;
    seats = many;
    made = ap (λ (t : ClaimTable P B). made_in pass_seen book_seen t) has.table ∙ made;
    are_passes = is.are_passes;
  }

  pub crew_manned : (plan : Plan) (word : ErrorWord) (tells : Tells) → tells.sure AtArm store.path ≡ sure → IsHandOf pass_seen book_seen store hand → many ≡ length (workers_in run hand.store) → 0 < many → map (λ (post : Post P A C). post.worker) more ≡ workers_at before.place run.workers → All (IsReady pass_seen book_seen arm_seen plan run before.place store.id sure word before.table) more → IsManned pass_seen book_seen arm_seen plan run word tells store hand after
  crew_manned plan word tells is_sure is wanted some workers ready =
      let workers_are = workers ∙ ap (λ (n : ℕ). workers_at n run.workers) place in
      let posts : length more ≡ many = sym (length-map more (λ (post : Post P A C). post.worker)) ∙ ap length workers_are ∙ sym wanted in
      let len = ap length posts_are in
      record {
        is_crew = record {
          place = has.place ∙ place;
          are_passes = is.are_passes;
          made = ap (λ (t : ClaimTable P B). made_in pass_seen book_seen t) has.table ∙ made ∙ ap (λ (n : ℕ). made_with pass_seen book_seen store.id n hand.passes.items hand.book) (sym (len ∙ posts));
          workers = ap (map (λ (post : Post P A C). post.worker)) posts_are ∙ workers_are;
          none = no_length after.spare.items (omega (arith, has.spare, posts, seats));
          room = omega (arith, has.spare_room, room, seats, len, posts);
          some = omega (arith, len, posts, some);
        };
        ready = subst (λ (l : List (Post P A C)). All (IsReady pass_seen book_seen arm_seen plan run hand.store store.id (tells.sure AtArm store.path) word after.table) l) (sym posts_are)
            (subst (λ (n : ℕ). All (IsReady pass_seen book_seen arm_seen plan run n store.id (tells.sure AtArm store.path) word after.table) more) place
            (subst (λ (b : Bool). All (IsReady pass_seen book_seen arm_seen plan run before.place store.id b word after.table) more) (sym is_sure)
            (subst (λ (t : ClaimTable P B). All (IsReady pass_seen book_seen arm_seen plan run before.place store.id sure word t) more) (sym has.table) ready)));
      }
