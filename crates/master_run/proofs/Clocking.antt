-- Posts that differ in their clocks alone.
use Rattle.std.proofs.Common.{◌≡◌, ◌∙◌, refl, sym, ap, subst, arith, ℕ, ◌+◌, ◌<◌, All, Bool, List, [], ◌∷◌, ◌++◌, drop, get_or, length, map, set, take}
use Rattle.std.specs.Vec.{vec_capacity}
use Rattle.std.proofs.Math.Seq.{map-set_same}
use Rattle.std.proofs.lemmas.List.{append-nil, drop_all, get_or-map, get_or-set_same, length-map, length-set, take-set, take_all}
use Rattle.std.proofs.lemmas.List.Elements.{All-map, All-more, All-weaker}
use Rattle.vd_base.specs.declared.geometry.StoreId.{StoreId}
use Rattle.vd_arm.specs.Arm.{ArmSeen, PassSeen}
use Rattle.plan_types.specs.declared.plan.Plan.{Plan}
use Rattle.plan_types.specs.declared.run.RunPlan.{RunPlan}
use Rattle.plan_types.specs.declared.run.WorkerPlan.{WorkerPlan}
use Rattle.vd_yard.specs.Out.{AtArm}
use Rattle.key_state.specs.declared.seen.BookSeen.{BookSeen}
use Rattle.claim_table.specs.Openings.{made_with}
use Rattle.claim_table.specs.Seats.{made_in}
use Rattle.claim_table.specs.declared.table.ClaimTable.{ClaimTable}
use Rattle.error_limit.specs.declared.word.ErrorWord.{ErrorWord}
use Rattle.master_run.specs.Posts.{IsReady, StaysManned}
use Rattle.master_run.specs.declared.crew.Crew.{Crew}
use Rattle.master_run.specs.declared.post.Post.{Post}

-- a post without its clock
abbrev pub bare : {P A C : Type 0} → Post P A C → Post P A (Unit {0})
bare post = record {
  worker = post.worker;
  seat = post.seat;
  error_seat = post.error_seat;
  arm = post.arm;
  clock = tt;
  draw = post.draw;
  buf = post.buf;
  tally = post.tally;
  room = post.room;
  end = post.end;
}

-- What holds of each of a map holds of each, by what it maps to.
All-from_map : {X Y : Type 0} (P : X → Type 0) (f : Y → X) (ys : List Y) → All P (map f ys) → All (λ (y : Y). P (f y)) ys
All-from_map P f ys all = λ k d within. subst P (get_or-map f ys k d (f d) within) (all k (f d) (let same = length-map ys f in omega (arith, same, within)))

-- What holds of each so far holds of one more that is written.
pub written_more : {X : Type 0} (P : X → Type 0) (items : List X) (i : ℕ) (new : X) → i < length items → All P (take i items) → P new → All P (take (i + 1) (set items i new))
written_more P items i new within all here =
    All-more P (set items i new) i new (let same = length-set items i new in omega (arith, same, within))
    (subst (λ (l : List _). All P l) (sym (take-set items i new)) all)
    (subst P (sym (get_or-set_same items i new new within)) here)

-- What is written back is all that was lent.
pub written_back : {X : Type 0} (old new : List X) (many : ℕ) → many ≡ length old → length new ≡ length old → take many (new ++ drop (length new) old) ≡ new
written_back old new many is same =
    ap (λ (l : List _). take many (new ++ l)) (drop_all (length new) old (omega (arith, same)))
    ∙ ap (take many) (append-nil new) ∙ take_all many new (omega (arith, is, same))

module _ {P B A C : Type 0} (pass_seen : P → PassSeen) (book_seen : B → BookSeen) (arm_seen : A → ArmSeen) (plan : Plan) (run : RunPlan) (place : ℕ) (store : StoreId) (sure : Bool) (word : ErrorWord) (table : ClaimTable P B) where
  bare_ready : (post : Post P A C) → IsReady pass_seen book_seen arm_seen plan run place store sure word table post → IsReady pass_seen book_seen arm_seen plan run place store sure word table (bare post)
  bare_ready post is = record { worker = is.worker; at_place = is.at_place; seat = is.seat; error_seat = is.error_seat; arm = is.arm; draw = is.draw; tally = is.tally; rows = is.rows; findings = is.findings; bytes = is.bytes; room = is.room }

  ready_bare : (post : Post P A C) → IsReady pass_seen book_seen arm_seen plan run place store sure word table (bare post) → IsReady pass_seen book_seen arm_seen plan run place store sure word table post
  ready_bare post is = record { worker = is.worker; at_place = is.at_place; seat = is.seat; error_seat = is.error_seat; arm = is.arm; draw = is.draw; tally = is.tally; rows = is.rows; findings = is.findings; bytes = is.bytes; room = is.room }

  ready_all : (before after : List (Post P A C)) → map bare after ≡ map bare before → All (IsReady pass_seen book_seen arm_seen plan run place store sure word table) before → All (IsReady pass_seen book_seen arm_seen plan run place store sure word table) after
  ready_all before after same all =
      let is : Post P A (Unit {0}) → Type 0 = IsReady pass_seen book_seen arm_seen plan run place store sure word table in
      All-weaker (λ (post : Post P A C). is (bare post)) (IsReady pass_seen book_seen arm_seen plan run place store sure word table) ready_bare after
      (All-from_map is bare after (subst (All is) (sym same)
      (All-map is bare before (All-weaker (IsReady pass_seen book_seen arm_seen plan run place store sure word table) (λ (post : Post P A C). is (bare post)) bare_ready before all))))

workers_bare : {P A C : Type 0} (posts : List (Post P A C)) → map (λ (post : Post P A C). post.worker) posts ≡ map (λ (post : Post P A (Unit {0})). post.worker) (map bare posts)
workers_bare [] = refl
workers_bare (post ∷ posts) = ap (λ (l : List WorkerPlan). post.worker ∷ l) (workers_bare posts)

pub bare_more : {P A C : Type 0} (posts : List (Post P A C)) (i : ℕ) (new old : Post P A C) → bare new ≡ bare (get_or posts i old) → map bare (set posts i new) ≡ map bare posts
bare_more posts i new old same = map-set_same bare posts i new old same

pub bare_length : {P A C : Type 0} (before after : List (Post P A C)) → map bare after ≡ map bare before → length after ≡ length before
bare_length before after same = sym (length-map after bare) ∙ ap length same ∙ length-map before bare

-- A crew stays manned where but for their clocks its posts are the same.
pub stays_manned : {P B A C : Type 0} (pass_seen : P → PassSeen) (book_seen : B → BookSeen) (arm_seen : A → ArmSeen) (before after : Crew P B A C) → after.place ≡ before.place → after.table ≡ before.table → after.spare.items ≡ before.spare.items → vec_capacity after.spare ≡ vec_capacity before.spare → map bare after.posts.items ≡ map bare before.posts.items → StaysManned pass_seen book_seen arm_seen before after
stays_manned {P} {B} {A} {C} pass_seen book_seen arm_seen before after place table spare room same plan run word tells store hand is =
    let crew = is.is_crew in
    let many : length after.posts.items ≡ length before.posts.items = bare_length before.posts.items after.posts.items same in
    record {
      is_crew = record {
        place = place ∙ crew.place;
        are_passes = crew.are_passes;
        made = ap (λ (t : ClaimTable P B). made_in pass_seen book_seen t) table ∙ crew.made ∙ ap (λ (n : ℕ). made_with pass_seen book_seen store.id n hand.passes.items hand.book) (sym many);
        workers = workers_bare after.posts.items ∙ ap (map (λ (post : Post P A (Unit {0})). post.worker)) same ∙ sym (workers_bare before.posts.items) ∙ crew.workers;
        none = spare ∙ crew.none;
        room = omega (arith, many, room, crew.room);
        some = omega (arith, many, crew.some);
      };
      ready = subst (λ (t : ClaimTable P B). All (IsReady pass_seen book_seen arm_seen plan run hand.store store.id (tells.sure AtArm store.path) word t) after.posts.items) (sym table)
          (ready_all pass_seen book_seen arm_seen plan run hand.store store.id (tells.sure AtArm store.path) word before.table before.posts.items after.posts.items same is.ready);
    }
