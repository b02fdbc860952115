-- One worker that is added to a crew.
use Rattle.std.proofs.Common.{◌≡◌, ◌∙◌, ap, ℕ, All, Bool, [], ◌∷◌, ◌++◌, length, length-append, Some}
use Rattle.std.specs.Vec.{vec_capacity}
use Rattle.std.proofs.lemmas.List.Elements.{All-cons, All-nil, All-pop}
use Rattle.vd_arm.specs.Arm.{ArmSeen, PassSeen}
use Rattle.key_state.specs.declared.seen.BookSeen.{BookSeen}
use Rattle.claim_table.specs.Seats.{IsNew}
use Rattle.master_run.specs.Posts.{HasMore}
use Rattle.master_run.specs.Yards.{fresh_arm}
use Rattle.master_run.specs.declared.crew.Crew.{Crew}
use Rattle.master_run.specs.declared.post.Post.{Post}

abbrev arm_of : ℕ → ℕ → ℕ → Bool → ArmSeen
arm_of faults reads writes sure = record { faults = faults; good_reads = reads; good_writes = writes; sure = sure }

-- An arm that is handed out is fresh.
pub arm_fresh : (arm : ArmSeen) (sure : Bool) → arm.faults ≡ 0 → arm.good_reads ≡ 0 → arm.good_writes ≡ 0 → arm.sure ≡ sure → arm ≡ fresh_arm sure
arm_fresh arm sure faults reads writes is =
    ap (λ (n : ℕ). arm_of n arm.good_reads arm.good_writes arm.sure) faults
    ∙ ap (λ (n : ℕ). arm_of 0 n arm.good_writes arm.sure) reads
    ∙ ap (λ (n : ℕ). arm_of 0 0 n arm.sure) writes
    ∙ ap (λ (b : Bool). arm_of 0 0 0 b) is

-- The last spare seat is its.
pub more_one : {P B A C : Type 0} (pass_seen : P → PassSeen) (book_seen : B → BookSeen) (arm_seen : A → ArmSeen) (sure : Bool) (before after : Crew P B A C) (post : Post P A C) → after.place ≡ before.place → after.table ≡ before.table → after.posts.items ≡ before.posts.items ++ post ∷ [] → before.spare.items ≡ after.spare.items ++ post.seat ∷ [] → All (IsNew pass_seen book_seen before.table) before.spare.items → arm_seen post.arm ≡ fresh_arm sure → vec_capacity after.posts ≡ vec_capacity before.posts → vec_capacity after.spare ≡ vec_capacity before.spare → HasMore pass_seen book_seen arm_seen sure before after (post ∷ [])
more_one {P} {B} {A} {C} pass_seen book_seen arm_seen sure before after post place table posts spare new fresh post_room spare_room =
    let split = All-pop (IsNew pass_seen book_seen before.table) before.spare.items after.spare.items (Some post.seat) spare new in record {
      place = place;
      table = table;
      posts = posts;
      spare = ap length spare ∙ length-append after.spare.items (post.seat ∷ []);
      spare_new = split.0;
      new = All-cons (λ (one : Post P A C). IsNew pass_seen book_seen before.table one.seat) post [] split.1 (All-nil (λ (one : Post P A C). IsNew pass_seen book_seen before.table one.seat));
      fresh = All-cons (λ (one : Post P A C). arm_seen one.arm ≡ fresh_arm sure) post [] fresh (All-nil (λ (one : Post P A C). arm_seen one.arm ≡ fresh_arm sure));
      post_room = post_room;
      spare_room = spare_room;
    }
