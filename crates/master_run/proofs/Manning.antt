-- Workers that are added to a crew, one after the other.
use Rattle.std.proofs.Common.{◌≡◌, ◌∙◌, refl, sym, ap, subst, arith, ne_eqb, eq-eqb, ℕ, cond, Bool, All, List, [], ◌∷◌, ◌++◌, length-append}
use Rattle.std.proofs.lemmas.List.{append-nil, append_assoc}
use Rattle.std.proofs.lemmas.List.Elements.{All-append, All-nil}
use Rattle.vd_arm.specs.Arm.{ArmSeen, PassSeen}
use Rattle.vd_base.specs.declared.geometry.StoreId.{StoreId}
use Rattle.plan_types.specs.declared.plan.Plan.{Plan}
use Rattle.plan_types.specs.declared.run.RunPlan.{RunPlan}
use Rattle.plan_types.specs.declared.run.WorkerPlan.{WorkerPlan}
use Rattle.key_state.specs.declared.seen.BookSeen.{BookSeen}
use Rattle.claim_table.specs.Seats.{IsNew}
use Rattle.claim_table.specs.declared.table.ClaimTable.{ClaimTable}
use Rattle.error_limit.specs.declared.word.ErrorWord.{ErrorWord}
use Rattle.slave_worker.specs.Hands.{workers_at}
use Rattle.master_run.specs.Posts.{HasMore, IsReady}
use Rattle.master_run.specs.Yards.{fresh_arm}
use Rattle.master_run.specs.declared.crew.Crew.{Crew}
use Rattle.master_run.specs.declared.post.Post.{Post}

module _ {P B A C : Type 0} (pass_seen : P → PassSeen) (book_seen : B → BookSeen) (arm_seen : A → ArmSeen) (sure : Bool) where
  pub more_none : (crew : Crew P B A C) → All (IsNew pass_seen book_seen crew.table) crew.spare.items → HasMore pass_seen book_seen arm_seen sure crew crew []
  more_none crew new = record {
    place = refl;
    table = refl;
    posts = sym (append-nil crew.posts.items);
    spare = omega arith;
    spare_new = new;
    new = All-nil (λ (post : Post P A C). IsNew pass_seen book_seen crew.table post.seat);
    fresh = All-nil (λ (post : Post P A C). arm_seen post.arm ≡ fresh_arm sure);
    post_room = refl;
    spare_room = refl;
  }

  pub more_then : (a b c : Crew P B A C) (xs ys : List (Post P A C)) → HasMore pass_seen book_seen arm_seen sure a b xs → HasMore pass_seen book_seen arm_seen sure b c ys → HasMore pass_seen book_seen arm_seen sure a c (xs ++ ys)
  more_then a b c xs ys p q = record {
    place = q.place ∙ p.place;
    table = q.table ∙ p.table;
    posts = q.posts ∙ ap (λ (l : List (Post P A C)). l ++ ys) p.posts ∙ append_assoc a.posts.items xs ys;
    spare = omega (arith, p.spare, q.spare, length-append xs ys);
    spare_new = subst (λ (t : ClaimTable P B). All (IsNew pass_seen book_seen t) c.spare.items) p.table q.spare_new;
    new = All-append (λ (post : Post P A C). IsNew pass_seen book_seen a.table post.seat) xs ys p.new (subst (λ (t : ClaimTable P B). All (λ (post : Post P A C). IsNew pass_seen book_seen t post.seat) ys) p.table q.new);
    fresh = All-append (λ (post : Post P A C). arm_seen post.arm ≡ fresh_arm sure) xs ys p.fresh q.fresh;
    post_room = q.post_room ∙ p.post_room;
    spare_room = q.spare_room ∙ p.spare_room;
  }

  pub ready_then : (plan : Plan) (run : RunPlan) (store : StoreId) (word : ErrorWord) (place other : ℕ) (table after : ClaimTable P B) (xs ys : List (Post P A C)) → other ≡ place → after ≡ table → All (IsReady pass_seen book_seen arm_seen plan run place store sure word table) xs → All (IsReady pass_seen book_seen arm_seen plan run other store sure word after) ys → All (IsReady pass_seen book_seen arm_seen plan run place store sure word table) (xs ++ ys)
  ready_then plan run store word place other table after xs ys same_place same_table p q =
      All-append (IsReady pass_seen book_seen arm_seen plan run place store sure word table) xs ys p
      (subst (λ (n : ℕ). All (IsReady pass_seen book_seen arm_seen plan run n store sure word table) ys) same_place
      (subst (λ (t : ClaimTable P B). All (IsReady pass_seen book_seen arm_seen plan run other store sure word t) ys) same_table q))

-- The workers of a store, by the first of all.
pub own_first : (store : ℕ) (worker : WorkerPlan) (workers : List WorkerPlan) → worker.store ≡ store → workers_at store (worker ∷ workers) ≡ worker ∷ workers_at store workers
own_first store worker workers is = ap (λ (b : Bool). cond b (worker ∷ workers_at store workers) (workers_at store workers)) (eq-eqb worker.store store is)

pub other_first : (store : ℕ) (worker : WorkerPlan) (workers : List WorkerPlan) → (worker.store ≡ store → ⊥) → workers_at store (worker ∷ workers) ≡ workers_at store workers
other_first store worker workers apart = ap (λ (b : Bool). cond b (worker ∷ workers_at store workers) (workers_at store workers)) (ne_eqb worker.store store apart)
