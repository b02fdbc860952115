-- The workers of a store among all, each of which is added to a crew.
use Rattle.std.proofs.Common.{◌≡◌, ◌∙◌, refl, sym, ap, subst, arith, ℕ, ◌+◌, ◌-◌, ◌<◌, ◌≤◌, All, Bool, List, [], ◌∷◌, ◌++◌, drop, get_or, length, length-append, map, take, OnOk, Result, Ok}
use Rattle.std.proofs.lemmas.List.{map-append, take_all}
use Rattle.std.proofs.lemmas.Result.{on_ok_weaker}
use Rattle.vd_arm.specs.Arm.{ArmSeen, PassSeen}
use Rattle.plan_types.specs.declared.plan.Plan.{Plan}
use Rattle.plan_types.specs.declared.run.RunPlan.{RunPlan}
use Rattle.plan_types.specs.declared.run.WorkerPlan.{WorkerPlan}
use Rattle.plan_types.specs.declared.store.StorePlan.{StorePlan}
use Rattle.vd_yard.specs.Out.{AtArm}
use Rattle.vd_yard.specs.Yard.{Tells, YardSeen}
use Rattle.key_state.specs.declared.seen.BookSeen.{BookSeen}
use Rattle.error_limit.specs.Seats.{IsNew as IsNewErrorSeat}
use Rattle.error_limit.specs.declared.word.ErrorSeat.{ErrorSeat}
use Rattle.error_limit.specs.declared.word.ErrorWord.{ErrorWord}
use Rattle.slave_worker.specs.declared.hand.RunFault.{RunFault}
use Rattle.slave_worker.specs.Hands.{workers_at}
use Rattle.master_run.specs.Posts.{HasMore, IsReady, paths_at}
use Rattle.master_run.specs.Yards.{TookArms}
use Rattle.master_run.specs.declared.crew.Crew.{Crew}
use Rattle.master_run.specs.declared.post.Post.{Post}
use Rattle.master_run.proofs.Manning.{more_then, other_first, own_first, ready_then}
use Rattle.master_run.proofs.Opening.{took_posts}

pub none_of_none : (store : ℕ) (workers : List WorkerPlan) → length workers < 1 → [] ≡ workers_at store workers
none_of_none store [] none = refl
none_of_none store (worker ∷ workers) none = absurd (omega (arith, none))

pub first_and_others : (workers : List WorkerPlan) (other : WorkerPlan) → 1 ≤ length workers → workers ≡ get_or workers 0 other ∷ take (length workers - 1) (drop 1 workers)
first_and_others [] other some = absurd (omega (arith, some))
first_and_others (worker ∷ workers) other some =
    ap (λ (l : List WorkerPlan). worker ∷ l) (sym (take_all (length (worker ∷ workers) - 1) workers (omega arith)))

module _ {P B A C : Type 0} (pass_seen : P → PassSeen) (book_seen : B → BookSeen) (arm_seen : A → ArmSeen) (plan : Plan) (run : RunPlan) (store : StorePlan) where
  abbrev pub Added : Result (Unit {0}) RunFault → List WorkerPlan → Crew P B A C → Crew P B A C → List ErrorSeat → List ErrorSeat → YardSeen → YardSeen → Type 0
  Added result wanted before after seats rest old new = (more : List (Post P A C))
      × HasMore pass_seen book_seen arm_seen (old.tells.sure AtArm store.path) before after more
      × OnOk result (map (λ (post : Post P A C). post.worker) more ≡ wanted)
      × (length seats ≡ length rest + length more)
      × TookArms (paths_at store.path more) old new
      × ((word : ErrorWord) → All (IsNewErrorSeat word) seats → All (IsReady pass_seen book_seen arm_seen plan run before.place store.id (old.tells.sure AtArm store.path) word before.table) more × All (IsNewErrorSeat word) rest)

  -- The first of all is another store's.
  pub added_other : (result : Result (Unit {0}) RunFault) (all others : List WorkerPlan) (worker : WorkerPlan) (a b : Crew P B A C) (s0 s1 : List ErrorSeat) (y0 y1 : YardSeen) → all ≡ worker ∷ others → (worker.store ≡ a.place → ⊥) → Added result (workers_at a.place others) a b s0 s1 y0 y1 → Added result (workers_at a.place all) a b s0 s1 y0 y1
  added_other result all others worker a b s0 s1 y0 y1 is apart p =
      (p.0, p.1, on_ok_weaker result (λ them. them ∙ sym (ap (workers_at a.place) is ∙ other_first a.place worker others apart)) p.2, p.3, p.4, p.5)

  -- It is the crew's, and so are those of the others.
  pub added_own : (result : Result (Unit {0}) RunFault) (all others : List WorkerPlan) (worker : WorkerPlan) (a b c : Crew P B A C) (s0 s1 s2 : List ErrorSeat) (y0 y1 y2 : YardSeen) → all ≡ worker ∷ others → worker.store ≡ a.place → Added (Ok tt) (worker ∷ []) a b s0 s1 y0 y1 → Added result (workers_at b.place others) b c s1 s2 y1 y2 → Added result (workers_at a.place all) a c s0 s2 y0 y2
  added_own result all others worker a b c s0 s1 s2 y0 y1 y2 is own p q =
      let sure = ap (λ (t : Tells). t.sure AtArm store.path) p.4.same.tells in
      let wanted = ap (workers_at a.place) is ∙ own_first a.place worker others own in (
        p.0 ++ q.0,
        more_then pass_seen book_seen arm_seen (y0.tells.sure AtArm store.path) a b c p.0 q.0 p.1 (subst (λ (s : Bool). HasMore pass_seen book_seen arm_seen s b c q.0) sure q.1),
        on_ok_weaker result (λ them.
            map-append (λ (post : Post P A C). post.worker) p.0 q.0
            ∙ ap (λ (l : List WorkerPlan). l ++ map (λ (post : Post P A C). post.worker) q.0) p.2
            ∙ ap (λ (l : List WorkerPlan). worker ∷ l) (them ∙ ap (λ (n : ℕ). workers_at n others) p.1.place)
            ∙ sym wanted) q.2,
        omega (arith, p.3, q.3, length-append p.0 q.0),
        took_posts store.path p.0 q.0 y0 y1 y2 p.4 q.4,
        λ word new.
            let first = p.5 word new in
            let last = q.5 word first.1 in (
              ready_then pass_seen book_seen arm_seen (y0.tells.sure AtArm store.path) plan run store.id word a.place b.place a.table b.table p.0 q.0 p.1.place p.1.table first.0
                  (subst (λ (s : Bool). All (IsReady pass_seen book_seen arm_seen plan run b.place store.id s word b.table) q.0) sure last.0),
              last.1,
            ),
      )
