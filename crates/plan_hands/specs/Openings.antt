-- What opening the passes of a run's stores does, and giving all of them back.
use Rattle.std.specs.Prelude.{◌≡◌, ℕ, ◌≤◌, true, false, IsTrue, List, [], ◌∷◌, ◌++◌, Option, Some, None, Result, Err, slice_get}
use Rattle.std.specs.List.{AllZip}
use Rattle.vd_outside.specs.Causes.{Rose}
use Rattle.vd_arm.specs.Arm.{PassSeen}
use Rattle.plan_types.specs.declared.plan.Plan.{Plan}
use Rattle.plan_types.specs.declared.run.RunPlan.{RunPlan}
use Rattle.plan_types.specs.declared.store.StorePlan.{StorePlan}
use Rattle.vd_yard.specs.Contents.{AreBlocks, TellFile, told_bytes}
use Rattle.vd_yard.specs.Kept.{Kept, bytes_at, keep_at}
use Rattle.vd_yard.specs.Out.{AtPasses, Out, one_more}
use Rattle.vd_yard.specs.Yard.{StaysThere, YardSeen}
use Rattle.slave_worker.specs.Hands.{HandSeen, OfStore, works_in}
use Rattle.slave_worker.specs.declared.hand.RunFault.{RunFault}
use Rattle.slave_worker.specs.declared.hand.RunFault.TheVariants as refusal
use Rattle.plan_hands.specs.Stores.{book_of, passes_of, place_of}

-- the path of the store at a place
abbrev pub data_path : Option StorePlan → List ℕ
data_path None = []
data_path (Some store) = store.path

-- the passes of one hand are out, where they are open
abbrev pub one_out : List ℕ → List PassSeen → Out → Out
one_out path [] out = out
one_out path (pass ∷ passes) out = one_more out AtPasses path

-- with the open passes of these hands out besides
abbrev pub passes_out : Plan → List HandSeen → Out → Out
passes_out plan [] out = out
passes_out plan (hand ∷ hands) out = one_out (data_path (slice_get plan.stores (place_of hand))) (passes_of hand) (passes_out plan hands out)

-- nothing of a yard changed but what is out, its count of faults, and which files are there
pub record OpensData (old new : YardSeen) : Type 0 where
  pub later : old.faults ≤ new.faults
  pub tells : new.tells ≡ old.tells
  pub counts : new.counts ≡ old.counts
  pub disks : new.disks ≡ old.disks
  pub contents : new.contents ≡ old.contents
  pub willing : IsTrue old.willing → IsTrue new.willing
  pub files : StaysThere old.files new.files

-- The passes of a store were opened in its hand: one for each block, which tell the file that is kept, where the yard tells that.
pub record HasOpened (yard : YardSeen) (store : StorePlan) (before after : HandSeen) : Type 0 where
  pub place : place_of after ≡ place_of before
  pub book : book_of after ≡ book_of before
  pub blocks : AreBlocks store.id.geometry (passes_of after)
  pub told : IsTrue yard.tells.keeps_contents → TellFile store.id.geometry (bytes_at yard.contents store.path) (passes_of after)

-- The passes of a hand are opened where its store works in the run and they aren't open; else it stays as it was.
pub data Opened (plan : Plan) (run : RunPlan) (yard : YardSeen) (before after : HandSeen) : Type 0 where
  opened : works_in run (place_of before) ≡ true → passes_of before ≡ [] → OfStore plan (place_of before) (λ store. HasOpened yard store before after) → Opened plan run yard before after
  was_open : (passes_of before ≡ [] → ⊥) → after ≡ before → Opened plan run yard before after
  not_needed : works_in run (place_of before) ≡ false → after ≡ before → Opened plan run yard before after

-- The passes of this hand are needed in the run and aren't open, and they couldn't be opened; a store that is named is its own.
pub record IsRefused (run : RunPlan) (hand : HandSeen) (why : RunFault) : Type 0 where
  pub needed : works_in run (place_of hand) ≡ true
  pub was_closed : passes_of hand ≡ []
  pub named : (store : ℕ) → why ≡ refusal.Yard store → store ≡ place_of hand

-- The hands up to the first whose passes can't be opened were opened, and the others stay as they were.
pub record StopsOpening (plan : Plan) (run : RunPlan) (yard : YardSeen) (before after : List HandSeen) (why : RunFault) : Type 0 where
  pub front : List HandSeen
  pub back : List HandSeen
  pub now_open : List HandSeen
  pub stops : HandSeen
  pub is_before : before ≡ front ++ stops ∷ back
  pub is_after : after ≡ now_open ++ stops ∷ back
  pub each : AllZip (Opened plan run yard) front now_open
  pub refused : IsRefused run stops why

-- why the passes of a run's stores weren't opened: the yard's count rose, and it isn't a willing one; any other answer leaves the count
pub record HasOpenCause (old new : YardSeen) (result : Result (Unit {0}) RunFault) : Type 0 where
  pub failed : (store : ℕ) → result ≡ Err (refusal.Yard store) → Rose old.faults new.faults
  pub quiet : ((store : ℕ) → result ≡ Err (refusal.Yard store) → ⊥) → new.faults ≡ old.faults
  pub willing : (store : ℕ) → IsTrue old.willing → result ≡ Err (refusal.Yard store) → ⊥

-- what is kept once the open passes of these hands came back, from the first on
abbrev pub one_kept : List ℕ → List PassSeen → Kept (List ℕ) → YardSeen → Kept (List ℕ)
one_kept path [] kept yard = kept
one_kept path (pass ∷ passes) kept yard = keep_at yard.tells.keeps_contents kept path (told_bytes (pass ∷ passes))

abbrev pub kept_after : Plan → YardSeen → List HandSeen → Kept (List ℕ) → Kept (List ℕ)
kept_after plan yard [] kept = kept
kept_after plan yard (hand ∷ hands) kept =
    kept_after plan yard hands (one_kept (data_path (slice_get plan.stores (place_of hand))) (passes_of hand) kept yard)

-- The open passes of these hands went back to the yard, from the first on, and nothing else changed.
pub record PassesBack (plan : Plan) (hands : List HandSeen) (old new : YardSeen) : Type 0 where
  pub faults : new.faults ≡ old.faults
  pub out : old.out ≡ passes_out plan hands new.out
  pub tells : new.tells ≡ old.tells
  pub counts : new.counts ≡ old.counts
  pub disks : new.disks ≡ old.disks
  pub contents : new.contents ≡ kept_after plan old hands old.contents
  pub willing : IsTrue old.willing → IsTrue new.willing
  pub files : StaysThere old.files new.files
