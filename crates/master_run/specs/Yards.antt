-- What a run does with the yard: it opens arms and gives them back.
use Rattle.std.specs.Prelude.{◌≡◌, ℕ, ◌≤◌, All, Bool, true, IsTrue, List, [], ◌∷◌, map, Result, Ok, Err}
use Rattle.vd_outside.specs.Causes.{Rose}
use Rattle.plan_types.specs.declared.run.RunPlan.{RunPlan}
use Rattle.slave_worker.specs.Hands.{works_in}
use Rattle.vd_arm.specs.Arm.{ArmSeen}
use Rattle.vd_yard.specs.Counts.{Counts, add_arm}
use Rattle.vd_yard.specs.Out.{AtArm, Out, one_more}
use Rattle.vd_yard.specs.Yard.{StaysThere, YardSeen}
use Rattle.slave_worker.specs.declared.hand.RunFault.{RunFault}
use Rattle.slave_worker.specs.declared.hand.RunFault.TheVariants.{Yard as FailedYard}

-- one arm more is out at each of these paths
abbrev pub out_with : List (List ℕ) → Out → Out
out_with [] out = out
out_with (path ∷ paths) out = one_more (out_with paths out) AtArm path

-- At each of these paths an arm is out.
abbrev pub AreOut : List (List ℕ) → YardSeen → Type 0
AreOut paths yard = (out : Out) × (yard.out ≡ out_with paths out)

-- an arm as a yard hands it out
abbrev pub fresh_arm : Bool → ArmSeen
fresh_arm sure = record { faults = 0; good_reads = 0; good_writes = 0; sure = sure }

-- the counts after these arms, each with its path, were given back one after the other
abbrev pub counts_with : List (List ℕ × ArmSeen) → Counts → Counts
counts_with [] counts = counts
counts_with ((path, arm) ∷ arms) counts = counts_with arms (add_arm counts path arm.faults arm.good_reads arm.good_writes)

-- But for what is out and the counts of the paths the yard is as it was; files may have come, and calls that failed are counted.
pub record IsSameYard (old new : YardSeen) : Type 0 where
  pub later : old.faults ≤ new.faults
  pub tells : new.tells ≡ old.tells
  pub willing : IsTrue old.willing → IsTrue new.willing
  pub files : StaysThere old.files new.files
  pub disks : new.disks ≡ old.disks
  pub contents : new.contents ≡ old.contents

-- An answer that names the yard's fault comes only where its count rose, and from no willing yard; no other answer moves it.
pub record HasYardCause (old new : YardSeen) (result : Result (Unit {0}) RunFault) : Type 0 where
  pub failed : (store : ℕ) → result ≡ Err (FailedYard store) → Rose old.faults new.faults
  pub kept : ((store : ℕ) → result ≡ Err (FailedYard store) → ⊥) → new.faults ≡ old.faults
  pub willing : (store : ℕ) → IsTrue old.willing → result ≡ Err (FailedYard store) → ⊥

-- the arm was not used
abbrev pub IsUnused : List ℕ × ArmSeen → Type 0
IsUnused arm = (arm.1.faults ≡ 0) × (arm.1.good_reads ≡ 0) × (arm.1.good_writes ≡ 0)

-- Arms were opened at these paths and are out; others may have been opened and given back unused. By all of them files may have come, and by
-- openings that failed the yard's count of faults may have risen.
pub record TookArms (paths : List (List ℕ)) (old new : YardSeen) : Type 0 where
  pub same : IsSameYard old new
  pub out : new.out ≡ out_with paths old.out
  pub unused : List (List ℕ × ArmSeen)
  pub are_unused : All IsUnused unused
  pub counts : new.counts ≡ counts_with unused old.counts

-- These arms, which were out, were given back one after the other.
pub record GaveArms (arms : List (List ℕ × ArmSeen)) (old new : YardSeen) : Type 0 where
  pub faults : new.faults ≡ old.faults
  pub same : IsSameYard old new
  pub out : old.out ≡ out_with (map (λ arm. arm.0) arms) new.out
  pub counts : new.counts ≡ counts_with arms old.counts

-- These arms were opened, used and given back: nothing of them is out, and the counts of their paths have theirs.
pub record WereUsed (arms : List (List ℕ × ArmSeen)) (old new : YardSeen) : Type 0 where
  pub same : IsSameYard old new
  pub out : new.out ≡ old.out
  pub counts : new.counts ≡ counts_with arms old.counts

-- why something wasn't made that gives back what it was to be made of
abbrev pub why_of : {T U : Type 0} → Result T (U × RunFault) → Result (Unit {0}) RunFault
why_of (Ok made) = Ok tt
why_of (Err back) = Err back.1

-- Where the yard's fault is answered it names this store, or one that has a worker in the run.
abbrev pub NamesStore : ℕ → Result (Unit {0}) RunFault → Type 0
NamesStore place result = (store : ℕ) → result ≡ Err (FailedYard store) → store ≡ place

abbrev pub NamesStoreIn : RunPlan → Result (Unit {0}) RunFault → Type 0
NamesStoreIn run result = (store : ℕ) → result ≡ Err (FailedYard store) → works_in run store ≡ true
