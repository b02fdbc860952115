-- The passes of verified stores go back to the yard.
use Rattle.std.specs.Prelude.{◌≡◌, ⊤, ℕ, IsTrue, List, [], ◌∷◌}
use Rattle.vd_yard.specs.Contents.{told_bytes}
use Rattle.vd_yard.specs.Kept.{Kept, keep_at}
use Rattle.vd_yard.specs.Yard.{StaysThere, YardSeen}
use Rattle.plan_types.specs.declared.store.StorePlan.{StorePlan}
use Rattle.still_store.specs.Verification.{ArePassesOf}
use Rattle.plan_verified.specs.Stores.{StoreSeen, passes_of, stores_out}

-- what is kept once the passes of these stores came back, from the last on
abbrev pub kept_after : YardSeen → List StorePlan → List StoreSeen → Kept (List ℕ) → Kept (List ℕ)
kept_after yard (store ∷ stores) (left ∷ rest) kept =
    keep_at yard.tells.keeps_contents (kept_after yard stores rest kept) store.path (told_bytes (passes_of left))
kept_after yard stores left kept = kept

-- The passes of these stores went back to the yard, and nothing else changed.
pub record StoresBack (stores : List StorePlan) (left : List StoreSeen) (old new : YardSeen) : Type 0 where
  pub faults : new.faults ≡ old.faults
  pub out : old.out ≡ stores_out stores new.out
  pub tells : new.tells ≡ old.tells
  pub counts : new.counts ≡ old.counts
  pub disks : new.disks ≡ old.disks
  pub contents : new.contents ≡ kept_after old stores left old.contents
  pub willing : IsTrue old.willing → IsTrue new.willing
  pub files : StaysThere old.files new.files

-- These are the passes of the stores, as they were opened from what the yard keeps.
abbrev pub AreTheirs : YardSeen → List StorePlan → List StoreSeen → Type 0
AreTheirs yard [] [] = ⊤
AreTheirs yard (store ∷ stores) (left ∷ rest) = ArePassesOf yard store (passes_of left) × AreTheirs yard stores rest
AreTheirs yard stores left = ⊥
