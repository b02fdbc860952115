-- What verifying a plan's stores finds and says.
use Rattle.std.specs.Prelude.{◌≡◌, ◌⊎◌, ℕ, suc, ◌==◌, IsTrue, List, [], ◌∷◌, ◌++◌, ⊤, count_by, if◌then◌else◌, take, slice_get, Some}
use Rattle.vd_outside.specs.Causes.{Rose}
use Rattle.vd_arm.specs.Arm.{PassSeen, Counted}
use Rattle.vd_yard.specs.Counts.{arm_faults, good_reads}
use Rattle.vd_yard.specs.Out.{AtArm}
use Rattle.vd_yard.specs.Yard.{YardSeen, HasFiles}
use Rattle.plan_types.specs.declared.store.StorePlan.{StorePlan}
use Rattle.journal_recover.specs.declared.found.Recovered.{Recovered}
use Rattle.recover_run.specs.declared.look.Look.{Look}
use Rattle.recover_run.specs.Looks.{AreLooks, is_seen, is_unread, is_corrupt}
use Rattle.run_report.specs.declared.status.Status.{Status}
use Rattle.run_report.specs.declared.status.Status.TheVariants as status
use Rattle.run_report.specs.Lines.{cannot_open_text}
use Rattle.still_plan.specs.Frame.{CountsStay, IsLeft, IsPathOf}
use Rattle.still_store.specs.Verification.{store_text, lines_of, ArePassesOf, RoseBy}

-- What the looks left of the counts of a path. Its good reads rose by just so many as there are blocks that were seen, modulo 2^64, and
-- its arm faults by at least so many as there are blocks that couldn't be read; where there is none of these, or its arms are sure, they
-- stayed.
pub record PathRose (old new : YardSeen) (path : List ℕ) (looks : List Look) : Type 0 where
  pub reads : Counted (count_by is_seen looks) (good_reads old.counts path) (good_reads new.counts path)
  pub rose : RoseBy old new path (count_by is_unread looks)
  pub kept : count_by is_unread looks ≡ 0 → arm_faults new.counts path ≡ arm_faults old.counts path
  pub sure : IsTrue (old.tells.sure AtArm path) → arm_faults new.counts path ≡ arm_faults old.counts path

-- These are the looks at the blocks of a store whose journal gave that.
pub record VerifiesAs (old new : YardSeen) (store : StorePlan) (found : Recovered) (looks : List Look) : Type 0 where
  pub passes : List PassSeen
  pub theirs : ArePassesOf old store passes
  pub looked : AreLooks store.id found.entries.items passes looks
  pub counts : PathRose old new store.path looks

-- these are the looks at the blocks of each store, in order
abbrev pub AllVerify : YardSeen → YardSeen → List StorePlan → List Recovered → List (List Look) → Type 0
AllVerify old new [] [] [] = ⊤
AllVerify old new (store ∷ stores) (found ∷ more) (looks ∷ seen) = VerifiesAs old new store found looks × AllVerify old new stores more seen
AllVerify old new stores found seen = ⊥

-- the lines of the stores, in order
abbrev pub stores_text : List StorePlan → List Recovered → List (List Look) → List ℕ
stores_text (store ∷ stores) (found ∷ more) (looks ∷ seen) = store_text store.id found.entries.items looks ++ stores_text stores more seen
stores_text stores found seen = []

-- the looks at all blocks of the stores
abbrev pub all_looks : List (List Look) → List Look
all_looks [] = []
all_looks (looks ∷ seen) = looks ++ all_looks seen

-- the status of blocks that were verified: a failed read of any of them comes before a corrupt block
abbrev pub looks_status : List Look → Status
looks_status looks =
    if count_by is_unread looks == 0 then (if count_by is_corrupt looks == 0 then status.Good else status.Corrupt) else status.Device

-- the status of a store that was verified and of those behind it, by what these end with
abbrev pub corrupt_behind : Status → Status
corrupt_behind status.Device = status.Device
corrupt_behind first = status.Corrupt

abbrev pub worse : Status → Status → Status
worse first status.Good = first
worse first status.Corrupt = corrupt_behind first
worse first rest = rest

-- What is said of a store at which the command stops, and the status that it stops with: the yard can't open its data; or memory ran
-- out or a write failed, before its lines or behind those of its first blocks.
pub data StoreStop (old new : YardSeen) (store : StorePlan) (found : Recovered) (text : List ℕ) (result : Status) : Type 0 where
  no_data : Rose old.faults new.faults → (IsTrue old.willing → HasFiles old.files store → ⊥) → CountsStay old new store.path
      → text ≡ cannot_open_text store.path → result ≡ status.Yard → StoreStop old new store found text result
  not_begun : text ≡ [] → (result ≡ status.NoMemory) ⊎ (result ≡ status.Sink) → StoreStop old new store found text result
  begun : (n : ℕ) (passes : List PassSeen) (looks : List Look) → ArePassesOf old store passes
      → AreLooks store.id (take n found.entries.items) (take n passes) looks → RoseBy old new store.path (count_by is_unread looks)
      → text ≡ lines_of store.id (take n found.entries.items) looks → (result ≡ status.NoMemory) ⊎ (result ≡ status.Sink)
      → StoreStop old new store found text result

-- All stores were verified; or those before the one at a place, and the command stops at that one: what is kept and counted at paths that
-- are none of these stays.
pub data StoresEnd (old new : YardSeen) (stores : List StorePlan) (found : List Recovered) (text : List ℕ) (result : Status) : Type 0 where
  all_verified : (seen : List (List Look)) → AllVerify old new stores found seen → text ≡ stores_text stores found seen
      → result ≡ looks_status (all_looks seen) → StoresEnd old new stores found text result
  at_store : (n : ℕ) (seen : List (List Look)) (store : StorePlan) (here : Recovered) (part : List ℕ)
      → AllVerify old new (take n stores) (take n found) seen → slice_get stores n ≡ Some store → slice_get found n ≡ Some here
      → StoreStop old new store here part result
      → ((path : List ℕ) → (IsPathOf (take (suc n) stores) path → ⊥) → IsLeft old new path)
      → text ≡ stores_text (take n stores) (take n found) seen ++ part
      → StoresEnd old new stores found text result
