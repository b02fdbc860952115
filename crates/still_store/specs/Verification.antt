-- What verifying a store prints, and what it counts.
use Rattle.std.specs.Prelude.{◌≡◌, ℕ, ◌+◌, ◌-◌, ◌^◌, ◌≤◌, ◌==◌, min, Bool, true, false, IsTrue, List, [], ◌++◌, length, map, take, count_by, if◌then◌else◌}
use Rattle.std.specs.List.{concat}
use Rattle.vd_base.specs.declared.geometry.StoreId.{StoreId}
use Rattle.vd_arm.specs.Arm.{PassSeen, ArmSeen, Counted}
use Rattle.key_state.specs.declared.entry.Entry.{Entry}
use Rattle.key_state.specs.declared.entry.Entry.TheVariants as entry
use Rattle.block_verdict.specs.declared.finding.Finding.{Finding}
use Rattle.recover_run.specs.declared.look.Look.{Look}
use Rattle.recover_run.specs.Looks.{AreLooks, findings_from, is_seen, is_unread, is_corrupt}
use Rattle.recover_run.specs.Part.{Called}
use Rattle.plan_types.specs.declared.store.StorePlan.{StorePlan}
use Rattle.run_report.specs.declared.finding.Verified.{Verified}
use Rattle.run_report.specs.declared.status.Status.{Status}
use Rattle.run_report.specs.declared.status.Status.TheVariants as status
use Rattle.run_report.specs.Findings.{finding_text, verified_text}
use Rattle.run_report.specs.Says.{Printing, Says}
use Rattle.vd_yard.specs.Counts.{arm_faults, good_reads}
use Rattle.vd_yard.specs.Out.{AtArm}
use Rattle.vd_yard.specs.Kept.{bytes_at}
use Rattle.vd_yard.specs.Contents.{AreBlocks, TellFile}
use Rattle.vd_yard.specs.Yard.{YardSeen}

-- the lines of findings, one behind the other
abbrev pub findings_text : StoreId → List Finding → List ℕ
findings_text id findings = concat (map (finding_text id) findings)

abbrev pub is_pending : Entry → Bool
is_pending (entry.Settled key) = false
is_pending (entry.Pending old new) = true
is_pending entry.Bad = false

abbrev pub is_bad : Entry → Bool
is_bad (entry.Settled key) = false
is_bad (entry.Pending old new) = false
is_bad entry.Bad = true

-- what a verification counts, by the entries that were recovered and what was seen of each block
unfoldable pub counted_of : List Entry → List Look → Verified
counted_of entries looks = record {
  blocks = count_by is_seen looks;
  corrupt = count_by is_corrupt looks;
  pending = count_by is_pending entries;
  bad = count_by is_bad entries;
  faults = count_by is_unread looks;
}

-- the lines of a store's findings, in rising block order
abbrev pub lines_of : StoreId → List Entry → List Look → List ℕ
lines_of id entries looks = findings_text id (findings_from 0 entries looks)

-- all lines of a store's verification
abbrev pub store_text : StoreId → List Entry → List Look → List ℕ
store_text id entries looks = lines_of id entries looks ++ verified_text id.name (counted_of entries looks)

-- the status of a verification: a failed read comes before a corrupt block
abbrev pub counted_status : Verified → Status
counted_status counted = if counted.faults == 0 then (if counted.corrupt == 0 then status.Good else status.Corrupt) else status.Device

-- These passes are those of the store's blocks: each tells its block of what the yard keeps, where it tells that.
pub record ArePassesOf (old : YardSeen) (store : StorePlan) (passes : List PassSeen) : Type 0 where
  pub blocks : AreBlocks store.id.geometry passes
  pub told : IsTrue old.tells.keeps_contents → TellFile store.id.geometry (bytes_at old.contents store.path) passes

-- the path's count of arm faults rose by at least so many
abbrev pub RoseBy : YardSeen → YardSeen → List ℕ → ℕ → Type 0
RoseBy old new path unread = min (arm_faults old.counts path + unread) (2 ^ 64 - 1) ≤ arm_faults new.counts path

-- What the looks left of the counts. The path's good reads rose by just so many as there are blocks that were seen, modulo 2^64, and
-- its arm faults by at least so many as there are blocks that couldn't be read. Where there is none of these, or the path's arms are
-- sure, all paths' arm faults stayed.
pub record CountsRose (old new : YardSeen) (path : List ℕ) (looks : List Look) : Type 0 where
  pub reads : Counted (count_by is_seen looks) (good_reads old.counts path) (good_reads new.counts path)
  pub rose : RoseBy old new path (count_by is_unread looks)
  pub kept : count_by is_unread looks ≡ 0 → (q : List ℕ) → arm_faults new.counts q ≡ arm_faults old.counts q
  pub sure : IsTrue (old.tells.sure AtArm path) → (q : List ℕ) → arm_faults new.counts q ≡ arm_faults old.counts q

-- How far a verification came that ended early: the lines of the first blocks were said, or none was begun.
pub data CameSoFar (old new : YardSeen) (store : StorePlan) (entries : List Entry) (before now : Printing) : Type 0 where
  not_begun : Says before now [] → CameSoFar old new store entries before now
  begun : (n : ℕ) (passes : List PassSeen) (looks : List Look) → ArePassesOf old store passes
      → AreLooks store.id (take n entries) (take n passes) looks → RoseBy old new store.path (count_by is_unread looks)
      → Says before now (lines_of store.id (take n entries) looks) → CameSoFar old new store entries before now

-- Reading ended with the piece in hand: before a write failed, the lines of all the blocks that were looked at went out whole, but for those
-- of the last 1024 at most. Where one had failed before, nothing was looked at.
pub data EndsWithPiece (id : StoreId) (entries : List Entry) (looks : List Look) (before now : Printing) : Type 0 where
  none_looked : looks ≡ [] → EndsWithPiece id entries looks before now
  piece_in_hand : (whole : ℕ) (rest : List ℕ) (between : Printing) → length looks ≤ whole + 1024
      → Says before between (lines_of id (take whole entries) (take whole looks)) → between.failed ≡ false
      → Says between now rest → EndsWithPiece id entries looks before now

-- The arm was called for the looks up to there, and for no others.
pub data StopsCalling (id : StoreId) (entries : List Entry) (passes : List PassSeen) (old new : ArmSeen) (before now : Printing) : Type 0 where
  stops_calling : (n : ℕ) (looks : List Look) → AreLooks id (take n entries) (take n passes) looks → Called looks old new
      → EndsWithPiece id entries looks before now → StopsCalling id entries passes old new before now

-- The path's counts are those of the looks up to there, and of no others; or none was begun.
pub data StopsReading (old new : YardSeen) (store : StorePlan) (entries : List Entry) (before now : Printing) : Type 0 where
  none_begun : new.counts ≡ old.counts → StopsReading old new store entries before now
  stops_reading : (n : ℕ) (passes : List PassSeen) (looks : List Look) → ArePassesOf old store passes
      → AreLooks store.id (take n entries) (take n passes) looks → CountsRose old new store.path looks
      → EndsWithPiece store.id entries looks before now → StopsReading old new store entries before now
