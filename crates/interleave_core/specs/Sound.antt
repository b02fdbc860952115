-- A sound world.
use Rattle.std.specs.Prelude.{List, ◌≡◌, ◌≢◌, ◌↔◌, ⊤, ℕ, ◌*◌, ◌<◌, ◌≤◌, true, length, take}
use Rattle.key_state.specs.declared.entry.Entry.TheVariants.{Bad}
use Rattle.key_state.specs.Entries.{AreEntries, IsPending, IsHistory, entry_at, states}
use Rattle.interleave_core.specs.declared.hold.Stage.{Stage}
use Rattle.interleave_core.specs.declared.hold.Stage.TheVariants.{Free, Claimed, Queued, Writing, Acked, Done}
use Rattle.interleave_core.specs.Fits.{Fits}
use Rattle.interleave_core.specs.declared.event.Event.{Event}
use Rattle.interleave_core.specs.declared.event.Event.TheVariants as event
use Rattle.interleave_core.specs.Event.{Changes, Enabled, Run, pending_key}
use Rattle.interleave_core.specs.World.{World, hold_of, Lists, entry_of, entry_after, key_of, is_written, first_world}

-- Each marked sector of the block has its pending key.
abbrev pub MarkedIsStamped : World → ℕ → Type 0
MarkedIsStamped w b = (s : ℕ) → s < w.sectors → is_written w b s ≡ true → key_of w b s ≡ pending_key (entry_of w b)

-- Each sector of the block has its pending key.
abbrev pub AllStamped : World → ℕ → Type 0
AllStamped w b = (s : ℕ) → s < w.sectors → key_of w b s ≡ pending_key (entry_of w b)

-- what a stage says of a listed block
abbrev pub SuitsStage : World → ℕ → Stage → Type 0
SuitsStage w b Free = ⊤
SuitsStage w b Claimed = entry_of w b ≢ Bad
SuitsStage w b Queued = IsPending (entry_of w b) × MarkedIsStamped w b
SuitsStage w b Writing = IsPending (entry_of w b) × MarkedIsStamped w b
SuitsStage w b Acked = IsPending (entry_of w b) × AllStamped w b
SuitsStage w b Done = ⊤

-- No block is in two operations.
abbrev pub HoldsApart : World → Type 0
HoldsApart w = (a c b : ℕ) → Lists (hold_of w a) b → Lists (hold_of w c) b → a ≡ c

-- Two workers never hold one block. The records are legal from the base. The listed blocks suit their stage. After each
-- prefix of the records from the synced ones on, each sector fits its block's entry. While stopped no worker holds a block.
-- A list has at most 64 blocks, all of them there, and none just where its worker is free.
pub record Sound (w : World) : Type 0 where
  pub apart : HoldsApart w
  pub legal : IsHistory w.base w.records
  pub stages : (a b : ℕ) → Lists (hold_of w a) b → SuitsStage w b (hold_of w a).stage
  pub fits : (count b s : ℕ) → w.synced ≤ count → count ≤ length w.records → b < length w.base → s < w.sectors → Fits (entry_after w count b) (key_of w b s)
  pub quiet : w.stopped ≡ true → (a b : ℕ) → Lists (hold_of w a) b → ⊥
  pub free : (a : ℕ) → ((hold_of w a).stage ≡ Free) ↔ ((hold_of w a).many ≡ 0)
  pub few : (a : ℕ) → (hold_of w a).many ≤ 64
  pub inside : (a b : ℕ) → Lists (hold_of w a) b → b < length w.base
  pub synced : w.synced ≤ length w.records
  pub keyed : length w.keys ≡ length w.base * w.sectors
  pub marked : length w.written ≡ length w.base * w.sectors

-- It holds of every world after every list of events from the beginning on, for all numbers of blocks, sectors and workers.
abbrev pub Always : (World → Type 0) → Type 0
Always P = (blocks sectors workers : ℕ) (list : List Event) (w : World) → Run (first_world blocks sectors workers) list w → P w

-- Each sector fits its block's entry.
abbrev pub SectorsFit : World → Type 0
SectorsFit w = (b s : ℕ) → b < length w.base → s < w.sectors → Fits (entry_of w b) (key_of w b s)

-- After each front of the records each entry is one: a pending block goes to the next key.
abbrev pub ValidEntries : World → Type 0
ValidEntries w = (count : ℕ) → AreEntries (states w.base (take count w.records))

-- A stop at any allowed length leaves sectors that fit.
abbrev pub StopsFitting : World → Type 0
StopsFitting w = (keep : ℕ) (after : World) → Enabled w (event.Stop keep) → Changes w (event.Stop keep) after → SectorsFit after

-- A recovery makes no entry bad that wasn't.
abbrev pub RecoversAll : World → Type 0
RecoversAll w = (after : World) → Enabled w event.Recover → Changes w event.Recover after
    → (b : ℕ) → b < length w.base → entry_of w b ≢ Bad → entry_at after.base b ≢ Bad
