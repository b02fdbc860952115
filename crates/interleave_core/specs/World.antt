-- The world: workers, a journal and a device as one machine.
use Rattle.std.specs.Prelude.{ℕ, ◌+◌, ◌*◌, ◌<◌, ◌≤◌, Bool, false, List, [], take, replicate, slice_index_or}
use Rattle.key_state.specs.declared.entry.Entry.{Entry}
use Rattle.key_state.specs.declared.entry.Entry.TheVariants.{Settled}
use Rattle.key_state.specs.declared.record.Record.{Record}
use Rattle.key_state.specs.Entries.{state}
use Rattle.interleave_core.specs.declared.hold.Stage.TheVariants.{Free}
use Rattle.interleave_core.specs.declared.hold.Hold.{Hold}

-- `sectors` a block; each block's entry as the journal began, the records since, and how many of them are on its disk;
-- a hold for each worker; for each sector of the device its key, 0 where it was never stamped, and whether its block's
-- operation has written it; whether the machine is stopped
pub record World : Type 0 where
  pub sectors : ℕ
  pub base : List Entry
  pub records : List Record
  pub synced : ℕ
  pub holds : List Hold
  pub keys : List ℕ
  pub written : List Bool
  pub stopped : Bool

abbrev pub no_hold : Hold
no_hold = record { stage = Free; first = record { 0 = 0 }; many = 0 }

abbrev pub hold_of : World → ℕ → Hold
hold_of w worker = slice_index_or w.holds worker no_hold

-- The hold lists the block.
abbrev pub Lists : Hold → ℕ → Type 0
Lists hold block = (hold.first.0 ≤ block) × (block < hold.first.0 + hold.many)

-- a block's entry now, and after the first so many records
abbrev pub entry_of : World → ℕ → Entry
entry_of w block = state w.base w.records block

abbrev pub entry_after : World → ℕ → ℕ → Entry
entry_after w count block = state w.base (take count w.records) block

-- where a sector stands among all sectors of the device
abbrev pub place : World → ℕ → ℕ → ℕ
place w block sector = block * w.sectors + sector

abbrev pub key_of : World → ℕ → ℕ → ℕ
key_of w block sector = slice_index_or w.keys (place w block sector) 0

abbrev pub is_written : World → ℕ → ℕ → Bool
is_written w block sector = slice_index_or w.written (place w block sector) false

-- the world as it begins
abbrev pub first_world : ℕ → ℕ → ℕ → World
first_world blocks sectors workers = record {
  sectors = sectors;
  base = replicate blocks (Settled 0);
  records = [];
  synced = 0;
  holds = replicate workers no_hold;
  keys = replicate (blocks * sectors) 0;
  written = replicate (blocks * sectors) false;
  stopped = false;
}
