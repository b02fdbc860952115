-- How a machine keeps the parts of a world.
use Rattle.std.specs.Prelude.{◌≡◌, ◌↔◌, ◌<◌, ◌≤◌, ◌^◌, ◌+◌, ◌*◌, ℕ, length, slice_index_or}
use Rattle.interleave_core.specs.declared.hold.Stage.TheVariants.{Free}
use Rattle.interleave_core.specs.declared.machine.Machine.TheInside.{Inside}
use Rattle.interleave_core.specs.World.{World, no_hold}

abbrev pub view_of : Inside → World
view_of j = record {
  sectors = j.sectors;
  base = j.journal.base;
  records = j.journal.records;
  synced = j.journal.synced;
  holds = j.holds.items;
  keys = j.keys.items;
  written = j.written.items;
  stopped = j.stopped;
}

pub record IsWhole (j : Inside) : Type 0 where
  pub small : length j.journal.base < 2 ^ 32
  pub keyed : length j.keys.items ≡ length j.journal.base * j.sectors
  pub marked : length j.written.items ≡ length j.journal.base * j.sectors
  pub few : length j.keys.items < 2 ^ 32
  pub inside : (a : ℕ) → a < length j.holds.items → (slice_index_or j.holds.items a no_hold).first.0 + (slice_index_or j.holds.items a no_hold).many ≤ length j.journal.base
  pub free : (a : ℕ) → a < length j.holds.items → ((slice_index_or j.holds.items a no_hold).stage ≡ Free) ↔ ((slice_index_or j.holds.items a no_hold).many ≡ 0)
  pub lists : (a : ℕ) → a < length j.holds.items → (slice_index_or j.holds.items a no_hold).many ≤ 64
