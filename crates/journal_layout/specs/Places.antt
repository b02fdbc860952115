-- Where the parts of a journal stand, by the blocks of its store and its log sectors.
use Rattle.std.specs.Prelude.{ℕ, ◌+◌, ◌*◌, ◌/◌, ◌<◌, ◌≤◌}

-- what contracts see of places
pub record Extent : Type 0 where
  pub blocks : ℕ
  pub log_sectors : ℕ

-- the limits of a journal
pub record IsExtent (blocks log_sectors : ℕ) : Type 0 where
  pub some_blocks : 0 < blocks
  pub few_blocks : blocks ≤ 16777216
  pub some_log : 0 < log_sectors
  pub few_logs : log_sectors ≤ 65536

-- A map sector has 256 entries.
abbrev pub map_sectors : ℕ → ℕ
map_sectors blocks = (blocks + 255) / 256

-- Behind the two gates stand two areas, each a map and a log. The map of an area begins here,
abbrev pub area_at : ℕ → ℕ → ℕ → ℕ
area_at blocks log_sectors area = 2 + area * (map_sectors blocks + log_sectors)

-- its log here,
abbrev pub log_at : ℕ → ℕ → ℕ → ℕ
log_at blocks log_sectors area = area_at blocks log_sectors area + map_sectors blocks

-- and the journal ends here.
abbrev pub end_of : ℕ → ℕ → ℕ
end_of blocks log_sectors = area_at blocks log_sectors 2
