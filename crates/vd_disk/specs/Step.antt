-- A disk in memory by what it began with and the writes and syncs since.
use Rattle.std.specs.Prelude.{◌≡◌, ◌<◌, ◌≤◌, ℕ, List, [], ◌∷◌, length, slice_set, slice_index_or}
use Rattle.vd_disk.specs.declared.memory.Step.{Step}
use Rattle.vd_disk.specs.declared.memory.Step.TheVariants.{Write, FailedWrite, Sync, Lengthen}
use Rattle.vd_disk.specs.Disk.{Sectors, Table, written, settled, longer, longer_table, zeros}

-- A failed write leaves what a read gives.
abbrev pub now_next : Sectors → Step → Sectors
now_next now (Write at bytes) = slice_set now at bytes
now_next now (FailedWrite at bytes) = now
now_next now Sync = now
now_next now (Lengthen size) = longer size now

-- A write adds a content, also a failed one; a sync leaves the present ones; new sectors have zeros alone.
abbrev pub table_next : Table → Sectors → Step → Table
table_next table now (Write at bytes) = written at bytes table
table_next table now (FailedWrite at bytes) = written at bytes table
table_next table now Sync = settled now
table_next table now (Lengthen size) = longer_table size table

-- the sectors after these steps
abbrev pub now_after : Sectors → List Step → Sectors
now_after now [] = now
now_after now (step ∷ steps) = now_after (now_next now step) steps

-- the table of each moment, from this one on
abbrev pub tables_after : Table → Sectors → List Step → List Table
tables_after table now [] = table ∷ []
tables_after table now (step ∷ steps) = table ∷ tables_after (table_next table now step) (now_next now step) steps

-- the tables of a disk that began at rest with these sectors
abbrev pub tables_from : Sectors → List Step → List Table
tables_from first steps = tables_after (settled first) first steps

-- the contents that the sector at a place may have, and what it has, of this table and these sectors; none where it isn't there
pub record HasRow (place : ℕ) (table : Table) (now held : Sectors) (current : List ℕ) (end : ℕ) : Type 0 where
  pub as_many : length table ≡ length now
  pub end_is : end ≡ length now
  pub held_is : held ≡ slice_index_or table place []
  pub current_is : place < end → current ≡ slice_index_or now place []
  pub not_yet : end ≤ place → current ≡ zeros
