-- What recovery answers for a disk's sectors.
use Rattle.std.specs.Prelude.{◌≡◌, ◌⊎◌, ⊤, ℕ, ◌*◌, ◌≤◌, List, length, None, Result, Ok, Err}
use Rattle.key_state.specs.Entries.{AreEntries}
use Rattle.key_state.specs.declared.entry.Entry.{Entry}
use Rattle.key_state.specs.declared.record.Record.{Record}
use Rattle.vd_base.specs.declared.geometry.StoreId.{StoreId}
use Rattle.journal_layout.specs.Gate.{IsWithinLimits}
use Rattle.journal_layout.specs.Recovery.{Sectors, Gives, NoJournal, Mismatch, Damaged, Recovers, IsLive, IsMap, gate_of_live, journal_end, log_of}
use Rattle.journal_layout.specs.declared.live.Live.{Live}
use Rattle.journal_recover.specs.declared.found.Recovered.{Recovered}
use Rattle.journal_recover.specs.declared.fault.RecoverFault.{RecoverFault}
use Rattle.journal_recover.specs.declared.fault.RecoverFault.TheVariants.{NoJournal as NoJournalFault, Mismatch as MismatchFault, Damaged as DamagedFault, Failed, NoMemory}
use Rattle.journal_recover.specs.Logs.{ReadsAll, FindsLog}
use Rattle.journal_recover.specs.Maps.{ReadsMap}

-- The answer is what the sectors give for the wanted store. A failed read and want of memory say nothing of them.
abbrev pub Answers : Sectors → StoreId → Result Recovered RecoverFault → Type 0
Answers sectors wanted (Ok found) =
    (records : List Record) × (length records ≡ found.records) × Gives sectors wanted (Recovers found.live records found.entries.items)
Answers sectors wanted (Err NoJournalFault) = Gives sectors wanted NoJournal
Answers sectors wanted (Err (MismatchFault found named)) = Gives sectors wanted (Mismatch found) × (named ≡ wanted)
Answers sectors wanted (Err (DamagedFault sector what at)) = Gives sectors wanted (Damaged sector what at)
Answers sectors wanted (Err Failed) = ⊤
Answers sectors wanted (Err NoMemory) = ⊤

-- the live gate of the wanted store, or why there is none
abbrev pub FindsWanted : Sectors → StoreId → Result Live RecoverFault → Type 0
FindsWanted sectors wanted (Ok live) = IsLive sectors live × (live.id ≡ wanted)
FindsWanted sectors wanted (Err NoJournalFault) = Gives sectors wanted NoJournal
FindsWanted sectors wanted (Err (MismatchFault found named)) = Gives sectors wanted (Mismatch found) × (named ≡ wanted)
FindsWanted sectors wanted (Err Failed) = ⊤
FindsWanted sectors wanted (Err other) = ⊥

-- An area with this gate is on the disk, has this map, and stores so many records, behind which these are the entries.
abbrev pub AreaGives : Sectors → Live → ℕ → List Entry → Type 0
AreaGives sectors live n entries =
    (journal_end live ≤ length sectors) × ((base : List Entry) × IsMap sectors live base × ReadsAll live base (log_of sectors live) n entries None None)

-- what an area with this gate gives, or why nothing: its map or its log
abbrev pub FindsArea : Sectors → Live → Result Recovered RecoverFault → Type 0
FindsArea sectors live (Ok found) = (found.live ≡ live) × AreaGives sectors live found.records found.entries.items
FindsArea sectors live (Err why) =
    ReadsMap sectors live (Err why)
    ⊎ ((journal_end live ≤ length sectors)
    × ((base : List Entry) × (entries : List Entry) × IsMap sectors live base × FindsLog live base (log_of sectors live) entries None None (Err why)))

-- what holds of all that is found, over every disk, of so many sectors
pub record IsUsable (wanted : StoreId) (sectors : ℕ) (found : Recovered) : Type 0 where
  pub is_wanted : found.live.id ≡ wanted
  pub within : IsWithinLimits (gate_of_live found.live)
  pub has_room : journal_end found.live ≤ sectors
  pub one_each : length found.entries.items ≡ wanted.geometry.blocks
  pub valid : AreEntries found.entries.items
  pub few_records : found.records ≤ 30 * found.live.log_sectors
