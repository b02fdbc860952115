-- The lines of a journal that isn't recovered.
use Rattle.std.specs.Prelude.{◌≡◌, ◌⊎◌, ℕ, List, [], codes, Result, Ok, Err}
use Rattle.vd_base.specs.declared.geometry.StoreId.{StoreId}
use Rattle.vd_outside.specs.declared.text.NoMemory.{NoMemory}
use Rattle.journal_layout.specs.declared.damage.Damage.{Damage}
use Rattle.journal_layout.specs.declared.damage.Damage.TheVariants as damage
use Rattle.journal_recover.specs.declared.fault.RecoverFault.{RecoverFault}
use Rattle.journal_recover.specs.declared.fault.RecoverFault.TheVariants as refusal
use Rattle.run_report.specs.declared.status.Status.{Status}
use Rattle.run_report.specs.declared.status.Status.TheVariants as status
use Rattle.run_report.specs.Lines.{no_journal_text, mismatch_text, damaged_text, journal_fault_text}
use Rattle.run_report.specs.Says.{Printing, Says}

-- what is wrong with a damaged journal, in a word
abbrev pub damage_word : Damage → List ℕ
damage_word damage.Missing = codes "missing"
damage_word damage.Map = codes "map"
damage_word damage.Header = codes "header"
damage_word damage.Record = codes "record"
damage_word damage.Tail = codes "tail"

-- the line of a journal that isn't recovered, and the status that goes with it; want of memory has no line here
abbrev pub refusal_text : StoreId → RecoverFault → List ℕ
refusal_text id refusal.NoJournal = no_journal_text id.name
refusal_text id (refusal.Mismatch found wanted) = mismatch_text found id
refusal_text id (refusal.Damaged sector what at) = damaged_text id.name sector (damage_word what) at
refusal_text id refusal.Failed = journal_fault_text id.name 0
refusal_text id refusal.NoMemory = []

abbrev pub refusal_status : RecoverFault → Status
refusal_status refusal.NoJournal = status.NoJournal
refusal_status (refusal.Mismatch found wanted) = status.Mismatch
refusal_status (refusal.Damaged sector what at) = status.Damaged
refusal_status refusal.Failed = status.Journal
refusal_status refusal.NoMemory = status.NoMemory

-- A line was said, and the status is the one that goes with it; or memory ran out as it was made, and nothing was said.
abbrev pub SaysOr : List ℕ → Status → Status → Printing → Printing → Type 0
SaysOr line with result before now = ((result ≡ with) × Says before now line) ⊎ ((result ≡ status.NoMemory) × Says before now [])

-- the same of a line that was made or not
abbrev pub SaysLine : Result (List ℕ) NoMemory → Status → Status → Printing → Printing → Type 0
SaysLine (Ok line) with result before now = (result ≡ with) × Says before now line
SaysLine (Err e) with result before now = (result ≡ status.NoMemory) × Says before now []
