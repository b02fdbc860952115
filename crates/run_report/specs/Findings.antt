-- The lines of a store's verification.
use Rattle.std.specs.Prelude.{ℕ, ⊤, ◌<◌, List, [], codes, decimal}
use Rattle.vd_base.specs.Name.{name_text}
use Rattle.vd_base.specs.Geometry.{address_of, sectors_of}
use Rattle.vd_base.specs.declared.geometry.StoreId.{StoreId}
use Rattle.key_state.specs.declared.entry.Entry.{Entry}
use Rattle.key_state.specs.declared.entry.Entry.TheVariants as entry
use Rattle.sector_stamp.specs.declared.part.Part.{Part}
use Rattle.sector_stamp.specs.declared.part.Part.TheVariants as part
use Rattle.block_verdict.specs.declared.outcome.Verdict.{Verdict}
use Rattle.block_verdict.specs.declared.outcome.Verdict.TheVariants as verdict
use Rattle.block_verdict.specs.declared.finding.Finding.{Finding}
use Rattle.block_verdict.specs.declared.finding.Finding.TheVariants as finding
use Rattle.run_report.specs.declared.finding.Verified.{Verified}
use Rattle.run_report.specs.Texts.{◌⧺◌}

abbrev pub part_word : Part → List ℕ
part_word part.Name = codes "name"
part_word part.Address = codes "address"
part_word part.Key = codes "key"
part_word part.Pattern = codes "pattern"

-- the permitted keys, the old one first
abbrev pub keys_text : Entry → List ℕ
keys_text (entry.Settled key) = decimal key
keys_text (entry.Pending old new) = decimal old ⧺ codes " " ⧺ decimal new
keys_text entry.Bad = []

-- what a pending block holds, where it isn't corrupt
abbrev pub holds_word : Verdict → List ℕ
holds_word verdict.Old = codes "old"
holds_word verdict.New = codes "new"
holds_word verdict.Mixed = codes "mixed"
holds_word verdict.Clean = []
holds_word (verdict.Corrupt sector differs) = []

-- where a sector stands: its block, its place in it, and its byte of the store
abbrev pub place_text : StoreId → ℕ → ℕ → List ℕ
place_text id block sector =
    codes "block " ⧺ decimal block ⧺ codes " sector " ⧺ decimal sector ⧺ codes " address " ⧺ decimal (address_of id.geometry block sector)

abbrev pub corrupt_text : StoreId → ℕ → Entry → ℕ → Part → List ℕ
corrupt_text id block known sector differs =
    codes "corrupt " ⧺ name_text id.name ⧺ codes " " ⧺ place_text id block sector ⧺ codes " part " ⧺ part_word differs ⧺ codes " keys "
    ⧺ keys_text known ⧺ codes "\n"

abbrev pub pending_text : StoreId → ℕ → ℕ → ℕ → Verdict → List ℕ
pending_text id block old new holds =
    codes "pending " ⧺ name_text id.name ⧺ codes " block " ⧺ decimal block ⧺ codes " keys " ⧺ decimal old ⧺ codes " " ⧺ decimal new
    ⧺ codes " holds " ⧺ holds_word holds ⧺ codes "\n"

-- the line of one finding
unfoldable pub finding_text : StoreId → Finding → List ℕ
finding_text id (finding.Corrupt block known sector differs) = corrupt_text id block.0 known sector differs
finding_text id (finding.Pending block old new holds) = pending_text id block.0 old new holds
finding_text id (finding.ReadFault block) = codes "readfault " ⧺ name_text id.name ⧺ codes " block " ⧺ decimal block.0 ⧺ codes "\n"
finding_text id (finding.WriteFault block) = codes "writefault " ⧺ name_text id.name ⧺ codes " block " ⧺ decimal block.0 ⧺ codes "\n"

-- a finding that has a line: its block and sector are in the store's range
abbrev pub IsPrintable : StoreId → Finding → Type 0
IsPrintable id (finding.Corrupt block known sector differs) = (block.0 < id.geometry.blocks) × (sector < sectors_of id.geometry)
IsPrintable id (finding.Pending block old new holds) = ⊤
IsPrintable id (finding.ReadFault block) = ⊤
IsPrintable id (finding.WriteFault block) = ⊤

abbrev pub counts_text : Verified → List ℕ
counts_text counted =
    codes "blocks " ⧺ decimal counted.blocks ⧺ codes " corrupt " ⧺ decimal counted.corrupt ⧺ codes " pending " ⧺ decimal counted.pending

abbrev pub verified_text : List ℕ → Verified → List ℕ
verified_text name counted =
    codes "verified " ⧺ name_text name ⧺ codes " " ⧺ counts_text counted ⧺ codes " bad " ⧺ decimal counted.bad ⧺ codes " faults "
    ⧺ decimal counted.faults ⧺ codes "\n"
