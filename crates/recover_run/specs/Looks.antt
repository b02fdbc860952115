-- What verification sees of each block, and what follows from it.
use Rattle.std.specs.Prelude.{◌≡◌, ℕ, ◌+◌, Bool, true, false, not, ◌==◌, ⊤, List, [], ◌∷◌, ◌++◌, Option, Some, None}
use Rattle.vd_base.specs.declared.geometry.BlockNo.{BlockNo}
use Rattle.vd_base.specs.declared.geometry.StoreId.{StoreId}
use Rattle.key_state.specs.declared.entry.Entry.{Entry}
use Rattle.key_state.specs.declared.entry.Entry.TheVariants as entry
use Rattle.block_verdict.specs.declared.outcome.Verdict.{Verdict}
use Rattle.block_verdict.specs.declared.outcome.Verdict.TheVariants as verdict
use Rattle.block_verdict.specs.declared.finding.Finding.{Finding}
use Rattle.block_verdict.specs.declared.finding.Finding.TheVariants as finding
use Rattle.block_verdict.specs.Verdicts.{IsVerdict, settled_by}
use Rattle.vd_arm.specs.Arm.{PassSeen}
use Rattle.recover_run.specs.declared.look.Look.{Look}
use Rattle.recover_run.specs.declared.look.Look.TheVariants.{Skipped, Unread, Sees}

-- Blocks that were never written and bad ones aren't read.
abbrev pub is_read : Entry → Bool
is_read (entry.Settled key) = not (key == 0)
is_read (entry.Pending old new) = true
is_read entry.Bad = false

-- bytes that a read through this pass gave: those that it tells, where it tells
abbrev pub Gave : PassSeen → List ℕ → Type 0
Gave pass bytes = (told : List ℕ) → pass.told ≡ Some told → bytes ≡ told

-- What is seen of a block with this entry, through this pass. A block that is read is judged by the bytes that the read gave.
abbrev pub LooksAt : StoreId → PassSeen → Entry → Look → Type 0
LooksAt id pass known Skipped = is_read known ≡ false
LooksAt id pass known Unread = is_read known ≡ true
LooksAt id pass known (Sees verdict) = (is_read known ≡ true) × ((bytes : List ℕ) × Gave pass bytes × IsVerdict id pass.block known bytes verdict)

-- one look for each block, in order
unfoldable pub AreLooks : StoreId → List Entry → List PassSeen → List Look → Type 0
AreLooks id [] [] [] = ⊤
AreLooks id (known ∷ entries) (pass ∷ passes) (look ∷ looks) = LooksAt id pass known look × AreLooks id entries passes looks
AreLooks id entries passes looks = ⊥

-- the finding of a block, if there is one
abbrev pub seen_findings : BlockNo → Entry → Verdict → List Finding
seen_findings block known (verdict.Corrupt sector part) = finding.Corrupt block known sector part ∷ []
seen_findings block (entry.Pending old new) holds = finding.Pending block old new holds ∷ []
seen_findings block (entry.Settled key) holds = []
seen_findings block entry.Bad holds = []

abbrev pub block_findings : BlockNo → Entry → Look → List Finding
block_findings block known Skipped = []
block_findings block known Unread = finding.ReadFault block ∷ []
block_findings block known (Sees holds) = seen_findings block known holds

-- the findings of the blocks from a number on
unfoldable pub findings_from : ℕ → List Entry → List Look → List Finding
findings_from first (known ∷ entries) (look ∷ looks) =
    block_findings (record { 0 = first }) known look ++ findings_from (first + 1) entries looks
findings_from first entries looks = []

-- the entry that a block has after the look
abbrev pub settled_look : Entry → Look → Entry
settled_look known Skipped = known
settled_look known Unread = known
settled_look known (Sees holds) = settled_by known holds

unfoldable pub settled_from : List Entry → List Look → List Entry
settled_from (known ∷ entries) (look ∷ looks) = settled_look known look ∷ settled_from entries looks
settled_from entries looks = []

abbrev pub is_seen : Look → Bool
is_seen Skipped = false
is_seen Unread = false
is_seen (Sees holds) = true

abbrev pub is_unread : Look → Bool
is_unread Skipped = false
is_unread Unread = true
is_unread (Sees holds) = false

abbrev pub is_corrupt_verdict : Verdict → Bool
is_corrupt_verdict (verdict.Corrupt sector part) = true
is_corrupt_verdict verdict.Clean = false
is_corrupt_verdict verdict.Old = false
is_corrupt_verdict verdict.New = false
is_corrupt_verdict verdict.Mixed = false

abbrev pub is_corrupt : Look → Bool
is_corrupt Skipped = false
is_corrupt Unread = false
is_corrupt (Sees holds) = is_corrupt_verdict holds

-- an optional finding as a list
abbrev pub findings_of : Option Finding → List Finding
findings_of None = []
findings_of (Some one) = one ∷ []
