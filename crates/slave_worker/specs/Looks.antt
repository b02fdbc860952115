-- What a look at a run of blocks finds.
use Rattle.std.specs.Prelude.{ℕ, ◌+◌, ◌≡◌, Bool, true, false, cond, min, nat_lt, is_some, List, [], ◌∷◌, Option, Some, None, IfSome}
use Rattle.block_ops.specs.Runs.{is_settled}
use Rattle.vd_base.specs.declared.geometry.BlockNo.{BlockNo}
use Rattle.key_state.specs.declared.entry.Entry.{Entry}
use Rattle.block_verdict.specs.declared.finding.Finding.{Finding}
use Rattle.block_verdict.specs.declared.finding.Finding.TheVariants as finding
use Rattle.block_verdict.specs.declared.outcome.Verdict.{Verdict}
use Rattle.block_verdict.specs.declared.outcome.Verdict.TheVariants as verdict
use Rattle.worker_tally.specs.declared.done.Look.{Look}
use Rattle.worker_tally.specs.declared.done.Look.TheVariants as look
use Rattle.slave_worker.specs.declared.watch.Watch.{Watch}

-- 1 for a watch that was started
abbrev pub started : Watch → ℕ
started watch = cond (is_some watch.before) 1 0

-- It was started at this time, if it was.
abbrev pub StartedAt : ℕ → Watch → Type 0
StartedAt time watch = IfSome watch.before (λ before. before ≡ time)

-- what is found of a block by its verdict
abbrev pub finding_of : ℕ → Entry → Verdict → List Finding → List Finding
finding_of block entry (verdict.Corrupt sector part) others = finding.Corrupt (record { 0 = block }) entry sector part ∷ others
finding_of block entry _ others = others

-- the corrupt blocks of a run, in rising order
abbrev pub corrupt_run : ℕ → List Entry → List Verdict → List Finding
corrupt_run first [] verdicts = []
corrupt_run first (entry ∷ entries) [] = []
corrupt_run first (entry ∷ entries) (judged ∷ verdicts) = finding_of first entry judged (corrupt_run (first + 1) entries verdicts)

-- what a look found
abbrev pub found_by : Look → ℕ → List Entry → List Verdict → List Finding
found_by look.Skipped first entries verdicts = []
found_by look.Fault first entries verdicts = []
found_by (look.Read corrupt) first entries verdicts = corrupt_run first entries verdicts

-- whether the first block of a run is settled
abbrev pub first_settled : List Entry → Bool
first_settled [] = false
first_settled (entry ∷ entries) = is_settled entry

-- By these verdicts no block is corrupt, whatever its number and entry are.
abbrev pub FindsNone : List Verdict → Type 0
FindsNone verdicts = (first : ℕ) (entries : List Entry) → corrupt_run first entries verdicts ≡ []

-- whether a look forbids a write: it failed, or found a corrupt block
abbrev pub forbids : Look → Bool
forbids look.Skipped = false
forbids look.Fault = true
forbids (look.Read corrupt) = nat_lt 0 corrupt

-- what is found of one block
abbrev pub finding_by : BlockNo → Entry → Verdict → Option Finding
finding_by block entry (verdict.Corrupt sector part) = Some (finding.Corrupt block entry sector part)
finding_by block entry _ = None

-- a look that reported so many corrupt blocks
abbrev pub reporting : Look → ℕ → Look
reporting look.Skipped many = look.Skipped
reporting look.Fault many = look.Fault
reporting (look.Read corrupt) many = look.Read (min corrupt many)
