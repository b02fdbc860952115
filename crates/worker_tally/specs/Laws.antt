-- What holds after any number of calls.
use Rattle.std.specs.Prelude.{ℕ, ◌≡◌, ◌+◌, ◌^◌, ◌≤◌, cond, [], length}
use Rattle.block_verdict.specs.declared.finding.Finding.{Finding}
use Rattle.worker_tally.specs.Dones.{corrupt_of, has_called}
use Rattle.worker_tally.specs.Tallies.{Tallied, AddsUp, IsSmall, IsUpTo, no_numbers, turned_away, turns_in, with_done, with_finding}
use Rattle.worker_tally.specs.declared.done.Done.{Done}
use Rattle.worker_tally.specs.declared.done.Refusal.{Refusal}
use Rattle.worker_tally.specs.declared.row.Intervals.{Intervals}

-- a tally of at most 2^32 turns may take one turn more
abbrev pub FewAreSmall : Type 0
FewAreSmall = (n : ℕ) (t : Tallied) → n ≤ 2 ^ 32 → IsUpTo n t → IsSmall t

-- an empty tally has no turns, and its rows add up
abbrev pub EmptyIsUpTo : Type 0
EmptyIsUpTo = (t : Tallied) → t.numbers ≡ no_numbers → t.rows ≡ [] → IsUpTo 0 t

abbrev pub EmptyAddsUp : Type 0
EmptyAddsUp = (t : Tallied) → t.numbers ≡ no_numbers → t.rows ≡ [] → AddsUp t

-- a turn of at most 64 blocks of at most 1 MiB, with at most as many corrupt ones as both reads of it find, is one turn more
abbrev pub DoneIsOneMore : Type 0
DoneIsOneMore = (n : ℕ) (intervals : Intervals) (size : ℕ) (done : Done) (t : Tallied)
    → size ≤ 1048576 → done.many ≤ 64 → corrupt_of done ≤ 128 → IsUpTo n t → IsUpTo (n + 1) (with_done intervals size done t)

-- so is one that had none of its blocks; a finding is none
abbrev pub RefusalIsOneMore : Type 0
RefusalIsOneMore = (n : ℕ) (refusal : Refusal) (t : Tallied) → IsUpTo n t → IsUpTo (n + 1) (turned_away refusal t)

abbrev pub FindingIsNone : Type 0
FindingIsNone = (n : ℕ) (finding : Finding) (t : Tallied) → IsUpTo n t → IsUpTo n (with_finding finding t)

-- rows that add up still do after each call
abbrev pub DoneAddsUp : Type 0
DoneAddsUp = (intervals : Intervals) (size : ℕ) (done : Done) (t : Tallied) → AddsUp t → AddsUp (with_done intervals size done t)

abbrev pub RefusalAddsUp : Type 0
RefusalAddsUp = (refusal : Refusal) (t : Tallied) → AddsUp t → AddsUp (turned_away refusal t)

abbrev pub FindingAddsUp : Type 0
FindingAddsUp = (finding : Finding) (t : Tallied) → AddsUp t → AddsUp (with_finding finding t)

-- the rows' turns grow by one for a turn that called its device, and by none else
abbrev pub DoneTurns : Type 0
DoneTurns = (intervals : Intervals) (size : ℕ) (done : Done) (t : Tallied)
    → turns_in (with_done intervals size done t).rows ≡ turns_in t.rows + cond (has_called done) 1 0

abbrev pub RefusalTurns : Type 0
RefusalTurns = (refusal : Refusal) (t : Tallied) → turns_in (turned_away refusal t).rows ≡ turns_in t.rows

abbrev pub FindingTurns : Type 0
FindingTurns = (finding : Finding) (t : Tallied) → turns_in (with_finding finding t).rows ≡ turns_in t.rows

-- there are never more rows than intervals
abbrev pub RowsFit : Type 0
RowsFit = (intervals : Intervals) (size : ℕ) (done : Done) (t : Tallied)
    → 1 ≤ intervals.many → length t.rows ≤ intervals.many → length (with_done intervals size done t).rows ≤ intervals.many
