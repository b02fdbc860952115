-- Which of two statuses a command ends with.
use Rattle.std.specs.Prelude.{ℕ, List, nat_lt, if◌then◌else◌}
use Rattle.std.specs.List.{list_any}
use Rattle.worker_tally.specs.Tallies.{Tallied}
use Rattle.run_report.specs.declared.status.Status.{Status}
use Rattle.run_report.specs.declared.status.Status.TheVariants as status

-- What runs find by its weight: a failed device hides corrupt blocks, a journal at its last epoch's end hides both, and one that failed all
-- of them. What ends a command at once hides the rest.
abbrev pub weight_of : Status → ℕ
weight_of status.Good = 0
weight_of status.Corrupt = 1
weight_of status.Device = 2
weight_of status.EpochEnd = 3
weight_of status.Journal = 4
weight_of _ = 5

abbrev pub worse : Status → Status → Status
worse first rest = if nat_lt (weight_of first) (weight_of rest) then rest else first

-- what the tallies of a run's workers say: a device failed, a block is corrupt, or neither
abbrev pub tallies_status : List Tallied → Status
tallies_status tallies =
    if list_any (λ tally. nat_lt 0 tally.numbers.faults) tallies then status.Device
    else if list_any (λ tally. nat_lt 0 tally.numbers.corrupt) tallies then status.Corrupt else status.Good
