-- The status that a command ends with, and its last lines.
use Rattle.std.specs.Prelude.{ℕ, List, [], codes}
use Rattle.run_report.specs.declared.status.Status.{Status}
use Rattle.run_report.specs.declared.status.Status.TheVariants as status

abbrev pub number_of : Status → ℕ
number_of status.Good = 0
number_of status.Corrupt = 1
number_of status.Device = 2
number_of status.Parameter = 3
number_of status.Usage = 4
number_of status.Source = 5
number_of status.Sink = 6
number_of status.Journal = 7
number_of status.NoJournal = 8
number_of status.Damaged = 9
number_of status.Mismatch = 10
number_of status.Yard = 12
number_of status.EpochEnd = 13
number_of status.NoMemory = 20

-- By cases: the last lines take no memory. Where a write of the output failed none is written any more.
abbrev pub last_text : Status → List ℕ
last_text status.Good = codes "status 0\n"
last_text status.Corrupt = codes "status 1\n"
last_text status.Device = codes "status 2\n"
last_text status.Parameter = codes "status 3\n"
last_text status.Usage = codes "status 4\n"
last_text status.Source = codes "status 5\n"
last_text status.Sink = []
last_text status.Journal = codes "status 7\n"
last_text status.NoJournal = codes "status 8\n"
last_text status.Damaged = codes "status 9\n"
last_text status.Mismatch = codes "status 10\n"
last_text status.Yard = codes "status 12\n"
last_text status.EpochEnd = codes "status 13\n"
last_text status.NoMemory = codes "no memory\nstatus 20\n"
