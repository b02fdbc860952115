-- The loops of a run definition.
use Rattle.std.specs.Prelude.{ℕ, List, [], ◌∷◌, ◌*◌, Some, None, if◌then◌else◌, codes, length}
use Rattle.std.specs.List.{flat_map}
use Rattle.std.specs.Str.{bytes_eq}
use Rattle.parm_records.specs.declared.runs.RdDef.{RdDef}
use Rattle.run_plan.specs.declared.loops.Settings.{Settings}

-- the values of a loop
abbrev pub values_of : RdDef → List ℕ → List ℕ
values_of d word =
    if bytes_eq word (codes "forthreads") then d.forthreads
    else if bytes_eq word (codes "forxfersize") then d.forxfersize
    else d.forrdpct

-- what a value of a loop replaces
abbrev pub replaced : Settings → List ℕ → ℕ → Settings
replaced settings word value =
    if bytes_eq word (codes "forthreads") then record settings { threads = Some value }
    else if bytes_eq word (codes "forxfersize") then record settings { xfersize = Some value }
    else record settings { rdpct = Some value }

-- nothing is replaced
abbrev pub as_defined : Settings
as_defined = record { threads = None; xfersize = None; rdpct = None }

-- the runs of the loops, the outermost first and slowest
abbrev pub settings_of : RdDef → List (List ℕ) → Settings → List Settings
settings_of d [] settings = settings ∷ []
settings_of d (word ∷ words) settings = flat_map (λ value. settings_of d words (replaced settings word value)) (values_of d word)

-- their number, which needs no list
abbrev pub count_of : RdDef → List (List ℕ) → ℕ
count_of d [] = 1
count_of d (word ∷ words) = length (values_of d word) * count_of d words
