-- What a list of openings says of what is out, and of the counts of what was kept.
use Rattle.std.specs.Prelude.{ℕ, ◌+◌, ◌-◌, ◌%◌, ◌^◌, min, Bool, ◌&&◌, List, [], ◌∷◌, cond}
use Rattle.std.specs.Str.{bytes_eq}
use Rattle.vd_yard.specs.Out.{Out, Kind, AtSource, AtDisk, AtPasses, AtArm, one_at, out_of, same_kind}
use Rattle.vd_yard.specs.Counts.{PathCounts, Counts, counts_of, add_source, add_arm}
use Rattle.vd_yard.specs.declared.ledger.Thing.{Thing}
use Rattle.vd_yard.specs.declared.ledger.Thing.TheVariants as thing
use Rattle.vd_yard.specs.declared.ledger.Opening.{Opening}
use Rattle.vd_yard.specs.declared.ledger.Ledger.{Ledger}

abbrev pub kind_of : Thing → Kind
kind_of thing.Source = AtSource
kind_of thing.Disk = AtDisk
kind_of thing.Passes = AtPasses
kind_of thing.Arm = AtArm

-- how many of these openings are out, by kind and path
abbrev pub outs : List Opening → Kind → List ℕ → ℕ
outs [] k q = 0
outs (o ∷ os) k q = cond o.is_out (one_at (kind_of o.thing) o.path k q) 0 + outs os k q

-- whether an opening is of this kind at this path, and out
abbrev pub is_such : Kind → List ℕ → Opening → Bool
is_such kind path o = o.is_out && same_kind (kind_of o.thing) kind && bytes_eq o.path path

-- a number that counts for sources alone, or for arms alone
abbrev pub source_only : Thing → ℕ → ℕ
source_only thing.Source n = n
source_only thing.Disk n = 0
source_only thing.Passes n = 0
source_only thing.Arm n = 0

abbrev pub arm_only : Thing → ℕ → ℕ
arm_only thing.Source n = 0
arm_only thing.Disk n = 0
arm_only thing.Passes n = 0
arm_only thing.Arm n = n

-- what an opening adds, once it was kept
abbrev pub source_faults_of : Opening → ℕ
source_faults_of o = cond o.is_out 0 (source_only o.thing o.faults)

abbrev pub arm_faults_of : Opening → ℕ
arm_faults_of o = cond o.is_out 0 (arm_only o.thing o.faults)

abbrev pub reads_of : Opening → ℕ
reads_of o = cond o.is_out 0 (arm_only o.thing o.reads)

abbrev pub writes_of : Opening → ℕ
writes_of o = cond o.is_out 0 (arm_only o.thing o.writes)

-- the sum over the openings of a path
abbrev pub sum_at : (Opening → ℕ) → List Opening → List ℕ → ℕ
sum_at f [] q = 0
sum_at f (o ∷ os) q = cond (bytes_eq o.path q) (f o) 0 + sum_at f os q

-- sums as counts: faults held at the greatest u64, good calls modulo 2^64
abbrev pub counted : ℕ → ℕ → ℕ → ℕ → PathCounts
counted sources arms reads writes = record {
  source_faults = min sources (2 ^ 64 - 1);
  arm_faults = min arms (2 ^ 64 - 1);
  good_reads = reads % 2 ^ 64;
  good_writes = writes % 2 ^ 64;
}

abbrev pub counts_in : List Opening → List ℕ → PathCounts
counts_in os q = counted (sum_at source_faults_of os q) (sum_at arm_faults_of os q) (sum_at reads_of os q) (sum_at writes_of os q)

abbrev pub ledger_out : Ledger → Out
ledger_out ledger = out_of (outs ledger.openings.items)

abbrev pub ledger_counts : Ledger → Counts
ledger_counts ledger = counts_of (counts_in ledger.openings.items)

-- what a thing that is kept adds to its path's counts
abbrev pub kept_counts : Thing → Counts → List ℕ → ℕ → ℕ → ℕ → Counts
kept_counts thing.Source c path faults reads writes = add_source c path faults
kept_counts thing.Disk c path faults reads writes = c
kept_counts thing.Passes c path faults reads writes = c
kept_counts thing.Arm c path faults reads writes = add_arm c path faults reads writes
