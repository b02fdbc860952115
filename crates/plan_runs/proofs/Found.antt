-- All that a worker finds is in its store's range.
use Rattle.std.proofs.Common.{◌≡◌, refl, sym, subst, arith, ℕ, ◌+◌, ◌<◌, ◌≤◌, ◌==◌, All, Bool, true, false, cond, List, [], ◌∷◌, ◌++◌, drop, length, length-drop, map, Option, Some, None}
use Rattle.std.specs.List.{AllByRecursion}
use Rattle.std.proofs.lemmas.List.{length-map}
use Rattle.std.proofs.lemmas.List.Elements.{All-from_recursion, recursion_from_All}
use Rattle.vd_base.specs.declared.geometry.StoreId.{StoreId}
use Rattle.key_state.specs.Entries.{begun, ended, entry_at}
use Rattle.key_state.specs.declared.entry.Entry.{Entry}
use Rattle.block_verdict.specs.declared.finding.Finding.{Finding}
use Rattle.block_verdict.specs.declared.finding.Finding.TheVariants.{Corrupt, Pending, ReadFault, WriteFault}
use Rattle.claim_table.specs.Sums.{Each}
use Rattle.worker_tally.specs.Dones.{corrupt_in, fault, fault_put}
use Rattle.worker_tally.specs.Tallies.{Tallied}
use Rattle.worker_tally.specs.declared.done.Refusal.{Refusal}
use Rattle.worker_tally.specs.declared.row.Intervals.{Intervals}
use Rattle.slave_worker.specs.Dids.{AreCorrupt, IsCorruptAt, IsTurn, fault_found, found_of, found_where_none, judged_as}
use Rattle.slave_worker.specs.Standings.{tallied, turn_tallied}
use Rattle.slave_worker.specs.declared.did.Did.{Did}
use Rattle.slave_worker.specs.declared.did.Rules.{Rules}
use Rattle.run_report.specs.Findings.{IsPrintable}
use Rattle.plan_runs.specs.Printing.{FindingsHaveLines}

abbrev HaveLines : StoreId → List Finding → Type 0
HaveLines store findings = AllByRecursion (IsPrintable store) findings

both : (store : StoreId) (first second : List Finding) → HaveLines store first → HaveLines store second → HaveLines store (first ++ second)
both store [] second one two = two
both store (finding ∷ first) second one two = (one.0, both store first second one.1 two)

inside : (store : StoreId) (block : ℕ) (had : Entry) (finding : Finding) → block < store.geometry.blocks → IsCorruptAt store block had finding → IsPrintable store finding
inside store block had (Corrupt at entry sector part) below is = (subst (λ (n : ℕ). n < store.geometry.blocks) (sym is.0) below, is.3)
inside store block had (Pending at old new holds) below is = absurd is
inside store block had (ReadFault at) below is = absurd is
inside store block had (WriteFault at) below is = absurd is

corrupt_inside : (store : StoreId) (first : ℕ) (entries : List Entry) (found : List Finding) → first + length entries ≤ store.geometry.blocks → AreCorrupt store first entries found → HaveLines store found
corrupt_inside store first entries [] within are = tt
corrupt_inside store first entries (finding ∷ found) within (k, below, is, rest) = (
  inside store (first + k) (entry_at entries k) finding (omega (arith, within, below)) is,
  corrupt_inside store (first + k + 1) (drop (k + 1) entries) found (omega (arith, within, below, length-drop (k + 1) entries)) rest,
)

judged_long : (b : Bool) (had : List Entry) → length (cond b had (map ended (map begun had))) ≡ length had
judged_long true had = refl
judged_long false had = omega (arith, length-map (map begun had) ended, length-map had begun)

faults_inside : (store : StoreId) (read wrote : Bool) (block : ℕ) → HaveLines store (cond read (cond wrote [] (WriteFault (record { 0 = block }) ∷ [])) (ReadFault (record { 0 = block }) ∷ []))
faults_inside store false wrote block = (tt, tt)
faults_inside store true true block = tt
faults_inside store true false block = (tt, tt)

found_inside : (rules : Rules) (store : StoreId) (did : Did) (refusal : Option Refusal) → did.refusal ≡ refusal → IsTurn rules store did → HaveLines store (found_where_none refusal (fault_found did.turn.block.0 did.done ++ did.corrupt))
found_inside rules store did (Some refused) is turn = tt
found_inside rules store did None is turn =
    let had = turn.had is in
    let long = judged_long (corrupt_in did.done.again == 0) did.had in
    both store (fault_found did.turn.block.0 did.done) did.corrupt
    (faults_inside store (fault did.done.first + fault did.done.again == 0) (fault_put did.done.put == 0) did.turn.block.0)
    (corrupt_inside store did.turn.block.0 (judged_as did.had did.done) did.corrupt (omega (arith, long, had.all, turn.inside.inside)) had.corrupt)

one_more : (store : StoreId) (intervals : Intervals) (size : ℕ) (did : Did) (refusal : Option Refusal) (old : Tallied) → HaveLines store old.findings → HaveLines store (found_of did) → HaveLines store (turn_tallied refusal intervals size did old).findings
one_more store intervals size did None old was found = both store old.findings (found_of did) was found
one_more store intervals size did (Some refused) old was found = was

all_tallied : (rules : Rules) (store : StoreId) (intervals : Intervals) (size : ℕ) (dids : List Did) (old : Tallied) → Each (IsTurn rules store) dids → HaveLines store old.findings → HaveLines store (tallied intervals size dids old).findings
all_tallied rules store intervals size [] old turns was = was
all_tallied rules store intervals size (did ∷ dids) old turns was =
    one_more store intervals size did did.refusal (tallied intervals size dids old) (all_tallied rules store intervals size dids old turns.1 was)
    (found_inside rules store did did.refusal refl turns.0)

pub findings_lines : FindingsHaveLines
findings_lines rules store turns drawn before after answers end worked all =
    subst (λ (tally : Tallied). All (IsPrintable store) tally.findings) (sym worked.3.tally)
    (All-from_recursion (IsPrintable store) (tallied rules.intervals store.geometry.block_size worked.0 before.tally).findings
    (all_tallied rules store rules.intervals store.geometry.block_size worked.0 before.tally worked.1 (recursion_from_All (IsPrintable store) before.tally.findings all)))
