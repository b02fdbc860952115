-- What each turn adds, and all together.
use Rattle.std.proofs.Common.{◌≡◌, ℕ, zero, suc, ◌+◌, ◌*◌, ◌≤◌, ◌==◌, cond, Bool, true, false, refl, sym, ap, subst, ◌∙◌, arith, List, [], ◌∷◌, ◌++◌, length, length-append, length-take-le, map, take, append_assoc, append-nil, Option, Some, None, is_some}
use Rattle.std.proofs.lemmas.List.{length-map, length-reverse}
use Rattle.vd_base.specs.declared.geometry.StoreId.{StoreId}
use Rattle.block_verdict.specs.declared.finding.Finding.{Finding}
use Rattle.claim_table.specs.Sums.{Each, total}
use Rattle.seat_ops.specs.Holds.{falling}
use Rattle.worker_tally.specs.Dones.{corrupt_of, ended_put, faults_of, good, good_reads_of, has_called, prereads_of, reads_of, rereads_of, writes_of}
use Rattle.worker_tally.specs.Laws.{DoneTurns}
use Rattle.worker_tally.specs.Tallies.{Tallied, turns_in}
use Rattle.worker_tally.specs.declared.done.Done.{Done}
use Rattle.worker_tally.specs.declared.done.Put.{Put}
use Rattle.worker_tally.specs.declared.done.Put.TheVariants as a_put
use Rattle.worker_tally.specs.declared.done.Refusal.{Refusal}
use Rattle.worker_tally.specs.declared.done.Refusal.TheVariants as refusal
use Rattle.worker_tally.specs.declared.row.Intervals.{Intervals}
use Rattle.slave_worker.specs.Dids.{AreSpoilt, IsTurn, block_of, fault_found, found_of, found_where_none, where_had, where_none, wrote_of}
use Rattle.slave_worker.specs.Ends.{NoFault}
use Rattle.slave_worker.specs.Sentences.{CorruptAreBad, NoMoreCorrupt, NotedOnce, ReadsAreGood, WritesAreEnded}
use Rattle.slave_worker.specs.Standings.{Standing, Worked, found_many, listed, tallied, turn_tallied}
use Rattle.slave_worker.specs.declared.did.Did.{Did}
use Rattle.slave_worker.specs.declared.did.Rules.{Rules}

-- a number of a turn that had its blocks, and of one that was refused
pub had_one : (count : Done → ℕ) (did : Did) → did.refusal ≡ None → where_had count did ≡ count did.done
had_one count did is = ap (λ (r : Option Refusal). where_none r (count did.done)) is

pub away_one : (count : Done → ℕ) (did : Did) (why : Refusal) → did.refusal ≡ Some why → where_had count did ≡ 0
away_one count did why is = ap (λ (r : Option Refusal). where_none r (count did.done)) is

pub found_away : (did : Did) (why : Refusal) → did.refusal ≡ Some why → found_of did ≡ []
found_away did why is = ap (λ (r : Option Refusal). found_where_none r (fault_found did.turn.block.0 did.done ++ did.corrupt)) is

-- 1 for a turn that was refused, and for one that called its device
abbrev pub refused_many : Option Refusal → ℕ
refused_many None = 0
refused_many (Some why) = 1

abbrev pub called_in : Done → ℕ
called_in done = cond (has_called done) 1 0

abbrev pub away_many : Did → ℕ
away_many did = refused_many did.refusal

pub away_is : (did : Did) (why : Option Refusal) → did.refusal ≡ why → away_many did ≡ refused_many why
away_is did why is = ap refused_many is

-- the findings of turns, in the order in which they were made
abbrev pub found_in : List Did → List Finding
found_in [] = []
found_in (did ∷ dids) = found_in dids ++ found_of did

-- What turns add to a tally.
pub record Grew (dids : List Did) (old new : Tallied) : Type 0 where
  pub turns : new.numbers.turns ≡ old.numbers.turns + length dids
  pub reads : new.numbers.reads ≡ old.numbers.reads + total (where_had reads_of) dids
  pub prereads : new.numbers.prereads ≡ old.numbers.prereads + total (where_had prereads_of) dids
  pub rereads : new.numbers.rereads ≡ old.numbers.rereads + total (where_had rereads_of) dids
  pub writes : new.numbers.writes ≡ old.numbers.writes + total (where_had writes_of) dids
  pub away : new.numbers.busy + new.numbers.badskip ≡ old.numbers.busy + old.numbers.badskip + total away_many dids
  pub faults : new.numbers.faults ≡ old.numbers.faults + total (where_had faults_of) dids
  pub corrupt : new.numbers.corrupt ≡ old.numbers.corrupt + total (where_had corrupt_of) dids
  pub found : new.findings ≡ old.findings ++ found_in dids
  pub rows : turns_in new.rows ≡ turns_in old.rows + total (where_had called_in) dids

grew_away : (why : Refusal) (did : Did) (dids : List Did) (intervals : Intervals) (size : ℕ) (old new : Tallied) → did.refusal ≡ Some why → Grew dids old new → Grew (did ∷ dids) old (turn_tallied (Some why) intervals size did new)
grew_away refusal.Busy did dids intervals size old new is so = record {
  turns = omega (arith, so.turns);
  reads = omega (arith, so.reads, away_one reads_of did refusal.Busy is);
  prereads = omega (arith, so.prereads, away_one prereads_of did refusal.Busy is);
  rereads = omega (arith, so.rereads, away_one rereads_of did refusal.Busy is);
  writes = omega (arith, so.writes, away_one writes_of did refusal.Busy is);
  away = omega (arith, so.away, away_is did (Some refusal.Busy) is);
  faults = omega (arith, so.faults, away_one faults_of did refusal.Busy is);
  corrupt = omega (arith, so.corrupt, away_one corrupt_of did refusal.Busy is);
  found = so.found ∙ ap (λ l. old.findings ++ l) (sym (append-nil (found_in dids)) ∙ ap (λ l. found_in dids ++ l) (sym (found_away did refusal.Busy is)));
  rows = omega (arith, so.rows, away_one called_in did refusal.Busy is);
}
grew_away refusal.Bad did dids intervals size old new is so = record {
  turns = omega (arith, so.turns);
  reads = omega (arith, so.reads, away_one reads_of did refusal.Bad is);
  prereads = omega (arith, so.prereads, away_one prereads_of did refusal.Bad is);
  rereads = omega (arith, so.rereads, away_one rereads_of did refusal.Bad is);
  writes = omega (arith, so.writes, away_one writes_of did refusal.Bad is);
  away = omega (arith, so.away, away_is did (Some refusal.Bad) is);
  faults = omega (arith, so.faults, away_one faults_of did refusal.Bad is);
  corrupt = omega (arith, so.corrupt, away_one corrupt_of did refusal.Bad is);
  found = so.found ∙ ap (λ l. old.findings ++ l) (sym (append-nil (found_in dids)) ∙ ap (λ l. found_in dids ++ l) (sym (found_away did refusal.Bad is)));
  rows = omega (arith, so.rows, away_one called_in did refusal.Bad is);
}

grew_more : (law : DoneTurns) (why : Option Refusal) (did : Did) (dids : List Did) (intervals : Intervals) (size : ℕ) (old new : Tallied) → did.refusal ≡ why → Grew dids old new → Grew (did ∷ dids) old (turn_tallied why intervals size did new)
grew_more law None did dids intervals size old new is so = record {
  turns = omega (arith, so.turns);
  reads = omega (arith, so.reads, had_one reads_of did is);
  prereads = omega (arith, so.prereads, had_one prereads_of did is);
  rereads = omega (arith, so.rereads, had_one rereads_of did is);
  writes = omega (arith, so.writes, had_one writes_of did is);
  away = omega (arith, so.away, away_is did None is);
  faults = omega (arith, so.faults, had_one faults_of did is);
  corrupt = omega (arith, so.corrupt, had_one corrupt_of did is);
  found = ap (λ l. l ++ found_of did) so.found ∙ append_assoc old.findings (found_in dids) (found_of did);
  rows = omega (arith, so.rows, had_one called_in did is, law intervals size did.done (record new { findings = new.findings ++ found_of did }));
}
grew_more law (Some why) did dids intervals size old new is so = grew_away why did dids intervals size old new is so

pub grew : (law : DoneTurns) (dids : List Did) (intervals : Intervals) (size : ℕ) (old : Tallied) → Grew dids old (tallied intervals size dids old)
grew law [] intervals size old = record {
  turns = omega arith;
  reads = omega arith;
  prereads = omega arith;
  rereads = omega arith;
  writes = omega arith;
  away = omega arith;
  faults = omega arith;
  corrupt = omega arith;
  found = sym (append-nil old.findings);
  rows = omega arith;
}
grew law (did ∷ dids) intervals size old = grew_more law did.refusal did dids intervals size old (tallied intervals size dids old) refl (grew law dids intervals size old)

pub grew_by : (law : DoneTurns) (rules : Rules) (store : StoreId) (dids : List Did) (looks : ℕ) (before after : Standing) → Worked rules.intervals store.geometry.block_size dids looks before after → Grew dids before.tally after.tally
grew_by law rules store dids looks before after worked = subst (λ (t : Tallied). Grew dids before.tally t) (sym worked.tally) (grew law dids rules.intervals store.geometry.block_size before.tally)

-- Each turn's numbers add up to those of all.
sums_same : (Holds : Did → Type 0) (one two : Did → ℕ) → ((did : Did) → Holds did → one did ≡ two did) → (dids : List Did) → Each Holds dids → total one dids ≡ total two dids
sums_same Holds one two each [] all = refl
sums_same Holds one two each (did ∷ dids) all = omega (arith, each did all.0, sums_same Holds one two each dids all.1)

pub listed_long : {A : Type 0} (Holds : Did → Type 0) (lists : Did → List A) (many : Did → ℕ) → ((did : Did) → Holds did → length (lists did) ≡ many did) → (dids : List Did) → Each Holds dids → length (listed lists dids) ≡ total many dids
listed_long Holds lists many each [] all = refl
listed_long Holds lists many each (did ∷ dids) all = omega (arith, length-append (lists did) (listed lists dids), each did all.0, listed_long Holds lists many each dids all.1)

-- Ended writes.
falling_long : (many first : ℕ) → length (falling first many) ≡ many
falling_long zero first = refl
falling_long (suc many) first = omega (arith, falling_long many first)

put_long : (how : Put) (many first : ℕ) → length (cond (ended_put how == 0) [] (falling first many)) ≡ many * ended_put how
put_long a_put.Skipped many first = omega arith
put_long a_put.Refused many first = omega arith
put_long a_put.Fault many first = omega arith
put_long (a_put.Unended true) many first = omega (arith, falling_long many first)
put_long (a_put.Unended false) many first = omega arith
put_long a_put.Ended many first = omega (arith, falling_long many first)

pub wrote_one : (rules : Rules) (store : StoreId) (why : Option Refusal) (did : Did) → IsTurn rules store did → did.refusal ≡ why → length (wrote_of did) ≡ where_had writes_of did
wrote_one rules store None did is why =
    let all = is.had why in
    ap (λ (n : ℕ). length (cond (n == 0) [] (falling did.turn.block.0 did.turn.many))) (had_one (λ done. ended_put done.put) did why)
    ∙ put_long did.done.put did.turn.many did.turn.block.0
    ∙ ap (λ (n : ℕ). n * ended_put did.done.put) (sym all.many)
    ∙ sym (had_one writes_of did why)
wrote_one rules store (Some refused) did is why =
    ap (λ (n : ℕ). length (cond (n == 0) [] (falling did.turn.block.0 did.turn.many))) (away_one (λ done. ended_put done.put) did refused why)
    ∙ sym (away_one writes_of did refused why)

pub writes_ended : (law : DoneTurns) → WritesAreEnded
writes_ended law rules store dids looks before after each worked =
    let so = grew_by law rules store dids looks before after worked in
    let long = listed_long (IsTurn rules store) wrote_of (where_had writes_of) (λ did is. wrote_one rules store did.refusal did is refl) dids each in
    omega (arith, so.writes, long, ap length worked.view.wrote, length-append (listed wrote_of dids) before.view.wrote)

-- Corrupt blocks.
spoilt_long : (corrupt : List Finding) (bad : ℕ) (spoilt : List ℕ) → AreSpoilt corrupt bad spoilt → length spoilt ≡ bad
spoilt_long corrupt bad spoilt are = ap length are.1 ∙ length-reverse (map block_of (take bad corrupt)) ∙ length-map (take bad corrupt) block_of ∙ length-take-le bad corrupt are.0

spoilt_one : (rules : Rules) (store : StoreId) (why : Option Refusal) (did : Did) → IsTurn rules store did → did.refusal ≡ why → (length did.spoilt ≤ where_had corrupt_of did) × (did.fault ≡ None → length did.spoilt ≡ where_had corrupt_of did)
spoilt_one rules store None did is why =
    let all = is.had why in
    let long = spoilt_long did.corrupt all.spoilt.0 did.spoilt all.spoilt.1 in
    let had = had_one corrupt_of did why in
    let few = all.spoilt.1.0 in
    (omega (arith, long, had, few, all.as_many), λ none. let same = all.spoilt.3 none in omega (arith, long, had, same, all.as_many))
spoilt_one rules store (Some refused) did is why =
    let was = is.away (ap is_some why) in
    let none = ap length was.none_bad in
    let away = away_one corrupt_of did refused why in
    (omega (arith, none, away), λ no_fault. omega (arith, none, away))

spoilt_most : (rules : Rules) (store : StoreId) (dids : List Did) → Each (IsTurn rules store) dids → length (listed (λ did. did.spoilt) dids) ≤ total (where_had corrupt_of) dids
spoilt_most rules store [] each = omega arith
spoilt_most rules store (did ∷ dids) each = omega (arith, length-append did.spoilt (listed (λ one. one.spoilt) dids), (spoilt_one rules store did.refusal did each.0 refl).0, spoilt_most rules store dids each.1)

spoilt_same : (rules : Rules) (store : StoreId) (dids : List Did) → Each (IsTurn rules store) dids → NoFault dids → length (listed (λ did. did.spoilt) dids) ≡ total (where_had corrupt_of) dids
spoilt_same rules store [] each none = refl
spoilt_same rules store (did ∷ dids) each none = omega (arith, length-append did.spoilt (listed (λ one. one.spoilt) dids), (spoilt_one rules store did.refusal did each.0 refl).1 none.0, spoilt_same rules store dids each.1 none.1)

pub corrupt_bad : (law : DoneTurns) → CorruptAreBad
corrupt_bad law rules store dids looks before after each worked =
    let so = grew_by law rules store dids looks before after worked in
    omega (arith, so.corrupt, spoilt_most rules store dids each, ap length worked.view.spoilt, length-append (listed (λ did. did.spoilt) dids) before.view.spoilt)

pub corrupt_same : (law : DoneTurns) → NoMoreCorrupt
corrupt_same law rules store dids looks before after each worked none =
    let so = grew_by law rules store dids looks before after worked in
    omega (arith, so.corrupt, spoilt_same rules store dids each none, ap length worked.view.spoilt, length-append (listed (λ did. did.spoilt) dids) before.view.spoilt)

-- Good reads.
read_parts : (read : Bool) (many one two : ℕ) → cond read (many * one) 0 + cond read 0 (many * one) + many * two ≡ many * (one + two)
read_parts true many one two = omega arith
read_parts false many one two = omega arith

reads_one : (why : Option Refusal) (did : Did) → did.refusal ≡ why → where_had reads_of did + where_had prereads_of did + where_had rereads_of did ≡ where_had good_reads_of did
reads_one None did why = omega (arith, had_one reads_of did why, had_one prereads_of did why, had_one rereads_of did why, had_one good_reads_of did why, read_parts did.done.read did.done.many (good did.done.first) (good did.done.again))
reads_one (Some refused) did why = omega (arith, away_one reads_of did refused why, away_one prereads_of did refused why, away_one rereads_of did refused why, away_one good_reads_of did refused why)

reads_all : (dids : List Did) → total (where_had reads_of) dids + total (where_had prereads_of) dids + total (where_had rereads_of) dids ≡ total (where_had good_reads_of) dids
reads_all [] = refl
reads_all (did ∷ dids) = omega (arith, reads_one did.refusal did refl, reads_all dids)

pub reads_good : (law : DoneTurns) → ReadsAreGood
reads_good law rules store dids looks before after each worked =
    let so = grew_by law rules store dids looks before after worked in
    (total (where_had good_reads_of) dids, omega (arith, so.reads, so.prereads, so.rereads, reads_all dids), worked.arm.read)

-- Notes.
found_long : (dids : List Did) → length (found_in dids) ≡ total found_many dids
found_long [] = refl
found_long (did ∷ dids) = omega (arith, length-append (found_in dids) (found_of did), found_long dids)

pub noted_once : (law : DoneTurns) → NotedOnce
noted_once law rules store dids looks before after each worked =
    let so = grew_by law rules store dids looks before after worked in
    omega (arith, worked.notes, ap length so.found, length-append before.tally.findings (found_in dids), found_long dids)
