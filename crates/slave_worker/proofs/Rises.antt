-- What the arm's counts and the rows say of a worker's turns.
use Rattle.std.proofs.Common.{◌≡◌, ℕ, ◌*◌, ◌≤◌, true, false, refl, sym, ap, subst, ◌∙◌, arith, List, [], ◌∷◌, ◌++◌, length, length-append, Option, Some, None}
use Rattle.vd_base.specs.declared.geometry.StoreId.{StoreId}
use Rattle.claim_table.specs.Sums.{Each, total}
use Rattle.worker_tally.specs.Dones.{ended_put, faults_of, good_put, good_writes_of, is_refused, writes_of}
use Rattle.worker_tally.specs.Laws.{DoneAddsUp, DoneTurns, RefusalAddsUp}
use Rattle.worker_tally.specs.Tallies.{AddsUp, Tallied}
use Rattle.worker_tally.specs.declared.done.Put.{Put}
use Rattle.worker_tally.specs.declared.done.Put.TheVariants as a_put
use Rattle.worker_tally.specs.declared.done.Refusal.{Refusal}
use Rattle.worker_tally.specs.declared.row.Intervals.{Intervals}
use Rattle.slave_worker.specs.Dids.{IsTurn, found_of, where_had, wrote_of}
use Rattle.slave_worker.specs.Ends.{NoFault}
use Rattle.slave_worker.specs.Sentences.{FaultsAreCounted, RowsAddUp, WritesAreGood}
use Rattle.slave_worker.specs.Standings.{listed, tallied, turn_tallied}
use Rattle.slave_worker.specs.declared.did.Did.{Did}
use Rattle.slave_worker.specs.declared.did.Rules.{Rules}
use Rattle.slave_worker.proofs.Counts.{not_refused}
use Rattle.slave_worker.proofs.Sentences.{away_one, grew_by, had_one, listed_long, wrote_one}

-- A write whose end was recorded was answered by the device, and one that was answered was recorded, unless the book refused.
put_most : (how : Put) → ended_put how ≤ good_put how
put_most a_put.Skipped = omega arith
put_most a_put.Refused = omega arith
put_most a_put.Fault = omega arith
put_most (a_put.Unended true) = omega arith
put_most (a_put.Unended false) = omega arith
put_most a_put.Ended = omega arith

put_same : (how : Put) → is_refused how ≡ false → ended_put how ≡ good_put how
put_same a_put.Skipped refused = refl
put_same a_put.Refused refused = absurd (let so : true ≡ false = refused in cc)
put_same a_put.Fault refused = refl
put_same (a_put.Unended appended) refused = absurd (let so : true ≡ false = refused in cc)
put_same a_put.Ended refused = refl

times_most : (many one two : ℕ) → one ≤ two → many * one ≤ many * two
times_most many one two le = grind arith

writes_one : (rules : Rules) (store : StoreId) (why : Option Refusal) (did : Did) → IsTurn rules store did → did.refusal ≡ why → (where_had writes_of did ≤ where_had good_writes_of did) × (did.fault ≡ None → where_had writes_of did ≡ where_had good_writes_of did)
writes_one rules store None did is why =
    let all = is.had why in
    let one = had_one writes_of did why in
    let two = had_one good_writes_of did why in (
      omega (arith, one, two, times_most did.done.many (ended_put did.done.put) (good_put did.done.put) (put_most did.done.put)),
      λ none. one ∙ ap (λ (n : ℕ). did.done.many * n) (put_same did.done.put (not_refused (is_refused did.done.put) did.fault all.refused none)) ∙ sym two,
    )
writes_one rules store (Some refused) did is why =
    let one = away_one writes_of did refused why in
    let two = away_one good_writes_of did refused why in
    (omega (arith, one, two), λ none. one ∙ sym two)

writes_most : (rules : Rules) (store : StoreId) (dids : List Did) → Each (IsTurn rules store) dids → total (where_had writes_of) dids ≤ total (where_had good_writes_of) dids
writes_most rules store [] each = omega arith
writes_most rules store (did ∷ dids) each = omega (arith, (writes_one rules store did.refusal did each.0 refl).0, writes_most rules store dids each.1)

writes_same : (rules : Rules) (store : StoreId) (dids : List Did) → Each (IsTurn rules store) dids → NoFault dids → total (where_had writes_of) dids ≡ total (where_had good_writes_of) dids
writes_same rules store [] each none = refl
writes_same rules store (did ∷ dids) each none = omega (arith, (writes_one rules store did.refusal did each.0 refl).1 none.0, writes_same rules store dids each.1 none.1)

pub writes_good : WritesAreGood
writes_good rules store dids looks before after each worked =
    let long = listed_long (IsTurn rules store) wrote_of (where_had writes_of) (λ did is. wrote_one rules store did.refusal did is refl) dids each in
    let wrote = ap length worked.view.wrote in
    let both = length-append (listed wrote_of dids) before.view.wrote in
    (total (where_had good_writes_of) dids, worked.arm.written, omega (arith, long, wrote, both, writes_most rules store dids each), λ none. omega (arith, long, wrote, both, writes_same rules store dids each none))

pub faults_counted : (law : DoneTurns) → FaultsAreCounted
faults_counted law rules store dids looks before after each worked =
    let so = grew_by law rules store dids looks before after worked in
    (total (where_had faults_of) dids, so.faults, worked.arm.failed, worked.arm.kept)

rows_one : (done : DoneAddsUp) (refused : RefusalAddsUp) (why : Option Refusal) (did : Did) (intervals : Intervals) (size : ℕ) (tally : Tallied) → AddsUp tally → AddsUp (turn_tallied why intervals size did tally)
rows_one done refused None did intervals size tally adds = done intervals size did.done (record tally { findings = tally.findings ++ found_of did }) (record { reads = adds.reads; writes = adds.writes; bytes = adds.bytes })
rows_one done refused (Some why) did intervals size tally adds = refused why tally adds

rows_all : (done : DoneAddsUp) (refused : RefusalAddsUp) (dids : List Did) (intervals : Intervals) (size : ℕ) (tally : Tallied) → AddsUp tally → AddsUp (tallied intervals size dids tally)
rows_all done refused [] intervals size tally adds = adds
rows_all done refused (did ∷ dids) intervals size tally adds = rows_one done refused did.refusal did intervals size (tallied intervals size dids tally) (rows_all done refused dids intervals size tally adds)

pub rows_add : (done : DoneAddsUp) (refused : RefusalAddsUp) → RowsAddUp
rows_add done refused rules store dids looks before after each worked adds =
    subst (λ (t : Tallied). AddsUp t) (sym worked.tally) (rows_all done refused dids rules.intervals store.geometry.block_size before.tally adds)
