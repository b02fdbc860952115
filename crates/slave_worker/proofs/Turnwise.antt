-- Each of a worker's numbers, turn by turn.
use Rattle.std.proofs.Common.{◌≡◌, ℕ, ◌+◌, ◌*◌, cond, Bool, true, false, refl, sym, ap, subst, arith, List, [], ◌∷◌, Option, Some, None}
use Rattle.vd_base.specs.declared.geometry.StoreId.{StoreId}
use Rattle.claim_table.specs.Sums.{Each, total}
use Rattle.worker_tally.specs.Dones.{ended_put, fault, good, good_reads_of, good_writes_of, prereads_of, reads_of, rereads_of, unended_put}
use Rattle.worker_tally.specs.Laws.{DoneTurns}
use Rattle.worker_tally.specs.Tallies.{Tallied}
use Rattle.worker_tally.specs.declared.done.Refusal.{Refusal}
use Rattle.worker_tally.specs.declared.done.Refusal.TheVariants as refusal
use Rattle.worker_tally.specs.declared.row.Intervals.{Intervals}
use Rattle.slave_worker.specs.Dids.{IsTurn, some_used, where_had, where_none}
use Rattle.slave_worker.specs.Sentences.{BytesAreMoved, PrereadsOfTurns, ReadsOfTurns, RefusalsAreMet, RereadsOfTurns, bad_in, busy_in, preread_failed, preread_turn, read_failed, read_turn, reread_failed, reread_turn, reread_unended, times_had}
use Rattle.slave_worker.specs.Standings.{tallied, turn_tallied}
use Rattle.slave_worker.specs.declared.did.Did.{Did}
use Rattle.slave_worker.specs.declared.did.Rules.{Rules}
use Rattle.slave_worker.proofs.Sentences.{away_one, grew_by, had_one}

times_one : (count : Did → ℕ) (did : Did) → did.refusal ≡ None → times_had count did ≡ did.done.many * count did
times_one count did is = ap (λ (r : Option Refusal). where_none r (did.done.many * count did)) is

times_none : (count : Did → ℕ) (did : Did) (why : Refusal) → did.refusal ≡ Some why → times_had count did ≡ 0
times_none count did why is = ap (λ (r : Option Refusal). where_none r (did.done.many * count did)) is

read_so : (read : Bool) (many one two : ℕ) → (read ≡ true → one + two ≡ 1) → cond read (many * one) 0 + many * cond read two 0 ≡ many * cond read 1 0
read_so true many one two so = let all = ap (λ (n : ℕ). many * n) (so refl) in omega (arith, all)
read_so false many one two so = omega arith

preread_so : (read : Bool) (many one two three : ℕ) → (read ≡ false → one + two ≡ three) → cond read 0 (many * one) + many * cond read 0 two ≡ many * cond read 0 three
preread_so true many one two three so = omega arith
preread_so false many one two three so = let all = ap (λ (n : ℕ). many * n) (so refl) in omega (arith, all)

reread_so : (many one two three four : ℕ) → one + two + three ≡ four → many * one + many * two + many * three ≡ many * four
reread_so many one two three four so = let all = ap (λ (n : ℕ). many * n) so in omega (arith, all)

reads_one : (rules : Rules) (store : StoreId) (why : Option Refusal) (did : Did) → IsTurn rules store did → did.refusal ≡ why → where_had reads_of did + times_had read_failed did ≡ times_had read_turn did
reads_one rules store None did is why =
    let so = read_so did.done.read did.done.many (good did.done.first) (fault did.done.first) (λ read. ((is.had why).follows.read read).0) in
    omega (arith, had_one reads_of did why, times_one read_failed did why, times_one read_turn did why, so)
reads_one rules store (Some refused) did is why = omega (arith, away_one reads_of did refused why, times_none read_failed did refused why, times_none read_turn did refused why)

prereads_one : (rules : Rules) (store : StoreId) (why : Option Refusal) (did : Did) → IsTurn rules store did → did.refusal ≡ why → where_had prereads_of did + times_had preread_failed did ≡ times_had (preread_turn rules) did
prereads_one rules store None did is why =
    let so = preread_so did.done.read did.done.many (good did.done.first) (fault did.done.first) (cond rules.preread (cond (some_used did.had) 1 0) 0) (is.had why).follows.preread in
    omega (arith, had_one prereads_of did why, times_one preread_failed did why, times_one (preread_turn rules) did why, so)
prereads_one rules store (Some refused) did is why = omega (arith, away_one prereads_of did refused why, times_none preread_failed did refused why, times_none (preread_turn rules) did refused why)

rereads_one : (rules : Rules) (store : StoreId) (why : Option Refusal) (did : Did) → IsTurn rules store did → did.refusal ≡ why → where_had rereads_of did + times_had reread_failed did + times_had (reread_unended rules) did ≡ times_had (reread_turn rules) did
rereads_one rules store None did is why =
    let so = reread_so did.done.many (good did.done.again) (fault did.done.again) (cond rules.reread (unended_put did.done.put) 0) (cond rules.reread (ended_put did.done.put) 0) (is.had why).follows.reread in
    omega (arith, had_one rereads_of did why, times_one reread_failed did why, times_one (reread_unended rules) did why, times_one (reread_turn rules) did why, so)
rereads_one rules store (Some refused) did is why = omega (arith, away_one rereads_of did refused why, times_none reread_failed did refused why, times_none (reread_unended rules) did refused why, times_none (reread_turn rules) did refused why)

reads_all : (rules : Rules) (store : StoreId) (dids : List Did) → Each (IsTurn rules store) dids → total (where_had reads_of) dids + total (times_had read_failed) dids ≡ total (times_had read_turn) dids
reads_all rules store [] each = refl
reads_all rules store (did ∷ dids) each = omega (arith, reads_one rules store did.refusal did each.0 refl, reads_all rules store dids each.1)

prereads_all : (rules : Rules) (store : StoreId) (dids : List Did) → Each (IsTurn rules store) dids → total (where_had prereads_of) dids + total (times_had preread_failed) dids ≡ total (times_had (preread_turn rules)) dids
prereads_all rules store [] each = refl
prereads_all rules store (did ∷ dids) each = omega (arith, prereads_one rules store did.refusal did each.0 refl, prereads_all rules store dids each.1)

rereads_all : (rules : Rules) (store : StoreId) (dids : List Did) → Each (IsTurn rules store) dids → total (where_had rereads_of) dids + total (times_had reread_failed) dids + total (times_had (reread_unended rules)) dids ≡ total (times_had (reread_turn rules)) dids
rereads_all rules store [] each = refl
rereads_all rules store (did ∷ dids) each = omega (arith, rereads_one rules store did.refusal did each.0 refl, rereads_all rules store dids each.1)

pub reads_turns : (law : DoneTurns) → ReadsOfTurns
reads_turns law rules store dids looks before after each worked = omega (arith, (grew_by law rules store dids looks before after worked).reads, reads_all rules store dids each)

pub prereads_turns : (law : DoneTurns) → PrereadsOfTurns
prereads_turns law rules store dids looks before after each worked = omega (arith, (grew_by law rules store dids looks before after worked).prereads, prereads_all rules store dids each)

pub rereads_turns : (law : DoneTurns) → RereadsOfTurns
rereads_turns law rules store dids looks before after each worked = omega (arith, (grew_by law rules store dids looks before after worked).rereads, rereads_all rules store dids each)

-- What the refusals and the bytes add.
record Met (size : ℕ) (dids : List Did) (old new : Tallied) : Type 0 where
  pub busy : new.numbers.busy ≡ old.numbers.busy + total (λ did. busy_in did.refusal) dids
  pub bad : new.numbers.badskip ≡ old.numbers.badskip + total (λ did. bad_in did.refusal) dids
  pub bytes : new.numbers.bytes ≡ old.numbers.bytes + size * (total (where_had good_reads_of) dids + total (where_had good_writes_of) dids)

met_more : (why : Option Refusal) (did : Did) (dids : List Did) (intervals : Intervals) (size : ℕ) (old new : Tallied) → did.refusal ≡ why → Met size dids old new → Met size (did ∷ dids) old (turn_tallied why intervals size did new)
met_more None did dids intervals size old new is so = record {
  busy = omega (arith, so.busy, ap busy_in is);
  bad = omega (arith, so.bad, ap bad_in is);
  bytes = let one = ap (λ (n : ℕ). size * n) (had_one good_reads_of did is) in let two = ap (λ (n : ℕ). size * n) (had_one good_writes_of did is) in omega (arith, so.bytes, one, two);
}
met_more (Some refusal.Busy) did dids intervals size old new is so = record {
  busy = omega (arith, so.busy, ap busy_in is);
  bad = omega (arith, so.bad, ap bad_in is);
  bytes = let one = ap (λ (n : ℕ). size * n) (away_one good_reads_of did refusal.Busy is) in let two = ap (λ (n : ℕ). size * n) (away_one good_writes_of did refusal.Busy is) in omega (arith, so.bytes, one, two);
}
met_more (Some refusal.Bad) did dids intervals size old new is so = record {
  busy = omega (arith, so.busy, ap busy_in is);
  bad = omega (arith, so.bad, ap bad_in is);
  bytes = let one = ap (λ (n : ℕ). size * n) (away_one good_reads_of did refusal.Bad is) in let two = ap (λ (n : ℕ). size * n) (away_one good_writes_of did refusal.Bad is) in omega (arith, so.bytes, one, two);
}

met_all : (dids : List Did) (intervals : Intervals) (size : ℕ) (old : Tallied) → Met size dids old (tallied intervals size dids old)
met_all [] intervals size old = record {
  busy = omega arith;
  bad = omega arith;
  bytes = omega arith;
}
met_all (did ∷ dids) intervals size old = met_more did.refusal did dids intervals size old (tallied intervals size dids old) refl (met_all dids intervals size old)

pub refusals_met : RefusalsAreMet
refusals_met rules store dids looks before after each worked =
    let met = subst (λ (t : Tallied). Met store.geometry.block_size dids before.tally t) (sym worked.tally) (met_all dids rules.intervals store.geometry.block_size before.tally) in
    (met.busy, met.bad)

pub bytes_moved : BytesAreMoved
bytes_moved rules store dids looks before after each worked =
    let met = subst (λ (t : Tallied). Met store.geometry.block_size dids before.tally t) (sym worked.tally) (met_all dids rules.intervals store.geometry.block_size before.tally) in
    (total (where_had good_reads_of) dids, total (where_had good_writes_of) dids, worked.arm.read, worked.arm.written, met.bytes)
