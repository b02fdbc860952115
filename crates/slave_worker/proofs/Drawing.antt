-- What the turns of a draw come to in a worker's numbers.
use Rattle.std.proofs.Common.{◌≡◌, ◌≢◌, ℕ, zero, suc, ◌*◌, ◌+◌, ◌≤◌, cond, Bool, true, false, refl, sym, ap, ap₂, ◌∙◌, arith, List, [], ◌∷◌, ◌++◌, length, length-append, Option, Some, None}
use Rattle.vd_base.specs.declared.geometry.StoreId.{StoreId}
use Rattle.key_state.specs.declared.entry.Entry.{Entry}
use Rattle.claim_table.specs.Sums.{Each, total}
use Rattle.worker_tally.specs.Dones.{corrupt_of, ended_put, fault, fault_put, faults_of, good, is_refused, reads_of, rereads_of, unended_put, writes_of}
use Rattle.worker_tally.specs.declared.done.Done.{Done}
use Rattle.worker_tally.specs.declared.done.Look.{Look}
use Rattle.worker_tally.specs.declared.done.Look.TheVariants as a_look
use Rattle.worker_tally.specs.declared.done.Put.{Put}
use Rattle.worker_tally.specs.declared.done.Put.TheVariants as a_put
use Rattle.worker_tally.specs.declared.done.Refusal.{Refusal}
use Rattle.slave_worker.specs.Dids.{FollowsRules, IsTurn, fault_found, found_of, found_where_none, where_had}
use Rattle.slave_worker.specs.Drawn.{blocks_read, blocks_written}
use Rattle.slave_worker.specs.Ends.{NoFault}
use Rattle.slave_worker.specs.declared.did.Did.{Did}
use Rattle.slave_worker.specs.declared.did.Rules.{Rules}
use Rattle.slave_worker.proofs.Counts.{not_refused}
use Rattle.slave_worker.proofs.Doing.{fault_found_many, one_kind}
use Rattle.slave_worker.proofs.Sentences.{away_is, away_many, away_one, found_away, had_one}

-- A turn in which nothing went wrong.
pub record IsWell (rules : Rules) (store : StoreId) (did : Did) : Type 0 where
  pub turn : IsTurn rules store did
  pub fault : did.fault ≡ None
  pub faults : where_had faults_of did ≡ 0
  pub corrupt : where_had corrupt_of did ≡ 0

pub all_well : (rules : Rules) (store : StoreId) (dids : List Did) → Each (IsTurn rules store) dids → NoFault dids → total (where_had faults_of) dids ≡ 0 → total (where_had corrupt_of) dids ≡ 0 → Each (IsWell rules store) dids
all_well rules store [] each none faults corrupt = tt
all_well rules store (did ∷ dids) each none faults corrupt =
    (record { turn = each.0; fault = none.0; faults = omega (arith, faults); corrupt = omega (arith, corrupt) }, all_well rules store dids each.1 none.1 (omega (arith, faults)) (omega (arith, corrupt)))

-- Such a write is ended, and by no call that failed.
ended_well : (how : Put) → how ≢ a_put.Skipped → fault_put how ≡ 0 → is_refused how ≡ false → ended_put how ≡ 1
ended_well a_put.Skipped some none unrefused = absurd (some refl)
ended_well a_put.Refused some none unrefused = absurd (let so : true ≡ false = unrefused in cc)
ended_well a_put.Fault some none unrefused = absurd (omega (arith, none))
ended_well (a_put.Unended appended) some none unrefused = absurd (let so : true ≡ false = unrefused in cc)
ended_well a_put.Ended some none unrefused = refl

unended_well : (how : Put) → is_refused how ≡ false → unended_put how ≡ 0
unended_well a_put.Skipped unrefused = refl
unended_well a_put.Refused unrefused = refl
unended_well a_put.Fault unrefused = refl
unended_well (a_put.Unended appended) unrefused = absurd (let so : true ≡ false = unrefused in cc)
unended_well a_put.Ended unrefused = refl

-- What it reads and writes, and what it reads again.
does_so : (rules : Rules) (had : List Entry) (done : Done) (read : Bool) → done.read ≡ read → FollowsRules rules had done → faults_of done ≡ 0 → corrupt_of done ≡ 0 → is_refused done.put ≡ false
    → (cond read (done.many * good done.first) 0 ≡ cond read done.many 0) × (done.many * ended_put done.put ≡ cond read 0 done.many)
does_so rules had done true is follows faults corrupt unrefused =
    let all = follows.read is in
    let once : good done.first ≡ 1 = omega (arith, all.0, faults) in
    let no : ended_put done.put ≡ 0 = ap ended_put all.1 in
    let reads = ap (λ (n : ℕ). done.many * n) once in
    let writes = ap (λ (n : ℕ). done.many * n) no in
    (omega (arith, reads), omega (arith, writes))
does_so rules had done false is follows faults corrupt unrefused =
    let some = follows.writes is (omega (arith, faults, corrupt)) in
    let writes = ap (λ (n : ℕ). done.many * n) (ended_well done.put some (omega (arith, faults)) unrefused) in
    (refl, omega (arith, writes))

rereads_so : (reread : Bool) (many again failed unended ended : ℕ) → again + failed + cond reread unended 0 ≡ cond reread ended 0 → failed ≡ 0 → unended ≡ 0 → many * again ≡ cond reread (many * ended) 0
rereads_so true many again failed unended ended so unfailed whole = let all : again ≡ ended = omega (arith, so, unfailed, whole) in ap (λ (n : ℕ). many * n) all
rereads_so false many again failed unended ended so unfailed whole = let all : again ≡ 0 = omega (arith, so, unfailed) in let times = ap (λ (n : ℕ). many * n) all in omega (arith, times)

pub does_all : (rules : Rules) (store : StoreId) (did : Did) → IsWell rules store did → did.refusal ≡ None → (where_had reads_of did ≡ blocks_read did.turn) × (where_had writes_of did ≡ blocks_written did.turn)
does_all rules store did well why =
    let all = well.turn.had why in
    let so = does_so rules did.had did.done did.done.read refl all.follows (sym (had_one faults_of did why) ∙ well.faults) (sym (had_one corrupt_of did why) ∙ well.corrupt) (not_refused (is_refused did.done.put) did.fault all.refused well.fault) in
    (had_one reads_of did why ∙ so.0 ∙ ap₂ (λ (b : Bool) (n : ℕ). cond b n 0) all.reads all.many, had_one writes_of did why ∙ so.1 ∙ ap₂ (λ (b : Bool) (n : ℕ). cond b 0 n) all.reads all.many)

cond_none : (b : Bool) (n : ℕ) → n ≡ 0 → cond b n 0 ≡ 0
cond_none true n none = none
cond_none false n none = refl

rereads_one : (rules : Rules) (store : StoreId) (why : Option Refusal) (did : Did) → IsWell rules store did → did.refusal ≡ why → where_had rereads_of did ≡ cond rules.reread (where_had writes_of did) 0
rereads_one rules store None did well why =
    let all = well.turn.had why in
    let faults : faults_of did.done ≡ 0 = sym (had_one faults_of did why) ∙ well.faults in
    let unended = unended_well did.done.put (not_refused (is_refused did.done.put) did.fault all.refused well.fault) in
    let so = rereads_so rules.reread did.done.many (good did.done.again) (fault did.done.again) (unended_put did.done.put) (ended_put did.done.put) all.follows.reread (omega (arith, faults)) unended in
    had_one rereads_of did why ∙ so ∙ ap (λ (n : ℕ). cond rules.reread n 0) (sym (had_one writes_of did why))
rereads_one rules store (Some refused) did well why = away_one rereads_of did refused why ∙ sym (cond_none rules.reread (where_had writes_of did) (away_one writes_of did refused why))

cond_plus : (b : Bool) (m n : ℕ) → cond b m 0 + cond b n 0 ≡ cond b (m + n) 0
cond_plus true m n = refl
cond_plus false m n = refl

pub rereads_all : (rules : Rules) (store : StoreId) (dids : List Did) → Each (IsWell rules store) dids → total (where_had rereads_of) dids ≡ cond rules.reread (total (where_had writes_of) dids) 0
rereads_all rules store [] each = sym (cond_none rules.reread 0 refl)
rereads_all rules store (did ∷ dids) each =
    omega (arith, rereads_one rules store did.refusal did each.0 refl, rereads_all rules store dids each.1, cond_plus rules.reread (where_had writes_of did) (total (where_had writes_of) dids))

-- A turn of one block reads it, writes it, or was refused.
turn_parts : (read : Bool) (many : ℕ) → cond read many 0 + cond read 0 many ≡ many
turn_parts true many = omega arith
turn_parts false many = omega arith

one_each : (rules : Rules) (store : StoreId) (why : Option Refusal) (did : Did) → IsWell rules store did → did.refusal ≡ why → did.turn.many ≡ 1 → where_had reads_of did + where_had writes_of did + away_many did ≡ 1
one_each rules store None did well why one =
    let so = does_all rules store did well why in
    omega (arith, so.0, so.1, turn_parts did.turn.read did.turn.many, one, away_is did None why)
one_each rules store (Some refused) did well why one = omega (arith, away_one reads_of did refused why, away_one writes_of did refused why, away_is did (Some refused) why)

pub ones_all : (rules : Rules) (store : StoreId) (dids : List Did) → Each (IsWell rules store) dids → Each (λ did. did.turn.many ≡ 1) dids → total (where_had reads_of) dids + total (where_had writes_of) dids + total away_many dids ≡ length dids
ones_all rules store [] each ones = refl
ones_all rules store (did ∷ dids) each ones = omega (arith, one_each rules store did.refusal did each.0 refl ones.0, ones_all rules store dids each.1 ones.1)

-- No turn reads or writes more blocks than it has.
good_most : (one : Look) → good one ≤ 1
good_most a_look.Skipped = omega arith
good_most a_look.Fault = omega arith
good_most (a_look.Read corrupt) = omega arith

ended_most : (how : Put) → ended_put how ≤ 1
ended_most a_put.Skipped = omega arith
ended_most a_put.Refused = omega arith
ended_most a_put.Fault = omega arith
ended_most (a_put.Unended true) = omega arith
ended_most (a_put.Unended false) = omega arith
ended_most a_put.Ended = omega arith

times_most : (many one : ℕ) → one ≤ 1 → many * one ≤ many
times_most many zero few = omega arith
times_most many (suc zero) few = omega arith
times_most many (suc (suc more)) few = absurd (omega (arith, few))

few_so : (rules : Rules) (had : List Entry) (done : Done) (read : Bool) → done.read ≡ read → FollowsRules rules had done → (cond read (done.many * good done.first) 0 ≤ cond read done.many 0) × (done.many * ended_put done.put ≤ cond read 0 done.many)
few_so rules had done true is follows =
    let writes = ap (λ (p : Put). done.many * ended_put p) (follows.read is).1 in
    (times_most done.many (good done.first) (good_most done.first), omega (arith, writes))
few_so rules had done false is follows = (omega arith, times_most done.many (ended_put done.put) (ended_most done.put))

few_one : (rules : Rules) (store : StoreId) (why : Option Refusal) (did : Did) → IsTurn rules store did → did.refusal ≡ why → (where_had reads_of did ≤ blocks_read did.turn) × (where_had writes_of did ≤ blocks_written did.turn)
few_one rules store None did is why =
    let all = is.had why in
    let so = few_so rules did.had did.done did.done.read refl all.follows in
    let reads = ap₂ (λ (b : Bool) (n : ℕ). cond b n 0) all.reads all.many in
    let writes = ap₂ (λ (b : Bool) (n : ℕ). cond b 0 n) all.reads all.many in
    (omega (arith, had_one reads_of did why, so.0, reads), omega (arith, had_one writes_of did why, so.1, writes))
few_one rules store (Some refused) did is why = (omega (arith, away_one reads_of did refused why), omega (arith, away_one writes_of did refused why))

pub few_all : (rules : Rules) (store : StoreId) (dids : List Did) → Each (IsTurn rules store) dids → (total (where_had reads_of) dids ≤ total (λ did. blocks_read did.turn) dids) × (total (where_had writes_of) dids ≤ total (λ did. blocks_written did.turn) dids)
few_all rules store [] each = (omega arith, omega arith)
few_all rules store (did ∷ dids) each =
    let one = few_one rules store did.refusal did each.0 refl in
    let rest = few_all rules store dids each.1 in
    (omega (arith, one.0, rest.0), omega (arith, one.1, rest.1))

-- Where none was refused they read and write all of them.
unaway : (did : Did) → away_many did ≡ 0 → (why : Option Refusal) → did.refusal ≡ why → did.refusal ≡ None
unaway did none None why = why
unaway did none (Some refused) why = absurd (omega (arith, none, away_is did (Some refused) why))

pub draw_all : (rules : Rules) (store : StoreId) (dids : List Did) → Each (IsWell rules store) dids → total away_many dids ≡ 0 → (total (where_had reads_of) dids ≡ total (λ did. blocks_read did.turn) dids) × (total (where_had writes_of) dids ≡ total (λ did. blocks_written did.turn) dids)
draw_all rules store [] each none = (refl, refl)
draw_all rules store (did ∷ dids) each none =
    let one = does_all rules store did each.0 (unaway did (omega (arith, none)) did.refusal refl) in
    let rest = draw_all rules store dids each.1 (omega (arith, none)) in
    (omega (arith, one.0, rest.0), omega (arith, one.1, rest.1))

-- A turn in which nothing went wrong found nothing.
pub found_none : (rules : Rules) (store : StoreId) (why : Option Refusal) (did : Did) → IsWell rules store did → did.refusal ≡ why → length (found_of did) ≡ 0
found_none rules store None did well why =
    let all = well.turn.had why in
    let found : found_of did ≡ fault_found did.turn.block.0 did.done ++ did.corrupt = ap (λ (r : Option Refusal). found_where_none r (fault_found did.turn.block.0 did.done ++ did.corrupt)) why in
    let many = fault_found_many did.turn.block.0 did.done (one_kind rules did.had did.done all.follows) in
    omega (arith, ap length found, length-append (fault_found did.turn.block.0 did.done) did.corrupt, many, all.as_many, had_one faults_of did why, had_one corrupt_of did why, well.faults, well.corrupt)
found_none rules store (Some refused) did well why = ap length (found_away did refused why)
