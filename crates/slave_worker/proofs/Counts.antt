-- The kinds of a turn's findings, and whether it called its device.
use Rattle.std.proofs.Common.{◌≡◌, ◌≢◌, ℕ, zero, suc, ◌+◌, ◌<◌, ◌≤◌, ◌==◌, cond, lt-ltb, Bool, true, false, refl, sym, ap, ◌∙◌, arith, List, [], ◌∷◌, ◌++◌, length, Option, Some, None, IsSome, is_some}
use Rattle.vd_base.specs.declared.geometry.BlockNo.{BlockNo}
use Rattle.vd_base.specs.declared.geometry.StoreId.{StoreId}
use Rattle.key_state.specs.declared.entry.Entry.{Entry}
use Rattle.key_state.specs.declared.fault.BookFault.{BookFault}
use Rattle.block_verdict.specs.declared.finding.Finding.{Finding}
use Rattle.block_verdict.specs.declared.finding.Finding.TheVariants as finding
use Rattle.claim_table.specs.Sums.{Each, total}
use Rattle.worker_tally.specs.Dones.{calls_of, corrupt_in, corrupt_of, fault, fault_put, faults_of, good, good_put, has_called, is_refused}
use Rattle.worker_tally.specs.Laws.{DoneTurns}
use Rattle.worker_tally.specs.declared.done.Done.{Done}
use Rattle.worker_tally.specs.declared.done.Look.{Look}
use Rattle.worker_tally.specs.declared.done.Look.TheVariants as a_look
use Rattle.worker_tally.specs.declared.done.Put.{Put}
use Rattle.worker_tally.specs.declared.done.Put.TheVariants as a_put
use Rattle.worker_tally.specs.declared.done.Refusal.{Refusal}
use Rattle.slave_worker.specs.Dids.{AreCorrupt, FollowsRules, IsCorruptAt, IsTurn, fault_found, found_of, found_where_none, where_had}
use Rattle.slave_worker.specs.Ends.{MetFault, NoFault}
use Rattle.slave_worker.specs.Sentences.{FaultsAreFound, RowsHaveTurns, RowsMissOne, corrupt_block_in, fault_in}
use Rattle.slave_worker.specs.declared.did.Did.{Did}
use Rattle.slave_worker.specs.declared.did.Rules.{Rules}
use Rattle.slave_worker.proofs.Doing.{fault_found_many, one_kind}
use Rattle.slave_worker.proofs.Sentences.{away_is, away_many, away_one, called_in, found_away, found_in, grew_by, had_one}

total_append : {A : Type 0} (count : A → ℕ) (one two : List A) → total count (one ++ two) ≡ total count one + total count two
total_append count [] two = omega arith
total_append count (x ∷ one) two = omega (arith, total_append count one two)

corrupt_kind : (store : StoreId) (block : ℕ) (had : Entry) (one : Finding) → IsCorruptAt store block had one → (fault_in one ≡ 0) × (corrupt_block_in one ≡ 1)
corrupt_kind store block had (finding.Corrupt at entry sector part) is = (refl, refl)
corrupt_kind store block had _ is = absurd is

corrupt_kinds : (findings : List Finding) (store : StoreId) (first : ℕ) (entries : List Entry) → AreCorrupt store first entries findings → (total fault_in findings ≡ 0) × (total corrupt_block_in findings ≡ length findings)
corrupt_kinds [] store first entries are = (refl, refl)
corrupt_kinds (one ∷ findings) store first entries are =
    let kind = corrupt_kind store _ _ one are.2 in
    let rest = corrupt_kinds findings store _ _ are.3 in
    (omega (arith, kind.0, rest.0), omega (arith, kind.1, rest.1))

abbrev failed : Bool → Bool → BlockNo → List Finding
failed no_read no_write block = cond no_read (cond no_write [] (finding.WriteFault block ∷ [])) (finding.ReadFault block ∷ [])

fault_kinds : (no_read no_write : Bool) (block : BlockNo) → (total fault_in (failed no_read no_write block) ≡ length (failed no_read no_write block)) × (total corrupt_block_in (failed no_read no_write block) ≡ 0)
fault_kinds true true block = (refl, refl)
fault_kinds true false block = (refl, refl)
fault_kinds false no_write block = (refl, refl)

found_kinds : (rules : Rules) (store : StoreId) (why : Option Refusal) (did : Did) → IsTurn rules store did → did.refusal ≡ why → (total fault_in (found_of did) ≡ where_had faults_of did) × (total corrupt_block_in (found_of did) ≡ where_had corrupt_of did)
found_kinds rules store None did is why =
    let all = is.had why in
    let found : found_of did ≡ fault_found did.turn.block.0 did.done ++ did.corrupt = ap (λ (r : Option Refusal). found_where_none r (fault_found did.turn.block.0 did.done ++ did.corrupt)) why in
    let kind = fault_kinds (fault did.done.first + fault did.done.again == 0) (fault_put did.done.put == 0) (record { 0 = did.turn.block.0 }) in
    let many = fault_found_many did.turn.block.0 did.done (one_kind rules did.had did.done all.follows) in
    let corrupt = corrupt_kinds did.corrupt store _ _ all.corrupt in (
      ap (total fault_in) found ∙ omega (arith, total_append fault_in (fault_found did.turn.block.0 did.done) did.corrupt, kind.0, many, corrupt.0) ∙ sym (had_one faults_of did why),
      ap (total corrupt_block_in) found ∙ omega (arith, total_append corrupt_block_in (fault_found did.turn.block.0 did.done) did.corrupt, kind.1, corrupt.1, all.as_many) ∙ sym (had_one corrupt_of did why),
    )
found_kinds rules store (Some refused) did is why =
    (ap (total fault_in) (found_away did refused why) ∙ sym (away_one faults_of did refused why), ap (total corrupt_block_in) (found_away did refused why) ∙ sym (away_one corrupt_of did refused why))

found_all : (rules : Rules) (store : StoreId) (dids : List Did) → Each (IsTurn rules store) dids → (total fault_in (found_in dids) ≡ total (where_had faults_of) dids) × (total corrupt_block_in (found_in dids) ≡ total (where_had corrupt_of) dids)
found_all rules store [] each = (refl, refl)
found_all rules store (did ∷ dids) each =
    let one = found_kinds rules store did.refusal did each.0 refl in
    let rest = found_all rules store dids each.1 in
    (omega (arith, total_append fault_in (found_in dids) (found_of did), one.0, rest.0), omega (arith, total_append corrupt_block_in (found_in dids) (found_of did), one.1, rest.1))

pub faults_found : (law : DoneTurns) → FaultsAreFound
faults_found law rules store dids looks before after each worked =
    let so = grew_by law rules store dids looks before after worked in
    let all = found_all rules store dids each in
    (found_in dids, so.found, omega (arith, so.faults, all.0), omega (arith, so.corrupt, all.1))

-- A turn that had its blocks called its device, but where the book refused its write before.
put_called : (how : Put) → (how ≢ a_put.Skipped) → is_refused how ≡ false → 0 < good_put how + fault_put how
put_called a_put.Skipped not refused = absurd (not refl)
put_called a_put.Refused not refused = absurd (let so : true ≡ false = refused in cc)
put_called a_put.Fault not refused = omega arith
put_called (a_put.Unended appended) not refused = absurd (let so : true ≡ false = refused in cc)
put_called a_put.Ended not refused = omega arith

look_called : (one : Look) → 0 < fault one + corrupt_in one → 0 < good one + fault one
look_called a_look.Skipped some = absurd (omega arith)
look_called a_look.Fault some = omega arith
look_called (a_look.Read corrupt) some = omega arith

write_called : (rules : Rules) (had : List Entry) (done : Done) (found : ℕ) → fault done.first + corrupt_in done.first ≡ found → done.read ≡ false → FollowsRules rules had done → is_refused done.put ≡ false → 0 < calls_of done
write_called rules had done zero is read follows refused = omega (arith, put_called done.put (follows.writes read is) refused)
write_called rules had done (suc found) is read follows refused = omega (arith, look_called done.first (omega (arith, is)))

calls_some : (rules : Rules) (had : List Entry) (done : Done) (read : Bool) → done.read ≡ read → FollowsRules rules had done → is_refused done.put ≡ false → 0 < calls_of done
calls_some rules had done true read follows refused = omega (arith, (follows.read read).0)
calls_some rules had done false read follows refused = write_called rules had done (fault done.first + corrupt_in done.first) refl read follows refused

pub not_refused : (refused : Bool) (answered : Option BookFault) → (refused ≡ true → IsSome answered) → answered ≡ None → refused ≡ false
not_refused false answered some none = refl
not_refused true answered some none = let one = some refl in let other = ap is_some none in cc

called_one : (rules : Rules) (store : StoreId) (why : Option Refusal) (did : Did) → IsTurn rules store did → did.refusal ≡ why → did.fault ≡ None → where_had called_in did + away_many did ≡ 1
called_one rules store None did is why none =
    let all = is.had why in
    let some = calls_some rules did.had did.done did.done.read refl all.follows (not_refused (is_refused did.done.put) did.fault all.refused none) in
    let called : called_in did.done ≡ 1 = ap (λ (b : Bool). cond b 1 0) (lt-ltb 0 (calls_of did.done) some) in
    omega (arith, had_one called_in did why, away_is did None why, called)
called_one rules store (Some refused) did is why none = omega (arith, away_one called_in did refused why, away_is did (Some refused) why)

called_most : (called : Bool) → cond called 1 0 ≤ 1
called_most true = omega arith
called_most false = omega arith

called_few : (why : Option Refusal) (did : Did) → did.refusal ≡ why → where_had called_in did + away_many did ≤ 1
called_few None did why = omega (arith, had_one called_in did why, away_is did None why, called_most (has_called did.done))
called_few (Some refused) did why = omega (arith, away_one called_in did refused why, away_is did (Some refused) why)

called_all : (rules : Rules) (store : StoreId) (dids : List Did) → Each (IsTurn rules store) dids → NoFault dids → total (where_had called_in) dids + total away_many dids ≡ length dids
called_all rules store [] each none = refl
called_all rules store (did ∷ dids) each none = omega (arith, called_one rules store did.refusal did each.0 refl none.0, called_all rules store dids each.1 none.1)

called_but_one : (rules : Rules) (store : StoreId) (dids : List Did) (answered : BookFault) → Each (IsTurn rules store) dids → MetFault dids answered → (total (where_had called_in) dids + total away_many dids ≤ length dids) × (length dids ≤ total (where_had called_in) dids + total away_many dids + 1)
called_but_one rules store [] answered each met = absurd met
called_but_one rules store (did ∷ dids) answered each met =
    let few = called_few did.refusal did refl in
    let rest = called_all rules store dids each.1 met.1 in
    (omega (arith, few, rest), omega (arith, few, rest))

pub rows_turns : (law : DoneTurns) → RowsHaveTurns
rows_turns law rules store dids looks before after each worked none =
    let so = grew_by law rules store dids looks before after worked in
    omega (arith, so.rows, so.away, so.turns, called_all rules store dids each none)

pub rows_but_one : (law : DoneTurns) → RowsMissOne
rows_but_one law rules store dids looks before after each worked answered met =
    let so = grew_by law rules store dids looks before after worked in
    let all = called_but_one rules store dids answered each met in
    (omega (arith, so.rows, so.away, so.turns, all.0), omega (arith, so.rows, so.away, so.turns, all.1))
