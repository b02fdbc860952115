-- The sentences on what a worker drew.
use Rattle.std.proofs.Common.{◌≡◌, ◌≢◌, ℕ, zero, suc, ◌*◌, ◌+◌, ◌^◌, ◌<◌, ◌≤◌, cond, refl, sym, ap, subst, ◌∙◌, arith, List, [], ◌∷◌, ◌++◌, length, map, append-nil, Option, Some, None}
use Rattle.std.specs.Prelude.{slice_get, unwrap_or}
use Rattle.std.proofs.lemmas.Option.{get_or_from_slice_get, slice_get_within}
use Rattle.std.proofs.lemmas.List.{length-map}
use Rattle.vd_base.specs.declared.geometry.StoreId.{StoreId}
use Rattle.vd_outside.specs.Clocks.{ClockSeen}
use Rattle.key_state.specs.declared.fault.BookFault.{BookFault}
use Rattle.claim_table.specs.Sums.{Each, total}
use Rattle.claim_table.specs.Views.{answered, bad, bad_at, blocks_of, busy_at, found_bad, other_at, parts_in, refused}
use Rattle.claim_table.specs.declared.view.Made.{Made}
use Rattle.claim_table.specs.declared.view.Try.{Try}
use Rattle.claim_table.specs.declared.view.View.{View}
use Rattle.error_limit.specs.Rule.{newest}
use Rattle.worker_tally.specs.Dones.{corrupt_of, faults_of, reads_of, rereads_of, writes_of}
use Rattle.worker_tally.specs.Laws.{DoneTurns}
use Rattle.worker_tally.specs.declared.done.Refusal.{Refusal}
use Rattle.worker_tally.specs.declared.done.Refusal.TheVariants as refusal
use Rattle.worker_tally.specs.declared.tally.Numbers.{Numbers}
use Rattle.workload_gen.specs.Turns.{no_share, turn_at, turns_of}
use Rattle.workload_gen.specs.declared.task.StoreShare.{StoreShare}
use Rattle.workload_gen.specs.declared.task.Task.{Task}
use Rattle.workload_gen.specs.declared.turn.Turn.{Turn}
use Rattle.slave_worker.specs.Dids.{IsTurn, where_had}
use Rattle.slave_worker.specs.Drawn.{AllTurnsAddUp, AreOneBlock, BadSkipsAreNone, BlocksAreUsed, Drew, DrewAll, IsDrawnBy, NoMoreThanDrawn, OneBlockTurnsAddUp, OneWorkerDoesItsDraw, OneWorkerIsNeverBusy, RereadsAreWrites, StillRunsMakeAllTurns, TurnsAreDrawn, TurnsAreFew, WentWell, begins_at, blocks_read, blocks_written, drawn_by, numbers}
use Rattle.slave_worker.specs.Ends.{Finished, FoundSome, NoFault}
use Rattle.slave_worker.specs.Sentences.{bad_in, busy_in}
use Rattle.slave_worker.specs.declared.did.Did.{Did}
use Rattle.slave_worker.specs.declared.did.Rules.{Rules}
use Rattle.slave_worker.specs.declared.did.WorkEnd.{WorkEnd}
use Rattle.slave_worker.specs.declared.did.WorkEnd.TheVariants as work_end
use Rattle.slave_worker.proofs.Claims.{apart_few, bad_none, bad_there, begins_all, claims_of, unbusy, unbusy_all}
use Rattle.slave_worker.proofs.Drawing.{IsWell, all_well, draw_all, few_all, found_none, ones_all, rereads_all}
use Rattle.slave_worker.proofs.Sentences.{away_many, corrupt_bad, grew_by}
use Rattle.slave_worker.proofs.Totals.{Apart, all_most, apart_of, each_both, each_from, each_of_all, total_long, total_map, total_most, total_none, total_plus, total_same, total_turned}
use Rattle.slave_worker.proofs.Turnwise.{refusals_met}

-- how many turns were drawn, and a number of each
turns_long : (task : Task) (many : ℕ) → length (turns_of task many) ≡ many
unfolding turns_of
turns_long task zero = refl
turns_long task (suc many) = ap suc (turns_long task many)

drawn_sum : (f : Turn → ℕ) (dids : List Did) (turns : List Turn) → map (λ did. did.turn) dids ≡ turns → total (λ did. f did.turn) dids ≡ total f turns
drawn_sum f dids turns are = sym (total_map f (λ (did : Did). did.turn) dids) ∙ ap (total f) are

-- Each turn of a task with transfers of one block is of one block.
share_one : (shares : List StoreShare) → AreOneBlock shares → (place : ℕ) (found : Option StoreShare) → slice_get shares place ≡ found → 1 ≤ (unwrap_or found no_share).many → (unwrap_or found no_share).many ≡ 1
share_one shares ones place None at some = absurd (omega (arith, some))
share_one shares ones place (Some share) at some = subst (λ (s : StoreShare). s.many ≡ 1) (get_or_from_slice_get shares place share share at) (ones place share (slice_get_within shares place share at))

turn_one : (task : Task) → AreOneBlock task.shares → (t : ℕ) → 1 ≤ (turn_at task t).many → (turn_at task t).many ≡ 1
turn_one task ones t some = share_one task.shares ones _ _ refl some

ones_drawn : (rules : Rules) (store : StoreId) (task : Task) → AreOneBlock task.shares → (dids : List Did) (many : ℕ) → Each (IsTurn rules store) dids → map (λ did. did.turn) dids ≡ turns_of task many → Each (λ did. did.turn.many ≡ 1) dids
unfolding turns_of
ones_drawn rules store task ones [] many each are = tt
ones_drawn rules store task ones (did ∷ dids) zero each are = absurd (let so : suc (length (map (λ (one : Did). one.turn) dids)) ≡ 0 = ap length are in omega (arith, so))
ones_drawn rules store task ones (did ∷ dids) (suc many) each are =
    let first : did.turn ≡ turn_at task many = first_same did.turn (turn_at task many) (map (λ (one : Did). one.turn) dids) (turns_of task many) are in
    let rest : map (λ (one : Did). one.turn) dids ≡ turns_of task many = rest_same did.turn (turn_at task many) (map (λ (one : Did). one.turn) dids) (turns_of task many) are in
    let size = ap (λ (turn : Turn). turn.many) first in
    (size ∙ turn_one task ones many (omega (arith, size, each.0.inside.some)), ones_drawn rules store task ones dids many each.1 rest)
  where
    first_same : (x y : Turn) (xs ys : List Turn) → x ∷ xs ≡ y ∷ ys → x ≡ y
    first_same x y xs ys is = cc

    rest_same : (x y : Turn) (xs ys : List Turn) → x ∷ xs ≡ y ∷ ys → xs ≡ ys
    rest_same x y xs ys is = cc

-- what a worker's numbers are the sums of
record Sums (work : Drew) : Type 0 where
  pub turns : (numbers work).turns ≡ length work.worked.0
  pub reads : (numbers work).reads ≡ total (where_had reads_of) work.worked.0
  pub rereads : (numbers work).rereads ≡ total (where_had rereads_of) work.worked.0
  pub writes : (numbers work).writes ≡ total (where_had writes_of) work.worked.0
  pub away : (numbers work).busy + (numbers work).badskip ≡ total away_many work.worked.0
  pub busy : (numbers work).busy ≡ total (λ did. busy_in did.refusal) work.worked.0
  pub badskip : (numbers work).badskip ≡ total (λ did. bad_in did.refusal) work.worked.0
  pub faults : (numbers work).faults ≡ total (where_had faults_of) work.worked.0
  pub corrupt : (numbers work).corrupt ≡ total (where_had corrupt_of) work.worked.0

module _ (law : DoneTurns) where
  sums : (work : Drew) → Sums work
  sums work =
      let dids : List Did = work.worked.0 in
      let so = grew_by law work.rules work.made.store dids _ work.before work.after work.worked.3 in
      let met = refusals_met work.rules work.made.store dids _ work.before work.after work.worked.1 work.worked.3 in
      let zero = λ (f : Numbers → ℕ). ap f work.no_turns in
      record {
        turns = omega (arith, so.turns, zero (λ n. n.turns));
        reads = omega (arith, so.reads, zero (λ n. n.reads));
        rereads = omega (arith, so.rereads, zero (λ n. n.rereads));
        writes = omega (arith, so.writes, zero (λ n. n.writes));
        away = omega (arith, so.away, zero (λ n. n.busy), zero (λ n. n.badskip));
        busy = omega (arith, met.0, zero (λ n. n.busy));
        badskip = omega (arith, met.1, zero (λ n. n.badskip));
        faults = omega (arith, so.faults, zero (λ n. n.faults));
        corrupt = omega (arith, so.corrupt, zero (λ n. n.corrupt));
      }

  pub turns_drawn : TurnsAreDrawn
  turns_drawn work = (sums work).turns ∙ sym (length-map work.worked.0 (λ (did : Did). did.turn)) ∙ ap length work.worked.2 ∙ turns_long work.task work.many

  -- Why the work ended.
  finished_few : (rules : Rules) (turns : ℕ) (dids : List Did) (view : View) (last : ℕ) (clock : ClockSeen) (end : WorkEnd) → Finished rules turns dids view last clock end → length dids ≤ turns
  finished_few rules turns dids view last clock work_end.TurnsMade finished = omega (arith, finished.0)
  finished_few rules turns dids view last clock (work_end.TimeUp time) finished = omega (arith, finished.0)
  finished_few rules turns dids view last clock (work_end.ErrorLimit seen) finished = omega (arith, finished.0)
  finished_few rules turns dids view last clock (work_end.Book fault) finished = finished.0

  no_fault : (rules : Rules) (turns : ℕ) (dids : List Did) (view : View) (last : ℕ) (clock : ClockSeen) (end : WorkEnd) → Finished rules turns dids view last clock end → ((fault : BookFault) → end ≢ work_end.Book fault) → NoFault dids
  no_fault rules turns dids view last clock work_end.TurnsMade finished by = finished.1
  no_fault rules turns dids view last clock (work_end.TimeUp time) finished by = finished.1
  no_fault rules turns dids view last clock (work_end.ErrorLimit seen) finished by = finished.1
  no_fault rules turns dids view last clock (work_end.Book fault) finished by = absurd (by fault refl)

  found_nothing : (rules : Rules) (store : StoreId) (dids : List Did) → Each (IsWell rules store) dids → FoundSome dids → ⊥
  found_nothing rules store [] each some = some
  found_nothing rules store (did ∷ dids) each some = absurd (omega (arith, some, found_none rules store did.refusal did each.0 refl))

  finished_all : (rules : Rules) (store : StoreId) (turns : ℕ) (dids : List Did) (view : View) (last : ℕ) (clock : ClockSeen) (end : WorkEnd) → Finished rules turns dids view last clock end → ((fault : BookFault) → end ≢ work_end.Book fault) → Each (IsWell rules store) dids → clock.last < rules.end → length dids ≡ turns
  finished_all rules store turns dids view last clock work_end.TurnsMade finished by each early = finished.0
  finished_all rules store turns dids view last clock (work_end.TimeUp time) finished by each early = absurd (omega (arith, early, finished.2, finished.3))
  finished_all rules store turns dids view last clock (work_end.ErrorLimit seen) finished by each early = absurd (found_nothing rules store dids each finished.2)
  finished_all rules store turns dids view last clock (work_end.Book fault) finished by each early = absurd (by fault refl)

  pub turns_few : TurnsAreFew
  turns_few work = omega (arith, (sums work).turns, finished_few work.rules work.turns work.worked.0 work.after.view (newest work.answers) work.after.clock work.end work.worked.4)

  well_each : (work : Drew) → WentWell work → Each (IsWell work.rules work.made.store) work.worked.0
  well_each work well =
      let so = sums work in
      let none = no_fault work.rules work.turns work.worked.0 work.after.view (newest work.answers) work.after.clock work.end work.worked.4 well.book in
      all_well work.rules work.made.store work.worked.0 work.worked.1 none (sym so.faults ∙ well.faults) (sym so.corrupt ∙ well.corrupt)

  pub still_all : StillRunsMakeAllTurns
  still_all work well still early =
      let stays : work.after.clock.last ≡ work.before.clock.last = work.worked.3.clock.last still in
      (sums work).turns ∙ finished_all work.rules work.made.store work.turns work.worked.0 work.after.view (newest work.answers) work.after.clock work.end work.worked.4 well.book (well_each work well) (omega (arith, stays, early))

  pub all_add_up : AllTurnsAddUp
  all_add_up turns works same sum =
      all_most (λ (work : Drew). (numbers work).turns) turns works (each_from (λ (work : Drew). work.turns ≡ turns) (λ (work : Drew). (numbers work).turns ≤ turns) works (λ work is. omega (arith, is, turns_few work)) same) sum

  pub rereads_are : RereadsAreWrites
  rereads_are work well =
      let so = sums work in
      so.rereads ∙ rereads_all work.rules work.made.store work.worked.0 (well_each work well) ∙ ap (λ (n : ℕ). cond work.rules.reread n 0) (sym so.writes)

  ones_of : (work : Drew) → AreOneBlock work.task.shares → Each (λ did. did.turn.many ≡ 1) work.worked.0
  ones_of work ones = ones_drawn work.rules work.made.store work.task ones work.worked.0 work.many work.worked.1 work.worked.2

  pub one_block : OneBlockTurnsAddUp
  one_block work well ones =
      let so = sums work in
      omega (arith, so.reads, so.writes, so.away, so.turns, ones_all work.rules work.made.store work.worked.0 (well_each work well) (ones_of work ones))

  pub no_more : NoMoreThanDrawn
  no_more work =
      let so = sums work in
      let few = few_all work.rules work.made.store work.worked.0 work.worked.1 in
      (omega (arith, so.reads, few.0, drawn_sum blocks_read work.worked.0 (drawn_by work) work.worked.2), omega (arith, so.writes, few.1, drawn_sum blocks_written work.worked.0 (drawn_by work) work.worked.2))

  unbusied : (why : Option Refusal) → why ≢ Some refusal.Busy → busy_in why ≡ 0
  unbusied None not = refl
  unbusied (Some refusal.Busy) not = absurd (not refl)
  unbusied (Some refusal.Bad) not = refl

  pub never_busy : OneWorkerIsNeverBusy
  never_busy work one =
      let parts : work.before.view.parts ≡ 2 ^ 32 = ap (λ (view : View). view.parts) work.new_seat in
      let all : parts_in work.before.view.made ≡ work.made.seats * 2 ^ 32 = ap (λ (view : View). parts_in view.made) work.new_seat in
      let only = work.worked.3.view.alone (omega (arith, parts, all, one)) in
      (sums work).busy ∙ total_none (λ (did : Did). busy_in did.refusal) work.worked.0 (each_from (λ (did : Did). did.refusal ≢ Some refusal.Busy) (λ (did : Did). busy_in did.refusal ≡ 0) work.worked.0 (λ did not. unbusied did.refusal not) only)

  pub whole_draw : OneWorkerDoesItsDraw
  whole_draw work one well none =
      let so = sums work in
      let all = draw_all work.rules work.made.store work.worked.0 (well_each work well) (omega (arith, so.away, never_busy work one, none)) in
      (omega (arith, so.reads, all.0, drawn_sum blocks_read work.worked.0 (drawn_by work) work.worked.2), omega (arith, so.writes, all.1, drawn_sum blocks_written work.worked.0 (drawn_by work) work.worked.2))

  -- The claims of its seat are those of its turns.
  claims_are : (work : Drew) → work.after.view.mine ≡ claims_of work.worked.0
  claims_are work =
      let none : work.before.view.mine ≡ [] = ap (λ (view : View). view.mine) work.new_seat in
      work.worked.3.view.mine ∙ ap (λ (l : List Try). claims_of work.worked.0 ++ l) none ∙ append-nil (claims_of work.worked.0)

  -- Bad blocks.
  spoilt_none : (work : Drew) → WentWell work → length work.after.view.spoilt ≡ 0
  spoilt_none work well =
      let none = ap (λ (view : View). length view.spoilt) work.new_seat in
      let most = corrupt_bad law work.rules work.made.store work.worked.0 _ work.before work.after work.worked.1 work.worked.3 in
      omega (arith, most, none, well.corrupt)

  no_bad : (all : DrewAll) → total bad all.made.book.now ≡ 0 → Each WentWell all.works → (block : ℕ) → block < blocks_of all.made → total (λ (work : Drew). bad_at block work.after.view) all.works ≡ 0
  no_bad all none well block within =
      let views : List View = map (λ (work : Drew). work.after.view) all.works in
      let spoilt = total_none (λ (work : Drew). length work.after.view.spoilt) all.works (each_from WentWell (λ (work : Drew). length work.after.view.spoilt ≡ 0) all.works spoilt_none well) in
      let same = total_map (λ (view : View). length view.spoilt) (λ (work : Drew). work.after.view) all.works in
      let still : total bad all.book.now ≡ 0 = omega (arith, all.returned.spoilt, same, spoilt, none) in
      let sized : length all.book.now ≡ blocks_of all.made = all.returned.follows.sized ∙ all.sized in
      sym (total_map (bad_at block) (λ (work : Drew). work.after.view) all.works)
      ∙ unmet (total (bad_at block) views) (λ some. omega (arith, still, bad_there all.book.now block (omega (arith, sized, within)) (all.returned.met_bad block some)))
    where
      unmet : (n : ℕ) → (0 < n → ⊥) → n ≡ 0
      unmet zero never = refl
      unmet (suc n) never = absurd (never (omega arith))

  -- of sums over workers, for each block, the parts of each worker
  each_block : (count : ℕ → Drew → ℕ) (most : ℕ) (works : List Drew) → ((block : ℕ) → block < most → total (count block) works ≡ 0) → Each (λ work. (block : ℕ) → block < most → count block work ≡ 0) works
  each_block count most [] none = tt
  each_block count most (work ∷ works) none = (λ block within. omega (arith, none block within), each_block count most works (λ block within. omega (arith, none block within)))

  none_met : (made : Made) (work : Drew) → work.made ≡ made → ((block : ℕ) → block < blocks_of made → bad_at block work.after.view ≡ 0) → (numbers work).badskip ≡ 0
  none_met made work same none =
      let size = ap blocks_of same in
      (sums work).badskip ∙ bad_none work.rules work.made.store work.worked.0 work.worked.1 (λ block within. ap (total (found_bad block)) (sym (claims_are work)) ∙ none block (omega (arith, within, size)))

  pub bad_skips_none : BadSkipsAreNone
  bad_skips_none all none well =
      each_both (λ (work : Drew). work.made ≡ all.made) (λ (work : Drew). (block : ℕ) → block < blocks_of all.made → bad_at block work.after.view ≡ 0) (λ (work : Drew). (numbers work).badskip ≡ 0) all.works
      (λ work same met. none_met all.made work same met) all.same
      (each_block (λ block (work : Drew). bad_at block work.after.view) (blocks_of all.made) all.works (no_bad all none well))

  -- Different blocks.
  abbrev OneBlocks : Drew → Type 0
  OneBlocks work = AreOneBlock work.task.shares

  drawn_once : (block : ℕ) (work : Drew) → OneBlocks work → total (begins_at block) (drawn_by work) ≡ busy_at block work.after.view + other_at block work.after.view
  drawn_once block work ones =
      let all = begins_all work.rules work.made.store block work.worked.0 work.worked.1 (ones_of work ones) in
      omega (arith, all, drawn_sum (begins_at block) work.worked.0 (drawn_by work) work.worked.2, ap (total (refused block)) (claims_are work), ap (total (answered block)) (claims_are work))

  used_few : (blocks : List ℕ) → Apart blocks → (work : Drew) → OneBlocks work → (numbers work).busy + total (λ block. other_at block work.after.view) blocks ≤ (numbers work).turns
  used_few blocks apart work ones =
      let so = sums work in
      let turned = total_turned (λ (block : ℕ) (t : Try). answered block t) blocks work.after.view.mine in
      let few = apart_few blocks apart work.after.view.mine in
      let all = unbusy_all work.rules work.made.store work.worked.0 work.worked.1 (ones_of work ones) in
      omega (arith, turned, few, all, so.busy, so.turns, ap (total unbusy) (claims_are work))

  used_some : (all : DrewAll) → Each OneBlocks all.works → (block : ℕ) → IsDrawnBy all.works block → 0 < total (λ (work : Drew). other_at block work.after.view) all.works
  used_some all ones block drawn =
      let once = total_same (λ (work : Drew). total (begins_at block) (drawn_by work)) (λ (work : Drew). busy_at block work.after.view + other_at block work.after.view) all.works (each_from OneBlocks (λ (work : Drew). total (begins_at block) (drawn_by work) ≡ busy_at block work.after.view + other_at block work.after.view) all.works (drawn_once block) ones) in
      let plus = total_plus (λ (work : Drew). busy_at block work.after.view) (λ (work : Drew). other_at block work.after.view) all.works in
      let busy = total_map (busy_at block) (λ (work : Drew). work.after.view) all.works in
      let other = total_map (other_at block) (λ (work : Drew). work.after.view) all.works in
      some_other (total (λ (work : Drew). busy_at block work.after.view) all.works) (total (λ (work : Drew). other_at block work.after.view) all.works) (omega (arith, drawn, once, plus))
      (λ met. omega (arith, other, all.returned.met block (omega (arith, met, busy))))
    where
      some_other : (m n : ℕ) → 0 < m + n → (0 < m → 0 < n) → 0 < n
      some_other zero n some met = omega (arith, some)
      some_other (suc m) n some met = met (omega arith)

  pub blocks_used : BlocksAreUsed
  blocks_used all ones blocks different drawn =
      let apart = apart_of blocks different in
      let some = total_long (λ (block : ℕ). total (λ (work : Drew). other_at block work.after.view) all.works) blocks (each_from (IsDrawnBy all.works) (λ (block : ℕ). 0 < total (λ (work : Drew). other_at block work.after.view) all.works) blocks (used_some all ones) (each_of_all (IsDrawnBy all.works) blocks drawn)) in
      let turned = total_turned (λ (block : ℕ) (work : Drew). other_at block work.after.view) blocks all.works in
      let few = total_most (λ (work : Drew). (numbers work).busy + total (λ block. other_at block work.after.view) blocks) (λ (work : Drew). (numbers work).turns) all.works (each_from OneBlocks (λ (work : Drew). (numbers work).busy + total (λ block. other_at block work.after.view) blocks ≤ (numbers work).turns) all.works (used_few blocks apart) ones) in
      let plus = total_plus (λ (work : Drew). (numbers work).busy) (λ (work : Drew). total (λ block. other_at block work.after.view) blocks) all.works in
      omega (arith, some, turned, few, plus)
