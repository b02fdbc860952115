-- What a worker's turns so far leave for the next.
use Rattle.std.proofs.Common.{◌≡◌, ◌≢◌, inl, inr, nat_eq, eq-eqb, ne_eqb, IsTrue, ℕ, zero, suc, ◌+◌, ◌*◌, ◌/◌, ◌<◌, ◌≤◌, Bool, true, false, refl, sym, ap, subst, ◌∙◌, arith, All, IsSomeAnd, List, [], ◌∷◌, ◌++◌, length, length-append, map, slice_get, Option, Some, None, div-mul-le_self}
use Rattle.std.proofs.lemmas.Bool.{cases_eq}
use Rattle.std.proofs.lemmas.Option.{get_or_from_slice_get, slice_get_within}
use Rattle.vd_base.specs.Geometry.{IsGeometry}
use Rattle.vd_base.specs.declared.geometry.StoreId.{StoreId}
use Rattle.vd_outside.specs.Clocks.{ClockSeen, Looked}
use Rattle.plan_types.specs.Valid.{IsRun, IsStore}
use Rattle.plan_types.specs.declared.plan.Plan.{Plan}
use Rattle.plan_types.specs.declared.run.RunPlan.{RunPlan}
use Rattle.plan_types.specs.declared.run.Share.{Share}
use Rattle.plan_types.specs.declared.run.WorkerPlan.{WorkerPlan}
use Rattle.claim_table.specs.Passes.{Fitted}
use Rattle.claim_table.specs.Sums.{Each}
use Rattle.claim_table.specs.declared.view.View.{View}
use Rattle.worker_tally.specs.Laws.{DoneIsOneMore, RefusalIsOneMore, RowsFit}
use Rattle.worker_tally.specs.Tallies.{IsUpTo, Tallied}
use Rattle.worker_tally.specs.declared.done.Refusal.{Refusal}
use Rattle.worker_tally.specs.declared.row.Intervals.{Intervals}
use Rattle.workload_gen.specs.Turns.{Drawing, drawn, turns_of}
use Rattle.workload_gen.specs.declared.task.Task.{Task}
use Rattle.workload_gen.specs.declared.turn.Turn.{Turn}
use Rattle.error_limit.specs.Rule.{newest}
use Rattle.worker_tally.specs.declared.done.Done.{Done}
use Rattle.slave_worker.proofs.Notings.{WentOn, below_behind, below_in_time, went_more}
use Rattle.slave_worker.specs.Dids.{IsTurn, TimedAt, fault_found, found_of, found_where_none}
use Rattle.slave_worker.specs.Ends.{EndsTurn, Finished, HasBytes, IsWorkOf, NoFault, ends_work, last_look}
use Rattle.slave_worker.specs.Works.{HasWorked, Noted}
use Rattle.slave_worker.specs.Standings.{AreIntervals, Standing, Ticked, Worked, found_many, standing, turn_tallied}
use Rattle.slave_worker.specs.declared.did.Did.{Did}
use Rattle.slave_worker.specs.declared.did.Rules.{Rules}
use Rattle.slave_worker.specs.declared.did.WorkEnd.{WorkEnd}
use Rattle.slave_worker.specs.declared.did.WorkEnd.TheVariants as work_end
use Rattle.slave_worker.proofs.Growing.{worked_look, worked_more, worked_none}

-- What holds of the plan, run and store that a worker works by.
at_place : {A : Type 0} (P : A → Type 0) (list : List A) (place : ℕ) (one : A) → All P list → slice_get list place ≡ Some one → P one
at_place P list place one all is = subst P (get_or_from_slice_get list place one one is) (all place one (slice_get_within list place one is))

pub run_of : (plan : Plan) (run : RunPlan) (worker : WorkerPlan) (store : StoreId) → IsWorkOf plan run worker store → IsRun plan.stores run
run_of plan run worker store is = at_place (IsRun plan.stores) plan.runs is.run_number.0 run is.valid.runs is.run_number.1

pub store_of : (plan : Plan) (run : RunPlan) (worker : WorkerPlan) (store : StoreId) → IsWorkOf plan run worker store → IsGeometry store.geometry.blocks store.geometry.block_size
store_of plan run worker store is =
    let one = at_place IsStore plan.stores worker.store is.its_store.0 is.valid.stores is.its_store.1 in
    subst (λ (id : StoreId). IsGeometry id.geometry.blocks id.geometry.block_size) is.its_store.2 one.geometry

-- A turn's blocks have room in the bytes of the greatest transfer.
enough : (found : Option Share) (shares : List Share) (place store many size bytes : ℕ) → slice_get shares place ≡ found → All (λ share. share.store ≡ store → share.xfersize ≤ bytes) shares → IsSomeAnd found (λ share. (share.store ≡ store) × (many ≡ share.xfersize / size)) → many * size ≤ bytes
enough None shares place store many size bytes at all is = absurd is
enough (Some share) shares place store many size bytes at all is =
    let within : share.xfersize ≤ bytes = at_place (λ (s : Share). s.store ≡ store → s.xfersize ≤ bytes) shares place share all at is.0 in
    subst (λ (n : ℕ). n * size ≤ bytes) (sym is.1) (omega (arith, within, div-mul-le_self share.xfersize size))

pub bytes_enough : (run : RunPlan) (worker : WorkerPlan) (turn : Turn) (size bytes : ℕ) → HasBytes run worker bytes → IsSomeAnd (slice_get run.shares turn.share) (λ share. (share.store ≡ worker.store) × (turn.many ≡ share.xfersize / size)) → turn.many * size ≤ bytes
bytes_enough run worker turn size bytes has is = enough (slice_get run.shares turn.share) run.shares turn.share worker.store turn.many size bytes refl has is

-- What a turn does to the tally.
found_more : (why : Option Refusal) (intervals : Intervals) (size : ℕ) (did : Did) (tally : Tallied) → did.refusal ≡ why → length (turn_tallied why intervals size did tally).findings ≡ length tally.findings + length (found_of did)
found_more None intervals size did tally is = length-append tally.findings (found_of did)
found_more (Some refusal) intervals size did tally is =
    let none : found_of did ≡ [] = ap (λ (r : Option Refusal). found_where_none r (fault_found did.turn.block.0 did.done ++ did.corrupt)) is in
    omega (arith, ap length none)

room_same : (why : Option Refusal) (intervals : Intervals) (size : ℕ) (did : Did) (tally : Tallied) → (turn_tallied why intervals size did tally).finding_room ≡ tally.finding_room
room_same None intervals size did tally = refl
room_same (Some refusal) intervals size did tally = refl

small_more : (why : Option Refusal) (rules : Rules) (store : StoreId) (intervals : Intervals) (did : Did) (tally : Tallied) (turns : ℕ) → DoneIsOneMore → RefusalIsOneMore → store.geometry.block_size ≤ 1048576 → did.turn.many ≤ 64 → IsTurn rules store did → did.refusal ≡ why → IsUpTo turns tally → IsUpTo (turns + 1) (turn_tallied why intervals store.geometry.block_size did tally)
small_more None rules store intervals did tally turns done refused size few is why small =
    let all = is.had why in
    done turns intervals store.geometry.block_size did.done (record tally { findings = tally.findings ++ found_of did }) size (omega (arith, all.many)) (omega (arith, all.many, all.follows.few)) (record { numbers = small.numbers; rows = small.rows })
small_more (Some refusal) rules store intervals did tally turns done refused size few is why small = refused turns refusal tally small

intervals_more : (why : Option Refusal) (intervals : Intervals) (size : ℕ) (did : Did) (tally : Tallied) → RowsFit → AreIntervals intervals tally → AreIntervals intervals (turn_tallied why intervals size did tally)
intervals_more None intervals size did tally fit are = record {
  length_above = are.length_above;
  some = are.some;
  rows = fit intervals size did.done (record tally { findings = tally.findings ++ found_of did }) are.some are.rows;
  room = are.room;
}
intervals_more (Some refusal) intervals size did tally fit are = record {
  length_above = are.length_above;
  some = are.some;
  rows = are.rows;
  room = are.room;
}

-- The tally may take the next turn.
pub record TallyGoesOn (how : Intervals) (turns notes space : ℕ) (tally : Tallied) : Type 0 where
  pub small : IsUpTo turns tally
  pub intervals : AreIntervals how tally
  pub findings : length tally.findings ≤ notes
  pub room : tally.finding_room ≡ space

pub tally_more : (rules : Rules) (store : StoreId) (did : Did) (turns notes more room : ℕ) (before after : Tallied) → DoneIsOneMore → RefusalIsOneMore → RowsFit → store.geometry.block_size ≤ 1048576 → did.turn.many ≤ 64 → IsTurn rules store did → after ≡ turn_tallied did.refusal rules.intervals store.geometry.block_size did before → more ≡ notes + (length (found_of did) + 0) → TallyGoesOn rules.intervals turns notes room before → TallyGoesOn rules.intervals (turns + 1) more room after
tally_more rules store did turns notes more room before after done refused fit size few is after_is noted on =
    subst (λ (t : Tallied). TallyGoesOn rules.intervals (turns + 1) more room t) (sym after_is)
    (record {
      small = small_more did.refusal rules store rules.intervals did before turns done refused size few is refl on.small;
      intervals = intervals_more did.refusal rules.intervals store.geometry.block_size did before fit on.intervals;
      findings = omega (arith, found_more did.refusal rules.intervals store.geometry.block_size did before refl, on.findings, noted);
      room = room_same did.refusal rules.intervals store.geometry.block_size did before ∙ on.room;
    })

-- The turns so far, the newest first.
pub record Turned (rules : Rules) (store : StoreId) (turns : List Turn) (looks : ℕ) (before after : Standing) (dids : List Did) : Type 0 where
  pub each : Each (IsTurn rules store) dids
  pub drawn : map (λ did. did.turn) dids ≡ turns
  pub worked : Worked rules.intervals store.geometry.block_size dids looks before after
  pub no_fault : NoFault dids
  pub clean : Fitted before.view.made → Each (λ did. did.corrupt ≡ []) dids
  pub timed : IsTrue before.clock.still → Each (λ did. TimedAt before.clock.last did.done) dids

-- What the work has come to after so many of its turns.
abbrev pub HasTurned : Rules → StoreId → ℕ → ℕ → List Turn → Standing → Standing → List ℕ → Type 0
HasTurned rules store number turns drawn before after answers = (dids : List Did) × (length dids ≡ number) × Turned rules store drawn number before after dids × WentOn rules.limit (number < turns) dids answers

-- one turn, as its contract tells it
abbrev pub HasTaken : Rules → StoreId → Turn → Standing → Standing → List ℕ → List ℕ → Option WorkEnd → Did → Type 0
HasTaken rules store turn before after answers_before answers_after how did =
    (did.turn ≡ turn)
    × IsTurn rules store did
    × Worked rules.intervals store.geometry.block_size (did ∷ []) 0 before after
    × EndsTurn rules did after.view (newest answers_after) how
    × (Fitted before.view.made → did.corrupt ≡ [])
    × (IsTrue before.clock.still → TimedAt before.clock.last did.done)
    × Noted (found_many did) answers_before answers_after

-- The clock was looked at once more.
pub turned_look : (rules : Rules) (store : StoreId) (drawn : List Turn) (looks : ℕ) (before after : Standing) (dids : List Did) (clock : ClockSeen) (answer : ℕ) → Turned rules store drawn looks before after dids → Looked after.clock clock answer → Turned rules store drawn (looks + 1) before (standing after.view after.tally after.arm after.notes clock) dids
turned_look rules store drawn looks before after dids clock answer so looked = record {
  each = so.each;
  drawn = so.drawn;
  worked = worked_look rules.intervals store.geometry.block_size dids looks before after clock answer so.worked looked;
  no_fault = so.no_fault;
  clean = so.clean;
  timed = so.timed;
}

-- What a turn's end says where the work goes on, and where it ends.
went_none : (rules : Rules) (did : Did) (view : View) (last : ℕ) (how : Option WorkEnd) (is_last : Bool) → ends_work how is_last ≡ None → EndsTurn rules did view last how → (did.fault ≡ None) × (is_last ≡ false → 0 < length (found_of did) → last < rules.limit)
went_none rules did view last None is_last is ends = (ends.0, λ other. ends.1)
went_none rules did view last (Some work_end.TurnsMade) is_last is ends = absurd ends
went_none rules did view last (Some (work_end.TimeUp time)) is_last is ends = absurd ends
went_none rules did view last (Some (work_end.ErrorLimit seen)) true is ends = (ends.0, λ other. absurd (let t : true ≡ false = other in cc))
went_none rules did view last (Some (work_end.ErrorLimit seen)) false is ends = absurd (let other : Some (work_end.ErrorLimit seen) ≡ None = is in cc)
went_none rules did view last (Some (work_end.Book fault)) is_last is ends = absurd (let other : Some (work_end.Book fault) ≡ None = is in cc)

went_some : (rules : Rules) (turns : ℕ) (did : Did) (dids : List Did) (view : View) (last : ℕ) (clock : ClockSeen) (how : Option WorkEnd) (is_last : Bool) (end : WorkEnd) → ends_work how is_last ≡ Some end → EndsTurn rules did view last how → (is_last ≡ false → length (did ∷ dids) < turns) → length (did ∷ dids) ≤ turns → NoFault dids → Finished rules turns (did ∷ dids) view last clock end × (last_look end ≡ 0)
went_some rules turns did dids view last clock None is_last end is ends fewer within none = absurd (let other : None ≡ Some end = is in cc)
went_some rules turns did dids view last clock (Some work_end.TurnsMade) is_last end is ends fewer within none = absurd ends
went_some rules turns did dids view last clock (Some (work_end.TimeUp time)) is_last end is ends fewer within none = absurd ends
went_some rules turns did dids view last clock (Some (work_end.ErrorLimit seen)) true end is ends fewer within none = absurd (let other : None ≡ Some end = is in cc)
went_some rules turns did dids view last clock (Some (work_end.ErrorLimit seen)) false end is ends fewer within none =
    let same : work_end.ErrorLimit seen ≡ end = cc in
    subst (λ (e : WorkEnd). Finished rules turns (did ∷ dids) view last clock e × (last_look e ≡ 0)) same ((fewer refl, (ends.0, none), ends.1, ends.2, ends.3), refl)
went_some rules turns did dids view last clock (Some (work_end.Book fault)) is_last end is ends fewer within none =
    let same : work_end.Book fault ≡ end = cc in
    subst (λ (e : WorkEnd). Finished rules turns (did ∷ dids) view last clock e × (last_look e ≡ 0)) same ((within, (ends.0, none), ends.1), refl)

few_so : (found last notes more limit : ℕ) → (0 < found → last < limit) → (0 < found → more ≤ last) → more ≡ notes + (found + 0) → notes < limit → more < limit
few_so zero last notes more limit below bound noted few = omega arith
few_so (suc found) last notes more limit below bound noted few = let some : 0 < suc found = omega arith in omega (arith, below some, bound some)

-- What the newest note tells of the turns before the limit.
pub few_more : (rules : Rules) (did : Did) (view : View) (last notes more : ℕ) (how : Option WorkEnd) (is_last : Bool) → ends_work how is_last ≡ None → EndsTurn rules did view last how → (0 < length (found_of did) → more ≤ last) → more ≡ notes + (length (found_of did) + 0) → is_last ≡ false → notes < rules.limit → more < rules.limit
few_more rules did view last notes more how is_last is ends bound noted not_last few =
    few_so (length (found_of did)) last notes more rules.limit (λ some. (went_none rules did view last how is_last is ends).1 not_last some) bound noted few

-- A clock that stands still stands where it did.
timed_same : {more time : ℕ} (made : Done) (old new : ClockSeen) → Ticked more time old new → (IsTrue new.still → TimedAt new.last made) → IsTrue old.still → TimedAt old.last made
timed_same made old new ticked timed still = subst (λ (n : ℕ). TimedAt n made) (ticked.last still) (timed (subst (λ (b : Bool). IsTrue b) (sym ticked.still) still))

-- One more turn, which met no fault.
turned_more : (rules : Rules) (store : StoreId) (drawn : List Turn) (turn : Turn) (number : ℕ) (before middle after : Standing) (did : Did) (dids : List Did) → Turned rules store drawn (number + 1) before middle dids → did.turn ≡ turn → IsTurn rules store did → Worked rules.intervals store.geometry.block_size (did ∷ []) 0 middle after → did.fault ≡ None → (Fitted middle.view.made → did.corrupt ≡ []) → (IsTrue middle.clock.still → TimedAt middle.clock.last did.done) → Turned rules store (turn ∷ drawn) (number + 1) before after (did ∷ dids)
turned_more rules store drawn turn number before middle after did dids so turn_is is worked no_fault clean timed = record {
  each = (is, so.each);
  drawn = (let rest = so.drawn in cc);
  worked = worked_more rules.intervals store.geometry.block_size did dids (number + 1) before middle after so.worked worked;
  no_fault = (no_fault, so.no_fault);
  clean = λ fits. (clean (subst Fitted (sym so.worked.view.made) fits), so.clean fits);
  timed = λ still. (timed_same did.done before.clock middle.clock so.worked.clock timed still, so.timed still);
}

-- The work goes on behind a turn.
pub goes_on : (rules : Rules) (store : StoreId) (drawn : List Turn) (turn : Turn) (number turns : ℕ) (before middle after : Standing) (did : Did) (dids : List Did) (answers answers_after : List ℕ) (how : Option WorkEnd) (is_last : Bool) → number < turns → length dids ≡ number → Turned rules store drawn (number + 1) before middle dids → WentOn rules.limit (number < turns) dids answers → HasTaken rules store turn middle after answers answers_after how did → ends_work how is_last ≡ None → (number + 1 < turns → is_last ≡ false) → HasTurned rules store (number + 1) turns (turn ∷ drawn) before after answers_after
goes_on rules store drawn turn number turns before middle after did dids answers answers_after how is_last inside many so went_on took is not_last =
    let went = went_none rules did after.view (newest answers_after) how is_last is took.3 in (
      did ∷ dids,
      omega (arith, many),
      turned_more rules store drawn turn number before middle after did dids so took.0 took.1 took.2 went.0 took.4 took.5,
      went_more rules.limit (number < turns) (number + 1 < turns) did dids answers answers_after inside went_on took.6 (λ on some. went.1 (not_last on) some),
    )

-- It ends with a turn.
pub ends_with : (rules : Rules) (store : StoreId) (drawn : List Turn) (turn : Turn) (number turns : ℕ) (before middle after : Standing) (did : Did) (dids : List Did) (answers answers_after : List ℕ) (how : Option WorkEnd) (is_last : Bool) (end : WorkEnd) → length dids ≡ number → number < turns → Turned rules store drawn (number + 1) before middle dids → WentOn rules.limit (number < turns) dids answers → HasTaken rules store turn middle after answers answers_after how did → ends_work how is_last ≡ Some end → (is_last ≡ false → number + 1 < turns) → HasWorked rules store turns (turn ∷ drawn) before after answers_after end
ends_with rules store drawn turn number turns before middle after did dids answers answers_after how is_last end many inside so went_on took is not_last =
    let went = went_more rules.limit (number < turns) (number < turns → ⊥) did dids answers answers_after inside went_on took.6 (λ on some. absurd (on inside)) in
    let ends = went_some rules turns did dids after.view (newest answers_after) after.clock how is_last end is took.3 (λ other. let lt = not_last other in omega (arith, many, lt)) (omega (arith, many, inside)) so.no_fault in
    let worked = worked_more rules.intervals store.geometry.block_size did dids (number + 1) before middle after so.worked took.2 in
    let looks : number + 1 ≡ length (did ∷ dids) + last_look end = omega (arith, many, ends.1) in
    let turn_is = took.0 in
    let rest = so.drawn in
    (did ∷ dids, (took.1, so.each), cc, subst (λ (n : ℕ). Worked rules.intervals store.geometry.block_size (did ∷ dids) n before after) looks worked, ends.0, (λ fits. (took.4 (subst Fitted (sym so.worked.view.made) fits), so.clean fits)), (λ still. (timed_same did.done before.clock middle.clock so.worked.clock took.5 still, so.timed still)), below_behind rules.limit (did ∷ dids) answers_after end ends.1 went.behind)

-- It ends before a turn.
pub ends_in_time : (rules : Rules) (store : StoreId) (drawn : List Turn) (number turns time : ℕ) (before after : Standing) (dids : List Did) (answers : List ℕ) → length dids ≡ number → number < turns → Turned rules store drawn (number + 1) before after dids → WentOn rules.limit (number < turns) dids answers → after.clock.last ≡ time → rules.end ≤ time → HasWorked rules store turns drawn before after answers (work_end.TimeUp time)
ends_in_time rules store drawn number turns time before after dids answers many fewer so went_on is late =
    let looks : number + 1 ≡ length dids + 1 = omega (arith, many) in
    (dids, so.each, so.drawn, subst (λ (n : ℕ). Worked rules.intervals store.geometry.block_size dids n before after) looks so.worked, (omega (arith, many, fewer), so.no_fault, is, late), so.clean, so.timed, below_in_time rules.limit time dids answers (went_on.all fewer))

-- All turns were made.
pub ends_made : (rules : Rules) (store : StoreId) (drawn : List Turn) (turns : ℕ) (before after : Standing) (dids : List Did) (answers : List ℕ) (goes : Type 0) → length dids ≡ turns → Turned rules store drawn turns before after dids → WentOn rules.limit goes dids answers → HasWorked rules store turns drawn before after answers work_end.TurnsMade
ends_made rules store drawn turns before after dids answers goes many so went_on =
    let looks : turns ≡ length dids + 0 = omega (arith, many) in
    (dids, so.each, so.drawn, subst (λ (n : ℕ). Worked rules.intervals store.geometry.block_size dids n before after) looks so.worked, (many, so.no_fault), so.clean, so.timed, below_behind rules.limit dids answers work_end.TurnsMade refl went_on.behind)

pub none_turned : (rules : Rules) (store : StoreId) (before : Standing) → Turned rules store [] 0 before before []
none_turned rules store before = record {
  each = tt;
  drawn = refl;
  worked = worked_none rules.intervals store.geometry.block_size before;
  no_fault = tt;
  clean = λ fits. tt;
  timed = λ still. tt;
}

-- Whether a turn is the last one.
pub not_last : (number turns : ℕ) → number < turns → nat_eq (number + 1) turns ≡ false → number + 1 < turns
not_last number turns lt is = elim (cases_eq (number + 1) turns) [ inl same ↦ absurd (let so : nat_eq (number + 1) turns ≡ true = eq-eqb (number + 1) turns same in cc) | inr apart ↦ omega (arith, lt, apart) ]

pub less_than_last : (number turns : ℕ) → number + 1 < turns → nat_eq (number + 1) turns ≡ false
less_than_last number turns lt = let apart : number + 1 ≢ turns = omega arith in ne_eqb (number + 1) turns apart

-- No turn was drawn.
pub none_drawn : (draw : Drawing) (task : Task) → draw ≡ record { task = task; turns = 0 } → drawn draw ≡ []
unfolding turns_of
none_drawn draw task is = ap (λ (d : Drawing). turns_of d.task d.turns) is
