-- What a claim of a turn's blocks tells of the turn.
use Rattle.std.proofs.Common.{◌≡◌, ◌≢◌, ℕ, suc, ◌+◌, ◌<◌, ◌≤◌, cond, true, false, refl, sym, ap, subst, ◌∙◌, arith, List, [], ◌∷◌, ◌++◌, length, length-append, append-nil, Option, Some, None, IfSome}
use Rattle.vd_base.specs.declared.geometry.StoreId.{StoreId}
use Rattle.vd_arm.specs.Arm.{ArmSeen, PassSeen}
use Rattle.key_state.specs.Entries.{IsEntry}
use Rattle.key_state.specs.declared.entry.Entry.{Entry}
use Rattle.key_state.specs.declared.entry.Entry.TheVariants.{Settled, Pending, Bad}
use Rattle.key_state.specs.declared.fault.BookFault.{BookFault}
use Rattle.claim_table.specs.Runs.{ArePassesFor, AreNewest, CanBeHad, HasClaimed}
use Rattle.claim_table.specs.Seats.{IsBusyIn, IsFreeIn}
use Rattle.claim_table.specs.Sums.{Each}
use Rattle.claim_table.specs.Views.{answer_of, blocks_of, claimed, met_bad, parts_in, released, try, turned_away}
use Rattle.claim_table.specs.declared.view.Answer.{Answer}
use Rattle.claim_table.specs.declared.view.Answer.TheVariants as answer
use Rattle.claim_table.specs.declared.view.Item.{Item}
use Rattle.claim_table.specs.declared.view.Made.{Made}
use Rattle.claim_table.specs.declared.view.Try.{Try}
use Rattle.claim_table.specs.declared.view.View.{View}
use Rattle.block_ops.specs.Runs.{HeldRun, IsLive}
use Rattle.worker_tally.specs.declared.done.Refusal.{Refusal}
use Rattle.worker_tally.specs.declared.done.Refusal.TheVariants as refusal
use Rattle.worker_tally.specs.declared.done.Done.{Done}
use Rattle.worker_tally.specs.declared.done.Look.TheVariants as a_look
use Rattle.worker_tally.specs.declared.done.Put.TheVariants as a_put
use Rattle.workload_gen.specs.declared.turn.Turn.{Turn}
use Rattle.worker_tally.specs.Dones.{corrupt_of, faults_of}
use Rattle.worker_tally.specs.Tallies.{IsSmall, Tallied, with_done}
use Rattle.worker_tally.specs.declared.row.Intervals.{Intervals}
use Rattle.block_verdict.specs.declared.finding.Finding.{Finding}
use Rattle.vd_outside.specs.Clocks.{ClockSeen}
use Rattle.slave_worker.proofs.Doing.{fault_found_many, length_none, one_kind}
use Rattle.slave_worker.specs.Dids.{AreTries, HadAll, IsDidOf, IsTurn, IsTurnOf, fault_found, found_of, wrote_of}
use Rattle.slave_worker.specs.Standings.{ArmCalls, Changed, HoldsPasses, Ticked, ViewAfter, WasAnswered, has_fault}
use Rattle.slave_worker.specs.declared.did.Did.{Did}
use Rattle.slave_worker.specs.declared.did.Rules.{Rules}

-- Nothing differs but what is held and what was claimed.
pub record OnlyClaimed (before after : View) : Type 0 where
  pub loan : after.loan ≡ before.loan
  pub wrote : after.wrote ≡ before.wrote
  pub cleared : after.cleared ≡ before.cleared
  pub spoilt : after.spoilt ≡ before.spoilt
  pub gave : after.gave ≡ before.gave
  pub shut : after.shut ≡ before.shut
  pub parts : after.parts ≡ before.parts
  pub made : after.made ≡ before.made

pub only_claimed : (first : ℕ) (had : List Entry) (before after : View) → HasClaimed before first had after → OnlyClaimed before after
only_claimed first [] before after is = record {
  loan = ap (λ (v : View). v.loan) is;
  wrote = ap (λ (v : View). v.wrote) is;
  cleared = ap (λ (v : View). v.cleared) is;
  spoilt = ap (λ (v : View). v.spoilt) is;
  gave = ap (λ (v : View). v.gave) is;
  shut = ap (λ (v : View). v.shut) is;
  parts = ap (λ (v : View). v.parts) is;
  made = ap (λ (v : View). v.made) is;
}
only_claimed first (entry ∷ had) before after is =
    let rest = only_claimed (first + 1) had (claimed before first is.0 entry) after is.2 in
    record {
      loan = rest.loan;
      wrote = rest.wrote;
      cleared = rest.cleared;
      spoilt = rest.spoilt;
      gave = rest.gave;
      shut = rest.shut;
      parts = rest.parts;
      made = rest.made;
    }

newest_claimed : (first : ℕ) (had : List Entry) (before after : View) → HasClaimed before first had after → AreNewest first had after.held before.held
newest_claimed first [] before after is = ap (λ (v : View). v.held) is
newest_claimed first (entry ∷ had) before after is = (_, refl, refl, newest_claimed (first + 1) had (claimed before first is.0 entry) after is.2)

answer_had : (entry : Entry) → (entry ≢ Bad) → answer_of entry ≡ answer.Claimed entry
answer_had (Settled key) live = refl
answer_had (Pending old new) live = refl
answer_had Bad live = absurd (live refl)

-- The claims are those of the blocks that were had, and then of the one that was refused.
tries_claimed : (first : ℕ) (had : List Entry) (refused : Option Refusal) (tries : List Try) (before until : View) → Each CanBeHad had → HasClaimed before first had until → AreTries (first + length had) [] refused tries until.mine → AreTries first had refused tries before.mine
tries_claimed first [] refused tries before until can is ends =
    let here : first + 0 ≡ first = omega arith in
    subst (λ (v : View). AreTries first [] refused tries v.mine) is (subst (λ (n : ℕ). AreTries n [] refused tries until.mine) here ends)
tries_claimed first (entry ∷ had) refused tries before until can is ends =
    let here : first + suc (length had) ≡ first + 1 + length had = omega arith in
    let rest = tries_claimed (first + 1) had refused tries (claimed before first is.0 entry) until can.1 is.2 (subst (λ (n : ℕ). AreTries n [] refused tries until.mine) here ends) in
    (is.0, is.1, subst (λ (a : Answer). AreTries (first + 1) had refused tries (try first is.0 a ∷ before.mine)) (answer_had entry can.0.1) rest)

-- They stand before what was claimed earlier.
tries_after : (first : ℕ) (had : List Entry) (refused : Option Refusal) (tries some others : List Try) → AreTries first had refused tries (some ++ others) → (mine : List Try) × AreTries first had refused mine some × (tries ≡ mine ++ others)
tries_after first [] None tries some others are = (some, refl, are)
tries_after first [] (Some refusal.Busy) tries some others are = (try first are.0 answer.Busy ∷ some, (are.0, are.1, refl), are.2)
tries_after first [] (Some refusal.Bad) tries some others are = (try first are.0 answer.Bad ∷ some, (are.0, are.1, refl), are.2)
tries_after first (entry ∷ had) refused tries some others are =
    let rest = tries_after (first + 1) had refused tries (try first are.0 (answer.Claimed entry) ∷ some) others are.2 in
    (rest.0, (are.0, are.1, rest.1), rest.2)

-- A claim of many blocks, which ended with this view.
abbrev pub ClaimedAs : ℕ → List Entry → Option Refusal → View → View → Type 0
ClaimedAs first had refused before after = (mine : List Try) × AreTries first had refused mine [] × (after.mine ≡ mine ++ before.mine)

pub claimed_all : (first : ℕ) (had : List Entry) (before after : View) → Each CanBeHad had → HasClaimed before first had after → ClaimedAs first had None before after
claimed_all first had before after can is = tries_after first had None after.mine [] before.mine (tries_claimed first had None after.mine before after can is refl)

pub claimed_busy : (first : ℕ) (had : List Entry) (before until : View) (block word : ℕ) → Each CanBeHad had → HasClaimed before first had until → block ≡ first + length had → IsBusyIn word block → ClaimedAs first had (Some refusal.Busy) before (released (turned_away until block word) before.held)
claimed_busy first had before until block word can is at busy =
    tries_after first had (Some refusal.Busy) (try block word answer.Busy ∷ until.mine) [] before.mine
    (tries_claimed first had (Some refusal.Busy) (try block word answer.Busy ∷ until.mine) before until can is
    (subst (λ (n : ℕ). AreTries n [] (Some refusal.Busy) (try block word answer.Busy ∷ until.mine) until.mine) at (word, busy, refl)))

pub claimed_bad : (first : ℕ) (had : List Entry) (before until : View) (block word : ℕ) → Each CanBeHad had → HasClaimed before first had until → block ≡ first + length had → IsFreeIn word block Bad → ClaimedAs first had (Some refusal.Bad) before (released (met_bad until block word) before.held)
claimed_bad first had before until block word can is at free =
    tries_after first had (Some refusal.Bad) (try block word answer.Bad ∷ until.mine) [] before.mine
    (tries_claimed first had (Some refusal.Bad) (try block word answer.Bad ∷ until.mine) before until can is
    (subst (λ (n : ℕ). AreTries n [] (Some refusal.Bad) (try block word answer.Bad ∷ until.mine) until.mine) at (word, free, refl)))

valid_had : (had : List Entry) → Each CanBeHad had → Each IsEntry had
valid_had [] can = tt
valid_had (entry ∷ had) can = (can.0.0, valid_had had can.1)

pub live_had : (had : List Entry) → Each CanBeHad had → Each IsLive had
live_had [] can = tt
live_had (entry ∷ had) can = (can.0.1, live_had had can.1)

-- The seat holds what it claimed.
pub holds_claimed : {P : Type 0} (pass_seen : P → PassSeen) (store : StoreId) (before after : View) (run : HeldRun P) → before.held ≡ [] → before.loan ≡ None → before.made.store ≡ store → 0 < length run.entries → run.first + length run.entries ≤ store.geometry.blocks → Each CanBeHad run.entries → HasClaimed before run.first run.entries after → ArePassesFor pass_seen before.made run.first run.entries run.passes → HoldsPasses pass_seen store after run
holds_claimed pass_seen store before after run none loan store_is some within can is passes =
    let only = only_claimed run.first run.entries before after is in
    record {
      holds = record {
        held = subst (λ (l : List Item). AreNewest run.first run.entries after.held l) none (newest_claimed run.first run.entries before after is);
        loan = only.loan ∙ loan;
        within = subst (λ (m : Made). run.first + length run.entries ≤ blocks_of m) (sym only.made) (subst (λ (s : StoreId). run.first + length run.entries ≤ s.geometry.blocks) (sym store_is) within);
        valid = valid_had run.entries can;
      };
      passes = subst (λ (m : Made). ArePassesFor pass_seen m run.first run.entries run.passes) (sym only.made) passes;
      store = ap (λ (m : Made). m.store) only.made ∙ store_is;
      some = some;
    }

-- the turn that had all its blocks, with its claims
abbrev pub did_of : List Try → Did → Turn → List Entry → Done → Option BookFault → Did
did_of mine did drawn entries made answered = record {
  turn = drawn;
  mine = mine;
  had = entries;
  refusal = None;
  done = made;
  corrupt = did.corrupt;
  spoilt = did.spoilt;
  gave = did.gave;
  fault = answered;
}

did_is : (mine : List Try) (did : Did) (drawn : Turn) (entries : List Entry) (made : Done) (answered : Option BookFault) → IsDidOf did drawn entries made answered → record did { mine = mine } ≡ did_of mine did drawn entries made answered
did_is mine did drawn entries made answered is =
    let turn = is.turn in
    let had = is.had in
    let none = is.refusal in
    let done = is.done in
    let fault = is.fault in
    cc

had_claims : (rules : Rules) (store : StoreId) (mine : List Try) (did : Did) → HadAll rules store did → HadAll rules store (record did { mine = mine })
had_claims rules store mine did all = record {
  all = all.all;
  many = all.many;
  reads = all.reads;
  follows = all.follows;
  corrupt = all.corrupt;
  as_many = all.as_many;
  spoilt = all.spoilt;
  uses = all.uses;
  agrees = all.agrees;
  refused = all.refused;
  cause = all.cause;
}

pub act_all : (rules : Rules) (store : StoreId) (mine : List Try) (did : Did) (drawn : Turn) (entries : List Entry) (made : Done) (answered : Option BookFault) → IsDidOf did drawn entries made answered → HadAll rules store did → HadAll rules store (did_of mine did drawn entries made answered)
act_all rules store mine did drawn entries made answered is all =
    subst (λ (d : Did). HadAll rules store d) (did_is mine did drawn entries made answered is) (had_claims rules store mine did all)

-- It is a turn by the rules.
pub act_turn : (rules : Rules) (store : StoreId) (mine : List Try) (did : Did) (drawn : Turn) (entries : List Entry) (made : Done) (answered : Option BookFault) → IsDidOf did drawn entries made answered → HadAll rules store did → AreTries drawn.block.0 entries None mine [] → Each CanBeHad entries → IsTurnOf store drawn → IsTurn rules store (did_of mine did drawn entries made answered)
act_turn rules store mine did drawn entries made answered is all tries can inside = record {
  inside = inside;
  claims = tries;
  can_be = can;
  had = λ none. act_all rules store mine did drawn entries made answered is all;
  away = λ some. cc;
}

shut_by : (view : View) (answered : Option BookFault) → IfSome answered (λ fault. WasAnswered view fault) → cond (has_fault answered) true false ≡ true → view.shut ≡ true
shut_by view None was is = cc
shut_by view (Some fault) was is = was.1

held_as : (mine : List Try) (did : Did) (drawn : Turn) (entries : List Entry) (made : Done) (answered : Option BookFault) (before after : View) → IsDidOf did drawn entries made answered → Changed (length did.gave) before after (wrote_of did) did.spoilt → Changed (length did.gave) before after (wrote_of (did_of mine did drawn entries made answered)) did.spoilt
held_as mine did drawn entries made answered before after is changed =
    subst (λ (d : Did). Changed (length did.gave) before after (wrote_of d) did.spoilt) (did_is mine did drawn entries made answered is) changed

-- What the view tells of it.
pub act_view : (mine : List Try) (did : Did) (drawn : Turn) (entries : List Entry) (made : Done) (answered : Option BookFault) (first middle last : View) → IsDidOf did drawn entries made answered → OnlyClaimed first middle → middle.mine ≡ mine ++ first.mine → Changed (length did.gave) middle last (wrote_of did) did.spoilt → last.gave ≡ did.gave ++ middle.gave → IfSome answered (λ fault. WasAnswered last fault) → ViewAfter (did_of mine did drawn entries made answered ∷ []) first last
act_view mine did drawn entries made answered first middle last is only claims changed_before gave was =
    let changed = held_as mine did drawn entries made answered middle last is changed_before in
    let one = did_of mine did drawn entries made answered in
    record {
      mine = changed.mine ∙ claims ∙ ap (λ l. l ++ first.mine) (sym (append-nil mine));
      wrote = changed.wrote ∙ ap (λ l. wrote_of one ++ l) only.wrote ∙ ap (λ l. l ++ first.wrote) (sym (append-nil (wrote_of one)));
      spoilt = changed.spoilt ∙ ap (λ l. did.spoilt ++ l) only.spoilt ∙ ap (λ l. l ++ first.spoilt) (sym (append-nil did.spoilt));
      cleared = changed.cleared ∙ only.cleared;
      parts = changed.parts ∙ only.parts;
      made = changed.made ∙ only.made;
      gave = gave ∙ ap (λ l. did.gave ++ l) only.gave ∙ ap (λ l. l ++ first.gave) (sym (append-nil did.gave));
      stays = λ shut. changed.shut (only.shut ∙ shut);
      shut = λ any. shut_by last answered was any;
      alone = λ all. ((λ busy. cc), tt);
    }

-- the turn that was refused
abbrev pub refused_of : Turn → List Try → List Entry → Refusal → Did
refused_of drawn mine had why = record {
  turn = drawn;
  mine = mine;
  had = had;
  refusal = Some why;
  done = record { many = 0; read = false; first = a_look.Skipped; put = a_put.Skipped; again = a_look.Skipped; timed = record { before = 0; after = 0 } };
  corrupt = [];
  spoilt = [];
  gave = [];
  fault = None;
}

pub refused_turn : (rules : Rules) (store : StoreId) (drawn : Turn) (mine : List Try) (had : List Entry) (why : Refusal) → AreTries drawn.block.0 had (Some why) mine [] → Each CanBeHad had → length had < drawn.many → IsTurnOf store drawn → IsTurn rules store (refused_of drawn mine had why)
refused_turn rules store drawn mine had why tries can fewer inside = record {
  inside = inside;
  claims = tries;
  can_be = can;
  had = λ none. cc;
  away = λ some. record { fewer = fewer; nothing = refl; none_bad = refl; no_use = refl; no_fault = refl };
}

same_why : (one two : Refusal) → Some one ≡ Some two → one ≡ two
same_why one two is = cc

pub refused_view : (drawn : Turn) (mine : List Try) (had : List Entry) (why : Refusal) (first last : View) → OnlyClaimed first last → last.mine ≡ mine ++ first.mine → (why ≡ refusal.Busy → first.parts < parts_in first.made) → ViewAfter (refused_of drawn mine had why ∷ []) first last
refused_view drawn mine had why first last only claims fewer = record {
  mine = claims ∙ ap (λ l. l ++ first.mine) (sym (append-nil mine));
  wrote = only.wrote;
  spoilt = only.spoilt;
  cleared = only.cleared;
  parts = only.parts;
  made = only.made;
  gave = only.gave;
  stays = λ shut. only.shut ∙ shut;
  shut = λ any. cc;
  alone = λ all. ((λ busy. let less = fewer (same_why why refusal.Busy busy) in omega (arith, all, less)), tt);
}

same_fields : (before until after : View) → OnlyClaimed before until → after.loan ≡ until.loan → after.wrote ≡ until.wrote → after.cleared ≡ until.cleared → after.spoilt ≡ until.spoilt → after.gave ≡ until.gave → after.shut ≡ until.shut → after.parts ≡ until.parts → after.made ≡ until.made → OnlyClaimed before after
same_fields before until after only loan wrote cleared spoilt gave shut parts made = record {
  loan = loan ∙ only.loan;
  wrote = wrote ∙ only.wrote;
  cleared = cleared ∙ only.cleared;
  spoilt = spoilt ∙ only.spoilt;
  gave = gave ∙ only.gave;
  shut = shut ∙ only.shut;
  parts = parts ∙ only.parts;
  made = made ∙ only.made;
}

pub only_busy : (before until : View) (block word : ℕ) → OnlyClaimed before until → OnlyClaimed before (released (turned_away until block word) before.held)
only_busy before until block word only = same_fields before until (released (turned_away until block word) before.held) only refl refl refl refl refl refl refl refl

pub only_bad : (before until : View) (block word : ℕ) → OnlyClaimed before until → OnlyClaimed before (released (met_bad until block word) before.held)
only_bad before until block word only = same_fields before until (released (met_bad until block word) before.held) only refl refl refl refl refl refl refl refl

-- What it found is what its numbers say.
pub act_found : (rules : Rules) (store : StoreId) (mine : List Try) (did : Did) (drawn : Turn) (entries : List Entry) (made : Done) (answered : Option BookFault) → IsDidOf did drawn entries made answered → HadAll rules store did → faults_of made + corrupt_of made ≡ length (found_of (did_of mine did drawn entries made answered))
act_found rules store mine did drawn entries made answered is all_before =
    let all = act_all rules store mine did drawn entries made answered is all_before in
    let faults = fault_found_many drawn.block.0 made (one_kind rules entries made all.follows) in
    omega (arith, length-append (fault_found drawn.block.0 made) did.corrupt, faults, all.as_many)

pub act_clean : (rules : Rules) (store : StoreId) (did : Did) (drawn : Turn) (entries : List Entry) (made : Done) (answered : Option BookFault) → IsDidOf did drawn entries made answered → HadAll rules store did → corrupt_of made ≡ 0 → did.corrupt ≡ []
act_clean rules store did drawn entries made answered is all_before none =
    let all = act_all rules store [] did drawn entries made answered is all_before in
    length_none did.corrupt (all.as_many ∙ none)

-- What it did to the tally.
pub act_tally : (intervals : Intervals) (size some_size : ℕ) (mine : List Try) (did : Did) (drawn : Turn) (entries : List Entry) (made : Done) (answered : Option BookFault) (before middle after : Tallied) → IsDidOf did drawn entries made answered → some_size ≡ size → middle ≡ record before { findings = before.findings ++ found_of did } → after ≡ with_done intervals some_size made middle → after ≡ with_done intervals size made (record before { findings = before.findings ++ found_of (did_of mine did drawn entries made answered) })
act_tally intervals size some_size mine did drawn entries made answered before middle after is size_is middle_is after_is =
    let found : found_of did ≡ found_of (did_of mine did drawn entries made answered) = ap found_of (did_is mine did drawn entries made answered is) in
    after_is ∙ ap (λ (n : ℕ). with_done intervals n made middle) size_is ∙ ap (λ (t : Tallied). with_done intervals size made t) (middle_is ∙ ap (λ (l : List Finding). record before { findings = before.findings ++ l }) found)

pub small_same : (before after : Tallied) (findings : List Finding) → after ≡ record before { findings = findings } → IsSmall before → IsSmall after
small_same before after findings is small = subst (λ (t : Tallied). IsSmall t) (sym is) (record { numbers = small.numbers; rows = small.rows })

-- A turn that was refused called nothing.
pub arm_none : (arm : ArmSeen) → ArmCalls 0 0 0 arm arm
arm_none arm = record {
  read = omega arith;
  written = omega arith;
  failed = omega arith;
  kept = λ none. refl;
  sure = λ is. is;
  still = λ is. refl;
}

pub ticked_none : (clock : ClockSeen) → Ticked 0 clock.until clock clock
ticked_none clock = record {
  looks = refl;
  until = refl;
  still = refl;
  last = λ is. refl;
  same = λ none. refl;
}
