-- What a turn did with the blocks that it held.
use Rattle.std.proofs.Common.{◌≡◌, ◌≢◌, ℕ, zero, suc, ◌+◌, ◌*◌, ◌<◌, nat_lt, replicate, ◌≤◌, ◌==◌, cond, Bool, true, false, refl, sym, ap, subst, ◌∙◌, inl, inr, ◌⊎◌, arith, List, [], ◌∷◌, ◌++◌, length, length-append, take, length-take-le, append_assoc, Option, Some, None, IfSome, IsSome, is_some}
use Rattle.vd_base.specs.declared.geometry.BlockNo.{BlockNo}
use Rattle.vd_base.specs.declared.geometry.StoreId.{StoreId}
use Rattle.vd_outside.specs.Clocks.{ClockSeen}
use Rattle.vd_arm.specs.Arm.{ArmSeen}
use Rattle.block_verdict.specs.declared.outcome.Verdict.TheVariants as verdict
use Rattle.key_state.specs.declared.entry.Entry.{Entry}
use Rattle.key_state.specs.declared.fault.BookFault.{BookFault}
use Rattle.key_state.specs.declared.seen.BookSeen.{BookSeen}
use Rattle.block_verdict.specs.declared.finding.Finding.{Finding}
use Rattle.claim_table.specs.declared.view.View.{View}
use Rattle.claim_table.specs.Views.{released}
use Rattle.seat_ops.specs.Holds.{GaveShut, HasFault, falling}
use Rattle.worker_tally.specs.Dones.{corrupt_in, corrupt_of, ended_put, fault, fault_put, faults_of, good, good_put, good_reads_of, good_writes_of, has_called, is_refused}
use Rattle.worker_tally.specs.declared.done.Done.{Done}
use Rattle.worker_tally.specs.declared.done.Look.{Look}
use Rattle.worker_tally.specs.declared.done.Put.{Put}
use Rattle.worker_tally.specs.declared.done.Put.TheVariants as a_put
use Rattle.workload_gen.specs.declared.turn.Turn.{Turn}
use Rattle.worker_tally.specs.Tallies.{Tallied}
use Rattle.slave_worker.specs.Dids.{AgreesWith, AreCorrupt, AreSpoilt, FollowsRules, HadAll, IsUsesOf, done_of, fault_found, first_fault, judged_as}
use Rattle.slave_worker.specs.Looks.{corrupt_run, reporting}
use Rattle.slave_worker.specs.Standings.{ArmCalls, Changed, GaveOpen, Ticked, WasAnswered}
use Rattle.slave_worker.specs.declared.did.Did.{Did}
use Rattle.slave_worker.specs.declared.did.Rules.{Rules}
use Rattle.slave_worker.proofs.Doing.{Reports, fault_found_many, findings_in_order, follows_reported, judged_reported, length_none, one_kind, refused_clean, reported_many, same_calls, some_corrupt}
use Rattle.slave_worker.proofs.Growing.{ticked_more}

-- One operation after another: the second ended no write.
changed_more : (one two : ℕ) (first middle last : View) (ended bad : List ℕ) → Changed one first middle ended [] → Changed two middle last [] bad → Changed (two + one) first last ended bad
changed_more one two first middle last ended bad p q = record {
  mine = q.mine ∙ p.mine;
  wrote = q.wrote ∙ p.wrote;
  cleared = q.cleared ∙ p.cleared;
  spoilt = q.spoilt ∙ ap (λ l. bad ++ l) p.spoilt;
  gave = (q.gave.0 ++ p.gave.0, q.gave.1 ∙ ap (λ l. q.gave.0 ++ l) p.gave.1 ∙ sym (append_assoc q.gave.0 p.gave.0 first.gave), omega (arith, length-append q.gave.0 p.gave.0, q.gave.2, p.gave.2));
  shut = λ is. q.shut (p.shut is);
  parts = q.parts ∙ p.parts;
  made = q.made ∙ p.made;
}

gave_more : (one two : List BookSeen) (first middle last : View) → last.gave ≡ two ++ middle.gave → middle.gave ≡ one ++ first.gave → last.gave ≡ (two ++ one) ++ first.gave
gave_more one two first middle last q p = q ∙ ap (λ l. two ++ l) p ∙ sym (append_assoc two one first.gave)

newest_shut : (fault : BookFault) (book other : BookSeen) → book ≡ other → (other.shut ≡ true) × HasFault other fault → (book.shut ≡ true) × HasFault book fault
newest_shut fault book other is has = subst (λ (b : BookSeen). (b.shut ≡ true) × HasFault b fault) (sym is) has

head_is : (book other : BookSeen) (books others : List BookSeen) → book ∷ books ≡ other ∷ others → book ≡ other
head_is book other books others is = cc

agrees_shut : (fault : BookFault) (gave before : List BookSeen) (view : View) → view.gave ≡ gave ++ before → 0 < length gave → GaveShut view fault → AgreesWith (Some fault) gave
agrees_shut fault [] before view is some shut = absurd (omega arith)
agrees_shut fault (book ∷ gave) before view is some shut =
    newest_shut fault book shut.0 (head_is book shut.0 (gave ++ before) shut.1 (sym is ∙ shut.2)) (shut.3, shut.4)

agrees_open : (gave before : List BookSeen) (view : View) → view.gave ≡ gave ++ before → (length gave ≡ 0) ⊎ GaveOpen view → AgreesWith None gave
agrees_open [] before view is how = tt
agrees_open (book ∷ gave) before view is (inl none) = absurd (omega arith)
agrees_open (book ∷ gave) before view is (inr going) =
    let here = head_is book going.0 (gave ++ before) going.1 (sym is ∙ going.2) in
    ap (λ (b : BookSeen). b.stopped) here ∙ going.3

-- What an operation on a run did, of which these are the contracts' clauses.
pub record Operated (rules : Rules) (store : StoreId) (drawn : Turn) (entries : List Entry) (first again : Look) (how : Put) (run : List Finding) (fault : Option BookFault) (before after : View) : Type 0 where
  pub all : length entries ≡ drawn.many
  pub follows : FollowsRules rules entries (done_of (length entries) drawn.read first how again)
  pub changed : (uses : ℕ) × IsUsesOf how uses × Changed uses before after (cond (ended_put how == 0) [] (falling drawn.block.0 (length entries))) []
  pub corrupt : corrupt_in first + corrupt_in again ≡ length run
  pub found : AreCorrupt store drawn.block.0 (judged_as entries (done_of (length entries) drawn.read first how again)) run
  pub refused : is_refused how ≡ is_some fault
  pub answered : IfSome fault (λ fault. WasAnswered after fault)
  pub goes_on : fault ≡ None → how ≢ a_put.Skipped → GaveOpen after

-- And what reporting the corrupt blocks did.
pub record Reported (run : List Finding) (many : ℕ) (fault : Option BookFault) (before after : View) : Type 0 where
  pub few : many ≤ length run
  pub changed : (bad : ℕ) × (spoilt : List ℕ) × AreSpoilt (take many run) bad spoilt × Changed many before after [] spoilt × (many ≤ bad + 1) × (fault ≡ None → (bad ≡ many) × (many ≡ length run))
  pub none : run ≡ [] → (after ≡ before) × (fault ≡ None)
  pub answered : IfSome fault (λ fault. WasAnswered after fault)
  pub some : IsSome fault → 0 < many
  pub goes_on : fault ≡ None → 0 < many → GaveOpen after

some_reported : (run : List Finding) (many : ℕ) (fault : Option BookFault) → (fault ≡ None → many ≡ length run) → (IsSome fault → 0 < many) → 0 < length run → 0 < many
some_reported run many None all some lt = omega (arith, all refl, lt)
some_reported run many (Some fault) all some lt = some refl

uses_some : (how : Put) (uses : ℕ) → IsUsesOf how uses → is_refused how ≡ true → 0 < uses
uses_some a_put.Skipped uses is refused = cc
uses_some a_put.Refused uses (inl is) refused = omega (arith, is)
uses_some a_put.Refused uses (inr is) refused = omega (arith, is)
uses_some a_put.Fault uses is refused = cc
uses_some (a_put.Unended appended) uses is refused = omega (arith, is)
uses_some a_put.Ended uses is refused = cc

-- it was skipped, and the book wasn't used, or not
skipped_or_not : (how : Put) (uses : ℕ) → IsUsesOf how uses → ((how ≡ a_put.Skipped) × (uses ≡ 0)) ⊎ (how ≢ a_put.Skipped)
skipped_or_not a_put.Skipped uses is = inl (refl, is)
skipped_or_not a_put.Refused uses is = inr (λ e. cc)
skipped_or_not a_put.Fault uses is = inr (λ e. cc)
skipped_or_not (a_put.Unended appended) uses is = inr (λ e. cc)
skipped_or_not a_put.Ended uses is = inr (λ e. cc)

-- the turn that did this with the blocks that it held
abbrev pub did_held : Turn → List Entry → Done → List Finding → List ℕ → List BookSeen → Option BookFault → Did
did_held drawn entries made corrupt spoilt gave fault = record {
  turn = drawn;
  mine = [];
  had = entries;
  refusal = None;
  done = made;
  corrupt = corrupt;
  spoilt = spoilt;
  gave = gave;
  fault = fault;
}

second_none : (one two : Option BookFault) → first_fault one two ≡ None → two ≡ None
second_none None two is = is
second_none (Some fault) two is = cc

either_fault : (one two : Option BookFault) → IsSome (first_fault one two) → (is_some one ≡ true) ⊎ IsSome two
either_fault None two some = inr some
either_fault (Some fault) two some = inl refl

some_fault : (one two : Option BookFault) (refused : Bool) → refused ≡ is_some one → refused ≡ true → IsSome (first_fault one two)
some_fault None two refused is so_is = cc
some_fault (Some fault) two refused is so_is = refl

agrees_all : (rules : Rules) (store : StoreId) (drawn : Turn) (entries : List Entry) (first again : Look) (how : Put) (run : List Finding) (many : ℕ) (one two : Option BookFault) (before middle after : View) (gave : List BookSeen) (uses : ℕ) → Operated rules store drawn entries first again how run one before middle → Reported run many two middle after → IsUsesOf how uses → length gave ≡ uses + many → after.gave ≡ gave ++ before.gave → AgreesWith (first_fault one two) gave
agrees_all rules store drawn entries first again how run many (Some fault) two before middle after gave uses op rep is long gave_is =
    let none : length run ≡ 0 = sym op.corrupt ∙ refused_clean rules entries (done_of (length entries) drawn.read first how again) op.follows op.refused in
    let same = (rep.none (length_none run none)).0 in
    let shut : GaveShut after fault = subst (λ (v : View). GaveShut v fault) (sym same) op.answered.0 in
    agrees_shut fault gave before.gave after gave_is (omega (arith, long, uses_some how uses is op.refused)) shut
agrees_all rules store drawn entries first again how run many None (Some fault) before middle after gave uses op rep is long gave_is =
    agrees_shut fault gave before.gave after gave_is (omega (arith, long, rep.some refl)) rep.answered.0
agrees_all rules store drawn entries first again how run zero None None before middle after gave uses op rep is long gave_is =
    let none : length run ≡ 0 = sym (rep.changed.5 refl).1 in
    let same = (rep.none (length_none run none)).0 in
    agrees_open gave before.gave after gave_is
    (elim (skipped_or_not how uses is) [ inl skipped ↦ inl (omega (arith, long, skipped.1)) | inr not ↦ inr (subst (λ (v : View). GaveOpen v) (sym same) (op.goes_on refl not)) ])
agrees_all rules store drawn entries first again how run (suc many) None None before middle after gave uses op rep is long gave_is =
    agrees_open gave before.gave after gave_is (inr (rep.goes_on refl (omega arith)))

-- How the report was made.
pub reports_of : (rules : Rules) (store : StoreId) (drawn : Turn) (entries : List Entry) (first again : Look) (how : Put) (run : List Finding) (many : ℕ) (one two : Option BookFault) (before middle after : View) (made : Done) → Operated rules store drawn entries first again how run one before middle → Reported run many two middle after → made.first ≡ reporting first many → made.put ≡ how → made.again ≡ reporting again many → Reports first again how many made
reports_of rules store drawn entries first again how run many one two before middle after made op rep first_is put_is again_is = record {
  first = first_is;
  put = put_is;
  again = again_is;
  some = λ lt. some_reported run many two (λ none. (rep.changed.5 none).1) rep.some (omega (arith, lt, op.corrupt));
}

-- What the turn did is by the rules.
pub held_all : (rules : Rules) (store : StoreId) (drawn : Turn) (entries : List Entry) (first again : Look) (how : Put) (run : List Finding) (many : ℕ) (one two : Option BookFault) (before middle after : View) (made : Done) (op : Operated rules store drawn entries first again how run one before middle) (rep : Reported run many two middle after) → Reports first again how many made → made.many ≡ drawn.many → made.read ≡ drawn.read → HadAll rules store (did_held drawn entries made (take many run) rep.changed.1 (rep.changed.3.gave.0 ++ op.changed.2.gave.0) (first_fault one two))
held_all rules store drawn entries first again how run many one two before middle after made op rep reports many_is read_is =
    let kind = one_kind rules entries (done_of (length entries) drawn.read first how again) op.follows in
    let some_of : length (take many run) ≡ many = length-take-le many run rep.few in
    let long : length (rep.changed.3.gave.0 ++ op.changed.2.gave.0) ≡ op.changed.0 + many = omega (arith, length-append rep.changed.3.gave.0 op.changed.2.gave.0, rep.changed.3.gave.2, op.changed.2.gave.2) in
    record {
      all = op.all;
      many = many_is;
      reads = read_is;
      follows = follows_reported rules entries (length entries) drawn.read first again how many made (many_is ∙ sym op.all) read_is reports op.follows;
      corrupt = subst (λ (l : List Entry). AreCorrupt store drawn.block.0 l (take many run)) (judged_reported entries (length entries) drawn.read first again how many made reports) (some_corrupt many run store drawn.block.0 _ op.found);
      as_many = some_of ∙ sym (reported_many first again how many (length run) made reports kind op.corrupt rep.few);
      spoilt = (rep.changed.0, rep.changed.2, omega (arith, some_of, rep.changed.4), λ none. (rep.changed.5 (second_none one two none)).0 ∙ sym some_of);
      uses = (op.changed.0, subst (λ (p : Put). IsUsesOf p op.changed.0) (sym reports.put) op.changed.1, omega (arith, long, some_of));
      agrees = agrees_all rules store drawn entries first again how run many one two before middle after (rep.changed.3.gave.0 ++ op.changed.2.gave.0) op.changed.0 op rep op.changed.1 long (gave_more op.changed.2.gave.0 rep.changed.3.gave.0 before middle after rep.changed.3.gave.1 op.changed.2.gave.1);
      refused = λ so_is. some_fault one two (is_refused how) op.refused (ap is_refused (sym reports.put) ∙ so_is);
      cause = λ some. elim (either_fault one two some) [ inl first_one ↦ inl (ap is_refused reports.put ∙ op.refused ∙ first_one) | inr second_one ↦ inr (omega (arith, some_of, rep.some second_one)) ];
    }

-- What the seat knows of it.
pub held_view : (rules : Rules) (store : StoreId) (drawn : Turn) (entries : List Entry) (first again : Look) (how : Put) (run : List Finding) (many : ℕ) (one two : Option BookFault) (before middle after : View) (made : Done) (op : Operated rules store drawn entries first again how run one before middle) (rep : Reported run many two middle after) → made.put ≡ how → Changed (length (rep.changed.3.gave.0 ++ op.changed.2.gave.0)) before after (cond (ended_put made.put == 0) [] (falling drawn.block.0 drawn.many)) rep.changed.1
held_view rules store drawn entries first again how run many one two before middle after made op rep put_is =
    let both = changed_more op.changed.0 many before middle after _ _ op.changed.2 rep.changed.3 in
    record {
      mine = both.mine;
      wrote = both.wrote ∙ ap (λ (n : ℕ). cond (ended_put how == 0) [] (falling drawn.block.0 n) ++ before.wrote) op.all ∙ ap (λ (p : Put). cond (ended_put p == 0) [] (falling drawn.block.0 drawn.many) ++ before.wrote) (sym put_is);
      cleared = both.cleared;
      spoilt = both.spoilt;
      gave = (rep.changed.3.gave.0 ++ op.changed.2.gave.0, (gave_more op.changed.2.gave.0 rep.changed.3.gave.0 before middle after rep.changed.3.gave.1 op.changed.2.gave.1), refl);
      shut = both.shut;
      parts = both.parts;
      made = both.made;
    }

-- The same where the blocks were released.
pub released_view : (uses : ℕ) (before after : View) (ended bad : List ℕ) → Changed uses before after ended bad → Changed uses before (released after []) ended bad
released_view uses before after ended bad is = record {
  mine = is.mine;
  wrote = is.wrote;
  cleared = is.cleared;
  spoilt = is.spoilt;
  gave = is.gave;
  shut = is.shut;
  parts = is.parts;
  made = is.made;
}

-- The fault was answered.
pub held_answered : (rules : Rules) (store : StoreId) (drawn : Turn) (entries : List Entry) (first again : Look) (how : Put) (run : List Finding) (many : ℕ) (one two : Option BookFault) (before middle after : View) → Operated rules store drawn entries first again how run one before middle → Reported run many two middle after → IfSome (first_fault one two) (λ fault. WasAnswered after fault)
held_answered rules store drawn entries first again how run many None two before middle after op rep = rep.answered
held_answered rules store drawn entries first again how run many (Some fault) two before middle after op rep =
    let none : length run ≡ 0 = sym op.corrupt ∙ refused_clean rules entries (done_of (length entries) drawn.read first how again) op.follows op.refused in
    subst (λ (v : View). WasAnswered v fault) (sym (rep.none (length_none run none)).0) op.answered

-- Its findings, in the turn's order.
pub held_findings : (rules : Rules) (store : StoreId) (drawn : Turn) (entries : List Entry) (first again : Look) (how : Put) (run : List Finding) (many : ℕ) (one two : Option BookFault) (before middle after : View) (made : Done) (tally : Tallied) (op : Operated rules store drawn entries first again how run one before middle) (rep : Reported run many two middle after) → Reports first again how many made → made.many ≡ drawn.many → made.read ≡ drawn.read → (tally.findings ++ take many run) ++ fault_found drawn.block.0 made ≡ tally.findings ++ (fault_found drawn.block.0 made ++ take many run)
held_findings rules store drawn entries first again how run many one two before middle after made tally op rep reports many_is read_is =
    let all = held_all rules store drawn entries first again how run many one two before middle after made op rep reports many_is read_is in
    findings_in_order tally.findings (take many run) drawn.block.0 made (one_kind rules entries made all.follows) all.as_many

pub held_gave : (rules : Rules) (store : StoreId) (drawn : Turn) (entries : List Entry) (first again : Look) (how : Put) (run : List Finding) (many : ℕ) (one two : Option BookFault) (before middle after : View) (op : Operated rules store drawn entries first again how run one before middle) (rep : Reported run many two middle after) → after.gave ≡ (rep.changed.3.gave.0 ++ op.changed.2.gave.0) ++ before.gave
held_gave rules store drawn entries first again how run many one two before middle after op rep = gave_more op.changed.2.gave.0 rep.changed.3.gave.0 before middle after rep.changed.3.gave.1 op.changed.2.gave.1

-- The contracts' clauses are told of the run's first block, which is the turn's.
pub operated_of : (rules : Rules) (store : StoreId) (drawn : Turn) (entries : List Entry) (first again : Look) (how : Put) (fault : Option BookFault) (before after : View) (block : BlockNo) (runs : BlockNo → List Finding) → block ≡ drawn.block → length entries ≡ drawn.many → FollowsRules rules entries (done_of (length entries) drawn.read first how again) → ((uses : ℕ) × IsUsesOf how uses × Changed uses before after (cond (ended_put how == 0) [] (falling block.0 (length entries))) []) → corrupt_in first + corrupt_in again ≡ length (runs block) → AreCorrupt store block.0 (judged_as entries (done_of (length entries) drawn.read first how again)) (runs block) → is_refused how ≡ is_some fault → IfSome fault (λ fault. WasAnswered after fault) → (fault ≡ None → how ≢ a_put.Skipped → GaveOpen after) → Operated rules store drawn entries first again how (runs drawn.block) fault before after
operated_of rules store drawn entries first again how fault before after block runs is all follows changed corrupt found refused answered goes_on = record {
  all = all;
  follows = follows;
  changed = subst (λ (b : BlockNo). (uses : ℕ) × IsUsesOf how uses × Changed uses before after (cond (ended_put how == 0) [] (falling b.0 (length entries))) []) is changed;
  corrupt = subst (λ (b : BlockNo). corrupt_in first + corrupt_in again ≡ length (runs b)) is corrupt;
  found = subst (λ (b : BlockNo). AreCorrupt store b.0 (judged_as entries (done_of (length entries) drawn.read first how again)) (runs b)) is found;
  refused = refused;
  answered = answered;
  goes_on = goes_on;
}

pub reported_of : (drawn : Turn) (many : ℕ) (fault : Option BookFault) (before after : View) (block : BlockNo) (runs : BlockNo → List Finding) → block ≡ drawn.block → many ≤ length (runs block) → ((bad : ℕ) × (spoilt : List ℕ) × AreSpoilt (take many (runs block)) bad spoilt × Changed many before after [] spoilt × (many ≤ bad + 1) × (fault ≡ None → (bad ≡ many) × (many ≡ length (runs block)))) → (runs block ≡ [] → (after ≡ before) × (fault ≡ None)) → IfSome fault (λ fault. WasAnswered after fault) → (IsSome fault → 0 < many) → (fault ≡ None → 0 < many → GaveOpen after) → Reported (runs drawn.block) many fault before after
reported_of drawn many fault before after block runs is few changed none answered some goes_on =
    subst (λ (b : BlockNo). Reported (runs b) many fault before after) is
    (record {
      few = few;
      changed = changed;
      none = none;
      answered = answered;
      some = some;
      goes_on = goes_on;
    })

-- The tally behind the report and the finding of a failed call.
pub held_tally : (runs : BlockNo → List Finding) (block other : BlockNo) (many : ℕ) (faults : List Finding) (before middle after : Tallied) → block ≡ other → middle ≡ record before { findings = before.findings ++ take many (runs block) } → after ≡ record middle { findings = middle.findings ++ faults } → (before.findings ++ take many (runs other)) ++ faults ≡ before.findings ++ (faults ++ take many (runs other)) → after ≡ record before { findings = before.findings ++ (faults ++ take many (runs other)) }
held_tally runs block other many faults before middle after is middle_is after_is order =
    after_is ∙ ap (λ (t : Tallied). record t { findings = t.findings ++ faults }) (middle_is ∙ ap (λ (b : BlockNo). record before { findings = before.findings ++ take many (runs b) }) is) ∙ ap (λ (l : List Finding). record before { findings = l }) order

room_so : (old corrupt faults room : ℕ) → faults ≤ 1 → (0 < faults → corrupt ≡ 0) → corrupt ≤ 64 → old + 64 ≤ room → old + corrupt + faults ≤ room
room_so old corrupt zero room few apart small fits = omega arith
room_so old corrupt (suc faults) room few apart small fits = let none : corrupt ≡ 0 = apart (omega arith) in omega arith

-- There is room for the finding of a failed call.
pub held_room : (runs : BlockNo → List Finding) (block other : BlockNo) (many : ℕ) (first : ℕ) (rules : Rules) (entries : List Entry) (made : Done) (before middle : Tallied) → block ≡ other → middle ≡ record before { findings = before.findings ++ take many (runs block) } → FollowsRules rules entries made → length (take many (runs other)) ≡ corrupt_of made → made.many ≤ 64 → length before.findings + 64 ≤ before.finding_room → length middle.findings + length (fault_found first made) ≤ middle.finding_room
held_room runs block other many first rules entries made before middle is middle_is follows long few fits =
    let kind = one_kind rules entries made follows in
    let faults = fault_found_many first made kind in
    let now = middle_is ∙ ap (λ (b : BlockNo). record before { findings = before.findings ++ take many (runs b) }) is in
    let small : corrupt_of made ≤ 64 = omega (arith, follows.few, few) in
    let so = room_so (length before.findings) (corrupt_of made) (faults_of made) before.finding_room kind.few kind.apart small fits in
    subst (λ (t : Tallied). length t.findings + length (fault_found first made) ≤ t.finding_room) (sym now)
    (omega (arith, length-append before.findings (take many (runs other)), long, faults, so))

-- Reporting fewer corrupt blocks changes no call.
pub called_same : (first again : Look) (how : Put) (many blocks : ℕ) (made : Done) (a b : ArmSeen) → Reports first again how many made → made.many ≡ blocks → ArmCalls (blocks * (good first + good again)) (blocks * good_put how) (fault first + fault_put how + fault again) a b → ArmCalls (good_reads_of made) (good_writes_of made) (faults_of made) a b
called_same first again how many blocks made a b reports blocks_is calls =
    let same = same_calls first again how many made reports in
    let put_good : good_put made.put ≡ good_put how = ap good_put reports.put in
    let put_fault : fault_put made.put ≡ fault_put how = ap fault_put reports.put in
    let good_first = same.good_first in
    let good_again = same.good_again in
    let fault_first = same.fault_first in
    let fault_again = same.fault_again in
    let reads : blocks * (good first + good again) ≡ good_reads_of made = cc in
    let writes : blocks * good_put how ≡ good_writes_of made = cc in
    let faults : fault first + fault_put how + fault again ≡ faults_of made = cc in
    subst (λ (n : ℕ). ArmCalls (good_reads_of made) (good_writes_of made) n a b) faults
    (subst (λ (n : ℕ). ArmCalls (good_reads_of made) n (fault first + fault_put how + fault again) a b) writes
    (subst (λ (n : ℕ). ArmCalls n (blocks * good_put how) (fault first + fault_put how + fault again) a b) reads calls))

pub has_called_same : (first again : Look) (how : Put) (many blocks : ℕ) (read : Bool) (made : Done) → Reports first again how many made → has_called made ≡ has_called (done_of blocks read first how again)
has_called_same first again how many blocks read made reports =
    let same = same_calls first again how many made reports in
    let put_good : good_put made.put ≡ good_put how = ap good_put reports.put in
    let put_fault : fault_put made.put ≡ fault_put how = ap fault_put reports.put in
    ap (λ (n : ℕ). nat_lt 0 n) (omega (arith, same.good_first, same.good_again, same.fault_first, same.fault_again, put_good, put_fault))

twice : (called : Bool) (many : ℕ) → many ≡ cond called 1 0 → cond called 2 0 ≡ many + many
twice true many is = omega (arith, is)
twice false many is = omega (arith, is)

-- The clock was looked at before and after, or not at all.
pub clock_twice : (called now_called : Bool) (many : ℕ) (a b c : ClockSeen) → now_called ≡ called → many ≡ cond called 1 0 → Ticked many a.until a b → Ticked many b.until b c → Ticked (cond now_called 2 0) a.until a c
clock_twice called now_called many a b c same is one two =
    ticked_more many many (cond now_called 2 0) a.until a.until a b c (twice now_called many (is ∙ ap (λ (t : Bool). cond t 1 0) (sym same))) one (subst (λ (n : ℕ). Ticked many n b c) one.until two)

pub started_so : (called now_called : Bool) (many : ℕ) → now_called ≡ called → many ≡ cond called 1 0 → now_called ≡ true → many ≡ 1
started_so called now_called many same is so_is = is ∙ ap (λ (t : Bool). cond t 1 0) (sym same ∙ so_is)

-- Clean blocks are not reported.
pub none_found : (many : ℕ) (first : ℕ) (entries : List Entry) → corrupt_run first entries (replicate many verdict.Clean) ≡ []
none_found many first [] = refl
none_found zero first (entry ∷ entries) = refl
none_found (suc many) first (entry ∷ entries) = none_found many (first + 1) entries
