-- Several steps of a turn in a row, and what each leaves of the run, of the seat's view, of the arm and of the clock.
use Rattle.std.proofs.Common.{◌≡◌, ◌⊎◌, inl, inr, ℕ, zero, suc, ◌+◌, ◌-◌, ◌^◌, ◌<◌, ◌==◌, min, Bool, cond, true, false, IsTrue, List, [], ◌∷◌, ◌++◌, length, map, refl, sym, ap, subst, ◌∙◌, append_assoc, arith}
use Rattle.vd_base.specs.declared.geometry.StoreId.{StoreId}
use Rattle.vd_outside.specs.Clocks.{ClockSeen}
use Rattle.vd_arm.specs.Arm.{ArmSeen, PassSeen}
use Rattle.key_state.specs.Entries.{begun, ended}
use Rattle.key_state.specs.declared.entry.Entry.{Entry}
use Rattle.key_state.specs.declared.entry.Entry.TheVariants.{Settled, Pending, Bad}
use Rattle.key_state.specs.declared.seen.BookSeen.{BookSeen}
use Rattle.claim_table.specs.Sums.{Each}
use Rattle.claim_table.specs.Runs.{ArePassesFor}
use Rattle.claim_table.specs.declared.view.Made.{Made}
use Rattle.claim_table.specs.declared.view.View.{View}
use Rattle.block_ops.specs.Answers.{IsEither}
use Rattle.block_ops.specs.Runs.{HeldRun, IsBegun, IsLive}
use Rattle.block_ops.proofs.RunParts.{begun_each, length_begun}
use Rattle.seat_ops.specs.Holds.{HoldsRun, UsedBook, falling}
use Rattle.worker_tally.specs.Dones.{ended_put}
use Rattle.worker_tally.specs.declared.done.Put.TheVariants as put
use Rattle.slave_worker.specs.Looks.{first_settled}
use Rattle.slave_worker.specs.Standings.{ArmCalls, Changed, HoldsPasses, Ticked, looks_after}

-- Uses of the book.
pub changed_once : (v w : View) (over bad : List ℕ) → UsedBook v w over bad → Changed 1 v w over bad
changed_once v w over bad used =
    let book : BookSeen = used.gave.0 in
    record {
      mine = used.mine;
      wrote = used.wrote;
      cleared = used.cleared;
      spoilt = used.spoilt;
      gave = (book ∷ [], used.gave.1, refl);
      shut = λ is. used.gave.2 ∙ ap (λ (b : Bool). cond b true book.shut) is;
      parts = used.parts;
      made = used.made;
    }

long_both : {A : Type 0} (xs ys : List A) (m n k : ℕ) → k ≡ m + n → length ys ≡ m → length xs ≡ n → length (xs ++ ys) ≡ k
long_both [] ys m n k is a b = omega arith
long_both (x ∷ xs) ys m zero k is a b = absurd (omega (arith, b))
long_both (x ∷ xs) ys m (suc n) k is a b = omega (arith, long_both xs ys m n (m + n) refl a (omega (arith, b)), is)

pub changed_add : (m n k : ℕ) (u v w : View) (over bad more_over more_bad : List ℕ) → k ≡ m + n → Changed m u v over bad → Changed n v w more_over more_bad → Changed k u w (more_over ++ over) (more_bad ++ bad)
changed_add m n k u v w over bad more_over more_bad is first then = record {
  mine = then.mine ∙ first.mine;
  wrote = then.wrote ∙ ap (λ (l : List ℕ). more_over ++ l) first.wrote ∙ sym (append_assoc more_over over u.wrote);
  cleared = then.cleared ∙ first.cleared;
  spoilt = then.spoilt ∙ ap (λ (l : List ℕ). more_bad ++ l) first.spoilt ∙ sym (append_assoc more_bad bad u.spoilt);
  gave = (
    then.gave.0 ++ first.gave.0,
    then.gave.1 ∙ ap (λ (l : List BookSeen). then.gave.0 ++ l) first.gave.1 ∙ sym (append_assoc then.gave.0 first.gave.0 u.gave),
    long_both then.gave.0 first.gave.0 m n k is first.gave.2 then.gave.2,
  );
  shut = λ shut. then.shut (first.shut shut);
  parts = then.parts ∙ first.parts;
  made = then.made ∙ first.made;
}

-- after uses that ended nothing and made nothing bad
none_before : (l : List ℕ) → l ++ [] ≡ l
none_before [] = refl
none_before (n ∷ l) = ap (λ (t : List ℕ). n ∷ t) (none_before l)

pub changed_then : (m n k : ℕ) (u v w : View) (over bad : List ℕ) → k ≡ m + n → Changed m u v [] [] → Changed n v w over bad → Changed k u w over bad
changed_then m n k u v w over bad is first then =
    let both : Changed k u w (over ++ []) (bad ++ []) = changed_add m n k u v w [] [] over bad is first then in
    subst (λ (l : List ℕ). Changed k u w over l) (none_before bad) (subst (λ (l : List ℕ). Changed k u w l (bad ++ [])) (none_before over) both)

pub changed_twice : (u v w : View) → UsedBook u v [] [] → UsedBook v w [] [] → Changed 2 u w [] []
changed_twice u v w first then = changed_then 1 1 2 u v w [] [] refl (changed_once u v [] [] first) (changed_once v w [] [] then)

pub changed_as : (uses : ℕ) (v w : View) (over bad now_over now_bad : List ℕ) → over ≡ now_over → bad ≡ now_bad → Changed uses v w over bad → Changed uses v w now_over now_bad
changed_as uses v w over bad now_over now_bad same alike changed =
    subst (λ (l : List ℕ). Changed uses v w now_over l) alike (subst (λ (l : List ℕ). Changed uses v w l bad) same changed)

-- The seat still holds a run, after what was done with it.
pub has_after : {P : Type 0} (pass_seen : P → PassSeen) (store : StoreId) (v w : View) (old new : HeldRun P) (first : ℕ) → HoldsPasses pass_seen store v old → w.made ≡ v.made → new.first ≡ first → length new.entries ≡ length old.entries
    → HoldsRun w first new.entries → ArePassesFor pass_seen v.made first new.entries new.passes → HoldsPasses pass_seen store w new
has_after pass_seen store v w old new first has made at many holds fit = record {
  holds = subst (λ (n : ℕ). HoldsRun w n new.entries) (sym at) holds;
  passes = subst (λ (n : ℕ). ArePassesFor pass_seen w.made n new.entries new.passes) (sym at)
      (subst (λ (m : Made). ArePassesFor pass_seen m first new.entries new.passes) (sym made) fit);
  store = ap (λ (m : Made). m.store) made ∙ has.store;
  some = omega (arith, has.some, many);
}

pub has_same : {P : Type 0} (pass_seen : P → PassSeen) (store : StoreId) (w : View) (old new : HeldRun P) → new ≡ old → HoldsPasses pass_seen store w old → HoldsPasses pass_seen store w new
has_same pass_seen store w old new same has = subst (HoldsPasses pass_seen store w) (sym same) has

-- Entries of blocks that can be worked on.
pub live_begun : (xs : List Entry) → Each IsLive xs → Each IsLive (map begun xs)
live_begun [] live = tt
live_begun (Settled key ∷ xs) live = ((λ is. let no : begun (Settled key) ≡ Bad = is in cc), live_begun xs live.1)
live_begun (Pending old new ∷ xs) live = ((λ is. let no : begun (Pending old new) ≡ Bad = is in cc), live_begun xs live.1)
live_begun (Bad ∷ xs) live = absurd (live.0 refl)

pub live_since_begun : (xs : List Entry) → Each IsBegun xs → Each IsLive xs
live_since_begun [] each = tt
live_since_begun (Settled key ∷ xs) each = absurd each.0
live_since_begun (Pending old new ∷ xs) each = ((λ is. let no : Pending old new ≡ Bad = is in cc), live_since_begun xs each.1)
live_since_begun (Bad ∷ xs) each = absurd each.0

pub live_ended : (xs : List Entry) → Each IsBegun xs → Each IsLive (map ended xs)
live_ended [] each = tt
live_ended (Settled key ∷ xs) each = absurd each.0
live_ended (Pending old new ∷ xs) each = ((λ is. let no : ended (Pending old new) ≡ Bad = is in cc), live_ended xs each.1)
live_ended (Bad ∷ xs) each = absurd each.0

pub live_either : (was one now : List Entry) → IsEither was one now → Each IsLive was → Each IsLive one → Each IsLive now
live_either was one now either live others = elim either [
  | inl same ↦ subst (Each IsLive) (sym same) live
  | inr other ↦ subst (Each IsLive) (sym other) others
]

pub many_either : (was one now : List Entry) → IsEither was one now → length one ≡ length was → length now ≡ length was
many_either was one now either many = elim either [
  | inl same ↦ ap (λ (es : List Entry). length es) same
  | inr other ↦ ap (λ (es : List Entry). length es) other ∙ many
]

-- Whether an end was recorded by a call that failed: then the first block is settled.
not_settled : (xs : List Entry) → Each IsBegun xs → first_settled xs ≡ false
not_settled [] each = refl
not_settled (Settled key ∷ xs) each = absurd each.0
not_settled (Pending old new ∷ xs) each = refl
not_settled (Bad ∷ xs) each = absurd each.0

now_settled : (xs : List Entry) → 0 < length xs → Each IsBegun xs → first_settled (map ended xs) ≡ true
now_settled [] some each = absurd (omega (arith, some))
now_settled (Settled key ∷ xs) some each = absurd each.0
now_settled (Pending old new ∷ xs) some each = refl
now_settled (Bad ∷ xs) some each = absurd each.0

-- A run whose write was begun, with what is known of the run before.
pub record Begins {P : Type 0} (pass_seen : P → PassSeen) (id : StoreId) (made : Made) (old run : HeldRun P) : Type 0 where
  pub first : run.first ≡ old.first
  pub entries : run.entries ≡ map begun old.entries
  pub each : Each IsBegun run.entries
  pub some : 0 < length run.entries
  pub fit : ArePassesFor pass_seen made run.first run.entries run.passes
  pub store : made.store ≡ id

pub begins : {P : Type 0} (pass_seen : P → PassSeen) (id : StoreId) (v : View) (old queued run : HeldRun P) → HoldsPasses pass_seen id v old → Each IsLive old.entries → queued.first ≡ old.first → queued.entries ≡ map begun old.entries
    → ArePassesFor pass_seen v.made old.first queued.entries queued.passes → run ≡ queued → Begins pass_seen id v.made old run
begins {P} pass_seen id v old queued run has live first entries fit same =
    let each : Each IsBegun queued.entries = subst (Each IsBegun) (sym entries) (begun_each old.entries live has.holds.valid) in
    let of_queued : Begins pass_seen id v.made old queued = record {
      first = first;
      entries = entries;
      each = each;
      some = omega (arith, has.some, length_begun old.entries, ap (λ (es : List Entry). length es) entries);
      fit = subst (λ (n : ℕ). ArePassesFor pass_seen v.made n queued.entries queued.passes) (sym first) fit;
      store = has.store;
    } in
    subst (λ (r : HeldRun P). Begins pass_seen id v.made old r) (sym same) of_queued

-- The device has answered: the run is the one whose write was begun, with passes that fit its ended entries.
pub written_fit : {P : Type 0} (pass_seen : P → PassSeen) (made : Made) (run written : HeldRun P) → written.first ≡ run.first → written.entries ≡ run.entries → ArePassesFor pass_seen made run.first (map ended run.entries) written.passes
    → ArePassesFor pass_seen made written.first (map ended written.entries) written.passes
written_fit pass_seen made run written first entries fit =
    subst (λ (n : ℕ). ArePassesFor pass_seen made n (map ended written.entries) written.passes) (sym first)
    (subst (λ (es : List Entry). ArePassesFor pass_seen made run.first (map ended es) written.passes) (sym entries) fit)

-- What an end that was refused left.
abbrev pub Unended : View → View → ℕ → List Entry → List Entry → Type 0
Unended v w first was now = ((now ≡ was) × UsedBook v w [] []) ⊎ ((now ≡ map ended was) × UsedBook v w (falling first (length was)) [])

pub unended_either : (v w : View) (first : ℕ) (was now : List Entry) → Unended v w first was now → IsEither was (map ended was) now
unended_either v w first was now (inl same) = inl same.0
unended_either v w first was now (inr other) = inr other.0

pub unended_made : (v w : View) (first : ℕ) (was now : List Entry) → Unended v w first was now → w.made ≡ v.made
unended_made v w first was now (inl same) = same.1.made
unended_made v w first was now (inr other) = other.1.made

-- the blocks whose write is counted as ended
abbrev pub over_where : Bool → List ℕ → List ℕ
over_where appended blocks = cond (ended_put (put.Unended appended) == 0) [] blocks

pub over_unended : (v w : View) (first : ℕ) (was now : List Entry) (appended : Bool) → 0 < length was → Each IsBegun was → appended ≡ first_settled now → Unended v w first was now → Changed 1 v w (over_where appended (falling first (length was))) []
over_unended v w first was now appended some each is refused = elim refused [
  | inl same ↦
      let not : appended ≡ false = is ∙ ap first_settled same.0 ∙ not_settled was each in
      subst (λ (b : Bool). Changed 1 v w (over_where b (falling first (length was))) []) (sym not) (changed_once v w [] [] same.1)
  | inr other ↦
      let yes : appended ≡ true = is ∙ ap first_settled other.0 ∙ now_settled was some each in
      subst (λ (b : Bool). Changed 1 v w (over_where b (falling first (length was))) []) (sym yes) (changed_once v w (falling first (length was)) [] other.1)
]

pub falling_as : (first second : ℕ) (was now : List Entry) → first ≡ second → length was ≡ length now → falling first (length was) ≡ falling second (length now)
falling_as first second was now same many = ap (λ (n : ℕ). falling n (length was)) same ∙ ap (λ (n : ℕ). falling second n) many

-- Calls of the arm.
pub calls_add : (reads writes faults more_reads more_writes more_faults : ℕ) (one two three : ArmSeen) → ArmCalls reads writes faults one two → ArmCalls more_reads more_writes more_faults two three
    → ArmCalls (reads + more_reads) (writes + more_writes) (faults + more_faults) one three
calls_add reads writes faults more_reads more_writes more_faults one two three first then = record {
  read = omega (arith, first.read, then.read);
  written = omega (arith, first.written, then.written);
  failed = omega (arith, first.failed, then.failed);
  kept = λ none. then.kept (omega (arith, none)) ∙ first.kept (omega (arith, none));
  sure = λ is. then.sure (first.sure is);
  still = λ is. then.still (first.sure is) ∙ first.still is;
}

pub calls_as : (reads writes faults now_reads now_writes now_faults : ℕ) (one two : ArmSeen) → reads ≡ now_reads → writes ≡ now_writes → faults ≡ now_faults → ArmCalls reads writes faults one two → ArmCalls now_reads now_writes now_faults one two
calls_as reads writes faults now_reads now_writes now_faults one two r w f calls =
    subst (λ (n : ℕ). ArmCalls now_reads now_writes n one two) f
    (subst (λ (n : ℕ). ArmCalls now_reads n faults one two) w (subst (λ (n : ℕ). ArmCalls n writes faults one two) r calls))

-- Looks at the clock.
looks_add : (m n looks : ℕ) → looks_after n (looks_after m looks) ≡ looks_after (n + m) looks
looks_add m zero looks = ap (λ (k : ℕ). looks_after k looks) (omega arith)
looks_add m (suc n) looks =
    let more : suc (n + m) ≡ suc n + m = omega arith in
    ap (λ (k : ℕ). min (k + 1) (2 ^ 64 - 1)) (looks_add m n looks) ∙ ap (λ (k : ℕ). looks_after k looks) more

pub ticked_add : (m n k : ℕ) (one two three : ClockSeen) → k ≡ n + m → Ticked m one.until one two → Ticked n two.until two three → Ticked k one.until one three
ticked_add m n k one two three is first then = record {
  looks = then.looks ∙ ap (λ (looks : ℕ). looks_after n looks) first.looks ∙ looks_add m n one.looks ∙ ap (λ (j : ℕ). looks_after j one.looks) (sym is);
  until = then.until ∙ first.until;
  still = then.still ∙ first.still;
  last = λ still. then.last (subst (λ (b : Bool). IsTrue b) (sym first.still) still) ∙ first.last still;
  same = λ none. then.same (omega (arith, is, none)) ∙ first.same (omega (arith, is, none));
}
