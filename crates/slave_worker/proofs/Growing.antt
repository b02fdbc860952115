-- Turns in a row.
use Rattle.std.proofs.Common.{◌≡◌, ℕ, zero, suc, ◌+◌, ◌-◌, ◌^◌, min, max, cond, Bool, true, false, IsTrue, refl, sym, ap, subst, ◌∙◌, inl, inr, ◌⊎◌, arith, List, [], ◌∷◌, ◌++◌, append_assoc, append-nil}
use Rattle.vd_outside.specs.Clocks.{ClockSeen, Looked}
use Rattle.vd_arm.specs.Arm.{ArmSeen}
use Rattle.claim_table.specs.Sums.{total}
use Rattle.claim_table.specs.Views.{parts_in}
use Rattle.claim_table.specs.declared.view.View.{View}
use Rattle.worker_tally.specs.Dones.{faults_of, good_reads_of, good_writes_of}
use Rattle.worker_tally.specs.declared.row.Intervals.{Intervals}
use Rattle.slave_worker.specs.Dids.{looks_of, where_had, wrote_of}
use Rattle.slave_worker.specs.Standings.{ArmCalls, Standing, Ticked, ViewAfter, Worked, any_fault, has_fault, latest, listed, looks_after, standing, turn_tallied}
use Rattle.slave_worker.specs.declared.did.Did.{Did}

-- A list grew twice.
grown : {A : Type 0} (x y z a b : List A) → z ≡ (a ++ []) ++ y → y ≡ b ++ x → z ≡ (a ++ b) ++ x
grown x y z a b p q = p ∙ ap (λ l. l ++ y) (append-nil a) ∙ ap (λ l. a ++ l) q ∙ sym (append_assoc a b x)

arm_more : (r w f s x g : ℕ) (a b c : ArmSeen) → ArmCalls (r + 0) (w + 0) (f + 0) b c → ArmCalls s x g a b → ArmCalls (r + s) (w + x) (f + g) a c
arm_more r w f s x g a b c q p = record {
  read = omega (arith, p.read, q.read);
  written = omega (arith, p.written, q.written);
  failed = omega (arith, p.failed, q.failed);
  kept = λ none. let one : f + 0 ≡ 0 = omega arith in let two : g ≡ 0 = omega arith in q.kept one ∙ p.kept two;
  sure = λ is. q.sure (p.sure is);
  still = λ is. q.still (p.sure is) ∙ p.still is;
}

looks_add : (more many looks : ℕ) → looks_after more (looks_after many looks) ≡ looks_after (more + many) looks
looks_add zero many looks = ap (λ (n : ℕ). looks_after n looks) (omega arith)
looks_add (suc more) many looks =
    let more_looks : suc (more + many) ≡ suc more + many = omega arith in
    ap (λ (n : ℕ). min (n + 1) (2 ^ 64 - 1)) (looks_add more many looks) ∙ ap (λ (n : ℕ). looks_after n looks) more_looks

-- The clock was looked at some more.
pub ticked_more : (many more both until time : ℕ) (a b c : ClockSeen) → both ≡ more + many → Ticked many until a b → Ticked more time b c → Ticked both time a c
ticked_more many more both until time a b c is p q = record {
  looks = q.looks ∙ ap (looks_after more) p.looks ∙ looks_add more many a.looks ∙ ap (λ (n : ℕ). looks_after n a.looks) (sym is);
  until = q.until;
  still = q.still ∙ p.still;
  last = λ here. q.last (subst (λ (s : Bool). IsTrue s) (sym p.still) here) ∙ p.last here;
  same = λ none. let one : more ≡ 0 = omega arith in let two : many ≡ 0 = omega arith in q.same one ∙ p.same two;
}

either_fault : (one two : Bool) → cond one true two ≡ true → (cond one true false ≡ true) ⊎ (two ≡ true)
either_fault true two is = inl refl
either_fault false two is = inr is

view_more : (did : Did) (dids : List Did) (a b c : View) → ViewAfter (did ∷ []) b c → ViewAfter dids a b → ViewAfter (did ∷ dids) a c
view_more did dids a b c q p = record {
  mine = grown a.mine b.mine c.mine did.mine (listed (λ one. one.mine) dids) q.mine p.mine;
  wrote = grown a.wrote b.wrote c.wrote (wrote_of did) (listed wrote_of dids) q.wrote p.wrote;
  spoilt = grown a.spoilt b.spoilt c.spoilt did.spoilt (listed (λ one. one.spoilt) dids) q.spoilt p.spoilt;
  cleared = q.cleared ∙ p.cleared;
  parts = q.parts ∙ p.parts;
  made = q.made ∙ p.made;
  gave = grown a.gave b.gave c.gave did.gave (listed (λ one. one.gave) dids) q.gave p.gave;
  stays = λ is. q.stays (p.stays is);
  shut = λ is. elim (either_fault (has_fault did.fault) (any_fault dids) is) [ inl one ↦ q.shut one | inr two ↦ q.stays (p.shut two) ];
  alone = λ all. let one = q.alone (p.parts ∙ all ∙ ap parts_in (sym p.made)) in (one.0, p.alone all);
}

-- One turn more.
pub worked_more : (intervals : Intervals) (size : ℕ) (did : Did) (dids : List Did) (looks : ℕ) (a b c : Standing) → Worked intervals size dids looks a b → Worked intervals size (did ∷ []) 0 b c → Worked intervals size (did ∷ dids) looks a c
worked_more intervals size did dids looks a b c p q = record {
  view = view_more did dids a.view b.view c.view q.view p.view;
  tally = q.tally ∙ ap (turn_tallied did.refusal intervals size did) p.tally;
  arm = arm_more (where_had good_reads_of did) (where_had good_writes_of did) (where_had faults_of did) (total (where_had good_reads_of) dids) (total (where_had good_writes_of) dids) (total (where_had faults_of) dids) a.arm b.arm c.arm q.arm p.arm;
  notes = omega (arith, q.notes, p.notes);
  clock = ticked_more (looks + total looks_of dids) (0 + (looks_of did + 0)) (looks + (looks_of did + total looks_of dids)) (latest intervals.start dids a.clock.until) (latest intervals.start (did ∷ dids) a.clock.until) a.clock b.clock c.clock (omega arith) p.clock
      (subst (λ (until : ℕ). Ticked (0 + (looks_of did + 0)) (max until (min (intervals.start + did.turn.due) (2 ^ 64 - 1))) b.clock c.clock) p.clock.until q.clock);
}

-- One look more at the clock.
pub worked_look : (intervals : Intervals) (size : ℕ) (dids : List Did) (looks : ℕ) (a b : Standing) (clock : ClockSeen) (answer : ℕ) → Worked intervals size dids looks a b → Looked b.clock clock answer → Worked intervals size dids (looks + 1) a (standing b.view b.tally b.arm b.notes clock)
worked_look intervals size dids looks a b clock answer p looked = record {
  view = p.view;
  tally = p.tally;
  arm = p.arm;
  notes = p.notes;
  clock = ticked_more (looks + total looks_of dids) 1 (looks + 1 + total looks_of dids) (latest intervals.start dids a.clock.until) (latest intervals.start dids a.clock.until) a.clock b.clock clock (omega arith) p.clock
      (record {
        looks = looked.looks;
        until = looked.until ∙ p.clock.until;
        still = looked.still;
        last = λ is. looked.last ∙ looked.same is;
        same = λ none. absurd (omega arith);
      });
}

-- No turn at all.
pub worked_none : (intervals : Intervals) (size : ℕ) (a : Standing) → Worked intervals size [] 0 a a
worked_none intervals size a = record {
  view = record {
    mine = refl;
    wrote = refl;
    spoilt = refl;
    cleared = refl;
    parts = refl;
    made = refl;
    gave = refl;
    stays = λ is. is;
    shut = λ is. cc;
    alone = λ all. tt;
  };
  tally = refl;
  arm = record {
    read = omega arith;
    written = omega arith;
    failed = omega arith;
    kept = λ none. refl;
    sure = λ is. is;
    still = λ is. refl;
  };
  notes = omega arith;
  clock = record {
    looks = refl;
    until = refl;
    still = refl;
    last = λ is. refl;
    same = λ none. refl;
  };
}
