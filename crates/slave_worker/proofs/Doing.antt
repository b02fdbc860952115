-- What the rules leave of a turn's findings, and what reporting fewer of them changes.
use Rattle.std.proofs.Common.{◌≡◌, ◌≢◌, ℕ, zero, suc, ◌+◌, ◌<◌, ◌≤◌, ◌==◌, min, cond, Bool, true, false, refl, sym, ap, ap₂, subst, ◌∙◌, inl, inr, ◌⊎◌, arith, List, [], ◌∷◌, ◌++◌, length, take, append-nil, ne_eqb}
use Rattle.vd_base.specs.declared.geometry.StoreId.{StoreId}
use Rattle.key_state.specs.declared.entry.Entry.{Entry}
use Rattle.block_verdict.specs.declared.finding.Finding.{Finding}
use Rattle.worker_tally.specs.Dones.{corrupt_in, corrupt_of, ended_put, fault, fault_put, faults_of, good, is_refused, unended_put}
use Rattle.worker_tally.specs.declared.done.Done.{Done}
use Rattle.worker_tally.specs.declared.done.Look.{Look}
use Rattle.worker_tally.specs.declared.done.Look.TheVariants as a_look
use Rattle.worker_tally.specs.declared.done.Put.{Put}
use Rattle.worker_tally.specs.declared.done.Put.TheVariants as a_put
use Rattle.slave_worker.specs.Dids.{AreCorrupt, FollowsRules, done_of, fault_found, judged_as}
use Rattle.slave_worker.specs.Looks.{reporting}
use Rattle.slave_worker.specs.declared.did.Rules.{Rules}

fault_most : (one : Look) → fault one ≤ 1
fault_most a_look.Skipped = omega arith
fault_most a_look.Fault = omega arith
fault_most (a_look.Read corrupt) = omega arith

fault_clean : (one : Look) → 0 < fault one → corrupt_in one ≡ 0
fault_clean a_look.Skipped some = refl
fault_clean a_look.Fault some = refl
fault_clean (a_look.Read corrupt) some = absurd (omega arith)

quiet : (one : Look) → good one + fault one ≡ 0 → corrupt_in one ≡ 0
quiet a_look.Skipped none = refl
quiet a_look.Fault none = refl
quiet (a_look.Read corrupt) none = absurd (omega arith)

-- It has one finding of a failed call at most, and none beside a corrupt block; only one look found corrupt blocks.
pub record OneKind (first again : Look) (how : Put) : Type 0 where
  pub few : fault first + fault_put how + fault again ≤ 1
  pub apart : 0 < fault first + fault_put how + fault again → corrupt_in first + corrupt_in again ≡ 0
  pub one_look : (corrupt_in first ≡ 0) ⊎ (corrupt_in again ≡ 0)

kind_quiet : (first again : Look) (how : Put) → fault_put how ≡ 0 → good again + fault again ≡ 0 → OneKind first again how
kind_quiet first again how none still = record {
  few = omega (arith, fault_most first);
  apart = λ some. omega (arith, fault_clean first (omega arith), quiet again still);
  one_look = inr (quiet again still);
}

kind_fault : (first again : Look) (how : Put) → fault_put how ≡ 1 → fault first + corrupt_in first ≡ 0 → good again + fault again ≡ 0 → OneKind first again how
kind_fault first again how one clean still = record {
  few = omega arith;
  apart = λ some. omega (arith, quiet again still);
  one_look = inr (quiet again still);
}

kind_written : (first again : Look) (how : Put) → fault_put how ≡ 0 → fault first + corrupt_in first ≡ 0 → OneKind first again how
kind_written first again how none clean = record {
  few = omega (arith, fault_most again);
  apart = λ some. omega (arith, fault_clean again (omega arith));
  one_look = inl (omega arith);
}

clean_before : (first : Look) (how : Put) → (how ≡ a_put.Skipped → ⊥) → (0 < fault first + corrupt_in first → how ≡ a_put.Skipped) → fault first + corrupt_in first ≡ 0
clean_before first how not stops = let no : 0 < fault first + corrupt_in first → ⊥ = λ some. not (stops some) in omega arith

kinds : (reread : Bool) (first again : Look) (how : Put) → (0 < fault first + corrupt_in first → how ≡ a_put.Skipped) → good again + fault again + cond reread (unended_put how) 0 ≡ cond reread (ended_put how) 0 → OneKind first again how
kinds true first again a_put.Skipped stops again_is = kind_quiet first again a_put.Skipped refl (omega arith)
kinds false first again a_put.Skipped stops again_is = kind_quiet first again a_put.Skipped refl (omega arith)
kinds true first again a_put.Refused stops again_is = kind_quiet first again a_put.Refused refl (omega arith)
kinds false first again a_put.Refused stops again_is = kind_quiet first again a_put.Refused refl (omega arith)
kinds true first again a_put.Fault stops again_is = kind_fault first again a_put.Fault refl (clean_before first a_put.Fault (λ is. cc) stops) (omega arith)
kinds false first again a_put.Fault stops again_is = kind_fault first again a_put.Fault refl (clean_before first a_put.Fault (λ is. cc) stops) (omega arith)
kinds reread first again (a_put.Unended appended) stops again_is = kind_written first again (a_put.Unended appended) refl (clean_before first (a_put.Unended appended) (λ is. cc) stops)
kinds reread first again a_put.Ended stops again_is = kind_written first again a_put.Ended refl (clean_before first a_put.Ended (λ is. cc) stops)

clean_refused : (reread : Bool) (first again : Look) (how : Put) → (0 < fault first + corrupt_in first → how ≡ a_put.Skipped) → good again + fault again + cond reread (unended_put how) 0 ≡ cond reread (ended_put how) 0 → is_refused how ≡ true → corrupt_in first + corrupt_in again ≡ 0
clean_refused reread first again a_put.Skipped stops again_is refused = cc
clean_refused true first again a_put.Refused stops again_is refused = omega (arith, clean_before first a_put.Refused (λ is. cc) stops, quiet again (omega arith))
clean_refused false first again a_put.Refused stops again_is refused = omega (arith, clean_before first a_put.Refused (λ is. cc) stops, quiet again (omega arith))
clean_refused reread first again a_put.Fault stops again_is refused = cc
clean_refused true first again (a_put.Unended true) stops again_is refused = omega (arith, clean_before first (a_put.Unended true) (λ is. cc) stops, quiet again (omega arith))
clean_refused true first again (a_put.Unended false) stops again_is refused = omega (arith, clean_before first (a_put.Unended false) (λ is. cc) stops, quiet again (omega arith))
clean_refused false first again (a_put.Unended appended) stops again_is refused = omega (arith, clean_before first (a_put.Unended appended) (λ is. cc) stops, quiet again (omega arith))
clean_refused reread first again a_put.Ended stops again_is refused = cc

-- A refused write leaves nothing to report.
pub refused_clean : (rules : Rules) (had : List Entry) (done : Done) → FollowsRules rules had done → is_refused done.put ≡ true → corrupt_in done.first + corrupt_in done.again ≡ 0
refused_clean rules had done follows refused = clean_refused rules.reread done.first done.again done.put follows.stops follows.reread refused

pub one_kind : (rules : Rules) (had : List Entry) (done : Done) → FollowsRules rules had done → OneKind done.first done.again done.put
one_kind rules had done follows = kinds rules.reread done.first done.again done.put follows.stops follows.reread

-- as many findings of failed calls as there are
found_many : (f p g : ℕ) (write read : Finding) → f + p + g ≤ 1 → length (cond (f + g == 0) (cond (p == 0) [] (write ∷ [])) (read ∷ [])) ≡ f + p + g
found_many zero zero zero write read few = refl
found_many zero zero (suc zero) write read few = refl
found_many zero zero (suc (suc g)) write read few = absurd (omega arith)
found_many zero (suc zero) zero write read few = refl
found_many zero (suc (suc p)) zero write read few = absurd (omega arith)
found_many zero (suc p) (suc g) write read few = absurd (omega arith)
found_many (suc zero) zero zero write read few = refl
found_many (suc zero) zero (suc g) write read few = absurd (omega arith)
found_many (suc zero) (suc p) g write read few = absurd (omega arith)
found_many (suc (suc f)) p g write read few = absurd (omega arith)

pub fault_found_many : (block : ℕ) (done : Done) → OneKind done.first done.again done.put → length (fault_found block done) ≡ faults_of done
fault_found_many block done kind = found_many (fault done.first) (fault_put done.put) (fault done.again) _ _ kind.few

-- What a look reports that reports fewer corrupt blocks.
good_same : (one : Look) (many : ℕ) → good (reporting one many) ≡ good one
good_same a_look.Skipped many = refl
good_same a_look.Fault many = refl
good_same (a_look.Read corrupt) many = refl

fault_same : (one : Look) (many : ℕ) → fault (reporting one many) ≡ fault one
fault_same a_look.Skipped many = refl
fault_same a_look.Fault many = refl
fault_same (a_look.Read corrupt) many = refl

corrupt_least : (one : Look) (many : ℕ) → corrupt_in (reporting one many) ≡ min (corrupt_in one) many
corrupt_least a_look.Skipped many = omega arith
corrupt_least a_look.Fault many = omega arith
corrupt_least (a_look.Read corrupt) many = refl

-- What was done, with so many corrupt blocks reported.
pub record Reports (early late : Look) (how : Put) (many : ℕ) (made : Done) : Type 0 where
  pub first : made.first ≡ reporting early many
  pub put : made.put ≡ how
  pub again : made.again ≡ reporting late many
  -- some are reported where some were found
  pub some : 0 < corrupt_in early + corrupt_in late → 0 < many

-- It has the same calls, and no more corrupt blocks.
pub record Same (first again : Look) (how : Put) (many : ℕ) (made : Done) : Type 0 where
  pub good_first : good made.first ≡ good first
  pub fault_first : fault made.first ≡ fault first
  pub corrupt_first : corrupt_in made.first ≡ min (corrupt_in first) many
  pub good_again : good made.again ≡ good again
  pub fault_again : fault made.again ≡ fault again
  pub corrupt_again : corrupt_in made.again ≡ min (corrupt_in again) many

pub same_calls : (first again : Look) (how : Put) (many : ℕ) (made : Done) → Reports first again how many made → Same first again how many made
same_calls first again how many made reports = record {
  good_first = ap good reports.first ∙ good_same first many;
  fault_first = ap fault reports.first ∙ fault_same first many;
  corrupt_first = ap corrupt_in reports.first ∙ corrupt_least first many;
  good_again = ap good reports.again ∙ good_same again many;
  fault_again = ap fault reports.again ∙ fault_same again many;
  corrupt_again = ap corrupt_in reports.again ∙ corrupt_least again many;
}

least_none : (found more many least : ℕ) → least ≡ min found many → (0 < found + more → 0 < many) → least ≡ 0 → found ≡ 0
least_none zero more many least is some none = refl
least_none (suc found) more many least is some none = let many_some : 0 < many = some (omega arith) in absurd (omega (arith, is, none, many_some))

pub follows_reported : (rules : Rules) (had : List Entry) (blocks : ℕ) (read : Bool) (first again : Look) (how : Put) (many : ℕ) (made : Done) → made.many ≡ blocks → made.read ≡ read → Reports first again how many made → FollowsRules rules had (done_of blocks read first how again) → FollowsRules rules had made
follows_reported rules had blocks read first again how many made blocks_is read_is reports follows =
    let same = same_calls first again how many made reports in
    record {
      read = λ is.
          let all = follows.read (sym read_is ∙ is) in
          (omega (arith, all.0, same.good_first, same.fault_first), reports.put ∙ all.1, reports.again ∙ ap (λ (one : Look). reporting one many) all.2);
      preread = λ is. ap₂ (λ (a b : ℕ). a + b) same.good_first same.fault_first ∙ follows.preread (sym read_is ∙ is);
      stops = λ some. reports.put ∙ follows.stops (omega (arith, some, same.fault_first, same.corrupt_first));
      writes = λ is none skipped.
          let no_fault : fault first ≡ 0 = omega (arith, none, same.fault_first) in
          let no_corrupt : corrupt_in made.first ≡ 0 = omega (arith, none) in
          let clean = least_none (corrupt_in first) (corrupt_in again) many (corrupt_in made.first) same.corrupt_first reports.some no_corrupt in
          follows.writes (sym read_is ∙ is) (omega (arith, no_fault, clean)) (sym reports.put ∙ skipped);
      reread = ap₂ (λ (a b : ℕ). a + b) (ap₂ (λ (a b : ℕ). a + b) same.good_again same.fault_again) (ap (λ (p : Put). cond rules.reread (unended_put p) 0) reports.put) ∙ follows.reread ∙ ap (λ (p : Put). cond rules.reread (ended_put p) 0) (sym reports.put);
      few = omega (arith, follows.few, blocks_is, same.corrupt_first, same.corrupt_again);
    }

judged_same : (found made many : ℕ) (x y : List Entry) → made ≡ min found many → (0 < found → 0 < many) → cond (found == 0) x y ≡ cond (made == 0) x y
judged_same zero zero many x y is some = refl
judged_same zero (suc made) many x y is some = absurd (omega arith)
judged_same (suc found) zero many x y is some = absurd (omega arith)
judged_same (suc found) (suc made) many x y is some =
    let one : suc found ≢ 0 = omega arith in
    let two : suc made ≢ 0 = omega arith in
    ap (λ (t : Bool). cond t x y) (ne_eqb (suc found) 0 one ∙ sym (ne_eqb (suc made) 0 two))

-- The blocks were judged with the same entries.
pub judged_reported : (had : List Entry) (blocks : ℕ) (read : Bool) (first again : Look) (how : Put) (many : ℕ) (made : Done) → Reports first again how many made → judged_as had (done_of blocks read first how again) ≡ judged_as had made
judged_reported had blocks read first again how many made reports =
    let same = same_calls first again how many made reports in
    let some : 0 < corrupt_in again → 0 < many = λ lt. reports.some (omega (arith, lt)) in
    judged_same (corrupt_in again) (corrupt_in made.again) many had _ same.corrupt_again some

-- As many are reported as are counted.
pub reported_many : (first again : Look) (how : Put) (many found : ℕ) (made : Done) → Reports first again how many made → OneKind first again how → corrupt_in first + corrupt_in again ≡ found → many ≤ found → corrupt_of made ≡ many
reported_many first again how many found made reports kind all few =
    let same = same_calls first again how many made reports in
    elim kind.one_look [ inl none ↦ omega (arith, none, same.corrupt_first, same.corrupt_again, all, few) | inr none ↦ omega (arith, none, same.corrupt_first, same.corrupt_again, all, few) ]

-- The first so many of corrupt blocks are corrupt blocks.
pub some_corrupt : (many : ℕ) (findings : List Finding) (store : StoreId) (first : ℕ) (entries : List Entry) → AreCorrupt store first entries findings → AreCorrupt store first entries (take many findings)
some_corrupt zero findings store first entries are = tt
some_corrupt (suc many) [] store first entries are = tt
some_corrupt (suc many) (finding ∷ findings) store first entries are = (are.0, are.1, are.2, some_corrupt many findings store _ _ are.3)

pub length_none : {A : Type 0} (list : List A) → length list ≡ 0 → list ≡ []
length_none [] none = refl
length_none (x ∷ list) none = absurd (omega arith)

-- Of two lists one is empty, so their order doesn't matter.
one_empty : {A : Type 0} (before one two : List A) → (length one ≡ 0) ⊎ (length two ≡ 0) → (before ++ one) ++ two ≡ before ++ (two ++ one)
one_empty before one two (inl none) =
    let is = length_none one none in
    subst (λ l. (before ++ l) ++ two ≡ before ++ (two ++ l)) (sym is) (ap (λ l. l ++ two) (append-nil before) ∙ ap (λ l. before ++ l) (sym (append-nil two)))
one_empty before one two (inr none) =
    let is = length_none two none in
    subst (λ l. (before ++ one) ++ l ≡ before ++ (l ++ one)) (sym is) (append-nil (before ++ one))

either_none : (faults corrupt : ℕ) → (0 < faults → corrupt ≡ 0) → (corrupt ≡ 0) ⊎ (faults ≡ 0)
either_none zero corrupt apart = inr refl
either_none (suc faults) corrupt apart = inl (apart (omega arith))

-- The findings stand in the order of the turn's, though the corrupt blocks were kept first.
pub findings_in_order : (before corrupt : List Finding) (block : ℕ) (done : Done) → OneKind done.first done.again done.put → length corrupt ≡ corrupt_of done → (before ++ corrupt) ++ fault_found block done ≡ before ++ (fault_found block done ++ corrupt)
findings_in_order before corrupt block done kind many =
    let faults = fault_found_many block done kind in
    one_empty before corrupt (fault_found block done)
    (elim (either_none (faults_of done) (corrupt_of done) kind.apart) [ inl none ↦ inl (many ∙ none) | inr none ↦ inr (faults ∙ none) ])
