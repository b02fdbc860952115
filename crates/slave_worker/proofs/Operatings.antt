-- The looks and the write of a turn, one after another.
use Rattle.std.proofs.Common.{◌≡◌, ◌≢◌, ℕ, zero, suc, ◌+◌, ◌<◌, ◌≤◌, ◌==◌, nat_lt, Bool, cond, true, false, List, [], ◌∷◌, length, map, refl, sym, ap, subst, ◌∙◌, ne_eqb, arith}
use Rattle.std.proofs.lemmas.Bool.Decides.{nat_tests}
use Rattle.vd_base.specs.declared.geometry.StoreId.{StoreId}
use Rattle.key_state.specs.Entries.{begun, ended}
use Rattle.key_state.specs.declared.entry.Entry.{Entry}
use Rattle.block_verdict.specs.declared.finding.Finding.{Finding}
use Rattle.block_verdict.specs.declared.outcome.Verdict.{Verdict}
use Rattle.worker_tally.specs.Dones.{corrupt_in, ended_put, fault, good, unended_put}
use Rattle.worker_tally.specs.declared.done.Look.{Look}
use Rattle.worker_tally.specs.declared.done.Look.TheVariants as look
use Rattle.worker_tally.specs.declared.done.Put.{Put}
use Rattle.worker_tally.specs.declared.done.Put.TheVariants as put
use Rattle.slave_worker.specs.Dids.{AreCorrupt, FollowsRules, done_of, some_used}
use Rattle.slave_worker.specs.Looks.{FindsNone, corrupt_run, forbids, found_by}
use Rattle.slave_worker.specs.declared.did.Rules.{Rules}
use Rattle.slave_worker.proofs.Lookings.{few_found, none_again}

-- What a look forbids.
above_none : (n : ℕ) → nat_lt 0 n ≡ true → 0 < n
above_none n is = grind (arith, nat_tests)

not_above : (n : ℕ) → nat_lt 0 n ≡ false → n ≡ 0
not_above n is = grind (arith, nat_tests)

some_forbidden : (first : Look) → forbids first ≡ true → 0 < fault first + corrupt_in first
some_forbidden look.Skipped is = absurd (let no : false ≡ true = is in cc)
some_forbidden look.Fault is = omega arith
some_forbidden (look.Read corrupt) is = omega (arith, above_none corrupt is)

pub none_forbidden : (first : Look) → forbids first ≡ false → (fault first ≡ 0) × (corrupt_in first ≡ 0)
none_forbidden look.Skipped is = (refl, refl)
none_forbidden look.Fault is = absurd (let no : true ≡ false = is in cc)
none_forbidden (look.Read corrupt) is = (refl, not_above corrupt is)

-- a look finds no more than the run has blocks
pub few_by : (one : Look) (first : ℕ) (entries : List Entry) (verdicts : List Verdict) → length (found_by one first entries verdicts) ≤ length entries
few_by look.Skipped first entries verdicts = omega arith
few_by look.Fault first entries verdicts = omega arith
few_by (look.Read corrupt) first entries verdicts = few_found first entries verdicts

reread_none : (again : Bool) → 0 + 0 + cond again 0 0 ≡ cond again 0 0
reread_none true = refl
reread_none false = refl

-- a turn that only read, since it is for that or since what was read forbids the write
pub rules_read : (rules : Rules) (had : List Entry) (many : ℕ) (read : Bool) (first : Look) → (read ≡ true → good first + fault first ≡ 1) → (read ≡ false → good first + fault first ≡ cond rules.preread (cond (some_used had) 1 0) 0)
    → (read ≡ false → forbids first ≡ true) → corrupt_in first ≤ many → FollowsRules rules had (done_of many read first put.Skipped look.Skipped)
rules_read rules had many read first one asked must few = record {
  read = λ is. (one is, refl, refl);
  preread = asked;
  stops = λ some. refl;
  writes = λ isnt none. absurd (omega (arith, some_forbidden first (must isnt), none));
  reread = reread_none rules.reread;
  few = omega (arith, few);
}

-- a turn that wrote
pub rules_wrote : (rules : Rules) (had : List Entry) (many : ℕ) (read : Bool) (first : Look) (how : Put) (again : Look) → read ≡ false → (read ≡ false → good first + fault first ≡ cond rules.preread (cond (some_used had) 1 0) 0) → forbids first ≡ false → how ≢ put.Skipped
    → good again + fault again + cond rules.reread (unended_put how) 0 ≡ cond rules.reread (ended_put how) 0 → corrupt_in again ≤ many → FollowsRules rules had (done_of many read first how again)
rules_wrote rules had many read first how again isnt asked allowed some reread few =
    let none = none_forbidden first allowed in
    record {
      read = λ is. absurd (let no : true ≡ false = sym is ∙ isnt in cc);
      preread = asked;
      stops = λ trouble. absurd (omega (arith, trouble, none.0, none.1));
      writes = λ no quiet. some;
      reread = reread;
      few = omega (arith, few, none.1);
    }

-- By the verdicts of a look that forbids nothing no block is corrupt.
empty : (findings : List Finding) → length findings ≡ 0 → findings ≡ []
empty [] none = refl
empty (found ∷ findings) none = absurd (omega (arith, none))

pub quiet_first : (one : Look) (first : ℕ) (entries : List Entry) (old new : List Verdict) → forbids one ≡ false → corrupt_in one ≡ length (found_by one first entries new) → (good one ≡ 0 → new ≡ old) → FindsNone old → corrupt_run first entries new ≡ []
quiet_first look.Skipped first entries old new allowed many kept none = ap (λ (vs : List Verdict). corrupt_run first entries vs) (kept refl) ∙ none first entries
quiet_first look.Fault first entries old new allowed many kept none = absurd (let no : true ≡ false = allowed in cc)
quiet_first (look.Read corrupt) first entries old new allowed many kept none = empty (corrupt_run first entries new) (sym many ∙ not_above corrupt allowed)

-- What the second look found is what the verdicts now say.
pub many_again : (again : Look) (first : ℕ) (was entries : List Entry) (old new : List Verdict) → length entries ≡ length was → corrupt_run first was old ≡ [] → (good again ≡ 0 → new ≡ old) → corrupt_in again ≡ length (found_by again first entries new)
    → corrupt_in again ≡ length (corrupt_run first entries new)
many_again look.Skipped first was entries old new long quiet kept many =
    sym (ap (λ (vs : List Verdict). length (corrupt_run first entries vs)) (kept refl) ∙ ap (λ (fs : List Finding). length fs) (none_again first was entries old long quiet))
many_again look.Fault first was entries old new long quiet kept many =
    sym (ap (λ (vs : List Verdict). length (corrupt_run first entries vs)) (kept refl) ∙ ap (λ (fs : List Finding). length fs) (none_again first was entries old long quiet))
many_again (look.Read corrupt) first was entries old new long quiet kept many = many

pub many_there : (again : Look) (first there : ℕ) (was entries : List Entry) (old new : List Verdict) → there ≡ first → length entries ≡ length was → corrupt_run first was old ≡ [] → (good again ≡ 0 → new ≡ old) → corrupt_in again ≡ length (found_by again there entries new)
    → corrupt_in again ≡ length (corrupt_run first entries new)
many_there again first there was entries old new begins long quiet kept many =
    many_again again first was entries old new long quiet kept (many ∙ ap (λ (n : ℕ). length (found_by again n entries new)) begins)

-- A second look that was made is one at ended entries.
was_ended : (reread : Bool) (how : Put) → 1 + cond reread (unended_put how) 0 ≡ cond reread (ended_put how) 0 → how ≡ put.Ended
was_ended reread put.Ended is = refl
was_ended true put.Skipped is = absurd (omega (arith, is))
was_ended true put.Refused is = absurd (omega (arith, is))
was_ended true put.Fault is = absurd (omega (arith, is))
was_ended true (put.Unended appended) is = absurd (omega (arith, is))
was_ended false put.Skipped is = absurd (omega (arith, is))
was_ended false put.Refused is = absurd (omega (arith, is))
was_ended false put.Fault is = absurd (omega (arith, is))
was_ended false (put.Unended appended) is = absurd (omega (arith, is))

none_judged : (store : StoreId) (first : ℕ) (entries : List Entry) (findings : List Finding) → 0 ≡ length findings → AreCorrupt store first entries findings
none_judged store first entries findings none = subst (λ (fs : List Finding). AreCorrupt store first entries fs) (sym (empty findings (sym none))) tt

pub found_judged : (store : StoreId) (reread : Bool) (how : Put) (again : Look) (first : ℕ) (had entries : List Entry) (new : List Verdict) → good again + fault again + cond reread (unended_put how) 0 ≡ cond reread (ended_put how) 0 → (how ≡ put.Ended → entries ≡ map ended (map begun had))
    → corrupt_in again ≡ length (corrupt_run first entries new) → AreCorrupt store first entries (found_by again first entries new)
    → AreCorrupt store first (cond (corrupt_in again == 0) had (map ended (map begun had))) (corrupt_run first entries new)
found_judged store reread how look.Skipped first had entries new asked over many found = none_judged store first had (corrupt_run first entries new) many
found_judged store reread how look.Fault first had entries new asked over many found = none_judged store first had (corrupt_run first entries new) many
found_judged store reread how (look.Read zero) first had entries new asked over many found = none_judged store first had (corrupt_run first entries new) many
found_judged store reread how (look.Read (suc corrupt)) first had entries new asked over many found =
    let is : 1 + cond reread (unended_put how) 0 ≡ cond reread (ended_put how) 0 = omega (arith, asked) in
    let some : (suc corrupt == 0) ≡ false = ne_eqb (suc corrupt) 0 (λ none. omega (arith, none)) in
    let all : AreCorrupt store first (map ended (map begun had)) (corrupt_run first entries new) = subst (λ (es : List Entry). AreCorrupt store first es (corrupt_run first entries new)) (over (was_ended reread how is)) found in
    subst (λ (b : Bool). AreCorrupt store first (cond b had (map ended (map begun had))) (corrupt_run first entries new)) (sym some) all
