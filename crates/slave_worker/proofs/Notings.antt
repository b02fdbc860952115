-- What the notes of turns were answered.
use Rattle.std.proofs.Common.{◌≡◌, ℕ, ◌+◌, ◌<◌, ◌≤◌, List, [], ◌∷◌, ◌++◌, drop, length, take, refl, sym, ap, subst, ◌∙◌, arith}
use Rattle.std.proofs.Math.Seq.{take-append-add}
use Rattle.claim_table.specs.Sums.{Each, total}
use Rattle.error_limit.specs.Rule.{newest}
use Rattle.slave_worker.specs.Ends.{WentOnBelow, found_first, last_look}
use Rattle.slave_worker.specs.Standings.{found_many}
use Rattle.slave_worker.specs.Works.{Noted}
use Rattle.slave_worker.specs.declared.did.Did.{Did}
use Rattle.slave_worker.specs.declared.did.WorkEnd.{WorkEnd}
use Rattle.slave_worker.specs.declared.did.WorkEnd.TheVariants as work_end

each_up_to : (some : List ℕ) (old new : ℕ) → old ≤ new → Each (λ a. a ≤ old) some → Each (λ a. a ≤ new) some
each_up_to [] old new lt each = tt
each_up_to (a ∷ some) old new lt each = (omega (arith, lt, each.0), each_up_to some old new lt each.1)

pub noted_none : (answers : List ℕ) → Noted 0 answers answers
noted_none answers = ([], refl, refl, tt)

pub noted_more : (many answer : ℕ) (before mid after : List ℕ) → Noted many before mid → after ≡ answer ∷ mid → newest mid < answer → Noted (many + 1) before after
noted_more many answer before mid after noted is later =
    let top : newest after ≡ answer = ap newest is in
    let few : newest mid ≤ newest after = omega (arith, later, top) in (
      answer ∷ noted.0,
      is ∙ ap (λ (l : List ℕ). answer ∷ l) noted.1,
      omega (arith, noted.2),
      (omega (arith, top), each_up_to noted.0 (newest mid) (newest after) few noted.3),
    )

-- The work may go on behind these turns: it did behind all but the newest, and would behind that one.
pub record WentOn (limit : ℕ) (goes : Type 0) (dids : List Did) (answers : List ℕ) : Type 0 where
  pub behind : Each (λ a. a < limit) (drop (found_first dids) (take (total found_many dids) answers))
  pub all : goes → Each (λ a. a < limit) (take (total found_many dids) answers)

pub went_none : (limit : ℕ) (goes : Type 0) (answers : List ℕ) → WentOn limit goes [] answers
went_none limit goes answers = record { behind = tt; all = λ on. tt }

each_below : (some : List ℕ) (top limit : ℕ) → Each (λ a. a ≤ top) some → (0 < length some → top < limit) → Each (λ a. a < limit) some
each_below [] top limit each below = tt
each_below (a ∷ some) top limit each below =
    let here : top < limit = below (omega arith) in
    (omega (arith, each.0, here), each_below some top limit each.1 (λ more. here))

each_join : (P : ℕ → Type 0) (one two : List ℕ) → Each P one → Each P two → Each P (one ++ two)
each_join P [] two first second = second
each_join P (a ∷ one) two first second = (first.0, each_join P one two first.1 second)

drop_front : (one two : List ℕ) → drop (length one) (one ++ two) ≡ two
drop_front [] two = refl
drop_front (a ∷ one) two = drop_front one two

taken : (some answers after : List ℕ) (many rest : ℕ) → after ≡ some ++ answers → length some ≡ many → take (many + rest) after ≡ some ++ take rest answers
taken some answers after many rest is long =
    ap (λ (l : List ℕ). take (many + rest) l) is ∙ ap (λ (n : ℕ). take (n + rest) (some ++ answers)) (sym long) ∙ take-append-add some answers rest

dropped : (some answers after : List ℕ) (many rest : ℕ) → after ≡ some ++ answers → length some ≡ many → drop many (take (many + rest) after) ≡ take rest answers
dropped some answers after many rest is long =
    ap (λ (l : List ℕ). drop many l) (taken some answers after many rest is long) ∙ ap (λ (n : ℕ). drop n (some ++ take rest answers)) (sym long) ∙ drop_front some (take rest answers)

-- One turn more.
pub went_more : (limit : ℕ) (goes next : Type 0) (did : Did) (dids : List Did) (answers after : List ℕ) → goes → WentOn limit goes dids answers → Noted (found_many did) answers after → (next → 0 < found_many did → newest after < limit) → WentOn limit next (did ∷ dids) after
went_more limit goes next did dids answers after here so noted below = record {
  behind = subst (λ (l : List ℕ). Each (λ a. a < limit) l) (sym (dropped noted.0 answers after (found_many did) (total found_many dids) noted.1 noted.2)) (so.all here);
  all = λ on.
      subst (λ (l : List ℕ). Each (λ a. a < limit) l) (sym (taken noted.0 answers after (found_many did) (total found_many dids) noted.1 noted.2))
      (each_join (λ a. a < limit) noted.0 (take (total found_many dids) answers) (each_below noted.0 (newest after) limit noted.3 (λ some. below on (omega (arith, some, noted.2)))) (so.all here));
}

-- It ended behind the newest turn, or in time.
pub below_behind : (limit : ℕ) (dids : List Did) (answers : List ℕ) (end : WorkEnd) → last_look end ≡ 0 → Each (λ a. a < limit) (drop (found_first dids) (take (total found_many dids) answers)) → WentOnBelow limit dids answers end
below_behind limit dids answers work_end.TurnsMade is each = each
below_behind limit dids answers (work_end.TimeUp time) is each = absurd (omega (arith, is))
below_behind limit dids answers (work_end.ErrorLimit seen) is each = each
below_behind limit dids answers (work_end.Book fault) is each = each

pub below_in_time : (limit time : ℕ) (dids : List Did) (answers : List ℕ) → Each (λ a. a < limit) (take (total found_many dids) answers) → WentOnBelow limit dids answers (work_end.TimeUp time)
below_in_time limit time dids answers each = each
