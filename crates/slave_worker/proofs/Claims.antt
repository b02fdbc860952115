-- What a worker's claims have to do with the blocks that it drew.
use Rattle.std.proofs.Common.{◌≡◌, ◌≢◌, ℕ, zero, suc, ◌+◌, ◌<◌, ◌≤◌, ◌==◌, cond, Bool, true, false, refl, sym, ap, subst, inl, inr, arith, List, [], ◌∷◌, ◌++◌, length, Option, Some, None, is_some}
use Rattle.std.proofs.lemmas.Bool.{cases_eq, eq-eqb, ne_eqb}
use Rattle.vd_base.specs.declared.geometry.StoreId.{StoreId}
use Rattle.key_state.specs.Entries.{entry_at}
use Rattle.key_state.specs.declared.entry.Entry.{Entry}
use Rattle.key_state.specs.declared.entry.Entry.TheVariants as an_entry
use Rattle.claim_table.specs.Sums.{Each, total}
use Rattle.claim_table.specs.Views.{answered, bad, found_bad, is_busy, refused, try}
use Rattle.claim_table.specs.declared.view.Answer.{Answer}
use Rattle.claim_table.specs.declared.view.Answer.TheVariants as answer
use Rattle.claim_table.specs.declared.view.Try.{Try}
use Rattle.worker_tally.specs.declared.done.Refusal.{Refusal}
use Rattle.worker_tally.specs.declared.done.Refusal.TheVariants as refusal
use Rattle.slave_worker.specs.Dids.{AreTries, IsTurn}
use Rattle.slave_worker.specs.Drawn.{begins_at}
use Rattle.slave_worker.specs.Sentences.{bad_in, busy_in}
use Rattle.slave_worker.specs.Standings.{listed}
use Rattle.slave_worker.specs.declared.did.Did.{Did}
use Rattle.slave_worker.specs.declared.did.Rules.{Rules}
use Rattle.slave_worker.proofs.Sentences.{refused_many}
use Rattle.slave_worker.proofs.Totals.{Apart}

pub total_append : {A : Type 0} (count : A → ℕ) (one two : List A) → total count (one ++ two) ≡ total count one + total count two
total_append count [] two = omega arith
total_append count (x ∷ one) two = omega (arith, total_append count one two)

-- one claim, of a block, that was busy so often
pub record IsOneTry (first times : ℕ) (mine : List Try) : Type 0 where
  pub one : Try
  pub alone : mine ≡ one ∷ []
  pub block : one.block ≡ first
  pub busy : is_busy one.answer ≡ times

one_try : (first : ℕ) (had : List Entry) (why : Option Refusal) (mine : List Try) → AreTries first had why mine [] → length had + refused_many why ≡ 1 → IsOneTry first (busy_in why) mine
one_try first [] None mine are one = absurd (omega (arith, one))
one_try first [] (Some refusal.Busy) mine are one = record { one = try first are.0 answer.Busy; alone = are.2; block = refl; busy = refl }
one_try first [] (Some refusal.Bad) mine are one = record { one = try first are.0 answer.Bad; alone = are.2; block = refl; busy = refl }
one_try first (entry ∷ []) None mine are one = record { one = try first are.0 (answer.Claimed entry); alone = are.2; block = refl; busy = refl }
one_try first (entry ∷ []) (Some why) mine are one = absurd (omega (arith, one))
one_try first (entry ∷ other ∷ had) why mine are one = absurd (omega (arith, one))

had_many : (rules : Rules) (store : StoreId) (why : Option Refusal) (did : Did) → IsTurn rules store did → did.refusal ≡ why → did.turn.many ≡ 1 → length did.had + refused_many why ≡ 1
had_many rules store None did is why one = omega (arith, (is.had why).all, one)
had_many rules store (Some away) did is why one = omega (arith, (is.away (ap is_some why)).fewer, one)

-- A turn of one block makes one claim, of that block.
pub one_claim : (rules : Rules) (store : StoreId) (did : Did) → IsTurn rules store did → did.turn.many ≡ 1 → IsOneTry did.turn.block.0 (busy_in did.refusal) did.mine
one_claim rules store did is one = one_try did.turn.block.0 did.had did.refusal did.mine is.claims (had_many rules store did.refusal did is refl one)

-- 1 for a claim that wasn't answered busy
abbrev pub unbusy : Try → ℕ
unbusy t = cond (is_busy t.answer == 0) 1 0

try_parts : (here : Bool) (one : Answer) → cond here (is_busy one) 0 + cond here (cond (is_busy one == 0) 1 0) 0 ≡ cond here 1 0
try_parts true answer.Busy = refl
try_parts true (answer.Claimed entry) = refl
try_parts true answer.Bad = refl
try_parts false one = refl

unbusy_so : (one : Answer) → is_busy one + cond (is_busy one == 0) 1 0 ≡ 1
unbusy_so answer.Busy = refl
unbusy_so (answer.Claimed entry) = refl
unbusy_so answer.Bad = refl

begins_one : (block first busy : ℕ) (mine : List Try) → IsOneTry first busy mine → total (refused block) mine + total (answered block) mine ≡ cond (first == block) 1 0
begins_one block first busy mine is =
    let parts = try_parts (is.one.block == block) is.one.answer in
    let one_at : ℕ → ℕ = λ n. cond (n == block) 1 0 in
    let at : one_at is.one.block ≡ one_at first = ap one_at is.block in
    omega (arith, ap (total (refused block)) is.alone, ap (total (answered block)) is.alone, parts, at)

unbusy_one : (first busy : ℕ) (mine : List Try) → IsOneTry first busy mine → busy + total unbusy mine ≡ 1
unbusy_one first busy mine is = omega (arith, ap (total unbusy) is.alone, unbusy_so is.one.answer, is.busy)

abbrev pub claims_of : List Did → List Try
claims_of dids = listed (λ did. did.mine) dids

-- Each draw of a block is one claim of it.
pub begins_all : (rules : Rules) (store : StoreId) (block : ℕ) (dids : List Did) → Each (IsTurn rules store) dids → Each (λ did. did.turn.many ≡ 1) dids
    → total (refused block) (claims_of dids) + total (answered block) (claims_of dids) ≡ total (λ did. begins_at block did.turn) dids
begins_all rules store block [] each ones = refl
begins_all rules store block (did ∷ dids) each ones =
    omega (
      arith,
      begins_one block did.turn.block.0 (busy_in did.refusal) did.mine (one_claim rules store did each.0 ones.0),
      begins_all rules store block dids each.1 ones.1,
      total_append (refused block) did.mine (claims_of dids),
      total_append (answered block) did.mine (claims_of dids),
    )

pub unbusy_all : (rules : Rules) (store : StoreId) (dids : List Did) → Each (IsTurn rules store) dids → Each (λ did. did.turn.many ≡ 1) dids
    → total (λ did. busy_in did.refusal) dids + total unbusy (claims_of dids) ≡ length dids
unbusy_all rules store [] each ones = refl
unbusy_all rules store (did ∷ dids) each ones =
    omega (arith, unbusy_one did.turn.block.0 (busy_in did.refusal) did.mine (one_claim rules store did each.0 ones.0), unbusy_all rules store dids each.1 ones.1, total_append unbusy did.mine (claims_of dids))

-- Of different blocks a claim is of one at most.
apart_none : (block n : ℕ) (blocks : List ℕ) → Each (λ other. block ≢ other) blocks → total (λ other. cond (block == other) n 0) blocks ≡ 0
apart_none block n [] each = refl
apart_none block n (other ∷ blocks) each =
    omega (arith, ap (λ (b : Bool). cond b n 0) (ne_eqb block other each.0), apart_none block n blocks each.1)

apart_one : (block n : ℕ) (blocks : List ℕ) → Apart blocks → total (λ other. cond (block == other) n 0) blocks ≤ n
apart_one block n [] apart = omega arith
apart_one block n (other ∷ blocks) apart = elim (cases_eq block other) [
  | inl same ↦
      let here = ap (λ (b : Bool). cond b n 0) (eq-eqb block other same) in
      let rest = apart_none block n blocks (subst (λ (x : ℕ). Each (λ y. x ≢ y) blocks) (sym same) apart.0) in
      omega (arith, here, rest)
  | inr differ ↦
      let here = ap (λ (b : Bool). cond b n 0) (ne_eqb block other differ) in
      omega (arith, here, apart_one block n blocks apart.1)
]

pub apart_few : (blocks : List ℕ) → Apart blocks → (tries : List Try) → total (λ t. total (λ block. answered block t) blocks) tries ≤ total unbusy tries
apart_few blocks apart [] = omega arith
apart_few blocks apart (t ∷ tries) = omega (arith, apart_one t.block (cond (is_busy t.answer == 0) 1 0) blocks apart, apart_few blocks apart tries)

-- A turn that was refused for a bad block claimed one that was answered bad.
bad_here : (block word : ℕ) → found_bad block (try block word answer.Bad) ≡ 1
bad_here block word = ap (λ (b : Bool). cond b 1 0) (eq-eqb block block refl)

bad_try : (first : ℕ) (had : List Entry) (mine others : List Try) → AreTries first had (Some refusal.Bad) mine others → 0 < total (found_bad (first + length had)) mine
bad_try first [] mine others are =
    let at : first + 0 ≡ first = omega arith in
    subst (λ (n : ℕ). 0 < total (found_bad n) mine) (sym at) (omega (arith, ap (total (found_bad first)) are.2, bad_here first are.0))
bad_try first (entry ∷ had) mine others are =
    let at : first + 1 + length had ≡ first + suc (length had) = omega arith in
    subst (λ (n : ℕ). 0 < total (found_bad n) mine) at (bad_try (first + 1) had mine (try first are.0 (answer.Claimed entry) ∷ others) are.2)

bad_one : (rules : Rules) (store : StoreId) (why : Option Refusal) (did : Did) → IsTurn rules store did → did.refusal ≡ why → ((block : ℕ) → block < store.geometry.blocks → total (found_bad block) did.mine ≡ 0) → bad_in why ≡ 0
bad_one rules store None did is why none = refl
bad_one rules store (Some refusal.Busy) did is why none = refl
bad_one rules store (Some refusal.Bad) did is why none =
    let claims : AreTries did.turn.block.0 did.had (Some refusal.Bad) did.mine [] = subst (λ (r : Option Refusal). AreTries did.turn.block.0 did.had r did.mine []) why is.claims in
    let some = bad_try did.turn.block.0 did.had did.mine [] claims in
    let within : did.turn.block.0 + length did.had < store.geometry.blocks = omega (arith, (is.away (ap is_some why)).fewer, is.inside.inside) in
    absurd (omega (arith, some, none (did.turn.block.0 + length did.had) within))

pub bad_none : (rules : Rules) (store : StoreId) (dids : List Did) → Each (IsTurn rules store) dids → ((block : ℕ) → block < store.geometry.blocks → total (found_bad block) (claims_of dids) ≡ 0) → total (λ did. bad_in did.refusal) dids ≡ 0
bad_none rules store [] each none = refl
bad_none rules store (did ∷ dids) each none =
    omega (
      arith,
      bad_one rules store did.refusal did each.0 refl (λ block within. omega (arith, none block within, total_append (found_bad block) did.mine (claims_of dids))),
      bad_none rules store dids each.1 (λ block within. omega (arith, none block within, total_append (found_bad block) did.mine (claims_of dids))),
    )

-- No entry of a book without a bad one is bad.
pub bad_there : (entries : List Entry) (block : ℕ) → block < length entries → entry_at entries block ≡ an_entry.Bad → 0 < total bad entries
bad_there [] block within is = absurd (omega (arith, within))
bad_there (entry ∷ entries) zero within is = let one : bad entry ≡ 1 = ap bad is in omega (arith, one)
bad_there (entry ∷ entries) (suc block) within is = omega (arith, bad_there entries block (omega (arith, within)) is)
