-- Why a use of the book was refused.
use Rattle.std.proofs.Common.{◌≡◌, ◌⊎◌, inl, inr, ℕ, Bool, cond, true, false, List, [], ◌∷◌, refl, sym, ap, subst, ◌∙◌, Err}
use Rattle.key_state.specs.Books.{HasBookCause, HasFlushCause}
use Rattle.key_state.specs.declared.entry.Entry.{Entry}
use Rattle.key_state.specs.declared.fault.BookFault.{BookFault}
use Rattle.key_state.specs.declared.fault.BookFault.TheVariants.{Failed, Stopped, EpochEnd}
use Rattle.key_state.specs.declared.seen.BookSeen.{BookSeen}
use Rattle.claim_table.specs.Books.{Lends}
use Rattle.claim_table.specs.declared.view.Made.{Made}
use Rattle.claim_table.specs.declared.view.View.{View}
use Rattle.block_ops.specs.Answers.{HasQueueCause}
use Rattle.block_ops.specs.Runs.{some_settled}
use Rattle.seat_ops.specs.Holds.{GaveShut, UsedBook}
use Rattle.slave_worker.specs.Standings.{LentBehind, Refuses, WasAnswered}

pub refuses_record : (T : Type 0) (lent given : BookSeen) (fault : BookFault) → HasBookCause {T = T} lent given (Err fault) → Refuses lent given fault
refuses_record T lent given Failed cause = (cause.1, cause.2)
refuses_record T lent given (Stopped records) cause = cause
refuses_record T lent given (EpochEnd epoch) cause = cause

pub refuses_flush : (T : Type 0) (lent given : BookSeen) (fault : BookFault) → HasFlushCause {T = T} lent given (Err fault) → Refuses lent given fault
refuses_flush T lent given Failed cause = (cause.1, cause.2)
refuses_flush T lent given (Stopped records) cause = cause
refuses_flush T lent given (EpochEnd epoch) cause = absurd cause

queue_case : (T : Type 0) (entries : List Entry) (some : Bool) (lent given : BookSeen) (fault : BookFault) → some_settled entries ≡ some → HasQueueCause {S = T} entries lent given (Err fault) → Refuses lent given fault
queue_case T entries true lent given fault is cause = refuses_record T lent given fault (cause.asked is)
queue_case T entries false lent given fault is cause = absurd (cause.unasked is).0

pub refuses_queue : (T : Type 0) (entries : List Entry) (lent given : BookSeen) (fault : BookFault) → HasQueueCause {S = T} entries lent given (Err fault) → Refuses lent given fault
refuses_queue T entries lent given fault cause = queue_case T entries (some_settled entries) lent given fault refl cause

same_head : (one two : BookSeen) (ones twos : List BookSeen) → one ∷ ones ≡ two ∷ twos → one ≡ two
same_head one two ones twos is = cc

shut_either : (before shut after : Bool) → after ≡ cond before true shut → shut ≡ true → after ≡ true
shut_either true shut after is so = is
shut_either false shut after is so = is ∙ so

shut_used : (before after : View) (over bad : List ℕ) (fault : BookFault) → UsedBook before after over bad → GaveShut after fault → after.shut ≡ true
shut_used before after over bad fault used gave =
    let same : used.gave.0 ≡ gave.0 = same_head used.gave.0 gave.0 before.gave gave.1 (sym used.gave.1 ∙ gave.2) in
    shut_either before.shut used.gave.0.shut after.shut used.gave.2 (ap (λ (b : BookSeen). b.shut) same ∙ gave.3)

-- A use that was refused answered its fault.
pub answered : (before after : View) (over bad : List ℕ) (fault : BookFault) (lent given : BookSeen) → UsedBook before after over bad → GaveShut after fault → Lends before lent → after.gave ≡ given ∷ before.gave → Refuses lent given fault → WasAnswered after fault
answered before after over bad fault lent given used gave lends is refuses =
    let behind : LentBehind before.made before.parts before.gave lent = record { follows = lends.follows; after = lends.after; alone = lends.alone } in
    let there : LentBehind after.made after.parts before.gave lent =
    subst (λ (m : Made). LentBehind m after.parts before.gave lent) (sym used.made) (subst (λ (n : ℕ). LentBehind before.made n before.gave lent) (sym used.parts) behind)
    in
    (gave, shut_used before after over bad fault used gave, (lent, given, before.gave, is, there, refuses))

-- The same of one that may have appended its record all the same.
pub answered_either : (before after : View) (over bad : List ℕ) (Same Other : Type 0) (fault : BookFault) (lent given : BookSeen) → (Same × UsedBook before after [] []) ⊎ (Other × UsedBook before after over bad) → GaveShut after fault → Lends before lent → after.gave ≡ given ∷ before.gave → Refuses lent given fault → WasAnswered after fault
answered_either before after over bad Same Other fault lent given (inl same) gave lends is refuses = answered before after [] [] fault lent given same.1 gave lends is refuses
answered_either before after over bad Same Other fault lent given (inr other) gave lends is refuses = answered before after over bad fault lent given other.1 gave lends is refuses
