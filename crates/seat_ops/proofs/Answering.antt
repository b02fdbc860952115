-- What the answers of the operations say of the seat's view.
use Rattle.std.proofs.Common.{◌≡◌, ℕ, ◌+◌, ◌<◌, Bool, true, false, List, [], ◌∷◌, length, map, slice_set, refl, sym, ap, subst, ◌∙◌, inl, inr, ◌⊎◌, ◌↔◌, IsTrue, Result, Ok, Err, IfOk, IfErr, OnOk, OnErr}
use Rattle.key_state.specs.Entries.{IsPending, entry_at, begun, ended}
use Rattle.key_state.specs.Books.{HasBookCause, HasFlushCause}
use Rattle.key_state.specs.declared.entry.Entry.{Entry}
use Rattle.key_state.specs.declared.entry.Entry.TheVariants.{Bad}
use Rattle.key_state.specs.declared.fault.BookFault.{BookFault}
use Rattle.key_state.specs.declared.fault.BookFault.TheVariants.{Failed, Stopped, EpochEnd}
use Rattle.key_state.specs.declared.seen.BookSeen.{BookSeen}
use Rattle.claim_table.specs.Sums.{Each}
use Rattle.claim_table.specs.Views.{now_at, synced_at, with_loan, given}
use Rattle.claim_table.specs.declared.view.Item.{Item}
use Rattle.claim_table.specs.declared.view.View.{View}
use Rattle.claim_table.specs.declared.run.Run.{Run}
use Rattle.block_ops.specs.Runs.{HeldRun, AreSafe, IsLive, IsBegun, some_settled}
use Rattle.block_ops.specs.Acts.{Acted}
use Rattle.block_ops.specs.Answers.{HasQueueCause, IsEither, fault_in, held_in, run_in, state_in}
use Rattle.seat_ops.specs.Holds.{HoldsRun, UsedBook, HasFault, GaveShut, AreSafeItems, falling}
use Rattle.seat_ops.proofs.Using.{Gentle, Change, same_change, begun_change, ended_change, bad_change, used_book, safe_now}

-- The fault of a refused call.
book_fault : (S : Type 0) (g f : BookSeen) (fault : BookFault) → HasBookCause {T = S} g f (Err fault) → HasFault f fault
book_fault S g f Failed cause = cause.2
book_fault S g f (Stopped records) cause = ap (λ (b : BookSeen). b.stopped) cause.1 ∙ cause.0
book_fault S g f (EpochEnd epoch) cause = (ap (λ (b : BookSeen). b.stopped) cause.3 ∙ cause.0, cause.2 ∙ ap (λ (b : BookSeen). b.epoch) (sym cause.3))

flush_fault : (S : Type 0) (g f : BookSeen) (fault : BookFault) → HasFlushCause {T = S} g f (Err fault) → HasFault f fault
flush_fault S g f Failed cause = cause.2
flush_fault S g f (Stopped records) cause = ap (λ (b : BookSeen). b.stopped) cause.1 ∙ cause.0
flush_fault S g f (EpochEnd epoch) cause = absurd cause

queue_fault : (S : Type 0) (was : List Entry) (g f : BookSeen) (fault : BookFault) (some : Bool) → some_settled was ≡ some → HasQueueCause {S = S} was g f (Err fault) → HasFault f fault
queue_fault S was g f fault true is cause = book_fault S g f fault (cause.asked is)
queue_fault S was g f fault false is cause = absurd ((cause.unasked is).0)

gave_shut : (u w : View) (f : BookSeen) (fault : BookFault) → w ≡ given u f → f.shut ≡ true → HasFault f fault → GaveShut w fault
gave_shut u w f fault r shut has = (f, u.gave, ap (λ (x : View). x.gave) r, shut, has)

module _ {S R : Type 0} (u w : View) (g f : BookSeen) (r : w ≡ given u f) where
  pub book_shut : (x : Result S (R × BookFault)) → OnErr x (f.shut ≡ true) → HasBookCause g f (fault_in x) → IfErr x (λ refused. GaveShut w refused.1)
  book_shut (Ok y) shut cause = tt
  book_shut (Err y) shut cause = gave_shut u w f y.1 r shut (book_fault S g f y.1 cause)

  pub flush_shut : (x : Result S (R × BookFault)) → OnErr x (f.shut ≡ true) → HasFlushCause g f (fault_in x) → IfErr x (λ refused. GaveShut w refused.1)
  flush_shut (Ok y) shut cause = tt
  flush_shut (Err y) shut cause = gave_shut u w f y.1 r shut (flush_fault S g f y.1 cause)

  pub queue_shut : (was : List Entry) (x : Result S (R × BookFault)) → OnErr x (f.shut ≡ true) → HasQueueCause was g f (fault_in x) → IfErr x (λ refused. GaveShut w refused.1)
  queue_shut was (Ok y) shut cause = tt
  queue_shut was (Err y) shut cause = gave_shut u w f y.1 r shut (queue_fault S was g f y.1 (some_settled was) refl cause)

-- A refused call left the entries as they were, or as they would be.
change_as : (first : ℕ) (was one now : List Entry) (over bad : List ℕ) → now ≡ one → Change first was one over bad → Change first was now over bad
change_as first was one now over bad is change = subst (λ (es : List Entry). Change first was es over bad) (sym is) change

gentle_either : (first : ℕ) (was one now : List Entry) (over bad : List ℕ) → IsEither was one now → Change first was one over bad → Gentle was now
gentle_either first was one now over bad either change = elim either [
  | inl same ↦ (change_as first was was now [] [] same (same_change first was)).gentle
  | inr other ↦ (change_as first was one now over bad other change).gentle
]

module _ {P : Type 0} (first : ℕ) (was : List Entry) where
  pub queue_change : (x : Result (HeldRun P) (Run P × BookFault)) → Each IsLive was → IfOk x (λ queued. queued.entries ≡ map begun was) → IfErr x (λ refused. IsEither was (map begun was) refused.0.entries.items) → Change first was (held_in x).entries [] []
  queue_change (Ok y) live k j = change_as first was (map begun was) y.entries [] [] k (begun_change first was live)
  queue_change (Err y) live k j = elim j [
    | inl same ↦ change_as first was was y.0.entries.items [] [] same (same_change first was)
    | inr other ↦ change_as first was (map begun was) y.0.entries.items [] [] other (begun_change first was live)
  ]

  pub end_gentle : (x : Result (HeldRun P) (HeldRun P × BookFault)) → Each IsBegun was → IfOk x (λ run. run.entries ≡ map ended was) → IfErr x (λ refused. IsEither was (map ended was) refused.0.entries) → Gentle was (state_in x).entries
  end_gentle (Ok y) b k j = gentle_either first was (map ended was) y.entries (falling first (length was)) [] (inr k) (ended_change first was b)
  end_gentle (Err y) b k j = gentle_either first was (map ended was) y.0.entries (falling first (length was)) [] j (ended_change first was b)

  pub bad_gentle : (at : ℕ) (x : Result (Run P) (Run P × BookFault)) → at < length was → IsLive (entry_at was at) → IfOk x (λ run. run.entries.items ≡ slice_set was at Bad) → IfErr x (λ refused. IsEither was (slice_set was at Bad) refused.0.entries.items)
      → Gentle was (run_in x).entries
  bad_gentle at (Ok y) inside live k j = gentle_either first was (slice_set was at Bad) y.entries.items [] ((first + at) ∷ []) (inr k) (bad_change first was at inside live)
  bad_gentle at (Err y) inside live k j = gentle_either first was (slice_set was at Bad) y.0.entries.items [] ((first + at) ∷ []) j (bad_change first was at inside live)

module _ (v u w : View) (first : ℕ) (was : List Entry) (lent after : BookSeen) (holds : HoldsRun v first was) (q : u ≡ with_loan v lent) (r : w ≡ given u after) where
  used_either : (one now : List Entry) (over bad : List ℕ) → IsEither was one now → Change first was one over bad → Acted first was now lent after
      → ((now ≡ was) × UsedBook v w [] []) ⊎ ((now ≡ one) × UsedBook v w over bad)
  used_either one now over bad either change acted = elim either [
    | inl same ↦ inl (same, used_book v u w first was lent after holds now [] [] q r acted (change_as first was was now [] [] same (same_change first was)))
    | inr other ↦ inr (other, used_book v u w first was lent after holds now over bad q r acted (change_as first was one now over bad other change))
  ]

  pub end_used : {P : Type 0} (x : Result (HeldRun P) (HeldRun P × BookFault)) → Each IsBegun was → IfOk x (λ run. run.entries ≡ map ended was) → Acted first was (state_in x).entries lent after
      → IfOk x (λ run. (run.entries ≡ map ended was) × UsedBook v w (falling first (length was)) [])
  end_used (Ok y) b k acted = (k, used_book v u w first was lent after holds y.entries (falling first (length was)) [] q r acted (change_as first was (map ended was) y.entries (falling first (length was)) [] k (ended_change first was b)))
  end_used (Err y) b k acted = tt

  pub end_refused : {P : Type 0} (x : Result (HeldRun P) (HeldRun P × BookFault)) → Each IsBegun was → IfErr x (λ refused. IsEither was (map ended was) refused.0.entries) → Acted first was (state_in x).entries lent after
      → IfErr x (λ refused. ((refused.0.entries ≡ was) × UsedBook v w [] []) ⊎ ((refused.0.entries ≡ map ended was) × UsedBook v w (falling first (length was)) []))
  end_refused (Ok y) b j acted = tt
  end_refused (Err y) b j acted = used_either (map ended was) y.0.entries (falling first (length was)) [] j (ended_change first was b) acted

  pub bad_used : {P : Type 0} (at : ℕ) (x : Result (Run P) (Run P × BookFault)) → at < length was → IsLive (entry_at was at) → IfOk x (λ run. run.entries.items ≡ slice_set was at Bad) → Acted first was (run_in x).entries lent after
      → IfOk x (λ run. (run.entries.items ≡ slice_set was at Bad) × UsedBook v w [] ((first + at) ∷ []))
  bad_used at (Ok y) inside live k acted = (k, used_book v u w first was lent after holds y.entries.items [] ((first + at) ∷ []) q r acted (change_as first was (slice_set was at Bad) y.entries.items [] ((first + at) ∷ []) k (bad_change first was at inside live)))
  bad_used at (Err y) inside live k acted = tt

  pub bad_refused : {P : Type 0} (at : ℕ) (x : Result (Run P) (Run P × BookFault)) → at < length was → IsLive (entry_at was at) → IfErr x (λ refused. IsEither was (slice_set was at Bad) refused.0.entries.items) → Acted first was (run_in x).entries lent after
      → IfErr x (λ refused. ((refused.0.entries.items ≡ was) × UsedBook v w [] []) ⊎ ((refused.0.entries.items ≡ slice_set was at Bad) × UsedBook v w [] ((first + at) ∷ [])))
  bad_refused at (Ok y) inside live j acted = tt
  bad_refused at (Err y) inside live j acted = used_either (slice_set was at Bad) y.0.entries.items [] ((first + at) ∷ []) j (bad_change first was at inside live) acted

-- Where items are safe exactly if they are so in the book.
all_true : (held : List Item) (f : BookSeen) → Each (λ i. IsTrue i.safe ↔ (IsPending (now_at f i.block) × (synced_at f i.block ≡ now_at f i.block))) held
    → Each (λ i. IsPending (now_at f i.block) × (synced_at f i.block ≡ now_at f i.block)) held → Each (λ i. IsTrue i.safe) held
all_true [] f each all = tt
all_true (i ∷ held) f each all = (each.0.1 all.0, all_true held f each.1 all.1)

-- After a good flush each item is safe.
pub confirm_safe : {S R : Type 0} (w : View) (first : ℕ) (was : List Entry) (f : BookSeen) (x : Result S (R × BookFault)) → HoldsRun w first was → OnOk x (AreSafe f first was)
    → Each (λ i. IsTrue i.safe ↔ (IsPending (now_at f i.block) × (synced_at f i.block ≡ now_at f i.block))) w.held → OnOk x (AreSafeItems w)
confirm_safe w first was f (Err y) holds safe each = tt
confirm_safe w first was f (Ok y) holds safe each =
    all_true w.held f each (safe_now first was w.held f holds.held safe)
