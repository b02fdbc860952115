-- Each event leaves a good world good.
use Rattle.std.specs.Prelude.{◌↔◌}
use Rattle.std.proofs.Common.{◌≡◌, ◌≢◌, ◌⊎◌, inl, inr, ℕ, ◌+◌, ◌*◌, ◌<◌, ◌≤◌, Bool, true, false, cond, eqb, List, [], ◌∷◌, ◌++◌, length, take, replicate, slice_index_or, slice_set, refl, sym, ap, ◌∙◌, subst, arith}
use Rattle.std.proofs.lemmas.Bool.{cases_eq}
use Rattle.std.proofs.lemmas.Bool.Decides.{nat_tests}
use Rattle.vd_base.specs.declared.geometry.BlockNo.{BlockNo}
use Rattle.vd_base.specs.Key.{next}
use Rattle.key_state.specs.declared.entry.Entry.{Entry}
use Rattle.key_state.specs.declared.entry.Entry.TheVariants.{Settled, Pending, Bad}
use Rattle.key_state.specs.declared.record.Record.{Record}
use Rattle.key_state.specs.declared.record.Record.TheVariants as record_of
use Rattle.key_state.specs.Entries.{names_block, Names, IsLegalAt, begun, ended, state, states, entry_at, IsPending}
use Rattle.interleave_core.specs.declared.event.Event.{Event}
use Rattle.interleave_core.specs.declared.event.Event.TheVariants as event
use Rattle.interleave_core.specs.declared.hold.Stage.{Stage}
use Rattle.interleave_core.specs.declared.hold.Stage.TheVariants.{Free, Claimed, Queued, Writing, Acked, Done}
use Rattle.interleave_core.specs.declared.hold.Hold.{Hold}
use Rattle.interleave_core.specs.Fits.{Fits}
use Rattle.interleave_core.specs.World.{World, no_hold, hold_of, Lists, entry_of, place, key_of, is_written}
use Rattle.interleave_core.specs.Event.{IsAt, IsClaimed, IsAcked, IsOpen, MayFail, IsLoose, MayAdd, with_block, fewer, IsBusy, at_stage, IsSettled, pending_key, settled_key, begin_record, end_record, unwritten, Enabled, Changes}
use Rattle.interleave_core.proofs.Chains.{names_true, names_inv, state-push_of}
use Rattle.interleave_core.proofs.Hands.{Suits, hands_set, hands_none, hands_free, none_listed, suits_same}
use Rattle.interleave_core.proofs.Kept.{fits_now, kept_sync, kept_write, kept_anew, kept_stop, states_length, states_at, settled_fits}
use Rattle.interleave_core.proofs.Sectors.{sector-set}
use Rattle.interleave_core.proofs.Good.{Good, runs, list_fits, marks_anew, marks_length, good_stage, good_record}

claimed_busy : (w : World) (a : ℕ) → (hold_of w a).stage ≡ Claimed → (hold_of w a).stage ≡ Free → ⊥
claimed_busy w a is free = absurd (let e = sym is ∙ free in cc)

loose_busy : (stage : Stage) → IsLoose stage → stage ≡ Free → ⊥
loose_busy stage loose free = elim loose [
  | inl claimed ↦ absurd (let e = sym claimed ∙ free in cc)
  | inr done ↦ absurd (let e = sym done ∙ free in cc)
]

open_busy : (stage : Stage) → IsOpen stage → stage ≡ Free → ⊥
open_busy stage opened free = elim opened [
  | inl queued ↦ absurd (let e = sym queued ∙ free in cc)
  | inr writing ↦ absurd (let e = sym writing ∙ free in cc)
]

failing_busy : (stage : Stage) → MayFail stage → stage ≡ Free → ⊥
failing_busy stage fails free = elim fails [
  | inl queued ↦ absurd (let e = sym queued ∙ free in cc)
  | inr more ↦ elim more [
    | inl writing ↦ absurd (let e = sym writing ∙ free in cc)
    | inr acked ↦ absurd (let e = sym acked ∙ free in cc)
  ]
]

claimed_fits : (w : World) (a b : ℕ) → Good w → Lists (hold_of w a) b → ((hold_of w a).stage ≡ Claimed) → entry_of w b ≢ Bad
claimed_fits w a b good n is = subst (λ (s : Stage). Suits w.sectors (entry_of w b) (key_of w b) (is_written w b) s) is (good.hands.suits a b n)

-- Claim

added_lists : (hold : Hold) (b : BlockNo) (x : ℕ) → ((hold.stage ≡ Free) ↔ (hold.many ≡ 0)) → MayAdd hold b → Lists (with_block hold b) x → Lists hold x ⊎ (x ≡ b.0)
added_lists hold b x free may lists = elim (cases_eq hold.many 0) [
  | inl none ↦
      let first : cond (eqb hold.many 0) b hold.first ≡ b = ap (λ k. cond (eqb k 0) b hold.first) none in
      let number : (cond (eqb hold.many 0) b hold.first).0 ≡ b.0 = ap (λ (k : BlockNo). k.0) first in
      inr (omega (arith, number, none, lists.0, lists.1))
  | inr some ↦
      let test : eqb hold.many 0 ≡ false = grind (arith, nat_tests) in
      let number : (cond (eqb hold.many 0) b hold.first).0 ≡ hold.first.0 = ap (λ (t : Bool). (cond t b hold.first).0) test in
      elim may [
        | inl is_free ↦ absurd (some (free.0 is_free))
        | inr more ↦ elim (cases_eq x b.0) [
          | inl same ↦ inr same
          | inr other ↦ inl (omega (arith, number, lists.0, lists.1), omega (arith, number, lists.0, lists.1, more.2))
        ]
      ]
]

may_count : (hold : Hold) (b : BlockNo) → ((hold.stage ≡ Free) ↔ (hold.many ≡ 0)) → MayAdd hold b → hold.many + 1 ≤ 64
may_count hold b free may = elim may [
  | inl is_free ↦ omega (arith, free.0 is_free)
  | inr more ↦ omega (arith, more.1)
]

good_claim : (w : World) (a : ℕ) (b : BlockNo) → Good w → Enabled w (event.Claim a b) → (IsBusy w a b.0 → ⊥)
    → Good (record w { holds = slice_set w.holds a (with_block (hold_of w a) b) })
good_claim w a b good on free_block = record {
  kept = record { synced = good.kept.synced; keyed = good.kept.keyed; marked = good.kept.marked; legal = good.kept.legal; fits = good.kept.fits };
  hands = hands_set w.holds w.sectors (length w.base) (entry_of w) (entry_of w) (key_of w) (key_of w) (is_written w) (is_written w) a (with_block (hold_of w a) b) good.hands on.1
      ((λ free. absurd (cc)), (λ none. absurd (omega (arith, none))))
      (may_count (hold_of w a) b (good.hands.free a) on.4)
      (λ x n. elim (split x n) [ inl old ↦ good.hands.inside a x old | inr new ↦ subst (λ k. k < length w.base) (sym new) on.2 ])
      (λ x n c other m. elim (split x n) [
        | inl old ↦ other (good.hands.apart c a x m old)
        | inr new ↦ free_block (c, other, subst (λ k. Lists (hold_of w c) k) new m)
      ])
      (λ x n. elim (split x n) [
        | inl old ↦ elim on.4 [
          | inl free ↦ let none = (good.hands.free a).0 free in absurd (omega (arith, none, old.0, old.1))
          | inr more ↦ claimed_fits w a x good old more.0
        ]
        | inr new ↦ subst (λ k. entry_of w k ≢ Bad) (sym new) on.3
      ])
      (λ x c other n. (refl, λ s in_block. (refl, refl)));
  quiet = runs w _ on.0;
} where
  split : (x : ℕ) → Lists (with_block (hold_of w a) b) x → Lists (hold_of w a) x ⊎ (x ≡ b.0)
  split x n = added_lists (hold_of w a) b x (good.hands.free a) on.4 n

-- Begin

begun_pending : (e : Entry) → e ≢ Bad → IsPending (begun e)
begun_pending (Settled key) good = (key, next key, refl)
begun_pending (Pending old new) good = (old, new, refl)
begun_pending Bad good = absurd (good refl)

begun_fits : (e : Entry) (k : ℕ) → e ≢ Bad → Fits e k → Fits (begun e) k
begun_fits (Settled key) k good fits = inl fits
begun_fits (Pending old new) k good fits = fits
begun_fits Bad k good fits = absurd (good refl)

begun_legal : (e : Entry) (first : BlockNo) (many : ℕ) → e ≢ Bad → IsLegalAt e (record_of.BeginRun first many)
begun_legal (Settled key) first many good = (Pending key (next key), inl (key, refl, refl))
begun_legal (Pending old new) first many good = (Pending old new, inr ((old, new, refl), refl))
begun_legal Bad first many good = absurd (good refl)

pending_good : (e : Entry) → e ≢ Bad → (IsSettled e → ⊥) → IsPending e
pending_good (Settled key) good settled = absurd (settled (key, refl))
pending_good (Pending old new) good settled = (old, new, refl)
pending_good Bad good settled = absurd (good refl)

settled_is : (e : Entry) → IsSettled e → e ≡ Settled (settled_key e)
settled_is (Settled key) settled = refl
settled_is (Pending old new) settled = absurd (let e = settled.1 in cc)
settled_is Bad settled = absurd (let e = settled.1 in cc)

-- a hold of one block
lists_first : (hold : Hold) (b : ℕ) → hold.many ≡ 1 → Lists hold b → b ≡ hold.first.0
lists_first hold b one lists = omega (arith, one, lists.0, lists.1)

first_listed : (hold : Hold) (b : ℕ) → hold.many ≡ 1 → (hold.first.0 ≤ b) × (b < hold.first.0 + 1) → Lists hold b
first_listed hold b one is = (is.0, omega (arith, one, is.1))

-- the marks are cleared
no_marks : (w : World) (a b : ℕ) → Good w → ((hold_of w a).stage ≡ Free → ⊥) → Lists (hold_of w a) b → (s : ℕ) → s < w.sectors
    → slice_index_or (unwritten w (hold_of w a)) (b * w.sectors + s) false ≡ true → key_of w b s ≡ pending_key (entry_of w b)
no_marks w a b good busy n s in_block is = elim (marks_anew w (hold_of w a) b s good.kept.marked (list_fits w a good busy) in_block) [
  | inl here ↦ absurd (let e = sym here.1 ∙ is in cc)
  | inr away ↦ absurd (away.0 n)
]

other_marks : (w : World) (a b s : ℕ) → Good w → ((hold_of w a).stage ≡ Free → ⊥) → (Lists (hold_of w a) b → ⊥) → s < w.sectors
    → slice_index_or (unwritten w (hold_of w a)) (b * w.sectors + s) false ≡ is_written w b s
other_marks w a b s good busy not in_block = elim (marks_anew w (hold_of w a) b s good.kept.marked (list_fits w a good busy) in_block) [
  | inl here ↦ absurd (not here.0)
  | inr away ↦ away.1
]

-- After the record each listed block is pending, and no sector of it is marked.
queued_suits : (w : World) (a b : ℕ) (made : Record) (e : Entry) → Good w → ((hold_of w a).stage ≡ Free → ⊥) → Lists (hold_of w a) b
    → IsPending e → Suits w.sectors e (key_of w b) (λ s. slice_index_or (unwritten w (hold_of w a)) (b * w.sectors + s) false) Queued
queued_suits w a b made e good busy n pending = (
  pending,
  λ s in_block is.
      elim (marks_anew w (hold_of w a) b s good.kept.marked (list_fits w a good busy) in_block) [
        | inl here ↦ absurd (let e = sym here.1 ∙ is in cc)
        | inr away ↦ absurd (away.0 n)
      ],
)

good_begin_one : (w : World) (a k : ℕ) → Good w → IsAt w a IsClaimed → (hold_of w a).many ≡ 1 → entry_of w (hold_of w a).first.0 ≡ Settled k
    → Good (record w { records = w.records ++ record_of.Begin (hold_of w a).first k (next k) ∷ []; holds = at_stage w a Queued; written = unwritten w (hold_of w a) })
good_begin_one w a k good at one settled =
    let made : Record = record_of.Begin (hold_of w a).first k (next k) in
    let busy : (hold_of w a).stage ≡ Free → ⊥ = claimed_busy w a at.2 in
    good_record w a made Queued (unwritten w (hold_of w a)) good at.0 at.1 busy (λ free. absurd (cc))
    (marks_length w (hold_of w a) good.kept.marked (list_fits w a good busy))
    (λ b s not in_block. other_marks w a b s good busy not in_block)
    (λ b is. first_listed (hold_of w a) b one (names_inv b made is))
    (λ b n is. (Pending k (next k), (ap (entry_of w) (lists_first (hold_of w a) b one n) ∙ settled, refl, refl)))
    (λ b s in_block n is.
    inl (subst (λ (e : Entry). Fits e (key_of w b s)) (ap (entry_of w) (lists_first (hold_of w a) b one n) ∙ settled)
    (fits_now w good.kept b s (good.hands.inside a b n) in_block)))
    (λ b n.
    let names : Names made b = (n.0, omega (arith, one, n.1)) in
    queued_suits w a b made (state w.base (w.records ++ made ∷ []) b) good busy n
    (subst IsPending (sym (state-push_of w.base b w.records made (names_true b made names))) (k, next k, refl)))

good_begin_run : (w : World) (a : ℕ) → Good w → IsAt w a IsClaimed
    → Good (record w { records = w.records ++ record_of.BeginRun (hold_of w a).first (hold_of w a).many ∷ []; holds = at_stage w a Queued; written = unwritten w (hold_of w a) })
good_begin_run w a good at =
    let made : Record = record_of.BeginRun (hold_of w a).first (hold_of w a).many in
    let busy : (hold_of w a).stage ≡ Free → ⊥ = claimed_busy w a at.2 in
    good_record w a made Queued (unwritten w (hold_of w a)) good at.0 at.1 busy (λ free. absurd (cc))
    (marks_length w (hold_of w a) good.kept.marked (list_fits w a good busy))
    (λ b s not in_block. other_marks w a b s good busy not in_block)
    (λ b is. names_inv b made is)
    (λ b n is. begun_legal (entry_of w b) (hold_of w a).first (hold_of w a).many (claimed_fits w a b good n at.2))
    (λ b s in_block n is. begun_fits (entry_of w b) (key_of w b s) (claimed_fits w a b good n at.2) (fits_now w good.kept b s (good.hands.inside a b n) in_block))
    (λ b n. queued_suits w a b made (state w.base (w.records ++ made ∷ []) b) good busy n
    (subst IsPending (sym (state-push_of w.base b w.records made (names_true b made n))) (begun_pending (entry_of w b) (claimed_fits w a b good n at.2))))

-- the record where one block is listed, and where more are
begin_is_one : (w : World) (hold : Hold) → hold.many ≡ 1
    → begin_record (entry_of w) hold ≡ record_of.Begin hold.first (settled_key (entry_of w hold.first.0)) (next (settled_key (entry_of w hold.first.0)))
begin_is_one w hold one =
    ap (λ m. cond (eqb m 1) (record_of.Begin hold.first (settled_key (entry_of w hold.first.0)) (next (settled_key (entry_of w hold.first.0)))) (record_of.BeginRun hold.first m)) one

begin_is_run : (w : World) (hold : Hold) → (hold.many ≡ 1 → ⊥) → begin_record (entry_of w) hold ≡ record_of.BeginRun hold.first hold.many
begin_is_run w hold more =
    let test : eqb hold.many 1 ≡ false = grind (arith, nat_tests) in
    ap (λ (t : Bool). cond t (record_of.Begin hold.first (settled_key (entry_of w hold.first.0)) (next (settled_key (entry_of w hold.first.0)))) (record_of.BeginRun hold.first hold.many)) test

good_begin : (w new : World) (a : ℕ) → Good w → IsAt w a IsClaimed → Changes w (event.Begin a) new → Good new
good_begin w new a good at changes = elim changes [
  | inl some ↦ subst Good (sym some.1) (elim (cases_eq (hold_of w a).many 1) [
    | inl one ↦
        let settled : IsSettled (entry_of w (hold_of w a).first.0) = subst (λ b. IsSettled (entry_of w b)) (lists_first (hold_of w a) some.0.0 one some.0.1) some.0.2 in
        let key : ℕ = settled_key (entry_of w (hold_of w a).first.0) in
        subst (λ (m : Record). Good (record w { records = w.records ++ m ∷ []; holds = at_stage w a Queued; written = unwritten w (hold_of w a) }))
        (sym (begin_is_one w (hold_of w a) one)) (good_begin_one w a key good at one (settled_is (entry_of w (hold_of w a).first.0) settled))
    | inr more ↦
        subst (λ (m : Record). Good (record w { records = w.records ++ m ∷ []; holds = at_stage w a Queued; written = unwritten w (hold_of w a) }))
        (sym (begin_is_run w (hold_of w a) more)) (good_begin_run w a good at)
  ])
  | inr none ↦ subst Good (sym none.1)
      (let busy : (hold_of w a).stage ≡ Free → ⊥ = claimed_busy w a at.2 in
      good_stage w a Queued (unwritten w (hold_of w a)) good at.0 at.1 busy (λ free. absurd (cc))
      (marks_length w (hold_of w a) good.kept.marked (list_fits w a good busy))
      (λ b s not in_block. other_marks w a b s good busy not in_block)
      (λ b n. (pending_good (entry_of w b) (claimed_fits w a b good n at.2) (λ settled. none.0 (b, n, settled)), no_marks w a b good busy n)))
]

-- End

pending_is : (e : Entry) → IsPending e → (old : ℕ) × (e ≡ Pending old (pending_key e))
pending_is (Settled key) pending = absurd (let e = pending.2 in cc)
pending_is (Pending old new) pending = (old, refl)
pending_is Bad pending = absurd (let e = pending.2 in cc)

ended_fits : (e : Entry) (k : ℕ) → IsPending e → k ≡ pending_key e → Fits (ended e) k
ended_fits (Settled key) k pending same = absurd (let e = pending.2 in cc)
ended_fits (Pending old new) k pending same = inr same
ended_fits Bad k pending same = absurd (let e = pending.2 in cc)

ended_legal : (e : Entry) (first : BlockNo) (many : ℕ) → IsPending e → IsLegalAt e (record_of.EndRun first many)
ended_legal e first many pending = (Settled pending.1, (pending.0, pending.1, pending.2, refl))

acked_busy : (w : World) (a : ℕ) → (hold_of w a).stage ≡ Acked → (hold_of w a).stage ≡ Free → ⊥
acked_busy w a is free = absurd (let e = sym is ∙ free in cc)

acked_suits : (w : World) (a b : ℕ) → Good w → IsAt w a IsAcked → Lists (hold_of w a) b → Suits w.sectors (entry_of w b) (key_of w b) (is_written w b) Acked
acked_suits w a b good at n = subst (λ (s : Stage). Suits w.sectors (entry_of w b) (key_of w b) (is_written w b) s) at.2 (good.hands.suits a b n)

good_end_one : (w : World) (a : ℕ) → Good w → IsAt w a IsAcked → (hold_of w a).many ≡ 1
    → Good (record w { records = w.records ++ record_of.End (hold_of w a).first (pending_key (entry_of w (hold_of w a).first.0)) ∷ []; holds = at_stage w a Done })
good_end_one w a good at one =
    let made : Record = record_of.End (hold_of w a).first (pending_key (entry_of w (hold_of w a).first.0)) in
    good_record w a made Done w.written good at.0 at.1 (acked_busy w a at.2) (λ free. absurd (cc)) refl (λ b s not in_block. refl)
    (λ b is. first_listed (hold_of w a) b one (names_inv b made is))
    (λ b n is. (
      Settled (pending_key (entry_of w (hold_of w a).first.0)),
      (
        subst (λ k. (old : ℕ) × (entry_of w b ≡ Pending old (pending_key (entry_of w k)))) (lists_first (hold_of w a) b one n) (pending_is (entry_of w b) (acked_suits w a b good at n).0),
        refl,
      ),
    ))
    (λ b s in_block n is. inr ((acked_suits w a b good at n).1 s in_block ∙ ap (λ k. pending_key (entry_of w k)) (lists_first (hold_of w a) b one n)))
    (λ b n. tt)

good_end_run : (w : World) (a : ℕ) → Good w → IsAt w a IsAcked
    → Good (record w { records = w.records ++ record_of.EndRun (hold_of w a).first (hold_of w a).many ∷ []; holds = at_stage w a Done })
good_end_run w a good at =
    let made : Record = record_of.EndRun (hold_of w a).first (hold_of w a).many in
    good_record w a made Done w.written good at.0 at.1 (acked_busy w a at.2) (λ free. absurd (cc)) refl (λ b s not in_block. refl)
    (λ b is. names_inv b made is)
    (λ b n is. ended_legal (entry_of w b) (hold_of w a).first (hold_of w a).many (acked_suits w a b good at n).0)
    (λ b s in_block n is. ended_fits (entry_of w b) (key_of w b s) (acked_suits w a b good at n).0 ((acked_suits w a b good at n).1 s in_block))
    (λ b n. tt)

good_end : (w new : World) (a : ℕ) → Good w → IsAt w a IsAcked → Changes w (event.End a) new → Good new
good_end w new a good at changes = subst Good (sym changes) (elim (cases_eq (hold_of w a).many 1) [
  | inl one ↦
      let e : end_record (entry_of w) (hold_of w a) ≡ record_of.End (hold_of w a).first (pending_key (entry_of w (hold_of w a).first.0))
      = ap (λ m. cond (eqb m 1) (record_of.End (hold_of w a).first (pending_key (entry_of w (hold_of w a).first.0))) (record_of.EndRun (hold_of w a).first m)) one in
      subst (λ (m : Record). Good (record w { records = w.records ++ m ∷ []; holds = at_stage w a Done })) (sym e) (good_end_one w a good at one)
  | inr more ↦
      let test : eqb (hold_of w a).many 1 ≡ false = grind (arith, nat_tests) in
      let e : end_record (entry_of w) (hold_of w a) ≡ record_of.EndRun (hold_of w a).first (hold_of w a).many
      = ap (λ (t : Bool). cond t (record_of.End (hold_of w a).first (pending_key (entry_of w (hold_of w a).first.0))) (record_of.EndRun (hold_of w a).first (hold_of w a).many)) test in
      subst (λ (m : Record). Good (record w { records = w.records ++ m ∷ []; holds = at_stage w a Done })) (sym e) (good_end_run w a good at)
])

-- Bad, Clear

good_bad : (w : World) (a : ℕ) (b : BlockNo) → Good w → Enabled w (event.Bad a b) → Good (record w { records = w.records ++ record_of.Bad b ∷ []; holds = at_stage w a Done })
good_bad w a b good on = good_record w a (record_of.Bad b) Done w.written good on.0.0 on.0.1 (loose_busy (hold_of w a).stage on.0.2) (λ free. absurd (cc)) refl (λ c s not in_block. refl)
    (λ c is. subst (Lists (hold_of w a)) (sym (this c is)) on.1)
    (λ c n is. (Bad, (subst (λ k. entry_of w k ≢ Bad) (sym (this c is)) on.2, refl)))
    (λ c s in_block n is. tt)
    (λ c n. tt) where
      this : (c : ℕ) → names_block c (record_of.Bad b) ≡ true → c ≡ b.0
      this c is = let names = names_inv c (record_of.Bad b) is in omega (arith, names.0, names.1)

good_clear : (w : World) (a : ℕ) → Good w → IsAt w a IsClaimed
    → Good (record w { records = w.records ++ record_of.Clear (hold_of w a).first (hold_of w a).many ∷ []; holds = at_stage w a Done })
good_clear w a good at =
    let made : Record = record_of.Clear (hold_of w a).first (hold_of w a).many in
    good_record w a made Done w.written good at.0 at.1 (claimed_busy w a at.2) (λ free. absurd (cc)) refl (λ b s not in_block. refl)
    (λ b is. names_inv b made is)
    (λ b n is. (Settled 0, (claimed_fits w a b good n at.2, refl)))
    (λ b s in_block n is. inl refl)
    (λ b n. tt)

-- Write

open_suits : (S : ℕ) (e : Entry) (key : ℕ → ℕ) (mark : ℕ → Bool) (stage : Stage) → IsOpen stage → Suits S e key mark stage
    → (s : ℕ) → s < S → mark s ≡ true → key s ≡ pending_key e
open_suits S e key mark stage opened suits = elim opened [
  | inl queued ↦ (subst (λ (x : Stage). Suits S e key mark x) queued suits).1
  | inr writing ↦ (subst (λ (x : Stage). Suits S e key mark x) writing suits).1
]

good_write : (w : World) (a s : ℕ) (b : BlockNo) → Good w → Enabled w (event.Write a b s)
    → Good (record w { holds = at_stage w a Writing; keys = slice_set w.keys (place w b.0 s) (pending_key (entry_of w b.0)); written = slice_set w.written (place w b.0 s) true })
good_write w a s b good on =
    let kept = kept_write w b.0 s good.kept block_in on.2 (on.3 b.0 on.1) in
    record {
      kept = record { synced = kept.synced; keyed = kept.keyed; marked = kept.marked; legal = kept.legal; fits = kept.fits };
      hands = hands_set w.holds w.sectors (length w.base) (entry_of w) (entry_of w) (key_of w) keys (is_written w) marks a _ good.hands on.0.1
          ((λ free. absurd (cc)), (λ none. absurd (open_busy (hold_of w a).stage on.0.2 ((good.hands.free a).1 none))))
          (good.hands.few a)
          (λ x n. good.hands.inside a x n)
          (λ x n c other m. other (good.hands.apart c a x m n))
          (λ x n. (
            (on.3 x n).0,
            λ t in_block is. elim (stamped x t in_block) [
              | inl same ↦ same.2 ∙ ap (λ k. pending_key (entry_of w k)) (sym same.0)
              | inr other ↦ other.1 ∙ open_suits w.sectors (entry_of w x) (key_of w x) (is_written w x) (hold_of w a).stage on.0.2 (good.hands.suits a x n) t in_block
                  (elim (marked x t in_block) [
                    | inl now ↦ absurd (other.0 (now.0, now.1))
                    | inr before ↦ sym before.1 ∙ is
                  ])
            ],
          ))
          (λ x c other n. (
            refl,
            λ t in_block. (
              elim (stamped x t in_block) [
                | inl same ↦ absurd (other (good.hands.apart c a x n (subst (Lists (hold_of w a)) (sym same.0) on.1)))
                | inr apart ↦ apart.1
              ],
              elim (marked x t in_block) [
                | inl same ↦ absurd (other (good.hands.apart c a x n (subst (Lists (hold_of w a)) (sym same.0) on.1)))
                | inr apart ↦ apart.1
              ],
            ),
          ));
      quiet = runs w _ on.0.0;
    } where
      block_in : b.0 < length w.base
      block_in = good.hands.inside a b.0 on.1

      keys : ℕ → ℕ → ℕ
      keys x t = slice_index_or (slice_set w.keys (place w b.0 s) (pending_key (entry_of w b.0))) (place w x t) 0

      marks : ℕ → ℕ → Bool
      marks x t = slice_index_or (slice_set w.written (place w b.0 s) true) (place w x t) false

      stamped : (x t : ℕ) → t < w.sectors
          → ((x ≡ b.0) × (t ≡ s) × (keys x t ≡ pending_key (entry_of w b.0))) ⊎ (((x ≡ b.0) × (t ≡ s) → ⊥) × (keys x t ≡ key_of w x t))
      stamped x t in_block = sector-set w.keys (length w.base) w.sectors b.0 s x t (pending_key (entry_of w b.0)) 0 good.kept.keyed block_in on.2 in_block

      marked : (x t : ℕ) → t < w.sectors → ((x ≡ b.0) × (t ≡ s) × (marks x t ≡ true)) ⊎ (((x ≡ b.0) × (t ≡ s) → ⊥) × (marks x t ≡ is_written w x t))
      marked x t in_block = sector-set w.written (length w.base) w.sectors b.0 s x t true false good.kept.marked block_in on.2 in_block

-- Ack, Fault, Release

good_ack : (w : World) (a : ℕ) → Good w → Enabled w (event.Ack a) → Good (record w { holds = at_stage w a Acked })
good_ack w a good on = good_stage w a Acked w.written good on.0.0 on.0.1 (open_busy (hold_of w a).stage (inr on.0.2)) (λ free. absurd (cc)) refl (λ b s not in_block. refl)
    (λ b n.
    let suits = subst (λ (x : Stage). Suits w.sectors (entry_of w b) (key_of w b) (is_written w b) x) on.0.2 (good.hands.suits a b n) in
    (suits.0, λ s in_block. suits.1 s in_block (on.1 b s n in_block)))

good_fault : (w : World) (a : ℕ) → Good w → Enabled w (event.Fault a) → Good (record w { holds = at_stage w a Done })
good_fault w a good on = good_stage w a Done w.written good on.0 on.1 (failing_busy (hold_of w a).stage on.2) (λ free. absurd (cc)) refl (λ b s not in_block. refl) (λ b n. tt)

fewer_lists : (hold : Hold) (b : ℕ) → Lists (fewer hold) b → Lists hold b
fewer_lists hold b n = (n.0, omega (arith, n.1, n.0))

more_test : (m : ℕ) → 1 < m → eqb m 1 ≡ false
more_test m h = grind (arith, nat_tests)

fewer_suits : (S b : ℕ) (e : Entry) (key : ℕ → ℕ) (mark : ℕ → Bool) (hold : Hold) → Lists (fewer hold) b → Suits S e key mark hold.stage → Suits S e key mark (fewer hold).stage
fewer_suits S b e key mark hold n suits =
    subst (λ (t : Bool). Suits S e key mark (cond t Free hold.stage)) (sym (more_test hold.many (omega (arith, n.0, n.1)))) suits

fewer_free : (hold : Hold) → IsLoose hold.stage → ((hold.stage ≡ Free) ↔ (hold.many ≡ 0)) → ((fewer hold).stage ≡ Free) ↔ ((fewer hold).many ≡ 0)
fewer_free hold loose free = elim (cases_eq hold.many 1) [
  | inl one ↦ ((λ is. omega (arith, one)), (λ none. ap (λ m. cond (eqb m 1) Free hold.stage) one))
  | inr more ↦ elim (cases_eq hold.many 0) [
    | inl none ↦ absurd (loose_busy hold.stage loose (free.1 none))
    | inr some ↦
        let test : eqb hold.many 1 ≡ false = more_test hold.many (omega (arith, more, some)) in
        ((λ is. absurd (loose_busy hold.stage loose (subst (λ (t : Bool). cond t Free hold.stage ≡ Free) test is))), (λ none. absurd (omega (arith, none, more, some))))
  ]
]

good_release : (w : World) (a : ℕ) → Good w → Enabled w (event.Release a) → Good (record w { holds = slice_set w.holds a (fewer (hold_of w a)) })
good_release w a good on = record {
  kept = record { synced = good.kept.synced; keyed = good.kept.keyed; marked = good.kept.marked; legal = good.kept.legal; fits = good.kept.fits };
  hands = hands_set w.holds w.sectors (length w.base) (entry_of w) (entry_of w) (key_of w) (key_of w) (is_written w) (is_written w) a (fewer (hold_of w a)) good.hands on.1
      (fewer_free (hold_of w a) on.2 (good.hands.free a))
      (omega (arith, good.hands.few a))
      (λ b n. good.hands.inside a b (fewer_lists (hold_of w a) b n))
      (λ b n c other m. other (good.hands.apart c a b m (fewer_lists (hold_of w a) b n)))
      (λ b n. fewer_suits w.sectors b (entry_of w b) (key_of w b) (is_written w b) (hold_of w a) n (good.hands.suits a b (fewer_lists (hold_of w a) b n)))
      (λ b c other n. (refl, λ s in_block. (refl, refl)));
  quiet = runs w _ on.0;
}

-- Sync, Turnover, Stop, Recover

good_sync : (w : World) → Good w → Good (record w { synced = length w.records })
good_sync w good =
    let kept = kept_sync w good.kept in
    record { kept = record { synced = kept.synced; keyed = kept.keyed; marked = kept.marked; legal = kept.legal; fits = kept.fits }; hands = good.hands; quiet = good.quiet }

good_turnover : (w : World) → Good w → Good (record w { base = states w.base w.records; records = []; synced = 0 })
good_turnover w good =
    let kept = kept_anew w (states w.base w.records) good.kept (states_length w.base w.records)
    (λ b s within in_block. subst (λ (e : Entry). Fits e (key_of w b s)) (sym (states_at w.base w.records b within)) (fits_now w good.kept b s within in_block)) in
    record {
      kept = record { synced = kept.synced; keyed = kept.keyed; marked = kept.marked; legal = kept.legal; fits = kept.fits };
      hands = record {
        free = good.hands.free;
        few = good.hands.few;
        inside = λ a b n. omega (arith, states_length w.base w.records, good.hands.inside a b n);
        apart = good.hands.apart;
        suits = λ a b n. suits_same w.sectors (entry_of w b) (entry_at (states w.base w.records) b) (key_of w b) (key_of w b) (is_written w b) (is_written w b) (hold_of w a).stage
            (states_at w.base w.records b (good.hands.inside a b n)) (λ s in_block. (refl, refl)) (good.hands.suits a b n);
      };
      quiet = good.quiet;
    }

good_stop : (w : World) (keep : ℕ) → Good w → w.synced ≤ keep → keep ≤ length w.records
    → Good (record w { records = take keep w.records; holds = replicate (length w.holds) no_hold; stopped = true })
good_stop w keep good low high =
    let kept = kept_stop w keep good.kept low high in
    record {
      kept = record { synced = kept.synced; keyed = kept.keyed; marked = kept.marked; legal = kept.legal; fits = kept.fits };
      hands = hands_free (length w.holds) w.sectors (length w.base) (state w.base (take keep w.records)) (key_of w) (is_written w);
      quiet = λ is. none_listed (length w.holds);
    }

good_recover : (w : World) (base : List Entry) → Good w → w.stopped ≡ true → length base ≡ length w.base
    → ((b s : ℕ) → b < length w.base → s < w.sectors → Fits (entry_at base b) (key_of w b s))
    → Good (record w { base = base; records = []; synced = 0; stopped = false })
good_recover w base good stopped same fits =
    let kept = kept_anew w base good.kept same fits in
    record {
      kept = record { synced = kept.synced; keyed = kept.keyed; marked = kept.marked; legal = kept.legal; fits = kept.fits };
      hands = hands_none w.holds w.sectors (length base) (state base []) (key_of w) (is_written w) good.hands.free good.hands.few (good.quiet stopped);
      quiet = λ is. absurd (cc);
    }

-- All of them.
pub good_step : (w new : World) (e : Event) → Good w → Enabled w e → Changes w e new → Good new
good_step w new (event.Claim a b) good on changes = elim changes [
  | inl busy ↦ subst Good (sym busy.1) good
  | inr claimed ↦ subst Good (sym claimed.1) (good_claim w a b good on claimed.0)
]
good_step w new (event.Begin a) good on changes = good_begin w new a good on changes
good_step w new event.Sync good on changes = subst Good (sym changes) (good_sync w good)
good_step w new (event.Write a b s) good on changes = subst Good (sym changes) (good_write w a s b good on)
good_step w new (event.Ack a) good on changes = subst Good (sym changes) (good_ack w a good on)
good_step w new (event.Fault a) good on changes = subst Good (sym changes) (good_fault w a good on)
good_step w new (event.End a) good on changes = good_end w new a good on changes
good_step w new (event.Bad a b) good on changes = subst Good (sym changes) (good_bad w a b good on)
good_step w new (event.Clear a) good on changes = subst Good (sym changes) (good_clear w a good on)
good_step w new (event.Release a) good on changes = subst Good (sym changes) (good_release w a good on)
good_step w new event.Turnover good on changes = subst Good (sym changes) (good_turnover w good)
good_step w new (event.Stop keep) good on changes = subst Good (sym changes) (good_stop w keep good on.1 on.2)
good_step w new event.Recover good on changes =
    subst Good (sym changes.0) (good_recover w new.base good on changes.1
    (λ b s within in_block. settled_fits (key_of w b) w.sectors (entry_of w b) (entry_at new.base b) (changes.2 b within) s in_block))
