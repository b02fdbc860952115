use Rattle.std.proofs.Common.{◌≡◌, false, List, length, map, sym, ap, subst, inl, inr, refl, arith}
use Rattle.key_state.specs.Entries.{IsEntry, begun}
use Rattle.key_state.specs.declared.entry.Entry.{Entry}
use Rattle.claim_table.specs.Sums.{Each}
use Rattle.block_ops.specs.Runs.{AreNow, IsBegun, some_settled}
use Rattle.block_ops.proofs.RunParts.{are_valid, begun_already, begun_before, begun_each, length_begun}
use Rattle.block_ops.proofs.Acting.{acted_none}
use Rattle.block_ops.proofs.Stepping.{all_begun, all_same, still_fit}
use Rattle.block_ops.proofs.states.queue_begin.Goals as goal

pub invariant_of-result : goal.invariant_of-result
invariant_of-result g c =
    let met = g.met.B.Book g.world.𝓛 g.world.𝓜 g.world.𝓡 ((λ s held. held), (λ held. held), (λ held. held), λ held. held) in
    let entries : List Entry = c.args.held.entries.items in
    let none : some_settled entries ≡ false = grind arith in
    (c.requires.some, begun_already entries none c.requires.live (are_valid (g.B.Book.seen c.args.book.now) c.args.held.first.0 entries (met.is_book c.args.book.now) c.requires.entries))

pub returns-then-not-has_settled-clause-acted : goal.returns-then-not-has_settled-clause-acted
returns-then-not-has_settled-clause-acted g c =
    let met = g.met.B.Book g.world.𝓛 g.world.𝓜 g.world.𝓡 ((λ s held. held), (λ held. held), (λ held. held), λ held. held) in
    acted_none c.args.held.first.0 c.args.held.entries.items (g.B.Book.seen c.args.book.now) (met.is_book c.args.book.now) c.requires.entries

pub returns-then-not-has_settled-clause-queued : goal.returns-then-not-has_settled-clause-queued
returns-then-not-has_settled-clause-queued g c =
    let entries : List Entry = c.args.held.entries.items in
    let none : some_settled entries ≡ false = grind arith in
    sym (begun_before entries none c.requires.live)

pub invariant_of-result-in-Ok : goal.invariant_of-result-in-Ok
invariant_of-result-in-Ok g c =
    let met = g.met.B.Book g.world.𝓛 g.world.𝓜 g.world.𝓡 ((λ s held. held), (λ held. held), (λ held. held), λ held. held) in
    let entries : List Entry = c.args.held.entries.items in
    let Now : List Entry → Type 0 = λ xs. AreNow (g.B.Book.seen c.append_begin-appended.new.book) c.args.held.first.0 (map begun xs) in
    let are : Now entries = subst Now c.deref-2.ensures.value c.in-Ok.ensures.ok.mine.each in
    let now : c.as_in-run.result.entries.items ≡ map begun entries = c.as_in-run.ensures.exact (map begun entries) (length_begun entries) are in
    let valid : Each IsEntry entries = are_valid (g.B.Book.seen c.args.book.now) c.args.held.first.0 entries (met.is_book c.args.book.now) c.requires.entries in (
      omega (arith, ap (λ (xs : List Entry). length xs) now, length_begun entries),
      subst (Each IsBegun) (sym now) (begun_each entries c.requires.live valid),
    )

pub returns-in-Ok-clause-fits : goal.returns-in-Ok-clause-fits
returns-in-Ok-clause-fits g c = λ made fits.
    let held = c.args.held in
    let run = c.as_in-run.result in
    let entries : List Entry = held.entries.items in
    let Now : List Entry → Type 0 = λ xs. AreNow (g.B.Book.seen c.append_begin-appended.new.book) held.first.0 (map begun xs) in
    let are : Now entries = subst Now c.deref-2.ensures.value c.in-Ok.ensures.ok.mine.each in
    still_fit g.P.Pass.seen made held.first.0 entries (map begun entries) run.entries.items held.passes.items run.passes.items
    (c.as_in-run.ensures.exact (map begun entries) (length_begun entries) are) c.as_in-run.ensures.passes (all_begun entries) fits

pub returns-in-Err-clause-fits : goal.returns-in-Err-clause-fits
returns-in-Err-clause-fits g c = λ made fits.
    let held = c.args.held in
    let run = c.as_in-run.result in
    let exact = c.as_in-run.ensures.exact in
    let entries : List Entry = held.entries.items in
    let Begun : List Entry → Type 0 = λ xs. AreNow (g.B.Book.seen c.append_begin-appended.new.book) held.first.0 (map begun xs) in
    let Same : List Entry → Type 0 = λ xs. AreNow (g.B.Book.seen c.append_begin-appended.new.book) held.first.0 xs in
    elim c.in-Err.ensures.err [
      | inl acted ↦
          still_fit g.P.Pass.seen made held.first.0 entries (map begun entries) run.entries.items held.passes.items run.passes.items
          (exact (map begun entries) (length_begun entries) (subst Begun c.deref-2.ensures.value acted.mine.each)) c.as_in-run.ensures.passes (all_begun entries) fits
      | inr acted ↦
          still_fit g.P.Pass.seen made held.first.0 entries entries run.entries.items held.passes.items run.passes.items
          (exact entries refl (subst Same c.deref-2.ensures.value acted.mine.each)) c.as_in-run.ensures.passes (all_same entries) fits
    ]
