use Rattle.std.proofs.Common.{rules, refl, sym, subst, ◌∙◌, ◌≡◌, ℕ, ◌<◌}
use Rattle.key_state.specs.Books.{Appended}
use Rattle.key_state.specs.Quiet.{quiet_seen}
use Rattle.key_state.specs.declared.entry.Entry.TheVariants.{Settled, Pending}
use Rattle.key_state.specs.declared.record.Record.TheVariants.{Begin, End}
use Rattle.key_state.specs.declared.seen.BookSeen.{BookSeen}
use Rattle.claim_table.specs.Views.{blocks_of, now_at}
use Rattle.claim_table.specs.Seats.{view_of}
use Rattle.claim_table.specs.declared.view.View.{View}
use Rattle.claim_table.proofs.TestWrites.{HoldsOne, entry_of_one, can_append, now_there, one_given}
use Rattle.claim_table.proofs.tests.write_block.Goals as goal

pub end-requires : goal.end-requires
end-requires g c =
    let b : ℕ = c.args.held.block.0 in
    let v : View = view_of c.args.seat.now in
    let old : ℕ = c.in-Settled.old in
    let new : ℕ = c.next_key-new.result in
    let lent : BookSeen = quiet_seen c.take_book-book.result in
    let brought : BookSeen = quiet_seen c.begin.new.self in
    let one : HoldsOne v b (Settled old) = (c.requires.one.0, c.requires.one.1, c.requires.one.2, c.requires.one.3 ∙ c.in-Settled.is) in
    let did : Appended (Begin c.args.held.block old new) lent brought = search rules in
    let pending : now_at brought b ≡ Pending old new = now_there lent brought b (Settled old) (Pending old new) (Begin c.args.held.block old new) (entry_of_one v b (Settled old) lent one c.take_book-book.ensures.book) refl refl did refl in
    let then : HoldsOne (view_of c.give_book.new.seat) b (Pending old new) = one_given v (view_of c.take_book-book.new.seat) (view_of c.give_book.new.seat) b (Settled old) (Pending old new) lent brought one c.take_book-book.ensures.loan c.give_book.ensures.given pending in
    let near : b < blocks_of (view_of c.give_book.new.seat).made = subst (λ (u : View). b < blocks_of u.made) (sym c.give_book.ensures.given) (subst (λ (u : View). b < blocks_of u.made) (sym c.take_book-book.ensures.loan) c.requires.block) in
    can_append (view_of c.give_book.new.seat) b (Pending old new) (quiet_seen c.take_book-book-2.result) (End c.args.held.block new) then c.take_book-book-2.ensures.book near refl refl (Settled new, ((old, refl), refl))
