use Rattle.key_state.specs.Books.{HasBookCause, Unsynced}
use Rattle.block_ops.specs.Answers.{fault_in}
use Rattle.claim_table.specs.Seats.{view_of}
use Rattle.seat_ops.proofs.Using.{has_run, brings, holds_now, used_as}
use Rattle.seat_ops.proofs.Answering.{bad_gentle, bad_used, bad_refused, book_shut}
use Rattle.seat_ops.proofs.uses.make_bad.Goals as goal

pub mark_bad-answer-requires-clause-entries : goal.mark_bad-answer-requires-clause-entries
mark_bad-answer-requires-clause-entries g c κs within = has_run _ _ _ _ c.requires.holds c.take_book-book.ensures.book

pub give_book-requires-clause-loan : goal.give_book-requires-clause-loan
give_book-requires-clause-loan g c κs within =
    let met = g.met.B.Book g.world.𝓛 g.world.𝓜 g.world.𝓡 ((λ s held. held), (λ held. held), (λ held. held), λ held. held) in
    brings _ _ _ _ _ c.requires.holds _ _ c.take_book-book.ensures.loan c.take_book-book.ensures.book (met.is_book c.take_book-book.result).clears_range c.mark_bad-answer.ensures.acted
    (bad_gentle c.args.held.first.0 c.args.held.entries.items c.args.at c.mark_bad-answer.result c.requires.at c.requires.live c.mark_bad-answer.ensures.marked c.mark_bad-answer.ensures.refused)

pub returns-clause-holds : goal.returns-clause-holds
returns-clause-holds g c = holds_now _ _ _ _ _ _ _ c.requires.holds _ c.take_book-book.ensures.loan c.give_book.ensures.given c.mark_bad-answer.ensures.acted

pub returns-clause-marked : goal.returns-clause-marked
returns-clause-marked g c = bad_used _ _ _ _ _ _ _ c.requires.holds c.take_book-book.ensures.loan c.give_book.ensures.given c.args.at c.mark_bad-answer.result c.requires.at c.requires.live c.mark_bad-answer.ensures.marked c.mark_bad-answer.ensures.acted

pub returns-clause-refused : goal.returns-clause-refused
returns-clause-refused g c = bad_refused _ _ _ _ _ _ _ c.requires.holds c.take_book-book.ensures.loan c.give_book.ensures.given c.args.at c.mark_bad-answer.result c.requires.at c.requires.live c.mark_bad-answer.ensures.refused c.mark_bad-answer.ensures.acted

pub returns-clause-shut : goal.returns-clause-shut
returns-clause-shut g c = book_shut (view_of c.take_book-book.new.seat) _ (g.B.Book.seen c.take_book-book.result) (g.B.Book.seen c.mark_bad-answer.new.book) c.give_book.ensures.given c.mark_bad-answer.result c.mark_bad-answer.ensures.shut c.mark_bad-answer.ensures.cause

pub returns-clause-cause : goal.returns-clause-cause
returns-clause-cause g c = used_as (λ lent after. HasBookCause lent after (fault_in c.mark_bad-answer.result) × Unsynced lent after) _ _ _ _ _ c.take_book-book.ensures.book c.take_book-book.ensures.loan c.give_book.ensures.given (c.mark_bad-answer.ensures.cause, c.mark_bad-answer.ensures.unsynced)
