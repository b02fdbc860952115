use Rattle.key_state.specs.Books.{HasBookCause, Unsynced}
use Rattle.block_ops.specs.Answers.{fault_in}
use Rattle.claim_table.specs.Seats.{view_of}
use Rattle.seat_ops.proofs.Using.{has_run, brings, holds_now, used_as}
use Rattle.seat_ops.proofs.Answering.{end_gentle, end_used, end_refused, book_shut}
use Rattle.seat_ops.proofs.uses.end_written.Goals as goal

pub end_write-answer-requires-clause-entries : goal.end_write-answer-requires-clause-entries
end_write-answer-requires-clause-entries g c κs within = has_run _ _ _ _ c.requires.holds c.take_book-book.ensures.book

pub give_book-requires-clause-loan : goal.give_book-requires-clause-loan
give_book-requires-clause-loan g c κs within =
    let met = g.met.B.Book g.world.𝓛 g.world.𝓜 g.world.𝓡 ((λ s held. held), (λ held. held), (λ held. held), λ held. held) in
    brings _ _ _ _ _ c.requires.holds _ _ c.take_book-book.ensures.loan c.take_book-book.ensures.book (met.is_book c.take_book-book.result).clears_range c.end_write-answer.ensures.acted
    (end_gentle c.args.written.first c.args.written.entries c.end_write-answer.result c.requires.begun c.end_write-answer.ensures.ended c.end_write-answer.ensures.refused)

pub returns-clause-holds : goal.returns-clause-holds
returns-clause-holds g c = holds_now _ _ _ _ _ _ _ c.requires.holds _ c.take_book-book.ensures.loan c.give_book.ensures.given c.end_write-answer.ensures.acted

pub returns-clause-ended : goal.returns-clause-ended
returns-clause-ended g c = end_used _ _ _ _ _ _ _ c.requires.holds c.take_book-book.ensures.loan c.give_book.ensures.given c.end_write-answer.result c.requires.begun c.end_write-answer.ensures.ended c.end_write-answer.ensures.acted

pub returns-clause-refused : goal.returns-clause-refused
returns-clause-refused g c = end_refused _ _ _ _ _ _ _ c.requires.holds c.take_book-book.ensures.loan c.give_book.ensures.given c.end_write-answer.result c.requires.begun c.end_write-answer.ensures.refused c.end_write-answer.ensures.acted

pub returns-clause-shut : goal.returns-clause-shut
returns-clause-shut g c = book_shut (view_of c.take_book-book.new.seat) _ (g.B.Book.seen c.take_book-book.result) (g.B.Book.seen c.end_write-answer.new.book) c.give_book.ensures.given c.end_write-answer.result c.end_write-answer.ensures.shut c.end_write-answer.ensures.cause

pub returns-clause-cause : goal.returns-clause-cause
returns-clause-cause g c = used_as (λ lent after. HasBookCause lent after (fault_in c.end_write-answer.result) × Unsynced lent after) _ _ _ _ _ c.take_book-book.ensures.book c.take_book-book.ensures.loan c.give_book.ensures.given (c.end_write-answer.ensures.cause, c.end_write-answer.ensures.unsynced)
