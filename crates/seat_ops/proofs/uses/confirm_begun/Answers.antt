use Rattle.key_state.specs.Books.{HasFlushCause}
use Rattle.block_ops.specs.Answers.{fault_in}
use Rattle.claim_table.specs.Seats.{view_of}
use Rattle.seat_ops.proofs.Using.{same_change, has_run, brings, holds_now, used_book, used_as}
use Rattle.seat_ops.proofs.Answering.{confirm_safe, flush_shut}
use Rattle.seat_ops.proofs.uses.confirm_begun.Goals as goal

pub confirm-answer-requires-after_bounds : goal.confirm-answer-requires-after_bounds
confirm-answer-requires-after_bounds g c κs within = has_run _ _ _ _ c.requires.holds c.take_book-book.ensures.book

pub give_book-requires-clause-loan : goal.give_book-requires-clause-loan
give_book-requires-clause-loan g c κs within =
    let met = g.met.B.Book g.world.𝓛 g.world.𝓜 g.world.𝓡 ((λ s held. held), (λ held. held), (λ held. held), λ held. held) in
    brings _ _ _ _ _ c.requires.holds _ _ c.take_book-book.ensures.loan c.take_book-book.ensures.book (met.is_book c.take_book-book.result).clears_range c.confirm-answer.ensures.acted (same_change 0 _).gentle

pub returns-clause-holds : goal.returns-clause-holds
returns-clause-holds g c = holds_now _ _ _ _ _ _ _ c.requires.holds _ c.take_book-book.ensures.loan c.give_book.ensures.given c.confirm-answer.ensures.acted

pub returns-clause-used : goal.returns-clause-used
returns-clause-used g c = used_book _ _ _ _ _ _ _ c.requires.holds _ _ _ c.take_book-book.ensures.loan c.give_book.ensures.given c.confirm-answer.ensures.acted (same_change _ _)

pub returns-clause-safe : goal.returns-clause-safe
returns-clause-safe g c =
    confirm_safe _ _ _ (g.B.Book.seen c.confirm-answer.new.book) c.confirm-answer.result (holds_now _ _ _ _ _ _ _ c.requires.holds _ c.take_book-book.ensures.loan c.give_book.ensures.given c.confirm-answer.ensures.acted) c.confirm-answer.ensures.safe c.give_book.ensures.safe

pub returns-clause-shut : goal.returns-clause-shut
returns-clause-shut g c = flush_shut (view_of c.take_book-book.new.seat) _ (g.B.Book.seen c.take_book-book.result) (g.B.Book.seen c.confirm-answer.new.book) c.give_book.ensures.given c.confirm-answer.result c.confirm-answer.ensures.shut c.confirm-answer.ensures.cause

pub returns-clause-cause : goal.returns-clause-cause
returns-clause-cause g c = used_as (λ lent after. HasFlushCause lent after (fault_in c.confirm-answer.result)) _ _ _ _ _ c.take_book-book.ensures.book c.take_book-book.ensures.loan c.give_book.ensures.given c.confirm-answer.ensures.cause
