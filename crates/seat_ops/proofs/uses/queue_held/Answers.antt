use Rattle.key_state.specs.Books.{Unsynced}
use Rattle.block_ops.specs.Answers.{HasQueueCause, fault_in}
use Rattle.claim_table.specs.Seats.{view_of}
use Rattle.seat_ops.proofs.Using.{has_run, brings, holds_now, used_book, used_as}
use Rattle.seat_ops.proofs.Answering.{queue_change, queue_shut}
use Rattle.seat_ops.proofs.uses.queue_held.Goals as goal

pub queue_begin-answer-requires-clause-entries : goal.queue_begin-answer-requires-clause-entries
queue_begin-answer-requires-clause-entries g c κs within = has_run _ _ _ _ c.requires.holds c.take_book-book.ensures.book

pub give_book-requires-clause-loan : goal.give_book-requires-clause-loan
give_book-requires-clause-loan g c κs within =
    let met = g.met.B.Book g.world.𝓛 g.world.𝓜 g.world.𝓡 ((λ s held. held), (λ held. held), (λ held. held), λ held. held) in
    brings _ _ _ _ _ c.requires.holds _ _ c.take_book-book.ensures.loan c.take_book-book.ensures.book (met.is_book c.take_book-book.result).clears_range c.queue_begin-answer.ensures.acted
    (queue_change c.args.held.first.0 c.args.held.entries.items c.queue_begin-answer.result c.requires.live c.queue_begin-answer.ensures.queued c.queue_begin-answer.ensures.refused).gentle

pub returns-clause-holds : goal.returns-clause-holds
returns-clause-holds g c = holds_now _ _ _ _ _ _ _ c.requires.holds _ c.take_book-book.ensures.loan c.give_book.ensures.given c.queue_begin-answer.ensures.acted

pub returns-clause-used : goal.returns-clause-used
returns-clause-used g c =
    used_book _ _ _ _ _ _ _ c.requires.holds _ _ _ c.take_book-book.ensures.loan c.give_book.ensures.given c.queue_begin-answer.ensures.acted
    (queue_change c.args.held.first.0 c.args.held.entries.items c.queue_begin-answer.result c.requires.live c.queue_begin-answer.ensures.queued c.queue_begin-answer.ensures.refused)

pub returns-clause-shut : goal.returns-clause-shut
returns-clause-shut g c = queue_shut (view_of c.take_book-book.new.seat) _ (g.B.Book.seen c.take_book-book.result) (g.B.Book.seen c.queue_begin-answer.new.book) c.give_book.ensures.given c.args.held.entries.items c.queue_begin-answer.result c.queue_begin-answer.ensures.shut c.queue_begin-answer.ensures.cause

pub returns-clause-cause : goal.returns-clause-cause
returns-clause-cause g c = used_as (λ lent after. HasQueueCause c.args.held.entries.items lent after (fault_in c.queue_begin-answer.result) × Unsynced lent after) _ _ _ _ _ c.take_book-book.ensures.book c.take_book-book.ensures.loan c.give_book.ensures.given (c.queue_begin-answer.ensures.cause, c.queue_begin-answer.ensures.unsynced)
