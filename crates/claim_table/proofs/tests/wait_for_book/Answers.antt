use Rattle.claim_table.specs.Seats.{view_of}
use Rattle.claim_table.proofs.TestWrites.{brings_same}
use Rattle.claim_table.proofs.tests.wait_for_book.Goals as goal

pub give_book-requires-clause-loan : goal.give_book-requires-clause-loan
give_book-requires-clause-loan g c κs = brings_same (view_of c.args.seat.now) (view_of c.take_book-book.new.seat) _ c.requires.1 c.take_book-book.ensures.loan c.take_book-book.result.ends_range c.take_book-book.result.clears_range
