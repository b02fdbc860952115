use Rattle.std.proofs.Common.{◌<◌, ap, ◌∷◌, length, map, slice_get}
use Rattle.std.proofs.lemmas.List.Elements.{All-rest}
use Rattle.slave_worker.specs.Hands.{hand_seen}
use Rattle.slave_worker.specs.declared.hand.StoreHand.{StoreHand}
use Rattle.plan_runs.specs.Books.{book_end_of, book_line, book_status, books_status, books_text}
use Rattle.plan_runs.proofs.Spoken.{both_said, ends_first, ends_later, of_hands}
use Rattle.plan_runs.proofs.said.+say_books.Goals as goal

pub returns-in-NoMemory : goal.returns-in-NoMemory
returns-in-NoMemory g t c =
    let seen = hand_seen g.P.Pass.seen g.B.Book.seen in
    let stores = c.args.stores.now in
    let run = c.args.run.now in
    let ends = c.args.ends.now in
    let hand = seen c.in-Some.hand.now in
    let others = map seen c.in-Some.others.now in
    let how = book_end_of run ends hand in
    of_hands stores run ends (map seen c.args.hands.now) (hand ∷ others) _ _ _ (ap (map seen) c.in-Some.ensures.cases.0)
    (ends_first (book_line (slice_get stores c.in-Some.hand.now.store) how) (books_text stores run ends others) (book_status how) (books_status run ends (hand ∷ others)) c.say_book-first.result _ _ c.say_book-first.ensures)

pub say_books-rest-requires-after_bounds : goal.say_books-rest-requires-after_bounds
say_books-rest-requires-after_bounds g t c κs within =
    All-rest (λ (hand : StoreHand g.row.P.Denot g.row.B.Denot). hand.store < length c.args.stores.now) c.in-Some.hand.now c.in-Some.others.now c.args.hands.now c.in-Some.ensures.cases.0 c.requires

pub returns-in-NoMemory-rest : goal.returns-in-NoMemory-rest
returns-in-NoMemory-rest g t c =
    let seen = hand_seen g.P.Pass.seen g.B.Book.seen in
    let stores = c.args.stores.now in
    let run = c.args.run.now in
    let ends = c.args.ends.now in
    let hand = seen c.in-Some.hand.now in
    let others = map seen c.in-Some.others.now in
    let how = book_end_of run ends hand in
    of_hands stores run ends (map seen c.args.hands.now) (hand ∷ others) _ _ _ (ap (map seen) c.in-Some.ensures.cases.0)
    (ends_later (book_line (slice_get stores c.in-Some.hand.now.store) how) (books_text stores run ends others) (book_status how) (books_status run ends others) (books_status run ends (hand ∷ others)) c.say_book-first.result c.say_books-rest.result _ _ _ c.in_default-first.not-NoMemory c.say_book-first.ensures c.say_books-rest.ensures)

pub returns : goal.returns
returns g t c =
    let seen = hand_seen g.P.Pass.seen g.B.Book.seen in
    let stores = c.args.stores.now in
    let run = c.args.run.now in
    let ends = c.args.ends.now in
    let hand = seen c.in-Some.hand.now in
    let others = map seen c.in-Some.others.now in
    let how = book_end_of run ends hand in
    of_hands stores run ends (map seen c.args.hands.now) (hand ∷ others) _ _ _ (ap (map seen) c.in-Some.ensures.cases.0)
    (both_said (book_line (slice_get stores c.in-Some.hand.now.store) how) (books_text stores run ends others) (book_status how) (books_status run ends others) c.say_book-first.result c.say_books-rest.result c.worse.result _ _ _ c.in_default-first.not-NoMemory c.in_default-rest.not-NoMemory c.worse.ensures c.say_book-first.ensures c.say_books-rest.ensures)
