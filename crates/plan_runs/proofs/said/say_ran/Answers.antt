use Rattle.std.proofs.Common.{◌∙◌, ap, map}
use Rattle.run_report.specs.Runs.{run_text}
use Rattle.run_report.specs.declared.status.Status.{Status}
use Rattle.slave_worker.specs.Hands.{hand_seen}
use Rattle.plan_runs.specs.Books.{books_status, books_text, ran_status}
use Rattle.plan_runs.specs.Statuses.{tallies_status, worse}
use Rattle.plan_runs.proofs.Spoken.{ran_front, ran_later, ran_said}
use Rattle.plan_runs.proofs.said.say_ran.Goals as goal

pub returns-in-Err : goal.returns-in-Err
returns-in-Err g c =
    let hands = map (hand_seen g.P.Pass.seen g.B.Book.seen) c.args.hands.now in
    let run = c.args.run.now in
    let ends = c.args.ends.now in
    ran_front (run_text c.args.stores.now run c.args.tallies.now) (books_text c.args.stores.now run ends hands) (ran_status run c.args.tallies.now ends hands) _ _ c.in-Err.ensures.err

pub returns-in-NoMemory : goal.returns-in-NoMemory
returns-in-NoMemory g c =
    let hands = map (hand_seen g.P.Pass.seen g.B.Book.seen) c.args.hands.now in
    let run = c.args.run.now in
    let ends = c.args.ends.now in
    ran_later (run_text c.args.stores.now run c.args.tallies.now) (books_text c.args.stores.now run ends hands) (books_status run ends hands) (ran_status run c.args.tallies.now ends hands) c.say_books-books.result _ _ _ c.in_default.ensures.ok c.say_books-books.ensures

pub returns : goal.returns
returns g c =
    let hands = map (hand_seen g.P.Pass.seen g.B.Book.seen) c.args.hands.now in
    let run = c.args.run.now in
    let ends = c.args.ends.now in
    ran_said (run_text c.args.stores.now run c.args.tallies.now) (books_text c.args.stores.now run ends hands) (books_status run ends hands) c.say_books-books.result (tallies_status c.args.tallies.now) c.worse.result _ _ _ c.in_default-books.not-NoMemory
    (c.worse.ensures ∙ ap (λ (s : Status). worse c.say_books-books.result s) c.status_of.ensures) c.in_default.ensures.ok c.say_books-books.ensures
