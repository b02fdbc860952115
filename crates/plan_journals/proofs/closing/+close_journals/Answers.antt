use Rattle.std.proofs.Common.{◌≤◌, length, arith}
use Rattle.plan_journals.specs.Open.{held_of}
use Rattle.plan_journals.proofs.Places.{first_and_rest}
use Rattle.plan_journals.proofs.Growing.{leaves_then}
use Rattle.plan_journals.proofs.Closings.{answers_by_ends, ended_more, ended_none, fault_by_ends, first_book, first_is_out, grows_by_ends, leaves_back, no_book, none_out, others_by_ends, rest_before, rest_is_out, stopped_by_ends, taken_out, whole_by_ends}
use Rattle.plan_journals.proofs.closing.+close_journals.Goals as goal

pub returns-then-len-eq0-clause-back : goal.returns-then-len-eq0-clause-back
returns-then-len-eq0-clause-back g t c before is = none_out _ _ _ (length c.args.books.items) (omega arith) is

pub returns-then-len-eq0-clause-ends : goal.returns-then-len-eq0-clause-ends
returns-then-len-eq0-clause-ends g t c = ended_none _ _ _ _ (no_book _ c.args.books.items (omega arith))

pub returns-then-len-eq0-clause-whole : goal.returns-then-len-eq0-clause-whole
returns-then-len-eq0-clause-whole g t c starts first good told apart from =
    whole_by_ends c.args.books.items _ _ _ _ _ _ starts first (returns-then-len-eq0-clause-ends g t c) good told apart from

pub returns-then-len-eq0-clause-stopped : goal.returns-then-len-eq0-clause-stopped
returns-then-len-eq0-clause-stopped g t c place b is stopped good =
    stopped_by_ends c.args.books.items _ _ _ _ _ _ (returns-then-len-eq0-clause-ends g t c) place b is stopped good

pub close_one-first-requires-after_bounds : goal.close_one-first-requires-after_bounds
close_one-first-requires-after_bounds g t c κs within =
    let some : 1 ≤ length c.args.books.items = omega arith in
    first_is_out _ _ _ _ _ c.remove-book.result _ (first_and_rest _ _ c.store-item.is c.in-len1-up.len_at_least) (taken_out _ _ _ c.remove-book.ensures.value c.remove-book.ensures.by_index.2 some) c.requires.out

pub close_journals-rest-requires-clause-out : goal.close_journals-rest-requires-clause-out
close_journals-rest-requires-clause-out g t c κs within =
    let some : 1 ≤ length c.args.books.items = omega arith in
    rest_is_out _ _ _ _ _ _ c.remove-book.result _ (first_and_rest _ _ c.store-item.is c.in-len1-up.len_at_least) (taken_out _ _ _ c.remove-book.ensures.value c.remove-book.ensures.by_index.2 some) c.close_one-first.ensures.back.back.out c.requires.out

pub returns-clause-leaves : goal.returns-clause-leaves
returns-clause-leaves g t c = leaves_then _ _ _ (leaves_back _ _ _ _ c.close_one-first.ensures.back) c.close_journals-rest.ensures.leaves

pub returns-clause-back : goal.returns-clause-back
returns-clause-back g t c before is =
    let some : 1 ≤ length c.args.books.items = omega arith in
    c.close_journals-rest.ensures.back before
    (rest_before _ _ before _ _ _ _ c.remove-book.result _ (first_and_rest _ _ c.store-item.is c.in-len1-up.len_at_least) (taken_out _ _ _ c.remove-book.ensures.value c.remove-book.ensures.by_index.2 some) c.close_one-first.ensures.back.back.out is)

pub returns-clause-ends : goal.returns-clause-ends
returns-clause-ends g t c =
    let some : 1 ≤ length c.args.books.items = omega arith in
    ended_more _ _ _ _ _ _ _ (held_of c.remove-book.result) _ _ _ _ _ _ _ (first_and_rest _ _ c.store-item.is c.in-len1-up.len_at_least) (first_book _ _ _ _ c.remove-book.ensures.value c.remove-book.ensures.by_index.2 some) c.close_one-first.ensures c.close_journals-rest.ensures.ends c.after_closing.ensures.status

pub returns-clause-answers : goal.returns-clause-answers
returns-clause-answers g t c = answers_by_ends _ _ _ _ _ _ _ (returns-clause-ends g t c)

pub returns-clause-others : goal.returns-clause-others
returns-clause-others g t c path others = others_by_ends c.args.books.items _ _ _ _ _ _ path (returns-clause-ends g t c) others

pub returns-clause-grows : goal.returns-clause-grows
returns-clause-grows g t c starts first from grown = grows_by_ends c.args.books.items _ _ _ _ _ _ starts first (returns-clause-ends g t c) from grown

pub returns-clause-stopped : goal.returns-clause-stopped
returns-clause-stopped g t c place b is stopped good = stopped_by_ends c.args.books.items _ _ _ _ _ _ (returns-clause-ends g t c) place b is stopped good

pub returns-clause-whole : goal.returns-clause-whole
returns-clause-whole g t c starts first good told apart from = whole_by_ends c.args.books.items _ _ _ _ _ _ starts first (returns-clause-ends g t c) good told apart from

pub returns-clause-fault : goal.returns-clause-fault
returns-clause-fault g t c starts first bad told apart from = fault_by_ends c.args.books.items _ _ _ _ _ _ starts first (returns-clause-ends g t c) bad told apart from
