use Rattle.std.proofs.Common.{rules}
use Rattle.journal_core.specs.Book.{seen_of}
use Rattle.plan_journals.proofs.Places.{empty_list, first_and_rest}
use Rattle.plan_journals.proofs.Growing.{first_grows, rest_grows}
use Rattle.plan_journals.proofs.Openings.{opened_none, opened_more, stand_open, stops_first, stops_more}
use Rattle.plan_journals.proofs.opening.+open_journals.Goals as goal

pub returns-in_default-clause-opened : goal.returns-in_default-clause-opened
returns-in_default-clause-opened g t c = opened_none _ _ _ _ _ (empty_list _ c.in_default.len_below)

pub returns-in_default-one-clause-stops : goal.returns-in_default-one-clause-stops
returns-in_default-one-clause-stops g t c = stops_first _ _ _ _ _ _ _ _ _ _ _ (first_and_rest _ _ c.store-item.is c.in-len1-up.len_at_least) c.open_one-one.ensures.stops

pub returns-in_default-one-clause-grows : goal.returns-in_default-one-clause-grows
returns-in_default-one-clause-grows g t c = first_grows _ _ _ _ _ _ (first_and_rest _ _ c.store-item.is c.in-len1-up.len_at_least) c.open_one-one.ensures.grows

pub returns-clause-opened : goal.returns-clause-opened
returns-clause-opened g t c =
    opened_more _ _ _ _ _ _ _ _ _ _ _ _ _ _ (first_and_rest _ _ c.store-item.is c.in-len1-up.len_at_least) c.open_one-one.ensures.leaves c.in-Ok.ensures.opened c.open_journals.ensures.opened

pub returns-clause-stops : goal.returns-clause-stops
returns-clause-stops g t c =
    stops_more _ _ _ _ _ _ _ _ _ _ _ _ _ _ (first_and_rest _ _ c.store-item.is c.in-len1-up.len_at_least) c.open_one-one.ensures.leaves c.in-Ok.ensures.opened c.open_journals.ensures.stops

pub returns-clause-grows : goal.returns-clause-grows
returns-clause-grows g t c =
    rest_grows _ _ _ _ _ _ _ (first_and_rest _ _ c.store-item.is c.in-len1-up.len_at_least) (c.in-Ok.ensures.disk_quiet (λ e. cc) (λ e. cc)) c.open_journals.ensures.grows

pub returns-clause-stands : goal.returns-clause-stands
returns-clause-stands g t c none = stand_open seen_of c.args.books.now.items _ _ _ _ _ _ _ _ (returns-clause-opened g t c) (returns-clause-stops g t c) none

pub returns-in_default-one-clause-opened : goal.returns-in_default-one-clause-opened
returns-in_default-one-clause-opened g t c = search rules

pub returns-in_default-one-clause-stands : goal.returns-in_default-one-clause-stands
returns-in_default-one-clause-stands g t c none = stand_open seen_of c.args.books.now.items _ _ _ _ _ _ _ _ (returns-in_default-one-clause-opened g t c) (returns-in_default-one-clause-stops g t c) none
