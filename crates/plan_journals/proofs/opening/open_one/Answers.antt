use Rattle.journal_core.specs.Book.{seen_of}
use Rattle.plan_journals.proofs.Openings.{one_more_book, opened_unsaid, stops_unopened, stops_unreserved}
use Rattle.plan_journals.proofs.opening.open_one.Goals as goal

pub returns-in_default-clause-stops : goal.returns-in_default-clause-stops
returns-in_default-clause-stops g c = stops_unreserved _ _ _ _ _ _ _ c.in_default.ensures.items

pub returns-in-Err-clause-stops : goal.returns-in-Err-clause-stops
returns-in-Err-clause-stops g c =
    stops_unopened _ _ _ _ _ _ _ _ _ c.in-Err.why _ c.in-Ok.ensures.items
    (record {
      out = c.in-Err.ensures.not_taken;
      others = c.in-Err.ensures.others;
      disk_fault = λ e. c.in-Err.ensures.disk_fault (cc e);
      disk_quiet = λ j m. c.in-Err.ensures.disk_quiet (λ e. j (cc e)) (λ e. m (cc e));
      yard_fault = λ e. c.in-Err.ensures.yard_fault (cc e);
      yard_quiet = λ y. c.in-Err.ensures.yard_quiet (λ e. y (cc e));
      willing = λ w e. c.in-Err.ensures.willing w (cc e);
    })
    c.refuse.ensures

pub returns-in_default-say_opened-clause-stops : goal.returns-in_default-say_opened-clause-stops
returns-in_default-say_opened-clause-stops g c =
    let o = c.in-Ok-open_journal.ensures in
    opened_unsaid _ _ _ _ _ _ (seen_of c.in-Ok-open_journal.book) _ _ _
    (record {
      book = one_more_book _ _ _ _ c.in-Ok-open_journal.book c.in-Ok.ensures.items c.push_reserved.ensures.items;
      made = o.made;
      out = o.taken;
      disks = o.disk_quiet (λ e. cc) (λ e. cc);
      faults = o.yard_quiet (λ e. cc);
    })
    c.say_opened.ensures c.in_default-say_opened.not-Good
