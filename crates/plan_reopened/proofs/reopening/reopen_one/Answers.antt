use Rattle.std.proofs.Common.{ap, refl, ◌∙◌, ℕ, ◌+◌, [], ◌∷◌}
use Rattle.journal_core.specs.Book.{seen_of}
use Rattle.plan_journals.proofs.Openings.{one_more_book}
use Rattle.plan_reopened.specs.Reopening.{next_start}
use Rattle.plan_reopened.proofs.Keeping.{back_else, back_same, leaves_given}
use Rattle.plan_reopened.proofs.Reopenings.{ends_unopened, ends_unreserved, grows_same, low_next, none_opened, opened_said, opened_unsaid, quiet_refusal}
use Rattle.plan_reopened.proofs.reopening.reopen_one.Goals as goal

pub returns-in_default-clause-leaves : goal.returns-in_default-clause-leaves
returns-in_default-clause-leaves g c = leaves_given _ _ _ _ c.keep_disk.ensures.back c.keep_disk.ensures.counts c.keep_disk.ensures.contents

pub returns-in_default-clause-stops : goal.returns-in_default-clause-stops
returns-in_default-clause-stops g c =
    ends_unreserved _ _ _ c.args.store.now (next_start c.args.store.now c.args.live.now c.args.entries.items) _ _ _ c.in_default.ensures.items c.keep_disk.ensures.back.out (back_else _ _ _ _ _ c.keep_disk.ensures.disks)

pub returns-in_default-clause-grows : goal.returns-in_default-clause-grows
returns-in_default-clause-grows g c = grows_same _ _ _ (back_same _ _ _ _ _ c.keep_disk.ensures.disks c.requires.kept)

pub returns-in_default-clause-disk_quiet : goal.returns-in_default-clause-disk_quiet
returns-in_default-clause-disk_quiet g c j m = back_same _ _ _ _ _ c.keep_disk.ensures.disks c.requires.kept

pub returns-in-Err-clause-stops : goal.returns-in-Err-clause-stops
returns-in-Err-clause-stops g c =
    let o = c.in-Err.ensures in
    ends_unopened _ _ _ c.args.store.now (next_start c.args.store.now c.args.live.now c.args.entries.items) _ _ _ _ c.in-Err.why _ refl c.in-Ok.ensures.items
    (record {
      out = o.back;
      others = o.others;
      epoch_end = λ e. ap (λ (n : ℕ). n + 1) (o.epoch_end (cc e));
      low = λ isnt. low_next _ _ (o.low (λ e. isnt (cc e)));
      disk_fault = λ e. o.disk_fault (cc e);
      disk_quiet = λ isnt. o.disk_quiet (λ e. isnt (cc e));
    })
    c.refuse.ensures

pub returns-in_default-clause-at_most_its_disk : goal.returns-in_default-clause-at_most_its_disk
returns-in_default-clause-at_most_its_disk g c = none_opened _ _ _ _ c.in_default.ensures.items

pub returns-in-Err-clause-at_most_its_disk : goal.returns-in-Err-clause-at_most_its_disk
returns-in-Err-clause-at_most_its_disk g c = none_opened _ _ _ _ c.in-Ok.ensures.items

pub returns-in-Good-clause-its_disk : goal.returns-in-Good-clause-its_disk
returns-in-Good-clause-its_disk g c =
    (seen_of c.in-Ok-reopen_journal.book, one_more_book _ _ _ _ c.in-Ok-reopen_journal.book c.in-Ok.ensures.items c.push_reserved.ensures.items, c.in-Ok-reopen_journal.ensures.its_disk)

pub returns-in_default-say_reopened-clause-at_most_its_disk : goal.returns-in_default-say_reopened-clause-at_most_its_disk
returns-in_default-say_reopened-clause-at_most_its_disk g c =
    (seen_of c.in-Ok-reopen_journal.book ∷ [], one_more_book _ _ _ _ c.in-Ok-reopen_journal.book c.in-Ok.ensures.items c.push_reserved.ensures.items, (c.in-Ok-reopen_journal.ensures.its_disk, tt))

pub returns-in-Err-clause-disk_quiet : goal.returns-in-Err-clause-disk_quiet
returns-in-Err-clause-disk_quiet g c j m = c.in-Err.ensures.disk_quiet (λ e. quiet_refusal c.in-Err.why _ _ _ c.args.store.now c.refuse.ensures (λ s. j (cc s)) (λ s. m (cc s)) (cc e))

pub returns-in-Good-clause-opened : goal.returns-in-Good-clause-opened
returns-in-Good-clause-opened g c =
    let o = c.in-Ok-reopen_journal.ensures in
    opened_said _ _ (next_start c.args.store.now c.args.live.now c.args.entries.items) _ _ (seen_of c.in-Ok-reopen_journal.book) _ _ _ _
    (record {
      book = one_more_book _ _ _ _ c.in-Ok-reopen_journal.book c.in-Ok.ensures.items c.push_reserved.ensures.items;
      opened = o.opened;
      low = low_next _ _ (o.low (λ e. cc));
      same = o.same;
    })
    (c.epoch-epoch.ensures ∙ o.opened.fresh.epoch) c.say_reopened.ensures c.in-Good.is

pub returns-in_default-say_reopened-clause-stops : goal.returns-in_default-say_reopened-clause-stops
returns-in_default-say_reopened-clause-stops g c =
    let o = c.in-Ok-reopen_journal.ensures in
    opened_unsaid _ _ c.args.store.now (next_start c.args.store.now c.args.live.now c.args.entries.items) _ _ (seen_of c.in-Ok-reopen_journal.book) _ _ _ _
    (record {
      book = one_more_book _ _ _ _ c.in-Ok-reopen_journal.book c.in-Ok.ensures.items c.push_reserved.ensures.items;
      opened = o.opened;
      low = low_next _ _ (o.low (λ e. cc));
      same = o.same;
    })
    c.say_reopened.ensures c.in_default-say_reopened.not-Good
