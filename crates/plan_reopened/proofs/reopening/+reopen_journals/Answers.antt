use Rattle.std.proofs.Common.{◌≤◌, length, ap, refl, arith, take, drop, ◌-◌, ◌∙◌}
use Rattle.vd_yard.specs.Yard.{YardSeen}
use Rattle.journal_core.specs.Book.{seen_of}
use Rattle.plan_journals.proofs.Closings.{first_book, taken_out}
use Rattle.plan_journals.proofs.Growing.{leaves_then}
use Rattle.plan_journals.proofs.Places.{empty_list, first_and_rest}
use Rattle.plan_reopened.specs.Reopening.{items_of}
use Rattle.plan_reopened.proofs.Keeping.{apart_more}
use Rattle.plan_reopened.proofs.Reopenings.{back_of_all, disks_first, disks_more, ends_here, ends_more, first_out, grows_first, grows_more, kept_first, none_opened, ready_first, rest_kept, rest_open, rest_stopped, reopened_more, reopened_none, stand_open, rest_long, stand_stopped, starts_first, still_first, taken_all}
use Rattle.plan_reopened.proofs.reopening.+reopen_journals.Goals as goal

pub returns-in_default-clause-opened : goal.returns-in_default-clause-opened
returns-in_default-clause-opened g t c = reopened_none _ _ _ _ _ _ (empty_list _ c.in_default.len_below)

pub returns-in_default-clause-their_disks : goal.returns-in_default-clause-their_disks
returns-in_default-clause-their_disks g t c = none_opened _ _ _ _ refl

pub reopen_one-requires-clause-out : goal.reopen_one-requires-clause-out
reopen_one-requires-clause-out g t c κs within = first_out _ _ _ _ (first_and_rest _ _ c.store-item.is c.in-len1-up.len_at_least) c.requires.out

pub reopen_one-requires-clause-kept : goal.reopen_one-requires-clause-kept
reopen_one-requires-clause-kept g t c κs within told =
    let some : 1 ≤ length c.args.disks.items = omega arith in
    let more : 1 ≤ length c.args.settled.items = omega arith in
    (kept_first _ _ _ _ _ _ _ (first_and_rest _ _ c.store-item.is c.in-len1-up.len_at_least) (first_book g.Y.Disk.Disk.seen c.args.disks.items c.remove-disk.result _ c.remove-disk.ensures.value c.remove-disk.ensures.by_index.2 some) (c.requires.kept told)).0

pub reopen_one-requires-clause-ready : goal.reopen_one-requires-clause-ready
reopen_one-requires-clause-ready g t c κs within =
    let some : 1 ≤ length c.args.disks.items = omega arith in
    let more : 1 ≤ length c.args.settled.items = omega arith in
    (ready_first _ _ _ _ _ _ _ _ _ _ _ _ (first_and_rest _ _ c.store-item.is c.in-len1-up.len_at_least) (first_book g.Y.Disk.Disk.seen c.args.disks.items c.remove-disk.result _ c.remove-disk.ensures.value c.remove-disk.ensures.by_index.2 some) (first_and_rest _ _ c.one-item.is c.in-len1-up-found.len_at_least) (first_book items_of c.args.settled.items c.remove-entries.result _ c.remove-entries.ensures.value c.remove-entries.ensures.by_index.2 more) c.requires.ready).0

pub give_back-requires-clause-out : goal.give_back-requires-clause-out
give_back-requires-clause-out g t c κs within =
    let some : 1 ≤ length c.args.disks.items = omega arith in
    let more : 1 ≤ length c.args.settled.items = omega arith in
    taken_all _ _ _ (omega arith) (rest_stopped _ _ _ _ _ _ _ _ _ _ _ (first_and_rest _ _ c.store-item.is c.in-len1-up.len_at_least) c.in-Err.ensures.stops c.requires.out)

pub reopen_journals-requires-clause-apart : goal.reopen_journals-requires-clause-apart
reopen_journals-requires-clause-apart g t c κs within = apart_more _ _ _ (first_and_rest _ _ c.store-item.is c.in-len1-up.len_at_least) c.requires.apart

pub reopen_journals-requires-clause-out : goal.reopen_journals-requires-clause-out
reopen_journals-requires-clause-out g t c κs within = rest_open _ _ _ _ _ (first_and_rest _ _ c.store-item.is c.in-len1-up.len_at_least) (ap (λ (y : YardSeen). y.out) c.in-Ok.ensures.opened.same) c.requires.out

pub reopen_journals-requires-clause-kept : goal.reopen_journals-requires-clause-kept
reopen_journals-requires-clause-kept g t c κs within =
    let some : 1 ≤ length c.args.disks.items = omega arith in
    let more : 1 ≤ length c.args.settled.items = omega arith in
    rest_kept _ _ _ _ c.in-Ok.ensures.opened.same (λ told. (kept_first _ _ _ _ _ _ _ (first_and_rest _ _ c.store-item.is c.in-len1-up.len_at_least) (first_book g.Y.Disk.Disk.seen c.args.disks.items c.remove-disk.result _ c.remove-disk.ensures.value c.remove-disk.ensures.by_index.2 some) (c.requires.kept told)).1)

pub reopen_journals-requires-clause-ready : goal.reopen_journals-requires-clause-ready
reopen_journals-requires-clause-ready g t c κs within =
    let some : 1 ≤ length c.args.disks.items = omega arith in
    let more : 1 ≤ length c.args.settled.items = omega arith in
    (ready_first _ _ _ _ _ _ _ _ _ _ _ _ (first_and_rest _ _ c.store-item.is c.in-len1-up.len_at_least) (first_book g.Y.Disk.Disk.seen c.args.disks.items c.remove-disk.result _ c.remove-disk.ensures.value c.remove-disk.ensures.by_index.2 some) (first_and_rest _ _ c.one-item.is c.in-len1-up-found.len_at_least) (first_book items_of c.args.settled.items c.remove-entries.result _ c.remove-entries.ensures.value c.remove-entries.ensures.by_index.2 more) c.requires.ready).1

pub returns-in-Ok-clause-leaves : goal.returns-in-Ok-clause-leaves
returns-in-Ok-clause-leaves g t c = leaves_then _ _ _ c.reopen_one.ensures.leaves c.reopen_journals.ensures.leaves

pub returns-in-Ok-clause-opened : goal.returns-in-Ok-clause-opened
returns-in-Ok-clause-opened g t c =
    let some : 1 ≤ length c.args.disks.items = omega arith in
    let more : 1 ≤ length c.args.settled.items = omega arith in
    reopened_more _ _ _ _ _ _ _ _ _ _ _ _ _ (starts_first _ _ _ _ _ _ _ _ _ (first_and_rest _ _ c.store-item.is c.in-len1-up.len_at_least) (first_and_rest _ _ c.one-item.is c.in-len1-up-found.len_at_least) (first_book items_of c.args.settled.items c.remove-entries.result _ c.remove-entries.ensures.value c.remove-entries.ensures.by_index.2 more)) c.in-Ok.ensures.opened c.reopen_journals.ensures.opened

pub returns-in-Ok-clause-stops : goal.returns-in-Ok-clause-stops
returns-in-Ok-clause-stops g t c =
    let some : 1 ≤ length c.args.disks.items = omega arith in
    let more : 1 ≤ length c.args.settled.items = omega arith in
    ends_more _ _ _ _ _ _ _ _ _ _ _ _ _ _ _ _ (first_and_rest _ _ c.store-item.is c.in-len1-up.len_at_least) (starts_first _ _ _ _ _ _ _ _ _ (first_and_rest _ _ c.store-item.is c.in-len1-up.len_at_least) (first_and_rest _ _ c.one-item.is c.in-len1-up-found.len_at_least) (first_book items_of c.args.settled.items c.remove-entries.result _ c.remove-entries.ensures.value c.remove-entries.ensures.by_index.2 more)) c.in-Ok.ensures.opened c.reopen_journals.ensures.stops

pub returns-in-Ok-clause-their_disks : goal.returns-in-Ok-clause-their_disks
returns-in-Ok-clause-their_disks g t c =
    let some : 1 ≤ length c.args.disks.items = omega arith in
    disks_more _ _ _ _ _ _ (first_book g.Y.Disk.Disk.seen c.args.disks.items c.remove-disk.result _ c.remove-disk.ensures.value c.remove-disk.ensures.by_index.2 some) c.in-Ok.ensures.its_disk c.reopen_journals.ensures.their_disks

pub returns-in-Err-clause-their_disks : goal.returns-in-Err-clause-their_disks
returns-in-Err-clause-their_disks g t c =
    let some : 1 ≤ length c.args.disks.items = omega arith in
    disks_first _ _ _ _ _ (first_book g.Y.Disk.Disk.seen c.args.disks.items c.remove-disk.result _ c.remove-disk.ensures.value c.remove-disk.ensures.by_index.2 some) c.in-Err.ensures.at_most_its_disk

pub returns-in-Ok-clause-grows : goal.returns-in-Ok-clause-grows
returns-in-Ok-clause-grows g t c =
    let some : 1 ≤ length c.args.disks.items = omega arith in
    let more : 1 ≤ length c.args.settled.items = omega arith in
    grows_more _ _ _ _ _ _ (starts_first _ _ _ _ _ _ _ _ _ (first_and_rest _ _ c.store-item.is c.in-len1-up.len_at_least) (first_and_rest _ _ c.one-item.is c.in-len1-up-found.len_at_least) (first_book items_of c.args.settled.items c.remove-entries.result _ c.remove-entries.ensures.value c.remove-entries.ensures.by_index.2 more)) (ap (λ (y : YardSeen). y.disks) c.in-Ok.ensures.opened.same) c.reopen_journals.ensures.grows

pub returns-in-Ok-clause-stands : goal.returns-in-Ok-clause-stands
returns-in-Ok-clause-stands g t c none = stand_open seen_of c.args.books.now.items _ _ _ _ _ _ _ _ _ _ c.requires.ready (returns-in-Ok-clause-opened g t c) (returns-in-Ok-clause-stops g t c) none

pub returns-in-Err-clause-leaves : goal.returns-in-Err-clause-leaves
returns-in-Err-clause-leaves g t c = leaves_then _ _ _ c.reopen_one.ensures.leaves c.give_back.ensures.leaves

pub returns-in-Err-clause-stops : goal.returns-in-Err-clause-stops
returns-in-Err-clause-stops g t c =
    let some : 1 ≤ length c.args.disks.items = omega arith in
    let more : 1 ≤ length c.args.settled.items = omega arith in
    ends_here _ _ _ _ _ _ _ _ _ _ _ _ _ _ (first_and_rest _ _ c.store-item.is c.in-len1-up.len_at_least) (starts_first _ _ _ _ _ _ _ _ _ (first_and_rest _ _ c.store-item.is c.in-len1-up.len_at_least) (first_and_rest _ _ c.one-item.is c.in-len1-up-found.len_at_least) (first_book items_of c.args.settled.items c.remove-entries.result _ c.remove-entries.ensures.value c.remove-entries.ensures.by_index.2 more)) c.in-Err.ensures.stops
    (back_of_all _ _ (take (length c.args.stores.now - 1) (drop 1 c.args.stores.now)) c.remove-disk.new.self.items c.give_back.ensures.back (rest_long _ _ _ _ _ _ (first_and_rest _ _ c.store-item.is c.in-len1-up.len_at_least) (taken_out _ _ _ c.remove-disk.ensures.value c.remove-disk.ensures.by_index.2 some) c.requires.as_many.0))
    (c.give_back.ensures.same (still_first _ _ _ _ _ _ (first_and_rest _ _ c.store-item.is c.in-len1-up.len_at_least) c.requires.apart c.reopen_one.ensures.leaves c.in-Err.ensures.stops.others (λ told. (kept_first _ _ _ _ _ _ _ (first_and_rest _ _ c.store-item.is c.in-len1-up.len_at_least) (first_book g.Y.Disk.Disk.seen c.args.disks.items c.remove-disk.result _ c.remove-disk.ensures.value c.remove-disk.ensures.by_index.2 some) (c.requires.kept told)).1)))

pub returns-in-Err-clause-grows : goal.returns-in-Err-clause-grows
returns-in-Err-clause-grows g t c =
    let some : 1 ≤ length c.args.disks.items = omega arith in
    let more : 1 ≤ length c.args.settled.items = omega arith in
    grows_first _ _ _ _ _ _ (starts_first _ _ _ _ _ _ _ _ _ (first_and_rest _ _ c.store-item.is c.in-len1-up.len_at_least) (first_and_rest _ _ c.one-item.is c.in-len1-up-found.len_at_least) (first_book items_of c.args.settled.items c.remove-entries.result _ c.remove-entries.ensures.value c.remove-entries.ensures.by_index.2 more)) c.reopen_one.ensures.grows
    (c.give_back.ensures.same (still_first _ _ _ _ _ _ (first_and_rest _ _ c.store-item.is c.in-len1-up.len_at_least) c.requires.apart c.reopen_one.ensures.leaves c.in-Err.ensures.stops.others (λ told. (kept_first _ _ _ _ _ _ _ (first_and_rest _ _ c.store-item.is c.in-len1-up.len_at_least) (first_book g.Y.Disk.Disk.seen c.args.disks.items c.remove-disk.result _ c.remove-disk.ensures.value c.remove-disk.ensures.by_index.2 some) (c.requires.kept told)).1)))

pub returns-in-Err-clause-disk_quiet : goal.returns-in-Err-clause-disk_quiet
returns-in-Err-clause-disk_quiet g t c j m path =
    let some : 1 ≤ length c.args.disks.items = omega arith in
    let more : 1 ≤ length c.args.settled.items = omega arith in
    c.give_back.ensures.same (still_first _ _ _ _ _ _ (first_and_rest _ _ c.store-item.is c.in-len1-up.len_at_least) c.requires.apart c.reopen_one.ensures.leaves c.in-Err.ensures.stops.others (λ told. (kept_first _ _ _ _ _ _ _ (first_and_rest _ _ c.store-item.is c.in-len1-up.len_at_least) (first_book g.Y.Disk.Disk.seen c.args.disks.items c.remove-disk.result _ c.remove-disk.ensures.value c.remove-disk.ensures.by_index.2 some) (c.requires.kept told)).1)) path
    ∙ c.in-Err.ensures.disk_quiet j m path

pub returns-in-Err-clause-stands : goal.returns-in-Err-clause-stands
returns-in-Err-clause-stands g t c none =
    let some : 1 ≤ length c.args.disks.items = omega arith in
    let more : 1 ≤ length c.args.settled.items = omega arith in
    stand_stopped seen_of c.args.books.now.items _ c.in-Err.status _ _ _ _ _ _ _ _ c.requires.ready
    (ends_here _ _ _ _ _ _ _ _ _ _ _ _ _ _ (first_and_rest _ _ c.store-item.is c.in-len1-up.len_at_least) (starts_first _ _ _ _ _ _ _ _ _ (first_and_rest _ _ c.store-item.is c.in-len1-up.len_at_least) (first_and_rest _ _ c.one-item.is c.in-len1-up-found.len_at_least) (first_book items_of c.args.settled.items c.remove-entries.result _ c.remove-entries.ensures.value c.remove-entries.ensures.by_index.2 more)) c.in-Err.ensures.stops
    (back_of_all _ _ (take (length c.args.stores.now - 1) (drop 1 c.args.stores.now)) c.remove-disk.new.self.items c.give_back.ensures.back (rest_long _ _ _ _ _ _ (first_and_rest _ _ c.store-item.is c.in-len1-up.len_at_least) (taken_out _ _ _ c.remove-disk.ensures.value c.remove-disk.ensures.by_index.2 some) c.requires.as_many.0))
    (c.give_back.ensures.same (still_first _ _ _ _ _ _ (first_and_rest _ _ c.store-item.is c.in-len1-up.len_at_least) c.requires.apart c.reopen_one.ensures.leaves c.in-Err.ensures.stops.others (λ told. (kept_first _ _ _ _ _ _ _ (first_and_rest _ _ c.store-item.is c.in-len1-up.len_at_least) (first_book g.Y.Disk.Disk.seen c.args.disks.items c.remove-disk.result _ c.remove-disk.ensures.value c.remove-disk.ensures.by_index.2 some) (c.requires.kept told)).1))))
    none
