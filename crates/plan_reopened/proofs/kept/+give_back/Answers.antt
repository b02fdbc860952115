use Rattle.std.proofs.Common.{◌≤◌, length, arith}
use Rattle.std.proofs.lemmas.List.{length-map}
use Rattle.plan_journals.proofs.Closings.{first_book, first_is_out, no_book, none_out, rest_before, rest_is_out, taken_out}
use Rattle.plan_journals.proofs.Growing.{leaves_then}
use Rattle.plan_journals.proofs.Places.{first_and_rest}
use Rattle.plan_reopened.proofs.Keeping.{all_others, all_same, keep_more, keep_none, leaves_given}
use Rattle.plan_reopened.proofs.kept.+give_back.Goals as goal

pub returns-then-len-eq0-clause-back : goal.returns-then-len-eq0-clause-back
returns-then-len-eq0-clause-back g t c before is = none_out _ _ _ (length c.args.disks.items) (omega arith) is

pub returns-then-len-eq0-clause-disks : goal.returns-then-len-eq0-clause-disks
returns-then-len-eq0-clause-disks g t c = keep_none _ _ _ _ (no_book _ c.args.disks.items (omega arith))

pub keep_disk-requires : goal.keep_disk-requires
keep_disk-requires g t c =
    let some : 1 ≤ length c.args.disks.items = omega arith in
    first_is_out _ _ _ _ _ c.remove-disk.result _ (first_and_rest _ _ c.store-item.is c.in-len1-up.len_at_least) (taken_out _ _ _ c.remove-disk.ensures.value c.remove-disk.ensures.by_index.2 some) c.requires.out

pub give_back-requires-clause-out : goal.give_back-requires-clause-out
give_back-requires-clause-out g t c κs within =
    let some : 1 ≤ length c.args.disks.items = omega arith in
    rest_is_out _ _ _ _ _ _ c.remove-disk.result _ (first_and_rest _ _ c.store-item.is c.in-len1-up.len_at_least) (taken_out _ _ _ c.remove-disk.ensures.value c.remove-disk.ensures.by_index.2 some) c.keep_disk.ensures.back.out c.requires.out

pub returns-clause-leaves : goal.returns-clause-leaves
returns-clause-leaves g t c = leaves_then _ _ _ (leaves_given _ _ _ _ c.keep_disk.ensures.back c.keep_disk.ensures.counts c.keep_disk.ensures.contents) c.give_back.ensures.leaves

pub returns-clause-back : goal.returns-clause-back
returns-clause-back g t c before is =
    let some : 1 ≤ length c.args.disks.items = omega arith in
    c.give_back.ensures.back before
    (rest_before _ _ before _ _ _ _ c.remove-disk.result _ (first_and_rest _ _ c.store-item.is c.in-len1-up.len_at_least) (taken_out _ _ _ c.remove-disk.ensures.value c.remove-disk.ensures.by_index.2 some) c.keep_disk.ensures.back.out is)

pub returns-clause-disks : goal.returns-clause-disks
returns-clause-disks g t c =
    let some : 1 ≤ length c.args.disks.items = omega arith in
    keep_more _ _ _ _ _ _ _ _ _ _ _ (first_and_rest _ _ c.store-item.is c.in-len1-up.len_at_least) (first_book _ _ _ _ c.remove-disk.ensures.value c.remove-disk.ensures.by_index.2 some) c.keep_disk.ensures.back.tells c.keep_disk.ensures.disks c.give_back.ensures.disks

pub returns-clause-others : goal.returns-clause-others
returns-clause-others g t c path others = all_others g.Y.Disk.Disk.seen c.args.disks.items _ _ _ _ (length-map c.args.disks.items g.Y.Disk.Disk.seen) (returns-clause-disks g t c) path others

pub returns-clause-same : goal.returns-clause-same
returns-clause-same g t c kept path = all_same _ _ _ _ _ (returns-clause-disks g t c) kept path
