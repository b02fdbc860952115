use Rattle.std.proofs.Common.{rules, ◌≡◌, None, Some, Ok, ap, ◌∙◌, subst}
use Rattle.vd_disk.specs.Disk.{DiskSeen}
use Rattle.journal_recover.specs.Answers.{FindsArea}
use Rattle.journal_list.specs.Lists.{IsBefore, FindsBefore, differing}
use Rattle.journal_list.proofs.Area.{no_area}
use Rattle.journal_list.proofs.before.handover.Goals as goal

pub returns-in_default-clause-gives : goal.returns-in_default-clause-gives
returns-in_default-clause-gives g c = λ x told other many there before gives.
    let none : FindsBefore x c.args.live.now None = subst (FindsBefore x c.args.live.now) c.in_default.is (c.in_ok-before.ensures.gives x told) in
    none other before

pub returns-in-Ok-clause-gives : goal.returns-in-Ok-clause-gives
returns-in-Ok-clause-gives g c = λ x told.
    let live = c.args.live.now in
    let other = c.in-Some.before in
    let then : (g.D.Disk.seen c.gate_before.new.disk).told ≡ Some x = ap (λ (d : DiskSeen). d.told) c.gate_before.ensures.same ∙ told in
    let before : IsBefore x live other = subst (FindsBefore x live) c.in-Some.is (c.in_ok-before.ensures.gives x told) in
    let finds : FindsArea x other (Ok c.in-Ok.found) = c.in-Ok.ensures.gives x then in
    let same : c.deref.result.now ≡ c.in-Ok.found.entries.items = search rules in
    let many : c.count_differing.result ≡ differing c.args.base.now c.in-Ok.found.entries.items = c.count_differing.ensures ∙ ap (differing c.args.base.now) same in
    (other, c.in-Ok.found.records, c.in-Ok.found.entries.items, before, finds.1, many)

pub returns-else-is_outside-clause-gives : goal.returns-else-is_outside-clause-gives
returns-else-is_outside-clause-gives g c = λ x told.
    let live = c.args.live.now in
    let other = c.in-Some.before in
    let then : (g.D.Disk.seen c.gate_before.new.disk).told ≡ Some x = ap (λ (d : DiskSeen). d.told) c.gate_before.ensures.same ∙ told in
    let before : IsBefore x live other = subst (FindsBefore x live) c.in-Some.is (c.in_ok-before.ensures.gives x told) in
    no_area x live other c.in-Err.why before (c.in-Err.ensures.gives x then) (search rules)
