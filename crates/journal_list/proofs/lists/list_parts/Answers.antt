use Rattle.std.proofs.Common.{rules, ◌≡◌, List, length, Some, Ok, Err, sym, ap, ◌∙◌, subst}
use Rattle.vd_disk.specs.Disk.{DiskSeen}
use Rattle.key_state.specs.declared.entry.Entry.{Entry}
use Rattle.journal_layout.specs.Recovery.{IsWhole, log_of}
use Rattle.journal_recover.specs.Maps.{ReadsMap}
use Rattle.journal_recover.proofs.CameThrough.{came_through}
use Rattle.journal_list.specs.Lists.{AreUnused, FindsParts, FindsRecords, IsHandover}
use Rattle.journal_list.proofs.Listed.{log_refused, outside_after}
use Rattle.journal_list.proofs.lists.list_parts.Goals as goal

pub returns-in_err-records-clause-lists : goal.returns-in_err-records-clause-lists
returns-in_err-records-clause-lists g c = λ x told.
    let live = c.in_ok-live.live in
    let base = c.in_ok-base.base.items in
    let listed = c.read_records.new.kept.records.items in
    let why = c.in_err-records.field-0.0 in
    let first = c.in_ok-live.ensures.gives x told in
    let then : (g.D.Disk.seen c.wanted_gate.new.disk).told ≡ Some x = ap (λ (d : DiskSeen). d.told) c.wanted_gate.ensures.same ∙ told in
    let last : (g.D.Disk.seen c.area_map.new.disk).told ≡ Some x = ap (λ (d : DiskSeen). d.told) c.area_map.ensures.same ∙ then in
    let map : ReadsMap x live (Ok c.in_ok-base.base) = c.in_ok-base.ensures.reads x then in
    let whole : IsWhole x c.args.wanted.now live = record { is_live = first.0; is_wanted = first.1; has_room = map.0 } in
    let same : c.deref.result.now ≡ base = search rules in
    let finds : FindsRecords live base (log_of x live) listed (Err why) =
    subst (λ (es : List Entry). FindsRecords live es (log_of x live) listed (Err why)) same (c.in_err-records.ensures.reads x last) in
    let is = came_through c.from_residual-in_err-records.result why c.from_residual-in_err-records.ensures.1 in
    subst (FindsParts x c.args.wanted.now listed) (sym is) (log_refused x c.args.wanted.now live whole base map.1 listed why finds)

pub returns-in_err-unused-clause-lists : goal.returns-in_err-unused-clause-lists
returns-in_err-unused-clause-lists g c = λ x told.
    let live = c.in_ok-live.live in
    let base = c.in_ok-base.base.items in
    let listed = c.read_records.new.kept.records.items in
    let why = c.in_err-unused.field-0.0 in
    let first = c.in_ok-live.ensures.gives x told in
    let then : (g.D.Disk.seen c.wanted_gate.new.disk).told ≡ Some x = ap (λ (d : DiskSeen). d.told) c.wanted_gate.ensures.same ∙ told in
    let last : (g.D.Disk.seen c.area_map.new.disk).told ≡ Some x = ap (λ (d : DiskSeen). d.told) c.area_map.ensures.same ∙ then in
    let map : ReadsMap x live (Ok c.in_ok-base.base) = c.in_ok-base.ensures.reads x then in
    let whole : IsWhole x c.args.wanted.now live = record { is_live = first.0; is_wanted = first.1; has_room = map.0 } in
    let same : c.deref.result.now ≡ base = search rules in
    let finds : FindsRecords live base (log_of x live) listed (Ok c.in_ok-records.records) =
    subst (λ (es : List Entry). FindsRecords live es (log_of x live) listed (Ok c.in_ok-records.records)) same (c.in_ok-records.ensures.reads x last) in
    let is = came_through c.from_residual-in_err-unused.result why c.from_residual-in_err-unused.ensures.1 in
    subst (FindsParts x c.args.wanted.now listed) (sym is)
    (outside_after x c.args.wanted.now live whole base map.1 listed why c.in_err-unused.ensures.outside finds.0 finds.1.reads finds.3)

pub returns-in_err-handover-clause-lists : goal.returns-in_err-handover-clause-lists
returns-in_err-handover-clause-lists g c = λ x told.
    let live = c.in_ok-live.live in
    let base = c.in_ok-base.base.items in
    let listed = c.read_records.new.kept.records.items in
    let why = c.in_err-handover.field-0.0 in
    let first = c.in_ok-live.ensures.gives x told in
    let then : (g.D.Disk.seen c.wanted_gate.new.disk).told ≡ Some x = ap (λ (d : DiskSeen). d.told) c.wanted_gate.ensures.same ∙ told in
    let last : (g.D.Disk.seen c.area_map.new.disk).told ≡ Some x = ap (λ (d : DiskSeen). d.told) c.area_map.ensures.same ∙ then in
    let map : ReadsMap x live (Ok c.in_ok-base.base) = c.in_ok-base.ensures.reads x then in
    let whole : IsWhole x c.args.wanted.now live = record { is_live = first.0; is_wanted = first.1; has_room = map.0 } in
    let same : c.deref.result.now ≡ base = search rules in
    let finds : FindsRecords live base (log_of x live) listed (Ok c.in_ok-records.records) =
    subst (λ (es : List Entry). FindsRecords live es (log_of x live) listed (Ok c.in_ok-records.records)) same (c.in_ok-records.ensures.reads x last) in
    let is = came_through c.from_residual-in_err-handover.result why c.from_residual-in_err-handover.ensures.1 in
    subst (FindsParts x c.args.wanted.now listed) (sym is)
    (outside_after x c.args.wanted.now live whole base map.1 listed why c.in_err-handover.ensures.outside finds.0 finds.1.reads finds.3)

pub returns-clause-lists : goal.returns-clause-lists
returns-clause-lists g c = λ x told.
    let live = c.in_ok-live.live in
    let base = c.in_ok-base.base.items in
    let listed = c.read_records.new.kept.records.items in
    let n = c.in_ok-records.records in
    let first = c.in_ok-live.ensures.gives x told in
    let then : (g.D.Disk.seen c.wanted_gate.new.disk).told ≡ Some x = ap (λ (d : DiskSeen). d.told) c.wanted_gate.ensures.same ∙ told in
    let last : (g.D.Disk.seen c.area_map.new.disk).told ≡ Some x = ap (λ (d : DiskSeen). d.told) c.area_map.ensures.same ∙ then in
    let after : (g.D.Disk.seen c.read_records.new.disk).told ≡ Some x = ap (λ (d : DiskSeen). d.told) c.read_records.ensures.same ∙ last in
    let behind : (g.D.Disk.seen c.unused_sectors.new.disk).told ≡ Some x = ap (λ (d : DiskSeen). d.told) c.unused_sectors.ensures.same ∙ after in
    let map : ReadsMap x live (Ok c.in_ok-base.base) = c.in_ok-base.ensures.reads x then in
    let whole : IsWhole x c.args.wanted.now live = record { is_live = first.0; is_wanted = first.1; has_room = map.0 } in
    let same : c.deref.result.now ≡ base = search rules in
    let again : c.deref-2.result.now ≡ base = search rules in
    let finds : FindsRecords live base (log_of x live) listed (Ok n) =
    subst (λ (es : List Entry). FindsRecords live es (log_of x live) listed (Ok n)) same (c.in_ok-records.ensures.reads x last) in
    let unused : AreUnused x live (length finds.0) c.in_ok-unused.unused.items = subst (λ m. AreUnused x live m c.in_ok-unused.unused.items) (sym finds.2) (c.in_ok-unused.ensures.unused x after) in
    let handed : IsHandover x live base c.in_ok-handover.handover =
    subst (λ (es : List Entry). IsHandover x live es c.in_ok-handover.handover) again (c.in_ok-handover.ensures.gives x behind) in
    (whole, map.1, (finds.0, finds.1, finds.3, unused), handed)
