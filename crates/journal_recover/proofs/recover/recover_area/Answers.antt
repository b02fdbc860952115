use Rattle.std.proofs.Common.{rules, ◌≡◌, List, ◌++◌, take, drop, Some, None, Ok, length, sym, ap, ◌∙◌, subst, refl}
use Rattle.std.proofs.lemmas.List.{take_at}
use Rattle.vd_disk.specs.Disk.{DiskSeen}
use Rattle.key_state.specs.declared.entry.Entry.{Entry}
use Rattle.journal_layout.specs.Recovery.{log_of}
use Rattle.journal_recover.specs.Answers.{AreaGives}
use Rattle.journal_recover.specs.Logs.{ReadsAll}
use Rattle.journal_recover.specs.Maps.{ReadsMap}
use Rattle.journal_recover.proofs.recover.recover_area.Goals as goal

pub returns-clause-gives : goal.returns-clause-gives
returns-clause-gives g c = λ x told.
    let live = c.args.live.now in
    let n = c.in_ok-records.records in
    let then : (g.D.Disk.seen c.area_map.new.disk).told ≡ Some x = ap (λ (d : DiskSeen). d.told) c.area_map.ensures.same ∙ told in
    let map : ReadsMap x live (Ok c.in_ok-entries.entries) = c.in_ok-entries.ensures.reads x told in
    let same : c.deref_mut.result.now ≡ c.in_ok-entries.entries.items = search rules in
    let all : ReadsAll live c.in_ok-entries.entries.items (log_of x live) n c.area_log.new.entries None None =
    subst (λ (es : List Entry). ReadsAll live es (log_of x live) n c.area_log.new.entries None None) same (c.in_ok-records.ensures.reads x then) in
    let long : length c.area_log.new.entries ≡ c.in_ok-entries.entries.len = search rules in
    let back : take c.in_ok-entries.entries.len (c.area_log.new.entries ++ drop (length c.area_log.new.entries) c.in_ok-entries.entries.items) ≡ c.area_log.new.entries = take_at _ _ _ long in
    (refl, subst (λ (es : List Entry). AreaGives x live n es) (sym back) (map.0, (c.in_ok-entries.entries.items, map.1, all)))
