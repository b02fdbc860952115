use Rattle.std.proofs.Common.{rules, inl, inr, subst}
use Rattle.vd_disk.specs.Disk.{WhenTold}
use Rattle.journal_layout.specs.declared.live.Live.{Live}
use Rattle.journal_core.specs.Changes.{Changed}
use Rattle.journal_core.specs.Keeps.{next_of}
use Rattle.journal_core.specs.Writes.{ClearsBoth, ClearsLog, HasNoLater, Begins}
use Rattle.journal_core.proofs.Changes.{changed_wider}
use Rattle.journal_core.proofs.Clearing.{cleared_both, none_later}
use Rattle.journal_core.proofs.device.reopen.Goals as goal

pub returns-in_err-clear_later-clause-reopens : goal.returns-in_err-clear_later-clause-reopens
returns-in_err-clear_later-clause-reopens g c =
    let met = g.met.D.Disk in
    let live = c.args.live.now in
    let start = g.D.Disk.seen c.args.disk.now in
    let one = g.D.Disk.seen c.clear_later.new.disk in
    let is : Changed (ClearsLog live live.epoch start.told) start one = c.clear_later.ensures.changed in
    let both : Changed (ClearsBoth live start.told) start one = changed_wider (ClearsLog live live.epoch start.told) (ClearsBoth live start.told) start one (λ i content put. inl put) is in
    inr (both, search rules)

pub returns-in_err-clear_later-2-clause-reopens : goal.returns-in_err-clear_later-2-clause-reopens
returns-in_err-clear_later-2-clause-reopens g c =
    let met = g.met.D.Disk in
    let live = c.args.live.now in
    let start = g.D.Disk.seen c.args.disk.now in
    let one = g.D.Disk.seen c.clear_later.new.disk in
    let two = g.D.Disk.seen c.clear_later-2.new.disk in
    let second : Changed (ClearsLog (next_of live) live.epoch one.told) one two = subst (λ (n : Live). Changed (ClearsLog n live.epoch one.told) one two) c.requires.after c.clear_later-2.ensures.changed in
    inr (cleared_both live start one two c.requires.room (met.is_tale c.args.disk.now) (met.is_tale c.clear_later.new.disk) c.clear_later.ensures.changed second, search rules)

pub returns-clause-reopens : goal.returns-clause-reopens
returns-clause-reopens g c =
    let met = g.met.D.Disk in
    let live = c.args.live.now in
    let start = g.D.Disk.seen c.args.disk.now in
    let one = g.D.Disk.seen c.clear_later.new.disk in
    let two = g.D.Disk.seen c.clear_later-2.new.disk in
    let new = g.D.Disk.seen c.begin_epoch.new.disk in
    let second : Changed (ClearsLog (next_of live) live.epoch one.told) one two = subst (λ (n : Live). Changed (ClearsLog n live.epoch one.told) one two) c.requires.after c.clear_later-2.ensures.changed in
    let there = subst (λ (n : Live). WhenTold two.told (HasNoLater n live.epoch n.log_sectors)) c.requires.after c.in_ok-clear_later-2.ensures.cleared in
    let tale = met.is_tale c.args.disk.now in
    let tale_one = met.is_tale c.clear_later.new.disk in
    inl (
      two,
      met.is_tale c.clear_later-2.new.disk,
      cleared_both live start one two c.requires.room tale tale_one c.clear_later.ensures.changed second,
      none_later live start one two c.requires.room tale tale_one c.clear_later.ensures.changed second c.in_ok-clear_later.ensures.cleared there,
      subst (λ (n : Live). Begins n c.args.entries.now two new c.begin_epoch.result) c.requires.after c.begin_epoch.ensures.begins,
    )
