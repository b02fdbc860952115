use Rattle.std.proofs.Common.{◌≡◌, ◌+◌, ◌-◌, List, replicate, ap, subst, arith}
use Rattle.key_state.specs.declared.entry.Entry.{Entry}
use Rattle.key_state.specs.declared.entry.Entry.TheVariants.{Settled}
use Rattle.vd_disk.specs.Disk.{DiskSeen, WhenTold}
use Rattle.journal_layout.specs.Recovery.{blocks_of, journal_end}
use Rattle.journal_core.specs.Changes.{Changed}
use Rattle.journal_core.specs.Writes.{IsNew, IsNotLive, IsSynced, IsZeroIn, ReadsGate, ReadsZero}
use Rattle.journal_core.proofs.Opened.{rest_zero, ok_more}
use Rattle.journal_core.proofs.GoingOn.{goes_gate, goes_same, goes_then, goes_zeros}
use Rattle.journal_core.proofs.Making.{opens_from, told_from, first_gone, second_gone, third_gone, all_made}
use Rattle.journal_core.proofs.device.make_new.Goals as goal

pub returns-clause-made : goal.returns-clause-made
returns-clause-made g c =
    let met = g.met.D.Disk in
    let live = c.args.live.now in
    let start = g.D.Disk.seen c.args.disk.now in
    let mid = g.D.Disk.seen c.first_to_go.new.disk in
    let one = g.D.Disk.seen c.zero_between.new.disk in
    let two = g.D.Disk.seen c.zero_between-2.new.disk in
    let three = g.D.Disk.seen c.zero_between-3.new.disk in
    let four = g.D.Disk.seen c.write_gate.new.disk in
    let end = c.end_of_journal.ensures.value in
    let sizes : mid.sectors ≡ start.sectors = ap (λ (d : DiskSeen). d.sectors) c.first_to_go.ensures.same in
    let size_one : one.sectors ≡ mid.sectors = c.zero_between.ensures.changed.sectors in
    let third : Changed (IsZeroIn 2 (journal_end live)) two three = subst (λ n. Changed (IsZeroIn 2 n) two three) end c.zero_between-3.ensures.changed in
    let third_is : IsSynced three (ReadsZero 2 (journal_end live)) = subst (λ n. IsSynced three (ReadsZero 2 n)) end c.in_ok-zero_between-3.ensures.synced in
    ok_more c.write_gate.result (IsSynced four (ReadsGate live)) (IsSynced four (IsNew live))
    (λ synced t told. (
      (synced t told).0,
      (
        (synced t told).1,
        rest_zero one two three four c.in_ok-first.first live (journal_end live) c.requires.first c.in_ok-first.ensures.area
            (omega (arith, sizes, size_one, c.requires.room)) (omega (arith, sizes, size_one, c.requires.room)) (met.is_tale c.zero_between.new.disk) c.in_ok-zero_between.ensures.synced
            c.zero_between-2.ensures.changed c.in_ok-zero_between-2.ensures.synced third third_is c.write_gate.ensures.changed t told,
      ),
    ))
    c.write_gate.ensures.synced

pub returns-in_err-zero_between-clause-opens : goal.returns-in_err-zero_between-clause-opens
returns-in_err-zero_between-clause-opens g c =
    let met = g.met.D.Disk in
    let live = c.args.live.now in
    let entries : List Entry = replicate (blocks_of live) (Settled 0) in
    let start = g.D.Disk.seen c.args.disk.now in
    let mid = g.D.Disk.seen c.first_to_go.new.disk in
    let one = g.D.Disk.seen c.zero_between.new.disk in
    let same = c.first_to_go.ensures.same in
    let sizes : mid.sectors ≡ start.sectors = ap (λ (d : DiskSeen). d.sectors) same in
    let not_live : WhenTold mid.told (IsNotLive c.in_ok-first.first) = told_from start mid (IsNotLive c.in_ok-first.first) same c.in_ok-first.ensures.not_live in
    opens_from live entries start mid one.moments same
    (λ s told rests m image since at.
    first_gone live s c.in_ok-first.first mid one c.requires.first c.in_ok-first.ensures.area (not_live s told) told (met.is_tale c.first_to_go.new.disk s told) rests (omega (arith, sizes, c.requires.room)) c.zero_between.ensures.changed m image since at)

pub returns-in_err-zero_between-2-clause-opens : goal.returns-in_err-zero_between-2-clause-opens
returns-in_err-zero_between-2-clause-opens g c =
    let met = g.met.D.Disk in
    let live = c.args.live.now in
    let entries : List Entry = replicate (blocks_of live) (Settled 0) in
    let start = g.D.Disk.seen c.args.disk.now in
    let mid = g.D.Disk.seen c.first_to_go.new.disk in
    let one = g.D.Disk.seen c.zero_between.new.disk in
    let same = c.first_to_go.ensures.same in
    let sizes : mid.sectors ≡ start.sectors = ap (λ (d : DiskSeen). d.sectors) same in
    let not_live : WhenTold mid.told (IsNotLive c.in_ok-first.first) = told_from start mid (IsNotLive c.in_ok-first.first) same c.in_ok-first.ensures.not_live in
    let two = g.D.Disk.seen c.zero_between-2.new.disk in
    opens_from live entries start mid two.moments same
    (λ s told rests m image since at.
    second_gone live s c.in_ok-first.first mid one c.requires.first c.in_ok-first.ensures.area (not_live s told) told (met.is_tale c.first_to_go.new.disk s told) rests (omega (arith, sizes, c.requires.room)) c.zero_between.ensures.changed two c.in_ok-zero_between.ensures.synced (met.is_tale c.zero_between.new.disk) c.zero_between-2.ensures.changed m image since at)

pub returns-in_err-zero_between-3-clause-opens : goal.returns-in_err-zero_between-3-clause-opens
returns-in_err-zero_between-3-clause-opens g c =
    let met = g.met.D.Disk in
    let live = c.args.live.now in
    let entries : List Entry = replicate (blocks_of live) (Settled 0) in
    let start = g.D.Disk.seen c.args.disk.now in
    let mid = g.D.Disk.seen c.first_to_go.new.disk in
    let one = g.D.Disk.seen c.zero_between.new.disk in
    let same = c.first_to_go.ensures.same in
    let sizes : mid.sectors ≡ start.sectors = ap (λ (d : DiskSeen). d.sectors) same in
    let not_live : WhenTold mid.told (IsNotLive c.in_ok-first.first) = told_from start mid (IsNotLive c.in_ok-first.first) same c.in_ok-first.ensures.not_live in
    let two = g.D.Disk.seen c.zero_between-2.new.disk in
    let three = g.D.Disk.seen c.zero_between-3.new.disk in
    opens_from live entries start mid three.moments same
    (λ s told rests m image since at.
    third_gone live s c.in_ok-first.first mid one c.requires.first c.in_ok-first.ensures.area (not_live s told) told (met.is_tale c.first_to_go.new.disk s told) rests (omega (arith, sizes, c.requires.room)) c.zero_between.ensures.changed two c.in_ok-zero_between.ensures.synced (met.is_tale c.zero_between.new.disk) c.zero_between-2.ensures.changed three c.end_of_journal.result c.in_ok-zero_between-2.ensures.synced (met.is_tale c.zero_between-2.new.disk) c.zero_between-3.ensures.changed m image since at)

pub returns-clause-opens : goal.returns-clause-opens
returns-clause-opens g c =
    let met = g.met.D.Disk in
    let live = c.args.live.now in
    let entries : List Entry = replicate (blocks_of live) (Settled 0) in
    let start = g.D.Disk.seen c.args.disk.now in
    let mid = g.D.Disk.seen c.first_to_go.new.disk in
    let one = g.D.Disk.seen c.zero_between.new.disk in
    let same = c.first_to_go.ensures.same in
    let sizes : mid.sectors ≡ start.sectors = ap (λ (d : DiskSeen). d.sectors) same in
    let not_live : WhenTold mid.told (IsNotLive c.in_ok-first.first) = told_from start mid (IsNotLive c.in_ok-first.first) same c.in_ok-first.ensures.not_live in
    let two = g.D.Disk.seen c.zero_between-2.new.disk in
    let three = g.D.Disk.seen c.zero_between-3.new.disk in
    let four = g.D.Disk.seen c.write_gate.new.disk in
    opens_from live entries start mid four.moments same
    (λ s told rests m image since at.
    all_made live s c.in_ok-first.first mid one c.requires.first c.in_ok-first.ensures.area (not_live s told) told (met.is_tale c.first_to_go.new.disk s told) rests (omega (arith, sizes, c.requires.room)) c.zero_between.ensures.changed two c.in_ok-zero_between.ensures.synced (met.is_tale c.zero_between.new.disk) c.zero_between-2.ensures.changed three c.end_of_journal.result c.in_ok-zero_between-2.ensures.synced (met.is_tale c.zero_between-2.new.disk) c.zero_between-3.ensures.changed four c.end_of_journal.ensures.value c.in_ok-zero_between-3.ensures.synced (met.is_tale c.zero_between-3.new.disk) c.write_gate.ensures.changed m image since at)

pub returns-in_err-first-clause-goes_on : goal.returns-in_err-first-clause-goes_on
returns-in_err-first-clause-goes_on g c =
    let met = g.met.D.Disk in
    let live = c.args.live.now in
    let end = journal_end live in
    let start = g.D.Disk.seen c.args.disk.now in
    let mid = g.D.Disk.seen c.first_to_go.new.disk in
    let zero = goes_same end start mid (met.is_tale c.args.disk.now) c.first_to_go.ensures.same c.first_to_go.ensures.cause.later in
    zero

pub returns-in_err-zero_between-clause-goes_on : goal.returns-in_err-zero_between-clause-goes_on
returns-in_err-zero_between-clause-goes_on g c =
    let met = g.met.D.Disk in
    let live = c.args.live.now in
    let end = journal_end live in
    let start = g.D.Disk.seen c.args.disk.now in
    let mid = g.D.Disk.seen c.first_to_go.new.disk in
    let zero = goes_same end start mid (met.is_tale c.args.disk.now) c.first_to_go.ensures.same c.first_to_go.ensures.cause.later in
    let one = g.D.Disk.seen c.zero_between.new.disk in
    let first = c.in_ok-first.first in
    let small = c.in_ok-first.ensures.area in
    let to_one = goes_then end start mid one zero (goes_zeros end first (first + 1) mid one (omega (arith, small)) c.zero_between.ensures.changed) in
    to_one

pub returns-in_err-zero_between-2-clause-goes_on : goal.returns-in_err-zero_between-2-clause-goes_on
returns-in_err-zero_between-2-clause-goes_on g c =
    let met = g.met.D.Disk in
    let live = c.args.live.now in
    let end = journal_end live in
    let start = g.D.Disk.seen c.args.disk.now in
    let mid = g.D.Disk.seen c.first_to_go.new.disk in
    let zero = goes_same end start mid (met.is_tale c.args.disk.now) c.first_to_go.ensures.same c.first_to_go.ensures.cause.later in
    let one = g.D.Disk.seen c.zero_between.new.disk in
    let first = c.in_ok-first.first in
    let small = c.in_ok-first.ensures.area in
    let to_one = goes_then end start mid one zero (goes_zeros end first (first + 1) mid one (omega (arith, small)) c.zero_between.ensures.changed) in
    let two = g.D.Disk.seen c.zero_between-2.new.disk in
    let to_two = goes_then end start one two to_one (goes_zeros end (1 - first) (2 - first) one two (omega arith) c.zero_between-2.ensures.changed) in
    to_two

pub returns-in_err-zero_between-3-clause-goes_on : goal.returns-in_err-zero_between-3-clause-goes_on
returns-in_err-zero_between-3-clause-goes_on g c =
    let met = g.met.D.Disk in
    let live = c.args.live.now in
    let end = journal_end live in
    let start = g.D.Disk.seen c.args.disk.now in
    let mid = g.D.Disk.seen c.first_to_go.new.disk in
    let zero = goes_same end start mid (met.is_tale c.args.disk.now) c.first_to_go.ensures.same c.first_to_go.ensures.cause.later in
    let one = g.D.Disk.seen c.zero_between.new.disk in
    let first = c.in_ok-first.first in
    let small = c.in_ok-first.ensures.area in
    let to_one = goes_then end start mid one zero (goes_zeros end first (first + 1) mid one (omega (arith, small)) c.zero_between.ensures.changed) in
    let two = g.D.Disk.seen c.zero_between-2.new.disk in
    let to_two = goes_then end start one two to_one (goes_zeros end (1 - first) (2 - first) one two (omega arith) c.zero_between-2.ensures.changed) in
    let three = g.D.Disk.seen c.zero_between-3.new.disk in
    let is_end = c.end_of_journal.ensures.value in
    let to_three = goes_then end start two three to_two (goes_zeros end 2 c.end_of_journal.result two three (omega (arith, is_end)) c.zero_between-3.ensures.changed) in
    to_three

pub returns-clause-goes_on : goal.returns-clause-goes_on
returns-clause-goes_on g c =
    let met = g.met.D.Disk in
    let live = c.args.live.now in
    let end = journal_end live in
    let start = g.D.Disk.seen c.args.disk.now in
    let mid = g.D.Disk.seen c.first_to_go.new.disk in
    let zero = goes_same end start mid (met.is_tale c.args.disk.now) c.first_to_go.ensures.same c.first_to_go.ensures.cause.later in
    let one = g.D.Disk.seen c.zero_between.new.disk in
    let first = c.in_ok-first.first in
    let small = c.in_ok-first.ensures.area in
    let to_one = goes_then end start mid one zero (goes_zeros end first (first + 1) mid one (omega (arith, small)) c.zero_between.ensures.changed) in
    let two = g.D.Disk.seen c.zero_between-2.new.disk in
    let to_two = goes_then end start one two to_one (goes_zeros end (1 - first) (2 - first) one two (omega arith) c.zero_between-2.ensures.changed) in
    let three = g.D.Disk.seen c.zero_between-3.new.disk in
    let is_end = c.end_of_journal.ensures.value in
    let to_three = goes_then end start two three to_two (goes_zeros end 2 c.end_of_journal.result two three (omega (arith, is_end)) c.zero_between-3.ensures.changed) in
    let four = g.D.Disk.seen c.write_gate.new.disk in
    goes_then end start three four to_three (goes_gate live three four c.write_gate.ensures.changed)
