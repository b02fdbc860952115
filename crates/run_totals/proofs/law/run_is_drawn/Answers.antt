use Rattle.run_totals.proofs.Drawn.{all_turns, one_worker, still_all, totals_drawn, turns_few}
use Rattle.run_totals.proofs.Draws.{DrawLaws}
use Rattle.run_totals.proofs.Works.{Laws}
use Rattle.slave_worker.specs.Drawn.{AllTurnsAddUp, BadSkipsAreNone, BlocksAreUsed, NoMoreThanDrawn, OneBlockTurnsAddUp, OneWorkerDoesItsDraw, OneWorkerIsNeverBusy, RereadsAreWrites, StillRunsMakeAllTurns, TurnsAreDrawn, TurnsAreFew}
use Rattle.slave_worker.specs.Sentences.{FaultsAreCounted, FaultsAreFound, NoMoreCorrupt, NotedOnce, ReadsAreGood, WritesAreEnded, WritesAreGood}
use Rattle.run_totals.proofs.law.run_is_drawn.Goals as goal

-- what `turns_add_up` and `draws_add_up` ensure, as far as it is needed
laws : WritesAreEnded → NoMoreCorrupt → ReadsAreGood → WritesAreGood → FaultsAreCounted → FaultsAreFound → NotedOnce → Laws
laws writes no_more reads good_writes faults findings notes = record {
  writes = writes;
  no_more = no_more;
  reads = reads;
  good_writes = good_writes;
  faults = faults;
  findings = findings;
  notes = notes;
}

draws : TurnsAreDrawn → TurnsAreFew → StillRunsMakeAllTurns → AllTurnsAddUp → RereadsAreWrites → OneBlockTurnsAddUp → NoMoreThanDrawn → OneWorkerIsNeverBusy → OneWorkerDoesItsDraw → BadSkipsAreNone → BlocksAreUsed → DrawLaws
draws drawn few still all_turns rereads one_block no_more never_busy whole_draw no_badskips used = record {
  drawn = drawn;
  few = few;
  still = still;
  all_turns = all_turns;
  rereads = rereads;
  one_block = one_block;
  no_more = no_more;
  never_busy = never_busy;
  whole_draw = whole_draw;
  no_badskips = no_badskips;
  used = used;
}

pub returns-clause-drawn : goal.returns-clause-drawn
returns-clause-drawn g c =
    let e = c.turns_add_up.ensures in
    let d = c.draws_add_up.ensures in
    totals_drawn g.P.Pass.seen g.B.Book.seen (laws e.writes e.no_more e.reads e.good_writes e.faults e.findings e.notes)
    (draws d.drawn d.few d.still d.all_turns d.rereads d.one_block d.no_more d.never_busy d.whole_draw d.no_badskips d.used)

pub returns-clause-one_worker : goal.returns-clause-one_worker
returns-clause-one_worker g c =
    let e = c.turns_add_up.ensures in
    let d = c.draws_add_up.ensures in
    one_worker g.P.Pass.seen g.B.Book.seen (laws e.writes e.no_more e.reads e.good_writes e.faults e.findings e.notes)
    (draws d.drawn d.few d.still d.all_turns d.rereads d.one_block d.no_more d.never_busy d.whole_draw d.no_badskips d.used)

pub returns-clause-few : goal.returns-clause-few
returns-clause-few g c =
    let e = c.turns_add_up.ensures in
    let d = c.draws_add_up.ensures in
    turns_few g.P.Pass.seen g.B.Book.seen (laws e.writes e.no_more e.reads e.good_writes e.faults e.findings e.notes)
    (draws d.drawn d.few d.still d.all_turns d.rereads d.one_block d.no_more d.never_busy d.whole_draw d.no_badskips d.used)

pub returns-clause-all_turns : goal.returns-clause-all_turns
returns-clause-all_turns g c =
    let e = c.turns_add_up.ensures in
    let d = c.draws_add_up.ensures in
    all_turns g.P.Pass.seen g.B.Book.seen (laws e.writes e.no_more e.reads e.good_writes e.faults e.findings e.notes)
    (draws d.drawn d.few d.still d.all_turns d.rereads d.one_block d.no_more d.never_busy d.whole_draw d.no_badskips d.used)

pub returns-clause-still : goal.returns-clause-still
returns-clause-still g c =
    let e = c.turns_add_up.ensures in
    let d = c.draws_add_up.ensures in
    still_all g.P.Pass.seen g.B.Book.seen (laws e.writes e.no_more e.reads e.good_writes e.faults e.findings e.notes)
    (draws d.drawn d.few d.still d.all_turns d.rereads d.one_block d.no_more d.never_busy d.whole_draw d.no_badskips d.used)
