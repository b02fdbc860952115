use Rattle.run_totals.proofs.Wholes.{all_sources_stay, corrupt_are_bad, ends_have_causes, errors_are, faults_are_counted, fitting_stays, one_for_each, other_paths_stay, passes_come_back, reads_are_good, still_clocks, sure_dont_fail, writes_are_ends, writes_are_good}
use Rattle.run_totals.proofs.Works.{Laws}
use Rattle.slave_worker.specs.Sentences.{FaultsAreCounted, FaultsAreFound, NoMoreCorrupt, NotedOnce, ReadsAreGood, WritesAreEnded, WritesAreGood}
use Rattle.run_totals.proofs.law.run_adds_up.Goals as goal

-- what `turns_add_up` ensures, as far as it is needed
laws : WritesAreEnded → NoMoreCorrupt → ReadsAreGood → WritesAreGood → FaultsAreCounted → FaultsAreFound → NotedOnce → Laws
laws writes no_more reads good_writes faults findings notes = record {
  writes = writes;
  no_more = no_more;
  reads = reads;
  good_writes = good_writes;
  faults = faults;
  findings = findings;
  notes = notes;
}

pub returns-clause-writes : goal.returns-clause-writes
returns-clause-writes g c =
    let e = c.turns_add_up.ensures in
    writes_are_ends g.P.Pass.seen g.B.Book.seen (laws e.writes e.no_more e.reads e.good_writes e.faults e.findings e.notes)

pub returns-clause-reads : goal.returns-clause-reads
returns-clause-reads g c =
    let e = c.turns_add_up.ensures in
    reads_are_good g.P.Pass.seen g.B.Book.seen (laws e.writes e.no_more e.reads e.good_writes e.faults e.findings e.notes)

pub returns-clause-faults : goal.returns-clause-faults
returns-clause-faults g c =
    let e = c.turns_add_up.ensures in
    faults_are_counted g.P.Pass.seen g.B.Book.seen (laws e.writes e.no_more e.reads e.good_writes e.faults e.findings e.notes)

pub returns-clause-good_writes : goal.returns-clause-good_writes
returns-clause-good_writes g c =
    let e = c.turns_add_up.ensures in
    writes_are_good g.P.Pass.seen g.B.Book.seen (laws e.writes e.no_more e.reads e.good_writes e.faults e.findings e.notes)

pub returns-clause-corrupt : goal.returns-clause-corrupt
returns-clause-corrupt g c =
    let e = c.turns_add_up.ensures in
    corrupt_are_bad g.P.Pass.seen g.B.Book.seen (laws e.writes e.no_more e.reads e.good_writes e.faults e.findings e.notes)

pub returns-clause-fits : goal.returns-clause-fits
returns-clause-fits g c =
    let e = c.turns_add_up.ensures in
    fitting_stays g.P.Pass.seen g.B.Book.seen (laws e.writes e.no_more e.reads e.good_writes e.faults e.findings e.notes)

pub returns-clause-passes : goal.returns-clause-passes
returns-clause-passes g c =
    let e = c.turns_add_up.ensures in
    passes_come_back g.P.Pass.seen g.B.Book.seen (laws e.writes e.no_more e.reads e.good_writes e.faults e.findings e.notes)

pub returns-clause-others : goal.returns-clause-others
returns-clause-others g c = other_paths_stay g.P.Pass.seen g.B.Book.seen

pub returns-clause-sources : goal.returns-clause-sources
returns-clause-sources g c = all_sources_stay g.P.Pass.seen g.B.Book.seen

pub returns-clause-errors : goal.returns-clause-errors
returns-clause-errors g c =
    let e = c.turns_add_up.ensures in
    errors_are g.P.Pass.seen g.B.Book.seen (laws e.writes e.no_more e.reads e.good_writes e.faults e.findings e.notes)

pub returns-clause-one_each : goal.returns-clause-one_each
returns-clause-one_each g c = one_for_each g.P.Pass.seen g.B.Book.seen

pub returns-clause-ends : goal.returns-clause-ends
returns-clause-ends g c =
    let e = c.turns_add_up.ensures in
    ends_have_causes g.P.Pass.seen g.B.Book.seen (laws e.writes e.no_more e.reads e.good_writes e.faults e.findings e.notes)

pub returns-clause-still : goal.returns-clause-still
returns-clause-still g c = still_clocks g.P.Pass.seen g.B.Book.seen

pub returns-clause-sure : goal.returns-clause-sure
returns-clause-sure g c =
    let e = c.turns_add_up.ensures in
    sure_dont_fail g.P.Pass.seen g.B.Book.seen (laws e.writes e.no_more e.reads e.good_writes e.faults e.findings e.notes)
