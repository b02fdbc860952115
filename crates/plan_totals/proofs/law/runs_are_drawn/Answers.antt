use Rattle.std.specs.Prelude.{◌≡◌, ℕ, List, Some, length}
use Rattle.vd_arm.specs.Arm.{PassSeen}
use Rattle.key_state.specs.declared.seen.BookSeen.{BookSeen}
use Rattle.run_totals.specs.Sentences.{CorruptAreBad, ErrorsAreFindings, FaultsAreArmFaults, FittingStaysSo, OneForEach, OtherPathsStay, PassesComeBack, ReadsAreGoodReads, SureArmsDontFail, WritesAreEnds, WritesAreGoodWrites}
use Rattle.run_totals.specs.Drawn.{AllTurnsAddUp, OneWorkerDoesItsDraw, StillRunsMakeAllTurns, TotalsAreDrawn, TurnsAreFew}
use Rattle.plan_totals.proofs.Drawn.{lines_are_drawn, slaves_tell, still_runs}
use Rattle.plan_totals.proofs.Lines.{RunDraws}
use Rattle.plan_totals.proofs.Running.{RunLaws}
use Rattle.plan_totals.proofs.law.runs_are_drawn.Goals as goal

-- what `run_adds_up` ensures, as far as it is needed
laws : {P B : Type 0} (pass_seen : P → PassSeen) (book_seen : B → BookSeen) → WritesAreEnds pass_seen book_seen → ReadsAreGoodReads pass_seen book_seen → FaultsAreArmFaults pass_seen book_seen → WritesAreGoodWrites pass_seen book_seen → CorruptAreBad pass_seen book_seen
    → FittingStaysSo pass_seen book_seen → PassesComeBack pass_seen book_seen → OtherPathsStay pass_seen book_seen → ErrorsAreFindings pass_seen book_seen → OneForEach pass_seen book_seen → SureArmsDontFail pass_seen book_seen → ((pass : P) (bytes : List ℕ) → (pass_seen pass).told ≡ Some bytes → length bytes ≡ (pass_seen pass).size) → RunLaws pass_seen book_seen
laws pass_seen book_seen writes reads faults good_writes corrupt fits passes others errors one_each sure sizes = record {
  writes = writes;
  reads = reads;
  faults = faults;
  good_writes = good_writes;
  corrupt = corrupt;
  fits = fits;
  passes = passes;
  others = others;
  errors = errors;
  one_each = one_each;
  sure = sure;
  sizes = sizes;
}

-- and what `run_is_drawn` does
draws : {P B : Type 0} (pass_seen : P → PassSeen) (book_seen : B → BookSeen) → TotalsAreDrawn pass_seen book_seen → OneWorkerDoesItsDraw pass_seen book_seen → TurnsAreFew pass_seen book_seen → AllTurnsAddUp pass_seen book_seen → StillRunsMakeAllTurns pass_seen book_seen → RunDraws pass_seen book_seen
draws pass_seen book_seen drawn one_worker few all_turns still = record {
  drawn = drawn;
  one_worker = one_worker;
  few = few;
  all_turns = all_turns;
  still = still;
}

pub returns-clause-drawn : goal.returns-clause-drawn
returns-clause-drawn g c =
    let e = c.run_adds_up.ensures in
    let d = c.run_is_drawn.ensures in
    lines_are_drawn g.P.Pass.seen g.B.Book.seen (laws g.P.Pass.seen g.B.Book.seen e.writes e.reads e.faults e.good_writes e.corrupt e.fits e.passes e.others e.errors e.one_each e.sure (g.met.P.Pass g.world.𝓛 g.world.𝓜 g.world.𝓡 ((λ s x. x), (λ x. x), (λ x. x), λ x. x)).as_many)
    (draws g.P.Pass.seen g.B.Book.seen d.drawn d.one_worker d.few d.all_turns d.still)

pub returns-clause-turns : goal.returns-clause-turns
returns-clause-turns g c =
    let e = c.run_adds_up.ensures in
    let d = c.run_is_drawn.ensures in
    slaves_tell g.P.Pass.seen g.B.Book.seen (laws g.P.Pass.seen g.B.Book.seen e.writes e.reads e.faults e.good_writes e.corrupt e.fits e.passes e.others e.errors e.one_each e.sure (g.met.P.Pass g.world.𝓛 g.world.𝓜 g.world.𝓡 ((λ s x. x), (λ x. x), (λ x. x), λ x. x)).as_many)
    (draws g.P.Pass.seen g.B.Book.seen d.drawn d.one_worker d.few d.all_turns d.still)

pub returns-clause-still : goal.returns-clause-still
returns-clause-still g c =
    let e = c.run_adds_up.ensures in
    let d = c.run_is_drawn.ensures in
    still_runs g.P.Pass.seen g.B.Book.seen (laws g.P.Pass.seen g.B.Book.seen e.writes e.reads e.faults e.good_writes e.corrupt e.fits e.passes e.others e.errors e.one_each e.sure (g.met.P.Pass g.world.𝓛 g.world.𝓜 g.world.𝓡 ((λ s x. x), (λ x. x), (λ x. x), λ x. x)).as_many)
    (draws g.P.Pass.seen g.B.Book.seen d.drawn d.one_worker d.few d.all_turns d.still)
