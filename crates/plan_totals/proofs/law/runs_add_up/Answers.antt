use Rattle.std.specs.Prelude.{◌≡◌, ℕ, List, Some, length}
use Rattle.vd_arm.specs.Arm.{PassSeen}
use Rattle.key_state.specs.declared.seen.BookSeen.{BookSeen}
use Rattle.run_totals.specs.Sentences.{CorruptAreBad, ErrorsAreFindings, FaultsAreArmFaults, FittingStaysSo, OneForEach, OtherPathsStay, PassesComeBack, ReadsAreGoodReads, SureArmsDontFail, WritesAreEnds, WritesAreGoodWrites}
use Rattle.plan_totals.proofs.Found.{status_found}
use Rattle.plan_totals.proofs.Quiet.{unwritten_plans}
use Rattle.plan_totals.proofs.Running.{RunLaws}
use Rattle.plan_totals.proofs.Wholes.{all_sources, contents_stay, corrupt_are, errors_are, faults_are, findings_told, first_are_made, fitting_stays, good_writes_are, none_is_corrupt, none_is_left_out, one_for_each, others_stay, reads_are, refused_is_told, start_below, stores_stay, sure_dont_fail, text_is_theirs, unwritten_fit, writes_are}
use Rattle.plan_totals.proofs.law.runs_add_up.Goals as goal

-- what `run_adds_up` ensures, as far as it is needed
laws : {P B : Type 0} (pass_seen : P → PassSeen) (book_seen : B → BookSeen) → WritesAreEnds pass_seen book_seen → ReadsAreGoodReads pass_seen book_seen → FaultsAreArmFaults pass_seen book_seen → WritesAreGoodWrites pass_seen book_seen → CorruptAreBad pass_seen book_seen
    → FittingStaysSo pass_seen book_seen → PassesComeBack pass_seen book_seen → OtherPathsStay pass_seen book_seen → ErrorsAreFindings pass_seen book_seen → OneForEach pass_seen book_seen → SureArmsDontFail pass_seen book_seen → ((pass : P) (bytes : List ℕ) → (pass_seen pass).told ≡ Some bytes → length bytes ≡ (pass_seen pass).size) → RunLaws pass_seen book_seen
laws pass_seen book_seen writes reads faults good_writes corrupt fits passes others errors one_each sure sizes = record {
  writes = writes;
  reads = reads;
  faults = faults;
  good_writes = good_writes;
  corrupt = corrupt;
  fits = fits;
  passes = passes;
  others = others;
  errors = errors;
  one_each = one_each;
  sure = sure;
  sizes = sizes;
}

pub returns-clause-first : goal.returns-clause-first
returns-clause-first g c = first_are_made g.P.Pass.seen g.B.Book.seen

pub returns-clause-text : goal.returns-clause-text
returns-clause-text g c = text_is_theirs g.P.Pass.seen g.B.Book.seen

pub returns-clause-refused : goal.returns-clause-refused
returns-clause-refused g c = refused_is_told g.P.Pass.seen g.B.Book.seen

pub returns-clause-left_out : goal.returns-clause-left_out
returns-clause-left_out g c = none_is_left_out g.P.Pass.seen g.B.Book.seen

pub returns-clause-below : goal.returns-clause-below
returns-clause-below g c =
    let e = c.run_adds_up.ensures in
    start_below g.P.Pass.seen g.B.Book.seen (laws g.P.Pass.seen g.B.Book.seen e.writes e.reads e.faults e.good_writes e.corrupt e.fits e.passes e.others e.errors e.one_each e.sure (g.met.P.Pass g.world.𝓛 g.world.𝓜 g.world.𝓡 ((λ s x. x), (λ x. x), (λ x. x), λ x. x)).as_many)

pub returns-clause-errors : goal.returns-clause-errors
returns-clause-errors g c =
    let e = c.run_adds_up.ensures in
    errors_are g.P.Pass.seen g.B.Book.seen (laws g.P.Pass.seen g.B.Book.seen e.writes e.reads e.faults e.good_writes e.corrupt e.fits e.passes e.others e.errors e.one_each e.sure (g.met.P.Pass g.world.𝓛 g.world.𝓜 g.world.𝓡 ((λ s x. x), (λ x. x), (λ x. x), λ x. x)).as_many)

pub returns-clause-stores : goal.returns-clause-stores
returns-clause-stores g c =
    let e = c.run_adds_up.ensures in
    stores_stay g.P.Pass.seen g.B.Book.seen (laws g.P.Pass.seen g.B.Book.seen e.writes e.reads e.faults e.good_writes e.corrupt e.fits e.passes e.others e.errors e.one_each e.sure (g.met.P.Pass g.world.𝓛 g.world.𝓜 g.world.𝓡 ((λ s x. x), (λ x. x), (λ x. x), λ x. x)).as_many)

pub returns-clause-writes : goal.returns-clause-writes
returns-clause-writes g c =
    let e = c.run_adds_up.ensures in
    writes_are g.P.Pass.seen g.B.Book.seen (laws g.P.Pass.seen g.B.Book.seen e.writes e.reads e.faults e.good_writes e.corrupt e.fits e.passes e.others e.errors e.one_each e.sure (g.met.P.Pass g.world.𝓛 g.world.𝓜 g.world.𝓡 ((λ s x. x), (λ x. x), (λ x. x), λ x. x)).as_many)

pub returns-clause-reads : goal.returns-clause-reads
returns-clause-reads g c =
    let e = c.run_adds_up.ensures in
    reads_are g.P.Pass.seen g.B.Book.seen (laws g.P.Pass.seen g.B.Book.seen e.writes e.reads e.faults e.good_writes e.corrupt e.fits e.passes e.others e.errors e.one_each e.sure (g.met.P.Pass g.world.𝓛 g.world.𝓜 g.world.𝓡 ((λ s x. x), (λ x. x), (λ x. x), λ x. x)).as_many)

pub returns-clause-faults : goal.returns-clause-faults
returns-clause-faults g c =
    let e = c.run_adds_up.ensures in
    faults_are g.P.Pass.seen g.B.Book.seen (laws g.P.Pass.seen g.B.Book.seen e.writes e.reads e.faults e.good_writes e.corrupt e.fits e.passes e.others e.errors e.one_each e.sure (g.met.P.Pass g.world.𝓛 g.world.𝓜 g.world.𝓡 ((λ s x. x), (λ x. x), (λ x. x), λ x. x)).as_many)

pub returns-clause-good_writes : goal.returns-clause-good_writes
returns-clause-good_writes g c =
    let e = c.run_adds_up.ensures in
    good_writes_are g.P.Pass.seen g.B.Book.seen (laws g.P.Pass.seen g.B.Book.seen e.writes e.reads e.faults e.good_writes e.corrupt e.fits e.passes e.others e.errors e.one_each e.sure (g.met.P.Pass g.world.𝓛 g.world.𝓜 g.world.𝓡 ((λ s x. x), (λ x. x), (λ x. x), λ x. x)).as_many)

pub returns-clause-corrupt : goal.returns-clause-corrupt
returns-clause-corrupt g c =
    let e = c.run_adds_up.ensures in
    corrupt_are g.P.Pass.seen g.B.Book.seen (laws g.P.Pass.seen g.B.Book.seen e.writes e.reads e.faults e.good_writes e.corrupt e.fits e.passes e.others e.errors e.one_each e.sure (g.met.P.Pass g.world.𝓛 g.world.𝓜 g.world.𝓡 ((λ s x. x), (λ x. x), (λ x. x), λ x. x)).as_many)

pub returns-clause-others : goal.returns-clause-others
returns-clause-others g c =
    let e = c.run_adds_up.ensures in
    others_stay g.P.Pass.seen g.B.Book.seen (laws g.P.Pass.seen g.B.Book.seen e.writes e.reads e.faults e.good_writes e.corrupt e.fits e.passes e.others e.errors e.one_each e.sure (g.met.P.Pass g.world.𝓛 g.world.𝓜 g.world.𝓡 ((λ s x. x), (λ x. x), (λ x. x), λ x. x)).as_many)

pub returns-clause-sources : goal.returns-clause-sources
returns-clause-sources g c = all_sources g.P.Pass.seen g.B.Book.seen

pub returns-clause-fits : goal.returns-clause-fits
returns-clause-fits g c =
    let e = c.run_adds_up.ensures in
    fitting_stays g.P.Pass.seen g.B.Book.seen (laws g.P.Pass.seen g.B.Book.seen e.writes e.reads e.faults e.good_writes e.corrupt e.fits e.passes e.others e.errors e.one_each e.sure (g.met.P.Pass g.world.𝓛 g.world.𝓜 g.world.𝓡 ((λ s x. x), (λ x. x), (λ x. x), λ x. x)).as_many)

pub returns-clause-unwritten : goal.returns-clause-unwritten
returns-clause-unwritten g c = unwritten_fit

pub returns-clause-one_each : goal.returns-clause-one_each
returns-clause-one_each g c =
    let e = c.run_adds_up.ensures in
    one_for_each g.P.Pass.seen g.B.Book.seen (laws g.P.Pass.seen g.B.Book.seen e.writes e.reads e.faults e.good_writes e.corrupt e.fits e.passes e.others e.errors e.one_each e.sure (g.met.P.Pass g.world.𝓛 g.world.𝓜 g.world.𝓡 ((λ s x. x), (λ x. x), (λ x. x), λ x. x)).as_many)

pub returns-clause-clean : goal.returns-clause-clean
returns-clause-clean g c =
    let e = c.run_adds_up.ensures in
    none_is_corrupt g.P.Pass.seen g.B.Book.seen (laws g.P.Pass.seen g.B.Book.seen e.writes e.reads e.faults e.good_writes e.corrupt e.fits e.passes e.others e.errors e.one_each e.sure (g.met.P.Pass g.world.𝓛 g.world.𝓜 g.world.𝓡 ((λ s x. x), (λ x. x), (λ x. x), λ x. x)).as_many)

pub returns-clause-unwritten_plans : goal.returns-clause-unwritten_plans
returns-clause-unwritten_plans g c = unwritten_plans g.P.Pass.seen g.B.Book.seen unwritten_fit

pub returns-clause-status : goal.returns-clause-status
returns-clause-status g c all never = status_found g.P.Pass.seen g.B.Book.seen all.plan all.plan.runs all.before all.last all.text all.result all.runs never

pub returns-clause-contents : goal.returns-clause-contents
returns-clause-contents g c =
    let e = c.run_adds_up.ensures in
    contents_stay g.P.Pass.seen g.B.Book.seen (laws g.P.Pass.seen g.B.Book.seen e.writes e.reads e.faults e.good_writes e.corrupt e.fits e.passes e.others e.errors e.one_each e.sure (g.met.P.Pass g.world.𝓛 g.world.𝓜 g.world.𝓡 ((λ s x. x), (λ x. x), (λ x. x), λ x. x)).as_many)

pub returns-clause-sure : goal.returns-clause-sure
returns-clause-sure g c =
    let e = c.run_adds_up.ensures in
    sure_dont_fail g.P.Pass.seen g.B.Book.seen (laws g.P.Pass.seen g.B.Book.seen e.writes e.reads e.faults e.good_writes e.corrupt e.fits e.passes e.others e.errors e.one_each e.sure (g.met.P.Pass g.world.𝓛 g.world.𝓜 g.world.𝓡 ((λ s x. x), (λ x. x), (λ x. x), λ x. x)).as_many)

pub returns-clause-findings : goal.returns-clause-findings
returns-clause-findings g c =
    let e = c.run_adds_up.ensures in
    findings_told g.P.Pass.seen g.B.Book.seen (laws g.P.Pass.seen g.B.Book.seen e.writes e.reads e.faults e.good_writes e.corrupt e.fits e.passes e.others e.errors e.one_each e.sure (g.met.P.Pass g.world.𝓛 g.world.𝓜 g.world.𝓡 ((λ s x. x), (λ x. x), (λ x. x), λ x. x)).as_many)
