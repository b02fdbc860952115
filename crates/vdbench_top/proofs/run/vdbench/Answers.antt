use Rattle.vdbench_top.specs.Runs.{CanEndAs, HasJournals, MakesJournals, UsesJournals}
use Rattle.vdbench_top.specs.Words.{Asked, asked}
use Rattle.vdbench_top.specs.declared.words.Keeping.TheVariants as keeping
use Rattle.std.proofs.Common.{◌≡◌, ◌⊎◌, IsTrue, sym}
use Rattle.std.specs.Prelude.{◌≢◌}
use Rattle.vd_yard.specs.Out.{AtSource}
use Rattle.vd_yard.specs.Yard.{is_there}
use Rattle.run_report.specs.declared.status.Status.TheVariants as status
use Rattle.vdbench_top.proofs.Runs.{call_as, holds_as}
use Rattle.vdbench_top.proofs.Clean.{call_sound, ends_clean, file_clean, said_clean}
use Rattle.vdbench_top.proofs.Kept.{call_keeps, completes}
use Rattle.vdbench_top.proofs.Sums.{file_adds}
use Rattle.vdbench_top.proofs.run.vdbench.Goals as goal

pub returns-in-Some-clause-journals : goal.returns-in-Some-clause-journals
returns-in-Some-clause-journals g c asks is kept =
    holds_as (λ (x : Asked). x.keeping ≡ keeping.NewJournals → MakesJournals (g.Y.Yard.seen c.args.yard.now) (g.Y.Yard.seen c.run_named.new.yard) x.file c.run_named.result)
    (asked c.in-Some.name.now c.in-Some.again c.in-Some.keeping) asks _ c.in-Some.ensures is c.run_named.ensures.journals kept

pub returns-in-Some-clause-resumes : goal.returns-in-Some-clause-resumes
returns-in-Some-clause-resumes g c asks is kept =
    holds_as (λ (x : Asked). x.keeping ≡ keeping.OldJournals → UsesJournals (g.Y.Yard.seen c.args.yard.now) (g.Y.Yard.seen c.run_named.new.yard) x.file c.run_named.result)
    (asked c.in-Some.name.now c.in-Some.again c.in-Some.keeping) asks _ c.in-Some.ensures is c.run_named.ensures.resumes kept

pub returns-in-Some-clause-opens : goal.returns-in-Some-clause-opens
returns-in-Some-clause-opens g c asks is =
    holds_as (λ (x : Asked). IsTrue (g.Y.Yard.seen c.args.yard.now).willing → IsTrue (is_there (g.Y.Yard.seen c.args.yard.now).files AtSource x.file) → HasJournals (g.Y.Yard.seen c.args.yard.now) x.keeping x.file → c.run_named.result ≢ status.Yard)
    (asked c.in-Some.name.now c.in-Some.again c.in-Some.keeping) asks _ c.in-Some.ensures is c.run_named.ensures.opens

pub returns-in-Some-clause-device_quiet : goal.returns-in-Some-clause-device_quiet
returns-in-Some-clause-device_quiet g c device yard heard memory ends path =
    c.run_named.ensures.device_quiet device yard heard memory (λ used. ends (asked c.in-Some.name.now c.in-Some.again c.in-Some.keeping) (sym c.in-Some.ensures) used) path

pub returns-in-Some-clause-adds_up : goal.returns-in-Some-clause-adds_up
returns-in-Some-clause-adds_up g c asks is call =
    file_adds _ _ (record { first = c.runs_add_up.ensures.first; below = c.runs_add_up.ensures.below; left_out = c.runs_add_up.ensures.left_out; text = c.runs_add_up.ensures.text; refused = c.runs_add_up.ensures.refused; each = c.runs_add_up.ensures.one_each; findings = c.runs_add_up.ensures.findings; status = c.runs_add_up.ensures.status; others = c.runs_add_up.ensures.others; errors = c.runs_add_up.ensures.errors; writes = c.runs_add_up.ensures.writes; reads = c.runs_add_up.ensures.reads; faults = c.runs_add_up.ensures.faults; good_writes = c.runs_add_up.ensures.good_writes; corrupt = c.runs_add_up.ensures.corrupt; drawn = c.runs_are_drawn.ensures.drawn; turns = c.runs_are_drawn.ensures.turns; still = c.runs_are_drawn.ensures.still }) (record { first = c.runs_add_up-2.ensures.first; below = c.runs_add_up-2.ensures.below; left_out = c.runs_add_up-2.ensures.left_out; text = c.runs_add_up-2.ensures.text; refused = c.runs_add_up-2.ensures.refused; each = c.runs_add_up-2.ensures.one_each; findings = c.runs_add_up-2.ensures.findings; status = c.runs_add_up-2.ensures.status; others = c.runs_add_up-2.ensures.others; errors = c.runs_add_up-2.ensures.errors; writes = c.runs_add_up-2.ensures.writes; reads = c.runs_add_up-2.ensures.reads; faults = c.runs_add_up-2.ensures.faults; good_writes = c.runs_add_up-2.ensures.good_writes; corrupt = c.runs_add_up-2.ensures.corrupt; drawn = c.runs_are_drawn-2.ensures.drawn; turns = c.runs_are_drawn-2.ensures.turns; still = c.runs_are_drawn-2.ensures.still }) c.count_laws.ensures.anew c.count_laws.ensures.again _ _ asks call.text call.said call.runs

pub returns-in-Some-clause-sound : goal.returns-in-Some-clause-sound
returns-in-Some-clause-sound g c asks is told fits =
    call_sound _ _ (record { quiet = c.sound_laws.ensures.quiet; anew = c.sound_laws-2.ensures.anew; again = c.sound_laws-2.ensures.again }) _ _ _ _ _ _ _ _ asks _ told fits (call_as _ _ _ _ _ _ _ _ _ _ (asked c.in-Some.name.now c.in-Some.again c.in-Some.keeping) _ asks _ c.in-Some.ensures is c.run_named.ensures.call)

pub returns-in-Some-clause-keeps : goal.returns-in-Some-clause-keeps
returns-in-Some-clause-keeps g c asks is =
    call_keeps _ _ (record { anew = c.kept_laws.ensures.anew; again = c.kept_laws.ensures.again }) _ _ _ _ _ _ _ _ asks _ (call_as _ _ _ _ _ _ _ _ _ _ (asked c.in-Some.name.now c.in-Some.again c.in-Some.keeping) _ asks _ c.in-Some.ensures is c.run_named.ensures.call)

pub returns-in-Some-clause-completes : goal.returns-in-Some-clause-completes
returns-in-Some-clause-completes g c asks is fails =
    let call = (call_as _ _ _ _ _ _ _ _ _ _ (asked c.in-Some.name.now c.in-Some.again c.in-Some.keeping) _ asks _ c.in-Some.ensures is c.run_named.ensures.call) in
    let sound = call_sound _ _ (record { quiet = c.sound_laws.ensures.quiet; anew = c.sound_laws-2.ensures.anew; again = c.sound_laws-2.ensures.again }) _ _ _ _ _ _ _ _ asks _ fails.contents fails.data_fits call in
    completes _ _ (record { quiet = c.ending_laws.ensures.quiet; anew = c.ending_laws-2.ensures.anew; again = c.ending_laws-2.ensures.again; quiet_sure = c.ending_laws.ensures.quiet_sure; anew_sure = c.ending_laws-2.ensures.anew_sure; again_sure = c.ending_laws-2.ensures.again_sure; valid = c.ending_laws-2.ensures.valid })
    _ _ _ _ asks fails _ _ _ _ _ call
    (holds_as (λ (x : Asked). IsTrue (g.Y.Yard.seen c.args.yard.now).willing → IsTrue (is_there (g.Y.Yard.seen c.args.yard.now).files AtSource x.file) → HasJournals (g.Y.Yard.seen c.args.yard.now) x.keeping x.file → c.run_named.result ≢ status.Yard)
    (asked c.in-Some.name.now c.in-Some.again c.in-Some.keeping) asks _ c.in-Some.ensures is c.run_named.ensures.opens)
    (holds_as (λ (x : Asked). x.keeping ≡ keeping.NewJournals → MakesJournals (g.Y.Yard.seen c.args.yard.now) (g.Y.Yard.seen c.run_named.new.yard) x.file c.run_named.result) (asked c.in-Some.name.now c.in-Some.again c.in-Some.keeping) asks _ c.in-Some.ensures is c.run_named.ensures.journals)
    (holds_as (λ (x : Asked). x.keeping ≡ keeping.OldJournals → UsesJournals (g.Y.Yard.seen c.args.yard.now) (g.Y.Yard.seen c.run_named.new.yard) x.file c.run_named.result) (asked c.in-Some.name.now c.in-Some.again c.in-Some.keeping) asks _ c.in-Some.ensures is c.run_named.ensures.resumes)
    c.run_named.ensures.yard_fault c.run_named.ensures.device_fault c.run_named.ensures.sink_fault
    (holds_as (λ (x : Asked). (c.run_named.result ≡ status.Sink) ⊎ CanEndAs x.keeping c.run_named.result) (asked c.in-Some.name.now c.in-Some.again c.in-Some.keeping) asks _ c.in-Some.ensures is c.run_named.ensures.can)
    sound

pub returns-in-Some-clause-finds_none : goal.returns-in-Some-clause-finds_none
returns-in-Some-clause-finds_none g c asks is told fits call =
    (file_clean _ _ (record { quiet = c.sound_laws.ensures.quiet; anew = c.sound_laws-2.ensures.anew; again = c.sound_laws-2.ensures.again }) _ _ asks call.text call.said told fits call.runs).0

pub returns-in-Some-clause-still_finds_none : goal.returns-in-Some-clause-still_finds_none
returns-in-Some-clause-still_finds_none g c file told fits text said says = (said_clean c.sound_laws.ensures.still _ _ _ told file text said fits says).0

pub returns-in-None-clause-still_finds_none : goal.returns-in-None-clause-still_finds_none
returns-in-None-clause-still_finds_none g c file told fits text said says = (said_clean c.sound_laws.ensures.still _ _ _ told file text said fits says).0

pub returns-in-None-clause-still_sound : goal.returns-in-None-clause-still_sound
returns-in-None-clause-still_sound g c none file is told fits =
    let said = c.vdbench_still.ensures.told file is in
    ends_clean c.sound_laws.ensures.still _ _ _ told file said.0 said.1 _ _ _ fits said.2 said.3

pub returns-in-Some-clause-interleavings : goal.returns-in-Some-clause-interleavings
returns-in-Some-clause-interleavings g c =
    let e = c.stays_sound.ensures in
    record { sound = e.sound; apart = e.apart; legal = e.legal; fitting = e.fitting; stopped = e.stopped; recovered = e.recovered }

pub returns-in-Some-clause-reports : goal.returns-in-Some-clause-reports
returns-in-Some-clause-reports g c = record { one = c.verdict_laws.ensures.one; reported = c.verdict_laws.ensures.sound; permitted = c.verdict_laws.ensures.permitted }

pub returns-in-None-clause-interleavings : goal.returns-in-None-clause-interleavings
returns-in-None-clause-interleavings g c =
    let e = c.stays_sound.ensures in
    record { sound = e.sound; apart = e.apart; legal = e.legal; fitting = e.fitting; stopped = e.stopped; recovered = e.recovered }

pub returns-in-None-clause-reports : goal.returns-in-None-clause-reports
returns-in-None-clause-reports g c = record { one = c.verdict_laws.ensures.one; reported = c.verdict_laws.ensures.sound; permitted = c.verdict_laws.ensures.permitted }
