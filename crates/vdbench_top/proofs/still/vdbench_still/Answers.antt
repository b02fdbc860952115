use Rattle.std.proofs.Common.{◌∙◌, ap, Bool, List, ℕ, subst, sym}
use Rattle.std.specs.Prelude.{map, string_bytes}
use Rattle.vdbench_top.specs.Words.{steps_by}
use Rattle.vdbench_top.specs.Still.{DataStays, SaidOfFile}
use Rattle.run_report.specs.declared.status.Status.TheVariants as status
use Rattle.vd_outside.specs.Causes.{Rose}
use Rattle.vd_yard.specs.Counts.{source_faults}
use Rattle.vdbench_top.proofs.Naming.{not_both}
use Rattle.vdbench_top.proofs.Schedules.{said_usage, said_steps, ends_usage}
use Rattle.vdbench_top.proofs.Tellings.{ends_by, file_along, its_status, name_is, no_fault, not_status, bytes_along, sink_rose}
use Rattle.vdbench_top.proofs.still.vdbench_still.Goals as goal

-- ---- words that name no file
pub returns-in_default-clause-usage : goal.returns-in_default-clause-usage
returns-in_default-clause-usage g c none =
    let v = c.run_without_file-status.ensures.said in
    let u = said_usage _ _ _ v.2 (ap steps_by none) in
    ends_usage _ _ _ _ _ _ u.0 u.1 v.1 c.end.ensures.says c.end.ensures.failed c.end.ensures.good

pub returns-in_default-clause-simulation : goal.returns-in_default-clause-simulation
returns-in_default-clause-simulation g c n is =
    let v = c.run_without_file-status.ensures.said in (
      v.0,
      c.run_without_file-status.result,
      said_steps _ _ _ n v.2 is,
      ends_by _ _ _ v.0 _ _ v.1 c.end.ensures.says c.end.ensures.failed c.end.ensures.good (λ e. absurd (c.run_without_file-status.ensures.no_sink e)),
    )

pub returns-in_default-clause-ends : goal.returns-in_default-clause-ends
returns-in_default-clause-ends g c =
    let v = c.run_without_file-status.ensures.said in (
      v.0,
      c.run_without_file-status.result,
      ends_by _ _ _ v.0 _ _ v.1 c.end.ensures.says c.end.ensures.failed c.end.ensures.good (λ e. absurd (c.run_without_file-status.ensures.no_sink e)),
    )

-- ---- what a run leaves
pub returns-clause-keeps : goal.returns-clause-keeps
returns-clause-keeps g c = c.run_named-status.ensures.keeps

pub returns-clause-journals : goal.returns-clause-journals
returns-clause-journals g c = c.run_named-status.ensures.journals

pub returns-clause-no_file : goal.returns-clause-no_file
returns-clause-no_file g c none = absurd (let e = c.in-Some.ensures.file ∙ none in cc)

pub returns-clause-contents : goal.returns-clause-contents
returns-clause-contents g c file is =
    subst (λ (f : List ℕ). DataStays (g.Y.Yard.seen c.args.yard.now) f (g.Y.Yard.seen c.args.yard.now).contents (g.Y.Yard.seen c.run_named-status.new.yard).contents) (sym (name_is _ _ file c.in-Some.ensures.file is)) c.run_named-status.ensures.contents

pub returns-clause-shows_only : goal.returns-clause-shows_only
returns-clause-shows_only g c shows = c.run_named-status.ensures.shows_only (c.shows_plan.ensures ∙ shows)

pub returns-clause-untouched : goal.returns-clause-untouched
returns-clause-untouched g c good corrupt device yard sink memory =
    c.run_named-status.ensures.untouched
    (not_status _ _ _ status.Good c.end-2.ensures.failed c.end-2.ensures.good sink good)
    (not_status _ _ _ status.Corrupt c.end-2.ensures.failed c.end-2.ensures.good sink corrupt)
    (not_status _ _ _ status.Device c.end-2.ensures.failed c.end-2.ensures.good sink device)
    (not_status _ _ _ status.Yard c.end-2.ensures.failed c.end-2.ensures.good sink yard)
    (not_status _ _ _ status.Sink c.end-2.ensures.failed c.end-2.ensures.good sink sink)
    (not_status _ _ _ status.NoMemory c.end-2.ensures.failed c.end-2.ensures.good sink memory)

pub returns-clause-refused : goal.returns-clause-refused
returns-clause-refused g c file parameters is told none =
    c.run_named-status.ensures.refused parameters (bytes_along (g.Y.Yard.seen c.args.yard.now) _ _ _ (name_is _ _ file c.in-Some.ensures.file is) told) none

-- ---- what it says
pub returns-clause-simulation : goal.returns-clause-simulation
returns-clause-simulation g c n is = absurd (not_both (map string_bytes c.args.words.now) _ n (sym c.in-Some.ensures.file) is)

pub returns-clause-ends : goal.returns-clause-ends
returns-clause-ends g c =
    let v = c.run_named-status.ensures.said in (
      v.0,
      c.run_named-status.result,
      ends_by _ _ _ v.0 _ _ v.1 c.end-2.ensures.says c.end-2.ensures.failed c.end-2.ensures.good c.run_named-status.ensures.output,
    )

pub returns-clause-told : goal.returns-clause-told
returns-clause-told g c file is =
    let v = c.run_named-status.ensures.said in
    let same = name_is _ _ file c.in-Some.ensures.file is in (
      v.0,
      c.run_named-status.result,
      subst (λ (b : Bool). SaidOfFile (g.Y.Yard.seen c.args.yard.now) (g.Y.Yard.seen c.run_named-status.new.yard) b file v.0 c.run_named-status.result) c.shows_plan.ensures (file_along _ _ _ file _ v.0 _ same v.2),
      ends_by _ _ _ v.0 _ _ v.1 c.end-2.ensures.says c.end-2.ensures.failed c.end-2.ensures.good c.run_named-status.ensures.output,
    )

pub returns-clause-answer : goal.returns-clause-answer
returns-clause-answer g c file is h =
    let t = returns-clause-told g c file is in
    (t.0, t.1, t.2, no_fault _ _ file _ t.0 t.1 h t.2, t.3)

-- ---- its causes
pub returns-clause-yard_fault : goal.returns-clause-yard_fault
returns-clause-yard_fault g c e = c.run_named-status.ensures.yard_fault (its_status _ _ _ status.Yard c.end-2.ensures.failed c.end-2.ensures.good (λ x. cc) e)

pub returns-clause-yard_quiet : goal.returns-clause-yard_quiet
returns-clause-yard_quiet g c yard sink memory =
    c.run_named-status.ensures.yard_quiet
    (not_status _ _ _ status.Yard c.end-2.ensures.failed c.end-2.ensures.good sink yard)
    (not_status _ _ _ status.NoMemory c.end-2.ensures.failed c.end-2.ensures.good sink memory)

pub returns-clause-source_quiet : goal.returns-clause-source_quiet
returns-clause-source_quiet g c source sink memory path =
    c.run_named-status.ensures.source_quiet
    (not_status _ _ _ status.Source c.end-2.ensures.failed c.end-2.ensures.good sink source)
    (not_status _ _ _ status.NoMemory c.end-2.ensures.failed c.end-2.ensures.good sink memory)
    path

pub returns-clause-disk_fault : goal.returns-clause-disk_fault
returns-clause-disk_fault g c e keeps =
    c.run_named-status.ensures.disk_fault (its_status _ _ _ status.Journal c.end-2.ensures.failed c.end-2.ensures.good (λ x. cc) e) keeps

pub returns-clause-disk_quiet : goal.returns-clause-disk_quiet
returns-clause-disk_quiet g c journal sink memory path =
    c.run_named-status.ensures.disk_quiet
    (not_status _ _ _ status.Journal c.end-2.ensures.failed c.end-2.ensures.good sink journal)
    (not_status _ _ _ status.NoMemory c.end-2.ensures.failed c.end-2.ensures.good sink memory)
    path

pub returns-clause-device_fault : goal.returns-clause-device_fault
returns-clause-device_fault g c e = c.run_named-status.ensures.device_fault (its_status _ _ _ status.Device c.end-2.ensures.failed c.end-2.ensures.good (λ x. cc) e)

pub returns-clause-device_quiet : goal.returns-clause-device_quiet
returns-clause-device_quiet g c device yard sink memory path =
    c.run_named-status.ensures.device_quiet
    (not_status _ _ _ status.Device c.end-2.ensures.failed c.end-2.ensures.good sink device)
    (not_status _ _ _ status.Yard c.end-2.ensures.failed c.end-2.ensures.good sink yard)
    (not_status _ _ _ status.Sink c.end-2.ensures.failed c.end-2.ensures.good sink sink)
    (not_status _ _ _ status.NoMemory c.end-2.ensures.failed c.end-2.ensures.good sink memory)
    path

pub returns-clause-usage_only : goal.returns-clause-usage_only
returns-clause-usage_only g c e = absurd (c.run_named-status.ensures.no_usage (its_status _ _ _ status.Usage c.end-2.ensures.failed c.end-2.ensures.good (λ x. cc) e))

pub returns-clause-no_epoch : goal.returns-clause-no_epoch
returns-clause-no_epoch g c e = c.run_named-status.ensures.no_epoch (its_status _ _ _ status.EpochEnd c.end-2.ensures.failed c.end-2.ensures.good (λ x. cc) e)

pub returns-clause-source_fault : goal.returns-clause-source_fault
returns-clause-source_fault g c e file is =
    subst (λ (path : List ℕ). Rose (source_faults (g.Y.Yard.seen c.args.yard.now).counts path) (source_faults (g.Y.Yard.seen c.run_named-status.new.yard).counts path)) (sym (name_is _ _ file c.in-Some.ensures.file is))
    (c.run_named-status.ensures.source_fault (its_status _ _ _ status.Source c.end-2.ensures.failed c.end-2.ensures.good (λ x. cc) e))

pub returns-clause-sink_fault : goal.returns-clause-sink_fault
returns-clause-sink_fault g c e =
    let v = c.run_named-status.ensures.said in
    (sink_rose _ _ _ v.0 _ _ c.new-printer.ensures v.1 c.end-2.ensures.says c.end-2.ensures.failed c.end-2.ensures.good c.run_named-status.ensures.output).0 e

pub returns-clause-sink_quiet : goal.returns-clause-sink_quiet
returns-clause-sink_quiet g c n =
    let v = c.run_named-status.ensures.said in
    (sink_rose _ _ _ v.0 _ _ c.new-printer.ensures v.1 c.end-2.ensures.says c.end-2.ensures.failed c.end-2.ensures.good c.run_named-status.ensures.output).1 n
