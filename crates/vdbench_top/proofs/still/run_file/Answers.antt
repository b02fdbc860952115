use Rattle.std.proofs.Common.{◌∙◌, ap, refl, sym, subst, [], List, ℕ}
use Rattle.run_report.specs.Says.{says_none}
use Rattle.vd_disk.specs.Disk.{DiskSeen}
use Rattle.vd_yard.specs.Kept.{Kept, kept_at}
use Rattle.still_store.proofs.Frames.{journals_same}
use Rattle.vdbench_top.specs.Still.{FindsNoData, unkept}
use Rattle.vdbench_top.proofs.Tellings.{said_or, said_read, said_unopened, said_unread, data_opened, no_data_later}
use Rattle.vdbench_top.proofs.still.run_file.Goals as goal

pub returns-in-Ok-clause-contents : goal.returns-in-Ok-clause-contents
returns-in-Ok-clause-contents g c =
    data_opened (g.Y.Yard.seen c.args.yard.now) (g.Y.Yard.seen c.read_file.new.yard) (g.Y.Yard.seen c.run_parameters.new.yard) _ c.as_slice.result.now c.read_file.ensures.contents (λ parameters told. c.as_slice.ensures.value ∙ c.in-Ok.ensures.exact parameters told) c.run_parameters.ensures.contents

pub returns-in-Ok-clause-said : goal.returns-in-Ok-clause-said
returns-in-Ok-clause-said g c =
    said_read _ _ _ _ _ c.as_slice.result.now _ _ _
    (record {
      later = record { disks = λ path. ap (λ (k : Kept DiskSeen). kept_at k path) c.read_file.ensures.disks; faults = c.in-Ok.ensures.yard_quiet (λ e. cc); keeps = c.read_file.ensures.keeps };
      contents = c.read_file.ensures.contents;
      counts = λ path. record { faults = c.read_file.ensures.arms path; reads = c.read_file.ensures.reads path; writes = c.read_file.ensures.writes path };
      disks = c.read_file.ensures.disks;
    })
    (λ parameters told. c.as_slice.ensures.value ∙ c.in-Ok.ensures.exact parameters told) c.run_parameters.ensures.said

pub returns-in-Ok-clause-refused : goal.returns-in-Ok-clause-refused
returns-in-Ok-clause-refused g c parameters told none =
    c.run_parameters.ensures.refused
    (subst (λ (l : List ℕ). FindsNoData (g.Y.Yard.seen c.read_file.new.yard) l) (sym (c.as_slice.ensures.value ∙ c.in-Ok.ensures.exact parameters told))
    (no_data_later _ _ _ (record { disks = λ path. ap (λ (k : Kept DiskSeen). kept_at k path) c.read_file.ensures.disks; faults = c.in-Ok.ensures.yard_quiet (λ e. cc); keeps = c.read_file.ensures.keeps }) none))
    ∙ c.read_file.ensures.contents

pub returns-in-Err-Yard-clause-journals : goal.returns-in-Err-Yard-clause-journals
returns-in-Err-Yard-clause-journals g c = journals_same _ _ c.read_file.ensures.disks

pub returns-in-Err-Source-clause-journals : goal.returns-in-Err-Source-clause-journals
returns-in-Err-Source-clause-journals g c = journals_same _ _ c.read_file.ensures.disks

pub returns-in-Err-NoMemory-clause-journals : goal.returns-in-Err-NoMemory-clause-journals
returns-in-Err-NoMemory-clause-journals g c = journals_same _ _ c.read_file.ensures.disks

pub returns-in-Err-NoMemory-clause-said : goal.returns-in-Err-NoMemory-clause-said
returns-in-Err-NoMemory-clause-said g c = ([], says_none _, unkept (record { unopened = record { contents = c.read_file.ensures.contents; counts = λ path. record { faults = c.read_file.ensures.arms path; reads = c.read_file.ensures.reads path; writes = c.read_file.ensures.writes path } }; disks = c.read_file.ensures.disks }) refl refl)

pub returns-in-Err-Yard-clause-said : goal.returns-in-Err-Yard-clause-said
returns-in-Err-Yard-clause-said g c =
    said_unopened _ _ _ _ _ _ _ (said_or _ _ _ _ _ _ c.cannot_open_line.ensures c.say_line.ensures) (c.in-Err-Yard.ensures.yard_fault (cc c.in-Err-Yard.field-0-is)) (λ w t. c.in-Err-Yard.ensures.willing w t (cc c.in-Err-Yard.field-0-is))
    (record { unopened = record { contents = c.read_file.ensures.contents; counts = λ path. record { faults = c.read_file.ensures.arms path; reads = c.read_file.ensures.reads path; writes = c.read_file.ensures.writes path } }; disks = c.read_file.ensures.disks })

pub returns-in-Err-Source-clause-said : goal.returns-in-Err-Source-clause-said
returns-in-Err-Source-clause-said g c =
    said_unread _ _ _ _ _ _ _ (said_or _ _ _ _ _ _ c.cannot_read_line.ensures c.say_line-in-Err-Source.ensures) (c.in-Err-Source.ensures.source_fault (cc c.in-Err-Source.field-0-is)) (λ s. c.in-Err-Source.ensures.sure s (cc c.in-Err-Source.field-0-is))
    (record { unopened = record { contents = c.read_file.ensures.contents; counts = λ path. record { faults = c.read_file.ensures.arms path; reads = c.read_file.ensures.reads path; writes = c.read_file.ensures.writes path } }; disks = c.read_file.ensures.disks })
