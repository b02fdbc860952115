use Rattle.std.proofs.Common.{sym, ◌∙◌}
use Rattle.plan_journals.proofs.Closings.{stopped_some}
use Rattle.plan_journals.proofs.closing.close_journal.Goals as goal

pub returns-in-Ok : goal.returns-in-Ok
returns-in-Ok g c =
    let met = g.met.Y.Disk.Disk in (
      g.Y.Disk.Disk.seen c.in-Ok.whole,
      record { back = c.keep_disk.ensures.back; disks = c.keep_disk.ensures.disks; counts = c.keep_disk.ensures.counts; contents = c.keep_disk.ensures.contents },
      record {
        some = c.one_history.ensures.some;
        disks = record {
          began = record { tale = met.is_tale c.args.book.began.value; untold = met.untold c.args.book.began.value };
          back = record { tale = met.is_tale c.in-Ok.whole; untold = met.untold c.in-Ok.whole };
        };
        is_closed = c.in-Ok.ensures.closed;
        keeps_all = c.in-Ok.ensures.all;
      },
    )

pub returns-in-Some : goal.returns-in-Some
returns-in-Some g c =
    let met = g.met.Y.Disk.Disk in (
      g.Y.Disk.Disk.seen c.in-Err.left,
      record {
        back = c.keep_disk-in-Err.ensures.back;
        disks = c.keep_disk-in-Err.ensures.disks;
        counts = c.keep_disk-in-Err.ensures.counts;
        contents = c.keep_disk-in-Err.ensures.contents;
      },
      record {
        stopped = stopped_some _ _ _ c.stopped_at-before.ensures c.in-Some.is;
        lost = record {
          some = c.one_history.ensures.some;
          disks = record {
            began = record { tale = met.is_tale c.args.book.began.value; untold = met.untold c.args.book.began.value };
            back = record { tale = met.is_tale c.in-Err.left; untold = met.untold c.in-Err.left };
          };
          is_given_up = c.in-Err.ensures.given_up;
          keeps_over = c.in-Err.ensures.over;
        };
      },
    )

pub returns-in-None : goal.returns-in-None
returns-in-None g c =
    let met = g.met.Y.Disk.Disk in (
      g.Y.Disk.Disk.seen c.in-Err.left,
      record {
        back = c.keep_disk-in-Err.ensures.back;
        disks = c.keep_disk-in-Err.ensures.disks;
        counts = c.keep_disk-in-Err.ensures.counts;
        contents = c.keep_disk-in-Err.ensures.contents;
      },
      record {
        running = sym c.stopped_at-before.ensures ∙ c.in-None.is;
        so_many = c.records-records.ensures;
        rose = c.in-Err.ensures.now (sym c.stopped_at-before.ensures ∙ c.in-None.is);
        lost = record {
          some = c.one_history.ensures.some;
          disks = record {
            began = record { tale = met.is_tale c.args.book.began.value; untold = met.untold c.args.book.began.value };
            back = record { tale = met.is_tale c.in-Err.left; untold = met.untold c.in-Err.left };
          };
          is_given_up = c.in-Err.ensures.given_up;
          keeps_over = c.in-Err.ensures.over;
        };
      },
    )
