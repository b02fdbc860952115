use Rattle.std.proofs.Common.{◌≡◌, ◌+◌, ◌-◌, ◌++◌, length, set, get_or, replicate}
use Rattle.worker_tally.specs.Rows.{both, empty_row, row_added}
use Rattle.worker_tally.proofs.RowSteps.{set_is_added}
use Rattle.worker_tally.proofs.row.add_row.Goals as goal

pub returns-clause-items : goal.returns-clause-items
returns-clause-items c =
    let grown = c.args.rows.now.items ++ replicate (c.args.place + 1 - length c.args.rows.now.items) empty_row in
    let added : set grown c.args.place (both (get_or grown c.args.place c.index.result.now) c.args.more.now) ≡ row_added c.args.place c.args.more.now c.args.rows.now.items
    = set_is_added c.args.more.now c.index.result.now c.args.place c.args.rows.now.items in
    cc
