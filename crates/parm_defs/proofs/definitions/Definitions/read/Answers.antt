use Rattle.parm_defs.proofs.Back.{read_is}
use Rattle.parm_defs.proofs.definitions.Definitions.read.Goals as goal

pub returns-clause-gives : goal.returns-clause-gives
returns-clause-gives c =
    read_is c.records_show_all.ensures c.args.bytes.now c.args.lines.now c.in_ok-so_far.so_far c.in_ok-records_of.field-0 c.in_ok-so_far.ensures c.in_ok-records_of.ensures

pub returns-clause-ranges : goal.returns-clause-ranges
returns-clause-ranges c =
    let bytes = c.args.bytes.now in
    let lines = c.args.lines.now in
    c.definitions_fit.ensures bytes lines c.in_ok-records_of.field-0 c.requires.lines c.requires.short
    (read_is c.records_show_all.ensures bytes lines c.in_ok-so_far.so_far c.in_ok-records_of.field-0 c.in_ok-so_far.ensures c.in_ok-records_of.ensures)
