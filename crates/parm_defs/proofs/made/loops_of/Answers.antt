use Rattle.std.proofs.Common.{◌∙◌, ◌++◌, ap, codes, filter}
use Rattle.parm_defs.specs.Made.{is_inherited, loop_words}
use Rattle.parm_defs.specs.Parts.{is_among}
use Rattle.parm_defs.proofs.Loops.{one_by_one}
use Rattle.parm_defs.proofs.made.loops_of.Goals as goal

pub returns : goal.returns
returns c =
    one_by_one (is_inherited c.args.kind c.args.given.now) c.in_ok-loops.loops.items c.in_ok-loops-2.loops.items c.in_ok-loops-3.loops.items c.in_ok-loops-4.loops.items
    (codes "forthreads") (codes "forxfersize") (codes "forrdpct") c.in_ok-loops-2.ensures c.in_ok-loops-3.ensures c.in_ok-loops-4.ensures
    ∙ ap (λ own. own ++ filter (is_inherited c.args.kind c.args.given.now) loop_words)
    (c.in_ok-loops.ensures ∙ ap (filter (λ word. is_among word loop_words)) c.as_slice.ensures)
