use Rattle.slave_worker.proofs.Draws.{all_add_up, bad_skips_none, blocks_used, never_busy, no_more, one_block, rereads_are, still_all, turns_drawn, turns_few, whole_draw}
use Rattle.slave_worker.proofs.law.draws_add_up.Goals as goal

pub returns-clause-drawn : goal.returns-clause-drawn
returns-clause-drawn c = turns_drawn c.rows_add_up.ensures.done_turns

pub returns-clause-few : goal.returns-clause-few
returns-clause-few c = turns_few c.rows_add_up.ensures.done_turns

pub returns-clause-still : goal.returns-clause-still
returns-clause-still c = still_all c.rows_add_up.ensures.done_turns

pub returns-clause-all_turns : goal.returns-clause-all_turns
returns-clause-all_turns c = all_add_up c.rows_add_up.ensures.done_turns

pub returns-clause-rereads : goal.returns-clause-rereads
returns-clause-rereads c = rereads_are c.rows_add_up.ensures.done_turns

pub returns-clause-one_block : goal.returns-clause-one_block
returns-clause-one_block c = one_block c.rows_add_up.ensures.done_turns

pub returns-clause-no_more : goal.returns-clause-no_more
returns-clause-no_more c = no_more c.rows_add_up.ensures.done_turns

pub returns-clause-never_busy : goal.returns-clause-never_busy
returns-clause-never_busy c = never_busy c.rows_add_up.ensures.done_turns

pub returns-clause-whole_draw : goal.returns-clause-whole_draw
returns-clause-whole_draw c = whole_draw c.rows_add_up.ensures.done_turns

pub returns-clause-no_badskips : goal.returns-clause-no_badskips
returns-clause-no_badskips c = bad_skips_none c.rows_add_up.ensures.done_turns

pub returns-clause-used : goal.returns-clause-used
returns-clause-used c = blocks_used c.rows_add_up.ensures.done_turns
