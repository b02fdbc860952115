use Rattle.std.proofs.Common.{sym, subst}
use Rattle.still_plan.specs.Frame.{AreApart}
use Rattle.vdbench_top.proofs.Plans.{stores_apart}
use Rattle.vdbench_top.proofs.Tellings.{said_shown, said_looked, refused_by, untouched_same}
use Rattle.vdbench_top.proofs.still.run_plan.Goals as goal

pub returns-then-shows-clause-said : goal.returns-then-shows-clause-said
returns-then-shows-clause-said g c = said_shown _ _ _ _ _ _ _ c.if-shows.true (untouched_same _) c.show.ensures.only c.show.ensures.says c.show.ensures.front

pub still_stores-requires-clause-apart : goal.still_stores-requires-clause-apart
still_stores-requires-clause-apart g c κs within = subst AreApart (sym c.as_slice.ensures) (stores_apart _ c.requires.valid.paths)

pub returns-clause-said : goal.returns-clause-said
returns-clause-said g c = said_looked _ _ _ _ _ _ _ _ c.if-shows.false c.as_slice.ensures c.still_stores.ensures.contents c.still_stores.ensures.elsewhere c.still_stores.ensures.said

pub returns-clause-refused : goal.returns-clause-refused
returns-clause-refused g c some = refused_by _ _ _ _ c.as_slice.ensures c.still_stores.ensures.refused some
