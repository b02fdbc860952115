use Rattle.std.proofs.Common.{length}
use Rattle.master_run.proofs.crew.+dismiss_all.Given as goal

abbrev pub decreases-dismiss_all : goal.decreases-dismiss_all
decreases-dismiss_all g l = length l.posts.now.items
