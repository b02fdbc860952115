use Rattle.std.proofs.Common.{refl, sym, subst, [], List, ℕ}
use Rattle.run_report.specs.Says.{says_none}
use Rattle.vdbench_top.specs.Still.{DataStays, unkept}
use Rattle.vdbench_top.proofs.Tellings.{file_along, untouched_same}
use Rattle.vdbench_top.proofs.still.run_named.Goals as goal

pub returns-in_default-clause-said : goal.returns-in_default-clause-said
returns-in_default-clause-said g c = ([], says_none _, unkept (untouched_same _) refl refl)

pub returns-clause-contents : goal.returns-clause-contents
returns-clause-contents g c =
    subst (λ (f : List ℕ). DataStays (g.Y.Yard.seen c.args.yard.now) f (g.Y.Yard.seen c.args.yard.now).contents (g.Y.Yard.seen c.run_file.new.yard).contents) c.in-Ok.ensures c.run_file.ensures.contents

pub returns-clause-said : goal.returns-clause-said
returns-clause-said g c =
    let v = c.run_file.ensures.said in
    (v.0, v.1, file_along _ _ _ _ _ v.0 _ (sym c.in-Ok.ensures) v.2)
