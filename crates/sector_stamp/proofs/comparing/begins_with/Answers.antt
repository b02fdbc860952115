use Rattle.std.proofs.lemmas.Bool.{eqb-true, eq-eqb}
use Rattle.sector_stamp.proofs.Heads.{same_lanes}
use Rattle.sector_stamp.proofs.comparing.begins_with.Goals as goal

pub returns : goal.returns
returns c =
    let same = same_lanes c.args.sector.now c.args.head.now _ _ c.told-sector c.told-head c.fits-sector c.fits-head c.front.ensures c.front-2.ensures in
    ((λ none. same.0 (eqb-true _ _ none)), (λ e. eq-eqb _ _ (same.1 e)))
