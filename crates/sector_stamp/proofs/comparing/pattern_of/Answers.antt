use Rattle.std.proofs.Common.{◌≡◌, ◌-◌, ◌∙◌, ap, sym, arith, drop, length, length-drop}
use Rattle.std.proofs.lemmas.List.{take_all}
use Rattle.sector_stamp.proofs.comparing.pattern_of.Goals as goal

pub returns : goal.returns
returns c =
    let sector = c.args.sector.now in
    let e : length sector - 480 ≡ 32 = omega (arith, c.told-sector) in
    c.in-Some.ensures.cases.1.same
    ∙ (ap (λ n. drop n sector) e ∙ sym (take_all 480 (drop 32 sector) (omega (arith, c.told-sector, length-drop 32 sector))))
