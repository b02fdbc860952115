use Rattle.std.proofs.Common.{◌≡◌, ◌++◌, [], ◌∷◌, ◌∙◌, rules}
use Rattle.vd_disk.specs.declared.memory.Step.TheVariants.{Lengthen}
use Rattle.vd_disk.specs.Disk.{longer}
use Rattle.vd_disk.proofs.Steps.{lengthened_seen, replays_more}
use Rattle.vd_disk.proofs.memory.MemDisk.lengthen.Goals as goal

pub invariant_of-self-2 : goal.invariant_of-self-2
invariant_of-self-2 c =
    let d = c.args.self.now in
    let pushed : c.is_noted.new.steps.items ≡ d.steps.items ++ Lengthen c.args.sectors ∷ [] = search rules in
    let made : c.in-Ok.content.items ≡ longer c.args.sectors d.content.items = search rules in
    record { replays = made ∙ replays_more d.first.items d.content.items d.steps.items _ (Lengthen c.args.sectors) d.replays pushed }

pub returns-clause-longer : goal.returns-clause-longer
returns-clause-longer c less =
    let d = c.args.self.now in
    let pushed : c.is_noted.new.steps.items ≡ d.steps.items ++ Lengthen c.args.sectors ∷ [] = search rules in
    let made : c.in-Ok.content.items ≡ longer c.args.sectors d.content.items = search rules in
    lengthened_seen c.args.sectors d.first.items d.content.items _ d.steps.items _ _ _ d.replays made pushed less
