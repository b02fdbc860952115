use Rattle.std.proofs.Common.{◌≡◌, ◌++◌, [], ◌∷◌, ap, sym, refl, ◌∙◌, rules}
use Rattle.vd_disk.specs.declared.memory.Step.TheVariants.{Sync}
use Rattle.vd_disk.specs.Disk.{Sectors, settled}
use Rattle.vd_disk.specs.Calls.{is_sure, sure_stays}
use Rattle.vd_disk.specs.Step.{tables_from}
use Rattle.vd_disk.proofs.Steps.{extends_push, replays_more, tables_more}
use Rattle.vd_disk.proofs.memory.MemDiskDisk.sync.Goals as goal

pub invariant_of-self : goal.invariant_of-self
invariant_of-self c =
    let d = c.args.self.now in
    let pushed : c.is_noted.new.steps.items ≡ d.steps.items ++ Sync ∷ [] = search rules in
    record { replays = replays_more d.first.items d.content.items d.steps.items _ Sync d.replays pushed }

pub returns-clause-syncs : goal.returns-clause-syncs
returns-clause-syncs c =
    let d = c.args.self.now in
    let pushed : c.is_noted.new.steps.items ≡ d.steps.items ++ Sync ∷ [] = search rules in
    record {
      told = refl;
      settles = λ sectors told.
          let same : d.content.items ≡ sectors = cc in
          tables_more d.first.items d.steps.items _ Sync pushed
          ∙ ap (λ (s : Sectors). tables_from d.first.items d.steps.items ++ settled s ∷ []) (sym d.replays ∙ same);
      failed = search rules;
    }

pub returns-clause-leaves : goal.returns-clause-leaves
returns-clause-leaves c =
    let d = c.args.self.now in
    let pushed : c.is_noted.new.steps.items ≡ d.steps.items ++ Sync ∷ [] = search rules in
    record {
      sectors = refl;
      sure = ap is_sure c.next_fails.ensures.counted ∙ sure_stays d.plan;
      earlier = extends_push _ _ _ (tables_more d.first.items d.steps.items _ Sync pushed);
    }
