use Rattle.std.proofs.Common.{◌≡◌, ◌++◌, [], ◌∷◌, List, ap, refl, inl, inr, ◌∙◌, rules, length-set}
use Rattle.vd_disk.specs.declared.memory.Step.{Step}
use Rattle.vd_disk.specs.declared.memory.Step.TheVariants.{Write, FailedWrite}
use Rattle.vd_disk.specs.Calls.{is_sure, sure_stays}
use Rattle.vd_disk.specs.Step.{tables_from}
use Rattle.vd_disk.proofs.Steps.{extends_push, extends_same, replays_more, tables_more, noted_cases}
use Rattle.vd_disk.proofs.memory.MemDiskDisk.write.Goals as goal

pub invariant_of-self : goal.invariant_of-self
invariant_of-self c =
    let d = c.args.self.now in
    record {
      replays = elim (noted_cases c.is_noted.result d.steps.items c.is_noted.new.steps.items (FailedWrite c.args.at c.args.bytes.now) c.is_noted.ensures.yes c.is_noted.ensures.no) [
        | inl more ↦ replays_more d.first.items d.content.items d.steps.items _ (FailedWrite c.args.at c.args.bytes.now) d.replays more
        | inr same ↦ cc
      ];
    }

pub returns-then-next_fails-clause-writes : goal.returns-then-next_fails-clause-writes
returns-then-next_fails-clause-writes c =
    let d = c.args.self.now in
    record {
      reads_as = search rules;
      may_leave = search rules;
      failed_reads = inl refl;
      failed_leaves = elim (noted_cases c.is_noted.result d.steps.items c.is_noted.new.steps.items (FailedWrite c.args.at c.args.bytes.now) c.is_noted.ensures.yes c.is_noted.ensures.no) [
        | inl more ↦ inr (tables_more d.first.items d.steps.items _ (FailedWrite c.args.at c.args.bytes.now) more)
        | inr same ↦ inl (ap (λ (l : List Step). tables_from d.first.items l) same)
      ];
    }

pub returns-then-next_fails-clause-leaves : goal.returns-then-next_fails-clause-leaves
returns-then-next_fails-clause-leaves c =
    let d = c.args.self.now in
    record {
      sectors = refl;
      sure = ap is_sure c.next_fails.ensures.counted ∙ sure_stays d.plan;
      earlier = elim (noted_cases c.is_noted.result d.steps.items c.is_noted.new.steps.items (FailedWrite c.args.at c.args.bytes.now) c.is_noted.ensures.yes c.is_noted.ensures.no) [
        | inl more ↦ extends_push _ _ _ (tables_more d.first.items d.steps.items _ (FailedWrite c.args.at c.args.bytes.now) more)
        | inr same ↦ extends_same _ _ (ap (λ (l : List Step). tables_from d.first.items l) same)
      ];
    }

pub invariant_of-self-2 : goal.invariant_of-self-2
invariant_of-self-2 c =
    let d = c.args.self.now in
    let pushed : c.is_noted-2.new.steps.items ≡ d.steps.items ++ Write c.args.at c.args.bytes.now ∷ [] = search rules in
    record { replays = replays_more d.first.items d.content.items d.steps.items _ (Write c.args.at c.args.bytes.now) d.replays pushed }

pub returns-clause-writes : goal.returns-clause-writes
returns-clause-writes c =
    let d = c.args.self.now in
    let pushed : c.is_noted-2.new.steps.items ≡ d.steps.items ++ Write c.args.at c.args.bytes.now ∷ [] = search rules in
    record {
      reads_as = refl;
      may_leave = λ sectors told. tables_more d.first.items d.steps.items _ (Write c.args.at c.args.bytes.now) pushed;
      failed_reads = search rules;
      failed_leaves = search rules;
    }

pub returns-clause-leaves : goal.returns-clause-leaves
returns-clause-leaves c =
    let d = c.args.self.now in
    let pushed : c.is_noted-2.new.steps.items ≡ d.steps.items ++ Write c.args.at c.args.bytes.now ∷ [] = search rules in
    record {
      sectors = length-set d.content.items c.args.at c.args.bytes.now;
      sure = ap is_sure c.next_fails.ensures.counted ∙ sure_stays d.plan;
      earlier = extends_push _ _ _ (tables_more d.first.items d.steps.items _ (Write c.args.at c.args.bytes.now) pushed);
    }
