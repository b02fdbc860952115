use Rattle.std.proofs.Common.{rules, ◌≡◌, ◌<◌, ◌++◌, ◌+◌, ◌*◌, ◌%◌, ◌^◌, [], ◌∷◌, inl, inr, length, get_or, sym, ap, ◌∙◌, arith}
use Rattle.std.proofs.lemmas.Bool.{cases_eq}
use Rattle.std.proofs.lemmas.List.{get_or_append_left, get_or_push, get_or_read, length_push}
use Rattle.vd_disk.specs.Disk.{Sectors, present}
use Rattle.vd_disk.specs.Step.{tables_from}
use Rattle.vd_disk.specs.Tale.{length-present, picked_is_image}
use Rattle.vd_disk.proofs.memory.picked.Goals as goal

pub loop-i-preserved : goal.loop-i-preserved
loop-i-preserved c =
    let first = c.args.first.now in
    let steps = c.args.steps.now in
    let i = c.loop-i.i in
    let held = c.in_ok-held.held.items in
    let x = c.index.result.now in
    let pushed : c.push.new.self.items ≡ c.loop-i.image.items ++ x ∷ [] = search rules in
    let row : held ≡ get_or (present (tables_from first steps)) i [] = c.in_ok-held.ensures.row in
    let place : (i + 1) * c.args.pick % 2 ^ 64 % length held < length held = omega (arith, c.in_ok-held.ensures.some) in
    let read : x ≡ get_or held ((i + 1) * c.args.pick % 2 ^ 64 % length held) x = search rules in
    let is : x ≡ get_or held ((i + 1) * c.args.pick % 2 ^ 64 % length held) [] = get_or_read held _ x place read [] in
    record {
      size = ap (λ (l : Sectors). length l) pushed ∙ length_push c.loop-i.image.items x ∙ ap (λ n. n + 1) c.loop-i.invariant.size;
      each = λ k below. ap (λ (l : Sectors). get_or l k []) pushed ∙ elim (cases_eq k i) [
        | inl same ↦
            get_or_push c.loop-i.image.items x [] k (c.loop-i.invariant.size ∙ sym same)
            ∙ is ∙ ap (λ (h : Sectors). get_or h ((i + 1) * c.args.pick % 2 ^ 64 % length h) []) row
            ∙ sym (ap (λ n. get_or (get_or (present (tables_from c.args.first.now c.args.steps.now)) n []) ((n + 1) * c.args.pick % 2 ^ 64 % length (get_or (present (tables_from c.args.first.now c.args.steps.now)) n [])) []) same)
        | inr other ↦
            get_or_append_left c.loop-i.image.items (x ∷ []) [] k (omega (arith, c.loop-i.invariant.size, below, other)) ∙ c.loop-i.invariant.each k (omega (arith, below, other))
      ];
    }

pub returns-clause-picked : goal.returns-clause-picked
returns-clause-picked c =
    let many : length (present (tables_from c.args.first.now c.args.steps.now)) ≡ c.args.sectors = length-present c.args.first.now c.args.steps.now ∙ sym c.requires.all in
    let all : c.loop-i.i ≡ c.args.sectors = search rules in
    record {
      size = c.loop-i.invariant.size ∙ all ∙ sym many;
      each = λ i below. c.loop-i.invariant.each i (omega (arith, below, all, many));
    }

pub returns-clause-possible : goal.returns-clause-possible
returns-clause-possible c = picked_is_image c.args.pick c.args.first.now c.args.steps.now _ (returns-clause-picked c)
