use Rattle.std.proofs.Common.{◌≡◌, ◌∙◌, sym, rules, ℕ, List, subst, slice_range, take}
use Rattle.lfsr_pattern.specs.Pattern.{IsPattern, seed_of}
use Rattle.sector_stamp.proofs.Heads.{image_of_head, head_of_image, one_head}
use Rattle.sector_stamp.proofs.comparing.is_image.Goals as goal

pub returns-then-not-begins_with : goal.returns-then-not-begins_with
returns-then-not-begins_with c = (
  (λ no. search rules),
  (λ image.
      let same : take 32 c.args.sector.now ≡ c.head.result = one_head c.args.name.now c.args.address c.args.key _ _ (head_of_image c.args.name.now c.args.address c.args.key c.args.sector.now image) c.head.ensures in
      sym c.if-not-begins_with.true ∙ c.begins_with.ensures.1 same),
)

pub returns : goal.returns
returns c =
    let sector = c.args.sector.now in
    let back : c.pattern_of.result.now ≡ slice_range sector 32 512 = c.pattern_of.ensures in
    let seeded : c.seed.result ≡ seed_of c.args.address c.args.key = c.seed.ensures.value in
    let same : take 32 sector ≡ c.head.result = c.begins_with.ensures.0 c.if-not-begins_with.false in (
      (λ yes.
          let p : IsPattern (seed_of c.args.address c.args.key) c.pattern_of.result.now = subst (λ (s : ℕ). IsPattern s c.pattern_of.result.now) seeded (c.is_pattern.ensures.0 yes) in
          image_of_head c.args.name.now c.args.address c.args.key sector c.head.result c.told-sector c.head.ensures same
          (subst (λ (xs : List ℕ). IsPattern (seed_of c.args.address c.args.key) xs) back p)),
      (λ image.
          let p : IsPattern (seed_of c.args.address c.args.key) c.pattern_of.result.now = subst (λ (xs : List ℕ). IsPattern (seed_of c.args.address c.args.key) xs) (sym back) image.patterned.pattern in
          c.is_pattern.ensures.1 (subst (λ (s : ℕ). IsPattern s c.pattern_of.result.now) (sym seeded) p)),
    )
