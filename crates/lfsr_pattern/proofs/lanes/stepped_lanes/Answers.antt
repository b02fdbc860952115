use Rattle.std.proofs.Common.{◌≡◌, ℕ, ◌*◌, ◌/◌, ◌%◌, ◌^◌, ◌∙◌, List, map, ap, arith, length, slice_index}
use Rattle.std.specs.Prelude.{bit_or, bit_xor}
use Rattle.std.proofs.lemmas.Simd.{zip2_of_maps, splat_is_map}
use Rattle.std.proofs.lemmas.List.{get_or-map, length-map}
use Rattle.lfsr_pattern.proofs.LaneSteps.{map_same, lane_stepped, stepped_is}
use Rattle.lfsr_pattern.proofs.lanes.stepped_lanes.Goals as goal

pub returns : goal.returns
returns c =
    let vs = c.args.states in
    let long : length vs ≡ 8 = c.requires.long in
    let same : vs ≡ map (λ (x : ℕ). x) vs = map_same vs in
    let shr : ℕ → ℕ → ℕ = λ a b. a / 2 ^ b in
    let one = zip2_of_maps shr (λ (x : ℕ). x) (λ (_ : ℕ). 1) vs same (splat_is_map vs 8 1 long) in
    let two = zip2_of_maps shr (λ (x : ℕ). x) (λ (_ : ℕ). 2) vs same (splat_is_map vs 8 2 long) in
    let far = zip2_of_maps shr (λ (x : ℕ). x) (λ (_ : ℕ). 22) vs same (splat_is_map vs 8 22 long) in
    let down = zip2_of_maps shr (λ (x : ℕ). x) (λ (_ : ℕ). 8) vs same (splat_is_map vs 8 8 long) in
    let x1 = zip2_of_maps bit_xor (λ (x : ℕ). x) (λ (x : ℕ). x / 2 ^ 1) vs same one in
    let x2 = zip2_of_maps bit_xor (λ (x : ℕ). bit_xor x (x / 2 ^ 1)) (λ (x : ℕ). x / 2 ^ 2) vs x1 two in
    let x3 = zip2_of_maps bit_xor (λ (x : ℕ). bit_xor (bit_xor x (x / 2 ^ 1)) (x / 2 ^ 2)) (λ (x : ℕ). x / 2 ^ 22) vs x2 far in
    let shl : ℕ → ℕ → ℕ = λ a b. a * 2 ^ b % 2 ^ 32 in
    let up = zip2_of_maps shl (λ (x : ℕ). bit_xor (bit_xor (bit_xor x (x / 2 ^ 1)) (x / 2 ^ 2)) (x / 2 ^ 22)) (λ (_ : ℕ). 24) vs x3 (splat_is_map vs 8 24 long) in
    let all = zip2_of_maps bit_or (λ (x : ℕ). x / 2 ^ 8) (λ (x : ℕ). bit_xor (bit_xor (bit_xor x (x / 2 ^ 1)) (x / 2 ^ 2)) (x / 2 ^ 22) * 2 ^ 24 % 2 ^ 32) vs down up in
    record {
      long = ap length all ∙ (length-map vs lane_stepped ∙ long);
      each = λ lane le.
          ap (λ (xs : List ℕ). slice_index xs lane) all
          ∙ (get_or-map lane_stepped vs lane 0 0 (omega arith) ∙ stepped_is (slice_index vs lane) (c.requires.fits lane le));
    }
