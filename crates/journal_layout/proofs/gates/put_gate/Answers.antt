use Rattle.std.proofs.Common.{rules, ◌≡◌, ◌+◌, ℕ, List, length, slice_range, refl, sym, ap, ◌∙◌, arith}
use Rattle.std.specs.Int.{w32, to_be_bytes}
use Rattle.journal_layout.proofs.gates.put_gate.Goals as goal

pub returns : goal.returns
returns c =
    let b2 = c.put_bytes-2.ensures in
    let b3 = c.put_bytes-3.ensures in
    let b4 = c.put_bytes-4.ensures in
    let b5 = c.put_bytes-5.ensures in
    let b6 = c.put_bytes-6.ensures in
    let l1 : length c.to_be_bytes.result ≡ 8 = ap (λ (l : List ℕ). length l) c.to_be_bytes.ensures in
    let l2 : length c.to_be_bytes-2.result ≡ 4 = ap (λ (l : List ℕ). length l) c.to_be_bytes-2.ensures in
    let l3 : length c.to_be_bytes-3.result ≡ 4 = ap (λ (l : List ℕ). length l) c.to_be_bytes-3.ensures in
    let l4 : length c.to_be_bytes-4.result ≡ 4 = ap (λ (l : List ℕ). length l) c.to_be_bytes-4.ensures in
    let magic : length c.magic_of.result ≡ 8 = ap (λ (l : List ℕ). length l) c.magic_of.ensures in
    let name : length c.padded.result ≡ 8 = search rules in
    record {
      magic = b6.below 0 8 (omega arith) ∙ b5.below 0 8 (omega arith) ∙ b4.below 0 8 (omega arith) ∙ b3.below 0 8 (omega arith) ∙ b2.below 0 8 (omega arith) ∙ search rules;
      epoch = b6.below 8 16 (omega arith) ∙ b5.below 8 16 (omega arith) ∙ b4.below 8 16 (omega arith) ∙ b3.below 8 16 (omega arith) ∙ search rules;
      id = record {
        name = b6.below 16 24 (omega arith) ∙ b5.below 16 24 (omega arith) ∙ b4.below 16 24 (omega arith) ∙ search rules;
        blocks = b6.below 24 28 (omega arith) ∙ b5.below 24 28 (omega arith) ∙ search rules;
        block_size = b6.below 28 32 (omega arith) ∙ sym (ap (λ n. slice_range c.put_bytes-5.new.out 28 (28 + n)) l3) ∙ b5.here ∙ c.to_be_bytes-3.ensures ∙ ap (to_be_bytes w32) c.block_size.ensures.value;
        is_name = search rules;
        is_geometry = search rules;
      };
      log_sectors = sym (ap (λ n. slice_range c.put_bytes-6.new.out 32 (32 + n)) l4) ∙ b6.here ∙ c.to_be_bytes-4.ensures;
      rest = b6.above 36 512 (omega (arith, l4)) ∙ b5.above 36 512 (omega (arith, l3)) ∙ b4.above 36 512 (omega (arith, l2)) ∙ b3.above 36 512 (omega (arith, name))
          ∙ b2.above 36 512 (omega (arith, l1)) ∙ c.put_bytes.ensures.above 36 512 (omega (arith, magic));
      within = c.requires;
      its_area = refl;
    }
