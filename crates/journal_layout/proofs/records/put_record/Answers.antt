use Rattle.std.proofs.Common.{rules, ◌≡◌, ◌+◌, ◌*◌, ℕ, List, ◌++◌, length, replicate, slice_range, refl, sym, ap, ◌∙◌, arith, length-append}
use Rattle.std.specs.Int.{w32, to_be_bytes}
use Rattle.key_state.specs.Entries.{first_of}
use Rattle.journal_layout.specs.Log.{kind_bytes, record_bytes}
use Rattle.journal_layout.proofs.Ranges.{range_joined}
use Rattle.journal_layout.proofs.records.put_record.Goals as goal

pub returns-clause-bytes : goal.returns-clause-bytes
returns-clause-bytes c =
    let a = 32 + 16 * c.args.index in
    let made = c.args.made.now in
    let out = c.put_bytes-3.new.out in
    let b1 = c.put_bytes.ensures in
    let b2 = c.put_bytes-2.ensures in
    let b3 = c.put_bytes-3.ensures in
    let long : length c.kind_of.result ≡ 4 = search rules in
    let four : length (kind_bytes made) ≡ 4 = sym (ap (λ (l : List ℕ). length l) c.kind_of.ensures) ∙ long in
    let wide : length c.to_be_bytes.result ≡ 4 = ap (λ (l : List ℕ). length l) c.to_be_bytes.ensures in
    let rest : List ℕ = to_be_bytes w32 (first_of made) ++ replicate 8 0 in
    let twelve : length rest ≡ 12 = refl in
    let both : length (record_bytes made) ≡ length (kind_bytes made) + length rest = length-append (kind_bytes made) rest in
    let whole : length (record_bytes made) ≡ 16 = omega (arith, both, four, twelve) in
    let kind : slice_range out a (a + 4) ≡ kind_bytes made =
    b3.below a (a + 4) (omega arith) ∙ b2.below a (a + 4) (omega arith) ∙ sym (ap (λ n. slice_range c.put_bytes.new.out a (a + n)) long) ∙ b1.here ∙ c.kind_of.ensures in
    let block : slice_range out (a + 4) (a + 8) ≡ to_be_bytes w32 (first_of made) =
    let end : a + 8 ≡ a + 4 + length c.to_be_bytes.result = omega (arith, wide) in
    b3.below (a + 4) (a + 8) (omega arith) ∙ ap (slice_range c.put_bytes-2.new.out (a + 4)) end ∙ b2.here ∙ c.to_be_bytes.ensures ∙ ap (to_be_bytes w32) c.first.ensures in
    let zeros : slice_range out (a + 8) (a + 16) ≡ replicate 8 0 =
    let end : a + 16 ≡ a + 8 + 8 = omega arith in
    ap (slice_range out (a + 8)) end ∙ b3.here in
    let back : slice_range out (a + 4) (a + 16) ≡ rest =
    sym (range_joined out (a + 4) (a + 8) (a + 16) (omega arith) (omega arith))
    ∙ ap (λ (l : List ℕ). l ++ slice_range out (a + 8) (a + 16)) block ∙ ap (λ (l : List ℕ). to_be_bytes w32 (first_of made) ++ l) zeros in
    record {
      here = ap (λ n. slice_range out a (a + n)) whole ∙ sym (range_joined out a (a + 4) (a + 16) (omega arith) (omega arith))
          ∙ ap (λ (l : List ℕ). l ++ slice_range out (a + 4) (a + 16)) kind ∙ ap (λ (l : List ℕ). kind_bytes made ++ l) back;
      below = λ i j order. b3.below i j (omega (arith, order)) ∙ b2.below i j (omega (arith, order)) ∙ b1.below i j order;
      above = λ i j order. b3.above i j (omega (arith, order, whole)) ∙ b2.above i j (omega (arith, order, whole, wide)) ∙ b1.above i j (omega (arith, order, whole, long));
    }
