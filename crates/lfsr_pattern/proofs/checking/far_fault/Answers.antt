use Rattle.std.proofs.Common.{◌≡◌, ◌+◌, ◌≤◌, ◌∙◌, ap, sym, arith, length, ℕ, List}
use Rattle.std.proofs.lemmas.Simd.{length-chunk}
use lib.Lanes.{chunk}
use Rattle.lfsr_pattern.proofs.FarBytes.{far_long, far_lane, far_byte}
use Rattle.lfsr_pattern.proofs.checking.far_fault.Goals as goal

pub returns-clause-long : goal.returns-clause-long
returns-clause-long c =
    let bytes = c.args.bytes.now in
    let long : (xs : List ℕ) (k : ℕ) → k + 32 ≤ length bytes → xs ≡ chunk k 32 bytes → length xs ≡ 32 = λ xs k low is. ap length is ∙ length-chunk k 32 bytes low in
    let at = c.args.at in
    far_long _ _ _ _ _
    (long _ at (omega arith) c.part.ensures)
    (long _ (at + 1) (omega arith) c.part-2.ensures)
    (long _ (at + 2) (omega arith) c.part-3.ensures)
    (long _ (at + 22) (omega arith) c.part-4.ensures)
    (long _ (at + 32) (omega arith) c.part-5.ensures)

pub returns-clause-each : goal.returns-clause-each
returns-clause-each c m le =
    let lane = far_lane c.args.bytes.now c.args.at m _ _ _ _ _ (omega arith) c.part.ensures c.part-2.ensures c.part-3.ensures c.part-4.ensures c.part-5.ensures le in
    let byte = far_byte c.args.bytes.now (c.args.at + m) (λ i. (c.type_inv.bytes i).fits) in
    ((λ none. byte.0 (sym lane ∙ none)), (λ far. lane ∙ byte.1 far))
