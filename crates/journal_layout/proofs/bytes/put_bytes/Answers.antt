use Rattle.std.proofs.Common.{rules, ◌≡◌, ◌+◌, ◌-◌, inl, inr, ℕ, List, length, take, drop, slice_range, sym, ap, ◌∙◌, arith}
use Rattle.std.proofs.lemmas.Bool.{cases_lt}
use Rattle.std.proofs.lemmas.List.{drop-take}
use Rattle.std.proofs.lemmas.Slice.{drop-put_mid, take-put_mid_below}
use Rattle.journal_layout.proofs.bytes.put_bytes.Goals as goal

-- a range is the end of a front
range_of_front : (xs ys : List ℕ) (i j : ℕ) → take j xs ≡ take j ys → slice_range xs i j ≡ slice_range ys i j
range_of_front xs ys i j same = elim (cases_lt j i) [
  | inl back ↦
      let none : j - i ≡ 0 = omega arith in
      ap (λ n. take n (drop i xs)) none ∙ sym (ap (λ n. take n (drop i ys)) none)
  | inr fore ↦
      let sum : i + (j - i) ≡ j = omega arith in
      sym (drop-take i (j - i) xs) ∙ ap (λ n. drop i (take n xs)) sum ∙ ap (λ (l : List ℕ). drop i l) same ∙ sym (ap (λ n. drop i (take n ys)) sum) ∙ drop-take i (j - i) ys
]

pub returns-clause-below : goal.returns-clause-below
returns-clause-below c = λ i j order.
    let long : length c.args.out.now ≡ 512 = search rules in
    range_of_front _ c.args.out.now i j (take-put_mid_below c.args.at _ c.args.out.now _ j order (omega (arith, long, c.requires)))

pub returns-clause-above : goal.returns-clause-above
returns-clause-above c = λ i j order.
    let long : length c.args.out.now ≡ 512 = search rules in
    ap (λ (l : List ℕ). take (j - i) l) (drop-put_mid c.args.at _ c.args.out.now c.copy_from_slice.new.self i (omega arith) (omega (arith, long, c.requires)) (search rules))
