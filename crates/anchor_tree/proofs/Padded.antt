-- A number in at least four digits.
use Rattle.std.proofs.Common.{◌≡◌, ℕ, ◌-◌, ◌^◌, false, [], ◌++◌, decimal, length, refl, arith}
use Rattle.std.specs.Fmt.{char_count, format_spec, padded_integral}
use Rattle.std.proofs.lemmas.List.{append-nil}
use Rattle.anchor_tree.specs.Names.{four_digits}

pub padded_is : (n : ℕ) → padded_integral (format_spec 32 0 4 4 (2 ^ 64 - 1)) false [] (decimal n) ≡ four_digits n
unfolding padded_integral char_count
padded_is n =
    let short : 4 - length (decimal n) - 0 - 0 ≡ 4 - length (decimal n) = omega arith in
    let whole : decimal n ++ [] ≡ decimal n = append-nil (decimal n) in
    rw (short, whole) refl
