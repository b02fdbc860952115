use Rattle.std.proofs.Common.{◌≡◌, ℕ, ◌+◌, ◌-◌, ◌*◌, ◌^◌, ◌<◌, ◌≤◌, List, [], ◌∷◌, length, take, get_or, ◌&&◌, true, ap, ◌∙◌, sym, refl, arith, ◌++◌, lit<, lit≤}
use Rattle.std.specs.List.{list_all}
use Rattle.std.specs.Char.{is_ascii_digit, digit_value}
use Rattle.std.specs.Str.{all_ascii_digits}
use Rattle.std.specs.Str.Parse.{AllDigits, digits_value}
use Rattle.std.proofs.lemmas.Str.{digit_value_digit}
use Rattle.std.proofs.lemmas.Str.Parse.{tells_digits, tells_all_ascii_digits, digit_at, digits_value-take-le}
use Rattle.std.proofs.lemmas.Int.Digits.{digits_value_push, digits_value-lt}
use Rattle.std.proofs.lemmas.List.{take_more}
use Rattle.std.proofs.Math.Nat.{pow-le-pow_right}

same_test : (ds : List ℕ) → list_all is_ascii_digit ds ≡ all_ascii_digits ds
same_test [] = refl
same_test (c ∷ cs) = ap (λ b. is_ascii_digit c && b) (same_test cs)

all_digits : (ds : List ℕ) → all_ascii_digits ds ≡ true → AllDigits 10 ds
all_digits [] h = tells_digits.empty
all_digits (c ∷ cs) h = let p = tells_all_ascii_digits.parts c cs h in tells_digits.more c cs p.0 (all_digits cs p.1)

pub digits_tested : (ds : List ℕ) → list_all is_ascii_digit ds ≡ true → AllDigits 10 ds
digits_tested ds h = all_digits ds (sym (same_test ds) ∙ h)

-- one more digit
pub value_more : (ds : List ℕ) (i : ℕ) → AllDigits 10 ds → i < length ds → digits_value 10 (take (i + 1) ds) ≡ digits_value 10 (take i ds) * 10 + (get_or ds i 0 - 48)
value_more ds i all h =
    let more : take (i + 1) ds ≡ take i ds ++ (get_or ds i 0 ∷ []) = take_more ds i 0 h in
    let digit = digit_at ds i all h in
    let value : digit_value (get_or ds i 0) + 48 ≡ get_or ds i 0 = digit_value_digit (get_or ds i 0) digit in
    let less : digit_value (get_or ds i 0) ≡ get_or ds i 0 - 48 = omega arith in
    ap (digits_value 10) more ∙ digits_value_push 10 (take i ds) (get_or ds i 0) ∙ ap (λ d. digits_value 10 (take i ds) * 10 + d) less

pub value_below : (ds : List ℕ) (i : ℕ) → AllDigits 10 ds → length ds ≤ 20 → digits_value 10 (take i ds) < 10 ^ 20
value_below ds i all h =
    let part : digits_value 10 (take i ds) ≤ digits_value 10 ds = digits_value-take-le 10 ds i (lit≤ tt) in
    let whole : digits_value 10 ds < 10 ^ length ds = digits_value-lt 10 ds all in
    let power : 10 ^ length ds ≤ 10 ^ 20 = pow-le-pow_right (lit< tt) h in
    omega arith
