-- The text of a name stands before its first zero, and is text.
use Rattle.std.proofs.Common.{get_or, zero, suc, ◌≡◌, ℕ, ◌+◌, ◌-◌, ◌<◌, List, [], ◌∷◌, ◌++◌, take, length, replicate, refl, sym, ◌∙◌, ap, Some, None, arith, Bool, true, false, cond, ◌&&◌, ◌==◌, nat_lt}
use Rattle.std.specs.List.{position, position_or_len, before_first, list_all}
use Rattle.std.specs.Str.{IsUtf8}
use Rattle.std.proofs.lemmas.Bool.Decides.{nat_tests}
use Rattle.std.proofs.lemmas.List.{take_all}
use Rattle.std.proofs.lemmas.Str.{IsUtf8-from_ascii}
use Rattle.std.proofs.lemmas.Slice.Eq.{bytes_eq-Decides}
use Rattle.std.proofs.Math.Seq.{take-append_seam}
use Rattle.vd_base.specs.Name.{is_name_byte, is_store_name, is_padded_name, name_text, padded}

picked_some : (b : Bool) (n m : ℕ) → cond b (Some n) None ≡ Some m → n ≡ m
picked_some true n m e = cc
picked_some false n m e = cc

picked_none : (b : Bool) (n : ℕ) → cond b (Some n) None ≡ None → b ≡ false
picked_none true n e = cc
picked_none false n e = refl

pub before_some : (p : ℕ → Bool) (xs : List ℕ) (at : ℕ) → position p xs ≡ Some at → take at xs ≡ before_first p xs
before_some p xs at e = ap (λ (n : ℕ). take n xs) (sym (picked_some _ _ _ e))

pub before_none : (p : ℕ → Bool) (xs : List ℕ) → position p xs ≡ None → xs ≡ before_first p xs
before_none p xs e =
    let past : nat_lt (position_or_len p xs) (length xs) ≡ false = picked_none _ _ e in
    sym (take_all (position_or_len p xs) xs (grind (arith, nat_tests, past)))

name_byte_small : (b : ℕ) → is_name_byte b ≡ true → b < 128
name_byte_small b e = grind (arith, nat_tests)

and_both : (a b : Bool) → (a && b) ≡ true → (a ≡ true) × (b ≡ true)
and_both true b e = (refl, e)
and_both false b e = cc

ascii : (bs : List ℕ) → list_all is_name_byte bs ≡ true → (i : ℕ) → get_or bs i 0 < 128
ascii [] e i = omega arith
ascii (b ∷ bs) e zero = name_byte_small b (and_both _ _ e).0
ascii (b ∷ bs) e (suc i) = ascii bs (and_both _ _ e).1 i

pub name_utf8 : (bs : List ℕ) → is_store_name bs ≡ true → IsUtf8 bs
name_utf8 bs e = IsUtf8-from_ascii bs (ascii bs (and_both _ _ e).1)

name_byte_not_zero : (b : ℕ) → is_name_byte b ≡ true → (b == 0) ≡ false
name_byte_not_zero b e = grind (arith, nat_tests, e)

zeros_first : (n : ℕ) → position_or_len (λ b. b == 0) (replicate n 0) ≡ 0
zeros_first zero = refl
zeros_first (suc n) = refl

text_first : (text : List ℕ) (n : ℕ) → list_all is_name_byte text ≡ true → position_or_len (λ b. b == 0) (text ++ replicate n 0) ≡ length text
text_first [] n e = zeros_first n
text_first (b ∷ text) n e =
    let rest = ap (λ k. 1 + k) (text_first text n (and_both _ _ e).1) in
    let whole : 1 + length text ≡ suc (length text) = omega arith in
    rw (name_byte_not_zero b (and_both _ _ e).0) (rest ∙ whole)

pub text_of_padded : (text : List ℕ) → is_store_name text ≡ true → name_text (padded text) ≡ text
text_of_padded text e =
    ap (λ k. take k (padded text)) (text_first text (8 - length text) (and_both _ _ e).1)
    ∙ take-append_seam text (replicate (8 - length text) 0)

pub padded_is_name : (text : List ℕ) → is_store_name text ≡ true → is_padded_name (padded text) ≡ true
padded_is_name text e =
    let same = text_of_padded text e in
    rw (same, e) ((bytes_eq-Decides (padded text) (padded text)).1 refl)
