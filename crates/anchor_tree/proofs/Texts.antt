-- Paths of texts that have a slash before each part, and texts of numbers.
use Rattle.std.proofs.Common.{◌≡◌, ℕ, zero, suc, ◌+◌, ◌-◌, ◌%◌, ◌<◌, ◌≤◌, ◌^◌, Bool, true, false, not, ◌&&◌, ◌==◌, List, [], ◌∷◌, ◌++◌, codes, decimal, get_or, length, replicate, refl, sym, ap, subst, ◌∙◌, arith}
use Rattle.std.specs.List.{list_all}
use Rattle.std.proofs.lemmas.Bool.Decides.{nat_tests}
use Rattle.std.proofs.lemmas.Fmt.{decimal_by_steps, decimal_injective, first_decimal}
use Rattle.std.proofs.lemmas.List.{append_cancel_left, append_cancel_right, append_assoc, same_from_push}
use Rattle.std.proofs.lemmas.List.Folds.{list_all-append}
use Rattle.anchor_tree.specs.Names.{four_digits}

-- a text without a slash
abbrev pub no_slash : List ℕ → Bool
no_slash text = list_all (λ byte. not (byte == 47)) text

and_false : (b : Bool) → (b && false) ≡ true → ⊥
and_false true e = cc
and_false false e = cc

and_both : (a b : Bool) → (a && b) ≡ true → (a ≡ true) × (b ≡ true)
and_both true b e = (refl, e)
and_both false b e = cc

both_and : (a b : Bool) → a ≡ true → b ≡ true → (a && b) ≡ true
both_and true b p q = q
both_and false b p q = cc

both_no_slash : (xs ys : List ℕ) → no_slash xs ≡ true → no_slash ys ≡ true → no_slash (xs ++ ys) ≡ true
both_no_slash xs ys p q = list_all-append (λ (byte : ℕ). not (byte == 47)) xs ys ∙ both_and (no_slash xs) (no_slash ys) p q

has_slash : (xs ys : List ℕ) → no_slash (xs ++ 47 ∷ ys) ≡ true → ⊥
has_slash xs ys e = and_false (no_slash xs) (sym (list_all-append (λ (byte : ℕ). not (byte == 47)) xs (47 ∷ ys)) ∙ e)

same_rest : (x y : ℕ) (xs ys : List ℕ) → x ∷ xs ≡ y ∷ ys → xs ≡ ys
same_rest x y xs ys e = cc

same_first : (x y : ℕ) (xs ys : List ℕ) → x ∷ xs ≡ y ∷ ys → x ≡ y
same_first x y xs ys e = cc

-- what stands before and behind the last slash
pub last_slash : (xs ys a b : List ℕ) → no_slash a ≡ true → no_slash b ≡ true → xs ++ 47 ∷ a ≡ ys ++ 47 ∷ b → (xs ≡ ys) × (a ≡ b)
last_slash [] [] a b p q e = (refl, same_rest 47 47 a b e)
last_slash [] (y ∷ ys) a b p q e =
    let rest : a ≡ ys ++ 47 ∷ b = same_rest 47 y a (ys ++ 47 ∷ b) e in
    absurd (has_slash ys b (subst (λ (t : List ℕ). no_slash t ≡ true) rest p))
last_slash (x ∷ xs) [] a b p q e =
    let rest : xs ++ 47 ∷ a ≡ b = same_rest x 47 (xs ++ 47 ∷ a) b e in
    absurd (has_slash xs a (subst (λ (t : List ℕ). no_slash t ≡ true) (sym rest) q))
last_slash (x ∷ xs) (y ∷ ys) a b p q e =
    let first : x ≡ y = same_first x y (xs ++ 47 ∷ a) (ys ++ 47 ∷ b) e in
    let rest = last_slash xs ys a b p q (same_rest x y (xs ++ 47 ∷ a) (ys ++ 47 ∷ b) e) in
    (ap (λ (n : ℕ). n ∷ xs) first ∙ ap (λ (l : List ℕ). y ∷ l) rest.0, rest.1)

-- no text is one with a slash in it where it is empty
pub nil_slash : (xs ys : List ℕ) → [] ≡ xs ++ 47 ∷ ys → ⊥
nil_slash [] ys e = cc
nil_slash (x ∷ xs) ys e = cc

digit_no_slash : (d : ℕ) → d < 10 → not (48 + d == 47) ≡ true
digit_no_slash d small = grind (arith, nat_tests)

decimal_no_slash : (n : ℕ) → n < 2 ^ 64 → no_slash (decimal n) ≡ true
decimal_no_slash n small = decimal_by_steps (λ (m : ℕ) (ds : List ℕ). no_slash ds ≡ true) one more n small
  where
    one : (m : ℕ) → m < 10 → no_slash ((48 + m) ∷ []) ≡ true
    one m h = both_and (not (48 + m == 47)) true (digit_no_slash m h) refl

    more : (m : ℕ) (ds : List ℕ) → 10 ≤ m → no_slash ds ≡ true → no_slash (ds ++ ((48 + m % 10) ∷ [])) ≡ true
    more m ds h so_far = both_no_slash ds ((48 + m % 10) ∷ []) so_far (both_and (not (48 + m % 10 == 47)) true (digit_no_slash (m % 10) (omega arith)) refl)

-- a folder's text behind its slash
abbrev pub folder_text : ℕ → ℕ → List ℕ
folder_text q digit = codes "vdb" ++ (decimal q ++ (codes "_" ++ (decimal (digit + 1) ++ codes ".dir")))

pub folder_no_slash : (q digit : ℕ) → q < 2 ^ 64 → digit + 1 < 2 ^ 64 → no_slash (folder_text q digit) ≡ true
folder_no_slash q digit small_q small =
    let last : List ℕ = decimal (digit + 1) ++ codes ".dir" in
    let number : no_slash last ≡ true = both_no_slash (decimal (digit + 1)) (codes ".dir") (decimal_no_slash (digit + 1) small) refl in
    let dash : no_slash (codes "_" ++ last) ≡ true = both_no_slash (codes "_") last refl number in
    let level : no_slash (decimal q ++ (codes "_" ++ last)) ≡ true = both_no_slash (decimal q) (codes "_" ++ last) (decimal_no_slash q small_q) dash in
    both_no_slash (codes "vdb") (decimal q ++ (codes "_" ++ last)) refl level

-- the digit of a folder of one level
pub folder_digit : (q digit other : ℕ) → digit + 1 < 2 ^ 64 → other + 1 < 2 ^ 64 → folder_text q digit ≡ folder_text q other → digit ≡ other
folder_digit q digit other small_d small_o e =
    let left : List ℕ = decimal (digit + 1) ++ codes ".dir" in
    let right : List ℕ = decimal (other + 1) ++ codes ".dir" in
    let level : decimal q ++ (codes "_" ++ left) ≡ decimal q ++ (codes "_" ++ right) = append_cancel_left (codes "vdb") (decimal q ++ (codes "_" ++ left)) (decimal q ++ (codes "_" ++ right)) e in
    let dash : codes "_" ++ left ≡ codes "_" ++ right = append_cancel_left (decimal q) (codes "_" ++ left) (codes "_" ++ right) level in
    let numbers : decimal (digit + 1) ≡ decimal (other + 1) =
    append_cancel_right (decimal (digit + 1)) (decimal (other + 1)) (codes ".dir") (append_cancel_left (codes "_") left right dash) in
    omega (arith, decimal_injective (digit + 1) (other + 1) small_d small_o numbers)

-- zeros before a number other than 0
zeros_first : (k n m : ℕ) → 0 < n → n < 2 ^ 64 → decimal n ≡ replicate (suc k) 48 ++ decimal m → ⊥
zeros_first k n m some small e =
    let first : get_or (decimal n) 0 0 ≡ 48 = ap (λ (l : List ℕ). get_or l 0 0) e in
    omega (arith, first, first_decimal n some small)

zeros_differ : (j k n m : ℕ) → 0 < n → 0 < m → n < 2 ^ 64 → m < 2 ^ 64 → replicate j 48 ++ decimal n ≡ replicate k 48 ++ decimal m → n ≡ m
zeros_differ zero zero n m some_n some_m small_n small_m e = decimal_injective n m small_n small_m e
zeros_differ zero (suc k) n m some_n some_m small_n small_m e = absurd (zeros_first k n m some_n small_n e)
zeros_differ (suc j) zero n m some_n some_m small_n small_m e = absurd (zeros_first j m n some_m small_m (sym e))
zeros_differ (suc j) (suc k) n m some_n some_m small_n small_m e =
    zeros_differ j k n m some_n some_m small_n small_m (same_rest 48 48 (replicate j 48 ++ decimal n) (replicate k 48 ++ decimal m) e)

zeros_no_slash : (k : ℕ) → no_slash (replicate k 48) ≡ true
zeros_no_slash zero = refl
zeros_no_slash (suc k) = zeros_no_slash k

-- a file's text behind its slash
abbrev pub leaf_text : ℕ → List ℕ
leaf_text n = codes "vdb_f" ++ (four_digits (n + 1) ++ codes ".file")

pub leaf_no_slash : (n : ℕ) → n + 1 < 2 ^ 64 → no_slash (leaf_text n) ≡ true
leaf_no_slash n small =
    let zeros : List ℕ = replicate (4 - length (decimal (n + 1))) 48 in
    let number : no_slash (four_digits (n + 1)) ≡ true = both_no_slash zeros (decimal (n + 1)) (zeros_no_slash (4 - length (decimal (n + 1)))) (decimal_no_slash (n + 1) small) in
    let behind : no_slash (four_digits (n + 1) ++ codes ".file") ≡ true = both_no_slash (four_digits (n + 1)) (codes ".file") number refl in
    both_no_slash (codes "vdb_f") (four_digits (n + 1) ++ codes ".file") refl behind

pub leaf_number : (n m : ℕ) → n + 1 < 2 ^ 64 → m + 1 < 2 ^ 64 → leaf_text n ≡ leaf_text m → n ≡ m
leaf_number n m small_n small_m e =
    let left : List ℕ = four_digits (n + 1) ++ codes ".file" in
    let right : List ℕ = four_digits (m + 1) ++ codes ".file" in
    let numbers : four_digits (n + 1) ≡ four_digits (m + 1) =
    append_cancel_right (four_digits (n + 1)) (four_digits (m + 1)) (codes ".file") (append_cancel_left (codes "vdb_f") left right e) in
    omega (arith, zeros_differ (4 - length (decimal (n + 1))) (4 - length (decimal (m + 1))) (n + 1) (m + 1) (omega arith) (omega arith) small_n small_m numbers)

-- the last byte of a text behind another
last_of : (xs ys : List ℕ) (x : ℕ) → xs ++ (ys ++ x ∷ []) ≡ (xs ++ ys) ++ x ∷ []
last_of xs ys x = sym (append_assoc xs ys (x ∷ []))

-- a file's text ends as no folder's does
pub leaf_no_folder : (n q digit : ℕ) → leaf_text n ≡ folder_text q digit → ⊥
leaf_no_folder n q digit e =
    let number : List ℕ = decimal (digit + 1) ++ codes ".di" in
    let file : List ℕ = codes "vdb_f" ++ (four_digits (n + 1) ++ codes ".fil") in
    let file_end : leaf_text n ≡ file ++ 101 ∷ [] =
    ap (λ (t : List ℕ). codes "vdb_f" ++ t) (last_of (four_digits (n + 1)) (codes ".fil") 101) in
    let folder_end : folder_text q digit ≡ (codes "vdb" ++ (decimal q ++ (codes "_" ++ number))) ++ 114 ∷ [] =
    ap (λ (t : List ℕ). codes "vdb" ++ (decimal q ++ (codes "_" ++ t))) (last_of (decimal (digit + 1)) (codes ".di") 114)
    ∙ ap (λ (t : List ℕ). codes "vdb" ++ t) (last_of (decimal q) (codes "_" ++ number) 114) in
    let ends = same_from_push file (codes "vdb" ++ (decimal q ++ (codes "_" ++ number))) 101 114 (sym file_end ∙ e ∙ folder_end) in
    let last : 101 ≡ 114 = ends.1 in
    absurd (omega (arith, last))
