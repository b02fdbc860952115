-- The 32 bytes before a pattern, which are written part by part, and the sectors that begin with them.
use Rattle.std.proofs.Common.{inl, inr, ◌≡◌, ℕ, ◌+◌, ◌-◌, ◌<◌, ◌≤◌, get_or, add-one, drop-cons, List, [], ◌∷◌, ◌++◌, length, take, drop, refl, ap, sym, ◌∙◌, arith, subst, ◌%◌, ◌^◌, ◌↔◌, slice_range, length-take, length-drop, length-append}
use Rattle.std.proofs.lemmas.List.{drop_all, take_all, take-take, take-append-le, drop-append-le, append-nil, get_or-take, get_or-drop, get_or_past}
use Rattle.std.proofs.lemmas.Bool.{cases_lt}
use Rattle.std.proofs.lemmas.List.Folds.{drop_split}
use Rattle.std.proofs.lemmas.Slice.{between_is}
use Rattle.std.specs.Prelude.{bit_or, bit_xor}
use Rattle.std.specs.Int.{bit_at}
use Rattle.std.specs.Int.Bits.{xor_self}
use Rattle.std.proofs.lemmas.Nat.Bits.{bit_at_xor, bit_at-lt, bit_at-zero, same_from_bits_below}
use Rattle.std.proofs.lemmas.Simd.{get_or-zip2, length-zip2}
use Rattle.std.proofs.lemmas.Grind.{same_number_lists}
use lib.Lanes.{zip2, fold_l}
use borrow.Rule.Slice.PartMut.{put_mid}
use Rattle.lfsr_pattern.specs.Pattern.{AreBytes, IsPattern, seed_of}
use Rattle.lfsr_pattern.proofs.FarBytes.{zero_sum, zeros_of_or, or_of_zeros}
use Rattle.sector_stamp.specs.Image.{IsHead, IsImage}

-- What is written so far, after one more part.
pub put_next : (at end : ℕ) (before after part front part' : List ℕ) → take (at + length part) after ≡ take at before ++ part → part ≡ part' → end ≡ at + length part' → take at before ≡ front → take end after ≡ front ++ part'
put_next at end before after part front part' told is e so_far =
    ap (λ k. take k after) (e ∙ ap (λ xs. at + length xs) (sym is)) ∙ (told ∙ (ap (λ xs. xs ++ part) so_far ∙ ap (λ ys. front ++ ys) is))

-- a list of eight, by its elements
pub eight_of : (xs : List ℕ) → length xs ≡ 8 → get_or xs 0 0 ∷ get_or xs 1 0 ∷ get_or xs 2 0 ∷ get_or xs 3 0 ∷ get_or xs 4 0 ∷ get_or xs 5 0 ∷ get_or xs 6 0 ∷ get_or xs 7 0 ∷ [] ≡ xs
eight_of xs long =
    let step : (i : ℕ) → i < 8 → get_or xs i 0 ∷ drop (i + 1) xs ≡ drop i xs = λ i le. rw add-one (sym (drop-cons xs i 0 (omega arith))) in
    let s7 : get_or xs 7 0 ∷ [] ≡ drop 7 xs = ap (λ t. get_or xs 7 0 ∷ t) (sym (drop_all 8 xs (omega arith))) ∙ step 7 (omega arith) in
    let s6 : get_or xs 6 0 ∷ get_or xs 7 0 ∷ [] ≡ drop 6 xs = ap (λ t. get_or xs 6 0 ∷ t) s7 ∙ step 6 (omega arith) in
    let s5 = ap (λ t. get_or xs 5 0 ∷ t) s6 ∙ step 5 (omega arith) in
    let s4 = ap (λ t. get_or xs 4 0 ∷ t) s5 ∙ step 4 (omega arith) in
    let s3 = ap (λ t. get_or xs 3 0 ∷ t) s4 ∙ step 3 (omega arith) in
    let s2 = ap (λ t. get_or xs 2 0 ∷ t) s3 ∙ step 2 (omega arith) in
    let s1 = ap (λ t. get_or xs 1 0 ∷ t) s2 ∙ step 1 (omega arith) in
    ap (λ t. get_or xs 0 0 ∷ t) s1 ∙ step 0 (omega arith)

-- What is in the first 32 bytes of a sector is in its head.
pub part_of_head : (sector head : List ℕ) (a b : ℕ) → b ≤ 32 → take 32 sector ≡ head → slice_range sector a b ≡ slice_range head a b
part_of_head sector head a b le e =
    between_is sector a b
    ∙ (ap (drop a) (sym (take-take b 32 sector le) ∙ ap (take b) e)
    ∙ sym (between_is head a b))

pub image_of_head : (name : List ℕ) (address key : ℕ) (sector head : List ℕ) → length sector ≡ 512 → IsHead name address key head → take 32 sector ≡ head → IsPattern (seed_of address key) (slice_range sector 32 512) → IsImage name address key sector
image_of_head name address key sector head long h e pattern =
    record {
      size = long;
      named = part_of_head sector head 20 28 (omega arith) e ∙ h.named;
      addressed = part_of_head sector head 0 8 (omega arith) e ∙ h.addressed;
      keyed = part_of_head sector head 16 18 (omega arith) e ∙ h.keyed;
      patterned = record {
        behind_address = part_of_head sector head 8 16 (omega arith) e ∙ h.behind_address;
        behind_key = part_of_head sector head 18 20 (omega arith) e ∙ h.behind_key;
        behind_name = part_of_head sector head 28 32 (omega arith) e ∙ h.behind_name;
        pattern = pattern;
      };
    }

pub head_of_image : (name : List ℕ) (address key : ℕ) (sector : List ℕ) → IsImage name address key sector → IsHead name address key (take 32 sector)
head_of_image name address key sector p =
    let part : (a b : ℕ) → b ≤ 32 → slice_range (take 32 sector) a b ≡ slice_range sector a b = λ a b le. sym (part_of_head sector (take 32 sector) a b le refl) in
    record {
      size = omega (arith, length-take 32 sector, p.size);
      named = part 20 28 (omega arith) ∙ p.named;
      addressed = part 0 8 (omega arith) ∙ p.addressed;
      keyed = part 16 18 (omega arith) ∙ p.keyed;
      behind_address = part 8 16 (omega arith) ∙ p.patterned.behind_address;
      behind_key = part 18 20 (omega arith) ∙ p.patterned.behind_key;
      behind_name = part 28 32 (omega arith) ∙ p.patterned.behind_name;
    }

-- Lists that agree on a slice and behind it agree from its start on.
pub same_from : (a b : ℕ) (xs ys : List ℕ) → a ≤ b → slice_range xs a b ≡ slice_range ys a b → drop b xs ≡ drop b ys → drop a xs ≡ drop a ys
same_from a b xs ys le here behind =
    drop_split xs a b le ∙ (ap (λ zs. zs ++ drop b xs) here ∙ (ap (λ zs. slice_range ys a b ++ zs) behind ∙ sym (drop_split ys a b le)))

pub one_head : (name : List ℕ) (address key : ℕ) (xs ys : List ℕ) → IsHead name address key xs → IsHead name address key ys → xs ≡ ys
one_head name address key xs ys p q =
    let none : drop 32 xs ≡ drop 32 ys = drop_all 32 xs (omega (arith, p.size)) ∙ sym (drop_all 32 ys (omega (arith, q.size))) in
    let from_28 = same_from 28 32 xs ys (omega arith) (p.behind_name ∙ sym q.behind_name) none in
    let from_20 = same_from 20 28 xs ys (omega arith) (p.named ∙ sym q.named) from_28 in
    let from_18 = same_from 18 20 xs ys (omega arith) (p.behind_key ∙ sym q.behind_key) from_20 in
    let from_16 = same_from 16 18 xs ys (omega arith) (p.keyed ∙ sym q.keyed) from_18 in
    let from_8 = same_from 8 16 xs ys (omega arith) (p.behind_address ∙ sym q.behind_address) from_16 in
    same_from 0 8 xs ys (omega arith) (p.addressed ∙ sym q.addressed) from_8

-- a sector that is written as a head and a pattern
pub image_of_parts : (name : List ℕ) (address key : ℕ) (head pattern sector : List ℕ) → sector ≡ head ++ pattern → IsHead name address key head → IsPattern (seed_of address key) pattern → IsImage name address key sector
image_of_parts name address key head pattern sector e h p =
    let long : length sector ≡ 512 = ap length e ∙ omega (arith, length-append head pattern, h.size, p.size) in
    let front : take 32 sector ≡ head = ap (take 32) e ∙ (take-append-le 32 head pattern (omega (arith, h.size)) ∙ take_all 32 head (omega (arith, h.size))) in
    let back : slice_range sector 32 512 ≡ pattern =
    ap (λ s. take 480 (drop 32 s)) e
    ∙ (ap (take 480) (drop-append-le 32 head pattern (omega (arith, h.size)) ∙ ap (λ xs. xs ++ pattern) (drop_all 32 head (omega (arith, h.size))))
    ∙ take_all 480 pattern (omega (arith, p.size))) in
    image_of_head name address key sector head long h front (subst (λ (xs : List ℕ). IsPattern (seed_of address key) xs) (sym back) p)

pub put_two : (a p b a' b' : List ℕ) → length a ≡ 32 → length p ≡ 480 → a ≡ a' → b ≡ b' → put_mid 32 480 (a ++ p) b ≡ a' ++ b'
put_two a p b a' b' short long e f =
    let t : take 32 (a ++ p) ≡ a = take-append-le 32 a p (omega arith) ∙ take_all 32 a (omega arith) in
    let d : drop 480 (drop 32 (a ++ p)) ≡ [] = drop_all 480 (drop 32 (a ++ p)) (omega (arith, length-drop 32 (a ++ p), length-append a p)) in
    ap (λ xs. xs ++ (b ++ drop 480 (drop 32 (a ++ p)))) t
    ∙ (ap (λ ys. a ++ (b ++ ys)) d
    ∙ (ap (λ ys. a ++ ys) (append-nil b)
    ∙ (ap (λ xs. xs ++ b) e ∙ ap (λ ys. a' ++ ys) f)))

-- Bytes whose exclusive or is 0 are equal.
same_byte : (a b : ℕ) → a < 2 ^ 8 → b < 2 ^ 8 → bit_xor a b ≡ 0 → a ≡ b
same_byte a b fits fits' none =
    same_from_bits_below 8 a b fits fits'
    (λ k le.
    let even : (bit_at a k + bit_at b k) % 2 ≡ 0 = sym (bit_at_xor a b k) ∙ (ap (λ x. bit_at x k) none ∙ bit_at-zero k) in
    sym (zero_sum (bit_at a k) (bit_at b k) (bit_at-lt a k) (bit_at-lt b k) even))

-- Lists of bytes are equal where no lane of their exclusive or has a bit.
pub same_where_no_lane : (xs ys : List ℕ) → length xs ≡ length ys → AreBytes xs → AreBytes ys → (fold_l bit_or 0 (zip2 bit_xor xs ys) ≡ 0 ↔ xs ≡ ys)
same_where_no_lane xs ys long fit fit' =
    let lane : (k : ℕ) → k < length xs → get_or (zip2 bit_xor xs ys) k 0 ≡ bit_xor (get_or xs k 0) (get_or ys k 0) = λ k le. get_or-zip2 bit_xor xs ys k 0 0 0 le (omega arith) in (
      (λ none. same_number_lists xs ys long (λ k le. same_byte _ _ (fit k) (fit' k) (sym (lane k le) ∙ (zeros_of_or (zip2 bit_xor xs ys) 0 k none).1))),
      (λ same. or_of_zeros (zip2 bit_xor xs ys)
          (λ k le.
          let low : k < length xs = omega (arith, le, length-zip2 bit_xor xs ys long) in
          lane k low ∙ (ap (λ zs. bit_xor (get_or xs k 0) (get_or zs k 0)) (sym same) ∙ xor_self (get_or xs k 0)))),
    )

-- The bytes of a part are bytes.
pub bytes_of_range : (xs : List ℕ) (a b : ℕ) → AreBytes xs → AreBytes (slice_range xs a b)
bytes_of_range xs a b fit i = elim (cases_lt i (b - a)) [
  | inl low ↦ omega (arith, get_or-take (b - a) (drop a xs) i 0 low, get_or-drop a xs i 0, fit (a + i))
  | inr high ↦
      let short : length (slice_range xs a b) ≤ i = omega (arith, length-take (b - a) (drop a xs)) in
      omega (arith, get_or_past (slice_range xs a b) i 0 short)
]

pub bytes_of_front : (xs : List ℕ) → AreBytes xs → AreBytes (take 32 xs)
bytes_of_front xs fit = bytes_of_range xs 0 32 fit

-- The lanes of a sector's first 32 bytes beside those of a head.
pub same_lanes : (sector head xs ys : List ℕ) → length sector ≡ 512 → length head ≡ 32 → AreBytes sector → AreBytes head → xs ≡ take 32 sector → ys ≡ take 32 head → (fold_l bit_or 0 (zip2 bit_xor xs ys) ≡ 0 ↔ take 32 sector ≡ head)
same_lanes sector head xs ys long long' fit fit' e e' =
    let front = take 32 sector in
    let whole : ys ≡ head = e' ∙ take_all 32 head (omega arith) in
    let same = same_where_no_lane front head (omega (arith, length-take 32 sector)) (bytes_of_front sector fit) fit' in
    let lanes : fold_l bit_or 0 (zip2 bit_xor xs ys) ≡ fold_l bit_or 0 (zip2 bit_xor front head) = ap (λ zs. fold_l bit_or 0 (zip2 bit_xor zs ys)) e ∙ ap (λ zs. fold_l bit_or 0 (zip2 bit_xor front zs)) whole in
    ((λ none. same.0 (sym lanes ∙ none)), (λ is. lanes ∙ same.1 is))
