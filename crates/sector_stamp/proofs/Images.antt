-- An image is one list, and of one name, address and key.
use Rattle.std.proofs.Common.{◌≡◌, drop, ap, sym, ◌∙◌, arith, w64, slice_range}
use Rattle.std.specs.Int.{to_be_bytes, from_be_bytes}
use Rattle.std.proofs.lemmas.Nat.{from_be_bytes-to_be_bytes_8}
use Rattle.std.proofs.lemmas.List.{drop_all}
use Rattle.lfsr_pattern.proofs.OnePattern.{pattern_once}
use Rattle.sector_stamp.specs.Image.{HasOneImage, ImagesTellApart}
use Rattle.sector_stamp.proofs.Heads.{same_from, bytes_of_range, head_of_image, one_head}

pub images_tell_apart : ImagesTellApart
images_tell_apart name name' address address' key key' sector fits fits' p q = (
  sym p.named ∙ q.named,
  (let e : to_be_bytes w64 address ≡ to_be_bytes w64 address' = sym p.addressed ∙ q.addressed in
      sym (from_be_bytes-to_be_bytes_8 address fits) ∙ (ap (from_be_bytes w64) e ∙ from_be_bytes-to_be_bytes_8 address' fits')),
  (let e = sym p.keyed ∙ q.keyed in cc),
)

pub one_image : HasOneImage
one_image name address key xs ys fit fit' p q =
    let same : slice_range xs 32 512 ≡ slice_range ys 32 512 = pattern_once _ _ _ (bytes_of_range xs 32 512 fit) (bytes_of_range ys 32 512 fit') p.patterned.pattern q.patterned.pattern in
    let none : drop 512 xs ≡ drop 512 ys = drop_all 512 xs (omega (arith, p.size)) ∙ sym (drop_all 512 ys (omega (arith, q.size))) in
    let heads : slice_range xs 0 32 ≡ slice_range ys 0 32 = one_head name address key _ _ (head_of_image name address key xs p) (head_of_image name address key ys q) in
    same_from 0 32 xs ys (omega arith) heads (same_from 32 512 xs ys (omega arith) same none)
