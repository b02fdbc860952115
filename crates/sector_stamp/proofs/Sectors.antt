-- Sectors of a block's bytes, after a write of one of them.
use Rattle.std.proofs.Common.{◌≡◌, ℕ, ◌+◌, ◌-◌, ◌*◌, ◌<◌, ◌≤◌, List, length, take, drop, ap, sym, ◌∙◌, arith}
use Rattle.std.proofs.lemmas.List.{drop-take}
use Rattle.std.proofs.lemmas.Slice.{take-put_mid_below}
use borrow.Rule.Slice.PartMut.{put_mid}
use Rattle.sector_stamp.specs.Block.{sector_of}

-- the bytes of a sector, by a place and a count
pub sector_of-take : (bytes : List ℕ) (i : ℕ) → sector_of bytes i ≡ take 512 (drop (512 * i) bytes)
sector_of-take bytes i =
    let e : 512 * i + 512 - 512 * i ≡ 512 = omega arith in
    ap (λ n. take n (drop (512 * i) bytes)) e

sector_of-front : (bytes : List ℕ) (i : ℕ) → sector_of bytes i ≡ drop (512 * i) (take (512 * i + 512) bytes)
sector_of-front bytes i = sector_of-take bytes i ∙ sym (drop-take (512 * i) 512 bytes)

pub sector_of-put_below : (i j k : ℕ) (bytes sector : List ℕ) → 512 * i ≤ length bytes → j < i → sector_of (put_mid (512 * i) k bytes sector) j ≡ sector_of bytes j
sector_of-put_below i j k bytes sector room below =
    sector_of-front (put_mid (512 * i) k bytes sector) j
    ∙ (ap (drop (512 * j)) (take-put_mid_below (512 * i) k bytes sector (512 * j + 512) (omega arith) room)
    ∙ sym (sector_of-front bytes j))
