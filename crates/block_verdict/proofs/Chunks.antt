-- A block's bytes as sectors.
use Rattle.std.proofs.Common.{◌≡◌, ℕ, zero, suc, ◌+◌, ◌*◌, ◌<◌, List, [], take, drop, get_or, refl, ap, sym, ◌∙◌, arith}
use Rattle.std.specs.Simd.{first_chunks}
use Rattle.std.proofs.lemmas.List.{drop-drop}
use Rattle.sector_stamp.specs.Block.{sector_of}
use Rattle.sector_stamp.proofs.Sectors.{sector_of-take}

chunk_at : (count : ℕ) (bytes : List ℕ) (i : ℕ) → i < count → get_or (first_chunks 512 count bytes) i [] ≡ take 512 (drop (512 * i) bytes)
chunk_at zero bytes i le = absurd (omega arith)
chunk_at (suc count) bytes zero le = refl
chunk_at (suc count) bytes (suc i) le =
    let e : 512 + 512 * i ≡ 512 * suc i = omega arith in
    chunk_at count (drop 512 bytes) i (omega arith) ∙ ap (take 512) (drop-drop (512 * i) 512 bytes ∙ ap (λ n. drop n bytes) e)

pub sector_at : (count : ℕ) (bytes : List ℕ) (i : ℕ) → i < count → get_or (first_chunks 512 count bytes) i [] ≡ sector_of bytes i
sector_at count bytes i le = chunk_at count bytes i le ∙ sym (sector_of-take bytes i)
