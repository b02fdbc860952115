-- A sector begins at a multiple of 512.
use Rattle.std.proofs.Common.{◌≡◌, ℕ, ◌+◌, ◌*◌, ◌%◌, ◌∙◌, sym, ap}
use Rattle.std.proofs.Math.Nat.{add-mul-mod_self_right, mul-zero}
use Rattle.std.proofs.lemmas.Nat.{mul-mod_second}

pub sector_aligned : (block size sector : ℕ) → size % 512 ≡ 0 → (block * size + sector * 512) % 512 ≡ 0
sector_aligned block size sector whole =
    add-mul-mod_self_right (block * size) sector 512
    ∙ (sym (mul-mod_second block size 512) ∙ (ap (λ r. (block * r) % 512) whole ∙ ap (λ n. n % 512) (mul-zero block)))
