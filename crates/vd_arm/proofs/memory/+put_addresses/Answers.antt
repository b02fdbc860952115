use Rattle.std.proofs.Common.{◌≡◌, ◌∙◌, ◌+◌, ◌*◌, ◌/◌, ◌%◌, ◌^◌, ◌<◌, ◌++◌, List, ℕ, ap, sym, subst, length, drop, refl, rules}
use Rattle.std.specs.Int.{to_be_bytes, w64}
use Rattle.vd_arm.specs.Addressed.{addressed}
use Rattle.vd_arm.specs.Transfers.{sector_in}
use Rattle.vd_arm.proofs.Addresses.{addressed_cons}
use Rattle.vd_arm.proofs.memory.+put_addresses.Goals as goal

pub returns-clause-each : goal.returns-clause-each
returns-clause-each t c =
    let sector = c.split_at_mut-sector.result.0.now in
    let rest = c.split_at_mut-sector.result.1.now in
    let new = c.copy_from_slice.new.self ++ c.split_at_mut-head.result.1.now in
    let whole : c.args.bytes.now ≡ sector ++ rest = c.split_at_mut-sector.ensures.value in
    let long : length sector ≡ 512 = c.split_at_mut-sector.ensures.front_len in
    let head : c.copy_from_slice.new.self ≡ to_be_bytes w64 c.args.address = search rules in
    let is : new ≡ to_be_bytes w64 c.args.address ++ drop 8 sector = ap (λ (l : List ℕ). l ++ c.split_at_mut-head.result.1.now) head ∙ ap (λ (l : List ℕ). to_be_bytes w64 c.args.address ++ l) c.split_at_mut-head.ensures.back in
    let new_long : length new ≡ 512 = search rules in
    subst (λ (l : List ℕ). (j : ℕ) → j < length l / 512 → sector_in (new ++ c.put_addresses.new.bytes) j ≡ addressed (c.args.address + 512 * j) (sector_in l j)) (sym whole)
    (addressed_cons sector new rest c.put_addresses.new.bytes c.args.address ((c.args.address + 512) % 2 ^ 64) c.ranges.address.fits long new_long is refl c.put_addresses.ensures.each)
