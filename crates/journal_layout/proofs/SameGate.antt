-- A sector is at most one gate.
use Rattle.std.proofs.Common.{◌≡◌, ◌+◌, ◌<◌, ◌^◌, ℕ, List, arith, get_or, sym, ap, ◌∙◌}
use Rattle.std.specs.Int.{w16, w32, w64, from_be_bytes, to_be_bytes}
use Rattle.std.proofs.lemmas.Nat.{from_be_bytes-to_be_bytes_8, from_be_bytes-to_be_bytes_4, from_be_bytes-to_be_bytes_2}
use Rattle.journal_layout.specs.declared.gate.Gate.{Gate}
use Rattle.journal_layout.specs.Gate.{IsGate}
use Rattle.journal_layout.specs.Recovery.{Sectors, HasGate}

pub same_eight : (m n : ℕ) → m < 2 ^ 64 → n < 2 ^ 64 → to_be_bytes w64 m ≡ to_be_bytes w64 n → m ≡ n
same_eight m n a b same = sym (from_be_bytes-to_be_bytes_8 m a) ∙ ap (from_be_bytes w64) same ∙ from_be_bytes-to_be_bytes_8 n b

pub same_four : (m n : ℕ) → m < 2 ^ 32 → n < 2 ^ 32 → to_be_bytes w32 m ≡ to_be_bytes w32 n → m ≡ n
same_four m n a b same = sym (from_be_bytes-to_be_bytes_4 m a) ∙ ap (from_be_bytes w32) same ∙ from_be_bytes-to_be_bytes_4 n b

pub same_two : (m n : ℕ) → m < 2 ^ 16 → n < 2 ^ 16 → to_be_bytes w16 m ≡ to_be_bytes w16 n → m ≡ n
same_two m n a b same = sym (from_be_bytes-to_be_bytes_2 m a) ∙ ap (from_be_bytes w16) same ∙ from_be_bytes-to_be_bytes_2 n b

pub same_gate : (area : ℕ) (sector : List ℕ) (a b : Gate) → IsGate area sector a → IsGate area sector b → a ≡ b
same_gate area sector a b is_a is_b =
    let last : 48 + a.version ≡ 48 + b.version = ap (λ (l : List ℕ). get_or l 7 0) (sym is_a.magic ∙ is_b.magic) in
    let version : a.version ≡ b.version = omega (arith, last) in
    let epoch = same_eight a.epoch b.epoch (omega (arith, is_a.within.epoch)) (omega (arith, is_b.within.epoch)) (sym is_a.epoch ∙ is_b.epoch) in
    let name = sym is_a.id.name ∙ is_b.id.name in
    let blocks = same_four a.id.geometry.blocks b.id.geometry.blocks (omega (arith, is_a.id.is_geometry.few_blocks)) (omega (arith, is_b.id.is_geometry.few_blocks)) (sym is_a.id.blocks ∙ is_b.id.blocks) in
    let block_size = same_four a.id.geometry.block_size b.id.geometry.block_size (omega (arith, is_a.id.is_geometry.few_bytes)) (omega (arith, is_b.id.is_geometry.few_bytes)) (sym is_a.id.block_size ∙ is_b.id.block_size) in
    let log_sectors = same_four a.log_sectors b.log_sectors (omega (arith, is_a.within.few_logs)) (omega (arith, is_b.within.few_logs)) (sym is_a.log_sectors ∙ is_b.log_sectors) in
    λ i. record { version = version i; epoch = epoch i; id = record { name = name i; geometry = record { blocks = blocks i; block_size = block_size i } }; log_sectors = log_sectors i }

-- an area has one gate
pub one_gate : (sectors : Sectors) (area : ℕ) (a b : Gate) → HasGate sectors area a → HasGate sectors area b → a ≡ b
one_gate sectors area a b is_a is_b = same_gate area _ a b is_a.is_gate is_b.is_gate
