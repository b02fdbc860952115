-- A sector that carries an address.
use Rattle.std.specs.Prelude.{ℕ, ◌%◌, ◌^◌, ◌++◌, List, drop}
use Rattle.std.specs.Int.{to_be_bytes, w64}

-- the sector with this address, modulo 2^64, in its bytes 0 to 7
abbrev pub addressed : ℕ → List ℕ → List ℕ
addressed address sector = to_be_bytes w64 (address % 2 ^ 64) ++ drop 8 sector
