use Rattle.std.proofs.Common.{◌≡◌, take, fold, w64}
use Rattle.std.specs.Prelude.{bit_xor}
use Rattle.std.specs.Int.{to_be_bytes}
use Rattle.sector_stamp.proofs.heading.check.Given as goal

abbrev pub invariant-loop-byte : goal.invariant-loop-byte
invariant-loop-byte l = record {
  whole : l.byte-items ≡ to_be_bytes w64 l.address;
  so_far : l.all ≡ fold bit_xor l.key (take l.byte-index l.byte-items);
}
