use Rattle.std.proofs.Common.{◌≡◌, length}
use Rattle.std.specs.Vec.{vec_capacity, vec_len}
use Rattle.block_ops.specs.Runs.{AreNow}
use Rattle.block_ops.proofs.records.as_in.Given as goal

abbrev pub invariant-loop-k : goal.invariant-loop-k
invariant-loop-k g l = record {
  many : length l.entries.items ≡ l.k;
  len : vec_len l.entries ≡ l.k;
  room : vec_capacity l.entries ≡ vec_capacity l.initial.entries;
  now : AreNow (g.B.Book.seen l.book) l.first.0 l.entries.items;
}
