use Rattle.std.proofs.Common.{arith, ap, length}
use Rattle.error_limit.proofs.Steps.{splits}
use Rattle.error_limit.proofs.word.ErrorWord.deal.Goals as goal

pub split_seat-seat-requires : goal.split_seat-seat-requires
split_seat-seat-requires c = let i = c.loop.invariant in (i.of, omega (arith, c.args.self.now.one.0), splits _ _ _ (omega (arith, i.left)) (ap length i.none_noted))
