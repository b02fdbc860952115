use Rattle.std.proofs.Common.{rules, refl, arith}
use Rattle.error_limit.proofs.Steps.{answers_allowed}
use Rattle.error_limit.proofs.word.ErrorWord.note.Goals as goal

pub fetch_add-requires : goal.fetch_add-requires
fetch_add-requires c = (search rules, omega (arith, c.args.self.now.one.0), answers_allowed _ _ _ _ _ refl (omega (arith, c.args.seat.now.one)) (omega (arith, c.args.seat.now.one, c.requires.few)))
