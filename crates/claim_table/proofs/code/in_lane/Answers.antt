use Rattle.std.proofs.Common.{arith, ◌*◌, ◌%◌}
use Rattle.std.proofs.lemmas.Nat.{shl_whole}
use Rattle.claim_table.proofs.code.in_lane.Goals as goal

pub returns : goal.returns
returns c = shl_whole c.args.code 16 (16 * (c.args.block % 4)) 64 c.requires (omega arith)
