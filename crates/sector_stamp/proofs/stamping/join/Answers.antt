use Rattle.std.proofs.Common.{arith, length-take, length-drop, drop}
use Rattle.sector_stamp.proofs.Heads.{put_two}
use Rattle.sector_stamp.proofs.stamping.join.Goals as goal

pub returns : goal.returns
returns c =
    put_two c.copy_from_slice.new.self (drop 32 c.args.out.now) c.copy_from_slice-2.new.self c.args.head.now c.args.pattern.now
    (omega (arith, length-take 32 c.args.out.now)) (omega (arith, length-drop 32 c.args.out.now)) c.copy_from_slice.ensures.after c.copy_from_slice-2.ensures.after
