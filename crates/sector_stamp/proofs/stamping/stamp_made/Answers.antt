use Rattle.sector_stamp.proofs.Heads.{image_of_parts}
use Rattle.sector_stamp.proofs.stamping.stamp_made.Goals as goal

pub returns : goal.returns
returns c = image_of_parts c.args.name.now c.args.address c.args.key c.head.result c.args.pattern.now c.join.new.out c.join.ensures c.head.ensures c.requires
