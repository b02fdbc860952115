use Rattle.std.proofs.Common.{◌∙◌, subst, ℕ}
use Rattle.sector_stamp.specs.Image.{IsImage}
use Rattle.sector_stamp.proofs.Blocks.{stamped_more}
use Rattle.sector_stamp.proofs.stamping.stamp_rest.Goals as goal

pub loop-i-preserved : goal.loop-i-preserved
loop-i-preserved c =
    let store = c.args.store.now in
    record {
      long = c.put_sector.ensures.size ∙ c.loop-i.invariant.long;
      images = stamped_more store c.args.block.0 c.args.key c.loop-i.i c.loop-i.out c.put_sector.new.out c.stamp.new.out c.loop-i.invariant.images c.put_sector.ensures.here c.put_sector.ensures.below
          (subst (λ (a : ℕ). IsImage store.name a c.args.key c.stamp.new.out) c.address.ensures.value c.stamp.ensures);
    }
