use Rattle.std.proofs.Common.{◌≡◌, ◌+◌, ◌∙◌, subst, arith, ℕ, List}
use Rattle.vd_base.specs.Geometry.{address_of}
use Rattle.sector_stamp.specs.Image.{IsImage}
use Rattle.sector_stamp.specs.Block.{AreStamped}
use Rattle.sector_stamp.proofs.Blocks.{stamped_more}
use Rattle.sector_stamp.proofs.stamping.stamp_eight.Goals as goal

pub loop-lane-preserved : goal.loop-lane-preserved
loop-lane-preserved c =
    let store = c.args.store.now in
    let block = c.args.block.0 in
    let key = c.args.key in
    let i = c.args.first + c.loop-lane.lane in
    let sector = c.stamp_made.new.out in
    let made : IsImage c.padded.result c.address.result c.get.result sector = c.stamp_made.ensures in
    let named : IsImage store.name c.address.result c.get.result sector = subst (λ (n : List ℕ). IsImage n c.address.result c.get.result sector) c.padded.ensures.value made in
    let placed : IsImage store.name (address_of store.geometry block i) c.get.result sector = subst (λ (a : ℕ). IsImage store.name a c.get.result sector) c.address.ensures.value named in
    let image : IsImage store.name (address_of store.geometry block i) key sector = subst (λ (k : ℕ). IsImage store.name (address_of store.geometry block i) k sector) c.get.ensures.value placed in
    let more = stamped_more store block key i c.loop-lane.out c.put_sector.new.out sector c.loop-lane.invariant.images c.put_sector.ensures.here c.put_sector.ensures.below image in
    let next : i + 1 ≡ c.args.first + (c.loop-lane.lane + 1) = omega arith in
    record {
      long = c.put_sector.ensures.size ∙ c.loop-lane.invariant.long;
      images = subst (λ (n : ℕ). AreStamped store block key c.put_sector.new.out n) next more;
    }
