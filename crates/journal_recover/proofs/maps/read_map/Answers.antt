use Rattle.std.proofs.Common.{rules, ◌≡◌, ◌+◌, ◌*◌, [], Err, Some, slice_index_or, sym, ap, arith, subst, ◌∙◌}
use Rattle.std.proofs.lemmas.Option.{get_or_from_slice_get}
use Rattle.vd_disk.specs.Disk.{DiskSeen}
use Rattle.journal_layout.specs.Recovery.{IsSlot, IsMapSlot, Fills, map_places}
use Rattle.journal_recover.specs.declared.parts.MapFault.TheVariants.{Place}
use Rattle.journal_recover.proofs.MapPlaces.{joined, read_as, bad_joined, sector_of_place, place_of_sector, valid_joined}
use Rattle.journal_recover.proofs.maps.read_map.Goals as goal

pub loop-i-preserved : goal.loop-i-preserved
loop-i-preserved g c = record {
  seen = search rules;
  so_far = omega (arith, c.in_ok-push_entries.ensures.ok.0.one_each);
  valid = valid_joined c.read.new.out c.args.blocks (256 * c.loop-i.i) c.loop-i.entries.items c.push_entries.new.entries.items
      c.loop-i.invariant.so_far c.loop-i.invariant.valid c.in_ok-push_entries.ensures.ok.0 c.in_ok-push_entries.ensures.ok.1;
  filled = λ x is.
      let i = c.loop-i.i in
      let blocks = c.args.blocks in
      let at = c.args.at in
      let told : (g.D.Disk.seen c.loop-i.disk).told ≡ Some x = ap (λ (d : DiskSeen). d.told) c.loop-i.invariant.seen ∙ is in
      let sector : c.read.new.out ≡ slice_index_or x (at + i) [] = sym (get_or_from_slice_get x (at + i) c.read.new.out [] (c.in_ok-read.ensures.gives x told)) in
      let took = c.in_ok-push_entries.ensures.ok in
      let next : 256 * i + 256 ≡ 256 * (i + 1) = omega arith in
      let back : Fills (IsMapSlot x at blocks) blocks (256 * i) (256 * i + 256) c.push_entries.new.entries.items =
      read_as (IsSlot c.read.new.out blocks) blocks (IsMapSlot x at blocks) (256 * i) (256 * i + 256) _ (sector_of_place x at blocks i c.read.new.out sector) took.0 in
      subst (λ n. Fills (IsMapSlot x at blocks) blocks 0 n c.push_entries.new.entries.items) next
      (joined (IsMapSlot x at blocks) blocks (256 * i) (256 * i + 256) c.loop-i.entries.items c.push_entries.new.entries.items (omega arith) (c.loop-i.invariant.filled x is) back took.1);
}

pub returns-in_err-push_entries-clause-bad : goal.returns-in_err-push_entries-clause-bad
returns-in_err-push_entries-clause-bad g c = λ k is x told.
    let i = c.loop-i.i in
    let blocks = c.args.blocks in
    let at = c.args.at in
    let gave : c.push_entries.result ≡ Err (Place k) = search rules in
    let told_then : (g.D.Disk.seen c.loop-i.disk).told ≡ Some x = ap (λ (d : DiskSeen). d.told) c.loop-i.invariant.seen ∙ told in
    let sector : c.read.new.out ≡ slice_index_or x (at + i) [] = sym (get_or_from_slice_get x (at + i) c.read.new.out [] (c.in_ok-read.ensures.gives x told_then)) in
    bad_joined (IsMapSlot x at blocks) blocks (IsSlot c.read.new.out blocks) (256 * i) (256 * i + 256) (map_places blocks) k c.loop-i.entries.items
    (omega arith) (c.loop-i.invariant.filled x told)
    (sector_of_place x at blocks i c.read.new.out sector) (place_of_sector x at blocks i c.read.new.out sector)
    (c.push_entries.ensures.bad k gave)
