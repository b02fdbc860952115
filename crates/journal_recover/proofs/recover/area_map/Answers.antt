use Rattle.std.proofs.Common.{rules, ◌≡◌, ◌≤◌, length, subst, arith}
use Rattle.journal_layout.specs.Recovery.{IsMapSlot, Fills, IsFirstBad, map_places, journal_end, blocks_of}
use Rattle.journal_recover.proofs.recover.area_map.Goals as goal

pub returns-in-Ok-clause-reads : goal.returns-in-Ok-clause-reads
returns-in-Ok-clause-reads g c = λ x told.
    let met = g.met.D.Disk in
    let size = (met.is_tale c.args.disk.now x told).as_many in
    let live = c.args.live.now in
    let room : journal_end live ≤ length x = omega (arith, size, c.end.ensures, c.sectors-sectors.ensures) in
    let blocks = blocks_of live in
    let fills : Fills (IsMapSlot x c.map_begin-at.result blocks) blocks 0 (map_places blocks) c.in-Ok.entries.items = search rules in
    (room, subst (λ a. Fills (IsMapSlot x a blocks) blocks 0 (map_places blocks) c.in-Ok.entries.items) c.map_begin-at.ensures.value fills)

pub returns-in-Err-Place-clause-reads : goal.returns-in-Err-Place-clause-reads
returns-in-Err-Place-clause-reads g c = λ x told.
    let met = g.met.D.Disk in
    let size = (met.is_tale c.args.disk.now x told).as_many in
    let live = c.args.live.now in
    let k = c.in-Err-Place.k in
    let room : journal_end live ≤ length x = omega (arith, size, c.end.ensures, c.sectors-sectors.ensures) in
    let at = c.map_begin-at.ensures.value in
    let blocks = blocks_of live in
    let many : c.blocks-2.result ≡ blocks = c.blocks-2.ensures.value in
    let read : IsFirstBad (IsMapSlot x c.map_begin-at.result c.blocks-2.result) 0 (map_places c.blocks-2.result) k = c.in-Err-Place.ensures.bad k (search rules) x told in
    let bad : IsFirstBad (IsMapSlot x c.map_begin-at.result blocks) 0 (map_places blocks) k =
    subst (λ b. IsFirstBad (IsMapSlot x c.map_begin-at.result b) 0 (map_places b) k) many read in
    (room, (k, subst (λ a. IsFirstBad (IsMapSlot x a blocks) 0 (map_places blocks) k) at bad, omega (arith, at), omega arith))
