use Rattle.std.proofs.Common.{◌≡◌, ◌+◌, arith, subst}
use Rattle.journal_layout.specs.Recovery.{IsSlot, IsFirstBad}
use Rattle.journal_recover.proofs.MapPlaces.{first_bad}
use Rattle.journal_recover.proofs.maps.push_entries.Goals as goal

pub returns-in-None-clause-bad : goal.returns-in-None-clause-bad
returns-in-None-clause-bad c = λ k is.
    let same : c.args.first + c.loop-j.j ≡ k = cc in
    subst (λ n. IsFirstBad (IsSlot c.args.sector.now c.args.blocks) c.args.first (c.args.first + 256) n) same
    (first_bad (IsSlot c.args.sector.now c.args.blocks) c.args.blocks c.args.first (c.args.first + c.loop-j.j) (c.args.first + 256) c.loop-j.entries.items
    c.loop-j.invariant.0 (omega arith) (omega arith) c.in-None.ensures)
