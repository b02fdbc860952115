use Rattle.std.proofs.Common.{◌≡◌, ◌∙◌, ap, sym, List, ℕ}
use Rattle.std.specs.Prelude.{Some}
use Rattle.vd_yard.specs.Kept.{kept_at}
use Rattle.vd_yard.specs.MemYard.{disks_in}
use Rattle.vd_yard.specs.PathMap.{map_of}
use Rattle.vd_yard.proofs.Opened.{match_on}
use Rattle.vd_yard.proofs.Seen.{seen_at}
use Rattle.vd_yard.proofs.memory.MemYard.disk_at.Goals as goal

pub returns : goal.returns
returns c =
    let disks = map_of c.args.self.now.disks in
    match_on _ _ _ _ c.kept_disk.result
    (λ none. ap (λ (q : List ℕ). kept_at (disks_in disks) q) (sym c.as_bytes.ensures) ∙ none)
    (λ disk found. seen_at disks c.args.path.now c.as_bytes.result.now (Some (Some disk.now)) c.as_bytes.ensures found)
    c.kept_disk.ensures
