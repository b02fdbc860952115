use Rattle.std.proofs.Common.{sym, ap, ◌∙◌, subst}
use Rattle.vd_base.specs.declared.geometry.StoreId.{StoreId}
use Rattle.journal_layout.specs.Recovery.{Gives, Recovers}
use Rattle.vd_disk.specs.Disk.{DiskSeen}
use Rattle.journal_core.proofs.tests.reopen.Goals as goal

pub open_after-requires-clause-found : goal.open_after-requires-clause-found
open_after-requires-clause-found g c = λ x told.
    let same = ap (λ (d : DiskSeen). d.told) c.recovered.ensures.same in
    let got = c.in-Ok.ensures.gives x (sym same ∙ told) in
    let usable = c.in-Ok.ensures.usable in (
      got.0,
      c.in-Ok.left.entries.items,
      subst (λ (id : StoreId). Gives x id (Recovers c.in-Ok.left.live got.0 c.in-Ok.left.entries.items)) (sym usable.is_wanted) got.2,
    )
