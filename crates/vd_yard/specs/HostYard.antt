-- What a yard of real files lets contracts see: what is out, and the counts.
use Rattle.std.specs.Prelude.{false, None}
use Rattle.vd_yard.specs.Yard.{YardSeen}
use Rattle.vd_yard.specs.Kept.{nothing_kept}
use Rattle.vd_yard.specs.Ledger.{ledger_out, ledger_counts}
use Rattle.vd_yard.specs.declared.host.HostYard.{HostYard}

abbrev pub host_yard_seen : HostYard → YardSeen
host_yard_seen yard = record {
  faults = yard.faults;
  out = ledger_out yard.ledger;
  counts = ledger_counts yard.ledger;
  tells = record { bytes = λ path. None; sure = λ kind path. false; keeps_disks = false; keeps_contents = false };
  willing = false;
  files = record { at = λ kind path. false };
  disks = nothing_kept;
  contents = nothing_kept;
}
