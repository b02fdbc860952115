use Rattle.std.proofs.Common.{◌∙◌, ap, refl}
use Rattle.vd_yard.specs.Held.{bytes_held}
use Rattle.vd_yard.specs.Kept.{kept_at, kept_at_kept_of}
use Rattle.vd_yard.specs.Ledger.{ledger_out}
use Rattle.vd_yard.specs.MemYard.{disk_seen}
use Rattle.vd_yard.specs.Out.{AtDisk, AtPasses}
use Rattle.vd_yard.specs.PathMap.{map_of}
use Rattle.vd_yard.specs.SourceFile.{file_bytes}
use Rattle.vd_yard.proofs.Opened.{none_there, empty_at, all_sure, none_is_there}
use Rattle.vd_yard.specs.Refusals.{all_came}
use Rattle.vd_yard.proofs.memory.MemYard.new.Goals as goal

pub invariant_of-result : goal.invariant_of-result
invariant_of-result c = record {
  disks_there = none_there AtDisk (ledger_out c.new.result) (map_of c.new-3.result) c.new.ensures.out;
  contents_there = none_there AtPasses (ledger_out c.new.result) (map_of c.new-4.result) c.new.ensures.out;
}

pub returns : goal.returns
returns c = record {
  faults = refl;
  out = c.new.ensures.out;
  counts = c.new.ensures.counts;
  bytes = λ q. ap file_bytes (empty_at (map_of c.new-2.result) c.new-2.ensures q);
  sure = λ kind q. all_sure (map_of c.new-2.result) (map_of c.new-5.result) c.new-2.ensures c.new-5.ensures kind q;
  keeps_disks = refl;
  keeps_contents = refl;
  willing = ap all_came c.new-7.ensures;
  files = λ kind q. none_is_there (map_of c.new-2.result) (map_of c.new-3.result) (map_of c.new-4.result) c.new-2.ensures c.new-3.ensures c.new-4.ensures kind q;
  disks = λ q. kept_at_kept_of (λ p. disk_seen (kept_at (map_of c.new-3.result) p)) q ∙ ap disk_seen (empty_at (map_of c.new-3.result) c.new-3.ensures q);
  contents = λ q. kept_at_kept_of (λ p. bytes_held (kept_at (map_of c.new-4.result) p)) q ∙ ap bytes_held (empty_at (map_of c.new-4.result) c.new-4.ensures q);
}
