use Rattle.std.proofs.Common.{◌≡◌, ◌≤◌, ◌*◌, map, sum, take}
use Rattle.run_plan.proofs.hosts.slaves_of.Given as goal

abbrev pub invariant-loop-d : goal.invariant-loop-d
invariant-loop-d l = record {
  value : l.slaves ≡ sum (map (λ e. e.jvms) (take l.d-index l.hds));
  least : l.d-index ≤ l.slaves;
  most : l.slaves ≤ 16 * l.d-index;
}
