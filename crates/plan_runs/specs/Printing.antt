-- Why all findings of a worker have lines.
use Rattle.std.specs.Prelude.{ℕ, All, List}
use Rattle.vd_base.specs.declared.geometry.StoreId.{StoreId}
use Rattle.workload_gen.specs.declared.turn.Turn.{Turn}
use Rattle.slave_worker.specs.Standings.{Standing}
use Rattle.slave_worker.specs.Works.{HasWorked}
use Rattle.slave_worker.specs.declared.did.Rules.{Rules}
use Rattle.slave_worker.specs.declared.did.WorkEnd.{WorkEnd}
use Rattle.run_report.specs.Findings.{IsPrintable}

-- What a worker finds is in its store's range.
abbrev pub FindingsHaveLines : Type 0
FindingsHaveLines =
    (rules : Rules) (store : StoreId) (turns : ℕ) (drawn : List Turn) (before after : Standing) (answers : List ℕ) (end : WorkEnd)
    → HasWorked rules store turns drawn before after answers end
    → All (IsPrintable store) before.tally.findings
    → All (IsPrintable store) after.tally.findings
