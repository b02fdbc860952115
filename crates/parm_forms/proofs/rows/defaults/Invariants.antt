use Rattle.std.proofs.Common.{◌≡◌, map, take}
use Rattle.parm_forms.specs.Presets.{preset_value}
use Rattle.parm_forms.proofs.rows.defaults.Given as goal

abbrev pub invariant-loop-row : goal.invariant-loop-row
invariant-loop-row l = l.values.items ≡ map (λ row. preset_value row.preset) (take l.row-index l.table)
