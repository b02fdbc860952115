-- What the presets of the tables stand for.
use Rattle.std.specs.Prelude.{[], ◌∷◌}
use Rattle.parm_forms.specs.declared.rows.Preset.{Preset}
use Rattle.parm_forms.specs.declared.rows.Preset.TheVariants as preset
use Rattle.parm_forms.specs.declared.value.Value.{Value}
use Rattle.parm_forms.specs.declared.value.Value.TheVariants.{Numbers, Texts}

abbrev pub preset_value : Preset → Value
preset_value preset.NoNumber = Numbers []
preset_value preset.NoText = Texts []
preset_value (preset.Number n) = Numbers (n ∷ [])
preset_value (preset.Text word) = Texts (word.now ∷ [])
