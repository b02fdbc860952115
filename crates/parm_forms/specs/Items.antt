-- What one item spells, by the form of its keyword.
use Rattle.std.specs.Prelude.{ℕ, List, Result, Err}
use Rattle.vd_base.specs.Name.{is_store_name}
use Rattle.parm_forms.specs.Forms.{block_size, chosen, is_other_name, number, path, pattern, rate, seconds, seek_percent, size, word}
use Rattle.parm_forms.specs.declared.fault.ParmKind.{ParmKind}
use Rattle.parm_forms.specs.declared.fault.ParmKind.TheVariants.{BadNumber}
use Rattle.parm_forms.specs.declared.form.Form.{Form}
use Rattle.parm_forms.specs.declared.form.Form.TheVariants as form

-- an item that is no number
abbrev pub no_number : List ℕ → Result ℕ ParmKind
no_number item = Err BadNumber

-- the number of an item; a form of texts has none
abbrev pub number_item : Form → List ℕ → Result ℕ ParmKind
number_item (form.Number least greatest) = number least greatest
number_item (form.Numbers least greatest) = number least greatest
number_item form.Size = size
number_item form.Sizes = size
number_item form.BlockSize = block_size
number_item form.BlockSizes = block_size
number_item form.Seconds = seconds
number_item form.Rate = rate
number_item form.SeekPercent = seek_percent
number_item form.Path = no_number
number_item form.Word = no_number
number_item form.Words = no_number
number_item (form.Choice choice) = no_number
number_item (form.Choices choice) = no_number
number_item form.StorePatterns = no_number
number_item form.Patterns = no_number
number_item form.Count = no_number

-- the text of an item; a form of numbers takes any
abbrev pub text_item : Form → List ℕ → Result (List ℕ) ParmKind
text_item (form.Number least greatest) = word
text_item (form.Numbers least greatest) = word
text_item form.Size = word
text_item form.Sizes = word
text_item form.BlockSize = word
text_item form.BlockSizes = word
text_item form.Seconds = word
text_item form.Rate = word
text_item form.SeekPercent = word
text_item form.Path = path
text_item form.Word = word
text_item form.Words = word
text_item (form.Choice choice) = chosen choice
text_item (form.Choices choice) = chosen choice
text_item form.StorePatterns = pattern is_store_name
text_item form.Patterns = pattern is_other_name
text_item form.Count = word
