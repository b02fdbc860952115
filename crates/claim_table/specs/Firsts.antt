-- What a seat's type keeps of its view between calls.
use Rattle.std.specs.Prelude.{ℕ, ◌+◌, ◌-◌, List, [], ◌∷◌}
use Rattle.claim_table.specs.Sums.{total}
use Rattle.claim_table.specs.Views.{blocks_of, bad, done}
use Rattle.claim_table.specs.declared.view.Item.{Item}
use Rattle.claim_table.specs.declared.view.View.{View}

abbrev pub first_of : List View → View
first_of [] = done
first_of (view ∷ _) = view

-- 0 for a block of the store that wasn't found bad
abbrev pub flaw : ℕ → Item → ℕ
flaw blocks i = bad i.was + (i.block + 1 - blocks)

abbrev pub flaws : View → ℕ
flaws view = total (flaw (blocks_of view.made)) view.held
