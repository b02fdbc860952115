-- Hands of verified stores, with the passes that are open and the books of journals.
use Rattle.std.specs.Prelude.{ℕ, ◌+◌, List, [], ◌∷◌, ⊤}
use Rattle.vd_yard.specs.Contents.{AreBlocks}
use Rattle.plan_types.specs.declared.store.StorePlan.{StorePlan}
use Rattle.key_state.specs.declared.seen.BookSeen.{BookSeen}
use Rattle.slave_worker.specs.Hands.{HandSeen}
use Rattle.plan_verified.specs.Stores.{StoreSeen, passes_of}

-- a verified store once its settled entries were taken
abbrev pub emptied : StoreSeen → StoreSeen
emptied left = (passes_of left, [])

-- hands of the passes of these stores and of these books, store by store from a place on; and those of all stores of a plan
abbrev pub seated_from : ℕ → List StoreSeen → List BookSeen → List HandSeen
seated_from place (left ∷ rest) (b ∷ books) = (place, passes_of left, b) ∷ seated_from (place + 1) rest books
seated_from place rest books = []

abbrev pub with_passes : List StoreSeen → List BookSeen → List HandSeen
with_passes left books = seated_from 0 left books

-- The passes of these stores, in order: one for each block.
abbrev pub ArePassed : List StorePlan → List StoreSeen → Type 0
ArePassed [] [] = ⊤
ArePassed (store ∷ stores) (left ∷ rest) = AreBlocks store.id.geometry (passes_of left) × ArePassed stores rest
ArePassed stores rest = ⊥
