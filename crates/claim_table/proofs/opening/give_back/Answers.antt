use Rattle.std.proofs.Common.{rules, arith, ap, refl, ◌∙◌, ◌≡◌, ◌++◌, ◌∷◌, [], length-append, length}
use Rattle.claim_table.specs.declared.slot.Slot.TheVariants as slot
use Rattle.claim_table.proofs.FirstState.{came_from}
use Rattle.claim_table.proofs.opening.give_back.Goals as goal

pub passes_of-requires : goal.passes_of-requires
passes_of-requires g c = (c.requires.room.0, omega (arith, c.requires.room.1, ap length c.in-Some-Book.ensures.items, length-append c.pop.new.self.items (c.in-Some-Book.field-0 ∷ [])))

pub returns : goal.returns
returns g c =
    let is : c.in-Some-Book.field-0 ≡ slot.Book c.in-Some-Book.shelf = search rules in
    came_from _ c.pop.new.self.items c.pop.new.self.items c.passes_of.result.items c.in-Some-Book.shelf c.take.result c.requires.slots (c.in-Some-Book.ensures.items ∙ ap (λ x. c.pop.new.self.items ++ x ∷ []) is) refl c.passes_of.ensures c.take.ensures
