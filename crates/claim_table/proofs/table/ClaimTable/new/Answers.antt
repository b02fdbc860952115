use Rattle.std.proofs.Common.{rules, sym, subst, ◌∙◌, ◌≡◌, ℕ, List}
use Rattle.claim_table.specs.Openings.{HasEntries, made_with}
use Rattle.claim_table.specs.declared.view.Made.{Made}
use Rattle.claim_table.proofs.FirstState.{starts_with, came_back}
use Rattle.claim_table.proofs.table.ClaimTable.new.Goals as goal

pub new-requires-2 : goal.new-requires-2
new-requires-2 g c =
    let met = g.met.B.Book g.world.𝓛 g.world.𝓜 g.world.𝓡 ((λ s held. held), (λ held. held), (λ held. held), λ held. held) in
    let made : Made = made_with g.P.Pass.seen g.B.Book.seen c.args.store.now c.args.seats c.of.result.value.items c.of-2.result.value in
    let is : made ≡ made_with g.P.Pass.seen g.B.Book.seen c.args.store.now c.args.seats c.args.passes.items c.args.book = λ i. made_with g.P.Pass.seen g.B.Book.seen c.args.store.now c.args.seats (c.of.ensures i).items (c.of-2.ensures i) in
    let Q : ℕ → Type 0 = λ n. HasEntries (g.B.Book.seen c.args.book) n c.deref.result.now in
    let W : List ℕ → Type 0 = λ ws. HasEntries (g.B.Book.seen c.args.book) c.blocks-blocks.result ws in
    starts_with g.P.Pass.seen g.B.Book.seen c.args.store.now c.args.seats c.args.passes.items c.args.book c.in-Ok-new.shelf c.deref.result.now c.slots_of-slots.result.items made is
    (subst Q c.blocks-blocks.ensures.value (subst W (sym c.deref.ensures.value) c.in-Ok.ensures.words)) (met.is_book c.args.book) c.slots_of-slots.ensures.slots c.in-Ok-new.ensures.ok c.requires.passes c.requires.book c.requires.seats.0

pub returns-clause-refused : goal.returns-clause-refused
returns-clause-refused g c =
    let same : c.in-Err-new.field-0.slots.items ≡ c.slots_of-slots.result.items = search rules in
    came_back _ c.args.passes.items c.give_back.result.passes.items c.in-Ok-new.shelf c.args.book c.give_back.result.book (same ∙ c.slots_of-slots.ensures.slots) c.in-Ok-new.ensures.ok c.give_back.ensures
