use Rattle.std.proofs.Common.{rules, arith, ap, sym, ◌∙◌, ◌++◌, ◌∷◌, [], length}
use Rattle.std.proofs.lemmas.Iterator.Adapters.{YieldsList-from_vec}
use Rattle.std.proofs.lemmas.Iterator.Consumers.{YieldsList-turn}
use Rattle.claim_table.specs.Openings.{passes_in}
use Rattle.claim_table.proofs.FirstState.{passes_append, passes_few}
use Rattle.claim_table.proofs.opening.passes_of.Goals as goal

pub with_pass-room-requires : goal.with_pass-room-requires
with_pass-room-requires g c =
    let i = c.loop-slot.invariant in
    let turn = YieldsList-turn (YieldsList-from_vec {s = c.into_iter-slot-iterator.result} c.args.slots.items (search rules) (search rules)) c.loop-slot.yielded c.loop-slot.slot-iterator c.loop-slot.yielded_by c.next.result c.next.new.self c.in-Some.slot c.in-Some.is c.next.ensures.steps in
    omega (arith, ap length i.0, i.1, c.requires.1, passes_few c.loop-slot.yielded, turn.0)

pub loop-slot-preserved : goal.loop-slot-preserved
loop-slot-preserved g c =
    let i = c.loop-slot.invariant in
    (c.with_pass-room.ensures.items ∙ (ap (λ xs. xs ++ passes_in (c.in-Some.slot ∷ [])) i.0 ∙ sym (passes_append c.loop-slot.yielded c.in-Some.slot)), c.with_pass-room.ensures.capacity ∙ i.1)
