use Rattle.std.proofs.Common.{rules, arith, ap, sym, subst, ◌∙◌, ◌≡◌, ◌<◌, ◌+◌, false, get_or, ℕ, List}
use mathlib.Core.Option.{some, some-injective}
use lib.ListN.{get_elem?}
use Rattle.std.specs.Slots.{slots_items}
use Rattle.claim_table.specs.declared.slot.Slot.{Slot}
use Rattle.claim_table.specs.declared.slot.Slot.TheVariants as slot
use Rattle.claim_table.proofs.Taking.{still_full, more_gone, more_taken}
use Rattle.claim_table.proofs.closing.take_passes.Goals as goal

pub unreachable-requires : goal.unreachable-requires
unreachable-requires g c = let i = c.loop-block.invariant in let t = c.requires.passes c.loop-block.block (search rules) in
    let same : c.take.result ≡ slot.Pass t.0 = some-injective c.take.result (slot.Pass t.0) (sym c.take.ensures.value ∙ (ap (λ (xs : List (Slot g.row.P.Denot g.row.B.Denot)). get_elem? xs c.loop-block.block) i.items ∙ t.1)) in
    c.in_default.not-Pass t.0 same

pub loop-block-preserved : goal.loop-block-preserved
loop-block-preserved g c = let i = c.loop-block.invariant in let t = c.take.ensures in let n : ℕ = c.loop-block.block in record {
  items = search rules;
  len = search rules;
  full = λ k low high. ap (λ fs. get_or fs k false) t.others.1 ∙ still_full _ n _ i.full k low (subst (λ (x : ℕ). k < x) t.others.2 high);
  gone = λ k low. ap (λ fs. get_or fs k false) t.others.1 ∙ more_gone _ n i.gone k low;
  many = search rules;
  room = search rules;
  list = search rules;
  each = let here : get_elem? (slots_items c.args.closed.now.slots) n ≡ some (slot.Pass c.in-Pass.pass) = ap (λ (xs : List (Slot g.row.P.Denot g.row.B.Denot)). get_elem? xs n) (sym i.items) ∙ (t.value ∙ ap some c.in-Pass.is) in
      let F : List g.row.P.Denot → Type 0 = λ r. (k : ℕ) → k < n + 1 → (q : g.row.P.Denot) × (get_elem? r k ≡ some q) × (get_elem? (slots_items c.args.closed.now.slots) k ≡ some (slot.Pass q)) in
      subst F (sym c.push_reserved.ensures.items) (more_taken _ c.loop-block.room.items n c.in-Pass.pass i.many here i.each);
}

pub returns-clause-each : goal.returns-clause-each
returns-clause-each g c = λ k low. c.loop-block.invariant.each k (omega arith)
