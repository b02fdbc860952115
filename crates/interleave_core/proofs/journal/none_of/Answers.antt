use Rattle.std.proofs.Common.{refl, sym, ap, ◌∙◌}
use Rattle.std.proofs.lemmas.List.{take_all}
use Rattle.key_state.specs.Entries.{records_of, names_block}
use Rattle.interleave_core.proofs.Stepped.{own_more_none, own_has}
use Rattle.interleave_core.proofs.journal.none_of.Goals as goal

pub loop-made-preserved : goal.loop-made-preserved
loop-made-preserved c =
    own_more_none c.args.block.0 c.loop-made.made-index c.args.records.now c.made-item.result c.loop-made-test.true c.loop-made.invariant
    (ap (names_block c.args.block.0) (sym c.made-item.is) ∙ sym c.names.ensures ∙ c.if-names.false)

pub returns-then-names : goal.returns-then-names
returns-then-names c = (
  λ is. absurd (cc),
  λ none. absurd (own_has c.args.block.0 c.loop-made.made-index c.args.records.now c.made-item.result c.loop-made-test.true
      (ap (names_block c.args.block.0) (sym c.made-item.is) ∙ sym c.names.ensures ∙ c.if-names.true) none),
)

pub returns : goal.returns
returns c = (
  λ is. ap (records_of c.args.block.0) (sym (take_all c.loop-made.made-index c.args.records.now c.loop-made-test.false)) ∙ c.loop-made.invariant,
  λ none. refl,
)
