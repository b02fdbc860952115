use Rattle.std.proofs.Common.{rules, arith, ap, ◌∙◌, ℕ, List}
use Rattle.claim_table.specs.Lanes.{shifted}
use Rattle.claim_table.proofs.FirstState.{packed_more, zeros, no_codes, value_at}
use Rattle.claim_table.proofs.opening.packed.Goals as goal

pub loop-block-init : goal.loop-block-init
loop-block-init g c =
    let ws : List ℕ = c.in_ok-words.words.items in
    let none-set = c.in_ok-words.ensures.1 in
    record { wide = c.in_ok-words.ensures.0; unlocked = zeros ws 0 none-set; codes = λ b low. absurd (omega arith); left = λ b _. no_codes ws b none-set }

pub index_mut-requires : goal.index_mut-requires
index_mut-requires g c = omega (arith, c.word_index-at.ensures, c.loop-block.invariant.wide, c.loop-block-test.true)

pub loop-block-preserved : goal.loop-block-preserved
loop-block-preserved g c =
    packed_more (g.B.Book.seen c.args.book.now) c.args.blocks c.loop-block.block c.loop-block.words.items c.word_index-at.result c.index_mut.result.now c.in_lane.result c.entry.result c.loop-block.invariant (omega (arith, c.loop-block-test.true))
    c.word_index-at.ensures
    (value_at c.loop-block.words.items c.word_index-at.result c.index_mut.result.now (omega (arith, c.word_index-at.ensures, c.loop-block.invariant.wide, c.loop-block-test.true)) (search (rules, c.index_mut.ensures.value))) (c.in_lane.ensures ∙ ap (shifted c.loop-block.block) c.encode.ensures.code) c.entry.ensures c.encode.ensures.keys

pub returns : goal.returns
returns g c = let i = c.loop-block.invariant in record { wide = i.wide; unlocked = i.unlocked; codes = λ b low. i.codes b (omega arith) }
