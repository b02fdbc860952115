-- The answers of `Tree::new`.
use Rattle.std.proofs.Common.{List, ℕ, ap, arith}
use Rattle.anchor_tree.proofs.Trees.{made}
use Rattle.anchor_tree.proofs.tree.Tree.new.Goals as goal

pub overflow_cast-result-2 : goal.overflow_cast-result-2
overflow_cast-result-2 c =
    let tree =
    made (record { anchor = c.args.anchor; depth = c.args.depth; width = c.args.width; files = c.args.files; distribution = c.args.distribution; hundred = c.in_ok-hundred.hundred.items }) c.args.sizes.items
    c.as_slice.result.now c.as_slice-2.result.now c.as_slice-3.result.now c.is_empty.result c.percents-sum.result c.of-counts.result.directories c.of-counts.result.bottom c.holders.result c.from.result c.saturating_mul-all.result
    c.as_slice.ensures.value c.is_empty.ensures c.if-is_empty.false c.as_slice-2.ensures.value c.percents-sum.ensures c.if-sum-ne100.false c.of-counts.ensures.directories c.of-counts.ensures.bottom
    c.holders.ensures c.from.ensures c.saturating_mul-all.ensures c.if-directories-gt65536.false c.if-all-gt1048576.false c.as_slice-3.ensures.value c.in_ok-hundred.ensures.value c.in_ok-hundred.ensures.some in
    omega (arith, tree.small)

pub invariant_of-result : goal.invariant_of-result
invariant_of-result c =
    let tree =
    made (record { anchor = c.args.anchor; depth = c.args.depth; width = c.args.width; files = c.args.files; distribution = c.args.distribution; hundred = c.in_ok-hundred.hundred.items }) c.args.sizes.items
    c.as_slice.result.now c.as_slice-2.result.now c.as_slice-3.result.now c.is_empty.result c.percents-sum.result c.of-counts.result.directories c.of-counts.result.bottom c.holders.result c.from.result c.saturating_mul-all.result
    c.as_slice.ensures.value c.is_empty.ensures c.if-is_empty.false c.as_slice-2.ensures.value c.percents-sum.ensures c.if-sum-ne100.false c.of-counts.ensures.directories c.of-counts.ensures.bottom
    c.holders.ensures c.from.ensures c.saturating_mul-all.ensures c.if-directories-gt65536.false c.if-all-gt1048576.false c.as_slice-3.ensures.value c.in_ok-hundred.ensures.value c.in_ok-hundred.ensures.some in
    tree.keeps

pub returns-clause-made : goal.returns-clause-made
returns-clause-made c =
    let tree =
    made (record { anchor = c.args.anchor; depth = c.args.depth; width = c.args.width; files = c.args.files; distribution = c.args.distribution; hundred = c.in_ok-hundred.hundred.items }) c.args.sizes.items
    c.as_slice.result.now c.as_slice-2.result.now c.as_slice-3.result.now c.is_empty.result c.percents-sum.result c.of-counts.result.directories c.of-counts.result.bottom c.holders.result c.from.result c.saturating_mul-all.result
    c.as_slice.ensures.value c.is_empty.ensures c.if-is_empty.false c.as_slice-2.ensures.value c.percents-sum.ensures c.if-sum-ne100.false c.of-counts.ensures.directories c.of-counts.ensures.bottom
    c.holders.ensures c.from.ensures c.saturating_mul-all.ensures c.if-directories-gt65536.false c.if-all-gt1048576.false c.as_slice-3.ensures.value c.in_ok-hundred.ensures.value c.in_ok-hundred.ensures.some in
    ap (λ (hundred : List ℕ). record { anchor = c.args.anchor; depth = c.args.depth; width = c.args.width; files = c.args.files; distribution = c.args.distribution; hundred = hundred }) tree.hundred

pub returns-clause-limits : goal.returns-clause-limits
returns-clause-limits c =
    let tree =
    made (record { anchor = c.args.anchor; depth = c.args.depth; width = c.args.width; files = c.args.files; distribution = c.args.distribution; hundred = c.in_ok-hundred.hundred.items }) c.args.sizes.items
    c.as_slice.result.now c.as_slice-2.result.now c.as_slice-3.result.now c.is_empty.result c.percents-sum.result c.of-counts.result.directories c.of-counts.result.bottom c.holders.result c.from.result c.saturating_mul-all.result
    c.as_slice.ensures.value c.is_empty.ensures c.if-is_empty.false c.as_slice-2.ensures.value c.percents-sum.ensures c.if-sum-ne100.false c.of-counts.ensures.directories c.of-counts.ensures.bottom
    c.holders.ensures c.from.ensures c.saturating_mul-all.ensures c.if-directories-gt65536.false c.if-all-gt1048576.false c.as_slice-3.ensures.value c.in_ok-hundred.ensures.value c.in_ok-hundred.ensures.some in
    tree.keeps.limits

pub returns-clause-refused : goal.returns-clause-refused
returns-clause-refused c =
    let tree =
    made (record { anchor = c.args.anchor; depth = c.args.depth; width = c.args.width; files = c.args.files; distribution = c.args.distribution; hundred = c.in_ok-hundred.hundred.items }) c.args.sizes.items
    c.as_slice.result.now c.as_slice-2.result.now c.as_slice-3.result.now c.is_empty.result c.percents-sum.result c.of-counts.result.directories c.of-counts.result.bottom c.holders.result c.from.result c.saturating_mul-all.result
    c.as_slice.ensures.value c.is_empty.ensures c.if-is_empty.false c.as_slice-2.ensures.value c.percents-sum.ensures c.if-sum-ne100.false c.of-counts.ensures.directories c.of-counts.ensures.bottom
    c.holders.ensures c.from.ensures c.saturating_mul-all.ensures c.if-directories-gt65536.false c.if-all-gt1048576.false c.as_slice-3.ensures.value c.in_ok-hundred.ensures.value c.in_ok-hundred.ensures.some in
    tree.allowed
