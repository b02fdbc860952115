use Rattle.std.proofs.Common.{◌∷◌, [], take, ap, arith}
use Rattle.std.proofs.lemmas.List.Sums.{sum_by-append}
use Rattle.key_state.specs.Entries.{ends, ends_of}
use Rattle.journal_list.specs.Audits.{made_of}
use Rattle.journal_list.proofs.Legal.{take_one}
use Rattle.journal_list.proofs.counts.count_ends.Goals as goal

pub loop-i-preserved : goal.loop-i-preserved
loop-i-preserved c =
    let records = made_of c.args.records.now in
    let made = c.made_at-made.result in
    let i = c.loop-i.i in
    let whole = ap ends (take_one records i made c.made_at-made.ensures) in
    let parts = sum_by-append ends_of (take i records) (made ∷ []) in
    (omega (arith, whole, parts, c.loop-i.invariant.0, c.ends_in-count.ensures.value), omega (arith, c.loop-i.invariant.1, c.ends_in-count.ensures.few))
