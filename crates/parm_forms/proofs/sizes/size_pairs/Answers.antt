use Rattle.parm_forms.proofs.Pairs.{no_pair, pairs_kept}
use Rattle.parm_forms.proofs.sizes.size_pairs.Goals as goal

pub returns-in-len1 : goal.returns-in-len1
returns-in-len1 c = no_pair _ _ c.loop-rest.rest.now c.loop-rest.numbers.items c.loop-rest.invariant c.in-len1.len_at_least c.in-len1.len_below

pub loop-rest-preserved : goal.loop-rest-preserved
loop-rest-preserved c =
    pairs_kept c.args.bytes.now c.args.items.now c.loop-rest.rest.now (record { at = 0; len = 0 }) c.loop-rest.numbers.items c.push.new.self.items c.push-in-len2-up.new.self.items
    c.in_ok-size-in-len2-up.field-0 c.in_ok-number-in-len2-up.field-0 c.loop-rest.invariant c.in-len2-up.len_at_least
    (rw c.bytes_in.ensures at c.in_ok-size-in-len2-up.ensures) (rw c.bytes_in-in-len2-up.ensures at c.in_ok-number-in-len2-up.ensures)
    c.in_ok-push-in-len2-up.ensures.items c.in_ok-push-in-len2-up-2.ensures.items
