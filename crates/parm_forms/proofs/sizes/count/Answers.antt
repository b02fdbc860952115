use Rattle.std.proofs.lemmas.Result.{err_from_is_err_and}
use Rattle.parm_forms.proofs.Pairs.{first_fault}
use Rattle.parm_forms.proofs.sizes.count.Goals as goal

pub returns-in_err-first-in-len2 : goal.returns-in_err-first-in-len2
returns-in_err-first-in-len2 c =
    let p = err_from_is_err_and c.from_residual.result c.from_residual.ensures.1 in
    rw (p.1, p.2) (first_fault c.args.bytes.now c.args.items.now (record { at = 0; len = 0 }) _ c.in-len2.len_at_least c.in-len2.len_below (rw c.bytes_in.ensures at c.in_err-first-in-len2.ensures))
