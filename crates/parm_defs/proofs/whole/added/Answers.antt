use Rattle.std.proofs.Common.{◌≡◌, ◌∙◌, ap, false, true}
use Rattle.std.specs.List.{list_all, list_any}
use Rattle.parm_defs.specs.Checks.{has_name, is_name, is_remote}
use Rattle.parm_defs.proofs.WholeChecks.{at_line, remote_host, tested}
use Rattle.parm_defs.proofs.whole.added.Goals as goal

pub returns-then-is_any_remote : goal.returns-then-is_any_remote
returns-then-is_any_remote c =
    let kind = c.args.kind in
    let defs = c.args.defs.items in
    let before = c.args.so_far.defs in
    let named : list_all (λ d. is_name kind d.name) defs ≡ true = tested (list_all (λ d. is_name kind d.name)) c.are_names.ensures c.deref.ensures.value c.if-not-are_names.false in
    let taken : list_any (λ d. has_name before d.name) defs ≡ false =
    tested (list_any (λ d. has_name before d.name)) (c.is_taken.ensures ∙ ap (λ xs. list_any (λ d. has_name xs d.name) c.deref-2.result.now) c.as_slice-before.ensures) c.deref-2.ensures.value c.if-is_taken.false in
    let remote : list_any (λ d. is_remote kind d.values) defs ≡ true = tested (list_any (λ d. is_remote kind d.values)) c.is_any_remote.ensures c.deref-3.ensures.value c.if-is_any_remote.true in
    at_line _ _ _ c.at-then-is_any_remote.ensures (remote_host kind c.args.so_far c.args.line defs named taken remote)
