use Rattle.std.proofs.Common.{◌≡◌, ◌∙◌, ap, sym, subst, List, ℕ, Some, drop, length, map, arith}
use Rattle.vd_arm.specs.Held.{Held, telling}
use Rattle.vd_arm.specs.Transfers.{TookParts}
use Rattle.vd_arm.proofs.Parts.{first_wide, rest_wide, rest_long, took_step}
use Rattle.vd_arm.proofs.runs.+write_each.Goals as goal

pub put-requires : goal.put-requires
put-requires g t c =
    c.split_at.ensures.front_len
    ∙ sym (first_wide (λ (pass : g.row.P.Denot). telling (g.P.Holder.held pass)) c.args.size c.args.passes.now c.in-Some.others.now c.in-Some.first.now c.in-Some.ensures.cases.0 c.requires.sized)

pub write_each-requires : goal.write_each-requires
write_each-requires g t c =
    let shorter = c.in-Some.ensures.cases.1 in
    let sized = rest_wide (λ (pass : g.row.P.Denot). telling (g.P.Holder.held pass)) c.args.size c.args.passes.now c.in-Some.others.now c.in-Some.first.now c.in-Some.ensures.cases.0 c.requires.sized in
    let long = rest_long (length c.args.passes.now) (length c.in-Some.others.now) c.args.size (length c.args.bytes.now) (length c.split_at.result.1.now) shorter c.requires.long c.split_at.ensures.back_len in
    λ κs incl. (omega arith, (incl, (sized, long)))

pub returns-clause-took : goal.returns-clause-took
returns-clause-took g t c =
    took_step (λ (pass : g.row.P.Denot). telling (g.P.Holder.held pass)) c.args.size c.args.bytes.now c.args.passes.now c.in-Some.others.now c.in-Some.first.now (telling (g.P.Holder.held c.put.new.self)) (map (λ (pass : g.row.P.Denot). telling (g.P.Holder.held pass)) c.write_each.new.passes)
    c.in-Some.ensures.cases.0 c.requires.sized
    (ap (λ (h : Held). (telling h).told) c.put.ensures ∙ ap (λ (l : List ℕ). Some l) c.split_at.ensures.front)
    (subst (λ (l : List ℕ). TookParts l (map (λ (pass : g.row.P.Denot). telling (g.P.Holder.held pass)) c.in-Some.others.now) (map (λ (pass : g.row.P.Denot). telling (g.P.Holder.held pass)) c.write_each.new.passes)) c.split_at.ensures.back c.write_each.ensures.took)
