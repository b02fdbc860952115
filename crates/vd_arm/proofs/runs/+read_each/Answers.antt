use Rattle.std.proofs.Common.{◌≡◌, ◌∙◌, ap, sym, subst, List, ℕ, Some, length, map, arith, rules}
use Rattle.vd_arm.specs.Held.{telling}
use Rattle.vd_arm.specs.Transfers.{TellParts}
use Rattle.vd_arm.proofs.Parts.{first_wide, rest_wide, rest_long, tell_step}
use Rattle.vd_arm.proofs.runs.+read_each.Goals as goal

pub copy_from_slice-requires : goal.copy_from_slice-requires
copy_from_slice-requires g t c =
    let wide = first_wide (λ (pass : g.row.P.Denot). telling (g.P.Holder.held pass)) c.args.size c.args.passes.now c.in-Some.others.now c.in-Some.first.now c.in-Some.ensures.cases.0 c.requires.sized in
    c.split_at_mut-part.ensures.front_len ∙ sym wide ∙ ap length (sym c.held_bytes.ensures)

pub read_each-requires : goal.read_each-requires
read_each-requires g t c =
    let shorter = c.in-Some.ensures.cases.1 in
    let sized = rest_wide (λ (pass : g.row.P.Denot). telling (g.P.Holder.held pass)) c.args.size c.args.passes.now c.in-Some.others.now c.in-Some.first.now c.in-Some.ensures.cases.0 c.requires.sized in
    let long = rest_long (length c.args.passes.now) (length c.in-Some.others.now) c.args.size (length c.args.out.now) (length c.split_at_mut-part.result.1.now) shorter c.requires.long c.split_at_mut-part.ensures.back_len in
    λ κs incl. (omega arith, (incl, (sized, long)))

pub returns : goal.returns
returns g t c =
    let copied : c.copy_from_slice.new.self ≡ (g.P.Holder.held c.in-Some.first.now).bytes = search rules in
    let long : length c.copy_from_slice.new.self ≡ c.args.size = search rules in
    tell_step (λ (pass : g.row.P.Denot). telling (g.P.Holder.held pass)) c.args.size c.args.passes.now c.in-Some.others.now c.in-Some.first.now c.copy_from_slice.new.self c.read_each.new.out c.in-Some.ensures.cases.0
    c.requires.sized long (ap (λ (l : List ℕ). Some l) (sym copied)) c.read_each.ensures
