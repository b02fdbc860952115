use Rattle.std.proofs.Common.{◌≡◌, ◌∙◌, ◌-◌, ◌*◌, ◌/◌, ◌≤◌, ap, sym, subst, List, ℕ, Some, drop, length, map, min, refl, rules, take, arith}
use Rattle.vd_arm.specs.Held.{Held, TookSectors, first_sectors, telling}
use Rattle.vd_arm.proofs.Parts.{first_wide, rest_wide, rest_long, front_long, same_step, torn_step}
use Rattle.vd_arm.proofs.runs.+write_first_sectors.Goals as goal

pub put_front-requires-clause-long : goal.put_front-requires-clause-long
put_front-requires-clause-long g t c =
    c.split_at.ensures.front_len
    ∙ sym (first_wide (λ (pass : g.row.P.Denot). telling (g.P.Holder.held pass)) c.args.size c.args.passes.now c.in-Some.others.now c.in-Some.first.now c.in-Some.ensures.cases.0 c.requires.sized)

pub put_front-requires-clause-within : goal.put_front-requires-clause-within
put_front-requires-clause-within g t c =
    let wide = first_wide (λ (pass : g.row.P.Denot). telling (g.P.Holder.held pass)) c.args.size c.args.passes.now c.in-Some.others.now c.in-Some.first.now c.in-Some.ensures.cases.0 c.requires.sized in
    let few : 512 * c.min-here.result ≤ c.args.size = omega arith in
    subst (λ n. 512 * c.min-here.result ≤ n) (sym wide) few

pub write_first_sectors-requires : goal.write_first_sectors-requires
write_first_sectors-requires g t c =
    let shorter = c.in-Some.ensures.cases.1 in
    let sized = rest_wide (λ (pass : g.row.P.Denot). telling (g.P.Holder.held pass)) c.args.size c.args.passes.now c.in-Some.others.now c.in-Some.first.now c.in-Some.ensures.cases.0 c.requires.sized in
    let long = rest_long (length c.args.passes.now) (length c.in-Some.others.now) c.args.size (length c.args.bytes.now) (length c.split_at.result.1.now) shorter c.requires.long c.split_at.ensures.back_len in
    λ κs incl. (omega arith, (incl, (sized, long)))

pub returns-clause-blocks : goal.returns-clause-blocks
returns-clause-blocks g t c =
    let was = (g.P.Holder.held c.in-Some.first.now).bytes in
    let wide : length was ≡ c.args.size = first_wide (λ (pass : g.row.P.Denot). telling (g.P.Holder.held pass)) c.args.size c.args.passes.now c.in-Some.others.now c.in-Some.first.now c.in-Some.ensures.cases.0 c.requires.sized in
    let end = 512 * c.min-here.result in
    let within : end ≤ length was = omega arith in
    same_step (λ (pass : g.row.P.Denot). telling (g.P.Holder.held pass)) c.args.passes.now c.in-Some.others.now c.in-Some.first.now (telling (g.P.Holder.held c.put_front.new.self)) (map (λ (pass : g.row.P.Denot). telling (g.P.Holder.held pass)) c.write_first_sectors.new.passes)
    c.in-Some.ensures.cases.0 (ap (λ (h : Held). h.block) c.put_front.ensures)
    (ap (λ (h : Held). length h.bytes) c.put_front.ensures ∙ front_long end c.split_at.result.0.now was (c.split_at.ensures.front_len ∙ sym wide) within) c.write_first_sectors.ensures.blocks

pub returns-clause-took : goal.returns-clause-took
returns-clause-took g t c =
    let size = c.args.size in
    let many = c.args.many in
    let held = (g.P.Holder.held c.in-Some.first.now).bytes in
    let here : c.min-here.result ≡ min many (size / 512) = search rules in
    torn_step (λ (pass : g.row.P.Denot). telling (g.P.Holder.held pass)) size many c.args.bytes.now held c.args.passes.now c.in-Some.others.now c.in-Some.first.now (telling (g.P.Holder.held c.put_front.new.self))
    (map (λ (pass : g.row.P.Denot). telling (g.P.Holder.held pass)) c.write_first_sectors.new.passes) c.in-Some.ensures.cases.0 c.requires.sized
    refl
    (ap (λ (h : Held). (telling h).told) c.put_front.ensures
    ∙ ap (λ (l : List ℕ). Some (first_sectors c.min-here.result l held)) c.split_at.ensures.front
    ∙ ap (λ n. Some (first_sectors n (take size c.args.bytes.now) held)) here)
    (subst (λ (l : List ℕ). TookSectors (many - min many (size / 512)) l (map (λ (pass : g.row.P.Denot). telling (g.P.Holder.held pass)) c.in-Some.others.now) (map (λ (pass : g.row.P.Denot). telling (g.P.Holder.held pass)) c.write_first_sectors.new.passes)) c.split_at.ensures.back
    (subst (λ n. TookSectors (many - n) c.split_at.result.1.now (map (λ (pass : g.row.P.Denot). telling (g.P.Holder.held pass)) c.in-Some.others.now) (map (λ (pass : g.row.P.Denot). telling (g.P.Holder.held pass)) c.write_first_sectors.new.passes)) here c.write_first_sectors.ensures.took))
