use Rattle.std.proofs.Common.{◌≡◌, ◌∙◌, ◌+◌, ◌*◌, ◌%◌, ◌^◌, ap, sym, subst, List, ℕ, Some, drop, length, map, refl, arith}
use Rattle.vd_arm.specs.LiarArm.{TookAddresses, inner_seen}
use Rattle.vd_arm.proofs.Addresses.{addresses_step}
use Rattle.vd_arm.proofs.Parts.{first_wide, rest_wide, rest_long}
use Rattle.vd_arm.proofs.liar.+write_addressed.Goals as goal

pub put_addressed-requires : goal.put_addressed-requires
put_addressed-requires t c =
    c.split_at.ensures.front_len
    ∙ sym (first_wide inner_seen c.args.size c.args.passes.now c.in-Some.others.now c.in-Some.first.now c.in-Some.ensures.cases.0 c.requires.sized)

pub write_addressed-requires : goal.write_addressed-requires
write_addressed-requires t c =
    let shorter = c.in-Some.ensures.cases.1 in
    let sized = rest_wide inner_seen c.args.size c.args.passes.now c.in-Some.others.now c.in-Some.first.now c.in-Some.ensures.cases.0 c.requires.sized in
    let long = rest_long (length c.args.passes.now) (length c.in-Some.others.now) c.args.size (length c.args.bytes.now) (length c.split_at.result.1.now) shorter c.requires.long
    c.split_at.ensures.back_len in
    (omega arith, (sized, (long, omega arith)))

pub returns-clause-took : goal.returns-clause-took
returns-clause-took t c =
    addresses_step inner_seen c.args.size c.args.other (c.args.other * c.args.size % 2 ^ 64) c.args.bytes.now c.split_at.result.0.now c.put_addressed.new.self.inner.bytes.items c.args.passes.now
    c.in-Some.others.now c.in-Some.first.now (inner_seen c.put_addressed.new.self) (map inner_seen c.write_addressed.new.passes) c.in-Some.ensures.cases.0 c.requires.sized refl
    c.split_at.ensures.front c.split_at.ensures.front_len refl c.put_addressed.ensures.each
    (subst (λ (l : List ℕ). TookAddresses (c.args.other + 1) l (map inner_seen c.in-Some.others.now) (map inner_seen c.write_addressed.new.passes)) c.split_at.ensures.back
    c.write_addressed.ensures.took)
