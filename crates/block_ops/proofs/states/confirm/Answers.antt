use Rattle.std.proofs.Common.{ap, subst}
use Rattle.key_state.specs.declared.seen.BookSeen.{BookSeen}
use Rattle.claim_table.specs.Sums.{Each}
use Rattle.block_ops.specs.Runs.{HeldRun, IsBegun}
use Rattle.block_ops.proofs.RunParts.{all_safe, now_in}
use Rattle.block_ops.proofs.Acting.{acted_kept}
use Rattle.block_ops.proofs.states.confirm.Goals as goal

pub returns-in-Ok-clause-acted : goal.returns-in-Ok-clause-acted
returns-in-Ok-clause-acted g c =
    let met = g.met.B.Book g.world.𝓛 g.world.𝓜 g.world.𝓡 ((λ s held. held), (λ held. held), (λ held. held), λ held. held) in
    acted_kept c.args.queued.first c.args.queued.entries (g.B.Book.seen c.args.book.now) (g.B.Book.seen c.flush.new.self)
    (met.is_book c.args.book.now) (met.is_book c.flush.new.self) c.requires c.flush.ensures.kept

pub returns-in-Err-clause-acted : goal.returns-in-Err-clause-acted
returns-in-Err-clause-acted g c =
    let met = g.met.B.Book g.world.𝓛 g.world.𝓜 g.world.𝓡 ((λ s held. held), (λ held. held), (λ held. held), λ held. held) in
    acted_kept c.args.queued.first c.args.queued.entries (g.B.Book.seen c.args.book.now) (g.B.Book.seen c.flush.new.self)
    (met.is_book c.args.book.now) (met.is_book c.flush.new.self) c.requires c.flush.ensures.kept

pub returns-in-Ok-clause-safe : goal.returns-in-Ok-clause-safe
returns-in-Ok-clause-safe g c =
    let old : BookSeen = g.B.Book.seen c.args.book.now in
    let new : BookSeen = g.B.Book.seen c.flush.new.self in
    let begun : Each IsBegun c.args.queued.entries = subst (Each IsBegun) (ap (λ (r : HeldRun g.row.P.Denot). r.entries) c.queued.view_is) c.queued.invariant.1 in
    all_safe new c.args.queued.first c.args.queued.entries c.in-Ok.ensures.ok (now_in old new c.args.queued.first c.args.queued.entries c.flush.ensures.kept.now c.requires.each) begun
