use Rattle.std.proofs.Common.{inl, inr, length, refl}
use Rattle.std.proofs.lemmas.Result.{on_ok_weaker, on_err_weaker}
use Rattle.key_state.specs.declared.seen.BookSeen.{BookSeen}
use Rattle.block_ops.proofs.Acting.{acted_end_run, acted_kept, legal_end_run}
use Rattle.block_ops.proofs.records.append_end.Goals as goal

pub end_run-requires-clause-legal : goal.end_run-requires-clause-legal
end_run-requires-clause-legal g c = legal_end_run c.args.first (length c.args.entries.now) c.args.entries.now (g.B.Book.seen c.args.book.now) refl c.requires.entries c.requires.begun

pub returns-then-entries-gt1-clause-ok : goal.returns-then-entries-gt1-clause-ok
returns-then-entries-gt1-clause-ok g c =
    let met = g.met.B.Book g.world.𝓛 g.world.𝓜 g.world.𝓡 ((λ s held. held), (λ held. held), (λ held. held), λ held. held) in
    let old : BookSeen = g.B.Book.seen c.args.book.now in
    let new : BookSeen = g.B.Book.seen c.end_run.new.self in
    on_ok_weaker c.end_run.result (acted_end_run c.args.first (length c.args.entries.now) c.args.entries.now old new refl (met.is_book c.args.book.now) (met.is_book c.end_run.new.self) c.requires.entries c.requires.begun) c.end_run.ensures.ok

pub returns-then-entries-gt1-clause-err : goal.returns-then-entries-gt1-clause-err
returns-then-entries-gt1-clause-err g c =
    let met = g.met.B.Book g.world.𝓛 g.world.𝓜 g.world.𝓡 ((λ s held. held), (λ held. held), (λ held. held), λ held. held) in
    let old : BookSeen = g.B.Book.seen c.args.book.now in
    let new : BookSeen = g.B.Book.seen c.end_run.new.self in
    let one = met.is_book c.args.book.now in
    let two = met.is_book c.end_run.new.self in
    on_err_weaker c.end_run.result (λ shuts. elim shuts.1 [
      | inl made ↦ inl (acted_end_run c.args.first (length c.args.entries.now) c.args.entries.now old new refl one two c.requires.entries c.requires.begun made)
      | inr kept ↦ inr (acted_kept c.args.first.0 c.args.entries.now old new one two c.requires.entries kept)
    ]) c.end_run.ensures.err
