use Rattle.std.proofs.Common.{◌+◌, refl, inl, inr}
use Rattle.vd_base.specs.declared.geometry.BlockNo.{BlockNo}
use Rattle.block_ops.proofs.Stepping.{all_same, all_spoilt, legal_bad, made_bad, made_bad_or_kept, still_fit}
use Rattle.block_ops.proofs.states.mark_bad.Goals as goal

pub bad-appended-requires : goal.bad-appended-requires
bad-appended-requires g c =
    let block : BlockNo = record { 0 = c.args.held.first.0 + c.args.at } in
    legal_bad block c.args.held.first.0 c.args.held.entries.items c.args.at (g.B.Book.seen c.args.book.now) refl c.requires.at c.requires.entries c.requires.live

pub returns-in-Ok-clause-acted : goal.returns-in-Ok-clause-acted
returns-in-Ok-clause-acted g c =
    let met = g.met.B.Book g.world.𝓛 g.world.𝓜 g.world.𝓡 ((λ s held. held), (λ held. held), (λ held. held), λ held. held) in
    (made_bad c.args.held.first c.args.held.entries.items c.as_in-run.result.entries.items c.args.at (g.B.Book.seen c.args.book.now) (g.B.Book.seen c.bad-appended.new.self)
    c.requires.at (met.is_book c.args.book.now) (met.is_book c.bad-appended.new.self) c.requires.entries c.as_in-run.ensures.exact c.in-Ok.ensures.ok).1

pub returns-in-Ok-clause-marked : goal.returns-in-Ok-clause-marked
returns-in-Ok-clause-marked g c =
    let met = g.met.B.Book g.world.𝓛 g.world.𝓜 g.world.𝓡 ((λ s held. held), (λ held. held), (λ held. held), λ held. held) in
    (made_bad c.args.held.first c.args.held.entries.items c.as_in-run.result.entries.items c.args.at (g.B.Book.seen c.args.book.now) (g.B.Book.seen c.bad-appended.new.self)
    c.requires.at (met.is_book c.args.book.now) (met.is_book c.bad-appended.new.self) c.requires.entries c.as_in-run.ensures.exact c.in-Ok.ensures.ok).0

pub returns-in-Ok-clause-fits : goal.returns-in-Ok-clause-fits
returns-in-Ok-clause-fits g c = λ all fits.
    let met = g.met.B.Book g.world.𝓛 g.world.𝓜 g.world.𝓡 ((λ s held. held), (λ held. held), (λ held. held), λ held. held) in
    let held = c.args.held in
    let run = c.as_in-run.result in
    let bad = made_bad held.first held.entries.items run.entries.items c.args.at (g.B.Book.seen c.args.book.now) (g.B.Book.seen c.bad-appended.new.self)
    c.requires.at (met.is_book c.args.book.now) (met.is_book c.bad-appended.new.self) c.requires.entries c.as_in-run.ensures.exact c.in-Ok.ensures.ok in
    still_fit g.P.Pass.seen all held.first.0 held.entries.items _ run.entries.items held.passes.items run.passes.items
    bad.0 c.as_in-run.ensures.passes (all_spoilt held.entries.items c.args.at) fits

pub returns-in-Err-clause-acted : goal.returns-in-Err-clause-acted
returns-in-Err-clause-acted g c =
    let met = g.met.B.Book g.world.𝓛 g.world.𝓜 g.world.𝓡 ((λ s held. held), (λ held. held), (λ held. held), λ held. held) in
    (made_bad_or_kept c.args.held.first c.args.held.entries.items c.as_in-run.result.entries.items c.args.at (g.B.Book.seen c.args.book.now) (g.B.Book.seen c.bad-appended.new.self)
    c.requires.at (met.is_book c.args.book.now) (met.is_book c.bad-appended.new.self) c.requires.entries c.as_in-run.ensures.exact c.in-Err.ensures.err.1).1

pub returns-in-Err-clause-refused : goal.returns-in-Err-clause-refused
returns-in-Err-clause-refused g c =
    let met = g.met.B.Book g.world.𝓛 g.world.𝓜 g.world.𝓡 ((λ s held. held), (λ held. held), (λ held. held), λ held. held) in
    (made_bad_or_kept c.args.held.first c.args.held.entries.items c.as_in-run.result.entries.items c.args.at (g.B.Book.seen c.args.book.now) (g.B.Book.seen c.bad-appended.new.self)
    c.requires.at (met.is_book c.args.book.now) (met.is_book c.bad-appended.new.self) c.requires.entries c.as_in-run.ensures.exact c.in-Err.ensures.err.1).0

pub returns-in-Err-clause-fits : goal.returns-in-Err-clause-fits
returns-in-Err-clause-fits g c = λ all fits.
    let met = g.met.B.Book g.world.𝓛 g.world.𝓜 g.world.𝓡 ((λ s held. held), (λ held. held), (λ held. held), λ held. held) in
    let held = c.args.held in
    let run = c.as_in-run.result in
    let either = made_bad_or_kept held.first held.entries.items run.entries.items c.args.at (g.B.Book.seen c.args.book.now) (g.B.Book.seen c.bad-appended.new.self)
    c.requires.at (met.is_book c.args.book.now) (met.is_book c.bad-appended.new.self) c.requires.entries c.as_in-run.ensures.exact c.in-Err.ensures.err.1 in
    elim either.0 [
      | inl same ↦ still_fit g.P.Pass.seen all held.first.0 held.entries.items _ run.entries.items held.passes.items run.passes.items same c.as_in-run.ensures.passes (all_same held.entries.items) fits
      | inr bad ↦ still_fit g.P.Pass.seen all held.first.0 held.entries.items _ run.entries.items held.passes.items run.passes.items bad c.as_in-run.ensures.passes (all_spoilt held.entries.items c.args.at) fits
    ]
