use Rattle.std.proofs.Common.{inl, ◌+◌, subst, arith, refl}
use Rattle.std.proofs.Math.Logic.{∥∥₁_map}
use Rattle.journal_layout.specs.Log.{IsBelow}
use Rattle.journal_layout.specs.Recovery.{blocks_of}
use Rattle.journal_core.specs.Book.{memory_of}
use Rattle.journal_core.specs.Keeps.{with_record}
use Rattle.journal_core.proofs.Appends.{legal_below, keeps_put}
use Rattle.journal_core.proofs.book.JournalBook.put.Goals as goal

pub invariant_of-self-clause-keeps : goal.invariant_of-self-clause-keeps
invariant_of-self-clause-keeps g c =
    let b = memory_of c.args.self.now in
    let below : IsBelow (blocks_of b.live) c.args.made.now = subst (λ n. IsBelow n c.args.made.now) c.args.self.now.one_each (legal_below b.entries c.args.made.now c.requires.legal c.requires.spelled) in
    ∥∥₁_map c.args.self.now.keeps
    (λ k. (
      with_record k.0 c.args.made.now,
      keeps_put (g.D.Disk.seen c.args.self.now.disk) b k.1 c.requires.running c.args.made.now c.note.new.entries.items c.requires.legal c.note.ensures.steps c.note.new.ends c.note.new.clears c.note.ensures.ends c.note.ensures.clears
          c.add_record.new.sector (c.args.self.now.count + 1) refl (omega (arith, c.requires.short)) c.requires.room (λ past long hand. c.add_record.ensures past long below hand),
    ))

pub returns-clause-story : goal.returns-clause-story
returns-clause-story g c = λ so_far had.
    let b = memory_of c.args.self.now in
    let below : IsBelow (blocks_of b.live) c.args.made.now = subst (λ n. IsBelow n c.args.made.now) c.args.self.now.one_each (legal_below b.entries c.args.made.now c.requires.legal c.requires.spelled) in
    inl (
      refl,
      ∥∥₁_map had
          (λ k. keeps_put (g.D.Disk.seen c.args.self.now.disk) b k c.requires.running c.args.made.now c.note.new.entries.items c.requires.legal c.note.ensures.steps c.note.new.ends c.note.new.clears c.note.ensures.ends c.note.ensures.clears
          c.add_record.new.sector (c.args.self.now.count + 1) refl (omega (arith, c.requires.short)) c.requires.room (λ past long hand. c.add_record.ensures past long below hand)),
    )
