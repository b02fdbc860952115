use Rattle.std.proofs.Common.{rules, arith, sym, ap, ◌∙◌, ◌≡◌}
use Rattle.claim_table.specs.Views.{blocks_of}
use Rattle.claim_table.specs.declared.slot.Slot.TheVariants as slot
use Rattle.claim_table.proofs.LockSteps.{takes_book_allowed, parks_book_at, head_is, refilled}
use Rattle.claim_table.proofs.table.ClaimTable.take_book_at.Goals as goal

pub fetch_or-requires : goal.fetch_or-requires
fetch_or-requires g c = let me = c.loop.invariant.3 in (
  search rules,
  omega (arith, c.args.self.now.words),
  takes_book_allowed _ _ _ _ _ _ (ap (λ m. m.0.loan) me ∙ c.requires.free) (ap (λ m. m.0.spent) me ∙ c.requires.of.3) (ap (λ m. m.0.hand) me ∙ c.requires.of.2),
)

pub exchange-requires : goal.exchange-requires
exchange-requires g c =
    let t = c.fetch_or.ensures.2.0 c.if-fetch_or-eq0.true in
    let same : blocks_of c.loop.place.me.0.made ≡ c.args.self.now.blocks = ap (λ m. blocks_of m.0.made) c.loop.invariant.3 ∙ (ap (λ s. s.geometry.blocks) c.requires.of.5 ∙ c.args.self.now.store) in
    (search rules, (slot.Book t.1, head_is _ _ _ _ _ _ t.2 same))

pub load-requires : goal.load-requires
load-requires g c =
    let t = c.fetch_or.ensures.2.0 c.if-fetch_or-eq0.true in
    let me = c.loop.invariant.3 in
    let same : blocks_of c.loop.place.me.0.made ≡ c.args.self.now.blocks = ap (λ m. blocks_of m.0.made) me ∙ (ap (λ s. s.geometry.blocks) c.requires.of.5 ∙ c.args.self.now.store) in (
      search rules,
      omega (arith, c.args.self.now.words),
      parks_book_at _ _ _ _ _ _ c.loop.place.me.0 _ c.args.self.now.blocks (g.B.Book.seen t.0) c.take-book.new.self _
          (refilled _ _ _ _ _ _ _ _ _ t.2 c.exchange.ensures.3 c.exchange-then-fetch_or-eq0.ensures.3) (sym same) (ap (λ m. m.0.spent) me ∙ c.requires.of.3),
    )
