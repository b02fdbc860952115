use Rattle.std.proofs.Common.{rules, arith, refl, sym, ap, ◌∙◌, ◌≡◌, ◌+◌}
use Rattle.claim_table.specs.Views.{blocks_of, with_hand}
use Rattle.claim_table.specs.Firsts.{flaws}
use Rattle.key_state.specs.declared.seen.BookSeen.{BookSeen}
use Rattle.claim_table.specs.declared.view.View.{View}
use Rattle.claim_table.specs.declared.slot.Slot.TheVariants as slot
use Rattle.claim_table.proofs.Basics.{each_good, good_brought}
use Rattle.claim_table.proofs.LockSteps.{fetches_book_allowed, gives_book_at, head_is, refilled, given_back, shelf_at}
use Rattle.claim_table.proofs.table.ClaimTable.give_book_at.Goals as goal

pub load-requires : goal.load-requires
load-requires g c = let b = c.requires.loan in (search rules, omega (arith, c.args.self.now.words), fetches_book_allowed _ _ _ _ _ _ _ b.0 b.1 c.requires.of.3 c.requires.of.2)

pub exchange-requires : goal.exchange-requires
exchange-requires g c =
    let told = c.load.ensures.2 in
    let same : blocks_of c.args.place.now.me.0.made ≡ c.args.self.now.blocks = ap (λ s. s.geometry.blocks) c.requires.of.5 ∙ c.args.self.now.store in
    (search rules, (slot.Book told.0, head_is _ _ _ _ _ _ told.1 same))

pub fetch_and-requires : goal.fetch_and-requires
fetch_and-requires g c =
    let met = g.met.B.Book g.world.𝓛 g.world.𝓜 g.world.𝓡 ((λ s held. held), (λ held. held), (λ held. held), λ held. held) in
    let b = c.requires.loan in
    let told = c.load.ensures.2 in
    let same : blocks_of c.args.place.now.me.0.made ≡ c.args.self.now.blocks = ap (λ s. s.geometry.blocks) c.requires.of.5 ∙ c.args.self.now.store in (
      search rules,
      omega (arith, c.args.self.now.words),
      gives_book_at _ _ _ _ _ _ c.args.place.now.me.0 c.args.book c.put.new.self b.0 _ _ _ refl (refilled _ _ _ _ _ _ _ _ _ told.1 c.exchange.ensures.3 c.exchange-2.ensures.3) (sym same)
          c.put.ensures (met.is_book c.args.book).valid b.1 c.requires.of.3 (each_good (blocks_of c.args.place.now.me.0.made) c.args.place.now.me.0.held c.requires.of.4) b.2,
    )

pub returns-clause-of : goal.returns-clause-of
returns-clause-of g c =
    let told = c.load.ensures.2 in
    let same : blocks_of c.args.place.now.me.0.made ≡ c.args.self.now.blocks = ap (λ s. s.geometry.blocks) c.requires.of.5 ∙ c.args.self.now.store in
    let v : View = c.args.place.now.me.0 in
    let f : BookSeen = g.B.Book.seen c.args.book in
    let filled = refilled _ _ _ (with_hand v (blocks_of v.made + 1)) _ _ _ _ c.args.place.now.me.1 told.1 c.exchange.ensures.3 c.exchange-2.ensures.3 in
    let gone = c.fetch_and.ensures.2 c.args.book c.put.new.self (shelf_at _ (with_hand v (blocks_of v.made + 1)) c.args.self.now.blocks _ c.args.place.now.me.1 filled (sym same)) c.put.ensures in
    let last = given_back c.args.place.now.me c.load.new.seat.me c.exchange.new.seat.me c.exchange-2.new.seat.me c.fetch_and.new.seat.me f _ _ _ _ _ told.1 c.exchange.ensures.3 c.exchange-2.ensures.3 gone in (
      search rules,
      ap (λ m. m.1) last ∙ c.requires.of.1,
      ap (λ m. m.0.hand) last,
      ap (λ m. m.0.spent) last ∙ c.requires.of.3,
      ap (λ m. flaws m.0) last ∙ (good_brought (blocks_of c.args.place.now.me.0.made) f c.args.place.now.me.0.held ∙ c.requires.of.4),
      ap (λ m. m.0.made.store) last ∙ c.requires.of.5,
    )

pub returns-clause-given : goal.returns-clause-given
returns-clause-given g c =
    let told = c.load.ensures.2 in
    let same : blocks_of c.args.place.now.me.0.made ≡ c.args.self.now.blocks = ap (λ s. s.geometry.blocks) c.requires.of.5 ∙ c.args.self.now.store in
    let v : View = c.args.place.now.me.0 in
    let f : BookSeen = g.B.Book.seen c.args.book in
    let filled = refilled _ _ _ (with_hand v (blocks_of v.made + 1)) _ _ _ _ c.args.place.now.me.1 told.1 c.exchange.ensures.3 c.exchange-2.ensures.3 in
    let gone = c.fetch_and.ensures.2 c.args.book c.put.new.self (shelf_at _ (with_hand v (blocks_of v.made + 1)) c.args.self.now.blocks _ c.args.place.now.me.1 filled (sym same)) c.put.ensures in
    ap (λ m. m.0) (given_back c.args.place.now.me c.load.new.seat.me c.exchange.new.seat.me c.exchange-2.new.seat.me c.fetch_and.new.seat.me f _ _ _ _ _ told.1 c.exchange.ensures.3 c.exchange-2.ensures.3 gone)
