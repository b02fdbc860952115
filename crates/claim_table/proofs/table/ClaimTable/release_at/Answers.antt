use Rattle.std.proofs.Common.{rules, arith, sym, ap, ◌∙◌, subst, ℕ, ◌≡◌, ◌+◌, ◌%◌, ◌^◌, bit_xor, ◌∷◌}
use Rattle.atomic_table.specs.Table.{rest}
use Rattle.claim_table.specs.Codes.{code_of, HasKeys}
use Rattle.claim_table.specs.Lanes.{lane, word_of}
use Rattle.claim_table.specs.Views.{blocks_of}
use Rattle.claim_table.specs.Firsts.{flaws}
use Rattle.claim_table.specs.declared.view.Item.{Item}
use Rattle.claim_table.specs.declared.slot.Slot.TheVariants as slot
use Rattle.claim_table.proofs.AtSteps.{fetches_at, releases_at, freed, ok_made}
use Rattle.claim_table.proofs.Basics.{top_good}
use Rattle.claim_table.proofs.table.ClaimTable.release_at.Goals as goal

pub load-requires : goal.load-requires
load-requires g c =
    let t = c.requires.newest in
    let good = top_good (blocks_of c.args.place.now.me.0.made) t.0 c.args.place.now.me.0.held t.1 t.2 c.requires.of.4 in
    let same = ap (λ s. s.geometry.blocks) c.requires.of.5 in
    let near = good.1 in (
      search rules,
      omega (arith, c.word_index-at.ensures, t.3, c.args.self.now.words, c.args.self.now.store, same),
      fetches_at _ _ _ _ _ _ t.0 t.1 c.args.held.block.0 _ t.2 t.3 c.word_index-at.ensures good.0 c.requires.of.2,
    )

pub exchange-requires : goal.exchange-requires
exchange-requires g c =
    let t = c.requires.newest in
    let at = c.word_index-at.ensures ∙ ap word_of (sym t.3) in
    let took = (c.load.ensures.2 t.0 t.1 t.2 at).0 in
    let has = ap (λ m. m.1) took ∙ ap (λ b. (b, slot.Empty) ∷ c.args.place.now.me.1) t.3 in
    (search rules, (slot.Empty, has ∙ ap (λ l. (c.args.held.block.0, slot.Empty) ∷ rest l) (sym has)))

pub fetch_xor-requires : goal.fetch_xor-requires
fetch_xor-requires g c =
    let t = c.requires.newest in
    let i : Item = t.0 in
    let at = c.word_index-at.ensures ∙ ap word_of (sym t.3) in
    let load = c.load.ensures.2 t.0 t.1 t.2 at in
    let good = top_good (blocks_of c.args.place.now.me.0.made) t.0 c.args.place.now.me.0.held t.1 t.2 c.requires.of.4 in
    let same = ap (λ s. s.geometry.blocks) c.requires.of.5 in
    let near = good.1 in
    let found : c.of_lane-found.result ≡ code_of i.was + 2 ^ 15 = c.of_lane-found.ensures ∙ (ap (λ (b : ℕ). lane c.load.result (b % 4)) (sym t.3) ∙ load.1) in
    let own : c.encode.result ≡ code_of i.own = c.encode.ensures.code ∙ ap code_of (sym t.4) in
    let keys : HasKeys i.own = subst HasKeys (sym t.4) c.encode.ensures.keys in
    let ex = c.exchange.ensures.3 in
    let seat = ex ∙ ap (λ m. (m.0, (c.args.held.block.0, slot.Pass c.args.held.pass) ∷ rest c.load.new.seat.me.1)) load.0 in (
      search rules,
      omega (arith, c.word_index-at.ensures, t.3, c.args.self.now.words, c.args.self.now.store, same),
      releases_at _ _ _ _ _ _ i t.1 c.args.held.pass (rest c.load.new.seat.me.1) c.args.held.block.0 _ _ (bit_xor c.of_lane-found.result c.encode.result)
          (ap (λ m. m.0.held) seat ∙ t.2) t.3 c.word_index-at.ensures (ap (λ m. m.0.hand) seat ∙ ap (λ (b : ℕ). b + 1) t.3) (ap (λ m. m.1) seat)
          (ok_made g.P.Pass.seen g.B.Book.seen _ _ c.args.held.block.0 _ _ c.args.held.pass (ap (λ m. m.0.made) seat) t.4 c.requires.fits) keys
          (ap (λ (q : ℕ). bit_xor q c.encode.result) found ∙ ap (bit_xor (code_of i.was + 2 ^ 15)) own) c.in_lane.ensures,
    )

pub returns-clause-of : goal.returns-clause-of
returns-clause-of g c =
    let t = c.requires.newest in
    let at = c.word_index-at.ensures ∙ ap word_of (sym t.3) in
    let load = c.load.ensures.2 t.0 t.1 t.2 at in
    let good = top_good (blocks_of c.args.place.now.me.0.made) t.0 c.args.place.now.me.0.held t.1 t.2 c.requires.of.4 in
    let ex = c.exchange.ensures.3 in
    let held = ap (λ m. m.0.held) ex ∙ (ap (λ m. m.0.held) load.0 ∙ t.2) in
    let last = freed c.args.place.now.me c.load.new.seat.me c.exchange.new.seat.me c.fetch_xor.new.seat.me t.1 _ _ _ _ _ load.0 ex (c.fetch_xor.ensures.2 t.0 t.1 held) c.requires.of.2 in (
      c.fetch_xor.ensures.0 ∙ (c.exchange.ensures.0 ∙ (c.load.ensures.0 ∙ c.requires.of.0)),
      ap (λ m. m.1) last ∙ c.requires.of.1,
      ap (λ m. m.0.hand) last ∙ c.requires.of.2,
      ap (λ m. m.0.spent) last ∙ c.requires.of.3,
      ap (λ m. flaws m.0) last ∙ good.2,
      ap (λ m. m.0.made.store) last ∙ c.requires.of.5,
    )

pub returns-clause-gone : goal.returns-clause-gone
returns-clause-gone g c =
    λ i others top.
    let t = c.requires.newest in
    let at = c.word_index-at.ensures ∙ ap word_of (sym t.3) in
    let load = c.load.ensures.2 t.0 t.1 t.2 at in
    let ex = c.exchange.ensures.3 in
    let held = ap (λ m. m.0.held) ex ∙ (ap (λ m. m.0.held) load.0 ∙ top) in
    ap (λ m. m.0) (freed c.args.place.now.me c.load.new.seat.me c.exchange.new.seat.me c.fetch_xor.new.seat.me others _ _ _ _ _ load.0 ex (c.fetch_xor.ensures.2 i others held) c.requires.of.2)
