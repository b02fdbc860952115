use Rattle.std.proofs.Common.{rules, arith, refl, sym, ap, ◌∙◌, ℕ, ◌≡◌, ◌≢◌, ◌%◌, ◌^◌, ◌<◌, false, ◌∷◌}
use Rattle.atomic_table.specs.Table.{rest}
use Rattle.key_state.specs.declared.entry.Entry.{Entry}
use Rattle.key_state.specs.declared.entry.Entry.TheVariants.{Bad}
use Rattle.claim_table.specs.Lanes.{lane}
use Rattle.claim_table.specs.Views.{item, blocks_of}
use Rattle.claim_table.specs.declared.slot.Slot.TheVariants as slot
use Rattle.claim_table.proofs.Basics.{is_bad}
use Rattle.claim_table.proofs.AtSteps.{claims_at, puts_back_at, got}
use Rattle.claim_table.proofs.HeldSteps.{parks_allowed}
use Rattle.claim_table.proofs.table.ClaimTable.claim_at.Goals as goal

pub fetch_or-found-requires : goal.fetch_or-found-requires
fetch_or-found-requires g c =
    let same : blocks_of c.args.place.now.me.0.made ≡ c.args.self.now.table.shared.key.store.geometry.blocks = ap (λ s. s.geometry.blocks) c.requires.of.5 in
    let near : c.args.block < c.args.self.now.table.shared.key.store.geometry.blocks = omega (arith, c.requires.block) in
    let store = c.args.self.now.store in
    let words = c.args.self.now.words in (
      search rules,
      omega (arith, c.word_index-at.ensures),
      claims_at _ _ _ _ _ _ c.args.block _ _ c.word_index-at.ensures c.in_lane.ensures near c.requires.above c.requires.few c.requires.of.3 c.requires.of.2,
    )

pub fetch_xor-requires : goal.fetch_xor-requires
fetch_xor-requires g c =
    let told = c.fetch_or-found.ensures.2 c.args.block c.word_index-at.ensures c.in_lane.ensures in
    let x : ℕ = lane c.fetch_or-found.result (c.args.block % 4) in
    let seen : x ≡ 256 = sym c.of_lane-code.ensures ∙ c.if-code-eq-BAD.true in
    let got = told.1 (omega arith) in
    let e : Entry = got.0 in
    let bad : e ≡ Bad = is_bad e got.1 (sym got.2 ∙ seen) in
    let me = got.3 bad in (
      search rules,
      search rules,
      puts_back_at _ _ _ _ _ _ (item c.args.block e e false) c.args.place.now.me.0.held c.args.block _ _
          (ap (λ m. m.0.held) me) refl c.word_index-at.ensures bad (ap (λ m. m.0.hand) me ∙ c.requires.of.2) bad c.in_lane-then-code-eq-BAD.ensures,
    )

pub exchange-requires : goal.exchange-requires
exchange-requires g c =
    let x : ℕ = lane c.fetch_or-found.result (c.args.block % 4) in
    let low : x < 2 ^ 15 = omega (arith, c.of_lane-code.ensures) in
    let ne : x ≢ 256 = λ q. c.if-code-eq-BAD.false (c.of_lane-code.ensures ∙ q) in
    let found = got _ g.B.Book.seen c.args.block c.fetch_or-found.result c.args.place.now.me c.fetch_or-found.new.seat.me (c.fetch_or-found.ensures.2 c.args.block c.word_index-at.ensures c.in_lane.ensures) low ne in
    let has = ap (λ m. m.1) found.seat in
    (search rules, (slot.Pass found.pass, has ∙ ap (λ l. (c.args.block, slot.Pass found.pass) ∷ rest l) (sym has)))

pub load-requires : goal.load-requires
load-requires g c =
    let x : ℕ = lane c.fetch_or-found.result (c.args.block % 4) in
    let low : x < 2 ^ 15 = omega (arith, c.of_lane-code.ensures) in
    let ne : x ≢ 256 = λ q. c.if-code-eq-BAD.false (c.of_lane-code.ensures ∙ q) in
    let found = got _ g.B.Book.seen c.args.block c.fetch_or-found.result c.args.place.now.me c.fetch_or-found.new.seat.me (c.fetch_or-found.ensures.2 c.args.block c.word_index-at.ensures c.in_lane.ensures) low ne in
    let ex = c.exchange.ensures.3 in (
      search rules,
      omega (arith, c.word_index-at.ensures, c.args.self.now.words, c.args.self.now.store, c.requires.block, ap (λ s. s.geometry.blocks) c.requires.of.5),
      parks_allowed _ _ _ _ _ _ (item c.args.block found.entry found.entry false) c.args.place.now.me.0.held _ _
          (ap (λ m. m.0.held) ex ∙ ap (λ m. m.0.held) found.seat) found.good (ap (λ m. m.0.hand) ex ∙ ap (λ m. m.0.hand) found.seat) (ap (λ m. m.1) ex),
    )
