use Rattle.std.proofs.Common.{rules, arith, ap, sym, ◌≡◌, ℕ}
use Rattle.key_state.specs.declared.entry.Entry.TheVariants.{Bad}
use Rattle.claim_table.specs.Views.{now_at}
use Rattle.claim_table.specs.Plays.{ReadsAs}
use Rattle.claim_table.specs.declared.view.Item.{Item}
use Rattle.claim_table.proofs.Basics.{each_map}
use Rattle.claim_table.proofs.HeldSteps.{looks_allowed}
use Rattle.claim_table.proofs.table.ClaimTable.look_at.Goals as goal

pub load-word-requires : goal.load-word-requires
load-word-requires g c =
    let same = ap (λ s. s.geometry.blocks) c.requires.of.5 in
    (search rules, omega (arith, c.word_index.ensures, c.args.self.now.words, c.args.self.now.store, c.requires.block, same), looks_allowed _ _ _ _ _ _ _)

pub returns-clause-held : goal.returns-clause-held
returns-clause-held g c =
    let b : ℕ = c.args.block in
    let r : ℕ = c.load-word.result in
    let told = (c.load-word.ensures.2.1 b c.requires.of.3 c.requires.block c.word_index.ensures).1 in
    let P : Item → Type 0 = λ i. i.block ≡ b → ReadsAs r b i.was in
    each_map P (λ i. i.block ≡ b → c.decode.result ≡ i.was) c.args.place.now.me.0.held
    (λ (i : Item) (h : P i) (at-b : i.block ≡ b). let t = h at-b in c.decode.ensures i.was t.0 (search (rules, t.1)))
    told

pub returns-clause-bad : goal.returns-clause-bad
returns-clause-bad g c met =
    let told = (c.load-word.ensures.2.1 c.args.block c.requires.of.3 c.requires.block c.word_index.ensures).2 met in
    c.decode.ensures Bad told.0 (search (rules, told.1))

pub returns-clause-lent : goal.returns-clause-lent
returns-clause-lent g c all none-held book has =
    let told = (c.load-word.ensures.2.1 c.args.block c.requires.of.3 c.requires.block c.word_index.ensures).3 all none-held book has in
    sym (c.decode.ensures (now_at book c.args.block) told.0 (search (rules, told.1)))
