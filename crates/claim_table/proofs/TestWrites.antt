-- A record of the one block that a seat holds, made under one loan.
use Rattle.std.proofs.Common.{◌≡◌, ◌≢◌, ℕ, ◌+◌, ◌%◌, ◌^◌, ◌<◌, Bool, true, false, cond, List, [], ◌∷◌, length, map, refl, ap, sym, subst, ◌∙◌, inl, inr, ⊎_elim, arith}
use mathlib.Core.Logic.{dite}
use native.Mathlib.Decide.{ℕ_discrete}
use Rattle.key_state.specs.Entries.{entry_at, first_of, many_of, leaves, ends_of, Names, IsLegalAt}
use Rattle.key_state.specs.Books.{Appended, MayAppend, clears_of, follows_same}
use Rattle.key_state.specs.declared.entry.Entry.{Entry}
use Rattle.key_state.specs.declared.entry.Entry.TheVariants.{Bad}
use Rattle.key_state.specs.declared.record.Record.{Record}
use Rattle.key_state.specs.declared.seen.BookSeen.{BookSeen}
use Rattle.claim_table.specs.Sums.{total, Each}
use Rattle.claim_table.specs.Views.{at, blocks_of, now_at, with_loan, has_ended, has_cleared, those, brought, given}
use Rattle.claim_table.specs.Books.{Lends, MayGive}
use Rattle.claim_table.specs.Seats.{Brings}
use Rattle.claim_table.specs.declared.view.Item.{Item}
use Rattle.claim_table.specs.declared.view.View.{View}
use Rattle.claim_table.proofs.Basics.{at_yes}

-- A seat that holds this one block, with this entry in the book.
abbrev pub HoldsOne : View → ℕ → Entry → Type 0
HoldsOne view block entry = (i : Item) × (view.held ≡ i ∷ []) × (i.block ≡ block) × (i.own ≡ entry)

pub entry_of_one : (v : View) (b : ℕ) (e : Entry) (g : BookSeen) → HoldsOne v b e → Lends v g → now_at g b ≡ e
entry_of_one v b e g one lends =
    let own : now_at g one.0.block ≡ one.0.own = (subst (Each (λ (i : Item). now_at g i.block ≡ i.own)) one.1 lends.owned).0 in
    ap (now_at g) (sym one.2) ∙ (own ∙ one.3)

-- The record can be appended to the book that is lent.
pub can_append : (v : View) (b : ℕ) (e : Entry) (g : BookSeen) (made : Record) → HoldsOne v b e → Lends v g → b < blocks_of v.made → first_of made ≡ b → many_of made ≡ 1 → IsLegalAt e made → MayAppend g made
can_append v b e g made one lends near first many legal k named =
    let at-b : k ≡ b = omega (arith, named.0, named.1) in
    (omega (arith, lends.sized), subst (λ (x : Entry). IsLegalAt x made) (sym (ap (now_at g) at-b ∙ entry_of_one v b e g one lends)) legal)

one_or_none : (b : Bool) (x : ℕ) → length (cond b (x ∷ []) []) ≡ cond b 1 0
one_or_none true x = refl
one_or_none false x = refl

count_one : (test : Entry → Entry → Bool) (f : BookSeen) (i : Item) (e d : Entry) → i.own ≡ e → now_at f i.block ≡ d → length (those test f (i ∷ [])) ≡ cond (test e d) 1 0
count_one test f i e d own now = one_or_none (test i.own (now_at f i.block)) i.block ∙ ap (λ (z : Entry × Entry). cond (test z.0 z.1) 1 0) (λ q. (own q, now q))

pub now_there : (g f : BookSeen) (b : ℕ) (e d : Entry) (made : Record) → now_at g b ≡ e → first_of made ≡ b → many_of made ≡ 1 → Appended made g f → leaves made e ≡ d → now_at f b ≡ d
now_there g f b e d made before first many did is = did.steps.named b (omega arith, omega arith) ∙ (ap (leaves made) before ∙ is)

-- The book that has it appended may be given back.
pub may_give : (v : View) (b : ℕ) (e d : Entry) (g f : BookSeen) (made : Record) → HoldsOne v b e → e ≢ Bad → Lends v g → first_of made ≡ b → many_of made ≡ 1 → Appended made g f → leaves made e ≡ d
    → cond (has_ended e d) 1 0 ≡ ends_of made → cond (has_cleared e d) 1 0 ≡ clears_of g.now made → MayGive v.held g f
may_give v b e d g f made one good lends first many did is ended cleared =
    let i : Item = one.0 in
    let before : now_at g b ≡ e = entry_of_one v b e g one lends in
    let after : now_at f i.block ≡ d = ap (now_at f) one.2 ∙ now_there g f b e d made before first many did is in
    let count : (test : Entry → Entry → Bool) → length (those test f v.held) ≡ cond (test e d) 1 0 = λ test. ap (λ (xs : List Item). length (those test f xs)) one.1 ∙ count_one test f i e d one.3 after in
    let apart : (block : ℕ) → total (at block) v.held ≡ 0 → Names made block → ⊥ = λ block none named. omega (arith, none, named.0, named.1, ap (total (at block)) one.1, at_yes block i (omega (arith, named.0, named.1, one.2))) in
    record {
      follows = did.follows;
      others = λ block none. did.steps.others block (apart block none);
      stays = λ block was. dite (ℕ_discrete block b)
          (λ (q : block ≡ b). absurd (good (sym before ∙ (ap (now_at g) (sym q) ∙ was))))
          (λ ne. did.steps.others block (λ named. ne (omega (arith, named.0, named.1))) ∙ was);
      synced = λ block none. ⊎_elim (λ q. inl (ap (λ (xs : List Entry). entry_at xs block) q)) (λ q. inr (ap (λ (xs : List Entry). entry_at xs block) q)) did.synced;
      ends = did.ends ∙ ap (λ (n : ℕ). (g.ends + n) % 2 ^ 64) (sym (count has_ended ∙ ended));
      clears = did.clears ∙ ap (λ (n : ℕ). (g.clears + n) % 2 ^ 64) (sym (count has_cleared ∙ cleared));
    }

-- What the seat holds after it gave the book back.
pub one_given : (v w u : View) (b : ℕ) (e d : Entry) (g f : BookSeen) → HoldsOne v b e → w ≡ with_loan v g → u ≡ given w f → now_at f b ≡ d → HoldsOne u b d
one_given v w u b e d g f one lent gave after =
    let i : Item = one.0 in
    (brought f i, ap (λ (x : View). x.held) gave ∙ (ap (λ (x : View). map (brought f) x.held) lent ∙ ap (map (brought f)) one.1), one.2, ap (now_at f) one.2 ∙ after)

-- A seat that holds nothing may give the book back as it was lent.
pub brings_same : (v w : View) (g : BookSeen) → v.held ≡ [] → w ≡ with_loan v g → g.ends < 2 ^ 64 → g.clears < 2 ^ 64 → Brings w g
brings_same v w g none lent ends clears =
    let same : MayGive [] g g = record {
      follows = follows_same g;
      others = λ block _. refl;
      stays = λ block is. is;
      synced = λ block _. inl refl;
      ends = omega arith;
      clears = omega arith;
    } in
    (g, ap (λ (x : View). x.loan) lent, subst (λ (xs : List Item). MayGive xs g g) (sym (ap (λ (x : View). x.held) lent ∙ none)) same)
