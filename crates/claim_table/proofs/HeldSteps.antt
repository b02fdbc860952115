-- The steps on the newest block that a seat holds: its slot goes and comes, and it is released.
use Rattle.std.proofs.Common.{◌≡◌, ℕ, ◌+◌, ◌%◌, ◌^◌, ◌<◌, ◌≤◌, false, ◌≢◌, List, ◌∷◌, length, get_or, set, sym, refl, ap, ◌∙◌, subst, inl, arith, length-set, get_or-set_other, bit_xor}
use Rattle.std.proofs.lemmas.Nat.{xor_lt}
use mathlib.Core.Logic.{dite}
use mathlib.Core.Bool.{false≢true}
use mathlib.Core.Option as maybe
use mathlib.Core.Option.{some, none, some-injective, some-ne-none}
use native.Mathlib.Decide.{ℕ_discrete, dec_le}
use lib.ListN.{get_elem?}
use Rattle.atomic_table.specs.Table.{step, Act, keeps, takes, gives, Valid, carried_after, stepped, Allows}
use Rattle.atomic_table.proofs.Lists.{set_here, set_else}
use Rattle.vd_arm.specs.Arm.{PassSeen}
use Rattle.key_state.specs.Entries.{IsEntry}
use Rattle.key_state.specs.declared.entry.Entry.{Entry}
use Rattle.key_state.specs.declared.entry.Entry.TheVariants.{Bad}
use Rattle.key_state.specs.declared.seen.BookSeen.{BookSeen}
use Rattle.claim_table.specs.Codes.{code_of, IsCoded, HasKeys}
use Rattle.claim_table.specs.Lanes.{lane, word_of, code_at, shifted}
use Rattle.claim_table.specs.Sums.{total, Each}
use Rattle.claim_table.specs.Views.{blocks_of, parts_in, now_at, at, holds, other_at, other_as, bad_at, parts, bad, released, with_hand}
use Rattle.claim_table.specs.Passes.{IsPassFor}
use Rattle.claim_table.specs.Rule.{Agrees, Claims, PassHome, Parked}
use Rattle.claim_table.specs.Plays.{Sat, ReadsAs, looked, parks, fetches_pass, releases, puts_back}
use Rattle.claim_table.specs.declared.view.Item.{Item}
use Rattle.claim_table.specs.declared.view.View.{View}
use Rattle.claim_table.specs.declared.view.Made.{Made}
use Rattle.claim_table.specs.declared.slot.Slot.{Slot}
use Rattle.claim_table.specs.declared.slot.Slot.TheVariants as slot
use Rattle.claim_table.proofs.Sums.{total-set, term_le, terms_le}
use Rattle.claim_table.proofs.LaneSteps.{lane_xor, op_here, op_there, xor_turn, xor_none}
use Rattle.claim_table.proofs.Basics.{at_yes, at_no, each_map, each_apart, each_at, some_term, alive, code_small, tail_of, same_tail, same_head, falls_tail}
use Rattle.claim_table.proofs.WordParts.{agrees_kept, moved, rested}
use Rattle.claim_table.proofs.Steps.{K, reloaded}
use Rattle.claim_table.proofs.SlotParts.{counts_kept, pass_else, parked_apart, kept_had, slots_set, lock_kept}

-- the newest item of a view
record Top (made : Made) (book : BookSeen) (words : List ℕ) (views : List View) (id : ℕ) (v : View) (i : Item) (others : List Item) : Type 0 where
  near : i.block < (blocks_of made)
  agrees : Agrees book words i
  more : Each (Agrees book words) others
  gone : total (at i.block) others ≡ 0
  apart : (j : ℕ) (u : View) → j ≢ id → get_elem? views j ≡ some u → holds i.block u ≡ 0
  busy : 2 ^ 15 ≤ code_at words i.block
  awake : v.spent ≡ false

top_of : (made : Made) (book : BookSeen) (words : List ℕ) (views : List View) (a : Claims made book words views) (id : ℕ) (v : View) (i : Item) (others : List Item)
    → get_elem? views id ≡ some v → v.held ≡ i ∷ others → Top made book words views id v i others
top_of made book words views a id v i others me top =
    let b : ℕ = i.block in let was = a.each id v me in let mine = tail_of (Agrees book words) i v.held others top was.held in
    let counted : holds b v ≡ at b i + total (at b) others = ap (total (at b)) top in let one = at_yes b i refl in
    let near : b < (blocks_of made) = dite (dec_le (blocks_of made) b) (λ far. absurd (omega (arith, a.outside b far, term_le (holds b) views id v me))) (λ l. omega arith) in
    let word = mine.0.word in let small = code_small i.was mine.0.coded in let sums = a.busy b near in let part = term_le (holds b) views id v me in
    record {
      near = near;
      agrees = mine.0;
      more = mine.1;
      gone = omega arith;
      apart = λ j u ne at-j. omega (arith, terms_le (holds b) views id j v u ne me at-j);
      busy = omega arith;
      awake = alive v.spent (λ s. let z = (was.dead s).0 in let p : length v.held ≡ length (i ∷ others) = ap length top in let q : length v.held ≡ 0 = ap length z in absurd (omega arith));
    }

module _ {P B : Type 0} (pass_seen : P → PassSeen) (book_seen : B → BookSeen) (made : Made) where
  -- the slot of the newest block comes out, as it lies there between calls
  pub fetches_allowed : (n id : ℕ) (m : Sat P B) (i : Item) (others : List Item) → m.0.held ≡ i ∷ others → i.was ≢ Bad → m.0.hand ≡ 0
      → Allows (K pass_seen book_seen made) n id m (word_of i.block) (λ y. y) (fetches_pass (step n (word_of i.block) 0 0 none) m)
  fetches_allowed n id m i others top good free-hand s o wide me _ =
      let a = o.claims in let k = o.slots in let b : ℕ = i.block in let v : View = m.0 in let t = top_of made o.book s.words s.views a id v i others me top in
      let had : 0 < other_at b v = (tail_of (λ j. 0 < other_at j.block v) i v.held others top (a.each id v me).stands).0 in
      let w : View = with_hand v (b + 1) in let hs : List (maybe.Option (Slot P B)) = set s.homes b none in
      let near = t.near in let busy = t.busy in
      let here = tail_of (Parked pass_seen book_seen made o.book s.homes v.hand) i v.held others top (k.parked id v me) in
      let Q : List Item → Type 0 = Each (Parked pass_seen book_seen made o.book hs (b + 1)) in (
        w,
        takes b slot.Empty,
        here.0.1 good (λ z. omega arith),
        reloaded pass_seen book_seen made s.words (word_of b) hs (set s.views id w) record {
          book = o.book;
          claims = rested made o.book s.words s.views a id v w s.words me refl (λ c. refl) refl refl refl (a.each id v me);
          counts = counts_kept made o.book s.views o.counts id v w me refl refl refl refl refl refl (λ _. inl refl);
          slots = slots_set pass_seen book_seen made o.book s.words s.words s.homes hs s.views k id v w me (λ c. omega arith) (kept_had s.homes b s.views id v w none me had) (length-set s.homes b none)
              (λ j h q. pass_else pass_seen book_seen made o.book s.homes j b none (λ z. absurd (omega (arith, subst (λ (y : ℕ). code_at s.words y < 2 ^ 15) z q))) (k.home j h q))
              (λ j u ne at-j. parked_apart pass_seen book_seen made o.book s.homes b u.hand u.hand none u.held (t.apart j u ne at-j) (λ _ _ h. h) (k.parked j u at-j))
              (subst Q (sym top) (((λ bad. absurd (good bad)), λ _ away. absurd (away refl)), parked_apart pass_seen book_seen made o.book s.homes b v.hand (b + 1) none others t.gone (λ q _ _ z. omega arith) here.1));
          lock = lock_kept pass_seen book_seen made o.book s.words s.words s.homes hs s.views o.lock id v w me refl (set_else s.homes b (blocks_of made) none (λ z. omega arith)) refl (λ _ z. omega arith) refl;
        },
        λ i' others' e is. let same : i ≡ i' = same_head i i' others others' (sym top ∙ e) in
            let F : Item → Type 0 = λ x. (◌≡◌ {A = Sat P B} (w, (b, slot.Empty) ∷ m.1) (with_hand v (x.block + 1), (x.block, slot.Empty) ∷ m.1)) × (lane (get_or s.words (word_of b) 0) (x.block % 4) ≡ code_of x.was + 2 ^ 15) in
            subst F same (refl, t.agrees.word),
      )

  -- the slot of the newest block goes home empty
  pub parks_allowed : (n id : ℕ) (m : Sat P B) (i : Item) (others : List Item) (rs : List (ℕ × Slot P B)) (j : ℕ) → m.0.held ≡ i ∷ others → i.was ≢ Bad → m.0.hand ≡ i.block + 1 → m.1 ≡ (i.block, slot.Empty) ∷ rs
      → Allows (K pass_seen book_seen made) n id m j (λ y. y) (parks (step n j 0 0 none) m)
  parks_allowed n id m i others rs j top good hand has s o wide me _ =
      let a = o.claims in let k = o.slots in let b : ℕ = i.block in let v : View = m.0 in let t = top_of made o.book s.words s.views a id v i others me top in
      let had : 0 < other_at b v = (tail_of (λ j. 0 < other_at j.block v) i v.held others top (a.each id v me).stands).0 in
      let w : View = with_hand v 0 in let hs : List (maybe.Option (Slot P B)) = set s.homes b (some slot.Empty) in
      let near = t.near in let busy = t.busy in let wideh = k.long in
      let here = tail_of (Parked pass_seen book_seen made o.book s.homes v.hand) i v.held others top (k.parked id v me) in
      let Q : List Item → Type 0 = Each (Parked pass_seen book_seen made o.book hs 0) in
      let Goal : List (ℕ × Slot P B) → Type 0 = λ c. (w : View) × (act : Act (Slot P B)) × Valid s.homes c act × K pass_seen book_seen made (stepped s j (get_or s.words j 0) id c w act) × parks (step n j 0 0 none) (v, c) (get_or s.words j 0) (w, carried_after c act) in
      subst Goal (sym has) (
        w,
        gives,
        tt,
        reloaded pass_seen book_seen made s.words j hs (set s.views id w) record {
          book = o.book;
          claims = rested made o.book s.words s.views a id v w s.words me refl (λ c. refl) refl refl refl (a.each id v me);
          counts = counts_kept made o.book s.views o.counts id v w me refl refl refl refl refl refl (λ _. inl refl);
          slots = slots_set pass_seen book_seen made o.book s.words s.words s.homes hs s.views k id v w me (λ c. omega arith) (kept_had s.homes b s.views id v w (some slot.Empty) me had) (length-set s.homes b (some slot.Empty))
              (λ j h q. pass_else pass_seen book_seen made o.book s.homes j b (some slot.Empty) (λ z. absurd (omega (arith, subst (λ (y : ℕ). code_at s.words y < 2 ^ 15) z q))) (k.home j h q))
              (λ j u ne at-j. parked_apart pass_seen book_seen made o.book s.homes b u.hand u.hand (some slot.Empty) u.held (t.apart j u ne at-j) (λ _ _ h. h) (k.parked j u at-j))
              (subst Q (sym top) (((λ bad. absurd (good bad)), λ _ _. set_here s.homes b (some slot.Empty) (omega arith)), parked_apart pass_seen book_seen made o.book s.homes b v.hand 0 (some slot.Empty) others t.gone (λ q ne _ z. ne (omega arith)) here.1));
          lock = lock_kept pass_seen book_seen made o.book s.words s.words s.homes hs s.views o.lock id v w me refl (set_else s.homes b (blocks_of made) (some slot.Empty) (λ z. omega arith)) refl (λ _ z. omega arith) refl;
        },
        refl,
      )

  -- the newest block is released, with its pass
  pub releases_allowed : (n id : ℕ) (m : Sat P B) (i : Item) (others : List Item) (p : P) (rs : List (ℕ × Slot P B)) (x : ℕ) → m.0.held ≡ i ∷ others → m.0.hand ≡ i.block + 1 → m.1 ≡ (i.block, slot.Pass p) ∷ rs
      → IsPassFor m.0.made i.block i.own (pass_seen p) → HasKeys i.own → x ≡ shifted i.block (bit_xor (code_of i.was + 2 ^ 15) (code_of i.own))
      → Allows (K pass_seen book_seen made) n id m (word_of i.block) (λ y. bit_xor y x) (releases (step n (word_of i.block) x 0 none) m)
  releases_allowed n id m i others p rs x top hand has ok keys is s o wide me _ =
      let a = o.claims in let k = o.slots in
      let b : ℕ = i.block in let v : View = m.0 in let wd : ℕ = get_or s.words (word_of b) 0 in let t = top_of made o.book s.words s.views a id v i others me top in
      let d : ℕ = bit_xor (code_of i.was + 2 ^ 15) (code_of i.own) in
      let was = a.each id v me in let known : v.made ≡ made = (was.live t.awake).0 in
      let near = t.near in let own-valid : IsCoded i.own = (subst IsEntry t.agrees.owned (a.entries b (omega (arith, a.sized))), keys) in
      let s₁ = code_small i.was t.agrees.coded in let s₂ = code_small i.own own-valid in
      let small : d < 2 ^ 16 = xor_lt 16 (code_of i.was + 2 ^ 15) (code_of i.own) (omega arith) (omega arith) in
      let broad = a.wide in let inside : word_of b < length s.words = omega arith in
      let W : List ℕ = set s.words (word_of b) (bit_xor wd (shifted b d)) in
      let here : code_at W b ≡ code_of i.own = op_here bit_xor lane_xor xor_none s.words b d inside small
      ∙ (ap (λ (j : ℕ). bit_xor j d) t.agrees.word ∙ xor_turn (code_of i.was + 2 ^ 15) (code_of i.own)) in
      let there : (j : ℕ) → j ≢ b → code_at W j ≡ code_at s.words j = λ j. op_there bit_xor lane_xor xor_none s.words b d j inside small in
      let long : length W ≡ length s.words = length-set s.words (word_of b) (bit_xor wd (shifted b d)) in
      let zero-word : get_or W 0 0 ≡ get_or s.words 0 0 = get_or-set_other s.words (word_of b) 0 (bit_xor wd (shifted b d)) 0 (λ e. omega arith) in
      let word = t.agrees.word in let gone = t.gone in
      let had : 0 < other_at b v = (tail_of (λ j. 0 < other_at j.block v) i v.held others top (a.each id v me).stands).0 in
      let w : View = with_hand (released v others) 0 in let hs : List (maybe.Option (Slot P B)) = set s.homes b (some (slot.Pass p)) in let wideh = k.long in
      let parked = tail_of (Parked pass_seen book_seen made o.book s.homes v.hand) i v.held others top (k.parked id v me) in
      let ok' : IsPassFor made b (now_at o.book b) (pass_seen p) = let F : Made × Entry → Type 0 = λ z. IsPassFor z.0 b z.1 (pass_seen p) in subst F (λ q. (known q, sym t.agrees.owned q)) ok in
      let Goal : ℕ × List (ℕ × Slot P B) → Type 0 = λ z. (w : View) × (act : Act (Slot P B)) × Valid s.homes z.1 act × K pass_seen book_seen made (stepped s (word_of b) (bit_xor wd z.0) id z.1 w act) × releases (step n (word_of b) z.0 0 none) (v, z.1) wd (w, carried_after z.1 act) in
      subst Goal (λ q. (sym is q, sym has q)) (
        w,
        gives,
        tt,
        record {
          book = o.book;
          claims = moved made o.book s.words s.views a id v w W me long b near there (omega (arith, ap (total (at b)) top, at_yes b i refl))
              (λ j ne. omega (arith, ap (total (at j)) top, at_no j i (λ q. ne (sym q))))
              (λ _. (here ∙ ap code_of (sym t.agrees.owned), subst IsCoded (sym t.agrees.owned) own-valid)) t.apart
              record {
                held = each_apart (Agrees o.book s.words) (Agrees o.book W) b others gone (λ j ne q. agrees_kept o.book s.words W j (there j.block ne) q) t.more;
                falls = falls_tail i v.held others top was.falls;
                few = omega (arith, was.few, ap length top);
                stands = (tail_of (λ j. 0 < other_at j.block v) i v.held others top was.stands).1;
                said = (tail_of (λ j. 0 < other_as j.block (code_of j.was) v) i v.held others top was.said).1;
                live = was.live;
                dead = λ q. absurd (false≢true (sym t.awake ∙ q));
              }
              refl (λ j. refl) (λ j. omega arith) (λ j _. refl) (λ some-bad. omega (arith, here, ap code_of (sym t.agrees.owned ∙ o.counts.bad_met b (omega (arith, some-bad, total-set (bad_at b) s.views id v w me)))))
              (λ j code. refl) (λ j code. omega arith);
          counts = counts_kept made o.book s.views o.counts id v w me refl refl refl refl refl refl (λ _. inl refl);
          slots = slots_set pass_seen book_seen made o.book s.words W s.homes hs s.views k id v w me (λ c. omega arith) (kept_had s.homes b s.views id v w (some (slot.Pass p)) me had) (length-set s.homes b (some (slot.Pass p)))
              (λ j h q. dite (ℕ_discrete j b) (λ z. subst (PassHome pass_seen book_seen made o.book hs) (sym z) (p, set_here s.homes b (some (slot.Pass p)) (omega arith), ok'))
              (λ ne. pass_else pass_seen book_seen made o.book s.homes j b (some (slot.Pass p)) ne (k.home j h (subst (λ (y : ℕ). y < 2 ^ 15) (there j ne) q))))
              (λ j u ne at-j. parked_apart pass_seen book_seen made o.book s.homes b u.hand u.hand (some (slot.Pass p)) u.held (t.apart j u ne at-j) (λ _ _ h. h) (k.parked j u at-j))
              (parked_apart pass_seen book_seen made o.book s.homes b v.hand 0 (some (slot.Pass p)) others gone (λ q ne _ z. ne (omega arith)) parked.1);
          lock = lock_kept pass_seen book_seen made o.book s.words W s.homes hs s.views o.lock id v w me zero-word (set_else s.homes b (blocks_of made) (some (slot.Pass p)) (λ z. omega arith)) refl (λ _ z. omega arith) refl;
        },
        λ i' others' e. ap (λ (l : List Item). (with_hand (released v l) 0, rs)) (sym (same_tail i i' others others' (sym top ∙ e))),
      )

  -- a bad block is put back
  pub puts_back_allowed : (n id : ℕ) (m : Sat P B) (i : Item) (others : List Item) (x : ℕ) → m.0.held ≡ i ∷ others → i.was ≡ Bad → m.0.hand ≡ 0
      → i.own ≡ Bad → x ≡ shifted i.block (2 ^ 15)
      → Allows (K pass_seen book_seen made) n id m (word_of i.block) (λ y. bit_xor y x) (puts_back (step n (word_of i.block) x 0 none) m)
  puts_back_allowed n id m i others x top bad free-hand own-bad is s o wide me _ =
      let a = o.claims in let k = o.slots in
      let b : ℕ = i.block in let v : View = m.0 in let wd : ℕ = get_or s.words (word_of b) 0 in let t = top_of made o.book s.words s.views a id v i others me top in
      let was = a.each id v me in let near = t.near in
      let broad = a.wide in let inside : word_of b < length s.words = omega arith in
      let W : List ℕ = set s.words (word_of b) (bit_xor wd (shifted b (2 ^ 15))) in
      let here : code_at W b ≡ 256 = op_here bit_xor lane_xor xor_none s.words b (2 ^ 15) inside (omega arith)
      ∙ ap (λ (j : ℕ). bit_xor j (2 ^ 15)) (t.agrees.word ∙ ap (λ (e : Entry). code_of e + 2 ^ 15) bad) in
      let there : (j : ℕ) → j ≢ b → code_at W j ≡ code_at s.words j = λ j. op_there bit_xor lane_xor xor_none s.words b (2 ^ 15) j inside (omega arith) in
      let long : length W ≡ length s.words = length-set s.words (word_of b) (bit_xor wd (shifted b (2 ^ 15))) in
      let zero-word : get_or W 0 0 ≡ get_or s.words 0 0 = get_or-set_other s.words (word_of b) 0 (bit_xor wd (shifted b (2 ^ 15))) 0 (λ e. omega arith) in
      let busy = t.busy in let word : code_at s.words b ≡ 256 + 2 ^ 15 = t.agrees.word ∙ ap (λ (e : Entry). code_of e + 2 ^ 15) bad in let gone = t.gone in
      let w : View = released v others in
      let parked = tail_of (Parked pass_seen book_seen made o.book s.homes v.hand) i v.held others top (k.parked id v me) in
      let Goal : ℕ → Type 0 = λ z. (w : View) × (act : Act (Slot P B)) × Valid s.homes m.1 act × K pass_seen book_seen made (stepped s (word_of b) (bit_xor wd z) id m.1 w act) × puts_back (step n (word_of b) z 0 none) m wd (w, carried_after m.1 act) in
      subst Goal (sym is) (
        w,
        keeps,
        tt,
        record {
          book = o.book;
          claims = moved made o.book s.words s.views a id v w W me long b near there (omega (arith, ap (total (at b)) top, at_yes b i refl))
              (λ j ne. omega (arith, ap (total (at j)) top, at_no j i (λ q. ne (sym q))))
              (λ _. (here ∙ ap code_of (sym (t.agrees.owned ∙ own-bad)), subst IsCoded (sym (t.agrees.owned ∙ own-bad)) (tt, tt))) t.apart
              record {
                held = each_apart (Agrees o.book s.words) (Agrees o.book W) b others gone (λ j ne q. agrees_kept o.book s.words W j (there j.block ne) q) t.more;
                falls = falls_tail i v.held others top was.falls;
                few = omega (arith, was.few, ap length top);
                stands = (tail_of (λ j. 0 < other_at j.block v) i v.held others top was.stands).1;
                said = (tail_of (λ j. 0 < other_as j.block (code_of j.was) v) i v.held others top was.said).1;
                live = was.live;
                dead = λ q. absurd (false≢true (sym t.awake ∙ q));
              }
              refl (λ j. refl) (λ j. omega arith) (λ j _. refl) (λ _. omega (arith, here)) (λ j code. refl) (λ j code. omega arith);
          counts = counts_kept made o.book s.views o.counts id v w me refl refl refl refl refl refl (λ _. inl refl);
          slots = slots_set pass_seen book_seen made o.book s.words W s.homes s.homes s.views k id v w me (λ c. omega arith) (λ c q at-c _. at-c) refl
              (λ j h q. dite (ℕ_discrete j b) (λ z. subst (PassHome pass_seen book_seen made o.book s.homes) (sym z) (parked.0.0 bad)) (λ ne. k.home j h (subst (λ (y : ℕ). y < 2 ^ 15) (there j ne) q)))
              (λ j u ne at-j. k.parked j u at-j) parked.1;
          lock = lock_kept pass_seen book_seen made o.book s.words W s.homes s.homes s.views o.lock id v w me zero-word refl refl (λ h. h) refl;
        },
        λ i' others' e. ap (λ (l : List Item). (released v l, m.1)) (sym (same_tail i i' others others' (sym top ∙ e))),
      )

  pub looks_allowed : (n id : ℕ) (m : Sat P B) (j : ℕ) → Allows (K pass_seen book_seen made) n id m j (λ y. y) (looked (step n j 0 0 none) m)
  looks_allowed n id m j s o wide me _ =
      let a = o.claims in let v : View = m.0 in let wd : ℕ = get_or s.words j 0 in let was = a.each id v me in (
        v,
        keeps,
        tt,
        reloaded pass_seen book_seen made s.words j s.homes (set s.views id v) record {
          book = o.book;
          claims = rested made o.book s.words s.views a id v v s.words me refl (λ c. refl) refl refl refl was;
          counts = counts_kept made o.book s.views o.counts id v v me refl refl refl refl refl refl (λ _. inl refl);
          slots = slots_set pass_seen book_seen made o.book s.words s.words s.homes s.homes s.views o.slots id v v me (λ c. omega arith) (λ c q at-c _. at-c) refl o.slots.home (λ j u _. o.slots.parked j u) (o.slots.parked id v me);
          lock = lock_kept pass_seen book_seen made o.book s.words s.words s.homes s.homes s.views o.lock id v v me refl refl refl (λ h. h) refl;
        },
        (
          refl,
          λ b live near is.
              let known : v.made ≡ made = (was.live live).0 in
              let c : ℕ = code_at s.words b in
              let near' : b < blocks_of made = subst (λ (z : Made). b < blocks_of z) known near in
              let seen : lane wd (b % 4) ≡ c = ap (λ (j : ℕ). lane (get_or s.words j 0) (b % 4)) is in (
                dite (dec_le (2 ^ 15) c)
                    (λ taken.
                    let holder = some_term (holds b) s.views (omega (arith, a.busy b near')) in
                    let theirs = a.each holder.0 holder.1 holder.2 in
                    let them = each_at (Agrees o.book s.words) b holder.1.held holder.3 theirs.held in
                    let small = code_small them.0.was them.2.coded in
                    let there : c ≡ code_of them.0.was + 2 ^ 15 = ap (code_at s.words) (sym them.1) ∙ them.2.word in
                    (them.0.was, (them.2.coded, omega arith)))
                    (λ unset.
                    let stood-free = a.free b near' (omega arith) in
                    let small = code_small (now_at o.book b) stood-free.1 in
                    (now_at o.book b, (stood-free.1, omega (arith, stood-free.0)))),
                each_map (Agrees o.book s.words) (λ i. i.block ≡ b → ReadsAs wd b i.was) v.held
                    (λ i agrees at-b.
                    let small = code_small i.was agrees.coded in
                    let there : c ≡ code_of i.was + 2 ^ 15 = ap (code_at s.words) (sym at-b) ∙ agrees.word in
                    (agrees.coded, omega arith))
                    was.held,
                (λ met. ((tt, tt), omega (arith, seen, a.stays b near' (omega (arith, met, term_le (bad_at b) s.views id v me))))),
                λ all none-held f has.
                    let low : c < 2 ^ 15 = dite (dec_le (2 ^ 15) c)
                    (λ taken.
                    let holder = some_term (holds b) s.views (omega (arith, a.busy b near')) in
                    let theirs = a.each holder.0 holder.1 holder.2 in
                    let another : holder.0 ≢ id = λ e. let same : holder.1 ≡ v = some-injective holder.1 v (sym holder.2 ∙ (ap (λ (j : ℕ). get_elem? s.views j) e ∙ me)) in absurd (omega (arith, holder.3, ap (holds b) same, none-held)) in
                    absurd (omega (arith, terms_le parts s.views id holder.0 v holder.1 another me holder.2, a.whole, all, ap parts_in known, (theirs.live (alive holder.1.spent (λ q. absurd (omega (arith, holder.3, ap (total (at b)) (theirs.dead q).0))))).1)))
                    (λ unset. omega arith) in
                    let stood-free = a.free b near' low in
                    let book-is : f ≡ o.book = (o.lock.loan id v f me has).0 in
                    subst (λ (z : BookSeen). ReadsAs wd b (now_at z b)) (sym book-is) (stood-free.1, omega (arith, seen, low, stood-free.0)),
              ),
        ),
      )
