-- Each step on a block's word keeps the rule.
use Rattle.std.proofs.Common.{◌≡◌, ℕ, ◌+◌, ◌%◌, ◌^◌, ◌<◌, Bool, false, ◌≢◌, List, [], ◌∷◌, length, get_or, set, sym, refl, ap, ◌∙◌, subst, inl, inr, ⊎_elim, arith, length-set, get_or-set_other, bit_or}
use mathlib.Core.Logic.{dite}
use mathlib.Core.Bool.{false≢true}
use mathlib.Core.Option as maybe
use mathlib.Core.Option.{some, none, some-injective, some-ne-none}
use native.Mathlib.Decide.{ℕ_discrete, dec_le}
use lib.ListN.{get_elem?}
use lib.Seq.{set-get_or}
use Rattle.atomic_table.specs.Table.{State, step, Act, keeps, takes, Valid, carried_after, stepped, Allows}
use Rattle.atomic_table.proofs.Lists.{set_else}
use Rattle.vd_arm.specs.Arm.{PassSeen}
use Rattle.key_state.specs.declared.entry.Entry.{Entry}
use Rattle.key_state.specs.declared.entry.Entry.TheVariants.{Bad}
use Rattle.key_state.specs.declared.seen.BookSeen.{BookSeen}
use Rattle.claim_table.specs.Codes.{code_of, IsCoded}
use Rattle.claim_table.specs.Lanes.{lane, word_of, code_at, shifted}
use Rattle.claim_table.specs.Sums.{total, Each}
use Rattle.claim_table.specs.Views.{blocks_of, parts_in, now_at, LentAs, item, answer_of, at, holds, refused, answered, refused_as, answered_as, found_bad, busy_at, other_at, busy_as, other_as, bad_at, parts, claimed, turned_away, with_hand}
use Rattle.claim_table.specs.Passes.{IsPassFor}
use Rattle.claim_table.specs.Rule.{Agrees, Fits, Claims, Parked, Kept}
use Rattle.claim_table.specs.Plays.{Sat, Claiming, claims}
use Rattle.claim_table.specs.declared.view.Item.{Item}
use Rattle.claim_table.specs.declared.view.Answer.TheVariants as answer
use Rattle.claim_table.specs.declared.view.Try.{Try}
use Rattle.claim_table.specs.declared.view.View.{View}
use Rattle.claim_table.specs.declared.view.Made.{Made}
use Rattle.claim_table.specs.declared.slot.Slot.{Slot}
use Rattle.claim_table.specs.declared.slot.Slot.TheVariants as slot
use Rattle.claim_table.proofs.Sums.{total-set, term_le, terms_le}
use Rattle.claim_table.proofs.LaneSteps.{lane_or, op_here, op_there, or_busy, or_none, or_set, same_lane}
use Rattle.claim_table.proofs.Basics.{at_yes, at_no, each_map, each_at, some_term, only_one, refused_no, refused_else, as_no, refused_as_else, refused_as_other, free_as, said_yes, answered_yes, busy_no, alive, bad_or, found_none, found_else, good_answer, above_none}
use Rattle.claim_table.proofs.WordParts.{fits_apart, moved, noted}
use Rattle.claim_table.proofs.SlotParts.{counts_kept, pass_else, parked_apart, kept_had, slots_set, lock_kept}

each_three : {A : Type 0} (P Q R : A → Type 0) (xs : List A) → Each P xs → Each Q xs → Each R xs → Each (λ x. P x × Q x × R x) xs
each_three P Q R [] p q r = tt
each_three P Q R (x ∷ xs) p q r = ((p.0, q.0, r.0), each_three P Q R xs p.1 q.1 r.1)

abbrev view_in : View → maybe.Option View → View
view_in v none = v
view_in v (some u) = u

module _ {P B : Type 0} (pass_seen : P → PassSeen) (book_seen : B → BookSeen) (made : Made) where
  abbrev pub K : State (Slot P B) View → Type 0
  K = Kept pass_seen book_seen made

  abbrev pub St : Type 0
  St = State (Slot P B) View

  abbrev pub board : List ℕ → List (maybe.Option (Slot P B)) → List View → St
  board ws hs vs = record { words = ws; homes = hs; views = vs }

  -- a load leaves the words
  pub reloaded : (ws : List ℕ) (k : ℕ) (hs : List (maybe.Option (Slot P B))) (vs : List View) → K (board ws hs vs) → K (board (set ws k (get_or ws k 0)) hs vs)
  reloaded ws k hs vs h = let Q : List ℕ → Type 0 = λ x. K (board x hs vs) in subst Q (sym (set-get_or ws k 0)) h

  pub claims_allowed : (n id : ℕ) (m : Sat P B) (b x : ℕ) → b < blocks_of made → Each (λ i. i.block < b) m.0.held → length m.0.held < 64 → m.0.spent ≡ false → m.0.hand ≡ 0 → x ≡ shifted b (2 ^ 15)
      → Allows K n id m (word_of b) (λ y. bit_or y x) (claims pass_seen book_seen (step n (word_of b) x 0 none) m)
  claims_allowed n id m b x near above room live free-hand is s o wide me _ =
      let fresh : holds b m.0 ≡ 0 = above_none b m.0.held above in
      let a = o.claims in let k = o.slots in let l = o.lock in
      let c : ℕ = code_at s.words b in let v : View = m.0 in let wd : ℕ = get_or s.words (word_of b) 0 in
      let small : c < 2 ^ 16 = omega arith in
      let broad = a.wide in let inside : word_of b < length s.words = omega arith in
      let W : List ℕ = set s.words (word_of b) (bit_or wd (shifted b (2 ^ 15))) in
      let here : code_at W b ≡ bit_or c (2 ^ 15) = op_here bit_or lane_or or_none s.words b (2 ^ 15) inside (omega arith) in
      let there : (j : ℕ) → j ≢ b → code_at W j ≡ code_at s.words j = λ j. op_there bit_or lane_or or_none s.words b (2 ^ 15) j inside (omega arith) in
      let long : length W ≡ length s.words = length-set s.words (word_of b) (bit_or wd (shifted b (2 ^ 15))) in
      let zero-word : get_or W 0 0 ≡ get_or s.words 0 0 = get_or-set_other s.words (word_of b) 0 (bit_or wd (shifted b (2 ^ 15))) 0 (λ e. omega arith) in
      let was = a.each id v me in let sums = a.busy b near in let known : v.made ≡ made = (was.live live).0 in
      let Goal : ℕ → Type 0 = λ y. (w : View) × (act : Act (Slot P B)) × Valid s.homes m.1 act × K (stepped s (word_of b) (bit_or wd y) id m.1 w act) × claims pass_seen book_seen (step n (word_of b) y 0 none) m wd (w, carried_after m.1 act) in
      let tell : (m' : Sat P B) → Claiming pass_seen book_seen b wd c m m' → claims pass_seen book_seen (step n (word_of b) (shifted b (2 ^ 15)) 0 none) m wd m'
      = λ m' h b' e₁ e₂. subst (λ (j : ℕ). Claiming pass_seen book_seen j wd (lane wd (j % 4)) m m') (same_lane b b' (2 ^ 15) e₁ e₂ (omega arith) (omega arith)) h in
      let mine : Each (Parked pass_seen book_seen made o.book s.homes v.hand) v.held = k.parked id v me in
      subst Goal (sym is) (dite (dec_le (2 ^ 15) c)
      (λ taken.
      let w : View = turned_away v b wd in
      let same : (j : ℕ) → code_at W j ≡ code_at s.words j = λ j. dite (ℕ_discrete j b) (λ e. subst (λ (y : ℕ). code_at W y ≡ code_at s.words y) (sym e) (here ∙ or_set c taken small)) (there j) in
      let one : total (holds b) s.views ≡ 1 = omega arith in
      let holder = some_term (holds b) s.views (omega arith) in
      let theirs = a.each holder.0 holder.1 holder.2 in
      let another : holder.0 ≢ id = λ e. let mine-it : holds b holder.1 ≡ holds b v = ap (λ (z : maybe.Option View). holds b (view_in v z)) (sym holder.2 ∙ (ap (λ (j : ℕ). get_elem? s.views j) e ∙ me)) in absurd (omega (arith, holder.3)) in
      let crowd : v.parts < parts_in v.made = omega (arith, terms_le parts s.views id holder.0 v holder.1 another me holder.2, a.whole, (theirs.live (alive holder.1.spent (λ q. absurd (omega (arith, holder.3, ap (total (at b)) (theirs.dead q).0))))).1, ap parts_in known) in
      let them = each_at (λ i. (0 < other_at i.block holder.1) × (0 < other_as i.block (code_of i.was) holder.1) × Agrees o.book s.words i) b holder.1.held holder.3
      (each_three (λ i. 0 < other_at i.block holder.1) (λ i. 0 < other_as i.block (code_of i.was) holder.1) (Agrees o.book s.words) holder.1.held theirs.stands theirs.said theirs.held) in
      let stood : 0 < other_at b holder.1 = subst (λ (j : ℕ). 0 < other_at j holder.1) them.1 them.2.0 in
      let spoke : 0 < other_as b (code_of them.0.was) holder.1 = subst (λ (j : ℕ). 0 < other_as j (code_of them.0.was) holder.1) them.1 them.2.1 in
      let lies : c ≡ code_of them.0.was + 2 ^ 15 = ap (code_at s.words) (sym them.1) ∙ them.2.2.word in (
        w,
        keeps,
        tt,
        record {
          book = o.book;
          claims = noted made o.book s.words s.views a id v w W me long same (λ j. refl)
              record { held = was.held; falls = was.falls; few = was.few; stands = each_map (λ i. 0 < other_at i.block v) (λ i. 0 < other_at i.block w) v.held (λ i h. omega (arith, refused_no wd b i.block)) was.stands; said = each_map (λ i. 0 < other_as i.block (code_of i.was) v) (λ i. 0 < other_as i.block (code_of i.was) w) v.held (λ i h. omega (arith, as_no wd b i.block (code_of i.was))) was.said; live = was.live; dead = λ e. absurd (false≢true (sym live ∙ e)) }
              refl
              (λ j. dite (ℕ_discrete j b)
              (λ e _. subst (λ (y : ℕ). 0 < total (other_at y) (set s.views id w)) (sym e)
              (omega (arith, total-set (other_at b) s.views id v w me, term_le (other_at b) s.views holder.0 holder.1 holder.2, stood, refused_no wd b b)))
              (λ ne. omega (arith, total-set (busy_at j) s.views id v w me, total-set (other_at j) s.views id v w me, a.met j, refused_else wd j b ne, refused_no wd b j)))
              (λ single. absurd (omega (arith, only_one (holds b) s.views id v single me)))
              (λ j. omega (arith, found_none wd j b answer.Busy refl))
              (λ j code h. dite (ℕ_discrete j b)
              (λ (e : j ≡ b). subst (λ (y : ℕ). 0 < total (other_as y code) (set s.views id w)) (sym e)
              (dite (ℕ_discrete code (code_of them.0.was))
              (λ (q : code ≡ code_of them.0.was). subst (λ (y : ℕ). 0 < total (other_as b y) (set s.views id w)) (sym q)
              (omega (arith, total-set (other_as b (code_of them.0.was)) s.views id v w me, term_le (other_as b (code_of them.0.was)) s.views holder.0 holder.1 holder.2, spoke, as_no wd b b (code_of them.0.was))))
              (λ (far : code ≢ code_of them.0.was).
              let h' : 0 < total (busy_as b code) (set s.views id w) = subst (λ (y : ℕ). 0 < total (busy_as y code) (set s.views id w)) e h in
              omega (arith, h', total-set (busy_as b code) s.views id v w me, total-set (other_as b code) s.views id v w me, a.found b code, refused_as_other wd b code (λ z. far (omega (arith, z, lies))), as_no wd b b code))))
              (λ (ne : j ≢ b). omega (arith, h, total-set (busy_as j code) s.views id v w me, total-set (other_as j code) s.views id v w me, a.found j code, refused_as_else wd j b code ne, as_no wd b j code)));
          counts = counts_kept made o.book s.views o.counts id v w me refl refl refl refl refl refl (λ j. inl (omega (arith, found_none wd j b answer.Busy refl)));
          slots = slots_set pass_seen book_seen made o.book s.words W s.homes s.homes s.views k id v w me (λ c. omega arith) (λ c q at-c _. at-c) refl (λ j h q. k.home j h (subst (λ (y : ℕ). y < 2 ^ 15) (same j) q)) (λ j u _. k.parked j u) mine;
          lock = lock_kept pass_seen book_seen made o.book s.words W s.homes s.homes s.views l id v w me zero-word refl refl (λ h. h) refl;
        },
        tell (w, m.1) ((λ _. (refl, crowd, (them.0.was, them.2.2.coded, lies))), λ l. absurd (omega arith)),
      ))
      (λ unset.
      let e : Entry = now_at o.book b in
      let stood-free = a.free b near (omega arith) in
      let lies : c ≡ code_of e = stood-free.0 in let coded : IsCoded e = stood-free.1 in
      let set-bit : code_at W b ≡ c + 2 ^ 15 = here ∙ or_busy c (omega arith) in
      let none-holds : total (holds b) s.views ≡ 0 = omega arith in
      let lent : LentAs v b e = λ f has. ap (λ (z : BookSeen). now_at z b) (l.loan id v f me has).0 in
      let apart : (j : ℕ) (u : View) → j ≢ id → get_elem? s.views j ≡ some u → holds b u ≡ 0 = λ j u _ at-j. omega (arith, term_le (holds b) s.views j u at-j) in
      let home = k.home b near (omega arith) in
      let claims' : (w : View) → w.held ≡ (claimed v b wd e).held → w.mine ≡ (claimed v b wd e).mine → w.parts ≡ v.parts → w.spent ≡ v.spent → w.made ≡ v.made → (0 < total (bad_at b) (set s.views id w) → e ≡ Bad) → Claims made o.book W (set s.views id w)
      = λ w e₁ e₂ e₃ e₄ e₅ met-bad. moved made o.book s.words s.views a id v w W me long b near there (omega (arith, at_yes b (item b e e false) refl, ap (total (at b)) e₁)) (λ j ne. omega (arith, at_no j (item b e e false) (λ q. ne (sym q)), ap (total (at j)) e₁)) (λ l. absurd (omega arith)) apart
      (subst (λ (z : List Item × List Try × ℕ × Bool × Made). Fits made o.book W z.0 z.1 z.2 z.3 z.4) (λ q. (sym e₁ q, sym e₂ q, sym e₃ q, sym e₄ q, sym e₅ q))
      record {
        held = (record { word = set-bit ∙ ap (λ (j : ℕ). j + 2 ^ 15) lies; owned = refl; coded = coded; safe = λ q. absurd (false≢true q) }, (fits_apart made o.book s.words W b v fresh there was).held);
        falls = (above, was.falls);
        few = omega arith;
        stands = (omega (arith, answered_yes wd b e), each_map (λ i. 0 < other_at i.block v) (λ i. 0 < other_at i.block (claimed v b wd e)) v.held (λ i h. omega arith) was.stands);
        said = (omega (arith, said_yes wd b e), each_map (λ i. 0 < other_as i.block (code_of i.was) v) (λ i. 0 < other_as i.block (code_of i.was) (claimed v b wd e)) v.held (λ i h. omega arith) was.said);
        live = was.live;
        dead = λ q. absurd (false≢true (sym live ∙ q));
      })
      e₃ (λ j. omega (arith, busy_no wd j b e, ap (total (refused j)) e₂)) (λ j. omega (arith, ap (total (answered j)) e₂))
      (λ j ne. omega (arith, found_else wd j b (answer_of e) ne, ap (total (found_bad j)) e₂)) (λ some-bad. omega (arith, set-bit, lies, ap code_of (met-bad some-bad)))
      (λ j code. omega (arith, free_as wd j b code e, ap (total (refused_as j code)) e₂)) (λ j code. omega (arith, ap (total (answered_as j code)) e₂)) in
      ⊎_elim
      (λ (bad : e ≡ Bad).
      let w : View = claimed v b wd e in (
        w,
        keeps,
        tt,
        record {
          book = o.book;
          claims = claims' w refl refl refl refl refl (λ _. bad);
          counts = counts_kept made o.book s.views o.counts id v w me refl refl refl refl refl refl (λ j. dite (ℕ_discrete j b) (λ (q : j ≡ b). inr (ap (now_at o.book) q ∙ bad)) (λ (q : j ≢ b). inl (omega (arith, found_else wd j b (answer_of e) q))));
          slots = slots_set pass_seen book_seen made o.book s.words W s.homes s.homes s.views k id v w me (λ c. omega arith) (λ c q at-c _. at-c) refl
              (λ j h q. dite (ℕ_discrete j b) (λ z. absurd (omega (arith, subst (λ (y : ℕ). code_at W y < 2 ^ 15) z q))) (λ ne. k.home j h (subst (λ (y : ℕ). y < 2 ^ 15) (there j ne) q)))
              (λ j u _. k.parked j u) (((λ _. home), λ good. absurd (good bad)), mine);
          lock = lock_kept pass_seen book_seen made o.book s.words W s.homes s.homes s.views l id v w me zero-word refl refl (λ h. h) refl;
        },
        tell (w, m.1) ((λ z. absurd (omega arith)), λ _. (e, coded, lies, (λ _. refl), (λ good. absurd (good bad)), lent)),
      ))
      (λ (good : e ≢ Bad).
      let w : View = with_hand (claimed v b wd e) (b + 1) in let p : P = home.0 in
      let hs : List (maybe.Option (Slot P B)) = set s.homes b none in (
        w,
        takes b (slot.Pass p),
        home.1,
        record {
          book = o.book;
          claims = claims' w refl refl refl refl refl (λ some-bad. o.counts.bad_met b (omega (arith, some-bad, total-set (bad_at b) s.views id v w me, found_none wd b b (answer_of e) (good_answer e good))));
          counts = counts_kept made o.book s.views o.counts id v w me refl refl refl refl refl refl (λ j. inl (omega (arith, found_none wd j b (answer_of e) (good_answer e good))));
          slots = slots_set pass_seen book_seen made o.book s.words W s.homes hs s.views k id v w me (λ c. omega arith) (kept_had s.homes b s.views id v w none me (omega (arith, answered_yes wd b e))) (length-set s.homes b none)
              (λ j h q. dite (ℕ_discrete j b) (λ z. absurd (omega (arith, subst (λ (y : ℕ). code_at W y < 2 ^ 15) z q)))
              (λ ne. pass_else pass_seen book_seen made o.book s.homes j b none ne (k.home j h (subst (λ (y : ℕ). y < 2 ^ 15) (there j ne) q))))
              (λ j u ne at-j. parked_apart pass_seen book_seen made o.book s.homes b u.hand u.hand none u.held (apart j u ne at-j) (λ _ _ h. h) (k.parked j u at-j))
              (((λ bad. absurd (good bad)), λ _ away. absurd (away refl)), parked_apart pass_seen book_seen made o.book s.homes b v.hand (b + 1) none v.held fresh (λ i _ _ z. omega arith) mine);
          lock = lock_kept pass_seen book_seen made o.book s.words W s.homes hs s.views l id v w me zero-word (set_else s.homes b (blocks_of made) none (λ z. omega arith)) refl (λ _ z. omega arith) refl;
        },
        tell (w, (b, slot.Pass p) ∷ m.1) ((λ z. absurd (omega arith)), λ _. (e, coded, lies, (λ bad. absurd (good bad)), (λ _. (p, refl, subst (λ (z : Made). IsPassFor z b e (pass_seen p)) (sym known) home.2)), lent)),
      ))
      (bad_or e)))
