-- The steps on the lock, with the book, and a seat that is cut in two or joined.
use Rattle.std.proofs.Common.{◌≡◌, ℕ, ◌+◌, ◌-◌, ◌/◌, ◌%◌, ◌^◌, ◌<◌, ◌≤◌, Bool, true, false, eqb, cond, ◌≢◌, ◌⊎◌, List, [], ◌∷◌, map, length, get_or, set, eqb-true, eq-eqb, sym, refl, ap, ◌∙◌, subst, inl, inr, ⊎_elim, arith, length-set, length-append, get_or-set_other, get_or-set_same, bit_or, bit_and, ◌&&◌, Option, Some, None}
use Rattle.std.proofs.lemmas.List.{length-map}
use mathlib.Core.Logic.{dite}
use mathlib.Core.Bool.{false≢true}
use mathlib.Core.Option as maybe
use mathlib.Core.Option.{some, none, some-injective, some-ne-none}
use native.Mathlib.Decide.{ℕ_discrete, dec_le}
use lib.ListN.{get_elem?}
use Rattle.atomic_table.specs.Table.{step, Act, keeps, takes, gives, rest, Valid, carried_after, stepped, Allows}
use Rattle.atomic_table.proofs.Lists.{at_set, set_here, set_else}
use Rattle.vd_arm.specs.Arm.{PassSeen}
use Rattle.key_state.specs.Entries.{IsPending, AreEntries}
use Rattle.key_state.specs.Books.{Follows, follows_same, follows_then}
use Rattle.key_state.specs.declared.entry.Entry.{Entry}
use Rattle.key_state.specs.declared.entry.Entry.TheVariants.{Settled, Pending, Bad}
use Rattle.key_state.specs.declared.seen.BookSeen.{BookSeen}
use Rattle.claim_table.specs.Codes.{code_of, IsCoded}
use Rattle.claim_table.specs.Lanes.{lane, word_of, code_at}
use Rattle.claim_table.specs.Sums.{total, Each, Among}
use Rattle.claim_table.specs.Views.{blocks_of, parts_in, now_at, synced_at, at, holds, busy_at, other_at, busy_as, other_as, bad_at, parts, lent, has_loan, gave_by, with_hand, is_safe, has_ended, has_cleared, has_spoilt, those, brought, given}
use Rattle.claim_table.specs.Passes.{IsPassFor}
use Rattle.claim_table.specs.Books.{Lends, MayGive}
use Rattle.claim_table.specs.Rule.{Agrees, FitsView, Claims, PassHome, Parked, ShelfHome, Lock}
use Rattle.claim_table.specs.Plays.{Sat, lending, parks, fetches_book, takes_book, gives_book}
use Rattle.claim_table.specs.declared.view.Item.{Item}
use Rattle.claim_table.specs.declared.view.View.{View}
use Rattle.claim_table.specs.declared.view.Made.{Made}
use Rattle.claim_table.specs.declared.slot.Shelf.{Shelf}
use Rattle.claim_table.specs.declared.slot.Slot.{Slot}
use Rattle.claim_table.specs.declared.slot.Slot.TheVariants as slot
use Rattle.claim_table.proofs.Sums.{total-set, term_le, terms_le}
use Rattle.claim_table.proofs.Basics.{each_map, each_in, some_same, falls_brought}
use Rattle.claim_table.proofs.WordParts.{agrees_kept, rested}
use Rattle.claim_table.proofs.Steps.{K, reloaded}
use Rattle.claim_table.proofs.GaveBack.{among_more, each_at, each_set, gave_new, gave_alone}
use Rattle.claim_table.proofs.BadCount.{bad_after, bad_place}
use Rattle.claim_table.proofs.SlotParts.{counts_kept, pass_else, parked_else, kept_none, kept_book, slots_set, lock_kept}

-- the words of the blocks are apart from the lock
codes_apart : (ws : List ℕ) (x : ℕ) (c : ℕ) → code_at (set ws 0 x) c ≡ code_at ws c
codes_apart ws x c = ap (λ (n : ℕ). lane n (c % 4)) (get_or-set_other ws 0 (word_of c) x 0 (λ e. omega arith))

brought_at : (f : BookSeen) (c : ℕ) (xs : List Item) → total (at c) (map (brought f) xs) ≡ total (at c) xs
brought_at f c [] = refl
brought_at f c (i ∷ xs) = omega (arith, brought_at f c xs)

both_true : (a b : Bool) → (a && b) ≡ true → (a ≡ true) × (b ≡ true)
both_true true b h = (refl, h)
both_true false b h = absurd (false≢true h)

pending_safe : (e s : Entry) → is_safe e s ≡ true → IsPending e × (s ≡ e)
pending_safe (Pending k n) (Pending j l) h = let t = both_true (eqb k j) (eqb n l) h in ((k, n, refl), λ i. Pending (sym (eqb-true k j t.0) i) (sym (eqb-true n l t.1) i))
pending_safe (Pending k n) (Settled j) h = absurd (false≢true h)
pending_safe (Pending k n) Bad h = absurd (false≢true h)
pending_safe (Settled k) s h = absurd (false≢true h)
pending_safe Bad s h = absurd (false≢true h)

each_brought : (g f : BookSeen) (words : List ℕ) (xs : List Item) → Each (Agrees g words) xs → Each (Agrees f words) (map (brought f) xs)
each_brought g f words [] h = tt
each_brought g f words (i ∷ xs) h = (record { word = h.0.word; owned = refl; coded = h.0.coded; safe = pending_safe (now_at f i.block) (synced_at f i.block) }, each_brought g f words xs h.1)

each_stands : (f : BookSeen) (P : ℕ → ℕ → Type 0) (xs : List Item) → Each (λ i. P i.block (code_of i.was)) xs → Each (λ i. P i.block (code_of i.was)) (map (brought f) xs)
each_stands f P [] h = tt
each_stands f P (i ∷ xs) h = (h.0, each_stands f P xs h.1)

shut_cases : (a b : Bool) (P : Type 0) → (a ≡ true → P) → (b ≡ true → P) → cond a true b ≡ true → P
shut_cases true b P f g h = f refl
shut_cases false b P f g h = g h

no_some : {A : Type 0} (x : A) (o : Option A) → o ≡ None → o ≡ Some x → ⊥
no_some x o e d = let z : None ≡ Some x = sym e ∙ d in cc

-- where one view holds a block, another does not
alone_holds : (made : Made) (book : BookSeen) (words : List ℕ) (views : List View) (a : Claims made book words views) (id j : ℕ) (v u : View) (b : ℕ)
    → j ≢ id → get_elem? views id ≡ some v → get_elem? views j ≡ some u → 0 < holds b u → holds b v ≡ 0
alone_holds made book words views a id j v u b ne me at-j some-there =
    let both = terms_le (holds b) views id j v u ne me at-j in let small : code_at words b < 2 ^ 16 = omega arith in
    dite (dec_le (blocks_of made) b) (λ far. omega (arith, a.outside b far)) (λ near. omega (arith, a.busy b (omega arith)))

near_held : (made : Made) (book : BookSeen) (words : List ℕ) (views : List View) (a : Claims made book words views) (j : ℕ) (u : View) (b : ℕ)
    → get_elem? views j ≡ some u → 0 < holds b u → b < (blocks_of made)
near_held made book words views a j u b at-j some-there = dite (dec_le (blocks_of made) b) (λ far. absurd (omega (arith, a.outside b far, term_le (holds b) views j u at-j))) (λ near. omega arith)

abbrev seat_of : {P B : Type 0} → View → List (ℕ × Slot P B) → Sat P B
seat_of w c = (w, c)

module _ {P B : Type 0} (pass_seen : P → PassSeen) (book_seen : B → BookSeen) (made : Made) where
  -- the book's slot changes, and no item's
  pub parked_far : (book : BookSeen) (words : List ℕ) (homes : List (maybe.Option (Slot P B))) (views : List View) (a : Claims made book words views) (j hand hand' : ℕ) (u : View) (h : maybe.Option (Slot P B))
      → get_elem? views j ≡ some u → (hand' ≡ hand) ⊎ (hand ≡ 0) ⊎ (hand ≡ (blocks_of made) + 1)
      → Each (Parked pass_seen book_seen made book homes hand) u.held → Each (Parked pass_seen book_seen made book (set homes (blocks_of made) h) hand') u.held
  parked_far book words homes views a j hand hand' u h at-j hands = each_in (Parked pass_seen book_seen made book homes hand) (Parked pass_seen book_seen made book (set homes (blocks_of made) h) hand') u.held
      (λ i some-there t. let near = near_held made book words views a j u i.block at-j some-there in
      parked_else pass_seen book_seen made book homes (blocks_of made) hand hand' h i (λ e. omega arith)
      (λ away. ⊎_elim (λ (e : hand' ≡ hand). λ q. away (e ∙ q)) (λ (r : (hand ≡ 0) ⊎ (hand ≡ (blocks_of made) + 1)). λ q. ⊎_elim (λ (e : hand ≡ 0). absurd (omega arith)) (λ (e : hand ≡ (blocks_of made) + 1). absurd (omega arith)) r) hands) t)

  -- the seat keeps its loan, and moves the book's slot
  lock_moved : {book : BookSeen} (words : List ℕ) (homes : List (maybe.Option (Slot P B))) (views : List View) (l : Lock pass_seen book_seen made book words homes views) (id : ℕ) (v w : View) (g : BookSeen) (h : maybe.Option (Slot P B))
      → get_elem? views id ≡ some v → v.loan ≡ Some g → w.loan ≡ Some g → w.spent ≡ v.spent
      → (w.hand ≢ (blocks_of made) + 1 → ShelfHome pass_seen book_seen made (set homes (blocks_of made) h))
      → Lock pass_seen book_seen made book words (set homes (blocks_of made) h) (set views id w)
  lock_moved {book} words homes views l id v w g h me has has' same-spent lies = record {
    bit = omega (arith, total-set has_loan views id v w me, l.bit, ap lent has, ap lent has');
    one = l.one;
    loan = λ j u f e q. ⊎_elim
        (λ (t : (j ≡ id) × (w ≡ u)). let same : f ≡ g = some_same g f (sym has' ∙ (ap (λ (z : View). z.loan) t.1 ∙ q)) in
        (same ∙ (l.loan id v g me has).0, λ away. lies (λ z. away (ap (λ (z : View). z.hand) (sym t.1) ∙ z))))
        (λ (t : (j ≢ id) × (get_elem? views j ≡ some u)). absurd (omega (arith, terms_le has_loan views id j v u t.0 me t.1, ap lent has, ap lent q, l.bit, l.one)))
        (at_set views id j w u e);
    awake = λ j u f e q. ⊎_elim (λ (t : (j ≡ id) × (w ≡ u)). ap (λ (z : View). z.spent) (sym t.1) ∙ (same-spent ∙ l.awake id v g me has)) (λ t. l.awake j u f t.1 q) (at_set views id j w u e);
    home = λ z. absurd (omega (arith, term_le has_loan views id v me, ap lent has, l.bit));
  }

  abbrev with_shelf : ℕ → Shelf B → List (ℕ × Slot P B) → List (ℕ × Slot P B)
  with_shelf z shelf rs = (z, slot.Book shelf) ∷ rs

  abbrev shelf_of : Shelf B → Slot P B → Shelf B
  shelf_of x (slot.Book y) = y
  shelf_of x _ = x

  abbrev shelf_in : Shelf B → List (ℕ × Slot P B) → Shelf B
  shelf_in x [] = x
  shelf_in x (s ∷ _) = shelf_of x s.1

  pub takes_book_allowed : (n id : ℕ) (m : Sat P B) → m.0.loan ≡ None → m.0.spent ≡ false → m.0.hand ≡ 0
      → Allows (K pass_seen book_seen made) n id m 0 (λ y. bit_or y 1) (takes_book pass_seen book_seen (step n 0 1 0 none) m)
  takes_book_allowed n id m free live free-hand s o wide me _ =
      let a = o.claims in let k = o.slots in let l = o.lock in let v : View = m.0 in let was = a.each id v me in
      let known : v.made ≡ made = (was.live live).0 in let same-n : (blocks_of v.made) ≡ (blocks_of made) = ap (λ (z : Made). (blocks_of z)) known in
      let r : ℕ = get_or s.words 0 0 in let broad = a.wide in let wideh = k.long in let one = l.one in
      let Goal : ℕ → Type 0 = λ y. (w : View) × (act : Act (Slot P B)) × Valid s.homes m.1 act × K pass_seen book_seen made (stepped s 0 y id m.1 w act) × takes_book pass_seen book_seen (step n 0 1 0 none) m r (w, carried_after m.1 act) in
      dite (ℕ_discrete r 0)
      (λ unset.
      let t = l.home unset in let x : B = t.0 in let shelf : Shelf B = t.1 in let y : ℕ = bit_or r 1 in let is-one : y ≡ 1 = ap (λ (z : ℕ). bit_or z 1) unset in
      let L : BookSeen → Type 0 = Lends v in
      let F : Made → Type 0 = λ z. Follows z.book o.book in
      let lends : Lends v (book_seen x) = subst L (sym t.4) record {
        owned = each_map (Agrees o.book s.words) (λ i. now_at o.book i.block ≡ i.own) v.held (λ i q. q.owned) was.held;
        safe = each_map (Agrees o.book s.words) (λ i. i.safe ≡ true → IsPending i.own × (synced_at o.book i.block ≡ i.own)) v.held (λ i q. q.safe) was.held;
        sized = a.sized ∙ sym same-n;
        follows = subst F (sym known) o.counts.follows;
        after = each_at (λ old. Follows old o.book) s.views id v me o.counts.after;
        shut = o.counts.told_shut id v me;
        bad = λ b some-bad. o.counts.bad_met b (omega (arith, term_le (bad_at b) s.views id v me));
        alone = λ all. subst (λ (z : Made). Among o.book (z.book ∷ v.gave)) (sym known)
            (among_more o.book made.book (gave_by s.views) v.gave (gave_alone o.book made o.book s.words s.views a o.counts id v me (all ∙ ap parts_in known)) o.counts.given);
      } in
      let w : View = lending v (book_seen x) in let hs : List (maybe.Option (Slot P B)) = set s.homes (blocks_of made) none in
      let W : List ℕ = set s.words 0 y in
      let here : get_or W 0 0 ≡ y = get_or-set_same s.words 0 y 0 (omega arith) in
      let gone : get_elem? hs (blocks_of made) ≡ some none = set_here s.homes (blocks_of made) none (omega arith) in (
        w,
        takes (blocks_of made) (slot.Book shelf),
        t.2,
        record {
          book = o.book;
          claims = rested made o.book s.words s.views a id v w W me (length-set s.words 0 y) (codes_apart s.words y) refl refl refl was;
          counts = counts_kept made o.book s.views o.counts id v w me refl refl refl refl refl refl (λ _. inl refl);
          slots = slots_set pass_seen book_seen made o.book s.words W s.homes hs s.views k id v w me (λ c. omega arith) (λ c q at-c _. kept_none s.homes (blocks_of made) c q at-c) (length-set s.homes (blocks_of made) none)
              (λ j h q. pass_else pass_seen book_seen made o.book s.homes j (blocks_of made) none (λ e. omega arith) (k.home j h (subst (λ (z : ℕ). z < 2 ^ 15) (codes_apart s.words y j) q)))
              (λ j u _ at-j. parked_far o.book s.words s.homes s.views a j u.hand u.hand u none at-j (inl refl) (k.parked j u at-j))
              (parked_far o.book s.words s.homes s.views a id v.hand w.hand v none me (inr (inl free-hand)) (k.parked id v me));
          lock = record {
            bit = omega (arith, total-set has_loan s.views id v w me, l.bit, ap lent free);
            one = omega arith;
            loan = λ j u f e has. ⊎_elim
                (λ (q : (j ≡ id) × (w ≡ u)). (some_same (book_seen x) f (ap (λ (z : View). z.loan) q.1 ∙ has) ∙ t.4, λ away. absurd (away (ap (λ (z : View). z.hand) (sym q.1) ∙ ap (λ (z : ℕ). z + 1) same-n))))
                (λ (q : (j ≢ id) × (get_elem? s.views j ≡ some u)). absurd (omega (arith, term_le has_loan s.views j u q.1, ap lent has, l.bit)))
                (at_set s.views id j w u e);
            awake = λ j u f e has. ⊎_elim (λ (q : (j ≡ id) × (w ≡ u)). ap (λ (z : View). z.spent) (sym q.1) ∙ live) (λ (q : (j ≢ id) × (get_elem? s.views j ≡ some u)). l.awake j u f q.1 has) (at_set s.views id j w u e);
            home = λ z. absurd (omega arith);
          };
        },
        ((λ _. (x, shelf, ap (λ (z : ℕ). seat_of w (with_shelf z shelf m.1)) (sym same-n), t.3, lends)), λ ne. absurd (ne unset)),
      ))
      (λ set-already.
      let is : bit_or r 1 ≡ r = let q : r ≡ 1 = omega arith in ap (λ (z : ℕ). bit_or z 1) q ∙ sym q in
      subst Goal (sym is) (
        v,
        keeps,
        tt,
        reloaded pass_seen book_seen made s.words 0 s.homes (set s.views id v) record {
          book = o.book;
          claims = rested made o.book s.words s.views a id v v s.words me refl (λ c. refl) refl refl refl was;
          counts = counts_kept made o.book s.views o.counts id v v me refl refl refl refl refl refl (λ _. inl refl);
          slots = slots_set pass_seen book_seen made o.book s.words s.words s.homes s.homes s.views k id v v me (λ c. omega arith) (λ c q at-c _. at-c) refl k.home (λ j u _. k.parked j u) (k.parked id v me);
          lock = lock_kept pass_seen book_seen made o.book s.words s.words s.homes s.homes s.views l id v v me refl refl refl (λ h. h) refl;
        },
        ((λ z. absurd (set-already z)), λ _. refl),
      ))

  -- the book's slot, which is empty between calls, comes out
  pub fetches_book_allowed : (n id : ℕ) (m : Sat P B) (j : ℕ) (g : BookSeen) → m.0.loan ≡ Some g → m.0.spent ≡ false → m.0.hand ≡ 0
      → Allows (K pass_seen book_seen made) n id m j (λ y. y) (fetches_book (step n j 0 0 none) m)
  fetches_book_allowed n id m j g has live free-hand s o wide me _ =
      let a = o.claims in let k = o.slots in let l = o.lock in let v : View = m.0 in let was = a.each id v me in
      let known : v.made ≡ made = (was.live live).0 in let same-n : (blocks_of v.made) ≡ (blocks_of made) = ap (λ (z : Made). (blocks_of z)) known in
      let at-home = (l.loan id v g me has).1 (λ z. omega arith) in
      let w : View = with_hand v ((blocks_of v.made) + 1) in let hs : List (maybe.Option (Slot P B)) = set s.homes (blocks_of made) none in let wideh = k.long in (
        w,
        takes (blocks_of made) (slot.Book at-home.0),
        at-home.1,
        reloaded pass_seen book_seen made s.words j hs (set s.views id w) record {
          book = o.book;
          claims = rested made o.book s.words s.views a id v w s.words me refl (λ c. refl) refl refl refl was;
          counts = counts_kept made o.book s.views o.counts id v w me refl refl refl refl refl refl (λ _. inl refl);
          slots = slots_set pass_seen book_seen made o.book s.words s.words s.homes hs s.views k id v w me (λ c. omega arith) (λ c q at-c _. kept_none s.homes (blocks_of made) c q at-c) (length-set s.homes (blocks_of made) none)
              (λ j h q. pass_else pass_seen book_seen made o.book s.homes j (blocks_of made) none (λ e. omega arith) (k.home j h q))
              (λ j u _ at-j. parked_far o.book s.words s.homes s.views a j u.hand u.hand u none at-j (inl refl) (k.parked j u at-j))
              (parked_far o.book s.words s.homes s.views a id v.hand w.hand v none me (inr (inl free-hand)) (k.parked id v me));
          lock = lock_moved s.words s.homes s.views l id v w g none me has has refl (λ away. absurd (away (ap (λ (z : ℕ). z + 1) same-n)));
        },
        (at-home.0, ap (λ (z : ℕ). seat_of w (with_shelf z at-home.0 m.1)) (sym same-n)),
      )

  -- the book's slot goes home empty
  pub parks_book_allowed : (n id : ℕ) (m : Sat P B) (j : ℕ) (g : BookSeen) (shelf : Shelf B) (rs : List (ℕ × Slot P B)) → m.0.loan ≡ Some g → m.0.spent ≡ false → m.0.hand ≡ (blocks_of m.0.made) + 1 → m.1 ≡ (blocks_of m.0.made, slot.Book shelf) ∷ rs
      → Allows (K pass_seen book_seen made) n id m j (λ y. y) (parks (step n j 0 0 none) m)
  parks_book_allowed n id m j g shelf rs has live hand carries s o wide me _ =
      let a = o.claims in let k = o.slots in let l = o.lock in let v : View = m.0 in let was = a.each id v me in
      let known : v.made ≡ made = (was.live live).0 in let same-n : (blocks_of v.made) ≡ (blocks_of made) = ap (λ (z : Made). (blocks_of z)) known in
      let w : View = with_hand v 0 in let e : maybe.Option (Slot P B) = some (slot.Book shelf) in let hs : List (maybe.Option (Slot P B)) = set s.homes (blocks_of made) e in let wideh = k.long in
      let Goal : List (ℕ × Slot P B) → Type 0 = λ c. (w : View) × (act : Act (Slot P B)) × Valid s.homes c act × K pass_seen book_seen made (stepped s j (get_or s.words j 0) id c w act) × parks (step n j 0 0 none) (v, c) (get_or s.words j 0) (w, carried_after c act) in
      let carries' : m.1 ≡ (blocks_of made, slot.Book shelf) ∷ rs = carries ∙ ap (λ (z : ℕ). with_shelf z shelf rs) same-n in
      subst Goal (sym carries') (
        w,
        gives,
        tt,
        reloaded pass_seen book_seen made s.words j hs (set s.views id w) record {
          book = o.book;
          claims = rested made o.book s.words s.views a id v w s.words me refl (λ c. refl) refl refl refl was;
          counts = counts_kept made o.book s.views o.counts id v w me refl refl refl refl refl refl (λ _. inl refl);
          slots = slots_set pass_seen book_seen made o.book s.words s.words s.homes hs s.views k id v w me (λ c. omega arith) (λ c q at-c _. kept_book s.homes (blocks_of made) shelf c q at-c) (length-set s.homes (blocks_of made) e)
              (λ j h q. pass_else pass_seen book_seen made o.book s.homes j (blocks_of made) e (λ z. omega arith) (k.home j h q))
              (λ j u _ at-j. parked_far o.book s.words s.homes s.views a j u.hand u.hand u e at-j (inl refl) (k.parked j u at-j))
              (parked_far o.book s.words s.homes s.views a id v.hand w.hand v e me (inr (inr (hand ∙ ap (λ (z : ℕ). z + 1) same-n))) (k.parked id v me));
          lock = lock_moved s.words s.homes s.views l id v w g e me has has refl (λ _. (shelf, set_here s.homes (blocks_of made) e (omega arith)));
        },
        refl,
      )

  -- a book that comes home changes only what the seat holds
  rebooked : (g f : BookSeen) (words ws : List ℕ) (views : List View) (a : Claims made g words views) (id : ℕ) (v : View) → get_elem? views id ≡ some v → v.spent ≡ false → v.made ≡ made
      → length ws ≡ length words → ((c : ℕ) → code_at ws c ≡ code_at words c) → MayGive v.held g f → AreEntries f.now → Claims made f ws (set views id (given v f))
  rebooked g f words ws views a id v me live known long same may entries =
      let w : View = given v f in let was = a.each id v me in let same-n : (blocks_of v.made) ≡ (blocks_of made) = ap (λ (z : Made). (blocks_of z)) known in
      let apart : (b : ℕ) → b < (blocks_of made) → code_at words b < 2 ^ 15 → holds b v ≡ 0 = λ b near low. omega (arith, a.busy b near, term_le (holds b) views id v me) in
      let other : (j : ℕ) (u : View) → j ≢ id → get_elem? views j ≡ some u → FitsView made f ws u = λ j u ne at-j. let theirs = a.each j u at-j in record {
        held = each_in (Agrees g words) (Agrees f ws) u.held
            (λ i some-there t. let clear = alone_holds made g words views a id j v u i.block ne me at-j some-there in let e = may.others i.block clear in record {
              word = same i.block ∙ t.word;
              owned = e ∙ t.owned;
              coded = t.coded;
              safe = λ q. let old = t.safe q in (old.0, ⊎_elim (λ (z : synced_at f i.block ≡ synced_at g i.block). z ∙ old.1) (λ (z : synced_at f i.block ≡ now_at f i.block). z ∙ (e ∙ t.owned)) (may.synced i.block clear));
            })
            theirs.held;
        falls = theirs.falls;
        few = theirs.few;
        stands = theirs.stands;
        said = theirs.said;
        live = theirs.live;
        dead = theirs.dead;
      } in
      record {
        wide = long ∙ a.wide;
        busy = λ c h. omega (arith, total-set (holds c) views id v w me, a.busy c h, brought_at f c v.held, ap (λ (x : ℕ). x / 2 ^ 15) (same c));
        outside = λ c h. omega (arith, total-set (holds c) views id v w me, a.outside c h, brought_at f c v.held);
        entries = entries;
        free = λ c h low. let low' : code_at words c < 2 ^ 15 = subst (λ (x : ℕ). x < 2 ^ 15) (same c) low in let stood = a.free c h low' in let e = may.others c (apart c h low') in (same c ∙ (stood.0 ∙ ap code_of (sym e)), subst IsCoded (sym e) stood.1);
        each = λ j u e. ⊎_elim (λ t. subst (FitsView made f ws) t.1 record {
          held = each_map (Agrees f words) (Agrees f ws) w.held (λ i q. agrees_kept f words ws i (same i.block) q) (each_brought g f words v.held was.held);
          falls = falls_brought f v.held was.falls;
          few = omega (arith, was.few, length-map v.held (brought f));
          stands = each_stands f (λ b _. 0 < other_at b v) v.held was.stands;
          said = each_stands f (λ b code. 0 < other_as b code v) v.held was.said;
          live = was.live;
          dead = λ q. absurd (false≢true (sym live ∙ q));
        })
            (λ t. other j u t.0 t.1) (at_set views id j w u e);
        met = λ c h. omega (arith, total-set (busy_at c) views id v w me, total-set (other_at c) views id v w me, a.met c);
        found = λ c code h. omega (arith, h, total-set (busy_as c code) views id v w me, total-set (other_as c code) views id v w me, a.found c code);
        alone = λ one c. omega (arith, total-set (busy_at c) views id v w me, a.alone (sym (length-set views id w) ∙ one) c);
        whole = omega (arith, total-set parts views id v w me, a.whole);
        sized = may.follows.sized ∙ a.sized;
        stays = λ c h some-bad. ap (λ (x : ℕ). x % 2 ^ 15) (same c) ∙ a.stays c h (omega (arith, some-bad, total-set (bad_at c) views id v w me));
      }

  each_parked_brought : (g f : BookSeen) (homes : List (maybe.Option (Slot P B))) (h : maybe.Option (Slot P B)) (hand : ℕ) (xs : List Item) → hand ≡ (blocks_of made) + 1
      → Each (λ i. (i.was ≢ Bad) × (i.block < (blocks_of made))) xs
      → Each (Parked pass_seen book_seen made g homes hand) xs → Each (Parked pass_seen book_seen made f (set homes (blocks_of made) h) 0) (map (brought f) xs)
  each_parked_brought g f homes h hand [] is good t = tt
  each_parked_brought g f homes h hand (i ∷ xs) is good t = let near = good.0.1 in
      (((λ bad. absurd (good.0.0 bad)), λ ok _. set_else homes (blocks_of made) i.block h (λ e. omega arith) ∙ t.0.1 ok (λ z. omega arith)), each_parked_brought g f homes h hand xs is good.1 t.1)

  near_all : (book : BookSeen) (words : List ℕ) (views : List View) (a : Claims made book words views) (id : ℕ) (v : View) → get_elem? views id ≡ some v
      → Each (λ i. i.was ≢ Bad) v.held → Each (λ i. (i.was ≢ Bad) × (i.block < (blocks_of made))) v.held
  near_all book words views a id v me good = each_in (λ i. i.was ≢ Bad) (λ i. (i.was ≢ Bad) × (i.block < (blocks_of made))) v.held (λ i some-there ok. (ok, near_held made book words views a id v i.block me some-there)) good

  pub gives_book_allowed : (n id : ℕ) (m : Sat P B) (x : B) (shelf : Shelf B) (g : BookSeen) (rs : List (ℕ × Slot P B)) (mask : ℕ) → mask ≡ 2 ^ 64 - 2
      → shelf.place.value ≡ Some x → AreEntries (book_seen x).now → m.0.loan ≡ Some g → m.0.spent ≡ false → m.0.hand ≡ (blocks_of m.0.made) + 1 → m.1 ≡ (blocks_of m.0.made, slot.Book shelf) ∷ rs
      → Each (λ i. i.was ≢ Bad) m.0.held → MayGive m.0.held g (book_seen x)
      → Allows (K pass_seen book_seen made) n id m 0 (λ y. bit_and y mask) (gives_book pass_seen book_seen (step n 0 mask 0 none) m)
  gives_book_allowed n id m x shelf g rs mask is-mask has-x entries has live hand carries good may s o wide me _ =
      let a = o.claims in let k = o.slots in let l = o.lock in let v : View = m.0 in let was = a.each id v me in
      let known : v.made ≡ made = (was.live live).0 in let same-n : (blocks_of v.made) ≡ (blocks_of made) = ap (λ (z : Made). (blocks_of z)) known in
      let f : BookSeen = book_seen x in let w : View = given v f in let e : maybe.Option (Slot P B) = some (slot.Book shelf) in let hs : List (maybe.Option (Slot P B)) = set s.homes (blocks_of made) e in
      let wideh = k.long in let broad = a.wide in let r : ℕ = get_or s.words 0 0 in
      let is-one : r ≡ 1 = omega (arith, term_le has_loan s.views id v me, ap lent has, l.bit, l.one) in
      let y : ℕ = bit_and r mask in let is-zero : y ≡ 0 = ap (λ (z : ℕ × ℕ). bit_and z.0 z.1) (λ q. (is-one q, is-mask q)) in
      let W : List ℕ = set s.words 0 y in let here : get_or W 0 0 ≡ y = get_or-set_same s.words 0 y 0 (omega arith) in
      let Lent : BookSeen → Type 0 = λ z. MayGive v.held z f in let same-book : g ≡ o.book = (l.loan id v g me has).0 in let may' : MayGive v.held o.book f = subst Lent same-book may in
      let clear : (b : ℕ) → b < (blocks_of made) → code_at s.words b < 2 ^ 15 → holds b v ≡ 0 = λ b near low. omega (arith, a.busy b near, term_le (holds b) s.views id v me) in
      let home' : (c : ℕ) → holds c v ≡ 0 → c ≢ (blocks_of made) → PassHome pass_seen book_seen made o.book s.homes c → PassHome pass_seen book_seen made f hs c
      = λ c none-held ne t. (t.0, set_else s.homes (blocks_of made) c e ne ∙ t.1, (let F : Entry → Type 0 = λ z. IsPassFor made c z (pass_seen t.0) in subst F (sym (may'.others c none-held)) t.2)) in
      let Goal : List (ℕ × Slot P B) → Type 0 = λ c. (w : View) × (act : Act (Slot P B)) × Valid s.homes c act × K pass_seen book_seen made (stepped s 0 y id c w act) × gives_book pass_seen book_seen (step n 0 mask 0 none) (v, c) r (w, carried_after c act) in
      let carries' : m.1 ≡ (blocks_of made, slot.Book shelf) ∷ rs = carries ∙ ap (λ (z : ℕ). with_shelf z shelf rs) same-n in
      let once : (b : ℕ) → total (at b) v.held ≤ 1 = λ b. let part = term_le (holds b) s.views id v me in let small : code_at s.words b < 2 ^ 16 = omega arith in dite (dec_le (blocks_of made) b) (λ far. omega (arith, a.outside b far)) (λ near. omega (arith, a.busy b (omega arith))) in
      let o_ends = o.counts.ends in let may_ends = may'.ends in let o_clears = o.counts.clears in let may_clears = may'.clears in
      subst Goal (sym carries') (
        w,
        gives,
        tt,
        record {
          book = f;
          claims = rebooked o.book f s.words W s.views a id v me live known (length-set s.words 0 y) (codes_apart s.words y) may' entries;
          counts = record {
            ends = omega (arith, o_ends, may_ends, total-set (λ u. length u.wrote) s.views id v w me, length-append (those has_ended f v.held) v.wrote);
            clears = omega (arith, o_clears, may_clears, total-set (λ u. length u.cleared) s.views id v w me, length-append (those has_cleared f v.held) v.cleared);
            spoilt = omega (
              arith,
              o.counts.spoilt,
              total-set (λ u. length u.spoilt) s.views id v w me,
              length-append (those has_spoilt f v.held) v.spoilt,
              bad_after o.book f v.held may'.follows.sized (each_map (λ i. (i.was ≢ Bad) × (i.block < (blocks_of made))) (λ i. i.block < length o.book.now) v.held (λ i q. let near = q.1 in omega (arith, a.sized)) (near_all o.book s.words s.views a id v me good))
                  (λ b near. bad_place o.book f s.words v.held b was.held (once b) (may'.others b) (may'.stays b)),
            );
            bad_met = λ b some-bad. may'.stays b (o.counts.bad_met b (omega (arith, total-set (bad_at b) s.views id v w me)));
            follows = follows_then made.book o.book f o.counts.follows may'.follows;
            after = let P : BookSeen → Type 0 = λ old. Follows old f in
                let all-gave : Each P (gave_by s.views) = each_map (λ old. Follows old o.book) P (gave_by s.views) (λ old q. follows_then old o.book f q may'.follows) o.counts.after in
                each_set P s.views id w (follows_same f, each_at P s.views id v me all-gave) all-gave;
            given = inr (gave_new f s.views id v w me (inl refl));
            idle = λ j u at-j q. ⊎_elim (λ (t : (j ≡ id) × (w ≡ u)). absurd (false≢true (sym live ∙ (ap (λ (z : View). z.spent) t.1 ∙ q)))) (λ t. o.counts.idle j u t.1 q) (at_set s.views id j w u at-j);
            told_shut = λ j u at-j q. ⊎_elim (λ t. shut_cases v.shut f.shut (f.shut ≡ true) (λ z. may'.follows.shut (o.counts.told_shut id v me z)) (λ z. z) (ap (λ (z : View). z.shut) t.1 ∙ q))
                (λ t. may'.follows.shut (o.counts.told_shut j u t.1 q)) (at_set s.views id j w u at-j);
          };
          slots = record {
            long = length-set s.homes (blocks_of made) e ∙ k.long;
            home = λ c near low. let low' : code_at s.words c < 2 ^ 15 = subst (λ (z : ℕ). z < 2 ^ 15) (codes_apart s.words y c) low in home' c (clear c near low') (λ z. omega arith) (k.home c near low');
            parked = λ j u at-j. ⊎_elim
                (λ t. subst (λ (z : View). Each (Parked pass_seen book_seen made f hs z.hand) z.held) t.1
                (each_parked_brought o.book f s.homes e v.hand v.held (hand ∙ ap (λ (z : ℕ). z + 1) same-n) (near_all o.book s.words s.views a id v me good) (k.parked id v me)))
                (λ (t : (j ≢ id) × (get_elem? s.views j ≡ some u)). each_in (Parked pass_seen book_seen made o.book s.homes u.hand) (Parked pass_seen book_seen made f hs u.hand) u.held
                (λ i some-there q. let none-held = alone_holds made o.book s.words s.views a id j v u i.block t.0 me t.1 some-there in let near = near_held made o.book s.words s.views a j u i.block t.1 some-there in
                ((λ bad. home' i.block none-held (λ z. omega arith) (q.0 bad)), λ ok away. set_else s.homes (blocks_of made) i.block e (λ z. omega arith) ∙ q.1 ok away))
                (k.parked j u t.1))
                (at_set s.views id j w u at-j);
            untouched = λ c q near at-c none-met. k.untouched c q near (kept_book s.homes (blocks_of made) shelf c q at-c) (omega (arith, none-met, total-set (other_at c) s.views id v w me));
          };
          lock = record {
            bit = omega (arith, total-set has_loan s.views id v w me, l.bit, ap lent has);
            one = omega arith;
            loan = λ j u z at-j q. ⊎_elim (λ (t : (j ≡ id) × (w ≡ u)). absurd (no_some z u.loan (ap (λ (c : View). c.loan) (sym t.1)) q))
                (λ (t : (j ≢ id) × (get_elem? s.views j ≡ some u)). absurd (omega (arith, terms_le has_loan s.views id j v u t.0 me t.1, ap lent has, ap lent q, l.bit, l.one))) (at_set s.views id j w u at-j);
            awake = λ j u z at-j q. ⊎_elim (λ (t : (j ≡ id) × (w ≡ u)). ap (λ (c : View). c.spent) (sym t.1) ∙ live) (λ (t : (j ≢ id) × (get_elem? s.views j ≡ some u)). l.awake j u z t.1 q) (at_set s.views id j w u at-j);
            home = λ _. (x, shelf, set_here s.homes (blocks_of made) e (omega arith), has-x, refl);
          };
        },
        λ x' shelf' q has-x'.
            let same-shelf : shelf ≡ shelf' = ap (shelf_in shelf) q in
            let same-book : x ≡ x' = some_same x' x (sym has-x' ∙ (ap (λ (z : Shelf B). z.place.value) (sym same-shelf) ∙ has-x)) in
            ap (λ (z : B). seat_of {P = P} {B = B} (given v (book_seen z)) rs) same-book,
      )

  pub gives_book_at : (n id : ℕ) (m : Sat P B) (v : View) (x : B) (shelf : Shelf B) (g : BookSeen) (k : ℕ) (rs : List (ℕ × Slot P B)) (mask : ℕ) → mask ≡ 2 ^ 64 - 2 → m ≡ (with_hand v (blocks_of v.made + 1), (k, slot.Book shelf) ∷ rs) → k ≡ blocks_of v.made
      → shelf.place.value ≡ Some x → AreEntries (book_seen x).now → v.loan ≡ Some g → v.spent ≡ false → Each (λ i. i.was ≢ Bad) v.held → MayGive v.held g (book_seen x)
      → Allows (K pass_seen book_seen made) n id m 0 (λ y. bit_and y mask) (gives_book pass_seen book_seen (step n 0 mask 0 none) m)
  gives_book_at n id m v x shelf g k rs mask is-mask seat at-k has-x entries has live good may =
      let Q : Sat P B → Type 0 = λ z. Allows (K pass_seen book_seen made) n id z 0 (λ y. bit_and y mask) (gives_book pass_seen book_seen (step n 0 mask 0 none) z) in
      subst Q (sym seat) (gives_book_allowed n id (with_hand v (blocks_of v.made + 1), (k, slot.Book shelf) ∷ rs) x shelf g rs mask is-mask has-x entries has live refl (ap (λ (z : ℕ). with_shelf z shelf rs) at-k) good may)

  pub parks_book_at : (n id : ℕ) (m : Sat P B) (v : View) (j k : ℕ) (g : BookSeen) (shelf : Shelf B) (rs : List (ℕ × Slot P B)) → m ≡ (lending v g, (k, slot.Book shelf) ∷ rs) → k ≡ blocks_of v.made → v.spent ≡ false
      → Allows (K pass_seen book_seen made) n id m j (λ y. y) (parks (step n j 0 0 none) m)
  parks_book_at n id m v j k g shelf rs seat at-k live =
      let Q : Sat P B → Type 0 = λ z. Allows (K pass_seen book_seen made) n id z j (λ y. y) (parks (step n j 0 0 none) z) in
      subst Q (sym seat) (parks_book_allowed n id (lending v g, (k, slot.Book shelf) ∷ rs) j g shelf rs refl live refl (ap (λ (z : ℕ). with_shelf z shelf rs) at-k))

abbrev pair_of : {P B : Type 0} → ℕ → Slot P B → List (ℕ × Slot P B) → List (ℕ × Slot P B)
pair_of z x rs = (z, x) ∷ rs

-- the slot that a seat took last, at the index that the code has
pub head_is : {P B : Type 0} (m : Sat P B) (w : View) (n k : ℕ) (x : Slot P B) (rs : List (ℕ × Slot P B)) → m ≡ (w, (n, x) ∷ rs) → n ≡ k → m.1 ≡ (k, x) ∷ rest m.1
head_is {P} {B} m w n k x rs e at-n = let has : m.1 ≡ (n, x) ∷ rs = ap (λ (z : Sat P B). z.1) e in
    has ∙ (ap (λ (z : ℕ). pair_of z x rs) at-n ∙ ap (λ (l : List (ℕ × Slot P B)). pair_of k x (rest l)) (sym has))

abbrev slot_in : {P B : Type 0} → List (ℕ × Slot P B) → Slot P B
slot_in [] = slot.Empty
slot_in (s ∷ _) = s.1

-- the book's place that came out of the slot is the one that was there
pub took : {P B : Type 0} (m : Sat P B) (w : View) (n k : ℕ) (x y : Shelf B) (r : Slot P B) (rs : List (ℕ × Slot P B)) → m ≡ (w, (n, slot.Book x) ∷ rs) → m.1 ≡ (k, r) ∷ rest m.1 → r ≡ slot.Book y → x ≡ y
took {P} {B} m w n k x y r rs e₁ e₂ e₃ = let f : List (ℕ × Slot P B) → Slot P B = slot_in in
    let a : ◌≡◌ {A = Slot P B} (slot.Book x) r = sym (ap (λ (z : Sat P B). f z.1) e₁) ∙ ap f e₂ in
    let c : ◌≡◌ {A = Slot P B} (slot.Book x) (slot.Book y) = a ∙ e₃ in cc

-- the book that a place has is the one that was lent
pub same_book : {B : Type 0} (s s' : Shelf B) (x y : B) → s ≡ s' → s.place.value ≡ Some x → s'.place.value ≡ Some y → x ≡ y
same_book {B} s s' x y e has has' = some_same y x (sym has' ∙ (ap (λ (z : Shelf B). z.place.value) (sym e) ∙ has))

abbrev with_first : {P B : Type 0} → ℕ → Slot P B → Sat P B → Sat P B
with_first k x m = (m.0, (k, x) ∷ rest m.1)

abbrev gave : {P B : Type 0} → BookSeen → Sat P B → Sat P B
gave f m = (given m.0 f, rest m.1)

-- a seat to which the book's place came, was filled, and went home
pub given_back : {P B : Type 0} (m₀ m₁ m₂ m₃ m₄ : Sat P B) (f : BookSeen) (h n k : ℕ) (s₁ s₂ : Shelf B)
    → m₁ ≡ (with_hand m₀.0 h, (n, slot.Book s₁) ∷ m₀.1) → m₂ ≡ (m₁.0, (k, slot.Empty) ∷ rest m₁.1) → m₃ ≡ (m₂.0, (k, slot.Book s₂) ∷ rest m₂.1) → m₄ ≡ (given m₃.0 f, rest m₃.1)
    → m₄ ≡ (given m₀.0 f, m₀.1)
given_back {P} {B} m₀ m₁ m₂ m₃ m₄ f h n k s₁ s₂ e₁ e₂ e₃ e₄ =
    let F : Sat P B → Sat P B = with_first k slot.Empty in
    let H : Sat P B → Sat P B = with_first k (slot.Book s₂) in
    let G : Sat P B → Sat P B = gave f in
    e₄ ∙ (ap G e₃ ∙ (ap (λ (m : Sat P B). G (H m)) e₂ ∙ ap (λ (m : Sat P B). G (H (F m))) e₁))

-- the seat after a place was put in for another
pub refilled : {P B : Type 0} (m₁ m₂ m₃ : Sat P B) (w : View) (n k : ℕ) (s₁ s₂ : Shelf B) (rs : List (ℕ × Slot P B))
    → m₁ ≡ (w, (n, slot.Book s₁) ∷ rs) → m₂ ≡ (m₁.0, (k, slot.Empty) ∷ rest m₁.1) → m₃ ≡ (m₂.0, (k, slot.Book s₂) ∷ rest m₂.1) → m₃ ≡ (w, (k, slot.Book s₂) ∷ rs)
refilled {P} {B} m₁ m₂ m₃ w n k s₁ s₂ rs e₁ e₂ e₃ =
    let F : Sat P B → Sat P B = with_first k slot.Empty in
    let H : Sat P B → Sat P B = with_first k (slot.Book s₂) in
    e₃ ∙ (ap H e₂ ∙ ap (λ (m : Sat P B). H (F m)) e₁)

same_true : (k n : ℕ) → is_safe (Pending k n) (Pending k n) ≡ true
same_true k n = ap (λ (t : Bool). t && eqb n n) (eq-eqb k k refl) ∙ eq-eqb n n refl

safe_pending : (e s : Entry) → IsPending e × (s ≡ e) → is_safe e s ≡ true
safe_pending e s h =
    let is : e ≡ Pending h.0.0 h.0.1 = h.0.2 in
    let F : Entry × Entry → Type 0 = λ z. is_safe z.0 z.1 ≡ true in
    subst F (λ i. (sym is i, (sym is ∙ sym h.1) i)) (same_true h.0.0 h.0.1)

-- an item is safe exactly where its entry is pending and synced
pub safe_where : (f : BookSeen) (xs : List Item) → Each (λ i. (i.safe ≡ true → IsPending (now_at f i.block) × (synced_at f i.block ≡ now_at f i.block)) × (IsPending (now_at f i.block) × (synced_at f i.block ≡ now_at f i.block) → i.safe ≡ true)) (map (brought f) xs)
safe_where f [] = tt
safe_where f (i ∷ xs) = ((pending_safe (now_at f i.block) (synced_at f i.block), safe_pending (now_at f i.block) (synced_at f i.block)), safe_where f xs)

-- the book's place, at the index that the view has
pub shelf_at : {P B : Type 0} (m : Sat P B) (w : View) (k : ℕ) (x : Slot P B) (rs : List (ℕ × Slot P B)) → m ≡ (w, (k, x) ∷ rs) → k ≡ blocks_of w.made → m.1 ≡ (blocks_of m.0.made, x) ∷ rest m.1
shelf_at {P} {B} m w k x rs e at-k = head_is m w k (blocks_of m.0.made) x rs e (at-k ∙ ap (λ (z : Sat P B). blocks_of z.0.made) (sym e))
