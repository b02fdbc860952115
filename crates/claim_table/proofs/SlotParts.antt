-- The slots, the lock and the tallies: what a step leaves of their rule.
use Rattle.std.proofs.Common.{◌≡◌, ℕ, ◌+◌, ◌%◌, ◌^◌, ◌<◌, ◌≤◌, ◌≢◌, ◌⊎◌, List, [], length, get_or, set, sym, ap, ◌∙◌, subst, ⊎_elim, arith}
use mathlib.Core.Option as maybe
use mathlib.Core.Option.{some, none, some-injective, some-ne-none}
use lib.ListN.{get_elem?}
use Rattle.atomic_table.proofs.Lists.{at_set, set_else}
use Rattle.vd_arm.specs.Arm.{PassSeen}
use Rattle.key_state.specs.Books.{Follows}
use Rattle.key_state.specs.declared.entry.Entry.TheVariants.{Bad}
use Rattle.key_state.specs.declared.seen.BookSeen.{BookSeen}
use Rattle.claim_table.specs.Lanes.{code_at}
use Rattle.claim_table.specs.Sums.{total, Each, Among}
use Rattle.claim_table.specs.Views.{blocks_of, now_at, at, other_at, bad_at, lent, has_loan, gave_by}
use Rattle.claim_table.specs.Rule.{Counts, PassHome, Parked, Slots, Lock}
use Rattle.claim_table.specs.declared.view.Item.{Item}
use Rattle.claim_table.specs.declared.view.View.{View}
use Rattle.claim_table.specs.declared.view.Made.{Made}
use Rattle.claim_table.specs.declared.slot.Shelf.{Shelf}
use Rattle.claim_table.specs.declared.slot.Slot.{Slot}
use Rattle.claim_table.specs.declared.slot.Slot.TheVariants as slot
use Rattle.claim_table.proofs.Sums.{total-set, term_le}
use Rattle.claim_table.proofs.Basics.{each_apart}
use Rattle.claim_table.proofs.GaveBack.{among_more, each_at, each_set, gave_set}

pub counts_kept : (made : Made) (book : BookSeen) (views : List View) (o : Counts made book views) (id : ℕ) (v w : View) → get_elem? views id ≡ some v → w.wrote ≡ v.wrote → w.cleared ≡ v.cleared → w.spoilt ≡ v.spoilt → w.gave ≡ v.gave → w.shut ≡ v.shut → w.spent ≡ v.spent → ((b : ℕ) → (bad_at b w ≡ bad_at b v) ⊎ (now_at book b ≡ Bad)) → Counts made book (set views id w)
counts_kept made book views o id v w me wrote cleared spoilt gave shut spent bads = record {
  ends = o.ends ∙ ap (λ (n : ℕ). (made.book.ends + n) % 2 ^ 64) (omega (arith, total-set (λ u. length u.wrote) views id v w me, ap length wrote));
  clears = o.clears ∙ ap (λ (n : ℕ). (made.book.clears + n) % 2 ^ 64) (omega (arith, total-set (λ u. length u.cleared) views id v w me, ap length cleared));
  spoilt = omega (arith, o.spoilt, total-set (λ u. length u.spoilt) views id v w me, ap length spoilt);
  bad_met = λ b some-bad. ⊎_elim (λ (e : bad_at b w ≡ bad_at b v). o.bad_met b (omega (arith, total-set (bad_at b) views id v w me))) (λ (e : now_at book b ≡ Bad). e) (bads b);
  follows = o.follows;
  after = let P : BookSeen → Type 0 = λ old. Follows old book in each_set P views id w (subst (Each P) (sym gave) (each_at P views id v me o.after)) o.after;
  given = among_more book made.book (gave_by views) (gave_by (set views id w)) (gave_set book views id v w me (subst (Among book) (sym gave))) o.given;
  idle = λ j u at-j asleep. ⊎_elim
      (λ (t : (j ≡ id) × (w ≡ u)). let was = o.idle id v me (sym spent ∙ (ap (λ (x : View). x.spent) t.1 ∙ asleep)) in
      let Q : View → Type 0 = λ x. (x.wrote ≡ []) × (x.cleared ≡ []) × (x.spoilt ≡ []) × (x.gave ≡ []) in
      subst Q t.1 (wrote ∙ was.0, cleared ∙ was.1, spoilt ∙ was.2, gave ∙ was.3))
      (λ t. o.idle j u t.1 asleep) (at_set views id j w u at-j);
  told_shut = λ j u at-j is-shut. ⊎_elim (λ t. o.told_shut id v me (sym shut ∙ (ap (λ (x : View). x.shut) t.1 ∙ is-shut))) (λ t. o.told_shut j u t.1 is-shut) (at_set views id j w u at-j);
}

pub same_pass : {P B : Type 0} (x y : P) → ◌≡◌ {A = Slot P B} (slot.Pass x) (slot.Pass y) → x ≡ y
same_pass x y e = cc

no_book : {P B : Type 0} (x : Shelf B) (y : P) → ◌≡◌ {A = Slot P B} (slot.Book x) (slot.Pass y) → ⊥
no_book x y e = cc

-- the passes at home after a step on slot k
module _ {P B : Type 0} (homes : List (maybe.Option (Slot P B))) (k : ℕ) where
  pub kept_none : (c : ℕ) (pass : P) → get_elem? (set homes k none) c ≡ some (some (slot.Pass pass)) → get_elem? homes c ≡ some (some (slot.Pass pass))
  kept_none c pass at-c = ⊎_elim (λ (t : (c ≡ k) × (◌≡◌ {A = maybe.Option (Slot P B)} none (some (slot.Pass pass)))). absurd (some-ne-none (slot.Pass pass) (sym t.1)))
      (λ (t : (c ≢ k) × (get_elem? homes c ≡ some (some (slot.Pass pass)))). t.1) (at_set homes k c none (some (slot.Pass pass)) at-c)

  pub kept_book : (shelf : Shelf B) (c : ℕ) (pass : P) → get_elem? (set homes k (some (slot.Book shelf))) c ≡ some (some (slot.Pass pass)) → get_elem? homes c ≡ some (some (slot.Pass pass))
  kept_book shelf c pass at-c = ⊎_elim (λ (t : (c ≡ k) × (◌≡◌ {A = maybe.Option (Slot P B)} (some (slot.Book shelf)) (some (slot.Pass pass)))). absurd (no_book shelf pass (some-injective (slot.Book shelf) (slot.Pass pass) t.1)))
      (λ (t : (c ≢ k) × (get_elem? homes c ≡ some (some (slot.Pass pass)))). t.1) (at_set homes k c (some (slot.Book shelf)) (some (slot.Pass pass)) at-c)

  -- the slot of a block that a seat has had
  pub kept_had : (views : List View) (id : ℕ) (v w : View) (h : maybe.Option (Slot P B)) → get_elem? views id ≡ some v → 0 < other_at k w
      → (c : ℕ) (pass : P) → get_elem? (set homes k h) c ≡ some (some (slot.Pass pass)) → total (other_at c) (set views id w) ≡ 0 → get_elem? homes c ≡ some (some (slot.Pass pass))
  kept_had views id v w h me had c pass at-c none-met = ⊎_elim
      (λ (t : (c ≡ k) × (h ≡ some (slot.Pass pass))).
      let none-k : total (other_at k) (set views id w) ≡ 0 = subst (λ (x : ℕ). total (other_at x) (set views id w) ≡ 0) t.0 none-met in
      absurd (omega (arith, none-k, had, total-set (other_at k) views id v w me, term_le (other_at k) views id v me)))
      (λ (t : (c ≢ k) × (get_elem? homes c ≡ some (some (slot.Pass pass)))). t.1) (at_set homes k c h (some (slot.Pass pass)) at-c)

module _ {P B : Type 0} (pass_seen : P → PassSeen) (book_seen : B → BookSeen) where
  abbrev Homes : Type 0
  Homes = List (maybe.Option (Slot P B))

  pub pass_else : (made : Made) (book : BookSeen) (homes : List (maybe.Option (Slot P B))) (c k : ℕ) (h : maybe.Option (Slot P B)) → c ≢ k
      → PassHome pass_seen book_seen made book homes c → PassHome pass_seen book_seen made book (set homes k h) c
  pass_else made book homes c k h ne t = (t.0, set_else homes k c h ne ∙ t.1, t.2)

  pub parked_else : (made : Made) (book : BookSeen) (homes : List (maybe.Option (Slot P B))) (k hand hand' : ℕ) (h : maybe.Option (Slot P B)) (i : Item) → i.block ≢ k → (hand' ≢ i.block + 1 → hand ≢ i.block + 1)
      → Parked pass_seen book_seen made book homes hand i → Parked pass_seen book_seen made book (set homes k h) hand' i
  parked_else made book homes k hand hand' h i ne hands t = ((λ bad. pass_else made book homes i.block k h ne (t.0 bad)), λ good away. set_else homes k i.block h ne ∙ t.1 good (hands away))

  -- the items of a view that has no block k
  pub parked_apart : (made : Made) (book : BookSeen) (homes : List (maybe.Option (Slot P B))) (k hand hand' : ℕ) (h : maybe.Option (Slot P B)) (xs : List Item) → total (at k) xs ≡ 0 → ((i : Item) → i.block ≢ k → hand' ≢ i.block + 1 → hand ≢ i.block + 1)
      → Each (Parked pass_seen book_seen made book homes hand) xs → Each (Parked pass_seen book_seen made book (set homes k h) hand') xs
  parked_apart made book homes k hand hand' h xs none-there hands =
      each_apart (Parked pass_seen book_seen made book homes hand) (Parked pass_seen book_seen made book (set homes k h) hand') k xs none-there
      (λ i ne t. parked_else made book homes k hand hand' h i ne (hands i ne) t)

  pub slots_set : (made : Made) (book : BookSeen) (words ws : List ℕ) (homes hs : List (maybe.Option (Slot P B))) (views : List View) (o : Slots pass_seen book_seen made book words homes views) (id : ℕ) (v w : View)
      → get_elem? views id ≡ some v → ((c : ℕ) → other_at c v ≤ other_at c w)
      → ((c : ℕ) (pass : P) → get_elem? hs c ≡ some (some (slot.Pass pass)) → total (other_at c) (set views id w) ≡ 0 → get_elem? homes c ≡ some (some (slot.Pass pass)))
      → length hs ≡ length homes
      → ((c : ℕ) → c < (blocks_of made) → code_at ws c < 2 ^ 15 → PassHome pass_seen book_seen made book hs c)
      → ((j : ℕ) (u : View) → j ≢ id → get_elem? views j ≡ some u → Each (Parked pass_seen book_seen made book hs u.hand) u.held)
      → Each (Parked pass_seen book_seen made book hs w.hand) w.held
      → Slots pass_seen book_seen made book ws hs (set views id w)
  slots_set made book words ws homes hs views o id v w me more kept long home others mine = record {
    long = long ∙ o.long;
    home = home;
    parked = λ j u e. ⊎_elim (λ t. subst (λ (x : View). Each (Parked pass_seen book_seen made book hs x.hand) x.held) t.1 mine) (λ t. others j u t.0 t.1) (at_set views id j w u e);
    untouched = λ c pass near at-c none-met. o.untouched c pass near (kept c pass at-c none-met) (omega (arith, none-met, total-set (other_at c) views id v w me, more c));
  }

  -- the seat keeps its loan, if it has one, and the book's slot is as it was
  pub lock_kept : (made : Made) (book : BookSeen) (words ws : List ℕ) (homes hs : List (maybe.Option (Slot P B))) (views : List View) (o : Lock pass_seen book_seen made book words homes views) (id : ℕ) (v w : View)
      → get_elem? views id ≡ some v → get_or ws 0 0 ≡ get_or words 0 0 → get_elem? hs (blocks_of made) ≡ get_elem? homes (blocks_of made)
      → w.loan ≡ v.loan → (w.hand ≢ (blocks_of made) + 1 → v.hand ≢ (blocks_of made) + 1) → w.spent ≡ v.spent
      → Lock pass_seen book_seen made book ws hs (set views id w)
  lock_kept made book words ws homes hs views o id v w me word slot-same loan hands same-spent = record {
    bit = omega (arith, total-set has_loan views id v w me, o.bit, word, ap lent loan);
    one = omega (arith, o.one, word);
    loan = λ j u f e has. ⊎_elim
        (λ t. let was = o.loan id v f me (sym loan ∙ (ap (λ (x : View). x.loan) t.1 ∙ has)) in
        (was.0, λ away. let at-home = was.1 (hands (λ q. away (ap (λ (x : View). x.hand) (sym t.1) ∙ q))) in (at-home.0, slot-same ∙ at-home.1)))
        (λ t. let was = o.loan j u f t.1 has in (was.0, λ away. let at-home = was.1 away in (at-home.0, slot-same ∙ at-home.1)))
        (at_set views id j w u e);
    awake = λ j u f e has. ⊎_elim (λ t. ap (λ (x : View). x.spent) (sym t.1) ∙ (same-spent ∙ o.awake id v f me (sym loan ∙ (ap (λ (x : View). x.loan) t.1 ∙ has)))) (λ t. o.awake j u f t.1 has) (at_set views id j w u e);
    home = λ z. let t = o.home (sym word ∙ z) in (t.0, t.1, slot-same ∙ t.2, t.3, t.4);
  }
