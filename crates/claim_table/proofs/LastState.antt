-- What the rule says where one seat has every part and holds nothing.
use Rattle.std.proofs.Common.{◌≡◌, ℕ, zero, suc, ◌+◌, ◌%◌, ◌^◌, ◌<◌, Bool, true, false, cond, ◌≢◌, List, [], ◌∷◌, ◌++◌, map, length, sym, refl, ap, ◌∙◌, subst, ⊎_elim, arith, length-append, Option, Some, None, slice_get, slice_index_or, IsSome}
use Rattle.std.proofs.lemmas.List.{length-map}
use mathlib.Core.Bool.{false≢true}
use mathlib.Core.Option as maybe
use mathlib.Core.Option.{some, none, some-injective, some-ne-none}
use lib.ListN.{get_elem?}
use Rattle.atomic_table.specs.Table.{State, Final, Seen}
use Rattle.vd_arm.specs.Arm.{PassSeen}
use Rattle.key_state.specs.Books.{Follows}
use Rattle.key_state.specs.declared.entry.Entry.TheVariants.{Bad}
use Rattle.key_state.specs.declared.seen.BookSeen.{BookSeen}
use Rattle.claim_table.specs.Lanes.{code_at}
use Rattle.claim_table.specs.Sums.{total, Each, Among}
use Rattle.claim_table.specs.Views.{blocks_of, parts_in, now_at, at, holds, refused, answered, refused_as, answered_as, found_bad, busy_at, other_at, busy_as, other_as, bad_at, parts, bad, lent, has_loan, gave_by, joined}
use Rattle.claim_table.specs.Passes.{IsPassFor}
use Rattle.claim_table.specs.Rule.{PassHome}
use Rattle.claim_table.specs.declared.view.Try.{Try}
use Rattle.claim_table.specs.declared.view.View.{View}
use Rattle.claim_table.specs.declared.view.Made.{Made}
use Rattle.claim_table.specs.declared.slot.Shelf.{Shelf}
use Rattle.claim_table.specs.declared.slot.Slot.{Slot}
use Rattle.claim_table.specs.declared.slot.Slot.TheVariants as slot
use Rattle.claim_table.proofs.Sums.{total-append, terms_le}
use Rattle.claim_table.proofs.Basics.{each_map, some_same}
use Rattle.claim_table.proofs.GaveBack.{among_left, among_right, among_either, among_more, each_among, each_append, each_at, each_front, each_of, gave_alone}
use Rattle.claim_table.proofs.SlotParts.{same_pass}
use Rattle.claim_table.proofs.Steps.{K}
use Rattle.claim_table.specs.Seats.{view_of}
use Rattle.claim_table.specs.declared.table.ClaimSeat.{ClaimSeat}
use Rattle.claim_table.specs.Closings.{AddsUp, Gathered, Returned}
use Rattle.std.proofs.lemmas.Option.{slice_get_within}

asleep : (b : Bool) → (b ≡ false → ⊥) → b ≡ true
asleep true f = refl
asleep false f = absurd (f refl)

lent_none : (o : Option BookSeen) → ((f : BookSeen) → o ≡ Some f → ⊥) → lent o ≡ 0
lent_none None h = refl
lent_none (Some f) h = absurd (h f refl)

all_zero : (g : View → ℕ) (l : List View) → ((j : ℕ) (u : View) → get_elem? l j ≡ some u → g u ≡ 0) → total g l ≡ 0
all_zero g [] h = refl
all_zero g (x ∷ xs) h = omega (arith, h 0 x refl, all_zero g xs (λ j u e. h (suc j) u e))

zero_else : (g : View → ℕ) (l : List View) (id : ℕ) (v : View) → get_elem? l id ≡ some v → ((j : ℕ) (u : View) → j ≢ id → get_elem? l j ≡ some u → g u ≡ 0) → total g l ≡ g v
zero_else g [] id v e h = absurd (some-ne-none v (sym e))
zero_else g (x ∷ xs) zero v e h = omega (arith, ap g (some-injective x v e), all_zero g xs (λ j u at-j. h (suc j) u (λ z. omega arith) at-j))
zero_else g (x ∷ xs) (suc id) v e h = omega (arith, h 0 x (λ z. omega arith) refl, zero_else g xs id v e (λ j u ne at-j. h (suc j) u (λ z. ne (omega arith)) at-j))

pub shelf_same : {P B : Type 0} (x y : Shelf B) → ◌≡◌ {A = Slot P B} (slot.Book x) (slot.Book y) → x ≡ y
shelf_same x y e = cc

pub has_some : {B : Type 0} (s s' : Shelf B) (x : B) → s ≡ s' → s.place.value ≡ Some x → IsSome s'.place.value
has_some s s' x same has = subst IsSome (sym has ∙ ap (λ z. z.place.value) same) refl

-- an element of a list that was mapped
map_at : {A B : Type 0} (f : A → B) (xs : List A) (i : ℕ) (x : A) (y : B) → get_elem? xs i ≡ some x → slice_get (map f xs) i ≡ Some y → f x ≡ y
map_at f [] i x y at is = absurd (some-ne-none x (sym at))
map_at f (z ∷ xs) zero x y at is = some_same y (f x) (sym is ∙ ap (λ t. Some (f t)) (some-injective z x at))
map_at f (z ∷ xs) (suc i) x y at is = map_at f xs i x y at is

-- what the book has to do with the views of a seat that has every part
pub record Tallied (made : Made) (v : View) (book : BookSeen) : Type 0 where
  pub follows : Follows made.book book
  pub after : Each (λ old. Follows old book) v.gave
  pub given : Among book (made.book ∷ v.gave)
  pub ends : book.ends ≡ (made.book.ends + length v.wrote) % 2 ^ 64
  pub clears : book.clears ≡ (made.book.clears + length v.cleared) % 2 ^ 64
  pub spoilt : total bad book.now ≡ total bad made.book.now + length v.spoilt
  pub shut : v.shut ≡ true → book.shut ≡ true
  pub met : (b : ℕ) → 0 < busy_at b v → 0 < other_at b v
  pub found : (b code : ℕ) → 0 < busy_as b code v → 0 < other_as b code v
  pub met_bad : (b : ℕ) → 0 < bad_at b v → now_at book b ≡ Bad

module _ {P B : Type 0} (pass_seen : P → PassSeen) (book_seen : B → BookSeen) (made : Made) where
  -- Every pass is at home, and so is the book.
  record AllHome (homes : List (maybe.Option (Slot P B))) (v : View) : Type 0 where
    book : BookSeen
    passes : (b : ℕ) → b < blocks_of made → PassHome pass_seen book_seen made book homes b
    untouched : (b : ℕ) (p : P) → b < blocks_of made → get_elem? homes b ≡ some (some (slot.Pass p)) → other_at b v ≡ 0 → (pass_seen p).told ≡ slice_index_or made.told b None
    home : (x : B) × (shelf : Shelf B) × (get_elem? homes (blocks_of made) ≡ some (some (slot.Book shelf))) × (shelf.place.value ≡ Some x) × (book_seen x ≡ book)
    tallied : Tallied made v book

  all_home : (s : State (Slot P B) View) (id : ℕ) (v : View) → K pass_seen book_seen made s → get_elem? s.views id ≡ some v → v.held ≡ [] → v.loan ≡ None → v.parts ≡ parts_in made → 0 < v.parts
      → AllHome s.homes v
  all_home s id v o me empty unlent all-parts some-part =
      let a = o.claims in
      let idle : (j : ℕ) (u : View) → j ≢ id → get_elem? s.views j ≡ some u → u.spent ≡ true = λ j u ne at-j. asleep u.spent (λ q. let f = a.each j u at-j in absurd (omega (arith, (f.live q).1, terms_le parts s.views id j v u ne me at-j, a.whole))) in
      let none-held : (b : ℕ) → total (holds b) s.views ≡ 0 = λ b. zero_else (holds b) s.views id v me (λ j u ne at-j. ap (total (at b)) ((a.each j u at-j).dead (idle j u ne at-j)).0) ∙ ap (total (at b)) empty in
      let none-lent : total has_loan s.views ≡ 0 = zero_else has_loan s.views id v me (λ j u ne at-j. lent_none u.loan (λ f q. absurd (false≢true (sym (o.lock.awake j u f at-j q) ∙ idle j u ne at-j)))) ∙ ap lent unlent in
      let gone = λ (j : ℕ) (u : View) (ne : j ≢ id) (at-j : get_elem? s.views j ≡ some u). o.counts.idle j u at-j (idle j u ne at-j) in
      let only : (f : Try → ℕ) → total (λ u. total f u.mine) s.views ≡ total f v.mine = λ f. zero_else (λ u. total f u.mine) s.views id v me (λ j u ne at-j. ap (total f) ((a.each j u at-j).dead (idle j u ne at-j)).1) in
      record {
        book = o.book;
        passes = λ b near. o.slots.home b near (let small : code_at s.words b < 2 ^ 16 = omega arith in omega (arith, a.busy b near, none-held b));
        untouched = λ b p near at-b none-met. o.slots.untouched b p near at-b (omega (arith, none-met, only (answered b)));
        home = o.lock.home (omega (arith, o.lock.bit, none-lent));
        tallied = record {
          follows = o.counts.follows;
          after = each_at (λ old. Follows old o.book) s.views id v me o.counts.after;
          given = among_more o.book made.book (gave_by s.views) v.gave (gave_alone o.book made o.book s.words s.views a o.counts id v me all-parts) o.counts.given;
          ends = o.counts.ends ∙ ap (λ (n : ℕ). (made.book.ends + n) % 2 ^ 64) (zero_else (λ u. length u.wrote) s.views id v me (λ j u ne at-j. ap length (gone j u ne at-j).0));
          clears = o.counts.clears ∙ ap (λ (n : ℕ). (made.book.clears + n) % 2 ^ 64) (zero_else (λ u. length u.cleared) s.views id v me (λ j u ne at-j. ap length (gone j u ne at-j).1));
          spoilt = o.counts.spoilt ∙ ap (λ (n : ℕ). total bad made.book.now + n) (zero_else (λ u. length u.spoilt) s.views id v me (λ j u ne at-j. ap length (gone j u ne at-j).2));
          shut = o.counts.told_shut id v me;
          met = λ b some-busy. omega (arith, only (refused b), only (answered b), a.met b);
          found = λ b code h. omega (arith, h, only (refused_as b code), only (answered_as b code), a.found b code);
          met_bad = λ b some-bad. o.counts.bad_met b (omega (arith, only (found_bad b)));
        };
      }

  -- what lies in the slots of a closed table
  pub record Lying (xs : List (Slot P B)) (v : View) : Type 0 where
    pub book : BookSeen
    pub passes : (b : ℕ) → b < blocks_of made → (p : P) × (get_elem? xs b ≡ some (slot.Pass p)) × IsPassFor made b (now_at book b) (pass_seen p)
    pub untouched : (b : ℕ) (p : P) → b < blocks_of made → get_elem? xs b ≡ some (slot.Pass p) → other_at b v ≡ 0 → (pass_seen p).told ≡ slice_index_or made.told b None
    pub home : (x : B) × (shelf : Shelf B) × (get_elem? xs (blocks_of made) ≡ some (slot.Book shelf)) × (shelf.place.value ≡ Some x) × (book_seen x ≡ book)
    pub tallied : Tallied made v book

  pub lying : (ws : List ℕ) (xs : List (Slot P B)) (id : ℕ) (v w : View) → Final (Seen (K pass_seen book_seen made) id w) ws xs → v ≡ w → (v.held ≡ []) × (v.loan ≡ None) × (v.parts ≡ parts_in made) × (0 < v.parts) → Lying xs v
  lying ws xs id v w f same all =
      let s = f.0 in
      let found = f.4 in
      let at-v : get_elem? s.views id ≡ some v = f.1.1 ∙ ap (λ (z : View). some z) (sym same) in
      let t = all_home s id v f.1.0 at-v all.0 all.1 all.2 all.3 in
      record {
        book = t.book;
        passes = λ b near. let p = t.passes b near in (p.0, found b (slot.Pass p.0) p.1, p.2);
        untouched = λ b p near at-b none-met. let q = t.passes b near in
            let same-pass : q.0 ≡ p = same_pass {B = B} q.0 p (some-injective (slot.Pass q.0) (slot.Pass p) (sym (found b (slot.Pass q.0) q.1) ∙ at-b)) in
            ap (λ (z : P). (pass_seen z).told) (sym same-pass) ∙ t.untouched b q.0 near q.1 none-met;
        home = (t.home.0, t.home.1, found (blocks_of made) (slot.Book t.home.1) t.home.2, t.home.3, t.home.4);
        tallied = t.tallied;
      }

  pub returned : (n : ℕ) (xs : List (Slot P B)) (v : View) (room : List P) (shelf : Shelf B) (x : B) → blocks_of made ≡ n → Lying xs v → length room ≡ n → get_elem? xs n ≡ some (slot.Book shelf) → shelf.place.value ≡ Some x
      → ((k : ℕ) → k < n → (p : P) × (get_elem? room k ≡ some p) × (get_elem? xs k ≡ some (slot.Pass p)))
      → Returned made (v ∷ []) (map pass_seen room) (book_seen x)
  returned n xs v room shelf x same t many at-n has each =
      let same-shelf : t.home.1 ≡ shelf = shelf_same {P = P} t.home.1 shelf (some-injective (slot.Book t.home.1) (slot.Book shelf) (sym t.home.2 ∙ (ap (λ (k : ℕ). get_elem? xs k) same ∙ at-n))) in
      let same-book : t.home.0 ≡ x = some_same x t.home.0 (sym has ∙ (ap (λ (z : Shelf B). z.place.value) (sym same-shelf) ∙ t.home.3)) in
      let is : t.book ≡ book_seen x = sym t.home.4 ∙ ap book_seen same-book in
      let tallied = subst (Tallied made v) is t.tallied in
      record {
        many = length-map room pass_seen ∙ (many ∙ sym same);
        each = λ b seen at-b.
            let near : b < n = let within = slice_get_within (map pass_seen room) b seen at-b in omega (arith, length-map room pass_seen) in
            let p = t.passes b (omega arith) in
            let q = each b near in
            let same-pass : p.0 ≡ q.0 = same_pass {B = B} p.0 q.0 (some-injective (slot.Pass p.0) (slot.Pass q.0) (sym p.1 ∙ q.2)) in
            let same-seen : pass_seen p.0 ≡ seen = ap pass_seen same-pass ∙ map_at pass_seen room b q.0 seen q.1 at-b in
            let F : BookSeen × PassSeen → Type 0 = λ z. IsPassFor made b (now_at z.0 b) z.1 in
            subst F (λ i. (is i, same-seen i)) p.2;
        untouched = λ b seen at-b none-met.
            let near : b < n = let within = slice_get_within (map pass_seen room) b seen at-b in omega (arith, length-map room pass_seen) in
            let q = each b near in
            let same-seen : pass_seen q.0 ≡ seen = map_at pass_seen room b q.0 seen q.1 at-b in
            ap (λ (z : PassSeen). z.told) (sym same-seen) ∙ t.untouched b q.0 (omega arith) q.2 (omega (arith, none-met));
        follows = tallied.follows;
        after = each_append (λ old. Follows old (book_seen x)) v.gave [] tallied.after tt;
        given = among_more (book_seen x) made.book v.gave (gave_by (v ∷ [])) (among_left (book_seen x) v.gave []) tallied.given;
        ends = tallied.ends ∙ ap (λ (m : ℕ). (made.book.ends + m) % 2 ^ 64) (omega arith);
        clears = tallied.clears ∙ ap (λ (m : ℕ). (made.book.clears + m) % 2 ^ 64) (omega arith);
        spoilt = omega (arith, tallied.spoilt);
        shut = (tallied.shut, tt);
        met = λ b some-busy. omega (arith, tallied.met b (omega arith));
        found = λ b code h. omega (arith, h, tallied.found b code (omega arith));
        met_bad = λ b some-bad. tallied.met_bad b (omega arith);
      }

cond_left : (a b : Bool) → a ≡ true → cond a true b ≡ true
cond_left true b h = refl
cond_left false b h = absurd (false≢true h)

cond_right : (a b : Bool) → b ≡ true → cond a true b ≡ true
cond_right true b h = refl
cond_right false b h = h

pub no_parts : (seats : List ClaimSeat) → length seats ≡ 0 → total parts (map view_of seats) ≡ 0
no_parts [] h = refl
no_parts (s ∷ seats) h = absurd (omega arith)

pub all_back : (seats front back : List ClaimSeat) → seats ≡ front ++ back → length front ≡ 0 → back ≡ seats
all_back seats [] back is h = sym is
all_back seats (s ∷ front) back is h = absurd (omega arith)

-- one more view is joined
pub gathered_more : (views : List View) (all other : View) → Gathered views all → Gathered (other ∷ views) (joined all other)
gathered_more views all other g = record {
  sums = λ f adds. omega (arith, adds all other, g.sums f adds);
  gave = λ book. (
    (λ h. ⊎_elim (λ (l : Among book other.gave). among_left book other.gave (gave_by views) l) (λ (r : Among book all.gave). among_right book other.gave (gave_by views) ((g.gave book).0 r)) (among_either book other.gave all.gave h)),
    λ h. ⊎_elim (λ (l : Among book other.gave). among_left book other.gave all.gave l) (λ (r : Among book (gave_by views)). among_right book other.gave all.gave ((g.gave book).1 r)) (among_either book other.gave (gave_by views) h),
  );
  shut = (cond_right all.shut other.shut, each_map (λ (v : View). v.shut ≡ true → all.shut ≡ true) (λ (v : View). v.shut ≡ true → cond all.shut true other.shut ≡ true) views (λ v h q. cond_left all.shut other.shut (h q)) g.shut);
}

pub gathered_one : (v : View) → Gathered (v ∷ []) v
gathered_one v = record { sums = λ f adds. omega arith; shut = ((λ h. h), tt); gave = λ book. ((λ h. among_left book v.gave [] h), λ h. ⊎_elim (λ (l : Among book v.gave). l) (λ (none-left : Among book []). absurd none-left) (among_either book v.gave [] h)) }

each_shut : (views : List View) (all : View) (P : Type 0) → Each (λ (v : View). v.shut ≡ true → all.shut ≡ true) views → (all.shut ≡ true → P) → Each (λ (v : View). v.shut ≡ true → P) views
each_shut [] all P h k = tt
each_shut (v ∷ views) all P h k = ((λ q. k (h.0 q)), each_shut views all P h.1 k)

pub returned_all : (made : Made) (views : List View) (all : View) (passes : List PassSeen) (book : BookSeen) → Gathered views all → Returned made (all ∷ []) passes book → Returned made views passes book
returned_all made views all passes book g r = record {
  many = r.many;
  each = r.each;
  untouched = λ b pass at-b none-met. r.untouched b pass at-b (omega (arith, none-met, g.sums (other_at b) (λ v w. total-append (answered b) w.mine v.mine ∙ omega arith)));
  follows = r.follows;
  after = let P : BookSeen → Type 0 = λ old. Follows old book in each_of P (gave_by views) (λ old h. each_among P old all.gave (each_front P all.gave [] r.after) ((g.gave old).1 h));
  given = among_more book made.book (gave_by (all ∷ [])) (gave_by views)
      (λ h. ⊎_elim (λ (l : Among book all.gave). (g.gave book).0 l) (λ (none-left : Among book []). absurd none-left) (among_either book all.gave [] h)) r.given;
  ends = r.ends ∙ ap (λ (m : ℕ). (made.book.ends + m) % 2 ^ 64) (omega (arith, g.sums (λ u. length u.wrote) (λ v w. length-append w.wrote v.wrote ∙ omega arith)));
  clears = r.clears ∙ ap (λ (m : ℕ). (made.book.clears + m) % 2 ^ 64) (omega (arith, g.sums (λ u. length u.cleared) (λ v w. length-append w.cleared v.cleared ∙ omega arith)));
  spoilt = omega (arith, r.spoilt, g.sums (λ u. length u.spoilt) (λ v w. length-append w.spoilt v.spoilt ∙ omega arith));
  shut = each_shut views all (book.shut ≡ true) g.shut r.shut.0;
  met = λ b some-busy. omega (arith, r.met b (omega (arith, g.sums (busy_at b) (λ v w. total-append (refused b) w.mine v.mine ∙ omega arith))), g.sums (other_at b) (λ v w. total-append (answered b) w.mine v.mine ∙ omega arith));
  found = λ b code h. omega (arith, r.found b code (omega (arith, h, g.sums (busy_as b code) (λ v w. total-append (refused_as b code) w.mine v.mine ∙ omega arith))), g.sums (other_as b code) (λ v w. total-append (answered_as b code) w.mine v.mine ∙ omega arith));
  met_bad = λ b some-bad. r.met_bad b (omega (arith, g.sums (bad_at b) (λ v w. total-append (found_bad b) w.mine v.mine ∙ omega arith)));
}

pub parts_add : AddsUp parts
parts_add v w = refl
