-- A seat that is cut in two, and two that are joined.
use Rattle.std.proofs.Common.{◌≡◌, ℕ, ◌+◌, ◌%◌, ◌^◌, ◌<◌, Bool, true, false, cond, ◌≢◌, List, [], ◌∷◌, ◌++◌, length, set, sym, refl, ap, ◌∙◌, subst, ⊎_elim, arith, length-set, length-append, Option, Some, None}
use mathlib.Core.Bool.{false≢true}
use mathlib.Core.Option.{some}
use lib.ListN.{get_elem?}
use Rattle.atomic_table.specs.Table.{Splits, Joins}
use Rattle.atomic_table.proofs.Lists.{at_set, set_else, at_snoc}
use Rattle.vd_arm.specs.Arm.{PassSeen}
use Rattle.key_state.specs.Books.{Follows}
use Rattle.key_state.specs.declared.seen.BookSeen.{BookSeen}
use Rattle.claim_table.specs.Codes.{code_of}
use Rattle.claim_table.specs.Sums.{total, Each}
use Rattle.claim_table.specs.Views.{blocks_of, at, holds, refused, answered, refused_as, answered_as, found_bad, busy_at, other_at, busy_as, other_as, bad_at, parts, lent, has_loan, gave_by, fresh, less, joined, done}
use Rattle.claim_table.specs.Rule.{FitsView, Parked, ShelfHome}
use Rattle.claim_table.specs.declared.view.View.{View}
use Rattle.claim_table.specs.declared.view.Made.{Made}
use Rattle.claim_table.proofs.Sums.{total-append, total-set}
use Rattle.claim_table.proofs.Basics.{each_map, length-snoc, two_long, there_long}
use Rattle.claim_table.proofs.GaveBack.{among_left, among_right, among_more, each_append, each_at, each_set, each_snoc, gave_set, gave_snoc, gave_joined}
use Rattle.claim_table.proofs.Steps.{K}

shut_cases : (a b : Bool) (P : Type 0) → (a ≡ true → P) → (b ≡ true → P) → cond a true b ≡ true → P
shut_cases true b P f g h = f refl
shut_cases false b P f g h = g h

no_some : {A : Type 0} (x : A) (o : Option A) → o ≡ None → o ≡ Some x → ⊥
no_some x o e d = let z : None ≡ Some x = sym e ∙ d in cc

module _ {P B : Type 0} (pass_seen : P → PassSeen) (book_seen : B → BookSeen) (made : Made) where
  pub splits : (id : ℕ) (v : View) (many : ℕ) → v.spent ≡ false → 0 < many → many < v.parts → Splits (K pass_seen book_seen made) id v (less v many) (fresh v.made many)
  splits id v many live some-parts left s o me =
      let a = o.claims in let was = a.each id v me in let l : View = less v many in let r : View = fresh v.made many in let vs : List View = set s.views id l in
      let both : (g : View → ℕ) → total g (vs ++ r ∷ []) + g v ≡ total g s.views + g l + g r = λ g. omega (arith, total-append g vs (r ∷ []), total-set g s.views id v l me) in
      record {
        book = o.book;
        claims = record {
          wide = a.wide;
          busy = λ c h. omega (arith, both (holds c), a.busy c h);
          outside = λ c h. omega (arith, both (holds c), a.outside c h);
          entries = a.entries;
          free = a.free;
          each = λ j u e. ⊎_elim (λ (q : get_elem? vs j ≡ some u). ⊎_elim
              (λ t. subst (FitsView made o.book s.words) t.1 record { held = was.held; falls = was.falls; few = was.few; stands = was.stands; said = was.said; live = λ z. ((was.live live).0, omega arith); dead = λ z. absurd (false≢true (sym live ∙ z)) })
              (λ t. a.each j u t.1) (at_set s.views id j l u q))
              (λ (q : r ≡ u). subst (FitsView made o.book s.words) q record { held = tt; falls = tt; few = omega arith; stands = tt; said = tt; live = λ z. ((was.live live).0, omega arith); dead = λ z. absurd (false≢true z) })
              (at_snoc vs r u j e);
          met = λ c h. omega (arith, both (busy_at c), both (other_at c), a.met c);
          found = λ c code h. omega (arith, h, both (busy_as c code), both (other_as c code), a.found c code);
          alone = λ one c. absurd (omega (arith, there_long s.views id v me, length-snoc vs r, length-set s.views id l));
          whole = omega (arith, both parts, a.whole);
          sized = a.sized;
          stays = λ c h some-bad. a.stays c h (omega (arith, some-bad, both (bad_at c)));
        };
        counts = record {
          ends = o.counts.ends ∙ ap (λ (n : ℕ). (made.book.ends + n) % 2 ^ 64) (omega (arith, both (λ u. length u.wrote)));
          clears = o.counts.clears ∙ ap (λ (n : ℕ). (made.book.clears + n) % 2 ^ 64) (omega (arith, both (λ u. length u.cleared)));
          spoilt = omega (arith, o.counts.spoilt, both (λ u. length u.spoilt));
          bad_met = λ b h. o.counts.bad_met b (omega (arith, both (bad_at b)));
          follows = o.counts.follows;
          after = let P : BookSeen → Type 0 = λ old. Follows old o.book in each_snoc P vs r tt (each_set P s.views id l (each_at P s.views id v me o.counts.after) o.counts.after);
          given = among_more o.book made.book (gave_by s.views) (gave_by (vs ++ r ∷ [])) (λ h. gave_snoc o.book vs r (gave_set o.book s.views id v l me (λ q. q) h)) o.counts.given;
          idle = λ j u e q. ⊎_elim (λ (z : get_elem? vs j ≡ some u). ⊎_elim (λ (t : (j ≡ id) × (l ≡ u)). absurd (false≢true (sym live ∙ (ap (λ (c : View). c.spent) t.1 ∙ q)))) (λ t. o.counts.idle j u t.1 q) (at_set s.views id j l u z))
              (λ (z : r ≡ u). absurd (false≢true (ap (λ (c : View). c.spent) z ∙ q))) (at_snoc vs r u j e);
          told_shut = λ j u e q. ⊎_elim (λ (z : get_elem? vs j ≡ some u). ⊎_elim (λ t. o.counts.told_shut id v me (ap (λ (c : View). c.shut) t.1 ∙ q)) (λ t. o.counts.told_shut j u t.1 q) (at_set s.views id j l u z))
              (λ (z : r ≡ u). absurd (false≢true (ap (λ (c : View). c.shut) z ∙ q))) (at_snoc vs r u j e);
        };
        slots = record {
          long = o.slots.long;
          home = o.slots.home;
          parked = λ j u e. ⊎_elim (λ (z : get_elem? vs j ≡ some u). ⊎_elim (λ t. subst (λ (c : View). Each (Parked pass_seen book_seen made o.book s.homes c.hand) c.held) t.1 (o.slots.parked id v me)) (λ t. o.slots.parked j u t.1) (at_set s.views id j l u z))
              (λ (z : r ≡ u). subst (λ (c : View). Each (Parked pass_seen book_seen made o.book s.homes c.hand) c.held) z tt) (at_snoc vs r u j e);
          untouched = λ c q near at-c none-met. o.slots.untouched c q near at-c (omega (arith, none-met, both (other_at c)));
        };
        lock = record {
          bit = omega (arith, both has_loan, o.lock.bit);
          one = o.lock.one;
          loan = λ j u f e q. ⊎_elim (λ (z : get_elem? vs j ≡ some u). ⊎_elim
              (λ t. let old = o.lock.loan id v f me (ap (λ (c : View). c.loan) t.1 ∙ q) in (old.0, λ away. old.1 (λ y. away (ap (λ (c : View). c.hand) (sym t.1) ∙ y))))
              (λ t. o.lock.loan j u f t.1 q) (at_set s.views id j l u z))
              (λ (z : r ≡ u). absurd (no_some f u.loan (ap (λ (c : View). c.loan) (sym z)) q)) (at_snoc vs r u j e);
          awake = λ j u f e q. ⊎_elim (λ (z : get_elem? vs j ≡ some u). ⊎_elim (λ t. ap (λ (c : View). c.spent) (sym t.1) ∙ live) (λ t. o.lock.awake j u f t.1 q) (at_set s.views id j l u z))
              (λ (z : r ≡ u). absurd (no_some f u.loan (ap (λ (c : View). c.loan) (sym z)) q)) (at_snoc vs r u j e);
          home = o.lock.home;
        };
      }

  pub joins : (id : ℕ) (v : View) (other : ℕ) (u : View) → v.spent ≡ false → u.held ≡ [] → u.loan ≡ None → Joins (K pass_seen book_seen made) id v other u (joined v u) done
  joins id v other u live empty unlent s o me ne them =
      let a = o.claims in let was = a.each id v me in let w : View = joined v u in let vs : List View = set s.views id w in
      let there : get_elem? s.views other ≡ some u = sym (set_else s.views id other w ne) ∙ them in
      let both : (g : View → ℕ) → total g (set vs other done) + g u + g v ≡ total g s.views + g w + g done = λ g. omega (arith, total-set g s.views id v w me, total-set g vs other u done them) in
      let nothing : (c : ℕ) → holds c u ≡ 0 = λ c. ap (total (at c)) empty in
      let cases : (Q : View → Type 0) → Q done → Q w → ((j : ℕ) (x : View) → get_elem? s.views j ≡ some x → Q x) → (j : ℕ) (x : View) → get_elem? (set vs other done) j ≡ some x → Q x
      = λ Q q₁ q₂ q₃ j x e. ⊎_elim (λ (t : (j ≡ other) × (done ≡ x)). subst Q t.1 q₁)
      (λ (t : (j ≢ other) × (get_elem? vs j ≡ some x)). ⊎_elim (λ z. subst Q z.1 q₂) (λ z. q₃ j x z.1) (at_set s.views id j w x t.1)) (at_set vs other j done x e) in
      record {
        book = o.book;
        claims = record {
          wide = a.wide;
          busy = λ c h. omega (arith, both (holds c), a.busy c h, nothing c);
          outside = λ c h. omega (arith, both (holds c), a.outside c h, nothing c);
          entries = a.entries;
          free = a.free;
          each = cases (FitsView made o.book s.words) record { held = tt; falls = tt; few = omega arith; stands = tt; said = tt; live = λ q. absurd (false≢true (sym q)); dead = λ _. (refl, refl, refl) }
              record {
                held = was.held;
                falls = was.falls;
                few = was.few;
                stands = each_map (λ i. 0 < other_at i.block v) (λ i. 0 < other_at i.block w) v.held (λ i h. omega (arith, total-append (answered i.block) u.mine v.mine)) was.stands;
                said = each_map (λ i. 0 < other_as i.block (code_of i.was) v) (λ i. 0 < other_as i.block (code_of i.was) w) v.held (λ i h. omega (arith, total-append (answered_as i.block (code_of i.was)) u.mine v.mine)) was.said;
                live = λ q. ((was.live live).0, omega (arith, (was.live live).1));
                dead = λ q. absurd (false≢true (sym live ∙ q));
              }
              a.each;
          met = λ c h. omega (arith, both (busy_at c), both (other_at c), a.met c, total-append (refused c) u.mine v.mine, total-append (answered c) u.mine v.mine);
          found = λ c code h. omega (arith, h, both (busy_as c code), both (other_as c code), a.found c code, total-append (refused_as c code) u.mine v.mine, total-append (answered_as c code) u.mine v.mine);
          alone = λ one c. absurd (omega (arith, two_long s.views id other v u ne me there, length-set vs other done, length-set s.views id w));
          whole = omega (arith, both parts, a.whole);
          sized = a.sized;
          stays = λ c h some-bad. a.stays c h (omega (arith, some-bad, both (bad_at c), total-append (found_bad c) u.mine v.mine));
        };
        counts = record {
          ends = o.counts.ends ∙ ap (λ (n : ℕ). (made.book.ends + n) % 2 ^ 64) (omega (arith, both (λ x. length x.wrote), length-append u.wrote v.wrote));
          clears = o.counts.clears ∙ ap (λ (n : ℕ). (made.book.clears + n) % 2 ^ 64) (omega (arith, both (λ x. length x.cleared), length-append u.cleared v.cleared));
          spoilt = omega (arith, o.counts.spoilt, both (λ x. length x.spoilt), length-append u.spoilt v.spoilt);
          bad_met = λ b h. o.counts.bad_met b (omega (arith, both (bad_at b), total-append (found_bad b) u.mine v.mine));
          follows = o.counts.follows;
          after = let P : BookSeen → Type 0 = λ old. Follows old o.book in
              let both-gave : Each P w.gave = each_append P u.gave v.gave (each_at P s.views other u there o.counts.after) (each_at P s.views id v me o.counts.after) in
              each_set P vs other done tt (each_set P s.views id w both-gave o.counts.after);
          given = among_more o.book made.book (gave_by s.views) (gave_by (set vs other done)) (gave_joined o.book s.views id other v u w done ne me there (among_right o.book u.gave v.gave) (among_left o.book u.gave v.gave)) o.counts.given;
          idle = cases (λ x. x.spent ≡ true → (x.wrote ≡ []) × (x.cleared ≡ []) × (x.spoilt ≡ []) × (x.gave ≡ [])) (λ _. (refl, refl, refl, refl)) (λ q. absurd (false≢true (sym live ∙ q))) o.counts.idle;
          told_shut = cases (λ x. x.shut ≡ true → o.book.shut ≡ true) (λ q. absurd (false≢true q)) (λ q. shut_cases v.shut u.shut (o.book.shut ≡ true) (o.counts.told_shut id v me) (o.counts.told_shut other u there) q) o.counts.told_shut;
        };
        slots = record {
          long = o.slots.long;
          home = o.slots.home;
          parked = cases (λ x. Each (Parked pass_seen book_seen made o.book s.homes x.hand) x.held) tt (o.slots.parked id v me) o.slots.parked;
          untouched = λ c q near at-c none-met. o.slots.untouched c q near at-c (omega (arith, none-met, both (other_at c), total-append (answered c) u.mine v.mine));
        };
        lock = record {
          bit = omega (arith, both has_loan, o.lock.bit, ap lent unlent);
          one = o.lock.one;
          loan = λ j x f e. cases (λ x. x.loan ≡ Some f → (f ≡ o.book) × (x.hand ≢ blocks_of made + 1 → ShelfHome pass_seen book_seen made s.homes))
              (λ q. absurd (no_some f None refl q)) (o.lock.loan id v f me) (λ j x. o.lock.loan j x f) j x e;
          awake = λ j x f e. cases (λ x. x.loan ≡ Some f → x.spent ≡ false) (λ q. absurd (no_some f None refl q)) (λ _. live) (λ j x. o.lock.awake j x f) j x e;
          home = o.lock.home;
        };
      }
