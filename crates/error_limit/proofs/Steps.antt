-- Each step keeps the rule of the word.
use Rattle.std.proofs.Common.{◌≡◌, ℕ, zero, suc, ◌+◌, ◌*◌, ◌%◌, ◌^◌, ◌<◌, ◌≤◌, ◌≢◌, List, [], ◌∷◌, ◌++◌, length, get_or, set, sym, refl, ap, ◌∙◌, subst, ⊎_elim, arith, length-set, length-append, get_or-set_same, cond, eq-eqb, ne_eqb}
use mathlib.Core.Logic.{dite}
use native.Mathlib.Decide.{ℕ_discrete, dec_le}
use mathlib.Core.Option.{none, some, some-injective, some-ne-none}
use lib.ListN.{get_elem?}
use Rattle.atomic_table.specs.Table.{State, Me, step, keeps, opening, Allows, Splits, Joins, Final, Seen}
use Rattle.atomic_table.proofs.Lists.{at_set, set_else, at_snoc}
use Rattle.error_limit.specs.Sums.{total, is, times, EachOnce}
use Rattle.error_limit.specs.Rule.{notes, newest, heard, parts, Fits, Counted, first, noted, answers, cut_left, cut_right, both, spent}
use Rattle.error_limit.specs.declared.rule.Noted.{Noted}
use Rattle.error_limit.specs.declared.rule.Start.{Start}
use Rattle.error_limit.proofs.Sums.{total-append, total-set, term_le, terms_le}

bounded : (views : List Noted) → ((j : ℕ) (v : Noted) → get_elem? views j ≡ some v → notes v ≤ v.parts * 2 ^ 32) → total notes views ≤ total parts views * 2 ^ 32
bounded [] few = omega arith
bounded (v ∷ views) few = omega (arith, few 0 v refl, bounded views (λ j u at. few (suc j) u at))

only_first : (P : Noted → Type 0) (w : Noted) (j : ℕ) (v : Noted) → get_elem? (w ∷ []) j ≡ some v → P w → P v
only_first P w zero v at h = subst P (some-injective w v at) h
only_first P w (suc j) v at h = absurd (some-ne-none v (sym at))

-- the sum is that of one seat where each other has nothing to add
none_of : (g : Noted → ℕ) (views : List Noted) → ((j : ℕ) (u : Noted) → get_elem? views j ≡ some u → g u ≡ 0) → total g views ≡ 0
none_of g [] h = refl
none_of g (v ∷ views) h = omega (arith, h 0 v refl, none_of g views (λ j u at. h (suc j) u at))

one_of : (g : Noted → ℕ) (views : List Noted) (id : ℕ) (v : Noted) → get_elem? views id ≡ some v → ((j : ℕ) (u : Noted) → j ≢ id → get_elem? views j ≡ some u → g u ≡ 0) → total g views ≡ g v
one_of g [] id v at h = absurd (some-ne-none v (sym at))
one_of g (u ∷ views) zero v at h = omega (arith, ap g (some-injective u v at), none_of g views (λ j w at-j. h (suc j) w (λ e. omega arith) at-j))
one_of g (u ∷ views) (suc id) v at h = omega (arith, h 0 u (λ e. omega arith) refl, one_of g views id v at (λ j w apart at-j. h (suc j) w (λ e. apart (omega arith)) at-j))

times_none : (n : ℕ) (xs : List ℕ) → length xs ≡ 0 → times n xs ≡ 0
times_none n [] e = refl
times_none n (x ∷ xs) e = absurd (omega arith)

is_yes : (n x : ℕ) → x ≡ n → is n x ≡ 1
is_yes n x e = ap (λ t. cond t 1 0) (eq-eqb x n e)

is_no : (n x : ℕ) → x ≢ n → is n x ≡ 0
is_no n x ne = ap (λ t. cond t 1 0) (ne_eqb x n ne)

pub newest_in : (xs : List ℕ) (top : ℕ) → ((n : ℕ) → top < n → times n xs ≡ 0) → newest xs ≤ top
newest_in [] top none_above = omega arith
newest_in (x ∷ xs) top none_above = dite (dec_le x top) (λ (low : x ≤ top). low) (λ (high : ¬ (x ≤ top)). absurd (omega (arith, none_above x (omega arith), is_yes x x refl)))

-- the next number is answered
next : (before r : ℕ) (old new : ℕ → ℕ) → before ≤ r → EachOnce before r old → ((n : ℕ) → new n ≡ old n + is n (r + 1)) → EachOnce before (r + 1) new
next before r old new low each more = record {
  once = λ n above upto. dite (ℕ_discrete (r + 1) n)
      (λ (e : r + 1 ≡ n). omega (arith, more n, is_yes n (r + 1) e, each.not_above n (omega arith)))
      (λ (ne : r + 1 ≢ n). omega (arith, more n, is_no n (r + 1) ne, each.once n above (omega arith)));
  not_below = λ n below. omega (arith, more n, is_no n (r + 1) (λ (e : r + 1 ≡ n). omega arith), each.not_below n below);
  not_above = λ n above. omega (arith, more n, is_no n (r + 1) (λ (e : r + 1 ≡ n). omega arith), each.not_above n (omega arith));
}

-- the same numbers were answered
still : (before r : ℕ) (old new : ℕ → ℕ) → EachOnce before r old → ((n : ℕ) → new n ≡ old n) → EachOnce before r new
still before r old new each same = record {
  once = λ n above upto. same n ∙ each.once n above upto;
  not_below = λ n below. same n ∙ each.not_below n below;
  not_above = λ n above. same n ∙ each.not_above n above;
}

module _ {S : Type 0} (start : Start) where
  -- beside a seat with every part no other has noted
  silent : (s : State S Noted) → Counted start s → (id : ℕ) (v : Noted) → get_elem? s.views id ≡ some v → v.parts ≡ start.seats → (j : ℕ) (u : Noted) → j ≢ id → get_elem? s.views j ≡ some u → notes u ≡ 0
  silent s kept id v me all j u apart at-j = omega (arith, terms_le parts s.views id j v u apart me at-j, kept.whole, (kept.each j u at-j).few)

  all_noted : (s : State S Noted) → Counted start s → (id : ℕ) (v : Noted) → get_elem? s.views id ≡ some v → v.parts ≡ start.seats → total notes s.views ≡ notes v
  all_noted s kept id v me all = one_of notes s.views id v me (silent s kept id v me all)

  all_heard : (s : State S Noted) → Counted start s → (id : ℕ) (v : Noted) → get_elem? s.views id ≡ some v → v.parts ≡ start.seats → (n : ℕ) → total (heard n) s.views ≡ heard n v
  all_heard s kept id v me all n = one_of (heard n) s.views id v me (λ j u apart at-j. times_none n u.answers (silent s kept id v me all j u apart at-j))

  pub answers_allowed : (n id : ℕ) (m : Me S Noted) (k : ℕ) → k ≡ 1 → 0 < m.0.parts → notes m.0 < m.0.parts * 2 ^ 32 → Allows (Counted {S = S} start) n id m 0 (λ y. (y + k) % 2 ^ 64) (answers (step n 0 k 0 none) m)
  answers_allowed n id m k one some-part room s kept wide me _ =
      let v : Noted = m.0 in
      let r : ℕ = get_or s.words 0 0 in
      let w : Noted = noted v r in
      let y : ℕ = (r + k) % 2 ^ 64 in
      let all = bounded s.views (λ j u at. (kept.each j u at).few) in
      let exact = kept.exact in
      let whole = kept.whole in
      let small = kept.small in
      let was = kept.each id v me in
      let known : v.made ≡ start = was.made some-part in
      let fits : r + 1 < 2 ^ 64 = omega (arith, small.0, small.1) in
      let is_next : y ≡ r + 1 = omega arith in
      let broad = kept.wide in
      let here : get_or (set s.words 0 y) 0 0 ≡ y = get_or-set_same s.words 0 y 0 (omega arith) in (
        w,
        keeps,
        tt,
        record {
          wide = length-set s.words 0 y ∙ kept.wide;
          exact = omega (arith, total-set notes s.views id v w me);
          once = subst (λ (x : ℕ). EachOnce start.before x (λ n. total (heard n) (set s.views id w))) (sym (here ∙ is_next))
              (next start.before r (λ n. total (heard n) s.views) (λ n. total (heard n) (set s.views id w)) (omega (arith, exact)) kept.once (λ n. omega (arith, total-set (heard n) s.views id v w me)));
          whole = omega (arith, total-set parts s.views id v w me);
          small = kept.small;
          each = λ j u e. ⊎_elim
              (λ t. subst (Fits start) t.1 record { few = omega arith; made = was.made })
              (λ t. kept.each j u t.1) (at_set s.views id j w u e);
        },
        record {
          after_is = refl;
          later = newest_in v.answers r (λ n above. omega (arith, kept.once.not_above n above, term_le (heard n) s.views id v me));
          own = omega (arith, ap (λ (z : Start). z.before) known, term_le notes s.views id v me);
          alone = λ all-parts. omega (arith, ap (λ (z : Start). z.before) known, all_noted s kept id v me (all-parts ∙ ap (λ (z : Start). z.seats) known));
          room = fits;
        },
      )

  pub splits : (id : ℕ) (v : Noted) → 1 < v.parts → notes v ≡ 0 → Splits (Counted {S = S} start) id v (cut_left v) (cut_right v)
  splits id v some-parts none-noted s kept me =
      let l : Noted = cut_left v in
      let r : Noted = cut_right v in
      let vs : List Noted = set s.views id l in
      let was = kept.each id v me in
      let sums : (g : Noted → ℕ) → total g (vs ++ r ∷ []) + g v ≡ total g s.views + g l + g r = λ g. omega (arith, total-append g vs (r ∷ []), total-set g s.views id v l me) in
      record {
        wide = kept.wide;
        exact = omega (arith, sums notes, kept.exact);
        once = still start.before (get_or s.words 0 0) (λ n. total (heard n) s.views) (λ n. total (heard n) (vs ++ r ∷ [])) kept.once (λ n. omega (arith, sums (heard n)));
        whole = omega (arith, sums parts, kept.whole);
        small = kept.small;
        each = λ j u e. ⊎_elim (λ (q : get_elem? vs j ≡ some u). ⊎_elim
            (λ t. subst (Fits start) t.1 record { few = omega arith; made = λ _. was.made (omega arith) }) (λ t. kept.each j u t.1) (at_set s.views id j l u q))
            (λ (q : r ≡ u). subst (Fits start) q record { few = omega arith; made = λ _. was.made (omega arith) }) (at_snoc vs r u j e);
      }

  pub joins : (id : ℕ) (v : Noted) (other : ℕ) (u : Noted) → 0 < v.parts → Joins (Counted {S = S} start) id v other u (both v u) spent
  joins id v other u some-part s kept me ne them =
      let w : Noted = both v u in
      let vs : List Noted = set s.views id w in
      let was = kept.each id v me in
      let there : get_elem? s.views other ≡ some u = sym (set_else s.views id other w ne) ∙ them in
      let theirs = kept.each other u there in
      let notes_in : notes w ≡ notes v + notes u = length-append v.answers u.answers in
      let heard_in : (n : ℕ) → heard n w ≡ heard n v + heard n u = λ n. total-append (is n) v.answers u.answers in
      let sums : (g : Noted → ℕ) → total g (set vs other spent) + g u + g v ≡ total g s.views + g w + g spent = λ g. omega (arith, total-set g s.views id v w me, total-set g vs other u spent them) in
      record {
        wide = kept.wide;
        exact = omega (arith, sums notes, kept.exact);
        once = still start.before (get_or s.words 0 0) (λ n. total (heard n) s.views) (λ n. total (heard n) (set vs other spent)) kept.once (λ n. omega (arith, sums (heard n), heard_in n));
        whole = omega (arith, sums parts, kept.whole);
        small = kept.small;
        each = λ j x e. ⊎_elim (λ (t : (j ≡ other) × (spent ≡ x)). subst (Fits start) t.1 record { few = omega arith; made = λ z. absurd (omega arith) })
            (λ (t : (j ≢ other) × (get_elem? vs j ≡ some x)). ⊎_elim
            (λ q. subst (Fits start) q.1 record { few = omega (arith, was.few, theirs.few, notes_in); made = λ _. was.made some-part })
            (λ q. kept.each j x q.1) (at_set s.views id j w x t.1))
            (at_set vs other j spent x e);
      }

  pub starts : (slots : List S) → start.before < 2 ^ 32 → start.seats ≤ 65536 → Counted start (opening (start.before ∷ []) slots (first start))
  starts slots low few = record {
    wide = refl;
    exact = omega arith;
    once = record { once = λ n above upto. absurd (omega arith); not_below = λ n below. refl; not_above = λ n above. refl };
    whole = omega arith;
    small = (low, few);
    each = λ j v at. only_first (Fits start) (first start) j v at record { few = omega arith; made = λ _. refl };
  }

  -- The last word, beside a seat with every part.
  pub ends : (words : List ℕ) (slots : List S) (id : ℕ) (v : Noted) → Final (Seen (Counted start) id v) words slots → v.parts ≡ start.seats → (get_or words 0 0 ≡ start.before + notes v) × EachOnce start.before (get_or words 0 0) (λ n. heard n v)
  ends words slots id v last all =
      let s = last.0 in
      let kept = last.1.0 in
      let me = last.1.1 in
      let word : get_or s.words 0 0 ≡ get_or words 0 0 = ap (λ (l : List ℕ). get_or l 0 0) last.2 in (
        omega (arith, kept.exact, all_noted s kept id v me all),
        subst (λ (x : ℕ). EachOnce start.before x (λ n. heard n v)) word
            (still start.before (get_or s.words 0 0) (λ n. total (heard n) s.views) (λ n. heard n v) kept.once (λ n. sym (all_heard s kept id v me all n))),
      )

pub at_get : (xs : List ℕ) (i x : ℕ) → get_elem? xs i ≡ some x → get_or xs i 0 ≡ x
at_get [] i x at = absurd (some-ne-none x (sym at))
at_get (y ∷ xs) zero x at = some-injective y x at
at_get (y ∷ xs) (suc i) x at = at_get xs i x at
