-- The words of the blocks: what a step on one lane, or on none, leaves of their rule.
use Rattle.std.proofs.Common.{◌≡◌, ℕ, ◌+◌, ◌/◌, ◌%◌, ◌^◌, ◌<◌, ◌≤◌, ◌≢◌, List, length, set, sym, ap, ◌∙◌, subst, ⊎_elim, arith, length-set}
use mathlib.Core.Logic.{dite}
use mathlib.Core.Option.{some}
use native.Mathlib.Decide.{ℕ_discrete}
use lib.ListN.{get_elem?}
use Rattle.atomic_table.proofs.Lists.{at_set}
use Rattle.key_state.specs.declared.entry.Entry.TheVariants.{Bad}
use Rattle.key_state.specs.declared.seen.BookSeen.{BookSeen}
use Rattle.claim_table.specs.Codes.{code_of, IsCoded}
use Rattle.claim_table.specs.Lanes.{code_at}
use Rattle.claim_table.specs.Sums.{total}
use Rattle.claim_table.specs.Views.{blocks_of, now_at, at, holds, refused, answered, refused_as, answered_as, found_bad, busy_at, other_at, busy_as, other_as, bad_at, parts}
use Rattle.claim_table.specs.Rule.{Agrees, FitsView, Claims}
use Rattle.claim_table.specs.declared.view.Item.{Item}
use Rattle.claim_table.specs.declared.view.View.{View}
use Rattle.claim_table.specs.declared.view.Made.{Made}
use Rattle.claim_table.proofs.Sums.{total-set, term_le}
use Rattle.claim_table.proofs.Basics.{each_map, each_apart}

pub agrees_kept : (book : BookSeen) (ws ws' : List ℕ) (i : Item) → code_at ws' i.block ≡ code_at ws i.block → Agrees book ws i → Agrees book ws' i
agrees_kept book ws ws' i e a = record { word = e ∙ a.word; owned = a.owned; coded = a.coded; safe = a.safe }

-- a view that holds no block b fits still where only the lane of b changed
pub fits_apart : (made : Made) (book : BookSeen) (ws ws' : List ℕ) (b : ℕ) (v : View) → holds b v ≡ 0 → ((c : ℕ) → c ≢ b → code_at ws' c ≡ code_at ws c) → FitsView made book ws v → FitsView made book ws' v
fits_apart made book ws ws' b v empty there f = record {
  held = each_apart (Agrees book ws) (Agrees book ws') b v.held empty (λ i ne a. agrees_kept book ws ws' i (there i.block ne) a) f.held;
  falls = f.falls;
  few = f.few;
  stands = f.stands;
  said = f.said;
  live = f.live;
  dead = f.dead;
}

pub fits_same : (made : Made) (book : BookSeen) (ws ws' : List ℕ) (v : View) → ((c : ℕ) → code_at ws' c ≡ code_at ws c) → FitsView made book ws v → FitsView made book ws' v
fits_same made book ws ws' v same f = record {
  held = each_map (Agrees book ws) (Agrees book ws') v.held (λ i a. agrees_kept book ws ws' i (same i.block) a) f.held;
  falls = f.falls;
  few = f.few;
  stands = f.stands;
  said = f.said;
  live = f.live;
  dead = f.dead;
}

module _ (made : Made) (book : BookSeen) (words : List ℕ) (views : List View) (o : Claims made book words views) (id : ℕ) (v w : View) (ws : List ℕ) (me : get_elem? views id ≡ some v) (long : length ws ≡ length words) where
  -- a step on the lane of b that changes the view of one seat
  pub moved : (b : ℕ) → b < (blocks_of made)
      → ((c : ℕ) → c ≢ b → code_at ws c ≡ code_at words c)
      → holds b w + code_at words b / 2 ^ 15 ≡ holds b v + code_at ws b / 2 ^ 15
      → ((c : ℕ) → c ≢ b → holds c w ≡ holds c v)
      → (code_at ws b < 2 ^ 15 → (code_at ws b ≡ code_of (now_at book b)) × IsCoded (now_at book b))
      → ((j : ℕ) (u : View) → j ≢ id → get_elem? views j ≡ some u → holds b u ≡ 0)
      → FitsView made book ws w → w.parts ≡ v.parts
      → ((c : ℕ) → busy_at c w ≡ busy_at c v) → ((c : ℕ) → other_at c v ≤ other_at c w)
      → ((c : ℕ) → c ≢ b → bad_at c w ≡ bad_at c v) → (0 < total (bad_at b) (set views id w) → code_at ws b % 2 ^ 15 ≡ code_of Bad)
      → ((c code : ℕ) → busy_as c code w ≡ busy_as c code v) → ((c code : ℕ) → other_as c code v ≤ other_as c code w)
      → Claims made book ws (set views id w)
  moved b near there count counts free apart fits parts-same busy-same other-more bads stays-bad as-same as-more =
      let vs : List View = set views id w in record {
        wide = long ∙ o.wide;
        busy = λ c h. dite (ℕ_discrete c b)
            (λ e. subst (λ (x : ℕ). total (holds x) vs ≡ code_at ws x / 2 ^ 15) (sym e) (omega (arith, total-set (holds b) views id v w me, o.busy b near, count)))
            (λ ne. omega (arith, total-set (holds c) views id v w me, o.busy c h, counts c ne, ap (λ (x : ℕ). x / 2 ^ 15) (there c ne)));
        outside = λ c h. omega (arith, total-set (holds c) views id v w me, o.outside c h, counts c (λ e. omega arith));
        entries = o.entries;
        free = λ c h. dite (ℕ_discrete c b)
            (λ e. subst (λ (x : ℕ). code_at ws x < 2 ^ 15 → (code_at ws x ≡ code_of (now_at book x)) × IsCoded (now_at book x)) (sym e) free)
            (λ ne. subst (λ (x : ℕ). x < 2 ^ 15 → (x ≡ code_of (now_at book c)) × IsCoded (now_at book c)) (sym (there c ne)) (o.free c h));
        each = λ j u e. ⊎_elim (λ t. subst (FitsView made book ws) t.1 fits) (λ t. fits_apart made book words ws b u (apart j u t.0 t.1) there (o.each j u t.1)) (at_set views id j w u e);
        met = λ c h. omega (arith, total-set (busy_at c) views id v w me, total-set (other_at c) views id v w me, busy-same c, other-more c, o.met c, term_le (other_at c) views id v me);
        found = λ c code h. omega (arith, h, total-set (busy_as c code) views id v w me, total-set (other_as c code) views id v w me, as-same c code, as-more c code, o.found c code, term_le (other_as c code) views id v me);
        alone = λ one c. omega (arith, total-set (busy_at c) views id v w me, busy-same c, o.alone (sym (length-set views id w) ∙ one) c, term_le (busy_at c) views id v me);
        whole = omega (arith, total-set parts views id v w me, o.whole, term_le parts views id v me);
        sized = o.sized;
        stays = λ c h some-bad. dite (ℕ_discrete c b)
            (λ (e : c ≡ b). subst (λ (x : ℕ). code_at ws x % 2 ^ 15 ≡ code_of Bad) (sym e) (stays-bad (subst (λ (x : ℕ). 0 < total (bad_at x) vs) e some-bad)))
            (λ (ne : c ≢ b). ap (λ (x : ℕ). x % 2 ^ 15) (there c ne) ∙ o.stays c h (omega (arith, some-bad, total-set (bad_at c) views id v w me, bads c ne)));
      }

  -- no lane changed
  pub noted : ((c : ℕ) → code_at ws c ≡ code_at words c)
      → ((c : ℕ) → holds c w ≡ holds c v) → FitsView made book words w → w.parts ≡ v.parts
      → ((c : ℕ) → 0 < total (busy_at c) (set views id w) → 0 < total (other_at c) (set views id w))
      → (length views ≡ 1 → (c : ℕ) → busy_at c w ≡ busy_at c v)
      → ((c : ℕ) → bad_at c w ≡ bad_at c v)
      → ((c code : ℕ) → 0 < total (busy_as c code) (set views id w) → 0 < total (other_as c code) (set views id w))
      → Claims made book ws (set views id w)
  noted same counts fits parts-same met alone bads found =
      let vs : List View = set views id w in record {
        wide = long ∙ o.wide;
        busy = λ c h. omega (arith, total-set (holds c) views id v w me, o.busy c h, counts c, ap (λ (x : ℕ). x / 2 ^ 15) (same c));
        outside = λ c h. omega (arith, total-set (holds c) views id v w me, o.outside c h, counts c);
        entries = o.entries;
        free = λ c h. subst (λ (x : ℕ). x < 2 ^ 15 → (x ≡ code_of (now_at book c)) × IsCoded (now_at book c)) (sym (same c)) (o.free c h);
        each = λ j u e. ⊎_elim (λ t. subst (FitsView made book ws) t.1 (fits_same made book words ws w same fits)) (λ t. fits_same made book words ws u same (o.each j u t.1)) (at_set views id j w u e);
        met = met;
        found = found;
        alone = λ one c. let k : length views ≡ 1 = sym (length-set views id w) ∙ one in omega (arith, total-set (busy_at c) views id v w me, alone k c, o.alone k c, term_le (busy_at c) views id v me);
        whole = omega (arith, total-set parts views id v w me, o.whole, term_le parts views id v me);
        sized = o.sized;
        stays = λ c h some-bad. ap (λ (x : ℕ). x % 2 ^ 15) (same c) ∙ o.stays c h (omega (arith, some-bad, total-set (bad_at c) views id v w me, bads c));
      }

  -- nothing that this part reads has changed
  pub rested : ((c : ℕ) → code_at ws c ≡ code_at words c)
      → w.held ≡ v.held → w.mine ≡ v.mine → w.parts ≡ v.parts → FitsView made book words w → Claims made book ws (set views id w)
  rested same e₁ e₂ e₃ fits = noted same (λ c. ap (total (at c)) e₁) fits e₃
      (λ c h. omega (arith, total-set (busy_at c) views id v w me, total-set (other_at c) views id v w me, o.met c, ap (total (refused c)) e₂, ap (total (answered c)) e₂))
      (λ _ c. ap (total (refused c)) e₂) (λ c. ap (total (found_bad c)) e₂)
      (λ c code h. omega (arith, h, total-set (busy_as c code) views id v w me, total-set (other_as c code) views id v w me, o.found c code, ap (total (refused_as c code)) e₂, ap (total (answered_as c code)) e₂))
