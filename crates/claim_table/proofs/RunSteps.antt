-- Runs of blocks, one more or one less.
use Rattle.std.proofs.Common.{false, ◌≡◌, ℕ, ◌+◌, ◌<◌, List, [], ◌∷◌, ◌++◌, length, refl, ap, sym, subst, ◌∙◌, arith}
use Rattle.vd_arm.specs.Arm.{PassSeen}
use Rattle.key_state.specs.Entries.{entry_at}
use Rattle.key_state.specs.declared.entry.Entry.{Entry}
use Rattle.claim_table.specs.Sums.{Each}
use Rattle.claim_table.specs.Views.{LentAs, claimed, item, parts_in}
use Rattle.claim_table.specs.Passes.{IsPassFor}
use Rattle.claim_table.specs.Seats.{IsFreeIn}
use Rattle.claim_table.specs.Runs.{HasClaimed, AreNewest, ArePassesFor, AreLentAs}
use Rattle.claim_table.specs.declared.view.Item.{Item}
use Rattle.claim_table.specs.declared.view.View.{View}
use Rattle.claim_table.specs.declared.view.Made.{Made}

pub each_more : {A : Type 0} (P : A → Type 0) (xs : List A) (x : A) → Each P xs → P x → Each P (xs ++ x ∷ [])
each_more P [] x h p = (p, tt)
each_more P (y ∷ xs) x h p = (h.0, each_more P xs x h.1 p)

each_below : (a b : ℕ) (held : List Item) → a < b + 1 → Each (λ i. i.block < a) held → Each (λ i. i.block < b) held
each_below a b [] le h = h
each_below a b (i ∷ held) le h = (omega (arith, h.0), each_below a b held le h.1)

pub claimed_more : (v w : View) (f word : ℕ) (es : List Entry) (e : Entry) → HasClaimed v f es w → IsFreeIn word (f + length es) e → HasClaimed v f (es ++ e ∷ []) (claimed w (f + length es) word e)
claimed_more v w f word [] e h free =
    let at : f + 0 ≡ f = omega arith in
    (word, subst (λ (n : ℕ). IsFreeIn word n e) at free, ap (λ (u : View). claimed u (f + 0) word e) h ∙ ap (λ (n : ℕ). claimed v n word e) at)
claimed_more v w f word (x ∷ es) e h free =
    let at : f + 1 + length es ≡ f + length (x ∷ es) = omega arith in
    (h.0, h.1, subst (λ (n : ℕ). HasClaimed (claimed v f h.0 x) (f + 1) (es ++ e ∷ []) (claimed w n word e)) at (claimed_more (claimed v f h.0 x) w (f + 1) word es e h.2 (subst (λ (n : ℕ). IsFreeIn word n e) (sym at) free)))

pub all_made : (v w : View) (f : ℕ) (es : List Entry) → HasClaimed v f es w → w.made ≡ v.made
all_made v w f [] h = ap (λ (u : View). u.made) h
all_made v w f (x ∷ es) h = all_made (claimed v f h.0 x) w (f + 1) es h.2

pub all_parts : (v w : View) (f : ℕ) (es : List Entry) → HasClaimed v f es w → w.parts ≡ v.parts
all_parts v w f [] h = ap (λ (u : View). u.parts) h
all_parts v w f (x ∷ es) h = all_parts (claimed v f h.0 x) w (f + 1) es h.2

pub all_loan : (v w : View) (f : ℕ) (es : List Entry) → HasClaimed v f es w → w.loan ≡ v.loan
all_loan v w f [] h = ap (λ (u : View). u.loan) h
all_loan v w f (x ∷ es) h = all_loan (claimed v f h.0 x) w (f + 1) es h.2

pub all_few : (v w : View) (f : ℕ) (es : List Entry) → HasClaimed v f es w → length w.held ≡ length es + length v.held
all_few v w f [] h = omega (arith, ap (λ (u : View). length u.held) h)
all_few v w f (x ∷ es) h = omega (arith, all_few (claimed v f h.0 x) w (f + 1) es h.2)

pub all_above : (v w : View) (f : ℕ) (es : List Entry) → HasClaimed v f es w → Each (λ i. i.block < f) v.held → Each (λ i. i.block < f + length es) w.held
all_above v w f [] h below = subst (λ (u : View). Each (λ i. i.block < f + 0) u.held) (sym h) (each_below f (f + 0) v.held (omega arith) below)
all_above v w f (x ∷ es) h below =
    let more : Each (λ i. i.block < f + 1) (item f x x false ∷ v.held) = (omega arith, each_below f (f + 1) v.held (omega arith) below) in
    each_below (f + 1 + length es) (f + length (x ∷ es)) w.held (omega arith) (all_above (claimed v f h.0 x) w (f + 1) es h.2 more)

pub all_newest : (v w : View) (f : ℕ) (es : List Entry) → HasClaimed v f es w → AreNewest f es w.held v.held
all_newest v w f [] h = ap (λ (u : View). u.held) h
all_newest v w f (x ∷ es) h = (item f x x false, refl, refl, all_newest (claimed v f h.0 x) w (f + 1) es h.2)

pub lent_more : (v : View) (f : ℕ) (es : List Entry) (e : Entry) → AreLentAs v f es → LentAs v (f + length es) e → AreLentAs v f (es ++ e ∷ [])
lent_more v f [] e h of = (subst (λ (n : ℕ). LentAs v n e) (omega arith) of, tt)
lent_more v f (x ∷ es) e h of = (h.0, lent_more v (f + 1) es e h.1 (subst (λ (n : ℕ). LentAs v n e) (omega arith) of))

-- what a seat that claimed a run finds in the book it found there before
pub still_lent : (v w : View) (f a b : ℕ) (es : List Entry) (e : Entry) → HasClaimed v f es w → a ≡ b → LentAs w a e → LentAs v b e
still_lent v w f a b es e is at h = λ book has. subst (λ (n : ℕ). entry_at book.now n ≡ e) at (h book (all_loan v w f es is ∙ has))

-- the last block of a run is the newest
pub newest_last : (f : ℕ) (es : List Entry) (e : Entry) (held others : List Item) → AreNewest f (es ++ e ∷ []) held others
    → (i : Item) × (rest : List Item) × (held ≡ i ∷ rest) × (i.block ≡ f + length es) × (i.own ≡ e) × AreNewest f es rest others
newest_last f [] e held others h = (h.0, others, h.3, h.1 ∙ omega arith, h.2, refl)
newest_last f (x ∷ es) e held others h =
    let t = newest_last (f + 1) es e held (h.0 ∷ others) h.3 in
    (t.0, t.1, t.2, t.3 ∙ omega arith, t.4, (h.0, h.1, h.2, t.5))

module _ {P : Type 0} (seen : P → PassSeen) (made : Made) where
  pub passes_more : (f : ℕ) (es : List Entry) (ps : List P) (e : Entry) (p : P) → ArePassesFor seen made f es ps → IsPassFor made (f + length es) e (seen p) → ArePassesFor seen made f (es ++ e ∷ []) (ps ++ p ∷ [])
  passes_more f [] [] e p h of = (subst (λ (n : ℕ). IsPassFor made n e (seen p)) (omega arith) of, tt)
  passes_more f [] (q ∷ ps) e p h of = absurd h
  passes_more f (x ∷ es) [] e p h of = absurd h
  passes_more f (x ∷ es) (q ∷ ps) e p h of = (h.0, passes_more (f + 1) es ps e p h.1 (subst (λ (n : ℕ). IsPassFor made n e (seen p)) (omega arith) of))

  pub passes_last : (f : ℕ) (es : List Entry) (ps : List P) (e : Entry) (p : P) → length es ≡ length ps → ArePassesFor seen made f (es ++ e ∷ []) (ps ++ p ∷ []) → IsPassFor made (f + length es) e (seen p) × ArePassesFor seen made f es ps
  passes_last f [] [] e p same h = (subst (λ (n : ℕ). IsPassFor made n e (seen p)) (omega arith) h.0, tt)
  passes_last f [] (q ∷ ps) e p same h = absurd (omega arith)
  passes_last f (x ∷ es) [] e p same h = absurd (omega arith)
  passes_last f (x ∷ es) (q ∷ ps) e p same h =
      let t = passes_last (f + 1) es ps e p (omega arith) h.1 in
      (subst (λ (n : ℕ). IsPassFor made n e (seen p)) (omega arith) t.0, (h.0, t.1))

-- the same with the names of a call
pub last_item : (f : ℕ) (es rest : List Entry) (e : Entry) (held others : List Item) (b : ℕ) → es ≡ rest ++ e ∷ [] → b ≡ f + length rest → AreNewest f es held others
    → (i : Item) × (left : List Item) × (held ≡ i ∷ left) × (i.block ≡ b) × (i.own ≡ e) × AreNewest f rest left others
last_item f es rest e held others b is at h =
    let t = newest_last f rest e held others (subst (λ (xs : List Entry). AreNewest f xs held others) is h) in
    (t.0, t.1, t.2, t.3 ∙ sym at, t.4, t.5)

pub last_pass : {P : Type 0} (seen : P → PassSeen) (made : Made) (f : ℕ) (es rest : List Entry) (e : Entry) (b : ℕ) (ps before : List P) (p : P) → es ≡ rest ++ e ∷ [] → b ≡ f + length rest → ps ≡ before ++ p ∷ [] → length rest ≡ length before → ArePassesFor seen made f es ps
    → IsPassFor made b e (seen p) × ArePassesFor seen made f rest before
last_pass {P} seen made f es rest e b ps before p is at all even h =
    let t = passes_last seen made f rest before e p even (subst (λ (xs : List P). ArePassesFor seen made f (rest ++ e ∷ []) xs) all (subst (λ (xs : List Entry). ArePassesFor seen made f xs ps) is h)) in
    (subst (λ (n : ℕ). IsPassFor made n e (seen p)) (sym at) t.0, t.1)

pub none_left : (f : ℕ) (es : List Entry) (held others : List Item) → length es ≡ 0 → AreNewest f es held others → held ≡ others
none_left f [] held others none h = h
none_left f (x ∷ es) held others none h = absurd (omega arith)

-- a view that holds what it held after blocks were claimed
pub still_newest : (v u w : View) (f g : ℕ) (es : List Entry) → g ≡ f → HasClaimed v f es u → w.held ≡ u.held → AreNewest g es w.held v.held
still_newest v u w f g es same is held = subst (λ (z : ℕ × List Item). AreNewest z.0 es z.1 v.held) (λ q. (sym same q, sym held q)) (all_newest v u f es is)

pub still_fits : {P : Type 0} (seen : P → PassSeen) (v u w : View) (f g : ℕ) (es : List Entry) (ps : List P) → g ≡ f → HasClaimed v f es u → w.made ≡ u.made → ArePassesFor seen v.made f es ps → ArePassesFor seen w.made g es ps
still_fits seen v u w f g es ps same is made h =
    let old : w.made ≡ v.made = made ∙ all_made v u f es is in
    subst (λ (z : ℕ × Made). ArePassesFor seen z.1 z.0 es ps) (λ q. (sym same q, sym old q)) h

pub few_parts : (v w : View) (f : ℕ) (es : List Entry) → HasClaimed v f es w → w.parts < parts_in w.made → v.parts < parts_in v.made
few_parts v w f es is h = subst (λ (z : ℕ × Made). z.0 < parts_in z.1) (λ q. (all_parts v w f es is q, all_made v w f es is q)) h

pub pass_of : {P : Type 0} (seen : P → PassSeen) (v w : View) (f a b : ℕ) (es : List Entry) (e : Entry) (p : P) → HasClaimed v f es w → a ≡ b → IsPassFor w.made a e (seen p) → IsPassFor v.made b e (seen p)
pass_of seen v w f a b es e p is at h = subst (λ (z : ℕ × Made). IsPassFor z.1 z.0 e (seen p)) (λ q. (at q, all_made v w f es is q)) h
