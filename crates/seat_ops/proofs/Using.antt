-- One use of the book by a seat that holds a run.
use Rattle.std.proofs.Common.{◌≡◌, ℕ, zero, suc, ◌+◌, ◌%◌, ◌^◌, ◌<◌, ◌≤◌, Bool, cond, true, false, ◌==◌, ◌&&◌, if◌then◌else◌, List, [], ◌∷◌, ◌++◌, length, map, slice_set, refl, sym, ap, subst, ◌∙◌, inl, inr, ne_eqb, eq-eqb, arith}
use Rattle.std.proofs.lemmas.Bool.{cases_eq, cases_lt}
use Rattle.key_state.specs.Entries.{IsPending, entry_at, begun, ended}
use Rattle.key_state.specs.declared.entry.Entry.{Entry}
use Rattle.key_state.specs.declared.entry.Entry.TheVariants.{Settled, Pending, Bad}
use Rattle.key_state.specs.declared.seen.BookSeen.{BookSeen}
use Rattle.claim_table.specs.Sums.{Each, total}
use Rattle.claim_table.specs.Views.{at, now_at, synced_at, those, has_ended, has_cleared, has_spoilt, brought, with_loan, given}
use Rattle.claim_table.specs.Books.{Lends, MayGive}
use Rattle.claim_table.specs.Runs.{AreNewest}
use Rattle.claim_table.specs.Seats.{Brings}
use Rattle.claim_table.specs.declared.view.Item.{Item}
use Rattle.claim_table.specs.declared.view.View.{View}
use Rattle.claim_table.proofs.Basics.{at_yes}
use Rattle.block_ops.specs.Runs.{AreNow, AreSafe, HasRun, IsIn, IsLive, IsBegun}
use Rattle.block_ops.specs.Acts.{Acted, ended_among}
use Rattle.seat_ops.specs.Holds.{HoldsRun, UsedAs, UsedBook, falling}

-- What holds of each block's two entries.
abbrev pub Pairs : (Entry → Entry → Type 0) → List Entry → List Entry → Type 0
Pairs P [] now = Unit {0}
Pairs P (e ∷ was) [] = Unit {0}
Pairs P (e ∷ was) (d ∷ now) = P e d × Pairs P was now

pairs_same : (P : Entry → Entry → Type 0) → ((e : Entry) → P e e) → (was : List Entry) → Pairs P was was
pairs_same P h [] = tt
pairs_same P h (e ∷ was) = (h e, pairs_same P h was)

pairs_map : (P : Entry → Entry → Type 0) (Q : Entry → Type 0) (f : Entry → Entry) → ((e : Entry) → Q e → P e (f e)) → (was : List Entry) → Each Q was → Pairs P was (map f was)
pairs_map P Q f h [] each = tt
pairs_map P Q f h (e ∷ was) each = (h e each.0, pairs_map P Q f h was each.1)

pairs_set : (P : Entry → Entry → Type 0) → ((e : Entry) → P e e) → ((e : Entry) → P e Bad) → (was : List Entry) (at : ℕ) → Pairs P was (slice_set was at Bad)
pairs_set P h b [] at = tt
pairs_set P h b (e ∷ was) zero = (b e, pairs_same P h was)
pairs_set P h b (e ∷ was) (suc at) = (h e, pairs_set P h b was at)

abbrev pub Fails : (Entry → Entry → Bool) → Entry → Entry → Type 0
Fails test e d = test e d ≡ false

abbrev pub Passes : (Entry → Entry → Bool) → Entry → Entry → Type 0
Passes test e d = test e d ≡ true

abbrev pub StaysBad : Entry → Entry → Type 0
StaysBad e d = e ≡ Bad → d ≡ Bad

-- the blocks whose entries pass a test, the last one first, before others
abbrev pub picked : (Entry → Entry → Bool) → ℕ → List Entry → List Entry → List ℕ → List ℕ
picked test first [] now rest = rest
picked test first (e ∷ was) [] rest = rest
picked test first (e ∷ was) (d ∷ now) rest = picked test (first + 1) was now (cond (test e d) (first ∷ rest) rest)

none_picked : (test : Entry → Entry → Bool) (first : ℕ) (was now : List Entry) (rest : List ℕ) → Pairs (Fails test) was now → picked test first was now rest ≡ rest
none_picked test first [] now rest h = refl
none_picked test first (e ∷ was) [] rest h = refl
none_picked test first (e ∷ was) (d ∷ now) rest h =
    ap (λ (t : Bool). picked test (first + 1) was now (cond t (first ∷ rest) rest)) h.0 ∙ none_picked test (first + 1) was now rest h.1

falling_more : (first many : ℕ) (rest : List ℕ) → falling first (suc many) ++ rest ≡ falling (first + 1) many ++ (first ∷ rest)
falling_more first zero rest = ap (λ (n : ℕ). n ∷ rest) (omega arith)
falling_more first (suc many) rest =
    let same : first + suc many ≡ first + 1 + many = omega arith in
    ap (λ (n : ℕ). n ∷ (falling first (suc many) ++ rest)) same ∙ ap (λ (l : List ℕ). (first + 1 + many) ∷ l) (falling_more first many rest)

all_picked : (test : Entry → Entry → Bool) (first : ℕ) (was now : List Entry) (rest : List ℕ) → length now ≡ length was → Pairs (Passes test) was now → picked test first was now rest ≡ falling first (length was) ++ rest
all_picked test first [] now rest many h = refl
all_picked test first (e ∷ was) [] rest many h = absurd (omega (arith, many))
all_picked test first (e ∷ was) (d ∷ now) rest many h =
    ap (λ (t : Bool). picked test (first + 1) was now (cond t (first ∷ rest) rest)) h.0
    ∙ all_picked test (first + 1) was now (first ∷ rest) (omega (arith, many)) h.1
    ∙ sym (falling_more first (length was) rest)

long_if : (t : Bool) (b : ℕ) (rest : List ℕ) → length (cond t (b ∷ rest) rest) ≡ cond t 1 0 + length rest
long_if true b rest = omega arith
long_if false b rest = omega arith

length_picked : (first : ℕ) (was now : List Entry) (rest : List ℕ) → length (picked has_ended first was now rest) ≡ ended_among was now + length rest
length_picked first [] now rest = omega arith
length_picked first (e ∷ was) [] rest = omega arith
length_picked first (e ∷ was) (d ∷ now) rest =
    omega (arith, length_picked (first + 1) was now (cond (has_ended e d) (first ∷ rest) rest), long_if (has_ended e d) first rest)

-- What the items of a run have to do with its blocks.
abbrev Own : BookSeen → Item → Type 0
Own book i = now_at book i.block ≡ i.own

owned_now : (book : BookSeen) (first : ℕ) (was : List Entry) (held others : List Item) → AreNewest first was held others → Each (Own book) held → AreNow book first was × Each (Own book) others
owned_now book first [] held others h own = (tt, subst (Each (Own book)) h own)
owned_now book first (e ∷ was) held others h own =
    let t = owned_now book (first + 1) was held (h.0 ∷ others) h.3 own in
    ((ap (now_at book) (sym h.1) ∙ t.1.0 ∙ h.2, t.0), t.1.1)

brought_newest : (book : BookSeen) (first : ℕ) (was now : List Entry) (held others : List Item) → AreNewest first was held others → AreNow book first now → length now ≡ length was → AreNewest first now (map (brought book) held) (map (brought book) others)
brought_newest book first [] [] held others h k many = ap (λ (l : List Item). map (brought book) l) h
brought_newest book first [] (d ∷ now) held others h k many = absurd (omega (arith, many))
brought_newest book first (e ∷ was) [] held others h k many = absurd (omega (arith, many))
brought_newest book first (e ∷ was) (d ∷ now) held others h k many =
    (brought book h.0, h.1, ap (now_at book) h.1 ∙ k.0, brought_newest book (first + 1) was now held (h.0 ∷ others) h.3 k.1 (omega (arith, many)))

those_head : (test : Entry → Entry → Bool) (book : BookSeen) (i : Item) (rest : List ℕ) (b : ℕ) (e d : Entry) → i.block ≡ b → i.own ≡ e → now_at book i.block ≡ d → cond (test i.own (now_at book i.block)) (i.block ∷ rest) rest ≡ cond (test e d) (b ∷ rest) rest
those_head test book i rest b e d at-block own now =
    ap (λ (n : ℕ). cond (test i.own (now_at book i.block)) (n ∷ rest) rest) at-block
    ∙ ap (λ (x : Entry). cond (test x (now_at book i.block)) (b ∷ rest) rest) own
    ∙ ap (λ (x : Entry). cond (test e x) (b ∷ rest) rest) now

those_picked : (test : Entry → Entry → Bool) (book : BookSeen) (first : ℕ) (was now : List Entry) (held others : List Item) → AreNewest first was held others → AreNow book first now → length now ≡ length was → those test book held ≡ picked test first was now (those test book others)
those_picked test book first [] now held others h k many = ap (λ (l : List Item). those test book l) h
those_picked test book first (e ∷ was) [] held others h k many = absurd (omega (arith, many))
those_picked test book first (e ∷ was) (d ∷ now) held others h k many =
    those_picked test book (first + 1) was now held (h.0 ∷ others) h.3 k.1 (omega (arith, many))
    ∙ ap (λ (l : List ℕ). picked test (first + 1) was now l) (those_head test book h.0 (those test book others) first e d h.1 h.2 (ap (now_at book) h.1 ∙ k.0))

total_newest : (block first : ℕ) (was : List Entry) (held others : List Item) → AreNewest first was held others → total (at block) others ≤ total (at block) held
total_newest block first [] held others h = omega (arith, ap (λ (l : List Item). total (at block) l) h)
total_newest block first (e ∷ was) held others h = omega (arith, total_newest block (first + 1) was held (h.0 ∷ others) h.3)

in_held : (block first : ℕ) (was : List Entry) (held others : List Item) → AreNewest first was held others → first ≤ block → block < first + length was → 0 < total (at block) held
in_held block first [] held others h low high = absurd (omega (arith, low, high))
in_held block first (e ∷ was) held others h low high = elim (cases_eq block first) [
  | inl same ↦ omega (arith, total_newest block (first + 1) was held (h.0 ∷ others) h.3, at_yes block h.0 (h.1 ∙ sym same))
  | inr other ↦ in_held block (first + 1) was held (h.0 ∷ others) h.3 (omega (arith, low, other)) (omega (arith, high))
]

-- what holds of the two entries of a block holds of those that two books have
pairs_now : (P : Entry → Entry → Type 0) (lent after : BookSeen) (block first : ℕ) (was now : List Entry) → length now ≡ length was → AreNow lent first was → AreNow after first now → Pairs P was now → first ≤ block → block < first + length was → P (now_at lent block) (now_at after block)
pairs_now P lent after block first [] now many h k p low high = absurd (omega (arith, low, high))
pairs_now P lent after block first (e ∷ was) [] many h k p low high = absurd (omega (arith, many))
pairs_now P lent after block first (e ∷ was) (d ∷ now) many h k p low high = elim (cases_eq block first) [
  | inl same ↦
      let one : P e (now_at after block) = subst (P e) (sym (ap (now_at after) same ∙ k.0)) p.0 in
      subst (λ (x : Entry). P x (now_at after block)) (sym (ap (now_at lent) same ∙ h.0)) one
  | inr other ↦ pairs_now P lent after block (first + 1) was now (omega (arith, many)) h.1 k.1 p.1 (omega (arith, low, other)) (omega (arith, high))
]

safe_items : (book : BookSeen) (first : ℕ) (was : List Entry) (held others : List Item) → AreNewest first was held others → AreSafe book first was
    → Each (λ i. IsPending (now_at book i.block) × (synced_at book i.block ≡ now_at book i.block)) others → Each (λ i. IsPending (now_at book i.block) × (synced_at book i.block ≡ now_at book i.block)) held
safe_items book first [] held others h safe each = subst (Each (λ i. IsPending (now_at book i.block) × (synced_at book i.block ≡ now_at book i.block))) (sym h) each
safe_items book first (e ∷ was) held others h safe each =
    let here : now_at book h.0.block ≡ e = ap (now_at book) h.1 ∙ safe.1 in
    safe_items book (first + 1) was held (h.0 ∷ others) h.3 safe.3 ((subst IsPending (sym here) safe.0, ap (synced_at book) h.1 ∙ safe.2 ∙ sym here), each)

-- What a change of a run's entries ends and makes bad. It clears nothing, and a bad block stays so.
pub record Gentle (was now : List Entry) : Type 0 where
  pub stays : Pairs StaysBad was now
  pub cleared : Pairs (Fails has_cleared) was now

pub record Change (first : ℕ) (was now : List Entry) (ended_blocks bad_blocks : List ℕ) : Type 0 where
  pub gentle : Gentle was now
  pub over : picked has_ended first was now [] ≡ ended_blocks
  pub spoilt : picked has_spoilt first was now [] ≡ bad_blocks

zero_test : (b : Bool) → (((if b then 0 else 1) == 1) && b) ≡ false
zero_test true = refl
zero_test false = refl

same_ended : (e : Entry) → has_ended e e ≡ false
same_ended (Settled key) = refl
same_ended (Pending old new) = refl
same_ended Bad = refl

same_cleared : (e : Entry) → has_cleared e e ≡ false
same_cleared (Settled key) = zero_test (key == 0)
same_cleared (Pending old new) = refl
same_cleared Bad = refl

same_spoilt : (e : Entry) → has_spoilt e e ≡ false
same_spoilt (Settled key) = refl
same_spoilt (Pending old new) = refl
same_spoilt Bad = refl

pub same_change : (first : ℕ) (was : List Entry) → Change first was was [] []
same_change first was = record {
  gentle = record {
    stays = pairs_same StaysBad (λ e h. h) was;
    cleared = pairs_same (Fails has_cleared) same_cleared was;
  };
  over = none_picked has_ended first was was [] (pairs_same (Fails has_ended) same_ended was);
  spoilt = none_picked has_spoilt first was was [] (pairs_same (Fails has_spoilt) same_spoilt was);
}

begun_stays : (e : Entry) → IsLive e → StaysBad e (begun e)
begun_stays e live is = absurd (live is)

begun_ended : (e : Entry) → IsLive e → has_ended e (begun e) ≡ false
begun_ended (Settled key) live = refl
begun_ended (Pending old new) live = refl
begun_ended Bad live = refl

begun_cleared : (e : Entry) → IsLive e → has_cleared e (begun e) ≡ false
begun_cleared (Settled key) live = refl
begun_cleared (Pending old new) live = refl
begun_cleared Bad live = refl

begun_spoilt : (e : Entry) → IsLive e → has_spoilt e (begun e) ≡ false
begun_spoilt (Settled key) live = refl
begun_spoilt (Pending old new) live = refl
begun_spoilt Bad live = refl

pub begun_change : (first : ℕ) (was : List Entry) → Each IsLive was → Change first was (map begun was) [] []
begun_change first was live = record {
  gentle = record {
    stays = pairs_map StaysBad IsLive begun begun_stays was live;
    cleared = pairs_map (Fails has_cleared) IsLive begun begun_cleared was live;
  };
  over = none_picked has_ended first was (map begun was) [] (pairs_map (Fails has_ended) IsLive begun begun_ended was live);
  spoilt = none_picked has_spoilt first was (map begun was) [] (pairs_map (Fails has_spoilt) IsLive begun begun_spoilt was live);
}

ended_stays : (e : Entry) → IsBegun e → StaysBad e (ended e)
ended_stays (Settled key) b is = absurd b
ended_stays (Pending old new) b is = absurd (let no : Pending old new ≡ Bad = is in cc)
ended_stays Bad b is = absurd b

ended_over : (e : Entry) → IsBegun e → has_ended e (ended e) ≡ true
ended_over (Settled key) b = absurd b
ended_over (Pending old new) b = eq-eqb new new refl
ended_over Bad b = absurd b

ended_cleared : (e : Entry) → IsBegun e → has_cleared e (ended e) ≡ false
ended_cleared (Settled key) b = absurd b
ended_cleared (Pending old new) b = ne_eqb new 0 (λ z. omega (arith, b, z))
ended_cleared Bad b = absurd b

ended_spoilt : (e : Entry) → IsBegun e → has_spoilt e (ended e) ≡ false
ended_spoilt (Settled key) b = refl
ended_spoilt (Pending old new) b = refl
ended_spoilt Bad b = refl

many_ended : (was : List Entry) → length (map ended was) ≡ length was
many_ended [] = refl
many_ended (e ∷ was) = omega (arith, many_ended was)

none_behind : (l : List ℕ) → l ++ [] ≡ l
none_behind [] = refl
none_behind (n ∷ l) = ap (λ (t : List ℕ). n ∷ t) (none_behind l)

pub ended_change : (first : ℕ) (was : List Entry) → Each IsBegun was → Change first was (map ended was) (falling first (length was)) []
ended_change first was b = record {
  gentle = record {
    stays = pairs_map StaysBad IsBegun ended ended_stays was b;
    cleared = pairs_map (Fails has_cleared) IsBegun ended ended_cleared was b;
  };
  over = all_picked has_ended first was (map ended was) [] (many_ended was) (pairs_map (Passes has_ended) IsBegun ended ended_over was b) ∙ none_behind (falling first (length was));
  spoilt = none_picked has_spoilt first was (map ended was) [] (pairs_map (Fails has_spoilt) IsBegun ended ended_spoilt was b);
}

bad_ended : (e : Entry) → has_ended e Bad ≡ false
bad_ended (Settled key) = refl
bad_ended (Pending old new) = refl
bad_ended Bad = refl

bad_cleared : (e : Entry) → has_cleared e Bad ≡ false
bad_cleared e = refl

bad_spoilt : (e : Entry) → IsLive e → has_spoilt e Bad ≡ true
bad_spoilt (Settled key) live = refl
bad_spoilt (Pending old new) live = refl
bad_spoilt Bad live = absurd (live refl)

one_spoilt : (first : ℕ) (was : List Entry) (at : ℕ) → at < length was → IsLive (entry_at was at) → picked has_spoilt first was (slice_set was at Bad) [] ≡ (first + at) ∷ []
one_spoilt first [] at inside live = absurd (omega (arith, inside))
one_spoilt first (e ∷ was) zero inside live =
    ap (λ (t : Bool). picked has_spoilt (first + 1) was was (cond t (first ∷ []) [])) (bad_spoilt e live)
    ∙ none_picked has_spoilt (first + 1) was was (first ∷ []) (pairs_same (Fails has_spoilt) same_spoilt was)
    ∙ ap (λ (n : ℕ). n ∷ []) (omega arith)
one_spoilt first (e ∷ was) (suc at) inside live =
    ap (λ (t : Bool). picked has_spoilt (first + 1) was (slice_set was at Bad) (cond t (first ∷ []) [])) (same_spoilt e)
    ∙ one_spoilt (first + 1) was at (omega (arith, inside)) live
    ∙ ap (λ (n : ℕ). n ∷ []) (omega arith)

pub bad_change : (first : ℕ) (was : List Entry) (at : ℕ) → at < length was → IsLive (entry_at was at) → Change first was (slice_set was at Bad) [] ((first + at) ∷ [])
bad_change first was at inside live = record {
  gentle = record {
    stays = pairs_set StaysBad (λ e h. h) (λ e h. refl) was at;
    cleared = pairs_set (Fails has_cleared) same_cleared bad_cleared was at;
  };
  over = none_picked has_ended first was (slice_set was at Bad) [] (pairs_set (Fails has_ended) same_ended bad_ended was at);
  spoilt = one_spoilt first was at inside live;
}

-- A book that is lent to the seat has the run.
pub has_run : (v : View) (first : ℕ) (was : List Entry) (lent : BookSeen) → HoldsRun v first was → Lends v lent → HasRun lent first was
has_run v first was lent holds lends = record {
  within = omega (arith, holds.within, lends.sized);
  each = (owned_now lent first was v.held [] holds.held lends.owned).0;
}

-- The seat may give back what an operation on its run made of the book.
module _ (v : View) (first : ℕ) (was : List Entry) (lent after : BookSeen) (holds : HoldsRun v first was) where
  may_give : (now : List Entry) → Lends v lent → lent.clears < 2 ^ 64 → Acted first was now lent after → Gentle was now → MayGive v.held lent after
  may_give now lends small acted gentle =
      let has : HasRun lent first was = has_run v first was lent holds lends in
      let apart : (block : ℕ) → total (at block) v.held ≡ 0 → IsIn first (length was) block → ⊥ = λ block none inside. absurd (omega (arith, none, in_held block first was v.held [] holds.held inside.0 inside.1)) in
      let over : those has_ended after v.held ≡ picked has_ended first was now [] = those_picked has_ended after first was now v.held [] holds.held acted.mine.each acted.as_many in
      let cleared : those has_cleared after v.held ≡ [] = those_picked has_cleared after first was now v.held [] holds.held acted.mine.each acted.as_many ∙ none_picked has_cleared first was now [] gentle.cleared in
      let many : length (those has_ended after v.held) ≡ ended_among was now = omega (arith, ap (λ (l : List ℕ). length l) over, length_picked first was now []) in
      record {
        follows = acted.follows;
        others = λ block none. acted.others block (apart block none);
        stays = λ block is. elim (cases_lt block first) [
          | inl low ↦ acted.others block (λ inside. absurd (omega (arith, low, inside.0))) ∙ is
          | inr high ↦ elim (cases_lt block (first + length was)) [
            | inl inside ↦ pairs_now StaysBad lent after block first was now acted.as_many has.each acted.mine.each gentle.stays high inside is
            | inr out ↦ acted.others block (λ inside. absurd (omega (arith, out, inside.1))) ∙ is
          ]
        ];
        synced = λ block none. elim acted.synced [
          | inl old ↦ inl (ap (λ (es : List Entry). entry_at es block) old)
          | inr all ↦ inr (ap (λ (es : List Entry). entry_at es block) all)
        ];
        ends = acted.ends ∙ ap (λ (n : ℕ). (lent.ends + n) % 2 ^ 64) (sym many);
        clears = omega (arith, acted.clears, small, ap (λ (l : List ℕ). length l) cleared);
      }

  pub brings : (u : View) (now : List Entry) → u ≡ with_loan v lent → Lends v lent → lent.clears < 2 ^ 64 → Acted first was now lent after → Gentle was now → Brings u after
  brings u now q lends small acted gentle =
      let Goal : View → Type 0 = λ x. Brings x after in
      subst Goal (sym q) (lent, refl, may_give now lends small acted gentle)

-- The seat, to which the book was lent as this, gave it back as that.
module _ (v u w : View) (first : ℕ) (was : List Entry) (lent after : BookSeen) (holds : HoldsRun v first was) where
  is_given : u ≡ with_loan v lent → w ≡ given u after → w ≡ given (with_loan v lent) after
  is_given q r = r ∙ ap (λ (x : View). given x after) q

  pub holds_now : (now : List Entry) → u ≡ with_loan v lent → w ≡ given u after → Acted first was now lent after → HoldsRun w first now
  holds_now now q r acted =
      let Goal : View → Type 0 = λ x. HoldsRun x first now in
      subst Goal (sym (is_given q r)) record {
        held = brought_newest after first was now v.held [] holds.held acted.mine.each acted.as_many;
        loan = refl;
        within = omega (arith, holds.within, acted.as_many);
        valid = acted.valid;
      }

  pub used_book : (now : List Entry) (ended_blocks bad_blocks : List ℕ) → u ≡ with_loan v lent → w ≡ given u after → Acted first was now lent after → Change first was now ended_blocks bad_blocks → UsedBook v w ended_blocks bad_blocks
  used_book now ended_blocks bad_blocks q r acted change =
      let Goal : View → Type 0 = λ x. UsedBook v x ended_blocks bad_blocks in
      let all : (test : Entry → Entry → Bool) → those test after v.held ≡ picked test first was now [] = λ test. those_picked test after first was now v.held [] holds.held acted.mine.each acted.as_many in
      subst Goal (sym (is_given q r)) record {
        mine = refl;
        wrote = ap (λ (l : List ℕ). l ++ v.wrote) (all has_ended ∙ change.over);
        cleared = ap (λ (l : List ℕ). l ++ v.cleared) (all has_cleared ∙ none_picked has_cleared first was now [] change.gentle.cleared);
        spoilt = ap (λ (l : List ℕ). l ++ v.spoilt) (all has_spoilt ∙ change.spoilt);
        gave = (after, refl, refl);
        parts = refl;
        made = refl;
      }

pub safe_now : (first : ℕ) (was : List Entry) (held : List Item) (book : BookSeen) → AreNewest first was held [] → AreSafe book first was → Each (λ i. IsPending (now_at book i.block) × (synced_at book i.block ≡ now_at book i.block)) held
safe_now first was held book h safe = safe_items book first was held [] h safe tt

-- what an operation did to the book between taking and giving it back
pub used_as : (Holds : BookSeen → BookSeen → Type 0) (v u w : View) (lent after : BookSeen) → Lends v lent → u ≡ with_loan v lent → w ≡ given u after → Holds lent after → UsedAs Holds v w
used_as Holds v u w lent after lends q r holds = (lent, after, lends, ap (λ (x : View). x.gave) r ∙ ap (λ (x : View). after ∷ x.gave) q, holds)
