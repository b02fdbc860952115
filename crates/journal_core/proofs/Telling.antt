-- What images show of the story, as a disk goes on.
use Rattle.std.proofs.Common.{◌≡◌, ◌⊎◌, inl, inr, ⊎_elim, ℕ, zero, suc, ◌+◌, ◌-◌, ◌<◌, ◌≤◌, List, [], ◌∷◌, ◌++◌, length, take, Contains, slice_get, Option, Some, get_or, refl, sym, ap, ◌∙◌, subst, arith, length-take}
use Rattle.std.proofs.lemmas.List.{length_push, get_or_append_left, get_or_push}
use Rattle.std.proofs.lemmas.Bool.{cases_lt}
use Rattle.key_state.specs.declared.record.Record.{Record}
use Rattle.key_state.specs.Entries.{states}
use Rattle.journal_layout.specs.declared.live.Live.{Live}
use Rattle.journal_layout.specs.Recovery.{Sectors, Outcome, NoJournal, Mismatch, Damaged, Recovers}
use Rattle.journal_layout.proofs.OneOutcome.{gives_once}
use Rattle.vd_disk.specs.Disk.{Table, IsImage, IsImageAt, Extends, present, sector_at}
use Rattle.journal_core.specs.Changes.{table_at, row, Tables}
use Rattle.journal_core.specs.Parts.{AllFit}
use Rattle.journal_core.specs.Chapters.{Chapter, epoch_after, Shows, IsBefore, IsNoWorse, Tells}
use Rattle.journal_core.proofs.Changes.{table_before, extends_longer}

abbrev epoch_in : Outcome → ℕ
epoch_in (Recovers live records entries) = live.epoch
epoch_in NoJournal = 0
epoch_in (Mismatch found) = 0
epoch_in (Damaged sector what at) = 0

abbrev records_in : Outcome → List Record
records_in (Recovers live records entries) = records
records_in NoJournal = []
records_in (Mismatch found) = []
records_in (Damaged sector what at) = []

some_same : {X : Type 0} (a b : X) → ◌≡◌ {A = Option X} (Some a) (Some b) → a ≡ b
some_same a b e = cc

-- An image shows one place of the story.
pub shows_once : (first : Live) (story : List Chapter) (image : Sectors) (i n j k : ℕ) → Shows first story image i n → Shows first story image j k → (i ≡ j) × (n ≡ k)
shows_once first story image i n j k a b =
    let one = gives_once image first.id (Recovers (epoch_after first i) (take n a.0.past) (states a.0.base (take n a.0.past)))
    (Recovers (epoch_after first j) (take k b.0.past) (states b.0.base (take k b.0.past))) a.1.gives b.1.gives in
    let epochs : first.epoch + i ≡ first.epoch + j = ap epoch_in one in
    let place : i ≡ j = omega (arith, epochs) in
    let chapters : a.0 ≡ b.0 = some_same a.0 b.0 (sym a.1.is ∙ ap (slice_get story) place ∙ b.1.is) in
    let records : take n a.0.past ≡ take k b.0.past = ap records_in one in
    let long = ap (λ (l : List Record). length l) records in
    let few_b = b.1.few in
    (place, omega (arith, long, a.1.few, few_b, length-take n a.0.past, length-take k b.0.past))

pub before_then : (i n j k l m : ℕ) → IsBefore i n j k → IsBefore j k l m → IsBefore i n l m
before_then i n j k l m (inl a) (inl b) = inl (omega (arith, a, b))
before_then i n j k l m (inl a) (inr b) = inl (omega (arith, a, b.0))
before_then i n j k l m (inr a) (inl b) = inl (omega (arith, a.0, b))
before_then i n j k l m (inr a) (inr b) = inr (omega (arith, a.0, b.0), omega (arith, a.1, b.1))

pub no_worse_then : (first : Live) (story : List Chapter) (x y z : Sectors) → IsNoWorse first story x y → IsNoWorse first story y z → IsNoWorse first story x z
no_worse_then first story x y z a b =
    let same = shows_once first story y a.2 a.3 b.0 b.1 a.5 b.4 in
    let mid : IsBefore a.0 a.1 b.0 b.1 = subst (λ n. IsBefore a.0 a.1 b.0 n) same.1 (subst (λ n. IsBefore a.0 a.1 n a.3) same.0 a.6) in
    (a.0, a.1, b.2, b.3, a.4, b.5, before_then a.0 a.1 b.0 b.1 b.2 b.3 mid b.6)

-- one choice for each number below n
choose : (R : ℕ → List ℕ → Type 0) (n : ℕ) → ((i : ℕ) → i < n → (c : List ℕ) × R i c) → (xs : Sectors) × (length xs ≡ n) × ((i : ℕ) → i < n → R i (get_or xs i []))
choose R zero all = ([], refl, λ i inside. absurd (omega (arith, inside)))
choose R (suc n) all =
    let rest = choose R n (λ i inside. all i (omega (arith, inside))) in
    let last = all n (omega arith) in (
      rest.0 ++ last.0 ∷ [],
      omega (arith, length_push rest.0 last.0, rest.1),
      λ i inside. elim (cases_lt i n) [
        | inl before ↦ subst (R i) (sym (get_or_append_left rest.0 (last.0 ∷ []) [] i (omega (arith, before, rest.1)))) (rest.2 i before)
        | inr late ↦
            let same : n ≡ i = omega (arith, late, inside) in
            let is : last.0 ≡ get_or (rest.0 ++ last.0 ∷ []) i [] = sym (ap (λ k. get_or (rest.0 ++ last.0 ∷ []) k []) (sym same) ∙ get_or_push rest.0 last.0 [] n rest.1) in
            subst (R i) is (subst (λ k. R k last.0) same last.1)
      ],
    )

pub image_before : (old new : List Table) (m : ℕ) (image : Sectors) → Extends old new → m < length old → IsImageAt new m image → IsImageAt old m image
image_before old new m image extends before at = record { reached = before; left = subst (λ (t : Table). IsImage t image) (table_before old new m extends before) at.left }

pub image_after : (old new : List Table) (m : ℕ) (image : Sectors) → Extends old new → IsImageAt old m image → IsImageAt new m image
image_after old new m image extends at = record {
  reached = omega (arith, at.reached, extends_longer old new extends);
  left = subst (λ (t : Table). IsImage t image) (sym (table_before old new m extends at.reached)) at.left;
}

module _ (Q : ℕ → List ℕ → Type 0) (old new : List Table) (size : ℕ) (extends : Extends old new) (some : 0 < length old) (tables : Tables Q (length old) size new) where
  -- each content of an image of a later moment was left before, or was written
  pub from_present : (m : ℕ) (image : Sectors) → length old ≤ m + 1 → IsImageAt new m image → (length image ≡ size)
      × ((i : ℕ) → i < size → Contains (row (present old) i) (sector_at image i) ⊎ Q i (sector_at image i))
  from_present m image since at =
      let sized : length (table_at new m) ≡ size = tables.sizes m since at.reached in
      let last = length old - 1 in
      let same : table_at new last ≡ present old = table_before old new last extends (omega (arith, some)) in (
        at.left.size ∙ sized,
        λ i inside.
            let has : Contains (row (table_at new m) i) (sector_at image i) = at.left.each i (omega (arith, inside, sized)) in
            subst (λ (t : Table). Contains (row t i) (sector_at image i) ⊎ Q i (sector_at image i)) same
            (tables.rows last m i (sector_at image i) (omega (arith, some)) (omega (arith, since)) at.reached inside has),
      )

  -- an image of an earlier moment from which it comes
  pub comes_from : (m n : ℕ) (image : Sectors) → length old ≤ m + 1 → m ≤ n → IsImageAt new n image
      → (earlier : Sectors) × IsImageAt new m earlier × ((i : ℕ) → i < size → (sector_at image i ≡ sector_at earlier i) ⊎ Q i (sector_at image i))
  comes_from m n image since order at =
      let there : m < length new = omega (arith, order, at.reached) in
      let sized_n : length (table_at new n) ≡ size = tables.sizes n (omega (arith, since, order)) at.reached in
      let sized_m : length (table_at new m) ≡ size = tables.sizes m since there in
      let filled = tables.filled m since there in
      let pick : (i : ℕ) → i < size → (c : List ℕ) × (Contains (row (table_at new m) i) c × ((sector_at image i ≡ c) ⊎ Q i (sector_at image i))) = λ i inside.
      ⊎_elim
      (λ was. (sector_at image i, (was, inl refl)))
      (λ put. (sector_at filled.0 i, (filled.1.each i (omega (arith, inside, sized_m)), inr put)))
      (tables.rows m n i (sector_at image i) since order at.reached inside (at.left.each i (omega (arith, inside, sized_n)))) in
      let made = choose (λ i c. Contains (row (table_at new m) i) c × ((sector_at image i ≡ c) ⊎ Q i (sector_at image i))) size pick in (
        made.0,
        record { reached = there; left = record { size = made.1 ∙ sym sized_m; each = λ i inside. (made.2 i (omega (arith, inside, sized_m))).0 } },
        λ i inside. (made.2 i inside).1,
      )

-- A disk goes on by contents that fit, and none that loses records.
module _ (first : Live) (story : List Chapter) (P Q : ℕ → List ℕ → Type 0) (old new : List Table) (size start : ℕ) (extends : Extends old new) (tables : Tables Q (length old) size new)
    (fits : (i : ℕ) (content : List ℕ) → i < size → Contains (row (present old) i) content → P i content)
    (more : (i : ℕ) (content : List ℕ) → Q i content → P i content)
    (shows : (image : Sectors) → length image ≡ size → AllFit P image → (i : ℕ) × (n : ℕ) × Shows first story image i n)
    (worse : (a b : Sectors) → length a ≡ size → length b ≡ size → AllFit P a → AllFit P b
    → ((i : ℕ) → i < size → (sector_at b i ≡ sector_at a i) ⊎ Q i (sector_at b i)) → IsNoWorse first story a b) where
  image_fits : 0 < length old → (m : ℕ) (image : Sectors) → length old ≤ m + 1 → IsImageAt new m image → (length image ≡ size) × AllFit P image
  image_fits some m image since at =
      let from = from_present Q old new size extends some tables m image since at in
      (from.0, λ i inside. let below : i < size = omega (arith, inside, from.0) in ⊎_elim (λ was. fits i (sector_at image i) below was) (λ put. more i (sector_at image i) put) (from.1 i below))

  pub tells_changed : Tells first story old start → Tells first story new start
  tells_changed tells =
      let some : 0 < length old = omega (arith, tells.begun) in
      let longer = extends_longer old new extends in
      record {
        begun = omega (arith, tells.begun, longer);
        shown = λ m image later at. elim (cases_lt m (length old)) [
          | inl before ↦ tells.shown m image later (image_before old new m image extends before at)
          | inr late ↦ let fit = image_fits some m image (omega (arith, late)) at in shows image fit.0 fit.1
        ];
        grows = λ m n image later order at. elim (cases_lt n (length old)) [
          | inl before ↦
              let was = tells.grows m n image later order (image_before old new n image extends before at) in
              (was.0, image_after old new m was.0 extends was.1, was.2)
          | inr late ↦
              let here = image_fits some n image (omega (arith, late)) at in
              elim (cases_lt m (length old)) [
                | inr now ↦
                    let from = comes_from Q old new size extends some tables m n image (omega (arith, now)) order at in
                    let there = image_fits some m from.0 (omega (arith, now)) from.1 in
                    (from.0, from.1, worse from.0 image there.0 here.0 there.1 here.1 from.2)
                | inl before ↦
                    let last = length old - 1 in
                    let since : length old ≤ last + 1 = omega (arith, some) in
                    let from = comes_from Q old new size extends some tables last n image since (omega (arith, late)) at in
                    let there = image_fits some last from.0 since from.1 in
                    let was = tells.grows m last from.0 later (omega (arith, before)) (image_before old new last from.0 extends (omega (arith, some)) from.1) in
                    (was.0, image_after old new m was.0 extends was.1, no_worse_then first story was.0 from.0 image was.2 (worse from.0 image there.0 here.0 there.1 here.1 from.2))
              ]
        ];
      }
