-- Journals in their next epoch, and the hands of their books.
use Rattle.std.proofs.Common.{◌≡◌, ◌∙◌, refl, sym, ap, arith, inr, ℕ, zero, suc, ◌+◌, List, [], ◌∷◌, length, map, Some, slice_get}
use Rattle.std.specs.Prelude.{⊤}
use Rattle.std.specs.List.{range_with_len}
use Rattle.std.proofs.lemmas.Option.{none-some, same_Some}
use Rattle.vd_disk.specs.Disk.{DiskSeen}
use Rattle.vd_yard.specs.Yard.{YardSeen}
use Rattle.plan_types.specs.declared.plan.Plan.{Plan}
use Rattle.plan_types.specs.declared.store.StorePlan.{StorePlan}
use Rattle.key_state.specs.declared.entry.Entry.{Entry}
use Rattle.key_state.specs.declared.seen.BookSeen.{BookSeen}
use Rattle.journal_recover.specs.declared.found.Recovered.{Recovered}
use Rattle.claim_table.specs.Passes.{ArePasses}
use Rattle.claim_table.specs.Sums.{Each}
use Rattle.plan_hands.specs.Stores.{AreStores, IsHandAt, place_of}
use Rattle.plan_journals.specs.Open.{AreOpenedNow, Start}
use Rattle.plan_reopened.specs.Reopening.{AreReady, next_starts}
use Rattle.plan_runs.proofs.Chosen.{all_of_each}
use Rattle.plan_verified.specs.Stores.{StoreSeen, passes_of}
use Rattle.plan_resumed.specs.Seating.{ArePassed, seated_from, with_passes}

pub passed_long : (stores : List StorePlan) (left : List StoreSeen) → ArePassed stores left → length left ≡ length stores
passed_long [] [] passed = refl
passed_long [] (l ∷ left) passed = absurd passed
passed_long (store ∷ stores) [] passed = absurd passed
passed_long (store ∷ stores) (l ∷ left) passed = let rest = passed_long stores left passed.1 in omega (arith, rest)

pub long_starts : (stores : List StorePlan) (found : List Recovered) (settled : List (List Entry)) → length found ≡ length stores → length settled ≡ length stores → length (next_starts stores found settled) ≡ length stores
long_starts [] found settled f s = refl
long_starts (store ∷ stores) [] settled f s = absurd (omega (arith, f))
long_starts (store ∷ stores) (one ∷ found) [] f s = absurd (omega (arith, s))
long_starts (store ∷ stores) (one ∷ found) (entries ∷ settled) f s = let rest = long_starts stores found settled (omega (arith, f)) (omega (arith, s)) in omega (arith, rest)

-- The journal that is opened at a place is that of the store at that place.
pub start_at : (stores : List StorePlan) (found : List Recovered) (settled : List (List Entry)) (place : ℕ) (start : Start) → slice_get (next_starts stores found settled) place ≡ Some start → (store : StorePlan) × (slice_get stores place ≡ Some store) × (start.journal ≡ store.journal)
start_at [] found settled place start at = absurd (none-some start at)
start_at (store ∷ stores) [] settled place start at = absurd (none-some start at)
start_at (store ∷ stores) (one ∷ found) [] place start at = absurd (none-some start at)
start_at (store ∷ stores) (one ∷ found) (entries ∷ settled) zero start at = (store, refl, sym (ap (λ (s : Start). s.journal) (same_Some _ start at)))
start_at (store ∷ stores) (one ∷ found) (entries ∷ settled) (suc place) start at = start_at stores found settled place start at

-- Each book has an entry for each block of its store.
AreSized : List StorePlan → List BookSeen → Type 0
AreSized [] [] = ⊤
AreSized (store ∷ stores) (b ∷ books) = (length b.now ≡ store.id.geometry.blocks) × AreSized stores books
AreSized stores books = ⊥

sized : (yard : YardSeen) (stores : List StorePlan) (disks : List DiskSeen) (found : List Recovered) (settled : List (List Entry)) (books : List BookSeen) → AreReady stores disks found settled → AreOpenedNow yard (next_starts stores found settled) books → length books ≡ length stores → AreSized stores books
unfolding AreSized
sized yard [] disks found settled [] ready opened many = tt
sized yard [] disks found settled (b ∷ books) ready opened many = absurd (omega (arith, many))
sized yard (store ∷ stores) disks found settled [] ready opened many = absurd (omega (arith, many))
sized yard (store ∷ stores) (disk ∷ disks) (one ∷ found) (entries ∷ settled) (b ∷ books) ready opened many =
    (ap length opened.0.fresh.now ∙ ready.0.its_entries.one_each, sized yard stores disks found settled books ready.1 opened.1 (omega (arith, many)))
sized yard (store ∷ stores) [] found settled (b ∷ books) ready opened many = absurd ready
sized yard (store ∷ stores) (disk ∷ disks) [] settled (b ∷ books) ready opened many = absurd ready
sized yard (store ∷ stores) (disk ∷ disks) (one ∷ found) [] (b ∷ books) ready opened many = absurd ready

module _ (plan : Plan) where
  numbered : (n : ℕ) (stores : List StorePlan) (left : List StoreSeen) (books : List BookSeen) → ArePassed stores left → AreSized stores books → ((i : ℕ) (store : StorePlan) → slice_get stores i ≡ Some store → slice_get plan.stores (n + i) ≡ Some store)
      → (map place_of (seated_from n left books) ≡ range_with_len n (length stores)) × Each (IsHandAt plan) (seated_from n left books)
  unfolding AreSized
  numbered n [] [] [] passed long at = (refl, tt)
  numbered n [] [] (b ∷ books) passed long at = absurd long
  numbered n [] (l ∷ left) books passed long at = absurd passed
  numbered n (store ∷ stores) [] books passed long at = absurd passed
  numbered n (store ∷ stores) (l ∷ left) [] passed long at = absurd long
  numbered n (store ∷ stores) (l ∷ left) (b ∷ books) passed long at =
      let same : n ≡ n + 0 = omega arith in
      let first : slice_get plan.stores n ≡ Some store = ap (λ (k : ℕ). slice_get plan.stores k) same ∙ at 0 store refl in
      let passes : ArePasses store.id (passes_of l) = record {
        many = passed.0.as_many;
        each = λ block pass is. (passed.0.blocks block pass is, passed.0.sizes block pass is);
      } in
      let rest = numbered (n + 1) stores left books passed.1 long.1 (λ i other is. let next : n + 1 + i ≡ n + suc i = omega arith in ap (λ (k : ℕ). slice_get plan.stores k) next ∙ at (suc i) other is) in
      (ap (λ (l : List ℕ). n ∷ l) rest.0, (record { its = (store, first, (inr passes, long.0)) }, rest.1))

  -- The passes and the books of all stores, in their hands.
  pub are_seated : (yard : YardSeen) (disks : List DiskSeen) (found : List Recovered) (settled : List (List Entry)) (left : List StoreSeen) (books : List BookSeen) → ArePassed plan.stores left → AreReady plan.stores disks found settled → AreOpenedNow yard (next_starts plan.stores found settled) books → length books ≡ length plan.stores
      → AreStores plan (with_passes left books)
  are_seated yard disks found settled left books passed ready opened many =
      let all = numbered 0 plan.stores left books passed (sized yard plan.stores disks found settled books ready opened many) (λ i store is. let same : 0 + i ≡ i = omega arith in ap (λ (k : ℕ). slice_get plan.stores k) same ∙ is) in
      record { places = all.0; each = all_of_each (IsHandAt plan) (seated_from 0 left books) all.1 }
