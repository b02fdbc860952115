-- The hands of verified stores and of recovered journals, by their place.
use Rattle.std.proofs.Common.{◌≡◌, ◌∙◌, refl, sym, ap, subst, arith, ℕ, zero, suc, ◌+◌, List, [], ◌∷◌, length, map}
use Rattle.std.specs.Prelude.{Some, slice_get}
use Rattle.std.proofs.lemmas.Option.{none-some, same_Some}
use Rattle.vd_disk.specs.Disk.{DiskSeen}
use Rattle.vd_yard.specs.Yard.{YardSeen}
use Rattle.plan_types.specs.declared.store.StorePlan.{StorePlan}
use Rattle.key_state.specs.declared.entry.Entry.{Entry}
use Rattle.key_state.specs.declared.seen.BookSeen.{BookSeen}
use Rattle.slave_worker.specs.Hands.{HandSeen}
use Rattle.journal_recover.specs.declared.found.Recovered.{Recovered}
use Rattle.recover_run.specs.declared.look.Look.{Look}
use Rattle.still_plan.specs.Journals.{RecoversTo}
use Rattle.plan_journals.specs.Open.{AreOpenedNow, AreStartsOf, Start}
use Rattle.plan_reopened.specs.Recovering.{AreRecovered}
use Rattle.plan_reopened.specs.Reopening.{next_starts}
use Rattle.plan_verified.specs.Stores.{LeavesStore, LeaveStores, StoreSeen, passes_of, settled_of}
use Rattle.plan_journaled.specs.Over.{books_of}
use Rattle.plan_resumed.specs.Seating.{seated_from}

-- a hand with the passes of a store and its book
pub record SeatAt (left : List StoreSeen) (books : List BookSeen) (i place : ℕ) (hand : HandSeen) : Type 0 where
  pub one : StoreSeen
  pub book : BookSeen
  pub its_store : slice_get left i ≡ Some one
  pub its_book : slice_get books i ≡ Some book
  pub is : hand ≡ (place, passes_of one, book)

pub seat_at : (n : ℕ) (left : List StoreSeen) (books : List BookSeen) (i : ℕ) (hand : HandSeen) → slice_get (seated_from n left books) i ≡ Some hand → SeatAt left books i (n + i) hand
seat_at n [] books i hand at = absurd (none-some hand at)
seat_at n (x ∷ left) [] i hand at = absurd (none-some hand at)
seat_at n (x ∷ left) (b ∷ books) zero hand at =
    let same : (n, passes_of x, b) ≡ hand = same_Some (n, passes_of x, b) hand at in
    let here : n ≡ n + 0 = omega arith in
    record { one = x; book = b; its_store = refl; its_book = refl; is = sym same ∙ ap (λ (k : ℕ). (k, passes_of x, b)) here }
seat_at n (x ∷ left) (b ∷ books) (suc i) hand at =
    let rest = seat_at (n + 1) left books i hand at in
    let here : n + 1 + i ≡ n + suc i = omega arith in
    record { one = rest.one; book = rest.book; its_store = rest.its_store; its_book = rest.its_book; is = rest.is ∙ ap (λ (k : ℕ). (k, passes_of rest.one, rest.book)) here }

pub seated_books : (n : ℕ) (left : List StoreSeen) (books : List BookSeen) → length left ≡ length books → books_of (seated_from n left books) ≡ books
seated_books n [] [] many = refl
seated_books n [] (b ∷ books) many = absurd (omega (arith, many))
seated_books n (x ∷ left) [] many = absurd (omega (arith, many))
seated_books n (x ∷ left) (b ∷ books) many = ap (λ (l : List BookSeen). b ∷ l) (seated_books (n + 1) left books (omega (arith, many)))

-- There are as many books as verified stores.
left_long : (old new : YardSeen) (stores : List StorePlan) (found : List Recovered) (seen : List (List Look)) (left : List StoreSeen) → LeaveStores old new stores found seen left → length (next_starts stores found (map settled_of left)) ≡ length left
left_long old new [] [] [] [] leaves = refl
left_long old new (store ∷ stores) (one ∷ found) (looks ∷ seen) (l ∷ left) leaves = let rest = left_long old new stores found seen left leaves.1 in omega (arith, rest)
left_long old new [] [] [] (l ∷ left) leaves = absurd leaves
left_long old new [] [] (looks ∷ seen) left leaves = absurd leaves
left_long old new [] (one ∷ found) seen left leaves = absurd leaves
left_long old new (store ∷ stores) [] seen left leaves = absurd leaves
left_long old new (store ∷ stores) (one ∷ found) [] left leaves = absurd leaves
left_long old new (store ∷ stores) (one ∷ found) (looks ∷ seen) [] leaves = absurd leaves

pub long_left : (old new : YardSeen) (stores : List StorePlan) (found : List Recovered) (seen : List (List Look)) (left : List StoreSeen) (starts : List Start) (books : List BookSeen) → LeaveStores old new stores found seen left → starts ≡ next_starts stores found (map settled_of left) → length books ≡ length starts → length left ≡ length books
long_left old new stores found seen left starts books leaves is many = omega (arith, left_long old new stores found seen left leaves, ap length is, many)

-- A book that was opened just now has the entries with which its journal was opened.
pub now_at : (yard : YardSeen) (stores : List StorePlan) (found : List Recovered) (settled : List (List Entry)) (books : List BookSeen) → AreOpenedNow yard (next_starts stores found settled) books
    → (i : ℕ) (entries : List Entry) (book : BookSeen) → slice_get settled i ≡ Some entries → slice_get books i ≡ Some book → book.now ≡ entries
now_at yard stores found settled [] opened i entries book at there = absurd (none-some book there)
now_at yard [] found settled (b ∷ books) opened i entries book at there = absurd opened
now_at yard (store ∷ stores) [] settled (b ∷ books) opened i entries book at there = absurd opened
now_at yard (store ∷ stores) (one ∷ found) [] (b ∷ books) opened i entries book at there = absurd opened
now_at yard (store ∷ stores) (one ∷ found) (e ∷ settled) (b ∷ books) opened zero entries book at there =
    ap (λ (x : BookSeen). x.now) (sym (same_Some b book there)) ∙ opened.0.fresh.now ∙ same_Some e entries at
now_at yard (store ∷ stores) (one ∷ found) (e ∷ settled) (b ∷ books) opened (suc i) entries book at there = now_at yard stores found settled books opened.1 i entries book at there

-- These starts are those of the stores' journals.
pub are_starts : (stores : List StorePlan) (found : List Recovered) (settled : List (List Entry)) (old new : YardSeen) (seen : List (List Look)) (left : List StoreSeen) → LeaveStores old new stores found seen left → settled ≡ map settled_of left → AreStartsOf stores (next_starts stores found settled)
are_starts stores found settled old new seen left leaves is =
    subst (λ (l : List (List Entry)). AreStartsOf stores (next_starts stores found l)) (sym is) (by stores found seen left leaves)
  where
    by : (stores : List StorePlan) (found : List Recovered) (seen : List (List Look)) (left : List StoreSeen) → LeaveStores old new stores found seen left → AreStartsOf stores (next_starts stores found (map settled_of left))
    by [] [] [] [] leaves = tt
    by (store ∷ stores) (one ∷ found) (looks ∷ seen) (l ∷ left) leaves = (record { its_path = refl; its_id = refl }, by stores found seen left leaves.1)
    by [] [] [] (l ∷ left) leaves = absurd leaves
    by [] [] (looks ∷ seen) left leaves = absurd leaves
    by [] (one ∷ found) seen left leaves = absurd leaves
    by (store ∷ stores) [] seen left leaves = absurd leaves
    by (store ∷ stores) (one ∷ found) [] left leaves = absurd leaves
    by (store ∷ stores) (one ∷ found) (looks ∷ seen) [] leaves = absurd leaves

-- What looks left of the store at a place, and what its journal gave.
pub record LeftAt (old new : YardSeen) (found : List Recovered) (i : ℕ) (store : StorePlan) (left : StoreSeen) : Type 0 where
  pub here : Recovered
  pub its_own : slice_get found i ≡ Some here
  pub looks : List Look
  pub leaves : LeavesStore old new store here looks left

pub left_at : (old new : YardSeen) (stores : List StorePlan) (found : List Recovered) (seen : List (List Look)) (left : List StoreSeen) → LeaveStores old new stores found seen left
    → (i : ℕ) (store : StorePlan) (one : StoreSeen) → slice_get stores i ≡ Some store → slice_get left i ≡ Some one → LeftAt old new found i store one
left_at old new [] found seen left leaves i store one at there = absurd (none-some store at)
left_at old new (x ∷ stores) found seen [] leaves i store one at there = absurd (none-some one there)
left_at old new (x ∷ stores) [] seen (l ∷ left) leaves i store one at there = absurd leaves
left_at old new (x ∷ stores) (f ∷ found) [] (l ∷ left) leaves i store one at there = absurd leaves
left_at old new (x ∷ stores) (f ∷ found) (looks ∷ seen) (l ∷ left) leaves zero store one at there =
    let first : LeavesStore old new store f looks l = subst (λ (s : StorePlan). LeavesStore old new s f looks l) (same_Some x store at) leaves.0 in
    record { here = f; its_own = refl; looks = looks; leaves = subst (λ (s : StoreSeen). LeavesStore old new store f looks s) (same_Some l one there) first }
left_at old new (x ∷ stores) (f ∷ found) (looks ∷ seen) (l ∷ left) leaves (suc i) store one at there =
    let rest = left_at old new stores found seen left leaves.1 i store one at there in
    record { here = rest.here; its_own = rest.its_own; looks = rest.looks; leaves = rest.leaves }

pub recovered_at : (yard : YardSeen) (stores : List StorePlan) (disks : List DiskSeen) (found : List Recovered) → AreRecovered yard stores disks found
    → (i : ℕ) (store : StorePlan) (here : Recovered) → slice_get stores i ≡ Some store → slice_get found i ≡ Some here → RecoversTo yard store here
recovered_at yard [] disks found all i store here at there = absurd (none-some store at)
recovered_at yard (x ∷ stores) disks [] all i store here at there = absurd (none-some here there)
recovered_at yard (x ∷ stores) [] (f ∷ found) all i store here at there = absurd all
recovered_at yard (x ∷ stores) (disk ∷ disks) (f ∷ found) all zero store here at there =
    subst (λ (r : Recovered). RecoversTo yard store r) (same_Some f here there) (subst (λ (s : StorePlan). RecoversTo yard s f) (same_Some x store at) all.0.recovers)
recovered_at yard (x ∷ stores) (disk ∷ disks) (f ∷ found) all (suc i) store here at there = recovered_at yard stores disks found all.1 i store here at there
