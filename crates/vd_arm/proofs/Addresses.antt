-- Sectors that carry addresses.
use Rattle.std.proofs.Common.{zero, suc, ◌≡◌, ℕ, ◌+◌, ◌-◌, ◌*◌, ◌/◌, ◌%◌, ◌^◌, ◌<◌, ◌≤◌, List, [], ◌∷◌, ◌++◌, length, take, drop, map, Some, refl, sym, ◌∙◌, ap, subst, arith}
use Rattle.std.specs.Prelude.{slice_get, slice_range}
use Rattle.std.specs.Int.{to_be_bytes, w64}
use Rattle.std.proofs.lemmas.List.{drop-drop, take_at, drop_at, length-append, length-map}
use Rattle.vd_arm.specs.Arm.{PassSeen}
use Rattle.vd_arm.specs.Addressed.{addressed}
use Rattle.vd_arm.specs.Held.{AreSized}
use Rattle.vd_arm.specs.LiarArm.{TookAddresses}
use Rattle.vd_arm.specs.Transfers.{EachTold, IsTransfer, SameBlocks, part_of, sector_in}
use Rattle.vd_arm.proofs.Parts.{each_told_cons, each_told_weaker, first_wide, from_map, part_first, part_next, rest_wide, transfer_wide}

width : (j : ℕ) → (512 * j + 512) - 512 * j ≡ 512
width j = omega arith

sector_is : (bytes : List ℕ) (j : ℕ) → sector_in bytes j ≡ take 512 (drop (512 * j) bytes)
sector_is bytes j = ap (λ n. take n (drop (512 * j) bytes)) (width j)

sector_first : (front rest : List ℕ) → length front ≡ 512 → sector_in (front ++ rest) 0 ≡ front
sector_first front rest long = sector_is (front ++ rest) 0 ∙ take_at front rest 512 long

sector_next : (front rest : List ℕ) (j : ℕ) → length front ≡ 512 → sector_in (front ++ rest) (suc j) ≡ sector_in rest j
sector_next front rest j long =
    let place : 512 * suc j ≡ 512 + 512 * j = omega arith in
    sector_is (front ++ rest) (suc j)
    ∙ ap (λ n. take 512 (drop n (front ++ rest))) place
    ∙ ap (λ (l : List ℕ). take 512 l) (sym (drop-drop (512 * j) 512 (front ++ rest)))
    ∙ ap (λ (l : List ℕ). take 512 (drop (512 * j) l)) (drop_at front rest 512 long)
    ∙ sym (sector_is rest j)

-- the addresses of the sectors behind the first
next_address : (address j : ℕ) → ((address + 512) % 2 ^ 64 + 512 * j) % 2 ^ 64 ≡ (address + 512 * suc j) % 2 ^ 64
next_address address j =
    let place : 512 * suc j ≡ 512 + 512 * j = omega arith in
    omega arith

first_address : (address : ℕ) → address < 2 ^ 64 → (address + 512 * 0) % 2 ^ 64 ≡ address
first_address address fits = omega arith

pub addressed_cons : (sector new rest new_rest : List ℕ) (address next : ℕ) → address < 2 ^ 64 → length sector ≡ 512 → length new ≡ 512
    → new ≡ to_be_bytes w64 address ++ drop 8 sector → next ≡ (address + 512) % 2 ^ 64
    → ((j : ℕ) → j < length rest / 512 → sector_in new_rest j ≡ addressed (next + 512 * j) (sector_in rest j))
    → (j : ℕ) → j < length (sector ++ rest) / 512 → sector_in (new ++ new_rest) j ≡ addressed (address + 512 * j) (sector_in (sector ++ rest) j)
addressed_cons sector new rest new_rest address next fits long new_long is follows there zero inside =
    sector_first new new_rest new_long
    ∙ is
    ∙ ap (λ n. to_be_bytes w64 n ++ drop 8 sector) (sym (first_address address fits))
    ∙ ap (λ (l : List ℕ). addressed (address + 512 * 0) l) (sym (sector_first sector rest long))
addressed_cons sector new rest new_rest address next fits long new_long is follows there (suc j) inside =
    let within : j < length rest / 512 = omega (arith, length-append sector rest) in
    sector_next new new_rest j new_long
    ∙ there j within
    ∙ ap (λ n. addressed (n + 512 * j) (sector_in rest j)) follows
    ∙ ap (λ n. to_be_bytes w64 n ++ drop 8 (sector_in rest j)) (next_address address j)
    ∙ ap (λ (l : List ℕ). addressed (address + 512 * suc j) l) (sym (sector_next sector rest j long))

addressed_same : (a b : ℕ) (s t : List ℕ) → a % 2 ^ 64 ≡ b % 2 ^ 64 → s ≡ t → addressed a s ≡ addressed b t
addressed_same a b s t same sectors = ap (λ n. to_be_bytes w64 n ++ drop 8 s) same ∙ ap (λ (l : List ℕ). addressed b l) sectors

begun_at : (place other size j : ℕ) → place ≡ other * size % 2 ^ 64 → (place + 512 * j) % 2 ^ 64 ≡ ((other + 0) * size + 512 * j) % 2 ^ 64
begun_at place other size j is =
    let none : (other + 0) * size ≡ other * size = ap (λ n. n * size) (omega arith) in
    omega arith

gone_on : (other i size j : ℕ) → (other + 1 + i) * size + 512 * j ≡ (other + suc i) * size + 512 * j
gone_on other i size j = ap (λ n. n * size + 512 * j) (omega arith)

pub addresses_step : {P : Type 0} (seen : P → PassSeen) (size other place : ℕ) (bytes part now : List ℕ) (xs rest : List P) (x : P) (q : PassSeen) (qs : List PassSeen)
    → xs ≡ x ∷ rest → AreSized size (map seen xs) → q.told ≡ Some now → part ≡ take size bytes → length part ≡ size → place ≡ other * size % 2 ^ 64
    → ((j : ℕ) → j < length part / 512 → sector_in now j ≡ addressed (place + 512 * j) (sector_in part j))
    → TookAddresses (other + 1) (drop size bytes) (map seen rest) qs → TookAddresses other bytes (map seen xs) (q ∷ qs)
addresses_step {P} seen size other place bytes part now xs rest x q qs is sized told front long begun each there =
    subst (λ (l : List P). TookAddresses other bytes (map seen l) (q ∷ qs)) (sym is)
    (each_told_cons Here (seen x) q (map seen rest) qs
    (λ (was : List ℕ) (holds : (seen x).told ≡ Some was). (now, told, first))
    (each_told_weaker Rest (λ i. Here (suc i)) (map seen rest) qs next there))
  where
    Here : ℕ → PassSeen → List ℕ → List ℕ → Type 0
    Here i pass was held = (j : ℕ) → j < pass.size / 512 → sector_in held j ≡ addressed ((other + i) * pass.size + 512 * j) (sector_in (part_of bytes pass.size i) j)

    Rest : ℕ → PassSeen → List ℕ → List ℕ → Type 0
    Rest i pass was held = (j : ℕ) → j < pass.size / 512 → sector_in held j ≡ addressed ((other + 1 + i) * pass.size + 512 * j) (sector_in (part_of (drop size bytes) pass.size i) j)

    wide : (seen x).size ≡ size
    wide = first_wide seen size xs rest x is sized

    first : (j : ℕ) → j < (seen x).size / 512 → sector_in now j ≡ addressed ((other + 0) * (seen x).size + 512 * j) (sector_in (part_of bytes (seen x).size 0) j)
    first j inside =
        let within : j < length part / 512 = subst (λ n. j < n / 512) (wide ∙ sym long) inside in
        let here : part ≡ part_of bytes (seen x).size 0 = front ∙ sym (part_first bytes size) ∙ ap (λ n. part_of bytes n 0) (sym wide) in
        let place_is : place ≡ other * (seen x).size % 2 ^ 64 = begun ∙ ap (λ n. other * n % 2 ^ 64) (sym wide) in
        each j within
        ∙ addressed_same (place + 512 * j) ((other + 0) * (seen x).size + 512 * j) (sector_in part j) (sector_in (part_of bytes (seen x).size 0) j)
        (begun_at place other (seen x).size j place_is) (ap (λ (l : List ℕ). sector_in l j) here)

    next : (i : ℕ) (before : PassSeen) (was held : List ℕ) → slice_get (map seen rest) i ≡ Some before → before.told ≡ Some was → Rest i before was held → Here (suc i) before was held
    next i before was held at told_was holds j inside =
        let same : before.size ≡ size = rest_wide seen size xs rest x is sized i before at in
        let part_same : part_of (drop size bytes) before.size i ≡ part_of bytes before.size (suc i) =
        ap (λ n. part_of (drop size bytes) n i) same ∙ sym (part_next bytes size i) ∙ ap (λ n. part_of bytes n (suc i)) (sym same) in
        holds j inside
        ∙ addressed_same ((other + 1 + i) * before.size + 512 * j) ((other + suc i) * before.size + 512 * j) (sector_in (part_of (drop size bytes) before.size i) j)
        (sector_in (part_of bytes before.size (suc i)) j) (ap (λ n. n % 2 ^ 64) (gone_on other i before.size j)) (ap (λ (l : List ℕ). sector_in l j) part_same)

-- What is seen of passes in one way, from another.
from_place : {P : Type 0} (seen other : P → PassSeen) (xs : List P) (i : ℕ) (y : PassSeen) → slice_get (map other xs) i ≡ Some y → (x : P) × (slice_get (map seen xs) i ≡ Some (seen x)) × (y ≡ other x)
from_place seen other [] i y e = cc
from_place seen other (x ∷ xs) zero y e = (x, refl, cc)
from_place seen other (x ∷ xs) (suc i) y e = from_place seen other xs i y e

pub sized_through : {P : Type 0} (seen other : P → PassSeen) → ((x : P) → (other x).size ≡ (seen x).size) → (size : ℕ) (xs : List P) → AreSized size (map seen xs) → AreSized size (map other xs)
sized_through seen other same size xs sized i pass at =
    let there = from_place seen other xs i pass at in
    ap (λ (p : PassSeen). p.size) there.2 ∙ same there.0 ∙ sized i (seen there.0) there.1

pub same_through : {P : Type 0} (seen other : P → PassSeen) → ((x : P) → (other x).block ≡ (seen x).block) → ((x : P) → (other x).size ≡ (seen x).size) → (xs ys : List P)
    → SameBlocks (map seen xs) (map seen ys) → SameBlocks (map other xs) (map other ys)
same_through seen other blocks sizes xs ys same = record {
  many = length-map ys other ∙ sym (length-map ys seen) ∙ same.many ∙ length-map xs seen ∙ sym (length-map xs other);
  each = λ i before after old_at new_at.
      let a = from_place seen other xs i before old_at in
      let b = from_place seen other ys i after new_at in
      let both = same.each i (seen a.0) (seen b.0) a.1 b.1 in (
        ap (λ (p : PassSeen). p.block) b.2 ∙ blocks b.0 ∙ both.0 ∙ sym (blocks a.0) ∙ ap (λ (p : PassSeen). p.block) (sym a.2),
        ap (λ (p : PassSeen). p.size) b.2 ∙ sizes b.0 ∙ both.1 ∙ sym (sizes a.0) ∙ ap (λ (p : PassSeen). p.size) (sym a.2),
      );
}
