-- What a transfer reads and writes, block by block.
use Rattle.std.proofs.Common.{zero, suc, ◌≡◌, ℕ, ◌+◌, ◌-◌, ◌*◌, ◌/◌, ◌<◌, ◌≤◌, List, [], ◌∷◌, ◌++◌, length, take, drop, map, min, Some, None, refl, sym, ◌∙◌, ap, subst, arith, inl, inr, ◌⊎◌, get_or}
use Rattle.std.specs.Prelude.{slice_get, slice_range, Option}
use Rattle.std.proofs.lemmas.List.{drop-drop, length-take-le, take-append-le, drop-append-le, drop-take, take-take, length-take, length-drop, drop_at, take_at, length-append, length-map}
use Rattle.std.proofs.lemmas.Bool.{cases_lt}
use Rattle.std.proofs.lemmas.Nat.{mul-le}
use Rattle.std.proofs.lemmas.Option.{slice_get-get_or, slice_get_within}
use Rattle.vd_arm.specs.Arm.{PassSeen}
use Rattle.vd_arm.specs.Held.{AreSized, TookSectors, first_sectors}
use Rattle.vd_arm.specs.Transfers.{EachTold, IsTransfer, SameBlocks, TellParts, TookParts, TornParts, part_of, sector_in}

-- What stands in a mapped list is what some item gives.
pub from_map : {P : Type 0} (seen : P → PassSeen) (xs : List P) (i : ℕ) (y : PassSeen) → slice_get (map seen xs) i ≡ Some y → (x : P) × (y ≡ seen x)
from_map seen [] i y e = cc
from_map seen (x ∷ xs) zero y e = (x, cc)
from_map seen (x ∷ xs) (suc i) y e = from_map seen xs i y e

-- Passes that tell nothing tell their part of any bytes, and whatever is asked of what they told holds.
no_told : (y x : PassSeen) (told : List ℕ) → y ≡ x → x.told ≡ None → y.told ≡ Some told → ⊥
no_told y x told e none some = cc

pub none_tell : {P : Type 0} (seen : P → PassSeen) → ((x : P) → (seen x).told ≡ None) → (xs : List P) (bytes : List ℕ) → TellParts (map seen xs) bytes
none_tell seen none xs bytes i pass told at is =
    let there = from_map seen xs i pass at in
    absurd (no_told pass (seen there.0) told there.1 (none there.0) is)

pub none_told : {P : Type 0} (seen : P → PassSeen) → ((x : P) → (seen x).told ≡ None) → (Holds : ℕ → PassSeen → List ℕ → List ℕ → Type 0) (xs : List P) (new : List PassSeen) → EachTold Holds (map seen xs) new
none_told seen none Holds xs new i before after was at after_at is =
    let there = from_map seen xs i before at in
    absurd (no_told before (seen there.0) was there.1 (none there.0) is)

pub none_took : {P : Type 0} (seen : P → PassSeen) → ((x : P) → (seen x).told ≡ None) → (bytes : List ℕ) (xs : List P) (new : List PassSeen) → TookParts bytes (map seen xs) new
none_took seen none bytes xs new = none_told seen none (λ i pass was now. now ≡ part_of bytes pass.size i) xs new

pub none_torn : {P : Type 0} (seen : P → PassSeen) → ((x : P) → (seen x).told ≡ None) → (bytes : List ℕ) (xs : List P) (new : List PassSeen) → TornParts bytes (map seen xs) new
none_torn seen none bytes xs new = none_told seen none
    (λ i pass was now. (j : ℕ) → j < pass.size / 512 → (sector_in now j ≡ sector_in was j) ⊎ (sector_in now j ≡ sector_in (part_of bytes pass.size i) j)) xs new

-- the parts of the rest of some bytes
next_place : (i size : ℕ) → suc i * size ≡ size + i * size
next_place i size = omega arith

no_more : (a b : ℕ) → (a + b) - a ≡ b
no_more a b = omega arith

pub part_is : (bytes : List ℕ) (size i : ℕ) → part_of bytes size i ≡ take size (drop (i * size) bytes)
part_is bytes size i = ap (λ n. take n (drop (i * size) bytes)) (no_more (i * size) size)

pub part_next : (bytes : List ℕ) (size i : ℕ) → part_of bytes size (suc i) ≡ part_of (drop size bytes) size i
part_next bytes size i =
    part_is bytes size (suc i)
    ∙ ap (λ n. take size (drop n bytes)) (next_place i size)
    ∙ ap (λ (l : List ℕ). take size l) (sym (drop-drop (i * size) size bytes))
    ∙ sym (part_is (drop size bytes) size i)

none_before : (size : ℕ) → 0 * size ≡ 0
none_before size = omega arith

pub part_first : (bytes : List ℕ) (size : ℕ) → part_of bytes size 0 ≡ take size bytes
part_first bytes size = part_is bytes size 0 ∙ ap (λ n. take size (drop n bytes)) (none_before size)

-- a fact of each pass that told, from the first and the others
pub each_told_cons : (Holds : ℕ → PassSeen → List ℕ → List ℕ → Type 0) (p q : PassSeen) (ps qs : List PassSeen)
    → ((was : List ℕ) → p.told ≡ Some was → (now : List ℕ) × (q.told ≡ Some now) × Holds 0 p was now)
    → EachTold (λ i. Holds (suc i)) ps qs
    → EachTold Holds (p ∷ ps) (q ∷ qs)
each_told_cons Holds p q ps qs here there = go
  where
    go : EachTold Holds (p ∷ ps) (q ∷ qs)
    go zero before after was old_at new_at told =
        let same_p : p ≡ before = cc in
        let same_q : q ≡ after = cc in
        subst (λ (b : PassSeen). (now : List ℕ) × (after.told ≡ Some now) × Holds 0 b was now) same_p
        (subst (λ (a : PassSeen). (now : List ℕ) × (a.told ≡ Some now) × Holds 0 p was now) same_q (here was (cc)))
    go (suc i) before after was old_at new_at told = there i before after was old_at new_at told

pub each_told_weaker : (Holds Weaker : ℕ → PassSeen → List ℕ → List ℕ → Type 0) (old new : List PassSeen)
    → ((i : ℕ) (before : PassSeen) (was now : List ℕ) → slice_get old i ≡ Some before → before.told ≡ Some was → Holds i before was now → Weaker i before was now)
    → EachTold Holds old new → EachTold Weaker old new
each_told_weaker Holds Weaker old new weaker each i before after was old_at new_at told =
    let there = each i before after was old_at new_at told in
    (there.0, there.1, weaker i before was there.0 old_at told there.2)

-- the passes of one size, from the first and the others
pub sized_rest : (size : ℕ) (p : PassSeen) (ps : List PassSeen) → AreSized size (p ∷ ps) → AreSized size ps
sized_rest size p ps sized i pass at = sized (suc i) pass at

pub same_cons : (p q : PassSeen) (ps qs : List PassSeen) → q.block ≡ p.block → q.size ≡ p.size → SameBlocks ps qs → SameBlocks (p ∷ ps) (q ∷ qs)
same_cons p q ps qs block size same = record {
  many = ap suc same.many;
  each = go;
}
  where
    go : (i : ℕ) (before after : PassSeen) → slice_get (p ∷ ps) i ≡ Some before → slice_get (q ∷ qs) i ≡ Some after → (after.block ≡ before.block) × (after.size ≡ before.size)
    go zero before after old_at new_at =
        let same_p : p ≡ before = cc in
        let same_q : q ≡ after = cc in
        (cc, cc)
    go (suc i) before after old_at new_at = same.each i before after old_at new_at

pub tell_cons : (size : ℕ) (bytes : List ℕ) (p : PassSeen) (ps : List PassSeen)
    → ((told : List ℕ) → p.told ≡ Some told → told ≡ take size bytes) → AreSized size (p ∷ ps) → TellParts ps (drop size bytes)
    → TellParts (p ∷ ps) bytes
tell_cons size bytes p ps here sized there = go
  where
    go : TellParts (p ∷ ps) bytes
    go zero pass told at is =
        let same : p ≡ pass = cc in
        let wide : pass.size ≡ size = sized 0 pass at in
        here told (cc) ∙ sym (ap (λ n. part_of bytes n 0) wide ∙ part_first bytes size)
    go (suc i) pass told at is =
        let wide : pass.size ≡ size = sized (suc i) pass at in
        there i pass told at is ∙ ap (λ n. part_of (drop size bytes) n i) wide ∙ sym (part_next bytes size i) ∙ ap (λ n. part_of bytes n (suc i)) (sym wide)

pub took_cons : (size : ℕ) (bytes : List ℕ) (p q : PassSeen) (ps qs : List PassSeen)
    → p.size ≡ size → q.told ≡ Some (take size bytes) → AreSized size ps → TookParts (drop size bytes) ps qs
    → TookParts bytes (p ∷ ps) (q ∷ qs)
took_cons size bytes p q ps qs wide told sized there =
    each_told_cons (λ i pass was now. now ≡ part_of bytes pass.size i) p q ps qs
    (λ (was : List ℕ) (is : p.told ≡ Some was). (take size bytes, told, sym (ap (λ n. part_of bytes n 0) wide ∙ part_first bytes size)))
    (each_told_weaker (λ i pass was now. now ≡ part_of (drop size bytes) pass.size i) (λ i pass was now. now ≡ part_of bytes pass.size (suc i)) ps qs
    (λ (i : ℕ) (before : PassSeen) (was now : List ℕ) (at : slice_get ps i ≡ Some before) (is : before.told ≡ Some was) (holds : now ≡ part_of (drop size bytes) before.size i).
    let same : before.size ≡ size = sized i before at in
    holds ∙ ap (λ n. part_of (drop size bytes) n i) same ∙ sym (part_next bytes size i) ∙ ap (λ n. part_of bytes n (suc i)) (sym same))
    there)

-- so many first sectors, from those of the first block and the others
sectors_rest : (many s i : ℕ) → (many - min many s) - i * s ≡ many - suc i * s
sectors_rest many s i = let next : suc i * s ≡ s + i * s = next_place i s in omega arith

sectors_here : (many s : ℕ) → min (many - 0 * s) s ≡ min many s
sectors_here many s = let none : 0 * s ≡ 0 = none_before s in omega arith

pub torn_cons : (size many : ℕ) (bytes held : List ℕ) (p q : PassSeen) (ps qs : List PassSeen)
    → p.size ≡ size → p.told ≡ Some held → q.told ≡ Some (first_sectors (min many (size / 512)) (take size bytes) held) → AreSized size ps
    → TookSectors (many - min many (size / 512)) (drop size bytes) ps qs
    → TookSectors many bytes (p ∷ ps) (q ∷ qs)
torn_cons size many bytes held p q ps qs wide holds told sized there =
    each_told_cons Here p q ps qs
    (λ (was : List ℕ) (is : p.told ≡ Some was). (first_sectors (min many (size / 512)) (take size bytes) held, told, first was is))
    (each_told_weaker Rest (λ i. Here (suc i)) ps qs next there)
  where
    Here : ℕ → PassSeen → List ℕ → List ℕ → Type 0
    Here i pass was now = now ≡ first_sectors (min (many - i * (pass.size / 512)) (pass.size / 512)) (part_of bytes pass.size i) was

    Rest : ℕ → PassSeen → List ℕ → List ℕ → Type 0
    Rest i pass was now = now ≡ first_sectors (min ((many - min many (size / 512)) - i * (pass.size / 512)) (pass.size / 512)) (part_of (drop size bytes) pass.size i) was

    first : (was : List ℕ) → p.told ≡ Some was → first_sectors (min many (size / 512)) (take size bytes) held ≡ first_sectors (min (many - 0 * (p.size / 512)) (p.size / 512)) (part_of bytes p.size 0) was
    first was is =
        let same : held ≡ was = cc in
        ap (λ (l : List ℕ). first_sectors (min many (size / 512)) (take size bytes) l) same
        ∙ ap (λ (l : List ℕ). first_sectors (min many (size / 512)) l was) (sym (part_first bytes size))
        ∙ ap (λ n. first_sectors n (part_of bytes size 0) was) (sym (sectors_here many (size / 512)))
        ∙ ap (λ n. first_sectors (min (many - 0 * (n / 512)) (n / 512)) (part_of bytes n 0) was) (sym wide)

    next : (i : ℕ) (before : PassSeen) (was now : List ℕ) → slice_get ps i ≡ Some before → before.told ≡ Some was → Rest i before was now → Here (suc i) before was now
    next i before was now at is holds =
        let same : before.size ≡ size = sized i before at in
        holds
        ∙ ap (λ n. first_sectors (min ((many - min many (size / 512)) - i * (n / 512)) (n / 512)) (part_of (drop size bytes) n i) was) same
        ∙ ap (λ n. first_sectors (min n (size / 512)) (part_of (drop size bytes) size i) was) (sectors_rest many (size / 512) i)
        ∙ ap (λ (l : List ℕ). first_sectors (min (many - suc i * (size / 512)) (size / 512)) l was) (sym (part_next bytes size i))
        ∙ ap (λ n. first_sectors (min (many - suc i * (n / 512)) (n / 512)) (part_of bytes n (suc i)) was) (sym same)

-- the first of some passes of one size, and the others
pub first_wide : {P : Type 0} (seen : P → PassSeen) (size : ℕ) (xs rest : List P) (x : P) → xs ≡ x ∷ rest → AreSized size (map seen xs) → (seen x).size ≡ size
first_wide seen size xs rest x is sized = sized 0 (seen x) (ap (λ l. slice_get (map seen l) 0) is)

pub rest_wide : {P : Type 0} (seen : P → PassSeen) (size : ℕ) (xs rest : List P) (x : P) → xs ≡ x ∷ rest → AreSized size (map seen xs) → AreSized size (map seen rest)
rest_wide seen size xs rest x is sized i pass at = sized (suc i) pass (ap (λ l. slice_get (map seen l) (suc i)) is ∙ at)

more_room : (rest size : ℕ) → (rest + 1) * size ≡ rest * size + size
more_room rest size = omega arith

pub rest_long : (many rest size total left : ℕ) → rest + 1 ≡ many → total ≡ many * size → left + size ≡ total → left ≡ rest * size
rest_long many rest size total left count all cut =
    let whole : total ≡ rest * size + size = all ∙ ap (λ n. n * size) (sym count) ∙ more_room rest size in
    omega arith

pub room_for_one : (many rest size total : ℕ) → rest + 1 ≡ many → total ≡ many * size → size ≤ total
room_for_one many rest size total count all =
    let whole : total ≡ rest * size + size = all ∙ ap (λ n. n * size) (sym count) ∙ more_room rest size in
    omega arith

pub tell_step : {P : Type 0} (seen : P → PassSeen) (size : ℕ) (xs rest : List P) (x : P) (front back : List ℕ) → xs ≡ x ∷ rest → AreSized size (map seen xs)
    → length front ≡ size → (seen x).told ≡ Some front → TellParts (map seen rest) back → TellParts (map seen xs) (front ++ back)
tell_step {P} seen size xs rest x front back is sized long told there =
    let wide : AreSized size (seen x ∷ map seen rest) = subst (λ (l : List P). AreSized size (map seen l)) is sized in
    let behind : TellParts (map seen rest) (drop size (front ++ back)) = subst (λ (l : List ℕ). TellParts (map seen rest) l) (sym (drop_at front back size long)) there in
    let here : (held : List ℕ) → (seen x).told ≡ Some held → held ≡ take size (front ++ back) = λ (held : List ℕ) (holds : (seen x).told ≡ Some held). same held front (seen x) holds told ∙ sym (take_at front back size long) in
    subst (λ (l : List P). TellParts (map seen l) (front ++ back)) (sym is) (tell_cons size (front ++ back) (seen x) (map seen rest) here wide behind)
  where
    same : (held front : List ℕ) (p : PassSeen) → p.told ≡ Some held → p.told ≡ Some front → held ≡ front
    same held front p a b = cc

pub took_step : {P : Type 0} (seen : P → PassSeen) (size : ℕ) (bytes : List ℕ) (xs rest : List P) (x : P) (q : PassSeen) (qs : List PassSeen) → xs ≡ x ∷ rest → AreSized size (map seen xs)
    → q.told ≡ Some (take size bytes) → TookParts (drop size bytes) (map seen rest) qs → TookParts bytes (map seen xs) (q ∷ qs)
took_step {P} seen size bytes xs rest x q qs is sized told there =
    subst (λ (l : List P). TookParts bytes (map seen l) (q ∷ qs)) (sym is)
    (took_cons size bytes (seen x) q (map seen rest) qs (first_wide seen size xs rest x is sized) told (rest_wide seen size xs rest x is sized) there)

pub torn_step : {P : Type 0} (seen : P → PassSeen) (size many : ℕ) (bytes held : List ℕ) (xs rest : List P) (x : P) (q : PassSeen) (qs : List PassSeen) → xs ≡ x ∷ rest → AreSized size (map seen xs)
    → (seen x).told ≡ Some held → q.told ≡ Some (first_sectors (min many (size / 512)) (take size bytes) held)
    → TookSectors (many - min many (size / 512)) (drop size bytes) (map seen rest) qs → TookSectors many bytes (map seen xs) (q ∷ qs)
torn_step {P} seen size many bytes held xs rest x q qs is sized holds told there =
    subst (λ (l : List P). TookSectors many bytes (map seen l) (q ∷ qs)) (sym is)
    (torn_cons size many bytes held (seen x) q (map seen rest) qs (first_wide seen size xs rest x is sized) holds told (rest_wide seen size xs rest x is sized) there)

-- a run's passes have the size of the first
pub transfer_wide : {P : Type 0} (seen : P → PassSeen) (xs : List P) (x : P) (total : ℕ) → x ≡ get_or xs 0 x → 1 ≤ length xs → IsTransfer (map seen xs) total
    → AreSized (seen x).size (map seen xs) × (total ≡ length xs * (seen x).size)
transfer_wide seen [] x total is some transfer = absurd (omega arith)
transfer_wide {P} seen (y ∷ ys) x total is some (first, size, blocks, all) =
    let wide : (seen y).size ≡ size = (blocks 0 (seen y) refl).1 in
    let same : (seen x).size ≡ size = ap (λ (p : P). (seen p).size) is ∙ wide in (
      λ (i : ℕ) (pass : PassSeen) (at : slice_get (map seen (y ∷ ys)) i ≡ Some pass). (blocks i pass at).1 ∙ sym same,
      all ∙ ap (λ n. n * size) (length-map (y ∷ ys) seen) ∙ ap (λ n. length (y ∷ ys) * n) (sym same),
    )

-- A sector of a block of which so many first sectors were written is a new one or the old one.
written_sector : (n j : ℕ) (part was : List ℕ) → 512 * n ≤ length part → suc j ≤ n → sector_in (first_sectors n part was) j ≡ sector_in part j
written_sector n j part was long here =
    let front = take (512 * n) part in
    let many : length front ≡ 512 * n = length-take-le (512 * n) part long in
    let begins : 512 * j ≤ length front = omega arith in
    let left : 512 ≤ length (drop (512 * j) front) = omega (arith, length-drop (512 * j) front) in
    let split : 512 * j + 512 + (512 * n - (512 * j + 512)) ≡ 512 * n = omega arith in
    let within : 512 * j + 512 ≤ 512 * n = omega arith in
    ap (λ k. take k (drop (512 * j) (front ++ drop (512 * n) was))) (no_more (512 * j) 512)
    ∙ ap (λ (l : List ℕ). take 512 l) (drop-append-le (512 * j) front (drop (512 * n) was) begins)
    ∙ take-append-le 512 (drop (512 * j) front) (drop (512 * n) was) left
    ∙ sym (drop-take (512 * j) 512 front)
    ∙ ap (λ (l : List ℕ). drop (512 * j) l) (take-take (512 * j + 512) (512 * n) part within)
    ∙ drop-take (512 * j) 512 part
    ∙ ap (λ k. take k (drop (512 * j) part)) (sym (no_more (512 * j) 512))

old_sector : (n j : ℕ) (part was : List ℕ) → 512 * n ≤ length part → n ≤ j → sector_in (first_sectors n part was) j ≡ sector_in was j
old_sector n j part was long behind =
    let front = take (512 * n) part in
    let many : length front ≡ 512 * n = length-take-le (512 * n) part long in
    let split : 512 * n + (512 * j - 512 * n) ≡ 512 * j = omega arith in
    ap (λ k. slice_range (front ++ drop (512 * n) was) k (k + 512)) (sym split)
    ∙ ap (λ k. take k (drop (512 * n + (512 * j - 512 * n)) (front ++ drop (512 * n) was))) (no_more (512 * n + (512 * j - 512 * n)) 512)
    ∙ ap (λ (l : List ℕ). take 512 l) (sym (drop-drop (512 * j - 512 * n) (512 * n) (front ++ drop (512 * n) was)))
    ∙ ap (λ (l : List ℕ). take 512 (drop (512 * j - 512 * n) l)) (drop_at front (drop (512 * n) was) (512 * n) many)
    ∙ ap (λ (l : List ℕ). take 512 l) (drop-drop (512 * j - 512 * n) (512 * n) was)
    ∙ ap (λ k. take 512 (drop k was)) split
    ∙ ap (λ k. take k (drop (512 * j) was)) (sym (no_more (512 * j) 512))

sector_torn : (n j : ℕ) (part was : List ℕ) → 512 * n ≤ length part → (sector_in (first_sectors n part was) j ≡ sector_in was j) ⊎ (sector_in (first_sectors n part was) j ≡ sector_in part j)
sector_torn n j part was long = elim (cases_lt j n) [
  | inl here ↦ inr (written_sector n j part was long here)
  | inr behind ↦ inl (old_sector n j part was long behind)
]

-- the length of a part that is within some bytes
part_long : (bytes : List ℕ) (many size i : ℕ) → length bytes ≡ many * size → i < many → length (part_of bytes size i) ≡ size
part_long bytes many size i all inside =
    let rest : i * size + size ≤ many * size = grind (arith, mul-le (i + 1) size many size, more_room i size) in
    ap length (part_is bytes size i)
    ∙ length-take-le size (drop (i * size) bytes) (omega (arith, length-drop (i * size) bytes))

pub torn_by_sectors : {P : Type 0} (seen : P → PassSeen) (size many : ℕ) (bytes : List ℕ) (xs : List P) (new : List PassSeen) → AreSized size (map seen xs)
    → length bytes ≡ length xs * size → TookSectors many bytes (map seen xs) new → TornParts bytes (map seen xs) new
torn_by_sectors {P} seen size many bytes xs new sized all took =
    each_told_weaker Sectors Torn (map seen xs) new next took
  where
    Sectors : ℕ → PassSeen → List ℕ → List ℕ → Type 0
    Sectors i pass was now = now ≡ first_sectors (min (many - i * (pass.size / 512)) (pass.size / 512)) (part_of bytes pass.size i) was

    Torn : ℕ → PassSeen → List ℕ → List ℕ → Type 0
    Torn i pass was now = (j : ℕ) → j < pass.size / 512 → (sector_in now j ≡ sector_in was j) ⊎ (sector_in now j ≡ sector_in (part_of bytes pass.size i) j)

    next : (i : ℕ) (before : PassSeen) (was now : List ℕ) → slice_get (map seen xs) i ≡ Some before → before.told ≡ Some was → Sectors i before was now → Torn i before was now
    next i before was now at is holds j inside =
        let n = min (many - i * (before.size / 512)) (before.size / 512) in
        let wide : before.size ≡ size = sized i before at in
        let place : i < length xs = omega (arith, slice_get_within (map seen xs) i before at, length-map xs seen) in
        let long : length (part_of bytes before.size i) ≡ before.size = ap (λ s. length (part_of bytes s i)) wide ∙ part_long bytes (length xs) size i all place ∙ sym wide in
        let few : 512 * n ≤ before.size = omega arith in
        subst (λ (l : List ℕ). (sector_in l j ≡ sector_in was j) ⊎ (sector_in l j ≡ sector_in (part_of bytes before.size i) j)) (sym holds)
        (sector_torn n j (part_of bytes before.size i) was (omega arith))

pub same_step : {P : Type 0} (seen : P → PassSeen) (xs rest : List P) (x : P) (q : PassSeen) (qs : List PassSeen) → xs ≡ x ∷ rest → q.block ≡ (seen x).block → q.size ≡ (seen x).size
    → SameBlocks (map seen rest) qs → SameBlocks (map seen xs) (q ∷ qs)
same_step {P} seen xs rest x q qs is block size same =
    subst (λ (l : List P). SameBlocks (map seen l) (q ∷ qs)) (sym is) (same_cons (seen x) q (map seen rest) qs block size same)

pub front_long : (end : ℕ) (bytes was : List ℕ) → length bytes ≡ length was → end ≤ length was → length (take end bytes ++ drop end was) ≡ length was
front_long end bytes was long within =
    length-append (take end bytes) (drop end was) ∙ omega (arith, length-take-le end bytes (omega arith), length-drop end was)

-- one block
pub one_block : (p : PassSeen) (total : ℕ) → p.size ≡ total → IsTransfer (p ∷ []) total
one_block p total wide = (p.block, total, go, omega arith)
  where
    go : (i : ℕ) (pass : PassSeen) → slice_get (p ∷ []) i ≡ Some pass → (pass.block ≡ p.block + i) × (pass.size ≡ total)
    go zero pass at =
        let first : p ≡ pass = cc in
        (ap (λ (x : PassSeen). x.block) (sym first) ∙ omega arith, ap (λ (x : PassSeen). x.size) (sym first) ∙ wide)
    go (suc i) pass at = cc

-- two blocks, one behind the other
pub two_blocks : (p q : PassSeen) (size total : ℕ) → q.block ≡ p.block + 1 → p.size ≡ size → q.size ≡ size → total ≡ 2 * size → IsTransfer (p ∷ q ∷ []) total
two_blocks p q size total next wide same all = (p.block, size, go, all)
  where
    go : (i : ℕ) (pass : PassSeen) → slice_get (p ∷ q ∷ []) i ≡ Some pass → (pass.block ≡ p.block + i) × (pass.size ≡ size)
    go zero pass at =
        let first : p ≡ pass = cc in
        (ap (λ (x : PassSeen). x.block) (sym first) ∙ omega arith, ap (λ (x : PassSeen). x.size) (sym first) ∙ wide)
    go (suc zero) pass at =
        let second : q ≡ pass = cc in
        (ap (λ (x : PassSeen). x.block) (sym second) ∙ next, ap (λ (x : PassSeen). x.size) (sym second) ∙ same)
    go (suc (suc i)) pass at = cc

-- The passes of the same blocks are a transfer too.
pub transfer_stays : (old new : List PassSeen) (total : ℕ) → SameBlocks old new → IsTransfer old total → IsTransfer new total
transfer_stays old new total same (first, size, blocks, all) =
    (first, size, go, all ∙ ap (λ n. n * size) (sym same.many))
  where
    go : (i : ℕ) (pass : PassSeen) → slice_get new i ≡ Some pass → (pass.block ≡ first + i) × (pass.size ≡ size)
    go i pass at =
        let inside : i < length old = omega (arith, slice_get_within new i pass at, same.many) in
        let there = slice_get-get_or old i pass inside in
        let was = same.each i (get_or old i pass) pass there at in
        let is = blocks i (get_or old i pass) there in
        (was.0 ∙ is.0, was.1 ∙ is.1)
