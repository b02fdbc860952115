-- A disk that was at rest, as it is handed out.
use Rattle.std.specs.Prelude.{◌≡◌, ◌⊎◌, ℕ, ◌+◌, ◌-◌, ◌<◌, ◌≤◌, List, [], ◌∷◌, ◌++◌, length, take, drop, replicate, get_or, Contains, refl, Option, Some, None}
use Rattle.std.proofs.Common.{inl, inr, sym, ◌∙◌, ap, subst, append-nil, arith}
use Rattle.std.proofs.lemmas.Bool.{cases_lt}
use Rattle.std.proofs.lemmas.List.{ext_get_or, get_or-append-add, get_or-drop, get_or-replicate, get_or-take, get_or_append_left, get_or_push, length-append, length-drop, length-replicate, length-take-le, length_push, take-append-drop}
use Rattle.vd_disk.specs.Disk.{DiskSeen, IsAtRest, IsImage, IsImageAt, Rests, Sectors, Table, longer, longer_table, present, sector_at, told_longer, zeros}
use Rattle.vd_yard.specs.Hands.{Longer}
use Rattle.plan_journals.specs.Open.{FitsTogether, IsHanded}

one_held : (x y : List ℕ) → Contains (x ∷ []) y → y ≡ x
one_held x y has =
    let first : has.0 ≡ 0 = omega (arith, has.1) in
    sym has.2 ∙ ap (λ k. get_or (x ∷ []) k y) first

-- how many sectors a longer table has
long_table : (size : ℕ) (table : Table) → length (longer_table size table) ≡ length table + (size - length table)
long_table size table = length-append table (replicate (size - length table) (zeros ∷ [])) ∙ ap (λ n. length table + n) (length-replicate (size - length table) (zeros ∷ []))

image_front : (size : ℕ) (table : Table) (image : Sectors) → IsImage (longer_table size table) image → IsImage table (take (length table) image)
image_front size table image is =
    let many = long_table size table in
    let sized = is.size in record {
      size = length-take-le (length table) image (omega (arith, many, sized));
      each = λ i less.
          subst (λ (c : List ℕ). Contains (get_or table i []) c) (sym (get_or-take (length table) image i [] less))
          (subst (λ (r : Sectors). Contains r (sector_at image i)) (get_or_append_left table (replicate (size - length table) (zeros ∷ [])) [] i less) (is.each i (omega (arith, many, less))));
    }

image_behind : (size : ℕ) (table : Table) (image : Sectors) → IsImage (longer_table size table) image → drop (length table) image ≡ replicate (size - length table) zeros
image_behind size table image is =
    let n = length table in
    let more = size - n in
    let many : length (longer_table size table) ≡ n + more = long_table size table in
    let sized : length image ≡ n + more = is.size ∙ many in
    let left : length (drop n image) ≡ more = length-drop n image ∙ omega (arith, sized) in
    ext_get_or [] (drop n image) (replicate more zeros) (left ∙ sym (length-replicate more zeros)) (λ i less.
    let within : i < more = omega (arith, left, less) in
    let there : get_or (longer_table size table) (n + i) [] ≡ zeros ∷ [] = get_or-append-add table (replicate more (zeros ∷ [])) i [] ∙ get_or-replicate more i (zeros ∷ []) [] within in
    let has = subst (λ (r : Sectors). Contains r (sector_at image (n + i))) there (is.each (n + i) (omega (arith, many, within))) in
    get_or-drop n image i [] ∙ one_held zeros (sector_at image (n + i)) has ∙ sym (get_or-replicate more i zeros [] within))

-- An image of a longer table is one of the table, with zeros behind.
image_longer : (size : ℕ) (table : Table) (sectors image : Sectors) → ((x : Sectors) → IsImage table x → x ≡ sectors) → IsImage (longer_table size table) image → image ≡ longer size sectors
image_longer size table sectors image only is =
    let same = only (take (length table) image) (image_front size table image is) in
    let sized : length sectors ≡ length table = ap length (sym same) ∙ (image_front size table image is).size in
    sym (take-append-drop (length table) image) ∙ ap (λ (s : Sectors). s ++ drop (length table) image) same ∙ ap (λ (s : Sectors). sectors ++ s) (image_behind size table image is)
    ∙ ap (λ n. sectors ++ replicate (size - n) zeros) (sym sized)

none_more : (n : ℕ) (sectors : Sectors) → n ≡ 0 → sectors ≡ sectors ++ replicate n zeros
none_more n sectors e = sym (ap (λ k. sectors ++ replicate k zeros) e ∙ append-nil sectors)

present_push : (moments : List Table) (table : Table) → present (moments ++ table ∷ []) ≡ table
present_push moments table = ap (λ k. get_or (moments ++ table ∷ []) k []) (omega (arith, length_push moments table)) ∙ get_or_push moments table [] (length moments) refl

some_same : (x y : Sectors) → Some x ≡ Some y → x ≡ y
some_same x y e = cc

-- A disk at rest is so as it is handed out, longer or not.
rests_told : (kept handed : DiskSeen) (sectors image : Sectors) → Longer kept handed → FitsTogether handed → IsAtRest kept.moments sectors → handed.told ≡ Some (longer handed.sectors sectors) → IsImage (present handed.moments) image
    → (kept_moments : (handed.moments ≡ kept.moments) ⊎ (handed.moments ≡ kept.moments ++ longer_table handed.sectors (present kept.moments) ∷ [])) → image ≡ longer handed.sectors sectors
rests_told kept handed sectors image l fits rest told left (inl e) =
    let same : image ≡ sectors = rest image (subst (λ (t : List Table). IsImage (present t) image) e left) in
    let sized : length sectors ≡ handed.sectors = ap length (sym same) ∙ left.size ∙ (fits.tale (longer handed.sectors sectors) told).size_now in
    same ∙ none_more (handed.sectors - length sectors) sectors (omega (arith, sized))
rests_told kept handed sectors image l fits rest told left (inr e) =
    let last = longer_table handed.sectors (present kept.moments) in
    image_longer handed.sectors (present kept.moments) sectors image rest (subst (λ (t : Table). IsImage t image) (ap (λ (t : List Table). present t) e ∙ present_push kept.moments last) left)

rests_of : (kept handed : DiskSeen) (was : Option Sectors) (sectors : Sectors) → kept.told ≡ was → handed.told ≡ Some sectors → Longer kept handed → FitsTogether handed → Rests kept → IsAtRest handed.moments sectors
rests_of kept handed None sectors e told l fits rests image left =
    let none : None ≡ Some sectors = sym (l.reads ∙ ap (told_longer handed.sectors) e) ∙ told in absurd (cc none)
rests_of kept handed (Some s) sectors e told l fits rests image left =
    let reads : handed.told ≡ Some (longer handed.sectors s) = l.reads ∙ ap (told_longer handed.sectors) e in
    rests_told kept handed s image l fits (rests s e) reads left l.moments ∙ some_same (longer handed.sectors s) sectors (sym reads ∙ told)

pub handed_at_rest : (kept handed : DiskSeen) → IsHanded (Some kept) handed → Rests kept → Rests handed
handed_at_rest kept handed h rests sectors told = rests_of kept handed kept.told sectors refl told h.hands h.fits rests

-- each image from the last moment of the kept disk on
last_moment : (kept moments : List Table) (m : ℕ) (image : Sectors) → moments ≡ kept → length kept ≤ m + 1 → IsImageAt moments m image → IsImage (present kept) image
last_moment kept moments m image e since is =
    let many : length moments ≡ length kept = ap length e in
    let reached = is.reached in
    let here : m ≡ length kept - 1 = omega (arith, many, reached, since) in
    subst (λ (t : Table). IsImage t image) (ap (λ (t : List Table). get_or t m []) e ∙ ap (λ k. get_or kept k []) here) is.left

before_moment : (kept moments : List Table) (table : Table) (m : ℕ) (image : Sectors) → moments ≡ kept ++ table ∷ [] → m < length kept → length kept ≤ m + 1 → IsImageAt moments m image → IsImage (present kept) image
before_moment kept moments table m image e less since is =
    let here : m ≡ length kept - 1 = omega (arith, less, since) in
    subst (λ (t : Table). IsImage t image) (ap (λ (t : List Table). get_or t m []) e ∙ get_or_append_left kept (table ∷ []) [] m less ∙ ap (λ k. get_or kept k []) here) is.left

added_moment : (kept moments : List Table) (table : Table) (m : ℕ) (image : Sectors) → moments ≡ kept ++ table ∷ [] → length kept ≤ m → IsImageAt moments m image → IsImage table image
added_moment kept moments table m image e more is =
    let many : length moments ≡ length (kept ++ table ∷ []) = ap length e in
    let pushed = length_push kept table in
    let reached = is.reached in
    let here : m ≡ length kept = omega (arith, many, pushed, reached, more) in
    subst (λ (t : Table). IsImage t image) (ap (λ (t : List Table). get_or t m []) e ∙ get_or_push kept table [] m (sym here)) is.left

reads_by : (kept handed : DiskSeen) (sectors : Sectors) (m : ℕ) (image : Sectors) → IsAtRest kept.moments sectors → length kept.moments ≤ m + 1 → IsImageAt handed.moments m image
    → (handed.moments ≡ kept.moments) ⊎ (handed.moments ≡ kept.moments ++ longer_table handed.sectors (present kept.moments) ∷ []) → (image ≡ sectors) ⊎ (image ≡ longer handed.sectors sectors)
reads_by kept handed sectors m image rest since is (inl e) = inl (rest image (last_moment kept.moments handed.moments m image e since is))
reads_by kept handed sectors m image rest since is (inr e) =
    let last = longer_table handed.sectors (present kept.moments) in
    elim (cases_lt m (length kept.moments)) [
      | inl less ↦ inl (rest image (before_moment kept.moments handed.moments last m image e less since is))
      | inr more ↦ inr (image_longer handed.sectors (present kept.moments) sectors image rest (added_moment kept.moments handed.moments last m image e more is))
    ]

pub handed_reads : (kept handed : DiskSeen) → IsHanded (Some kept) handed → (sectors : Sectors) → IsAtRest kept.moments sectors → (m : ℕ) (image : Sectors) → length kept.moments ≤ m + 1 → IsImageAt handed.moments m image
    → (image ≡ sectors) ⊎ (image ≡ longer handed.sectors sectors)
handed_reads kept handed h sectors rest m image since is = reads_by kept handed sectors m image rest since is h.hands.moments
