-- The disks that are kept once one is put.
use Rattle.std.proofs.Common.{◌≡◌, ℕ, Bool, true, false, cond, List, Option, Some, None, refl, sym, ◌∙◌, ap, subst}
use Rattle.std.specs.Str.{bytes_eq}
use Rattle.vd_disk.specs.Disk.{DiskSeen}
use Rattle.vd_disk.specs.MemDisk.{mem_disk_seen}
use Rattle.vd_disk.specs.declared.memory.MemDisk.{MemDisk}
use Rattle.std.proofs.lemmas.Slice.Eq.{bytes_eq-Decides}
use Rattle.std.specs.Prelude.{IsSome}
use Rattle.vd_yard.specs.Kept.{Kept, kept_at, keep_at, keep_at_by, keep_at_cond, kept_at_kept_of, kept_of_same}
use Rattle.vd_yard.specs.MemYard.{disk_seen, disks_in}

disk_cond : (b : Bool) (d : MemDisk) (o : Option (Option MemDisk)) → disk_seen (cond b (Some (Some d)) o) ≡ cond b (Some (mem_disk_seen d)) (disk_seen o)
disk_cond true d o = refl
disk_cond false d o = refl

pub disks_kept : (disks : Kept (Option MemDisk)) (path : List ℕ) (disk : MemDisk) → disks_in (keep_at true disks path (Some disk)) ≡ keep_at true (disks_in disks) path (mem_disk_seen disk)
disks_kept disks path disk =
    keep_at_by (λ q. disk_seen (kept_at disks q)) (λ q. disk_seen (kept_at (keep_at true disks path (Some disk)) q)) path (mem_disk_seen disk) (λ q.
    ap disk_seen (keep_at_cond disks path (Some disk) q) ∙ disk_cond (bytes_eq path q) disk (kept_at disks q))

-- a disk that was found is seen as the kept one
pub disk_told : (disks : Kept (Option MemDisk)) (path path' : List ℕ) (disk : MemDisk) (kept : DiskSeen) → path' ≡ path → kept_at disks path' ≡ Some (Some disk) →
    kept_at (disks_in disks) path ≡ Some kept → mem_disk_seen disk ≡ kept
disk_told disks path path' disk kept same found told =
    let here : kept_at disks path ≡ Some (Some disk) = ap (λ (q : List ℕ). kept_at disks q) (sym same) ∙ found in
    let seen : kept_at (disks_in disks) path ≡ Some (mem_disk_seen disk) = kept_at_kept_of (λ q. disk_seen (kept_at disks q)) path ∙ ap disk_seen here in
    cc

-- nor is none kept where one was found
pub disk_found : (disks : Kept (Option MemDisk)) (path path' : List ℕ) (disk : MemDisk) → path' ≡ path → kept_at disks path' ≡ Some (Some disk) → kept_at (disks_in disks) path ≡ None → ⊥
disk_found disks path path' disk same found none =
    let here : kept_at disks path ≡ Some (Some disk) = ap (λ (q : List ℕ). kept_at disks q) (sym same) ∙ found in
    let seen : kept_at (disks_in disks) path ≡ Some (mem_disk_seen disk) = kept_at_kept_of (λ q. disk_seen (kept_at disks q)) path ∙ ap disk_seen here in
    cc

-- what is kept at a path, by its entry
pub seen_at : (disks : Kept (Option MemDisk)) (path path' : List ℕ) (entry : Option (Option MemDisk)) → path' ≡ path → kept_at disks path' ≡ entry → kept_at (disks_in disks) path ≡ disk_seen entry
seen_at disks path path' entry same found =
    kept_at_kept_of (λ q. disk_seen (kept_at disks q)) path ∙ ap disk_seen (ap (λ (q : List ℕ). kept_at disks q) (sym same) ∙ found)

-- an entry without a disk, where there is none
none_cond : (b : Bool) (o : Option (Option MemDisk)) → (b ≡ true → o ≡ None) → disk_seen (cond b (Some None) o) ≡ disk_seen o
none_cond true o none = sym (ap disk_seen (none refl))
none_cond false o none = refl

pub disks_made : (disks : Kept (Option MemDisk)) (path : List ℕ) → kept_at disks path ≡ None → disks_in (keep_at true disks path None) ≡ disks_in disks
disks_made disks path none =
    kept_of_same (λ q. disk_seen (kept_at disks q)) (λ q. disk_seen (kept_at (keep_at true disks path None) q)) (λ q.
    ap disk_seen (keep_at_cond disks path None q)
    ∙ none_cond (bytes_eq path q) (kept_at disks q) (λ same.
    ap (λ (p : List ℕ). kept_at disks p) (sym ((bytes_eq-Decides path q).0 same)) ∙ none))

-- A disk that was kept is there still once one is put.
either_seen : (b : Bool) (d : MemDisk) (o : Option (Option MemDisk)) → IsSome (disk_seen o) → IsSome (disk_seen (cond b (Some (Some d)) o))
either_seen true d o some = refl
either_seen false d o some = some

pub disk_stays : (path : List ℕ) (disk : MemDisk) (disks new : Kept (Option MemDisk)) → new ≡ keep_at true disks path (Some disk) → (q : List ℕ) → IsSome (disk_seen (kept_at disks q)) → IsSome (disk_seen (kept_at new q))
disk_stays path disk disks new e q some =
    subst (λ (k : Kept (Option MemDisk)). IsSome (disk_seen (kept_at k q))) (sym e)
    (subst (λ (o : Option (Option MemDisk)). IsSome (disk_seen o)) (sym (keep_at_cond disks path (Some disk) q)) (either_seen (bytes_eq path q) disk (kept_at disks q) some))

-- The same disks are kept, so the same are there.
pub disks_stay : (disks new : Kept (Option MemDisk)) → disks_in new ≡ disks_in disks → (q : List ℕ) → IsSome (disk_seen (kept_at disks q)) → IsSome (disk_seen (kept_at new q))
disks_stay disks new e q some =
    let was = kept_at_kept_of (λ q. disk_seen (kept_at disks q)) q in
    let is = kept_at_kept_of (λ q. disk_seen (kept_at new q)) q in
    subst (λ (o : Option DiskSeen). IsSome o) (sym was ∙ ap (λ (k : Kept DiskSeen). kept_at k q) (sym e) ∙ is) some
