-- What a disk in memory is that is handed out anew.
use Rattle.std.proofs.Common.{◌≡◌, inl, inr, ℕ, ◌-◌, ◌<◌, ◌≤◌, List, [], ◌∷◌, ◌++◌, length, get_or, replicate, Option, Some, None, refl, sym, ap, ◌∙◌, subst, arith}
use Rattle.std.specs.Prelude.{Contains}
use Rattle.std.proofs.lemmas.List.{append-nil, get_or-map, length-map, length-replicate}
use Rattle.std.proofs.lemmas.List.FromFn.{fill_by_all}
use Rattle.vd_disk.specs.Disk.{DiskSeen, IsImage, Sectors, lengthened, settled, told_longer, zeros}
use Rattle.vd_disk.specs.MemDisk.{at_rest, mem_disk_seen}
use Rattle.vd_disk.specs.declared.memory.MemDisk.{MemDisk}
use Rattle.vd_yard.specs.Hands.{HandsOut, Longer, Made}

one_held : (x y : List ℕ) → Contains (x ∷ []) y → y ≡ x
one_held x y has =
    let first : has.0 ≡ 0 = omega (arith, has.1) in
    sym has.2 ∙ ap (λ k. get_or (x ∷ []) k y) first

-- A settled table has one image.
pub settled_rests : (sectors image : Sectors) → IsImage (settled sectors) image → image ≡ sectors
settled_rests sectors image is =
    let many : length (settled sectors) ≡ length sectors = length-map sectors (λ sector. sector ∷ []) in
    fill_by_all (λ k. get_or sectors k []) image (length sectors) [] (is.size ∙ many) (λ i within.
    let row : get_or (settled sectors) i [] ≡ get_or sectors i [] ∷ [] = get_or-map (λ sector. sector ∷ []) sectors i [] [] within in
    one_held (get_or sectors i []) (get_or image i []) (subst (λ (h : Sectors). Contains h (get_or image i [])) row (is.each i (omega (arith, within, many)))))
    ∙ sym (fill_by_all (λ k. get_or sectors k []) sectors (length sectors) [] refl (λ i within. refl))

same_told : (a b : Sectors) → ◌≡◌ {A = Option Sectors} (Some a) (Some b) → a ≡ b
same_told a b e = cc

rests_at : (sectors told image : Sectors) → ◌≡◌ {A = Option Sectors} (Some sectors) (Some told) → IsImage (settled sectors) image → image ≡ told
rests_at sectors told image same is = settled_rests sectors image is ∙ same_told sectors told same

made : (size : ℕ) (failing : List ℕ) → Made (at_rest (replicate size zeros) failing)
made size failing = record {
  faults = refl;
  reads = λ told is. sym (same_told (replicate size zeros) told is) ∙ ap (λ n. replicate n zeros) (sym (length-replicate size zeros));
  rests = λ told is image left. rests_at (replicate size zeros) told image is left;
  fresh = omega arith;
}

pub made_hands : (o : Option DiskSeen) (size : ℕ) (failing : List ℕ) (handed : DiskSeen) → o ≡ None → handed ≡ at_rest (replicate size zeros) failing → HandsOut o handed
made_hands o size failing handed none is =
    subst (λ (x : Option DiskSeen). HandsOut x handed) (sym none) (subst Made (sym is) (made size failing))

kept_same : (disk : MemDisk) → Longer (mem_disk_seen disk) (mem_disk_seen disk)
kept_same disk = record {
  sectors = omega arith;
  reads =
      let none : length disk.content.items - length disk.content.items ≡ 0 = omega arith in
      ap (λ (l : Sectors). Some l) (sym (append-nil disk.content.items) ∙ ap (λ n. disk.content.items ++ replicate n zeros) (sym none));
  faults = refl;
  sure = refl;
  moments = inl refl;
}

pub same_hands : (o : Option DiskSeen) (kept : MemDisk) (handed : DiskSeen) → o ≡ Some (mem_disk_seen kept) → handed ≡ mem_disk_seen kept → HandsOut o handed
same_hands o kept handed found is =
    subst (λ (x : Option DiskSeen). HandsOut x handed) (sym found) (subst (λ (d : DiskSeen). Longer (mem_disk_seen kept) d) (sym is) (kept_same kept))

made_longer : (size : ℕ) (kept : DiskSeen) → kept.sectors < size → Longer kept (lengthened size kept)
made_longer size kept less = record { sectors = omega (arith, less); reads = refl; faults = refl; sure = refl; moments = inr refl }

pub longer_hands : (o : Option DiskSeen) (size : ℕ) (kept copy handed : DiskSeen) → o ≡ Some kept → copy ≡ kept → handed ≡ lengthened size copy → copy.sectors < size → HandsOut o handed
longer_hands o size kept copy handed found same is less =
    subst (λ (x : Option DiskSeen). HandsOut x handed) (sym found)
    (subst (λ (d : DiskSeen). Longer d handed) same (subst (λ (d : DiskSeen). Longer copy d) (sym is) (made_longer size copy less)))
