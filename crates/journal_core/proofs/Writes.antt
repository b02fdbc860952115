-- What is read after a write.
use Rattle.std.proofs.Common.{◌≡◌, inl, inr, ℕ, ◌+◌, ◌/◌, ◌<◌, List, [], length, Option, Some, None, Result, Ok, Err, OnOk, slice_set, get_or, set, refl, sym, ap, ◌∙◌, subst, arith, replicate}
use Rattle.std.proofs.lemmas.Bool.{cases_eq}
use Rattle.std.proofs.lemmas.List.{get_or-set_same, get_or-set_other}
use Rattle.key_state.specs.declared.entry.Entry.{Entry}
use Rattle.journal_layout.specs.declared.live.Live.{Live}
use Rattle.journal_layout.specs.Recovery.{Sectors, blocks_of, map_start, IsSlot}
use Rattle.vd_disk.specs.Disk.{DiskSeen, WhenTold, Syncs, told_written, sector_at, present, settled}
use Rattle.journal_core.specs.Parts.{slot_at}
use Rattle.journal_core.specs.Writes.{HasMapTo, ReadsZero, IsSynced}
use Rattle.journal_core.proofs.Changes.{present-push}

pub written_reads : (at : ℕ) (bytes : List ℕ) (told told' : Option Sectors) (t : Sectors) → told' ≡ told_written at bytes told → told' ≡ Some t → (s : Sectors) × (told ≡ Some s) × (slice_set s at bytes ≡ t)
written_reads at bytes None told' t is tells = cc
written_reads at bytes (Some s) told' t is tells = (s, refl, cc)

pub map_none : (live : Live) (entries : List Entry) (t : Sectors) → HasMapTo live entries 0 t
map_none live entries t k below early = absurd (omega (arith, early))

-- one sector of the map more
pub map_more : (live : Live) (entries : List Entry) (i at : ℕ) (bytes : List ℕ) (told told' : Option Sectors) (size : ℕ) → at ≡ map_start live + i → at < size
    → ((s : Sectors) → told ≡ Some s → length s ≡ size) → ((k : ℕ) → k / 256 ≡ i → IsSlot bytes (blocks_of live) k (slot_at entries k))
    → told' ≡ told_written at bytes told → WhenTold told (HasMapTo live entries i) → WhenTold told' (HasMapTo live entries (i + 1))
map_more live entries i at bytes told told' size here room sized slots is before t tells k below early =
    let was = written_reads at bytes told told' t is tells in
    let s = was.0 in
    let place = map_start live + k / 256 in
    elim (cases_eq place at) [
      | inl same ↦
          let sector : sector_at t place ≡ bytes = ap (λ (x : Sectors). get_or x place []) (sym was.2) ∙ ap (λ n. get_or (set s at bytes) n []) same ∙ get_or-set_same s at bytes [] (omega (arith, room, sized s was.1)) in
          subst (λ (x : List ℕ). IsSlot x (blocks_of live) k (slot_at entries k)) (sym sector) (slots k (omega (arith, same, here)))
      | inr other ↦
          let sector : sector_at t place ≡ sector_at s place = ap (λ (x : Sectors). get_or x place []) (sym was.2) ∙ get_or-set_other s at place bytes [] other in
          subst (λ (x : List ℕ). IsSlot x (blocks_of live) k (slot_at entries k)) (sym sector) (before s was.1 k below (omega (arith, early, other, here)))
    ]

pub zero_none : (from : ℕ) (t : Sectors) → ReadsZero from from t
zero_none from t i low high = absurd (omega (arith, low, high))

pub zero_more : (from at : ℕ) (bytes : List ℕ) (told told' : Option Sectors) (size : ℕ) → bytes ≡ replicate 512 0 → at < size → ((s : Sectors) → told ≡ Some s → length s ≡ size)
    → told' ≡ told_written at bytes told → WhenTold told (ReadsZero from at) → WhenTold told' (ReadsZero from (at + 1))
zero_more from at bytes told told' size zeros room sized is before t tells i low high =
    let was = written_reads at bytes told told' t is tells in
    let s = was.0 in
    elim (cases_eq i at) [
      | inl same ↦ ap (λ (x : Sectors). get_or x i []) (sym was.2) ∙ ap (λ n. get_or (set s at bytes) n []) same ∙ get_or-set_same s at bytes [] (omega (arith, room, sized s was.1)) ∙ zeros
      | inr other ↦ ap (λ (x : Sectors). get_or x i []) (sym was.2) ∙ get_or-set_other s at i bytes [] other ∙ before s was.1 i low (omega (arith, high, other))
    ]

-- what is read at the place of a write
pub reads_there : (at : ℕ) (bytes : List ℕ) (told told' : Option Sectors) (size : ℕ) (t : Sectors) → at < size → ((s : Sectors) → told ≡ Some s → length s ≡ size)
    → told' ≡ told_written at bytes told → told' ≡ Some t → sector_at t at ≡ bytes
reads_there at bytes told told' size t room sized is tells =
    let was = written_reads at bytes told told' t is tells in
    ap (λ (x : Sectors). get_or x at []) (sym was.2) ∙ get_or-set_same was.0 at bytes [] (omega (arith, room, sized was.0 was.1))

-- a sync that answered Ok leaves what is read
pub synced_after : {E : Type 0} (old new : DiskSeen) (result : Result (Unit {0}) E) (P : Sectors → Type 0) → Syncs old new result → WhenTold old.told P → OnOk result (IsSynced new P)
synced_after old new (Err e) P syncs before = tt
synced_after old new (Ok done) P syncs before = λ t is.
    let told : old.told ≡ Some t = sym syncs.told ∙ is in
    (ap present (syncs.settles t told) ∙ present-push old.moments (settled t), before t told)
