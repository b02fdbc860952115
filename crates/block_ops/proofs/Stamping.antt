-- Runs of blocks that are stamped, and their passes after a write.
use Rattle.std.proofs.Common.{◌≡◌, ◌⊎◌, inl, inr, ℕ, zero, suc, ◌+◌, ◌/◌, ◌<◌, List, [], ◌∷◌, length, map, slice_get, slice_index_or, Option, Some, None, ap, sym, subst, refl, ◌∙◌, arith}
use Rattle.std.proofs.lemmas.Bool.{cases_lt}
use Rattle.std.proofs.lemmas.List.{length-map}
use Rattle.std.proofs.lemmas.Option.{slice_get_within, slice_get-get_or}
use Rattle.vd_base.specs.Geometry.{sectors_of, address_of}
use Rattle.vd_base.specs.Key.{next}
use Rattle.vd_base.specs.declared.geometry.StoreId.{StoreId}
use Rattle.vd_arm.specs.Arm.{PassSeen}
use Rattle.key_state.specs.Entries.{entry_at, ended}
use Rattle.key_state.specs.declared.entry.Entry.{Entry}
use Rattle.key_state.specs.declared.entry.Entry.TheVariants.{Settled, Pending, Bad}
use Rattle.sector_stamp.specs.Image.{IsImage}
use Rattle.sector_stamp.specs.Block.{sector_of, IsStamped}
use Rattle.block_verdict.specs.Fits.{BytesFit}
use Rattle.block_verdict.specs.Verdicts.{newest_of}
use Rattle.claim_table.specs.Sums.{Each}
use Rattle.claim_table.specs.Passes.{ToldFits, IsPassFor}
use Rattle.claim_table.specs.Runs.{ArePassesFor}
use Rattle.claim_table.specs.declared.view.Made.{Made}
use Rattle.block_ops.specs.Runs.{IsBegun}
use Rattle.vd_arm.specs.Transfers.{SameBlocks, TookParts, TornParts, part_of}
use Rattle.block_ops.specs.Transfers.{ArePassesOf, AreStamps, WroteStamps, MayHaveStamps}
use Rattle.block_ops.proofs.BlockParts.{pass_at, passes_from, as_many_passes, each_at}

-- One more block is stamped.
pub stamps_more : (store : StoreId) (first : ℕ) (entries : List Entry) (i key : ℕ) (before after : List ℕ) → AreStamps store first entries i before → key ≡ newest_of (entry_at entries i) → IsStamped store (first + i) key (part_of after store.geometry.block_size i) → ((j : ℕ) → j < i → part_of after store.geometry.block_size j ≡ part_of before store.geometry.block_size j) → AreStamps store first entries (i + 1) after
stamps_more store first entries i key before after stamped is here below j le = elim (cases_lt j i) [
  | inl low ↦ subst (IsStamped store (first + j) (newest_of (entry_at entries j))) (sym (below j low)) (stamped j low)
  | inr high ↦
      let e : i ≡ j = omega arith in
      subst (λ (n : ℕ). IsStamped store (first + n) (newest_of (entry_at entries n)) (part_of after store.geometry.block_size n)) e
      (subst (λ (k : ℕ). IsStamped store (first + i) k (part_of after store.geometry.block_size i)) is here)
]

-- A good write of stamped blocks leaves each pass with its stamped block.
pub took_stamps : (store : StoreId) (first : ℕ) (entries : List Entry) (bytes : List ℕ) (old new : List PassSeen) → ArePassesOf store first old → length old ≡ length entries → AreStamps store first entries (length entries) bytes → TookParts bytes old new → WroteStamps store first entries old new
took_stamps store first entries bytes old new are many stamps took i before after was at now-at told =
    let new-bytes = took i before after was at now-at told in
    let within : i < length old = slice_get_within old i before at in
    let stamped : IsStamped store (first + i) (newest_of (entry_at entries i)) (part_of bytes store.geometry.block_size i) = stamps i (omega (arith, within, many)) in
    let sized : before.size ≡ store.geometry.block_size = (are i before at).1 in
    let is : new-bytes.0 ≡ part_of bytes store.geometry.block_size i = new-bytes.2 ∙ ap (λ (n : ℕ). part_of bytes n i) sized in
    (new-bytes.0, new-bytes.1, subst (IsStamped store (first + i) (newest_of (entry_at entries i))) (sym is) stamped)

-- A failed one leaves each of its sectors as it was or stamped.
pub torn_stamps : (store : StoreId) (first : ℕ) (entries : List Entry) (bytes : List ℕ) (old new : List PassSeen) → ArePassesOf store first old → length old ≡ length entries → AreStamps store first entries (length entries) bytes → TornParts bytes old new → MayHaveStamps store first entries old new
torn_stamps store first entries bytes old new are many stamps torn i before after was at now-at told =
    let new-bytes = torn i before after was at now-at told in
    let within : i < length old = slice_get_within old i before at in
    let stamped : IsStamped store (first + i) (newest_of (entry_at entries i)) (part_of bytes store.geometry.block_size i) = stamps i (omega (arith, within, many)) in
    let sized : before.size ≡ store.geometry.block_size = (are i before at).1 in (
      new-bytes.0,
      new-bytes.1,
      λ (j : ℕ) le.
          let in-pass : j < before.size / 512 = subst (λ (n : ℕ). j < n / 512) (sym sized) le in
          elim (new-bytes.2 j in-pass) [
            | inl kept ↦ inl kept
            | inr written ↦
                let is : sector_of new-bytes.0 j ≡ sector_of (part_of bytes store.geometry.block_size i) j = written ∙ ap (λ (n : ℕ). sector_of (part_of bytes n i) j) sized in
                inr (subst (IsImage store.name (address_of store.geometry (first + i) j) (newest_of (entry_at entries i))) (sym is) (stamped j le))
          ],
    )

-- what a begun entry permits of stamped bytes, and of bytes of which each sector is old or stamped
stamped_fits_ended : (store : StoreId) (block : ℕ) (entry : Entry) (bytes : List ℕ) → IsBegun entry → IsStamped store block (newest_of entry) bytes → BytesFit store block (ended entry) bytes
stamped_fits_ended store block (Settled key) bytes begun stamped = absurd begun
stamped_fits_ended store block (Pending old new) bytes begun stamped = λ (j : ℕ) le. inr (stamped j le)
stamped_fits_ended store block Bad bytes begun stamped = absurd begun

torn_fits : (store : StoreId) (block : ℕ) (entry : Entry) (was now : List ℕ) → IsBegun entry → BytesFit store block entry was → ((j : ℕ) → j < sectors_of store.geometry → (sector_of now j ≡ sector_of was j) ⊎ IsImage store.name (address_of store.geometry block j) (newest_of entry) (sector_of now j)) → BytesFit store block entry now
torn_fits store block (Settled key) was now begun fits torn = absurd begun
torn_fits store block (Pending old new) was now begun fits torn = λ (j : ℕ) le. elim (torn j le) [
  | inl kept ↦ subst (λ (s : List ℕ). ((old ≡ 0) ⊎ IsImage store.name (address_of store.geometry block j) old s) ⊎ ((new ≡ 0) ⊎ IsImage store.name (address_of store.geometry block j) new s)) (sym kept) (fits j le)
  | inr image ↦ inr (inr image)
]
torn_fits store block Bad was now begun fits torn = absurd begun

-- the bytes that fit are told
pub told_bytes : (store : StoreId) (block : ℕ) (entry : Entry) (told : Option (List ℕ)) → ToldFits store block entry told → (bytes : List ℕ) × (told ≡ Some bytes) × BytesFit store block entry bytes
told_bytes store block entry None fits = absurd fits
told_bytes store block entry (Some bytes) fits = (bytes, refl, fits)

pub bytes_told : (store : StoreId) (block : ℕ) (entry : Entry) (told : Option (List ℕ)) (bytes : List ℕ) → told ≡ Some bytes → BytesFit store block entry bytes → ToldFits store block entry told
bytes_told store block entry told bytes is fits = subst (ToldFits store block entry) (sym is) fits

entry_at-map : (entries : List Entry) (i : ℕ) → i < length entries → entry_at (map ended entries) i ≡ ended (entry_at entries i)
entry_at-map [] i within = refl
entry_at-map (e ∷ es) zero within = refl
entry_at-map (e ∷ es) (suc i) within = entry_at-map es i (omega (arith, within))

module _ {P : Type 0} (pass_seen : P → PassSeen) (made : Made) where
  -- the pass of a block after a write, whose bytes fit another entry where those from before fitted
  pass_after : (block : ℕ) (entry next : Entry) (before after : PassSeen) → IsPassFor made block entry before → (after.block ≡ before.block) × (after.size ≡ before.size) → ((was : List ℕ) → before.told ≡ Some was → BytesFit made.store block entry was → (now : List ℕ) × (after.told ≡ Some now) × BytesFit made.store block next now) → IsPassFor made block next after
  pass_after block entry next before after is same leads = record {
    of = same.0 ∙ is.of;
    sized = same.1 ∙ is.sized;
    fits = λ fitted.
        let was = told_bytes made.store block entry before.told (is.fits fitted) in
        let now = leads was.0 was.1 was.2 in
        bytes_told made.store block next after.told now.0 now.1 now.2;
  }

  -- there is a pass where another list, as long, has one
  other_at : (old new : List PassSeen) (i : ℕ) (after : PassSeen) → length new ≡ length old → slice_get new i ≡ Some after → (before : PassSeen) × (slice_get old i ≡ Some before)
  other_at old new i after many at = (slice_index_or old i after, slice_get-get_or old i after (omega (arith, many, slice_get_within new i after at)))

  -- After a good write the passes fit the ended entries.
  pub passes_ended : (first : ℕ) (entries : List Entry) (old new : List P) → Each IsBegun entries → ArePassesFor pass_seen made first entries old → SameBlocks (map pass_seen old) (map pass_seen new) → WroteStamps made.store first entries (map pass_seen old) (map pass_seen new) → ArePassesFor pass_seen made first (map ended entries) new
  passes_ended first entries old new begun are same wrote =
      let as_many : length old ≡ length entries = as_many_passes pass_seen made first entries old are in
      let kept : length new ≡ length old = omega (arith, same.many, length-map new pass_seen, length-map old pass_seen) in
      passes_from pass_seen made first (map ended entries) new (omega (arith, as_many, kept, length-map entries ended)) (λ (i : ℕ) (after : PassSeen) at.
      let found = other_at (map pass_seen old) (map pass_seen new) i after same.many at in
      let before : PassSeen = found.0 in
      let is : IsPassFor made (first + i) (entry_at entries i) before = pass_at pass_seen made first entries old i before are found.1 in
      let within : i < length entries = omega (arith, slice_get_within (map pass_seen new) i after at, length-map new pass_seen, kept, as_many) in
      let begun_here : IsBegun (entry_at entries i) = each_at IsBegun entries i Bad within begun in
      subst (λ (e : Entry). IsPassFor made (first + i) e after) (sym (entry_at-map entries i within))
      (pass_after (first + i) (entry_at entries i) (ended (entry_at entries i)) before after is (same.each i before after found.1 at) (λ (was : List ℕ) told fits.
      let now = wrote i before after was found.1 at told in
      (now.0, now.1, stamped_fits_ended made.store (first + i) (entry_at entries i) now.0 begun_here now.2))))

  -- After a failed one they fit the pending entries.
  pub passes_kept : (first : ℕ) (entries : List Entry) (old new : List P) → Each IsBegun entries → ArePassesFor pass_seen made first entries old → SameBlocks (map pass_seen old) (map pass_seen new) → MayHaveStamps made.store first entries (map pass_seen old) (map pass_seen new) → ArePassesFor pass_seen made first entries new
  passes_kept first entries old new begun are same torn =
      let as_many : length old ≡ length entries = as_many_passes pass_seen made first entries old are in
      let kept : length new ≡ length old = omega (arith, same.many, length-map new pass_seen, length-map old pass_seen) in
      passes_from pass_seen made first entries new (omega (arith, as_many, kept)) (λ (i : ℕ) (after : PassSeen) at.
      let found = other_at (map pass_seen old) (map pass_seen new) i after same.many at in
      let before : PassSeen = found.0 in
      let is : IsPassFor made (first + i) (entry_at entries i) before = pass_at pass_seen made first entries old i before are found.1 in
      let within : i < length entries = omega (arith, slice_get_within (map pass_seen new) i after at, length-map new pass_seen, kept, as_many) in
      let begun_here : IsBegun (entry_at entries i) = each_at IsBegun entries i Bad within begun in
      pass_after (first + i) (entry_at entries i) (entry_at entries i) before after is (same.each i before after found.1 at) (λ (was : List ℕ) told fits.
      let now = torn i before after was found.1 at told in
      (now.0, now.1, torn_fits made.store (first + i) (entry_at entries i) was now.0 begun_here fits now.2)))
