-- The verdicts of runs of blocks.
use Rattle.std.proofs.Common.{◌≡◌, inl, inr, ℕ, zero, suc, ◌+◌, ◌<◌, ◌≢◌, List, [], ◌∷◌, length, map, set, slice_get, slice_index_or, Some, None, ap, sym, subst, refl, ◌∙◌, arith}
use Rattle.std.proofs.lemmas.Bool.{cases_eq}
use Rattle.std.proofs.lemmas.List.{length-map}
use Rattle.std.proofs.lemmas.Option.{slice_get-get_or}
use Rattle.vd_base.specs.declared.geometry.StoreId.{StoreId}
use Rattle.vd_arm.specs.Arm.{PassSeen}
use Rattle.key_state.specs.Entries.{entry_at}
use Rattle.key_state.specs.declared.entry.Entry.{Entry}
use Rattle.block_verdict.specs.Fits.{BytesFit}
use Rattle.block_verdict.specs.Verdicts.{IsVerdict, IsCorrupt}
use Rattle.block_verdict.specs.declared.outcome.Verdict.{Verdict}
use Rattle.claim_table.specs.Passes.{Fitted, IsPassFor}
use Rattle.claim_table.specs.Runs.{ArePassesFor}
use Rattle.claim_table.specs.declared.view.Made.{Made}
use Rattle.vd_arm.specs.Transfers.{TellParts, part_of}
use Rattle.block_ops.specs.Transfers.{AreSound, NoneCorrupt}
use Rattle.block_ops.proofs.BlockParts.{pass_at, as_many_passes}
use Rattle.block_ops.proofs.Stamping.{told_bytes}

-- A verdict is that of the block at one place, and isn't corrupt where its bytes fit.
pub record IsJudged (store : StoreId) (first : ℕ) (entries : List Entry) (bytes : List ℕ) (i : ℕ) (verdict : Verdict) : Type 0 where
  pub exact : IsVerdict store (first + i) (entry_at entries i) (part_of bytes store.geometry.block_size i) verdict
  pub sound : BytesFit store (first + i) (entry_at entries i) (part_of bytes store.geometry.block_size i) → IsCorrupt verdict → ⊥

-- So are the first so many.
abbrev pub AreJudged : StoreId → ℕ → List Entry → List ℕ → ℕ → List Verdict → Type 0
AreJudged store first entries bytes many verdicts = (i : ℕ) (verdict : Verdict) → i < many → slice_get verdicts i ≡ Some verdict → IsJudged store first entries bytes i verdict

pub slice_get-set_other : {A : Type 0} (xs : List A) (i k : ℕ) (x : A) → k ≢ i → slice_get (set xs i x) k ≡ slice_get xs k
slice_get-set_other [] i k x apart = refl
slice_get-set_other (y ∷ ys) zero zero x apart = absurd (apart refl)
slice_get-set_other (y ∷ ys) zero (suc k) x apart = refl
slice_get-set_other (y ∷ ys) (suc i) zero x apart = refl
slice_get-set_other (y ∷ ys) (suc i) (suc k) x apart = slice_get-set_other ys i k x (λ same. apart (ap suc same))

slice_get-set_same : {A : Type 0} (xs : List A) (i : ℕ) (x y : A) → slice_get (set xs i x) i ≡ Some y → y ≡ x
slice_get-set_same [] i x y is = absurd (let no : None ≡ Some y = is in cc)
slice_get-set_same (z ∷ zs) zero x y is = cc
slice_get-set_same (z ∷ zs) (suc i) x y is = slice_get-set_same zs i x y is

-- One more is judged.
pub judged_more : (store : StoreId) (first : ℕ) (entries : List Entry) (bytes : List ℕ) (i : ℕ) (verdicts : List Verdict) (verdict : Verdict) → AreJudged store first entries bytes i verdicts → IsJudged store first entries bytes i verdict → AreJudged store first entries bytes (i + 1) (set verdicts i verdict)
judged_more store first entries bytes i verdicts verdict judged here k other le at = elim (cases_eq k i) [
  | inl same ↦
      let is : other ≡ verdict = slice_get-set_same verdicts i verdict other (subst (λ (n : ℕ). slice_get (set verdicts i verdict) n ≡ Some other) same at) in
      subst (λ (n : ℕ). IsJudged store first entries bytes n other) (sym same) (subst (IsJudged store first entries bytes i) (sym is) here)
  | inr apart ↦ judged k other (omega (arith, le, apart)) (sym (slice_get-set_other verdicts i k verdict apart) ∙ at)
]

-- Where each pass told fitting bytes and these were read, none is corrupt.
pub none_corrupt : {P : Type 0} (pass_seen : P → PassSeen) (made : Made) (store : StoreId) (first : ℕ) (entries : List Entry) (passes : List P) (bytes : List ℕ) (verdicts : List Verdict) → made.store ≡ store → Fitted made → ArePassesFor pass_seen made first entries passes → TellParts (map pass_seen passes) bytes → AreSound store first entries bytes verdicts → NoneCorrupt (length entries) verdicts
none_corrupt pass_seen made store first entries passes bytes verdicts same fitted are told sound i verdict le at corrupt =
    let as_many : length passes ≡ length entries = as_many_passes pass_seen made first entries passes are in
    let d : PassSeen = record { block = 0; size = 0; told = None } in
    let pass : PassSeen = slice_index_or (map pass_seen passes) i d in
    let here : slice_get (map pass_seen passes) i ≡ Some pass = slice_get-get_or (map pass_seen passes) i d (omega (arith, le, as_many, length-map passes pass_seen)) in
    let is : IsPassFor made (first + i) (entry_at entries i) pass = pass_at pass_seen made first entries passes i pass are here in
    let was = told_bytes made.store (first + i) (entry_at entries i) pass.told (is.fits fitted) in
    let size : pass.size ≡ store.geometry.block_size = is.sized ∙ ap (λ (s : StoreId). s.geometry.block_size) same in
    let part : was.0 ≡ part_of bytes store.geometry.block_size i = told i pass was.0 here was.1 ∙ ap (λ (n : ℕ). part_of bytes n i) size in
    let fits : BytesFit store (first + i) (entry_at entries i) was.0 = subst (λ (s : StoreId). BytesFit s (first + i) (entry_at entries i) was.0) same was.2 in
    sound i verdict le at (subst (BytesFit store (first + i) (entry_at entries i)) part fits) corrupt
