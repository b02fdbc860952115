-- The bytes of a store's passes, one behind the other, fit where what each pass tells does.
use Rattle.std.proofs.Common.{◌≡◌, ◌∙◌, sym, ap, subst, arith, append_assoc, ℕ, zero, suc, ◌+◌, ◌*◌, ◌<◌, List, [], ◌∷◌, ◌++◌, length, map, get_or, take, drop, replicate}
use Rattle.std.specs.Prelude.{Option, Some, None, slice_get, unwrap_or}
use Rattle.std.specs.List.{concat}
use Rattle.std.proofs.lemmas.List.{length-map, get_or-map}
use Rattle.std.proofs.Math.Nat.{suc-mul}
use Rattle.std.proofs.Math.Seq.{drop-append-add, take-append_seam}
use Rattle.std.proofs.lemmas.Option.{slice_get-get_or}
use Rattle.vd_base.specs.declared.geometry.StoreId.{StoreId}
use Rattle.vd_arm.specs.Arm.{PassSeen}
use Rattle.vd_yard.specs.Contents.{file_block, told_bytes}
use Rattle.key_state.specs.Entries.{entry_at}
use Rattle.key_state.specs.declared.entry.Entry.{Entry}
use Rattle.block_verdict.specs.Fits.{BytesFit}
use Rattle.claim_table.specs.Sums.{Each}
use Rattle.run_totals.proofs.Lists.{all_from, each_of_all}
use Rattle.plan_totals.specs.Sentences.{TellsFit}

-- The block at a place of blocks of one length that stand one behind the other.
nth_block : (size : ℕ) (blocks : List (List ℕ)) (i : ℕ) → Each (λ (b : List ℕ). length b ≡ size) blocks → i < length blocks → file_block size i (concat blocks) ≡ get_or blocks i []
nth_block size [] i each within = absurd (omega (arith, within))
nth_block size (b ∷ blocks) zero each within =
    let none : 0 * size ≡ 0 = omega arith in
    ap (λ (k : ℕ). take size (drop k (b ++ concat blocks) ++ replicate size 0)) none
    ∙ ap (λ (l : List ℕ). take size l) (append_assoc b (concat blocks) (replicate size 0))
    ∙ ap (λ (n : ℕ). take n (b ++ (concat blocks ++ replicate size 0))) (sym each.0) ∙ take-append_seam b (concat blocks ++ replicate size 0)
nth_block size (b ∷ blocks) (suc i) each within =
    let first : suc i * size ≡ length b + i * size = omega (arith, suc-mul i size, each.0) in
    ap (λ (k : ℕ). take size (drop k (b ++ concat blocks) ++ replicate size 0)) first
    ∙ ap (λ (l : List ℕ). take size (l ++ replicate size 0)) (drop-append-add b (concat blocks) (i * size))
    ∙ nth_block size blocks i each.1 (omega (arith, within))

abbrev bytes_of : PassSeen → List ℕ
bytes_of pass = unwrap_or pass.told []

long_of : (id : StoreId) (block : ℕ) (entry : Entry) (told : Option (List ℕ)) → TellsFit id block entry told → length (unwrap_or told []) ≡ id.geometry.block_size
long_of id block entry None fits = absurd fits
long_of id block entry (Some bytes) fits = fits.0

fits_of : (id : StoreId) (block : ℕ) (entry : Entry) (told : Option (List ℕ)) → TellsFit id block entry told → BytesFit id block entry (unwrap_or told [])
fits_of id block entry None fits = absurd fits
fits_of id block entry (Some bytes) fits = fits.1

all_long : (size : ℕ) (passes : List PassSeen) → Each (λ (pass : PassSeen). length (bytes_of pass) ≡ size) passes → Each (λ (b : List ℕ). length b ≡ size) (map bytes_of passes)
all_long size [] each = tt
all_long size (pass ∷ passes) each = (each.0, all_long size passes each.1)

pub told_fit : (id : StoreId) (entries : List Entry) (passes : List PassSeen) → ((block : ℕ) (pass : PassSeen) → slice_get passes block ≡ Some pass → TellsFit id block (entry_at entries block) pass.told)
    → (block : ℕ) → block < length passes → BytesFit id block (entry_at entries block) (file_block id.geometry.block_size block (told_bytes passes))
told_fit id entries passes fit block within =
    let size : ℕ = id.geometry.block_size in
    let each = each_of_all (λ (pass : PassSeen). length (bytes_of pass) ≡ size) passes (all_from (λ (pass : PassSeen). length (bytes_of pass) ≡ size) passes (λ i pass at. long_of id i (entry_at entries i) pass.told (fit i pass at))) in
    let none : PassSeen = record { block = 0; size = 0; told = None } in
    let pass : PassSeen = get_or passes block none in
    let there : slice_get passes block ≡ Some pass = slice_get-get_or passes block none within in
    let inside : block < length (map bytes_of passes) = omega (arith, within, length-map passes bytes_of) in
    let is : file_block size block (told_bytes passes) ≡ bytes_of pass = nth_block size (map bytes_of passes) block (all_long size passes each) inside ∙ get_or-map bytes_of passes block none [] within in
    subst (λ (l : List ℕ). BytesFit id block (entry_at entries block) l) (sym is) (fits_of id block (entry_at entries block) pass.told (fit block pass there))
