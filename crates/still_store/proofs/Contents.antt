-- The bytes of a store's passes, given back as they came.
use Rattle.std.proofs.Common.{◌≡◌, ℕ, zero, suc, ◌+◌, ◌*◌, ◌<◌, ◌≤◌, Bool, true, false, IsTrue, List, [], ◌∷◌, ◌++◌, length, take, drop, map, get_or, replicate, refl, sym, ◌∙◌, ap, subst, arith, rules, append_assoc}
use Rattle.std.specs.Prelude.{Option, Some, None, slice_get, unwrap_or}
use Rattle.std.specs.List.{concat}
use Rattle.std.proofs.lemmas.List.{length-take-le, length-append, length-map, get_or-map}
use Rattle.std.proofs.Math.Seq.{take-append_seam, drop-append-add}
use Rattle.std.proofs.Math.Nat.{suc-mul}
use Rattle.std.proofs.lemmas.List.{length-replicate}
use Rattle.std.proofs.lemmas.Option.{slice_get_within, get_or_from_slice_get, slice_get-get_or}
use Rattle.vd_arm.specs.Arm.{PassSeen}
use Rattle.plan_types.specs.declared.store.StorePlan.{StorePlan}
use Rattle.vd_yard.specs.Kept.{Kept, kept_at, keep_at, keep_at_here, keep_at_other, keep_at_untold, bytes_at}
use Rattle.vd_yard.specs.Yard.{Tells}
use Rattle.vd_yard.specs.Contents.{file_block, AreBlocks, TellFile, told_bytes}
use Rattle.still_store.specs.Frame.{BlocksStay}

-- Each of these has so many bytes.
AllLong : ℕ → List (List ℕ) → Type 0
AllLong size [] = Unit {0}
AllLong size (b ∷ bs) = (length b ≡ size) × AllLong size bs

front_of : (b rest zeros : List ℕ) (size : ℕ) → length b ≡ size → take size ((b ++ rest) ++ zeros) ≡ b
front_of b rest zeros size e =
    ap (λ l. take size l) (append_assoc b rest zeros) ∙ (ap (λ n. take n (b ++ (rest ++ zeros))) (sym e) ∙ take-append_seam b (rest ++ zeros))

-- the block at a place of blocks that stand one behind the other
nth_block : (size : ℕ) (blocks : List (List ℕ)) (i : ℕ) → AllLong size blocks → i < length blocks → file_block size i (concat blocks) ≡ get_or blocks i []
unfolding AllLong
nth_block size [] i p within = absurd (omega (arith, within))
nth_block size (b ∷ bs) zero p within =
    let e : 0 * size ≡ 0 = omega arith in
    ap (λ k. take size (drop k (b ++ concat bs) ++ replicate size 0)) e ∙ front_of b (concat bs) (replicate size 0) size p.0
nth_block size (b ∷ bs) (suc i) p within =
    let q : suc i * size ≡ size + i * size = omega (arith, suc-mul i size) in
    let e : suc i * size ≡ length b + i * size = q ∙ ap (λ n. n + i * size) (sym p.0) in
    ap (λ k. take size (drop k (b ++ concat bs) ++ replicate size 0)) e
    ∙ (ap (λ l. take size (l ++ replicate size 0)) (drop-append-add b (concat bs) (i * size)) ∙ nth_block size bs i p.1 (omega (arith, within)))

abbrev bytes_of : PassSeen → List ℕ
bytes_of pass = unwrap_or pass.told []

long_block : (size i : ℕ) (bytes : List ℕ) → length (file_block size i bytes) ≡ size
long_block size i bytes =
    let room : size ≤ length (drop (i * size) bytes ++ replicate size 0) = omega (arith, length-append (drop (i * size) bytes) (replicate size 0), length-replicate {A = ℕ} size 0) in
    length-take-le size (drop (i * size) bytes ++ replicate size 0) room

later : (p : PassSeen) (ps : List PassSeen) (i : ℕ) (pass : PassSeen) → slice_get ps i ≡ Some pass → slice_get (p ∷ ps) (i + 1) ≡ Some pass
later p ps i pass is =
    let within = slice_get_within ps i pass is in
    let e : i + 1 ≡ suc i = omega arith in
    let far : i + 1 < length (p ∷ ps) = omega (arith, within) in
    slice_get-get_or (p ∷ ps) (i + 1) pass far ∙ ap (λ (x : PassSeen). Some x) (ap (λ n. get_or (p ∷ ps) n pass) e ∙ get_or_from_slice_get ps i pass pass is)

all_long : (size first : ℕ) (bytes : List ℕ) (passes : List PassSeen) → ((i : ℕ) (pass : PassSeen) → slice_get passes i ≡ Some pass → pass.told ≡ Some (file_block size (first + i) bytes)) → AllLong size (map bytes_of passes)
unfolding AllLong
all_long size first bytes [] tell = tt
all_long size first bytes (p ∷ ps) tell = (
  (let told : p.told ≡ Some (file_block size (first + 0) bytes) = tell 0 p refl in
      ap (λ (o : Option (List ℕ)). length (unwrap_or o [])) told ∙ long_block size (first + 0) bytes),
  all_long size (first + 1) bytes ps (λ i pass is.
      let there : slice_get (p ∷ ps) (i + 1) ≡ Some pass = later p ps i pass is in
      let same : first + (i + 1) ≡ first + 1 + i = omega arith in
      tell (i + 1) pass there ∙ ap (λ n. Some (file_block size n bytes)) same),
)

block_told : (size : ℕ) (bytes : List ℕ) (passes : List PassSeen) (i : ℕ) → ((i : ℕ) (pass : PassSeen) → slice_get passes i ≡ Some pass → pass.told ≡ Some (file_block size i bytes)) → i < length passes → file_block size i (told_bytes passes) ≡ file_block size i bytes
block_told size bytes passes i tell within =
    let many : length (map bytes_of passes) ≡ length passes = length-map passes bytes_of in
    let inside : i < length (map bytes_of passes) = omega (arith, many, within) in
    let each : (i : ℕ) (pass : PassSeen) → slice_get passes i ≡ Some pass → pass.told ≡ Some (file_block size (0 + i) bytes) = λ i pass is. tell i pass is ∙ (let e : i ≡ 0 + i = omega arith in ap (λ n. Some (file_block size n bytes)) e) in
    let long = all_long size 0 bytes passes each in
    let none : PassSeen = record { block = 0; size = 0; told = None } in
    let pass = get_or passes i none in
    let there : slice_get passes i ≡ Some pass = slice_get-get_or passes i none within in
    nth_block size (map bytes_of passes) i long inside
    ∙ (get_or-map bytes_of passes i none [] within ∙ ap (λ (o : Option (List ℕ)). unwrap_or o []) (tell i pass there))

bytes_kept : (tells : Bool) (kept : Kept (List ℕ)) (path bytes : List ℕ) → tells ≡ true → bytes_at (keep_at tells kept path bytes) path ≡ bytes
bytes_kept tells kept path bytes e = ap (λ (o : Option (List ℕ)). unwrap_or o []) (keep_at_here tells kept path bytes e)

stay_by : (store : StorePlan) (old : Kept (List ℕ)) (tells : Bool) (passes : List PassSeen) (b : Bool) → tells ≡ b → AreBlocks store.id.geometry passes → (IsTrue tells → TellFile store.id.geometry (bytes_at old store.path) passes) → BlocksStay store old (keep_at tells old store.path (told_bytes passes))
stay_by store old tells passes true e blocks tell =
    let told = tell (search (rules, e)) in record {
      blocks = λ block within.
          ap (λ (l : List ℕ). file_block store.id.geometry.block_size block l) (bytes_kept tells old store.path (told_bytes passes) e)
          ∙ block_told store.id.geometry.block_size (bytes_at old store.path) passes block told (omega (arith, blocks.as_many, within));
      others = λ path other. keep_at_other tells old store.path (told_bytes passes) path other;
    }
stay_by store old tells passes false e blocks tell =
    let same : (q : List ℕ) → kept_at (keep_at tells old store.path (told_bytes passes)) q ≡ kept_at old q = λ q. ap (λ (t : Bool). kept_at (keep_at t old store.path (told_bytes passes)) q) e ∙ ap (λ (k : Kept (List ℕ)). kept_at k q) (keep_at_untold old store.path (told_bytes passes)) in record {
      blocks = λ block within. ap (λ (o : Option (List ℕ)). file_block store.id.geometry.block_size block (unwrap_or o [])) (same store.path);
      others = λ path other. same path;
    }

-- Passes that were handed out and come back leave each block as it was.
pub blocks_stay : (store : StorePlan) (old mid new : Kept (List ℕ)) (tells : Bool) (passes : List PassSeen) → mid ≡ old → new ≡ keep_at tells mid store.path (told_bytes passes) → AreBlocks store.id.geometry passes → (IsTrue tells → TellFile store.id.geometry (bytes_at old store.path) passes) → BlocksStay store old new
blocks_stay store old mid new tells passes m e blocks tell =
    let whole : new ≡ keep_at tells old store.path (told_bytes passes) = e ∙ ap (λ (k : Kept (List ℕ)). keep_at tells k store.path (told_bytes passes)) m in
    subst (λ (k : Kept (List ℕ)). BlocksStay store old k) (sym whole) (stay_by store old tells passes tells refl blocks tell)

pub told_before : (a b : Tells) → a ≡ b → IsTrue a.keeps_contents → IsTrue b.keeps_contents
told_before a b e t = subst (λ (s : Tells). IsTrue s.keeps_contents) e t
