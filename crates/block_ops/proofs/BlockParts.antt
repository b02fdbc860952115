-- The bytes of blocks one after another, and the passes of such blocks.
use Rattle.std.proofs.Common.{◌≡◌, ℕ, zero, suc, ◌+◌, ◌-◌, ◌*◌, ◌<◌, ◌≤◌, List, [], ◌∷◌, length, map, drop, slice_get, slice_index_or, Some, None, ap, sym, subst, refl, ◌∙◌, arith}
use Rattle.std.proofs.lemmas.Nat.{mul-le}
use Rattle.std.proofs.lemmas.Slice.{between_is, between-put_mid, take-put_mid_below}
use borrow.Rule.Slice.PartMut.{put_mid}
use Rattle.vd_arm.specs.Arm.{PassSeen}
use Rattle.key_state.specs.Entries.{entry_at}
use Rattle.key_state.specs.declared.entry.Entry.{Entry}
use Rattle.claim_table.specs.Sums.{Each}
use Rattle.claim_table.specs.Passes.{IsPassFor}
use Rattle.claim_table.specs.Runs.{ArePassesFor}
use Rattle.claim_table.specs.declared.view.Made.{Made}
use Rattle.vd_arm.specs.Transfers.{part_of}

-- A block of a run ends where the next one begins, and within the run.
pub part_within : (i n size : ℕ) → i < n → i * size + size ≤ n * size
part_within i n size below =
    let fits : (i + 1) * size ≤ n * size = mul-le (i + 1) size n size (omega arith) (omega arith) in
    let next : (i + 1) * size ≡ i * size + size = omega arith in
    omega (arith, fits, next)

pub part_of-put_here : (size at : ℕ) (bytes part : List ℕ) → at * size ≤ length bytes → length part ≡ size → part_of (put_mid (at * size) (at * size + size - at * size) bytes part) size at ≡ part
part_of-put_here size at bytes part room many = between-put_mid (at * size) (at * size + size - at * size) bytes part (at * size + size) room (omega (arith, many))

pub part_of-put_below : (size at i k : ℕ) (bytes part : List ℕ) → at * size ≤ length bytes → i < at → part_of (put_mid (at * size) k bytes part) size i ≡ part_of bytes size i
part_of-put_below size at i k bytes part room below =
    between_is (put_mid (at * size) k bytes part) (i * size) (i * size + size)
    ∙ (ap (drop (i * size)) (take-put_mid_below (at * size) k bytes part (i * size + size) (part_within i at size below) room)
    ∙ sym (between_is bytes (i * size) (i * size + size)))

-- what holds of each holds of the one at a place
pub each_at : {A : Type 0} (P : A → Type 0) (xs : List A) (i : ℕ) (d : A) → i < length xs → Each P xs → P (slice_index_or xs i d)
each_at P [] i d within h = absurd (omega (arith, within))
each_at P (x ∷ xs) zero d within h = h.0
each_at P (x ∷ xs) (suc i) d within h = each_at P xs i d (omega (arith, within)) h.1

module _ {P : Type 0} (pass_seen : P → PassSeen) (made : Made) where
  -- the pass at a place of a run, and a run's passes place by place
  pub pass_at : (first : ℕ) (entries : List Entry) (passes : List P) (i : ℕ) (pass : PassSeen) → ArePassesFor pass_seen made first entries passes → slice_get (map pass_seen passes) i ≡ Some pass → IsPassFor made (first + i) (entry_at entries i) pass
  pass_at first [] [] i pass are is = absurd (let no : None ≡ Some pass = is in cc)
  pass_at first [] (p ∷ ps) i pass are is = absurd are
  pass_at first (e ∷ es) [] i pass are is = absurd are
  pass_at first (e ∷ es) (p ∷ ps) zero pass are is =
      let same : pass_seen p ≡ pass = cc in
      let here : first ≡ first + 0 = omega arith in
      subst (λ (n : ℕ). IsPassFor made n e pass) here (subst (IsPassFor made first e) same are.0)
  pass_at first (e ∷ es) (p ∷ ps) (suc i) pass are is =
      let next : first + 1 + i ≡ first + suc i = omega arith in
      subst (λ (n : ℕ). IsPassFor made n (entry_at es i) pass) next (pass_at (first + 1) es ps i pass are.1 is)

  pub passes_from : (first : ℕ) (entries : List Entry) (passes : List P) → length passes ≡ length entries → ((i : ℕ) (pass : PassSeen) → slice_get (map pass_seen passes) i ≡ Some pass → IsPassFor made (first + i) (entry_at entries i) pass) → ArePassesFor pass_seen made first entries passes
  passes_from first [] [] many each = tt
  passes_from first [] (p ∷ ps) many each = absurd (omega (arith, many))
  passes_from first (e ∷ es) [] many each = absurd (omega (arith, many))
  passes_from first (e ∷ es) (p ∷ ps) many each =
      let here : first + 0 ≡ first = omega arith in
      let next : (i : ℕ) → first + suc i ≡ first + 1 + i = λ (i : ℕ). omega arith in (
        subst (λ (n : ℕ). IsPassFor made n e (pass_seen p)) here (each 0 (pass_seen p) refl),
        passes_from (first + 1) es ps (omega (arith, many)) (λ (i : ℕ) (pass : PassSeen) is. subst (λ (n : ℕ). IsPassFor made n (entry_at es i) pass) (next i) (each (suc i) pass is)),
      )

  pub as_many_passes : (first : ℕ) (entries : List Entry) (passes : List P) → ArePassesFor pass_seen made first entries passes → length passes ≡ length entries
  as_many_passes first [] [] are = refl
  as_many_passes first [] (p ∷ ps) are = absurd are
  as_many_passes first (e ∷ es) [] are = absurd are
  as_many_passes first (e ∷ es) (p ∷ ps) are = omega (arith, as_many_passes (first + 1) es ps are.1)
