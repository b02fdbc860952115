-- The shares of a store stand in the run.
use Rattle.std.proofs.Common.{◌≡◌, ℕ, ◌+◌, ◌/◌, ◌<◌, true, Option, Some, List, All, filter, get_or, length, slice_get, refl, sym, subst, arith, zero-add}
use Rattle.std.specs.Prelude.{IsSomeAnd}
use Rattle.std.specs.List.{enumerate_from}
use Rattle.std.proofs.lemmas.Bool.{eqb-true}
use Rattle.std.proofs.lemmas.List.Elements.{All-filter, All-map, filter_passes}
use Rattle.std.proofs.lemmas.List.FromFn.{get_or-enumerate_from, length-enumerate_from}
use Rattle.std.proofs.lemmas.Option.{slice_get-get_or}
use Rattle.plan_types.specs.declared.run.Share.{Share}
use Rattle.workload_gen.specs.declared.task.StoreShare.{StoreShare}
use Rattle.workload_gen.specs.Task.{is_of, shares_of, store_share}

-- a share as it stands in the run
abbrev pub IsPlaced : ℕ → ℕ → List Share → StoreShare → Type 0
IsPlaced block_size store shares s = IsSomeAnd (slice_get shares s.place) (λ share. (share.store ≡ store) × (s.many ≡ share.xfersize / block_size))

-- each share stands at its place
abbrev Stands : List Share → ℕ × Share → Type 0
Stands shares placed = slice_get shares placed.0 ≡ Some placed.1

enumerated : (shares : List Share) → All (Stands shares) (enumerate_from 0 shares)
enumerated shares k d inside =
    let within : k < length shares = omega (arith, length-enumerate_from 0 shares) in
    let there : Stands shares (0 + k, get_or shares k d.1) = subst (λ (m : ℕ). slice_get shares m ≡ Some (get_or shares k d.1)) (sym (zero-add k)) (slice_get-get_or shares k d.1 within) in
    subst (Stands shares) (sym (get_or-enumerate_from 0 shares k d within)) there

made : (block_size store : ℕ) (shares : List Share) (placed : ℕ × Share) → Stands shares placed → is_of store placed ≡ true → IsPlaced block_size store shares (store_share block_size placed)
made block_size store shares placed there of =
    subst (λ (o : Option Share). IsSomeAnd o (λ share. (share.store ≡ store) × ((store_share block_size placed).many ≡ share.xfersize / block_size))) (sym there) (eqb-true placed.1.store store of, refl)

pub shares_are_placed : (block_size store : ℕ) (shares : List Share) → All (IsPlaced block_size store shares) (shares_of block_size store shares)
shares_are_placed block_size store shares =
    let kept : List (ℕ × Share) = filter (is_of store) (enumerate_from 0 shares) in
    let there = All-filter (is_of store) (Stands shares) (enumerate_from 0 shares) (enumerated shares) in
    let of = filter_passes (is_of store) (enumerate_from 0 shares) in
    All-map (IsPlaced block_size store shares) (store_share block_size) kept
    (λ k d inside. made block_size store shares (get_or kept k d) (there k d inside) (of k d inside))
