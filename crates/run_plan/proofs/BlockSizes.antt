-- Block sizes.
use Rattle.std.proofs.Common.{◌≡◌, inl, inr, ℕ, List, [], ◌∷◌, ◌==◌, All, filter, min, subst, refl, arith}
use Rattle.std.proofs.lemmas.Bool.{cases_lt}
use Rattle.std.proofs.lemmas.List.Elements.{All-filter, All-head, All-map, All-tail}
use Rattle.parm_records.specs.Ranges.{IsBlockSize}
use Rattle.plan_types.specs.declared.run.Share.{Share}
use Rattle.run_plan.specs.declared.runs.Draft.{Draft}
use Rattle.run_plan.specs.Drafts.{IsDraft}
use Rattle.run_plan.specs.Sizes.{least_from, sizes_in, smallest, transfers_of}
use Rattle.run_plan.proofs.Lists.{All-flat}

min_is : (P : ℕ → Type 0) (a b : ℕ) → P a → P b → P (min a b)
min_is P a b pa pb =
    elim (cases_lt a b) [
      | inl h ↦ let e : a ≡ min a b = omega arith in subst P e pa
      | inr h ↦ let e : b ≡ min a b = omega arith in subst P e pb
    ]

least_is : (P : ℕ → Type 0) (sizes : List ℕ) (least : ℕ) → P least → All P sizes → P (least_from least sizes)
least_is P [] least here all = here
least_is P (size ∷ sizes) least here all =
    least_is P sizes (min least size) (min_is P least size here (All-head P size sizes all)) (All-tail P size sizes all)

pub smallest_is : (sizes : List ℕ) → All IsBlockSize sizes → IsBlockSize (smallest sizes)
smallest_is [] all = record { range = record { at_least = omega arith; at_most = omega arith }; whole = refl }
smallest_is (size ∷ sizes) all = least_is IsBlockSize sizes size (All-head IsBlockSize size sizes all) (All-tail IsBlockSize size sizes all)

-- the transfers of runs are block sizes
pub transfers_are : (store : ℕ) (drafts : List Draft) → All IsDraft drafts → All IsBlockSize (transfers_of store drafts)
transfers_are store drafts all =
    All-flat IsDraft IsBlockSize (λ draft. sizes_in store draft.run.shares)
    (λ draft is. All-map IsBlockSize (λ (share : Share). share.xfersize) (filter (λ share. share.store == store) draft.run.shares)
    (All-filter (λ share. share.store == store) (λ (share : Share). IsBlockSize share.xfersize) draft.run.shares is.transfers))
    drafts all
