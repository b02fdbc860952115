-- Where sectors stand, and what writes and clearings leave of the lists over all sectors.
use Rattle.std.proofs.Common.{◌≡◌, ◌⊎◌, inl, inr, ℕ, suc, ◌+◌, ◌*◌, ◌-◌, ◌<◌, ◌≤◌, Bool, false, List, ◌++◌, length, take, drop, replicate, get_or, set, slice_index_or, slice_set, ap, ◌∙◌, arith, length-append, length-drop}
use Rattle.std.proofs.lemmas.List.{get_or-set_same, get_or-set_other, get_or-replicate, get_or-drop, get_or-take, get_or_append_left, get_or-append_right, length-replicate, length-take-le}
use Rattle.std.proofs.Math.Nat.{mul-le-mul_right, suc-mul, add-mul}
use Rattle.std.proofs.lemmas.Bool.{cases_lt, cases_eq}

-- The places of sectors are their own.
pub place_within : (N S b s : ℕ) → b < N → s < S → b * S + s < N * S
place_within N S b s block sector =
    let h : suc b ≤ N = omega arith in
    omega (arith, mul-le-mul_right S h, suc-mul b S)

pub place_same : (S b c s t : ℕ) → s < S → t < S → b * S + s ≡ c * S + t → (b ≡ c) × (s ≡ t)
place_same S b c s t first second same = elim (cases_lt b c) [
  | inl less ↦
      let h : suc b ≤ c = omega arith in
      absurd (omega (arith, mul-le-mul_right S h, suc-mul b S))
  | inr more ↦ elim (cases_lt c b) [
    | inl less ↦
        let h : suc c ≤ b = omega arith in
        absurd (omega (arith, mul-le-mul_right S h, suc-mul c S))
    | inr less ↦
        let e : b ≡ c = omega arith in
        (e, omega (arith, ap (λ k. k * S) e))
  ]
]

-- what one write to a list over all sectors leaves of each
pub sector-set : {X : Type 0} (xs : List X) (N S b s c t : ℕ) (x d : X) → length xs ≡ N * S → b < N → s < S → t < S
    → ((c ≡ b) × (t ≡ s) × (slice_index_or (slice_set xs (b * S + s) x) (c * S + t) d ≡ x))
    ⊎ (((c ≡ b) × (t ≡ s) → ⊥) × (slice_index_or (slice_set xs (b * S + s) x) (c * S + t) d ≡ slice_index_or xs (c * S + t) d))
sector-set xs N S b s c t x d sized within in_block other_in = elim (cases_eq (c * S + t) (b * S + s)) [
  | inl same ↦
      let both = place_same S c b t s other_in in_block same in
      inl (
        both.0,
        both.1,
        ap (λ k. get_or (set xs (b * S + s) x) k d) same
            ∙ get_or-set_same xs (b * S + s) x d (omega (arith, sized, place_within N S b s within in_block)),
      )
  | inr other ↦ inr (
    λ both. other (ap (λ k. k * S + t) both.0 ∙ ap (λ k. b * S + k) both.1),
    get_or-set_other xs (b * S + s) (c * S + t) x d other,
  )
]

-- of a list whose places from one on, so many, are cleared
pub cleared_length : (xs : List Bool) (from n : ℕ) → from + n ≤ length xs → length (take from xs ++ (replicate n false ++ drop (from + n) xs)) ≡ length xs
cleared_length xs from n fit =
    omega (
      arith,
      length-append (take from xs) (replicate n false ++ drop (from + n) xs),
      length-append (replicate n false) (drop (from + n) xs),
      length-take-le from xs (omega arith),
      length-replicate n false,
      length-drop (from + n) xs,
    )

pub cleared_in : (xs : List Bool) (from n i : ℕ) → from + n ≤ length xs → from ≤ i → i < from + n
    → get_or (take from xs ++ (replicate n false ++ drop (from + n) xs)) i false ≡ false
cleared_in xs from n i fit low high =
    get_or-append_right (take from xs) (replicate n false ++ drop (from + n) xs) from i false (length-take-le from xs (omega arith)) low
    ∙ get_or_append_left (replicate n false) (drop (from + n) xs) false (i - from) (omega (arith, length-replicate n false))
    ∙ get_or-replicate n (i - from) false false (omega arith)

pub cleared_below : (xs : List Bool) (from n i : ℕ) → from + n ≤ length xs → i < from
    → get_or (take from xs ++ (replicate n false ++ drop (from + n) xs)) i false ≡ get_or xs i false
cleared_below xs from n i fit below =
    get_or_append_left (take from xs) (replicate n false ++ drop (from + n) xs) false i (omega (arith, length-take-le from xs (omega arith)))
    ∙ get_or-take from xs i false below

pub cleared_above : (xs : List Bool) (from n i : ℕ) → from + n ≤ length xs → from + n ≤ i
    → get_or (take from xs ++ (replicate n false ++ drop (from + n) xs)) i false ≡ get_or xs i false
cleared_above xs from n i fit above =
    let e : from + n + (i - from - n) ≡ i = omega arith in
    get_or-append_right (take from xs) (replicate n false ++ drop (from + n) xs) from i false (length-take-le from xs (omega arith)) (omega arith)
    ∙ get_or-append_right (replicate n false) (drop (from + n) xs) n (i - from) false (length-replicate n false) (omega arith)
    ∙ get_or-drop (from + n) xs (i - from - n) false
    ∙ ap (λ k. get_or xs k false) e

-- The rows of a list of blocks, and those before and behind it.
pub row_in : (first many S b s : ℕ) → first ≤ b → b < first + many → s < S → (first * S ≤ b * S + s) × (b * S + s < first * S + many * S)
row_in first many S b s low high within = (omega (arith, mul-le-mul_right S low), omega (arith, place_within (first + many) S b s high within, add-mul first many S))

pub row_behind : (first many S b s : ℕ) → first + many ≤ b → first * S + many * S ≤ b * S + s
row_behind first many S b s past = omega (arith, mul-le-mul_right S past, add-mul first many S)

pub rows_fit : (first many N S all : ℕ) → first + many ≤ N → all ≡ N * S → first * S + many * S ≤ all
rows_fit first many N S all fit is = let row : first * S + many * S ≤ N * S + 0 = row_behind first many S N 0 fit in omega (arith, row, is)
