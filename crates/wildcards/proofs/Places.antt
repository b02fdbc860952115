-- One more name, and one more number.
use Rattle.std.proofs.Common.{◌≡◌, ℕ, List, [], ◌∷◌, ◌++◌, ◌+◌, ◌<◌, Bool, true, false, cond, length, filter, get_or, decimal, ap, sym, ◌∙◌, arith}
use Rattle.std.specs.List.{range_with_len}
use Rattle.std.proofs.lemmas.List.{append-nil, get_or_default, map-id}
use Rattle.std.proofs.lemmas.List.FromFn.{filter_of_map_range_with_len_more, map-range_with_len_more}
use Rattle.wildcards.specs.Numbered.{names_of}
use Rattle.wildcards.specs.Selection.{fits_some}

abbrev pub places_below : List (List ℕ) → List (List ℕ) → ℕ → List ℕ
places_below patterns names i = filter (λ place. fits_some patterns (get_or names place [])) (range_with_len 0 i)

chosen_more : (p : ℕ → Bool) (i : ℕ) → filter p (range_with_len 0 (i + 1)) ≡ filter p (range_with_len 0 i) ++ cond (p i) (i ∷ []) []
chosen_more p i =
    ap (filter p) (sym (map-id (range_with_len 0 (i + 1)))) ∙ filter_of_map_range_with_len_more p (λ x. x) 0 i i (omega arith) ∙
    ap (λ xs. filter p xs ++ cond (p i) (i ∷ []) []) (map-id (range_with_len 0 i))

if_fits : (fit : Bool) (i : ℕ) (before news : List ℕ) → news ≡ cond fit (before ++ i ∷ []) before → news ≡ before ++ cond fit (i ∷ []) []
if_fits true i before news h = h
if_fits false i before news h = h ∙ sym (append-nil before)

pub place_kept : (patterns names : List (List ℕ)) (i : ℕ) (before news : List ℕ) (name : List ℕ) (fit : Bool) → before ≡ places_below patterns names i → name ≡ get_or names i name → i < length names → fit ≡ fits_some patterns name → news ≡ cond fit (before ++ i ∷ []) before → news ≡ places_below patterns names (i + 1)
place_kept patterns names i before news name fit so_far here within test added =
    let same : name ≡ get_or names i [] = here ∙ get_or_default names i name [] within in
    let tested : fit ≡ fits_some patterns (get_or names i []) = test ∙ ap (fits_some patterns) same in
    if_fits fit i before news added ∙ ap (λ xs. xs ++ cond fit (i ∷ []) []) so_far ∙
    ap (λ b. places_below patterns names i ++ cond b (i ∷ []) []) tested ∙
    sym (chosen_more (λ place. fits_some patterns (get_or names place [])) i)

pub name_kept : (name : List ℕ) (first i number : ℕ) (before news : List (List ℕ)) → before ≡ names_of name first i → first + i ≡ number → news ≡ before ++ (name ++ decimal number) ∷ [] → news ≡ names_of name first (i + 1)
name_kept name first i number before news so_far counted added =
    added ∙ ap (λ xs. xs ++ (name ++ decimal number) ∷ []) so_far ∙ sym (map-range_with_len_more (λ k. name ++ decimal k) first i number counted)

pub picked : (fit : Bool) (news added kept : List ℕ) → fit ≡ true → news ≡ added → news ≡ cond fit added kept
picked true news added kept e h = h
picked false news added kept e h = absurd (cc)

pub passed : (fit : Bool) (news added kept : List ℕ) → fit ≡ false → news ≡ kept → news ≡ cond fit added kept
passed true news added kept e h = absurd (cc)
passed false news added kept e h = h
