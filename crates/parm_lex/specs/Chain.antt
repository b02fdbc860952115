use Rattle.std.specs.Prelude.{◌≡◌, List, [], ◌∷◌, ◌++◌, Bool, true, false, Result, Ok, Err}

-- A step from a state gives an item, whether it was the last, and the state behind it; or a fault.
-- From s the items xs stand one after another, none of them the last, up to t.
abbrev pub Runs : {S X F : Type 0} → (S → Result (X × Bool × S) F → Type 0) → S → List X → S → Type 0
Runs step s [] t = s ≡ t
Runs {S} step s (x ∷ xs) t = (u : S) × step s (Ok (x, false, u)) × Runs step u xs t

-- The items up to the last one, and the state behind it; or the first fault: behind items that are
-- right a step stops.
abbrev pub Chain : {S X F : Type 0} → (S → Result (X × Bool × S) F → Type 0) → S → Result (List X × S) F → Type 0
Chain {S} {X} step s (Ok r) = (front : List X) × (x : X) × (u : S) × Runs step s front u × step u (Ok (x, true, r.1)) × (r.0 ≡ front ++ x ∷ [])
Chain {S} {X} step s (Err f) = (front : List X) × (u : S) × Runs step s front u × step u (Err f)
