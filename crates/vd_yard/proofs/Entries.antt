-- What finding, replacing and adding an entry do to the values by path.
use Rattle.std.proofs.Common.{zero, suc, ◌≡◌, ℕ, ◌+◌, ◌<◌, ◌≤◌, nat_lt, Bool, true, false, cond, List, [], ◌∷◌, ◌++◌, length, get_or, set, Option, Some, None, rules, refl, sym, ◌∙◌, ap, arith}
use Rattle.std.specs.Prelude.{IsSome}
use Rattle.std.specs.List.{position, position_or_len}
use Rattle.std.proofs.lemmas.Bool.Decides.{nat_tests}
use Rattle.std.specs.Str.{bytes_eq}
use Rattle.std.proofs.lemmas.Slice.Eq.{bytes_eq-Decides}
use Rattle.std.proofs.lemmas.List.Recursion.{is_position_or_len}
use Rattle.std.proofs.lemmas.List.Quantifiers.{position-Some}
use Rattle.vd_yard.specs.Kept.{kept_at, keep_at, keep_at_by, nothing_kept, nothing_kept_by, kept_at_kept_of}
use Rattle.vd_yard.specs.PathMap.{value_at, map_of}

pub none_kept : {T : Type 0} (es : List (List ℕ × T)) → es ≡ [] → map_of es ≡ nothing_kept
none_kept {T} es e = ap (λ (l : List (List ℕ × T)). map_of l) e ∙ nothing_kept_by (value_at []) (λ q. refl)

first_value : {T : Type 0} (es : List (List ℕ × T)) (path : List ℕ) (i : ℕ) (d : List ℕ × T) → i < length es → bytes_eq (get_or es i d).0 path ≡ true →
    ((k : ℕ) → k < i → bytes_eq (get_or es k d).0 path ≡ false) → value_at es path ≡ Some (get_or es i d).1
first_value [] path i d inside here before = absurd (omega arith)
first_value (e ∷ es) path zero d inside here before = rw here refl
first_value (e ∷ es) path (suc i) d inside here before =
    let other : bytes_eq e.0 path ≡ false = before 0 (omega arith) in
    rw other (first_value es path i d (omega arith) here (λ k below. before (suc k) (omega arith)))

no_value : {T : Type 0} (es : List (List ℕ × T)) (path : List ℕ) → ((k : ℕ) (d : List ℕ × T) → k < length es → bytes_eq (get_or es k d).0 path ≡ false) →
    value_at es path ≡ None
no_value [] path none = refl
no_value (e ∷ es) path none =
    let other : bytes_eq e.0 path ≡ false = none 0 e (omega arith) in
    rw other (no_value es path (λ k d below. none (suc k) d (omega arith)))

same_side : (path p r : List ℕ) → bytes_eq p path ≡ true → bytes_eq p r ≡ bytes_eq path r
same_side path p r e = ap (λ (q : List ℕ). bytes_eq q r) ((bytes_eq-Decides p path).0 e)

true_is_false : true ≡ false → ⊥
true_is_false e = cc

here_or_there : {T : Type 0} (b : Bool) (x : Option T) (o o' : Option T) → o ≡ o' → cond b x o ≡ cond b x (cond b x o')
here_or_there true x o o' e = refl
here_or_there false x o o' e = e

apart_first : {T : Type 0} (path p r : List ℕ) (x y rest : Option T) → bytes_eq p path ≡ false →
    cond (bytes_eq p r) y (cond (bytes_eq path r) x rest) ≡ cond (bytes_eq path r) x (cond (bytes_eq p r) y rest)
apart_first {T} path p r x y rest e = go (bytes_eq p r) (bytes_eq path r) refl refl
  where
    go : (a b : Bool) → bytes_eq p r ≡ a → bytes_eq path r ≡ b → cond a y (cond b x rest) ≡ cond b x (cond a y rest)
    go true true f g =
        let same : p ≡ path = (bytes_eq-Decides p r).0 f ∙ sym ((bytes_eq-Decides path r).0 g) in
        absurd (true_is_false (sym ((bytes_eq-Decides p path).1 same) ∙ e))
    go true false f g = refl
    go false true f g = refl
    go false false f g = refl

set_value : {T : Type 0} (es : List (List ℕ × T)) (path : List ℕ) (i : ℕ) (d new : List ℕ × T) (r : List ℕ) → i < length es →
    bytes_eq (get_or es i d).0 path ≡ true → ((k : ℕ) → k < i → bytes_eq (get_or es k d).0 path ≡ false) → new.0 ≡ (get_or es i d).0 →
    value_at (set es i new) r ≡ cond (bytes_eq path r) (Some new.1) (value_at es r)
set_value [] path i d new r inside here before same = absurd (omega arith)
set_value {T} (e ∷ es) path zero d new r inside here before same =
    let side : bytes_eq e.0 r ≡ bytes_eq path r = same_side path e.0 r here in
    rw (same, side) (here_cond (bytes_eq path r))
  where
    here_cond : (b : Bool) → cond b (Some new.1) (value_at es r) ≡ cond b (Some new.1) (cond b (Some e.1) (value_at es r))
    here_cond true = refl
    here_cond false = refl
set_value (e ∷ es) path (suc i) d new r inside here before same =
    let other : bytes_eq e.0 path ≡ false = before 0 (omega arith) in
    let rest = set_value es path i d new r (omega arith) here (λ k below. before (suc k) (omega arith)) same in
    ap (λ o. cond (bytes_eq e.0 r) (Some e.1) o) rest ∙ apart_first path e.0 r (Some new.1) (Some e.1) (value_at es r) other

push_value : {T : Type 0} (es : List (List ℕ × T)) (path : List ℕ) (x : T) (r : List ℕ) →
    ((k : ℕ) (d : List ℕ × T) → k < length es → bytes_eq (get_or es k d).0 path ≡ false) →
    value_at (es ++ (path, x) ∷ []) r ≡ cond (bytes_eq path r) (Some x) (value_at es r)
push_value [] path x r none = refl
push_value (e ∷ es) path x r none =
    let other : bytes_eq e.0 path ≡ false = none 0 e (omega arith) in
    let rest = push_value es path x r (λ k d below. none (suc k) d (omega arith)) in
    ap (λ o. cond (bytes_eq e.0 r) (Some e.1) o) rest ∙ apart_first path e.0 r (Some x) (Some e.1) (value_at es r) other

picked_none : (b : Bool) (n : ℕ) → cond b (Some n) None ≡ None → b ≡ false
picked_none true n e = cc
picked_none false n e = refl

later : (b : Bool) (w m l : ℕ) → l ≤ cond b 0 w → l ≡ m + 1 → (b ≡ false) × (m + 1 ≤ w)
later true w m l e more = absurd (omega arith)
later false w m l e more = (refl, omega arith)

-- the same count by plain recursion
first_place : {X : Type 0} → (X → Bool) → List X → ℕ
first_place p [] = 0
first_place p (x ∷ xs) = cond (p x) 0 (1 + first_place p xs)

first_place_is : {X : Type 0} (p : X → Bool) (xs : List X) → first_place p xs ≡ position_or_len p xs
unfolding first_place
first_place_is p xs = is_position_or_len (first_place p) p refl (λ x ys. refl) xs

none_passes : {X : Type 0} (p : X → Bool) (xs : List X) → length xs ≤ first_place p xs → (k : ℕ) (d : X) → k < length xs → p (get_or xs k d) ≡ false
unfolding first_place
none_passes p [] past k d below = absurd (omega arith)
none_passes p (x ∷ xs) past zero d below = (later (p x) (1 + first_place p xs) (length xs) (length (x ∷ xs)) past (omega arith)).0
none_passes p (x ∷ xs) past (suc k) d below =
    let more = (later (p x) (1 + first_place p xs) (length xs) (length (x ∷ xs)) past (omega arith)).1 in
    none_passes p xs (omega (arith, more)) k d (omega arith)

position_none : {X : Type 0} (p : X → Bool) (xs : List X) → position p xs ≡ None → (k : ℕ) (d : X) → k < length xs → p (get_or xs k d) ≡ false
position_none p xs e k d below =
    let past : nat_lt (position_or_len p xs) (length xs) ≡ false = picked_none _ _ e in
    let far : length xs ≤ position_or_len p xs = grind (arith, nat_tests, past) in
    none_passes p xs (omega (arith, far, first_place_is p xs)) k d below

pub found_value : {T : Type 0} (es : List (List ℕ × T)) (path : List ℕ) (i : ℕ) (d : List ℕ × T) → position (λ (entry : List ℕ × T). bytes_eq entry.0 path) es ≡ Some i →
    d ≡ get_or es i d → kept_at (map_of es) path ≡ Some d.1
found_value {T} es path i d e at =
    let found = position-Some (λ (entry : List ℕ × T). bytes_eq entry.0 path) es i d e in
    kept_at_kept_of (value_at es) path ∙ first_value es path i d found.0 found.1 found.2 ∙ ap (λ (entry : List ℕ × T). Some entry.1) (sym at)

pub found_none : {T : Type 0} (es : List (List ℕ × T)) (path : List ℕ) → position (λ (entry : List ℕ × T). bytes_eq entry.0 path) es ≡ None →
    kept_at (map_of es) path ≡ None
found_none {T} es path e =
    kept_at_kept_of (value_at es) path ∙ no_value es path (λ k d below. position_none (λ (entry : List ℕ × T). bytes_eq entry.0 path) es e k d below)

pub replaced : {T : Type 0} (es : List (List ℕ × T)) (path : List ℕ) (i : ℕ) (d new : List ℕ × T) → position (λ (entry : List ℕ × T). bytes_eq entry.0 path) es ≡ Some i →
    d ≡ get_or es i d → new.0 ≡ d.0 → map_of (set es i new) ≡ keep_at true (map_of es) path new.1
replaced {T} es path i d new e at same =
    let found = position-Some (λ (entry : List ℕ × T). bytes_eq entry.0 path) es i d e in
    keep_at_by (value_at es) (value_at (set es i new)) path new.1 (λ r.
    set_value es path i d new r found.0 found.1 found.2 (same ∙ ap (λ (entry : List ℕ × T). entry.0) at))

pub added : {T : Type 0} (es : List (List ℕ × T)) (path : List ℕ) (x : T) → position (λ (entry : List ℕ × T). bytes_eq entry.0 path) es ≡ None →
    map_of (es ++ (path, x) ∷ []) ≡ keep_at true (map_of es) path x
added {T} es path x e =
    keep_at_by (value_at es) (value_at (es ++ (path, x) ∷ [])) path x (λ r.
    push_value es path x r (λ k d below. position_none (λ (entry : List ℕ × T). bytes_eq entry.0 path) es e k d below))

-- the place that was found, with what was read to find it
pub place_is : {T : Type 0} (es es' : List (List ℕ × T)) (path path' : List ℕ) (place place' : Option ℕ) →
    place' ≡ position (λ (entry : List ℕ × T). bytes_eq entry.0 path') es' → place' ≡ place → es' ≡ es → path' ≡ path →
    position (λ (entry : List ℕ × T). bytes_eq entry.0 path) es ≡ place
place_is {T} es es' path path' place place' is found same there =
    ap (λ (q : List ℕ). position (λ (entry : List ℕ × T). bytes_eq entry.0 q) es) (sym there)
    ∙ ap (λ (l : List (List ℕ × T)). position (λ (entry : List ℕ × T). bytes_eq entry.0 path') l) (sym same)
    ∙ sym is ∙ found

pub some_not_none : {A : Type 0} (o : Option A) → IsSome o → o ≡ None → ⊥
some_not_none None some e = search rules
some_not_none (Some x) some e = cc
