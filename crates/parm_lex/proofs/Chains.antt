use Rattle.std.proofs.Common.{◌≡◌, List, [], ◌∷◌, ◌++◌, Bool, true, false, Result, Ok, Err, refl, sym, subst, ap, ◌∙◌}
use Rattle.parm_lex.specs.Chain.{Runs, Chain}

pub runs_more : {S X F : Type 0} (step : S → Result (X × Bool × S) F → Type 0) (s : S) (xs : List X) (t : S) (x : X) (u : S) → Runs step s xs t → step t (Ok (x, false, u)) → Runs step s (xs ++ x ∷ []) u
runs_more step s [] t x u runs h = (u, subst (λ v. step v (Ok (x, false, u))) (sym runs) h, refl)
runs_more step s (y ∷ ys) t x u runs h = (runs.0, runs.1, runs_more step runs.0 ys t x u runs.2 h)

pub chain_ok : {S X F : Type 0} (step : S → Result (X × Bool × S) F → Type 0) (s : S) (xs : List X) (t : S) (x : X) (u : S) → Runs step s xs t → step t (Ok (x, true, u)) → Chain step s (Ok (xs ++ x ∷ [], u))
chain_ok step s xs t x u runs h = (xs, x, t, runs, h, refl)

pub chain_err : {S X F : Type 0} (step : S → Result (X × Bool × S) F → Type 0) (s : S) (xs : List X) (t : S) (f : F) → Runs step s xs t → step t (Err f) → Chain step s (Err f)
chain_err step s xs t f runs h = (xs, t, runs, h)

-- a step has one answer
abbrev pub HasOne : {S X F : Type 0} → (S → Result (X × Bool × S) F → Type 0) → Type 0
HasOne {S} {X} {F} step = (s : S) (a b : Result (X × Bool × S) F) → step s a → step s b → a ≡ b

-- an answer that isn't one more item
abbrev pub is_stop : {S X F : Type 0} → Result (X × Bool × S) F → Bool
is_stop (Err f) = true
is_stop (Ok r) = r.1

more_is_no_stop : {S X F : Type 0} (r : Result (X × Bool × S) F) (x : X) (u : S) → r ≡ Ok (x, false, u) → is_stop r ≡ true → ⊥
more_is_no_stop r x u e h = let no : is_stop r ≡ false = ap is_stop e in cc

abbrev same_answer : {S X F : Type 0} → Result (X × Bool × S) F → Result (X × Bool × S) F → Type 0
same_answer a b = a ≡ b

abbrev same_result : {A F : Type 0} → Result A F → Result A F → Type 0
same_result a b = a ≡ b

abbrev same_chain : {S X F : Type 0} → Result (List X × S) F → Result (List X × S) F → Type 0
same_chain a b = a ≡ b

ok_inner : {A F : Type 0} (p q : A) → same_result {A = A} {F = F} (Ok p) (Ok q) → p ≡ q
ok_inner p q h = cc

same_item : {S X F : Type 0} {x y : X} {u v : S} {c d : Bool} → same_answer {S = S} {X = X} {F = F} (Ok (x, c, u)) (Ok (y, d, v)) → x ≡ y
same_item h = ap (λ p. p.0) (ok_inner _ _ h)

same_state : {S X F : Type 0} {x y : X} {u v : S} {c d : Bool} → same_answer {S = S} {X = X} {F = F} (Ok (x, c, u)) (Ok (y, d, v)) → u ≡ v
same_state h = ap (λ p. p.2) (ok_inner _ _ h)

abbrev paired : {A B : Type 0} → A → B → A × B
paired a b = (a, b)

same_pair : {A B : Type 0} {a c : A} {b d : B} → a ≡ c → b ≡ d → paired a b ≡ paired c d
same_pair {A} {B} {a} {c} {b} {d} h k = ap (λ z. paired z b) h ∙ ap (λ w. paired c w) k

cons_same : {X : Type 0} {x y : X} {xs ys : List X} → x ≡ y → xs ≡ ys → x ∷ xs ≡ y ∷ ys
cons_same h k = cc

ok_same : {S X F : Type 0} {a b : List X × S} {xs ys : List X} {x y : X} → a.0 ≡ xs ++ x ∷ [] → b.0 ≡ ys ++ y ∷ [] → xs ≡ ys → same_answer {S = S} {X = X} {F = F} (Ok (x, true, a.1)) (Ok (y, true, b.1)) → same_chain {S = S} {X = X} {F = F} (Ok a) (Ok b)
ok_same {S} {X} {F} {a} {b} {xs} {ys} {x} {y} p q h k =
    let last : x ≡ y = same_item k in
    let state : a.1 ≡ b.1 = same_state k in
    let items : a.0 ≡ b.0 = cc in
    ap Ok (same_pair items state)

ok_no_err : {S X F : Type 0} {r : X × Bool × S} {f : F} → same_answer {S = S} {X = X} {F = F} (Ok r) (Err f) → ⊥
ok_no_err h = cc

err_same : {S X F : Type 0} {f g : F} → same_answer {S = S} {X = X} {F = F} (Err f) (Err g) → same_chain {S = S} {X = X} {F = F} (Err f) (Err g)
err_same h = cc

-- the items up to a stop are the same, and so is the stop
pub runs_once : {S X F : Type 0} (step : S → Result (X × Bool × S) F → Type 0) (one : HasOne step) (s : S) (xs ys : List X) (t u : S) (a b : Result (X × Bool × S) F) → Runs step s xs t → Runs step s ys u → step t a → step u b → is_stop a ≡ true → is_stop b ≡ true → (xs ≡ ys) × (a ≡ b)
runs_once step one s [] [] t u a b p q h k m n = (refl, one s a b (subst (λ v. step v a) (sym p) h) (subst (λ v. step v b) (sym q) k))
runs_once step one s [] (y ∷ ys) t u a b p q h k m n =
    absurd (more_is_no_stop a y q.0 (one s a (Ok (y, false, q.0)) (subst (λ v. step v a) (sym p) h) q.1) m)
runs_once step one s (x ∷ xs) [] t u a b p q h k m n =
    absurd (more_is_no_stop b x p.0 (one s b (Ok (x, false, p.0)) (subst (λ v. step v b) (sym q) k) p.1) n)
runs_once {S} {X} {F} step one s (x ∷ xs) (y ∷ ys) t u a b p q h k m n =
    let same : same_answer {S = S} {X = X} {F = F} (Ok (x, false, p.0)) (Ok (y, false, q.0)) = one s _ _ p.1 q.1 in
    let heads : x ≡ y = same_item same in
    let states : p.0 ≡ q.0 = same_state same in
    let rest = runs_once step one p.0 xs ys t u a b p.2 (subst (λ v. Runs step v ys u) (sym states) q.2) h k m n in
    (cons_same heads rest.0, rest.1)

-- a chain has one answer
pub chain_once : {S X F : Type 0} (step : S → Result (X × Bool × S) F → Type 0) (one : HasOne step) (s : S) (a b : Result (List X × S) F) → Chain step s a → Chain step s b → a ≡ b
chain_once step one s (Ok a) (Ok b) p q =
    let e = runs_once step one s p.0 q.0 p.2 q.2 _ _ p.3 q.3 p.4 q.4 refl refl in
    ok_same p.5 q.5 e.0 e.1
chain_once step one s (Ok a) (Err g) p q =
    let e = runs_once step one s p.0 q.0 p.2 q.1 _ _ p.3 q.2 p.4 q.3 refl refl in
    absurd (ok_no_err e.1)
chain_once step one s (Err f) (Ok b) p q =
    let e = runs_once step one s q.0 p.0 q.2 p.1 _ _ q.3 p.2 q.4 p.3 refl refl in
    absurd (ok_no_err e.1)
chain_once step one s (Err f) (Err g) p q =
    let e = runs_once step one s p.0 q.0 p.1 q.1 _ _ p.2 q.2 p.3 q.3 refl refl in
    err_same e.1
