-- Lines that are printed one after another.
use Rattle.std.proofs.Common.{◌≡◌, ℕ, ◌+◌, ◌<◌, List, [], ◌∷◌, ◌++◌, length, take, drop, get_or, min, Result, Ok, Err, OnErr, OnOk, ap, sym, ◌∙◌, subst}
use Rattle.std.specs.List.{flat_map}
use Rattle.std.proofs.lemmas.List.{append-nil, drop_more, take-append-drop, take_more}
use Rattle.std.proofs.lemmas.Grind.{flat_map-append}
use Rattle.run_report.specs.Says.{Printing, Says, SaysFront, front_here, says_along, says_front, says_then, take_within, then_front}

pub on_err : {X E : Type 0} (r : Result X E) (P : Type 0) → P → OnErr r P
on_err (Ok x) P p = tt
on_err (Err e) P p = p

-- the text of the items up to one more
text_more : {X : Type 0} (f : X → List ℕ) (xs : List X) (i : ℕ) (x : X) → i < length xs → x ≡ get_or xs i x → flat_map f (take i xs) ++ f x ≡ flat_map f (take (i + 1) xs)
text_more f xs i x inside is =
    let here : take (i + 1) xs ≡ take i xs ++ x ∷ [] = take_more xs i x inside ∙ ap (λ y. take i xs ++ y ∷ []) (sym is) in
    sym (ap (flat_map f) here ∙ flat_map-append f (take i xs) (x ∷ []) ∙ ap (λ t. flat_map f (take i xs) ++ t) (append-nil (f x)))

-- the text of all items is that of those in front, and the rest
text_parts : {X : Type 0} (f : X → List ℕ) (xs : List X) (i : ℕ) → flat_map f (take i xs) ++ flat_map f (drop i xs) ≡ flat_map f xs
text_parts f xs i = sym (flat_map-append f (take i xs) (drop i xs)) ∙ ap (flat_map f) (take-append-drop i xs)

text_from : {X : Type 0} (f : X → List ℕ) (xs : List X) (i : ℕ) (x : X) → i < length xs → x ≡ get_or xs i x → flat_map f (take i xs) ++ (f x ++ flat_map f (drop (i + 1) xs)) ≡ flat_map f xs
text_from f xs i x inside is =
    let here : drop i xs ≡ x ∷ drop (i + 1) xs = drop_more xs i x inside ∙ ap (λ y. y ∷ drop (i + 1) xs) (sym is) in
    ap (λ t. flat_map f (take i xs) ++ t) (sym (ap (flat_map f) here)) ∙ text_parts f xs i

pub said_more : {X : Type 0} (f : X → List ℕ) (xs : List X) (i : ℕ) (x : X) (a b c : Printing) (line : List ℕ) → i < length xs → x ≡ get_or xs i x → line ≡ f x → Says a b (flat_map f (take i xs)) → Says b c line → Says a c (flat_map f (take (i + 1) xs))
said_more f xs i x a b c line inside is same before now =
    says_along a c _ _ (text_more f xs i x inside is) (says_then a b c _ _ before (says_along b c line (f x) same now))

pub said_so_far : {X : Type 0} (f : X → List ℕ) (xs : List X) (i : ℕ) (a b : Printing) → Says a b (flat_map f (take i xs)) → SaysFront a b (flat_map f xs)
said_so_far f xs i a b p = subst (λ t. SaysFront a b t) (text_parts f xs i) (front_here a b _ (flat_map f (drop i xs)) p)

pub longer : (a b : Printing) (t u : List ℕ) → SaysFront a b t → SaysFront a b (t ++ u)
longer a b t u (says_front n p) = says_front (min n (length t)) (subst (λ l. Says a b l) (sym (take_within t u n)) p)

pub said_front : {X : Type 0} (f : X → List ℕ) (xs : List X) (i : ℕ) (x : X) (a b c : Printing) → i < length xs → x ≡ get_or xs i x → Says a b (flat_map f (take i xs)) → SaysFront b c (f x) → SaysFront a c (flat_map f xs)
said_front f xs i x a b c inside is before now =
    subst (λ t. SaysFront a c t) (text_from f xs i x inside is) (then_front a b c _ _ before (longer b c (f x) _ now))

pub on_ok_then : {E : Type 0} (r : Result (Unit {0}) E) (a b c : Printing) (t u : List ℕ) → Says a b t → OnOk r (Says b c u) → OnOk r (Says a c (t ++ u))
on_ok_then (Ok x) a b c t u p q = says_then a b c t u p q
on_ok_then (Err e) a b c t u p q = tt

pub on_err_then : {E : Type 0} (r : Result (Unit {0}) E) (a b c : Printing) (t u : List ℕ) → Says a b t → OnErr r (SaysFront b c u) → OnErr r (SaysFront a c (t ++ u))
on_err_then (Ok x) a b c t u p q = tt
on_err_then (Err e) a b c t u p q = then_front a b c t u p q

-- the same texts in other words
pub ok_along : {E : Type 0} (r : Result (Unit {0}) E) (a b : Printing) (t u : List ℕ) → t ≡ u → OnOk r (Says a b t) → OnOk r (Says a b u)
ok_along r a b t u e p = subst (λ l. OnOk r (Says a b l)) e p

pub err_along : {E : Type 0} (r : Result (Unit {0}) E) (a b : Printing) (t u : List ℕ) → t ≡ u → OnErr r (SaysFront a b t) → OnErr r (SaysFront a b u)
err_along r a b t u e p = subst (λ l. OnErr r (SaysFront a b l)) e p

pub front_along : (a b : Printing) (t u : List ℕ) → t ≡ u → SaysFront a b t → SaysFront a b u
front_along a b t u e p = subst (λ l. SaysFront a b l) e p
