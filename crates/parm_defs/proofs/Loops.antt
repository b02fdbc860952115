-- Lists that are built item by item.
use Rattle.std.proofs.Common.{◌≡◌, ℕ, List, [], ◌∷◌, ◌++◌, ◌+◌, ◌<◌, Bool, filter, get_or, length, map, take, ap, sym, ◌∙◌, append_assoc}
use Rattle.std.proofs.lemmas.List.{map_more}
use Rattle.std.proofs.lemmas.List.Elements.{filter-append}

three : {X : Type 0} (p : X → Bool) (a b c : X) → filter p (a ∷ b ∷ c ∷ []) ≡ filter p (a ∷ []) ++ (filter p (b ∷ []) ++ filter p (c ∷ []))
three p a b c = filter-append p (a ∷ []) (b ∷ c ∷ []) ∙ ap (λ xs. filter p (a ∷ []) ++ xs) (filter-append p (b ∷ []) (c ∷ []))

-- what passes of three, tried one by one
pub one_by_one : {X : Type 0} (p : X → Bool) (own first second third : List X) (a b c : X) → first ≡ own ++ filter p (a ∷ []) → second ≡ first ++ filter p (b ∷ []) → third ≡ second ++ filter p (c ∷ []) → third ≡ own ++ filter p (a ∷ b ∷ c ∷ [])
one_by_one p own first second third a b c h k m =
    m ∙ ap (λ xs. xs ++ filter p (c ∷ [])) (k ∙ ap (λ xs. xs ++ filter p (b ∷ [])) h) ∙
    append_assoc (own ++ filter p (a ∷ [])) (filter p (b ∷ [])) (filter p (c ∷ [])) ∙
    append_assoc own (filter p (a ∷ [])) (filter p (b ∷ []) ++ filter p (c ∷ [])) ∙
    ap (λ xs. own ++ xs) (sym (three p a b c))

-- one more item made
pub one_more : {X Y : Type 0} (f : X → Y) (xs : List X) (i : ℕ) (x : X) (y : Y) (before news : List Y) → before ≡ map f (take i xs) → x ≡ get_or xs i x → i < length xs → y ≡ f x → news ≡ before ++ y ∷ [] → news ≡ map f (take (i + 1) xs)
one_more f xs i x y before news so_far is within made added =
    added ∙ ap (λ ys. ys ++ y ∷ []) so_far ∙ ap (λ z. map f (take i xs) ++ z ∷ []) (made ∙ ap f is) ∙ sym (map_more f xs i x within)

-- one more item read
pub one_read : {X Y : Type 0} (reads : Y → X) (before news : List X) (x : X) (y : Y) (now next : List Y) (all : List X) → before ++ map reads now ≡ all → now ≡ y ∷ next → x ≡ reads y → news ≡ before ++ x ∷ [] → news ++ map reads next ≡ all
one_read reads before news x y now next all so_far is read added =
    ap (λ xs. xs ++ map reads next) added ∙ append_assoc before (x ∷ []) (map reads next) ∙ ap (λ z. before ++ z ∷ map reads next) read ∙
    ap (λ ys. before ++ map reads ys) (sym is) ∙ so_far
