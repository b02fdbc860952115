-- A list whose first items were changed by a function.
use Rattle.std.proofs.Common.{zero, suc, ◌≡◌, ℕ, ◌+◌, ◌<◌, List, [], ◌∷◌, length, map, get_or, set, refl, ◌∙◌, ap, arith}

abbrev pub front_mapped : {A : Type 0} → (A → A) → ℕ → List A → List A
front_mapped f zero xs = xs
front_mapped f (suc n) [] = []
front_mapped f (suc n) (x ∷ xs) = f x ∷ front_mapped f n xs

pub front_mapped_all : {A : Type 0} (f : A → A) (xs : List A) (n : ℕ) → n ≡ length xs → front_mapped f n xs ≡ map f xs
front_mapped_all f [] zero e = refl
front_mapped_all f [] (suc n) e = refl
front_mapped_all f (x ∷ xs) zero e = absurd (omega arith)
front_mapped_all {A} f (x ∷ xs) (suc n) e = ap (λ (l : List A). f x ∷ l) (front_mapped_all f xs n (omega arith))

pub front_mapped_at : {A : Type 0} (f : A → A) (xs : List A) (n : ℕ) (d : A) → get_or (front_mapped f n xs) n d ≡ get_or xs n d
front_mapped_at f [] zero d = refl
front_mapped_at f [] (suc n) d = refl
front_mapped_at f (x ∷ xs) zero d = refl
front_mapped_at f (x ∷ xs) (suc n) d = front_mapped_at f xs n d

pub front_mapped_length : {A : Type 0} (f : A → A) (xs : List A) (n : ℕ) → length (front_mapped f n xs) ≡ length xs
front_mapped_length f xs zero = refl
front_mapped_length f [] (suc n) = refl
front_mapped_length f (x ∷ xs) (suc n) = ap suc (front_mapped_length f xs n)

pub front_mapped_more : {A : Type 0} (f : A → A) (xs : List A) (n : ℕ) (d : A) → n < length xs →
    set (front_mapped f n xs) n (f (get_or xs n d)) ≡ front_mapped f (suc n) xs
front_mapped_more f [] n d inside = absurd (omega arith)
front_mapped_more f (x ∷ xs) zero d inside = refl
front_mapped_more {A} f (x ∷ xs) (suc n) d inside = ap (λ (l : List A). f x ∷ l) (front_mapped_more f xs n d (omega arith))

pub front_mapped_next : {A : Type 0} (f : A → A) (xs : List A) (n : ℕ) (d : A) → n < length xs →
    set (front_mapped f n xs) n (f (get_or xs n d)) ≡ front_mapped f (n + 1) xs
front_mapped_next f xs n d inside =
    let next : suc n ≡ n + 1 = omega arith in
    front_mapped_more f xs n d inside ∙ ap (λ k. front_mapped f k xs) next
