-- The row of a word.
use Rattle.std.proofs.Common.{◌≡◌, ℕ, zero, suc, ◌<◌, ◌+◌, List, [], ◌∷◌, length, Option, Some, None, slice_get, Bool, true, false, cond, not, ◌&&◌, ◌||◌, nat_lt, ap, ◌∙◌, refl, arith, sym, get_or, IfSome, IsTrue}
use Rattle.std.specs.Borrow.{Bor}
use Rattle.std.specs.List.{list_any, position, position_or_len}
use Rattle.std.specs.Option.{option_map}
use Rattle.std.specs.Str.{bytes_eq}
use Rattle.std.proofs.lemmas.List.Quantifiers.{position-Some}
use Rattle.std.proofs.lemmas.List.{length-map}
use Rattle.std.proofs.lemmas.Option.{slice_get-map, slice_get-get_or, slice_get_within}
use Rattle.std.proofs.lemmas.Slice.Eq.{bytes_eq-Decides}
use Rattle.std.proofs.lemmas.Bool.{lt-ltb}
use Rattle.parm_keys.specs.Words.{are_distinct, spelled, row_of}

abbrev is_key : List ℕ → Bor (List ℕ) → Bool
is_key word w = bytes_eq w.now word

at_row : (ws : List (Bor (List ℕ))) (w : Bor (List ℕ)) (i : ℕ) → i < length ws → slice_get (spelled ws) i ≡ Some (get_or ws i w).now
at_row ws w i h = slice_get-map (λ v. v.now) ws i ∙ ap (option_map (λ v. v.now)) (slice_get-get_or ws i w h)

-- a row that is found holds the word
found_row : (ws : List (Bor (List ℕ))) (word : List ℕ) (i : ℕ) → position (λ w. bytes_eq w.now word) ws ≡ Some i → slice_get (spelled ws) i ≡ Some word
found_row [] word i h = absurd (cc)
found_row (w ∷ ws) word i h =
    let f = position-Some (is_key word) (w ∷ ws) i w h in
    at_row (w ∷ ws) w i f.0 ∙ ap Some ((bytes_eq-Decides _ word).0 f.1)

pub finds : (r : Option ℕ) (ws : List (Bor (List ℕ))) (word : List ℕ) → r ≡ position (λ w. bytes_eq w.now word) ws → IfSome r (λ row. slice_get (spelled ws) row ≡ Some word)
finds None ws word h = tt
finds (Some i) ws word h = found_row ws word i (sym h)

row_within : (ws : List (Bor (List ℕ))) (word : List ℕ) (i : ℕ) → position (λ w. bytes_eq w.now word) ws ≡ Some i → i < length ws
row_within [] word i h = absurd (cc)
row_within (w ∷ ws) word i h = (position-Some (is_key word) (w ∷ ws) i w h).0

pub stays_within : (r : Option ℕ) (ws : List (Bor (List ℕ))) (word : List ℕ) (rows : ℕ) → length ws ≡ rows → r ≡ position (λ w. bytes_eq w.now word) ws → IfSome r (λ row. row < rows)
stays_within None ws word rows e h = tt
stays_within (Some i) ws word rows e h = let below = row_within ws word i (sym h) in omega arith

-- the place of a word among the spelled words
same_place : (ws : List (Bor (List ℕ))) (word : List ℕ) → position_or_len (λ w. bytes_eq w.now word) ws ≡ position_or_len (λ w. bytes_eq w word) (spelled ws)
same_place [] word = refl
same_place (w ∷ ws) word = ap (λ n. cond (not (bytes_eq w.now word)) (1 + n) 0) (same_place ws word)

pub same_row : (r : Option ℕ) (ws : List (Bor (List ℕ))) (word : List ℕ) → r ≡ position (λ w. bytes_eq w.now word) ws → r ≡ row_of (spelled ws) word
same_row r ws word h =
    h ∙ ap (λ n. cond (nat_lt n (length ws)) (Some n) None) (same_place ws word) ∙
    ap (λ m. cond (nat_lt (position_or_len (λ w. bytes_eq w word) (spelled ws)) m) (Some (position_or_len (λ w. bytes_eq w word) (spelled ws))) None) (sym (length-map ws (λ v. v.now)))

some_same : {A : Type 0} {x y : A} → Some x ≡ Some y → x ≡ y
some_same h = cc

both : (a b : Bool) → IsTrue (a && b) → (a ≡ true) × IsTrue b
both true b h = (refl, h)
both false b h = absurd (cc)

none_of : (b : Bool) → not b ≡ true → b ≡ false
none_of true h = cc
none_of false h = refl

unless_true : (b : Bool) → (b ≡ true → ⊥) → b ≡ false
unless_true true h = absurd (h refl)
unless_true false h = refl

or_true : (a b : Bool) → b ≡ true → (a || b) ≡ true
or_true true b k = refl
or_true false b k = k

-- a word that stands somewhere passes somewhere
any_at : (test : List ℕ → Bool) (ws : List (List ℕ)) (row : ℕ) (word : List ℕ) → slice_get ws row ≡ Some word → test word ≡ true → list_any test ws ≡ true
any_at test [] row word e h = absurd (cc)
any_at test (w ∷ ws) zero word e h = let same : w ≡ word = some_same e in let yes : test w ≡ true = ap test same ∙ h in ap (λ b. b || list_any test ws) yes
any_at test (w ∷ ws) (suc row) word e h = or_true (test w) _ (any_at test ws row word e h)

cond_false : {A : Type 0} (b : Bool) (x y : A) → b ≡ false → cond b x y ≡ y
cond_false true x y h = absurd (cc)
cond_false false x y h = refl

cond_true : {A : Type 0} (b : Bool) (x y : A) → b ≡ true → cond b x y ≡ x
cond_true true x y h = refl
cond_true false x y h = absurd (cc)

-- where no word stands twice, the first row that holds a word is the only one
first_place : (ws : List (List ℕ)) (word : List ℕ) (row : ℕ) → IsTrue (are_distinct ws) → slice_get ws row ≡ Some word → position_or_len (λ w. bytes_eq w word) ws ≡ row
first_place [] word row d e = absurd (cc)
first_place (w ∷ ws) word zero d e =
    let yes : bytes_eq w word ≡ true = (bytes_eq-Decides w word).1 (some_same e) in
    cond_false (not (bytes_eq w word)) (1 + position_or_len (λ v. bytes_eq v word) ws) 0 (ap not yes)
first_place (w ∷ ws) word (suc row) d e =
    let parts = both (not (list_any (λ v. bytes_eq w v) ws)) (are_distinct ws) d in
    let none : list_any (λ v. bytes_eq w v) ws ≡ false = none_of _ parts.0 in
    let differs : bytes_eq w word ≡ false = unless_true _ (λ same. let again : list_any (λ v. bytes_eq w v) ws ≡ true = any_at (λ v. bytes_eq w v) ws row word e same in cc) in
    let rest : position_or_len (λ v. bytes_eq v word) ws ≡ row = first_place ws word row parts.1 e in
    cond_true (not (bytes_eq w word)) (1 + position_or_len (λ v. bytes_eq v word) ws) 0 (ap not differs) ∙ omega arith

chosen_row : (words : List (List ℕ)) (word : List ℕ) (row place : ℕ) → place ≡ row → row < length words → cond (nat_lt place (length words)) (Some place) None ≡ Some row
chosen_row words word row place e h = let inside : nat_lt place (length words) ≡ true = lt-ltb _ _ (omega arith) in cond_true _ (Some place) None inside ∙ ap Some e

-- a row that holds a word is the row of the word
pub only_row : (r : Option ℕ) (ws : List (Bor (List ℕ))) (word : List ℕ) → IsTrue (are_distinct (spelled ws)) → r ≡ position (λ w. bytes_eq w.now word) ws → (row : ℕ) → slice_get (spelled ws) row ≡ Some word → r ≡ Some row
only_row r ws word d h row e =
    same_row r ws word h ∙ chosen_row (spelled ws) word row _ (first_place (spelled ws) word row d e) (slice_get_within (spelled ws) row word e)
