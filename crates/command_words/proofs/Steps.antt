-- One option more.
use Rattle.std.proofs.Common.{◌≡◌, ℕ, ◌+◌, ◌≤◌, List, ◌∷◌, Bool, true, false, arith, drop, get_or, take, ◌-◌, length, map, refl, ap, sym, ◌∙◌}
use Rattle.std.proofs.lemmas.List.{drop_more, length-drop, take_all}
use Rattle.std.specs.Prelude.{Option, Some, None}
use Rattle.command_words.specs.declared.command.Flag.{Flag}
use Rattle.command_words.specs.declared.words.Said.{Said}
use Rattle.command_words.specs.Flags.{flags_of, is_own_name, named_flag, split_flag, two_or_one, with_flag, word_flag}
use Rattle.command_words.specs.Said.{said_after, said_flags, with_named, with_some}

more : (said next : Said) (alone : Option Flag) (behind : Option (List Flag)) → with_some said alone ≡ Some next → said_after said (with_flag alone behind) ≡ said_after next behind
more said next None behind h = cc
more said next (Some flag) None h = refl
more said next (Some flag) (Some flags) h = ap (λ o. said_flags o flags) h

named_more : (said next : Said) (flag : Flag) (own : Bool) (behind : Option (List Flag)) → with_named said flag own ≡ Some next → said_after said (named_flag own flag behind) ≡ said_after next behind
named_more said next flag true behind h = more said next (Some flag) behind h
named_more said next flag false behind h = cc

pub by_word : (said next : Said) (at : ℕ) (word name : List ℕ) (words : List (List ℕ)) → split_flag (at + 1) word ≡ None → with_some said (word_flag at word) ≡ Some next →
    said_after next (flags_of (at + 1) (name ∷ words)) ≡ said_after said (flags_of at (word ∷ name ∷ words))
by_word said next at word name words split h =
    sym (ap (λ o. said_after said (two_or_one o (is_own_name name) (flags_of (at + 2) words) (word_flag at word) (flags_of (at + 1) (name ∷ words)))) split
    ∙ more said next (word_flag at word) (flags_of (at + 1) (name ∷ words)) h)

pub by_name : (said next : Said) (flag : Flag) (at : ℕ) (word name : List ℕ) (words : List (List ℕ)) → split_flag (at + 1) word ≡ Some flag → with_named said flag (is_own_name name) ≡ Some next →
    said_after next (flags_of (at + 2) words) ≡ said_after said (flags_of at (word ∷ name ∷ words))
by_name said next flag at word name words split h =
    sym (ap (λ o. said_after said (two_or_one o (is_own_name name) (flags_of (at + 2) words) (word_flag at word) (flags_of (at + 1) (name ∷ words)))) split
    ∙ named_more said next flag (is_own_name name) (flags_of (at + 2) words) h)

two_parts : {A : Type 0} (f : A → List ℕ) (xs : List A) (a b : A) → 2 ≤ length xs → a ≡ get_or xs 0 a → b ≡ get_or xs 1 b → map f xs ≡ f a ∷ f b ∷ map f (drop 2 xs)
two_parts f xs a b some is_a is_b =
    let first : drop 0 xs ≡ get_or xs 0 a ∷ drop 1 xs = drop_more xs 0 a (omega arith) in
    let second : drop 1 xs ≡ get_or xs 1 b ∷ drop 2 xs = drop_more xs 1 b (omega arith) in
    ap (map f) first ∙ ap (λ x. f x ∷ map f (drop 1 xs)) (sym is_a) ∙ ap (λ ys. f a ∷ map f ys) second ∙ ap (λ x. f a ∷ f x ∷ map f (drop 2 xs)) (sym is_b)

behind_one : {A : Type 0} (f : A → List ℕ) (xs : List A) (b : A) → 2 ≤ length xs → b ≡ get_or xs 1 b → map f (drop 1 xs) ≡ f b ∷ map f (drop 2 xs)
behind_one f xs b some is_b =
    let second : drop 1 xs ≡ get_or xs 1 b ∷ drop 2 xs = drop_more xs 1 b (omega arith) in
    ap (map f) second ∙ ap (λ x. f x ∷ map f (drop 2 xs)) (sym is_b)

behind_is : {A : Type 0} (n : ℕ) (xs : List A) → n ≤ length xs → take (length xs - n) (drop n xs) ≡ drop n xs
behind_is n xs h = let long : length (drop n xs) ≡ length xs - n = length-drop n xs in take_all (length xs - n) (drop n xs) (omega arith)

pub name_in : {A : Type 0} (f : A → List ℕ) (xs : List A) (a b : A) (word name : List ℕ) (said next : Said) (flag : Flag) (at : ℕ) (answer : Option Said) →
    2 ≤ length xs → a ≡ get_or xs 0 a → b ≡ get_or xs 1 b → word ≡ f a → name ≡ f b → Some flag ≡ split_flag (at + 1) word → Some next ≡ with_named said flag (is_own_name name) →
    answer ≡ said_after next (flags_of (at + 2) (map f (take (length xs - 2) (drop 2 xs)))) → answer ≡ said_after said (flags_of at (map f xs))
name_in f xs a b word name said next flag at answer some is_a is_b of_word of_name split h is =
    is ∙ ap (λ ws. said_after next (flags_of (at + 2) (map f ws))) (behind_is 2 xs some) ∙ by_name said next flag at word name (map f (drop 2 xs)) (sym split) (sym h)
    ∙ sym (ap (λ ws. said_after said (flags_of at ws)) (two_parts f xs a b some is_a is_b ∙ ap (λ w. w ∷ f b ∷ map f (drop 2 xs)) (sym of_word) ∙ ap (λ n. word ∷ n ∷ map f (drop 2 xs)) (sym of_name)))

pub word_in : {A : Type 0} (f : A → List ℕ) (xs : List A) (a b : A) (word again : List ℕ) (said next : Said) (at : ℕ) (answer : Option Said) →
    2 ≤ length xs → a ≡ get_or xs 0 a → b ≡ get_or xs 1 b → word ≡ f a → again ≡ f a → None ≡ split_flag (at + 1) word → Some next ≡ with_some said (word_flag at again) →
    answer ≡ said_after next (flags_of (at + 1) (map f (take (length xs - 1) (drop 1 xs)))) → answer ≡ said_after said (flags_of at (map f xs))
word_in f xs a b word again said next at answer some is_a is_b of_word of_again split h is =
    is ∙ ap (λ ws. said_after next (flags_of (at + 1) (map f ws))) (behind_is 1 xs (omega arith)) ∙ ap (λ ws. said_after next (flags_of (at + 1) ws)) (behind_one f xs b some is_b)
    ∙ by_word said next at word (f b) (map f (drop 2 xs)) (sym split) (ap (λ w. with_some said (word_flag at w)) (of_word ∙ sym of_again) ∙ sym h)
    ∙ sym (ap (λ ws. said_after said (flags_of at ws)) (two_parts f xs a b some is_a is_b ∙ ap (λ w. w ∷ f b ∷ map f (drop 2 xs)) (sym of_word)))
