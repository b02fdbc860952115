-- Records that are handed on, one list behind another.
use Rattle.std.proofs.Common.{◌≡◌, inl, inr, ℕ, suc, ◌+◌, ◌*◌, ◌/◌, ◌%◌, ◌<◌, List, [], ◌∷◌, ◌++◌, length, Option, Some, None, Ok, refl, sym, ap, ◌∙◌, arith, length-append, subst}
use Rattle.std.proofs.lemmas.List.{append-nil, append_assoc}
use Rattle.key_state.specs.declared.entry.Entry.{Entry}
use Rattle.key_state.specs.declared.record.Record.{Record}
use Rattle.journal_layout.specs.Recovery.{log_start}
use Rattle.journal_layout.specs.declared.live.Live.{Live}
use Rattle.journal_recover.specs.Sinks.{Placed, placed_from, grown, HandsMany, HandsOn}
use Rattle.journal_recover.specs.Logs.{ReadsSector}

pub placed_joined : (start n : ℕ) (xs ys : List Record) → placed_from start n (xs ++ ys) ≡ placed_from start n xs ++ placed_from start (n + length xs) ys
placed_joined start n [] ys = let same : n ≡ n + 0 = omega arith in ap (λ m. placed_from start m ys) same
placed_joined start n (made ∷ xs) ys =
    let same : (n + 1) + length xs ≡ n + length (made ∷ xs) = omega arith in
    ap (λ l. (start + n / 30, n % 30, made) ∷ l) (placed_joined start (n + 1) xs ys ∙ ap (λ m. placed_from start (n + 1) xs ++ placed_from start m ys) same)

grown_none : (kept : Option (List Placed)) → grown kept [] ≡ kept
grown_none None = refl
grown_none (Some kept) = ap Some (append-nil kept)

grown_joined : (kept : Option (List Placed)) (xs ys : List Placed) → grown (grown kept xs) ys ≡ grown kept (xs ++ ys)
grown_joined None xs ys = refl
grown_joined (Some kept) xs ys = ap Some (append_assoc kept xs ys)

pub hands_none : (live : Live) (n : ℕ) (kept : Option (List Placed)) → HandsOn live n [] kept kept
hands_none live n kept = sym (grown_none kept)

pub hands_joined : (live : Live) (n m : ℕ) (xs ys : List Record) (first mid last : Option (List Placed)) → HandsOn live n xs first mid → m ≡ n + length xs → HandsOn live m ys mid last
    → HandsOn live n (xs ++ ys) first last
hands_joined live n m xs ys first mid last front place back =
    let start = log_start live in
    back ∙ ap (λ k. grown mid (placed_from start k ys)) place ∙ ap (λ k. grown k (placed_from start (n + length xs) ys)) front
    ∙ grown_joined first (placed_from start n xs) (placed_from start (n + length xs) ys) ∙ ap (grown first) (sym (placed_joined start n xs ys))

-- one record of a sector
pub hands_one : (live : Live) (p j at : ℕ) (made : Record) (before after : Option (List Placed)) → at ≡ log_start live + p → j < 30
    → after ≡ grown before ((at, j, made) ∷ []) → HandsOn live (30 * p + j) (made ∷ []) before after
hands_one live p j at made before after is small kept =
    let start = log_start live in
    let sector : at ≡ start + (30 * p + j) / 30 = omega (arith, is, small) in
    let place : j ≡ (30 * p + j) % 30 = omega (arith, small) in
    kept ∙ ap (λ s. grown before ((s, j, made) ∷ [])) sector ∙ ap (λ n. grown before ((start + (30 * p + j) / 30, n, made) ∷ [])) place

-- how many were handed on
length-placed : (start n : ℕ) (xs : List Record) → length (placed_from start n xs) ≡ length xs
length-placed start n [] = refl
length-placed start n (made ∷ xs) = ap suc (length-placed start (n + 1) xs)

pub many_none : (kept : Option (List Placed)) → HandsMany 0 kept kept
many_none kept = ([], refl, sym (grown_none kept))

pub many_of : (live : Live) (n m : ℕ) (xs : List Record) (before after : Option (List Placed)) → HandsOn live n xs before after → length xs ≡ m → HandsMany m before after
many_of live n m xs before after hands long = (placed_from (log_start live) n xs, length-placed (log_start live) n xs ∙ long, hands)

pub many_joined : (n m : ℕ) (first mid last : Option (List Placed)) → HandsMany n first mid → HandsMany m mid last → HandsMany (n + m) first last
many_joined n m first mid last front back = (
  front.0 ++ back.0,
  omega (arith, length-append front.0 back.0, front.1, back.1),
  back.2 ∙ ap (λ k. grown k back.0) front.2 ∙ grown_joined first front.0 back.0,
)

pub many_of_sector : (live : Live) (place : ℕ) (sector : List ℕ) (base entries : List Entry) (before after : Option (List Placed)) (n : ℕ)
    → ReadsSector live place sector base entries before after (Ok n) → HandsMany n before after
many_of_sector live place sector base entries before after n (inl foreign) =
    subst (λ k. HandsMany n before k) (sym foreign.3) (subst (λ m. HandsMany m before before) (sym foreign.1) (many_none before))
many_of_sector live place sector base entries before after n (inr own) = many_of live (30 * place) n own.1.0 before after own.1.4 own.1.1
