-- Two numbers, and sizes and percentages in turn, pair by pair.
use Rattle.std.proofs.Common.{◌≡◌, ℕ, ◌-◌, ◌<◌, ◌≤◌, ◌%◌, List, [], ◌∷◌, ◌++◌, Ok, Err, Result, All, length, take, drop, get_or, refl, sym, ap, ◌∙◌, arith}
use Rattle.std.proofs.lemmas.List.{append_assoc, length-map, take_all}
use Rattle.std.proofs.lemmas.List.Elements.{All-drop}
use Rattle.parm_lex.specs.Spans.{IsSpanOf, bytes_of}
use Rattle.parm_lex.specs.declared.span.Span.{Span}
use Rattle.parm_forms.specs.Forms.{◌>>=◌, count, number, one, size, size_pairs, sizes, texts_at}
use Rattle.parm_forms.specs.declared.fault.ParmKind.{ParmKind}
use Rattle.parm_forms.specs.declared.fault.ParmKind.TheVariants.{ValueCount}
use Rattle.parm_forms.proofs.Each.{behind}

pub first_fault : (bytes : List ℕ) (items : List Span) (d : Span) (kind : ParmKind) → 2 ≤ length items → length items < 3 → Err kind ≡ number 0 100000 (bytes_of bytes (get_or items 0 d)) → count (texts_at bytes items) ≡ Err kind
first_fault bytes [] d kind two more reads = absurd (omega (arith, two))
first_fault bytes (first ∷ []) d kind two more reads = absurd (omega (arith, two))
first_fault bytes (first ∷ many ∷ []) d kind two more reads =
    ap (λ r. r >>= λ n. number 1 64 (bytes_of bytes many) >>= λ m. Ok (n ∷ m ∷ [])) (sym reads)
first_fault bytes (first ∷ many ∷ third ∷ items) d kind two more reads = absurd (omega (arith, more))

pub record PairsSoFar (bytes : List ℕ) (items rest : List Span) (numbers : List ℕ) : Type 0 where
  pub same : behind numbers (size_pairs (texts_at bytes rest)) ≡ size_pairs (texts_at bytes items)
  pub spans : All (IsSpanOf bytes) rest

pub no_pair : (bytes : List ℕ) (items rest : List Span) (numbers : List ℕ) → PairsSoFar bytes items rest numbers → 1 ≤ length rest → length rest < 2 → size_pairs (texts_at bytes items) ≡ Err ValueCount
no_pair bytes items [] numbers kept one less = absurd (omega (arith, one))
no_pair bytes items (item ∷ []) numbers kept one less = sym kept.same
no_pair bytes items (item ∷ percent ∷ rest) numbers kept one less = absurd (omega (arith, less))

more_pairs : (n p : ℕ) (numbers : List ℕ) (r : Result ℕ ParmKind) (q : Result ℕ ParmKind) (rest : Result (List ℕ) ParmKind) → Ok n ≡ r → Ok p ≡ q → behind ((numbers ++ n ∷ []) ++ p ∷ []) rest ≡ behind numbers (r >>= λ n. q >>= λ p. rest >>= λ xs. Ok (n ∷ p ∷ xs))
more_pairs n p numbers (Ok m) (Ok k) (Ok xs) e f =
    let same_n : n ≡ m = cc in
    let same_p : p ≡ k = cc in
    let joined : ((numbers ++ n ∷ []) ++ p ∷ []) ++ xs ≡ numbers ++ (n ∷ p ∷ xs) = append_assoc (numbers ++ n ∷ []) (p ∷ []) xs ∙ append_assoc numbers (n ∷ []) (p ∷ xs) in
    rw (← same_n, ← same_p) (ap Ok joined)
more_pairs n p numbers (Ok m) (Ok k) (Err kind) e f = refl
more_pairs n p numbers (Ok m) (Err kind) rest e f = absurd (cc)
more_pairs n p numbers (Err kind) q rest e f = absurd (cc)

pub pairs_kept : (bytes : List ℕ) (items rest : List Span) (d : Span) (numbers mores news : List ℕ) (n p : ℕ) → PairsSoFar bytes items rest numbers → 2 ≤ length rest → Ok n ≡ size (bytes_of bytes (get_or rest 0 d)) → Ok p ≡ number 0 100 (bytes_of bytes (get_or rest 1 d)) → mores ≡ numbers ++ n ∷ [] → news ≡ mores ++ p ∷ [] → PairsSoFar bytes items (take (length rest - 2) (drop 2 rest)) news
pairs_kept bytes items [] d numbers mores news n p kept two s t e f = absurd (omega (arith, two))
pairs_kept bytes items (item ∷ []) d numbers mores news n p kept two s t e f = absurd (omega (arith, two))
pairs_kept bytes items (item ∷ percent ∷ rest) d numbers mores news n p kept two s t e f =
    let whole : take (length (item ∷ percent ∷ rest) - 2) rest ≡ rest = take_all _ rest (omega arith) in
    let numbers_are : news ≡ (numbers ++ n ∷ []) ++ p ∷ [] = cc in
    rw (whole, numbers_are) (record {
      same = more_pairs n p numbers _ _ (size_pairs (texts_at bytes rest)) s t ∙ kept.same;
      spans = All-drop (IsSpanOf bytes) 2 (item ∷ percent ∷ rest) kept.spans;
    })

even_rest : (bytes : List ℕ) (items : List Span) → length (texts_at bytes items) % 2 ≡ length items % 2
even_rest bytes items = ap (λ n. n % 2) (length-map items (bytes_of bytes))

pub pairs_are_sizes : (bytes : List ℕ) (items : List Span) → 2 ≤ length items → length items % 2 ≡ 0 → sizes (texts_at bytes items) ≡ size_pairs (texts_at bytes items)
pairs_are_sizes bytes [] two even = absurd (omega (arith, two))
pairs_are_sizes bytes (item ∷ []) two even = absurd (omega (arith, two))
pairs_are_sizes bytes (item ∷ percent ∷ items) two even =
    let rest : length items % 2 ≡ 0 = omega (arith, even) in
    rw (even_rest bytes items ∙ rest) refl

pub odd_sizes : (bytes : List ℕ) (items : List Span) → 2 ≤ length items → (length items % 2 ≡ 0 → ⊥) → sizes (texts_at bytes items) ≡ Err ValueCount
odd_sizes bytes [] two odd = absurd (omega (arith, two))
odd_sizes bytes (item ∷ []) two odd = absurd (omega (arith, two))
odd_sizes bytes (item ∷ percent ∷ items) two odd =
    let rest : length items % 2 ≡ 1 = omega (arith, odd) in
    rw (even_rest bytes items ∙ rest) refl

pub one_size : (bytes : List ℕ) (items : List Span) → length items ≡ 1 → sizes (texts_at bytes items) ≡ one size (texts_at bytes items)
one_size bytes [] e = absurd (cc)
one_size bytes (item ∷ []) e = refl
one_size bytes (item ∷ more ∷ items) e = absurd (omega (arith, e))
