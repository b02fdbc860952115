-- Where the rest of a line lies in the file, and the spans at its front.
use Rattle.std.proofs.Common.{◌≡◌, ℕ, suc, List, [], ◌∷◌, ◌++◌, ◌+◌, ◌-◌, ◌≤◌, Bool, true, false, not, ◌&&◌, cond, length, take, drop, refl, sym, ap, ◌∙◌, subst, arith, append_assoc, length-append}
use Rattle.std.specs.List.{list_all, position_or_len}
use Rattle.std.proofs.lemmas.List.{take-append-drop, take-append-le, append-nil}
use Rattle.std.proofs.lemmas.Bool.Decides.{nat_tests}
use Rattle.std.proofs.Math.Seq.{drop-append_seam}
use Rattle.parm_lex.specs.Bytes.{bare_len, blanks_off, inside_len, is_bare, is_blank, is_inside, is_printable, is_word, word_len}
use Rattle.parm_lex.specs.Grammar.{span_at}
use Rattle.parm_lex.specs.Spans.{IsSpanOf, bytes_of}
use Rattle.parm_lex.specs.Spelling.{LiesAt}
use Rattle.parm_lex.specs.declared.span.LinePlace.{LinePlace}
use Rattle.parm_lex.proofs.Runs.{run_within}

regroup : (front a b back : List ℕ) → front ++ ((a ++ b) ++ back) ≡ (front ++ a) ++ (b ++ back)
regroup front a b back = simp append_assoc

pub lies_behind : (bytes : List ℕ) (place : LinePlace) (a b : List ℕ) → LiesAt bytes place (a ++ b) → LiesAt bytes place b
lies_behind bytes place a b h = record {
  front = h.front ++ a;
  back = h.back;
  whole = h.whole ∙ regroup h.front a b h.back;
  ends = let ends = h.ends in simp length-append (omega (arith, simp length-append at ends));
}

pub lies_drop : (bytes : List ℕ) (place : LinePlace) (rest : List ℕ) (n : ℕ) → LiesAt bytes place rest → LiesAt bytes place (drop n rest)
lies_drop bytes place rest n h = lies_behind bytes place (take n rest) (drop n rest) (subst (λ r. LiesAt bytes place r) (sym (take-append-drop n rest)) h)

pub lies_tail : (bytes : List ℕ) (place : LinePlace) (byte : ℕ) (rest : List ℕ) → LiesAt bytes place (byte ∷ rest) → LiesAt bytes place rest
lies_tail bytes place byte rest h = lies_behind bytes place (byte ∷ []) rest h

pub lies_end : (bytes : List ℕ) (place : LinePlace) (rest : List ℕ) → LiesAt bytes place rest → LiesAt bytes place []
lies_end bytes place rest h = lies_behind bytes place rest [] (subst (λ r. LiesAt bytes place r) (sym (append-nil rest)) h)

pub lies_blanks : (bytes : List ℕ) (place : LinePlace) (rest : List ℕ) → LiesAt bytes place rest → LiesAt bytes place (blanks_off rest)
unfolding blanks_off
lies_blanks bytes place rest h = lies_drop bytes place rest (position_or_len (λ byte. not (is_blank byte)) rest) h

taken : (front rest back : List ℕ) (n : ℕ) → n ≤ length rest → take n (drop (length front) (front ++ (rest ++ back))) ≡ take n rest
taken front rest back n h = ap (take n) (drop-append_seam front (rest ++ back)) ∙ take-append-le n rest back h

-- the text of the first bytes of the rest of a line
pub span_text : (bytes : List ℕ) (place : LinePlace) (rest : List ℕ) (n : ℕ) → LiesAt bytes place rest → n ≤ length rest → bytes_of bytes (span_at place rest n) ≡ take n rest
span_text bytes place rest n h within =
    let ends = h.ends in
    let starts : place.end - length rest ≡ length h.front = omega arith in
    ap (λ at. take n (drop at bytes)) starts ∙ ap (λ file. take n (drop (length h.front) file)) h.whole ∙ taken h.front rest h.back n within

-- the first bytes of the rest of a line
pub span_lies : (bytes : List ℕ) (place : LinePlace) (rest : List ℕ) (n : ℕ) → LiesAt bytes place rest → n ≤ length rest → list_all is_printable (take n rest) ≡ true → IsSpanOf bytes (span_at place rest n)
span_lies bytes place rest n h within printable =
    let ends = h.ends in
    let starts : place.end - length rest ≡ length h.front = omega arith in
    let size : length bytes ≡ length h.front + (length rest + length h.back) = ap length h.whole ∙ simp length-append in
    let same : take n (drop (place.end - length rest) bytes) ≡ take n rest =
    ap (λ at. take n (drop at bytes)) starts ∙ ap (λ file. take n (drop (length h.front) file)) h.whole ∙ taken h.front rest h.back n within in
    record {
      within = omega arith;
      printable = ap (list_all is_printable) same ∙ printable;
    }

one_suc : (n : ℕ) → suc n ≡ 1 + n
one_suc n = omega arith

both_true : (a b : Bool) → a ≡ true → b ≡ true → (a && b) ≡ true
both_true true b h k = k
both_true false b h k = absurd (cc)

pub first_true : (a b : Bool) → (a && b) ≡ true → a ≡ true
first_true true b h = refl
first_true false b h = h

one_passes : (b : Bool) (q : ℕ → Bool) (x : ℕ) (xs : List ℕ) (n : ℕ) → (b ≡ true → q x ≡ true) → list_all q (take n xs) ≡ true → list_all q (take (cond (not (not b)) (1 + n) 0) (x ∷ xs)) ≡ true
one_passes true q x xs n h k = subst (λ m. list_all q (take m (x ∷ xs)) ≡ true) (one_suc n) (both_true (q x) (list_all q (take n xs)) (h refl) k)
one_passes false q x xs n h k = refl

-- the bytes of a run are of its kind
pub run_passes : (p q : ℕ → Bool) → ((byte : ℕ) → p byte ≡ true → q byte ≡ true) → (xs : List ℕ) → list_all q (take (position_or_len (λ byte. not (p byte)) xs) xs) ≡ true
run_passes p q h [] = refl
run_passes p q h (x ∷ xs) = one_passes (p x) q x xs (position_or_len (λ byte. not (p byte)) xs) (h x) (run_passes p q h xs)

inside_prints : (byte : ℕ) → is_inside byte ≡ true → is_printable byte ≡ true
inside_prints byte h = first_true _ _ h

bare_prints : (byte : ℕ) → is_bare byte ≡ true → is_printable byte ≡ true
bare_prints byte h = first_true _ _ (first_true _ _ (first_true _ _ (first_true _ _ (first_true _ _ h))))

word_prints : (byte : ℕ) → is_word byte ≡ true → is_printable byte ≡ true
word_prints byte h = grind (arith, nat_tests)

pub inside_lies : (bytes : List ℕ) (place : LinePlace) (rest : List ℕ) → LiesAt bytes place rest → IsSpanOf bytes (span_at place rest (inside_len rest))
inside_lies bytes place rest h = span_lies bytes place rest (inside_len rest) h (run_within _ rest) (run_passes is_inside is_printable inside_prints rest)

pub bare_lies : (bytes : List ℕ) (place : LinePlace) (rest : List ℕ) → LiesAt bytes place rest → IsSpanOf bytes (span_at place rest (bare_len rest))
bare_lies bytes place rest h = span_lies bytes place rest (bare_len rest) h (run_within _ rest) (run_passes is_bare is_printable bare_prints rest)

pub word_lies : (bytes : List ℕ) (place : LinePlace) (rest : List ℕ) → LiesAt bytes place rest → IsSpanOf bytes (span_at place rest (word_len rest))
word_lies bytes place rest h = span_lies bytes place rest (word_len rest) h (run_within _ rest) (run_passes is_word is_printable word_prints rest)
