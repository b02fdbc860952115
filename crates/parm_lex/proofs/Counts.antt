-- A list has no more items than its line has bytes.
use Rattle.std.proofs.Common.{◌≡◌, ℕ, List, [], ◌∷◌, ◌+◌, ◌<◌, ◌≤◌, Bool, true, false, not, cond, Some, Result, Ok, Err, nat_eq, length, drop, sym, subst, arith, length-append, length-drop}
use Rattle.std.specs.List.{position_or_len}
use Rattle.parm_lex.specs.Bytes.{bare_len, blanks_off, inside_len, is_blank}
use Rattle.parm_lex.specs.Chain.{Chain, Runs}
use Rattle.parm_lex.specs.Grammar.{◌>>=◌, ListAt, bare_at, close_at, fault_at, first_of, item_at, list_more, list_step, quoted_at, span_at, unless_bad}
use Rattle.parm_lex.specs.declared.fault.LexFault.{LexFault}
use Rattle.parm_lex.specs.declared.fault.LexWhy.TheVariants.{AfterValue, EmptyValue, UnclosedQuote}
use Rattle.parm_lex.specs.declared.span.LinePlace.{LinePlace}
use Rattle.parm_lex.specs.declared.span.Span.{Span}

pub runs_count : {S X F : Type 0} (step : S → Result (X × Bool × S) F → Type 0) (size : S → ℕ) → ((s : S) (x : X) (last : Bool) (t : S) → step s (Ok (x, last, t)) → size t < size s) → (s : S) (xs : List X) (t : S) → Runs step s xs t → length xs + size t ≤ size s
runs_count step size less s [] t runs = subst (λ v. 0 + size v ≤ size s) runs (omega arith)
runs_count step size less s (x ∷ xs) t runs =
    let first : size runs.0 < size s = less s x false runs.0 runs.1 in
    let rest : length xs + size t ≤ size runs.0 = runs_count step size less runs.0 xs t runs.2 in
    omega arith

-- where each step makes the state smaller, a chain has no more items than its first state's size
chain_count : {S X F : Type 0} (step : S → Result (X × Bool × S) F → Type 0) (size : S → ℕ) → ((s : S) (x : X) (last : Bool) (t : S) → step s (Ok (x, last, t)) → size t < size s) → (s : S) (r : List X × S) → Chain step s (Ok r) → length r.0 ≤ size s
chain_count step size less s r chain =
    let front : length chain.0 + size chain.2 ≤ size s = runs_count step size less s chain.0 chain.2 chain.3 in
    let last : size r.1 < size chain.2 = less chain.2 chain.1 true r.1 chain.4 in
    subst (λ xs. length xs ≤ size s) (sym chain.5) (simp length-append (omega arith))

abbrev pub ItemNoLonger : List ℕ → Result (Span × List ℕ) LexFault → Type 0
ItemNoLonger bytes (Err f) = Unit {0}
ItemNoLonger bytes (Ok r) = length r.1 ≤ length bytes

item_either : (bytes : List ℕ) (b : Bool) (x y : Result (Span × List ℕ) LexFault) → ItemNoLonger bytes x → ItemNoLonger bytes y → ItemNoLonger bytes (cond b x y)
item_either bytes true x y h k = h
item_either bytes false x y h k = k

item_within : (a b : List ℕ) (r : Result (Span × List ℕ) LexFault) → length a ≤ length b → ItemNoLonger a r → ItemNoLonger b r
item_within a b (Err f) h k = tt
item_within a b (Ok r) h k = omega arith

pub dropped : (n : ℕ) (bytes : List ℕ) → length (drop n bytes) ≤ length bytes
dropped n bytes = simp length-drop (omega arith)

pub blanks_dropped : (bytes : List ℕ) → length (blanks_off bytes) ≤ length bytes
unfolding blanks_off
blanks_dropped bytes = dropped (position_or_len (λ byte. not (is_blank byte)) bytes) bytes

bare_no_longer : (place : LinePlace) (bytes : List ℕ) → ItemNoLonger bytes (bare_at place bytes)
bare_no_longer place bytes =
    item_either bytes (nat_eq (bare_len bytes) 0) (Err (fault_at place bytes (unless_bad (first_of bytes) EmptyValue))) (Ok (span_at place bytes (bare_len bytes), drop (bare_len bytes) bytes)) tt (dropped (bare_len bytes) bytes)

close_no_longer : (place : LinePlace) (text : Span) (bytes : List ℕ) → ItemNoLonger bytes (close_at place text bytes)
close_no_longer place text [] = tt
close_no_longer place text (byte ∷ rest) =
    item_either (byte ∷ rest) (nat_eq byte 34) (Ok (text, rest)) (Err (fault_at place (byte ∷ rest) (unless_bad (Some byte) UnclosedQuote))) (omega arith) tt

quoted_no_longer : (place : LinePlace) (bytes : List ℕ) → ItemNoLonger bytes (quoted_at place bytes)
quoted_no_longer place bytes =
    item_within (drop (inside_len bytes) bytes) bytes (quoted_at place bytes) (dropped (inside_len bytes) bytes) (close_no_longer place (span_at place bytes (inside_len bytes)) (drop (inside_len bytes) bytes))

pub item_no_longer : (place : LinePlace) (bytes : List ℕ) → ItemNoLonger bytes (item_at place bytes)
unfolding item_at
item_no_longer place [] = bare_no_longer place []
item_no_longer place (byte ∷ rest) =
    item_either (byte ∷ rest) (nat_eq byte 34) (quoted_at place rest) (bare_at place (byte ∷ rest)) (item_within rest (byte ∷ rest) (quoted_at place rest) (omega arith) (quoted_no_longer place rest)) (bare_no_longer place (byte ∷ rest))

abbrev pub StepShorter : List ℕ → Result (Span × Bool × List ℕ) LexFault → Type 0
StepShorter bytes (Err f) = Unit {0}
StepShorter bytes (Ok r) = length r.2 < length bytes

step_either : (bytes : List ℕ) (b : Bool) (x y : Result (Span × Bool × List ℕ) LexFault) → StepShorter bytes x → StepShorter bytes y → StepShorter bytes (cond b x y)
step_either bytes true x y h k = h
step_either bytes false x y h k = k

step_within : (a b : List ℕ) (r : Result (Span × Bool × List ℕ) LexFault) → length a ≤ length b → StepShorter a r → StepShorter b r
step_within a b (Err f) h k = tt
step_within a b (Ok r) h k = omega arith

more_shorter : (place : LinePlace) (item : Span) (bytes : List ℕ) → StepShorter bytes (list_more place item bytes)
more_shorter place item [] = tt
more_shorter place item (byte ∷ rest) =
    let gone : length (blanks_off rest) ≤ length rest = blanks_dropped rest in
    step_either (byte ∷ rest) (nat_eq byte 44) (Ok (item, false, blanks_off rest)) (cond (nat_eq byte 41) (Ok (item, true, rest)) (Err (fault_at place (byte ∷ rest) (unless_bad (Some byte) AfterValue)))) (omega arith)
    (step_either (byte ∷ rest) (nat_eq byte 41) (Ok (item, true, rest)) (Err (fault_at place (byte ∷ rest) (unless_bad (Some byte) AfterValue))) (omega arith) tt)

then_shorter : (place : LinePlace) (bytes : List ℕ) (item : Result (Span × List ℕ) LexFault) → ItemNoLonger bytes item → StepShorter bytes (item >>= (λ r. list_more place r.0 (blanks_off r.1)))
then_shorter place bytes (Err f) h = tt
then_shorter place bytes (Ok r) h =
    let gone : length (blanks_off r.1) ≤ length r.1 = blanks_dropped r.1 in
    step_within (blanks_off r.1) bytes (list_more place r.0 (blanks_off r.1)) (omega arith) (more_shorter place r.0 (blanks_off r.1))

pub step_shorter : (place : LinePlace) (bytes : List ℕ) → StepShorter bytes (list_step place bytes)
unfolding list_step
step_shorter place bytes = then_shorter place bytes (item_at place bytes) (item_no_longer place bytes)

pub list_count : (place : LinePlace) (bytes : List ℕ) (r : List Span × List ℕ) → ListAt place bytes (Ok r) → length r.0 ≤ length bytes
list_count place bytes r list = chain_count (λ s a. list_step place s ≡ a) (λ s. length s) (λ s x last t e. subst (StepShorter s) e (step_shorter place s)) bytes r list
