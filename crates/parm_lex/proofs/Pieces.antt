-- What is read of a line are pieces of the file.
use Rattle.std.proofs.Common.{◌≡◌, ℕ, List, [], ◌∷◌, ◌++◌, ◌<◌, Bool, true, false, cond, All, Option, Some, None, Result, Ok, Err, nat_eq, length, drop, sym, subst, arith, ◌+◌, ◌≤◌, length-append, ap, ◌∙◌}
use Rattle.std.proofs.lemmas.List.Elements.{All-cons, All-append}
use Rattle.parm_lex.specs.Bytes.{bare_len, blanks_off, inside_len, is_blank, word_len}
use Rattle.parm_lex.specs.Chain.{Chain, Runs}
use Rattle.parm_lex.specs.Grammar.{LineAt, ListAt, ◌>>=◌, PartFrom, PartStep, ValueFrom, Listed, bare_at, close_at, comma_after, equals_at, fault_at, first_of, item_at, list_more, list_open, list_step, part_after, part_of, quoted_at, single, span_at, unless_bad, word_at}
use Rattle.parm_lex.specs.Spelling.{LiesAt}
use Rattle.parm_lex.specs.Spans.{IsPartOf, IsSpanOf}
use Rattle.parm_lex.specs.declared.fault.LexFault.{LexFault}
use Rattle.parm_lex.specs.declared.fault.LexWhy.TheVariants.{AfterValue, EmptyPart, EmptyValue, MissingEquals, UnclosedQuote}
use Rattle.parm_lex.specs.declared.part.ParmPart.{ParmPart}
use Rattle.parm_lex.specs.declared.span.LinePlace.{LinePlace}
use Rattle.parm_lex.specs.declared.span.Span.{Span}
use Rattle.parm_lex.proofs.Counts.{list_count}
use Rattle.parm_lex.proofs.Lying.{bare_lies, inside_lies, lies_blanks, lies_drop, lies_end, lies_tail, word_lies}

-- ---- chains: what each step keeps, a chain keeps

abbrev pub Keeps : {S X F : Type 0} → (S → Result (X × Bool × S) F → Type 0) → (S → Type 0) → (X → Type 0) → Type 0
Keeps {S} {X} step I P = (s : S) (x : X) (last : Bool) (t : S) → I s → step s (Ok (x, last, t)) → P x × I t

no_items : {X : Type 0} (P : X → Type 0) → All P []
no_items P k d h = absurd (omega arith)

runs_keep : {S X F : Type 0} (step : S → Result (X × Bool × S) F → Type 0) (I : S → Type 0) (P : X → Type 0) → Keeps step I P → (s : S) (xs : List X) (t : S) → I s → Runs step s xs t → All P xs × I t
runs_keep step I P keeps s [] t i runs = (no_items P, subst I runs i)
runs_keep step I P keeps s (x ∷ xs) t i runs =
    let first = keeps s x false runs.0 i runs.1 in
    let rest = runs_keep step I P keeps runs.0 xs t first.1 runs.2 in
    (All-cons P x xs first.0 rest.0, rest.1)

some_more : {X : Type 0} (xs : List X) (x : X) → 0 < length (xs ++ x ∷ [])
some_more [] x = omega arith
some_more (y ∷ ys) x = omega (arith, some_more ys x)

-- the items of a chain, and that there is one
pub chain_keeps : {S X F : Type 0} (step : S → Result (X × Bool × S) F → Type 0) (I : S → Type 0) (P : X → Type 0) → Keeps step I P → (s : S) (r : List X × S) → I s → Chain step s (Ok r) → All P r.0 × I r.1 × (0 < length r.0)
chain_keeps step I P keeps s r i chain =
    let front = runs_keep step I P keeps s chain.0 chain.2 i chain.3 in
    let last = keeps chain.2 chain.1 true r.1 front.1 chain.4 in
    let all = All-append P chain.0 (chain.1 ∷ []) front.0 (All-cons P chain.1 [] last.0 (no_items P)) in
    (subst (All P) (sym chain.5) all, last.1, subst (λ xs. 0 < length xs) (sym chain.5) (some_more chain.0 chain.1))

-- ---- items

abbrev pub ItemIsPiece : List ℕ → LinePlace → Result (Span × List ℕ) LexFault → Type 0
ItemIsPiece file place (Err f) = Unit {0}
ItemIsPiece file place (Ok r) = IsSpanOf file r.0 × LiesAt file place r.1

item_either : (file : List ℕ) (place : LinePlace) (b : Bool) (x y : Result (Span × List ℕ) LexFault) → ItemIsPiece file place x → ItemIsPiece file place y → ItemIsPiece file place (cond b x y)
item_either file place true x y h k = h
item_either file place false x y h k = k

bare_piece : (file : List ℕ) (place : LinePlace) (bytes : List ℕ) → LiesAt file place bytes → ItemIsPiece file place (bare_at place bytes)
bare_piece file place bytes h =
    item_either file place (nat_eq (bare_len bytes) 0) (Err (fault_at place bytes (unless_bad (first_of bytes) EmptyValue))) (Ok (span_at place bytes (bare_len bytes), drop (bare_len bytes) bytes))
    tt (bare_lies file place bytes h, lies_drop file place bytes (bare_len bytes) h)

close_piece : (file : List ℕ) (place : LinePlace) (text : Span) (bytes : List ℕ) → IsSpanOf file text → LiesAt file place bytes → ItemIsPiece file place (close_at place text bytes)
close_piece file place text [] span h = tt
close_piece file place text (byte ∷ rest) span h =
    item_either file place (nat_eq byte 34) (Ok (text, rest)) (Err (fault_at place (byte ∷ rest) (unless_bad (Some byte) UnclosedQuote))) (span, lies_tail file place byte rest h) tt

quoted_piece : (file : List ℕ) (place : LinePlace) (bytes : List ℕ) → LiesAt file place bytes → ItemIsPiece file place (quoted_at place bytes)
quoted_piece file place bytes h = close_piece file place (span_at place bytes (inside_len bytes)) (drop (inside_len bytes) bytes) (inside_lies file place bytes h) (lies_drop file place bytes (inside_len bytes) h)

pub item_piece : (file : List ℕ) (place : LinePlace) (bytes : List ℕ) → LiesAt file place bytes → ItemIsPiece file place (item_at place bytes)
unfolding item_at
item_piece file place [] h = bare_piece file place [] h
item_piece file place (byte ∷ rest) h =
    item_either file place (nat_eq byte 34) (quoted_at place rest) (bare_at place (byte ∷ rest)) (quoted_piece file place rest (lies_tail file place byte rest h)) (bare_piece file place (byte ∷ rest) h)

-- ---- lists

abbrev pub ListItemIsPiece : List ℕ → LinePlace → Result (Span × Bool × List ℕ) LexFault → Type 0
ListItemIsPiece file place (Err f) = Unit {0}
ListItemIsPiece file place (Ok r) = IsSpanOf file r.0 × LiesAt file place r.2

list_either : (file : List ℕ) (place : LinePlace) (b : Bool) (x y : Result (Span × Bool × List ℕ) LexFault) → ListItemIsPiece file place x → ListItemIsPiece file place y → ListItemIsPiece file place (cond b x y)
list_either file place true x y h k = h
list_either file place false x y h k = k

more_piece : (file : List ℕ) (place : LinePlace) (item : Span) (bytes : List ℕ) → IsSpanOf file item → LiesAt file place bytes → ListItemIsPiece file place (list_more place item bytes)
more_piece file place item [] span h = tt
more_piece file place item (byte ∷ rest) span h =
    let tail = lies_tail file place byte rest h in
    list_either file place (nat_eq byte 44) (Ok (item, false, blanks_off rest)) (cond (nat_eq byte 41) (Ok (item, true, rest)) (Err (fault_at place (byte ∷ rest) (unless_bad (Some byte) AfterValue))))
    (span, lies_blanks file place rest tail)
    (list_either file place (nat_eq byte 41) (Ok (item, true, rest)) (Err (fault_at place (byte ∷ rest) (unless_bad (Some byte) AfterValue))) (span, tail) tt)

then_piece : (file : List ℕ) (place : LinePlace) (item : Result (Span × List ℕ) LexFault) → ItemIsPiece file place item → ListItemIsPiece file place (item >>= (λ r. list_more place r.0 (blanks_off r.1)))
then_piece file place (Err f) h = tt
then_piece file place (Ok r) h = more_piece file place r.0 (blanks_off r.1) h.0 (lies_blanks file place r.1 h.1)

pub step_piece : (file : List ℕ) (place : LinePlace) (bytes : List ℕ) → LiesAt file place bytes → ListItemIsPiece file place (list_step place bytes)
unfolding list_step
step_piece file place bytes h = then_piece file place (item_at place bytes) (item_piece file place bytes h)

list_piece : (file : List ℕ) (place : LinePlace) (bytes : List ℕ) (r : List Span × List ℕ) → LiesAt file place bytes → ListAt place bytes (Ok r) → All (IsSpanOf file) r.0 × LiesAt file place r.1 × (0 < length r.0) × (length r.0 ≤ length file)
list_piece file place bytes r h list =
    let kept =
    chain_keeps (λ s a. list_step place s ≡ a) (LiesAt file place) (IsSpanOf file)
    (λ s x last t i e. subst (ListItemIsPiece file place) e (step_piece file place s i)) bytes r h list in
    let count : length r.0 ≤ length bytes = list_count place bytes r list in
    let size : length file ≡ length h.front + (length bytes + length h.back) = ap length h.whole ∙ simp length-append in
    (kept.0, kept.1, kept.2, omega arith)

-- ---- values and parts

abbrev pub Value : Type 0
Value = Result ((List Span × Bool) × List ℕ) LexFault

abbrev pub ValueIsPiece : List ℕ → LinePlace → Value → Type 0
ValueIsPiece file place (Err f) = Unit {0}
ValueIsPiece file place (Ok v) = All (IsSpanOf file) v.0.0 × LiesAt file place v.1 × (0 < length v.0.0) × (0 < length file → length v.0.0 ≤ length file)

single_piece : (file : List ℕ) (place : LinePlace) (item : Result (Span × List ℕ) LexFault) → ItemIsPiece file place item → ValueIsPiece file place (single item)
single_piece file place (Err f) h = tt
single_piece file place (Ok r) h = (All-cons (IsSpanOf file) r.0 [] h.0 (no_items (IsSpanOf file)), h.1, omega arith, λ some. omega arith)

listed_piece : (file : List ℕ) (place : LinePlace) (inside : List ℕ) (v : Value) → LiesAt file place inside → Listed place inside v → ValueIsPiece file place v
listed_piece file place inside (Err f) h list = tt
listed_piece file place inside (Ok v) h list =
    let read = list_piece file place inside (v.0.0, v.1) h list.0 in
    (read.0, read.1, read.2, λ some. read.3)

abbrev pub OpenIsPiece : List ℕ → LinePlace → Option (List ℕ) → Type 0
OpenIsPiece file place None = Unit {0}
OpenIsPiece file place (Some inside) = LiesAt file place inside

open_either : (file : List ℕ) (place : LinePlace) (b : Bool) (inside : List ℕ) → LiesAt file place inside → OpenIsPiece file place (cond b (Some inside) None)
open_either file place true inside h = h
open_either file place false inside h = tt

pub open_piece : (file : List ℕ) (place : LinePlace) (bytes : List ℕ) → LiesAt file place bytes → OpenIsPiece file place (list_open bytes)
open_piece file place [] h = tt
open_piece file place (byte ∷ rest) h = open_either file place (nat_eq byte 40) (blanks_off rest) (lies_blanks file place rest (lies_tail file place byte rest h))

pub value_from : (file : List ℕ) (place : LinePlace) (bytes : List ℕ) (inside : Option (List ℕ)) (v : Value) → LiesAt file place bytes → OpenIsPiece file place inside → ValueFrom place bytes inside v → ValueIsPiece file place v
value_from file place bytes None v h o value = subst (ValueIsPiece file place) (sym value) (single_piece file place (item_at place bytes) (item_piece file place bytes h))
value_from file place bytes (Some inside) v h o value = listed_piece file place inside v o value

abbrev pub PartAnswer : Type 0
PartAnswer = Result (ParmPart × Bool × (List ℕ × Bool)) LexFault

abbrev pub PartIsPiece : List ℕ → LinePlace → PartAnswer → Type 0
PartIsPiece file place (Err f) = Unit {0}
PartIsPiece file place (Ok a) = IsPartOf file a.0 × LiesAt file place a.2.0

part_either : (file : List ℕ) (place : LinePlace) (b : Bool) (x y : PartAnswer) → PartIsPiece file place x → PartIsPiece file place y → PartIsPiece file place (cond b x y)
part_either file place true x y h k = h
part_either file place false x y h k = k

comma_piece : (file : List ℕ) (place : LinePlace) (part : ParmPart) (bytes : List ℕ) → IsPartOf file part → LiesAt file place bytes → PartIsPiece file place (Ok (comma_after part bytes))
comma_piece file place part [] is h = (is, h)
comma_piece file place part (byte ∷ rest) is h = (is, h)

after_piece : (file : List ℕ) (place : LinePlace) (part : ParmPart) (bytes : List ℕ) → IsPartOf file part → LiesAt file place bytes → PartIsPiece file place (part_after place part bytes)
after_piece file place part [] is h = (is, h)
after_piece file place part (byte ∷ rest) is h =
    part_either file place (is_blank byte) (Ok (part, true, ([], false))) (cond (nat_eq byte 44) (Ok (comma_after part (blanks_off rest))) (Err (fault_at place (byte ∷ rest) (unless_bad (Some byte) AfterValue))))
    (is, lies_end file place (byte ∷ rest) h)
    (part_either file place (nat_eq byte 44) (Ok (comma_after part (blanks_off rest))) (Err (fault_at place (byte ∷ rest) (unless_bad (Some byte) AfterValue)))
    (comma_piece file place part (blanks_off rest) is (lies_blanks file place rest (lies_tail file place byte rest h))) tt)

of_piece : (file : List ℕ) (place : LinePlace) (word : Span) (v : Value) → 0 < length file → IsSpanOf file word → ValueIsPiece file place v → PartIsPiece file place (part_of place word v)
of_piece file place word (Err f) some span h = tt
of_piece file place word (Ok v) some span h = after_piece file place (record { line = place.number; word = word; items = v.0.0; listed = v.0.1 }) v.1 (record { word = span; items = h.0; some = h.2; few = h.3 some }) h.1

equals_piece : (file : List ℕ) (place : LinePlace) (word : Span) (bytes : List ℕ) → IsSpanOf file word → LiesAt file place bytes → ItemIsPiece file place (equals_at place word bytes)
equals_piece file place word [] span h = tt
equals_piece file place word (byte ∷ rest) span h =
    item_either file place (nat_eq byte 61) (Ok (word, rest)) (Err (fault_at place (byte ∷ rest) (unless_bad (Some byte) MissingEquals))) (span, lies_tail file place byte rest h) tt

pub word_piece : (file : List ℕ) (place : LinePlace) (bytes : List ℕ) → LiesAt file place bytes → ItemIsPiece file place (word_at place bytes)
unfolding word_at
word_piece file place bytes h =
    item_either file place (nat_eq (word_len bytes) 0) (Err (fault_at place bytes (unless_bad (first_of bytes) EmptyPart))) (equals_at place (span_at place bytes (word_len bytes)) (drop (word_len bytes) bytes))
    tt (equals_piece file place (span_at place bytes (word_len bytes)) (drop (word_len bytes) bytes) (word_lies file place bytes h) (lies_drop file place bytes (word_len bytes) h))

part_from : (file : List ℕ) (place : LinePlace) (word : Result (Span × List ℕ) LexFault) (a : PartAnswer) → 0 < length file → ItemIsPiece file place word → PartFrom place word a → PartIsPiece file place a
part_from file place (Err f) a some h from = subst (PartIsPiece file place) (sym from) tt
part_from file place (Ok word) a some h from =
    subst (PartIsPiece file place) (sym from.2)
    (of_piece file place word.0 from.0 some h.0 (value_from file place word.1 (list_open word.1) from.0 h.1 (open_piece file place word.1 h.1) from.1))

lies_some : (file : List ℕ) (place : LinePlace) (byte : ℕ) (rest : List ℕ) → LiesAt file place (byte ∷ rest) → 0 < length file
lies_some file place byte rest h =
    let size : length file ≡ length h.front + (length (byte ∷ rest) + length h.back) = ap length h.whole ∙ simp length-append in
    omega arith

part_at : (file : List ℕ) (place : LinePlace) (bytes : List ℕ) (a : PartAnswer) → LiesAt file place bytes → PartFrom place (word_at place bytes) a → PartIsPiece file place a
unfolding word_at
part_at file place [] a h from = subst (PartIsPiece file place) (sym from) tt
part_at file place (byte ∷ rest) a h from = part_from file place (word_at place (byte ∷ rest)) a (lies_some file place byte rest h) (word_piece file place (byte ∷ rest) h) from

pub part_piece : (file : List ℕ) (place : LinePlace) (state : List ℕ × Bool) (a : PartAnswer) → LiesAt file place state.0 → PartStep place state a → PartIsPiece file place a
unfolding PartStep
part_piece file place state a h step = part_at file place state.0 a h step

-- the parts of a line, and that there is one
pub line_pieces : (file : List ℕ) (place : LinePlace) (bytes : List ℕ) (r : List ParmPart × (List ℕ × Bool)) → LiesAt file place bytes → LineAt place bytes (Ok r) → All (IsPartOf file) r.0 × (0 < length r.0)
line_pieces file place bytes r h line =
    let kept = chain_keeps (PartStep place) (λ s. LiesAt file place s.0) (IsPartOf file)
    (λ s x last t i step. part_piece file place s (Ok (x, last, t)) i step) (bytes, false) r h line in
    (kept.0, kept.2)
