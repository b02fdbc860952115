-- What the grammar spells is read.
use Rattle.std.proofs.Common.{◌≡◌, inl, inr, ℕ, List, [], ◌∷◌, ◌++◌, ◌+◌, ◌<◌, ◌≤◌, Bool, true, false, not, ◌&&◌, cond, Option, Some, None, Result, Ok, nat_eq, length, map, take, drop, refl, sym, subst, ap, ◌∙◌, arith, append_assoc, length-append}
use Rattle.std.specs.List.{list_all, position_or_len}
use Rattle.std.proofs.lemmas.Bool.Decides.{nat_tests}
use Rattle.std.proofs.lemmas.List.{append-nil, map-append}
use Rattle.std.proofs.Math.Seq.{drop-append_seam, take-append_seam}
use Rattle.parm_lex.specs.Bytes.{bare_len, blanks_off, inside_len, is_bare, is_blank, is_inside, is_word, word_len}
use Rattle.parm_lex.specs.Chain.{Runs}
use Rattle.parm_lex.specs.Grammar.{◌>>=◌, LineAt, ListAt, Listed, PartFrom, PartStep, ValueFrom, close_at, comma_after, equals_at, item_at, list_more, list_open, list_step, part_after, single, span_at, word_at}
use Rattle.parm_lex.specs.Spans.{bytes_of}
use Rattle.parm_lex.specs.Spelling.{AreBlanks, EndsLine, LiesAt, PartText, SpellsFront, SpellsItem, SpellsItems, SpellsPart, SpellsParts, SpellsValue, SpelledLinesAreRead, part_text}
use Rattle.parm_lex.specs.declared.fault.LexFault.{LexFault}
use Rattle.parm_lex.specs.declared.part.ParmPart.{ParmPart}
use Rattle.parm_lex.specs.declared.span.LinePlace.{LinePlace}
use Rattle.parm_lex.specs.declared.span.Span.{Span}
use Rattle.parm_lex.proofs.Lying.{lies_behind, lies_tail, span_text}
use Rattle.parm_lex.proofs.Pieces.{ItemIsPiece, ListItemIsPiece, part_piece, step_piece, word_piece}
use Rattle.parm_lex.proofs.Spelled.{last_item, one_more_item, one_more_part}

-- what stands in front, if anything does, is of another kind
abbrev pub Ends : (ℕ → Bool) → List ℕ → Type 0
Ends kind [] = Unit {0}
Ends kind (byte ∷ rest) = kind byte ≡ false

both : (a b : Bool) → (a && b) ≡ true → (a ≡ true) × (b ≡ true)
both true b h = (refl, h)
both false b h = absurd (cc)

stop_here : (b : Bool) (n : ℕ) → b ≡ false → cond (not (not b)) (1 + n) 0 ≡ 0
stop_here true n h = absurd (cc)
stop_here false n h = refl

one_on : (b : Bool) (n m : ℕ) → b ≡ true → n ≡ m → cond (not (not b)) (1 + n) 0 ≡ 1 + m
one_on true n m h e = ap (λ k. 1 + k) e
one_on false n m h e = absurd (cc)

run_ends : (kind : ℕ → Bool) (rest : List ℕ) → Ends kind rest → position_or_len (λ byte. not (kind byte)) rest ≡ 0
run_ends kind [] h = refl
run_ends kind (byte ∷ rest) h = stop_here (kind byte) (position_or_len (λ b. not (kind b)) rest) h

-- a run is as long as its text, where another kind follows
run_exact : (kind : ℕ → Bool) (text rest : List ℕ) → list_all kind text ≡ true → Ends kind rest → position_or_len (λ byte. not (kind byte)) (text ++ rest) ≡ length text
run_exact kind [] rest all ends = run_ends kind rest ends
run_exact kind (byte ∷ text) rest all ends =
    let parts = both (kind byte) (list_all kind text) all in
    one_on (kind byte) (position_or_len (λ b. not (kind b)) (text ++ rest)) (length text) parts.0 (run_exact kind text rest parts.1 ends) ∙ omega arith

blanks_gone : (blanks rest : List ℕ) → AreBlanks blanks → Ends is_blank rest → blanks_off (blanks ++ rest) ≡ rest
unfolding blanks_off
blanks_gone blanks rest are ends = ap (λ n. drop n (blanks ++ rest)) (run_exact is_blank blanks rest are ends) ∙ drop-append_seam blanks rest

-- ---- items

cond_yes : {A : Type 0} (b : Bool) (x y : A) → b ≡ true → cond b x y ≡ x
cond_yes true x y h = refl
cond_yes false x y h = absurd (cc)

cond_no : {A : Type 0} (b : Bool) (x y : A) → b ≡ false → cond b x y ≡ y
cond_no true x y h = absurd (cc)
cond_no false x y h = refl

no_quote : (byte : ℕ) → is_bare byte ≡ true → nat_eq byte 34 ≡ false
no_quote byte h = grind (arith, nat_tests)

no_zero : (n : ℕ) → 0 < n → nat_eq n 0 ≡ false
no_zero n h = grind (arith, nat_tests)

abbrev ItemIsRead : List ℕ → LinePlace → List ℕ → List ℕ → List ℕ → Type 0
ItemIsRead file place bytes text rest = (span : Span) × (item_at place bytes ≡ Ok (span, rest)) × (bytes_of file span ≡ text)

bare_read : (file : List ℕ) (place : LinePlace) (text rest : List ℕ) → LiesAt file place (text ++ rest) → 0 < length text → list_all is_bare text ≡ true → Ends is_bare rest → ItemIsRead file place (text ++ rest) text rest
unfolding item_at
bare_read file place [] rest lies some bare ends = absurd (omega arith)
bare_read file place (byte ∷ text) rest lies some bare ends =
    let bytes = byte ∷ (text ++ rest) in
    let size : bare_len (byte ∷ (text ++ rest)) ≡ length (byte ∷ text) = run_exact is_bare (byte ∷ text) rest bare ends in
    let n = bare_len (byte ∷ (text ++ rest)) in
    let first : is_bare byte ≡ true = (both (is_bare byte) (list_all is_bare text) bare).0 in
    let within : bare_len (byte ∷ (text ++ rest)) ≤ length (byte ∷ (text ++ rest)) = simp length-append (omega arith) in
    let behind : drop (bare_len (byte ∷ (text ++ rest))) (byte ∷ (text ++ rest)) ≡ rest = ap (λ k. drop k (byte ∷ (text ++ rest))) size ∙ drop-append_seam (byte ∷ text) rest in
    let front : take (bare_len (byte ∷ (text ++ rest))) (byte ∷ (text ++ rest)) ≡ byte ∷ text = ap (λ k. take k (byte ∷ (text ++ rest))) size ∙ take-append_seam (byte ∷ text) rest in (
      span_at place (byte ∷ (text ++ rest)) (bare_len (byte ∷ (text ++ rest))),
      cond_no (nat_eq byte 34) _ _ (no_quote byte first) ∙
          cond_no (nat_eq (bare_len (byte ∷ (text ++ rest))) 0) _ _ (no_zero _ (omega arith)) ∙
          ap (λ r. let a : Result (Span × List ℕ) LexFault = Ok (span_at place (byte ∷ (text ++ rest)) (bare_len (byte ∷ (text ++ rest))), r) in a) behind,
      span_text file place (byte ∷ (text ++ rest)) (bare_len (byte ∷ (text ++ rest))) lies within ∙ front,
    )

quoted_read : (file : List ℕ) (place : LinePlace) (text rest : List ℕ) → LiesAt file place (34 ∷ (text ++ 34 ∷ rest)) → list_all is_inside text ≡ true → ItemIsRead file place (34 ∷ (text ++ 34 ∷ rest)) text rest
unfolding item_at
quoted_read file place text rest lies inside =
    let size : inside_len (text ++ 34 ∷ rest) ≡ length text = run_exact is_inside text (34 ∷ rest) inside refl in
    let within : inside_len (text ++ 34 ∷ rest) ≤ length (text ++ 34 ∷ rest) = simp length-append (omega arith) in
    let behind : drop (inside_len (text ++ 34 ∷ rest)) (text ++ 34 ∷ rest) ≡ 34 ∷ rest = ap (λ k. drop k (text ++ 34 ∷ rest)) size ∙ drop-append_seam text (34 ∷ rest) in
    let front : take (inside_len (text ++ 34 ∷ rest)) (text ++ 34 ∷ rest) ≡ text = ap (λ k. take k (text ++ 34 ∷ rest)) size ∙ take-append_seam text (34 ∷ rest) in (
      span_at place (text ++ 34 ∷ rest) (inside_len (text ++ 34 ∷ rest)),
      ap (close_at place (span_at place (text ++ 34 ∷ rest) (inside_len (text ++ 34 ∷ rest)))) behind,
      span_text file place (text ++ 34 ∷ rest) (inside_len (text ++ 34 ∷ rest)) (lies_tail file place 34 (text ++ 34 ∷ rest) lies) within ∙ front,
    )

quoted_whole : (item text rest : List ℕ) → item ≡ 34 ∷ (text ++ 34 ∷ []) → item ++ rest ≡ 34 ∷ (text ++ 34 ∷ rest)
quoted_whole item text rest e = ap (λ xs. xs ++ rest) e ∙ ap (λ xs. 34 ∷ xs) (append_assoc text (34 ∷ []) rest)

item_read : (file : List ℕ) (place : LinePlace) (item text rest : List ℕ) → LiesAt file place (item ++ rest) → SpellsItem item text → Ends is_bare rest → ItemIsRead file place (item ++ rest) text rest
item_read file place item text rest lies (inl q) ends =
    let whole = quoted_whole item text rest q.spelled in
    subst (λ xs. ItemIsRead file place xs text rest) (sym whole) (quoted_read file place text rest (subst (LiesAt file place) whole lies) q.inside)
item_read file place item text rest lies (inr b) ends =
    let whole : item ++ rest ≡ text ++ rest = ap (λ xs. xs ++ rest) b.spelled in
    subst (λ xs. ItemIsRead file place xs text rest) (sym whole) (bare_read file place text rest (subst (LiesAt file place) whole lies) b.some b.bare ends)

bare_no_blank : (byte : ℕ) → is_bare byte ≡ true → is_blank byte ≡ false
bare_no_blank byte h = grind (arith, nat_tests)

blank_no_bare : (byte : ℕ) → is_blank byte ≡ true → is_bare byte ≡ false
blank_no_bare byte h = grind (arith, nat_tests)

bare_no_open : (byte : ℕ) → is_bare byte ≡ true → nat_eq byte 40 ≡ false
bare_no_open byte h = grind (arith, nat_tests)

word_no_blank : (byte : ℕ) → is_word byte ≡ true → is_blank byte ≡ false
word_no_blank byte h = grind (arith, nat_tests)

bare_begins : (text rest : List ℕ) → 0 < length text → list_all is_bare text ≡ true → Ends is_blank (text ++ rest)
bare_begins [] rest some bare = absurd (omega arith)
bare_begins (byte ∷ text) rest some bare = bare_no_blank byte (both (is_bare byte) (list_all is_bare text) bare).0

item_begins : (item text rest : List ℕ) → SpellsItem item text → Ends is_blank (item ++ rest)
item_begins item text rest (inl q) = subst (Ends is_blank) (sym (quoted_whole item text rest q.spelled)) refl
item_begins item text rest (inr b) = subst (λ xs. Ends is_blank (xs ++ rest)) (sym b.spelled) (bare_begins text rest b.some b.bare)

bare_opens : (text rest : List ℕ) → 0 < length text → list_all is_bare text ≡ true → list_open (text ++ rest) ≡ None
bare_opens [] rest some bare = absurd (omega arith)
bare_opens (byte ∷ text) rest some bare = cond_no (nat_eq byte 40) (Some (blanks_off (text ++ rest))) None (bare_no_open byte (both (is_bare byte) (list_all is_bare text) bare).0)

item_opens : (item text rest : List ℕ) → SpellsItem item text → list_open (item ++ rest) ≡ None
item_opens item text rest (inl q) = ap list_open (quoted_whole item text rest q.spelled)
item_opens item text rest (inr b) = ap (λ xs. list_open (xs ++ rest)) b.spelled ∙ bare_opens text rest b.some b.bare

blanks_end : (blanks rest : List ℕ) → AreBlanks blanks → Ends is_bare rest → Ends is_bare (blanks ++ rest)
blanks_end [] rest are ends = ends
blanks_end (byte ∷ blanks) rest are ends = blank_no_bare byte (both (is_blank byte) (list_all is_blank blanks) are).0

-- ---- lists

same_cons : {X : Type 0} {x y : X} {xs ys : List X} → x ≡ y → xs ≡ ys → x ∷ xs ≡ y ∷ ys
same_cons h k = cc

abbrev Step : Type 0
Step = Result (Span × Bool × List ℕ) LexFault

abbrev ListItemIsRead : List ℕ → LinePlace → List ℕ → List ℕ → Bool → List ℕ → Type 0
ListItemIsRead file place bytes text last rest = (span : Span) × (list_step place bytes ≡ Ok (span, last, rest)) × (bytes_of file span ≡ text)

more_read : (file : List ℕ) (place : LinePlace) (item text before after rest : List ℕ) → LiesAt file place (item ++ (before ++ 44 ∷ (after ++ rest))) → SpellsItem item text → AreBlanks before → AreBlanks after → Ends is_blank rest → ListItemIsRead file place (item ++ (before ++ 44 ∷ (after ++ rest))) text false rest
unfolding list_step
more_read file place item text before after rest lies spells b a ends =
    let read = item_read file place item text (before ++ 44 ∷ (after ++ rest)) lies spells (blanks_end before (44 ∷ (after ++ rest)) b refl) in (
      read.0,
      ap (λ r. r >>= (λ x. list_more place x.0 (blanks_off x.1))) read.1 ∙
          ap (list_more place read.0) (blanks_gone before (44 ∷ (after ++ rest)) b refl) ∙
          ap (λ xs. let step : Step = Ok (read.0, false, xs) in step) (blanks_gone after rest a ends),
      read.2,
    )

last_read : (file : List ℕ) (place : LinePlace) (item text blanks rest : List ℕ) → LiesAt file place (item ++ (blanks ++ 41 ∷ rest)) → SpellsItem item text → AreBlanks blanks → ListItemIsRead file place (item ++ (blanks ++ 41 ∷ rest)) text true rest
unfolding list_step
last_read file place item text blanks rest lies spells b =
    let read = item_read file place item text (blanks ++ 41 ∷ rest) lies spells (blanks_end blanks (41 ∷ rest) b refl) in (
      read.0,
      ap (λ r. r >>= (λ x. list_more place x.0 (blanks_off x.1))) read.1 ∙
          ap (list_more place read.0) (blanks_gone blanks (41 ∷ rest) b refl),
      read.2,
    )

front_whole : (front item before after rest tail : List ℕ) → front ≡ item ++ (before ++ 44 ∷ (after ++ rest)) → front ++ tail ≡ item ++ (before ++ 44 ∷ (after ++ (rest ++ tail)))
front_whole front item before after rest tail e = ap (λ xs. xs ++ tail) e ∙ sym (one_more_item item before after rest tail)

front_begins : (front : List ℕ) (texts : List (List ℕ)) (rest : List ℕ) → SpellsFront front texts → Ends is_blank rest → Ends is_blank (front ++ rest)
front_begins front [] rest h ends = subst (λ xs. Ends is_blank (xs ++ rest)) (sym h) ends
front_begins front (text ∷ texts) rest h ends =
    subst (Ends is_blank) (sym (front_whole front h.0 h.1 h.2 h.3 rest h.4)) (item_begins h.0 text (h.1 ++ 44 ∷ (h.2 ++ (h.3 ++ rest))) h.5)

front_read : (file : List ℕ) (place : LinePlace) (front : List ℕ) (texts : List (List ℕ)) (rest : List ℕ) → LiesAt file place (front ++ rest) → SpellsFront front texts → Ends is_blank rest → (spans : List Span) × Runs (λ x r. list_step place x ≡ r) (front ++ rest) spans rest × (map (bytes_of file) spans ≡ texts) × LiesAt file place rest
front_read file place front [] rest lies h ends = ([], ap (λ xs. xs ++ rest) h, refl, subst (λ xs. LiesAt file place (xs ++ rest)) h lies)
front_read file place front (text ∷ texts) rest lies h ends =
    let whole = front_whole front h.0 h.1 h.2 h.3 rest h.4 in
    let here = subst (LiesAt file place) whole lies in
    let step = more_read file place h.0 text h.1 h.2 (h.3 ++ rest) here h.5 h.6 h.7 (front_begins h.3 texts rest h.8 ends) in
    let behind = subst (ListItemIsPiece file place) step.1 (step_piece file place (h.0 ++ (h.1 ++ 44 ∷ (h.2 ++ (h.3 ++ rest)))) here) in
    let later = front_read file place h.3 texts rest behind.1 h.8 ends in (
      step.0 ∷ later.0,
      subst (λ s. Runs (λ x r. list_step place x ≡ r) s (step.0 ∷ later.0) rest) (sym whole) (h.3 ++ rest, step.1, later.1),
      same_cons step.2 later.2,
      later.3,
    )

list_read : (file : List ℕ) (place : LinePlace) (items : List ℕ) (texts : List (List ℕ)) (rest : List ℕ) → LiesAt file place (items ++ 41 ∷ rest) → SpellsItems items texts → (spans : List Span) × ListAt place (items ++ 41 ∷ rest) (Ok (spans, rest)) × (map (bytes_of file) spans ≡ texts)
list_read file place items texts rest lies h =
    let whole : items ++ 41 ∷ rest ≡ h.2 ++ (h.3 ++ (h.4 ++ 41 ∷ rest)) = ap (λ xs. xs ++ 41 ∷ rest) h.6 ∙ sym (last_item h.2 h.3 h.4 rest) in
    let front = front_read file place h.2 h.0 (h.3 ++ (h.4 ++ 41 ∷ rest)) (subst (LiesAt file place) whole lies) h.7 (item_begins h.3 h.1 (h.4 ++ 41 ∷ rest) h.8) in
    let last = last_read file place h.3 h.1 h.4 rest front.3 h.8 h.9 in (
      front.0 ++ last.0 ∷ [],
      subst (λ s. ListAt place s (Ok (front.0 ++ last.0 ∷ [], rest))) (sym whole) (front.0, last.0, h.3 ++ (h.4 ++ 41 ∷ rest), front.1, last.1, refl),
      map-append (bytes_of file) front.0 (last.0 ∷ []) ∙ ap (λ xs. xs ++ bytes_of file last.0 ∷ []) front.2 ∙ ap (λ t. h.0 ++ t ∷ []) last.2 ∙ sym h.5,
    )

-- ---- words and values

items_begin : (items : List ℕ) (texts : List (List ℕ)) (rest : List ℕ) → SpellsItems items texts → Ends is_blank (items ++ 41 ∷ rest)
items_begin items texts rest h =
    subst (Ends is_blank) (sym (ap (λ xs. xs ++ 41 ∷ rest) h.6 ∙ sym (last_item h.2 h.3 h.4 rest)))
    (front_begins h.2 h.0 (h.3 ++ (h.4 ++ 41 ∷ rest)) h.7 (item_begins h.3 h.1 (h.4 ++ 41 ∷ rest) h.8))

abbrev ValueIsRead : List ℕ → LinePlace → List ℕ → List (List ℕ) → Bool → List ℕ → Type 0
ValueIsRead file place bytes texts listed rest = (spans : List Span) × ValueFrom place bytes (list_open bytes) (Ok ((spans, listed), rest)) × (map (bytes_of file) spans ≡ texts)

list_whole : (blanks items rest : List ℕ) → (40 ∷ (blanks ++ (items ++ 41 ∷ []))) ++ rest ≡ 40 ∷ (blanks ++ (items ++ 41 ∷ rest))
list_whole blanks items rest = ap (λ xs. 40 ∷ xs) (append_assoc blanks (items ++ 41 ∷ []) rest ∙ ap (λ xs. blanks ++ xs) (append_assoc items (41 ∷ []) rest))

plain_read : (file : List ℕ) (place : LinePlace) (bytes text rest : List ℕ) (inside : Option (List ℕ)) → inside ≡ None → ItemIsRead file place bytes text rest → (spans : List Span) × ValueFrom place bytes inside (Ok ((spans, false), rest)) × (map (bytes_of file) spans ≡ text ∷ [])
plain_read file place bytes text rest None e read = (read.0 ∷ [], sym (ap single read.1), ap (λ t. t ∷ []) read.2)
plain_read file place bytes text rest (Some inside) e read = absurd (cc)

value_read : (file : List ℕ) (place : LinePlace) (value : List ℕ) (texts : List (List ℕ)) (listed : Bool) (rest : List ℕ) → LiesAt file place (value ++ rest) → SpellsValue value texts listed → Ends is_bare rest → ValueIsRead file place (value ++ rest) texts listed rest
value_read file place value texts false rest lies h ends =
    let read = plain_read file place (value ++ rest) h.0 rest (list_open (value ++ rest)) (item_opens value h.0 rest h.2) (item_read file place value h.0 rest lies h.2 ends) in
    (read.0, read.1, read.2 ∙ sym h.1)
value_read file place value texts true rest lies h ends =
    let whole : value ++ rest ≡ 40 ∷ (h.0 ++ (h.1 ++ 41 ∷ rest)) = ap (λ xs. xs ++ rest) h.2 ∙ list_whole h.0 h.1 rest in
    let inside : blanks_off (h.0 ++ (h.1 ++ 41 ∷ rest)) ≡ h.1 ++ 41 ∷ rest = blanks_gone h.0 (h.1 ++ 41 ∷ rest) h.3 (items_begin h.1 texts rest h.4) in
    let behind = lies_behind file place (40 ∷ h.0) (h.1 ++ 41 ∷ rest) (subst (LiesAt file place) whole lies) in
    let list = list_read file place h.1 texts rest behind h.4 in
    subst (λ xs. ValueIsRead file place xs texts true rest) (sym whole)
    (list.0, subst (λ xs. Listed place xs (Ok ((list.0, true), rest))) (sym inside) (list.1, refl), list.2)

word_read : (file : List ℕ) (place : LinePlace) (word rest : List ℕ) → LiesAt file place (word ++ 61 ∷ rest) → 0 < length word → list_all is_word word ≡ true → (span : Span) × (word_at place (word ++ 61 ∷ rest) ≡ Ok (span, rest)) × (bytes_of file span ≡ word)
unfolding word_at
word_read file place word rest lies some letters =
    let size : word_len (word ++ 61 ∷ rest) ≡ length word = run_exact is_word word (61 ∷ rest) letters refl in
    let within : word_len (word ++ 61 ∷ rest) ≤ length (word ++ 61 ∷ rest) = simp length-append (omega arith) in
    let behind : drop (word_len (word ++ 61 ∷ rest)) (word ++ 61 ∷ rest) ≡ 61 ∷ rest = ap (λ k. drop k (word ++ 61 ∷ rest)) size ∙ drop-append_seam word (61 ∷ rest) in
    let front : take (word_len (word ++ 61 ∷ rest)) (word ++ 61 ∷ rest) ≡ word = ap (λ k. take k (word ++ 61 ∷ rest)) size ∙ take-append_seam word (61 ∷ rest) in (
      span_at place (word ++ 61 ∷ rest) (word_len (word ++ 61 ∷ rest)),
      cond_no (nat_eq (word_len (word ++ 61 ∷ rest)) 0) _ _ (no_zero _ (omega arith)) ∙
          ap (equals_at place (span_at place (word ++ 61 ∷ rest) (word_len (word ++ 61 ∷ rest)))) behind,
      span_text file place (word ++ 61 ∷ rest) (word_len (word ++ 61 ∷ rest)) lies within ∙ front,
    )

-- ---- parts

text_same : (file : List ℕ) (part : ParmPart) (text : PartText) → bytes_of file part.word ≡ text.word → map (bytes_of file) part.items ≡ text.items → part.listed ≡ text.listed → part_text file part ≡ text
text_same file part text w i l =
    ap (λ x. let t : PartText = record { word = x; items = map (bytes_of file) part.items; listed = part.listed } in t) w ∙
    ap (λ x. let t : PartText = record { word = text.word; items = x; listed = part.listed } in t) i ∙
    ap (λ x. let t : PartText = record { word = text.word; items = text.items; listed = x } in t) l

abbrev PartIsRead : List ℕ → LinePlace → List ℕ → PartText → List ℕ → Type 0
PartIsRead file place bytes text tail = (part : ParmPart) × (part_text file part ≡ text) × ((comma : Bool) → PartStep place (bytes, comma) (part_after place part tail))

from_read : (place : LinePlace) (found : Result (Span × List ℕ) LexFault) (word : Span) (value tail : List ℕ) (spans : List Span) (listed : Bool) → found ≡ Ok (word, value) → ValueFrom place value (list_open value) (Ok ((spans, listed), tail)) → PartFrom place found (part_after place (record { line = place.number; word = word; items = spans; listed = listed }) tail)
from_read place found word value tail spans listed e from =
    subst (λ f. PartFrom place f (part_after place (record { line = place.number; word = word; items = spans; listed = listed }) tail)) (sym e)
    (Ok ((spans, listed), tail), from, refl)

part_read : (file : List ℕ) (place : LinePlace) (spelled : List ℕ) (text : PartText) (tail : List ℕ) → LiesAt file place (spelled ++ tail) → SpellsPart spelled text → Ends is_bare tail → PartIsRead file place (spelled ++ tail) text tail
unfolding PartStep
part_read file place spelled text tail lies h ends =
    let whole : spelled ++ tail ≡ text.word ++ 61 ∷ (h.value ++ tail) = ap (λ xs. xs ++ tail) h.spelled ∙ append_assoc text.word (61 ∷ h.value) tail in
    let here = subst (LiesAt file place) whole lies in
    let word = word_read file place text.word (h.value ++ tail) here h.some h.letters in
    let behind = subst (ItemIsPiece file place) word.1 (word_piece file place (text.word ++ 61 ∷ (h.value ++ tail)) here) in
    let value = value_read file place h.value text.items text.listed tail behind.1 h.spells ends in (
      record { line = place.number; word = word.0; items = value.0; listed = text.listed },
      text_same file (record { line = place.number; word = word.0; items = value.0; listed = text.listed }) text word.2 value.2 refl,
      λ comma. from_read place (word_at place (spelled ++ tail)) word.0 (h.value ++ tail) tail value.0 text.listed (ap (word_at place) whole ∙ word.1) value.1,
    )

-- ---- lines

-- something stands in front that is no blank
abbrev Begins : List ℕ → Type 0
Begins rest = (byte : ℕ) × (more : List ℕ) × (rest ≡ byte ∷ more) × (is_blank byte ≡ false)

word_begins : (word rest : List ℕ) → 0 < length word → list_all is_word word ≡ true → Begins (word ++ rest)
word_begins [] rest some letters = absurd (omega arith)
word_begins (byte ∷ word) rest some letters = (byte, word ++ rest, refl, word_no_blank byte (both (is_word byte) (list_all is_word word) letters).0)

part_begins : (spelled : List ℕ) (text : PartText) (rest : List ℕ) → SpellsPart spelled text → Begins (spelled ++ rest)
part_begins spelled text rest h =
    subst Begins (sym (ap (λ xs. xs ++ rest) h.spelled ∙ append_assoc text.word (61 ∷ h.value) rest)) (word_begins text.word (61 ∷ (h.value ++ rest)) h.some h.letters)

parts_whole : (front spelled blanks rest tail : List ℕ) → front ≡ spelled ++ 44 ∷ (blanks ++ rest) → front ++ tail ≡ spelled ++ 44 ∷ (blanks ++ (rest ++ tail))
parts_whole front spelled blanks rest tail e = ap (λ xs. xs ++ tail) e ∙ sym (one_more_part spelled blanks rest tail)

parts_begin : (front : List ℕ) (texts : List PartText) (rest : List ℕ) → SpellsParts front texts → Begins rest → Begins (front ++ rest)
parts_begin front [] rest h begins = subst (λ xs. Begins (xs ++ rest)) (sym h) begins
parts_begin front (text ∷ texts) rest h begins =
    subst Begins (sym (parts_whole front h.0 h.1 h.2 rest h.3)) (part_begins h.0 text (44 ∷ (h.1 ++ (h.2 ++ rest))) h.4)

begins_ends : (rest : List ℕ) → Begins rest → Ends is_blank rest
begins_ends rest h = subst (Ends is_blank) (sym h.2) h.3

comma_next : (part : ParmPart) (rest : List ℕ) → Begins rest → comma_after part rest ≡ (part, false, (rest, true))
comma_next part rest h = subst (λ xs. comma_after part xs ≡ (part, false, (xs, true))) (sym h.2) refl

abbrev PartAnswer : Type 0
PartAnswer = Result (ParmPart × Bool × (List ℕ × Bool)) LexFault

next_part : (place : LinePlace) (part : ParmPart) (blanks rest : List ℕ) → AreBlanks blanks → Begins rest → (let answer : PartAnswer = Ok (part, false, (rest, true)) in part_after place part (44 ∷ (blanks ++ rest)) ≡ answer)
next_part place part blanks rest are begins =
    ap (λ xs. let answer : PartAnswer = Ok (comma_after part xs) in answer) (blanks_gone blanks rest are (begins_ends rest begins)) ∙
    ap (λ p. let answer : PartAnswer = Ok p in answer) (comma_next part rest begins)

parts_read : (file : List ℕ) (place : LinePlace) (front : List ℕ) (texts : List PartText) (rest : List ℕ) (comma : Bool) → LiesAt file place (front ++ rest) → SpellsParts front texts → Begins rest → (parts : List ParmPart) × (last : Bool) × Runs (PartStep place) (front ++ rest, comma) parts (rest, last) × (map (part_text file) parts ≡ texts) × LiesAt file place rest
parts_read file place front [] rest comma lies h begins =
    ([], comma, ap (λ xs. let s : List ℕ × Bool = (xs ++ rest, comma) in s) h, refl, subst (λ xs. LiesAt file place (xs ++ rest)) h lies)
parts_read file place front (text ∷ texts) rest comma lies h begins =
    let whole = parts_whole front h.0 h.1 h.2 rest h.3 in
    let here = subst (LiesAt file place) whole lies in
    let next = parts_begin h.2 texts rest h.6 begins in
    let part = part_read file place h.0 text (44 ∷ (h.1 ++ (h.2 ++ rest))) here h.4 refl in
    let step = subst (PartStep place (h.0 ++ 44 ∷ (h.1 ++ (h.2 ++ rest)), comma)) (next_part place part.0 h.1 (h.2 ++ rest) h.5 next) (part.2 comma) in
    let behind = part_piece file place (h.0 ++ 44 ∷ (h.1 ++ (h.2 ++ rest)), comma) (Ok (part.0, false, (h.2 ++ rest, true))) here step in
    let later = parts_read file place h.2 texts rest true behind.1 h.6 begins in (
      part.0 ∷ later.0,
      later.1,
      subst (λ s. Runs (PartStep place) (s, comma) (part.0 ∷ later.0) (rest, later.1)) (sym whole) ((h.2 ++ rest, true), step, later.2),
      same_cons part.1 later.3,
      later.4,
    )

tail_ends : (tail : List ℕ) (continued : Bool) → EndsLine tail continued → Ends is_bare tail
tail_ends tail true h = subst (Ends is_bare) (sym h.1) refl
tail_ends [] false h = tt
tail_ends (byte ∷ comment) false h = blank_no_bare byte h

tail_read : (place : LinePlace) (part : ParmPart) (tail : List ℕ) (continued : Bool) → EndsLine tail continued → (let answer : PartAnswer = Ok (part, true, ([], continued)) in part_after place part tail ≡ answer)
tail_read place part tail true h =
    let gone : blanks_off h.0 ≡ [] = ap blanks_off (sym (append-nil h.0)) ∙ blanks_gone h.0 [] h.2 tt in
    ap (part_after place part) h.1 ∙ ap (λ xs. let answer : PartAnswer = Ok (comma_after part xs) in answer) gone
tail_read place part [] false h = refl
tail_read place part (byte ∷ comment) false h = cond_yes (is_blank byte) _ _ h

pub line_read : SpelledLinesAreRead
line_read file bytes place texts continued lies h =
    let front = parts_read file place h.2 h.0 (h.3 ++ h.4) false (subst (LiesAt file place) h.6 lies) h.7 (part_begins h.3 h.1 h.4 h.8) in
    let part = part_read file place h.3 h.1 h.4 front.4 h.8 (tail_ends h.4 continued h.9) in
    let step = subst (PartStep place (h.3 ++ h.4, front.1)) (tail_read place part.0 h.4 continued h.9) (part.2 front.1) in (
      front.0 ++ part.0 ∷ [],
      subst (λ s. LineAt place s (Ok (front.0 ++ part.0 ∷ [], ([], continued)))) (sym h.6) (front.0, part.0, (h.3 ++ h.4, front.1), front.2, step, refl),
      map-append (part_text file) front.0 (part.0 ∷ []) ∙ ap (λ xs. xs ++ part_text file part.0 ∷ []) front.3 ∙ ap (λ t. h.0 ++ t ∷ []) part.1 ∙ sym h.5,
    )
