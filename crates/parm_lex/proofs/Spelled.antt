-- What is read of a line is spelled so.
use Rattle.std.proofs.Common.{◌≡◌, inl, inr, ℕ, List, [], ◌∷◌, ◌++◌, ◌<◌, ◌≤◌, Bool, true, false, not, cond, Option, Some, None, Result, Ok, Err, nat_eq, length, map, take, drop, refl, sym, subst, ap, ◌∙◌, arith, append_assoc}
use Rattle.std.specs.List.{list_all, position_or_len}
use Rattle.std.proofs.lemmas.Bool.{eqb-true, eqb-false}
use Rattle.std.proofs.lemmas.List.{append-nil, length-take, map-append, take-append-drop}
use Rattle.parm_lex.specs.Bytes.{bare_len, blanks_off, inside_len, is_bare, is_blank, is_inside, is_word, word_len}
use Rattle.parm_lex.specs.Chain.{Runs}
use Rattle.parm_lex.specs.Grammar.{◌>>=◌, ListAt, Listed, PartFrom, PartStep, ValueFrom, bare_at, close_at, comma_after, equals_at, fault_at, first_of, item_at, list_more, list_open, list_step, part_after, part_of, quoted_at, single, span_at, unless_bad, word_at}
use Rattle.parm_lex.specs.Spans.{bytes_of}
use Rattle.parm_lex.specs.Spelling.{AreBlanks, EndsLine, LiesAt, LinesAreSpelled, SpellsFront, SpellsItem, SpellsItems, SpellsPart, SpellsParts, SpellsValue, part_text}
use Rattle.parm_lex.specs.declared.fault.LexFault.{LexFault}
use Rattle.parm_lex.specs.declared.fault.LexWhy.TheVariants.{AfterValue, EmptyPart, EmptyValue, MissingEquals, UnclosedQuote}
use Rattle.parm_lex.specs.declared.part.ParmPart.{ParmPart}
use Rattle.parm_lex.specs.declared.span.LinePlace.{LinePlace}
use Rattle.parm_lex.specs.declared.span.Span.{Span}
use Rattle.parm_lex.proofs.Lying.{lies_tail, run_passes, span_text}
use Rattle.parm_lex.proofs.Pieces.{ItemIsPiece, ListItemIsPiece, OpenIsPiece, PartAnswer, Value, open_piece, part_piece, step_piece, word_piece}
use Rattle.parm_lex.proofs.Runs.{run_within}

either_on : {A : Type 0} (P : A → Type 0) (b : Bool) (x y : A) → (b ≡ true → P x) → (b ≡ false → P y) → P (cond b x y)
either_on P true x y h k = h refl
either_on P false x y h k = k refl

not_zero : (n : ℕ) → nat_eq n 0 ≡ false → 0 < n
not_zero n e = let other = eqb-false n 0 e in omega arith

some_taken : (n : ℕ) (xs : List ℕ) → n ≤ length xs → 0 < n → 0 < length (take n xs)
some_taken n xs within some = omega (arith, length-take n xs)

-- ---- items

abbrev ItemIsSpelled : List ℕ → List ℕ → Result (Span × List ℕ) LexFault → Type 0
ItemIsSpelled file bytes (Err f) = Unit {0}
ItemIsSpelled file bytes (Ok r) = (item : List ℕ) × SpellsItem item (bytes_of file r.0) × (bytes ≡ item ++ r.1)

bare_spelled : (file : List ℕ) (place : LinePlace) (bytes : List ℕ) → LiesAt file place bytes → ItemIsSpelled file bytes (bare_at place bytes)
bare_spelled file place bytes lies =
    let n = bare_len bytes in
    let within : bare_len bytes ≤ length bytes = run_within _ bytes in
    either_on (ItemIsSpelled file bytes) (nat_eq (bare_len bytes) 0) (Err (fault_at place bytes (unless_bad (first_of bytes) EmptyValue))) (Ok (span_at place bytes (bare_len bytes), drop (bare_len bytes) bytes)) (λ e. tt)
    (λ e. (
      take (bare_len bytes) bytes,
      subst (SpellsItem (take (bare_len bytes) bytes)) (sym (span_text file place bytes (bare_len bytes) lies within))
          (inr (record { spelled = refl; some = some_taken (bare_len bytes) bytes within (not_zero (bare_len bytes) e); bare = run_passes is_bare is_bare (λ b h. h) bytes })),
      sym (take-append-drop (bare_len bytes) bytes),
    ))

closes : (text rest : List ℕ) (byte : ℕ) → byte ≡ 34 → 34 ∷ (text ++ byte ∷ rest) ≡ (34 ∷ (text ++ 34 ∷ [])) ++ rest
closes text rest byte e = ap (λ b. 34 ∷ (text ++ b ∷ rest)) e ∙ ap (λ xs. 34 ∷ xs) (sym (append_assoc text (34 ∷ []) rest))

close_spelled : (file : List ℕ) (place : LinePlace) (span : Span) (text after : List ℕ) → bytes_of file span ≡ text → list_all is_inside text ≡ true → ItemIsSpelled file (34 ∷ (text ++ after)) (close_at place span after)
close_spelled file place span text [] same inside = tt
close_spelled file place span text (byte ∷ rest) same inside =
    either_on (ItemIsSpelled file (34 ∷ (text ++ byte ∷ rest))) (nat_eq byte 34) (Ok (span, rest)) (Err (fault_at place (byte ∷ rest) (unless_bad (Some byte) UnclosedQuote)))
    (λ e. (34 ∷ (text ++ 34 ∷ []), subst (SpellsItem (34 ∷ (text ++ 34 ∷ []))) (sym same) (inl (record { spelled = refl; inside = inside })), closes text rest byte (eqb-true byte 34 e)))
    (λ e. tt)

quoted_spelled : (file : List ℕ) (place : LinePlace) (bytes : List ℕ) → LiesAt file place bytes → ItemIsSpelled file (34 ∷ bytes) (quoted_at place bytes)
quoted_spelled file place bytes lies =
    subst (λ xs. ItemIsSpelled file (34 ∷ xs) (quoted_at place bytes)) (take-append-drop (inside_len bytes) bytes)
    (close_spelled file place (span_at place bytes (inside_len bytes)) (take (inside_len bytes) bytes) (drop (inside_len bytes) bytes)
    (span_text file place bytes (inside_len bytes) lies (run_within _ bytes)) (run_passes is_inside is_inside (λ b h. h) bytes))

item_spelled : (file : List ℕ) (place : LinePlace) (bytes : List ℕ) → LiesAt file place bytes → ItemIsSpelled file bytes (item_at place bytes)
unfolding item_at
item_spelled file place [] lies = bare_spelled file place [] lies
item_spelled file place (byte ∷ rest) lies =
    either_on (ItemIsSpelled file (byte ∷ rest)) (nat_eq byte 34) (quoted_at place rest) (bare_at place (byte ∷ rest))
    (λ e. subst (λ b. ItemIsSpelled file (b ∷ rest) (quoted_at place rest)) (sym (eqb-true byte 34 e)) (quoted_spelled file place rest (lies_tail file place byte rest lies)))
    (λ e. bare_spelled file place (byte ∷ rest) lies)

-- ---- lists

blanks_split : (bytes : List ℕ) → (blanks : List ℕ) × AreBlanks blanks × (bytes ≡ blanks ++ blanks_off bytes)
unfolding blanks_off
blanks_split bytes = let n = position_or_len (λ byte. not (is_blank byte)) bytes in (take n bytes, run_passes is_blank is_blank (λ b h. h) bytes, sym (take-append-drop n bytes))

abbrev ListItemOf : List ℕ → List ℕ → Span → Bool → List ℕ → Type 0
ListItemOf file bytes span false rest = (item before after : List ℕ) × (bytes ≡ item ++ (before ++ 44 ∷ (after ++ rest))) × SpellsItem item (bytes_of file span) × AreBlanks before × AreBlanks after
ListItemOf file bytes span true rest = (item blanks : List ℕ) × (bytes ≡ item ++ (blanks ++ 41 ∷ rest)) × SpellsItem item (bytes_of file span) × AreBlanks blanks

abbrev ListItemIsSpelled : List ℕ → List ℕ → Result (Span × Bool × List ℕ) LexFault → Type 0
ListItemIsSpelled file bytes (Err f) = Unit {0}
ListItemIsSpelled file bytes (Ok r) = ListItemOf file bytes r.0 r.1 r.2

more_spelled : (file : List ℕ) (place : LinePlace) (span : Span) (item before after : List ℕ) → SpellsItem item (bytes_of file span) → AreBlanks before → ListItemIsSpelled file (item ++ (before ++ after)) (list_more place span after)
more_spelled file place span item before [] spells blanks = tt
more_spelled file place span item before (byte ∷ rest) spells blanks =
    let P = ListItemIsSpelled file (item ++ (before ++ byte ∷ rest)) in
    let closing : Result (Span × Bool × List ℕ) LexFault = cond (nat_eq byte 41) (Ok (span, true, rest)) (Err (fault_at place (byte ∷ rest) (unless_bad (Some byte) AfterValue))) in
    either_on (ListItemIsSpelled file (item ++ (before ++ byte ∷ rest))) (nat_eq byte 44) (Ok (span, false, blanks_off rest)) (cond (nat_eq byte 41) (Ok (span, true, rest)) (Err (fault_at place (byte ∷ rest) (unless_bad (Some byte) AfterValue))))
    (λ e. let split = blanks_split rest in
    (item, before, split.0, ap (λ b. item ++ (before ++ b ∷ rest)) (eqb-true byte 44 e) ∙ ap (λ xs. item ++ (before ++ 44 ∷ xs)) split.2, spells, blanks, split.1))
    (λ e. either_on (ListItemIsSpelled file (item ++ (before ++ byte ∷ rest))) (nat_eq byte 41) (Ok (span, true, rest)) (Err (fault_at place (byte ∷ rest) (unless_bad (Some byte) AfterValue)))
    (λ f. (item, before, ap (λ b. item ++ (before ++ b ∷ rest)) (eqb-true byte 41 f), spells, blanks)) (λ f. tt))

then_spelled : (file : List ℕ) (place : LinePlace) (bytes : List ℕ) (item : Result (Span × List ℕ) LexFault) → ItemIsSpelled file bytes item → ListItemIsSpelled file bytes (item >>= (λ r. list_more place r.0 (blanks_off r.1)))
then_spelled file place bytes (Err f) h = tt
then_spelled file place bytes (Ok r) h =
    let split = blanks_split r.1 in
    subst (λ xs. ListItemIsSpelled file xs (list_more place r.0 (blanks_off r.1))) (ap (λ xs. h.0 ++ xs) (sym split.2) ∙ sym h.2)
    (more_spelled file place r.0 h.0 split.0 (blanks_off r.1) h.1 split.1)

step_spelled : (file : List ℕ) (place : LinePlace) (bytes : List ℕ) → LiesAt file place bytes → ListItemIsSpelled file bytes (list_step place bytes)
unfolding list_step
step_spelled file place bytes lies = then_spelled file place bytes (item_at place bytes) (item_spelled file place bytes lies)

pub one_more_item : (item before after front rest : List ℕ) → item ++ (before ++ 44 ∷ (after ++ (front ++ rest))) ≡ (item ++ (before ++ 44 ∷ (after ++ front))) ++ rest
one_more_item item before after front rest =
    ap (λ xs. item ++ (before ++ 44 ∷ xs)) (sym (append_assoc after front rest)) ∙
    ap (λ xs. item ++ xs) (sym (append_assoc before (44 ∷ (after ++ front)) rest)) ∙
    sym (append_assoc item (before ++ 44 ∷ (after ++ front)) rest)

front_spelled : (file : List ℕ) (place : LinePlace) (spans : List Span) (s t : List ℕ) → LiesAt file place s → Runs (λ x r. list_step place x ≡ r) s spans t → (front : List ℕ) × (s ≡ front ++ t) × SpellsFront front (map (bytes_of file) spans) × LiesAt file place t
front_spelled file place [] s t lies runs = ([], runs, refl, subst (LiesAt file place) runs lies)
front_spelled file place (span ∷ spans) s t lies runs =
    let here = subst (ListItemIsSpelled file s) runs.1 (step_spelled file place s lies) in
    let behind = subst (ListItemIsPiece file place) runs.1 (step_piece file place s lies) in
    let rest = front_spelled file place spans runs.0 t behind.1 runs.2 in (
      here.0 ++ (here.1 ++ 44 ∷ (here.2 ++ rest.0)),
      here.3 ∙ ap (λ xs. here.0 ++ (here.1 ++ 44 ∷ (here.2 ++ xs))) rest.1 ∙ one_more_item here.0 here.1 here.2 rest.0 t,
      (here.0, here.1, here.2, rest.0, refl, here.4, here.5, here.6, rest.2),
      rest.3,
    )

pub last_item : (front item blanks rest : List ℕ) → front ++ (item ++ (blanks ++ 41 ∷ rest)) ≡ (front ++ (item ++ blanks)) ++ 41 ∷ rest
last_item front item blanks rest =
    ap (λ xs. front ++ xs) (sym (append_assoc item blanks (41 ∷ rest))) ∙ sym (append_assoc front (item ++ blanks) (41 ∷ rest))

list_spelled : (file : List ℕ) (place : LinePlace) (inside : List ℕ) (r : List Span × List ℕ) → LiesAt file place inside → ListAt place inside (Ok r) → (items : List ℕ) × SpellsItems items (map (bytes_of file) r.0) × (inside ≡ items ++ 41 ∷ r.1)
list_spelled file place inside r lies chain =
    let front = front_spelled file place chain.0 inside chain.2 lies chain.3 in
    let last = subst (ListItemIsSpelled file chain.2) chain.4 (step_spelled file place chain.2 front.3) in
    let texts : map (bytes_of file) r.0 ≡ map (bytes_of file) chain.0 ++ bytes_of file chain.1 ∷ [] = ap (map (bytes_of file)) chain.5 ∙ map-append (bytes_of file) chain.0 (chain.1 ∷ []) in (
      front.0 ++ (last.0 ++ last.1),
      (map (bytes_of file) chain.0, bytes_of file chain.1, front.0, last.0, last.1, texts, refl, front.2, last.3, last.4),
      front.1 ∙ ap (λ xs. front.0 ++ xs) last.2 ∙ last_item front.0 last.0 last.1 r.1,
    )

-- ---- words and values

abbrev WordIsSpelled : List ℕ → List ℕ → Result (Span × List ℕ) LexFault → Type 0
WordIsSpelled file bytes (Err f) = Unit {0}
WordIsSpelled file bytes (Ok r) = (bytes ≡ bytes_of file r.0 ++ 61 ∷ r.1) × (0 < length (bytes_of file r.0)) × (list_all is_word (bytes_of file r.0) ≡ true)

equals_spelled : (file : List ℕ) (place : LinePlace) (word : Span) (text after : List ℕ) → bytes_of file word ≡ text → 0 < length text → list_all is_word text ≡ true → WordIsSpelled file (text ++ after) (equals_at place word after)
equals_spelled file place word text [] same some letters = tt
equals_spelled file place word text (byte ∷ rest) same some letters =
    either_on (WordIsSpelled file (text ++ byte ∷ rest)) (nat_eq byte 61) (Ok (word, rest)) (Err (fault_at place (byte ∷ rest) (unless_bad (Some byte) MissingEquals)))
    (λ e. (ap (λ b. text ++ b ∷ rest) (eqb-true byte 61 e) ∙ ap (λ t. t ++ 61 ∷ rest) (sym same), subst (λ t. 0 < length t) (sym same) some, ap (list_all is_word) same ∙ letters))
    (λ e. tt)

word_spelled : (file : List ℕ) (place : LinePlace) (bytes : List ℕ) → LiesAt file place bytes → WordIsSpelled file bytes (word_at place bytes)
unfolding word_at
word_spelled file place bytes lies =
    let within : word_len bytes ≤ length bytes = run_within _ bytes in
    either_on (WordIsSpelled file bytes) (nat_eq (word_len bytes) 0) (Err (fault_at place bytes (unless_bad (first_of bytes) EmptyPart))) (equals_at place (span_at place bytes (word_len bytes)) (drop (word_len bytes) bytes)) (λ e. tt)
    (λ e. subst (λ xs. WordIsSpelled file xs (equals_at place (span_at place bytes (word_len bytes)) (drop (word_len bytes) bytes))) (take-append-drop (word_len bytes) bytes)
    (equals_spelled file place (span_at place bytes (word_len bytes)) (take (word_len bytes) bytes) (drop (word_len bytes) bytes)
    (span_text file place bytes (word_len bytes) lies within) (some_taken (word_len bytes) bytes within (not_zero (word_len bytes) e)) (run_passes is_word is_word (λ b h. h) bytes)))

abbrev ValueIsSpelled : List ℕ → List ℕ → Value → Type 0
ValueIsSpelled file bytes (Err f) = Unit {0}
ValueIsSpelled file bytes (Ok v) = (value : List ℕ) × SpellsValue value (map (bytes_of file) v.0.0) v.0.1 × (bytes ≡ value ++ v.1)

abbrev OpenIs : List ℕ → Option (List ℕ) → Type 0
OpenIs bytes None = Unit {0}
OpenIs bytes (Some inside) = (blanks : List ℕ) × AreBlanks blanks × (bytes ≡ 40 ∷ (blanks ++ inside))

open_is : (bytes : List ℕ) → OpenIs bytes (list_open bytes)
open_is [] = tt
open_is (byte ∷ rest) =
    either_on (OpenIs (byte ∷ rest)) (nat_eq byte 40) (Some (blanks_off rest)) None
    (λ e. let split = blanks_split rest in (split.0, split.1, ap (λ b. b ∷ rest) (eqb-true byte 40 e) ∙ ap (λ xs. 40 ∷ xs) split.2))
    (λ e. tt)

single_spelled : (file bytes : List ℕ) (item : Result (Span × List ℕ) LexFault) → ItemIsSpelled file bytes item → ValueIsSpelled file bytes (single item)
single_spelled file bytes (Err f) h = tt
single_spelled file bytes (Ok r) h = (h.0, (bytes_of file r.0, refl, h.1), h.2)

listed_spelled : (file : List ℕ) (place : LinePlace) (bytes inside blanks : List ℕ) (v : Value) → LiesAt file place inside → AreBlanks blanks → bytes ≡ 40 ∷ (blanks ++ inside) → Listed place inside v → ValueIsSpelled file bytes v
listed_spelled file place bytes inside blanks (Err f) lies are opens listed = tt
listed_spelled file place bytes inside blanks (Ok v) lies are opens listed =
    let list = list_spelled file place inside (v.0.0, v.1) lies listed.0 in
    let value = 40 ∷ (blanks ++ (list.0 ++ 41 ∷ [])) in (
      40 ∷ (blanks ++ (list.0 ++ 41 ∷ [])),
      subst (SpellsValue (40 ∷ (blanks ++ (list.0 ++ 41 ∷ []))) (map (bytes_of file) v.0.0)) (sym listed.1) (blanks, list.0, refl, are, list.1),
      opens ∙ ap (λ xs. 40 ∷ (blanks ++ xs)) list.2 ∙
          ap (λ xs. 40 ∷ (blanks ++ xs)) (sym (append_assoc list.0 (41 ∷ []) v.1)) ∙
          ap (λ xs. 40 ∷ xs) (sym (append_assoc blanks (list.0 ++ 41 ∷ []) v.1)),
    )

value_spelled : (file : List ℕ) (place : LinePlace) (bytes : List ℕ) (inside : Option (List ℕ)) (v : Value) → LiesAt file place bytes → OpenIs bytes inside → OpenIsPiece file place inside → ValueFrom place bytes inside v → ValueIsSpelled file bytes v
value_spelled file place bytes None v lies opens behind from = subst (ValueIsSpelled file bytes) (sym from) (single_spelled file bytes (item_at place bytes) (item_spelled file place bytes lies))
value_spelled file place bytes (Some inside) v lies opens behind from = listed_spelled file place bytes inside opens.0 v behind opens.1 opens.2 from

-- ---- parts

abbrev PartOf : List ℕ → List ℕ → ParmPart → Bool → List ℕ → Bool → Type 0
PartOf file bytes part false rest comma = (spelled blanks : List ℕ) × (bytes ≡ spelled ++ 44 ∷ (blanks ++ rest)) × SpellsPart spelled (part_text file part) × AreBlanks blanks
PartOf file bytes part true rest comma = (spelled tail : List ℕ) × (bytes ≡ spelled ++ tail) × SpellsPart spelled (part_text file part) × EndsLine tail comma

abbrev PartIsSpelled : List ℕ → List ℕ → PartAnswer → Type 0
PartIsSpelled file bytes (Err f) = Unit {0}
PartIsSpelled file bytes (Ok a) = PartOf file bytes a.0 a.1 a.2.0 a.2.1

comma_spelled : (file : List ℕ) (part : ParmPart) (spelled blanks after : List ℕ) → SpellsPart spelled (part_text file part) → AreBlanks blanks → PartIsSpelled file (spelled ++ 44 ∷ (blanks ++ after)) (Ok (comma_after part after))
comma_spelled file part spelled blanks [] spells are = (spelled, 44 ∷ (blanks ++ []), refl, spells, (blanks, ap (λ xs. 44 ∷ xs) (append-nil blanks), are))
comma_spelled file part spelled blanks (byte ∷ rest) spells are = (spelled, blanks, refl, spells, are)

after_spelled : (file : List ℕ) (place : LinePlace) (part : ParmPart) (spelled after : List ℕ) → SpellsPart spelled (part_text file part) → PartIsSpelled file (spelled ++ after) (part_after place part after)
after_spelled file place part spelled [] spells = (spelled, [], refl, spells, tt)
after_spelled file place part spelled (byte ∷ rest) spells =
    either_on (PartIsSpelled file (spelled ++ byte ∷ rest)) (is_blank byte) (Ok (part, true, ([], false))) (cond (nat_eq byte 44) (Ok (comma_after part (blanks_off rest))) (Err (fault_at place (byte ∷ rest) (unless_bad (Some byte) AfterValue))))
    (λ e. (spelled, byte ∷ rest, refl, spells, e))
    (λ e. either_on (PartIsSpelled file (spelled ++ byte ∷ rest)) (nat_eq byte 44) (Ok (comma_after part (blanks_off rest))) (Err (fault_at place (byte ∷ rest) (unless_bad (Some byte) AfterValue)))
    (λ f. let split = blanks_split rest in
    subst (λ xs. PartIsSpelled file xs (Ok (comma_after part (blanks_off rest)))) (ap (λ xs. spelled ++ 44 ∷ xs) (sym split.2) ∙ ap (λ b. spelled ++ b ∷ rest) (sym (eqb-true byte 44 f)))
    (comma_spelled file part spelled split.0 (blanks_off rest) spells split.1))
    (λ f. tt))

of_spelled : (file : List ℕ) (place : LinePlace) (bytes rest : List ℕ) (word : Span) (v : Value) → bytes ≡ bytes_of file word ++ 61 ∷ rest → 0 < length (bytes_of file word) → list_all is_word (bytes_of file word) ≡ true → ValueIsSpelled file rest v → PartIsSpelled file bytes (part_of place word v)
of_spelled file place bytes rest word (Err f) e some letters h = tt
of_spelled file place bytes rest word (Ok v) e some letters h =
    let part : ParmPart = record { line = place.number; word = word; items = v.0.0; listed = v.0.1 } in
    subst (λ xs. PartIsSpelled file xs (part_after place (record { line = place.number; word = word; items = v.0.0; listed = v.0.1 }) v.1))
    (append_assoc (bytes_of file word) (61 ∷ h.0) v.1 ∙ ap (λ xs. bytes_of file word ++ 61 ∷ xs) (sym h.2) ∙ sym e)
    (after_spelled file place (record { line = place.number; word = word; items = v.0.0; listed = v.0.1 }) (bytes_of file word ++ 61 ∷ h.0) v.1
    (record { value = h.0; spelled = refl; some = some; letters = letters; spells = h.1 }))

from_spelled : (file : List ℕ) (place : LinePlace) (bytes : List ℕ) (word : Result (Span × List ℕ) LexFault) (a : PartAnswer) → WordIsSpelled file bytes word → ItemIsPiece file place word → PartFrom place word a → PartIsSpelled file bytes a
from_spelled file place bytes (Err f) a h lies from = subst (PartIsSpelled file bytes) (sym from) tt
from_spelled file place bytes (Ok word) a h lies from =
    subst (PartIsSpelled file bytes) (sym from.2)
    (of_spelled file place bytes word.1 word.0 from.0 h.0 h.1 h.2
    (value_spelled file place word.1 (list_open word.1) from.0 lies.1 (open_is word.1) (open_piece file place word.1 lies.1) from.1))

part_spelled : (file : List ℕ) (place : LinePlace) (state : List ℕ × Bool) (a : PartAnswer) → LiesAt file place state.0 → PartStep place state a → PartIsSpelled file state.0 a
unfolding PartStep
part_spelled file place state a lies step = from_spelled file place state.0 (word_at place state.0) a (word_spelled file place state.0 lies) (word_piece file place state.0 lies) step

-- ---- lines

pub one_more_part : (spelled blanks front rest : List ℕ) → spelled ++ 44 ∷ (blanks ++ (front ++ rest)) ≡ (spelled ++ 44 ∷ (blanks ++ front)) ++ rest
one_more_part spelled blanks front rest =
    ap (λ xs. spelled ++ 44 ∷ xs) (sym (append_assoc blanks front rest)) ∙ sym (append_assoc spelled (44 ∷ (blanks ++ front)) rest)

parts_spelled : (file : List ℕ) (place : LinePlace) (parts : List ParmPart) (s t : List ℕ × Bool) → LiesAt file place s.0 → Runs (PartStep place) s parts t → (front : List ℕ) × (s.0 ≡ front ++ t.0) × SpellsParts front (map (part_text file) parts) × LiesAt file place t.0
parts_spelled file place [] s t lies runs = ([], ap (λ p. p.0) runs, refl, subst (λ p. LiesAt file place p.0) runs lies)
parts_spelled file place (part ∷ parts) s t lies runs =
    let here = part_spelled file place s (Ok (part, false, runs.0)) lies runs.1 in
    let behind = part_piece file place s (Ok (part, false, runs.0)) lies runs.1 in
    let rest = parts_spelled file place parts runs.0 t behind.1 runs.2 in (
      here.0 ++ 44 ∷ (here.1 ++ rest.0),
      here.2 ∙ ap (λ xs. here.0 ++ 44 ∷ (here.1 ++ xs)) rest.1 ∙ one_more_part here.0 here.1 rest.0 t.0,
      (here.0, here.1, rest.0, refl, here.3, here.4, rest.2),
      rest.3,
    )

pub lines_spelled : LinesAreSpelled
lines_spelled file bytes place parts rest continued lies chain =
    let front = parts_spelled file place chain.0 (bytes, false) chain.2 lies chain.3 in
    let last = part_spelled file place chain.2 (Ok (chain.1, true, (rest, continued))) front.3 chain.4 in
    let texts : map (part_text file) parts ≡ map (part_text file) chain.0 ++ part_text file chain.1 ∷ [] = ap (map (part_text file)) chain.5 ∙ map-append (part_text file) chain.0 (chain.1 ∷ []) in (
      map (part_text file) chain.0,
      part_text file chain.1,
      front.0,
      last.0,
      last.1,
      texts,
      front.1 ∙ ap (λ xs. front.0 ++ xs) last.2,
      front.2,
      last.3,
      last.4,
    )
