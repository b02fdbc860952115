-- The grammar of a line: words and values, and what is wrong where none stands.
use Rattle.std.specs.Prelude.{◌≡◌, ℕ, List, [], ◌∷◌, Bool, true, false, nat_eq, ◌||◌, ◌+◌, ◌-◌, ◌≤◌, if◌then◌else◌, Result, Ok, Err, Option, Some, None, length, drop}
use Rattle.parm_lex.specs.Bytes.{is_blank, is_printable, blanks_off, bare_len, inside_len, word_len}
use Rattle.parm_lex.specs.Chain.{Chain}
use Rattle.parm_lex.specs.declared.fault.LexFault.{LexFault}
use Rattle.parm_lex.specs.declared.fault.LexWhy.{LexWhy}
use Rattle.parm_lex.specs.declared.fault.LexRefused.{LexRefused}
use Rattle.parm_lex.specs.declared.fault.LexRefused.TheVariants as refused
use Rattle.parm_lex.specs.declared.fault.LexWhy.TheVariants.{EmptyPart, MissingEquals, EmptyValue, UnclosedQuote, UnclosedParen, AfterValue, BadByte}
use Rattle.parm_lex.specs.declared.span.Span.{Span}
use Rattle.parm_lex.specs.declared.span.LinePlace.{LinePlace}
use Rattle.parm_lex.specs.declared.part.ParmPart.{ParmPart}

infixl 10 ◌>>=◌
abbrev pub ◌>>=◌ : {A B : Type 0} → Result A LexFault → (A → Result B LexFault) → Result B LexFault
(Ok x) >>= f = f x
(Err e) >>= f = Err e

-- What a function answered, seen by view, is what P says, unless memory ran out.
abbrev pub GivesBy : {X Y : Type 0} → (X → Y) → (Result Y LexFault → Type 0) → Result X LexRefused → Type 0
GivesBy view P (Ok x) = P (Ok (view x))
GivesBy view P (Err refused.NoMemory) = Unit {0}
GivesBy view P (Err (refused.Fault f)) = P (Err f)

-- the same for an answer that takes no memory
abbrev pub seen : {X Y : Type 0} → (X → Y) → Result X LexFault → Result Y LexFault
seen view (Ok x) = Ok (view x)
seen view (Err f) = Err f

-- the rest of a line lies in the line, and the line in the file
pub record Within (place : LinePlace) (rest : List ℕ) : Type 0 where
  pub line : length rest ≤ place.width
  pub file : place.width ≤ place.end
  pub short : place.width ≤ 4096

-- the fault where the rest of the line begins
abbrev pub fault_at : LinePlace → List ℕ → LexWhy → LexFault
fault_at place rest why = record { line = place.number; column = place.width - length rest + 1; why = why }

-- the first bytes of the rest of the line
abbrev pub span_at : LinePlace → List ℕ → ℕ → Span
span_at place rest len = record { at = place.end - length rest; len = len }

-- the first byte of the rest, if it has one
abbrev pub first_of : List ℕ → Option ℕ
first_of [] = None
first_of (byte ∷ rest) = Some byte

-- why nothing of the grammar stands where another byte is wanted
abbrev pub unless_bad : Option ℕ → LexWhy → LexWhy
unless_bad None why = why
unless_bad (Some byte) why = if is_blank byte || is_printable byte then why else BadByte

abbrev pub bare_at : LinePlace → List ℕ → Result (Span × List ℕ) LexFault
bare_at place bytes =
    if nat_eq (bare_len bytes) 0
    then Err (fault_at place bytes (unless_bad (first_of bytes) EmptyValue))
    else Ok (span_at place bytes (bare_len bytes), drop (bare_len bytes) bytes)

-- behind the text of a quoted item: its closing quote
abbrev pub close_at : LinePlace → Span → List ℕ → Result (Span × List ℕ) LexFault
close_at place text [] = Err (fault_at place [] UnclosedQuote)
close_at place text (byte ∷ rest) =
    if nat_eq byte 34 then Ok (text, rest)
    else Err (fault_at place (byte ∷ rest) (unless_bad (Some byte) UnclosedQuote))

-- behind the opening quote
abbrev pub quoted_at : LinePlace → List ℕ → Result (Span × List ℕ) LexFault
quoted_at place bytes = close_at place (span_at place bytes (inside_len bytes)) (drop (inside_len bytes) bytes)

-- an item, quoted or bare
unfoldable pub item_at : LinePlace → List ℕ → Result (Span × List ℕ) LexFault
item_at place [] = bare_at place []
item_at place (byte ∷ rest) = if nat_eq byte 34 then quoted_at place rest else bare_at place (byte ∷ rest)

-- behind an item of a list and blanks: a comma and blanks, or the end of the list
abbrev pub list_more : LinePlace → Span → List ℕ → Result (Span × Bool × List ℕ) LexFault
list_more place item [] = Err (fault_at place [] UnclosedParen)
list_more place item (byte ∷ rest) =
    if nat_eq byte 44 then Ok (item, false, blanks_off rest)
    else if nat_eq byte 41 then Ok (item, true, rest)
    else Err (fault_at place (byte ∷ rest) (unless_bad (Some byte) AfterValue))

unfoldable pub list_step : LinePlace → List ℕ → Result (Span × Bool × List ℕ) LexFault
list_step place bytes = do
  item ← item_at place bytes
  list_more place item.0 (blanks_off item.1)

-- the items of a list, from behind its parenthesis and blanks
abbrev pub ListAt : LinePlace → List ℕ → Result (List Span × List ℕ) LexFault → Type 0
ListAt place bytes read = Chain (λ s r. list_step place s ≡ r) bytes read

-- behind a word: the sign =
abbrev pub equals_at : LinePlace → Span → List ℕ → Result (Span × List ℕ) LexFault
equals_at place word [] = Err (fault_at place [] MissingEquals)
equals_at place word (byte ∷ rest) =
    if nat_eq byte 61 then Ok (word, rest)
    else Err (fault_at place (byte ∷ rest) (unless_bad (Some byte) MissingEquals))

-- a word and the sign behind it
unfoldable pub word_at : LinePlace → List ℕ → Result (Span × List ℕ) LexFault
word_at place bytes =
    if nat_eq (word_len bytes) 0
    then Err (fault_at place bytes (unless_bad (first_of bytes) EmptyPart))
    else equals_at place (span_at place bytes (word_len bytes)) (drop (word_len bytes) bytes)

-- the inside of a list, where one opens here
abbrev pub list_open : List ℕ → Option (List ℕ)
list_open [] = None
list_open (byte ∷ rest) = if nat_eq byte 40 then Some (blanks_off rest) else None

abbrev pub single : Result (Span × List ℕ) LexFault → Result ((List Span × Bool) × List ℕ) LexFault
single (Ok item) = Ok ((item.0 ∷ [], false), item.1)
single (Err f) = Err f

abbrev pub Listed : LinePlace → List ℕ → Result ((List Span × Bool) × List ℕ) LexFault → Type 0
Listed place inside (Ok value) = ListAt place inside (Ok (value.0.0, value.1)) × (value.0.1 ≡ true)
Listed place inside (Err f) = ListAt place inside (Err f)

abbrev pub ValueFrom : LinePlace → List ℕ → Option (List ℕ) → Result ((List Span × Bool) × List ℕ) LexFault → Type 0
ValueFrom place bytes None read = read ≡ single (item_at place bytes)
ValueFrom place bytes (Some inside) read = Listed place inside read

-- a value: an item, or a list of items
abbrev pub ValueAt : LinePlace → List ℕ → Result ((List Span × Bool) × List ℕ) LexFault → Type 0
ValueAt place bytes read = ValueFrom place bytes (list_open bytes) read

-- behind the comma of a part and blanks: the next part, or the end of a line that is continued
abbrev pub comma_after : ParmPart → List ℕ → ParmPart × Bool × (List ℕ × Bool)
comma_after part [] = (part, true, ([], true))
comma_after part (byte ∷ rest) = (part, false, (byte ∷ rest, true))

-- behind a value: the line's end, a blank and a comment, or a comma
abbrev pub part_after : LinePlace → ParmPart → List ℕ → Result (ParmPart × Bool × (List ℕ × Bool)) LexFault
part_after place part [] = Ok (part, true, ([], false))
part_after place part (byte ∷ rest) =
    if is_blank byte then Ok (part, true, ([], false))
    else if nat_eq byte 44 then Ok (comma_after part (blanks_off rest))
    else Err (fault_at place (byte ∷ rest) (unless_bad (Some byte) AfterValue))

abbrev pub part_of : LinePlace → Span → Result ((List Span × Bool) × List ℕ) LexFault → Result (ParmPart × Bool × (List ℕ × Bool)) LexFault
part_of place word (Ok value) = part_after place (record { line = place.number; word = word; items = value.0.0; listed = value.0.1 }) value.1
part_of place word (Err f) = Err f

abbrev pub PartFrom : LinePlace → Result (Span × List ℕ) LexFault → Result (ParmPart × Bool × (List ℕ × Bool)) LexFault → Type 0
PartFrom place (Err f) read = read ≡ Err f
PartFrom place (Ok word) read = (value : Result ((List Span × Bool) × List ℕ) LexFault) × ValueAt place word.1 value × (read ≡ part_of place word.0 value)

-- One part. The state is the rest of the line and whether it stands behind a comma.
unfoldable pub PartStep : LinePlace → List ℕ × Bool → Result (ParmPart × Bool × (List ℕ × Bool)) LexFault → Type 0
PartStep place state read = PartFrom place (word_at place state.0) read

-- the parts of a line, and whether it is continued
abbrev pub LineAt : LinePlace → List ℕ → Result (List ParmPart × (List ℕ × Bool)) LexFault → Type 0
LineAt place bytes read = Chain (PartStep place) (bytes, false) read
