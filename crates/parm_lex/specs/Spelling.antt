-- The grammar of a line in one piece: which bytes spell which words and values, in whatever order they are read.
use Rattle.std.specs.Prelude.{◌≡◌, ◌⊎◌, ℕ, List, [], ◌∷◌, ◌++◌, ◌+◌, ◌<◌, Bool, true, false, IsTrue, Ok, length, map}
use Rattle.std.specs.List.{list_all}
use Rattle.parm_lex.specs.Bytes.{is_bare, is_blank, is_inside, is_word}
use Rattle.parm_lex.specs.Chain.{Runs}
use Rattle.parm_lex.specs.Grammar.{LineAt, PartStep}
use Rattle.parm_lex.specs.Spans.{bytes_of}
use Rattle.parm_lex.specs.declared.part.ParmPart.{ParmPart}
use Rattle.parm_lex.specs.declared.span.LinePlace.{LinePlace}

abbrev pub AreBlanks : List ℕ → Type 0
AreBlanks bytes = IsTrue (list_all is_blank bytes)

pub record IsQuoted (bytes text : List ℕ) : Type 0 where
  pub spelled : bytes ≡ 34 ∷ (text ++ 34 ∷ [])
  pub inside : IsTrue (list_all is_inside text)

pub record IsBare (bytes text : List ℕ) : Type 0 where
  pub spelled : bytes ≡ text
  pub some : 0 < length text
  pub bare : IsTrue (list_all is_bare text)

-- item = quoted or bare
abbrev pub SpellsItem : List ℕ → List ℕ → Type 0
SpellsItem bytes text = IsQuoted bytes text ⊎ IsBare bytes text

-- { item blanks "," blanks }
abbrev pub SpellsFront : List ℕ → List (List ℕ) → Type 0
SpellsFront bytes [] = bytes ≡ []
SpellsFront bytes (text ∷ texts) =
    (item before after rest : List ℕ) × (bytes ≡ item ++ (before ++ 44 ∷ (after ++ rest))) × SpellsItem item text × AreBlanks before × AreBlanks after × SpellsFront rest texts

-- item blanks { "," blanks item blanks }
abbrev pub SpellsItems : List ℕ → List (List ℕ) → Type 0
SpellsItems bytes texts =
    (texts_before : List (List ℕ)) × (text front item blanks : List ℕ) × (texts ≡ texts_before ++ text ∷ []) × (bytes ≡ front ++ (item ++ blanks)) × SpellsFront front texts_before × SpellsItem item text × AreBlanks blanks

-- value = item | "(" blanks items ")"
abbrev pub SpellsValue : List ℕ → List (List ℕ) → Bool → Type 0
SpellsValue bytes texts false = (text : List ℕ) × (texts ≡ text ∷ []) × SpellsItem bytes text
SpellsValue bytes texts true = (blanks items : List ℕ) × (bytes ≡ 40 ∷ (blanks ++ (items ++ 41 ∷ []))) × AreBlanks blanks × SpellsItems items texts

-- the texts of a part
pub record PartText : Type 0 where
  pub word : List ℕ
  pub items : List (List ℕ)
  pub listed : Bool

-- part = word "=" value
pub record SpellsPart (bytes : List ℕ) (part : PartText) : Type 0 where
  pub value : List ℕ
  pub spelled : bytes ≡ part.word ++ 61 ∷ value
  pub some : 0 < length part.word
  pub letters : IsTrue (list_all is_word part.word)
  pub spells : SpellsValue value part.items part.listed

-- { part "," blanks }
abbrev pub SpellsParts : List ℕ → List PartText → Type 0
SpellsParts bytes [] = bytes ≡ []
SpellsParts bytes (part ∷ parts) =
    (spelled blanks rest : List ℕ) × (bytes ≡ spelled ++ 44 ∷ (blanks ++ rest)) × SpellsPart spelled part × AreBlanks blanks × SpellsParts rest parts

-- [ "," blanks ] where the line is continued, else [ blank comment ]
abbrev pub EndsLine : List ℕ → Bool → Type 0
EndsLine bytes true = (blanks : List ℕ) × (bytes ≡ 44 ∷ blanks) × AreBlanks blanks
EndsLine [] false = Unit {0}
EndsLine (byte ∷ comment) false = IsTrue (is_blank byte)

-- a line: its parts, and whether it is continued
abbrev pub SpellsLine : List ℕ → List PartText → Bool → Type 0
SpellsLine bytes parts continued =
    (parts_before : List PartText) × (part : PartText) × (front spelled tail : List ℕ) × (parts ≡ parts_before ++ part ∷ []) × (bytes ≡ front ++ (spelled ++ tail)) × SpellsParts front parts_before × SpellsPart spelled part × EndsLine tail continued

-- the rest of a line lies in the file, up to the line's end
pub record LiesAt (file : List ℕ) (place : LinePlace) (rest : List ℕ) : Type 0 where
  pub front : List ℕ
  pub back : List ℕ
  pub whole : file ≡ front ++ (rest ++ back)
  pub ends : length front + length rest ≡ place.end

-- a part's texts in a file
abbrev pub part_text : List ℕ → ParmPart → PartText
part_text file part = record { word = bytes_of file part.word; items = map (bytes_of file) part.items; listed = part.listed }

-- what is read of a line is spelled so
abbrev pub LinesAreSpelled : Type 0
LinesAreSpelled =
    (file bytes : List ℕ) (place : LinePlace) (parts : List ParmPart) (rest : List ℕ) (continued : Bool) →
    LiesAt file place bytes → LineAt place bytes (Ok (parts, (rest, continued))) → SpellsLine bytes (map (part_text file) parts) continued

-- what is spelled is read so
abbrev pub SpelledLinesAreRead : Type 0
SpelledLinesAreRead =
    (file bytes : List ℕ) (place : LinePlace) (texts : List PartText) (continued : Bool) →
    LiesAt file place bytes → SpellsLine bytes texts continued → (parts : List ParmPart) × LineAt place bytes (Ok (parts, ([], continued))) × (map (part_text file) parts ≡ texts)

-- the rest of a line at which a part is wanted isn't empty, where the line isn't: the fault of a missing part is always at a byte
abbrev pub NoPartIsWantedAtAnEnd : Type 0
NoPartIsWantedAtAnEnd =
    (place : LinePlace) (bytes rest : List ℕ) (comma : Bool) (parts : List ParmPart) → 0 < length bytes → Runs (PartStep place) (bytes, false) parts (rest, comma) → 0 < length rest
