-- The lines of a file: cut, skipped, joined, and what is wrong with them.
use Rattle.std.specs.Prelude.{◌≡◌, ℕ, List, [], ◌∷◌, ◌++◌, Bool, true, false, nat_lt, ◌+◌, ◌-◌, Result, Ok, Err, Option, Some, None, length, take, drop}
use Rattle.std.specs.List.{flat_map}
use Rattle.std.specs.Option.{option_to_list}
use Rattle.parm_lex.specs.Bytes.{blanks_off, cr_off, is_skipped, line_len}
use Rattle.parm_lex.specs.Chain.{Chain}
use Rattle.parm_lex.specs.Grammar.{LineAt}
use Rattle.parm_lex.specs.declared.fault.LexFault.{LexFault}
use Rattle.parm_lex.specs.declared.fault.LexWhy.TheVariants.{FileTooLong, LineTooLong, OpenEnd}
use Rattle.parm_lex.specs.declared.line.Cut.{Cut}
use Rattle.parm_lex.specs.declared.line.OpenLine.{OpenLine}
use Rattle.parm_lex.specs.declared.line.ParmLine.{ParmLine}
use Rattle.parm_lex.specs.declared.part.ParmPart.{ParmPart}
use Rattle.parm_lex.specs.declared.span.LinePlace.{LinePlace}

-- a line of the file: where it lies, its text, and what stands behind it
pub record CutLine : Type 0 where
  pub place : LinePlace
  pub text : List ℕ
  pub after : List ℕ

unfoldable pub cut_at : ℕ → ℕ → List ℕ → CutLine
cut_at total number rest =
    let text = cr_off (take (line_len rest) rest) in
    record {
      place = record { number = number; width = length text; end = total - length rest + length text };
      text = text;
      after = drop (line_len rest + 1) rest;
    }

-- what is left of a file: its bytes, the number of the first line, and what that line continues
pub record FileRest : Type 0 where
  pub rest : List ℕ
  pub number : ℕ
  pub held : Option OpenLine

abbrev pub state : List ℕ → ℕ → Option OpenLine → FileRest
state rest number held = record { rest = rest; number = number; held = held }

-- behind a line: the next one, or the end of the file, which nothing may continue
abbrev pub go_on_from : ℕ → List ℕ → Option OpenLine → Option ParmLine → Result (Option ParmLine × Bool × FileRest) LexFault
go_on_from number [] (Some held) line = Err held.end
go_on_from number [] None line = Ok (line, true, state [] (number + 1) None)
go_on_from number (byte ∷ rest) held line = Ok (line, false, state (byte ∷ rest) (number + 1) held)

abbrev pub go_on : CutLine → Option OpenLine → Option ParmLine → Result (Option ParmLine × Bool × FileRest) LexFault
go_on cut held line = go_on_from cut.place.number cut.after held line

abbrev pub too_long : LinePlace → LexFault
too_long place = record { line = place.number; column = 4097; why = LineTooLong }

abbrev pub open_end : LinePlace → LexFault
open_end place = record { line = place.number; column = place.width + 1; why = OpenEnd }

abbrev pub noted : Option OpenLine → Option LexFault
noted None = None
noted (Some held) = held.long

abbrev pub first_noted : LexFault → Option LexFault → Option LexFault
first_noted f None = Some f
first_noted f (Some g) = Some g

-- a skipped line that is too long
abbrev pub skip_long : CutLine → Option OpenLine → Result (Option ParmLine × Bool × FileRest) LexFault
skip_long cut None = Err (too_long cut.place)
skip_long cut (Some held) = go_on cut (Some (record held { long = first_noted (too_long cut.place) held.long })) None

abbrev pub first_line : ℕ → Option OpenLine → ℕ
first_line number None = number
first_line number (Some held) = held.line

abbrev pub parts_before : Option OpenLine → List ParmPart
parts_before None = []
parts_before (Some held) = held.parts

abbrev pub joined : CutLine → ℕ → List ParmPart → Bool → Result (Option ParmLine × Bool × FileRest) LexFault
joined cut line parts true = go_on cut (Some (record { line = line; parts = parts; end = open_end cut.place; long = None })) None
joined cut line parts false = go_on cut None (Some (record { line = line; parts = parts }))

abbrev pub after_line : CutLine → Option OpenLine → Result (List ParmPart × (List ℕ × Bool)) LexFault → Result (Option ParmLine × Bool × FileRest) LexFault
after_line cut held (Err f) = Err f
after_line cut held (Ok read) = joined cut (first_line cut.place.number held) (parts_before held ++ read.0) read.1.1

-- a line that isn't skipped
abbrev pub Reads : CutLine → Option OpenLine → Option LexFault → Bool → Result (Option ParmLine × Bool × FileRest) LexFault → Type 0
Reads cut held (Some f) long answer = answer ≡ Err f
Reads cut held None true answer = answer ≡ Err (too_long cut.place)
Reads cut held None false answer = (read : Result (List ParmPart × (List ℕ × Bool)) LexFault) × LineAt cut.place (blanks_off cut.text) read × (answer ≡ after_line cut held read)

abbrev pub LineStep : CutLine → Option OpenLine → Bool → Bool → Result (Option ParmLine × Bool × FileRest) LexFault → Type 0
LineStep cut held true false answer = answer ≡ go_on cut held None
LineStep cut held true true answer = answer ≡ skip_long cut held
LineStep cut held false long answer = Reads cut held (noted held) long answer

-- one line of the file
abbrev pub CutStep : CutLine → Option OpenLine → Result (Option ParmLine × Bool × FileRest) LexFault → Type 0
CutStep cut held answer = LineStep cut held (is_skipped (blanks_off cut.text)) (nat_lt 4096 (length cut.text)) answer

abbrev pub FileStep : ℕ → FileRest → Result (Option ParmLine × Bool × FileRest) LexFault → Type 0
FileStep total s answer = CutStep (cut_at total s.number s.rest) s.held answer

-- a cut line, without where it lies in memory
abbrev pub cut_view : Cut → CutLine
cut_view cut = record { place = cut.place; text = cut.text.now; after = cut.after.now }

-- what a step answers, with the state behind it
abbrev pub step_view : CutLine → Option ParmLine × Bool × Option OpenLine → Option ParmLine × Bool × FileRest
step_view cut answer = (answer.0, answer.1, state cut.after (cut.place.number + 1) answer.2)

-- the definitions of a file that has a byte, line after line from the first
abbrev pub LinesAt : List ℕ → Result (List ParmLine) LexFault → Type 0
LinesAt bytes (Ok lines) =
    (read : List (Option ParmLine)) × (end : FileRest) × Chain (FileStep (length bytes)) (state bytes 1 None) (Ok (read, end)) × (lines ≡ flat_map option_to_list read)
LinesAt bytes (Err f) = Chain (FileStep (length bytes)) (state bytes 1 None) (Err f)

abbrev pub too_big : LexFault
too_big = record { line = 0; column = 0; why = FileTooLong }

abbrev pub ShortFile : List ℕ → Result (List ParmLine) LexFault → Type 0
ShortFile [] read = read ≡ Ok []
ShortFile (byte ∷ rest) read = LinesAt (byte ∷ rest) read

abbrev pub SizedFile : Bool → List ℕ → Result (List ParmLine) LexFault → Type 0
SizedFile true bytes read = read ≡ Err too_big
SizedFile false bytes read = ShortFile bytes read

-- the definitions of a file, or its first fault
abbrev pub FileAt : List ℕ → Result (List ParmLine) LexFault → Type 0
FileAt bytes read = SizedFile (nat_lt 1048576 (length bytes)) bytes read

-- a file has one reading
abbrev pub FilesAreReadOnce : Type 0
FilesAreReadOnce = (bytes : List ℕ) (a b : Result (List ParmLine) LexFault) → FileAt bytes a → FileAt bytes b → a ≡ b

-- a file has a reading
abbrev pub FilesAreRead : Type 0
FilesAreRead = (bytes : List ℕ) → (read : Result (List ParmLine) LexFault) × FileAt bytes read
