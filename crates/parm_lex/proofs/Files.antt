-- A line that is read, from the reading of its parts.
use Rattle.std.proofs.Common.{◌≡◌, ℕ, List, [], Bool, false, Ok, Err, Result, Option, None, refl, subst}
use Rattle.parm_lex.specs.Bytes.{blanks_off}
use Rattle.parm_lex.specs.Grammar.{GivesBy, LineAt}
use Rattle.parm_lex.specs.Lines.{CutLine, FileRest, Reads, after_line}
use Rattle.parm_lex.specs.declared.fault.LexRefused.{LexRefused}
use Rattle.parm_lex.specs.declared.fault.LexRefused.TheVariants as refused
use Rattle.parm_lex.specs.declared.line.OpenLine.{OpenLine}
use Rattle.parm_lex.specs.declared.line.ParmLine.{ParmLine}
use Rattle.parm_lex.specs.declared.part.ParmPart.{ParmPart}

pub read_ok : {X : Type 0} (view : X → Option ParmLine × Bool × FileRest) (cut : CutLine) (held : Option OpenLine) (text : List ℕ) (parts : List ParmPart) (continued : Bool) (result : Result X LexRefused) → text ≡ blanks_off cut.text → LineAt cut.place text (Ok (parts, ([], continued))) → GivesBy view (λ r. r ≡ after_line cut held (Ok (parts, ([], continued)))) result → GivesBy view (Reads cut held None false) result
read_ok view cut held text parts continued (Ok x) e line h = (Ok (parts, ([], continued)), subst (λ t. LineAt cut.place t (Ok (parts, ([], continued)))) e line, h)
read_ok view cut held text parts continued (Err refused.NoMemory) e line h = tt
read_ok view cut held text parts continued (Err (refused.Fault f)) e line h = (Ok (parts, ([], continued)), subst (λ t. LineAt cut.place t (Ok (parts, ([], continued)))) e line, h)

pub read_err : {X Y : Type 0} (view : X → Option ParmLine × Bool × FileRest) (seen : Y → List ParmPart × (List ℕ × Bool)) (cut : CutLine) (held : Option OpenLine) (text : List ℕ) (e : LexRefused) → text ≡ blanks_off cut.text → GivesBy seen (LineAt cut.place text) (Err e) → GivesBy view (Reads cut held None false) (Err e)
read_err view seen cut held text refused.NoMemory e line = tt
read_err view seen cut held text (refused.Fault f) e line = (Err f, subst (λ t. LineAt cut.place t (Err f)) e line, refl)
