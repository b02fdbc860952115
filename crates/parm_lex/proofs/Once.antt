-- The grammar has one answer.
use Rattle.std.proofs.Common.{◌≡◌, ℕ, List, [], ◌∷◌, Bool, true, false, Ok, Err, Result, Option, Some, None, sym, ap, ◌∙◌, refl}
use Rattle.parm_lex.specs.Grammar.{list_step, ListAt, ValueFrom, Listed, PartFrom, PartStep, LineAt, list_open, word_at, part_of}
use Rattle.parm_lex.specs.declared.part.ParmPart.{ParmPart}
use Rattle.parm_lex.specs.declared.span.Span.{Span}
use Rattle.parm_lex.specs.declared.span.LinePlace.{LinePlace}
use Rattle.parm_lex.specs.declared.fault.LexFault.{LexFault}
use Rattle.parm_lex.proofs.Chains.{chain_once}
use Rattle.parm_lex.specs.Grammar.{GivesBy}
use Rattle.parm_lex.specs.Lines.{CutLine, FileAt, FileRest, FileStep, LineStep, LinesAt, Reads, ShortFile, SizedFile, after_line, cut_at, noted, state}
use Rattle.parm_lex.specs.Bytes.{blanks_off, is_skipped}
use Rattle.parm_lex.specs.declared.fault.LexRefused.{LexRefused}
use Rattle.parm_lex.specs.declared.fault.LexRefused.TheVariants as refused
use Rattle.parm_lex.specs.declared.line.OpenLine.{OpenLine}
use Rattle.parm_lex.specs.declared.line.ParmLine.{ParmLine}
use Rattle.std.proofs.Common.{length, nat_lt}
use Rattle.std.specs.List.{flat_map}
use Rattle.std.specs.Option.{option_to_list}

abbrev Read : Type 0
Read = Result ((List Span × Bool) × List ℕ) LexFault

list_once : (place : LinePlace) (bytes : List ℕ) (a b : Result (List Span × List ℕ) LexFault) → ListAt place bytes a → ListAt place bytes b → a ≡ b
list_once place bytes a b p q = chain_once (λ s r. list_step place s ≡ r) (λ s c d e f. sym e ∙ f) bytes a b p q

-- what a list's answer says of a value
listed_of : Result (List Span × List ℕ) LexFault → Read
listed_of (Ok r) = Ok ((r.0, true), r.1)
listed_of (Err f) = Err f

plain_of : Read → Result (List Span × List ℕ) LexFault
plain_of (Ok v) = Ok (v.0.0, v.1)
plain_of (Err f) = Err f

listed_is : (place : LinePlace) (inside : List ℕ) (a : Read) → Listed place inside a → ListAt place inside (plain_of a) × (a ≡ listed_of (plain_of a))
unfolding listed_of plain_of
listed_is place inside (Ok v) p = (p.0, ap (λ b. let r : Read = Ok ((v.0.0, b), v.1) in r) p.1)
listed_is place inside (Err f) p = (p, refl)

value_once : (place : LinePlace) (bytes : List ℕ) (o : Option (List ℕ)) (a b : Read) → ValueFrom place bytes o a → ValueFrom place bytes o b → a ≡ b
value_once place bytes None a b p q = p ∙ sym q
value_once place bytes (Some inside) a b p q =
    let x = listed_is place inside a p in
    let y = listed_is place inside b q in
    x.1 ∙ ap listed_of (list_once place inside _ _ x.0 y.0) ∙ sym y.1

part_from_once : (place : LinePlace) (w : Result (Span × List ℕ) LexFault) (a b : Result (ParmPart × Bool × (List ℕ × Bool)) LexFault) → PartFrom place w a → PartFrom place w b → a ≡ b
part_from_once place (Err f) a b p q = p ∙ sym q
part_from_once place (Ok w) a b p q =
    p.2 ∙ ap (part_of place w.0) (value_once place w.1 (list_open w.1) p.0 q.0 p.1 q.1) ∙ sym q.2

part_once : (place : LinePlace) (rest : List ℕ) (comma : Bool) (a b : Result (ParmPart × Bool × (List ℕ × Bool)) LexFault) → PartStep place (rest, comma) a → PartStep place (rest, comma) b → a ≡ b
unfolding PartStep
part_once place rest comma a b p q = part_from_once place (word_at place rest) a b p q

-- a line has one reading
pub line_once : (place : LinePlace) (bytes : List ℕ) (a b : Result (List ParmPart × (List ℕ × Bool)) LexFault) → LineAt place bytes a → LineAt place bytes b → a ≡ b
line_once place bytes a b p q = chain_once (PartStep place) (λ s c d e f. part_once place s.0 s.1 c d e f) (bytes, false) a b p q

abbrev Answer : Type 0
Answer = Result (Option ParmLine × Bool × FileRest) LexFault

reads_once : (cut : CutLine) (held : Option OpenLine) (long : Option LexFault) (wide : Bool) (a b : Answer) → Reads cut held long wide a → Reads cut held long wide b → a ≡ b
reads_once cut held (Some f) wide a b p q = p ∙ sym q
reads_once cut held None true a b p q = p ∙ sym q
reads_once cut held None false a b p q = p.2 ∙ ap (after_line cut held) (line_once cut.place (blanks_off cut.text) p.0 q.0 p.1 q.1) ∙ sym q.2

step_once : (cut : CutLine) (held : Option OpenLine) (skipped wide : Bool) (a b : Answer) → LineStep cut held skipped wide a → LineStep cut held skipped wide b → a ≡ b
step_once cut held true false a b p q = p ∙ sym q
step_once cut held true true a b p q = p ∙ sym q
step_once cut held false wide a b p q = reads_once cut held (noted held) wide a b p q

file_step_once : (total : ℕ) (s : FileRest) (a b : Answer) → FileStep total s a → FileStep total s b → a ≡ b
file_step_once total s a b p q =
    let cut = cut_at total s.number s.rest in
    step_once cut s.held (is_skipped (blanks_off cut.text)) (nat_lt 4096 (length cut.text)) a b p q

abbrev Whole : Type 0
Whole = Result (List (Option ParmLine) × FileRest) LexFault

abbrev same_whole : Whole → Whole → Type 0
same_whole a b = a ≡ b

whole_ok : (x y : List (Option ParmLine) × FileRest) → same_whole (Ok x) (Ok y) → x ≡ y
whole_ok x y h = cc

whole_mixed : (x : List (Option ParmLine) × FileRest) (f : LexFault) → same_whole (Ok x) (Err f) → ⊥
whole_mixed x f h = cc

whole_err : (f g : LexFault) → same_whole (Err f) (Err g) → f ≡ g
whole_err f g h = cc

lines_once : (bytes : List ℕ) (a b : Result (List ParmLine) LexFault) → LinesAt bytes a → LinesAt bytes b → a ≡ b
lines_once bytes (Ok a) (Ok b) p q =
    let same = whole_ok _ _ (chain_once (FileStep (length bytes)) (λ s c d e f. file_step_once (length bytes) s c d e f) (state bytes 1 None) _ _ p.2 q.2) in
    ap Ok (p.3 ∙ ap (λ w. flat_map option_to_list w.0) same ∙ sym q.3)
lines_once bytes (Ok a) (Err g) p q =
    absurd (whole_mixed _ _ (chain_once (FileStep (length bytes)) (λ s c d e f. file_step_once (length bytes) s c d e f) (state bytes 1 None) _ _ p.2 q))
lines_once bytes (Err f) (Ok b) p q =
    absurd (whole_mixed _ _ (chain_once (FileStep (length bytes)) (λ s c d e f. file_step_once (length bytes) s c d e f) (state bytes 1 None) _ _ q.2 p))
lines_once bytes (Err f) (Err g) p q =
    ap Err (whole_err f g (chain_once (FileStep (length bytes)) (λ s c d e f. file_step_once (length bytes) s c d e f) (state bytes 1 None) _ _ p q))

short_once : (bytes : List ℕ) (a b : Result (List ParmLine) LexFault) → ShortFile bytes a → ShortFile bytes b → a ≡ b
short_once [] a b p q = p ∙ sym q
short_once (byte ∷ rest) a b p q = lines_once (byte ∷ rest) a b p q

sized_once : (long : Bool) (bytes : List ℕ) (a b : Result (List ParmLine) LexFault) → SizedFile long bytes a → SizedFile long bytes b → a ≡ b
sized_once true bytes a b p q = p ∙ sym q
sized_once false bytes a b p q = short_once bytes a b p q

-- a file has one reading
pub file_once : (bytes : List ℕ) (a b : Result (List ParmLine) LexFault) → FileAt bytes a → FileAt bytes b → a ≡ b
file_once bytes a b p q = sized_once (nat_lt 1048576 (length bytes)) bytes a b p q

-- what a reader gives is the one reading
pub file_only : {X : Type 0} (view : X → List ParmLine) (bytes : List ℕ) (result : Result X LexRefused) (read : Result (List ParmLine) LexFault) → GivesBy view (FileAt bytes) result → FileAt bytes read → GivesBy view (λ given. given ≡ read) result
file_only view bytes (Ok x) read p q = file_once bytes _ _ p q
file_only view bytes (Err refused.NoMemory) read p q = tt
file_only view bytes (Err (refused.Fault f)) read p q = file_once bytes _ _ p q
