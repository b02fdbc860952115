-- What is read of a file are pieces of it, in order.
use Rattle.std.proofs.Common.{◌≡◌, ℕ, List, [], ◌∷◌, ◌++◌, ◌+◌, ◌-◌, ◌<◌, ◌≤◌, Bool, true, false, cond, All, AllPairs, Option, Some, None, Result, Ok, Err, IfOk, nat_lt, nat_eq, length, take, drop, slice_index, refl, sym, subst, ap, ◌∙◌, arith, append_assoc, length-append}
use Rattle.std.specs.Global.{Vec}
use Rattle.std.specs.List.{flat_map}
use Rattle.std.specs.Option.{option_to_list}
use Rattle.std.proofs.lemmas.List.{take-append-drop, append-nil}
use Rattle.std.proofs.lemmas.List.Elements.{All-append, All-cons}
use Rattle.std.proofs.lemmas.List.Kept.{AllPairs-cons}
use Rattle.parm_lex.specs.Bytes.{blanks_off, cr_off, is_skipped, line_len}
use Rattle.parm_lex.specs.Chain.{Runs}
use Rattle.parm_lex.specs.Grammar.{GivesBy, LineAt}
use Rattle.parm_lex.specs.Lines.{CutLine, FileAt, FileRest, FileStep, LineStep, LinesAt, Reads, ShortFile, SizedFile, after_line, cut_at, first_line, first_noted, go_on_from, joined, noted, open_end, parts_before, skip_long, state, too_long}
use Rattle.parm_lex.specs.Spelling.{LiesAt}
use Rattle.parm_lex.specs.Spans.{AreLinesOf, IsLineOf, IsPartOf}
use Rattle.parm_lex.specs.declared.fault.LexFault.{LexFault}
use Rattle.parm_lex.specs.declared.fault.LexRefused.{LexRefused}
use Rattle.parm_lex.specs.declared.line.OpenLine.{OpenLine}
use Rattle.parm_lex.specs.declared.line.ParmLine.{ParmLine}
use Rattle.parm_lex.specs.declared.part.ParmPart.{ParmPart}
use Rattle.parm_lex.proofs.Lying.{lies_blanks}
use Rattle.parm_lex.proofs.Pieces.{line_pieces}

-- the rest of a file is its end
record IsEnd (bytes rest : List ℕ) : Type 0 where
  front : List ℕ
  whole : bytes ≡ front ++ rest

-- what a definition that goes on has, before a line of this number
abbrev HeldIsPiece : List ℕ → ℕ → Option OpenLine → Type 0
HeldIsPiece bytes number None = Unit {0}
HeldIsPiece bytes number (Some held) = All (IsPartOf bytes) held.parts × (0 < length held.parts) × (held.line < number)

record FileInv (bytes : List ℕ) (s : FileRest) : Type 0 where
  end : IsEnd bytes s.rest
  held : HeldIsPiece bytes s.number s.held

-- the least line that a definition from here on may have
abbrev low : FileRest → ℕ
low s = first_line s.number s.held

-- a definition, if there is one, from line a on, and before line b
abbrev LineIsPiece : List ℕ → ℕ → Option ParmLine → ℕ → Type 0
LineIsPiece bytes a None b = a ≤ b
LineIsPiece bytes a (Some line) b = (a ≤ line.line) × IsLineOf bytes line × (line.line < b)

abbrev Answer : Type 0
Answer = Result (Option ParmLine × Bool × FileRest) LexFault

abbrev StepIsPiece : List ℕ → ℕ → Answer → Type 0
StepIsPiece bytes a (Err f) = Unit {0}
StepIsPiece bytes a (Ok r) = FileInv bytes r.2 × LineIsPiece bytes a r.0 (low r.2)

held_low : (bytes : List ℕ) (number : ℕ) (held : Option OpenLine) → HeldIsPiece bytes number held → first_line number held ≤ number
held_low bytes number None h = omega arith
held_low bytes number (Some held) h = let before = h.2 in omega arith

held_later : (bytes : List ℕ) (number : ℕ) (held : Option OpenLine) → HeldIsPiece bytes number held → HeldIsPiece bytes (number + 1) held
held_later bytes number None h = tt
held_later bytes number (Some held) h = (h.0, h.1, let before = h.2 in omega arith)

low_later : (bytes : List ℕ) (number : ℕ) (held : Option OpenLine) → HeldIsPiece bytes number held → first_line number held ≤ first_line (number + 1) held
low_later bytes number None h = omega arith
low_later bytes number (Some held) h = omega arith

go_from : (bytes : List ℕ) (number a : ℕ) (after : List ℕ) (held : Option OpenLine) (line : Option ParmLine) → IsEnd bytes after → HeldIsPiece bytes (number + 1) held → LineIsPiece bytes a line (first_line (number + 1) held) → StepIsPiece bytes a (go_on_from number after held line)
go_from bytes number a [] (Some held) line e h k = tt
go_from bytes number a [] None line e h k = (record { end = e; held = tt }, k)
go_from bytes number a (byte ∷ rest) held line e h k = (record { end = e; held = h }, k)

joined_piece : (bytes : List ℕ) (cut : CutLine) (line : ℕ) (parts : List ParmPart) (continued : Bool) → IsEnd bytes cut.after → All (IsPartOf bytes) parts → 0 < length parts → line ≤ cut.place.number → StepIsPiece bytes line (joined cut line parts continued)
joined_piece bytes cut line parts true e all some before =
    go_from bytes cut.place.number line cut.after (Some (record { line = line; parts = parts; end = open_end cut.place; long = None })) None e (all, some, omega arith) (omega arith)
joined_piece bytes cut line parts false e all some before =
    go_from bytes cut.place.number line cut.after None (Some (record { line = line; parts = parts })) e tt (omega arith, record { parts = all; some = some }, omega arith)

both_parts : (bytes : List ℕ) (number : ℕ) (held : Option OpenLine) (parts : List ParmPart) → HeldIsPiece bytes number held → All (IsPartOf bytes) parts → All (IsPartOf bytes) (parts_before held ++ parts)
both_parts bytes number None parts h all = all
both_parts bytes number (Some held) parts h all = All-append (IsPartOf bytes) held.parts parts h.0 all

some_parts : (a b : List ParmPart) → 0 < length b → 0 < length (a ++ b)
some_parts a b h = simp length-append (omega arith)

read_piece : (bytes : List ℕ) (cut : CutLine) (held : Option OpenLine) (read : Result (List ParmPart × (List ℕ × Bool)) LexFault) → IsEnd bytes cut.after → LiesAt bytes cut.place (blanks_off cut.text) → HeldIsPiece bytes cut.place.number held → LineAt cut.place (blanks_off cut.text) read → StepIsPiece bytes (first_line cut.place.number held) (after_line cut held read)
read_piece bytes cut held (Err f) e lies h line = tt
read_piece bytes cut held (Ok read) e lies h line =
    let pieces = line_pieces bytes cut.place (blanks_off cut.text) read lies line in
    joined_piece bytes cut (first_line cut.place.number held) (parts_before held ++ read.0) read.1.1 e
    (both_parts bytes cut.place.number held read.0 h pieces.0) (some_parts (parts_before held) read.0 pieces.1) (held_low bytes cut.place.number held h)

reads_piece : (bytes : List ℕ) (cut : CutLine) (held : Option OpenLine) (long : Option LexFault) (wide : Bool) (a : Answer) → IsEnd bytes cut.after → LiesAt bytes cut.place (blanks_off cut.text) → HeldIsPiece bytes cut.place.number held → Reads cut held long wide a → StepIsPiece bytes (first_line cut.place.number held) a
reads_piece bytes cut held (Some f) wide a e lies h reads = subst (StepIsPiece bytes (first_line cut.place.number held)) (sym reads) tt
reads_piece bytes cut held None true a e lies h reads = subst (StepIsPiece bytes (first_line cut.place.number held)) (sym reads) tt
reads_piece bytes cut held None false a e lies h reads = subst (StepIsPiece bytes (first_line cut.place.number held)) (sym reads.2) (read_piece bytes cut held reads.0 e lies h reads.1)

skip_piece : (bytes : List ℕ) (cut : CutLine) (held : Option OpenLine) → IsEnd bytes cut.after → HeldIsPiece bytes cut.place.number held → StepIsPiece bytes (first_line cut.place.number held) (skip_long cut held)
skip_piece bytes cut None e h = tt
skip_piece bytes cut (Some held) e h =
    go_from bytes cut.place.number held.line cut.after (Some (record held { long = first_noted (too_long cut.place) held.long })) None e (h.0, h.1, let before = h.2 in omega arith) (omega arith)

step_piece : (bytes : List ℕ) (cut : CutLine) (held : Option OpenLine) (skipped wide : Bool) (a : Answer) → IsEnd bytes cut.after → LiesAt bytes cut.place (blanks_off cut.text) → HeldIsPiece bytes cut.place.number held → LineStep cut held skipped wide a → StepIsPiece bytes (first_line cut.place.number held) a
step_piece bytes cut held true false a e lies h step =
    subst (StepIsPiece bytes (first_line cut.place.number held)) (sym step)
    (go_from bytes cut.place.number (first_line cut.place.number held) cut.after held None e (held_later bytes cut.place.number held h) (low_later bytes cut.place.number held h))
step_piece bytes cut held true true a e lies h step = subst (StepIsPiece bytes (first_line cut.place.number held)) (sym step) (skip_piece bytes cut held e h)
step_piece bytes cut held false wide a e lies h step = reads_piece bytes cut held (noted held) wide a e lies h step

-- ---- where a line that was cut lies

end_drop : (bytes rest : List ℕ) (n : ℕ) → IsEnd bytes rest → IsEnd bytes (drop n rest)
end_drop bytes rest n e = record {
  front = e.front ++ take n rest;
  whole = e.whole ∙ ap (λ r. e.front ++ r) (sym (take-append-drop n rest)) ∙ sym (append_assoc e.front (take n rest) (drop n rest));
}

record Begins (line text : List ℕ) : Type 0 where
  back : List ℕ
  whole : line ≡ text ++ back

begins_either : (b : Bool) (line text : List ℕ) → Begins line text → Begins line (cond b text line)
begins_either true line text h = h
begins_either false line text h = record { back = []; whole = sym (append-nil line) }

begins_take : (line : List ℕ) (n : ℕ) → Begins line (take n line)
begins_take line n = record { back = drop n line; whole = sym (take-append-drop n line) }

begins_cr : (line : List ℕ) → Begins line (cr_off line)
unfolding cr_off
begins_cr line = begins_either (nat_eq (slice_index line (length line - 1)) 13) line (take (length line - 1) line) (begins_take line (length line - 1))

begins_more : (a b c : List ℕ) → Begins a b → Begins b c → Begins a c
begins_more a b c h k = record { back = k.back ++ h.back; whole = h.whole ∙ ap (λ l. l ++ h.back) k.whole ∙ append_assoc c k.back h.back }

cut_lies : (bytes rest text : List ℕ) (number : ℕ) → IsEnd bytes rest → Begins rest text → LiesAt bytes (record { number = number; width = length text; end = length bytes - length rest + length text }) text
cut_lies bytes rest text number e h =
    let size : length bytes ≡ length e.front + length rest = ap length e.whole ∙ length-append e.front rest in
    record {
      front = e.front;
      back = h.back;
      whole = e.whole ∙ ap (λ r. e.front ++ r) h.whole;
      ends = omega arith;
    }

cut_text_lies : (bytes rest : List ℕ) (number : ℕ) → IsEnd bytes rest → LiesAt bytes (cut_at (length bytes) number rest).place (cut_at (length bytes) number rest).text
unfolding cut_at
cut_text_lies bytes rest number e =
    cut_lies bytes rest (cr_off (take (line_len rest) rest)) number e (begins_more rest (take (line_len rest) rest) (cr_off (take (line_len rest) rest)) (begins_take rest (line_len rest)) (begins_cr (take (line_len rest) rest)))

cut_after_ends : (bytes rest : List ℕ) (number : ℕ) → IsEnd bytes rest → IsEnd bytes (cut_at (length bytes) number rest).after
unfolding cut_at
cut_after_ends bytes rest number e = end_drop bytes rest (line_len rest + 1) e

cut_number : (total number : ℕ) (rest : List ℕ) → (cut_at total number rest).place.number ≡ number
unfolding cut_at
cut_number total number rest = refl

file_step_piece : (bytes : List ℕ) (s : FileRest) (a : Answer) → FileInv bytes s → FileStep (length bytes) s a → StepIsPiece bytes (low s) a
file_step_piece bytes s a inv step =
    let cut = cut_at (length bytes) s.number s.rest in
    let same : cut.place.number ≡ s.number = cut_number (length bytes) s.number s.rest in
    subst (λ n. StepIsPiece bytes (first_line n s.held) a) same
    (step_piece bytes cut s.held (is_skipped (blanks_off cut.text)) (nat_lt 4096 (length cut.text)) a (cut_after_ends bytes s.rest s.number inv.end)
    (lies_blanks bytes cut.place cut.text (cut_text_lies bytes s.rest s.number inv.end))
    (subst (λ n. HeldIsPiece bytes n s.held) (sym same) inv.held) step)

-- ---- the lines of a chain

abbrev LinesFrom : List ℕ → ℕ → List ParmLine → Type 0
LinesFrom bytes least [] = Unit {0}
LinesFrom bytes least (line ∷ lines) = (least ≤ line.line) × IsLineOf bytes line × LinesFrom bytes (line.line + 1) lines

lines_earlier : (bytes : List ℕ) (a b : ℕ) (lines : List ParmLine) → a ≤ b → LinesFrom bytes b lines → LinesFrom bytes a lines
lines_earlier bytes a b [] h k = tt
lines_earlier bytes a b (line ∷ lines) h k = (let least = k.0 in omega arith, k.1, k.2)

one_line : (bytes : List ℕ) (a b : ℕ) (line : Option ParmLine) (lines : List ParmLine) → LineIsPiece bytes a line b → LinesFrom bytes b lines → LinesFrom bytes a (option_to_list line ++ lines)
one_line bytes a b None lines h k = lines_earlier bytes a b lines h k
one_line bytes a b (Some line) lines h k = (h.0, h.1, lines_earlier bytes (line.line + 1) b lines (let before = h.2 in omega arith) k)

chain_lines : (bytes : List ℕ) (front : List (Option ParmLine)) (line : Option ParmLine) (s u end : FileRest) → FileInv bytes s → Runs (FileStep (length bytes)) s front u → FileStep (length bytes) u (Ok (line, true, end)) → LinesFrom bytes (low s) (flat_map option_to_list (front ++ line ∷ []))
chain_lines bytes [] line s u end inv runs step =
    let here = subst (λ v. FileStep (length bytes) v (Ok (line, true, end))) (sym runs) step in
    one_line bytes (low s) (low end) line [] (file_step_piece bytes s (Ok (line, true, end)) inv here).1 tt
chain_lines bytes (first ∷ front) line s u end inv runs step =
    let here = file_step_piece bytes s (Ok (first, false, runs.0)) inv runs.1 in
    one_line bytes (low s) (low runs.0) first (flat_map option_to_list (front ++ line ∷ [])) here.1 (chain_lines bytes front line runs.0 u end here.0 runs.2 step)

all_lines : (bytes : List ℕ) (a : ℕ) (lines : List ParmLine) → LinesFrom bytes a lines → All (IsLineOf bytes) lines
all_lines bytes a [] h = λ k d less. absurd (omega arith)
all_lines bytes a (line ∷ lines) h = All-cons (IsLineOf bytes) line lines h.1 (all_lines bytes (line.line + 1) lines h.2)

all_above : (bytes : List ℕ) (a : ℕ) (lines : List ParmLine) → LinesFrom bytes (a + 1) lines → All (λ line. a < line.line) lines
all_above bytes a [] h = λ k d less. absurd (omega arith)
all_above bytes a (line ∷ lines) h =
    let first : a < line.line = let least = h.0 in omega arith in
    All-cons (λ later. a < later.line) line lines first (all_above bytes a lines (lines_earlier bytes (a + 1) (line.line + 1) lines (omega arith) h.2))

lines_rise : (bytes : List ℕ) (a : ℕ) (lines : List ParmLine) → LinesFrom bytes a lines → AllPairs (λ x y. x.line < y.line) lines
lines_rise bytes a [] h = λ i j d before within. absurd (omega arith)
lines_rise bytes a (line ∷ lines) h =
    AllPairs-cons (λ (x : ParmLine) (y : ParmLine). x.line < y.line) line lines (all_above bytes line.line lines h.2) (lines_rise bytes (line.line + 1) lines h.2)

lines_piece : (bytes : List ℕ) (lines : List ParmLine) → LinesFrom bytes 1 lines → AreLinesOf bytes lines
lines_piece bytes lines h = record { pieces = all_lines bytes 1 lines h; rise = lines_rise bytes 1 lines h }

whole_piece : (bytes : List ℕ) (lines : List ParmLine) → LinesAt bytes (Ok lines) → AreLinesOf bytes lines
whole_piece bytes lines h =
    let chain = h.2 in
    let inv : FileInv bytes (state bytes 1 None) = record { end = record { front = []; whole = refl }; held = tt } in
    let read = chain_lines bytes chain.0 chain.1 (state bytes 1 None) chain.2 h.1 inv chain.3 chain.4 in
    let same : lines ≡ flat_map option_to_list (chain.0 ++ chain.1 ∷ []) = h.3 ∙ ap (flat_map option_to_list) chain.5 in
    lines_piece bytes lines (subst (LinesFrom bytes 1) (sym same) read)

ok_same : {X F : Type 0} (x y : X) → (let a : Result X F = Ok x in let b : Result X F = Ok y in a ≡ b) → x ≡ y
ok_same x y h = cc

short_piece : (bytes : List ℕ) (lines : List ParmLine) → ShortFile bytes (Ok lines) → AreLinesOf bytes lines
short_piece [] lines h = subst (AreLinesOf []) (sym (ok_same lines [] h)) (lines_piece [] [] tt)
short_piece (byte ∷ rest) lines h = whole_piece (byte ∷ rest) lines h

sized_piece : (long : Bool) (bytes : List ℕ) (lines : List ParmLine) → SizedFile long bytes (Ok lines) → AreLinesOf bytes lines
sized_piece true bytes lines h = absurd (cc)
sized_piece false bytes lines h = short_piece bytes lines h

pub file_pieces : (bytes : List ℕ) (result : Result (Vec ParmLine) LexRefused) → GivesBy (λ lines. lines.items) (FileAt bytes) result → IfOk result (λ lines. AreLinesOf bytes lines.items)
file_pieces bytes (Ok lines) h = sized_piece (nat_lt 1048576 (length bytes)) bytes lines.items h
file_pieces bytes (Err f) h = tt
