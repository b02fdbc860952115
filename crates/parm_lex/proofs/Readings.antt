-- The grammar has an answer for every file.
use Rattle.std.proofs.Common.{◌≡◌, ℕ, zero, suc, List, [], ◌∷◌, ◌++◌, ◌+◌, ◌-◌, ◌<◌, ◌≤◌, Bool, true, false, cond, Option, Some, None, Result, Ok, Err, nat_eq, nat_lt, length, drop, refl, sym, subst, arith, length-drop}
use Rattle.std.specs.List.{flat_map}
use Rattle.std.specs.Option.{option_to_list}
use Rattle.parm_lex.specs.Bytes.{blanks_off, is_blank, is_skipped, line_len, word_len}
use Rattle.parm_lex.specs.Chain.{Chain}
use Rattle.parm_lex.specs.Grammar.{LineAt, ListAt, Listed, PartFrom, PartStep, ValueFrom, comma_after, equals_at, fault_at, first_of, item_at, list_open, list_step, part_after, part_of, single, span_at, unless_bad, word_at}
use Rattle.parm_lex.specs.Lines.{CutLine, FileAt, FileRest, FileStep, LineStep, LinesAt, Reads, ShortFile, SizedFile, after_line, cut_at, first_line, go_on, go_on_from, joined, noted, parts_before, skip_long, state, too_big, too_long}
use Rattle.parm_lex.specs.declared.fault.LexFault.{LexFault}
use Rattle.parm_lex.specs.declared.fault.LexWhy.TheVariants.{AfterValue, EmptyPart, MissingEquals}
use Rattle.parm_lex.specs.declared.line.OpenLine.{OpenLine}
use Rattle.parm_lex.specs.declared.line.ParmLine.{ParmLine}
use Rattle.parm_lex.specs.declared.part.ParmPart.{ParmPart}
use Rattle.parm_lex.specs.declared.span.LinePlace.{LinePlace}
use Rattle.parm_lex.specs.declared.span.Span.{Span}
use Rattle.parm_lex.proofs.Counts.{ItemNoLonger, StepShorter, blanks_dropped, dropped, item_no_longer, runs_count, step_shorter}

-- a step has an answer from every state
abbrev HasSome : {S X F : Type 0} → (S → Result (X × Bool × S) F → Type 0) → Type 0
HasSome {S} {X} {F} step = (s : S) → (a : Result (X × Bool × S) F) × step s a

after_one : {S X F : Type 0} (step : S → Result (X × Bool × S) F → Type 0) (s : S) (x : X) (u : S) (r : Result (List X × S) F) → step s (Ok (x, false, u)) → Chain step u r → (q : Result (List X × S) F) × Chain step s q
after_one step s x u (Ok r) h chain = (Ok (x ∷ (chain.0 ++ chain.1 ∷ []), r.1), (x ∷ chain.0, chain.1, chain.2, (u, h, chain.3), chain.4, refl))
after_one step s x u (Err f) h chain = (Err f, (x ∷ chain.0, chain.1, (u, h, chain.2), chain.3))

last_or_more : {S X F : Type 0} (step : S → Result (X × Bool × S) F → Type 0) (s : S) (x : X) (last : Bool) (u : S) → step s (Ok (x, last, u)) → ((x : X) (u : S) → step s (Ok (x, false, u)) → (q : Result (List X × S) F) × Chain step u q) → (q : Result (List X × S) F) × Chain step s q
last_or_more step s x true u h more = (Ok (x ∷ [], u), ([], x, s, refl, h, refl))
last_or_more step s x false u h more = let rest = more x u h in after_one step s x u rest.0 h rest.1

chain_from : {S X F : Type 0} (step : S → Result (X × Bool × S) F → Type 0) (s : S) (a : Result (X × Bool × S) F) → step s a → ((x : X) (u : S) → step s (Ok (x, false, u)) → (q : Result (List X × S) F) × Chain step u q) → (q : Result (List X × S) F) × Chain step s q
chain_from step s (Err f) h more = (Err f, ([], s, refl, h))
chain_from step s (Ok r) h more = last_or_more step s r.0 r.1 r.2 h more

-- where one item more makes the state smaller, a chain has an answer
chain_some : {S X F : Type 0} (step : S → Result (X × Bool × S) F → Type 0) (size : S → ℕ) → HasSome step → ((s : S) (x : X) (u : S) → step s (Ok (x, false, u)) → size u < size s) → (n : ℕ) (s : S) → size s < n → (q : Result (List X × S) F) × Chain step s q
chain_some step size some less zero s h = absurd (omega (arith, h))
chain_some step size some less (suc n) s h =
    chain_from step s (some s).0 (some s).1 (λ x u k. chain_some step size some less n u (let smaller = less s x u k in omega (arith, h, smaller)))

abbrev Read : Type 0
Read = Result ((List Span × Bool) × List ℕ) LexFault

abbrev PartRead : Type 0
PartRead = Result (ParmPart × Bool × (List ℕ × Bool)) LexFault

list_some : (place : LinePlace) (bytes : List ℕ) → (q : Result (List Span × List ℕ) LexFault) × ListAt place bytes q
list_some place bytes =
    chain_some (λ s a. list_step place s ≡ a) (λ s. length s) (λ s. (list_step place s, refl)) (λ s x u e. subst (StepShorter s) e (step_shorter place s)) (length bytes + 1) bytes (omega arith)

listed_some : (place : LinePlace) (inside : List ℕ) (q : Result (List Span × List ℕ) LexFault) → ListAt place inside q → (a : Read) × Listed place inside a
listed_some place inside (Ok r) h = (Ok ((r.0, true), r.1), (h, refl))
listed_some place inside (Err f) h = (Err f, h)

value_some : (place : LinePlace) (bytes : List ℕ) (o : Option (List ℕ)) → (a : Read) × ValueFrom place bytes o a
value_some place bytes None = (single (item_at place bytes), refl)
value_some place bytes (Some inside) = let list = list_some place inside in listed_some place inside list.0 list.1

from_some : (place : LinePlace) (word : Result (Span × List ℕ) LexFault) → (a : PartRead) × PartFrom place word a
from_some place (Err f) = (Err f, refl)
from_some place (Ok word) = let value = value_some place word.1 (list_open word.1) in (part_of place word.0 value.0, (value.0, value.1, refl))

part_some : (place : LinePlace) (s : List ℕ × Bool) → (a : PartRead) × PartStep place s a
unfolding PartStep
part_some place s = from_some place (word_at place s.0)

-- a value leaves no more than there was
abbrev ReadNoLonger : List ℕ → Read → Type 0
ReadNoLonger bytes (Err f) = Unit {0}
ReadNoLonger bytes (Ok v) = length v.1 ≤ length bytes

single_no_longer : (bytes : List ℕ) (item : Result (Span × List ℕ) LexFault) → ItemNoLonger bytes item → ReadNoLonger bytes (single item)
single_no_longer bytes (Err f) h = tt
single_no_longer bytes (Ok item) h = h

list_no_longer : (place : LinePlace) (inside : List ℕ) (r : List Span × List ℕ) → ListAt place inside (Ok r) → length r.1 ≤ length inside
list_no_longer place inside r chain =
    let front : length chain.0 + length chain.2 ≤ length inside = runs_count (λ s a. list_step place s ≡ a) (λ s. length s) (λ s x last t e. subst (StepShorter s) e (step_shorter place s)) inside chain.0 chain.2 chain.3 in
    let last : length r.1 < length chain.2 = subst (StepShorter chain.2) chain.4 (step_shorter place chain.2) in
    omega arith

open_within : (bytes : List ℕ) (inside : List ℕ) → list_open bytes ≡ Some inside → length inside ≤ length bytes
open_within [] inside h = absurd (cc)
open_within (byte ∷ rest) inside h = opened (nat_eq byte 40) h
  where
    opened : (b : Bool) → cond b (Some (blanks_off rest)) None ≡ Some inside → length inside ≤ length (byte ∷ rest)
    opened true h = let same : blanks_off rest ≡ inside = cc in let gone = blanks_dropped rest in subst (λ i. length i ≤ length (byte ∷ rest)) same (omega arith)
    opened false h = absurd (cc)

listed_no_longer : (place : LinePlace) (inside : List ℕ) (a : Read) → Listed place inside a → ReadNoLonger inside a
listed_no_longer place inside (Err f) h = tt
listed_no_longer place inside (Ok v) h = list_no_longer place inside (v.0.0, v.1) h.0

read_within : (a b : List ℕ) (r : Read) → length a ≤ length b → ReadNoLonger a r → ReadNoLonger b r
read_within a b (Err f) h k = tt
read_within a b (Ok v) h k = omega arith

value_no_longer : (place : LinePlace) (bytes : List ℕ) (o : Option (List ℕ)) (a : Read) → list_open bytes ≡ o → ValueFrom place bytes o a → ReadNoLonger bytes a
value_no_longer place bytes None a is h = subst (ReadNoLonger bytes) (sym h) (single_no_longer bytes (item_at place bytes) (item_no_longer place bytes))
value_no_longer place bytes (Some inside) a is h = read_within inside bytes a (open_within bytes inside is) (listed_no_longer place inside a h)

-- a part that isn't the last leaves no more than there was
abbrev PartNoLonger : List ℕ → PartRead → Type 0
PartNoLonger bytes (Err f) = Unit {0}
PartNoLonger bytes (Ok a) = length a.2.0 ≤ length bytes

part_either : (bytes : List ℕ) (b : Bool) (x y : PartRead) → PartNoLonger bytes x → PartNoLonger bytes y → PartNoLonger bytes (cond b x y)
part_either bytes true x y h k = h
part_either bytes false x y h k = k

comma_no_longer : (part : ParmPart) (bytes : List ℕ) → PartNoLonger bytes (Ok (comma_after part bytes))
comma_no_longer part [] = omega arith
comma_no_longer part (byte ∷ rest) = omega arith

part_within : (a b : List ℕ) (r : PartRead) → length a ≤ length b → PartNoLonger a r → PartNoLonger b r
part_within a b (Err f) h k = tt
part_within a b (Ok v) h k = omega arith

after_no_longer : (place : LinePlace) (part : ParmPart) (bytes : List ℕ) → PartNoLonger bytes (part_after place part bytes)
after_no_longer place part [] = omega arith
after_no_longer place part (byte ∷ rest) =
    let gone = blanks_dropped rest in
    part_either (byte ∷ rest) (is_blank byte) (Ok (part, true, ([], false))) (cond (nat_eq byte 44) (Ok (comma_after part (blanks_off rest))) (Err (fault_at place (byte ∷ rest) (unless_bad (Some byte) AfterValue))))
    (omega arith)
    (part_either (byte ∷ rest) (nat_eq byte 44) (Ok (comma_after part (blanks_off rest))) (Err (fault_at place (byte ∷ rest) (unless_bad (Some byte) AfterValue)))
    (part_within (blanks_off rest) (byte ∷ rest) (Ok (comma_after part (blanks_off rest))) (omega arith) (comma_no_longer part (blanks_off rest))) tt)

of_no_longer : (place : LinePlace) (word : Span) (bytes : List ℕ) (v : Read) → ReadNoLonger bytes v → PartNoLonger bytes (part_of place word v)
of_no_longer place word bytes (Err f) h = tt
of_no_longer place word bytes (Ok v) h =
    let part : ParmPart = record { line = place.number; word = word; items = v.0.0; listed = v.0.1 } in
    part_within v.1 bytes (part_after place part v.1) h (after_no_longer place part v.1)

-- a word leaves less than there was
abbrev WordShorter : List ℕ → Result (Span × List ℕ) LexFault → Type 0
WordShorter bytes (Err f) = Unit {0}
WordShorter bytes (Ok r) = length r.1 < length bytes

word_either : (bytes : List ℕ) (b : Bool) (x y : Result (Span × List ℕ) LexFault) → WordShorter bytes x → WordShorter bytes y → WordShorter bytes (cond b x y)
word_either bytes true x y h k = h
word_either bytes false x y h k = k

word_within : (a b : List ℕ) (r : Result (Span × List ℕ) LexFault) → length a ≤ length b → WordShorter a r → WordShorter b r
word_within a b (Err f) h k = tt
word_within a b (Ok r) h k = omega arith

equals_shorter : (place : LinePlace) (word : Span) (bytes : List ℕ) → WordShorter bytes (equals_at place word bytes)
equals_shorter place word [] = tt
equals_shorter place word (byte ∷ rest) =
    word_either (byte ∷ rest) (nat_eq byte 61) (Ok (word, rest)) (Err (fault_at place (byte ∷ rest) (unless_bad (Some byte) MissingEquals))) (omega arith) tt

word_shorter : (place : LinePlace) (bytes : List ℕ) → WordShorter bytes (word_at place bytes)
unfolding word_at
word_shorter place bytes =
    word_either bytes (nat_eq (word_len bytes) 0) (Err (fault_at place bytes (unless_bad (first_of bytes) EmptyPart))) (equals_at place (span_at place bytes (word_len bytes)) (drop (word_len bytes) bytes)) tt
    (word_within (drop (word_len bytes) bytes) bytes (equals_at place (span_at place bytes (word_len bytes)) (drop (word_len bytes) bytes)) (dropped (word_len bytes) bytes)
    (equals_shorter place (span_at place bytes (word_len bytes)) (drop (word_len bytes) bytes)))

abbrev PartShorter : List ℕ → PartRead → Type 0
PartShorter bytes (Err f) = Unit {0}
PartShorter bytes (Ok a) = length a.2.0 < length bytes

less_than : (a b : List ℕ) (r : PartRead) → length a < length b → PartNoLonger a r → PartShorter b r
less_than a b (Err f) h k = tt
less_than a b (Ok v) h k = omega arith

from_shorter : (place : LinePlace) (bytes : List ℕ) (word : Result (Span × List ℕ) LexFault) (a : PartRead) → WordShorter bytes word → PartFrom place word a → PartShorter bytes a
from_shorter place bytes (Err f) a w h = subst (PartShorter bytes) (sym h) tt
from_shorter place bytes (Ok word) a w h =
    subst (PartShorter bytes) (sym h.2) (less_than word.1 bytes (part_of place word.0 h.0) w (of_no_longer place word.0 word.1 h.0 (value_no_longer place word.1 (list_open word.1) h.0 refl h.1)))

part_shorter : (place : LinePlace) (s : List ℕ × Bool) (a : PartRead) → PartStep place s a → PartShorter s.0 a
unfolding PartStep
part_shorter place s a h = from_shorter place s.0 (word_at place s.0) a (word_shorter place s.0) h

line_some : (place : LinePlace) (bytes : List ℕ) → (a : Result (List ParmPart × (List ℕ × Bool)) LexFault) × LineAt place bytes a
line_some place bytes =
    chain_some (PartStep place) (λ s. length s.0) (part_some place) (λ s x u h. part_shorter place s (Ok (x, false, u)) h) (length bytes + 1) (bytes, false) (omega arith)

abbrev Answer : Type 0
Answer = Result (Option ParmLine × Bool × FileRest) LexFault

reads_some : (cut : CutLine) (held : Option OpenLine) (long : Option LexFault) (wide : Bool) → (a : Answer) × Reads cut held long wide a
reads_some cut held (Some f) wide = (Err f, refl)
reads_some cut held None true = (Err (too_long cut.place), refl)
reads_some cut held None false = let line = line_some cut.place (blanks_off cut.text) in (after_line cut held line.0, (line.0, line.1, refl))

step_some : (cut : CutLine) (held : Option OpenLine) (skipped wide : Bool) → (a : Answer) × LineStep cut held skipped wide a
step_some cut held true false = (go_on cut held None, refl)
step_some cut held true true = (skip_long cut held, refl)
step_some cut held false wide = reads_some cut held (noted held) wide

file_step_some : (total : ℕ) (s : FileRest) → (a : Answer) × FileStep total s a
file_step_some total s =
    let cut = cut_at total s.number s.rest in
    step_some cut s.held (is_skipped (blanks_off cut.text)) (nat_lt 4096 (length cut.text))

-- behind a line that isn't the last, what stands behind it is left
abbrev Goes : List ℕ → Answer → Type 0
Goes after (Err f) = Unit {0}
Goes after (Ok a) = a.1 ≡ false → (a.2.rest ≡ after) × (0 < length after)

from_goes : (number : ℕ) (after : List ℕ) (held : Option OpenLine) (line : Option ParmLine) → Goes after (go_on_from number after held line)
from_goes number [] (Some held) line = tt
from_goes number [] None line = λ last. absurd (cc)
from_goes number (byte ∷ rest) held line = λ last. (refl, omega arith)

go_on_goes : (cut : CutLine) (held : Option OpenLine) (line : Option ParmLine) → Goes cut.after (go_on cut held line)
go_on_goes cut held line = from_goes cut.place.number cut.after held line

skip_goes : (cut : CutLine) (held : Option OpenLine) → Goes cut.after (skip_long cut held)
skip_goes cut None = tt
skip_goes cut (Some held) = go_on_goes cut _ None

joined_goes : (cut : CutLine) (line : ℕ) (parts : List ParmPart) (continued : Bool) → Goes cut.after (joined cut line parts continued)
joined_goes cut line parts true = go_on_goes cut _ None
joined_goes cut line parts false = go_on_goes cut None _

line_goes : (cut : CutLine) (held : Option OpenLine) (read : Result (List ParmPart × (List ℕ × Bool)) LexFault) → Goes cut.after (after_line cut held read)
line_goes cut held (Err f) = tt
line_goes cut held (Ok read) = joined_goes cut (first_line cut.place.number held) (parts_before held ++ read.0) read.1.1

reads_goes : (cut : CutLine) (held : Option OpenLine) (long : Option LexFault) (wide : Bool) (a : Answer) → Reads cut held long wide a → Goes cut.after a
reads_goes cut held (Some f) wide a h = subst (Goes cut.after) (sym h) tt
reads_goes cut held None true a h = subst (Goes cut.after) (sym h) tt
reads_goes cut held None false a h = subst (Goes cut.after) (sym h.2) (line_goes cut held h.0)

step_goes : (cut : CutLine) (held : Option OpenLine) (skipped wide : Bool) (a : Answer) → LineStep cut held skipped wide a → Goes cut.after a
step_goes cut held true false a h = subst (Goes cut.after) (sym h) (go_on_goes cut held None)
step_goes cut held true true a h = subst (Goes cut.after) (sym h) (skip_goes cut held)
step_goes cut held false wide a h = reads_goes cut held (noted held) wide a h

cut_after : (total number : ℕ) (rest : List ℕ) → (cut_at total number rest).after ≡ drop (line_len rest + 1) rest
unfolding cut_at
cut_after total number rest = refl

file_step_shorter : (total : ℕ) (s : FileRest) (x : Option ParmLine) (u : FileRest) → FileStep total s (Ok (x, false, u)) → length u.rest < length s.rest
file_step_shorter total s x u h =
    let cut = cut_at total s.number s.rest in
    let goes = step_goes cut s.held (is_skipped (blanks_off cut.text)) (nat_lt 4096 (length cut.text)) (Ok (x, false, u)) h refl in
    let left : length cut.after ≡ length s.rest - (line_len s.rest + 1) = subst (λ a. length a ≡ length s.rest - (line_len s.rest + 1)) (sym (cut_after total s.number s.rest)) (length-drop (line_len s.rest + 1) s.rest) in
    let some : 0 < length cut.after = goes.1 in
    subst (λ r. length r < length s.rest) (sym goes.0) (omega (arith, left, some))

lines_from : (bytes : List ℕ) (q : Result (List (Option ParmLine) × FileRest) LexFault) → Chain (FileStep (length bytes)) (state bytes 1 None) q → (read : Result (List ParmLine) LexFault) × LinesAt bytes read
lines_from bytes (Ok r) chain = (Ok (flat_map option_to_list r.0), (r.0, r.1, chain, refl))
lines_from bytes (Err f) chain = (Err f, chain)

lines_some : (bytes : List ℕ) → (read : Result (List ParmLine) LexFault) × LinesAt bytes read
lines_some bytes =
    let all = chain_some (FileStep (length bytes)) (λ s. length s.rest) (file_step_some (length bytes)) (file_step_shorter (length bytes)) (length bytes + 1) (state bytes 1 None) (omega arith) in
    lines_from bytes all.0 all.1

short_some : (bytes : List ℕ) → (read : Result (List ParmLine) LexFault) × ShortFile bytes read
short_some [] = (Ok [], refl)
short_some (byte ∷ rest) = lines_some (byte ∷ rest)

sized_some : (long : Bool) (bytes : List ℕ) → (read : Result (List ParmLine) LexFault) × SizedFile long bytes read
sized_some true bytes = (Err too_big, refl)
sized_some false bytes = short_some bytes

-- a file has a reading
pub file_some : (bytes : List ℕ) → (read : Result (List ParmLine) LexFault) × FileAt bytes read
file_some bytes = sized_some (nat_lt 1048576 (length bytes)) bytes
