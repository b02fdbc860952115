-- No part is wanted at the end of a line.
use Rattle.std.proofs.Common.{◌≡◌, ℕ, List, [], ◌∷◌, ◌<◌, Bool, true, false, cond, Some, Result, Ok, Err, nat_eq, length, refl, sym, subst, arith}
use Rattle.parm_lex.specs.Bytes.{blanks_off, is_blank}
use Rattle.parm_lex.specs.Chain.{Runs}
use Rattle.parm_lex.specs.Grammar.{PartFrom, PartStep, comma_after, fault_at, part_after, part_of, unless_bad, word_at}
use Rattle.parm_lex.specs.Spelling.{NoPartIsWantedAtAnEnd}
use Rattle.parm_lex.specs.declared.fault.LexFault.{LexFault}
use Rattle.parm_lex.specs.declared.fault.LexWhy.TheVariants.{AfterValue}
use Rattle.parm_lex.specs.declared.part.ParmPart.{ParmPart}
use Rattle.parm_lex.specs.declared.span.LinePlace.{LinePlace}
use Rattle.parm_lex.specs.declared.span.Span.{Span}
use Rattle.parm_lex.proofs.Pieces.{PartAnswer, Value}

-- behind a part that isn't the last something stands
abbrev HasMore : PartAnswer → Type 0
HasMore (Err f) = Unit {0}
HasMore (Ok a) = a.1 ≡ false → 0 < length a.2.0

more_either : (b : Bool) (x y : PartAnswer) → HasMore x → HasMore y → HasMore (cond b x y)
more_either true x y h k = h
more_either false x y h k = k

comma_more : (part : ParmPart) (bytes : List ℕ) → HasMore (Ok (comma_after part bytes))
comma_more part [] = λ last. absurd (cc)
comma_more part (byte ∷ rest) = λ last. omega arith

after_more : (place : LinePlace) (part : ParmPart) (bytes : List ℕ) → HasMore (part_after place part bytes)
after_more place part [] = λ last. absurd (cc)
after_more place part (byte ∷ rest) =
    more_either (is_blank byte) (Ok (part, true, ([], false))) (cond (nat_eq byte 44) (Ok (comma_after part (blanks_off rest))) (Err (fault_at place (byte ∷ rest) (unless_bad (Some byte) AfterValue))))
    (λ last. absurd (cc))
    (more_either (nat_eq byte 44) (Ok (comma_after part (blanks_off rest))) (Err (fault_at place (byte ∷ rest) (unless_bad (Some byte) AfterValue))) (comma_more part (blanks_off rest)) tt)

of_more : (place : LinePlace) (word : Span) (v : Value) → HasMore (part_of place word v)
of_more place word (Err f) = tt
of_more place word (Ok v) = after_more place (record { line = place.number; word = word; items = v.0.0; listed = v.0.1 }) v.1

from_more : (place : LinePlace) (word : Result (Span × List ℕ) LexFault) (a : PartAnswer) → PartFrom place word a → HasMore a
from_more place (Err f) a from = subst HasMore (sym from) tt
from_more place (Ok word) a from = subst HasMore (sym from.2) (of_more place word.0 from.0)

step_more : (place : LinePlace) (state : List ℕ × Bool) (a : PartAnswer) → PartStep place state a → HasMore a
unfolding PartStep
step_more place state a step = from_more place (word_at place state.0) a step

runs_more : (place : LinePlace) (parts : List ParmPart) (s t : List ℕ × Bool) → 0 < length s.0 → Runs (PartStep place) s parts t → 0 < length t.0
runs_more place [] s t some runs = subst (λ p. 0 < length p.0) runs some
runs_more place (part ∷ parts) s t some runs =
    let more : 0 < length runs.0.0 = step_more place s (Ok (part, false, runs.0)) runs.1 refl in
    runs_more place parts runs.0 t more runs.2

pub never_at_an_end : NoPartIsWantedAtAnEnd
never_at_an_end place bytes rest comma parts some runs = runs_more place parts (bytes, false) (rest, comma) some runs
