-- The loop over the parts of a line.
use Rattle.std.proofs.Common.{◌≡◌, ℕ, List, [], ◌∷◌, ◌++◌, ◌<◌, length, Bool, true, false, Ok, sym, subst, arith}
use Rattle.parm_lex.specs.Chain.{Runs}
use Rattle.parm_lex.specs.Grammar.{Within, PartStep, LineAt}
use Rattle.parm_lex.specs.declared.span.LinePlace.{LinePlace}
use Rattle.parm_lex.specs.declared.part.ParmPart.{ParmPart}
use Rattle.parm_lex.proofs.Chains.{runs_more, chain_ok}

pub record LineSoFar (place : LinePlace) (bytes rest : List ℕ) (comma : Bool) (parts : List ParmPart) : Type 0 where
  pub within : Within place rest
  pub runs : Runs (PartStep place) (bytes, false) parts (rest, comma)

abbrev pub Answers : LinePlace → List ℕ → Bool → ParmPart → Bool → List ℕ → Bool → Type 0
Answers place rest comma part last after continued = PartStep place (rest, comma) (Ok (part, last, (after, continued)))

pub line_kept : (place : LinePlace) (bytes rest after : List ℕ) (comma continued : Bool) (parts news : List ParmPart) (part : ParmPart) (last : Bool) → LineSoFar place bytes rest comma parts → Answers place rest comma part last after continued → last ≡ false → length after < length rest → news ≡ parts ++ part ∷ [] → LineSoFar place bytes after continued news
line_kept place bytes rest after comma continued parts news part last kept step more shorter pushed = record {
  within = let line = kept.within.line in record { line = omega arith; file = kept.within.file; short = kept.within.short };
  runs = subst (λ xs. Runs (PartStep place) (bytes, false) xs (after, continued)) (sym pushed)
      (runs_more (PartStep place) (bytes, false) parts (rest, comma) part (after, continued) kept.runs
      (subst (λ b. Answers place rest comma part b after continued) more step));
}

pub line_done : (place : LinePlace) (bytes rest after : List ℕ) (comma continued : Bool) (parts news : List ParmPart) (part : ParmPart) (last : Bool) → LineSoFar place bytes rest comma parts → Answers place rest comma part last after continued → last ≡ true → (last ≡ true → after ≡ []) → news ≡ parts ++ part ∷ [] → LineAt place bytes (Ok (news, ([], continued)))
line_done place bytes rest after comma continued parts news part last kept step done whole pushed =
    subst (λ xs. LineAt place bytes (Ok (xs, ([], continued)))) (sym pushed)
    (chain_ok (PartStep place) (bytes, false) parts (rest, comma) part ([], continued) kept.runs
    (subst (λ xs. Answers place rest comma part true xs continued) (whole done)
    (subst (λ b. Answers place rest comma part b after continued) done step)))
