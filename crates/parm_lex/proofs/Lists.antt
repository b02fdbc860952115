use Rattle.std.proofs.Common.{◌≡◌, ℕ, List, [], ◌∷◌, ◌++◌, ◌<◌, ◌≤◌, length, Bool, false, Ok, sym, ap, ◌∙◌, subst, arith}
use Rattle.parm_lex.specs.Chain.{Runs}
use Rattle.parm_lex.specs.Grammar.{Within, list_step}
use Rattle.parm_lex.specs.declared.span.Span.{Span}
use Rattle.parm_lex.specs.declared.span.LinePlace.{LinePlace}
use Rattle.parm_lex.proofs.Chains.{runs_more}

pub record ListSoFar (place : LinePlace) (bytes rest : List ℕ) (items : List Span) : Type 0 where
  pub within : Within place rest
  pub shorter : length rest ≤ length bytes
  pub runs : Runs (λ s r. list_step place s ≡ r) bytes items rest

pub list_kept : (place : LinePlace) (bytes rest after : List ℕ) (items news : List Span) (item : Span) (last : Bool) → ListSoFar place bytes rest items → Ok (item, last, after) ≡ list_step place rest → last ≡ false → length after < length rest → news ≡ items ++ item ∷ [] → ListSoFar place bytes after news
list_kept place bytes rest after items news item last kept step more shorter pushed = record {
  within = let line = kept.within.line in record { line = omega arith; file = kept.within.file; short = kept.within.short };
  shorter = let no_longer = kept.shorter in omega arith;
  runs = subst (λ xs. Runs (λ s r. list_step place s ≡ r) bytes xs after) (sym pushed) (runs_more (λ s r. list_step place s ≡ r) bytes items rest item after kept.runs (sym step ∙ ap (λ b. Ok (item, b, after)) more));
}
