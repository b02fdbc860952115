-- The loop over the lines of a file.
use Rattle.std.proofs.Common.{◌≡◌, ℕ, List, [], ◌∷◌, ◌++◌, ◌+◌, ◌-◌, ◌<◌, ◌≤◌, length, Bool, true, false, Ok, Err, Option, None, sym, subst, ap, ◌∙◌, refl, arith}
use Rattle.std.specs.List.{flat_map}
use Rattle.std.specs.Option.{option_to_list}
use Rattle.std.proofs.lemmas.Grind.{flat_map-append}
use Rattle.std.proofs.lemmas.List.{append-nil}
use Rattle.parm_lex.specs.Chain.{Runs}
use Rattle.parm_lex.specs.Lines.{CutLine, CutStep, FileStep, LinesAt, cut_at, state}
use Rattle.parm_lex.specs.declared.fault.LexFault.{LexFault}
use Rattle.parm_lex.specs.declared.line.OpenLine.{OpenLine}
use Rattle.parm_lex.specs.declared.line.ParmLine.{ParmLine}
use Rattle.parm_lex.proofs.Chains.{runs_more, chain_ok}

pub record FileSoFar (bytes rest : List ℕ) (number : ℕ) (held : Option OpenLine) (lines : List ParmLine) : Type 0 where
  pub read : List (Option ParmLine)
  pub runs : Runs (FileStep (length bytes)) (state bytes 1 None) read (state rest number held)
  pub kept : lines ≡ flat_map option_to_list read
  pub some : 0 < length rest
  pub within : length rest ≤ length bytes
  pub counted : number + length rest ≤ length bytes + 1

cut_number : (total number : ℕ) (rest : List ℕ) → (cut_at total number rest).place.number ≡ number
unfolding cut_at
cut_number total number rest = refl

-- a step from a line that was cut here
step_here : (total number : ℕ) (rest : List ℕ) (cut : CutLine) (held next : Option OpenLine) (line : Option ParmLine) (last : Bool) → cut ≡ cut_at total number rest → CutStep cut held (Ok (line, last, state cut.after (cut.place.number + 1) next)) → FileStep total (state rest number held) (Ok (line, last, state cut.after (number + 1) next))
step_here total number rest cut held next line last e h =
    let same : cut.place.number ≡ number = ap (λ v. v.place.number) e ∙ cut_number total number rest in
    subst (λ v. CutStep v held (Ok (line, last, state cut.after (number + 1) next))) e
    (subst (λ n. CutStep cut held (Ok (line, last, state cut.after (n + 1) next))) same h)

one_more : (read : List (Option ParmLine)) (line : Option ParmLine) (lines news : List ParmLine) → lines ≡ flat_map option_to_list read → news ≡ lines ++ option_to_list line → news ≡ flat_map option_to_list (read ++ line ∷ [])
one_more read line lines news kept pushed =
    pushed ∙ ap (λ ls. ls ++ option_to_list line) kept ∙
    ap (λ ls. flat_map option_to_list read ++ ls) (sym (append-nil (option_to_list line))) ∙
    sym (flat_map-append option_to_list read (line ∷ []))

pub file_kept : (bytes rest : List ℕ) (number : ℕ) (held next : Option OpenLine) (lines news : List ParmLine) (line : Option ParmLine) (last : Bool) (cut : CutLine) → FileSoFar bytes rest number held lines → cut ≡ cut_at (length bytes) number rest → length cut.after ≤ length rest - 1 → CutStep cut held (Ok (line, last, state cut.after (cut.place.number + 1) next)) → last ≡ false → (last ≡ false → 0 < length cut.after) → news ≡ lines ++ option_to_list line → FileSoFar bytes cut.after (number + 1) next news
file_kept bytes rest number held next lines news line last cut so_far e shorter step more left pushed =
    let here = step_here (length bytes) number rest cut held next line last e step in
    let some = so_far.some in
    let within = so_far.within in
    let counted = so_far.counted in
    record {
      read = so_far.read ++ line ∷ [];
      runs = runs_more (FileStep (length bytes)) (state bytes 1 None) so_far.read (state rest number held) line (state cut.after (number + 1) next) so_far.runs
          (subst (λ b. FileStep (length bytes) (state rest number held) (Ok (line, b, state cut.after (number + 1) next))) more here);
      kept = one_more so_far.read line lines news so_far.kept pushed;
      some = left more;
      within = omega arith;
      counted = omega arith;
    }

pub file_done : (bytes rest : List ℕ) (number : ℕ) (held next : Option OpenLine) (lines news : List ParmLine) (line : Option ParmLine) (last : Bool) (cut : CutLine) → FileSoFar bytes rest number held lines → cut ≡ cut_at (length bytes) number rest → CutStep cut held (Ok (line, last, state cut.after (cut.place.number + 1) next)) → last ≡ true → news ≡ lines ++ option_to_list line → LinesAt bytes (Ok news)
file_done bytes rest number held next lines news line last cut so_far e step done pushed =
    let here = step_here (length bytes) number rest cut held next line last e step in (
      so_far.read ++ line ∷ [],
      state cut.after (number + 1) next,
      chain_ok (FileStep (length bytes)) (state bytes 1 None) so_far.read (state rest number held) line (state cut.after (number + 1) next) so_far.runs
          (subst (λ b. FileStep (length bytes) (state rest number held) (Ok (line, b, state cut.after (number + 1) next))) done here),
      one_more so_far.read line lines news so_far.kept pushed,
    )

pub file_fault : (bytes rest : List ℕ) (number : ℕ) (held : Option OpenLine) (lines : List ParmLine) (cut : CutLine) (f : LexFault) → FileSoFar bytes rest number held lines → cut ≡ cut_at (length bytes) number rest → CutStep cut held (Err f) → LinesAt bytes (Err f)
file_fault bytes rest number held lines cut f so_far e step =
    (so_far.read, state rest number held, so_far.runs, subst (λ v. CutStep v held (Err f)) e step)
