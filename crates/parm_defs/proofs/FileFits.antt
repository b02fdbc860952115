-- What stands of a file so far fits, line by line.
use Rattle.std.proofs.Common.{◌≡◌, ℕ, ◌≤◌, List, [], ◌∷◌, true, false, Ok, length, map, subst, arith}
use Rattle.std.specs.List.{AllByRecursion}
use Rattle.std.proofs.lemmas.List.{length-map}
use Rattle.std.proofs.lemmas.List.Elements.{recursion_from_All}
use Rattle.parm_lex.specs.Spans.{IsLineOf, IsPartOf, bytes_of}
use Rattle.parm_lex.specs.declared.line.ParmLine.{ParmLine}
use Rattle.parm_lex.specs.declared.part.ParmPart.{ParmPart}
use Rattle.parm_forms.specs.Fits.{DefaultsFit}
use Rattle.parm_forms.specs.Rows.{defaults_of, forms_of}
use Rattle.parm_forms.specs.declared.rows.Kind.{Kind}
use Rattle.parm_forms.specs.declared.rows.Kind.TheVariants.{Fsd, Fwd, General, Hd, Rd, Sd, Wd}
use Rattle.parm_defs.specs.declared.file.SoFar.{SoFar}
use Rattle.parm_defs.specs.Checks.{after_def}
use Rattle.parm_defs.specs.File.{after_kind, after_line, after_lines, fresh, kind_of, start}
use Rattle.parm_defs.specs.Parts.{Part, after_parts, part_of}
use Rattle.parm_defs.proofs.KindsFit.{KindFits, def_fits, def_loops}
use Rattle.parm_defs.proofs.LoopsFit.{LoopsFit}
use Rattle.parm_defs.proofs.Loose.{AreLoose, values_are_loose}
use Rattle.parm_defs.proofs.PartsFit.{FormLaws, IsFew, parts_fit}
use Rattle.parm_defs.proofs.Steps.{bound, ok_same}

pub record FileFits (most : ℕ) (so_far : SoFar) : Type 0 where
  pub general : AreLoose most (forms_of General) so_far.general.values
  pub hd : KindFits most Hd so_far.hd
  pub sd : KindFits most Sd so_far.sd
  pub wd : KindFits most Wd so_far.wd
  pub rd : KindFits most Rd so_far.rd
  pub fsd : KindFits most Fsd so_far.fsd
  pub fwd : KindFits most Fwd so_far.fwd
  pub loops : AllByRecursion LoopsFit so_far.rd.defs

kind_fits : FormLaws → (most : ℕ) (kind : Kind) (so_far next : SoFar) (line : ℕ) (first : Part) (parts : List Part) → 1 ≤ most → AllByRecursion (IsFew most) (first ∷ parts) → FileFits most so_far → after_kind kind so_far line first parts ≡ Ok next → FileFits most next
kind_fits laws most General so_far next line first parts one few fits h =
    let read = bound (after_parts General false so_far.general (first ∷ parts)) (λ given. Ok (record so_far { general = given })) next h in
    subst (FileFits most) (ok_same read.2) (record { general = parts_fit laws most General false so_far.general read.0 (first ∷ parts) few fits.general read.1; hd = fits.hd; sd = fits.sd; wd = fits.wd; rd = fits.rd; fsd = fits.fsd; fwd = fits.fwd; loops = fits.loops })
kind_fits laws most Hd so_far next line first parts one few fits h =
    let read = bound (after_def Hd false so_far.hd line first parts) (λ hd. Ok (record so_far { hd = hd })) next h in
    subst (FileFits most) (ok_same read.2) (record { general = fits.general; hd = def_fits laws most Hd false so_far.hd read.0 line first parts one few.1 fits.hd read.1; sd = fits.sd; wd = fits.wd; rd = fits.rd; fsd = fits.fsd; fwd = fits.fwd; loops = fits.loops })
kind_fits laws most Sd so_far next line first parts one few fits h =
    let read = bound (after_def Sd so_far.files so_far.sd line first parts) (λ sd. Ok (record so_far { sd = sd; blocks = true })) next h in
    subst (FileFits most) (ok_same read.2) (record { general = fits.general; hd = fits.hd; sd = def_fits laws most Sd so_far.files so_far.sd read.0 line first parts one few.1 fits.sd read.1; wd = fits.wd; rd = fits.rd; fsd = fits.fsd; fwd = fits.fwd; loops = fits.loops })
kind_fits laws most Wd so_far next line first parts one few fits h =
    let read = bound (after_def Wd so_far.files so_far.wd line first parts) (λ wd. Ok (record so_far { wd = wd; blocks = true })) next h in
    subst (FileFits most) (ok_same read.2) (record { general = fits.general; hd = fits.hd; sd = fits.sd; wd = def_fits laws most Wd so_far.files so_far.wd read.0 line first parts one few.1 fits.wd read.1; rd = fits.rd; fsd = fits.fsd; fwd = fits.fwd; loops = fits.loops })
kind_fits laws most Rd so_far next line first parts one few fits h =
    let read = bound (after_def Rd false so_far.rd line first parts) (λ rd. Ok (record so_far { rd = rd })) next h in
    subst (FileFits most) (ok_same read.2) (record { general = fits.general; hd = fits.hd; sd = fits.sd; wd = fits.wd; rd = def_fits laws most Rd false so_far.rd read.0 line first parts one few.1 fits.rd read.1; fsd = fits.fsd; fwd = fits.fwd; loops = def_loops laws most false so_far.rd read.0 line first parts one few.1 fits.rd fits.loops read.1 })
kind_fits laws most Fsd so_far next line first parts one few fits h =
    let read = bound (after_def Fsd so_far.blocks so_far.fsd line first parts) (λ fsd. Ok (record so_far { fsd = fsd; files = true })) next h in
    subst (FileFits most) (ok_same read.2) (record { general = fits.general; hd = fits.hd; sd = fits.sd; wd = fits.wd; rd = fits.rd; fsd = def_fits laws most Fsd so_far.blocks so_far.fsd read.0 line first parts one few.1 fits.fsd read.1; fwd = fits.fwd; loops = fits.loops })
kind_fits laws most Fwd so_far next line first parts one few fits h =
    let read = bound (after_def Fwd so_far.blocks so_far.fwd line first parts) (λ fwd. Ok (record so_far { fwd = fwd; files = true })) next h in
    subst (FileFits most) (ok_same read.2) (record { general = fits.general; hd = fits.hd; sd = fits.sd; wd = fits.wd; rd = fits.rd; fsd = fits.fsd; fwd = def_fits laws most Fwd so_far.blocks so_far.fwd read.0 line first parts one few.1 fits.fwd read.1; loops = fits.loops })

line_fits : FormLaws → (most : ℕ) (so_far next : SoFar) (line : ℕ) (parts : List Part) → 1 ≤ most → AllByRecursion (IsFew most) parts → FileFits most so_far → after_line so_far line parts ≡ Ok next → FileFits most next
line_fits laws most so_far next line [] one few fits h = subst (FileFits most) (ok_same h) fits
line_fits laws most so_far next line (first ∷ parts) one few fits h = kind_fits laws most (kind_of first.word) so_far next line first parts one few fits h

few_parts : (bytes : List ℕ) (most : ℕ) (parts : List ParmPart) → length bytes ≤ most → AllByRecursion (IsPartOf bytes) parts → AllByRecursion (IsFew most) (map (part_of bytes) parts)
few_parts bytes most [] small all = tt
few_parts bytes most (part ∷ parts) small all =
    let count : length (map (bytes_of bytes) part.items) ≡ length part.items = length-map part.items (bytes_of bytes) in
    let few = all.0.few in
    (omega (arith, count, few, small), few_parts bytes most parts small all.1)

pub lines_fit : FormLaws → (most : ℕ) (bytes : List ℕ) (so_far next : SoFar) (lines : List ParmLine) → 1 ≤ most → length bytes ≤ most → AllByRecursion (IsLineOf bytes) lines → FileFits most so_far → after_lines bytes so_far lines ≡ Ok next → FileFits most next
lines_fit laws most bytes so_far next [] one small all fits h = subst (FileFits most) (ok_same h) fits
lines_fit laws most bytes so_far next (line ∷ lines) one small all fits h =
    let parts = map (part_of bytes) line.parts in
    let read = bound (after_line so_far line.line parts) (λ s. after_lines bytes s lines) next h in
    lines_fit laws most bytes read.0 next lines one small all.1
    (line_fits laws most so_far read.0 line.line parts one (few_parts bytes most line.parts small (recursion_from_All (IsPartOf bytes) line.parts all.0.parts)) fits read.1) read.2

fresh_fits : DefaultsFit → (most : ℕ) (kind : Kind) → 1 ≤ most → KindFits most kind (fresh kind)
fresh_fits defaults most kind one = record {
  default = values_are_loose most (forms_of kind) (defaults_of kind) (defaults kind most one);
  defs = tt;
  named = tt;
  apart = tt;
  few = omega arith;
}

pub start_fits : DefaultsFit → (most : ℕ) → 1 ≤ most → FileFits most start
start_fits defaults most one = record {
  general = values_are_loose most (forms_of General) (defaults_of General) (defaults General most one);
  hd = fresh_fits defaults most Hd one;
  sd = fresh_fits defaults most Sd one;
  wd = fresh_fits defaults most Wd one;
  rd = fresh_fits defaults most Rd one;
  fsd = fresh_fits defaults most Fsd one;
  fwd = fresh_fits defaults most Fwd one;
  loops = tt;
}
