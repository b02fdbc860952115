-- The definitions of a file, line by line up to the first fault.
use Rattle.std.specs.Prelude.{ℕ, List, [], ◌∷◌, true, false, if◌then◌else◌, Result, Ok, codes, map}
use Rattle.std.specs.Str.{bytes_eq}
use Rattle.parm_lex.specs.declared.line.ParmLine.{ParmLine}
use Rattle.parm_forms.specs.Rows.{defaults_of}
use Rattle.parm_forms.specs.declared.rows.Kind.{Kind}
use Rattle.parm_forms.specs.declared.rows.Kind.TheVariants.{Fsd, Fwd, General, Hd, Rd, Sd, Wd}
use Rattle.parm_forms.specs.declared.value.Value.{Value}
use Rattle.parm_defs.specs.declared.fault.ParmFault.{ParmFault}
use Rattle.parm_defs.specs.declared.made.Def.{Def}
use Rattle.parm_defs.specs.declared.whole.KindSoFar.{KindSoFar}
use Rattle.parm_defs.specs.declared.file.SoFar.{SoFar}
use Rattle.parm_defs.specs.Answers.{◌>>=◌}
use Rattle.parm_defs.specs.Checks.{after_def, begun}
use Rattle.parm_defs.specs.Parts.{Part, after_parts, part_of}

-- the kind of a line by its first word; any other word is a general parameter
abbrev pub kind_of : List ℕ → Kind
kind_of word =
    if bytes_eq word (codes "hd") then Hd
    else if bytes_eq word (codes "sd") then Sd
    else if bytes_eq word (codes "wd") then Wd
    else if bytes_eq word (codes "rd") then Rd
    else if bytes_eq word (codes "fsd") then Fsd
    else if bytes_eq word (codes "fwd") then Fwd
    else General

-- One line more. A definition of a store or of a workload over stores, a default too, makes every later one over file systems BothKinds,
-- and the other way round.
abbrev pub after_kind : Kind → SoFar → ℕ → Part → List Part → Result SoFar ParmFault
after_kind General so_far line first parts = after_parts General false so_far.general (first ∷ parts) >>= λ given. Ok (record so_far { general = given })
after_kind Hd so_far line first parts = after_def Hd false so_far.hd line first parts >>= λ hd. Ok (record so_far { hd = hd })
after_kind Sd so_far line first parts = after_def Sd so_far.files so_far.sd line first parts >>= λ sd. Ok (record so_far { sd = sd; blocks = true })
after_kind Wd so_far line first parts = after_def Wd so_far.files so_far.wd line first parts >>= λ wd. Ok (record so_far { wd = wd; blocks = true })
after_kind Rd so_far line first parts = after_def Rd false so_far.rd line first parts >>= λ rd. Ok (record so_far { rd = rd })
after_kind Fsd so_far line first parts = after_def Fsd so_far.blocks so_far.fsd line first parts >>= λ fsd. Ok (record so_far { fsd = fsd; files = true })
after_kind Fwd so_far line first parts = after_def Fwd so_far.blocks so_far.fwd line first parts >>= λ fwd. Ok (record so_far { fwd = fwd; files = true })

abbrev pub after_line : SoFar → ℕ → List Part → Result SoFar ParmFault
after_line so_far line [] = Ok so_far
after_line so_far line (first ∷ parts) = after_kind (kind_of first.word) so_far line first parts

abbrev pub after_lines : List ℕ → SoFar → List ParmLine → Result SoFar ParmFault
after_lines bytes so_far [] = Ok so_far
after_lines bytes so_far (line ∷ lines) = after_line so_far line.line (map (part_of bytes) line.parts) >>= λ next. after_lines bytes next lines

-- what stands before the first line: the tables' defaults
abbrev pub fresh : Kind → KindSoFar
fresh kind = record { default = defaults_of kind; defs = [] }

abbrev pub start : SoFar
start = record {
  general = begun (defaults_of General);
  hd = fresh Hd;
  sd = fresh Sd;
  wd = fresh Wd;
  rd = fresh Rd;
  fsd = fresh Fsd;
  fwd = fresh Fwd;
  blocks = false;
  files = false;
}

-- the general parameters and the definitions of a file, each with the values of its keywords
pub record Read : Type 0 where
  pub general : List Value
  pub hds : List Def
  pub sds : List Def
  pub wds : List Def
  pub rds : List Def
  pub fsds : List Def
  pub fwds : List Def

abbrev pub all_of : SoFar → Read
all_of so_far = record {
  general = so_far.general.values;
  hds = so_far.hd.defs;
  sds = so_far.sd.defs;
  wds = so_far.wd.defs;
  rds = so_far.rd.defs;
  fsds = so_far.fsd.defs;
  fwds = so_far.fwd.defs;
}

-- the definitions of a file, or its first fault
abbrev pub read_of : List ℕ → List ParmLine → Result Read ParmFault
read_of bytes lines = after_lines bytes start lines >>= λ so_far. Ok (all_of so_far)
