-- Why a parameter file is refused, in words.
use Rattle.std.specs.Prelude.{ℕ, List, codes}
use Rattle.parm_lex.specs.declared.fault.LexWhy.{LexWhy}
use Rattle.parm_lex.specs.declared.fault.LexWhy.TheVariants as lex
use Rattle.parm_forms.specs.declared.fault.ParmKind.{ParmKind}
use Rattle.parm_forms.specs.declared.fault.ParmKind.TheVariants as parm
use Rattle.run_plan.specs.declared.fault.PlanKind.{PlanKind}
use Rattle.run_plan.specs.declared.fault.PlanKind.TheVariants as plan

-- a fault of a line
abbrev pub lex_word : LexWhy → List ℕ
lex_word lex.FileTooLong = codes "file too long"
lex_word lex.LineTooLong = codes "line too long"
lex_word lex.EmptyPart = codes "empty part"
lex_word lex.MissingEquals = codes "missing equals"
lex_word lex.EmptyValue = codes "empty value"
lex_word lex.UnclosedQuote = codes "unclosed quote"
lex_word lex.UnclosedParen = codes "unclosed list"
lex_word lex.AfterValue = codes "unexpected text"
lex_word lex.BadByte = codes "bad byte"
lex_word lex.OpenEnd = codes "open end"

-- a fault of a definition
abbrev pub defs_word : ParmKind → List ℕ
defs_word parm.UnknownKeyword = codes "unknown keyword"
defs_word parm.RepeatedKeyword = codes "repeated keyword"
defs_word parm.ValueCount = codes "wrong number of values"
defs_word parm.BadNumber = codes "bad number"
defs_word parm.OutOfRange = codes "out of range"
defs_word parm.BadChoice = codes "bad choice"
defs_word parm.BadName = codes "bad name"
defs_word parm.BothKinds = codes "both kinds of storage"
defs_word parm.NameTaken = codes "name taken"
defs_word parm.RemoteHost = codes "remote host"
defs_word parm.TooMany = codes "too many definitions"

-- a fault of the plan
abbrev pub plan_word : PlanKind → List ℕ
plan_word plan.NoRuns = codes "no runs"
plan_word plan.PathMissing = codes "no path"
plan_word plan.SizeMissing = codes "no size"
plan_word plan.BadTree = codes "bad tree"
plan_word plan.PathTaken = codes "path taken"
plan_word plan.NothingSelected = codes "nothing is selected"
plan_word plan.WrongKind = codes "format without a file system"
plan_word plan.SkewSum = codes "bad skew"
plan_word plan.IntervalsMany = codes "too many intervals"
plan_word plan.WorkersMany = codes "too many workers"
plan_word plan.RunsMany = codes "too many runs"
plan_word plan.TransferNotMultiple = codes "transfer not a multiple"
plan_word plan.SizeSmall = codes "size too small"
plan_word plan.BlocksMany = codes "too many blocks"
plan_word plan.TreeNotBuilt = codes "tree not built"
