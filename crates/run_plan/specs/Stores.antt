-- What a store's definition must have.
use Rattle.std.specs.Prelude.{ℕ, List, [], Bool, ◌||◌, if◌then◌else◌, Option, Some, None, is_none}
use Rattle.std.specs.List.{list_any}
use Rattle.std.specs.Str.{bytes_eq}
use Rattle.parm_records.specs.declared.stores.SdDef.{SdDef}
use Rattle.run_plan.specs.declared.fault.PlanKind.{PlanKind}
use Rattle.run_plan.specs.declared.fault.PlanKind.TheVariants.{PathMissing, PathTaken, SizeMissing}

abbrev pub text_or_empty : Option (List ℕ) → List ℕ
text_or_empty (Some text) = text
text_or_empty None = []

-- a path is one of a store's two
abbrev pub has_path : SdDef → List ℕ → Bool
has_path d path = bytes_eq (text_or_empty d.lun) path || bytes_eq d.journal path

-- an earlier store has its path or journal, or both are the same
abbrev pub is_taken : List SdDef → SdDef → Bool
is_taken earlier d =
    bytes_eq (text_or_empty d.lun) d.journal
    || list_any (λ e. has_path e (text_or_empty d.lun) || has_path e d.journal) earlier

abbrev pub store_kind : List SdDef → SdDef → Option PlanKind
store_kind earlier d =
    if is_none d.lun then Some PathMissing
    else if is_none d.size then Some SizeMissing
    else if is_taken earlier d then Some PathTaken
    else None
