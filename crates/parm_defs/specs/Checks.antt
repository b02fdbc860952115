-- What is wrong with a whole definition.
use Rattle.std.specs.Prelude.{ℕ, List, [], ◌∷◌, ◌++◌, ◌+◌, Bool, false, not, nat_lt, if◌then◌else◌, Option, Some, Result, Ok, Err, codes, length}
use Rattle.std.specs.List.{list_all, list_any}
use Rattle.std.specs.Str.{bytes_eq}
use Rattle.vd_base.specs.Name.{is_store_name}
use Rattle.parm_forms.specs.Forms.{is_other_name}
use Rattle.parm_forms.specs.declared.fault.ParmKind.{ParmKind}
use Rattle.parm_forms.specs.declared.fault.ParmKind.TheVariants.{BadName, BothKinds, NameTaken, RemoteHost, TooMany, ValueCount}
use Rattle.parm_forms.specs.declared.rows.Kind.{Kind}
use Rattle.parm_forms.specs.declared.rows.Kind.TheVariants.{Fsd, Fwd, General, Hd, Rd, Sd, Wd}
use Rattle.parm_forms.specs.declared.value.Value.{Value}
use Rattle.parm_forms.specs.declared.value.Value.TheVariants.{Texts}
use Rattle.parm_defs.specs.declared.fault.ParmFault.{ParmFault}
use Rattle.parm_defs.specs.declared.given.Given.{Given}
use Rattle.parm_defs.specs.declared.made.Def.{Def}
use Rattle.parm_defs.specs.declared.whole.KindSoFar.{KindSoFar}
use Rattle.parm_defs.specs.Answers.{◌>>=◌, on_line}
use Rattle.parm_defs.specs.Made.{all_made, value_at}
use Rattle.parm_defs.specs.Parts.{Part, after_parts}

-- the rule for names of a kind
abbrev pub is_name : Kind → List ℕ → Bool
is_name Sd name = is_store_name name
is_name Fsd name = is_store_name name
is_name _ name = is_other_name name

-- the most definitions of a kind
abbrev pub most_of : Kind → ℕ
most_of General = 0
most_of Hd = 16
most_of Sd = 64
most_of Wd = 64
most_of Rd = 256
most_of Fsd = 64
most_of Fwd = 64

abbrev pub is_default : List ℕ → Bool
is_default name = bytes_eq name (codes "default")

abbrev pub is_other_system : Option Value → Bool
is_other_system (Some (Texts texts)) = list_any (λ text. not (bytes_eq text (codes "localhost"))) texts
is_other_system _ = false

-- a host's system that is given and isn't this machine
abbrev pub is_remote : Kind → List Value → Bool
is_remote kind values = is_other_system (value_at kind (codes "system") values)

abbrev pub has_name : List Def → List ℕ → Bool
has_name defs name = list_any (λ d. bytes_eq d.name name) defs

-- the name of a definition: one item that keeps the rule, of the one kind of storage
abbrev pub name_of : Kind → Bool → List (List ℕ) → Result (List ℕ) ParmKind
name_of kind both [] = Err ValueCount
name_of kind both (name ∷ []) =
    if not (is_name kind name) then Err BadName
    else if both then Err BothKinds
    else Ok name
name_of kind both (name ∷ more ∷ items) = Err ValueCount

-- more definitions of a kind, or what is wrong with one of them
abbrev pub added : Kind → KindSoFar → List Def → Result KindSoFar ParmKind
added kind so_far defs =
    if not (list_all (λ d. is_name kind d.name) defs) then Err BadName
    else if list_any (λ d. has_name so_far.defs d.name) defs then Err NameTaken
    else if list_any (λ d. is_remote kind d.values) defs then Err RemoteHost
    else if nat_lt (most_of kind) (length so_far.defs + length defs) then Err TooMany
    else Ok (record so_far { defs = so_far.defs ++ defs })

-- the values of a default, which later definitions of its kind begin with
abbrev pub defaulted : Kind → KindSoFar → List Value → Result KindSoFar ParmKind
defaulted kind so_far values = if is_remote kind values then Err RemoteHost else Ok (record so_far { default = values })

abbrev pub whole : Kind → KindSoFar → ℕ → List ℕ → Given → Result KindSoFar ParmKind
whole kind so_far line name given =
    if is_default name then defaulted kind so_far given.values
    else added kind so_far (all_made kind line name given)

-- a definition begins with the values of the last default, and nothing given yet
abbrev pub begun : List Value → Given
begun values = record { values = values; words = [] }

-- one definition more: its name, its other parts, and the whole
abbrev pub after_def : Kind → Bool → KindSoFar → ℕ → Part → List Part → Result KindSoFar ParmFault
after_def kind both so_far line first parts =
    on_line first.line (name_of kind both first.items) >>= λ name.
    after_parts kind (is_default name) (begun so_far.default) parts >>= λ given.
    on_line line (whole kind so_far line name given)
