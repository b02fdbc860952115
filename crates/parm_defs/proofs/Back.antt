-- What a record shows is read back as the record.
use Rattle.std.proofs.Common.{◌≡◌, ℕ, List, [], ◌∷◌, Ok, Option, Some, None, map, refl, sym, ap, ◌∙◌}
use Rattle.std.specs.Option.{option_to_list}
use Rattle.parm_lex.specs.declared.line.ParmLine.{ParmLine}
use Rattle.parm_records.specs.Ranges.{Defs}
use Rattle.parm_records.specs.declared.files.FsdDef.{FsdDef}
use Rattle.parm_records.specs.declared.files.FwdDef.{FwdDef}
use Rattle.parm_records.specs.declared.general.General.{General}
use Rattle.parm_records.specs.declared.general.HdDef.{HdDef}
use Rattle.parm_records.specs.declared.runs.RdDef.{RdDef}
use Rattle.parm_records.specs.declared.stores.SdDef.{SdDef}
use Rattle.parm_records.specs.declared.stores.WdDef.{WdDef}
use Rattle.parm_defs.specs.declared.file.SoFar.{SoFar}
use Rattle.parm_defs.specs.File.{after_lines, all_of, read_of, start}
use Rattle.parm_defs.specs.Laws.{RecordsShowAll, ShownTells}
use Rattle.parm_defs.specs.Records.{defs_in, fsd_in, fsd_shows, fwd_in, fwd_shows, general_in, general_view, hd_in, hd_shows, only, rd_in, rd_shows, sd_in, sd_shows, shown, wd_in, wd_shows}

only_maybe : {A : Type 0} (o : Option A) → only (option_to_list o) ≡ o
only_maybe None = refl
only_maybe (Some x) = refl

map_back : {X Y : Type 0} (reads : Y → X) (shows : X → Y) → ((x : X) → reads (shows x) ≡ x) → (xs : List X) → map reads (map shows xs) ≡ xs
map_back reads shows back [] = refl
map_back reads shows back (x ∷ xs) = ap (λ y. y ∷ map reads (map shows xs)) (back x) ∙ ap (λ ys. x ∷ ys) (map_back reads shows back xs)

general_back : (g : General) → general_in (general_view g) ≡ g
general_back g = refl

hd_back : (d : HdDef) → hd_in (hd_shows d) ≡ d
hd_back d = refl

rd_back : (d : RdDef) → rd_in (rd_shows d) ≡ d
rd_back d = refl

abbrev sd_with : SdDef → Option ℕ → Option (List ℕ) → Option ℕ → SdDef
sd_with d keyblock lun size = record d { keyblock = keyblock; lun = lun; size = size }

sd_back : (d : SdDef) → sd_in (sd_shows d) ≡ d
sd_back d =
    ap (λ o. sd_with d o (only (option_to_list d.lun)) (only (option_to_list d.size))) (only_maybe d.keyblock)
    ∙ ap (λ o. sd_with d d.keyblock o (only (option_to_list d.size))) (only_maybe d.lun)
    ∙ ap (λ o. sd_with d d.keyblock d.lun o) (only_maybe d.size)

abbrev wd_with : WdDef → Option ℕ → WdDef
wd_with d skew = record d { skew = skew }

wd_back : (d : WdDef) → wd_in (wd_shows d) ≡ d
wd_back d =
    ap (λ o. wd_with d o) (only_maybe d.skew)

abbrev fsd_with : FsdDef → Option (List ℕ) → Option ℕ → Option ℕ → Option ℕ → Option ℕ → FsdDef
fsd_with d anchor depth files keyblock width = record d { anchor = anchor; depth = depth; files = files; keyblock = keyblock; width = width }

fsd_back : (d : FsdDef) → fsd_in (fsd_shows d) ≡ d
fsd_back d =
    ap (λ o. fsd_with d o (only (option_to_list d.depth)) (only (option_to_list d.files)) (only (option_to_list d.keyblock)) (only (option_to_list d.width))) (only_maybe d.anchor)
    ∙ ap (λ o. fsd_with d d.anchor o (only (option_to_list d.files)) (only (option_to_list d.keyblock)) (only (option_to_list d.width))) (only_maybe d.depth)
    ∙ ap (λ o. fsd_with d d.anchor d.depth o (only (option_to_list d.keyblock)) (only (option_to_list d.width))) (only_maybe d.files)
    ∙ ap (λ o. fsd_with d d.anchor d.depth d.files o (only (option_to_list d.width))) (only_maybe d.keyblock)
    ∙ ap (λ o. fsd_with d d.anchor d.depth d.files d.keyblock o) (only_maybe d.width)

abbrev fwd_with : FwdDef → Option ℕ → FwdDef
fwd_with d skew = record d { skew = skew }

fwd_back : (d : FwdDef) → fwd_in (fwd_shows d) ≡ d
fwd_back d =
    ap (λ o. fwd_with d o) (only_maybe d.skew)

abbrev defs_so : General → List HdDef → List SdDef → List WdDef → List RdDef → List FsdDef → List FwdDef → Defs
defs_so general hds sds wds rds fsds fwds = record { general = general; hds = hds; sds = sds; wds = wds; rds = rds; fsds = fsds; fwds = fwds }

same_defs : {g h : General} {a i : List HdDef} {b j : List SdDef} {c k : List WdDef} {d l : List RdDef} {e m : List FsdDef} {f n : List FwdDef} → g ≡ h → a ≡ i → b ≡ j → c ≡ k → d ≡ l → e ≡ m → f ≡ n → defs_so g a b c d e f ≡ defs_so h i j k l m n
same_defs p q r s t u v = cc

pub defs_back : (d : Defs) → defs_in (shown d) ≡ d
defs_back d =
    same_defs (general_back d.general) (map_back hd_in hd_shows hd_back d.hds) (map_back sd_in sd_shows sd_back d.sds) (map_back wd_in wd_shows wd_back d.wds)
    (map_back rd_in rd_shows rd_back d.rds) (map_back fsd_in fsd_shows fsd_back d.fsds) (map_back fwd_in fwd_shows fwd_back d.fwds)

pub shown_tells : ShownTells
shown_tells a b h = sym (defs_back a) ∙ ap defs_in h ∙ defs_back b

-- the records that are read of what stands at the end show what is read
pub read_is : RecordsShowAll → (bytes : List ℕ) (lines : List ParmLine) (so_far : SoFar) (d : Defs) → after_lines bytes start lines ≡ Ok so_far → d ≡ defs_in (all_of so_far) → read_of bytes lines ≡ Ok (shown d)
read_is all bytes lines so_far d h is =
    let read : read_of bytes lines ≡ Ok (all_of so_far) = rw h refl in
    let records = all bytes lines (all_of so_far) read in
    let same : d ≡ records.0 = is ∙ ap defs_in records.1 ∙ defs_back records.0 in
    read ∙ ap Ok (records.1 ∙ sym (ap shown same))
