-- What is read of a file is what some records show.
use Rattle.std.proofs.Common.{◌≡◌, ℕ, List, [], ◌∷◌, Ok, map, refl, sym, ap, ◌∙◌}
use Rattle.std.specs.List.{AllByRecursion}
use Rattle.parm_forms.specs.Fits.{ValuesFit}
use Rattle.parm_forms.specs.declared.rows.Kind.TheVariants.{Fsd, Fwd, General, Hd, Rd, Sd, Wd}
use Rattle.parm_forms.specs.declared.value.Value.{Value}
use Rattle.parm_records.specs.Ranges.{Defs}
use Rattle.parm_records.specs.declared.files.FsdDef.{FsdDef}
use Rattle.parm_records.specs.declared.files.FwdDef.{FwdDef}
use Rattle.parm_records.specs.declared.general.General as general
use Rattle.parm_records.specs.declared.general.HdDef.{HdDef}
use Rattle.parm_records.specs.declared.runs.RdDef.{RdDef}
use Rattle.parm_records.specs.declared.stores.SdDef.{SdDef}
use Rattle.parm_records.specs.declared.stores.WdDef.{WdDef}
use Rattle.parm_defs.specs.declared.file.SoFar.{SoFar}
use Rattle.parm_defs.specs.declared.made.Def.{Def}
use Rattle.parm_defs.specs.File.{Read, after_lines, all_of, start}
use Rattle.parm_defs.specs.Laws.{RecordsShowAll}
use Rattle.parm_defs.specs.Records.{fsd_shows, fsd_view, fwd_shows, fwd_view, general_view, hd_shows, hd_view, rd_shows, rd_view, sd_shows, sd_view, shown, shows, wd_shows, wd_view}
use Rattle.parm_defs.proofs.Shapes.{AreShaped, contents, given_shapes, made_shapes}
use Rattle.parm_defs.proofs.Shown.{DefShaped, FileShaped, lines_shaped, start_shaped}
use Rattle.parm_defs.proofs.Steps.{bound, ok_same}

-- a definition of these values and loops
def_is : (d : Def) (values : List Value) (loops : List (List ℕ)) → d.values ≡ values → d.loops ≡ loops → d ≡ shows d.line d.name values loops
def_is d values loops e k = ap (λ v. shows d.line d.name v d.loops) e ∙ ap (λ l. shows d.line d.name values l) k

all_shown : {X : Type 0} (shows : X → Def) (P : Def → Type 0) → ((d : Def) → P d → (x : X) × (d ≡ shows x)) → (defs : List Def) → AllByRecursion P defs → (xs : List X) × (defs ≡ map shows xs)
all_shown shows P one [] h = ([], refl)
all_shown shows P one (d ∷ defs) h =
    let first = one d h.0 in
    let rest = all_shown shows P one defs h.1 in
    (first.0 ∷ rest.0, ap (λ e. e ∷ defs) first.1 ∙ ap (λ es. shows first.0 ∷ es) rest.1)

hd_shown : (d : Def) → DefShaped Hd d → (x : HdDef) × (d ≡ hd_shows x)
hd_shown d h =
    let held = contents (made_shapes Hd) d.values h.values in
    let c = held.0 in
    let x : HdDef = record { line = d.line; name = d.name; jvms = c.0; shell = c.1.0; system = c.1.1.0; user = c.1.1.1.0; vdbench = c.1.1.1.1.0 } in
    (x, def_is d (hd_view x) [] held.1 (h.loops refl))

sd_shown : (d : Def) → DefShaped Sd d → (x : SdDef) × (d ≡ sd_shows x)
sd_shown d h =
    let held = contents (made_shapes Sd) d.values h.values in
    let c = held.0 in
    let x : SdDef = record {
      line = d.line;
      name = d.name;
      count = c.0;
      host = c.1.0;
      journal = c.1.1.0;
      keyblock = c.1.1.1.0;
      lun = c.1.1.1.1.0;
      openflags = c.1.1.1.1.1.0;
      size = c.1.1.1.1.1.1.0;
      threads = c.1.1.1.1.1.1.1.0;
    } in
    (x, def_is d (sd_view x) [] held.1 (h.loops refl))

wd_shown : (d : Def) → DefShaped Wd d → (x : WdDef) × (d ≡ wd_shows x)
wd_shown d h =
    let held = contents (made_shapes Wd) d.values h.values in
    let c = held.0 in
    let x : WdDef = record { line = d.line; name = d.name; host = c.0; rdpct = c.1.0; sd = c.1.1.0; seekpct = c.1.1.1.0; skew = c.1.1.1.1.0; xfersize = c.1.1.1.1.1.0 } in
    (x, def_is d (wd_view x) [] held.1 (h.loops refl))

rd_shown : (d : Def) → DefShaped Rd d → (x : RdDef) × (d ≡ rd_shows x)
rd_shown d h =
    let held = contents (made_shapes Rd) d.values h.values in
    let c = held.0 in
    let x : RdDef = record {
      line = d.line;
      name = d.name;
      loops = d.loops;
      elapsed = c.0;
      format = c.1.0;
      forrdpct = c.1.1.0;
      forthreads = c.1.1.1.0;
      forxfersize = c.1.1.1.1.0;
      fwd = c.1.1.1.1.1.0;
      fwdrate = c.1.1.1.1.1.1.0;
      interval = c.1.1.1.1.1.1.1.0;
      iorate = c.1.1.1.1.1.1.1.1.0;
      openflags = c.1.1.1.1.1.1.1.1.1.0;
      turns = c.1.1.1.1.1.1.1.1.1.1.0;
      wd = c.1.1.1.1.1.1.1.1.1.1.1.0;
    } in
    (x, def_is d (rd_view x) d.loops held.1 refl)

fsd_shown : (d : Def) → DefShaped Fsd d → (x : FsdDef) × (d ≡ fsd_shows x)
fsd_shown d h =
    let held = contents (made_shapes Fsd) d.values h.values in
    let c = held.0 in
    let x : FsdDef = record {
      line = d.line;
      name = d.name;
      anchor = c.0;
      count = c.1.0;
      depth = c.1.1.0;
      distribution = c.1.1.1.0;
      files = c.1.1.1.1.0;
      journal = c.1.1.1.1.1.0;
      keyblock = c.1.1.1.1.1.1.0;
      openflags = c.1.1.1.1.1.1.1.0;
      shared = c.1.1.1.1.1.1.1.1.0;
      sizes = c.1.1.1.1.1.1.1.1.1.0;
      width = c.1.1.1.1.1.1.1.1.1.1.0;
    } in
    (x, def_is d (fsd_view x) [] held.1 (h.loops refl))

fwd_shown : (d : Def) → DefShaped Fwd d → (x : FwdDef) × (d ≡ fwd_shows x)
fwd_shown d h =
    let held = contents (made_shapes Fwd) d.values h.values in
    let c = held.0 in
    let x : FwdDef = record {
      line = d.line;
      name = d.name;
      fileio = c.0;
      fileselect = c.1.0;
      fsd = c.1.1.0;
      host = c.1.1.1.0;
      operation = c.1.1.1.1.0;
      rdpct = c.1.1.1.1.1.0;
      skew = c.1.1.1.1.1.1.0;
      threads = c.1.1.1.1.1.1.1.0;
      xfersize = c.1.1.1.1.1.1.1.1.0;
    } in
    (x, def_is d (fwd_view x) [] held.1 (h.loops refl))

general_shown : (values : List Value) → AreShaped (given_shapes General) values → (x : general.General) × (values ≡ general_view x)
general_shown values h =
    let held = contents (given_shapes General) values h in
    let c = held.0 in
    (record { create_anchors = c.0; data_errors = c.1.0; journal_sectors = c.1.1.0; messagescan = c.1.1.1.0; validate = c.1.1.1.1.0 }, held.1)

abbrev read_so : List Value → List Def → List Def → List Def → List Def → List Def → List Def → Read
read_so general hds sds wds rds fsds fwds = record { general = general; hds = hds; sds = sds; wds = wds; rds = rds; fsds = fsds; fwds = fwds }

same_read : {g h : List Value} {a b c d e f i j k l m n : List Def} → g ≡ h → a ≡ i → b ≡ j → c ≡ k → d ≡ l → e ≡ m → f ≡ n → read_so g a b c d e f ≡ read_so h i j k l m n
same_read p q r s t u v = cc

all_shown_so : (so_far : SoFar) → FileShaped so_far → (d : Defs) × (all_of so_far ≡ shown d)
all_shown_so so_far shaped =
    let general = general_shown so_far.general.values shaped.general.values in
    let hds = all_shown hd_shows (DefShaped Hd) hd_shown so_far.hd.defs shaped.hd.defs in
    let sds = all_shown sd_shows (DefShaped Sd) sd_shown so_far.sd.defs shaped.sd.defs in
    let wds = all_shown wd_shows (DefShaped Wd) wd_shown so_far.wd.defs shaped.wd.defs in
    let rds = all_shown rd_shows (DefShaped Rd) rd_shown so_far.rd.defs shaped.rd.defs in
    let fsds = all_shown fsd_shows (DefShaped Fsd) fsd_shown so_far.fsd.defs shaped.fsd.defs in
    let fwds = all_shown fwd_shows (DefShaped Fwd) fwd_shown so_far.fwd.defs shaped.fwd.defs in (
      record { general = general.0; hds = hds.0; sds = sds.0; wds = wds.0; rds = rds.0; fsds = fsds.0; fwds = fwds.0 },
      same_read general.1 hds.1 sds.1 wds.1 rds.1 fsds.1 fwds.1,
    )

pub records_show_all : ValuesFit → RecordsShowAll
records_show_all fit bytes lines read h =
    let kept = bound (after_lines bytes start lines) (λ so_far. Ok (all_of so_far)) read h in
    let all = all_shown_so kept.0 (lines_shaped fit bytes start kept.0 lines start_shaped kept.1) in
    (all.0, sym (ok_same kept.2) ∙ all.1)
