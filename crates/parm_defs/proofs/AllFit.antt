-- All definitions that are read are in their ranges.
use Rattle.std.proofs.Common.{◌≡◌, ℕ, ◌≤◌, List, [], ◌∷◌, true, Ok, AllPairs, length, map, refl, subst, ap, ◌∙◌, arith}
use Rattle.std.specs.List.{AllByRecursion}
use Rattle.std.proofs.lemmas.List.{length-map}
use Rattle.std.proofs.lemmas.List.Elements.{All-from_recursion, recursion_from_All}
use Rattle.parm_lex.specs.Spans.{IsLineOf}
use Rattle.parm_forms.specs.Fits.{DefaultsFit}
use Rattle.parm_forms.specs.Rows.{forms_of}
use Rattle.parm_forms.specs.declared.rows.Kind.{Kind}
use Rattle.parm_forms.specs.declared.rows.Kind.TheVariants.{Fsd, Fwd, General, Hd, Rd, Sd, Wd}
use Rattle.parm_records.specs.Ranges.{AreDefs, Defs, IsHd, IsRd, IsSd, IsWd}
use Rattle.parm_defs.specs.declared.made.Def.{Def}
use Rattle.parm_defs.specs.declared.file.SoFar.{SoFar}
use Rattle.parm_defs.specs.declared.whole.KindSoFar.{KindSoFar}
use Rattle.parm_defs.specs.Checks.{is_name, most_of}
use Rattle.parm_defs.specs.File.{after_lines, all_of, start}
use Rattle.parm_defs.specs.Laws.{DefinitionsFit}
use Rattle.parm_defs.specs.Records.{fsd_shows, fwd_shows, hd_shows, rd_shows, sd_shows, shown, wd_shows}
use Rattle.parm_defs.proofs.FileFits.{FileFits, lines_fit, start_fits}
use Rattle.parm_defs.proofs.KindsFit.{KindFits}
use Rattle.parm_defs.proofs.LoopsFit.{LoopsFit}
use Rattle.parm_defs.proofs.Loose.{AreLoose}
use Rattle.parm_defs.proofs.NamesApart.{Apart, Differs, apart_pairs}
use Rattle.parm_defs.proofs.PartsFit.{FormLaws}
use Rattle.parm_defs.proofs.RecordsFit.{general_fits, hd_fits, rd_fits, sd_fits, wd_fits}
use Rattle.parm_defs.proofs.Steps.{bound, ok_same}

each_so : {X Y : Type 0} (P : Y → Type 0) (Q : X → Type 0) (f : X → Y) (xs : List X) → ((x : X) → P (f x) → Q x) → AllByRecursion P (map f xs) → AllByRecursion Q xs
each_so P Q f [] so all = tt
each_so P Q f (x ∷ xs) so all = (so x all.0, each_so P Q f xs so all.1)

each_both : {X Y : Type 0} (P R : Y → Type 0) (Q : X → Type 0) (f : X → Y) (xs : List X) → ((x : X) → P (f x) → R (f x) → Q x) → AllByRecursion P (map f xs) → AllByRecursion R (map f xs) → AllByRecursion Q xs
each_both P R Q f [] so all more = tt
each_both P R Q f (x ∷ xs) so all more = (so x all.0 more.0, each_both P R Q f xs so all.1 more.1)

map_twice : {X Y Z : Type 0} (g : Y → Z) (f : X → Y) (xs : List X) → map g (map f xs) ≡ map (λ x. g (f x)) xs
map_twice g f [] = refl
map_twice g f (x ∷ xs) = ap (λ ys. g (f x) ∷ ys) (map_twice g f xs)

few_of : {X : Type 0} (most : ℕ) (kind : Kind) (so_far : KindSoFar) (shows : X → Def) (records : List X) → KindFits most kind so_far → so_far.defs ≡ map shows records → length records ≤ most_of kind
few_of most kind so_far shows records fits same =
    let few = fits.few in
    let count : length so_far.defs ≡ length records = ap length same ∙ length-map records shows in
    omega (arith, few, count)

names_of : {X : Type 0} (most : ℕ) (kind : Kind) (so_far : KindSoFar) (shows : X → Def) (records : List X) → KindFits most kind so_far → so_far.defs ≡ map shows records → AllPairs Differs (map (λ x. (shows x).name) records)
names_of most kind so_far shows records fits same =
    apart_pairs (map (λ x. (shows x).name) records) (subst Apart (ap (map (λ d. d.name)) same ∙ map_twice (λ d. d.name) shows records) fits.apart)

values_of : {X : Type 0} (most : ℕ) (kind : Kind) (so_far : KindSoFar) (shows : X → Def) (records : List X) → KindFits most kind so_far → so_far.defs ≡ map shows records → AllByRecursion (λ d. AreLoose most (forms_of kind) d.values) (map shows records)
values_of most kind so_far shows records fits same = subst (AllByRecursion (λ d. AreLoose most (forms_of kind) d.values)) same fits.defs

read_fits : (d : Defs) (so_far : SoFar) → FileFits 1048576 so_far → all_of so_far ≡ shown d → AreDefs d
read_fits d so_far fits same =
    let hds : so_far.hd.defs ≡ map hd_shows d.hds = ap (λ r. r.hds) same in
    let sds : so_far.sd.defs ≡ map sd_shows d.sds = ap (λ r. r.sds) same in
    let wds : so_far.wd.defs ≡ map wd_shows d.wds = ap (λ r. r.wds) same in
    let rds : so_far.rd.defs ≡ map rd_shows d.rds = ap (λ r. r.rds) same in
    let fsds : so_far.fsd.defs ≡ map fsd_shows d.fsds = ap (λ r. r.fsds) same in
    let fwds : so_far.fwd.defs ≡ map fwd_shows d.fwds = ap (λ r. r.fwds) same in
    record {
      general = general_fits d.general (subst (AreLoose 1048576 (forms_of General)) (ap (λ r. r.general) same) fits.general);
      hds = All-from_recursion IsHd d.hds (each_so (λ e. AreLoose 1048576 (forms_of Hd) e.values) IsHd hd_shows d.hds hd_fits (values_of 1048576 Hd so_far.hd hd_shows d.hds fits.hd hds));
      few_hds = few_of 1048576 Hd so_far.hd hd_shows d.hds fits.hd hds;
      hd_names = names_of 1048576 Hd so_far.hd hd_shows d.hds fits.hd hds;
      sds = All-from_recursion IsSd d.sds
          (each_both (λ e. AreLoose 1048576 (forms_of Sd) e.values) (λ e. is_name Sd e.name ≡ true) IsSd sd_shows d.sds sd_fits (values_of 1048576 Sd so_far.sd sd_shows d.sds fits.sd sds)
          (subst (AllByRecursion (λ e. is_name Sd e.name ≡ true)) sds fits.sd.named));
      few_sds = few_of 1048576 Sd so_far.sd sd_shows d.sds fits.sd sds;
      sd_names = names_of 1048576 Sd so_far.sd sd_shows d.sds fits.sd sds;
      wds = All-from_recursion IsWd d.wds (each_so (λ e. AreLoose 1048576 (forms_of Wd) e.values) IsWd wd_shows d.wds wd_fits (values_of 1048576 Wd so_far.wd wd_shows d.wds fits.wd wds));
      few_wds = few_of 1048576 Wd so_far.wd wd_shows d.wds fits.wd wds;
      wd_names = names_of 1048576 Wd so_far.wd wd_shows d.wds fits.wd wds;
      rds = All-from_recursion IsRd d.rds
          (each_both (λ e. AreLoose 1048576 (forms_of Rd) e.values) LoopsFit IsRd rd_shows d.rds rd_fits (values_of 1048576 Rd so_far.rd rd_shows d.rds fits.rd rds)
          (subst (AllByRecursion LoopsFit) rds fits.loops));
      few_rds = few_of 1048576 Rd so_far.rd rd_shows d.rds fits.rd rds;
      few_fsds = few_of 1048576 Fsd so_far.fsd fsd_shows d.fsds fits.fsd fsds;
      few_fwds = few_of 1048576 Fwd so_far.fwd fwd_shows d.fwds fits.fwd fwds;
    }

pub definitions_fit : FormLaws → DefaultsFit → DefinitionsFit
definitions_fit laws defaults bytes lines d are small h =
    let read = bound (after_lines bytes start lines) (λ so_far. Ok (all_of so_far)) (shown d) h in
    read_fits d read.0
    (lines_fit laws 1048576 bytes start read.0 lines (omega arith) small (recursion_from_All (IsLineOf bytes) lines are.pieces) (start_fits defaults 1048576 (omega arith)) read.1)
    (ok_same read.2)
