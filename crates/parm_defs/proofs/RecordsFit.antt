-- Records whose values fit are in their ranges.
use Rattle.std.proofs.Common.{◌≡◌, ℕ, ◌<◌, ◌≤◌, inl, inr, List, [], ◌∷◌, true, All, IfSome, codes, Option, Some, None, length, refl, subst, sym, ◌∙◌, ap, arith}
use Rattle.std.specs.List.{AllByRecursion}
use Rattle.std.specs.Option.{option_to_list}
use Rattle.std.proofs.lemmas.List.Elements.{All-from_recursion, All-weaker, All-nil}
use Rattle.std.proofs.lemmas.Bool.{false≢true}
use Rattle.parm_records.specs.Ranges as ranges
use Rattle.parm_records.specs.Ranges.{HasLoop, IsGeneral, IsHd, IsRd, IsSd, IsWd}
use Rattle.parm_records.specs.declared.general.General.{General}
use Rattle.parm_records.specs.declared.general.HdDef.{HdDef}
use Rattle.parm_records.specs.declared.runs.RdDef.{RdDef}
use Rattle.parm_records.specs.declared.stores.SdDef.{SdDef}
use Rattle.parm_records.specs.declared.stores.WdDef.{WdDef}
use Rattle.parm_forms.specs.Fits.{IsBlockSize, IsFrom}
use Rattle.parm_forms.specs.Rows.{forms_of, rows_of, words_of}
use Rattle.parm_forms.specs.declared.form.Form.TheVariants.{BlockSize, BlockSizes, Number, Numbers, Rate, Seconds, SeekPercent, Size}
use Rattle.parm_forms.specs.declared.rows.Kind.TheVariants as kind
use Rattle.parm_forms.specs.declared.value.Value.TheVariants as value
use Rattle.parm_defs.specs.Checks.{is_name}
use Rattle.parm_defs.specs.Made.{has_number, loop_words, value_at}
use Rattle.parm_defs.specs.Parts.{is_among}
use Rattle.parm_defs.specs.Records.{general_view, hd_view, rd_shows, rd_view, sd_view, wd_view}
use Rattle.parm_defs.proofs.Loose.{AreLoose, NumbersFit}
use Rattle.parm_defs.proofs.LoopsFit.{LoopsFit, loop_cases}
use Rattle.parm_defs.proofs.NamesApart.{apart_pairs}

ranged : {least greatest n : ℕ} → IsFrom least greatest n → ranges.IsFrom least greatest n
ranged h = record { at_least = h.at_least; at_most = h.at_most }

sized : {n : ℕ} → IsBlockSize n → ranges.IsBlockSize n
sized h = record { range = record { at_least = let low = h.range.at_least in omega (arith, low); at_most = h.range.at_most }; whole = h.whole }

one_from : (least greatest n : ℕ) → NumbersFit (Number least greatest) (value.Numbers (n ∷ [])) → ranges.IsFrom least greatest n
one_from least greatest n h = elim h [ inl fits ↦ ranged fits | inr nothing ↦ absurd nothing ]

one_size : (n : ℕ) → NumbersFit BlockSize (value.Numbers (n ∷ [])) → ranges.IsBlockSize n
one_size n h = elim h [ inl fits ↦ sized fits | inr nothing ↦ absurd nothing ]

one_time : (n : ℕ) → NumbersFit Seconds (value.Numbers (n ∷ [])) → ranges.IsFrom 1 8640000 n
one_time n h = elim h [ inl fits ↦ ranged fits | inr nothing ↦ absurd nothing ]

one_rate : (n : ℕ) → NumbersFit Rate (value.Numbers (n ∷ [])) → n ≤ 10000000
one_rate n h = elim h [ inl fits ↦ fits.at_most | inr nothing ↦ absurd nothing ]

one_seek : (n : ℕ) → NumbersFit SeekPercent (value.Numbers (n ∷ [])) → n ≤ 100
one_seek n h = elim h [ inl fits ↦ fits.at_most | inr nothing ↦ absurd nothing ]

maybe_from : (least greatest : ℕ) (n : Option ℕ) → NumbersFit (Number least greatest) (value.Numbers (option_to_list n)) → IfSome n (λ m. ranges.IsFrom least greatest m)
maybe_from least greatest None h = tt
maybe_from least greatest (Some n) h = one_from least greatest n h

maybe_size : (n : Option ℕ) → NumbersFit BlockSize (value.Numbers (option_to_list n)) → IfSome n ranges.IsBlockSize
maybe_size None h = tt
maybe_size (Some n) h = one_size n h

maybe_bytes : (n : Option ℕ) → NumbersFit Size (value.Numbers (option_to_list n)) → IfSome n (λ m. ranges.IsFrom 1 9223372036854775807 m)
maybe_bytes None h = tt
maybe_bytes (Some n) h = elim h [ inl fits ↦ ranged fits | inr nothing ↦ absurd nothing ]

some_from : (least greatest : ℕ) (ns : List ℕ) → NumbersFit (Numbers least greatest) (value.Numbers ns) → All (ranges.IsFrom least greatest) ns
some_from least greatest [] h = All-nil _
some_from least greatest (n ∷ ns) h = elim h [ inl fits ↦ All-weaker (IsFrom least greatest) (ranges.IsFrom least greatest) (λ m from. ranged from) (n ∷ ns) fits | inr nothing ↦ absurd nothing ]

some_sizes : (ns : List ℕ) → NumbersFit BlockSizes (value.Numbers ns) → All ranges.IsBlockSize ns
some_sizes [] h = All-nil _
some_sizes (n ∷ ns) h = elim h [ inl fits ↦ All-weaker IsBlockSize ranges.IsBlockSize (λ m size. sized size) (n ∷ ns) fits | inr nothing ↦ absurd nothing ]

pub general_fits : (g : General) → AreLoose 1048576 (forms_of kind.General) (general_view g) → IsGeneral g
unfolding rows_of
general_fits g h = record {
  data_errors = one_from 1 10000 g.data_errors h.1.0.fits;
  journal_sectors = one_from 1 65536 g.journal_sectors h.1.1.0.fits;
}

pub hd_fits : (d : HdDef) → AreLoose 1048576 (forms_of kind.Hd) (hd_view d) → IsHd d
unfolding rows_of
hd_fits d h = record { jvms = one_from 1 16 d.jvms h.0.fits }

pub sd_fits : (d : SdDef) → AreLoose 1048576 (forms_of kind.Sd) (sd_view d) → is_name kind.Sd d.name ≡ true → IsSd d
unfolding rows_of
sd_fits d h named = record {
  name = named;
  few_hosts = h.1.0.few;
  keyblock = maybe_size d.keyblock h.1.1.1.0.fits;
  size = maybe_bytes d.size h.1.1.1.1.1.1.0.fits;
  threads = one_from 1 256 d.threads h.1.1.1.1.1.1.1.0.fits;
}

pub wd_fits : (d : WdDef) → AreLoose 1048576 (forms_of kind.Wd) (wd_view d) → IsWd d
unfolding rows_of
wd_fits d h = record {
  few_hosts = h.0.few;
  few_stores = h.1.1.0.few;
  rdpct = (one_from 0 100 d.rdpct h.1.0.fits).at_most;
  seekpct = one_seek d.seekpct h.1.1.1.0.fits;
  skew = maybe_from 1 100 d.skew h.1.1.1.1.0.fits;
  xfersize = one_size d.xfersize h.1.1.1.1.1.0.fits;
}

some_length : (ns : List ℕ) → has_number (Some (value.Numbers ns)) ≡ true → 0 < length ns
some_length [] h = absurd (false≢true h)
some_length (n ∷ ns) h = omega arith

has_length : (ns : List ℕ) → 0 < length ns → has_number (Some (value.Numbers ns)) ≡ true
has_length [] h = absurd (omega (arith, h))
has_length (n ∷ ns) h = refl

abbrev Numbered : RdDef → List ℕ → Type 0
Numbered d word = has_number (value_at kind.Rd word (rd_view d)) ≡ true

threads_number : (d : RdDef) → value_at kind.Rd (codes "forthreads") (rd_view d) ≡ Some (value.Numbers d.forthreads)
unfolding words_of
threads_number d = refl

sizes_number : (d : RdDef) → value_at kind.Rd (codes "forxfersize") (rd_view d) ≡ Some (value.Numbers d.forxfersize)
unfolding words_of
sizes_number d = refl

percents_number : (d : RdDef) → value_at kind.Rd (codes "forrdpct") (rd_view d) ≡ Some (value.Numbers d.forrdpct)
unfolding words_of
percents_number d = refl

has_loop : (d : RdDef) (word : List ℕ) → is_among word loop_words ≡ true → Numbered d word → HasLoop d word
has_loop d word loop number = elim (loop_cases word loop) [
  | inl a ↦ inl (a, some_length d.forthreads (sym (ap has_number (threads_number d)) ∙ subst (Numbered d) a number))
  | inr b ↦ elim b [
    | inl c ↦ inr (inl (c, some_length d.forxfersize (sym (ap has_number (sizes_number d)) ∙ subst (Numbered d) c number)))
    | inr e ↦ inr (inr (e, some_length d.forrdpct (sym (ap has_number (percents_number d)) ∙ subst (Numbered d) e number)))
  ]
]

loop_has : (d : RdDef) (word : List ℕ) → HasLoop d word → (is_among word loop_words ≡ true) × Numbered d word
loop_has d word h = elim h [
  | inl a ↦ (subst (λ w. is_among w loop_words ≡ true) (sym a.0) refl, subst (Numbered d) (sym a.0) (ap has_number (threads_number d) ∙ has_length d.forthreads a.1))
  | inr b ↦ elim b [
    | inl c ↦ (subst (λ w. is_among w loop_words ≡ true) (sym c.0) refl, subst (Numbered d) (sym c.0) (ap has_number (sizes_number d) ∙ has_length d.forxfersize c.1))
    | inr e ↦ (subst (λ w. is_among w loop_words ≡ true) (sym e.0) refl, subst (Numbered d) (sym e.0) (ap has_number (percents_number d) ∙ has_length d.forrdpct e.1))
  ]
]

all_loops : (d : RdDef) (words : List (List ℕ)) → AllByRecursion (λ word. (is_among word loop_words ≡ true) × Numbered d word) words → AllByRecursion (HasLoop d) words
all_loops d [] h = tt
all_loops d (word ∷ words) h = (has_loop d word h.0.0 h.0.1, all_loops d words h.1)

pub rd_fits : (d : RdDef) → AreLoose 1048576 (forms_of kind.Rd) (rd_view d) → LoopsFit (rd_shows d) → IsRd d
unfolding rows_of
rd_fits d h loops = record {
  elapsed = one_time d.elapsed h.0.fits;
  interval = one_time d.interval h.1.1.1.1.1.1.1.0.fits;
  iorate = one_rate d.iorate h.1.1.1.1.1.1.1.1.0.fits;
  fwdrate = one_rate d.fwdrate h.1.1.1.1.1.1.0.fits;
  turns = one_from 1 4294967295 d.turns h.1.1.1.1.1.1.1.1.1.1.0.fits;
  forthreads = some_from 1 256 d.forthreads h.1.1.1.0.fits;
  forxfersize = some_sizes d.forxfersize h.1.1.1.1.0.fits;
  forrdpct = All-weaker (ranges.IsFrom 0 100) (λ n. n ≤ 100) (λ n from. from.at_most) d.forrdpct (some_from 0 100 d.forrdpct h.1.1.0.fits);
  few_workloads = h.1.1.1.1.1.1.1.1.1.1.1.0.few;
  few_file_workloads = h.1.1.1.1.1.0.few;
  few_threads = h.1.1.1.0.few;
  few_sizes = h.1.1.1.1.0.few;
  few_percents = h.1.1.0.few;
  loops = All-from_recursion (HasLoop d) d.loops (all_loops d d.loops loops.all);
  every_loop = λ word has. (let both = loop_has d word has in loops.every word both.0 both.1);
  loop_once = apart_pairs d.loops loops.once;
}
