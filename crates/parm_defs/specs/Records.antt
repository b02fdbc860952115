-- The values of the keywords that each record has, in the order of its kind's table.
use Rattle.std.specs.Prelude.{ℕ, List, [], ◌∷◌, Option, Some, None, map, unwrap_or}
use Rattle.std.specs.Option.{option_to_list}
use Rattle.parm_records.specs.Ranges.{Defs}
use Rattle.parm_records.specs.declared.files.FsdDef.{FsdDef}
use Rattle.parm_records.specs.declared.files.FwdDef.{FwdDef}
use Rattle.parm_records.specs.declared.general.General.{General}
use Rattle.parm_records.specs.declared.general.HdDef.{HdDef}
use Rattle.parm_records.specs.declared.runs.RdDef.{RdDef}
use Rattle.parm_records.specs.declared.stores.SdDef.{SdDef}
use Rattle.parm_records.specs.declared.stores.WdDef.{WdDef}
use Rattle.parm_forms.specs.declared.value.Value.{Value}
use Rattle.parm_forms.specs.declared.value.Value.TheVariants.{Numbers, Texts}
use Rattle.parm_defs.specs.declared.made.Def.{Def}
use Rattle.parm_defs.specs.File.{Read}

abbrev pub number : ℕ → Value
number n = Numbers (n ∷ [])

abbrev pub text : List ℕ → Value
text t = Texts (t ∷ [])

abbrev pub general_view : General → List Value
general_view g = text g.create_anchors ∷ number g.data_errors ∷ number g.journal_sectors ∷ text g.messagescan ∷ Texts g.validate ∷ []

abbrev pub hd_view : HdDef → List Value
hd_view d = number d.jvms ∷ text d.shell ∷ text d.system ∷ text d.user ∷ text d.vdbench ∷ []

abbrev pub sd_view : SdDef → List Value
sd_view d =
    Numbers d.count ∷ Texts d.host ∷ text d.journal ∷ Numbers (option_to_list d.keyblock) ∷ Texts (option_to_list d.lun)
    ∷ Texts d.openflags ∷ Numbers (option_to_list d.size) ∷ number d.threads ∷ []

abbrev pub wd_view : WdDef → List Value
wd_view d =
    Texts d.host ∷ number d.rdpct ∷ Texts d.sd ∷ number d.seekpct ∷ Numbers (option_to_list d.skew) ∷ number d.xfersize ∷ []

abbrev pub rd_view : RdDef → List Value
rd_view d =
    number d.elapsed ∷ text d.format ∷ Numbers d.forrdpct ∷ Numbers d.forthreads ∷ Numbers d.forxfersize ∷ Texts d.fwd
    ∷ number d.fwdrate ∷ number d.interval ∷ number d.iorate ∷ Texts d.openflags ∷ number d.turns ∷ Texts d.wd ∷ []

abbrev pub fsd_view : FsdDef → List Value
fsd_view d =
    Texts (option_to_list d.anchor) ∷ Numbers d.count ∷ Numbers (option_to_list d.depth) ∷ text d.distribution
    ∷ Numbers (option_to_list d.files) ∷ text d.journal ∷ Numbers (option_to_list d.keyblock) ∷ Texts d.openflags
    ∷ text d.shared ∷ Numbers d.sizes ∷ Numbers (option_to_list d.width) ∷ []

abbrev pub fwd_view : FwdDef → List Value
fwd_view d =
    text d.fileio ∷ text d.fileselect ∷ Texts d.fsd ∷ Texts d.host ∷ text d.operation ∷ number d.rdpct
    ∷ Numbers (option_to_list d.skew) ∷ number d.threads ∷ number d.xfersize ∷ []

-- a record as the definition that it shows
abbrev pub shows : ℕ → List ℕ → List Value → List (List ℕ) → Def
shows line name values loops = record { line = line; name = name; values = values; loops = loops }

abbrev pub hd_shows : HdDef → Def
hd_shows d = shows d.line d.name (hd_view d) []

abbrev pub sd_shows : SdDef → Def
sd_shows d = shows d.line d.name (sd_view d) []

abbrev pub wd_shows : WdDef → Def
wd_shows d = shows d.line d.name (wd_view d) []

abbrev pub rd_shows : RdDef → Def
rd_shows d = shows d.line d.name (rd_view d) d.loops

abbrev pub fsd_shows : FsdDef → Def
fsd_shows d = shows d.line d.name (fsd_view d) []

abbrev pub fwd_shows : FwdDef → Def
fwd_shows d = shows d.line d.name (fwd_view d) []

-- what all records of a file show
abbrev pub shown : Defs → Read
shown d = record {
  general = general_view d.general;
  hds = map hd_shows d.hds;
  sds = map sd_shows d.sds;
  wds = map wd_shows d.wds;
  rds = map rd_shows d.rds;
  fsds = map fsd_shows d.fsds;
  fwds = map fwd_shows d.fwds;
}

-- what values hold that are read one after another: the first of them and the rest; other values hold nothing
abbrev pub rest : List Value → List Value
rest [] = []
rest (value ∷ values) = values

abbrev pub numbers_in : List Value → List ℕ
numbers_in [] = []
numbers_in (Numbers numbers ∷ values) = numbers
numbers_in (Texts texts ∷ values) = []

abbrev pub texts_in : List Value → List (List ℕ)
texts_in [] = []
texts_in (Numbers numbers ∷ values) = []
texts_in (Texts texts ∷ values) = texts

abbrev pub only : {A : Type 0} → List A → Option A
only [] = None
only (x ∷ []) = Some x
only (x ∷ y ∷ xs) = None

abbrev pub maybe_number_in : List Value → Option ℕ
maybe_number_in values = only (numbers_in values)

abbrev pub maybe_text_in : List Value → Option (List ℕ)
maybe_text_in values = only (texts_in values)

abbrev pub number_in : List Value → ℕ
number_in values = unwrap_or (maybe_number_in values) 0

abbrev pub text_in : List Value → List ℕ
text_in values = unwrap_or (maybe_text_in values) []

-- the record of values, the other way round
abbrev pub general_in : List Value → General
general_in values =
    let from_data_errors = rest values in
    let from_journal_sectors = rest from_data_errors in
    let from_messagescan = rest from_journal_sectors in
    let from_validate = rest from_messagescan in
    record {
      create_anchors = text_in values;
      data_errors = number_in from_data_errors;
      journal_sectors = number_in from_journal_sectors;
      messagescan = text_in from_messagescan;
      validate = texts_in from_validate;
    }

abbrev pub hd_in : Def → HdDef
hd_in d =
    let from_shell = rest d.values in
    let from_system = rest from_shell in
    let from_user = rest from_system in
    let from_vdbench = rest from_user in
    record {
      line = d.line;
      name = d.name;
      jvms = number_in d.values;
      shell = text_in from_shell;
      system = text_in from_system;
      user = text_in from_user;
      vdbench = text_in from_vdbench;
    }

abbrev pub sd_in : Def → SdDef
sd_in d =
    let from_host = rest d.values in
    let from_journal = rest from_host in
    let from_keyblock = rest from_journal in
    let from_lun = rest from_keyblock in
    let from_openflags = rest from_lun in
    let from_size = rest from_openflags in
    let from_threads = rest from_size in
    record {
      line = d.line;
      name = d.name;
      count = numbers_in d.values;
      host = texts_in from_host;
      journal = text_in from_journal;
      keyblock = maybe_number_in from_keyblock;
      lun = maybe_text_in from_lun;
      openflags = texts_in from_openflags;
      size = maybe_number_in from_size;
      threads = number_in from_threads;
    }

abbrev pub wd_in : Def → WdDef
wd_in d =
    let from_rdpct = rest d.values in
    let from_sd = rest from_rdpct in
    let from_seekpct = rest from_sd in
    let from_skew = rest from_seekpct in
    let from_xfersize = rest from_skew in
    record {
      line = d.line;
      name = d.name;
      host = texts_in d.values;
      rdpct = number_in from_rdpct;
      sd = texts_in from_sd;
      seekpct = number_in from_seekpct;
      skew = maybe_number_in from_skew;
      xfersize = number_in from_xfersize;
    }

abbrev pub rd_in : Def → RdDef
rd_in d =
    let from_format = rest d.values in
    let from_forrdpct = rest from_format in
    let from_forthreads = rest from_forrdpct in
    let from_forxfersize = rest from_forthreads in
    let from_fwd = rest from_forxfersize in
    let from_fwdrate = rest from_fwd in
    let from_interval = rest from_fwdrate in
    let from_iorate = rest from_interval in
    let from_openflags = rest from_iorate in
    let from_turns = rest from_openflags in
    let from_wd = rest from_turns in
    record {
      line = d.line;
      name = d.name;
      loops = d.loops;
      elapsed = number_in d.values;
      format = text_in from_format;
      forrdpct = numbers_in from_forrdpct;
      forthreads = numbers_in from_forthreads;
      forxfersize = numbers_in from_forxfersize;
      fwd = texts_in from_fwd;
      fwdrate = number_in from_fwdrate;
      interval = number_in from_interval;
      iorate = number_in from_iorate;
      openflags = texts_in from_openflags;
      turns = number_in from_turns;
      wd = texts_in from_wd;
    }

abbrev pub fsd_in : Def → FsdDef
fsd_in d =
    let from_count = rest d.values in
    let from_depth = rest from_count in
    let from_distribution = rest from_depth in
    let from_files = rest from_distribution in
    let from_journal = rest from_files in
    let from_keyblock = rest from_journal in
    let from_openflags = rest from_keyblock in
    let from_shared = rest from_openflags in
    let from_sizes = rest from_shared in
    let from_width = rest from_sizes in
    record {
      line = d.line;
      name = d.name;
      anchor = maybe_text_in d.values;
      count = numbers_in from_count;
      depth = maybe_number_in from_depth;
      distribution = text_in from_distribution;
      files = maybe_number_in from_files;
      journal = text_in from_journal;
      keyblock = maybe_number_in from_keyblock;
      openflags = texts_in from_openflags;
      shared = text_in from_shared;
      sizes = numbers_in from_sizes;
      width = maybe_number_in from_width;
    }

abbrev pub fwd_in : Def → FwdDef
fwd_in d =
    let from_fileselect = rest d.values in
    let from_fsd = rest from_fileselect in
    let from_host = rest from_fsd in
    let from_operation = rest from_host in
    let from_rdpct = rest from_operation in
    let from_skew = rest from_rdpct in
    let from_threads = rest from_skew in
    let from_xfersize = rest from_threads in
    record {
      line = d.line;
      name = d.name;
      fileio = text_in d.values;
      fileselect = text_in from_fileselect;
      fsd = texts_in from_fsd;
      host = texts_in from_host;
      operation = text_in from_operation;
      rdpct = number_in from_rdpct;
      skew = maybe_number_in from_skew;
      threads = number_in from_threads;
      xfersize = number_in from_xfersize;
    }

-- the records of what is read
abbrev pub defs_in : Read → Defs
defs_in read = record {
  general = general_in read.general;
  hds = map hd_in read.hds;
  sds = map sd_in read.sds;
  wds = map wd_in read.wds;
  rds = map rd_in read.rds;
  fsds = map fsd_in read.fsds;
  fwds = map fwd_in read.fwds;
}
