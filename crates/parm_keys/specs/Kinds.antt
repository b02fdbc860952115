-- The keywords of each kind of definition, in rising order.
use Rattle.std.specs.Prelude.{ℕ, List, [], ◌∷◌, codes}

-- a line of general parameters
abbrev pub general_words : List (List ℕ)
general_words =
    codes "create_anchors" ∷ codes "data_errors" ∷ codes "journal_sectors" ∷ codes "messagescan" ∷ codes "validate" ∷ []

-- a host
abbrev pub hd_words : List (List ℕ)
hd_words =
    codes "jvms" ∷ codes "shell" ∷ codes "system" ∷ codes "user" ∷ codes "vdbench" ∷ []

-- a storage definition
abbrev pub sd_words : List (List ℕ)
sd_words =
    codes "count" ∷ codes "host" ∷ codes "journal" ∷ codes "keyblock" ∷ codes "lun" ∷ codes "openflags" ∷ codes "size"
    ∷ codes "threads" ∷ []

-- a workload definition
abbrev pub wd_words : List (List ℕ)
wd_words =
    codes "host" ∷ codes "rdpct" ∷ codes "sd" ∷ codes "seekpct" ∷ codes "skew" ∷ codes "xfersize" ∷ []

-- a run definition
abbrev pub rd_words : List (List ℕ)
rd_words =
    codes "elapsed" ∷ codes "format" ∷ codes "forrdpct" ∷ codes "forthreads" ∷ codes "forxfersize" ∷ codes "fwd"
    ∷ codes "fwdrate" ∷ codes "interval" ∷ codes "iorate" ∷ codes "openflags" ∷ codes "turns" ∷ codes "wd" ∷ []

-- a file system
abbrev pub fsd_words : List (List ℕ)
fsd_words =
    codes "anchor" ∷ codes "count" ∷ codes "depth" ∷ codes "distribution" ∷ codes "files" ∷ codes "journal"
    ∷ codes "keyblock" ∷ codes "openflags" ∷ codes "shared" ∷ codes "sizes" ∷ codes "width" ∷ []

-- a workload on files
abbrev pub fwd_words : List (List ℕ)
fwd_words =
    codes "fileio" ∷ codes "fileselect" ∷ codes "fsd" ∷ codes "host" ∷ codes "operation" ∷ codes "rdpct" ∷ codes "skew"
    ∷ codes "threads" ∷ codes "xfersize" ∷ []
