-- What holds of the definitions of a file that is accepted.
use Rattle.std.specs.Prelude.{◌≡◌, ◌⊎◌, ℕ, List, ◌<◌, ◌≤◌, ◌%◌, ◌^◌, ◌-◌, All, AllPairs, Contains, IfSome, IsTrue, codes, length, map}
use Rattle.vd_base.specs.Name.{is_store_name}
use Rattle.parm_records.specs.declared.files.FsdDef.{FsdDef}
use Rattle.parm_records.specs.declared.files.FwdDef.{FwdDef}
use Rattle.parm_records.specs.declared.general.General.{General}
use Rattle.parm_records.specs.declared.general.HdDef.{HdDef}
use Rattle.parm_records.specs.declared.runs.RdDef.{RdDef}
use Rattle.parm_records.specs.declared.stores.SdDef.{SdDef}
use Rattle.parm_records.specs.declared.stores.WdDef.{WdDef}

-- a number from least to greatest
pub record IsFrom (least greatest n : ℕ) : Type 0 where
  pub at_least : least ≤ n
  pub at_most : n ≤ greatest

-- a multiple of 512 up to 1,048,576
pub record IsBlockSize (n : ℕ) : Type 0 where
  pub range : IsFrom 1 1048576 n
  pub whole : n % 512 ≡ 0

-- a file has at most so many bytes, and so at most so many items
abbrev pub IsShort : {A : Type 0} → List A → Type 0
IsShort items = length items ≤ 1048576

pub record IsGeneral (g : General) : Type 0 where
  pub data_errors : IsFrom 1 10000 g.data_errors
  pub journal_sectors : IsFrom 1 65536 g.journal_sectors

pub record IsHd (d : HdDef) : Type 0 where
  pub jvms : IsFrom 1 16 d.jvms

pub record IsSd (d : SdDef) : Type 0 where
  pub name : IsTrue (is_store_name d.name)
  pub few_hosts : IsShort d.host
  pub keyblock : IfSome d.keyblock IsBlockSize
  pub size : IfSome d.size (λ n. IsFrom 1 (2 ^ 63 - 1) n)
  pub threads : IsFrom 1 256 d.threads

pub record IsWd (d : WdDef) : Type 0 where
  pub few_hosts : IsShort d.host
  pub few_stores : IsShort d.sd
  pub rdpct : d.rdpct ≤ 100
  pub seekpct : d.seekpct ≤ 100
  pub skew : IfSome d.skew (λ n. IsFrom 1 100 n)
  pub xfersize : IsBlockSize d.xfersize

-- the values of a loop's keyword
abbrev pub HasLoop : RdDef → List ℕ → Type 0
HasLoop d word =
    ((word ≡ codes "forthreads") × (0 < length d.forthreads))
    ⊎ ((word ≡ codes "forxfersize") × (0 < length d.forxfersize))
    ⊎ ((word ≡ codes "forrdpct") × (0 < length d.forrdpct))

pub record IsRd (d : RdDef) : Type 0 where
  pub elapsed : IsFrom 1 8640000 d.elapsed
  pub interval : IsFrom 1 8640000 d.interval
  pub iorate : d.iorate ≤ 10000000
  pub fwdrate : d.fwdrate ≤ 10000000
  pub turns : IsFrom 1 (2 ^ 32 - 1) d.turns
  pub forthreads : All (IsFrom 1 256) d.forthreads
  pub forxfersize : All IsBlockSize d.forxfersize
  pub forrdpct : All (λ n. n ≤ 100) d.forrdpct
  pub few_workloads : IsShort d.wd
  pub few_file_workloads : IsShort d.fwd
  pub few_threads : IsShort d.forthreads
  pub few_sizes : IsShort d.forxfersize
  pub few_percents : IsShort d.forrdpct
  pub loops : All (HasLoop d) d.loops
  -- a list of values that isn't empty is a loop
  pub every_loop : (word : List ℕ) → HasLoop d word → Contains d.loops word
  pub loop_once : AllPairs (λ a b. a ≡ b → ⊥) d.loops

-- no two of a kind have one name
abbrev pub AreDifferent : List (List ℕ) → Type 0
AreDifferent names = AllPairs (λ a b. a ≡ b → ⊥) names

-- all definitions of a file
pub record Defs : Type 0 where
  pub general : General
  pub hds : List HdDef
  pub sds : List SdDef
  pub wds : List WdDef
  pub rds : List RdDef
  pub fsds : List FsdDef
  pub fwds : List FwdDef

pub record AreDefs (d : Defs) : Type 0 where
  pub general : IsGeneral d.general
  pub hds : All IsHd d.hds
  pub few_hds : length d.hds ≤ 16
  pub hd_names : AreDifferent (map (λ e. e.name) d.hds)
  pub sds : All IsSd d.sds
  pub few_sds : length d.sds ≤ 64
  pub sd_names : AreDifferent (map (λ e. e.name) d.sds)
  pub wds : All IsWd d.wds
  pub few_wds : length d.wds ≤ 64
  pub wd_names : AreDifferent (map (λ e. e.name) d.wds)
  pub rds : All IsRd d.rds
  pub few_rds : length d.rds ≤ 256
  pub few_fsds : length d.fsds ≤ 64
  pub few_fwds : length d.fwds ≤ 64
