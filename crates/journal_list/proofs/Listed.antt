-- What is listed where the live area was found.
use Rattle.std.proofs.Common.{◌≡◌, inr, ℕ, List, Err}
use Rattle.key_state.specs.declared.entry.Entry.{Entry}
use Rattle.key_state.specs.declared.record.Record.{Record}
use Rattle.vd_base.specs.declared.geometry.StoreId.{StoreId}
use Rattle.journal_layout.specs.declared.damage.Damage.TheVariants.{Missing, Map, Header, Record as AtRecord, Tail}
use Rattle.journal_layout.specs.declared.live.Live.{Live}
use Rattle.journal_layout.specs.Recovery.{Sectors, IsWhole, IsMap, Reads, Ending, WrongHeader, WrongRecord, WrongTail, log_of}
use Rattle.journal_recover.specs.declared.fault.RecoverFault.{RecoverFault}
use Rattle.journal_recover.specs.declared.fault.RecoverFault.TheVariants.{NoJournal, Mismatch, Damaged, Failed, NoMemory}
use Rattle.journal_recover.specs.Sinks.{Placed, placed}
use Rattle.journal_list.specs.Lists.{FindsRecords, IsDamage, IsOutside, IsWrongLog, ListsBefore}

module _ (sectors : Sectors) (wanted : StoreId) (live : Live) (whole : IsWhole sectors wanted live) (base : List Entry) (is_map : IsMap sectors live base) (listed : List Placed) where
  damage : (ending : Ending) (sector at : ℕ) → IsWrongLog live base (log_of sectors live) ending sector at listed → IsDamage sectors wanted ending sector at listed
  damage ending sector at is = (live, whole, (base, is.0, record { is_map = is_map; stores = is.1; is_sector = is.2; is_at = is.3 }, is.4))

  pub log_refused : (why : RecoverFault) → FindsRecords live base (log_of sectors live) listed (Err why) → ListsBefore sectors wanted listed why
  log_refused (Damaged sector Header at) finds = damage WrongHeader sector at finds
  log_refused (Damaged sector AtRecord at) finds = damage WrongRecord sector at finds
  log_refused (Damaged sector Tail at) finds = damage WrongTail sector at finds
  log_refused (Damaged sector Missing at) finds = absurd finds
  log_refused (Damaged sector Map at) finds = absurd finds
  log_refused Failed finds = inr (live, whole, (base, finds.0, is_map, finds.1, finds.2))
  log_refused NoMemory finds = inr (live, whole, (base, finds.0, is_map, finds.1, finds.2))
  log_refused NoJournal finds = absurd finds
  log_refused (Mismatch found named) finds = absurd finds

  -- a fault of the outside behind all records
  pub outside_after : (why : RecoverFault) → IsOutside why → (records : List Record) → Reads live base (log_of sectors live) records → listed ≡ placed live records
      → ListsBefore sectors wanted listed why
  outside_after Failed outside records reads is = inr (live, whole, (base, records, is_map, reads, is))
  outside_after NoMemory outside records reads is = inr (live, whole, (base, records, is_map, reads, is))
  outside_after NoJournal outside records reads is = absurd outside
  outside_after (Mismatch found named) outside records reads is = absurd outside
  outside_after (Damaged sector what at) outside records reads is = absurd outside
