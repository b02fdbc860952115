-- From what the gates, the map and the log say to what the sectors give.
use Rattle.std.proofs.Common.{◌≡◌, ◌≤◌, inl, inr, List, length, Result, Ok, Err, sym, subst}
use Rattle.key_state.specs.declared.record.Record.{Record}
use Rattle.vd_base.specs.declared.geometry.StoreId.{StoreId}
use Rattle.journal_layout.specs.Recovery.{Sectors, Gives, Recovers, IsLive, IsWhole, journal_end}
use Rattle.journal_layout.specs.declared.damage.Damage.TheVariants.{Missing, Map, Header, Record as Illegal, Tail}
use Rattle.journal_layout.specs.declared.live.Live.{Live}
use Rattle.journal_recover.specs.declared.found.Recovered.{Recovered}
use Rattle.journal_recover.specs.declared.fault.RecoverFault.{RecoverFault}
use Rattle.journal_recover.specs.declared.fault.RecoverFault.TheVariants.{NoJournal, Mismatch, Damaged, Failed, NoMemory}
use Rattle.journal_recover.specs.Answers.{Answers, FindsArea, FindsWanted, AreaGives}

module _ (sectors : Sectors) (wanted : StoreId) (live : Live) (is_live : IsLive sectors live) (is_wanted : live.id ≡ wanted) where
  whole : journal_end live ≤ length sectors → IsWhole sectors wanted live
  whole room = record { is_live = is_live; is_wanted = is_wanted; has_room = room }

  recovers : (found : Recovered) → found.live ≡ live → AreaGives sectors live found.records found.entries.items → Answers sectors wanted (Ok found)
  recovers found same is =
      let all = is.1.2 in
      subst (λ (l : Live). (records : List Record) × (length records ≡ found.records) × Gives sectors wanted (Recovers l records found.entries.items)) (sym same)
      (all.0, all.2, (whole is.0, (is.1.0, is.1.1, all.1, all.3)))

  pub area_answers : (result : Result Recovered RecoverFault) → FindsArea sectors live result → Answers sectors wanted result
  area_answers (Ok found) finds = recovers found finds.0 finds.1
  area_answers (Err (Damaged sector Missing at)) (inl map) = (live, is_live, is_wanted, map.0, map.1, map.2)
  area_answers (Err (Damaged sector Missing at)) (inr log) = absurd log.1.3
  area_answers (Err (Damaged sector Map at)) (inl map) = (live, whole map.0, map.1)
  area_answers (Err (Damaged sector Map at)) (inr log) = absurd log.1.3
  area_answers (Err (Damaged sector Header at)) (inl map) = absurd map
  area_answers (Err (Damaged sector Header at)) (inr log) =
      let is = log.1.3 in (live, whole log.0, (log.1.0, is.0, record { is_map = log.1.2; stores = is.1; is_sector = is.2; is_at = is.3 }))
  area_answers (Err (Damaged sector Illegal at)) (inl map) = absurd map
  area_answers (Err (Damaged sector Illegal at)) (inr log) =
      let is = log.1.3 in (live, whole log.0, (log.1.0, is.0, record { is_map = log.1.2; stores = is.1; is_sector = is.2; is_at = is.3 }))
  area_answers (Err (Damaged sector Tail at)) (inl map) = absurd map
  area_answers (Err (Damaged sector Tail at)) (inr log) =
      let is = log.1.3 in (live, whole log.0, (log.1.0, is.0, record { is_map = log.1.2; stores = is.1; is_sector = is.2; is_at = is.3 }))
  area_answers (Err Failed) finds = tt
  area_answers (Err NoMemory) finds = tt
  area_answers (Err NoJournal) (inl map) = absurd map
  area_answers (Err NoJournal) (inr log) = absurd log.1.3
  area_answers (Err (Mismatch found named)) (inl map) = absurd map
  area_answers (Err (Mismatch found named)) (inr log) = absurd log.1.3

-- a refusal at the gates
pub wanted_answers : (sectors : Sectors) (wanted : StoreId) (why : RecoverFault) → FindsWanted sectors wanted (Err why) → Answers sectors wanted (Err why)
wanted_answers sectors wanted NoJournal finds = finds
wanted_answers sectors wanted (Mismatch found named) finds = finds
wanted_answers sectors wanted (Damaged sector what at) finds = absurd finds
wanted_answers sectors wanted Failed finds = tt
wanted_answers sectors wanted NoMemory finds = tt
