-- What stands behind every command: what holds in every order of events, and where a block is reported.
use Rattle.key_state.specs.Entries.{IsHistory}
use Rattle.block_verdict.specs.Verdicts.{FitsWherePermitted, HasOneVerdict, SoundWhereFit}
use Rattle.interleave_core.specs.Sound.{Always, HoldsApart, RecoversAll, SectorsFit, Sound, StopsFitting}

-- After every list of events of workers, their journal and their device, stops and recoveries among them, for whatever number of each: no block
-- is in two operations; the history is legal; each block's sectors fit its entry, also after a stop within any write, whatever of
-- the unsynced records it leaves; and recovery makes no block bad that wasn't.
pub record EveryInterleaving : Type 0 where
  pub sound : Always Sound
  pub apart : Always HoldsApart
  pub legal : Always (λ w. IsHistory w.base w.records)
  pub fitting : Always SectorsFit
  pub stopped : Always StopsFitting
  pub recovered : Always RecoversAll

-- A block as read has one verdict, which reports it exactly where its bytes don't fit its entry: where a sector matches no key that the entry
-- permits.
pub record ReportsExactly : Type 0 where
  pub one : HasOneVerdict
  pub reported : SoundWhereFit
  pub permitted : FitsWherePermitted
