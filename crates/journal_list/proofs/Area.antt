-- An area that recovery refuses gives nothing.
use Rattle.std.proofs.Common.{◌≡◌, inl, inr, ℕ, ◌≤◌, ◌-◌, List, Err, subst, arith}
use Rattle.key_state.specs.declared.entry.Entry.{Entry}
use Rattle.key_state.specs.declared.record.Record.{Record}
use Rattle.journal_layout.specs.declared.damage.Damage.TheVariants.{Missing, Map, Header, Record as AtRecord, Tail}
use Rattle.journal_layout.specs.declared.live.Live.{Live}
use Rattle.journal_layout.specs.Recovery.{Sectors, IsMap, Stores, Ending, Complete, WrongHeader, WrongRecord, WrongTail, area_of, blocks_of, gate_of_live, log_of}
use Rattle.journal_layout.proofs.SameGate.{one_gate}
use Rattle.journal_layout.proofs.OneOutcome.{one_map, map_or_fault, one_log}
use Rattle.journal_recover.specs.declared.fault.RecoverFault.{RecoverFault}
use Rattle.journal_recover.specs.declared.fault.RecoverFault.TheVariants.{NoJournal, Mismatch, Damaged, Failed, NoMemory}
use Rattle.journal_recover.specs.Answers.{AreaGives, FindsArea}
use Rattle.journal_list.specs.Lists.{IsBefore, IsOutside}

pub one_before : (sectors : Sectors) (live a b : Live) → IsBefore sectors live a → IsBefore sectors live b → a ≡ b
one_before sectors live a b is_a is_b =
    let gates : gate_of_live a ≡ gate_of_live b = one_gate sectors (1 - area_of live) (gate_of_live a) (gate_of_live b) is_a.gate is_b.gate in
    λ i. record { version = (gates i).version; epoch = (gates i).epoch; id = (gates i).id; log_sectors = (gates i).log_sectors }

module _ (sectors : Sectors) (live other : Live) (before : IsBefore sectors live other) (many : ℕ) (there : List Entry) (gives : AreaGives sectors other many there) where
  -- two endings of one log
  ends_once : (base : List Entry) (records : List Record) (ending : Ending) → IsMap sectors other base → Stores other base (log_of sectors other) records ending → ending ≡ Complete
  ends_once base records ending is stores =
      let own = gives.1.2 in
      let same = one_map sectors other base gives.1.0 is gives.1.1 in
      let here = subst (λ (es : List Entry). Stores other es (log_of sectors other) records ending) same stores in
      let few : blocks_of other ≤ 16777216 = before.gate.is_gate.id.is_geometry.few_blocks in
      (one_log other few gives.1.0 (log_of sectors other) records own.0 ending Complete here own.1).1

  refused : (why : RecoverFault) → FindsArea sectors other (Err why) → (IsOutside why → ⊥) → ⊥
  refused (Damaged sector Missing at) (inl map) wrong = omega (arith, map.0, gives.0)
  refused (Damaged sector Missing at) (inr log) wrong = log.1.3
  refused (Damaged sector Map at) (inl map) wrong = map_or_fault sectors other gives.1.0 map.1.0 gives.1.1 map.1.1
  refused (Damaged sector Map at) (inr log) wrong = log.1.3
  refused (Damaged sector Header at) (inl map) wrong = map
  refused (Damaged sector Header at) (inr log) wrong =
      let ends : WrongHeader ≡ Complete = ends_once log.1.0 log.1.3.0 WrongHeader log.1.2 log.1.3.1 in cc
  refused (Damaged sector AtRecord at) (inl map) wrong = map
  refused (Damaged sector AtRecord at) (inr log) wrong =
      let ends : WrongRecord ≡ Complete = ends_once log.1.0 log.1.3.0 WrongRecord log.1.2 log.1.3.1 in cc
  refused (Damaged sector Tail at) (inl map) wrong = map
  refused (Damaged sector Tail at) (inr log) wrong =
      let ends : WrongTail ≡ Complete = ends_once log.1.0 log.1.3.0 WrongTail log.1.2 log.1.3.1 in cc
  refused Failed finds wrong = wrong tt
  refused NoMemory finds wrong = wrong tt
  refused NoJournal (inl map) wrong = map
  refused NoJournal (inr log) wrong = log.1.3
  refused (Mismatch found named) (inl map) wrong = map
  refused (Mismatch found named) (inr log) wrong = log.1.3

pub no_area : (sectors : Sectors) (live other : Live) (why : RecoverFault) → IsBefore sectors live other → FindsArea sectors other (Err why) → (IsOutside why → ⊥)
    → (another : Live) (many : ℕ) (there : List Entry) → IsBefore sectors live another → AreaGives sectors another many there → ⊥
no_area sectors live other why before finds wrong another many there is gives =
    let same = one_before sectors live another other is before in
    refused sectors live other before many there (subst (λ (l : Live). AreaGives sectors l many there) same gives) why finds wrong
