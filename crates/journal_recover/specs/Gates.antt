-- What is found of the gates.
use Rattle.std.specs.Prelude.{◌≡◌, ◌⊎◌, ⊤, ℕ, ◌%◌, ◌<◌, Option, Some, None}
use Rattle.vd_base.specs.Geometry.{IsGeometry}
use Rattle.journal_layout.specs.Gate.{IsWithinLimits}
use Rattle.journal_layout.specs.Recovery.{Sectors, HasGate, IsLive, gate_of_live}
use Rattle.journal_layout.specs.declared.gate.Gate.{Gate}
use Rattle.journal_layout.specs.declared.live.Live.{Live}

-- the gate of an area, if it has one
abbrev pub IsGateOf : Sectors → ℕ → Option Gate → Type 0
IsGateOf sectors area None = (gate : Gate) → HasGate sectors area gate → ⊥
IsGateOf sectors area (Some gate) = HasGate sectors area gate

-- what holds of a valid gate whatever its bytes
pub record IsValid (gate : Gate) : Type 0 where
  pub within : IsWithinLimits gate
  pub geometry : IsGeometry gate.id.geometry.blocks gate.id.geometry.block_size

abbrev pub IsGateFor : ℕ → Option Gate → Type 0
IsGateFor area None = ⊤
IsGateFor area (Some gate) = IsValid gate × (gate.epoch % 2 ≡ area)

-- The first or the second gate, where the other isn't there or has a lower epoch.
abbrev pub IsGreater : Option Gate → Option Gate → Option Live → Type 0
IsGreater first second None = (first ≡ None) × (second ≡ None)
IsGreater first second (Some live) =
    (first ≡ Some (gate_of_live live)) × ((other : Gate) → second ≡ Some other → other.epoch < live.epoch)
    ⊎ (second ≡ Some (gate_of_live live)) × ((other : Gate) → first ≡ Some other → other.epoch < live.epoch)

-- the live gate, if there is one
abbrev pub FindsLive : Sectors → Option Live → Type 0
FindsLive sectors None = (area : ℕ) (gate : Gate) → area < 2 → HasGate sectors area gate → ⊥
FindsLive sectors (Some live) = IsLive sectors live

-- what holds of it whatever the bytes
abbrev pub HasValidGate : Option Live → Type 0
HasValidGate None = ⊤
HasValidGate (Some live) = IsValid (gate_of_live live)
