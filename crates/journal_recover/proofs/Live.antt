-- The live gate, from the gates of both areas.
use Rattle.std.proofs.Common.{◌≡◌, inl, inr, ℕ, ◌-◌, ◌<◌, Option, Some, None, refl, sym, subst, arith}
use Rattle.std.proofs.lemmas.Bool.{cases_eq}
use Rattle.journal_layout.specs.declared.gate.Gate.{Gate}
use Rattle.journal_layout.specs.declared.live.Live.{Live}
use Rattle.journal_layout.specs.Recovery.{Sectors, HasGate, IsLive, area_of, gate_of_live}
use Rattle.journal_layout.proofs.SameGate.{one_gate}
use Rattle.journal_recover.specs.Gates.{IsGateOf, IsGreater, FindsLive}

-- what is below this epoch where it is the one that was found, is below it
below : (sectors : Sectors) (area epoch : ℕ) (found : Option Gate) → IsGateOf sectors area found → ((other : Gate) → found ≡ Some other → other.epoch < epoch)
    → (other : Gate) → HasGate sectors area other → other.epoch < epoch
below sectors area epoch None none less other has = absurd (none other has)
below sectors area epoch (Some gate) is less other has =
    subst (λ (g : Gate). g.epoch < epoch) (one_gate sectors area gate other is has) (less gate refl)

live_of : (sectors : Sectors) (first second : Option Gate) (live : Live) → IsGateOf sectors 0 first → IsGateOf sectors 1 second
    → IsGreater first second (Some live) → IsLive sectors live
live_of sectors first second live even odd (inl is) =
    let its : HasGate sectors 0 (gate_of_live live) = subst (IsGateOf sectors 0) is.0 even in
    let area : area_of live ≡ 0 = its.is_gate.its_area in
    record {
      gate = subst (λ a. HasGate sectors a (gate_of_live live)) (sym area) its;
      greatest = λ other has. below sectors 1 live.epoch second odd is.1 other (subst (λ a. HasGate sectors (1 - a) other) area has);
    }
live_of sectors first second live even odd (inr is) =
    let its : HasGate sectors 1 (gate_of_live live) = subst (IsGateOf sectors 1) is.0 odd in
    let area : area_of live ≡ 1 = its.is_gate.its_area in
    record {
      gate = subst (λ a. HasGate sectors a (gate_of_live live)) (sym area) its;
      greatest = λ other has. below sectors 0 live.epoch first even is.1 other (subst (λ a. HasGate sectors (1 - a) other) area has);
    }

none_of : (sectors : Sectors) (first second : Option Gate) → IsGateOf sectors 0 first → IsGateOf sectors 1 second → (first ≡ None) × (second ≡ None)
    → (area : ℕ) (gate : Gate) → area < 2 → HasGate sectors area gate → ⊥
none_of sectors first second even odd none area gate small has = elim (cases_eq area 0) [
  | inl zero ↦ subst (IsGateOf sectors 0) none.0 even gate (subst (λ a. HasGate sectors a gate) zero has)
  | inr other ↦
      let one : area ≡ 1 = omega (arith, small, other) in
      subst (IsGateOf sectors 1) none.1 odd gate (subst (λ a. HasGate sectors a gate) one has)
]

pub finds_live : (sectors : Sectors) (first second : Option Gate) (found : Option Live) → IsGateOf sectors 0 first → IsGateOf sectors 1 second
    → IsGreater first second found → FindsLive sectors found
finds_live sectors first second None even odd is = none_of sectors first second even odd is
finds_live sectors first second (Some live) even odd is = live_of sectors first second live even odd is
