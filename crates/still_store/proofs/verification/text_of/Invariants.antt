use Rattle.std.proofs.Common.{◌≡◌, take}
use Rattle.still_store.specs.Verification.{findings_text}
use Rattle.still_store.proofs.verification.text_of.Given as goal

abbrev pub invariant-loop-finding : goal.invariant-loop-finding
invariant-loop-finding l = l.text ≡ findings_text l.store (take l.finding-index l.found)
