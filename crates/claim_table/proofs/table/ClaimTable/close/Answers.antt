use Rattle.claim_table.proofs.LastState.{returned_all}
use Rattle.claim_table.proofs.table.ClaimTable.close.Goals as goal

pub returns-clause-returned : goal.returns-clause-returned
returns-clause-returned g c = returned_all _ _ _ _ _ c.gather-seat.ensures.all c.close_with.ensures.returned
