-- `retraction_gen::uncaptured_candidates` meets its contract.
use Rattle.refusal.proofs.Saying.{handed_on}
use Rattle.retraction_gen.specs.Making.{masks_on}
use Rattle.retraction_gen.proofs.Gated.{masked_refused, masked_on}
use Rattle.retraction_gen.proofs.uncaptured_candidates.Goals as goal

pub returns-in_err-gate : goal.returns-in_err-gate
returns-in_err-gate c = masked_refused _ _ c.gate.ensures _ _ c.in_err-gate.was (handed_on _ _ c.from_residual.ensures.1)

pub returns : goal.returns
unfolding masks_on
returns c = masked_on _ _ c.gate.ensures c.in_ok-gate.was (rw c.position_of.ensures at c.candidates.ensures)
