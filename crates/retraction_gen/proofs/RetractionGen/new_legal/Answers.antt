-- `retraction_gen::RetractionGen::new_legal` meets its contract.
use mathlib.Core.Path.{sym, ◌∙◌}
use Rattle.refusal.proofs.Saying.{handed_on}
use Rattle.retraction_gen.proofs.Gated.{makes_refused, makes_on}
use Rattle.retraction_gen.proofs.RetractionGen.new_legal.Goals as goal

pub made_from-requires : goal.made_from-requires
made_from-requires c = (c.between_table-t.ensures, sym c.gate.ensures ∙ c.in_ok-gate.was)

pub returns-in_err-gate : goal.returns-in_err-gate
returns-in_err-gate c = makes_refused _ _ c.gate.ensures _ _ c.in_err-gate.was (handed_on _ _ c.from_residual.ensures.1)

pub returns : goal.returns
returns c = makes_on _ _ c.gate.ensures _ c.in_ok-gate.was c.made_from.ensures
