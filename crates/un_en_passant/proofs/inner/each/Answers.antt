-- `un_en_passant::inner::each` meets its contract.
use Rattle.un_en_passant.specs.UnEnPassants.{passant_of}
use Rattle.squares.proofs.Turns.{taken_lt, going_starts, going_on}
use Rattle.retraction_list.proofs.Pushing.{pushing_done}
use Rattle.un_en_passant.proofs.inner.each.Goals as goal

pub loop-src-init : goal.loop-src-init
loop-src-init c = going_starts (cc)

pub passant-out-requires : goal.passant-out-requires
passant-out-requires c = (c.requires, taken_lt _ c.in-Some.ensures.steps)

pub loop-src-preserved : goal.loop-src-preserved
loop-src-preserved c = going_on c.loop-src.invariant c.in-Some.ensures.steps c.passant-out.ensures

pub returns : goal.returns
returns c = pushing_done (passant_of c.args.v c.args.n) c.loop-src.invariant c.in-None.ensures.steps.0
