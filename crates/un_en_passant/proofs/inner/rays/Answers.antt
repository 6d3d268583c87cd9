-- `un_en_passant::inner::rays` meets its contract.
use mathlib.Core.Path.{ap}
use lib.Bits.{bit_or}
use Rattle.un_en_passant.specs.UnEnPassants.{rays_of}
use Rattle.squares.proofs.Turns.{taken_lt, going_starts, going_on, going_done}
use Rattle.un_en_passant.proofs.inner.rays.Goals as goal

pub loop-checker-init : goal.loop-checker-init
loop-checker-init c = going_starts (cc)

pub between-out-requires : goal.between-out-requires
between-out-requires c = (c.requires.0, taken_lt _ c.in-Some.ensures.steps, c.requires.1)

pub loop-checker-preserved : goal.loop-checker-preserved
loop-checker-preserved c = going_on c.loop-checker.invariant c.in-Some.ensures.steps (ap (bit_or c.loop-checker.out) c.between-out.ensures)

pub returns : goal.returns
unfolding rays_of
returns c = going_done c.loop-checker.invariant c.in-None.ensures.steps.0
