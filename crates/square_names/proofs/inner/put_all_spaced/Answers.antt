-- `square_names::inner::put_all_spaced` meets its contract.
use mathlib.Core.Path.{refl}
use borrow.Author.Rules.{rules}
use Rattle.square_names.specs.Names.{spaced_name}
use Rattle.squares.proofs.Turns.{going_starts, going_on, going_done}
use Rattle.square_names.proofs.Squares.{one_added, loop_adds}
use Rattle.square_names.proofs.inner.put_all_spaced.Goals as goal

pub loop-k-init : goal.loop-k-init
loop-k-init c = (going_starts (cc), refl)

pub loop-k-preserved : goal.loop-k-preserved
loop-k-preserved c = (going_on c.loop-k.invariant.0 c.in-Some.ensures.steps (one_added spaced_name c.put_spaced-at.ensures), search rules)

pub shape_of-out : goal.shape_of-out
shape_of-out c = c.loop-k.invariant.1

pub returns : goal.returns
returns c = loop_adds spaced_name _ _ _ _ _ c.requires (going_done c.loop-k.invariant.0 c.in-None.ensures.steps.0)
