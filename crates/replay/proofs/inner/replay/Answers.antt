-- `replay::inner::replay` meets its contract.
use mathlib.Core.Path.{ap, sym, ◌∙◌}
use Rattle.position.specs.Answers.{answered}
use Rattle.replay.specs.Replayed.{replay_to}
use Rattle.replay.proofs.Forwards.{goes_of}
use Rattle.replay.proofs.inner.replay.Goals as goal

pub returns-then-not-possible : goal.returns-then-not-possible
unfolding replay_to
returns-then-not-possible c = rw (sym c.possible.ensures ∙ c.if-not-possible.true) c.refuse.ensures

pub forward-e-requires : goal.forward-e-requires
forward-e-requires c = goes_of c.args.p c.args.r c.args.k c.requires.1 (sym c.possible.ensures ∙ c.if-not-possible.false)

pub returns : goal.returns
unfolding replay_to
returns c = rw (sym c.possible.ensures ∙ c.if-not-possible.false) (ap answered c.forward-e.ensures)
