-- `back::inner::uncaptured` meets its contract.
use mathlib.Core.Path.{◌∙◌, ap}
use Rattle.laws.specs.Men.{Man}
use Rattle.incremental.specs.Moved.{uncaptured_of}
use Rattle.back.proofs.Places.{queen_numbered}
use Rattle.back.proofs.inner.uncaptured.Goals as goal

pub returns-in-0 : goal.returns-in-0
unfolding uncaptured_of
returns-in-0 c = rw c.in-0.is

pub returns-in-1 : goal.returns-in-1
unfolding uncaptured_of
returns-in-1 c = c.xor.ensures ∙ rw c.in-1.is

pub returns-in-2 : goal.returns-in-2
unfolding uncaptured_of
returns-in-2 c = c.xor-in-2.ensures ∙ rw c.in-2.is

pub returns-in-3 : goal.returns-in-3
unfolding uncaptured_of
returns-in-3 c = c.xor-in-3.ensures ∙ rw c.in-3.is

pub returns-in-4 : goal.returns-in-4
unfolding uncaptured_of
returns-in-4 c = c.xor-in-4.ensures ∙ rw c.in-4.is

pub returns-in_default : goal.returns-in_default
unfolding uncaptured_of
returns-in_default c = let a = c.args in let n = c.in_default.in_default-own.rest in c.xor-in_default.ensures ∙ ap (λ (x : Man). uncaptured_of a.b x a.bb) (queen_numbered a.turn a.kind n.0.0.0.0.1 n.0.0.0.1 n.0.0.1 n.0.1 n.1)
