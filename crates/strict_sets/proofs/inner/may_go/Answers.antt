-- `strict_sets::inner::may_go` meets its contract.
use mathlib.Core.Path.{◌∙◌, sym, ap}
use mathlib.Core.Bool.{not}
use Rattle.geometry.specs.declared.Color.{Color}
use Rattle.laws.specs.Men.{is_of, man_of}
use Rattle.unmake.specs.Retracted.{held_for}
use Rattle.moves.proofs.Steps.{not_then, and_then}
use Rattle.strict_sets.proofs.inner.may_go.Goals as goal

pub is_of-requires : goal.is_of-requires
is_of-requires c = c.requires

pub returns-then-not-is_of : goal.returns-then-not-is_of
returns-then-not-is_of c = not_then _ _ (sym (c.is_of.ensures ∙ ap (λ (d : Color). is_of d (man_of c.args.x)) c.other.ensures) ∙ c.if-not-is_of.true)

pub returns : goal.returns
unfolding held_for
returns c = and_then _ _ (sym (c.is_of.ensures ∙ ap (λ (d : Color). is_of d (man_of c.args.x)) c.other.ensures) ∙ c.if-not-is_of.false) (ap not c.is_held.ensures)
