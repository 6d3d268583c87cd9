-- `limited::sides` meets its contract.
use mathlib.Core.Path.{sym, ap, ◌∙◌}
use mathlib.Core.Bool.{Bool, true, false}
use Rattle.std.specs.Prelude.{Ok, Err}
use Rattle.refusal.proofs.Saying.{handed_on}
use Rattle.limited.specs.Limiting.{limited_says, sides_of}
use Rattle.limited.proofs.Fitting.{side_then, flip_whole}
use Rattle.limited.proofs.sides.Goals as goal

pub side-requires-2 : goal.side-requires-2
side-requires-2 c = (c.requires.0, rw c.flip.ensures (flip_whole _ c.requires.1))

pub returns-in_err-side : goal.returns-in_err-side
unfolding sides_of
returns-in_err-side c = rw (handed_on _ _ c.from_residual.ensures.1) (side_then _ _ (Err _) c.in_err-side.ensures)

pub returns-then-branch : goal.returns-then-branch
unfolding sides_of
returns-then-branch c = side_then _ _ (Ok true) (ap (λ (t : Bool). limited_says (Ok t)) (sym c.if-branch.true) ∙ c.in_ok-side.ensures)

pub returns : goal.returns
unfolding sides_of
returns c = rw (c.side-2.ensures, c.flip.ensures) (side_then _ _ (Ok false) (ap (λ (t : Bool). limited_says (Ok t)) (sym c.if-branch.false) ∙ c.in_ok-side.ensures))
