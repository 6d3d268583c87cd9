-- `pins::inner::lone` meets its contract.
use mathlib.Core.Path.{◌∙◌, sym}
use borrow.Author.Tests.{eq-eqb, ne_eqb}
use Rattle.laws.specs.Boards.{men_at}
use Rattle.pins.proofs.Aloneness.{one_between, not_one_between}
use Rattle.pins.proofs.inner.lone.Goals as goal

pub returns-then-n-eq1 : goal.returns-then-n-eq1
returns-then-n-eq1 c = rw (c.between.ensures, c.occupied.ensures) (one_between (men_at c.args.pieces c.args.colors) c.args.a c.args.q (eq-eqb _ 1 (rw (c.between.ensures, c.occupied.ensures) at (sym c.count-n.ensures ∙ c.if-n-eq1.true))))

pub returns-else-n-eq1 : goal.returns-else-n-eq1
returns-else-n-eq1 c = not_one_between (men_at c.args.pieces c.args.colors) c.args.a c.args.q (ne_eqb _ 1 (λ e. c.if-n-eq1.false (c.count-n.ensures ∙ rw (c.between.ensures, c.occupied.ensures) e)))
