-- `diagram::inner::letter` meets its contract.
use mathlib.Core.Path.{sym, ◌∙◌}
use Rattle.laws.specs.Boards.{men_at}
use Rattle.diagram.proofs.Drawn.{shown_none, shown_some}
use Rattle.diagram.proofs.inner.letter.Goals as goal

pub returns-then-letter-eq0 : goal.returns-then-letter-eq0
returns-then-letter-eq0 c = let e = c.letter_at-letter.ensures in let a = c.args in shown_none (men_at a.d.pieces a.d.colors a.k) (sym e ∙ c.if-letter-eq0.true)

pub returns-else-letter-eq0 : goal.returns-else-letter-eq0
returns-else-letter-eq0 c = let e = c.letter_at-letter.ensures in let a = c.args in e ∙ shown_some (men_at a.d.pieces a.d.colors a.k) (λ z. c.if-letter-eq0.false (e ∙ z))
