-- `rows::inner::put_strict_row` meets its contract.
use mathlib.Core.Path.{sym, ◌∙◌}
use Rattle.output.proofs.Adding.{adds_as, adds_nothing}
use Rattle.rows.proofs.Rows.{strict_row_lem}
use Rattle.rows.proofs.inner.put_strict_row.Goals as goal

pub returns-then-is_marked : goal.returns-then-is_marked
returns-then-is_marked c = adds_as _ _ _ _ _ _ (adds_nothing _ _) (strict_row_lem _ (sym c.if-is_marked.true ∙ c.is_marked.ensures))

pub returns : goal.returns
returns c = adds_as _ _ _ _ _ _ c.put_row.ensures (strict_row_lem _ (sym c.if-is_marked.false ∙ c.is_marked.ensures))
