-- `rows::inner::put_listed_row` meets its contract.
use mathlib.Core.Path.{sym, ◌∙◌}
use Rattle.output.proofs.Adding.{adds_as}
use Rattle.rows.proofs.Rows.{listed_row_lem}
use Rattle.rows.proofs.inner.put_listed_row.Goals as goal

pub returns-then-is_marked : goal.returns-then-is_marked
returns-then-is_marked c = adds_as _ _ _ _ _ _ c.put_row.ensures (listed_row_lem c.args.slot (sym c.if-is_marked.true ∙ c.is_marked.ensures))

pub returns : goal.returns
returns c = adds_as _ _ _ _ _ _ c.put_row-2.ensures (listed_row_lem c.args.slot (sym c.if-is_marked.false ∙ c.is_marked.ensures))
