-- `position::inner::edited` meets its contract.
use mathlib.Core.Path.{◌∙◌, ap, sym}
use borrow.Author.Rules.{rules}
use Rattle.position.specs.inner.Edits.{edit}
use Rattle.position.proofs.Editing.{edit_in, edit_out}
use Rattle.position.proofs.inner.edited.Goals as goal

pub returns-then-on : goal.returns-then-on
returns-then-on c = rw c.bit.ensures (edit_in c.args.set c.args.s (search rules) ∙ ap (edit c.args.set c.args.s) (sym c.if-on.true))

pub returns : goal.returns
returns c = c.without.ensures ∙ edit_out c.args.set c.args.s ∙ ap (edit c.args.set c.args.s) (sym c.if-on.false)
