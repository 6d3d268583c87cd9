use mathlib.Core.Path.{◌∙◌, ap}
use mathlib.Core.Bool.{false}
use native.Mathlib.Omega.{arith}
use Rattle.volume_contents.specs.declared.Entry.{Entry}
use Rattle.volume_read.proofs.Tables.{sized, rising_rows, none_other}
use Rattle.volume_read.proofs.inner.problem.Goals as goal

pub find-i-requires : goal.find-i-requires
find-i-requires c = (omega arith, c.requires.0, rising_rows c.args.v.now c.args.n c.requires.1)

pub returns-then-row-number : goal.returns-then-row-number
returns-then-row-number c = none_other c.args.v.now c.args.n c.args.number c.find-i.result c.find-i.ensures c.requires.1 c.if-i-n.false (λ e. c.if-row-number.true (ap (λ (x : Entry). x.number) c.entry-row.ensures.0 ∙ e))

pub board-requires : goal.board-requires
board-requires c = (sized false c.args.v.now c.args.n c.requires.0 c.requires.1, omega (arith, c.if-i-n.false))
