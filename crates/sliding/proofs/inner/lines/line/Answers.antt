-- `sliding::inner::lines::line` meets its contract.
use Rattle.sliding.proofs.Diagonals.{line_is, line_none}
use Rattle.sliding.proofs.inner.lines.line.Goals as goal

pub returns-then-a-b : goal.returns-then-a-b
returns-then-a-b c = line_none c.args.a c.args.b c.if-a-b.true

pub returns : goal.returns
returns c =
    rw (c.choose-4.ensures, c.falling.ensures, c.falls.ensures, c.choose-3.ensures, c.rising.ensures, c.rises.ensures, c.choose-2.ensures, c.get_file.ensures, c.choose.ensures, c.get_rank.ensures)
    (line_is c.args.a c.args.b c.if-a-b.false)
