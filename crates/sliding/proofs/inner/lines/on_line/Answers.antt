-- `sliding::inner::lines::on_line` meets its contract.
use Rattle.std.proofs.Common.{refl}
use Rattle.squares.specs.Tests.{◌and◌, ◌or◌}
use Rattle.geometry.specs.Lines.{straight, diagonal, same_rank, same_file}
use Rattle.geometry.specs.Steps.{slide_line}
use Rattle.sliding.proofs.Diagonals.{same_diagonal_lem}
use Rattle.sliding.proofs.inner.lines.on_line.Goals as goal

pub returns : goal.returns
unfolding slide_line straight diagonal same_rank same_file ◌and◌ ◌or◌
returns c = rw (same_diagonal_lem c.args.a c.args.b, c.rises-up.ensures, c.falls-down.ensures) refl
