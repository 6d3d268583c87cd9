-- `view::inner::look` meets its contract.
use Rattle.squares.specs.Tests.{◌or◌}
use Rattle.view.specs.Views.{view_of}
use Rattle.view.proofs.inner.look.Goals as goal

pub returns : goal.returns
unfolding view_of ◌or◌
returns c = rw (c.to_square-2.ensures.0, c.to_square.ensures.0, c.castling_rooks.ensures, c.among-foes.ensures, c.among-men.ensures) (rw (c.color_set-other.ensures, c.color_set-own.ensures, c.has_right-long.ensures, c.has_right-short.ensures) (rw c.other-color.ensures))
