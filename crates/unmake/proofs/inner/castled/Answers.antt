-- `unmake::inner::castled` meets its contract.
use Rattle.squares.specs.Tests.{◌and◌}
use Rattle.laws.specs.Boards.{men_in}
use Rattle.position.proofs.Editing.{no_man}
use Rattle.unmake.proofs.inner.castled.Goals as goal

pub returns : goal.returns
unfolding ◌and◌
returns c = rw (c.man_at-x.ensures.0, c.rook_to.ensures.0, c.man_number.ensures.0, no_man (men_in c.args.p c.rook_home.result) c.man_at-y.ensures.0, c.rook_home.ensures.0)
