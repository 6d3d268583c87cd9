-- `un_en_passant::inner::beside_reborn` meets its contract.
use Rattle.squares.specs.Tests.{◌and◌}
use Rattle.un_en_passant.specs.UnEnPassants.{beside_reborn}
use Rattle.un_en_passant.proofs.inner.beside_reborn.Goals as goal

pub returns-then-pin-on : goal.returns-then-pin-on
unfolding beside_reborn ◌and◌
returns-then-pin-on c = rw (c.line-l.ensures, c.vacant-free.ensures, c.get_rank-near.ensures, c.adjacent_files-files.ensures, rw (c.has-on.ensures, c.has-pin.ensures, c.line-l.ensures) at c.if-pin-on.true)

pub returns : goal.returns
unfolding beside_reborn ◌and◌
returns c = rw (c.vacant-free.ensures, c.get_rank-near.ensures, c.adjacent_files-files.ensures, rw (c.has-on.ensures, c.has-pin.ensures, c.line-l.ensures) at c.if-pin-on.false)
