-- `un_en_passant::inner::passant` meets its contract.
use Rattle.squares.specs.Tests.{◌or◌}
use Rattle.retraction_list.specs.inner.Pushing.{pushed_all}
use Rattle.un_en_passant.specs.UnEnPassants.{passant_of}
use Rattle.un_en_passant.proofs.inner.passant.Goals as goal

pub returns-then-a-b : goal.returns-then-a-b
unfolding passant_of pushed_all ◌or◌
returns-then-a-b c = rw (rw (c.has-b.ensures, c.has-a.ensures, c.ubackward-reborn.ensures.0, c.ubackward-ahead.ensures.0, c.other-other.ensures) at c.if-a-b.true)

pub returns : goal.returns
unfolding passant_of ◌or◌
returns c = rw (c.passant_at.ensures, c.ubackward-reborn.ensures.0, rw (c.has-b.ensures, c.has-a.ensures, c.ubackward-reborn.ensures.0, c.ubackward-ahead.ensures.0, c.other-other.ensures) at c.if-a-b.false)
