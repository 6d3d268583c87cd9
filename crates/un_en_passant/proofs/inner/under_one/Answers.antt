-- `un_en_passant::inner::under_one` meets its contract.
use Rattle.squares.specs.Tests.{◌and◌}
use Rattle.un_en_passant.specs.UnEnPassants.{under_one}
use Rattle.un_en_passant.proofs.inner.under_one.Goals as goal

pub returns-then-checker-src : goal.returns-then-checker-src
unfolding under_one ◌and◌
returns-then-checker-src c = rw (c.between-ray.ensures, c.to_square-checker.ensures.0, rw (c.has-blocks.ensures, c.between-ray.ensures, c.to_square-checker.ensures.0) at c.if-checker-src.true)

pub returns : goal.returns
unfolding under_one ◌and◌
returns c = rw (rw (c.has-blocks.ensures, c.between-ray.ensures, c.to_square-checker.ensures.0) at c.if-checker-src.false)
