-- `un_en_passant::inner::under_two` meets its contract.
use Rattle.un_en_passant.specs.UnEnPassants.{under_two}
use Rattle.un_en_passant.proofs.inner.under_two.Goals as goal

pub returns-then-has : goal.returns-then-has
unfolding under_two
returns-then-has c = rw (c.one_of_two.ensures, c.to_square-other.ensures.0, c.bit-own.ensures, ← c.has.ensures, c.if-has.true)

pub returns : goal.returns
unfolding under_two
returns c = rw (c.two_others.ensures, ← c.has.ensures, c.if-has.false)
