use Rattle.laws.specs.Attacks.{alone}
use Rattle.laws.specs.Boards.{men_at}
use Rattle.squares.proofs.Unions.{Uniting}
use Rattle.pins.proofs.inner.shields.Given as goal

abbrev pub invariant-loop-a : goal.invariant-loop-a
invariant-loop-a l = Uniting (λ a. alone (men_at l.pieces l.colors) a l.q) l.from l.a-iterator.left l.r
