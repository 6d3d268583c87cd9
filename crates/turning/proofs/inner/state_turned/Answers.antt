-- `turning::inner::state_turned` meets its contract.
use mathlib.Core.Path.{sym}
use Rattle.laws.specs.Boards.{men_in}
use Rattle.laws.proofs.Turning.{unknown_stays}
use Rattle.turning.specs.inner.Named.{square_turned}
use Rattle.turning.proofs.inner.state_turned.Goals as goal

pub square_turned-requires : goal.square_turned-requires
square_turned-requires c = let h = c.requires in (h.sound, h.named _ c.in-Some.is)

pub returns-in-Any : goal.returns-in-Any
returns-in-Any c = let p = c.args.p in rw c.in-Any.is (sym (unknown_stays p.terms.edition (men_in p) p.turn))

pub returns-in-A : goal.returns-in-A
returns-in-A c = rw (c.in-Some.is, c.in-A.is)

pub returns-in-B : goal.returns-in-B
unfolding square_turned
returns-in-B c = rw (c.in-Some.is, c.in-B.is) c.square_turned.ensures
