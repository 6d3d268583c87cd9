-- `replay::inner::cleared` meets its contract.
use mathlib.Core.Path.{refl}
use Rattle.laws.specs.Men.{empty}
use Rattle.position.proofs.Composing.{with_own, puts}
use Rattle.replay.proofs.inner.cleared.Goals as goal

pub behind-requires : goal.behind-requires
behind-requires c = (c.requires.1, rw c.in-Passant.is at c.requires.2)

pub returns-in-Plain : goal.returns-in-Plain
returns-in-Plain c = rw c.in-Plain.is (with_own c.args.p c.requires.0)

pub returns-in-Passant : goal.returns-in-Passant
returns-in-Passant c = rw c.in-Passant.is (puts c.args.p _ empty c.put_man.ensures c.behind.ensures.0 refl)

pub returns-in-Castle : goal.returns-in-Castle
returns-in-Castle c = rw c.in-Castle.is (puts c.args.p _ empty c.put_man-in-Castle.ensures c.rook_home.ensures.0 refl)
