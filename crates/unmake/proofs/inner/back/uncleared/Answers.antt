-- `unmake::inner::back::uncleared` meets its contract.
use mathlib.Core.Path.{refl}
use Rattle.laws.specs.Men.{empty}
use Rattle.position.proofs.Composing.{with_own, puts}
use Rattle.unmake.proofs.inner.back.uncleared.Goals as goal

pub returns-in-Plain : goal.returns-in-Plain
returns-in-Plain c = rw c.in-Plain.is (with_own c.args.p c.requires)

pub returns-in-Passant : goal.returns-in-Passant
returns-in-Passant c = rw c.in-Passant.is (with_own c.args.p c.requires)

pub returns-in-Castle : goal.returns-in-Castle
returns-in-Castle c = rw c.in-Castle.is (puts c.args.p _ empty c.put_man.ensures c.rook_to.ensures.0 refl)
