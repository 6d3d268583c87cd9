-- `attacks::inner::is_attacked` meets its contract.
use Rattle.laws.specs.Attacks.{attacks_from, attackers_of}
use Rattle.laws.specs.Boards.{men_at}
use Rattle.squares.proofs.Every.{some_test}
use Rattle.attacks.proofs.inner.is_attacked.Goals as goal

pub returns : goal.returns
unfolding attackers_of
returns c = rw c.attackers.ensures (some_test (attacks_from (men_at c.args.pieces c.args.colors) c.args.color c.args.sq))
