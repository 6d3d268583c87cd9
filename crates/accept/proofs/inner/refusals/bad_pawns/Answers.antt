-- `accept::inner::refusals::bad_pawns` meets its contract.
use mathlib.Core.Path.{refl}
use Rattle.squares.specs.Tests.{◌and◌}
use Rattle.squares.specs.Squares.{has, all_to}
use Rattle.accept.proofs.Judged.{pawns_is}
use Rattle.accept.proofs.inner.refusals.bad_pawns.Goals as goal

pub returns : goal.returns
unfolding has all_to ◌and◌
returns c = pawns_is c.args.p.pieces c.args.p.colors c.requires _ refl
