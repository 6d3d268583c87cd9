-- `sliding::inner::mirrors::flip` meets its contract.
use Rattle.std.proofs.Common.{refl, rules}
use Rattle.squares.specs.Tests.{◌and◌}
use Rattle.squares.specs.Squares.{has, all_to}
use Rattle.sliding.proofs.Mirrors.{halves_of, flip_is}
use Rattle.sliding.proofs.inner.mirrors.flip.Goals as goal

pub swap-a-requires : goal.swap-a-requires
unfolding all_to has ◌and◌
swap-a-requires c = halves_of _ _ (search rules) refl refl

pub swap-b-requires : goal.swap-b-requires
unfolding all_to has ◌and◌
swap-b-requires c = halves_of _ _ (search rules) refl refl

pub swap-requires : goal.swap-requires
unfolding all_to has ◌and◌
swap-requires c = halves_of _ _ (search rules) refl refl

pub returns : goal.returns
returns c = rw (c.swap.ensures, c.swap-b.ensures, c.swap-a.ensures) (flip_is c.args.s)
