-- `sliding::inner::mirrors::mirror` meets its contract.
use Rattle.std.proofs.Common.{refl, rules}
use Rattle.squares.specs.Tests.{◌and◌}
use Rattle.squares.specs.Squares.{has, all_to}
use Rattle.sliding.proofs.Mirrors.{halves_of, mirror_is}
use Rattle.sliding.proofs.inner.mirrors.mirror.Goals as goal

pub swap-a-requires : goal.swap-a-requires
unfolding all_to has ◌and◌
swap-a-requires c = halves_of _ _ (search rules) refl refl

pub swap-b-requires : goal.swap-b-requires
unfolding all_to has ◌and◌
swap-b-requires c = halves_of _ _ (search rules) refl refl

pub swap-c-requires : goal.swap-c-requires
unfolding all_to has ◌and◌
swap-c-requires c = halves_of _ _ (search rules) refl refl

pub returns : goal.returns
returns c = rw (c.flip.ensures, c.swap-c.ensures, c.swap-b.ensures, c.swap-a.ensures) (mirror_is c.args.s)
