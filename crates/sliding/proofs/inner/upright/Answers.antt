-- `sliding::inner::upright` meets its contract.
use Rattle.std.proofs.Common.{rules}
use lib.Bits.{bit_and}
use Rattle.sliding.specs.inner.Seen.{flipped}
use Rattle.sliding.proofs.Mirrors.{flipped_lt, seen_is}
use Rattle.sliding.proofs.inner.upright.Goals as goal

pub above-requires : goal.above-requires
above-requires c = flipped_lt c.args.sq c.requires

pub returns : goal.returns
returns c =
    rw (c.above-up.ensures, c.flip-down.ensures, c.above.ensures)
    (seen_is flipped flipped_lt c.args.sq (bit_and c.args.occ c.args.m) c.flip-turned.result c.args.m (search rules) c.flip-turned.ensures)
