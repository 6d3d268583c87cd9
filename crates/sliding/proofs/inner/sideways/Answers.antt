-- `sliding::inner::sideways` meets its contract.
use Rattle.std.proofs.Common.{arith, rules}
use lib.Bits.{bit_and}
use Rattle.sliding.specs.inner.Seen.{mirrored}
use Rattle.sliding.proofs.Mirrors.{seen_is}
use Rattle.sliding.proofs.inner.sideways.Goals as goal

pub returns : goal.returns
returns c =
    rw (c.above-right.ensures, c.mirror-left.ensures, c.above.ensures)
    (seen_is mirrored (λ k l. omega arith) c.args.sq (bit_and c.args.occ c.args.m) c.mirror-turned.result c.args.m (search rules) c.mirror-turned.ensures)
