use mathlib.Core.Path.{refl}
use native.Mathlib.Omega.{arith}
use Rattle.laws.specs.Boards.{men_in}
use Rattle.volume_body.proofs.Writing.{pairs_none, pairs_more, pairs_len}
use Rattle.volume_body.proofs.inner.put_pairs.Goals as goal

pub loop-j-init : goal.loop-j-init
loop-j-init c = pairs_none (men_in c.args.p) _ refl

pub push-line-requires : goal.push-line-requires
push-line-requires c = omega (arith, pairs_len _ _ c.loop-j.invariant)

pub loop-j-preserved : goal.loop-j-preserved
loop-j-preserved c = pairs_more _ _ _ c.loop-j.invariant c.pair.ensures c.push-line.ensures
