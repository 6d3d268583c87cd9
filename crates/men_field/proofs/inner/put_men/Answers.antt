-- `men_field::inner::put_men` meets its contract.
use mathlib.Core.Path.{refl}
use Prim.Native.Nat.{◌-◌}
use native.Mathlib.Omega.{arith}
use Rattle.laws.specs.Boards.{men_at}
use Rattle.men_field.proofs.Adding.{ranks_first, ranks_next, ranks_done, rank_short}
use Rattle.men_field.proofs.inner.put_men.Goals as goal

pub loop-rank-init : goal.loop-rank-init
loop-rank-init c = (ranks_first _ refl c.put_rank-line.ensures, omega (arith, c.put_rank-line.ensures.len, rank_short (men_at c.args.pieces c.args.colors) 7))

pub loop-rank-preserved : goal.loop-rank-preserved
loop-rank-preserved c = (
  ranks_next _ _ _ (omega arith) c.loop-rank.invariant.0 c.push.ensures c.put_rank-line-in-loop-rank.ensures,
  omega (arith, c.push.ensures.len, c.put_rank-line-in-loop-rank.ensures.len, rank_short (men_at c.args.pieces c.args.colors) (c.loop-rank.rank - 1)),
)

pub returns : goal.returns
returns c = ranks_done _ c.loop-rank.rank (omega arith) c.loop-rank.invariant.0
