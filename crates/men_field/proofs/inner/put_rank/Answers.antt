-- `men_field::inner::put_rank` meets its contract.
use Prim.Native.Nat.{◌+◌, ◌*◌}
use native.Mathlib.Omega.{arith}
use Rattle.laws.specs.Boards.{men_at}
use Rattle.men_field.proofs.Adding.{coming_step, rank_done}
use Rattle.men_field.proofs.inner.put_rank.Goals as goal

pub loop-k-preserved : goal.loop-k-preserved
loop-k-preserved c = (coming_step c.loop-k-test.true c.loop-k.invariant.0 c.letter_at.ensures c.put_man-s.ensures, omega arith, omega arith)

pub returns : goal.returns
returns c = rank_done (men_at c.args.pieces c.args.colors) (8 * c.args.rank + 8) c.loop-k.k (omega arith) c.loop-k.invariant.0 c.flush.ensures
