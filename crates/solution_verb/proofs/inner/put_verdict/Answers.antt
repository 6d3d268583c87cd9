-- `solution_verb::inner::put_verdict` meets its contract.
use Prim.Native.Nat.{◌≤◌}
use native.Mathlib.Omega.{arith}
use lib.ListN.{length}
use Rattle.std.specs.Prelude.{Result, Ok, Err}
use Rattle.solution.specs.declared.Why.{Why}
use Rattle.solution.specs.declared.Why.TheVariants.{Position, Line, Many}
use Rattle.solution.specs.declared.Checked.{Checked}
use Rattle.solution.specs.declared.Checked.TheVariants.{Complete, Wrong, Incomplete}
use Rattle.solution_reply.specs.Replies.{verdict_text}
use Rattle.solution_verb.proofs.inner.put_verdict.Goals as goal

-- no verdict is empty
some : (t : Result Checked Why) → 1 ≤ length (verdict_text t)
some (Ok Complete) = omega arith
some (Ok (Wrong k)) = omega arith
some (Ok (Incomplete r)) = omega arith
some (Err (Position why)) = omega arith
some (Err (Line k)) = omega arith
some (Err Many) = omega arith

pub put_line-requires : goal.put_line-requires
put_line-requires c = omega (arith, some c.args.told, c.put_verdict-n.ensures.size)
