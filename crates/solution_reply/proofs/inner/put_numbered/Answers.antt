-- `solution_reply::inner::put_numbered` meets its contract.
use native.Mathlib.Omega.{arith}
use Rattle.output.proofs.Added.{used_adds}
use Rattle.solution_reply.proofs.Shown.{numbered_shown}
use borrow.Author.Rules.{rules}
use Rattle.solution_reply.proofs.inner.put_numbered.Goals as goal

pub returns : goal.returns
returns c = numbered_shown c.args.word.now c.args.out.now _ _ _ _ _ _ _ _ c.requires (search rules) (omega arith) (used_adds _ _ _ _ _ c.put_bytes.ensures _ c.unwrap_or-a.ensures) c.put_decimal.ensures c.unwrap_or-d.ensures (used_adds _ _ _ _ _ c.put_bytes-2.ensures _ c.unwrap_or.ensures)
