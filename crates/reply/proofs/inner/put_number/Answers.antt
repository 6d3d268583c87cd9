-- `reply::inner::put_number` meets its contract.
use native.Mathlib.Omega.{arith}
use Rattle.output.proofs.Added.{used_adds}
use Rattle.reply.proofs.Shown.{refused_shown}
use borrow.Author.Rules.{rules}
use Rattle.reply.proofs.inner.put_number.Goals as goal

pub returns : goal.returns
returns c = refused_shown c.args.out.now _ _ _ _ _ _ _ _ (search rules) (omega arith) (used_adds _ _ _ _ _ c.put_bytes.ensures _ c.unwrap_or-a.ensures) c.put_decimal.ensures c.unwrap_or-d.ensures (used_adds _ _ _ _ _ c.put_bytes-2.ensures _ c.unwrap_or.ensures)
