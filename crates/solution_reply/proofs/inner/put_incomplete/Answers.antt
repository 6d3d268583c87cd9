-- `solution_reply::inner::put_incomplete` meets its contract.
use Rattle.output.proofs.Added.{used_adds}
use Rattle.solution_reply.proofs.Shown.{incomplete_shown}
use borrow.Author.Rules.{rules}
use Rattle.solution_reply.proofs.inner.put_incomplete.Goals as goal

pub returns : goal.returns
returns c = incomplete_shown c.args.out.now _ _ _ _ _ _ c.args.r _ (search rules) c.fields_of-fields.ensures (used_adds _ _ _ _ _ c.put_bytes.ensures _ c.unwrap_or-a.ensures) (used_adds _ _ _ _ _ c.put_bytes-2.ensures _ c.unwrap_or-f.ensures) (used_adds _ _ _ _ _ c.put_bytes-3.ensures _ c.unwrap_or.ensures)
