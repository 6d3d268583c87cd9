-- `record_reply::put_edition` meets its contract.
use Rattle.output.proofs.Added.{used_adds}
use Rattle.record_reply.proofs.Shown.{edition_shown}
use borrow.Author.Rules.{rules}
use Rattle.record_reply.proofs.put_edition.Goals as goal

pub returns-in-A : goal.returns-in-A
returns-in-A c = edition_shown _ _ c.in-A.is c.args.out.now _ _ (search rules) (used_adds _ _ _ _ _ c.put_bytes.ensures _ c.unwrap_or.ensures)

pub returns-in-B : goal.returns-in-B
returns-in-B c = edition_shown _ _ c.in-B.is c.args.out.now _ _ (search rules) (used_adds _ _ _ _ _ c.put_bytes-in-B.ensures _ c.unwrap_or-in-B.ensures)
