-- `history_reply::inner::put_text` meets its contract.
use mathlib.Core.Path.{ap}
use Rattle.position_text.specs.inner.Copies.{copied_says}
use Rattle.refusal.proofs.Writing.{tells_count, tells_room}
use Rattle.output.proofs.Added.{used_adds}
use Rattle.reply.proofs.Shown.{never_room}
use Rattle.history_reply.proofs.Shown.{text_shown}
use borrow.Author.Rules.{rules}
use Rattle.history_reply.proofs.inner.put_text.Goals as goal

pub returns-in-Ok : goal.returns-in-Ok
returns-in-Ok c = let a = c.args in text_shown a.b a.out.now _ _ _ _ (search rules) (tells_count c.print.ensures _ (ap copied_says c.in-Ok.is)) (used_adds _ _ _ _ _ c.put_bytes.ensures _ c.unwrap_or.ensures)

pub returns-in-Err : goal.returns-in-Err
returns-in-Err c = let a = c.args in absurd (never_room a.b a.out.now _ _ (search rules) (tells_room c.print.ensures _ (ap copied_says c.in-Err.is)))
