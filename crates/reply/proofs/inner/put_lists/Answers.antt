-- `reply::inner::put_lists` meets its contract.
use mathlib.Core.Path.{ap}
use Rattle.position_text.specs.inner.Copies.{copied_says}
use Rattle.refusal.proofs.Writing.{tells_count, tells_room}
use Rattle.output.proofs.Added.{used_adds}
use Rattle.reply.proofs.Shown.{lists_shown, never_room}
use borrow.Author.Rules.{rules}
use Rattle.reply.proofs.inner.put_lists.Goals as goal

pub returns-in-Ok : goal.returns-in-Ok
returns-in-Ok c = lists_shown c.args.b c.args.out.now _ _ (search rules) c.requires.0 _ _ c.requires.1 c.requires.2 _ _ _ _ (tells_count c.print-p.ensures _ (ap copied_says c.in-Ok.is)) (used_adds _ _ _ _ _ c.put_bytes.ensures _ c.unwrap_or-end.ensures) (used_adds _ _ _ _ _ c.report.ensures _ c.unwrap_or.ensures)

pub returns-in-Err : goal.returns-in-Err
returns-in-Err c = absurd (never_room c.args.b c.args.out.now _ _ (search rules) (tells_room c.print-p.ensures _ (ap copied_says c.in-Err.is)))
