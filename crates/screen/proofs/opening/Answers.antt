-- `screen::opening` meets its contract.
use mathlib.Core.Path.{ap, ◌∙◌}
use native.Mathlib.Omega.{arith}
use borrow.Author.Rules.{rules}
use Rattle.words.specs.Words.{bytes_in}
use Rattle.text.proofs.Printing.{printing_tells}
use Rattle.reply.proofs.Shown.{text_short, never_room}
use Rattle.words.proofs.Chained.{ends}
use Rattle.screen.proofs.Screened.{opening_shown, refusal_shown}
use Rattle.std.specs.Prelude.{Err}
use Rattle.screen.proofs.opening.Goals as goal

pub put_board-d-requires : goal.put_board-d-requires
put_board-d-requires c =
    let b = c.args.b in
    let k = printing_tells b _ c.print-p.ensures _ c.in-Ok.is in
    omega (arith, k.size, text_short b, ends 1 c.put-a.ensures (omega arith))

pub returns-in-Ok : goal.returns-in-Ok
unfolding bytes_in
returns-in-Ok c = let b = c.args.b in opening_shown _ (search rules) b (printing_tells b _ c.print-p.ensures _ c.in-Ok.is) c.put-a.ensures c.put_board-d.ensures c.put_side-side.ensures c.put.ensures

pub returns-in-Room : goal.returns-in-Room
returns-in-Room c = let b = c.args.b in absurd (never_room b _ _ _ (search rules) (printing_tells b _ c.print-p.ensures _ (c.in-Err.is ∙ ap Err c.in-Room.is)))

pub returns-in-Refused : goal.returns-in-Refused
returns-in-Refused c = let b = c.args.b in refusal_shown _ (search rules) b _ (printing_tells b _ c.print-p.ensures _ (c.in-Err.is ∙ ap Err c.in-Refused.is)) c.put_refused.ensures
