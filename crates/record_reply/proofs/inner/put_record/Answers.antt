-- `record_reply::inner::put_record` meets its contract.
use mathlib.Core.Path.{ap, ◌∙◌}
use native.Mathlib.Omega.{arith}
use Rattle.output.proofs.Added.{used_adds}
use Rattle.record_reply.proofs.Shown.{record_shown, never_roomless, record_unknown}
use borrow.Author.Rules.{rules}
use Rattle.std.specs.Prelude.{Err}
use Rattle.record_reply.proofs.inner.put_record.Goals as goal

pub returns-in-Ok : goal.returns-in-Ok
returns-in-Ok c =
    let a = c.args in
    record_shown a.b a.half a.full (omega arith) (omega arith) a.out.now _ (search rules) _ c.write-w.ensures _ c.in-Ok.is _ _
    (used_adds _ _ _ _ _ c.put_bytes.ensures _ c.unwrap_or.ensures)

pub returns-in-Room : goal.returns-in-Room
returns-in-Room c =
    let a = c.args in
    absurd (never_roomless a.b a.half a.full (omega arith) (omega arith) a.out.now _ (search rules) _ c.write-w.ensures _ (c.in-Err.is ∙ ap Err c.in-Room.is))

pub returns-in-Refused : goal.returns-in-Refused
returns-in-Refused c =
    let a = c.args in
    record_unknown a.b a.half a.full (omega arith) (omega arith) a.out.now _ (search rules) _ c.write-w.ensures _ (c.in-Err.is ∙ ap Err c.in-Refused.is) _
    c.number.ensures c.put_number.ensures
