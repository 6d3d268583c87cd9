-- `history_reply::inner::reply` meets its contract.
use mathlib.Core.Path.{sym}
use native.Mathlib.Omega.{arith}
use lib.Seq.{length-take-le}
use Rattle.history_reply.proofs.Spoken.{no_depth, no_number, answered}
use Rattle.history_reply.proofs.inner.reply.Goals as goal

pub returns-then-j-eq0 : goal.returns-then-j-eq0
returns-then-j-eq0 c = no_depth c.args.line.now _ c.last-j.ensures c.if-j-eq0.true c.put_refused.ensures

pub returns-then-depth-gt10000 : goal.returns-then-depth-gt10000
returns-then-depth-gt10000 c = no_number c.args.line.now _ c.last-j.ensures (omega (arith, c.if-j-eq0.false)) _ c.count-depth.ensures c.if-depth-gt10000.true c.put_refused-then-depth-gt10000.ensures

pub slice_bounds-answer_with-end : goal.slice_bounds-answer_with-end
slice_bounds-answer_with-end c = sym (length-take-le _ _ (omega arith))

pub returns : goal.returns
returns c = answered c.args.line.now _ c.last-j.ensures (omega (arith, c.if-j-eq0.false)) _ _ c.count-depth.ensures c.if-depth-gt10000.false c.small.ensures c.answer_with.ensures
