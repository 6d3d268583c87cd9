-- `records::inner::answer` meets its contract.
use native.Mathlib.Omega.{arith}
use borrow.Author.Tests.{lt-ltb, le-ltb}
use Rattle.records.proofs.inner.answer.Goals as goal

pub returns-then-full-gt10000 : goal.returns-then-full-gt10000
returns-then-full-gt10000 c = simp (le-ltb 10000 c.args.half (omega arith), lt-ltb _ _ c.if-full-gt10000.true)

pub returns-in-OutOfForm : goal.returns-in-OutOfForm
returns-in-OutOfForm c = simp (le-ltb 10000 c.args.half (omega arith), le-ltb _ _ c.if-full-gt10000.false, c.in-OutOfForm.is)

pub returns-in-InForm : goal.returns-in-InForm
returns-in-InForm c = simp (le-ltb 10000 c.args.half (omega arith), le-ltb _ _ c.if-full-gt10000.false, c.in-InForm.is, c.known.ensures, c.with_state.ensures, c.pawn_state-pawn.ensures)
