-- `enumerate::inner::all_but_pawns` meets its contract.
use Rattle.retraction_list.proofs.Answers.{is_full, is_held}
use Rattle.enumerate.proofs.inner.all_but_pawns.Goals as goal

pub returns-then-l : goal.returns-then-l
returns-then-l c = rw c.overfull.ensures (is_full _ (rw c.without_pawns-l.ensures at c.if-l.true))

pub returns : goal.returns
returns c = rw c.without_pawns-l.ensures (is_held _ (rw c.without_pawns-l.ensures at c.if-l.false))
