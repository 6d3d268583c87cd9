-- `rows::inner::put_top` meets its contract.
use borrow.Author.Rules.{rules}
use Rattle.output.proofs.Added.{used_adds}
use Rattle.rows.proofs.Top.{squares_room, top_shown}
use Rattle.rows.proofs.inner.put_top.Goals as goal

pub put_squares-end-requires : goal.put_squares-end-requires
put_squares-end-requires c = squares_room _ _ _ _ (search rules) c.ranges.a.fits c.ranges.b.fits c.put_head-head.ensures.0 c.put_head-head.ensures.1

pub returns : goal.returns
returns c = top_shown _ _ _ _ (search rules) c.ranges.a.fits c.ranges.b.fits c.put_head-head.ensures.0 c.put_head-head.ensures.1 _ _ _ _ _ c.put_squares-end.ensures (used_adds _ _ _ _ _ c.put_bytes.ensures _ c.unwrap_or.ensures)
