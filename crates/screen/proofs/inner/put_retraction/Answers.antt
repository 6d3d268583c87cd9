-- `screen::inner::put_retraction` meets its contract.
use native.Mathlib.Omega.{arith}
use borrow.Author.Rules.{rules}
use Rattle.words.proofs.Chained.{ends}
use Rattle.words.proofs.Lengths.{words_short}
use Rattle.screen.proofs.Screened.{retraction_shown}
use Rattle.screen.proofs.inner.put_retraction.Goals as goal

pub put_words-w-requires : goal.put_words-w-requires
put_words-w-requires c = omega (arith, ends 1 c.put-a.ensures (omega arith))

pub put_board-requires : goal.put_board-requires
put_board-requires c = omega (arith, ends 1 c.put-a.ensures (omega arith), ends 101 c.put_words-w.ensures (words_short _ _ _ _ _ c.ranges.n.fits))

pub returns : goal.returns
returns c = let a = c.args in retraction_shown _ (search rules) a.b _ a.n a.r a.strict c.ranges.n.fits c.before-earlier.ensures c.put-a.ensures c.put_words-w.ensures c.put_board.ensures
